use Rattle.std.proofs.Common.{◌≡◌, Some, None, IsTrue, arith}
use Rattle.zb_rules.specs.Settling.{turn_of, turn_with}
use Rattle.zb_rules.specs.Sound.{HasKeys, keys_of_turn}
use Rattle.zb_state.specs.State.{partition_of}
use Rattle.zb_follow.proofs.ForcedLemmas.{is_turn, has_turn}
use Rattle.zb_follow.proofs.settling.next_turn.Goals as goal

pub returns-in-Some-clause-turn : goal.returns-in-Some-clause-turn
returns-in-Some-clause-turn c = λ es is.
    let moment = c.args.moment in
    let p = partition_of c.args.state.now in
    let b = c.args.state.now.game in
    let made = turn_with p moment c.in-Some.turn.assignments c.in-Some.turn.event es in
    let left : IsTrue c.has_keys.result = grind arith in
    let keys : HasKeys p es keys_of_turn = (c.has_keys.ensures es is).0 left in
    let turn : turn_of p moment es b c.args.mover ≡ Some made = rw c.in-Some.is at (c.in_ok-turn.ensures es b is is.game) in
    is_turn p moment es b c.args.mover made is.applied keys is.game (c.requires es b is is.game) turn

pub returns-in-None-clause-misfit : goal.returns-in-None-clause-misfit
returns-in-None-clause-misfit c = λ misfit es is.
    let p = partition_of c.args.state.now in
    let b = c.args.state.now.game in
    let none : turn_of p c.args.moment es b c.args.mover ≡ None = rw c.in-None.is at (c.in_ok-turn.ensures es b is is.game) in
    has_turn p c.args.moment es b c.args.mover is.applied is.game (c.requires es b is is.game) none
