use Rattle.std.proofs.Common.{◌≡◌, Option, option_map}
use Rattle.std.proofs.lemmas.Result.{IfOk-weaker}
use Rattle.zb_tokens.specs.Mappings.{assignments_of}
use Rattle.zb_rules.specs.Shown.{board_of, event_of}
use Rattle.zb_rules.specs.Settling.{turn_of, turn_with}
use Rattle.zb_state.specs.State.{partition_of}
use Rattle.zb_state.specs.declared.turn.Turn.{Turn}
use Rattle.zb_state.proofs.StateLemmas.{same_board, turn_told, no_turn_told}
use Rattle.zb_state.proofs.state.State.turn_of.Goals as goal

pub returns-in-Some : goal.returns-in-Some
returns-in-Some c = λ es b is at.
    let moment = c.args.moment in
    let p = partition_of c.args.self.now in
    let game = c.game-game.result.now in
    let move = c.in-Some.made in
    let Made : Option Turn → Type 0 = λ turn. turn ≡ option_map (λ e. record { assignments = assignments_of game move; event = e }) (event_of game move) in
    let Told : Option Turn → Type 0 = λ turn. turn_of p moment es b c.args.mover ≡ option_map (λ t. turn_with p moment t.assignments t.event es) turn in
    IfOk-weaker c.turn_by.result Made Told (λ turn made. turn_told p moment es b game c.args.mover c.next_key.result move turn (same_board (board_of es) b game at (c.game-game.ensures es is))
    (c.next_key.ensures es is) (rw c.in-Some.is at c.in_ok-made.ensures) made) c.turn_by.ensures

pub returns-in-None : goal.returns-in-None
returns-in-None c = λ es b is at.
    let moment = c.args.moment in
    let game = c.game-game.result.now in
    no_turn_told (partition_of c.args.self.now) moment es b game c.args.mover c.next_key.result (same_board (board_of es) b game at (c.game-game.ensures es is))
    (c.next_key.ensures es is) (rw c.in-None.is at c.in_ok-made.ensures)
