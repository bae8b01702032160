use Rattle.std.proofs.Common.{◌∙◌}
use Rattle.std.proofs.lemmas.Iterator.Adapters.{option_map_id}
use Rattle.zb_game.proofs.ReadyLemmas.{newest_ready}
use Rattle.zb_game.proofs.forced.newest_key.Goals as goal

pub returns-in-Some : goal.returns-in-Some
returns-in-Some c =
    let b = c.args.game.now in
    let its = c.ready.ensures in
    c.last_key.ensures.key ∙ (option_map_id _ ∙ newest_ready b c.in-Some.ready.now (rw c.in-Some.is at its.ascend) (rw c.in-Some.is at its.awake) (rw c.in-Some.is at its.ending) c.last_key.ensures.order)
