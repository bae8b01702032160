use Rattle.std.proofs.Common.{is_some, refl, sym, ap, ◌∙◌}
use Rattle.std.proofs.lemmas.Iterator.Adapters.{option_map_id}
use Rattle.zb_tokens.specs.MoveTrigger.{comes_about_by}
use Rattle.zb_board.proofs.TallyLemmas.{found_any, some_mapped}
use Rattle.zb_game.specs.Searches.{comes_about_at}
use Rattle.zb_game.proofs.ReadyLemmas.{any_ready, last_any}
use Rattle.zb_game.proofs.errors.comes_about.Goals as goal

pub returns-in-Some : goal.returns-in-Some
returns-in-Some c =
    let passes = comes_about_at c.args.game.now c.args.t.now in
    let ready = c.in-Some.ready.now in
    c.is_some.ensures ∙ (ap is_some (c.last_key.ensures.key ∙ option_map_id _) ∙ (last_any passes ready
    ∙ any_ready c.args.game.now c.args.t.now ready (rw c.in-Some.is at c.ready.ensures.ascend) (rw c.in-Some.is at c.ready.ensures.awake)))

pub returns-in-None : goal.returns-in-None
returns-in-None c =
    c.is_some-in-None.ensures ∙ (sym (some_mapped _ c.first.result) ∙ (ap is_some c.first.ensures ∙ (found_any (comes_about_by c.args.game.now c.args.t.now) c.cells.result.now ∙ rw c.cells.ensures refl)))
