use Rattle.std.proofs.Common.{◌≡◌, ◌++◌, ◌∷◌, [], List, refl, ap, ◌∙◌}
use Rattle.std.proofs.lemmas.Result.{on_ok_weaker}
use Rattle.zb_table.specs.Rows.{with_row}
use Rattle.zb_table.proofs.Growing.{with_last}
use Rattle.zb_views.specs.declared.timer.Timer.{Timer}
use Rattle.zb_views.specs.Timers.{timer_of}
use Rattle.zb_pairs.proofs.FoundLemmas.{none_below}
use Rattle.zb_timers.proofs.timers.Timers.add.Goals as goal

pub add-requires : goal.add-requires
add-requires c =
    rw c.in_ok-timer.ensures (none_below (λ (t : Timer). t.key) c.args.created.now.key c.self.inside.rows (rw c.self.view_is c.requires))

pub returns : goal.returns
returns c =
    let new = timer_of c.args.created.now in
    let rows = c.self.inside.rows in
    let told : with_row (λ (t : Timer). t.key) c.in_ok-timer.timer rows ≡ with_row (λ (t : Timer). t.key) new rows = rw c.in_ok-timer.ensures refl in
    on_ok_weaker c.add.result (λ is. is ∙ (told ∙ (with_last (λ (t : Timer). t.key) new rows (rw c.self.view_is c.requires) ∙ ap (λ (ts : List Timer). ts ++ new ∷ []) c.self.view_is))) c.add.ensures.ok
