use Rattle.std.proofs.Common.{Some, ℕ, ap, ◌∙◌}
use Rattle.std.specs.Cmp.{nat_cmp_total}
use Rattle.std.specs.List.{find}
use Rattle.std.proofs.lemmas.Map.Views.{All-found}
use Rattle.zb_pairs.proofs.UnderLemmas.{kept_under}
use Rattle.zb_queue.specs.Numbers.{row_passes}
use Rattle.zb_queue.proofs.RowLemmas.{number, numbers_ascend, first_found}
use Rattle.zb_queue.proofs.numbers.first_under.Goals as goal

pub returns : goal.returns
returns g c =
    let name_in = g.R.Queued.name_in in
    let passes = g.Q.Query.passes c.args.query.now in
    let rows = c.args.rows.now in
    let up = numbers_ascend rows c.requires.order in
    let keys = kept_under number (λ (e : ℕ × _). Some (name_in e.1)) c.args.key rows.entries c.args.numbers.now up c.requires.under c.first_under_that.ensures.order in
    c.first_under_that.ensures.key ∙ (ap (find (row_passes passes rows)) keys ∙ first_found name_in c.args.key passes rows rows.entries (All-found nat_cmp_total rows c.requires.order))
