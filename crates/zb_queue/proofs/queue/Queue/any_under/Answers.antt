use Rattle.std.proofs.Common.{is_some, ap, ◌∙◌}
use Rattle.std.specs.List.{list_any}
use Rattle.zb_queue.proofs.RowLemmas.{is_under, any_first}
use Rattle.zb_queue.proofs.queue.Queue.any_under.Goals as goal

pub returns : goal.returns
returns g c =
    let fits = is_under g.R.Queued.name_in c.args.key (g.Q.Query.passes c.args.query.now) in
    c.is_some.ensures ∙ (ap is_some c.first_under.ensures ∙ (any_first fits c.self.inside.rows.entries ∙ ap (list_any fits) c.self.view_is))
