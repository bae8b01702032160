use Rattle.std.proofs.Common.{◌==◌, not, sym, subst}
use Rattle.zb_views.specs.declared.job.Job.{Job}
use Rattle.zb_jobs.specs.Table.{HaveOwnCells}
use Rattle.zb_jobs.proofs.RowLemmas.{own_kept}
use Rattle.zb_jobs.proofs.jobs.Jobs.end.Goals as goal

pub invariant_of-self : goal.invariant_of-self
invariant_of-self c =
    subst HaveOwnCells (sym c.take.ensures.left) (own_kept (λ (j : Job). not (j.key == c.args.key)) c.self.inside.rows c.self.invariant)
