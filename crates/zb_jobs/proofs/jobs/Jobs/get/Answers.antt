use Rattle.std.proofs.Common.{refl, ◌∙◌}
use Rattle.zb_jobs.proofs.jobs.Jobs.get.Goals as goal

pub returns-clause-job : goal.returns-clause-job
returns-clause-job c = c.get.ensures.row ∙ rw c.self.view_is refl
