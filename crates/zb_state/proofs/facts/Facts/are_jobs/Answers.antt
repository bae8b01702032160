use Rattle.std.proofs.Common.{ap, ◌∙◌, not}
use Rattle.zb_state.proofs.JobLemmas.{all_there}
use Rattle.zb_state.proofs.facts.Facts.are_jobs.Goals as goal

pub returns : goal.returns
returns c = λ es is. ap not c.lacks_one.ensures ∙ all_there es c.args.self.now.tables.jobs c.args.keys.now is.jobs
