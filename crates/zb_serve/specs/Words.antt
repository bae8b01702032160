-- The words of the command line.
use Rattle.std.specs.Prelude.{◌≡◌, ◌≤◌, ℕ, List, length}
use Rattle.zb_words.specs.Plan.{IsPlan}
use Rattle.zb_words.specs.declared.plan.Plan.TheVariants as plans
use Rattle.zb_words.specs.declared.plan.ServePlan.{ServePlan}
use Rattle.zb_words.specs.declared.fault.PlanFault.{PlanFault}
use Rattle.zb_words.specs.declared.fault.PlanFault.TheVariants as faults
use Rattle.zb_serve.specs.declared.run.Cause.{Cause}
use Rattle.zb_serve.specs.declared.run.Cause.TheVariants as causes

-- these words, one session and so many volumes can be served by this plan: a volume for each of its
-- partitions, and files for one session at most
pub record IsPlanned (given : List (List ℕ)) (sessions volumes : ℕ)
    (plan : ServePlan) : Type 0 where
  pub words : IsPlan given (plans.Serve plan)
  pub one_session : sessions ≡ 1
  pub a_volume_each : volumes ≡ plan.partitions
  pub one_pair : length plan.files ≤ 2

-- why a run ends whose words weren't read as a plan
abbrev pub words_cause_of : PlanFault → Cause
words_cause_of faults.Usage = causes.Usage
words_cause_of faults.Memory = causes.Memory
