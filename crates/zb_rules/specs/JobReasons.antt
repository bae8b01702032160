-- Why what a worker says of a job is rejected (Zeebe, jobs).
use Rattle.std.specs.Prelude.{ℕ, List, ◌++◌, codes, Option, Some, None}
use Rattle.std.specs.Option.{option_map_or}
use Rattle.std.specs.Fmt.{decimal}
use Rattle.zb_model.specs.declared.record.Event.{Event}
use Rattle.zb_model.specs.declared.record.Rejection.{Rejection}
use Rattle.zb_model.specs.declared.record.RejectionKind.TheVariants as kinds
use Rattle.zb_views.specs.declared.job.JobPhase.{JobPhase}
use Rattle.zb_views.specs.declared.job.JobPhase.TheVariants as phases
use Rattle.zb_views.specs.Jobs.{job_at}

-- what is told where no job has this key
abbrev pub no_job : ℕ → List ℕ
no_job key = codes "no job " ++ decimal key

-- where the job has no try left
abbrev pub job_without_retries : ℕ → List ℕ
job_without_retries key = codes "job " ++ (decimal key ++ codes " has no retries")

-- where no worker has the job
abbrev pub job_not_activated : ℕ → List ℕ
job_not_activated key = codes "job " ++ (decimal key ++ codes " isn't activated")

-- and where its deadline lies ahead
abbrev pub job_not_due : ℕ → List ℕ
job_not_due key = codes "job " ++ (decimal key ++ codes " isn't due")

-- the rejection where there is no such job
abbrev pub unknown_job : ℕ → Rejection
unknown_job key = record { kind = kinds.NotFound; reason = no_job key }

-- a rejection by the state that a job is in, with this text
abbrev pub job_in_wrong_state : List ℕ → Rejection
job_in_wrong_state text = record { kind = kinds.InvalidState; reason = text }

-- why a worker can't end a job in a phase: it has no try left, or nobody was given it so far (own)
abbrev pub reason_in : ℕ → JobPhase → Option Rejection
reason_in key phases.Failed = Some (job_in_wrong_state (job_without_retries key))
reason_in key phases.Created = Some (job_in_wrong_state (job_not_activated key))
reason_in key phase = None

-- the rejection of a command by which a worker ends a job, if there is a reason for one; a job that timed out can be ended still (Zeebe, jobs)
abbrev pub reason_to_end : List Event → ℕ → Option Rejection
reason_to_end before key = option_map_or (λ j. reason_in key j.phase) (job_at key before) (Some (unknown_job key))
