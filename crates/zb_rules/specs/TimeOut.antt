-- A job is taken back from the worker that had it until now (Zeebe, job timeout).
use Rattle.std.specs.Prelude.{ℕ, nat_le, List, not, if◌then◌else◌, Option, Some, None}
use Rattle.std.specs.Option.{option_map_or}
use Rattle.zb_model.specs.declared.record.Event.{Event}
use Rattle.zb_model.specs.declared.record.Event.TheVariants as events
use Rattle.zb_model.specs.declared.record.Rejection.{Rejection}
use Rattle.zb_views.specs.declared.job.Job.{Job}
use Rattle.zb_views.specs.Jobs.{job_at, is_activated}
use Rattle.zb_rules.specs.JobReasons.{unknown_job, job_in_wrong_state, job_not_activated, job_not_due}
use Rattle.zb_rules.specs.Making.{Making, just}

-- why a job isn't taken back: no worker has it, or its deadline lies ahead
abbrev pub reason_to_keep : ℕ → Job → Option Rejection
reason_to_keep moment j = if not (is_activated j.phase) then Some (job_in_wrong_state (job_not_activated j.key))
    else if not (nat_le j.deadline moment) then Some (job_in_wrong_state (job_not_due j.key))
    else None

-- the rejection of a time-out, if there is a reason for one
abbrev pub reason_to_time_out : List Event → ℕ → ℕ → Option Rejection
reason_to_time_out before moment key = option_map_or (reason_to_keep moment) (job_at key before) (Some (unknown_job key))

-- another worker may be given the job (Zeebe, the records)
abbrev pub timed_out : ℕ → Making
timed_out key = just (events.JobTimedOut key)
