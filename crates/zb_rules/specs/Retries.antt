-- Giving a job tries anew (Zeebe, jobs).
use Rattle.std.specs.Prelude.{◌==◌, List, codes, not, if◌then◌else◌, Option, Some, None}
use Rattle.zb_exchange_records.specs.declared.job.JobRetries.{JobRetries}
use Rattle.zb_model.specs.declared.record.Event.{Event}
use Rattle.zb_model.specs.declared.record.Event.TheVariants as events
use Rattle.zb_model.specs.declared.record.Rejection.{Rejection}
use Rattle.zb_model.specs.declared.record.RejectionKind.TheVariants as kinds
use Rattle.zb_rules.specs.JobEvents.{has_job}
use Rattle.zb_rules.specs.JobReasons.{unknown_job}
use Rattle.zb_rules.specs.Making.{Making, just}

-- the rejection of tries, if there is a reason for one: there are none, or no such job
abbrev pub reason_to_retry : List Event → JobRetries → Option Rejection
reason_to_retry before c = if c.retries == 0 then Some (record { kind = kinds.InvalidArgument; reason = codes "retries are 0" })
    else if not (has_job c.key before) then Some (unknown_job c.key)
    else None

-- the job has so many tries (Zeebe, the records)
abbrev pub retried : JobRetries → Making
retried c = just (events.JobRetriesUpdated c)
