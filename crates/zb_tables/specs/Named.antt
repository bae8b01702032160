-- The rows that an event names.
use Rattle.std.specs.Prelude.{ℕ, List, Option, Some, None, option_map}
use Rattle.zb_model.specs.declared.record.Event.{Event}
use Rattle.zb_model.specs.declared.record.Event.TheVariants as events
use Rattle.zb_views.specs.declared.job.Job.{Job}
use Rattle.zb_jobs.specs.Table.{job_of_cell}

-- the key of the message that an event makes or ends (own)
abbrev pub named_message : Event → Option ℕ
named_message (events.MessagePublished m) = Some m.key
named_message (events.MessageExpired key) = Some key
named_message _ = None

-- the key of the timer that an event makes or ends (own)
abbrev pub named_timer : Event → Option ℕ
named_timer (events.TimerCreated t) = Some t.key
named_timer (events.TimerTriggered key) = Some key
named_timer (events.TimerCanceled key) = Some key
named_timer _ = None

-- the key of the job that an event makes, changes or ends, where these are there (own)
abbrev pub named_job : List Job → Event → Option ℕ
named_job js (events.JobCreated e) = Some e.key
named_job js (events.JobActivated e) = Some e.key
named_job js (events.JobTimedOut key) = Some key
named_job js (events.JobCompleted key) = Some key
named_job js (events.JobCanceled key) = Some key
named_job js (events.JobFailed e) = Some e.key
named_job js (events.JobErrorThrown e) = Some e.key
named_job js (events.JobRetriesUpdated e) = Some e.key
named_job js (events.IncidentResolved e) = Some e.job
named_job js (events.ElementTerminating cell) = option_map (λ j. j.key) (job_of_cell cell js)
named_job js _ = None
