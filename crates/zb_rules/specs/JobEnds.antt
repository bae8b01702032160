-- Which events say that a job is over, and how many do (Zeebe, jobs).
use Rattle.std.specs.Prelude.{ℕ, ◌==◌, List, count_by, Bool, false, Option, Some, None}
use Rattle.std.specs.Option.{option_map_or}
use Rattle.zb_model.specs.declared.record.Event.{Event}
use Rattle.zb_model.specs.declared.record.Event.TheVariants as events

-- the job that an event says is over: it is completed or canceled, or an error is thrown in it (Zeebe, jobs)
abbrev pub job_ended : Event → Option ℕ
job_ended (events.JobCompleted key) = Some key
job_ended (events.JobCanceled key) = Some key
job_ended (events.JobErrorThrown e) = Some e.key
job_ended _ = None

-- the event says that the job with a key is over (Zeebe, jobs)
abbrev pub is_end_of : ℕ → Event → Bool
is_end_of job e = option_map_or (λ key. key == job) (job_ended e) false

-- how many of these events say that the job with a key is over (own)
abbrev pub times_ended : ℕ → List Event → ℕ
times_ended job es = count_by (is_end_of job) es
