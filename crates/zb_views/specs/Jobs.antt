-- The jobs of a log: queries over all its events.
use Rattle.std.specs.Prelude.{ℕ, List, Bool, true, false, ◌==◌, ◌&&◌, if◌then◌else◌, Option, Some, None, filter, take}
use Rattle.std.specs.List.{find}
use Rattle.std.specs.Str.{bytes_eq}
use Rattle.zb_exchange_records.specs.declared.job.JobCreated.{JobCreated}
use Rattle.zb_model.specs.declared.record.Event.{Event}
use Rattle.zb_model.specs.declared.record.Event.TheVariants as events
use Rattle.zb_views.specs.declared.job.Job.{Job}
use Rattle.zb_views.specs.declared.job.JobPhase.{JobPhase}
use Rattle.zb_views.specs.declared.job.JobPhase.TheVariants as phases
use Rattle.zb_views.specs.Standing.{Sort, standing}

-- a job as it is made (Zeebe, jobs)
abbrev pub new_job : JobCreated → Job
new_job e = record { key = e.key; cell = e.cell; kind = e.kind; retries = e.retries; phase = phases.Created; deadline = 0 }

-- the job that an event makes
abbrev pub job_told : Event → Option Job
job_told (events.JobCreated e) = Some (new_job e)
job_told _ = None

-- an event ends the job with a key on a cell: it is completed or canceled, an error is thrown in it, or its cell begins to terminate (Zeebe, jobs)
abbrev pub ends_job : (job cell : ℕ) → Event → Bool
ends_job job cell (events.JobCompleted key) = job == key
ends_job job cell (events.JobCanceled key) = job == key
ends_job job cell (events.JobErrorThrown e) = job == e.key
ends_job job cell (events.ElementTerminating key) = cell == key
ends_job job cell _ = false

-- in which phase a job is that failed with so many tries left (Zeebe, jobs)
abbrev pub failed_phase : ℕ → JobPhase
failed_phase retries = if retries == 0 then phases.Failed else phases.Created

-- what an event says of a job, where it names the one with this key; else what held
abbrev pub said_of : {A : Type 0} → (job key : ℕ) → (said held : A) → A
said_of job key said held = if job == key then said else held

-- the phase of a job behind an event (Zeebe, jobs)
abbrev pub phase_by : Event → Job → JobPhase
phase_by (events.JobActivated e) j = said_of j.key e.key phases.Activated j.phase
phase_by (events.JobTimedOut key) j = said_of j.key key phases.TimedOut j.phase
phase_by (events.JobFailed e) j = said_of j.key e.key (failed_phase e.retries) j.phase
phase_by (events.IncidentResolved e) j = said_of j.key e.job phases.Created j.phase
phase_by _ j = j.phase

-- how many tries a job has left behind an event (Zeebe, jobs)
abbrev pub retries_by : Event → Job → ℕ
retries_by (events.JobFailed e) j = said_of j.key e.key e.retries j.retries
retries_by (events.JobRetriesUpdated e) j = said_of j.key e.key e.retries j.retries
retries_by _ j = j.retries

-- until when a worker has a job, or had it last, behind an event (Zeebe, jobs)
abbrev pub deadline_by : Event → Job → ℕ
deadline_by (events.JobActivated e) j = said_of j.key e.key e.deadline j.deadline
deadline_by _ j = j.deadline

-- a job as an event says (Zeebe, jobs)
abbrev pub job_changed : Event → Job → Job
job_changed e j = record j { retries = retries_by e j; phase = phase_by e j; deadline = deadline_by e j }

-- jobs are made, change and end (Zeebe, jobs)
abbrev pub job_sort : Sort Job
job_sort = record {
  told = λ before e. job_told e;
  ends = λ before e j. ends_job j.key j.cell e;
  says = λ before e j. job_changed e j;
}

-- the jobs that are there: those that were made and that nothing has ended after, in the order in which they were made (Zeebe, jobs)
abbrev pub jobs : List Event → List Job
jobs es = standing job_sort es

-- the job with a key
abbrev pub job_at : ℕ → List Event → Option Job
job_at key es = find (λ j. j.key == key) (jobs es)

-- the job of the cell with a key
abbrev pub job_on : ℕ → List Event → Option Job
job_on cell es = find (λ j. j.cell == cell) (jobs es)

-- in such a phase a worker may be given a job (Zeebe, jobs)
abbrev pub is_activatable : JobPhase → Bool
is_activatable phases.Created = true
is_activatable phases.TimedOut = true
is_activatable phase = false

-- in such a phase a worker has a job, or had it last (Zeebe, jobs)
abbrev pub is_given_out : JobPhase → Bool
is_given_out phases.Activated = true
is_given_out phases.TimedOut = true
is_given_out phase = false

-- a worker has the job
abbrev pub is_activated : JobPhase → Bool
is_activated phases.Activated = true
is_activated phase = false

-- the job has no try left
abbrev pub is_failed : JobPhase → Bool
is_failed phases.Failed = true
is_failed phase = false

-- a worker that asks for this type may be given the job (Zeebe, jobs)
abbrev pub is_offered : List ℕ → Job → Bool
is_offered kind j = is_activatable j.phase && bytes_eq j.kind kind

-- the jobs of a type that a worker is given, at most so many: those that were made first, which have the least keys (Zeebe, jobs)
abbrev pub offered : List ℕ → ℕ → List Event → List Job
offered kind most es = take most (filter (is_offered kind) (jobs es))

-- an event makes no job, ends none and changes none (own)
abbrev pub says_nothing_of_jobs : Event → Bool
says_nothing_of_jobs (events.JobCreated e) = false
says_nothing_of_jobs (events.JobActivated e) = false
says_nothing_of_jobs (events.JobTimedOut key) = false
says_nothing_of_jobs (events.JobCompleted key) = false
says_nothing_of_jobs (events.JobCanceled key) = false
says_nothing_of_jobs (events.JobFailed e) = false
says_nothing_of_jobs (events.JobErrorThrown e) = false
says_nothing_of_jobs (events.JobRetriesUpdated e) = false
says_nothing_of_jobs (events.ElementTerminating key) = false
says_nothing_of_jobs (events.IncidentResolved e) = false
says_nothing_of_jobs _ = true
