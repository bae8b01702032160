-- Laws of the jobs as a log grows by an event.
use Rattle.std.proofs.Common.{◌≡◌, List, ◌∷◌, ◌++◌, [], true, refl}
use Rattle.zb_model.specs.declared.record.Event.{Event}
use Rattle.zb_model.specs.declared.record.Event.TheVariants as events
use Rattle.zb_views.specs.Jobs.{job_sort, jobs, says_nothing_of_jobs}
use Rattle.zb_views.specs.Standing.{standing_by}
use Rattle.zb_views.proofs.StandingLaws.{IsSilent, standing_more, standing_kept}

-- what one event more makes of the jobs
pub jobs_more : (es : List Event) (e : Event) → jobs (es ++ e ∷ []) ≡ standing_by job_sort es e (jobs es)
jobs_more es e = standing_more job_sort es e

-- an event that says nothing of jobs
pub silent_of_jobs : (before : List Event) (e : Event) → says_nothing_of_jobs e ≡ true → IsSilent job_sort before e
silent_of_jobs before (events.JobCreated x) is = absurd (cc)
silent_of_jobs before (events.JobActivated x) is = absurd (cc)
silent_of_jobs before (events.JobTimedOut key) is = absurd (cc)
silent_of_jobs before (events.JobCompleted key) is = absurd (cc)
silent_of_jobs before (events.JobCanceled key) is = absurd (cc)
silent_of_jobs before (events.JobFailed x) is = absurd (cc)
silent_of_jobs before (events.JobErrorThrown x) is = absurd (cc)
silent_of_jobs before (events.JobRetriesUpdated x) is = absurd (cc)
silent_of_jobs before (events.ElementTerminating key) is = absurd (cc)
silent_of_jobs before (events.IncidentResolved x) is = absurd (cc)
silent_of_jobs before e is = (refl, λ j. refl, λ j. refl)

-- leaves them
pub jobs_kept : (es : List Event) (e : Event) → says_nothing_of_jobs e ≡ true → jobs (es ++ e ∷ []) ≡ jobs es
jobs_kept es e is = standing_kept job_sort es e (silent_of_jobs es e is)
