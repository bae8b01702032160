use Rattle.std.proofs.Common.{◌==◌, inl, inr, refl, sym, ap, ◌∙◌}
use Rattle.std.proofs.lemmas.Result.{on_ok_weaker}
use Rattle.zb_model.specs.declared.record.Event.TheVariants as events
use Rattle.zb_views.specs.Standing.{standing_by}
use Rattle.zb_views.specs.Jobs.{new_job, job_sort}
use Rattle.zb_views.proofs.StandingLaws.{all_left, one_more, some_gone, each_changed}
use Rattle.zb_views.proofs.JobLaws.{silent_of_jobs}
use Rattle.zb_jobs.proofs.jobs.Jobs.apply.Goals as goal

pub returns-then-says_nothing_of_jobs : goal.returns-then-says_nothing_of_jobs
returns-then-says_nothing_of_jobs c = λ before. sym (all_left job_sort before c.args.event.now c.args.self.now (silent_of_jobs before c.args.event.now (sym c.if-says_nothing_of_jobs.ensures)))

pub returns-in-JobCreated : goal.returns-in-JobCreated
returns-in-JobCreated c = λ before.
    let js = c.args.self.now in
    let e = c.in-JobCreated.e in
    on_ok_weaker c.add.result (λ is. is ∙ sym (ap (λ x. standing_by job_sort before x js) c.in-JobCreated.is ∙ one_more job_sort before (events.JobCreated e) js (new_job e) refl (λ j. refl) (λ j. refl))) c.add.ensures

pub returns-in-JobActivated : goal.returns-in-JobActivated
returns-in-JobActivated c = λ before.
    on_ok_weaker c.change.result (λ is. is ∙ sym (each_changed job_sort before c.args.event.now c.args.self.now (rw c.in-JobActivated.is refl) (λ j. rw c.in-JobActivated.is refl))) c.change.ensures

pub returns-in-JobTimedOut : goal.returns-in-JobTimedOut
returns-in-JobTimedOut c = λ before.
    on_ok_weaker c.change-in-JobTimedOut.result (λ is. is ∙ sym (each_changed job_sort before c.args.event.now c.args.self.now (rw c.in-JobTimedOut.is refl) (λ j. rw c.in-JobTimedOut.is refl))) c.change-in-JobTimedOut.ensures

pub returns-in-JobFailed : goal.returns-in-JobFailed
returns-in-JobFailed c = λ before.
    on_ok_weaker c.change-in-JobFailed.result (λ is. is ∙ sym (each_changed job_sort before c.args.event.now c.args.self.now (rw c.in-JobFailed.is refl) (λ j. rw c.in-JobFailed.is refl))) c.change-in-JobFailed.ensures

pub returns-in-JobRetriesUpdated : goal.returns-in-JobRetriesUpdated
returns-in-JobRetriesUpdated c = λ before.
    on_ok_weaker c.change-in-JobRetriesUpdated.result (λ is. is ∙ sym (each_changed job_sort before c.args.event.now c.args.self.now (rw c.in-JobRetriesUpdated.is refl) (λ j. rw c.in-JobRetriesUpdated.is refl))) c.change-in-JobRetriesUpdated.ensures

pub returns-in-IncidentResolved : goal.returns-in-IncidentResolved
returns-in-IncidentResolved c = λ before.
    on_ok_weaker c.change-in-IncidentResolved.result (λ is. is ∙ sym (each_changed job_sort before c.args.event.now c.args.self.now (rw c.in-IncidentResolved.is refl) (λ j. rw c.in-IncidentResolved.is refl))) c.change-in-IncidentResolved.ensures

pub returns-in-JobCompleted : goal.returns-in-JobCompleted
returns-in-JobCompleted c = λ before.
    let js = c.args.self.now in
    let key = c.in-JobCompleted.key in
    let left = c.end-in-JobCompleted.ensures.left in
    elim c.in-JobCompleted.is [
      | inl is ↦ left ∙ sym (ap (λ x. standing_by job_sort before x js) is ∙ some_gone job_sort before (events.JobCompleted key) js (λ j. j.key == key) refl (λ j. refl) (λ j. refl))
      | inr is ↦ left ∙ sym (ap (λ x. standing_by job_sort before x js) is ∙ some_gone job_sort before (events.JobCanceled key) js (λ j. j.key == key) refl (λ j. refl) (λ j. refl))
    ]

pub returns-in-JobErrorThrown : goal.returns-in-JobErrorThrown
returns-in-JobErrorThrown c = λ before.
    let js = c.args.self.now in
    let e = c.in-JobErrorThrown.e in
    c.end.ensures.left ∙ sym (ap (λ x. standing_by job_sort before x js) c.in-JobErrorThrown.is ∙ some_gone job_sort before (events.JobErrorThrown e) js (λ j. j.key == e.key) refl (λ j. refl) (λ j. refl))

pub returns-in-ElementTerminating : goal.returns-in-ElementTerminating
returns-in-ElementTerminating c = λ before.
    let js = c.args.self.now in
    let cell = c.in-ElementTerminating.cell in
    c.end_on.ensures ∙ sym (ap (λ x. standing_by job_sort before x js) c.in-ElementTerminating.is ∙ some_gone job_sort before (events.ElementTerminating cell) js (λ j. j.cell == cell) refl (λ j. refl) (λ j. refl))
