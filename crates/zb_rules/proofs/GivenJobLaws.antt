-- A job that a worker has is found by its key, and as such.
use Rattle.std.proofs.Common.{◌≡◌, ℕ, ◌==◌, List, [], ◌∷◌, ◌++◌, zero, suc, get_or, Bool, true, false, if◌then◌else◌, IsTrue, Option, None, Some, All, Contains, refl, sym, ap, append-nil, arith}
use Rattle.std.specs.List.{find, AllPairs}
use Rattle.std.proofs.lemmas.Bool.Decides.{nat_tests}
use Rattle.std.proofs.lemmas.List.Elements.{All-nil, All-cons, All-contains}
use Rattle.std.proofs.lemmas.List.Quantifiers.{all_pairs_push}
use Rattle.zb_model.specs.declared.record.Event.{Event}
use Rattle.zb_model.specs.declared.record.Event.TheVariants as events
use Rattle.zb_views.specs.declared.job.Job.{Job}
use Rattle.zb_views.specs.declared.job.JobPhase.{JobPhase}
use Rattle.zb_views.specs.declared.job.JobPhase.TheVariants as phases
use Rattle.zb_views.specs.Standing.{left_by, begun_by}
use Rattle.zb_views.specs.Jobs.{new_job, jobs, job_told, failed_phase, job_changed, job_sort, is_activated}
use Rattle.zb_views.proofs.StandingLaws.{standing_keeps, pairs_left}

-- of two jobs with one key the first one is with a worker where the other one is, and until then
abbrev AreAlike : Job → Job → Type 0
AreAlike x y = (x.key == y.key) ≡ true → IsTrue (is_activated y.phase) → IsTrue (is_activated x.phase) × (x.deadline ≡ y.deadline)

no_worker : (retries : ℕ) → is_activated (failed_phase retries) ≡ false
no_worker retries = by_test (retries == 0)
  where
    by_test : (t : Bool) → is_activated (if t then phases.Failed else phases.Created) ≡ false
    by_test true = refl
    by_test false = refl

-- so they are as an event says
alike_changed : (e : Event) (x y : Job) → AreAlike x y → AreAlike (job_changed e x) (job_changed e y)
alike_changed e x y alike same active = by_event e active
  where
    its : x.key ≡ y.key
    its = grind (arith, nat_tests, same)

    -- where the event names the key it says of both that they are with no worker
    with_none : (phase : JobPhase) → is_activated phase ≡ false → (t : Bool) → IsTrue (is_activated (if t then phase else y.phase)) → IsTrue (is_activated (if t then phase else x.phase)) × (x.deadline ≡ y.deadline)
    with_none phase none true active = absurd (cc)
    with_none phase none false active = alike same active

    -- or that they are with one, until then
    with_one : (deadline : ℕ) (t : Bool) → IsTrue (is_activated (if t then phases.Activated else y.phase)) → IsTrue (is_activated (if t then phases.Activated else x.phase)) × ((if t then deadline else x.deadline) ≡ (if t then deadline else y.deadline))
    with_one deadline true active = (refl, refl)
    with_one deadline false active = alike same active

    by_event : (e : Event) → IsTrue (is_activated (job_changed e y).phase) → IsTrue (is_activated (job_changed e x).phase) × ((job_changed e x).deadline ≡ (job_changed e y).deadline)
    by_event (events.JobActivated a) active = rw its (with_one a.deadline (y.key == a.key) active)
    by_event (events.JobTimedOut key) active = rw its (with_none phases.TimedOut refl (y.key == key) active)
    by_event (events.JobFailed f) active = rw its (with_none (failed_phase f.retries) (no_worker f.retries) (y.key == f.key) active)
    by_event (events.IncidentResolved r) active = rw its (with_none phases.Created refl (y.key == r.job) active)
    by_event e active = alike same active

-- one that is made is with no worker
alike_made : (told : Option Job) (e : Event) (js : List Job) → job_told e ≡ told → AllPairs AreAlike js → AllPairs AreAlike (js ++ begun_by told)
alike_made None e js is alike = rw (append-nil js) alike
alike_made (Some j) e js is alike = all_pairs_push AreAlike js j alike (λ k d within same active. absurd (fresh e is active))
  where
    fresh : (e : Event) → job_told e ≡ Some j → IsTrue (is_activated j.phase) → ⊥
    fresh (events.JobCreated made) is active =
        let created : phases.Created ≡ j.phase = (let both : Some (new_job made) ≡ Some j = is in cc) in
        let none : is_activated j.phase ≡ false = ap is_activated (sym created) in
        cc
    fresh e is active = cc

all_alike : (es : List Event) → AllPairs AreAlike (jobs es)
all_alike es = standing_keeps job_sort (λ before js. AllPairs AreAlike js) (λ i j d lt within. absurd (omega arith))
    (λ before e js alike. alike_made (job_told e) e (left_by job_sort before e js) refl (pairs_left job_sort AreAlike before e js (alike_changed e) alike)) es

-- with a key such a job is found first, with this deadline
abbrev pub IsFoundGiven : List Job → (key deadline : ℕ) → Type 0
IsFoundGiven js key deadline = (j : Job) × (find (λ x. x.key == key) js ≡ Some j) × IsTrue (is_activated j.phase) × (j.deadline ≡ deadline)

abbrev IsFoundIn : List Job → Job → Type 0
IsFoundIn js j = IsTrue (is_activated j.phase) → IsFoundGiven js j.key j.deadline

each_found : (js : List Job) → AllPairs AreAlike js → All (IsFoundIn js) js
each_found [] alike = All-nil (IsFoundIn [])
each_found (x ∷ js) alike =
    let same : (x.key == x.key) ≡ true = grind (arith, nat_tests) in
    let later = each_found js (λ i j d lt within. alike (suc i) (suc j) d (omega arith) (omega arith)) in
    All-cons (IsFoundIn (x ∷ js)) x js (λ active. (x, rw same refl, active, refl))
    (λ k d within. by_test (get_or js k d) (alike zero (suc k) d (omega arith) (omega arith)) (later k d within))
  where
    by_test : (j : Job) → AreAlike x j → IsFoundIn js j → IsFoundIn (x ∷ js) j
    by_test j alike found active = by_key (x.key == j.key) refl
      where
        by_key : (t : Bool) → (x.key == j.key) ≡ t → IsFoundGiven (x ∷ js) j.key j.deadline
        by_key true same = let both = alike same active in (x, rw same refl, both.0, both.1)
        by_key false other = let later = found active in (later.0, rw other later.1, later.2, later.3)

-- a job that a worker has is found with its key as one that a worker has, with the same deadline
pub given_found : (es : List Event) (j : Job) → Contains (jobs es) j → IsTrue (is_activated j.phase) → IsFoundGiven (jobs es) j.key j.deadline
given_found es j among active = All-contains (IsFoundIn (jobs es)) (jobs es) j (each_found (jobs es) (all_alike es)) among active
