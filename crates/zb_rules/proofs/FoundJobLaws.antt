-- What holds of a job that is found in a log whose events apply, and what an event makes of it.
use Rattle.std.proofs.Common.{◌≡◌, ℕ, ◌+◌, ◌<◌, ◌≤◌, ◌==◌, List, [], ◌∷◌, ◌++◌, Bool, true, false, Some, None, option_map, All, refl, ap, ◌∙◌, arith}
use Rattle.std.specs.List.{find}
use Rattle.std.proofs.lemmas.Bool.Decides.{nat_tests}
use Rattle.std.proofs.lemmas.List.Elements.{All-nil, All-cons, All-weaker}
use Rattle.zb_model.specs.declared.record.Event.{Event}
use Rattle.zb_table.specs.Rows.{Ascend}
use Rattle.zb_views.specs.declared.job.Job.{Job}
use Rattle.zb_views.specs.Jobs.{jobs, job_at, job_told, ends_job, is_failed, job_changed, job_sort}
use Rattle.zb_views.proofs.StandingLaws.{each_changed}
use Rattle.zb_pairs.proofs.FoundLemmas.{found_mapped}
use Rattle.zb_views.proofs.JobLaws.{jobs_more}
use Rattle.zb_views.specs.View.{greatest_among, greatest_counter, next_key}
use Rattle.zb_tokens.specs.Board.{Board}
use Rattle.zb_tokens.proofs.GameLaws.{found_holds, found_passes}
use Rattle.zb_tokens.specs.Incidents.{incident_on}
use Rattle.zb_rules.specs.Sound.{HasKeys, IsAwaited, HasNoIncident, HasSoundJobs}
use Rattle.zb_rules.proofs.NamedLaws.{counted_below}

-- a job has this key
abbrev pub is_job : ℕ → Job → Bool
is_job key j = j.key == key

-- a job among jobs whose keys ascend is the one that is found with its key, and its key is no lesser than the bound
abbrev pub IsFoundFrom : ℕ → List Job → Job → Type 0
IsFoundFrom low js j = (low ≤ j.key) × (find (is_job j.key) js ≡ Some j)

found_later : (low : ℕ) (x : Job) (js : List Job) (j : Job) → low ≤ x.key → IsFoundFrom (x.key + 1) js j → IsFoundFrom low (x ∷ js) j
found_later low x js j above found =
    let more = found.0 in
    let other : (x.key == j.key) ≡ false = grind (arith, nat_tests) in
    (omega (arith, above, more), rw other found.1)

-- each job of a list in the order of its keys is found by its key
pub each_found : (low : ℕ) (js : List Job) → Ascend (λ (j : Job). j.key) low js → All (IsFoundFrom low js) js
each_found low [] up = All-nil (IsFoundFrom low [])
each_found low (x ∷ js) up =
    let same : (x.key == x.key) ≡ true = grind (arith, nat_tests) in
    All-cons (IsFoundFrom low (x ∷ js)) x js (up.0, rw same refl)
    (All-weaker (IsFoundFrom (x.key + 1) js) (IsFoundFrom low (x ∷ js)) (λ j found. found_later low x js j up.0 found) js (each_found (x.key + 1) js up.1))

-- a job that is found has the key
pub job_key : (es : List Event) (key : ℕ) (j : Job) → job_at key es ≡ Some j → j.key ≡ key
job_key es key j found =
    let same = found_passes (is_job key) (jobs es) j found in
    grind (arith, nat_tests)

module _ (p : ℕ) (es : List Event) (b : Board) (s : HasSoundJobs p es b) (key : ℕ) (j : Job) (found : job_at key es ≡ Some j) where
  -- its key isn't 0
  pub job_above : 1 ≤ key
  job_above =
      let from = (found_holds (is_job key) (IsFoundFrom 1 (jobs es)) (jobs es) j (each_found 1 (jobs es) s.ascend) found).0.0 in
      omega (arith, from, job_key es key j found)

  -- its key was drawn
  pub job_below : key < next_key p es
  job_below =
      let less = (found_holds (is_job key) (λ (x : Job). x.key < next_key p es) (jobs es) j s.below found).0 in
      omega (arith, less, job_key es key j found)

  -- the key of a job that is there isn't behind the greatest one
  pub job_counted : HasKeys p es 1 → greatest_among p (key ∷ []) ≤ greatest_counter p es
  job_counted keys = omega (arith, counted_below p key es keys job_below)

  -- its cell waits for it
  pub job_awaited : IsAwaited b j
  job_awaited = (found_holds (is_job key) (IsAwaited b) (jobs es) j s.awaited found).0

  -- no incident stands there, unless it has no try left
  pub job_free : is_failed j.phase ≡ false → incident_on b j.cell ≡ None
  job_free tries = (found_holds (is_job key) (HasNoIncident b) (jobs es) j s.free found).0 tries

-- the job with a key after an event that makes none and ends none
pub job_at_more : (e : Event) → ((j : Job) → ends_job j.key j.cell e ≡ false) → (es : List Event) (key : ℕ) → job_told e ≡ None → job_at key (es ++ e ∷ []) ≡ option_map (job_changed e) (job_at key es)
job_at_more e lasts es key none =
    ap (find (is_job key)) (jobs_more es e ∙ each_changed job_sort es e (jobs es) none lasts) ∙ found_mapped (is_job key) (job_changed e) (jobs es) (λ j. refl)
