-- In a log whose events apply each job is over at most once, and is one of the log's partition.
use Rattle.std.proofs.Common.{◌≡◌, ◌⊎◌, inl, inr, ⊎_elim, ℕ, ◌+◌, ◌/◌, ◌^◌, ◌<◌, ◌≤◌, ◌==◌, List, [], ◌∷◌, ◌++◌, Bool, true, false, cond, IsTrue, Option, Some, None, All, Contains, refl, sym, ap, ◌∙◌, subst, arith}
use Rattle.std.specs.Option.{option_map_or}
use Rattle.std.proofs.lemmas.Bool.Decides.{nat_tests}
use Rattle.std.proofs.lemmas.List.Elements.{All-nil, All-cons, All-append, All-contains}
use Rattle.std.proofs.lemmas.List.Sums.{sum_by_push}
use Rattle.zb_model.specs.declared.record.Event.{Event}
use Rattle.zb_model.specs.declared.record.Event.TheVariants as events
use Rattle.zb_views.specs.declared.job.Job.{Job}
use Rattle.zb_views.specs.Jobs.{new_job, job_told, ends_job, job_sort, jobs, job_at, job_on, is_given_out}
use Rattle.zb_views.specs.Left.{left_told, left, leaves_cancel}
use Rattle.zb_views.specs.declared.left.Left.{Left}
use Rattle.zb_views.specs.declared.left.Left.TheVariants as lefts
use Rattle.zb_views.specs.Standing.{left_by, begun_by, standing_by}
use Rattle.zb_views.proofs.JobLaws.{jobs_more}
use Rattle.zb_views.proofs.StandingLaws.{each_left}
use Rattle.zb_views.proofs.ViewLaws.{left_more}
use Rattle.zb_views.specs.View.{next_key}
use Rattle.zb_tokens.specs.Board.{Board}
use Rattle.zb_tokens.proofs.GameLaws.{both_left, holds_some, none_found}
use Rattle.zb_rules.specs.Shown.{board_of}
use Rattle.zb_rules.specs.JobEvents.{is_job_in}
use Rattle.zb_rules.specs.Applies.{is_fresh, holds_own, all_apply}
use Rattle.zb_rules.specs.Sound.{HasSoundJobs}
use Rattle.zb_rules.proofs.AppliedLaws.{Advances, some_of, holds_of_all}
use Rattle.zb_rules.proofs.KeysLaws.{next_key_more, fresh_is}
use Rattle.zb_rules.proofs.IncidentsLaws.{none_where}
use Rattle.zb_rules.specs.JobEnds.{is_end_of, times_ended}
use Rattle.zb_rules.proofs.JobListLaws.{found_among, job_of_key}
use Rattle.zb_rules.proofs.SoundLaws.{BoardKeeps, keeps_on, keeps_first, board_is_there}

-- the key is one of partition p
abbrev pub IsKeyOf : ℕ → ℕ → Type 0
IsKeyOf p key = key / 2 ^ 51 ≡ p

-- the job with a key was made, and is not there any more
record IsOver (p : ℕ) (es : List Event) (key : ℕ) : Type 0 where
  gone : job_at key es ≡ None
  drawn : key < next_key p es
  home : IsKeyOf p key

-- what each event keeps: a job that was ended is over, and so is one that is called off; jobs are of the partition
record EndsWell (p : ℕ) (es : List Event) : Type 0 where
  ended : (key : ℕ) → (times_ended key es ≡ 0) ⊎ ((times_ended key es ≡ 1) × IsOver p es key)
  called : (key : ℕ) → left es ≡ lefts.Cancels key → (times_ended key es ≡ 0) × IsOver p es key
  home : All (λ (j : Job). IsKeyOf p j.key) (jobs es)

-- a fresh key is one of the partition
pub fresh_home : (p : ℕ) (before : List Event) (key : ℕ) → IsTrue (is_fresh p before key) → IsKeyOf p key
fresh_home p before key fresh = let f = fresh_is p before key fresh in let less = f.0 in let its = f.1 in omega (arith, less, its)

-- one event more
times_more : (key : ℕ) (es : List Event) (e : Event) → times_ended key (es ++ e ∷ []) ≡ times_ended key es + cond (is_end_of key e) 1 0
times_more key es e = sum_by_push (λ (x : Event). cond (is_end_of key x) 1 0) es e

module _ (p : ℕ) (before : List Event) (b : Board) (e : Event) (after : Board) (h : Advances p before b e after) (s : HasSoundJobs p before b) where
  -- the key of a job that is made is greater than those that were drawn
  made_apart : (key : ℕ) → key < next_key p before → All (λ (j : Job). (j.key == key) ≡ false) (begun_by (job_told e))
  made_apart key drawn = made_by e h.own
    where
      made_by : (x : Event) → IsTrue (holds_own p before x) → All (λ (j : Job). (j.key == key) ≡ false) (begun_by (job_told x))
      made_by (events.JobCreated made) own =
          let its = (fresh_is p before made.key (both_left (is_fresh p before made.key) _ own)).1 in
          All-cons (λ (j : Job). (j.key == key) ≡ false) (new_job made) [] (grind (arith, nat_tests, its, drawn)) (All-nil (λ (j : Job). (j.key == key) ≡ false))
      made_by x own = All-nil (λ (j : Job). (j.key == key) ≡ false)

  -- where none of those that the event leaves has the key, none has it
  gone_from : (key : ℕ) → key < next_key p before → ((j : Job) → Contains (jobs before) j → ends_job j.key j.cell e ≡ false → (j.key == key) ≡ false) → job_at key (before ++ e ∷ []) ≡ None
  gone_from key drawn each =
      let Other : Job → Type 0 = λ (j : Job). (j.key == key) ≡ false in
      let all : All Other (standing_by job_sort before e (jobs before)) = All-append Other (left_by job_sort before e (jobs before)) (begun_by (job_told e)) (each_left job_sort Other before e (jobs before) each) (made_apart key drawn) in
      none_where (λ (j : Job). j.key == key) (jobs (before ++ e ∷ [])) (subst (All Other) (sym (jobs_more before e)) all)

  -- a job that is over stays so
  over_still : (key : ℕ) → IsOver p before key → IsOver p (before ++ e ∷ []) key
  over_still key over = record {
    gone = gone_from key over.drawn (λ j among out. All-contains (λ (x : Job). (x.key == key) ≡ false) (jobs before) j (none_found (λ (x : Job). x.key == key) (λ (x : Job). (x.key == key) ≡ false) (λ x it. it) (jobs before) over.gone) among);
    drawn = omega (arith, over.drawn, next_key_more p before e);
    home = over.home;
  }

  -- one that is there, and that the event ends, is over
  over_now : (key : ℕ) (j : Job) → job_at key before ≡ Some j → ends_job j.key j.cell e ≡ true → All (λ (x : Job). IsKeyOf p x.key) (jobs before) → IsOver p (before ++ e ∷ []) key
  over_now key j found ends home =
      let r = found_among (λ (x : Job). x.key == key) (jobs before) j found in
      let its : j.key ≡ key = (let test = r.1 in grind (arith, nat_tests, test)) in
      let drawn : key < next_key p before = (let less = All-contains (λ (x : Job). x.key < next_key p before) (jobs before) j s.below r.0 in omega (arith, its, less)) in
      record {
        gone = gone_from key drawn (λ x among out. other_by x j among found ends out (x.key == key) refl);
        drawn = omega (arith, drawn, next_key_more p before e);
        home = subst (IsKeyOf p) its (All-contains (λ (x : Job). IsKeyOf p x.key) (jobs before) j home r.0);
      }
    where
      other_by : (x j : Job) → Contains (jobs before) x → job_at key before ≡ Some j → ends_job j.key j.cell e ≡ true → ends_job x.key x.cell e ≡ false → (t : Bool) → (x.key == key) ≡ t → (x.key == key) ≡ false
      other_by x j among found ends out false differs = differs
      other_by x j among found ends out true same =
          let both : Some x ≡ Some j = sym (job_of_key 1 (jobs before) key x s.ascend among (grind (arith, nat_tests))) ∙ found in
          let one : x ≡ j = cc in
          let too : ends_job x.key x.cell e ≡ true = subst (λ (y : Job). ends_job y.key y.cell e ≡ true) (sym one) ends in
          absurd (cc)

-- a job that is there was not ended
not_ended : (p : ℕ) (before : List Event) (key : ℕ) (j : Job) → EndsWell p before → job_at key before ≡ Some j → times_ended key before ≡ 0
not_ended p before key j w found = ⊎_elim (λ none. none) (λ r. absurd (let gone = r.1.gone in cc)) (w.ended key)

-- a job that is given out, and that an event ends: it was not ended before, and is over
given_out_ends : (p : ℕ) (before : List Event) (b : Board) (e : Event) (after : Board) (key : ℕ) → Advances p before b e after → HasSoundJobs p before b → EndsWell p before → IsTrue (is_job_in is_given_out key before)
    → ((j : Job) → (j.key == key) ≡ true → ends_job j.key j.cell e ≡ true) → (times_ended key before ≡ 0) × IsOver p (before ++ e ∷ []) key
given_out_ends p before b e after key h s w is ends =
    let found = some_of (job_at key before) (holds_some (λ (j : Job). is_given_out j.phase) (job_at key before) is) in
    let its = (found_among (λ (x : Job). x.key == key) (jobs before) found.0 found.1).1 in
    (not_ended p before key found.0 w found.1, over_now p before b e after h s key found.0 found.1 (ends found.0 its) w.home)

same_key : (key other : ℕ) → (key == other) ≡ true → key ≡ other
same_key key other is = grind (arith, nat_tests)

-- which job is to be canceled
cancel_is : (key : ℕ) (found : Left) → IsTrue (leaves_cancel key found) → found ≡ lefts.Cancels key
cancel_is key (lefts.Cancels job) is = ap (λ (q : ℕ). lefts.Cancels q) (same_key job key is)
cancel_is key lefts.Nothing is = absurd (cc)
cancel_is key (lefts.Deletes s) is = absurd (cc)
cancel_is key (lefts.Root begun) is = absurd (cc)

-- the job that an event says is over was not ended before, and is over
ends_now : (p : ℕ) (before : List Event) (b : Board) (e : Event) (after : Board) (key : ℕ) → Advances p before b e after → HasSoundJobs p before b → EndsWell p before → is_end_of key e ≡ true
    → (times_ended key before ≡ 0) × IsOver p (before ++ e ∷ []) key
ends_now p before b (events.JobCompleted k) after key h s w is =
    subst (λ (q : ℕ). (times_ended q before ≡ 0) × IsOver p (before ++ events.JobCompleted k ∷ []) q) (same_key k key is) (given_out_ends p before b (events.JobCompleted k) after k h s w h.own (λ j its. its))
ends_now p before b (events.JobErrorThrown t) after key h s w is =
    subst (λ (q : ℕ). (times_ended q before ≡ 0) × IsOver p (before ++ events.JobErrorThrown t ∷ []) q) (same_key t.key key is) (given_out_ends p before b (events.JobErrorThrown t) after t.key h s w h.own (λ j its. its))
ends_now p before b (events.JobCanceled k) after key h s w is =
    let r = w.called key (cancel_is k (left before) h.own ∙ ap (λ (q : ℕ). lefts.Cancels q) (same_key k key is)) in
    (r.0, over_still p before b (events.JobCanceled k) after h s key r.1)
ends_now p before b e after key h s w is = absurd (cc)

left_from : (found : Option Job) (key : ℕ) → option_map_or (λ (j : Job). lefts.Cancels j.key) found lefts.Nothing ≡ lefts.Cancels key → (j : Job) × (found ≡ Some j) × (j.key ≡ key)
left_from None key is = absurd (cc)
left_from (Some j) key is = (j, refl, cc)

-- the job that is left to be canceled was not ended, and is over
called_by : (p : ℕ) (before : List Event) (b : Board) (e : Event) (after : Board) (key : ℕ) → Advances p before b e after → HasSoundJobs p before b → EndsWell p before → left_told before e ≡ lefts.Cancels key
    → (times_ended key (before ++ e ∷ []) ≡ 0) × IsOver p (before ++ e ∷ []) key
called_by p before b (events.ElementTerminating cell) after key h s w is =
    let e = events.ElementTerminating cell in
    let r = left_from (job_on cell before) key is in
    let on = found_among (λ (x : Job). x.cell == cell) (jobs before) r.0 r.1 in
    let found = job_of_key 1 (jobs before) key r.0 s.ascend on.0 r.2 in
    (times_more key before e ∙ ap (λ (n : ℕ). n + 0) (not_ended p before key r.0 w found), over_now p before b e after h s key r.0 found on.1 w.home)
called_by p before b e after key h s w is = absurd (cc)

-- the keys of jobs are of the partition
made_home : (p : ℕ) (before : List Event) (e : Event) → IsTrue (holds_own p before e) → All (λ (j : Job). IsKeyOf p j.key) (begun_by (job_told e))
made_home p before (events.JobCreated made) own = All-cons (λ (j : Job). IsKeyOf p j.key) (new_job made) [] (fresh_home p before made.key (both_left (is_fresh p before made.key) _ own)) (All-nil (λ (j : Job). IsKeyOf p j.key))
made_home p before e own = All-nil (λ (j : Job). IsKeyOf p j.key)

-- an event that applies keeps it
ends_on : (p : ℕ) (before : List Event) (b : Board) (e : Event) (after : Board) → Advances p before b e after → HasSoundJobs p before b → EndsWell p before → EndsWell p (before ++ e ∷ [])
ends_on p before b e after h s w = record {
  ended = λ key. by_test key (is_end_of key e) refl;
  called = λ key is. called_by p before b e after key h s w (sym (left_more before e) ∙ is);
  home =
      let Home : Job → Type 0 = λ (j : Job). IsKeyOf p j.key in
      subst (All Home) (sym (jobs_more before e)) (All-append Home (left_by job_sort before e (jobs before)) (begun_by (job_told e))
      (each_left job_sort Home before e (jobs before) (λ j among out. All-contains Home (jobs before) j w.home among)) (made_home p before e h.own));
}
  where
    by_test : (key : ℕ) (t : Bool) → is_end_of key e ≡ t → (times_ended key (before ++ e ∷ []) ≡ 0) ⊎ ((times_ended key (before ++ e ∷ []) ≡ 1) × IsOver p (before ++ e ∷ []) key)
    by_test key true is =
        let r = ends_now p before b e after key h s w is in
        let none = r.0 in
        inr (times_more key before e ∙ rw (is, none) refl, r.1)
    by_test key false is =
        let same : times_ended key (before ++ e ∷ []) ≡ times_ended key before = times_more key before e ∙ rw is (omega arith) in
        ⊎_elim (λ none. inl (same ∙ none)) (λ r. inr (same ∙ r.0, over_still p before b e after h s key r.1)) (w.ended key)

ends_first : (p : ℕ) → EndsWell p []
ends_first p = record {
  ended = λ key. inl refl;
  called = λ key is. absurd (cc);
  home = All-nil (λ (j : Job). IsKeyOf p j.key);
}

-- what each event keeps of the board, and of the jobs that are over
record KeepsEnds (p : ℕ) (es : List Event) (b : Board) : Type 0 where
  board : BoardKeeps p es b
  ends : EndsWell p es

keeps_ends : (p : ℕ) (before : List Event) (b : Board) (e : Event) (after : Board) → Advances p before b e after → KeepsEnds p before b → KeepsEnds p (before ++ e ∷ []) after
keeps_ends p before b e after h k = record { board = keeps_on p before b e after h k.board; ends = ends_on p before b e after h k.board.jobs k.ends }

ends_well : (p : ℕ) (es : List Event) → IsTrue (all_apply p [] es) → EndsWell p es
ends_well p es apply =
    let found = some_of (board_of es) (board_is_there p es apply) in
    (holds_of_all p (KeepsEnds p) (keeps_ends p) es found.0 (record { board = keeps_first p; ends = ends_first p }) apply found.1).ends

-- a job is over at most once
pub ended_once : (p : ℕ) (es : List Event) (job : ℕ) → IsTrue (all_apply p [] es) → times_ended job es ≤ 1
ended_once p es job apply = ⊎_elim (λ none. omega (arith, none)) (λ r. omega (arith, r.0)) ((ends_well p es apply).ended job)

-- and one that is, is one of the partition
pub ended_home : (p : ℕ) (es : List Event) (job : ℕ) → IsTrue (all_apply p [] es) → 1 ≤ times_ended job es → job / 2 ^ 51 ≡ p
ended_home p es job apply once = ⊎_elim (λ none. absurd (omega (arith, none, once))) (λ r. r.1.home) ((ends_well p es apply).ended job)
