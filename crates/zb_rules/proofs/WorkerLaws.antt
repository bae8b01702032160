-- The own events of what a worker says of a job apply, where there is no reason against it: it is completed, it has failed, an error is thrown in it, it
-- gets tries anew, or it is taken back.
use Rattle.std.proofs.Common.{◌≡◌, ℕ, ◌==◌, nat_le, List, [], ◌∷◌, ◌++◌, not, Bool, true, false, if◌then◌else◌, IsTrue, is_some, Option, Some, None, option_map, refl, sym, ap, ◌∙◌, subst, arith}
use Rattle.std.specs.Option.{option_map_or}
use Rattle.std.proofs.lemmas.Bool.Decides.{nat_tests}
use Rattle.zb_exchange_records.specs.declared.job.JobComplete.{JobComplete}
use Rattle.zb_exchange_records.specs.declared.job.JobFailure.{JobFailure}
use Rattle.zb_exchange_records.specs.declared.job.JobError.{JobError}
use Rattle.zb_exchange_records.specs.declared.job.JobRetries.{JobRetries}
use Rattle.zb_instance_records.specs.declared.happening.IncidentKind.TheVariants as kinds
use Rattle.zb_model.specs.declared.record.Event.{Event}
use Rattle.zb_model.specs.declared.record.Event.TheVariants as events
use Rattle.zb_model.specs.declared.record.Rejection.{Rejection}
use Rattle.zb_views.specs.declared.job.Job.{Job}
use Rattle.zb_views.specs.declared.job.JobPhase.{JobPhase}
use Rattle.zb_views.specs.declared.job.JobPhase.TheVariants as job_phases
use Rattle.zb_views.specs.Jobs.{job_at, is_activated, is_failed, is_given_out, job_changed}
use Rattle.zb_views.specs.View.{next_key}
use Rattle.zb_tokens.specs.declared.board.Cell.{Cell}
use Rattle.zb_tokens.specs.declared.board.Incident.{Incident}
use Rattle.zb_tokens.specs.declared.board.Mark.TheVariants as marks
use Rattle.zb_tokens.specs.declared.board.Move.TheVariants as moves
use Rattle.zb_tokens.specs.Board.{Board, cell_at}
use Rattle.zb_tokens.specs.Game.{played}
use Rattle.zb_tokens.proofs.GameLaws.{holds_some}
use Rattle.zb_tokens.specs.Incidents.{incident_on, is_stuck}
use Rattle.zb_tokens.specs.Mappings.{gives_outputs}
use Rattle.zb_tokens.specs.Marks.{awaits_work, with_mark}
use Rattle.zb_rules.specs.Shown.{board_of}
use Rattle.zb_rules.specs.Applies.{is_fresh, has_cell, applies, all_apply}
use Rattle.zb_rules.specs.JobEvents.{has_job, has_cause}
use Rattle.zb_rules.specs.JobReasons.{reason_in, reason_to_end}
use Rattle.zb_rules.specs.InFront.{assigning}
use Rattle.zb_rules.specs.Complete.{results, completed}
use Rattle.zb_rules.specs.Fail.{failure_told, failed}
use Rattle.zb_rules.specs.Throw.{thrown}
use Rattle.zb_rules.specs.Retries.{reason_to_retry, retried}
use Rattle.zb_rules.specs.TimeOut.{reason_to_keep, reason_to_time_out, timed_out}
use Rattle.zb_rules.specs.Sound.{HasKeys}
use Rattle.zb_rules.proofs.AppliedLaws.{some_of, applied_from, applied_board, board_behind}
use Rattle.zb_rules.proofs.MadeLaws.{made_holds}
use Rattle.zb_rules.proofs.ScopesLaws.{at_cell, edited_found}
use Rattle.zb_rules.proofs.PlacedLaws.{key_found}
use Rattle.zb_rules.proofs.SoundLaws.{BoardKeeps, keeps_on}
use Rattle.zb_rules.proofs.OwnLaws.{fresh_from, silent_applies, board_after}
use Rattle.zb_rules.proofs.NamedLaws.{keys_left}
use Rattle.zb_rules.proofs.UpdateLaws.{each_set}
use Rattle.zb_rules.proofs.FoundJobLaws.{job_key, job_above, job_counted, job_awaited, job_free, job_at_more}

-- the incident on the cell of a job that has failed and has no try left
abbrev stop_in : (p : ℕ) → JobFailure → List Event → (cell : ℕ) → Incident
stop_in p c es cell = record { key = next_key p es; kind = kinds.JobNoRetries; cell = cell; job = c.key; text = c.text }

-- and its event
abbrev stop_of : (p : ℕ) → JobFailure → List Event → (cell : ℕ) → Event
stop_of p c es cell = events.IncidentCreated (record { key = next_key p es; kind = kinds.JobNoRetries; cell = cell; job = c.key; text = c.text })

-- a job that a worker may end was given out
given_by : (key : ℕ) (phase : JobPhase) → reason_in key phase ≡ None → IsTrue (is_given_out phase)
given_by key job_phases.Created none = absurd (cc)
given_by key job_phases.Activated none = refl
given_by key job_phases.TimedOut none = refl
given_by key job_phases.Failed none = absurd (cc)

-- one that was given out has tries left
tries_left : (phase : JobPhase) → IsTrue (is_given_out phase) → is_failed phase ≡ false
tries_left job_phases.Created given = absurd (cc)
tries_left job_phases.Activated given = refl
tries_left job_phases.TimedOut given = refl
tries_left job_phases.Failed given = absurd (cc)

ended_by : (key : ℕ) (found : Option Job) (other : Rejection) → option_map_or (λ (j : Job). reason_in key j.phase) found (Some other) ≡ None → (j : Job) × (found ≡ Some j) × IsTrue (is_given_out j.phase)
ended_by key None other none = absurd (cc)
ended_by key (Some j) other none = (j, refl, given_by key j.phase none)

-- where there is no reason, the job is there, and was given out
pub ends_given : (es : List Event) (key : ℕ) → reason_to_end es key ≡ None → (j : Job) × (job_at key es ≡ Some j) × IsTrue (is_given_out j.phase)
ends_given es key none = ended_by key (job_at key es) _ none

-- the cell is still there as its work is done
still_there : (b after : Board) (key : ℕ) (c : Cell) → cell_at b key ≡ Some c → played b (moves.Done key) ≡ Some after → IsTrue (has_cell key after)
still_there b after key c found made = made_holds b (λ (x : Board). IsTrue (has_cell key x)) after (moves.Done key)
    (λ cells marked. ap is_some (edited_found key (with_mark marks.Done) c b.cells cells (λ x. refl) found marked)) made

module _ (p : ℕ) (es : List Event) (b : Board) (is : board_of es ≡ Some b) (k : BoardKeeps p es b) where
  -- a job that is completed: its results are set behind that
  completed_by : (c : JobComplete) (j : Job) (cell : Cell) → job_at c.key es ≡ Some j → IsTrue (is_given_out j.phase) → cell_at b j.cell ≡ Some cell → IsTrue (all_apply p es (completed c es))
  completed_by c j cell found given at =
      let e = events.JobCompleted c.key in
      let waits = job_awaited p es b k.jobs c.key j found in
      let first : IsTrue (applies p es e) = applied_from p es b e (moves.Done j.cell) is (rw (found, given) refl) (rw found refl) waits in
      let r = applied_board p es b e is first in
      let led : played b (moves.Done j.cell) ≡ Some r.0 = (let h = r.1.leads in rw found at h) in
      let set = each_set p (gives_outputs b cell) j.cell (λ x. Unit {0}) (λ x after a made h. tt) c.variables (es ++ e ∷ []) r.0 (board_behind p es b e r.0 r.1) (keeps_on p es b e r.0 r.1 k) tt
      (still_there b r.0 j.cell cell at led) in
      let its : results c es ≡ Some (record { scope = j.cell; local = gives_outputs b cell; variables = c.variables }) = rw (found, is, at) refl in
      let applied : IsTrue (all_apply p (es ++ e ∷ []) (assigning (results c es) (es ++ e ∷ []))) = rw its set.applied in
      rw (first, applied) refl

  -- the own events of a completion apply
  pub complete_applies : (c : JobComplete) → reason_to_end es c.key ≡ None → IsTrue (all_apply p es (completed c es))
  complete_applies c none =
      let r = ends_given es c.key none in
      let cell = some_of (cell_at b r.0.cell) (holds_some (awaits_work b) (cell_at b r.0.cell) (job_awaited p es b k.jobs c.key r.0 r.1)) in
      completed_by c r.0 cell.0 r.1 r.2 cell.1

  -- and so does that of an error
  pub throw_applies : (c : JobError) → reason_to_end es c.key ≡ None → IsTrue (all_apply p es (thrown c es))
  throw_applies c none =
      let r = ends_given es c.key none in
      let e = events.JobErrorThrown c in
      let found = r.1 in
      let given = r.2 in
      let first : IsTrue (applies p es e) = applied_from p es b e (moves.Throw (record { cell = r.0.cell; code = c.code })) is (rw (found, given) refl) (rw found refl) (job_awaited p es b k.jobs c.key r.0 r.1) in
      rw first refl

  -- a job that has failed, and has no try left
  module _ (c : JobFailure) (j : Job) (found : job_at c.key es ≡ Some j) (given : IsTrue (is_given_out j.phase)) (keys : HasKeys p es 1) where
    abbrev over : List Event
    over = es ++ failure_told c ∷ []

    first_applies : IsTrue (applies p es (failure_told c))
    first_applies = silent_applies p es b (failure_told c) is (rw (found, given) refl) refl

    found_over : job_at c.key over ≡ Some (job_changed (failure_told c) j)
    found_over = job_at_more (failure_told c) (λ x. refl) es c.key refl ∙ ap (option_map (job_changed (failure_told c))) found

    stop_applies : (cell : Cell) → (c.retries == 0) ≡ true → cell_at b j.cell ≡ Some cell → IsTrue (applies p over (stop_of p c over j.cell))
    stop_applies cell gone at =
        let above = job_above p es b k.jobs c.key j found in
        let itself : (c.key == 0) ≡ false = grind (arith, nat_tests) in
        let key = job_key es c.key j found in
        let same : (j.key == c.key) ≡ true = grind (arith, nat_tests) in
        let its_cell : (j.cell == j.cell) ≡ true = grind (arith, nat_tests) in
        let left = keys_left p 1 es (failure_told c) keys (job_counted p es b k.jobs c.key j found keys) in
        let fresh : IsTrue (is_fresh p over (next_key p over)) = fresh_from p over left in
        let cause : IsTrue (has_cause (record { key = next_key p over; kind = kinds.JobNoRetries; cell = j.cell; job = c.key; text = c.text }) over) = rw (found_over, itself, same, gone, its_cell) refl in
        let waits : IsTrue (awaits_work b cell) = at_cell (awaits_work b) (cell_at b j.cell) cell at (job_awaited p es b k.jobs c.key j found) in
        let free : incident_on b cell.key ≡ None = subst (λ (q : ℕ). incident_on b q ≡ None) (sym (key_found b j.cell cell at)) (job_free p es b k.jobs c.key j found (tries_left j.phase given)) in
        let stands : is_stuck b cell ≡ false = ap is_some free in
        applied_from p over b (stop_of p c over j.cell) (moves.Incident (stop_in p c over j.cell)) (board_after es b b (failure_told c) is refl)
        (rw (fresh, cause) refl) refl (rw (at, itself, waits, stands) refl)

    stopped_by : (t : Bool) → (c.retries == 0) ≡ t
        → IsTrue (all_apply p over (if t
        then option_map_or (λ (x : Job). stop_of p c over x.cell ∷ []) (job_at c.key over) []
        else []))
    stopped_by false left = refl
    stopped_by true gone =
        let cell = some_of (cell_at b j.cell) (holds_some (awaits_work b) (cell_at b j.cell) (job_awaited p es b k.jobs c.key j found)) in
        let second = stop_applies cell.0 gone cell.1 in
        rw found_over (rw second refl)

    failed_applies : IsTrue (all_apply p es (failed p c es))
    failed_applies =
        let first = first_applies in
        rw first (stopped_by (c.retries == 0) refl)

  -- the own events of a failure apply
  pub fail_applies : (c : JobFailure) → HasKeys p es 1 → reason_to_end es c.key ≡ None → IsTrue (all_apply p es (failed p c es))
  fail_applies c keys none = let r = ends_given es c.key none in failed_applies c r.0 r.1 r.2 keys

  retried_by : (zero_given there : Bool) (a z : Rejection) → (if zero_given then Some a else if not there then Some z else None) ≡ None → IsTrue there
  retried_by true there a z none = absurd (cc)
  retried_by false true a z none = refl
  retried_by false false a z none = absurd (cc)

  -- that of new tries
  pub retry_applies : (c : JobRetries) → reason_to_retry es c ≡ None → IsTrue (all_apply p es (retried c es))
  retry_applies c none =
      let e = events.JobRetriesUpdated c in
      let there = retried_by (c.retries == 0) (has_job c.key es) _ _ none in
      let first : IsTrue (applies p es e) = silent_applies p es b e is there refl in
      rw first refl

  kept_by : (active due : Bool) (a z : Rejection) → (if not active then Some a else if not due then Some z else None) ≡ None → IsTrue active
  kept_by true due a z none = refl
  kept_by false due a z none = absurd (cc)

  timed_out_by : (moment : ℕ) (found : Option Job) (other : Rejection) → option_map_or (reason_to_keep moment) found (Some other) ≡ None → IsTrue (option_map_or (λ (j : Job). is_activated j.phase) found false)
  timed_out_by moment None other none = absurd (cc)
  timed_out_by moment (Some j) other none = kept_by (is_activated j.phase) (nat_le j.deadline moment) _ _ none

  -- and that of a time-out
  pub time_out_applies : (moment key : ℕ) → reason_to_time_out es moment key ≡ None → IsTrue (all_apply p es (timed_out key es))
  time_out_applies moment key none =
      let own = timed_out_by moment (job_at key es) _ none in
      let first : IsTrue (applies p es (events.JobTimedOut key)) = silent_applies p es b (events.JobTimedOut key) is own refl in
      rw first refl
