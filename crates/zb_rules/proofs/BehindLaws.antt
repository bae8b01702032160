-- The events behind an event apply; an incident that stands may be resolved.
use Rattle.std.proofs.Common.{◌≡◌, ℕ, ◌<◌, ◌==◌, List, [], ◌∷◌, ◌++◌, length, ◌+◌, ◌≤◌, Bool, true, false, if◌then◌else◌, IsTrue, is_some, All, Option, Some, None, option_and_then, Result, Ok, Err, refl, sym, ap, subst, append-nil, append_assoc, ◌∙◌, arith}
use Rattle.std.specs.Option.{option_map_or}
use Rattle.std.proofs.lemmas.Bool.Decides.{nat_tests}
use Rattle.std.specs.List.{AllPairs}
use Rattle.zb_model.specs.declared.record.Event.{Event}
use Rattle.zb_model.specs.declared.record.Event.TheVariants as events
use Rattle.zb_model.specs.declared.record.RejectionKind.TheVariants as kinds
use Rattle.zb_tokens.specs.declared.board.Incident.{Incident}
use Rattle.zb_tokens.specs.declared.board.Move.TheVariants as moves
use Rattle.zb_tokens.specs.declared.board.Awaited.{Awaited}
use Rattle.zb_tokens.specs.declared.board.Awaited.TheVariants as awaiteds
use Rattle.zb_tokens.specs.declared.board.Cell.{Cell}
use Rattle.zb_tokens.specs.declared.board.Opening.{Opening}
use Rattle.zb_tokens.specs.declared.board.Phase.TheVariants as phases
use Rattle.zb_tokens.specs.Bodies.{run_variables_of, run_variables_at}
use Rattle.zb_tokens.specs.Catches.{may_open_at, openings_of, openings_at}
use Rattle.zb_tokens.proofs.EffectLaws.{incidents_stay}
use Rattle.zb_tokens.specs.Game.{fits, played}
use Rattle.zb_tokens.specs.MoveTrigger.{is_interrupting}
use Rattle.zb_process.specs.declared.model.Model.{Model}
use Rattle.zb_instance_records.specs.declared.happening.TimerCreated.{TimerCreated}
use Rattle.zb_exchange_records.specs.declared.subscription.ProcessMessageSubscriptionCreating.{ProcessMessageSubscriptionCreating}
use Rattle.zb_faults.specs.Faults.{is_well_formed, most_nodes}
use Rattle.zb_table.specs.Rows.{Ascend}
use Rattle.zb_views.specs.declared.timer.Timer.{Timer}
use Rattle.zb_views.specs.Timers.{timers, says_nothing_of_timers}
use Rattle.zb_views.proofs.TimerLaws.{timers_kept}
use Rattle.std.specs.Result.{result_unwrap_or}
use Rattle.std.proofs.lemmas.List.Elements.{All-head, All-tail, All-weaker}
use Rattle.zb_tokens.specs.Board.{Board, cell_at, model_under, is_phase}
use Rattle.zb_tokens.specs.Incidents.{Hindrance, incident_at, incident_on}
use Rattle.zb_tokens.proofs.GameLaws.{both_left, found_passes}
use Rattle.zb_tokens.specs.Work.{work_at, may_have_job, is_cause_of}
use Rattle.zb_views.specs.declared.job.Job.{Job}
use Rattle.zb_views.specs.Jobs.{job_on}
use Rattle.zb_views.specs.ProcessSubscriptions.{process_subscriptions, process_subscription_at, is_being_deleted}
use Rattle.zb_views.specs.declared.process_subscription.ProcessSubscription.{ProcessSubscription}
use Rattle.zb_views.specs.Left.{left}
use Rattle.zb_views.specs.declared.left.Left.TheVariants as lefts
use Rattle.zb_views.proofs.ViewLaws.{left_more}
use Rattle.zb_views.specs.View.{counter_at, greatest_counter, next_key}
use Rattle.zb_views.proofs.ViewLaws.{greatest_counter_more}
use Rattle.zb_process.specs.declared.model.Node.{Node}
use Rattle.zb_rules.specs.JobEvents.{begins_job}
use Rattle.zb_rules.specs.Shown.{board_of}
use Rattle.zb_rules.specs.Applies.{is_fresh, holds_own, holds_of_game, applies, all_apply}
use Rattle.zb_rules.proofs.SoundLaws.{BoardKeeps}
use Rattle.zb_rules.proofs.StartLaws.{restart_applies}
use Rattle.zb_rules.proofs.UpdateLaws.{each_set}
use Rattle.zb_rules.proofs.StepLaws.{all_apply_on}
use Rattle.zb_rules.proofs.OwnLaws.{fresh_from, next_counted, one_more, silent_applies, board_after}
use Rattle.zb_rules.specs.Making.{and_then, each_made}
use Rattle.zb_rules.specs.Behind.{repair_event, resolved_on, job_of, job_made_on, job_canceled_on, opened_by, catch_opened, catches_opened_on, timers_canceled_on, closing_of, closed_one, subscriptions_on, subscriptions_closed_on, catches_closed_on, ended_on, halted_on, run_set_on, events_behind}
use Rattle.zb_rules.specs.Update.{set_each}
use Rattle.zb_rules.specs.TimerEvents.{may_open}
use Rattle.zb_rules.specs.WaitEvents.{may_subscribe}
use Rattle.zb_rules.proofs.OpeningsLaws.{catch_of, openings_may}
use Rattle.zb_rules.proofs.TimerSoundLaws.{HasSoundTimers, canceled_on_apply}
use Rattle.zb_rules.proofs.KeysLaws.{next_key_more}
use Rattle.zb_rules.specs.Sound.{StandApart, HasKeys, keys_of_turn}
use Rattle.zb_rules.proofs.IncidentsLaws.{found_again}
use Rattle.zb_rules.specs.Resolve.{no_incident, incident_in, reason_to_leave, reason_to_resolve, resolved}
use Rattle.zb_rules.proofs.AppliedLaws.{game_holds_from, applied_from, applied_board, board_behind}

module _ (p : ℕ) (es : List Event) (b : Board) (is : board_of es ≡ Some b) where
  -- an incident that stands may be resolved
  incident_goes : (i : Incident) → incident_at b i.key ≡ Some i → IsTrue (all_apply p es (repair_event i ∷ []))
  incident_goes i stands =
      let same : (i.job == i.job) ≡ true = grind (arith, nat_tests) in
      let own : IsTrue (holds_own p es (repair_event i)) = game_holds_from (is_cause_of i.job i.key) es b is (rw (stands, same) refl) in
      let first : IsTrue (applies p es (repair_event i)) = applied_from p es b (repair_event i) (moves.Repair i.key) is own refl (rw stands refl) in
      rw first refl

  found_goes : (key : ℕ) (found : Option Incident) → incident_at b key ≡ found → option_map_or (reason_to_leave es) found (Some (record { kind = kinds.NotFound; reason = no_incident key })) ≡ None
      → IsTrue (all_apply p es (option_map_or (λ i. repair_event i ∷ []) found []))
  found_goes key None at none = absurd (cc)
  found_goes key (Some i) at none =
      let its : (i.key == key) ≡ true = found_passes (λ (x : Incident). x.key == key) b.incidents i at in
      let same : i.key ≡ key = grind (arith, nat_tests, its) in
      incident_goes i (subst (λ (k : ℕ). incident_at b k ≡ Some i) (sym same) at)

  -- the own event of a command to resolve applies
  pub resolve_applies : (key : ℕ) → reason_to_resolve es key ≡ None → IsTrue (all_apply p es (resolved key es))
  resolve_applies key none =
      let its : incident_in key es ≡ incident_at b key = ap (option_and_then (λ (x : Board). incident_at x key)) is in
      rw its (found_goes key (incident_at b key) refl (rw its at none))

  on_cell : (cell : ℕ) (found : Option Incident) → AllPairs StandApart b.incidents → incident_on b cell ≡ found → IsTrue (all_apply p es (option_map_or (λ i. repair_event i ∷ []) found []))
  on_cell cell None apart at = refl
  on_cell cell (Some i) apart at = incident_goes i (found_again cell i b.incidents apart at)

  -- what resolves the incident on a cell applies
  pub resolved_apply : (cell : ℕ) → AllPairs StandApart b.incidents → IsTrue (all_apply p es (resolved_on cell es))
  resolved_apply cell apart = subst (λ (o : Option Board). IsTrue (all_apply p es (option_map_or (λ i. repair_event i ∷ []) (option_and_then (λ x. incident_on x cell) o) []))) (sym is)
      (on_cell cell (incident_on b cell) apart refl)

-- a cell may get the job that its node asks for, and what it waits for may open: keys are left, and where there is work the cell waits for it, and has no job; it is
-- active, of a model without faults, under a key that was drawn (BPMN 2.0.2, 13.3.3 and 13.5.3; Zeebe, jobs)
pub record MayHaveWork (p : ℕ) (es : List Event) (b : Board) (cell : ℕ) : Type 0 where
  pub keys : HasKeys p es keys_of_turn
  pub counted : counter_at p cell ≤ greatest_counter p es
  pub waits : IsTrue (is_some (work_at b cell)) → IsTrue (may_have_job cell b)
  pub none : job_on cell es ≡ None
  pub runs : (c : Cell) → cell_at b cell ≡ Some c → IsTrue (is_phase c.phase phases.Active) × ((m : Model) → model_under b c.definition ≡ Some m → IsTrue (is_well_formed m))

-- a boundary event may end its cell: where it interrupts that, the cell may begin to terminate (BPMN 2.0.2, 10.5.4)
pub record MayInterrupt (p : ℕ) (es : List Event) (b : Board) (cell : ℕ) (node : List ℕ) : Type 0 where
  pub halts : IsTrue (is_interrupting cell node b) → IsTrue (fits b (moves.Halt cell))
  pub apart : AllPairs StandApart b.incidents
  pub timed : HasSoundTimers p es

-- what the events behind an event ask of those before them, and of their board
abbrev pub MayRestart : ℕ → List Event → Type 0
MayRestart p es = IsTrue (all_apply p [] es) × HasKeys p es 1

abbrev pub MayFollow : ℕ → List Event → Board → Event → Type 0
MayFollow p es b (events.ElementActivating e) = BoardKeeps p es b
MayFollow p es b (events.ElementActivated e) = MayHaveWork p es b e.key
MayFollow p es b (events.ElementCompleting key) = HasSoundTimers p es
MayFollow p es b (events.ElementTerminating key) = AllPairs StandApart b.incidents × HasSoundTimers p es
MayFollow p es b (events.ProcessEventTriggered e) = MayInterrupt p es b e.cell e.node
MayFollow p es b (events.ElementCompleted e) = MayRestart p es
MayFollow p es b (events.ElementTerminated key) = MayRestart p es
MayFollow p es b e = Unit {0}

module _ (p : ℕ) (es : List Event) (b : Board) (is : board_of es ≡ Some b) where
  -- the job of a cell is made
  work_goes : (cell : ℕ) (found : Option Node) → work_at b cell ≡ found → MayHaveWork p es b cell → IsTrue (all_apply p es (option_map_or (λ n. job_of p cell n es) found []))
  work_goes cell None at w = refl
  work_goes cell (Some n) at w =
      let keys = w.keys in
      let fresh : IsTrue (is_fresh p es (next_key p es)) = fresh_from p es (omega (arith, keys)) in
      let waits : IsTrue (holds_of_game (may_have_job cell) es) = game_holds_from (may_have_job cell) es b is (w.waits (rw at refl)) in
      let none = w.none in
      let begins : IsTrue (begins_job cell es) = rw (waits, none) refl in
      let first : IsTrue (applies p es (events.JobCreated (record { key = next_key p es; cell = cell; kind = n.name; retries = n.retries }))) =
      silent_applies p es b (events.JobCreated (record { key = next_key p es; cell = cell; kind = n.name; retries = n.retries })) is (rw (fresh, begins) refl) refl in
      rw first refl

  openings_are : (moment cell : ℕ) → catches_opened_on p moment cell es ≡ each_made (catch_opened p cell) (openings_at b moment cell) es
  openings_are moment cell = ap (λ (o : Option Board). each_made (catch_opened p cell) (option_map_or (λ x. openings_at x moment cell) o []) es) is

-- at the node of what opens for a cell it waits for that
abbrev MayOpen : Board → ℕ → Opening → Type 0
MayOpen b cell o = IsTrue (may_open_at (catch_of o.event) cell o.node b)

-- the event by which something may open applies under a fresh key, draws that key, and leaves the board
record IsOpened (p : ℕ) (es : List Event) (b : Board) (e : Event) : Type 0 where
  applied : IsTrue (applies p es e)
  still : board_of (es ++ e ∷ []) ≡ Some b
  more : (count : ℕ) → HasKeys p es (count + 1) → HasKeys p (es ++ e ∷ []) count

one_opened : (p cell : ℕ) (b : Board) (node : List ℕ) (event : Awaited) (es : List Event) → board_of es ≡ Some b → IsTrue (may_open_at (catch_of event) cell node b) → HasKeys p es 1
    → counter_at p cell ≤ greatest_counter p es → IsOpened p es b (opened_by (next_key p es) cell node event)
one_opened p cell b node (awaiteds.Time due) es is may one counted =
    let key = next_key p es in
    let c : TimerCreated = record { key = key; cell = cell; node = node; due = due } in
    let fresh : IsTrue (is_fresh p es key) = fresh_from p es one in
    let opens : IsTrue (holds_of_game (may_open c) es) = game_holds_from (may_open c) es b is may in
    let drawn : counter_at p key ≡ greatest_counter p es + 1 = next_counted p es one in
    record {
      applied = silent_applies p es b (events.TimerCreated c) is (rw (fresh, opens) refl) refl;
      still = board_after es b b (events.TimerCreated c) is refl;
      more = λ count keys. one_more p es (events.TimerCreated c) count keys (omega (arith, counted, drawn));
    }
one_opened p cell b node (awaiteds.Message m) es is may one counted =
    let key = next_key p es in
    let c : ProcessMessageSubscriptionCreating = record { subscription = key; cell = cell; node = node; name = m.name; correlation_key = m.correlation_key; process = m.process; cancel = m.cancel } in
    let fresh : IsTrue (is_fresh p es key) = fresh_from p es one in
    let opens : IsTrue (holds_of_game (may_subscribe c) es) = game_holds_from (may_subscribe c) es b is may in
    let drawn : counter_at p key ≡ greatest_counter p es + 1 = next_counted p es one in
    record {
      applied = silent_applies p es b (events.ProcessMessageSubscriptionCreating c) is (rw (fresh, opens) refl) refl;
      still = board_after es b b (events.ProcessMessageSubscriptionCreating c) is refl;
      more = λ count keys. one_more p es (events.ProcessMessageSubscriptionCreating c) count keys (omega (arith, counted, drawn));
    }

-- what may open does, one after the other, where there are keys for it
each_opened : (p cell : ℕ) (b : Board) (os : List Opening) (es : List Event) → board_of es ≡ Some b → All (MayOpen b cell) os → HasKeys p es (length os)
    → counter_at p cell ≤ greatest_counter p es → IsTrue (all_apply p es (each_made (catch_opened p cell) os es))
each_opened p cell b [] es is may keys counted = refl
each_opened p cell b (o ∷ os) es is may keys counted =
    let e = opened_by (next_key p es) cell o.node o.event in
    let r = one_opened p cell b o.node o.event es is (All-head (MayOpen b cell) o os may) (omega (arith, keys)) counted in
    let first = r.applied in
    let grown = greatest_counter_more p es (e ∷ []) in
    let rest = each_opened p cell b os (es ++ e ∷ []) r.still (All-tail (MayOpen b cell) o os may) (r.more (length os) (omega (arith, keys))) (omega (arith, counted, grown)) in
    rw first rest

module _ (p : ℕ) (es : List Event) (b : Board) (is : board_of es ≡ Some b) (moment cell : ℕ) (keys : HasKeys p es (most_nodes + 1)) (counted : counter_at p cell ≤ greatest_counter p es) where
  openings_go : (c : Cell) (opened : Result (List Opening) Hindrance) → cell_at b cell ≡ Some c → IsTrue (is_phase c.phase phases.Active) → ((m : Model) → model_under b c.definition ≡ Some m → IsTrue (is_well_formed m)) → openings_of b moment c ≡ opened
      → IsTrue (all_apply p es (each_made (catch_opened p cell) (result_unwrap_or opened []) es))
  openings_go c (Err hindrance) found active formed gives = refl
  openings_go c (Ok os) found active formed gives =
      let r = openings_may b moment c formed os gives in
      let few = r.1 in
      each_opened p cell b os es is (λ k d within. rw (found, active) (r.0 k d within)) (omega (arith, keys, few)) counted

  cell_goes : (at : Option Cell) → cell_at b cell ≡ at → ((c : Cell) → at ≡ Some c → IsTrue (is_phase c.phase phases.Active) × ((m : Model) → model_under b c.definition ≡ Some m → IsTrue (is_well_formed m)))
      → IsTrue (all_apply p es (each_made (catch_opened p cell) (option_map_or (λ c. result_unwrap_or (openings_of b moment c) []) at []) es))
  cell_goes None found runs = refl
  cell_goes (Some c) found runs = let r = runs c refl in openings_go c (openings_of b moment c) found r.0 r.1 refl

  -- what a cell waits for opens
  catches_apply : ((c : Cell) → cell_at b cell ≡ Some c → IsTrue (is_phase c.phase phases.Active) × ((m : Model) → model_under b c.definition ≡ Some m → IsTrue (is_well_formed m))) → IsTrue (all_apply p es (catches_opened_on p moment cell es))
  catches_apply runs = subst (λ (made : List Event). IsTrue (all_apply p es made)) (sym (openings_are p es b is moment cell)) (cell_goes (cell_at b cell) refl runs)

-- the job of a cell that has become active is made, and what it waits for opens
module _ (p : ℕ) (es : List Event) (b : Board) (is : board_of es ≡ Some b) (moment cell : ℕ) (w : MayHaveWork p es b cell) where
  both_by : (found : Option Node) → work_at b cell ≡ found → IsTrue (all_apply p es (and_then (λ before. option_map_or (λ n. job_of p cell n before) found []) (catches_opened_on p moment cell) es))
  both_by None at =
      let keys = w.keys in
      subst (λ (over : List Event). IsTrue (all_apply p es (catches_opened_on p moment cell over))) (sym (append-nil es)) (catches_apply p es b is moment cell (omega (arith, keys)) w.counted w.runs)
  both_by (Some n) at =
      let key = next_key p es in
      let e : Event = events.JobCreated (record { key = key; cell = cell; kind = n.name; retries = n.retries }) in
      let job : IsTrue (all_apply p es (e ∷ [])) = work_goes p es b is cell (Some n) at w in
      let first : IsTrue (applies p es e) = both_left (applies p es e) true job in
      let then_is = board_after es b b e is refl in
      let keys = w.keys in
      let counted = w.counted in
      let drawn : counter_at p key ≡ greatest_counter p es + 1 = next_counted p es (omega (arith, keys)) in
      let more : HasKeys p (es ++ e ∷ []) (most_nodes + 1) = one_more p es e (most_nodes + 1) (omega (arith, keys)) (omega (arith, counted, drawn)) in
      let grown = greatest_counter_more p es (e ∷ []) in
      let rest = catches_apply p (es ++ e ∷ []) b then_is moment cell more (omega (arith, counted, grown)) w.runs in
      rw first rest

  -- what is made behind a cell that becomes active applies: its job, and then what it waits for
  pub opened_apply : IsTrue (all_apply p es (and_then (job_made_on p cell) (catches_opened_on p moment cell) es))
  opened_apply =
      let same : job_made_on p cell es ≡ option_map_or (λ n. job_of p cell n es) (work_at b cell) [] = ap (λ (o : Option Board). option_map_or (λ n. job_of p cell n es) (option_and_then (λ x. work_at x cell) o) []) is in
      subst (λ (made : List Event). IsTrue (all_apply p es (made ++ catches_opened_on p moment cell (es ++ made)))) (sym same) (both_by (work_at b cell) refl)

module _ (p : ℕ) (es : List Event) (b : Board) (is : board_of es ≡ Some b) where
  cancel_goes : (found : Option Job) → left es ≡ option_map_or (λ j. lefts.Cancels j.key) found lefts.Nothing
      → IsTrue (all_apply p es (option_map_or (λ j. events.JobCanceled j.key ∷ []) found [])) × (board_of (es ++ option_map_or (λ j. events.JobCanceled j.key ∷ []) found []) ≡ Some b)
  cancel_goes None off = (refl, rw (append-nil es) is)
  cancel_goes (Some j) off =
      let same : (j.key == j.key) ≡ true = grind (arith, nat_tests) in
      let first : IsTrue (applies p es (events.JobCanceled j.key)) = silent_applies p es b (events.JobCanceled j.key) is (rw (off, same) refl) refl in
      (rw first refl, board_after es b b (events.JobCanceled j.key) is refl)

-- the job of a cell that has begun to terminate is canceled, which leaves the board
pub canceled_apply : (p : ℕ) (seen : List Event) (key : ℕ) (b : Board) → board_of (seen ++ events.ElementTerminating key ∷ []) ≡ Some b
    → IsTrue (all_apply p (seen ++ events.ElementTerminating key ∷ []) (job_canceled_on seen key (seen ++ events.ElementTerminating key ∷ [])))
    × (board_of ((seen ++ events.ElementTerminating key ∷ []) ++ job_canceled_on seen key (seen ++ events.ElementTerminating key ∷ [])) ≡ Some b)
canceled_apply p seen key b is = cancel_goes p (seen ++ events.ElementTerminating key ∷ []) b is (job_on key seen) (left_more seen (events.ElementTerminating key))

-- the timers of a log with an event more that makes none and ends none
sound_kept : (p : ℕ) (es : List Event) (e : Event) → says_nothing_of_timers e ≡ true → HasSoundTimers p es → HasSoundTimers p (es ++ e ∷ [])
sound_kept p es e none s =
    let same : timers (es ++ e ∷ []) ≡ timers es = timers_kept es e none in
    record {
      ascend = subst (Ascend (λ (t : Timer). t.key) 0) (sym same) s.ascend;
      below = subst (All (λ (t : Timer). t.key < next_key p (es ++ e ∷ []))) (sym same)
          (All-weaker (λ (t : Timer). t.key < next_key p es) (λ (t : Timer). t.key < next_key p (es ++ e ∷ [])) (λ t less. omega (arith, less, next_key_more p es e)) (timers es) s.below);
    }

-- timers stay sound behind the event by which a job is canceled, if one is
pub sound_over : (p : ℕ) (es : List Event) (found : Option Job) → HasSoundTimers p es → HasSoundTimers p (es ++ option_map_or (λ j. events.JobCanceled j.key ∷ []) found [])
sound_over p es None s = subst (HasSoundTimers p) (sym (append-nil es)) s
sound_over p es (Some j) s = sound_kept p es (events.JobCanceled j.key) refl s

-- a subscription closes, unless it is being deleted, which leaves the board
one_closed : (p : ℕ) (es : List Event) (b : Board) (key : ℕ) → board_of es ≡ Some b → IsTrue (all_apply p es (closed_one key es)) × (board_of (es ++ closed_one key es) ≡ Some b)
one_closed p es b key is = by_found (process_subscription_at key es) refl
  where
    Closes : List Event → Type 0
    Closes made = IsTrue (all_apply p es made) × (board_of (es ++ made) ≡ Some b)

    by_phase : (s : ProcessSubscription) (t : Bool) → process_subscription_at s.key es ≡ Some s → is_being_deleted s.phase ≡ t → Closes (if t then [] else closing_of s ∷ [])
    by_phase s true at deleted = (refl, rw (append-nil es) is)
    by_phase s false at stays =
        let first : IsTrue (applies p es (closing_of s)) = silent_applies p es b (closing_of s) is (rw (at, stays) refl) refl in
        (rw first refl, board_after es b b (closing_of s) is refl)

    by_found : (found : Option ProcessSubscription) → process_subscription_at key es ≡ found → Closes (option_map_or (λ s. if is_being_deleted s.phase then [] else closing_of s ∷ []) found [])
    by_found None at = (refl, rw (append-nil es) is)
    by_found (Some s) at =
        let its : (s.key == key) ≡ true = found_passes (λ (x : ProcessSubscription). x.key == key) (process_subscriptions es) s at in
        let same : s.key ≡ key = grind (arith, nat_tests, its) in
        by_phase s (is_being_deleted s.phase) (subst (λ (k : ℕ). process_subscription_at k es ≡ Some s) (sym same) at) refl

-- subscriptions close one after the other, which leaves the board
each_closed : (p : ℕ) (b : Board) (keys : List ℕ) (es : List Event) → board_of es ≡ Some b → IsTrue (all_apply p es (each_made closed_one keys es)) × (board_of (es ++ each_made closed_one keys es) ≡ Some b)
each_closed p b [] es is = (refl, rw (append-nil es) is)
each_closed p b (key ∷ keys) es is =
    let made = closed_one key es in
    let first = one_closed p es b key is in
    let rest = each_closed p b keys (es ++ made) first.1 in
    let one = first.0 in
    (rw (all_apply_on p es made (each_made closed_one keys (es ++ made)), one) rest.0, ap board_of (sym (append_assoc es made (each_made closed_one keys (es ++ made)))) ∙ rest.1)

-- what a cell has waited for closes, which leaves the board
pub closed_apply : (p : ℕ) (es : List Event) (b : Board) (cell : ℕ) → board_of es ≡ Some b → HasSoundTimers p es
    → IsTrue (all_apply p es (catches_closed_on cell es)) × (board_of (es ++ catches_closed_on cell es) ≡ Some b)
closed_apply p es b cell is s =
    let timers = timers_canceled_on cell es in
    let first = canceled_on_apply p es b cell is s in
    let later = subscriptions_closed_on cell (es ++ timers) in
    let rest = each_closed p b (subscriptions_on cell (es ++ timers)) (es ++ timers) first.1 in
    let one = first.0 in
    (rw (all_apply_on p es timers later, one) rest.0, ap board_of (sym (append_assoc es timers later)) ∙ rest.1)

-- what waits for a cell that begins to terminate ends
ended_apply : (p : ℕ) (seen : List Event) (key : ℕ) (b : Board) → board_of (seen ++ events.ElementTerminating key ∷ []) ≡ Some b → AllPairs StandApart b.incidents → HasSoundTimers p (seen ++ events.ElementTerminating key ∷ [])
    → IsTrue (all_apply p (seen ++ events.ElementTerminating key ∷ []) (ended_on seen key (seen ++ events.ElementTerminating key ∷ [])))
ended_apply p seen key b is apart timed =
    let es = seen ++ events.ElementTerminating key ∷ [] in
    let off = job_canceled_on seen key es in
    let over = es ++ off in
    let first = canceled_apply p seen key b is in
    let second = closed_apply p over b key first.1 (sound_over p es (job_on key seen) timed) in
    let closed = catches_closed_on key over in
    let third = resolved_apply p (over ++ closed) b second.1 key apart in
    let one = first.0 in
    let two = second.0 in
    rw (all_apply_on p es off (closed ++ resolved_on key (over ++ closed)), one, all_apply_on p over closed (resolved_on key (over ++ closed)), two) third

module _ (p : ℕ) (es : List Event) (b : Board) (is : board_of es ≡ Some b) where
  -- a cell that may begin to terminate does, and what waits for it ends
  halted_apply : (key : ℕ) → IsTrue (fits b (moves.Halt key)) → AllPairs StandApart b.incidents → HasSoundTimers p es → IsTrue (all_apply p es (halted_on key es))
  halted_apply key fit apart timed =
      let e = events.ElementTerminating key in
      let first : IsTrue (applies p es e) = applied_from p es b e (moves.Halt key) is refl refl fit in
      let r = applied_board p es b e is first in
      let led : played b (moves.Halt key) ≡ Some r.0 = r.1.leads in
      let still : r.0.incidents ≡ b.incidents = incidents_stay b r.0 (moves.Halt key) refl led in
      let rest = ended_apply p es key r.0 (board_behind p es b e r.0 r.1) (subst (AllPairs StandApart) (sym still) apart) (sound_kept p es e refl timed) in
      rw first rest

  -- a boundary event that interrupts its cell ends it
  interrupted_by : (t : Bool) (cell : ℕ) (node : List ℕ) → is_interrupting cell node b ≡ t → MayInterrupt p es b cell node → IsTrue (all_apply p es (if t then halted_on cell es else []))
  interrupted_by false cell node is_none may = refl
  interrupted_by true cell node it may = halted_apply cell (may.halts it) may.apart may.timed

-- the variables of a run of a body are set
run_applies : (p : ℕ) (es : List Event) (b : Board) → board_of es ≡ Some b → BoardKeeps p es b → (cell : ℕ) → IsTrue (all_apply p es (run_set_on cell es))
run_applies p es b is k cell = subst (λ (o : Option Board). IsTrue (all_apply p es (set_each true cell (option_map_or (λ x. run_variables_at x cell) o []) es))) (sym is) (by_cell (cell_at b cell) refl)
  where
    by_cell : (found : Option Cell) → cell_at b cell ≡ found → IsTrue (all_apply p es (set_each true cell (option_map_or (run_variables_of b) found []) es))
    by_cell None at = refl
    by_cell (Some c) at = (each_set p true cell (λ x. Unit {0}) (λ x after a made h. tt) (run_variables_of b c) es b is k tt (rw at refl)).applied

-- the events behind an event apply
pub behind_apply : (p moment : ℕ) (seen : List Event) (e : Event) (b : Board) → board_of (seen ++ e ∷ []) ≡ Some b → MayFollow p (seen ++ e ∷ []) b e → IsTrue (all_apply p (seen ++ e ∷ []) (events_behind p moment seen e (seen ++ e ∷ [])))
behind_apply p moment seen (events.ElementActivating e) b is may = run_applies p (seen ++ events.ElementActivating e ∷ []) b is may e.key
behind_apply p moment seen (events.ElementActivated e) b is may = opened_apply p (seen ++ events.ElementActivated e ∷ []) b is moment e.key may
behind_apply p moment seen (events.ElementCompleting key) b is may = (closed_apply p (seen ++ events.ElementCompleting key ∷ []) b key is may).0
behind_apply p moment seen (events.ElementTerminating key) b is may = ended_apply p seen key b is may.0 may.1
behind_apply p moment seen (events.ProcessEventTriggered e) b is may =
    let es = seen ++ events.ProcessEventTriggered e ∷ [] in
    let same : holds_of_game (is_interrupting e.cell e.node) es ≡ is_interrupting e.cell e.node b = ap (λ (o : Option Board). option_map_or (is_interrupting e.cell e.node) o false) is in
    subst (λ (t : Bool). IsTrue (all_apply p es (if t then halted_on e.cell es else []))) (sym same) (interrupted_by p es b is (is_interrupting e.cell e.node b) e.cell e.node refl may)
behind_apply p moment seen (events.ElementCompleted e) b is may = restart_applies p seen (seen ++ events.ElementCompleted e ∷ []) e.key may.0 may.1
behind_apply p moment seen (events.ElementTerminated key) b is may = restart_applies p seen (seen ++ events.ElementTerminated key ∷ []) key may.0 may.1
behind_apply p moment seen e b is may = refl
