-- Who is forced has an event that applies; where nobody is, the game is quiet.
use Rattle.std.proofs.Common.{◌≤◌, ◌≡◌, ℕ, ◌==◌, List, [], ◌∷◌, ◌++◌, Bool, true, false, if◌then◌else◌, IsTrue, is_some, Option, Some, None, ◌↔◌, refl, sym, ap, ◌∙◌, subst, append-nil, append_assoc, arith}
use Rattle.std.specs.List.{find}
use Rattle.std.specs.Option.{option_map_or}
use Rattle.std.proofs.lemmas.Bool.Decides.{nat_tests}
use Rattle.zb_instance_records.specs.declared.instance.ElementActivating.{ElementActivating}
use Rattle.zb_instance_records.specs.declared.instance.Role.{Role}
use Rattle.zb_instance_records.specs.declared.instance.Role.TheVariants as roles
use Rattle.zb_process.specs.declared.model.Model.{Model}
use Rattle.zb_model.specs.declared.record.Command.{Command}
use Rattle.zb_model.specs.declared.record.Command.TheVariants as commands
use Rattle.zb_model.specs.declared.record.Event.{Event}
use Rattle.zb_model.specs.declared.record.Event.TheVariants as events
use Rattle.zb_views.specs.View.{keys_in, greatest_among, greatest_counter, next_key}
use Rattle.zb_tokens.specs.declared.board.Cell.{Cell}
use Rattle.zb_tokens.specs.declared.board.Enter.{Enter}
use Rattle.zb_tokens.specs.declared.board.Inner.{Inner}
use Rattle.zb_tokens.specs.declared.board.Open.{Open}
use Rattle.zb_tokens.specs.declared.board.Move.{Move}
use Rattle.zb_tokens.specs.declared.board.Move.TheVariants as moves
use Rattle.zb_tokens.specs.declared.board.Mover.{Mover}
use Rattle.zb_tokens.specs.Board.{Board, CellsAscend, cell_at, model_under, is_role}
use Rattle.zb_tokens.specs.Bodies.{multi_at, role_at}
use Rattle.zb_tokens.specs.declared.board.Undo.{Undo}
use Rattle.zb_tokens.specs.MoveInner.{runs_next}
use Rattle.zb_tokens.specs.MoveUndo.{runs_handler}
use Rattle.zb_tokens.proofs.LeaveLaws.{same_bytes}
use Rattle.zb_tokens.specs.Incidents.{incident_on}
use Rattle.zb_tokens.specs.Game.{fits, agrees, played}
use Rattle.zb_tokens.proofs.GameLaws.{both_left, holds_some}
use Rattle.zb_tokens.specs.Forced.{next_mover, move_of}
use Rattle.zb_tokens.proofs.ForcedLaws.{movers_move, movers_fit, movers_agree}
use Rattle.zb_rules.specs.Shown.{shown, role_on, board_of, event_of}
use Rattle.zb_rules.specs.Applies.{is_fresh, holds_own, holds_of_game, applies, all_apply, suits_scope}
use Rattle.zb_rules.specs.InFront.{events_in_front}
use Rattle.zb_rules.specs.Behind.{job_canceled_on, resolved_on, events_behind, with_events_behind, catches_closed_on}
use Rattle.zb_rules.specs.Settling.{turn_of, turn, HasQuietGame}
use Rattle.zb_rules.specs.Legal.{AllLegal, EachLegal}
use Rattle.zb_rules.specs.Reason.{reason_for}
use Rattle.zb_rules.specs.Own.{IsSupported, keys_for, own_events}
use Rattle.zb_rules.specs.Deploy.{deployed}
use Rattle.zb_rules.specs.Distribute.{distributed}
use Rattle.zb_rules.specs.Acknowledge.{acknowledged}
use Rattle.zb_rules.specs.Create.{created}
use Rattle.zb_rules.specs.Cancel.{reason_to_cancel, cancelled}
use Rattle.zb_rules.specs.Update.{updated}
use Rattle.zb_rules.specs.Publish.{published}
use Rattle.zb_rules.specs.Expire.{expired}
use Rattle.zb_rules.specs.Resolve.{resolved}
use Rattle.zb_rules.specs.Activate.{activated}
use Rattle.zb_rules.specs.Complete.{completed}
use Rattle.zb_rules.specs.Fail.{failed}
use Rattle.zb_rules.specs.Throw.{thrown}
use Rattle.zb_rules.specs.Retries.{retried}
use Rattle.zb_rules.specs.TimeOut.{timed_out}
use Rattle.zb_rules.proofs.ActivateLaws.{activate_applies}
use Rattle.zb_rules.proofs.WorkerLaws.{complete_applies, throw_applies, fail_applies, retry_applies, time_out_applies}
use Rattle.zb_rules.specs.Kinds.{comes_beside}
use Rattle.zb_rules.proofs.KindsLaws.{kinds_in, front_are, front_beside, behind_beside, own_kinds}
use Rattle.zb_rules.proofs.LegalLaws.{made_legally, own_never, beside_never, legal_by, each_legal_by}
use Rattle.zb_rules.proofs.GrowthLaws.{entry_shown}
use Rattle.zb_rules.proofs.StepLaws.{all_apply_on, all_legal_on}
use Rattle.zb_rules.proofs.FrontLaws.{begins_end, front_begins_no_end, in_front}
use Rattle.zb_rules.specs.Subscribe.{opened, taken, turned_away, unsubscribed}
use Rattle.zb_rules.specs.Receive.{confirmed, received, forgotten}
use Rattle.zb_rules.proofs.CorrelateLaws.{open_applies, take_applies, turn_away_applies, delete_applies}
use Rattle.zb_rules.proofs.ReceiveLaws.{confirm_applies, receive_applies, forget_applies}
use Rattle.zb_rules.proofs.StartLaws.{publish_applies}
use Rattle.zb_rules.proofs.BehindLaws.{MayHaveWork, MayRestart, MayFollow, resolve_applies, canceled_apply, behind_apply, sound_over, closed_apply}
use Rattle.zb_rules.proofs.CellsLaws.{ascend_between}
use Rattle.zb_rules.proofs.OpenedLaws.{IsSetBehind, cell_counted, set_behind, opens_free, opened_may_work, follows_by}
use Rattle.zb_rules.proofs.ModelsLaws.{Knows, board_knows}
use Rattle.zb_rules.proofs.OwnLaws.{expire_applies}
use Rattle.zb_rules.proofs.NamedLaws.{keys_left}
use Rattle.zb_rules.proofs.DeployLaws.{deploy_applies, distribute_applies, acknowledge_applies}
use Rattle.zb_rules.proofs.CreateLaws.{create_applies}
use Rattle.zb_rules.proofs.CancelLaws.{cancel_applies}
use Rattle.zb_rules.proofs.UpdateLaws.{update_applies}
use Rattle.zb_rules.specs.Sound.{HasKeys, keys_of_turn, HasOrderedNames, IsForcedEvent}
use Rattle.zb_rules.proofs.MoversLaws.{IsMade, mover_made, found_key, from_none, event_there}
use Rattle.zb_rules.proofs.AppliedLaws.{Advances, applied_from, some_of, game_holds_from, applied_board, board_behind}
use Rattle.zb_rules.proofs.SoundLaws.{BoardKeeps, board_is_there, cells_ascend, keeps_on, board_keeps}
use Rattle.zb_rules.proofs.IncidentsLaws.{none_behind}
use Rattle.zb_views.specs.Jobs.{job_on}
use Rattle.zb_rules.specs.Trigger.{triggered}
use Rattle.zb_rules.proofs.TriggerLaws.{told_halts, trigger_applies}

-- a role is the same as itself
same_role : (role : Role) → is_role role role ≡ true
same_role roles.Plain = refl
same_role roles.Body = refl
same_role roles.Inner = refl
same_role roles.Handler = refl

-- a cell that a token begins is no run of a body, and no handler
role_entered : (b : Board) (c : Cell) (node : List ℕ) → (is_role (role_on b c node) roles.Inner ≡ false) × (is_role (role_on b c node) roles.Handler ≡ false)
role_entered b c node = by_model (model_under b c.definition)
  where
    by_test : (t : Bool) → (is_role (if t then roles.Body else roles.Plain) roles.Inner ≡ false) × (is_role (if t then roles.Body else roles.Plain) roles.Handler ≡ false)
    by_test true = (refl, refl)
    by_test false = (refl, refl)

    by_model : (found : Option Model) → (is_role (option_map_or (λ m. role_at m node) found roles.Plain) roles.Inner ≡ false) × (is_role (option_map_or (λ m. role_at m node) found roles.Plain) roles.Handler ≡ false)
    by_model None = (refl, refl)
    by_model (Some m) = by_test (is_some (multi_at m node))

-- the event of a run that begins in a body
abbrev pub run_event : Inner → Cell → Event
run_event i c = events.ElementActivating (record { key = i.key; scope = i.body; definition = c.definition; node = c.node; role = roles.Inner; via = []; started = [] })

-- under the next key it has what it needs beside its move, and shows that
pub run_holds : (p : ℕ) (es : List Event) (b : Board) (i : Inner) (c : Cell) → board_of es ≡ Some b → cell_at b i.body ≡ Some c → CellsAscend 1 b.cells → HasKeys p es 1 → i.key ≡ next_key p es
    → IsTrue (holds_own p es (run_event i c)) × (shown es (run_event i c) ≡ Some (moves.Inner i))
run_holds p es b i c is found up keys its =
    let above = found_key 1 i.body b.cells c up found in
    let inner : (i.body == 0) ≡ false = grind (arith, nat_tests, above) in
    let fresh : IsTrue (is_fresh p es i.key) = grind (arith, nat_tests) in
    let same : (c.definition == c.definition) ≡ true = grind (arith, nat_tests) in
    let a : ElementActivating = record { key = i.key; scope = i.body; definition = c.definition; node = c.node; role = roles.Inner; via = []; started = [] } in
    let of_scope : IsTrue (holds_of_game (suits_scope a) es) = game_holds_from (suits_scope a) es b is (rw (found, same, same_bytes c.node) refl) in
    (rw (inner, fresh, of_scope) refl, rw inner refl)

-- the event of a handler that begins in a compensation event
abbrev pub handler_event : Undo → Cell → Event
handler_event u c = events.ElementActivating (record { key = u.key; scope = u.event; definition = c.definition; node = u.node; role = roles.Handler; via = []; started = [] })

-- under the next key it has what it needs beside its move, and shows that
pub handler_holds : (p : ℕ) (es : List Event) (b : Board) (u : Undo) (c : Cell) → board_of es ≡ Some b → cell_at b u.event ≡ Some c → CellsAscend 1 b.cells → HasKeys p es 1 → u.key ≡ next_key p es
    → IsTrue (holds_own p es (handler_event u c)) × (shown es (handler_event u c) ≡ Some (moves.Undo u))
handler_holds p es b u c is found up keys its =
    let above = found_key 1 u.event b.cells c up found in
    let inner : (u.event == 0) ≡ false = grind (arith, nat_tests, above) in
    let fresh : IsTrue (is_fresh p es u.key) = grind (arith, nat_tests) in
    let same : (c.definition == c.definition) ≡ true = grind (arith, nat_tests) in
    let a : ElementActivating = record { key = u.key; scope = u.event; definition = c.definition; node = u.node; role = roles.Handler; via = []; started = [] } in
    let of_scope : IsTrue (holds_of_game (suits_scope a) es) = game_holds_from (suits_scope a) es b is (rw (found, same) refl) in
    (rw (inner, fresh, of_scope) refl, rw inner refl)

module _ (p moment : ℕ) (es : List Event) (b : Board) (mover : Mover) (is : board_of es ≡ Some b) (k : BoardKeeps p es b) where
  event_by : (move : Move) (e : Event) → move_of b moment (next_key p es) mover ≡ Some move → IsTrue (fits b move) → IsTrue (agrees b moment move) → event_of b move ≡ Some e
      → IsTrue (holds_own p (es ++ events_in_front b move es) e) → shown (es ++ events_in_front b move es) e ≡ Some move → IsForcedEvent p moment es b mover
  event_by move e made fit agreed told own shows =
      let r = in_front p es b is k move fit in
      record {
        move = move;
        event = e;
        is_move = made;
        is_event = told;
        in_front = r.applied;
        applied = applied_from p (es ++ events_in_front b move es) r.after e move r.is own shows r.fit;
        shows = shows;
        agreed = agreed;
      }

  enters_in : (e : Enter) (c : Cell) → cell_at b e.scope ≡ Some c → CellsAscend 1 b.cells → HasKeys p es 1 → e.key ≡ next_key p es → move_of b moment (next_key p es) mover ≡ Some (moves.Enter e) → IsTrue (fits b (moves.Enter e)) → IsForcedEvent p moment es b mover
  enters_in e c found up keys its made fit =
      let above = found_key 1 e.scope b.cells c up found in
      let inner : (e.scope == 0) ≡ false = grind (arith, nat_tests, above) in
      let fresh : IsTrue (is_fresh p es e.key) = grind (arith, nat_tests) in
      let same : (c.definition == c.definition) ≡ true = grind (arith, nat_tests) in
      let a : ElementActivating = record { key = e.key; scope = e.scope; definition = c.definition; node = e.node; role = role_on b c e.node; via = e.via; started = [] } in
      let plain = role_entered b c e.node in
      let alike = same_role a.role in
      let of_scope : IsTrue (holds_of_game (suits_scope a) es) = game_holds_from (suits_scope a) es b is (rw (found, same, plain.0, plain.1, alike) refl) in
      event_by (moves.Enter e) (events.ElementActivating a) made fit refl (rw found refl) (rw (append-nil es, inner, fresh, of_scope) refl) (rw (inner, entry_shown a a.role plain.0 plain.1) refl)

  enters : (e : Enter) → CellsAscend 1 b.cells → HasKeys p es 1 → e.key ≡ next_key p es → move_of b moment (next_key p es) mover ≡ Some (moves.Enter e) → IsTrue (fits b (moves.Enter e)) → IsForcedEvent p moment es b mover
  enters e up keys its made fit =
      let found = some_of (cell_at b e.scope) (holds_some _ (cell_at b e.scope) fit) in
      enters_in e found.0 found.1 up keys its made fit

  runs_in : (i : Inner) (c : Cell) → cell_at b i.body ≡ Some c → CellsAscend 1 b.cells → HasKeys p es 1 → i.key ≡ next_key p es → move_of b moment (next_key p es) mover ≡ Some (moves.Inner i) → IsTrue (fits b (moves.Inner i)) → IsForcedEvent p moment es b mover
  runs_in i c found up keys its made fit =
      let run = run_holds p es b i c is found up keys its in
      event_by (moves.Inner i) (run_event i c) made fit refl (rw found refl) (subst (λ (before : List Event). IsTrue (holds_own p before (run_event i c))) (sym (append-nil es)) run.0) run.1

  begins_run : (i : Inner) → CellsAscend 1 b.cells → HasKeys p es 1 → i.key ≡ next_key p es → move_of b moment (next_key p es) mover ≡ Some (moves.Inner i) → IsTrue (fits b (moves.Inner i)) → IsForcedEvent p moment es b mover
  begins_run i up keys its made fit =
      let found = some_of (cell_at b i.body) (holds_some (runs_next b) (cell_at b i.body) fit) in
      runs_in i found.0 found.1 up keys its made fit

  handles_in : (u : Undo) (c : Cell) → cell_at b u.event ≡ Some c → CellsAscend 1 b.cells → HasKeys p es 1 → u.key ≡ next_key p es → move_of b moment (next_key p es) mover ≡ Some (moves.Undo u) → IsTrue (fits b (moves.Undo u)) → IsForcedEvent p moment es b mover
  handles_in u c found up keys its made fit =
      let own = handler_holds p es b u c is found up keys its in
      event_by (moves.Undo u) (handler_event u c) made fit refl (rw found refl) (subst (λ (before : List Event). IsTrue (holds_own p before (handler_event u c))) (sym (append-nil es)) own.0) own.1

  begins_handler : (u : Undo) → CellsAscend 1 b.cells → HasKeys p es 1 → u.key ≡ next_key p es → move_of b moment (next_key p es) mover ≡ Some (moves.Undo u) → IsTrue (fits b (moves.Undo u)) → IsForcedEvent p moment es b mover
  begins_handler u up keys its made fit =
      let found = some_of (cell_at b u.event) (holds_some (runs_handler b u.node) (cell_at b u.event) fit) in
      handles_in u found.0 found.1 up keys its made fit

  forced_by : (move : Move) → CellsAscend 1 b.cells → HasKeys p es 1 → IsMade (next_key p es) move → move_of b moment (next_key p es) mover ≡ Some move → IsTrue (fits b move) → IsTrue (agrees b moment move) → IsForcedEvent p moment es b mover
  forced_by (moves.Stand d) up keys from made fit agreed = absurd from
  forced_by (moves.Start s) up keys from made fit agreed = absurd from
  forced_by (moves.Enter e) up keys from made fit agreed = enters e up keys from made fit
  forced_by (moves.Inner i) up keys from made fit agreed = begins_run i up keys from made fit
  forced_by (moves.Undo u) up keys from made fit agreed = begins_handler u up keys from made fit
  forced_by (moves.Open o) up keys from made fit agreed = event_by (moves.Open o) (events.ElementActivated (record { key = o.key; items = o.items })) made fit agreed refl refl refl
  forced_by (moves.Finish key) up keys from made fit agreed = event_by (moves.Finish key) (events.ElementCompleting key) made fit agreed refl refl refl
  forced_by (moves.Leave l) up keys from made fit agreed = event_by (moves.Leave l) (events.ElementCompleted (record { key = l.key; owed = l.owed })) made fit agreed refl refl refl
  forced_by (moves.Take t) up keys from made fit agreed = event_by (moves.Take t) (events.SequenceFlowTaken (record { key = t.key; flow = t.flow })) made fit agreed refl refl refl
  forced_by (moves.Halt key) up keys from made fit agreed = event_by (moves.Halt key) (events.ElementTerminating key) made fit agreed refl refl refl
  forced_by (moves.Gone key) up keys from made fit agreed = event_by (moves.Gone key) (events.ElementTerminated key) made fit agreed refl refl refl
  forced_by (moves.Assign a) up keys from made fit agreed = absurd from
  forced_by (moves.Update a) up keys from made fit agreed = absurd from
  forced_by (moves.Done key) up keys from made fit agreed = absurd from
  forced_by (moves.Throw t) up keys from made fit agreed = absurd from
  forced_by (moves.Trigger t) up keys from made fit agreed = event_by (moves.Trigger t) (events.ProcessEventTriggered (record { cell = t.cell; node = t.node })) made fit agreed refl refl refl
  forced_by (moves.Incident i) up keys from made fit agreed =
      let fresh : IsTrue (is_fresh p es i.key) = (let key = from.0 in grind (arith, nat_tests)) in
      event_by (moves.Incident i) (events.IncidentCreated (record { key = i.key; kind = i.kind; cell = i.cell; job = i.job; text = i.text })) made fit agreed refl (rw (append-nil es, fresh, from.2, from.1) refl) refl
  forced_by (moves.Repair key) up keys from made fit agreed = absurd from

-- who is forced has an event, which applies and shows a move that agrees with what it evaluates
pub forced_event : (p moment : ℕ) (es : List Event) (b : Board) (mover : Mover) → IsTrue (all_apply p [] es) → HasKeys p es 1 → board_of es ≡ Some b → next_mover b ≡ Some mover → IsForcedEvent p moment es b mover
forced_event p moment es b mover apply keys is next =
    let up1 = cells_ascend p es b apply is in
    let up = from_none b.cells up1 in
    let found = some_of (move_of b moment (next_key p es) mover) (movers_move b moment (next_key p es) mover up next) in
    forced_by p moment es b mover is (board_keeps p es b apply is) found.0 up1 keys (mover_made b moment (next_key p es) mover found.0 found.1) found.1
    (movers_fit b moment (next_key p es) mover found.0 up next found.1) (movers_agree b moment (next_key p es) mover found.0 up next found.1)

some_move : (a m : Move) → Some a ≡ Some m → a ≡ m
some_move a m is = cc

-- the turn of a mover is its event, with the events in front of that and those behind it
turn_made : (p moment : ℕ) (es : List Event) (b : Board) (mover : Mover) (move : Move) (e : Event) → move_of b moment (next_key p es) mover ≡ Some move → event_of b move ≡ Some e
    → turn_of p moment es b mover ≡ Some (events_in_front b move es ++ with_events_behind p moment e (es ++ events_in_front b move es))
turn_made p moment es b mover move e made told = rw (made, told) refl

turn_there : (p moment : ℕ) (es : List Event) (b : Board) (mover : Mover) → CellsAscend 0 b.cells → next_mover b ≡ Some mover → IsTrue (is_some (turn_of p moment es b mover))
turn_there p moment es b mover up next =
    let found = some_of (move_of b moment (next_key p es) mover) (movers_move b moment (next_key p es) mover up next) in
    let event = some_of (event_of b found.0) (event_there b (next_key p es) found.0 (mover_made b moment (next_key p es) mover found.0 found.1) (movers_fit b moment (next_key p es) mover found.0 up next found.1)) in
    let made = turn_made p moment es b mover found.0 event.0 found.1 event.1 in
    ap is_some made

quiet_by : (p moment : ℕ) (es : List Event) (b : Board) (next : Option Mover) → board_of es ≡ Some b → next_mover b ≡ next → CellsAscend 0 b.cells → turn p moment es ≡ None → HasQuietGame es
unfolding turn
quiet_by p moment es b None is nobody up none = record { board = b; is = is; quiet = nobody }
quiet_by p moment es b (Some mover) is next up none =
    let its : turn_of p moment es b mover ≡ None = rw (is, next) at none in
    let there = turn_there p moment es b mover up next in
    absurd (let missing : IsTrue (is_some {T = List Event} None) = rw its at there in cc)

no_turn : (p moment : ℕ) (es : List Event) → HasQuietGame es → turn p moment es ≡ None
unfolding turn
no_turn p moment es q = rw (q.is, q.quiet) refl

-- the turn of a mover is there exactly where somebody is forced
pub no_turn_is_quiet : (p moment : ℕ) (es : List Event) → IsTrue (all_apply p [] es) → turn p moment es ≡ None ↔ HasQuietGame es
no_turn_is_quiet p moment es apply =
    let found = some_of (board_of es) (board_is_there p es apply) in
    (quiet_by p moment es found.0 (next_mover found.0) found.1 refl (from_none found.0.cells (cells_ascend p es found.0 apply found.1)), no_turn p moment es)

-- a forced event, those in front of it and those behind it apply, and each of their moves is legal
module _ (p moment : ℕ) (es : List Event) (b : Board) (mover : Mover) (is : board_of es ≡ Some b) (k : BoardKeeps p es b) (keys : HasKeys p es keys_of_turn) (next : next_mover b ≡ Some mover) (f : IsForcedEvent p moment es b mover) (apply : IsTrue (all_apply p [] es)) where
  abbrev front : List Event
  front = events_in_front b f.move es

  abbrev behind : List Event
  behind = events_behind p moment (es ++ front) f.event ((es ++ front) ++ f.event ∷ [])

  agrees_there : (m : Move) → shown (es ++ front) f.event ≡ Some m → IsTrue (agrees b moment m)
  agrees_there m shows = let e : Some f.move ≡ Some m = sym f.shows ∙ shows in subst (λ (x : Move). IsTrue (agrees b moment x)) (some_move f.move m e) f.agreed

  set_in_front : IsSetBehind p es b front
  set_in_front = set_behind p front es b (front_are b f.move es) is k keys f.in_front

  open_follows : (o : Open) → f.move ≡ moves.Open o → (event : Event) (after : Board) → events.ElementActivated (record { key = o.key; items = o.items }) ≡ event
      → Advances p (es ++ front) set_in_front.after event after → MayHaveWork p ((es ++ front) ++ events.ElementActivated (record { key = o.key; items = o.items }) ∷ []) after o.key
  open_follows o its event after told h =
      let s = set_in_front in
      let up = from_none b.cells (ascend_between 1 (next_key p es) b.cells k.stands.between) in
      let made : move_of b moment (next_key p es) mover ≡ Some (moves.Open o) = f.is_move ∙ ap Some its in
      let free = opens_free b moment (next_key p es) o mover up next made in
      let still : incident_on s.after o.key ≡ None = ap (find (λ i. i.cell == o.key)) s.incidents ∙ free in
      opened_may_work p (es ++ front) s.after s.is s.keeps s.keys o still after (subst (λ (x : Event). Advances p (es ++ front) s.after x after) (sym told) h)

  -- behind an event that names a cell that is there and draws no key a message may start an instance
  restarts : (key : ℕ) → keys_in f.event ≡ key ∷ [] → IsTrue (is_some (cell_at set_in_front.after key)) → MayRestart p ((es ++ front) ++ f.event ∷ [])
  restarts key named there =
      let s = set_in_front in
      let counted : greatest_among p (keys_in f.event) ≤ greatest_counter p (es ++ front) = rw named (cell_counted p key (es ++ front) s.after s.keeps (let keys = s.keys in omega (arith, keys)) there) in
      let left = keys_left p keys_of_turn (es ++ front) f.event s.keys counted in
      let ahead = f.in_front in
      let first = f.applied in (
        rw (all_apply_on p [] (es ++ front) (f.event ∷ []), all_apply_on p [] es front, apply, ahead, first) refl,
        omega (arith, left),
      )

  forced_apply : IsTrue (all_apply p es (front ++ f.event ∷ behind)) × AllLegal moment es es (front ++ f.event ∷ behind)
  forced_apply =
      let first = f.applied in
      let ahead = f.in_front in
      let s = set_in_front in
      let r = applied_board p (es ++ front) s.after f.event s.is first in
      let after_is = board_behind p (es ++ front) s.after f.event r.0 r.1 in
      let keeps = keeps_on p (es ++ front) s.after f.event r.0 r.1 s.keeps in
      let may : MayFollow p ((es ++ front) ++ f.event ∷ []) r.0 f.event = follows_by p ((es ++ front) ++ f.event ∷ []) r.0 b f.move f.event f.is_event
      (λ o its.
      let told : events.ElementActivated (record { key = o.key; items = o.items }) ≡ f.event = (let e : event_of b (moves.Open o) ≡ Some f.event = subst (λ (m : Move). event_of b m ≡ Some f.event) its f.is_event in cc) in
      subst (λ (x : Event). MayHaveWork p ((es ++ front) ++ x ∷ []) r.0 o.key) told (open_follows o its f.event r.0 told r.1))
      (λ t its.
      let shows : shown (es ++ front) f.event ≡ Some (moves.Trigger t) = f.shows ∙ ap Some its in
      let fit : IsTrue (fits s.after (moves.Trigger t)) = (let h = r.1.fit in rw shows at h) in
      let led : played s.after (moves.Trigger t) ≡ Some r.0 = (let h = r.1.leads in rw shows at h) in
      record { halts = told_halts p (es ++ front) s.after r.0 t s.keeps fit led; apart = keeps.incidents.apart; timed = keeps.timers }) keeps
      (λ l its.
      let told : events.ElementCompleted (record { key = l.key; owed = l.owed }) ≡ f.event = (let e : event_of b (moves.Leave l) ≡ Some f.event = subst (λ (m : Move). event_of b m ≡ Some f.event) its f.is_event in cc) in
      let shows : shown (es ++ front) f.event ≡ Some (moves.Leave l) = f.shows ∙ ap Some its in
      let fit : IsTrue (fits s.after (moves.Leave l)) = (let h = r.1.fit in rw shows at h) in
      restarts l.key (ap keys_in (sym told)) (holds_some _ (cell_at s.after l.key) fit))
      (λ key its.
      let told : events.ElementTerminated key ≡ f.event = (let e : event_of b (moves.Gone key) ≡ Some f.event = subst (λ (m : Move). event_of b m ≡ Some f.event) its f.is_event in cc) in
      let shows : shown (es ++ front) f.event ≡ Some (moves.Gone key) = f.shows ∙ ap Some its in
      let fit : IsTrue (fits s.after (moves.Gone key)) = (let h = r.1.fit in rw shows at h) in
      restarts key (ap keys_in (sym told)) (holds_some _ (cell_at s.after key) fit)) in
      let second = behind_apply p moment (es ++ front) f.event r.0 after_is may in (
        rw (all_apply_on p es front (f.event ∷ behind), ahead, first) second,
        all_legal_on moment es es front (f.event ∷ behind) (legal_by p moment es b is es front (beside_never front (kinds_in comes_beside es front (front_beside b f.move es))) ahead)
            (made_legally p moment es b is (es ++ front) f.event first agrees_there, legal_by p moment es b is ((es ++ front) ++ f.event ∷ []) behind (beside_never behind (kinds_in comes_beside ((es ++ front) ++ f.event ∷ []) behind (behind_beside p moment (es ++ front) f.event ((es ++ front) ++ f.event ∷ [])))) second),
      )

turn_by : (p moment : ℕ) (es : List Event) (b : Board) (next : Option Mover) (made : List Event) → IsTrue (all_apply p [] es) → HasKeys p es keys_of_turn → board_of es ≡ Some b → next_mover b ≡ next → turn p moment es ≡ Some made
    → IsTrue (all_apply p es made) × AllLegal moment es es made
unfolding turn
turn_by p moment es b None made apply keys is nobody told = let none : None ≡ Some made = rw (is, nobody) at told in absurd (cc)
turn_by p moment es b (Some mover) made apply keys is next told =
    let f = forced_event p moment es b mover apply (omega (arith, keys)) is next in
    let its : turn_of p moment es b mover ≡ Some made = rw (is, next) at told in
    let k = board_keeps p es b apply is in
    let same : front p moment es b mover is k keys next f apply ++ f.event ∷ behind p moment es b mover is k keys next f apply ≡ made = (let e = sym (turn_made p moment es b mover f.move f.event f.is_move f.is_event) ∙ its in cc) in
    subst (λ (x : List Event). IsTrue (all_apply p es x) × AllLegal moment es es x) same (forced_apply p moment es b mover is k keys next f apply)

-- each event of a turn applies, where there are keys for it
pub turn_applies : (p moment : ℕ) (es made : List Event) → IsTrue (all_apply p [] es) → HasKeys p es keys_of_turn → turn p moment es ≡ Some made → IsTrue (all_apply p es made)
turn_applies p moment es made apply keys told =
    let found = some_of (board_of es) (board_is_there p es apply) in
    (turn_by p moment es found.0 (next_mover found.0) made apply keys found.1 refl told).0

-- and each of its moves is legal
pub turn_legal : (p moment : ℕ) (es made : List Event) → IsTrue (all_apply p [] es) → HasKeys p es keys_of_turn → turn p moment es ≡ Some made → AllLegal moment es es made
turn_legal p moment es made apply keys told =
    let found = some_of (board_of es) (board_is_there p es apply) in
    (turn_by p moment es found.0 (next_mover found.0) made apply keys found.1 refl told).1

-- behind a turn in which a cell begins to terminate no incident stands on it
module _ (p moment : ℕ) (es : List Event) (key : ℕ) (apply : IsTrue (all_apply p [] es)) where
  abbrev begins : Event
  begins = events.ElementTerminating key

  ended_by : (b after : Board) → board_of es ≡ Some b → IsTrue (applies p es begins) → board_of (es ++ begins ∷ events_behind p moment es begins (es ++ begins ∷ [])) ≡ Some after → incident_on after key ≡ None
  ended_by b after is first led =
      let r = applied_board p es b begins is first in
      let k = keeps_on p es b begins r.0 r.1 (board_keeps p es b apply is) in
      let over = es ++ begins ∷ [] in
      let gone = canceled_apply p es key r.0 (board_behind p es b begins r.0 r.1) in
      let off = job_canceled_on es key over in
      let next = over ++ off in
      let closed = catches_closed_on key next in
      let timed = closed_apply p next r.0 key gone.1 (sound_over p over (job_on key es) k.timers) in
      let line : (next ++ closed) ++ resolved_on key (next ++ closed) ≡ es ++ begins ∷ events_behind p moment es begins over =
      append_assoc next closed (resolved_on key (next ++ closed)) ∙ (append_assoc over off (closed ++ resolved_on key (next ++ closed)) ∙ append_assoc es (begins ∷ []) (off ++ (closed ++ resolved_on key (next ++ closed)))) in
      none_behind (next ++ closed) r.0 key timed.1 k.incidents.apart after (ap board_of line ∙ led)

  -- no event stands in front of it, so it is the one that is forced
  its_own : (front rest : List Event) (e : Event) → begins_end front ≡ false → IsTrue (applies p (es ++ front) e) → front ++ with_events_behind p moment e (es ++ front) ≡ begins ∷ rest
      → IsTrue (applies p es begins) × (events_behind p moment es begins (es ++ begins ∷ []) ≡ rest)
  its_own [] rest e none first is =
      let same : e ≡ begins = cc in
      let behind : events_behind p moment (es ++ []) e ((es ++ []) ++ e ∷ []) ≡ rest = cc in
      let alone = append-nil es in
      let its : IsTrue (applies p es e) = rw alone at first in
      let its_behind : events_behind p moment es e (es ++ e ∷ []) ≡ rest = rw alone at behind in
      (subst (λ (x : Event). IsTrue (applies p es x)) same its, subst (λ (x : Event). events_behind p moment es x (es ++ x ∷ []) ≡ rest) same its_behind)
  its_own (x ∷ front) rest e none first is =
      let same : x ≡ begins = cc in
      let ends : begins_end (begins ∷ front) ≡ false = subst (λ (y : Event). begins_end (y ∷ front) ≡ false) same none in
      absurd (cc)

  turn_ends_by : (b : Board) (next : Option Mover) (rest : List Event) (after : Board) → HasKeys p es 1 → board_of es ≡ Some b → next_mover b ≡ next → turn p moment es ≡ Some (begins ∷ rest)
      → board_of (es ++ begins ∷ rest) ≡ Some after → incident_on after key ≡ None
  unfolding turn
  turn_ends_by b None rest after keys is nobody told led = let none : None ≡ Some (begins ∷ rest) = rw (is, nobody) at told in absurd (cc)
  turn_ends_by b (Some mover) rest after keys is next told led =
      let f = forced_event p moment es b mover apply keys is next in
      let its : turn_of p moment es b mover ≡ Some (begins ∷ rest) = rw (is, next) at told in
      let in_front = events_in_front b f.move es in
      let e : Some (in_front ++ with_events_behind p moment f.event (es ++ in_front)) ≡ Some (begins ∷ rest) = sym (turn_made p moment es b mover f.move f.event f.is_move f.is_event) ∙ its in
      let whole : in_front ++ with_events_behind p moment f.event (es ++ in_front) ≡ begins ∷ rest = cc in
      let r = its_own in_front rest f.event (front_begins_no_end b f.move es) f.applied whole in
      ended_by b after is r.0 (ap (λ (more : List Event). board_of (es ++ begins ∷ more)) r.1 ∙ led)

  -- on the board behind it
  pub turn_ends_incident : (rest : List Event) (after : Board) → HasKeys p es 1 → turn p moment es ≡ Some (begins ∷ rest) → board_of (es ++ begins ∷ rest) ≡ Some after → incident_on after key ≡ None
  turn_ends_incident rest after keys told led =
      let found = some_of (board_of es) (board_is_there p es apply) in
      turn_ends_by found.0 (next_mover found.0) rest after keys found.1 refl told led

  -- nor behind a cancel on its root
  pub cancel_ends_incident : (after : Board) → reason_to_cancel es key ≡ None → board_of (es ++ cancelled p moment key es) ≡ Some after → incident_on after key ≡ None
  cancel_ends_incident after none led =
      let found = some_of (board_of es) (board_is_there p es apply) in
      let own = cancel_applies p es found.0 found.1 (board_keeps p es found.0 apply found.1) moment key none in
      ended_by found.0 after found.1 (both_left (applies p es begins) _ own) led

-- a command that is run has own events
pub own_there : (p n : ℕ) (es : List Event) (moment : ℕ) (command : Command) → IsSupported command → reason_for es moment command ≡ None → IsTrue (is_some (own_events p n es moment command))
own_there p n es moment (commands.DeploymentCreate m) supported none = refl
own_there p n es moment command supported none = search

-- each of the moves that own events show is legal
pub own_legal : (p n : ℕ) (es : List Event) (moment : ℕ) (command : Command) (own : List Event) → IsTrue (all_apply p es own) → own_events p n es moment command ≡ Some own → EachLegal moment es own
own_legal p n es moment command own apply is = each_legal_by p moment es own (own_never command own (own_kinds p n moment es command own is)) apply

-- the own events of a command without a reason apply
own_apply_by : (p n : ℕ) (es : List Event) (b : Board) (moment : ℕ) (command : Command) (own : List Event) → board_of es ≡ Some b → IsTrue (all_apply p [] es) → BoardKeeps p es b → Knows p es b → HasKeys p es (keys_for es command) → HasOrderedNames command
    → IsSupported command → reason_for es moment command ≡ None → own_events p n es moment command ≡ Some own → IsTrue (all_apply p es own)
own_apply_by p n es b moment (commands.DeploymentCreate m) own is apply k knows keys ordered supported none made =
    subst (λ (x : List Event). IsTrue (all_apply p es x)) (let same : deployed p n m es ≡ own = cc in same) (deploy_applies p es b is knows n m keys none)
own_apply_by p n es b moment (commands.ProcessInstanceCreationCreate c) own is apply k knows keys ordered supported none made =
    subst (λ (x : List Event). IsTrue (all_apply p es x)) (let same : created p c es ≡ own = cc in same) (create_applies p es b is k.stands knows c keys ordered)
own_apply_by p n es b moment (commands.ProcessInstanceCancel key) own is apply k knows keys ordered supported none made =
    subst (λ (x : List Event). IsTrue (all_apply p es x)) (let same : cancelled p moment key es ≡ own = cc in same) (cancel_applies p es b is k moment key none)
own_apply_by p n es b moment (commands.VariableDocumentUpdate c) own is apply k knows keys ordered supported none made =
    subst (λ (x : List Event). IsTrue (all_apply p es x)) (let same : updated c es ≡ own = cc in same) (update_applies p es b is k c none)
own_apply_by p n es b moment (commands.JobBatchActivate c) own is apply k knows keys ordered supported none made =
    subst (λ (x : List Event). IsTrue (all_apply p es x)) (let same : activated p moment c es ≡ own = cc in same) (activate_applies p moment c es b is k keys)
own_apply_by p n es b moment (commands.JobComplete c) own is apply k knows keys ordered supported none made =
    subst (λ (x : List Event). IsTrue (all_apply p es x)) (let same : completed c es ≡ own = cc in same) (complete_applies p es b is k c none)
own_apply_by p n es b moment (commands.JobFail c) own is apply k knows keys ordered supported none made =
    subst (λ (x : List Event). IsTrue (all_apply p es x)) (let same : failed p c es ≡ own = cc in same) (fail_applies p es b is k c keys none)
own_apply_by p n es b moment (commands.JobThrowError c) own is apply k knows keys ordered supported none made =
    subst (λ (x : List Event). IsTrue (all_apply p es x)) (let same : thrown c es ≡ own = cc in same) (throw_applies p es b is k c none)
own_apply_by p n es b moment (commands.JobUpdateRetries c) own is apply k knows keys ordered supported none made =
    subst (λ (x : List Event). IsTrue (all_apply p es x)) (let same : retried c es ≡ own = cc in same) (retry_applies p es b is k c none)
own_apply_by p n es b moment (commands.JobTimeOut key) own is apply k knows keys ordered supported none made =
    subst (λ (x : List Event). IsTrue (all_apply p es x)) (let same : timed_out key es ≡ own = cc in same) (time_out_applies p es b is k moment key none)
own_apply_by p n es b moment (commands.TimerTrigger key) own is apply k knows keys ordered supported none made =
    subst (λ (x : List Event). IsTrue (all_apply p es x)) (let same : triggered p moment key es ≡ own = cc in same) (trigger_applies p moment es b is k key none)
own_apply_by p n es b moment (commands.IncidentResolve key) own is apply k knows keys ordered supported none made =
    subst (λ (x : List Event). IsTrue (all_apply p es x)) (let same : resolved key es ≡ own = cc in same) (resolve_applies p es b is key none)
own_apply_by p n es b moment (commands.MessagePublish c) own is apply k knows keys ordered supported none made =
    subst (λ (x : List Event). IsTrue (all_apply p es x)) (let same : published p moment c es ≡ own = cc in same) (publish_applies p es b is knows apply moment c keys ordered)
own_apply_by p n es b moment (commands.MessageExpire key) own is apply k knows keys ordered supported none made =
    subst (λ (x : List Event). IsTrue (all_apply p es x)) (let same : expired key es ≡ own = cc in same) (expire_applies p es b is knows key moment none)
own_apply_by p n es b moment commands.ProcessInstanceBatchContinue own is apply k knows keys ordered supported none made =
    subst (λ (x : List Event). IsTrue (all_apply p es x)) (let same : [] ≡ own = cc in same) refl
own_apply_by p n es b moment (commands.DeploymentDistribute c) own is apply k knows keys ordered supported none made =
    subst (λ (x : List Event). IsTrue (all_apply p es x)) (let same : distributed c es ≡ own = cc in same) (distribute_applies p es b c is apply none)
own_apply_by p n es b moment (commands.CommandDistributionAcknowledge c) own is apply k knows keys ordered supported none made =
    subst (λ (x : List Event). IsTrue (all_apply p es x)) (let same : acknowledged c es ≡ own = cc in same) (acknowledge_applies p es b c is apply none)
own_apply_by p n es b moment (commands.MessageSubscriptionCreate c) own is apply k knows keys ordered supported none made =
    subst (λ (x : List Event). IsTrue (all_apply p es x)) (let same : opened c es ≡ own = cc in same) (open_applies p es apply c none)
own_apply_by p n es b moment (commands.MessageSubscriptionCorrelate c) own is apply k knows keys ordered supported none made =
    subst (λ (x : List Event). IsTrue (all_apply p es x)) (let same : taken c es ≡ own = cc in same) (take_applies p es apply c none)
own_apply_by p n es b moment (commands.MessageSubscriptionReject c) own is apply k knows keys ordered supported none made =
    subst (λ (x : List Event). IsTrue (all_apply p es x)) (let same : turned_away c es ≡ own = cc in same) (turn_away_applies p es apply c none)
own_apply_by p n es b moment (commands.MessageSubscriptionDelete c) own is apply k knows keys ordered supported none made =
    subst (λ (x : List Event). IsTrue (all_apply p es x)) (let same : unsubscribed c es ≡ own = cc in same) (delete_applies p es apply c none)
own_apply_by p n es b moment (commands.ProcessMessageSubscriptionCreate key) own is apply k knows keys ordered supported none made =
    subst (λ (x : List Event). IsTrue (all_apply p es x)) (let same : confirmed key es ≡ own = cc in same) (confirm_applies p es b is k key none)
own_apply_by p n es b moment (commands.ProcessMessageSubscriptionCorrelate c) own is apply k knows keys ordered supported none made =
    subst (λ (x : List Event). IsTrue (all_apply p es x)) (let same : received p moment c es ≡ own = cc in same) (receive_applies p es b is k moment c none)
own_apply_by p n es b moment (commands.ProcessMessageSubscriptionDelete key) own is apply k knows keys ordered supported none made =
    subst (λ (x : List Event). IsTrue (all_apply p es x)) (let same : forgotten key es ≡ own = cc in same) (forget_applies p es b is k key none)
own_apply_by p n es b moment _ own is apply k knows keys ordered supported none made = absurd supported

-- behind any log whose events apply
pub own_apply : (p n : ℕ) (es : List Event) (moment : ℕ) (command : Command) (own : List Event) → IsTrue (all_apply p [] es) → HasKeys p es (keys_for es command) → HasOrderedNames command
    → IsSupported command → reason_for es moment command ≡ None → own_events p n es moment command ≡ Some own → IsTrue (all_apply p es own)
own_apply p n es moment command own apply keys ordered supported none made =
    let found = some_of (board_of es) (board_is_there p es apply) in
    own_apply_by p n es found.0 moment command own found.1 apply (board_keeps p es found.0 apply found.1) (board_knows p es found.0 apply found.1) keys ordered supported none made
