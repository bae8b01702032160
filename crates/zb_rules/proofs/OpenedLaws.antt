-- Behind the event by which a forced cell becomes active, with the variables that are set in front of it, the cell may get its job.
use Rattle.std.proofs.Common.{◌≡◌, ℕ, ℤ, ◌≤◌, ◌==◌, List, [], ◌∷◌, ◌++◌, Bool, true, false, not, ◌&&◌, if◌then◌else◌, IsTrue, is_some, Result, Ok, Err, Option, Some, None, option_map, option_and_then, All, refl, sym, ap, ◌∙◌, subst, append-nil, append_assoc, arith}
use Rattle.std.specs.Option.{option_map_or}
use Rattle.std.specs.List.{find}
use Rattle.std.proofs.lemmas.Bool.Decides.{nat_tests}
use Rattle.std.proofs.lemmas.Bool.{not-true}
use Rattle.std.proofs.lemmas.List.Elements.{All-head, All-tail, All-weaker}
use Rattle.zb_process.specs.declared.model.Node.{Node}
use Rattle.zb_model.specs.declared.record.Event.{Event}
use Rattle.zb_model.specs.declared.record.Event.TheVariants as events
use Rattle.zb_views.specs.declared.job.Job.{Job}
use Rattle.zb_views.specs.Jobs.{jobs, job_on}
use Rattle.zb_views.proofs.JobLaws.{jobs_kept}
use Rattle.zb_views.specs.View.{keys_in, greatest_among, greatest_counter, next_key}
use Rattle.zb_tokens.specs.declared.board.Assigned.{Assigned}
use Rattle.zb_tokens.specs.declared.board.Cell.{Cell}
use Rattle.zb_tokens.specs.declared.board.Incident.{Incident}
use Rattle.zb_tokens.specs.declared.board.Leave.{Leave}
use Rattle.zb_tokens.specs.declared.board.Open.{Open}
use Rattle.zb_tokens.specs.declared.board.Move.{Move}
use Rattle.zb_tokens.specs.declared.board.Move.TheVariants as moves
use Rattle.zb_tokens.specs.declared.board.Mover.{Mover}
use Rattle.zb_tokens.specs.declared.board.Mover.TheVariants as movers
use Rattle.zb_tokens.specs.declared.board.Phase.{Phase}
use Rattle.zb_tokens.specs.declared.board.Phase.TheVariants as phases
use Rattle.zb_tokens.specs.declared.board.Token.{Token}
use Rattle.zb_process.specs.declared.model.Model.{Model}
use Rattle.zb_faults.specs.Faults.{is_well_formed}
use Rattle.zb_views.proofs.ViewLaws.{greatest_counter_more}
use Rattle.zb_rules.proofs.ModelsLaws.{formed_under}
use Rattle.zb_tokens.specs.Board.{Board, CellsAscend, cell_at, model_under, is_body, is_phase}
use Rattle.zb_tokens.specs.Doom.{is_doomed}
use Rattle.zb_tokens.proofs.EffectLaws.{incidents_stay}
use Rattle.zb_tokens.specs.Forced.{end_in, undo_by, finish_by, goes_on_in, ends_in, leave_by, move_at, move_in, move_of, next_mover, open_by, take_first, way_of}
use Rattle.zb_tokens.proofs.ForcedLaws.{IsMover, mover_known}
use Rattle.zb_tokens.specs.Game.{fits, played}
use Rattle.zb_tokens.proofs.GameLaws.{both_left, both_right, holds_some, found_holds}
use Rattle.zb_tokens.specs.Incidents.{Hindrance, incident_on, is_stuck}
use Rattle.zb_tokens.specs.declared.board.Triggered.{Triggered}
use Rattle.zb_tokens.specs.Errors.{caught}
use Rattle.zb_tokens.specs.Bodies.{has_item}
use Rattle.zb_tokens.specs.Handlers.{next_handler}
use Rattle.zb_tokens.specs.Catches.{opened_with}
use Rattle.zb_tokens.specs.Marks.{is_unset, awaits_work, is_service_cell}
use Rattle.zb_tokens.specs.MoveLeave.{completion_of}
use Rattle.zb_tokens.specs.MoveOpen.{start_tokens, with_items}
use Rattle.zb_tokens.specs.Marks.{error_of}
use Rattle.zb_tokens.specs.Work.{work_of, work_at, may_have_job}
use Rattle.zb_rules.specs.Shown.{shown, board_of, event_of}
use Rattle.zb_rules.specs.Applies.{applies, all_apply}
use Rattle.zb_rules.specs.Sound.{HasKeys, keys_of_turn, IsAwaited, HasSoundJobs}
use Rattle.zb_rules.proofs.KindsLaws.{EachOf, sets_variable}
use Rattle.zb_rules.proofs.MadeLaws.{is_keyed, made_holds, mapped_holds}
use Rattle.zb_rules.proofs.AppliedLaws.{Advances, some_of, applied_board, board_behind}
use Rattle.zb_rules.proofs.ScopesLaws.{at_cell, edited_found}
use Rattle.zb_rules.proofs.PlacedLaws.{key_found}
use Rattle.zb_rules.proofs.SoundLaws.{BoardKeeps, keeps_on}
use Rattle.zb_rules.proofs.NamedLaws.{counted_below, keys_left, found_below}
use Rattle.zb_rules.proofs.BehindLaws.{MayHaveWork, MayInterrupt, MayRestart, MayFollow}

-- behind events that set variables and apply as many keys are left, and the incidents are as they were
pub record IsSetBehind (p : ℕ) (es : List Event) (b : Board) (made : List Event) : Type 0 where
  pub after : Board
  pub is : board_of (es ++ made) ≡ Some after
  pub keeps : BoardKeeps p (es ++ made) after
  pub keys : HasKeys p (es ++ made) keys_of_turn
  pub incidents : after.incidents ≡ b.incidents

-- a cell that is there has a key that was drawn
pub cell_counted : (p key : ℕ) (es : List Event) (b : Board) → BoardKeeps p es b → HasKeys p es 1 → IsTrue (is_some (cell_at b key)) → greatest_among p (key ∷ []) ≤ greatest_counter p es
cell_counted p key es b k keys there =
    let found = some_of (cell_at b key) there in
    let below = found_below 1 (next_key p es) key b.cells found.0 k.stands.between found.1 in
    omega (arith, counted_below p key es keys below)

one_set : (p : ℕ) (es : List Event) (b : Board) (e : Event) (made : List Event) (move : Move) (key : ℕ) → board_of es ≡ Some b → BoardKeeps p es b → HasKeys p es keys_of_turn
    → IsTrue (applies p es e) → shown es e ≡ Some move → ((after : Board) → played b move ≡ Some after → after.incidents ≡ b.incidents) → keys_in e ≡ key ∷ [] → (IsTrue (fits b move) → IsTrue (is_some (cell_at b key)))
    → ((after : Board) → board_of (es ++ e ∷ []) ≡ Some after → BoardKeeps p (es ++ e ∷ []) after → HasKeys p (es ++ e ∷ []) keys_of_turn → IsSetBehind p (es ++ e ∷ []) after made)
    → IsSetBehind p es b (e ∷ made)
one_set p es b e made move key is k keys first shows stay named there rest =
    let r = applied_board p es b e is first in
    let fit : IsTrue (fits b move) = (let h = r.1.fit in rw shows at h) in
    let led : played b move ≡ Some r.0 = (let h = r.1.leads in rw shows at h) in
    let counted : greatest_among p (keys_in e) ≤ greatest_counter p es = rw named (cell_counted p key es b k (omega (arith, keys)) (there fit)) in
    let s = rest r.0 (board_behind p es b e r.0 r.1) (keeps_on p es b e r.0 r.1 k) (keys_left p keys_of_turn es e keys counted) in
    let line = append_assoc es (e ∷ []) made in
    record {
      after = s.after;
      is = subst (λ (l : List Event). board_of l ≡ Some s.after) line s.is;
      keeps = subst (λ (l : List Event). BoardKeeps p l s.after) line s.keeps;
      keys = subst (λ (l : List Event). HasKeys p l keys_of_turn) line s.keys;
      incidents = s.incidents ∙ stay r.0 led;
    }

-- where variables were set in front, the board is as it was but for them
pub set_behind : (p : ℕ) (made es : List Event) (b : Board) → EachOf sets_variable made → board_of es ≡ Some b → BoardKeeps p es b → HasKeys p es keys_of_turn → IsTrue (all_apply p es made) → IsSetBehind p es b made
set_behind p [] es b are is k keys apply = record {
  after = b;
  is = rw (append-nil es) is;
  keeps = rw (append-nil es) k;
  keys = rw (append-nil es) keys;
  incidents = refl;
}
set_behind p (events.VariableCreated e ∷ made) es b are is k keys apply =
    let a : Assigned = record { scope = e.scope; name = e.name; value = e.value } in
    one_set p es b (events.VariableCreated e) made (moves.Assign a) e.scope is k keys (both_left _ _ apply) refl (λ after led. incidents_stay b after (moves.Assign a) refl led) refl
    (λ fit. holds_some _ (cell_at b e.scope) fit) (λ after its keeps left. set_behind p made (es ++ events.VariableCreated e ∷ []) after are.1 its keeps left (both_right (applies p es (events.VariableCreated e)) _ apply))
set_behind p (events.VariableUpdated e ∷ made) es b are is k keys apply =
    let a : Assigned = record { scope = e.scope; name = e.name; value = e.value } in
    one_set p es b (events.VariableUpdated e) made (moves.Update a) e.scope is k keys (both_left _ _ apply) refl (λ after led. incidents_stay b after (moves.Update a) refl led) refl
    (λ fit. holds_some _ (cell_at b e.scope) fit) (λ after its keeps left. set_behind p made (es ++ events.VariableUpdated e ∷ []) after are.1 its keeps left (both_right (applies p es (events.VariableUpdated e)) _ apply))
set_behind p (_ ∷ made) es b are is k keys apply = let sets = are.0 in absurd (cc)

-- the key of the cell that becomes active by a move
abbrev opened_key : Move → ℕ
opened_key (moves.Open o) = o.key
opened_key move = 0

-- a cell is forced to become active only where no incident stands on it
open_of : (k : ℕ) (o : Open) (c : Cell) (opened : Result (List ℤ) Hindrance) → Some (open_by k c opened) ≡ Some (moves.Open o) → c.key ≡ o.key
open_of k o c (Ok items) is = let same : moves.Open (record { key = c.key; items = items }) ≡ moves.Open o = cc in ap opened_key same
open_of k o c (Err hindrance) is = absurd (cc)

act_opens_none : (k : ℕ) (o : Open) (c : Cell) (runs : Bool) (next : Option (List ℕ)) → Some (if runs then moves.Inner (record { key = k; body = c.key }) else undo_by k c next) ≡ Some (moves.Open o) → ⊥
act_opens_none k o c true next is = cc
act_opens_none k o c false None is = cc
act_opens_none k o c false (Some node) is = cc

finish_opens_none : (b : Board) (k : ℕ) (o : Open) (c : Cell) (caught_at : Option Triggered) (error : Option (List ℕ)) → Some (finish_by b k c caught_at error) ≡ Some (moves.Open o) → ⊥
finish_opens_none b k o c caught_at None is = act_opens_none k o c (is_body c && has_item c) (next_handler b c) is
finish_opens_none b k o c None (Some code) is = cc
finish_opens_none b k o c (Some t) (Some code) is = cc

leave_opens_none : (k : ℕ) (o : Open) (c : Cell) (exit : Result (List (List ℕ)) Hindrance) → Some (leave_by k c exit) ≡ Some (moves.Open o) → ⊥
leave_opens_none k o c (Ok owed) is = cc
leave_opens_none k o c (Err hindrance) is = cc

take_opens_none : (cell : ℕ) (o : Open) (owed : List (List ℕ)) → take_first cell owed ≡ Some (moves.Open o) → ⊥
take_opens_none cell o [] is = cc
take_opens_none cell o (flow ∷ owed) is = cc

opens_in : (b : Board) (moment k : ℕ) (o : Open) (c : Cell) (phase : Phase) → move_in b moment k c phase ≡ Some (moves.Open o) → c.key ≡ o.key
opens_in b moment k o c phases.Activating is = open_of k o c (opened_with b moment c) is
opens_in b moment k o c phases.Active is = absurd (finish_opens_none b k o c (caught b c) (error_of c.mark) is)
opens_in b moment k o c phases.Completing is = absurd (leave_opens_none k o c (completion_of b c) is)
opens_in b moment k o c phases.Leaving is = absurd (take_opens_none c.key o c.owed is)
opens_in b moment k o c phases.Terminating is = absurd (cc)

end_opens_none : (o : Open) (c : Cell) (phase : Phase) → end_in c phase ≡ Some (moves.Open o) → ⊥
end_opens_none o c phases.Activating is = cc
end_opens_none o c phases.Active is = cc
end_opens_none o c phases.Completing is = cc
end_opens_none o c phases.Leaving is = cc
end_opens_none o c phases.Terminating is = cc

free_by : (b : Board) (moment k : ℕ) (o : Open) (c : Cell) (doomed : Bool) → (if doomed then ends_in b c c.phase else not (is_stuck b c) && goes_on_in b c c.phase) ≡ true
    → (if doomed then end_in c c.phase else move_in b moment k c c.phase) ≡ Some (moves.Open o) → (c.key ≡ o.key) × (is_stuck b c ≡ false)
free_by b moment k o c true forced is = absurd (end_opens_none o c c.phase is)
free_by b moment k o c false forced is = (opens_in b moment k o c c.phase is, not-true (is_stuck b c) (both_left (not (is_stuck b c)) (goes_on_in b c c.phase) forced))

way_opens_none : (k : ℕ) (o : Open) (t : Token) (way : Option (List ℕ × List ℕ))
    → option_map (λ (w : List ℕ × List ℕ). moves.Enter (record { key = k; scope = t.scope; node = w.0; via = w.1 })) way ≡ Some (moves.Open o) → ⊥
way_opens_none k o t None is = cc
way_opens_none k o t (Some way) is = cc

no_incident : (o : Option Incident) → is_some o ≡ false → o ≡ None
no_incident None is = refl
no_incident (Some i) is = absurd (cc)

opener_free : (b : Board) (moment k : ℕ) (o : Open) (mover : Mover) → IsMover b mover → move_of b moment k mover ≡ Some (moves.Open o) → incident_on b o.key ≡ None
opener_free b moment k o (movers.Cell cell) known is =
    let c = known.0 in
    let its : move_at b moment k c ≡ Some (moves.Open o) = sym (ap (option_and_then (move_at b moment k)) known.1) ∙ is in
    let r = free_by b moment k o c (is_doomed b c) known.3 its in
    subst (λ (q : ℕ). incident_on b q ≡ None) r.0 (no_incident (incident_on b c.key) r.1)
opener_free b moment k o (movers.Token t) known is = absurd (way_opens_none k o t (way_of b t) is)

-- on the cell that is forced to become active no incident stands
pub opens_free : (b : Board) (moment k : ℕ) (o : Open) (mover : Mover) → CellsAscend 0 b.cells → next_mover b ≡ Some mover → move_of b moment k mover ≡ Some (moves.Open o) → incident_on b o.key ≡ None
opens_free b moment k o mover up next is = opener_free b moment k o mover (mover_known b mover up next) is

-- an active cell that was told nothing, and on which no incident stands, may have the job that its node asks for
service_of : (t : Bool) (asked : Option Node) → IsTrue (is_some (if t then asked else None)) → t ≡ true
service_of true asked is = refl
service_of false asked is = absurd (cc)

waits_at : (b : Board) (key : ℕ) (items : List ℤ) (c : Cell) → cell_at b key ≡ Some (with_items items c) → IsTrue (is_unset c.mark) → incident_on b key ≡ None → IsTrue (is_some (work_at b key)) → IsTrue (may_have_job key b)
waits_at b key items c found unset free work =
    let its : (with_items items c).key ≡ key = key_found b key (with_items items c) found in
    let asks : IsTrue (is_some (work_of b (with_items items c))) = rw found at work in
    let service = service_of (is_service_cell b (with_items items c)) _ asks in
    let stands : is_stuck b (with_items items c) ≡ false = ap is_some (subst (λ (q : ℕ). incident_on b q ≡ None) (sym its) free) in
    rw (found, unset, service, stands) refl

none_of : (passes : Job → Bool) (xs : List Job) → All (λ (j : Job). passes j ≡ false) xs → find passes xs ≡ None
none_of passes [] out = refl
none_of passes (x ∷ xs) out =
    let first = All-head (λ (j : Job). passes j ≡ false) x xs out in
    rw first (none_of passes xs (All-tail (λ (j : Job). passes j ≡ false) x xs out))

-- an activating cell has no job
apart_by : (b : Board) (j : Job) (key : ℕ) (c : Cell) (t : Bool) → cell_at b key ≡ Some c → IsTrue (is_phase c.phase phases.Activating) → IsAwaited b j → (j.cell == key) ≡ t → t ≡ false
apart_by b j key c false found begins awaited other = refl
apart_by b j key c true found begins awaited same =
    let its : j.cell ≡ key = grind (arith, nat_tests) in
    let waits : IsTrue (option_map_or (awaits_work b) (cell_at b key) false) = subst (λ (q : ℕ). IsTrue (option_map_or (awaits_work b) (cell_at b q) false)) its awaited in
    let active = both_left (is_phase c.phase phases.Active) _ (at_cell (awaits_work b) (cell_at b key) c found waits) in
    absurd (two_phases c.phase begins active)
  where
    two_phases : (phase : Phase) → IsTrue (is_phase phase phases.Activating) → IsTrue (is_phase phase phases.Active) → ⊥
    two_phases phases.Activating begins active = cc
    two_phases phases.Active begins active = cc
    two_phases phases.Completing begins active = cc
    two_phases phases.Leaving begins active = cc
    two_phases phases.Terminating begins active = cc

no_job_begins : (p : ℕ) (es : List Event) (b : Board) (key : ℕ) (c : Cell) → HasSoundJobs p es b → cell_at b key ≡ Some c → IsTrue (is_phase c.phase phases.Activating) → job_on key es ≡ None
no_job_begins p es b key c sound found begins =
    none_of (λ j. j.cell == key) (jobs es) (All-weaker (IsAwaited b) (λ (j : Job). (j.cell == key) ≡ false) (λ j awaited. apart_by b j key c (j.cell == key) found begins awaited refl) (jobs es) sound.awaited)

-- behind the event by which a cell becomes active
module _ (p : ℕ) (es : List Event) (b : Board) (is : board_of es ≡ Some b) (k : BoardKeeps p es b) (keys : HasKeys p es keys_of_turn) (o : Open) (free : incident_on b o.key ≡ None) where
  abbrev active : Event
  active = events.ElementActivated (record { key = o.key; items = o.items })

  opened_by : (c : Cell) (after : Board) → cell_at b o.key ≡ Some c → IsTrue (is_phase c.phase phases.Activating) → Advances p es b active after → MayHaveWork p (es ++ active ∷ []) after o.key
  opened_by c after found begins h =
      let unset = (found_holds (is_keyed o.key) (λ (x : Cell). IsTrue (is_phase x.phase phases.Activating) → IsTrue (is_unset x.mark)) b.cells c k.unset found).0 begins in
      let there : IsTrue (is_some (cell_at b o.key)) = rw found refl in
      let counted_now : greatest_among p (o.key ∷ []) ≤ greatest_counter p es = cell_counted p o.key es b k (omega (arith, keys)) there in
      record {
        keys = keys_left p keys_of_turn es active keys counted_now;
        counted = (let grown = greatest_counter_more p es (active ∷ []) in omega (arith, counted_now, grown));
        waits = made_holds b (λ (x : Board). IsTrue (is_some (work_at x o.key)) → IsTrue (may_have_job o.key x)) after (moves.Open o)
            (λ c2 m found2 stands cells opened.
            let same : c2 ≡ c = (let both : Some c2 ≡ Some c = sym found2 ∙ found in cc) in
            waits_at (record b { cells = cells; tokens = b.tokens ++ start_tokens c2 m }) o.key o.items c2 (edited_found o.key (with_items o.items) c2 b.cells cells (λ x. refl) found2 opened) (subst (λ (x : Cell). IsTrue (is_unset x.mark)) (sym same) unset) free) h.leads;
        none = ap (find (λ j. j.cell == o.key)) (jobs_kept es active refl) ∙ no_job_begins p es b o.key c k.jobs found begins;
        runs = made_holds b (λ (x : Board). (c2 : Cell) → cell_at x o.key ≡ Some c2 → IsTrue (is_phase c2.phase phases.Active) × ((m : Model) → model_under x c2.definition ≡ Some m → IsTrue (is_well_formed m))) after (moves.Open o)
            (λ c2 m found2 stands cells opened c3 found3.
            let now : cell_at (record b { cells = cells; tokens = b.tokens ++ start_tokens c2 m }) o.key ≡ Some (with_items o.items c2) = edited_found o.key (with_items o.items) c2 b.cells cells (λ x. refl) found2 opened in
            let same : with_items o.items c2 ≡ c3 = (let both : Some (with_items o.items c2) ≡ Some c3 = sym now ∙ found3 in cc) in
            (subst (λ (x : Cell). IsTrue (is_phase x.phase phases.Active)) same refl, λ m2 stands2. formed_under b c3.definition m2 k.formed stands2)) h.leads;
      }

  -- a cell that has become active may have its job
  pub opened_may_work : (after : Board) → Advances p es b active after → MayHaveWork p (es ++ active ∷ []) after o.key
  opened_may_work after h =
      let found = some_of (cell_at b o.key) (holds_some _ (cell_at b o.key) h.fit) in
      let begins = both_left (is_phase found.0.phase phases.Activating) _ (at_cell _ (cell_at b o.key) found.0 found.1 h.fit) in
      opened_by found.0 after found.1 begins h

-- what the event of a move asks of those before it, and of their board, where one of each kind may follow
pub follows_by : (p : ℕ) (es : List Event) (b : Board) (before : Board) (move : Move) (e : Event) → event_of before move ≡ Some e
    → ((o : Open) → move ≡ moves.Open o → MayFollow p es b (events.ElementActivated (record { key = o.key; items = o.items })))
    → ((t : Triggered) → move ≡ moves.Trigger t → MayInterrupt p es b t.cell t.node) → BoardKeeps p es b
    → ((l : Leave) → move ≡ moves.Leave l → MayRestart p es) → ((key : ℕ) → move ≡ moves.Gone key → MayRestart p es) → MayFollow p es b e
follows_by p es b before (moves.Stand d) e told opens tells keeps leaves goes = absurd (cc)
follows_by p es b before (moves.Start s) e told opens tells keeps leaves goes = absurd (cc)
follows_by p es b before (moves.Enter x) e told opens tells keeps leaves goes = mapped_holds (MayFollow p es b) _ (cell_at before x.scope) e (λ c found. keeps) told
follows_by p es b before (moves.Inner i) e told opens tells keeps leaves goes = mapped_holds (MayFollow p es b) _ (cell_at before i.body) e (λ c found. keeps) told
follows_by p es b before (moves.Undo u) e told opens tells keeps leaves goes = mapped_holds (MayFollow p es b) _ (cell_at before u.event) e (λ c found. keeps) told
follows_by p es b before (moves.Open o) e told opens tells keeps leaves goes = subst (MayFollow p es b) (let same : events.ElementActivated (record { key = o.key; items = o.items }) ≡ e = cc in same) (opens o refl)
follows_by p es b before (moves.Finish key) e told opens tells keeps leaves goes = subst (MayFollow p es b) (let same : events.ElementCompleting key ≡ e = cc in same) keeps.timers
follows_by p es b before (moves.Leave l) e told opens tells keeps leaves goes = subst (MayFollow p es b) (let same : events.ElementCompleted (record { key = l.key; owed = l.owed }) ≡ e = cc in same) (leaves l refl)
follows_by p es b before (moves.Take t) e told opens tells keeps leaves goes = subst (MayFollow p es b) (let same : events.SequenceFlowTaken (record { key = t.key; flow = t.flow }) ≡ e = cc in same) tt
follows_by p es b before (moves.Halt key) e told opens tells keeps leaves goes = subst (MayFollow p es b) (let same : events.ElementTerminating key ≡ e = cc in same) (keeps.incidents.apart, keeps.timers)
follows_by p es b before (moves.Gone key) e told opens tells keeps leaves goes = subst (MayFollow p es b) (let same : events.ElementTerminated key ≡ e = cc in same) (goes key refl)
follows_by p es b before (moves.Assign a) e told opens tells keeps leaves goes = absurd (cc)
follows_by p es b before (moves.Update a) e told opens tells keeps leaves goes = absurd (cc)
follows_by p es b before (moves.Done key) e told opens tells keeps leaves goes = absurd (cc)
follows_by p es b before (moves.Throw t) e told opens tells keeps leaves goes = absurd (cc)
follows_by p es b before (moves.Trigger t) e told opens tells keeps leaves goes = subst (MayFollow p es b) (let same : events.ProcessEventTriggered (record { cell = t.cell; node = t.node }) ≡ e = cc in same) (tells t refl)
follows_by p es b before (moves.Incident i) e told opens tells keeps leaves goes =
    subst (MayFollow p es b) (let same : events.IncidentCreated (record { key = i.key; kind = i.kind; cell = i.cell; job = i.job; text = i.text }) ≡ e = cc in same) tt
follows_by p es b before (moves.Repair key) e told opens tells keeps leaves goes = absurd (cc)
