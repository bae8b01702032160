-- The handlers of a log whose events apply: each undoes the activity that finished last in its scope, and each activity that can be undone is kept until one does.
use Rattle.std.proofs.Common.{◌≡◌, ◌⊎◌, ℕ, zero, suc, ◌+◌, ◌-◌, ◌<◌, ◌≤◌, ◌==◌, length, take, get_or, List, [], ◌∷◌, ◌++◌, Bool, true, false, ◌&&◌, ◌||◌, not, if◌then◌else◌, IsTrue, IsFalse, is_some, Option, Some, None, option_map, option_and_then, All, refl, inl, inr, ⊎_elim, sym, ap, ◌∙◌, subst, append-nil, append_assoc, arith}
use Rattle.std.specs.Prelude.{slice_get}
use Rattle.std.specs.Option.{option_map_or, IfSome}
use Rattle.std.specs.List.{find}
use Rattle.std.proofs.lemmas.Bool.{and_parts, and_from, or_parts, not-true}
use Rattle.std.proofs.lemmas.Bool.Decides.{nat_tests}
use Rattle.std.proofs.lemmas.List.{take_more, take_all, length-append}
use Rattle.std.proofs.lemmas.List.Elements.{All-nil, All-take, All-push, All-weaker}
use Rattle.std.proofs.lemmas.List.Folds.{find-append}
use Rattle.std.proofs.lemmas.Option.{slice_get-get_or, slice_get_within, get_or_from_slice_get}
use Rattle.zb_process.specs.declared.model.Model.{Model}
use Rattle.zb_process.specs.declared.model.Node.{Node}
use Rattle.zb_process.specs.declared.model.NodeKind.{NodeKind}
use Rattle.zb_process.specs.declared.model.NodeKind.TheVariants as kinds
use Rattle.zb_faults.specs.Elements.{node_with, is_activity, is_at, is_terminate_end}
use Rattle.zb_instance_records.specs.declared.instance.ElementActivating.{ElementActivating}
use Rattle.zb_instance_records.specs.declared.instance.ElementCompleted.{ElementCompleted}
use Rattle.zb_instance_records.specs.declared.instance.Role.{Role}
use Rattle.zb_instance_records.specs.declared.instance.Role.TheVariants as roles
use Rattle.zb_model.specs.declared.record.Event.{Event}
use Rattle.zb_model.specs.declared.record.Event.TheVariants as events
use Rattle.zb_views.specs.View.{next_key}
use Rattle.zb_views.specs.Jobs.{job_at}
use Rattle.zb_tokens.specs.declared.board.Cell.{Cell}
use Rattle.zb_tokens.specs.declared.board.Deployed.{Deployed}
use Rattle.zb_tokens.specs.declared.board.Leave.{Leave}
use Rattle.zb_tokens.specs.declared.board.Undo.{Undo}
use Rattle.zb_tokens.specs.declared.board.Move.{Move}
use Rattle.zb_tokens.specs.declared.board.Move.TheVariants as moves
use Rattle.zb_tokens.specs.declared.board.Phase.TheVariants as phases
use Rattle.zb_tokens.specs.Edits.{edited}
use Rattle.zb_tokens.specs.Board.{Board, CellsAscend, cell_at, model_under, has_child, is_body, is_phase, is_role, is_root, undoes, owes_none, in_phase}
use Rattle.zb_tokens.specs.Bodies.{has_item}
use Rattle.zb_tokens.specs.Handlers.{handler_of, has_handler_at, can_be_undone, last_finished, next_handler, has_handler}
use Rattle.zb_tokens.specs.Game.{empty_board, fits, played}
use Rattle.zb_tokens.specs.MoveFinish.{acts, is_done}
use Rattle.zb_tokens.specs.MoveLeave.{leaving, ends_scope, with_finished, noted_finished, left_behind}
use Rattle.zb_tokens.specs.MoveUndo.{runs_handler, handler_in, one_undone}
use Rattle.zb_tokens.proofs.GameLaws.{both_left, both_right, holds_some, found_holds, edited_some, any_found}
use Rattle.zb_tokens.proofs.LeaveLaws.{same_bytes}
use Rattle.zb_rules.specs.Shown.{holds_of_game, shown, move_of_cell, after_shown, board_of, event_of}
use Rattle.zb_rules.specs.Applies.{holds_own, begins_instance, begins_cell, applies, all_apply}
use Rattle.zb_rules.specs.Sound.{HasKeys}
use Rattle.zb_rules.specs.Undone.{finishes_in, undoes_in, times_from, times_finished, times_undone, IsOfLast}
use Rattle.zb_rules.proofs.AppliedLaws.{Advances, some_of, applied_from, applied_board, holds_of_all}
use Rattle.zb_rules.proofs.CatchLaws.{found_here}
use Rattle.zb_rules.proofs.CellsLaws.{ascend_between, key_made}
use Rattle.zb_rules.proofs.GrowthLaws.{job_shows, started, undone_by, handler_shown}
use Rattle.zb_rules.proofs.HandlersLaws.{IsNext, next_is, handles_next}
use Rattle.zb_rules.proofs.KeyedLaws.{OfKey, first_of_key, found_of_key, shown_keeps, IsPast, found_past, past_on, new_above, shown_moves, last_advances}
use Rattle.zb_rules.proofs.KeysLaws.{HasOrderedCells}
use Rattle.zb_rules.proofs.MadeLaws.{is_keyed, left_holds, made_holds}
use Rattle.zb_rules.proofs.ModelsLaws.{model_among, models_shown, among_more}
use Rattle.zb_rules.proofs.PlacedLaws.{key_found, Stands, its_scope}
use Rattle.zb_rules.proofs.PlayedLaws.{CellKept}
use Rattle.zb_rules.proofs.ProgressLaws.{handler_event, handler_holds}
use Rattle.zb_rules.proofs.ScopesLaws.{at_cell, edited_found, edited_other, removed_other}
use Rattle.zb_rules.proofs.SoundLaws.{BoardKeeps, keeps_on, keeps_first, board_keeps}

-- one where a test is passed
abbrev one_if : Bool → ℕ
one_if t = if t then 1 else 0

-- a list is empty, or its last one behind the others
last_of : {A : Type 0} (xs : List A) → (xs ≡ []) ⊎ ((x : A) × (slice_get xs (length xs - 1) ≡ Some x) × (xs ≡ take (length xs - 1) xs ++ x ∷ []))
last_of [] = inl refl
last_of {A} (a ∷ more) =
    let xs : List A = a ∷ more in
    let n = length more in
    let whole : take (n + 1) xs ≡ xs = take_all (n + 1) xs (omega arith) in
    let back : length xs - 1 ≡ n = omega arith in
    let last = get_or xs n a in
    inr (
      last,
      subst (λ (k : ℕ). slice_get xs k ≡ Some last) (sym back) (slice_get-get_or xs n a (omega arith)),
      subst (λ (k : ℕ). xs ≡ take k xs ++ last ∷ []) (sym back) (sym whole ∙ take_more xs n a (omega arith)),
    )

-- a move by which a handler begins fits where it is the next one
undo_is : (b : Board) (u : Undo) → IsTrue (fits b (moves.Undo u)) → (c : Cell) × (cell_at b u.event ≡ Some c) × IsNext b c u.node
undo_is b u fit =
    let found = some_of (cell_at b u.event) (holds_some (runs_handler b u.node) (cell_at b u.event) fit) in
    let runs = at_cell (runs_handler b u.node) (cell_at b u.event) found.0 found.1 fit in
    (found.0, found.1, next_is b found.0 u.node (handles_next b found.0 u.node runs))

-- a handler that begins shows by the move of its event
shown_undone : (p : ℕ) (before : List Event) (a : ElementActivating) → IsTrue (holds_own p before (events.ElementActivating a)) → IsTrue (is_role a.role roles.Handler) → shown before (events.ElementActivating a) ≡ Some (moves.Undo (undone_by a))
shown_undone p before a own handler = by_scope (a.scope == 0) own
  where
    not_plain : (role : Role) → IsTrue (is_role role roles.Handler) → IsTrue (is_role role roles.Plain) → ⊥
    not_plain roles.Handler handler plain = cc
    not_plain role handler plain = cc

    by_scope : (t : Bool) → IsTrue (if t then is_role a.role roles.Plain && begins_instance before a else begins_cell p before a) → (if t then Some (moves.Start (started a)) else Some (move_of_cell a a.role)) ≡ Some (moves.Undo (undone_by a))
    by_scope true own = absurd (not_plain a.role handler (both_left (is_role a.role roles.Plain) _ own))
    by_scope false own = ap Some (handler_shown a a.role handler)

-- behind its event the activity that finished last is no more among those to be undone
undone_of_last : (b after : Board) (a : ElementActivating) → IsTrue (fits b (moves.Undo (undone_by a))) → played b (moves.Undo (undone_by a)) ≡ Some after → IsOfLast b after a
undone_of_last b after a fit made = made_holds b (λ (x : Board). IsOfLast b x a) after (moves.Undo u) (λ c found cells edit. of_last c found cells edit) made
  where
    u : Undo
    u = undone_by a

    by_last : (s : Cell) (activity : List ℕ) → last_finished s ≡ Some activity → s.finished ≡ take (length s.finished - 1) s.finished ++ activity ∷ []
    by_last s activity last = ⊎_elim
        (λ empty. absurd (let at = subst (λ (xs : List (List ℕ)). slice_get xs (length xs - 1) ≡ Some activity) empty last in cc))
        (λ r. let both : Some r.0 ≡ Some activity = sym r.1 ∙ last in subst (λ (x : List ℕ). s.finished ≡ take (length s.finished - 1) s.finished ++ x ∷ []) (let one : r.0 ≡ activity = cc in one) r.2)
        (last_of s.finished)

    of_last : (c : Cell) → cell_at b a.scope ≡ Some c → (cells : List Cell) → edited (is_keyed c.scope) one_undone b.cells ≡ Some cells → IsOfLast b (record b { cells = cells ++ handler_in u c ∷ [] }) a
    of_last c found cells edit =
        let r = undo_is b u fit in
        let one : r.0 ≡ c = (let both : Some r.0 ≡ Some c = sym r.1 ∙ found in cc) in
        let n = subst (λ (x : Cell). IsNext b x a.node) one r.2 in
        let there : find (is_keyed c.scope) cells ≡ Some (one_undone n.scope) = edited_found c.scope one_undone n.scope b.cells cells (λ x. refl) n.around edit in
        record {
          event = c;
          scope = n.scope;
          later = one_undone n.scope;
          model = n.model;
          activity = n.activity;
          there = found;
          around = n.around;
          behind = rw (find-append (is_keyed c.scope) cells (handler_in u c ∷ []), there) refl;
          stands = n.stands;
          is_its = n.its;
          is_last = by_last n.scope n.activity n.last;
        }

-- behind the event of a handler
pub handler_is_of_last : (p : ℕ) (es : List Event) (a : ElementActivating) (b after : Board) → Advances p es b (events.ElementActivating a) after → IsTrue (is_role a.role roles.Handler) → IsOfLast b after a
handler_is_of_last p es a b after h handler =
    let moved = shown_moves p es b (events.ElementActivating a) after (moves.Undo (undone_by a)) h (shown_undone p es a h.own handler) in
    undone_of_last b after a moved.0 moved.1

-- a move neither finishes an activity that can be undone nor begins a handler in this scope
abbrev Spares : Board → ℕ → Move → Type 0
Spares b key (moves.Leave l) = (c : Cell) → cell_at b l.key ≡ Some c → IsTrue (can_be_undone b c) → c.scope ≡ key → ⊥
Spares b key (moves.Undo u) = (c : Cell) → cell_at b u.event ≡ Some c → c.scope ≡ key → ⊥
Spares b key move = Unit {0}

module _ (b : Board) (key : ℕ) (finished : List (List ℕ)) where
  abbrev Keeps : Cell → Type 0
  Keeps = OfKey key (λ c. c.finished ≡ finished)

  new_apart : (new : ℕ) → key < new → new ≡ key → ⊥
  new_apart new above same = omega (arith, above, same)

  -- so it leaves its list as it is
  finished_kept : (move : Move) → IfSome (key_made move) (λ new. key < new) → Spares b key move → CellKept b Keeps move
  finished_kept (moves.Stand d) new spares = tt
  finished_kept (moves.Start s) new spares = λ node there same. absurd (new_apart s.key new same)
  finished_kept (moves.Enter e) new spares = λ c m found under same. absurd (new_apart e.key new same)
  finished_kept (moves.Inner i) new spares = (λ c found same. absurd (new_apart i.key new same), λ c found is. is)
  finished_kept (moves.Undo u) new spares = λ c found. (
    λ same. absurd (new_apart u.key new same),
    λ x there is same. absurd (spares c found (sym (key_found b c.scope x there) ∙ same)),
  )
  finished_kept (moves.Open o) new spares = λ c found is. is
  finished_kept (moves.Finish cell) new spares = λ c found is. is
  finished_kept (moves.Leave l) new spares = (λ flow owed its c found is. is, λ c is. is, λ c found can scope at is same. absurd (spares c found can (sym at ∙ same)))
  finished_kept (moves.Take t) new spares = λ flow owed c found is. is
  finished_kept (moves.Halt cell) new spares = λ c found is. is
  finished_kept (moves.Gone cell) new spares = tt
  finished_kept (moves.Assign a) new spares = λ c found is. is
  finished_kept (moves.Update a) new spares = λ c found is. is
  finished_kept (moves.Done cell) new spares = λ c found is. is
  finished_kept (moves.Throw t) new spares = λ c found is. is
  finished_kept (moves.Trigger t) new spares = λ c found mark at is. is
  finished_kept (moves.Incident i) new spares = tt
  finished_kept (moves.Repair cell) new spares = tt

-- an event that does neither shows such a move
spares_shown : (before : List Event) (b : Board) (key : ℕ) (e : Event) → IsFalse (finishes_in key e b) → IsFalse (undoes_in key e b) → IfSome (shown before e) (Spares b key)
spares_shown before b key (events.ElementActivating a) finishes none = by_scope (a.scope == 0)
  where
    by_role : (role : Role) → IsFalse (is_role role roles.Handler && option_map_or (λ c. c.scope == key) (cell_at b a.scope) false) → Spares b key (move_of_cell a role)
    by_role roles.Handler none = λ c found same.
        let other : (c.scope == key) ≡ false = rw found at none in
        absurd (let is : (c.scope == key) ≡ true = grind (arith, nat_tests, same) in cc)
    by_role roles.Plain none = tt
    by_role roles.Body none = tt
    by_role roles.Inner none = tt

    by_scope : (t : Bool) → IfSome (if t then Some (moves.Start (started a)) else Some (move_of_cell a a.role)) (Spares b key)
    by_scope true = tt
    by_scope false = by_role a.role none
spares_shown before b key (events.ElementCompleted l) none undoes = λ c found can same.
    let its : IsFalse ((c.scope == key) && can_be_undone b c) = rw found at none in
    let is : (c.scope == key) ≡ true = grind (arith, nat_tests, same) in
    absurd (let both = and_from (c.scope == key) (can_be_undone b c) is can in cc)
spares_shown before b key (events.JobCompleted job) finishes undoes = job_shows (λ (m : Option Move). IfSome m (Spares b key)) (λ j. moves.Done j.cell) (job_at job before) tt (λ j. tt)
spares_shown before b key (events.JobErrorThrown t) finishes undoes = job_shows (λ (m : Option Move). IfSome m (Spares b key)) (λ j. moves.Throw (record { cell = j.cell; code = t.code })) (job_at t.key before) tt (λ j. tt)
spares_shown before b key e finishes undoes = tt

module _ (p : ℕ) (before : List Event) (b : Board) (e : Event) (after : Board) (h : Advances p before b e after) (s : HasOrderedCells p before b) where
  -- and another event leaves the list of a scope as it is
  pub others_keep : (key : ℕ) (c later : Cell) → IsFalse (finishes_in key e b) → IsFalse (undoes_in key e b) → cell_at b key ≡ Some c → cell_at after key ≡ Some later → later.finished ≡ c.finished
  others_keep key c later none_finishes none_undoes found found_later =
      let first = first_of_key key (λ (x : Cell). x.finished ≡ c.finished) b c (ascend_between 1 (next_key p before) b.cells s.between) found refl in
      let kept = by_shown (shown before e) (new_above p before b e after h key (found_past p before b key c s found)) (spares_shown before b key e none_finishes none_undoes) in
      found_of_key key (λ (x : Cell). x.finished ≡ c.finished) after later (shown_keeps (Keeps b key c.finished) b after (shown before e) kept h.leads first) found_later
    where
      by_shown : (move : Option Move) → IfSome (option_and_then key_made move) (λ new. key < new) → IfSome move (Spares b key) → IfSome move (CellKept b (Keeps b key c.finished))
      by_shown None new spares = tt
      by_shown (Some move) new spares = finished_kept b key c.finished move new spares

-- an activity isn't a terminate end event
apart_kinds : (kind : NodeKind) → IsTrue (is_activity kind) → is_terminate_end kind ≡ false
apart_kinds kinds.TerminateEndEvent is = absurd (cc)
apart_kinds kind is = refl

-- so a cell that can be undone ends no scope
none_ends : (b : Board) (c : Cell) → IsTrue (can_be_undone b c) → ends_scope b c ≡ false
none_ends b c can = by_model (model_under b c.definition) (both_right (not (owes_none c)) _ can)
  where
    with_false : (t : Bool) → (t && false) ≡ false
    with_false true = refl
    with_false false = refl

    by_node : (m : Model) → IsTrue (is_at m c.node is_activity) → is_at m c.node is_terminate_end ≡ false
    by_node m is = at_node (node_with m c.node) is
      where
        at_node : (found : Option Node) → IsTrue (option_map_or (λ n. is_activity n.kind) found false) → option_map_or (λ n. is_terminate_end n.kind) found false ≡ false
        at_node None is = absurd (cc)
        at_node (Some n) is = apart_kinds n.kind is

    by_model : (found : Option Model) → IsTrue (option_map_or (λ m. has_handler_at m c.node) found false) → (not (is_root c) && option_map_or (λ m. is_at m c.node is_terminate_end) found false) ≡ false
    by_model None is = absurd (cc)
    by_model (Some m) is = ap (λ (t : Bool). not (is_root c) && t) (by_node m (both_left (is_at m c.node is_activity) _ is)) ∙ with_false (not (is_root c))

-- and is no root
no_root_of : (b : Board) (c : Cell) → IsTrue (can_be_undone b c) → IsFalse (is_root c)
no_root_of b c can = (or_parts (is_root c) _ (not-true (owes_none c) (both_left (not (owes_none c)) _ can))).0

-- as it leaves, its node is put behind those that finished in its scope
noted_behind : (b after : Board) (l : Leave) (c scope : Cell) → cell_at b l.key ≡ Some c → IsTrue (can_be_undone b c) → (c.scope == l.key) ≡ false → cell_at b c.scope ≡ Some scope
    → played b (moves.Leave l) ≡ Some after → cell_at after c.scope ≡ Some (with_finished c.node scope)
noted_behind b after l c scope found can apart around made = made_holds b (λ (x : Board). cell_at x c.scope ≡ Some (with_finished c.node scope)) after (moves.Leave l) by_cell made
  where
    with_note : (left : Board) → cell_at left c.scope ≡ Some scope → cell_at (noted_finished c.scope c.node left) c.scope ≡ Some (with_finished c.node scope)
    with_note left there =
        let some = some_of (edited (is_keyed c.scope) (with_finished c.node) left.cells)
        (edited_some (is_keyed c.scope) (with_finished c.node) left.cells (any_found (is_keyed c.scope) left.cells (ap is_some there))) in
        let now = edited_found c.scope (with_finished c.node) scope left.cells some.0 (λ x. refl) there some.1 in
        rw some.1 now

    still_there : (left : Board) → leaving l.owed l.key b ≡ Some left → cell_at left c.scope ≡ Some scope
    still_there left led = left_holds b (λ (x : Board). cell_at x c.scope ≡ Some scope) left l.owed l.key
        (λ cells gone. removed_other l.key c.scope apart b.cells cells gone ∙ around)
        (λ flow more same cells edit. edited_other l.key c.scope apart (in_phase phases.Leaving (flow ∷ more)) b.cells cells (λ x. refl) edit ∙ around) led

    by_cell : (x : Cell) → cell_at b l.key ≡ Some x → (left : Board) → leaving l.owed l.key b ≡ Some left → cell_at (left_behind b x left) c.scope ≡ Some (with_finished c.node scope)
    by_cell x there left led =
        let one : c ≡ x = (let both : Some c ≡ Some x = sym found ∙ there in cc) in
        subst (λ (y : Cell). cell_at (left_behind b y left) c.scope ≡ Some (with_finished c.node scope)) one (rw (none_ends b c can, can) (with_note left (still_there left led)))

-- a cell that can be undone, in a scope that is there
record HasFinished (b : Board) (key : ℕ) (e : Event) : Type 0 where
  told : ElementCompleted
  is : e ≡ events.ElementCompleted told
  cell : Cell
  found : cell_at b told.key ≡ Some cell
  in_scope : cell.scope ≡ key
  can : IsTrue (can_be_undone b cell)

finished_is : (b : Board) (key : ℕ) (e : Event) → IsTrue (finishes_in key e b) → HasFinished b key e
finished_is b key (events.ElementCompleted l) is =
    let found = some_of (cell_at b l.key) (holds_some (λ c. (c.scope == key) && can_be_undone b c) (cell_at b l.key) is) in
    let its = and_parts (found.0.scope == key) (can_be_undone b found.0) (at_cell (λ c. (c.scope == key) && can_be_undone b c) (cell_at b l.key) found.0 found.1 is) in
    record { told = l; is = refl; cell = found.0; found = found.1; in_scope = (let same = its.0 in grind (arith, nat_tests)); can = its.1 }
finished_is b key e is = absurd (cc)

-- the event of a handler in this scope
record HasUndone (b : Board) (key : ℕ) (e : Event) : Type 0 where
  told : ElementActivating
  is : e ≡ events.ElementActivating told
  handler : IsTrue (is_role told.role roles.Handler)
  event : Cell
  found : cell_at b told.scope ≡ Some event
  in_scope : event.scope ≡ key

undone_is : (b : Board) (key : ℕ) (e : Event) → IsTrue (undoes_in key e b) → HasUndone b key e
undone_is b key (events.ElementActivating a) is =
    let parts = and_parts (is_role a.role roles.Handler) _ is in
    let found = some_of (cell_at b a.scope) (holds_some (λ c. c.scope == key) (cell_at b a.scope) parts.1) in
    let same = at_cell (λ c. c.scope == key) (cell_at b a.scope) found.0 found.1 parts.1 in
    record { told = a; is = refl; handler = parts.0; event = found.0; found = found.1; in_scope = grind (arith, nat_tests, same) }
undone_is b key e is = absurd (cc)

module _ (p : ℕ) (before : List Event) (b : Board) (e : Event) (after : Board) (h : Advances p before b e after) (k : BoardKeeps p before b) where
  -- an activity that can be undone finishes in a scope that is there, in which it is put behind the others
  scope_there : (key : ℕ) (f : HasFinished b key e) → (s : Cell) × (cell_at b key ≡ Some s) × (f.cell.scope < f.told.key)
  scope_there key f =
      let stands = (found_holds (is_keyed f.told.key) (Stands b) b.cells f.cell k.placed.cells f.found).0 in
      let its = its_scope b f.cell stands (no_root_of b f.cell f.can) in
      let below : f.cell.scope < f.cell.key = its.3 in
      (its.0, subst (λ (q : ℕ). cell_at b q ≡ Some its.0) f.in_scope its.1, subst (λ (q : ℕ). f.cell.scope < q) (key_found b f.told.key f.cell f.found) below)

  scope_notes : (key : ℕ) (f : HasFinished b key e) (c : Cell) → cell_at b key ≡ Some c → cell_at after key ≡ Some (with_finished f.cell.node c)
  scope_notes key f c found =
      let l : Leave = record { key = f.told.key; owed = f.told.owed } in
      let moved = shown_moves p before b e after (moves.Leave l) h (ap (shown before) f.is) in
      let less = (scope_there key f).2 in
      let apart : (f.cell.scope == l.key) ≡ false = grind (arith, nat_tests, less) in
      let around : cell_at b f.cell.scope ≡ Some c = subst (λ (q : ℕ). cell_at b q ≡ Some c) (sym f.in_scope) found in
      subst (λ (q : ℕ). cell_at after q ≡ Some (with_finished f.cell.node c)) f.in_scope (noted_behind b after l f.cell c f.found f.can apart around moved.1)

  -- and a handler begins in one
  undone_in : (key : ℕ) (u : HasUndone b key e) → IsOfLast b after u.told
  undone_in key u = handler_is_of_last p before u.told b after (subst (λ (x : Event). Advances p before b x after) u.is h) u.handler

  event_is : (key : ℕ) (u : HasUndone b key e) → (undone_in key u).event.scope ≡ key
  event_is key u =
      let l = undone_in key u in
      let both : Some u.event ≡ Some l.event = sym u.found ∙ l.there in
      let one : u.event ≡ l.event = cc in
      ap (λ (x : Cell). x.scope) (sym one) ∙ u.in_scope

  -- so the key of that was drawn
  finish_past : (key : ℕ) → IsTrue (finishes_in key e b) → IsPast p before key
  finish_past key is = let r = scope_there key (finished_is b key e is) in found_past p before b key r.0 k.stands r.1

  undone_past : (key : ℕ) → IsTrue (undoes_in key e b) → IsPast p before key
  undone_past key is =
      let u = undone_is b key e is in
      let l = undone_in key u in
      found_past p before b key l.scope k.stands (subst (λ (q : ℕ). cell_at b q ≡ Some l.scope) (event_is key u) l.around)

-- how often a test is passed as one event more comes
times_more : (does : Event → Board → Bool) (before es : List Event) (e : Event) → times_from does before (es ++ e ∷ []) ≡ times_from does before es + one_if (holds_of_game (does e) (before ++ es))
times_more does before [] e = subst (λ (l : List Event). one_if (holds_of_game (does e) before) + 0 ≡ 0 + one_if (holds_of_game (does e) l)) (sym (append-nil before)) (omega arith)
times_more does before (x ∷ es) e =
    let later = subst (λ (l : List Event). times_from does (before ++ x ∷ []) (es ++ e ∷ []) ≡ times_from does (before ++ x ∷ []) es + one_if (holds_of_game (does e) l)) (append_assoc before (x ∷ []) es) (times_more does (before ++ x ∷ []) es e) in
    omega (arith, later)

-- on the board of those before it
times_on : (does : Event → Board → Bool) (es : List Event) (e : Event) (b : Board) → board_of es ≡ Some b → times_from does [] (es ++ e ∷ []) ≡ times_from does [] es + one_if (does e b)
times_on does es e b is = times_more does [] es e ∙ ap (λ (o : Option Board). times_from does [] es + one_if (option_map_or (does e) o false)) is

-- a cell was there with its definition, or begins with nothing finished in it
abbrev Came : Board → Option ℕ → Cell → Type 0
Came b made c = ((x : Cell) × (cell_at b c.key ≡ Some x) × (x.definition ≡ c.definition)) ⊎ ((c.finished ≡ []) × (made ≡ Some c.key))

-- a node has a handler in the model of a definition
abbrev HandlerAt : Board → ℕ → List ℕ → Type 0
HandlerAt b definition node = IsTrue (option_map_or (λ m. is_some (handler_of m node)) (model_under b definition) false)

-- each activity that finished in a cell has a handler in its model
abbrev HasHandlers : Board → Cell → Type 0
HasHandlers b c = All (HandlerAt b c.definition) c.finished

handler_in_model : (m : Model) (node : List ℕ) → IsTrue (has_handler_at m node) → IsTrue (is_some (handler_of m node))
handler_in_model m node is = both_right (is_at m node is_activity) _ is

handler_there : (b : Board) (c : Cell) → IsTrue (can_be_undone b c) → HandlerAt b c.definition c.node
handler_there b c can = by_model (model_under b c.definition) (both_right (not (owes_none c)) _ can)
  where
    by_model : (found : Option Model) → IsTrue (option_map_or (λ m. has_handler_at m c.node) found false) → IsTrue (option_map_or (λ m. is_some (handler_of m c.node)) found false)
    by_model None is = absurd (cc)
    by_model (Some m) is = handler_in_model m c.node is

module _ (b after : Board) (still : (definition : ℕ) (node : List ℕ) → HandlerAt b definition node → HandlerAt after definition node) (stand : All (Stands b) b.cells) where
  abbrev CameWith : Option ℕ → Cell → Type 0
  CameWith made c = Came b made c × HasHandlers after c

  -- a cell in which one finishes was there, with the same definition
  same_definition : (c scope : Cell) (key : ℕ) → cell_at b key ≡ Some c → IsTrue (can_be_undone b c) → scope.key ≡ c.scope → Came b None scope → c.definition ≡ scope.definition
  same_definition c scope key found can at came = ⊎_elim
      (λ r.
      let its = its_scope b c (found_holds (is_keyed key) (Stands b) b.cells c stand found).0 (no_root_of b c can) in
      let there : cell_at b c.scope ≡ Some r.0 = subst (λ (q : ℕ). cell_at b q ≡ Some r.0) at r.1 in
      let both : Some its.0 ≡ Some r.0 = sym its.1 ∙ there in
      let one : its.0 ≡ r.0 = cc in
      sym its.2 ∙ (ap (λ (x : Cell). x.definition) one ∙ r.2))
      (λ new. absurd (let none = new.1 in cc)) came

  came_kept : (move : Move) → CellKept b (CameWith (key_made move)) move
  came_kept (moves.Stand d) = tt
  came_kept (moves.Start s) = λ node there. (inr (refl, refl), All-nil (HandlerAt after s.definition))
  came_kept (moves.Enter e) = λ c m found under. (inr (refl, refl), All-nil (HandlerAt after c.definition))
  came_kept (moves.Inner i) = (λ c found. (inr (refl, refl), All-nil (HandlerAt after c.definition)), λ c found is. is)
  came_kept (moves.Undo u) = λ c found. (
    (inr (refl, refl), All-nil (HandlerAt after c.definition)),
    λ x there is. (
      inl (x, subst (λ (q : ℕ). cell_at b q ≡ Some x) (sym (key_found b c.scope x there)) there, refl),
      All-take (HandlerAt after x.definition) (length x.finished - 1) x.finished is.1,
    ),
  )
  came_kept (moves.Open o) = λ c found is. is
  came_kept (moves.Finish key) = λ c found is. is
  came_kept (moves.Leave l) = (
    λ flow owed same c found is. is,
    λ c is. is,
    λ c found can scope at is. (
      ⊎_elim (λ was. inl was) (λ new. absurd (let none = new.1 in cc)) is.0,
      All-push (HandlerAt after scope.definition) scope.finished c.node is.1
          (subst (λ (definition : ℕ). HandlerAt after definition c.node) (same_definition c scope l.key found can at is.0) (still c.definition c.node (handler_there b c can))),
    ),
  )
  came_kept (moves.Take t) = λ flow owed c found is. is
  came_kept (moves.Halt key) = λ c found is. is
  came_kept (moves.Gone key) = tt
  came_kept (moves.Assign a) = λ c found is. is
  came_kept (moves.Update a) = λ c found is. is
  came_kept (moves.Done key) = λ c found is. is
  came_kept (moves.Throw t) = λ c found is. is
  came_kept (moves.Trigger t) = λ c found mark at is. is
  came_kept (moves.Incident i) = tt
  came_kept (moves.Repair key) = tt

  came_on : (move : Option Move) → CellsAscend 1 b.cells → after_shown b move ≡ Some after → All (HasHandlers b) b.cells → All (CameWith (option_and_then key_made move)) after.cells
  came_on move up made all = shown_keeps (CameWith (option_and_then key_made move)) b after move (by_move move) made
      (λ n d within.
      let c = get_or b.cells n d in
      (inl (c, (found_here 1 b.cells up n d within).1, refl), All-weaker (HandlerAt b c.definition) (HandlerAt after c.definition) (still c.definition) c.finished (all n d within)))
    where
      by_move : (x : Option Move) → IfSome x (CellKept b (CameWith (option_and_then key_made x)))
      by_move None = tt
      by_move (Some one) = came_kept one

-- in a cell so many activities that can be undone have finished as handlers have begun for it, and are left
abbrev IsCounted : List Event → Cell → Type 0
IsCounted es c = times_finished c.key es ≡ times_undone c.key es + length c.finished

-- what each event keeps of the activities of a log that finished
record HasCounts (p : ℕ) (es : List Event) (b : Board) : Type 0 where
  keeps : BoardKeeps p es b
  past : (key : ℕ) → 1 ≤ times_finished key es + times_undone key es → IsPast p es key
  counted : All (IsCounted es) b.cells
  handlers : All (HasHandlers b) b.cells

module _ (p : ℕ) (before : List Event) (b : Board) (e : Event) (after : Board) (h : Advances p before b e after) (s : HasCounts p before b) where
  k : BoardKeeps p before b
  k = s.keeps

  abbrev now : List Event
  now = before ++ e ∷ []

  more_finished : (key : ℕ) → times_finished key now ≡ times_finished key before + one_if (finishes_in key e b)
  more_finished key = times_on (finishes_in key) before e b h.board

  more_undone : (key : ℕ) → times_undone key now ≡ times_undone key before + one_if (undoes_in key e b)
  more_undone key = times_on (undoes_in key) before e b h.board

  past_counts : (key : ℕ) → 1 ≤ times_finished key now + times_undone key now → IsPast p now key
  past_counts key some = by_tests (finishes_in key e b) (undoes_in key e b) refl refl
    where
      by_tests : (finishes undoes : Bool) → finishes_in key e b ≡ finishes → undoes_in key e b ≡ undoes → IsPast p now key
      by_tests true undoes is at = past_on p before b e after h key (finish_past p before b e after h k key is).below
      by_tests false true is at = past_on p before b e after h key (undone_past p before b e after h k key at).below
      by_tests false false is at =
          let f : times_finished key now ≡ times_finished key before + 0 = subst (λ (t : Bool). times_finished key now ≡ times_finished key before + one_if t) is (more_finished key) in
          let u : times_undone key now ≡ times_undone key before + 0 = subst (λ (t : Bool). times_undone key now ≡ times_undone key before + one_if t) at (more_undone key) in
          past_on p before b e after h key (s.past key (omega (arith, some, f, u))).below

  -- a cell that was there
  count_kept : (c x : Cell) → cell_at b x.key ≡ Some c → cell_at after x.key ≡ Some x → IsCounted now x
  count_kept c x found there = by_tests (finishes_in x.key e b) (undoes_in x.key e b) refl refl
    where
      was : times_finished x.key before ≡ times_undone x.key before + length c.finished
      was = subst (λ (q : ℕ). times_finished q before ≡ times_undone q before + length c.finished) (key_found b x.key c found) (found_holds (is_keyed x.key) (IsCounted before) b.cells c s.counted found).0

      counts : (finishes undoes : Bool) → finishes_in x.key e b ≡ finishes → undoes_in x.key e b ≡ undoes → length c.finished + one_if finishes ≡ one_if undoes + length x.finished → IsCounted now x
      counts finishes undoes is at same =
          let f = subst (λ (t : Bool). times_finished x.key now ≡ times_finished x.key before + one_if t) is (more_finished x.key) in
          let u = subst (λ (t : Bool). times_undone x.key now ≡ times_undone x.key before + one_if t) at (more_undone x.key) in
          omega (arith, f, u, was, same)

      by_finish : (f : HasFinished b x.key e) → (undoes : Bool) → finishes_in x.key e b ≡ true → undoes_in x.key e b ≡ undoes → IsCounted now x
      by_finish f undoes is at =
          let none : undoes ≡ false = sym at ∙ rw f.is refl in
          let its = scope_notes p before b e after h k x.key f c found in
          let both : Some (with_finished f.cell.node c) ≡ Some x = sym its ∙ there in
          let one : with_finished f.cell.node c ≡ x = cc in
          let long : length x.finished ≡ length c.finished + 1 = ap (λ (y : Cell). length y.finished) (sym one) ∙ length-append c.finished (f.cell.node ∷ []) in
          counts true false is (at ∙ none) (omega (arith, long))

      by_undone : (u : HasUndone b x.key e) → finishes_in x.key e b ≡ false → undoes_in x.key e b ≡ true → IsCounted now x
      by_undone u is at =
          let l = undone_in p before b e after h k x.key u in
          let in_it = event_is p before b e after h k x.key u in
          let around : cell_at b x.key ≡ Some l.scope = subst (λ (q : ℕ). cell_at b q ≡ Some l.scope) in_it l.around in
          let behind : cell_at after x.key ≡ Some l.later = subst (λ (q : ℕ). cell_at after q ≡ Some l.later) in_it l.behind in
          let one : l.scope ≡ c = (let both : Some l.scope ≡ Some c = sym around ∙ found in cc) in
          let other : l.later ≡ x = (let both : Some l.later ≡ Some x = sym behind ∙ there in cc) in
          let long : length l.scope.finished ≡ length l.later.finished + 1 = ap length l.is_last ∙ length-append l.later.finished (l.activity ∷ []) in
          let was_long : length c.finished ≡ length l.later.finished + 1 = subst (λ (y : Cell). length y.finished ≡ length l.later.finished + 1) one long in
          let same : length c.finished ≡ length x.finished + 1 = subst (λ (y : Cell). length c.finished ≡ length y.finished + 1) other was_long in
          counts false true is at (omega (arith, same))

      by_tests : (finishes undoes : Bool) → finishes_in x.key e b ≡ finishes → undoes_in x.key e b ≡ undoes → IsCounted now x
      by_tests true undoes is at = by_finish (finished_is b x.key e is) undoes is at
      by_tests false true is at = by_undone (undone_is b x.key e at) is at
      by_tests false false is at =
          let same = others_keep p before b e after h k.stands x.key c x is at found there in
          let long : length x.finished ≡ length c.finished = ap length same in
          counts false false is at (omega (arith, long))

  -- one that begins
  count_new : (x : Cell) → x.finished ≡ [] → option_and_then key_made (shown before e) ≡ Some x.key → IsCounted now x
  count_new x empty made =
      let f = more_finished x.key in
      let u = more_undone x.key in
      let none : length x.finished ≡ 0 = ap length empty in
      let no_finish : one_if (finishes_in x.key e b) ≡ 0 = by_test (finishes_in x.key e b) (finish_past p before b e after h k x.key) in
      let no_undo : one_if (undoes_in x.key e b) ≡ 0 = by_test (undoes_in x.key e b) (undone_past p before b e after h k x.key) in
      let was = by_count (times_finished x.key before + times_undone x.key before) refl in
      omega (arith, f, u, none, no_finish, no_undo, was)
    where
      fresh : IsPast p before x.key → ⊥
      fresh past =
          let above : x.key < x.key = subst (λ (o : Option ℕ). IfSome o (λ new. x.key < new)) made (new_above p before b e after h x.key past) in
          omega (arith, above)

      by_test : (t : Bool) → (IsTrue t → IsPast p before x.key) → one_if t ≡ 0
      by_test true past = absurd (fresh (past refl))
      by_test false past = refl

      by_count : (n : ℕ) → times_finished x.key before + times_undone x.key before ≡ n → times_finished x.key before + times_undone x.key before ≡ 0
      by_count zero is = is
      by_count (suc n) is = absurd (fresh (s.past x.key (omega (arith, is))))

  handlers_still : (definition : ℕ) (node : List ℕ) → HandlerAt b definition node → HandlerAt after definition node
  handlers_still definition node is =
      subst (λ (ms : List Deployed). IsTrue (option_map_or (λ m. is_some (handler_of m node)) (model_among ms definition) false)) (sym (models_shown b after (shown before e) h.leads))
      (among_more (λ o. option_map_or (λ m. is_some (handler_of m node)) o false) definition b.models _ refl is)

  counts_on : HasCounts p now after
  counts_on =
      let later = keeps_on p before b e after h k in
      let came = came_on b after handlers_still k.placed.cells (shown before e) (ascend_between 1 (next_key p before) b.cells k.stands.between) h.leads s.handlers in
      let here = found_here 1 after.cells (ascend_between 1 (next_key p now) after.cells later.stands.between) in
      record {
        keeps = later;
        past = past_counts;
        counted = λ n d within. ⊎_elim (λ r. count_kept r.0 (get_or after.cells n d) r.1 (here n d within).1) (λ new. count_new (get_or after.cells n d) new.0 new.1) (came n d within).0;
        handlers = λ n d within. (came n d within).1;
      }

counts_first : (p : ℕ) → HasCounts p [] empty_board
counts_first p = record {
  keeps = keeps_first p;
  past = λ key some. absurd (let out : ⊥ = omega (arith, some) in out);
  counted = All-nil (IsCounted []);
  handlers = All-nil (HasHandlers empty_board);
}

have_counts : (p : ℕ) (es : List Event) (b : Board) → IsTrue (all_apply p [] es) → board_of es ≡ Some b → HasCounts p es b
have_counts p es b apply is = holds_of_all p (HasCounts p) (counts_on p) es b (counts_first p) apply is

-- the last event of a log advances this board of those before it
advances_on : (p : ℕ) (es : List Event) (e : Event) (b after : Board) → IsTrue (all_apply p [] (es ++ e ∷ [])) → board_of es ≡ Some b → board_of (es ++ e ∷ []) ≡ Some after → IsTrue (all_apply p [] es) × Advances p es b e after
advances_on p es e b after apply is led =
    let r = last_advances p es e after apply led in
    let one : r.0 ≡ b = (let both : Some r.0 ≡ Some b = sym r.2 ∙ is in cc) in
    (r.1, subst (λ (x : Board). Advances p es x e after) one r.3)

-- a handler undoes the activity that finished last in the scope of its event
pub handlers_are_newest : (p : ℕ) (es : List Event) (a : ElementActivating) (b after : Board) → IsTrue (all_apply p [] (es ++ events.ElementActivating a ∷ [])) → IsTrue (is_role a.role roles.Handler)
    → board_of es ≡ Some b → board_of (es ++ events.ElementActivating a ∷ []) ≡ Some after → IsOfLast b after a
handlers_are_newest p es a b after apply handler is led = handler_is_of_last p es a b after (advances_on p es (events.ElementActivating a) b after apply is led).1 handler

-- an activity that can be undone is kept as it finishes
pub finished_are_kept : (p : ℕ) (es : List Event) (told : ElementCompleted) (b after : Board) (scope : ℕ) (c left later : Cell) → IsTrue (all_apply p [] (es ++ events.ElementCompleted told ∷ []))
    → board_of es ≡ Some b → board_of (es ++ events.ElementCompleted told ∷ []) ≡ Some after → cell_at b told.key ≡ Some left → IsTrue (finishes_in scope (events.ElementCompleted told) b)
    → cell_at b scope ≡ Some c → cell_at after scope ≡ Some later → later.finished ≡ c.finished ++ left.node ∷ []
finished_are_kept p es told b after scope c left later apply is led found finishes around found_later =
    let e = events.ElementCompleted told in
    let r = advances_on p es e b after apply is led in
    let its = and_parts (left.scope == scope) (can_be_undone b left) (at_cell (λ x. (x.scope == scope) && can_be_undone b x) (cell_at b told.key) left found finishes) in
    let f : HasFinished b scope e = record { told = told; is = refl; cell = left; found = found; in_scope = (let same = its.0 in grind (arith, nat_tests)); can = its.1 } in
    let noted = scope_notes p es b e after r.1 (board_keeps p es b r.0 is) scope f c around in
    let both : Some (with_finished left.node c) ≡ Some later = sym noted ∙ found_later in
    let one : with_finished left.node c ≡ later = cc in
    ap (λ (x : Cell). x.finished) (sym one)

-- and nothing else is made of those that are
pub others_leave_finished : (p : ℕ) (es : List Event) (e : Event) (b after : Board) (scope : ℕ) (c later : Cell) → IsTrue (all_apply p [] (es ++ e ∷ [])) → board_of es ≡ Some b → board_of (es ++ e ∷ []) ≡ Some after
    → IsFalse (finishes_in scope e b) → IsFalse (undoes_in scope e b) → cell_at b scope ≡ Some c → cell_at after scope ≡ Some later → later.finished ≡ c.finished
others_leave_finished p es e b after scope c later apply is led finishes undoes found found_later =
    let r = advances_on p es e b after apply is led in
    others_keep p es b e after r.1 (board_keeps p es b r.0 is).stands scope c later finishes undoes found found_later

-- so many finished in a scope as handlers began, and are left
pub finished_are_undone_once : (p : ℕ) (es : List Event) (b : Board) (scope : ℕ) (c : Cell) → IsTrue (all_apply p [] es) → board_of es ≡ Some b → cell_at b scope ≡ Some c
    → times_finished scope es ≡ times_undone scope es + length c.finished
finished_are_undone_once p es b scope c apply is found =
    subst (λ (q : ℕ). times_finished q es ≡ times_undone q es + length c.finished) (key_found b scope c found)
    (found_holds (is_keyed scope) (IsCounted es) b.cells c (have_counts p es b apply is).counted found).0

-- a compensation event is no root, and no body
undoes_apart : (m : Model) (c : Cell) → IsTrue (undoes m c) → IsFalse (is_root c) × IsFalse (is_body c)
undoes_apart m c does = or_parts (is_root c) (is_body c) (not-true (is_root c || is_body c) (both_left (not (is_root c || is_body c)) _ does))

-- it runs next the handler of what finished last in its scope
next_from : (b : Board) (c scope : Cell) (m : Model) (last node : List ℕ) → model_under b c.definition ≡ Some m → IsTrue (undoes m c) → cell_at b c.scope ≡ Some scope → last_finished scope ≡ Some last
    → handler_of m last ≡ Some node → next_handler b c ≡ Some node
next_from b c scope m last node stands does around at its = rw (stands, does, around, at, its) refl

-- an active event in which none runs may begin that
undo_fits : (b : Board) (u : Undo) (c : Cell) → cell_at b u.event ≡ Some c → c.phase ≡ phases.Active → has_child b c.key ≡ false → next_handler b c ≡ Some u.node → IsTrue (fits b (moves.Undo u))
undo_fits b u c found active alone next = rw (found, active, alone, next, same_bytes u.node) refl

module _ (p : ℕ) (es : List Event) (b : Board) (event : ℕ) (c scope : Cell) (m : Model) (apply : IsTrue (all_apply p [] es)) (is : board_of es ≡ Some b) (found : cell_at b event ≡ Some c)
    (stands : model_under b c.definition ≡ Some m) (does : IsTrue (undoes m c)) (around : cell_at b c.scope ≡ Some scope) where
  -- where an activity is left in its scope, a handler is
  next_there : (scope.finished ≡ []) ⊎ ((node : List ℕ) × (next_handler b c ≡ Some node))
  next_there = ⊎_elim (λ empty. inl empty) (λ r. inr (by_last r.0 r.1)) (last_of scope.finished)
    where
      of_model : model_under b scope.definition ≡ Some m
      of_model =
          let its = its_scope b c (found_holds (is_keyed event) (Stands b) b.cells c (board_keeps p es b apply is).placed.cells found).0 (undoes_apart m c does).0 in
          let both : Some its.0 ≡ Some scope = sym its.1 ∙ around in
          let one : its.0 ≡ scope = cc in
          subst (λ (definition : ℕ). model_under b definition ≡ Some m) (sym its.2 ∙ ap (λ (x : Cell). x.definition) one) stands

      by_last : (last : List ℕ) → slice_get scope.finished (length scope.finished - 1) ≡ Some last → (node : List ℕ) × (next_handler b c ≡ Some node)
      by_last last at =
          let all = (found_holds (is_keyed c.scope) (HasHandlers b) b.cells scope (have_counts p es b apply is).handlers around).0 in
          let n = length scope.finished - 1 in
          let has : HandlerAt b scope.definition last = subst (HandlerAt b scope.definition) (get_or_from_slice_get scope.finished n last last at) (all n last (slice_get_within scope.finished n last at)) in
          let in_model : IsTrue (is_some (handler_of m last)) = subst (λ (o : Option Model). IsTrue (option_map_or (λ x. is_some (handler_of x last)) o false)) of_model has in
          let node = some_of (handler_of m last) in_model in
          (node.0, next_from b c scope m last node.0 stands does around at node.1)

  -- where it begins to complete, no handler runs in it, and none is left
  pub compensation_is_over : IsTrue (applies p es (events.ElementCompleting event)) → (scope.finished ≡ []) × IsFalse (has_child b event)
  compensation_is_over first =
      let r = applied_board p es b (events.ElementCompleting event) is first in
      let h = at_cell (λ (x : Cell). is_phase x.phase phases.Active && is_done b x) (cell_at b event) c found r.1.fit in
      let done : IsTrue (is_done b c) = both_right (is_phase c.phase phases.Active) _ h in
      let none : has_handler b c ≡ false = (or_parts (is_body c && has_item c) (has_handler b c) (not-true _ (both_right (acts b c) _ done))).1 in
      let acting : IsTrue (acts b c) = both_left (acts b c) _ done in
      let apart = (undoes_apart m c does).1 in
      let alone : IsTrue (not (has_child b c.key)) = rw (stands, does, apart) at acting in
      let empty : scope.finished ≡ [] = ⊎_elim (λ it. it) (λ n. absurd (let there : has_handler b c ≡ true = ap is_some n.1 in cc)) next_there in
      (empty, subst (λ (q : ℕ). has_child b q ≡ false) (key_found b event c found) (not-true (has_child b c.key) alone))

  -- and where none does and none is left, it may
  pub compensation_completes : c.phase ≡ phases.Active → scope.finished ≡ [] → IsFalse (has_child b event) → IsTrue (applies p es (events.ElementCompleting event))
  compensation_completes active empty free =
      let alone : has_child b c.key ≡ false = subst (λ (q : ℕ). has_child b q ≡ false) (sym (key_found b event c found)) free in
      let last : last_finished scope ≡ None = ap (λ (xs : List (List ℕ)). slice_get xs (length xs - 1)) empty in
      let none : next_handler b c ≡ None = rw (stands, does, around, last) refl in
      let apart = (undoes_apart m c does).1 in
      let fit : IsTrue (fits b (moves.Finish event)) = rw (found, active, none, stands, does, apart, alone) refl in
      applied_from p es b (events.ElementCompleting event) (moves.Finish event) is refl refl fit

  -- where one is left and none runs, that one begins under the next key
  pub compensation_goes_on : HasKeys p es 1 → c.phase ≡ phases.Active → 1 ≤ length scope.finished → IsFalse (has_child b event)
      → (node : List ℕ) × (next_handler b c ≡ Some node) × IsTrue (option_map_or (applies p es) (event_of b (moves.Undo (record { key = next_key p es; event = event; node = node }))) false)
  compensation_goes_on keys active left free =
      let n = ⊎_elim (λ empty. absurd (let none : length scope.finished ≡ 0 = ap length empty in let out : ⊥ = omega (arith, left, none) in out)) (λ it. it) next_there in
      let node : List ℕ = n.0 in
      let u : Undo = record { key = next_key p es; event = event; node = node } in
      let alone : has_child b c.key ≡ false = subst (λ (q : ℕ). has_child b q ≡ false) (sym (key_found b event c found)) free in
      let fit = undo_fits b u c found active alone n.1 in
      let own = handler_holds p es b u c is found (ascend_between 1 (next_key p es) b.cells (board_keeps p es b apply is).stands.between) keys refl in
      (node, n.1, subst (λ (o : Option Cell). IsTrue (option_map_or (applies p es) (option_map (handler_event u) o) false)) (sym found) (applied_from p es b (handler_event u c) (moves.Undo u) is own.0 own.1 fit))
