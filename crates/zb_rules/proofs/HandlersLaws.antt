-- Each handler on a board of a log stands at a node that undoes an activity: at a service task without boundary events.
use Rattle.std.proofs.Common.{◌≡◌, ⊎_elim, ℕ, List, [], ◌∷◌, filter, Bool, true, false, cond, ◌&&◌, ◌||◌, not, if◌then◌else◌, IsTrue, IsFalse, is_some, Option, Some, None, option_map, option_and_then, All, refl, sym, ap, subst}
use Rattle.std.specs.Option.{option_map_or}
use Rattle.std.specs.List.{find, list_any}
use Rattle.std.specs.Str.{bytes_eq}
use Rattle.std.proofs.lemmas.Bool.{and_from, or_parts, not-true}
use Rattle.std.proofs.lemmas.List.Elements.{All-nil, All-cons, All-filter, All-weaker}
use Rattle.std.proofs.lemmas.Slice.Eq.{bytes_eq-Decides}
use Rattle.zb_process.specs.declared.model.Model.{Model}
use Rattle.zb_process.specs.declared.model.Node.{Node}
use Rattle.zb_faults.specs.Elements.{node_with, is_boundary_of, is_activity, is_compensation_boundary, is_service_task}
use Rattle.zb_faults.specs.Faults.{is_well_formed, find_behind, has_boundary, has_flows, names_handler, compensates, is_handler_in, compensates_badly, is_forgotten, is_compensated_badly}
use Rattle.zb_faults.proofs.FaultLaws.{well_formed_has_none}
use Rattle.zb_instance_records.specs.declared.instance.Role.TheVariants as roles
use Rattle.zb_tokens.specs.declared.board.Catch.{Catch}
use Rattle.zb_tokens.specs.declared.board.Catch.TheVariants as catch_kinds
use Rattle.zb_tokens.specs.declared.board.Cell.{Cell}
use Rattle.zb_tokens.specs.declared.board.Deployed.{Deployed}
use Rattle.zb_tokens.specs.declared.board.Move.{Move}
use Rattle.zb_tokens.specs.declared.board.Move.TheVariants as moves
use Rattle.zb_tokens.specs.declared.board.Phase.TheVariants as phases
use Rattle.zb_tokens.specs.declared.board.Triggered.{Triggered}
use Rattle.zb_tokens.specs.Board.{Board, cell_at, model_under, has_child, is_handler, is_inner, is_body, is_phase, is_role, undoes}
use Rattle.zb_tokens.specs.Bodies.{multi_at}
use Rattle.zb_tokens.specs.Catches.{is_awaited_at, is_caught_at, may_be_told, waits_beside, waits_itself, awaits}
use Rattle.zb_tokens.specs.Errors.{error_event, error_event_of, first_for}
use Rattle.zb_tokens.specs.Game.{fits}
use Rattle.zb_tokens.specs.Handlers.{handler_of, last_finished, last_handler, next_handler}
use Rattle.zb_tokens.specs.Mappings.{node_of, rim_node}
use Rattle.zb_tokens.specs.MoveTrigger.{awaits_event, fits_trigger}
use Rattle.zb_tokens.specs.MoveUndo.{runs_handler}
use Rattle.zb_tokens.proofs.EffectLaws.{mapped_from}
use Rattle.zb_tokens.proofs.GameLaws.{both_left, both_right, any_where, found_holds}
use Rattle.zb_rules.specs.Shown.{after_shown}
use Rattle.zb_rules.specs.Applies.{may_fit}
use Rattle.zb_rules.proofs.CatchLaws.{host_is, node_inner, rim_is, service_apart, waits_or_catches}
use Rattle.zb_rules.proofs.ModelsLaws.{HasFormedModels, formed_under, model_among, models_shown, among_more}
use Rattle.zb_rules.proofs.PlayedLaws.{CellKept, cells_played}
use Rattle.zb_rules.proofs.ScopesLaws.{at_cell}

-- a handler that a cell runs next: that of the activity that finished last in the scope around the cell
pub record IsNext (b : Board) (c : Cell) (node : List ℕ) : Type 0 where
  pub model : Model
  pub scope : Cell
  pub activity : List ℕ
  pub stands : model_under b c.definition ≡ Some model
  pub at_event : IsTrue (undoes model c)
  pub around : cell_at b c.scope ≡ Some scope
  pub last : last_finished scope ≡ Some activity
  pub its : handler_of model activity ≡ Some node

pub next_is : (b : Board) (c : Cell) (node : List ℕ) → next_handler b c ≡ Some node → IsNext b c node
next_is b c node is = by_model (model_under b c.definition) refl is
  where
    by_last : (m : Model) (scope : Cell) (found : Option (List ℕ)) → model_under b c.definition ≡ Some m → IsTrue (undoes m c) → cell_at b c.scope ≡ Some scope → last_finished scope ≡ found
        → option_and_then (handler_of m) found ≡ Some node → IsNext b c node
    by_last m scope None stands at around last is = absurd (cc)
    by_last m scope (Some activity) stands at around last is =
        record { model = m; scope = scope; activity = activity; stands = stands; at_event = at; around = around; last = last; its = is }

    by_scope : (m : Model) (t : Bool) (found : Option Cell) → model_under b c.definition ≡ Some m → undoes m c ≡ t → cell_at b c.scope ≡ found → (if t then option_and_then (last_handler m) found else None) ≡ Some node → IsNext b c node
    by_scope m true None stands at around is = absurd (cc)
    by_scope m true (Some scope) stands at around is = by_last m scope (last_finished scope) stands at around refl is
    by_scope m false found stands at around is = absurd (cc)

    by_model : (found : Option Model) → model_under b c.definition ≡ found → option_and_then (λ m. if undoes m c then option_and_then (last_handler m) (cell_at b c.scope) else None) found ≡ Some node → IsNext b c node
    by_model None stands is = absurd (cc)
    by_model (Some m) stands is = by_scope m (undoes m c) (cell_at b c.scope) stands refl refl is

-- what a cell runs next where it may run this
pub handles_next : (b : Board) (c : Cell) (node : List ℕ) → IsTrue (runs_handler b node c) → next_handler b c ≡ Some node
handles_next b c node may = by_next (next_handler b c) (both_right (not (has_child b c.key)) _ (both_right (is_phase c.phase phases.Active) _ may))
  where
    by_next : (found : Option (List ℕ)) → IsTrue (option_map_or (bytes_eq node) found false) → found ≡ Some node
    by_next None is = absurd (cc)
    by_next (Some other) is = ap Some (sym ((bytes_eq-Decides node other).0 is))

-- where none is found behind others, none passes
none_behind : {A : Type 0} (test : List A → A → Bool) (P : A → Type 0) → ((before : List A) (x : A) → test before x ≡ false → P x) → (before xs : List A) → find_behind test before xs ≡ None → All P xs
none_behind test P each before [] none = All-nil P
none_behind test P each before (x ∷ xs) none = by_test (test before x) refl none (λ later. none_behind test P each (x ∷ before) xs later)
  where
    by_test : (t : Bool) → test before x ≡ t → cond t (Some x) (find_behind test (x ∷ before) xs) ≡ None → (find_behind test (x ∷ before) xs ≡ None → All P xs) → All P (x ∷ xs)
    by_test true is none later = absurd (cc)
    by_test false out none later = All-cons P x xs (each before x out) (later none)

-- where a fault has no offender, none was found
pub no_fault : {A B : Type 0} (f : A → B) (o : Option A) → option_map f o ≡ None → o ≡ None
no_fault f None is = refl
no_fault f (Some x) is = absurd (cc)

-- at the node with an id a handler may stand: a service task without boundary events (BPMN 2.0.2, 10.7.1)
abbrev pub may_handle : Model → List ℕ → Bool
may_handle m id = option_map_or (λ n. is_service_task n.kind && not (has_boundary m.nodes n.id)) (node_with m id) false

-- in a model without faults the handler of an activity is such a node
module _ (m : Model) (good : IsTrue (is_well_formed m)) where
  -- a compensation event names it
  abbrev NamesHandler : Node → Type 0
  NamesHandler n = IsTrue (is_compensation_boundary n.kind) → IsTrue (may_handle m n.name)

  handles_by : (scope : List ℕ) (found : Option Node) → IsTrue (option_map_or (is_handler_in m scope) found false) → IsTrue (option_map_or (λ (n : Node). is_service_task n.kind && not (has_boundary m.nodes n.id)) found false)
  handles_by scope None is = absurd (cc)
  handles_by scope (Some n) is =
      let service = both_left (is_service_task n.kind) _ (both_left _ _ (both_left _ _ (both_left _ _ (both_left _ _ is)))) in
      and_from (is_service_task n.kind) (not (has_boundary m.nodes n.id)) service (both_right _ (not (has_boundary m.nodes n.id)) is)

  named_by : (before : List Node) (n : Node) → is_compensated_badly m before n ≡ false → NamesHandler n
  named_by before n fine event =
      let handles = option_map_or (is_handler_in m n.parent) (node_with m n.name) false in
      let bad : compensates_badly m before n ≡ false = (or_parts (compensates_badly m before n) (is_forgotten m n) fine).0 in
      let parts : (((not handles || has_flows m n) || names_handler before n.name) || compensates before n.attached) ≡ false = rw event at bad in
      let first = (or_parts (not handles) (has_flows m n) (or_parts (not handles || has_flows m n) (names_handler before n.name) (or_parts ((not handles || has_flows m n) || names_handler before n.name) (compensates before n.attached) parts).0).0).0 in
      handles_by n.parent (node_with m n.name) (is_so handles first)
    where
      is_so : (t : Bool) → not t ≡ false → IsTrue t
      is_so true out = refl
      is_so false out = absurd (cc)

  each_named : All NamesHandler m.nodes
  each_named =
      let none = well_formed_has_none m good in
      none_behind (is_compensated_badly m) NamesHandler named_by [] m.nodes (no_fault (λ (x : Node). x.id) (find_behind (is_compensated_badly m) [] m.nodes) none.1.1.1.1.1.1.1.1.1.1.1.0)

  pub handlers_may : (activity node : List ℕ) → handler_of m activity ≡ Some node → IsTrue (may_handle m node)
  handlers_may activity node is =
      let r = mapped_from (λ (n : Node). n.name) (find (λ n. is_compensation_boundary n.kind) (filter (is_boundary_of activity) m.nodes)) node is in
      let those = All-filter (is_boundary_of activity) NamesHandler m.nodes each_named in
      let event = found_holds (λ (n : Node). is_compensation_boundary n.kind) NamesHandler (filter (is_boundary_of activity) m.nodes) r.0 those r.1 in
      subst (λ (id : List ℕ). IsTrue (may_handle m id)) r.2 (event.0 event.1)

-- a handler stands at such a node of its model
abbrev pub MayHandle : Board → ℕ → List ℕ → Type 0
MayHandle b definition node = IsTrue (option_map_or (λ m. may_handle m node) (model_under b definition) false)

abbrev pub IsOfHandler : Board → Cell → Type 0
IsOfHandler b c = IsTrue (is_handler c) → MayHandle b c.definition c.node

-- the handler that begins does
undo_may : (b : Board) (c : Cell) (node : List ℕ) → HasFormedModels b → IsTrue (runs_handler b node c) → MayHandle b c.definition node
undo_may b c node formed may =
    let next = next_is b c node (handles_next b c node may) in
    let its = handlers_may next.model (formed_under b c.definition next.model formed next.stands) next.activity node next.its in
    let stands = next.stands in
    rw stands its

-- a cell that a token begins is none
entered_whole : (multi : Bool) → IsTrue (is_role (if multi then roles.Body else roles.Plain) roles.Handler) → ⊥
entered_whole true handles = cc
entered_whole false handles = cc

handled_kept : (b after : Board) (move : Move) → HasFormedModels b → IsTrue (fits b move) → ((definition : ℕ) (node : List ℕ) → MayHandle b definition node → MayHandle after definition node) → CellKept b (IsOfHandler after) move
handled_kept b after (moves.Stand d) formed fit still = tt
handled_kept b after (moves.Start s) formed fit still = λ node there handles. absurd (cc)
handled_kept b after (moves.Enter e) formed fit still = λ c m found under handles. absurd (entered_whole (is_some (multi_at m e.node)) handles)
handled_kept b after (moves.Inner i) formed fit still = (λ c found handles. absurd (cc), λ c found has. has)
handled_kept b after (moves.Undo u) formed fit still = λ c found. (λ handles. still c.definition u.node (undo_may b c u.node formed (at_cell (runs_handler b u.node) (cell_at b u.event) c found fit)), λ x there has. has)
handled_kept b after (moves.Open o) formed fit still = λ c found has. has
handled_kept b after (moves.Finish key) formed fit still = λ c found has. has
handled_kept b after (moves.Leave l) formed fit still = (λ flow owed is c found has. has, λ c has. has, λ c found can scope same has. has)
handled_kept b after (moves.Take t) formed fit still = λ flow owed c found has. has
handled_kept b after (moves.Halt key) formed fit still = λ c found has. has
handled_kept b after (moves.Gone key) formed fit still = tt
handled_kept b after (moves.Assign a) formed fit still = λ c found has. has
handled_kept b after (moves.Update a) formed fit still = λ c found has. has
handled_kept b after (moves.Done key) formed fit still = λ c found has. has
handled_kept b after (moves.Throw t) formed fit still = λ c found has. has
handled_kept b after (moves.Trigger t) formed fit still = λ c found mark at has. has
handled_kept b after (moves.Incident i) formed fit still = tt
handled_kept b after (moves.Repair key) formed fit still = tt

-- each handler stands at such a node after the move that an event shows
pub handled_on : (b after : Board) (move : Option Move) → HasFormedModels b → IsTrue (may_fit move b) → after_shown b move ≡ Some after → All (IsOfHandler b) b.cells → All (IsOfHandler after) after.cells
handled_on b after None formed fit made all = subst (λ (x : Board). All (IsOfHandler x) x.cells) (let same : b ≡ after = cc in same) all
handled_on b after (Some move) formed fit made all =
    let still : (definition : ℕ) (node : List ℕ) → MayHandle b definition node → MayHandle after definition node = λ definition node is.
    subst (λ (ms : List Deployed). IsTrue (option_map_or (λ m. may_handle m node) (model_among ms definition) false)) (sym (models_shown b after (Some move) made))
    (among_more (λ o. option_map_or (λ m. may_handle m node) o false) definition b.models _ refl is) in
    let weaker : All (IsOfHandler after) b.cells = All-weaker (IsOfHandler b) (IsOfHandler after) (λ c has handles. still c.definition c.node (has handles)) b.cells all in
    cells_played b (IsOfHandler after) weaker after move (handled_kept b after move formed fit still) made

-- where none passes, none is kept
none_kept : {A : Type 0} (passes : A → Bool) (xs : List A) → list_any passes xs ≡ false → filter passes xs ≡ []
none_kept passes [] none = refl
none_kept passes (x ∷ xs) none = by_test (passes x) none (λ later. none_kept passes xs later)
  where
    by_test : (t : Bool) → (t || list_any passes xs) ≡ false → (list_any passes xs ≡ false → filter passes xs ≡ []) → cond t (x ∷ filter passes xs) (filter passes xs) ≡ []
    by_test true none later = absurd (cc)
    by_test false none later = later none

-- a node at which a cell is, in the model of that
node_by : (b : Board) (c : Cell) (m : Model) (n : Node) → model_under b c.definition ≡ Some m → node_of b c ≡ Some n → node_with m c.node ≡ Some n
node_by b c m n stands at = let inner = node_inner b c n at in rw (inner, stands) at at

-- so at the node of a handler no event is waited for, and none is caught
module _ (b : Board) (t : Triggered) (c : Cell) (handles : is_handler c ≡ true) (of_handler : IsOfHandler b c) where
  rimless : (m : Model) (n : Node) → model_under b c.definition ≡ Some m → node_of b c ≡ Some n → IsTrue (is_service_task n.kind) × (has_boundary m.nodes n.id ≡ false)
  rimless m n stands at =
      let here = node_by b c m n stands at in
      let its : IsTrue (is_service_task n.kind && not (has_boundary m.nodes n.id)) = (let may = of_handler handles in rw (stands, here) at may) in
      (both_left (is_service_task n.kind) _ its, not-true (has_boundary m.nodes n.id) (both_right (is_service_task n.kind) _ its))

  awaits_none : (catch : Catch) → IsTrue (awaits catch b c t.node) → ⊥
  awaits_none catch waits = by_model (model_under b c.definition) refl waits
    where
      by_other : (m : Model) (n other : Node) → model_under b c.definition ≡ Some m → node_of b c ≡ Some n → node_with m t.node ≡ Some other → IsTrue ((bytes_eq c.node t.node && waits_itself c n) || waits_beside m c n other) → ⊥
      by_other m n other stands at there either =
          let r = rimless m n stands at in
          let apart = service_apart n.kind r.0 in
          let no_catch = apart.0 in
          let no_gateway = apart.1 in
          let no_message = apart.2 in
          let itself : waits_itself c n ≡ false = rw (no_message, no_catch) (never (not (is_body c))) in
          let beside : IsTrue (waits_beside m c n other) = right_alone (bytes_eq c.node t.node) (waits_itself c n) (waits_beside m c n other) itself either in
          let boundary : IsTrue (is_boundary_of n.id other) = (let h = both_right (not (is_inner c)) _ beside in rw no_gateway at h) in
          let any : has_boundary m.nodes n.id ≡ true = any_where (λ (x : Node). bytes_eq x.id t.node) (is_boundary_of n.id) m.nodes other there boundary in
          let none = r.1 in
          cc
        where
          never : (u : Bool) → (u && false) ≡ false
          never true = refl
          never false = refl

          right_alone : (same itself beside : Bool) → itself ≡ false → IsTrue ((same && itself) || beside) → IsTrue beside
          right_alone true false beside none is = is
          right_alone false itself beside none is = is
          right_alone true true beside none is = absurd (cc)

      by_found : (m : Model) (n : Node) (other : Option Node) → model_under b c.definition ≡ Some m → node_of b c ≡ Some n → node_with m t.node ≡ other
          → IsTrue (option_map_or (λ x. ((bytes_eq c.node t.node && waits_itself c n) || waits_beside m c n x) && is_caught_at x.kind catch) other false) → ⊥
      by_found m n None stands at there is = absurd (cc)
      by_found m n (Some x) stands at there is = by_other m n x stands at there (both_left ((bytes_eq c.node t.node && waits_itself c n) || waits_beside m c n x) _ is)

      by_node : (m : Model) (found : Option Node) → model_under b c.definition ≡ Some m → node_of b c ≡ found → IsTrue (option_map_or (λ n. is_awaited_at catch m c n t.node) found false) → ⊥
      by_node m None stands at is = absurd (cc)
      by_node m (Some n) stands at is = by_found m n (node_with m t.node) stands at refl is

      by_model : (found : Option Model) → model_under b c.definition ≡ found → IsTrue (option_map_or (λ m. option_map_or (λ n. is_awaited_at catch m c n t.node) (node_of b c) false) found false) → ⊥
      by_model None stands is = absurd (cc)
      by_model (Some m) stands is = by_node m (node_of b c) stands refl is

  waits_none : IsTrue (awaits_event b t c) → ⊥
  waits_none waits = by_catch (awaits catch_kinds.Time b c t.node) refl (both_right (may_be_told b c) _ waits)
    where
      by_catch : (time : Bool) → awaits catch_kinds.Time b c t.node ≡ time → IsTrue (time || awaits catch_kinds.Message b c t.node) → ⊥
      by_catch true is either = awaits_none catch_kinds.Time is
      by_catch false is either = awaits_none catch_kinds.Message either

  catches_none : (code : List ℕ) (event : Node) → error_event_of b code c ≡ Some event → ⊥
  catches_none code event is = by_model (model_under b c.definition) refl is
    where
      by_kind : (m : Model) (n : Node) (activity : Bool) → has_boundary m.nodes n.id ≡ false → (if activity then first_for code (filter (is_boundary_of n.id) m.nodes) else None) ≡ Some event → ⊥
      by_kind m n true none is = let empty = none_kept (is_boundary_of n.id) m.nodes none in let no_event : None ≡ Some event = rw empty at is in cc
      by_kind m n false none is = cc

      by_node : (m : Model) (found : Option Node) → model_under b c.definition ≡ Some m → rim_node b c ≡ found → option_and_then (error_event m code) found ≡ Some event → ⊥
      by_node m None stands at is = absurd (cc)
      by_node m (Some n) stands at is = by_kind m n (is_activity n.kind) (rimless m n stands (rim_is b c n at).0).1 is

      by_model : (found : Option Model) → model_under b c.definition ≡ found → option_and_then (λ m. option_and_then (error_event m code) (rim_node b c)) found ≡ Some event → ⊥
      by_model None stands is = absurd (cc)
      by_model (Some m) stands is = by_node m (rim_node b c) stands refl is

  -- so no event may come about for it
  pub told_never : cell_at b t.cell ≡ Some c → IsTrue (fits_trigger b t) → ⊥
  told_never found fit = ⊎_elim (λ waits. waits_none (at_cell (awaits_event b t) (cell_at b t.cell) c found waits))
      (λ r. let host = host_is b t c r.0 r.2 found in catches_none host.0 host.2 host.3) (waits_or_catches (λ (x : Cell). Unit {0}) b t (λ k d within. tt) fit)

-- the cell of an event that may come about is no handler
pub told_whole : (b : Board) (t : Triggered) (c : Cell) → IsOfHandler b c → cell_at b t.cell ≡ Some c → IsTrue (fits_trigger b t) → IsFalse (is_handler c)
told_whole b t c of_handler found fit = by_test (is_handler c) refl
  where
    by_test : (handles : Bool) → is_handler c ≡ handles → handles ≡ false
    by_test true is = absurd (told_never b t c is of_handler found fit)
    by_test false is = refl
