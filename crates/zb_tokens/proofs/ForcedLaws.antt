-- Laws of forced moves, in the subject's own words.
use Rattle.std.proofs.Common.{◌≡◌, ◌⊎◌, ℕ, ℤ, ◌+◌, ◌≤◌, ◌==◌, max, List, [], ◌∷◌, map, filter, All, Contains, Bool, true, false, ◌&&◌, ◌||◌, not, cond, if◌then◌else◌, IsTrue, IsFalse, Option, Some, None, is_some, option_map, option_and_then, Result, Ok, Err, refl, inl, inr, ⊎_elim, ap, sym, ◌∙◌, subst, arith}
use Rattle.std.specs.Option.{option_map_or, option_or}
use Rattle.std.specs.List.{find, list_any}
use Rattle.std.specs.Cmp.{int_eq_equiv}
use Rattle.std.proofs.lemmas.Bool.{and_parts, not-true, or_right}
use Rattle.std.proofs.lemmas.Bool.Decides.{nat_tests}
use Rattle.std.proofs.lemmas.List.Elements.{All-nil, All-cons, All-contains_itself}
use Rattle.zb_base.specs.Results.{◌>>=◌}
use Rattle.zb_base.specs.declared.vars.Variable.{Variable}
use Rattle.zb_process.specs.declared.model.Model.{Model}
use Rattle.zb_base.specs.declared.value.Value.{Value}
use Rattle.zb_instance_records.specs.Layouts.{incident_byte}
use Rattle.zb_tokens.specs.declared.board.Cell.{Cell}
use Rattle.zb_tokens.specs.declared.board.Token.{Token}
use Rattle.zb_tokens.specs.declared.board.Incident.{Incident}
use Rattle.zb_tokens.specs.declared.board.Move.{Move}
use Rattle.zb_tokens.specs.declared.board.Move.TheVariants as moves
use Rattle.zb_tokens.specs.declared.board.Mover.{Mover}
use Rattle.zb_tokens.specs.declared.board.Mover.TheVariants as movers
use Rattle.zb_tokens.specs.declared.board.Phase.{Phase}
use Rattle.zb_tokens.specs.declared.board.Phase.TheVariants as phases
use Rattle.zb_tokens.specs.Edits.{is_none_of}
use Rattle.zb_tokens.specs.Board.{Board, cell_at, model_under, has_child, is_at, is_body, is_compensation, is_root, undoes, CellsAscend}
use Rattle.zb_tokens.specs.Doom.{is_doomed}
use Rattle.zb_tokens.specs.MoveHalt.{is_alive, is_interrupted}
use Rattle.zb_tokens.specs.MoveEnter.{may_enter}
use Rattle.zb_tokens.specs.Incidents.{Hindrance, error_hindrance, is_stuck}
use Rattle.zb_tokens.specs.Bodies.{has_item, is_sequential, items_by, may_run}
use Rattle.zb_tokens.specs.Handlers.{last_handler, next_handler, has_handler}
use Rattle.zb_tokens.specs.Catches.{items_of, opened_with, openings_by, seen_with}
use Rattle.zb_tokens.specs.Mappings.{inputs_of}
use Rattle.zb_tokens.specs.Names.{value_seen}
use Rattle.zb_tokens.specs.MoveOpen.{opens, items_eq}
use Rattle.zb_tokens.specs.MoveLeave.{completion_of}
use Rattle.zb_tokens.specs.MoveIncident.{may_stop, hindrance_in}
use Rattle.zb_tokens.specs.MoveFinish.{acts, acts_in}
use Rattle.zb_tokens.specs.Marks.{error_of}
use Rattle.zb_tokens.specs.declared.board.Triggered.{Triggered}
use Rattle.zb_tokens.specs.Errors.{caught}
use Rattle.zb_tokens.specs.MoveTrigger.{comes_about_by, is_awaited}
use Rattle.zb_tokens.specs.Game.{fits, agrees}
use Rattle.zb_tokens.proofs.GameLaws.{any_where, mapped_some, both_right, found_where, found_holds, none_found}
use Rattle.zb_tokens.proofs.LeaveLaws.{same_bytes, ids_same, exit_may_be_owed}
use Rattle.zb_tokens.proofs.MappingLaws.{completed_with}
use Rattle.zb_tokens.specs.Forced.{act_by, undo_by, catch_by, finish_by, goes_on_in, ends_in, is_forced, way_of, can_enter, greatest, next_mover, IsQuiet, take_first, stop_by, open_by, leave_by, move_in, end_in, move_at, move_of, IsEnd}

-- a cell with this key that passes is the one that is found with it, and its key is not below `low`
abbrev pub IsKeyOfCell : (Cell → Bool) → ℕ → List Cell → ℕ → Type 0
IsKeyOfCell passes low cells key = (c : Cell) × (low ≤ c.key) × (c.key ≡ key) × (find (λ x. x.key == key) cells ≡ Some c) × (passes c ≡ true)

module _ (passes : Cell → Bool) where
  found_later : (low : ℕ) (c : Cell) (cells : List Cell) (key : ℕ) → low ≤ c.key → IsKeyOfCell passes (c.key + 1) cells key → IsKeyOfCell passes low (c ∷ cells) key
  found_later low c cells key above r =
      let above_it = r.1 in
      let its_key = r.2 in
      let other : (c.key == key) ≡ false = grind (arith, nat_tests, above_it, its_key) in
      (r.0, omega (arith, above_it), r.2, rw other r.3, r.4)

  found_here : (low : ℕ) (c : Cell) (cells : List Cell) (key : ℕ) → low ≤ c.key → c.key ≡ key → passes c ≡ true → IsKeyOfCell passes low (c ∷ cells) key
  found_here low c cells key above is it =
      let same : (c.key == key) ≡ true = grind (arith, nat_tests, is) in
      (c, above, is, rw same refl, it)

  found_by : (low : ℕ) (c : Cell) (cells : List Cell) (key : ℕ) (best : Option ℕ) → low ≤ c.key → passes c ≡ true → ((k : ℕ) → best ≡ Some k → IsKeyOfCell passes (c.key + 1) cells k)
      → Some (option_map_or (max c.key) best c.key) ≡ Some key → IsKeyOfCell passes low (c ∷ cells) key
  found_by low c cells key None above it later is = found_here low c cells key above (cc) it
  found_by low c cells key (Some k) above it later is =
      let r = later k refl in
      let above_it = r.1 in
      let its_key = r.2 in
      let greater : max c.key k ≡ key = cc in
      let same : k ≡ key = omega (arith, above_it, its_key, greater) in
      found_later low c cells key above (subst (λ (n : ℕ). IsKeyOfCell passes (c.key + 1) cells n) same r)

  found_from : (low : ℕ) (c : Cell) (cells : List Cell) (key : ℕ) (t : Bool) → low ≤ c.key → passes c ≡ t → ((k : ℕ) → greatest (map (λ x. x.key) (filter passes cells)) ≡ Some k → IsKeyOfCell passes (c.key + 1) cells k)
      → greatest (map (λ x. x.key) (cond t (c ∷ filter passes cells) (filter passes cells))) ≡ Some key → IsKeyOfCell passes low (c ∷ cells) key
  found_from low c cells key true above it later is = found_by low c cells key (greatest (map (λ x. x.key) (filter passes cells))) above it later is
  found_from low c cells key false above it later is = found_later low c cells key above (later key is)

  -- the greatest key of those that pass is that of a cell that is found with it, where the cells stand in the order of their keys
  pub greatest_found : (low : ℕ) (cells : List Cell) (key : ℕ) → CellsAscend low cells → greatest (map (λ x. x.key) (filter passes cells)) ≡ Some key → IsKeyOfCell passes low cells key
  greatest_found low [] key up is = absurd (cc)
  greatest_found low (c ∷ cells) key up is = found_from low c cells key (passes c) up.0 refl (λ k. greatest_found (c.key + 1) cells k up.1) is

-- what is known of a mover: the cell with its key is forced, and the token is on the board and can enter
abbrev pub IsMover : Board → Mover → Type 0
IsMover b (movers.Cell key) = (c : Cell) × (cell_at b key ≡ Some c) × (c.key ≡ key) × (is_forced b c ≡ true)
IsMover b (movers.Token t) = Contains b.tokens t × (can_enter b t ≡ true)

mover_by : (cells : Option ℕ) (tokens : Option Token) (mover : Mover) → option_or (option_map movers.Cell cells) (option_map movers.Token tokens) ≡ Some mover
    → ((key : ℕ) × (cells ≡ Some key) × (movers.Cell key ≡ mover)) ⊎ ((t : Token) × (tokens ≡ Some t) × (movers.Token t ≡ mover))
mover_by (Some key) tokens mover is = inl (key, refl, cc)
mover_by None (Some t) mover is = inr (t, refl, cc)
mover_by None None mover is = absurd (cc)

-- the first token that can enter is on the board
token_found : (b : Board) (t : Token) → find (can_enter b) b.tokens ≡ Some t → Contains b.tokens t × (can_enter b t ≡ true)
token_found b t is = found_holds (can_enter b) (Contains b.tokens) b.tokens t (All-contains_itself b.tokens) is

-- who moves next is there, and is forced (own)
pub mover_known : (b : Board) (mover : Mover) → CellsAscend 0 b.cells → next_mover b ≡ Some mover → IsMover b mover
mover_known b mover up is = ⊎_elim
    (λ by_cell.
    let r = greatest_found (is_forced b) 0 b.cells by_cell.0 up by_cell.1 in
    subst (IsMover b) by_cell.2 (r.0, r.3, r.2, r.4))
    (λ by_token. subst (IsMover b) by_token.2 (token_found b by_token.0 by_token.1))
    (mover_by (greatest (map (λ c. c.key) (filter (is_forced b) b.cells))) (find (can_enter b) b.tokens) mover is)

-- a cell that goes on has a move
first_some : (key : ℕ) (owed : List (List ℕ)) → not (is_none_of owed) ≡ true → IsTrue (is_some (take_first key owed))
first_some key [] some = absurd (cc)
first_some key (flow ∷ owed) some = refl

-- a cell that goes on by itself in a phase has a move there (BPMN 2.0.2, 13)
goes_on_somehow : (b : Board) (moment key : ℕ) (c : Cell) (phase : Phase) → goes_on_in b c phase ≡ true → IsTrue (is_some (move_in b moment key c phase))
goes_on_somehow b moment key c phases.Activating goes = refl
goes_on_somehow b moment key c phases.Active goes = refl
goes_on_somehow b moment key c phases.Completing goes = refl
goes_on_somehow b moment key c phases.Leaving goes = first_some c.key c.owed goes
goes_on_somehow b moment key c phases.Terminating goes = refl

-- and so has a doomed one that ends (BPMN 2.0.2, 13.3.2)
ends_somehow : (b : Board) (c : Cell) (phase : Phase) → ends_in b c phase ≡ true → IsTrue (is_some (end_in c phase))
ends_somehow b c phases.Activating ends = refl
ends_somehow b c phases.Active ends = refl
ends_somehow b c phases.Completing ends = refl
ends_somehow b c phases.Leaving ends = absurd (cc)
ends_somehow b c phases.Terminating ends = refl

has_move_by : (b : Board) (moment key : ℕ) (c : Cell) (doomed : Bool) → (if doomed then ends_in b c c.phase else not (is_stuck b c) && goes_on_in b c c.phase) ≡ true → IsTrue (is_some (if doomed then end_in c c.phase else move_in b moment key c c.phase))
has_move_by b moment key c true ends = ends_somehow b c c.phase ends
has_move_by b moment key c false goes = goes_on_somehow b moment key c c.phase (both_right (not (is_stuck b c)) (goes_on_in b c c.phase) goes)

-- a cell that is forced has a move (BPMN 2.0.2, 13)
pub cell_has_move : (b : Board) (moment key : ℕ) (c : Cell) → is_forced b c ≡ true → IsTrue (is_some (move_at b moment key c))
cell_has_move b moment key c forced = has_move_by b moment key c (is_doomed b c) forced

-- a token that can enter has a move
way_some : {W : Type 0} (enters : W → Bool) (way : Option W) → option_map_or enters way false ≡ true → IsTrue (is_some way)
way_some enters None is = absurd (cc)
way_some enters (Some way) is = refl

-- who is forced has a move
pub mover_has_move : (b : Board) (moment key : ℕ) (mover : Mover) → IsMover b mover → IsTrue (is_some (move_of b moment key mover))
mover_has_move b moment key (movers.Cell cell) known = rw known.1 (cell_has_move b moment key known.0 known.3)
mover_has_move b moment key (movers.Token t) known = mapped_some _ (way_of b t) (way_some _ (way_of b t) known.1)

-- who is forced has a move, where the cells ascend (BPMN 2.0.2, 13)
pub movers_move : (b : Board) (moment key : ℕ) (mover : Mover) → CellsAscend 0 b.cells → next_mover b ≡ Some mover → IsTrue (is_some (move_of b moment key mover))
movers_move b moment key mover up is = mover_has_move b moment key mover (mover_known b mover up is)

-- a move fits the board and agrees with what it evaluates
abbrev pub Suits : Board → ℕ → Move → Type 0
Suits b moment move = IsTrue (fits b move) × IsTrue (agrees b moment move)

some_move : (a b : Move) → Some a ≡ Some b → a ≡ b
some_move a b e = cc

-- an incident tells of what keeps a cell from going on (Zeebe, incidents)
stop_suits : (b : Board) (moment key : ℕ) (c : Cell) (hindrance : Hindrance) → may_stop c ≡ true → cell_at b c.key ≡ Some c → is_stuck b c ≡ false → hindrance_in b moment c c.phase ≡ Some hindrance → Suits b moment (stop_by key c hindrance)
stop_suits b moment key c hindrance at found free stops =
    let kind : (incident_byte hindrance.kind == incident_byte hindrance.kind) ≡ true = grind (arith, nat_tests) in
    (rw (found, at, free) refl, rw (found, stops, kind, same_bytes hindrance.text) refl)

-- items are the same as themselves
items_same : (items : List ℤ) → items_eq items items ≡ true
items_same [] = refl
items_same (x ∷ items) = let one = int_eq_equiv.refl x in rw one (items_same items)

-- only a body keeps items
kept_items : (names : List ℕ → Option Value) (b : Board) (c : Cell) (items : List ℤ) → items_of names b c ≡ Ok items → (is_body c || is_none_of items) ≡ true
kept_items names b c items is = by_model (model_under b c.definition) (is_body c) refl is
  where
    by_body : (m : Model) (body : Bool) → is_body c ≡ body → items_by names m c ≡ Ok items → (is_body c || is_none_of items) ≡ true
    by_body m true body is = rw body refl
    by_body m false body is = let none : items ≡ [] = (let its : Ok [] ≡ Ok items = sym (rw body refl) ∙ is in cc) in rw (body, none) refl

    by_model : (found : Option Model) (body : Bool) → is_body c ≡ body → option_map_or (λ m. items_by names m c) found (Ok []) ≡ Ok items → (is_body c || is_none_of items) ≡ true
    by_model None body at is = let none : items ≡ [] = cc in or_right (is_body c) (is_none_of items) (rw none refl)
    by_model (Some m) body at is = by_body m body at is

-- what goes on to an outcome has one, which leads to it
goes_to : {A B E : Type 0} (f : A → Result B E) (r : Result A E) (y : B) → (r >>= f) ≡ Ok y → (x : A) × (r ≡ Ok x) × (f x ≡ Ok y)
goes_to f (Ok x) y is = (x, refl, is)
goes_to f (Err e) y is = absurd (cc)

-- so where a cell may become active with items, it is a body, or there are none
opened_items : (b : Board) (moment : ℕ) (c : Cell) (items : List ℤ) → opened_with b moment c ≡ Ok items → (is_body c || is_none_of items) ≡ true
opened_items b moment c items is =
    let names = λ (vs : List Variable). seen_with vs (value_seen b c.key) in
    let r = goes_to (λ vs. items_of (names vs) b c >>= (λ xs. openings_by (names vs) b moment c >>= (λ openings. Ok xs))) (inputs_of b c) items is in
    let u = goes_to (λ xs. openings_by (names r.0) b moment c >>= (λ openings. Ok xs)) (items_of (names r.0) b c) items r.2 in
    let w = goes_to (λ openings. Ok u.0) (openings_by (names r.0) b moment c) items u.2 in
    let one : u.0 ≡ items = (let its : Ok u.0 ≡ Ok items = w.2 in cc) in
    kept_items (names r.0) b c items (u.1 ∙ ap Ok one)

-- a cell becomes active, or an incident tells why it can't (BPMN 2.0.2, 13.3.2; Zeebe, incidents)
open_suits : (b : Board) (moment key : ℕ) (c : Cell) (items : Result (List ℤ) Hindrance) (move : Move) → c.phase ≡ phases.Activating → cell_at b c.key ≡ Some c → is_stuck b c ≡ false → opens b c ≡ true → opened_with b moment c ≡ items → open_by key c items ≡ move
    → Suits b moment move
open_suits b moment key c (Ok items) move at found free opens gives is =
    let kept = opened_items b moment c items gives in
    subst (Suits b moment) is (rw (found, at, opens, kept) refl, rw (found, gives) (items_same items))
open_suits b moment key c (Err hindrance) move at found free opens gives is = subst (Suits b moment) is (stop_suits b moment key c hindrance (rw at refl) found free (rw (at, gives) refl))

-- a cell that has completed is left, or an incident tells why it can't be (BPMN 2.0.2, 13.3.1; Zeebe, incidents)
leave_suits : (b : Board) (moment key : ℕ) (c : Cell) (exit : Result (List (List ℕ)) Hindrance) (move : Move) → c.phase ≡ phases.Completing → cell_at b c.key ≡ Some c → is_stuck b c ≡ false → completion_of b c ≡ exit → leave_by key c exit ≡ move → Suits b moment move
leave_suits b moment key c (Ok owed) move at found free exits is =
    subst (Suits b moment) is (rw (found, at, exit_may_be_owed b c owed (completed_with b c owed exits).1) refl, rw (found, exits, ids_same owed) refl)
leave_suits b moment key c (Err hindrance) move at found free exits is = subst (Suits b moment) is (stop_suits b moment key c hindrance (rw at refl) found free (rw (at, exits) refl))

-- an error that was thrown in a cell comes about where it is caught, or an incident tells of it (BPMN 2.0.2, 10.5.7; Zeebe, incidents)
catch_suits : (b : Board) (moment key : ℕ) (c : Cell) (code : List ℕ) (at_event : Option Triggered) (move : Move) → c.phase ≡ phases.Active → cell_at b c.key ≡ Some c → is_doomed b c ≡ false → is_stuck b c ≡ false → error_of c.mark ≡ Some code → caught b c ≡ at_event → catch_by key c code at_event ≡ move
    → Suits b moment move
catch_suits b moment key c code None move at found alive free thrown catches is =
    subst (Suits b moment) is (stop_suits b moment key c (error_hindrance code) (rw (at, thrown) refl) found free (rw (at, catches, thrown) refl))
catch_suits b moment key c code (Some t) move at found alive free thrown catches is =
    let same : (t.cell == t.cell) ≡ true = grind (arith, nat_tests) in
    let comes : comes_about_by b t c ≡ true = rw (at, alive, free, catches, same, same_bytes t.node) refl in
    let any = any_where (λ (x : Cell). x.key == c.key) (comes_about_by b t) b.cells c found comes in
    subst (Suits b moment) is (or_right (is_awaited b t) (list_any (comes_about_by b t) b.cells) any, refl)

-- a body that acts may begin a run where an item is left (BPMN 2.0.2, 13.3.7)
may_run_by : (m : Model) (b : Board) (c : Cell) (child sequential : Bool) → has_child b c.key ≡ child → is_sequential m c ≡ sequential → is_body c ≡ true → has_item c ≡ true → acts_in m b c ≡ true → may_run m b c ≡ true
may_run_by m b c true true here in_turn body item does = absurd (let none : acts_in m b c ≡ false = rw (body, here, item, in_turn) refl in cc)
may_run_by m b c true false here at_once body item does = rw (item, at_once) refl
may_run_by m b c false sequential free its body item does = rw (item, free) (or_right (not (is_sequential m c)) true refl)

runs_by : (b : Board) (c : Cell) (found : Option Model) → is_body c ≡ true → has_item c ≡ true → option_map_or (λ m. acts_in m b c) found false ≡ true → option_map_or (λ m. may_run m b c) found false ≡ true
runs_by b c None body item does = absurd (cc)
runs_by b c (Some m) body item does = may_run_by m b c (has_child b c.key) (is_sequential m c) refl refl body item does

-- a compensation event that acts with a handler left runs none (BPMN 2.0.2, 10.7.2)
none_runs : (b : Board) (c : Cell) (node : List ℕ) → acts b c ≡ true → next_handler b c ≡ Some node → not (has_child b c.key) ≡ true
none_runs b c node does next = by_model (model_under b c.definition) does next
  where
    by_place : (m : Model) (root body at : Bool) → is_root c ≡ root → is_body c ≡ body → is_at m c.node is_compensation ≡ at → acts_in m b c ≡ true
        → (if not (root || body) && at then option_and_then (last_handler m) (cell_at b c.scope) else None) ≡ Some node → not (has_child b c.key) ≡ true
    by_place m true body at top its compensates does next = absurd (cc)
    by_place m false true at top its compensates does next = absurd (cc)
    by_place m false false true top its compensates does next = let same : acts_in m b c ≡ not (has_child b c.key) = rw (its, top, compensates) refl in sym same ∙ does
    by_place m false false false top its compensates does next = absurd (cc)

    by_model : (found : Option Model) → option_map_or (λ m. acts_in m b c) found false ≡ true
        → option_and_then (λ m. if undoes m c then option_and_then (last_handler m) (cell_at b c.scope) else None) found ≡ Some node → not (has_child b c.key) ≡ true
    by_model None does next = absurd (cc)
    by_model (Some m) does next = by_place m (is_root c) (is_body c) (is_at m c.node is_compensation) refl refl refl does next

-- an active cell that acts with no item left runs its next handler, or begins to complete (BPMN 2.0.2, 13.3.2 and 13.5.5)
undo_suits : (b : Board) (moment key : ℕ) (c : Cell) (next : Option (List ℕ)) → c.phase ≡ phases.Active → cell_at b c.key ≡ Some c → acts b c ≡ true → (is_body c && has_item c) ≡ false → next_handler b c ≡ next
    → Suits b moment (undo_by key c next)
undo_suits b moment key c None at found does done next =
    let none : has_handler b c ≡ false = ap is_some next in
    (rw (found, at, does, done, none) refl, refl)
undo_suits b moment key c (Some node) at found does done next =
    let free = none_runs b c node does next in
    (rw (found, at, free, next, same_bytes node) refl, refl)

-- an active cell that acts begins a run, runs a handler, or begins to complete (BPMN 2.0.2, 13.3.2, 13.3.7 and 13.5.5)
act_suits : (b : Board) (moment key : ℕ) (c : Cell) (runs : Bool) → c.phase ≡ phases.Active → cell_at b c.key ≡ Some c → acts b c ≡ true → (is_body c && has_item c) ≡ runs → Suits b moment (act_by b key c)
act_suits b moment key c true at found does runs =
    let parts = and_parts (is_body c) (has_item c) runs in
    let may = runs_by b c (model_under b c.definition) parts.0 parts.1 does in
    subst (Suits b moment) (sym (ap (λ (t : Bool). if t then moves.Inner (record { key = key; body = c.key }) else undo_by key c (next_handler b c)) runs)) (rw (found, parts.0, at, may) refl, refl)
act_suits b moment key c false at found does done =
    subst (Suits b moment) (sym (ap (λ (t : Bool). if t then moves.Inner (record { key = key; body = c.key }) else undo_by key c (next_handler b c)) done)) (undo_suits b moment key c (next_handler b c) at found does done refl)

-- an active cell acts, or an error that was thrown in it is caught or stops it (BPMN 2.0.2, 10.5.7 and 13.3.2)
finish_suits : (b : Board) (moment key : ℕ) (c : Cell) (error : Option (List ℕ)) (move : Move) → c.phase ≡ phases.Active → cell_at b c.key ≡ Some c → is_doomed b c ≡ false → is_stuck b c ≡ false → goes_on_in b c phases.Active ≡ true → error_of c.mark ≡ error → finish_by b key c (caught b c) error ≡ move
    → Suits b moment move
finish_suits b moment key c None move at found alive free goes gives is =
    let does : acts b c ≡ true = subst (λ (o : Option (List ℕ)). (is_some o || acts b c) ≡ true) gives goes in
    subst (Suits b moment) is (act_suits b moment key c (is_body c && has_item c) at found does refl)
finish_suits b moment key c (Some code) move at found alive free goes gives is = catch_suits b moment key c code (caught b c) move at found alive free gives refl is

-- by the phase of the cell
pub cell_suits : (b : Board) (moment key : ℕ) (c : Cell) (phase : Phase) (move : Move) → c.phase ≡ phase → cell_at b c.key ≡ Some c → is_doomed b c ≡ false → is_stuck b c ≡ false → goes_on_in b c phase ≡ true → move_in b moment key c phase ≡ Some move → Suits b moment move
cell_suits b moment key c phases.Activating move at found alive free goes is = open_suits b moment key c (opened_with b moment c) move at found free goes refl (some_move (open_by key c (opened_with b moment c)) move is)
cell_suits b moment key c phases.Active move at found alive free goes is = finish_suits b moment key c (error_of c.mark) move at found alive free goes refl (some_move (finish_by b key c (caught b c) (error_of c.mark)) move is)
cell_suits b moment key c phases.Completing move at found alive free goes is = leave_suits b moment key c (completion_of b c) move at found free refl (some_move (leave_by key c (completion_of b c)) move is)
cell_suits b moment key c phases.Leaving move at found alive free goes is = by_owed c.owed refl is
  where
    by_owed : (owed : List (List ℕ)) → c.owed ≡ owed → take_first c.key owed ≡ Some move → Suits b moment move
    by_owed [] owes is = absurd (cc)
    by_owed (flow ∷ owed) owes is =
        subst (Suits b moment) (some_move (moves.Take (record { key = c.key; flow = flow })) move is) (rw (found, at, owes, same_bytes flow) refl, refl)
cell_suits b moment key c phases.Terminating move at found alive free goes is =
    subst (Suits b moment) (some_move (moves.Gone c.key) move is) (rw (found, at, goes) refl, refl)

-- a doomed cell, by its phase
doomed_or : (root doomed interrupted : Bool) → doomed ≡ true → (root || doomed || interrupted) ≡ true
doomed_or true doomed interrupted is = refl
doomed_or false true interrupted is = refl
doomed_or false false interrupted is = absurd (cc)

halt_suits : (b : Board) (moment : ℕ) (c : Cell) (move : Move) → is_alive c ≡ true → cell_at b c.key ≡ Some c → is_doomed b c ≡ true → Some (moves.Halt c.key) ≡ Some move → Suits b moment move
halt_suits b moment c move alive found doomed is =
    let called : (is_root c || is_doomed b c || is_interrupted b c) ≡ true = doomed_or (is_root c) (is_doomed b c) (is_interrupted b c) doomed in
    subst (Suits b moment) (some_move (moves.Halt c.key) move is) (rw (found, alive, called) refl, refl)

end_suits : (b : Board) (moment : ℕ) (c : Cell) (phase : Phase) (move : Move) → c.phase ≡ phase → cell_at b c.key ≡ Some c → is_doomed b c ≡ true → ends_in b c phase ≡ true → end_in c phase ≡ Some move → Suits b moment move
end_suits b moment c phases.Activating move at found doomed ends is = halt_suits b moment c move (rw at refl) found doomed is
end_suits b moment c phases.Active move at found doomed ends is = halt_suits b moment c move (rw at refl) found doomed is
end_suits b moment c phases.Completing move at found doomed ends is = halt_suits b moment c move (rw at refl) found doomed is
end_suits b moment c phases.Leaving move at found doomed ends is = absurd (cc)
end_suits b moment c phases.Terminating move at found doomed ends is =
    subst (Suits b moment) (some_move (moves.Gone c.key) move is) (rw (found, at, ends) refl, refl)

forced_suits : (b : Board) (moment key : ℕ) (c : Cell) (move : Move) (doomed : Bool) → cell_at b c.key ≡ Some c → is_doomed b c ≡ doomed
    → (if doomed then ends_in b c c.phase else not (is_stuck b c) && goes_on_in b c c.phase) ≡ true → (if doomed then end_in c c.phase else move_in b moment key c c.phase) ≡ Some move → Suits b moment move
forced_suits b moment key c move true found doomed ends is = end_suits b moment c c.phase move refl found doomed ends is
forced_suits b moment key c move false found alive goes is =
    let it = and_parts (not (is_stuck b c)) (goes_on_in b c c.phase) goes in
    cell_suits b moment key c c.phase move refl found alive (not-true (is_stuck b c) it.0) it.1 is

entry_suits : (b : Board) (moment key : ℕ) (t : Token) (way : Option (List ℕ × List ℕ)) (move : Move) → option_map_or (λ (w : List ℕ × List ℕ). may_enter b t.scope w.0 w.1) way false ≡ true
    → option_map (λ (w : List ℕ × List ℕ). moves.Enter (record { key = key; scope = t.scope; node = w.0; via = w.1 })) way ≡ Some move → Suits b moment move
entry_suits b moment key t None move enters is = absurd (cc)
entry_suits b moment key t (Some way) move enters is =
    subst (Suits b moment) (some_move (moves.Enter (record { key = key; scope = t.scope; node = way.0; via = way.1 })) move is) (enters, refl)

-- the move of who is forced fits and agrees
pub mover_suits : (b : Board) (moment key : ℕ) (mover : Mover) (move : Move) → IsMover b mover → move_of b moment key mover ≡ Some move → Suits b moment move
mover_suits b moment key (movers.Cell cell) move known is =
    let c = known.0 in
    let found : cell_at b c.key ≡ Some c = subst (λ (k : ℕ). cell_at b k ≡ Some c) (sym known.2) known.1 in
    let its_move : move_at b moment key c ≡ Some move = sym (ap (option_and_then (move_at b moment key)) known.1) ∙ is in
    forced_suits b moment key c move (is_doomed b c) found refl known.3 its_move
mover_suits b moment key (movers.Token t) move known is = entry_suits b moment key t (way_of b t) move known.1 is

-- a forced move fits the board (BPMN 2.0.2, 13)
pub movers_fit : (b : Board) (moment key : ℕ) (mover : Mover) (move : Move) → CellsAscend 0 b.cells → next_mover b ≡ Some mover → move_of b moment key mover ≡ Some move → IsTrue (fits b move)
movers_fit b moment key mover move up next is = (mover_suits b moment key mover move (mover_known b mover up next) is).0

-- and agrees with what it evaluates (BPMN 2.0.2, 13)
pub movers_agree : (b : Board) (moment key : ℕ) (mover : Mover) (move : Move) → CellsAscend 0 b.cells → next_mover b ≡ Some mover → move_of b moment key mover ≡ Some move → IsTrue (agrees b moment move)
movers_agree b moment key mover move up next is = (mover_suits b moment key mover move (mover_known b mover up next) is).1

ends_by : (c : Cell) (phase : Phase) → IsEnd c (end_in c phase)
ends_by c phases.Activating = inr (inl refl)
ends_by c phases.Active = inr (inl refl)
ends_by c phases.Completing = inr (inl refl)
ends_by c phases.Leaving = inl refl
ends_by c phases.Terminating = inr (inr refl)

-- a doomed cell does nothing but end (BPMN 2.0.2, 13.3.2)
pub doomed_ends : (b : Board) (moment key : ℕ) (c : Cell) → IsTrue (is_doomed b c) → IsEnd c (move_at b moment key c)
doomed_ends b moment key c is = rw is (ends_by c c.phase)

-- a cell on which an incident stands is forced to nothing where it isn't doomed (Zeebe, incidents)
pub stuck_waits : (b : Board) (i : Incident) (c : Cell) → Contains b.incidents i → i.cell ≡ c.key → IsFalse (is_doomed b c) → IsFalse (is_forced b c)
stuck_waits b i c among on alive =
    let stuck : is_stuck b c ≡ true = found_where (λ (x : Incident). x.cell == c.key) b.incidents i among (grind (arith, nat_tests, on)) in
    rw (alive, stuck) refl

none_greatest : (ns : List ℕ) → greatest ns ≡ None → ns ≡ []
none_greatest [] is = refl
none_greatest (n ∷ ns) is = absurd (cc)

no_keys : (cells : List Cell) → map (λ (c : Cell). c.key) cells ≡ [] → cells ≡ []
no_keys [] is = refl
no_keys (c ∷ cells) is = absurd (cc)

module _ (passes : Cell → Bool) where
  none_by : (t : Bool) (c : Cell) (cells : List Cell) → passes c ≡ t → (filter passes cells ≡ [] → All (λ (x : Cell). IsFalse (passes x)) cells) → cond t (c ∷ filter passes cells) (filter passes cells) ≡ [] → All (λ (x : Cell). IsFalse (passes x)) (c ∷ cells)
  none_by true c cells it later is = absurd (cc)
  none_by false c cells it later is = All-cons (λ (x : Cell). IsFalse (passes x)) c cells it (later is)

  none_filtered : (cells : List Cell) → filter passes cells ≡ [] → All (λ (x : Cell). IsFalse (passes x)) cells
  none_filtered [] is = All-nil (λ (x : Cell). IsFalse (passes x))
  none_filtered (c ∷ cells) is = none_by (passes c) c cells refl (none_filtered cells) is

none_moves : (cells : Option ℕ) (tokens : Option Token) → option_or (option_map movers.Cell cells) (option_map movers.Token tokens) ≡ None → (cells ≡ None) × (tokens ≡ None)
none_moves None None is = (refl, refl)
none_moves None (Some t) is = absurd (cc)
none_moves (Some key) tokens is = absurd (cc)

both_rest : (b : Board) → IsQuiet b → (greatest (map (λ c. c.key) (filter (is_forced b) b.cells)) ≡ None) × (find (can_enter b) b.tokens ≡ None)
both_rest b is = none_moves (greatest (map (λ c. c.key) (filter (is_forced b) b.cells))) (find (can_enter b) b.tokens) is

-- in a quiet game no cell is forced (BPMN 2.0.2, 13)
pub quiet_cells : (b : Board) → IsQuiet b → All (λ (c : Cell). IsFalse (is_forced b c)) b.cells
quiet_cells b is = none_filtered (is_forced b) b.cells (no_keys (filter (is_forced b) b.cells) (none_greatest (map (λ c. c.key) (filter (is_forced b) b.cells)) (both_rest b is).0))

-- and no token can enter (BPMN 2.0.2, 13)
pub quiet_tokens : (b : Board) → IsQuiet b → All (λ (t : Token). IsFalse (can_enter b t)) b.tokens
quiet_tokens b is = none_found (can_enter b) (λ (t : Token). IsFalse (can_enter b t)) (λ t fails. fails) b.tokens (both_rest b is).1
