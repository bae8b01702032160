-- Each cell of a board of a log is a root or stands in one in which others may be, and each token is in a scope.
use Rattle.std.proofs.Common.{◌≡◌, ◌⊎◌, ℕ, ◌+◌, ◌<◌, ◌==◌, get_or, List, [], ◌∷◌, ◌++◌, filter, Bool, true, false, ◌&&◌, ◌||◌, not, if◌then◌else◌, IsTrue, IsFalse, is_some, Option, Some, None, All, refl, inl, inr, ⊎_elim, sym, ap, ◌∙◌, subst, arith}
use Rattle.std.specs.Option.{option_map_or, IfSome}
use Rattle.std.specs.List.{list_any}
use Rattle.std.proofs.lemmas.Bool.{not-true, and_parts, or_parts, or_right, and_right, and_from, or_left}
use Rattle.std.proofs.lemmas.Bool.Decides.{nat_tests}
use Rattle.std.proofs.lemmas.List.Elements.{All-nil, All-cons, All-head, All-tail, All-weaker, All-append, All-push, All-filter, filter_passes}
use Rattle.zb_process.specs.declared.model.Model.{Model}
use Rattle.zb_process.specs.declared.model.Node.{Node}
use Rattle.zb_process.specs.declared.model.NodeKind.{NodeKind}
use Rattle.zb_process.specs.declared.model.NodeKind.TheVariants as kinds
use Rattle.zb_faults.specs.Elements.{is_subprocess}
use Rattle.zb_instance_records.specs.declared.instance.Role.TheVariants as roles
use Rattle.zb_tokens.specs.declared.board.Cell.{Cell}
use Rattle.zb_tokens.specs.declared.board.Token.{Token}
use Rattle.zb_tokens.specs.declared.board.Spot.{Spot}
use Rattle.zb_tokens.specs.declared.board.Spot.TheVariants as spots
use Rattle.zb_tokens.specs.declared.board.Enter.{Enter}
use Rattle.zb_tokens.specs.declared.board.Inner.{Inner}
use Rattle.zb_tokens.specs.declared.board.Undo.{Undo}
use Rattle.zb_tokens.specs.declared.board.Open.{Open}
use Rattle.zb_tokens.specs.declared.board.Deployed.{Deployed}
use Rattle.zb_tokens.specs.declared.board.Take.{Take}
use Rattle.zb_tokens.specs.declared.board.Leave.{Leave}
use Rattle.zb_tokens.specs.declared.board.Mark.TheVariants as marks
use Rattle.zb_tokens.specs.Marks.{with_mark}
use Rattle.zb_tokens.specs.declared.board.Move.{Move}
use Rattle.zb_tokens.specs.declared.board.Move.TheVariants as moves
use Rattle.zb_tokens.specs.declared.board.Phase.{Phase}
use Rattle.zb_tokens.specs.declared.board.Phase.TheVariants as phases
use Rattle.zb_tokens.specs.Edits.{edited, removed, without_first}
use Rattle.zb_tokens.specs.Board.{Board, cell_at, model_under, node_with, new_cell, in_phase, start_in, is_at, is_body, is_compensation, is_handler, is_inner, is_phase, is_role, is_root, undoes, holds_cells, holds_tokens, scope_id, has_child, is_empty, leaves_in, emptied, with_token}
use Rattle.zb_tokens.specs.MoveEnter.{spots_of, stands_at, stand_at_each, without_each, entering}
use Rattle.zb_tokens.specs.Bodies.{multi_at, has_item, is_sequential, may_run}
use Rattle.zb_tokens.specs.MoveInner.{runs_next, run_in, one_taken}
use Rattle.zb_tokens.specs.MoveUndo.{runs_handler, handler_in, one_undone}
use Rattle.zb_tokens.specs.Handlers.{has_handler}
use Rattle.zb_tokens.specs.MoveOpen.{start_tokens, with_items}
use Rattle.zb_tokens.specs.MoveFinish.{acts, acts_in, is_done}
use Rattle.zb_tokens.specs.MoveLeave.{leaving, may_owe, with_end, scope_ended, with_finished}
use Rattle.zb_tokens.specs.MoveTake.{is_first, rest_of, spot_behind}
use Rattle.zb_tokens.specs.MoveAssign.{with_variable}
use Rattle.zb_tokens.specs.MoveTrigger.{mark_by}
use Rattle.zb_tokens.specs.Game.{fits}
use Rattle.zb_tokens.proofs.GameLaws.{both_left, both_right, holds_some, found_holds}
use Rattle.zb_tokens.specs.declared.board.Triggered.{Triggered}
use Rattle.zb_rules.proofs.TimedLaws.{awaits_inner}
use Rattle.zb_rules.proofs.CatchLaws.{told_inner, told_plain}
use Rattle.zb_rules.specs.Shown.{after_shown}
use Rattle.zb_rules.specs.Applies.{may_fit}
use Rattle.zb_rules.specs.Sound.{runs, holds_by, is_around}
use Rattle.zb_rules.proofs.AppliedLaws.{some_of}
use Rattle.zb_rules.proofs.MadeLaws.{is_keyed, HoldsEdited, HoldsMade, left_holds, edited_or, behind_holds, made_holds}
use Rattle.zb_rules.proofs.CellsLaws.{Between}
use Rattle.zb_rules.proofs.HandlersLaws.{IsOfHandler, next_is, handles_next, told_whole}
use Rattle.zb_rules.proofs.ModelsLaws.{model_among}
use Rattle.zb_rules.proofs.PlayedLaws.{edited_all, removed_all}
use Rattle.zb_rules.proofs.ScopesLaws.{at_cell, edited_found, others_edited, others_removed, kept_edited, kept_removed, kept_filtered, kept_more, bare, IsOfPlace, tokens_of_place, ScopesKept, no_run, holds_none, scope_stays, still_holds, scopes_grown, around_cells}
use Rattle.zb_rules.proofs.OwesLaws.{Owes}

-- a cell is a root, or stands in one with a lesser key in which others may be
abbrev pub InScope : Board → Cell → Type 0
InScope b c = (c.scope ≡ 0) ⊎ (IsTrue (is_around holds_cells b c.scope) × (c.scope < c.key))

-- a cell is part of what the cell around it does: a run of a body, or a handler
abbrev is_part : Cell → Bool
is_part c = is_inner c || is_handler c

-- what may hold others, or tokens too
abbrev held_by : (part : Bool) → Model → Cell → Bool
held_by true = holds_cells
held_by false = holds_tokens

-- what holds of the cell in which one may stand: it is of the same definition, and others may be in it, and tokens too unless the one is part of it
abbrev around_by : ℕ → (part : Bool) → Model → Cell → Bool
around_by definition part m c = (c.definition == definition) && held_by part m c

around_of_place : (definition : ℕ) (part : Bool) → IsOfPlace (around_by definition part)
around_of_place definition true = record { bared = λ m c. refl; within = λ m c is. both_right (c.definition == definition) (holds_cells m c) is }
around_of_place definition false = record { bared = λ m c. refl; within = λ m c is. or_left (holds_tokens m c) (is_body c || undoes m c) (both_right (c.definition == definition) (holds_tokens m c) is) }

-- a cell that is there may hold those of its own definition that it may hold at all
around_with : (b : Board) (key : ℕ) (c : Cell) (part : Bool) → cell_at b key ≡ Some c → IsTrue (is_around (held_by part) b key) → IsTrue (is_around (around_by c.definition part) b key)
around_with b key c part found is =
    let does = at_cell (holds_by (held_by part) b) (cell_at b key) c found is in
    rw found (and_from (runs c.phase) _ (both_left (runs c.phase) _ does) (by_model (model_under b c.definition) (both_right (runs c.phase) _ does)))
  where
    by_model : (found : Option Model) → IsTrue (option_map_or (λ m. held_by part m c) found false) → IsTrue (option_map_or (λ m. around_by c.definition part m c) found false)
    by_model None is = absurd (cc)
    by_model (Some m) is = and_from (c.definition == c.definition) (held_by part m c) (grind (arith, nat_tests)) is

-- what a cell of this definition may stand in is one, and may hold it
around_there : (b : Board) (definition key : ℕ) (part : Bool) → IsTrue (is_around (around_by definition part) b key) → (c : Cell) × (cell_at b key ≡ Some c) × (c.definition ≡ definition) × IsTrue (is_around (held_by part) b key)
around_there b definition key part is =
    let found = some_of (cell_at b key) (holds_some (holds_by (around_by definition part) b) (cell_at b key) is) in
    let c = found.0 in
    let does = at_cell (holds_by (around_by definition part) b) (cell_at b key) c found.1 is in
    let its = by_model c (model_under b c.definition) (both_right (runs c.phase) _ does) in
    (c, found.1, (let same = its.0 in grind (arith, nat_tests)), rw found.1 (and_from (runs c.phase) _ (both_left (runs c.phase) _ does) its.1))
  where
    by_model : (c : Cell) (found : Option Model) → IsTrue (option_map_or (λ m. around_by definition part m c) found false) → IsTrue (c.definition == definition) × IsTrue (option_map_or (λ m. held_by part m c) found false)
    by_model c None is = absurd (cc)
    by_model c (Some m) is = and_parts (c.definition == definition) (held_by part m c) is

-- a cell is a root, or stands in such a cell
abbrev pub Stands : Board → Cell → Type 0
Stands b c = (c.scope ≡ 0) ⊎ (IsTrue (is_around (around_by c.definition (is_part c)) b c.scope) × (c.scope < c.key))

-- a token is in a scope
abbrev pub IsIn : Board → Token → Type 0
IsIn b t = IsTrue (is_around holds_tokens b t.scope)

-- cells and tokens are in those that may hold them
pub record Placed (b : Board) : Type 0 where
  pub cells : All (Stands b) b.cells
  pub tokens : All (IsIn b) b.tokens

-- so each cell is in one in which others may be
pub scopes_of : (b : Board) → Placed b → All (InScope b) b.cells
scopes_of b placed = All-weaker (Stands b) (InScope b) (λ c is. ⊎_elim (λ root. inl root) (λ r. inr (around_cells b (around_by c.definition (is_part c)) (around_of_place c.definition (is_part c)) c.scope r.0, r.1)) is) b.cells placed.cells

-- where what a cell stands in is one still, it does
still_in : (b after : Board) (c : Cell) → (IsTrue (is_around (around_by c.definition (is_part c)) b c.scope) → IsTrue (is_around (around_by c.definition (is_part c)) after c.scope)) → Stands b c → Stands after c
still_in b after c kept is = ⊎_elim (λ root. inl root) (λ r. inr (kept r.0, r.1)) is

all_still : (b after : Board) → ScopesKept b after → Placed b → All (Stands after) b.cells × All (IsIn after) b.tokens
all_still b after kept placed = (
  All-weaker (Stands b) (Stands after) (λ c is. still_in b after c (kept (around_by c.definition (is_part c)) (around_of_place c.definition (is_part c)) c.scope) is) b.cells placed.cells,
  All-weaker (IsIn b) (IsIn after) (λ t is. kept holds_tokens tokens_of_place t.scope is) b.tokens placed.tokens,
)

-- each cell in which others may be is one still, but the one with a key
abbrev ScopesKeptBut : Board → ℕ → Board → Type 0
ScopesKeptBut b key after = (holds : Model → Cell → Bool) (q : ℕ) → (q == key) ≡ false → IsTrue (is_around holds b q) → IsTrue (is_around holds after q)

-- where no cell stands in that one, the cells stand where they may still
cells_but : (b after : Board) (key : ℕ) → ScopesKeptBut b key after → All (λ (c : Cell). (c.scope == key) ≡ false) b.cells → Placed b → All (Stands after) b.cells
cells_but b after key kept apart placed = λ k d within.
    let c = get_or b.cells k d in
    still_in b after c (kept (around_by c.definition (is_part c)) c.scope (apart k d within)) (placed.cells k d within)

-- and so do tokens of which none is in it
tokens_but : (b after : Board) (key : ℕ) (tokens : List Token) → ScopesKeptBut b key after → All (λ (t : Token). (t.scope == key) ≡ false) tokens → All (IsIn b) tokens → All (IsIn after) tokens
tokens_but b after key tokens kept apart all = λ k d within. kept holds_tokens (get_or tokens k d).scope (apart k d within) (all k d within)

-- where none of some items passes each one fails
pub none_passes : {A : Type 0} (passes : A → Bool) (xs : List A) → list_any passes xs ≡ false → All (λ x. passes x ≡ false) xs
none_passes passes [] none = All-nil (λ x. passes x ≡ false)
none_passes passes (x ∷ xs) none =
    let parts = or_parts (passes x) (list_any passes xs) none in
    All-cons (λ y. passes y ≡ false) x xs parts.0 (none_passes passes xs parts.1)

-- a cell that is found with a key has it
pub key_found : (b : Board) (key : ℕ) (c : Cell) → cell_at b key ≡ Some c → c.key ≡ key
key_found b key c found =
    let same = (found_holds (is_keyed key) (λ (x : Cell). Unit {0}) b.cells c (λ k d within. tt) found).1 in
    grind (arith, nat_tests)

-- more tokens in scopes
more_tokens : (b : Board) (tokens : List Token) → Placed b → All (IsIn b) tokens → Placed (record b { tokens = b.tokens ++ tokens })
more_tokens b tokens placed all = record { cells = placed.cells; tokens = All-append (IsIn b) b.tokens tokens placed.tokens all }

-- an edit leaves each cell at its place
abbrev StaysThere : (Cell → Cell) → Type 0
StaysThere edit = (c : Cell) → bare (edit c) ≡ bare c

same_key : (edit : Cell → Cell) → StaysThere edit → (c : Cell) → (edit c).key ≡ c.key
same_key edit stays c = ap (λ (x : Cell). x.key) (stays c)

-- one on a board behind which cells and tokens are in those that may hold them
edit_placed : (b : Board) (key : ℕ) (edit : Cell → Cell) (cells : List Cell) → StaysThere edit → edited (is_keyed key) edit b.cells ≡ Some cells
    → All (Stands (record b { cells = cells })) b.cells → All (IsIn (record b { cells = cells })) b.tokens → Placed (record b { cells = cells })
edit_placed b key edit cells stays made scopes tokens =
    let after = record b { cells = cells } in
    record {
      cells = edited_all (is_keyed key) (Stands after) edit b.cells cells scopes (λ c found is. subst (Stands after) (sym (stays c)) is) made;
      tokens = tokens;
    }

module _ (b : Board) (key : ℕ) (edit : Cell → Cell) (stays : StaysThere edit) where
  -- one that leaves what holds others so
  scope_edited : ((holds : Model → Cell → Bool) → IsOfPlace holds → (c : Cell) → cell_at b key ≡ Some c → IsTrue (holds_by holds b c) → IsTrue (holds_by holds b (edit c))) → (cells : List Cell)
      → edited (is_keyed key) edit b.cells ≡ Some cells → ScopesKept b (record b { cells = cells })
  scope_edited each cells made holds place = kept_edited (holds_by holds b) key edit b.cells cells (same_key edit stays) (each holds place) made

  kept_placed : (cells : List Cell) → edited (is_keyed key) edit b.cells ≡ Some cells → ScopesKept b (record b { cells = cells }) → Placed b → Placed (record b { cells = cells })
  kept_placed cells made kept placed =
      let still = all_still b (record b { cells = cells }) kept placed in
      edit_placed b key edit cells stays made still.0 still.1

  -- a cell in another phase of those in which it holds others
  runs_placed : ((c : Cell) → IsTrue (runs (edit c).phase)) → Placed b → HoldsEdited b Placed key edit
  runs_placed does placed cells made =
      kept_placed cells made (scope_edited (λ holds place c found is. still_holds b holds place c (edit c) (sym (stays c)) (does c) is) cells made) placed

  -- or in the same one
  same_kept : ((c : Cell) → (edit c).phase ≡ c.phase) → (cells : List Cell) → edited (is_keyed key) edit b.cells ≡ Some cells → ScopesKept b (record b { cells = cells })
  same_kept same =
      scope_edited (λ holds place c found is. still_holds b holds place c (edit c) (sym (stays c)) (subst (λ (phase : Phase). IsTrue (runs phase)) (sym (same c)) (both_left (runs c.phase) _ is)) is)

  same_placed : ((c : Cell) → (edit c).phase ≡ c.phase) → Placed b → HoldsEdited b Placed key edit
  same_placed same placed cells made = kept_placed cells made (same_kept same cells made) placed

  -- a cell that holds nothing
  none_edited : ((holds : Model → Cell → Bool) → IsOfPlace holds → (c : Cell) → cell_at b key ≡ Some c → holds_by holds b c ≡ false) → (cells : List Cell)
      → edited (is_keyed key) edit b.cells ≡ Some cells → ScopesKept b (record b { cells = cells })
  none_edited none = scope_edited (λ holds place c found is. absurd (let out = none holds place c found in cc))

-- a cell that holds nothing leaves
left_placed : (b : Board) (owed : List (List ℕ)) (key : ℕ) (left : Board) → ((c : Cell) → cell_at b key ≡ Some c → runs c.phase ≡ false) → Placed b → leaving owed key b ≡ Some left → ScopesKept b left × Placed left
left_placed b owed key left none placed made = left_holds b (λ x. ScopesKept b x × Placed x) left owed key
    (λ cells gone.
    let after = record b { cells = cells } in
    let kept : ScopesKept b after = λ holds place. kept_removed (holds_by holds b) key b.cells cells (λ c found. holds_none b holds c (none c found)) gone in
    let still = all_still b after kept placed in
    (kept, record { cells = removed_all (is_keyed key) (Stands after) b.cells cells still.0 gone; tokens = still.1 }))
    (λ flow more same cells there.
    let edit = in_phase phases.Leaving (flow ∷ more) in
    let kept = none_edited b key edit (λ c. refl) (λ holds place c found. holds_none b holds c (none c found)) cells there in
    (kept, kept_placed b key edit (λ c. refl) cells there kept placed))
    made

-- a scope is emptied
emptied_placed : (b : Board) (scope : ℕ) → Placed b → Placed (emptied scope b)
emptied_placed b scope placed =
    let stays : Cell → Bool = λ c. not (leaves_in scope c) in
    let still = all_still b (emptied scope b) (λ holds place. kept_filtered (holds_by holds b) stays b.cells (scope_stays b holds scope)) placed in
    record {
      cells = All-filter stays (Stands (emptied scope b)) b.cells still.0;
      tokens = All-filter (λ (t : Token). not (t.scope == scope)) (IsIn (emptied scope b)) b.tokens still.1;
    }

-- or ended
ended_placed : (scope : ℕ) (left : Board) → Placed left → Placed (scope_ended scope left)
ended_placed scope left placed = emptied_placed _ scope (edited_or (λ cells. Placed (record left { cells = cells })) left.cells (edited (is_keyed scope) with_end left.cells) placed
    (same_placed left scope with_end (λ c. refl) (λ c. refl) placed))

-- a compensation event is no scope
compensation_apart : (kind : NodeKind) → IsTrue (is_compensation kind) → is_subprocess kind ≡ false
compensation_apart kinds.CompensationEndEvent is = refl
compensation_apart kinds.CompensationThrowEvent is = refl
compensation_apart kind is = absurd (cc)

event_apart : (m : Model) (c : Cell) → IsTrue (undoes m c) → holds_tokens m c ≡ false
event_apart m c is =
    let parts = and_parts (not (is_root c || is_body c)) (is_at m c.node is_compensation) is in
    let apart = or_parts (is_root c) (is_body c) (not-true (is_root c || is_body c) parts.0) in
    let inner = apart.0 in
    let plain = apart.1 in
    let none = by_node (node_with m c.node) parts.1 in
    rw (plain, inner, none) refl
  where
    by_node : (found : Option Node) → IsTrue (option_map_or (λ (n : Node). is_compensation n.kind) found false) → option_map_or (λ (n : Node). is_subprocess n.kind) found false ≡ false
    by_node None is = refl
    by_node (Some n) is = compensation_apart n.kind is

-- a cell finishes
module _ (b : Board) (key : ℕ) (c : Cell) (m : Model) (found : cell_at b key ≡ Some c) (stands : model_under b c.definition ≡ Some m) (placed : Placed b) where
  abbrev finishes : Cell → Cell
  finishes = in_phase phases.Completing []

  others_kept : (cells : List Cell) → edited (is_keyed key) finishes b.cells ≡ Some cells → ScopesKeptBut b key (record b { cells = cells })
  others_kept cells made holds = others_edited (holds_by holds b) key finishes b.cells cells (λ x. refl) made

  -- nothing runs in it
  no_cells_in : IsTrue (not (has_child b c.key)) → (cells : List Cell) → edited (is_keyed key) finishes b.cells ≡ Some cells → All (Stands (record b { cells = cells })) b.cells
  no_cells_in none cells made =
      let out : has_child b key ≡ false = subst (λ (k : ℕ). has_child b k ≡ false) (key_found b key c found) (not-true (has_child b c.key) none) in
      cells_but b (record b { cells = cells }) key (others_kept cells made) (none_passes (λ (x : Cell). x.scope == key) b.cells out) placed

  -- what doesn't hold of it in its model doesn't on the board
  none_held : (holds : Model → Cell → Bool) → holds m c ≡ false → (other : Cell) → cell_at b key ≡ Some other → holds_by holds b other ≡ false
  none_held holds out other there =
      let none : holds_by holds b c ≡ false = rw (stands, out) (and_right (runs c.phase) false refl) in
      let same : c ≡ other = (let both : Some c ≡ Some other = sym found ∙ there in cc) in
      subst (λ (x : Cell). holds_by holds b x ≡ false) same none

  -- a scope, in which nothing is
  empty_finished : IsTrue (is_empty b c.key) → HoldsEdited b Placed key finishes
  empty_finished empty cells made =
      let no_cells = both_left (not (has_child b c.key)) _ empty in
      let out : list_any (λ (t : Token). t.scope == key) b.tokens ≡ false = subst (λ (k : ℕ). list_any (λ (t : Token). t.scope == k) b.tokens ≡ false) (key_found b key c found)
      (not-true (list_any (λ (t : Token). t.scope == c.key) b.tokens) (both_right (not (has_child b c.key)) _ empty)) in
      edit_placed b key finishes cells (λ x. refl) made (no_cells_in no_cells cells made)
      (tokens_but b (record b { cells = cells }) key b.tokens (others_kept cells made) (none_passes (λ (t : Token). t.scope == key) b.tokens out) placed.tokens)

  -- a body or a compensation event, in which no tokens are, and nothing runs
  body_finished : holds_tokens m c ≡ false → IsTrue (not (has_child b c.key)) → HoldsEdited b Placed key finishes
  body_finished out none cells made =
      let after = record b { cells = cells } in
      edit_placed b key finishes cells (λ x. refl) made (no_cells_in none cells made)
      (All-weaker (IsIn b) (IsIn after) (λ t is. kept_edited (holds_by holds_tokens b) key finishes b.cells cells (λ x. refl) (λ other there h. absurd (let none_is = none_held holds_tokens out other there in cc)) made t.scope is) b.tokens placed.tokens)

  -- another cell
  other_finished : holds_cells m c ≡ false → HoldsEdited b Placed key finishes
  other_finished out cells made =
      kept_placed b key finishes (λ x. refl) cells made
      (none_edited b key finishes (λ x. refl) (λ holds place other there. none_held holds (none_within holds place (holds m c) refl) other there) cells made) placed
    where
      none_within : (holds : Model → Cell → Bool) → IsOfPlace holds → (t : Bool) → holds m c ≡ t → t ≡ false
      none_within holds place false at = refl
      none_within holds place true at = absurd (let its = place.within m c at in cc)

  -- no item is left in a body that is done, so nothing runs in it
  none_runs : (none item together : Bool) → IsTrue (none || (item && together)) → IsTrue (not (true && item)) → IsTrue none
  none_runs true item together acts over = refl
  none_runs false true together acts over = absurd (cc)
  none_runs false false together acts over = absurd (cc)

  finished : (body event tokens rest : Bool) → is_body c ≡ body → undoes m c ≡ event → holds_tokens m c ≡ tokens → IsTrue (not (body && has_item c))
      → IsTrue (if body then not (has_child b c.key) || (has_item c && not (is_sequential m c)) else if event then not (has_child b c.key) else if tokens then is_empty b c.key else rest)
      → HoldsEdited b Placed key finishes
  finished true event tokens rest body at is over acts = body_finished (rw body refl) (none_runs (not (has_child b c.key)) (has_item c) (not (is_sequential m c)) acts over)
  finished false true tokens rest body at is over none = body_finished (event_apart m c at) none
  finished false false true rest body at is over empty = empty_finished empty
  finished false false false rest body at is over done = other_finished (rw (is, at, body) refl)

finish_placed : (b : Board) (key : ℕ) → IsTrue (fits b (moves.Finish key)) → Placed b → HoldsEdited b Placed key (in_phase phases.Completing [])
finish_placed b key fit placed =
    let found = some_of (cell_at b key) (holds_some _ (cell_at b key) fit) in
    let c = found.0 in
    let done : IsTrue (is_done b c) = both_right (is_phase c.phase phases.Active) _ (at_cell (λ (x : Cell). is_phase x.phase phases.Active && is_done b x) (cell_at b key) c found.1 fit) in
    let its : IsTrue (acts b c) = both_left (acts b c) _ done in
    let model = some_of (model_under b c.definition) (holds_some (λ m. acts_in m b c) (model_under b c.definition) its) in
    let does : IsTrue (acts_in model.0 b c) = rw model.1 at its in
    let over = or_parts (is_body c && has_item c) (has_handler b c) (not-true ((is_body c && has_item c) || has_handler b c) (both_right (acts b c) _ done)) in
    finished b key c model.0 found.1 model.1 placed (is_body c) (undoes model.0 c) (holds_tokens model.0 c) _ refl refl refl (ap not over.0) does

-- a cell in which nothing runs is gone, with the tokens in it
gone_placed : (b : Board) (key : ℕ) → IsTrue (fits b (moves.Gone key)) → Placed b → HoldsMade b Placed (moves.Gone key)
gone_placed b key fit placed cells made =
    let after = record b { cells = cells } in
    let others : Token → Bool = λ t. not (t.scope == key) in
    let found = some_of (cell_at b key) (holds_some _ (cell_at b key) fit) in
    let h = at_cell (λ (x : Cell). is_phase x.phase phases.Terminating && not (has_child b key)) (cell_at b key) found.0 found.1 fit in
    let no_cells = none_passes (λ (c : Cell). c.scope == key) b.cells (not-true (has_child b key) (both_right (is_phase found.0.phase phases.Terminating) _ h)) in
    let no_tokens : All (λ (t : Token). (t.scope == key) ≡ false) (filter others b.tokens) = All-weaker (λ (t : Token). others t ≡ true) (λ (t : Token). (t.scope == key) ≡ false) (λ t other. not-true (t.scope == key) other) (filter others b.tokens) (filter_passes others b.tokens) in
    let kept : ScopesKeptBut b key after = λ holds. others_removed (holds_by holds b) key b.cells cells made in
    record {
      cells = removed_all (is_keyed key) (Stands after) b.cells cells (cells_but b after key kept no_cells placed) made;
      tokens = tokens_but b after key (filter others b.tokens) kept no_tokens (All-filter others (IsIn b) b.tokens placed.tokens);
    }

-- a cell that begins in another has a key behind all
abbrev pub IsNewIn : Board → Move → Type 0
IsNewIn b (moves.Enter e) = Between 1 e.key b.cells
IsNewIn b (moves.Inner i) = Between 1 i.key b.cells
IsNewIn b (moves.Undo u) = Between 1 u.key b.cells
IsNewIn b _ = Unit {0}

-- where a token stands in a scope, it is one
any_by : (b : Board) (scope : ℕ) (t : Token) (same spot : Bool) → (t.scope == scope) ≡ same → IsTrue (is_around holds_tokens b t.scope) → IsTrue (same && spot) → IsTrue (is_around holds_tokens b scope)
any_by b scope t true spot same there stands = let its : t.scope ≡ scope = grind (arith, nat_tests) in subst (λ (k : ℕ). IsTrue (is_around holds_tokens b k)) its there
any_by b scope t false spot apart there stands = absurd (cc)

either_of : {P : Type 0} (a b : Bool) → (IsTrue a → P) → (IsTrue b → P) → IsTrue (a || b) → P
either_of true b left right is = left refl
either_of false b left right is = right is

any_in : (b : Board) (scope : ℕ) (spot : Spot) (tokens : List Token) → All (IsIn b) tokens → IsTrue (list_any (stands_at scope spot) tokens) → IsTrue (is_around holds_tokens b scope)
any_in b scope spot [] all some = absurd (cc)
any_in b scope spot (t ∷ tokens) all some = either_of (stands_at scope spot t) (list_any (stands_at scope spot) tokens)
    (any_by b scope t (t.scope == scope) _ refl (All-head (IsIn b) t tokens all)) (any_in b scope spot tokens (All-tail (IsIn b) t tokens all)) some

each_in : (b : Board) (scope : ℕ) (places : List Spot) (tokens : List Token) → All (IsIn b) tokens → IsTrue (stand_at_each scope places tokens) → IsTrue (is_around holds_tokens b scope)
each_in b scope [] tokens all stand = absurd (cc)
each_in b scope (spot ∷ places) tokens all stand = any_in b scope spot tokens all (both_left (list_any (stands_at scope spot) tokens) _ stand)

-- tokens that stay are where they were
without_one : {A : Type 0} (P : A → Type 0) (passes : A → Bool) (xs : List A) → All P xs → All P (without_first passes xs)
without_one P passes xs all = edited_or (All P) xs (removed passes xs) all (λ left gone. removed_all passes P xs left all gone)

without_all : (P : Token → Type 0) (scope : ℕ) (places : List Spot) (tokens : List Token) → All P tokens → All P (without_each scope places tokens)
without_all P scope [] tokens all = all
without_all P scope (spot ∷ places) tokens all = without_all P scope places (without_first (stands_at scope spot) tokens) (without_one P (stands_at scope spot) tokens all)

all_below : (low high : ℕ) (cells : List Cell) → Between low high cells → All (λ (c : Cell). c.key < high) cells
all_below low high [] is = All-nil (λ (c : Cell). c.key < high)
all_below low high (c ∷ cells) is = All-cons (λ (x : Cell). x.key < high) c cells is.1 (all_below (c.key + 1) high cells is.2)

-- a cell that a token begins is no run of a body, and no handler
entering_plain : (e : Enter) (c : Cell) (m : Model) → is_part (entering e c m) ≡ false
entering_plain e c m = by_test (is_some (multi_at m e.node))
  where
    by_test : (t : Bool) → (is_role (if t then roles.Body else roles.Plain) roles.Inner || is_role (if t then roles.Body else roles.Plain) roles.Handler) ≡ false
    by_test true = refl
    by_test false = refl

-- a cell enters
enter_placed : (b : Board) (e : Enter) → Between 1 e.key b.cells → Placed b → HoldsMade b Placed (moves.Enter e)
enter_placed b e new placed c m found under stand =
    let cell = entering e c m in
    let after = record b { cells = b.cells ++ cell ∷ [] } in
    let kept : ScopesKept b after = λ holds place. kept_more (holds_by holds b) b.cells (cell ∷ []) in
    let still = all_still b after kept placed in
    let there = each_in b e.scope (spots_of m e.node e.via) b.tokens placed.tokens stand in
    let below = (found_holds (is_keyed e.scope) (λ (x : Cell). x.key < e.key) b.cells c (all_below 1 e.key b.cells new) found).0 in
    record {
      cells = All-push (Stands after) b.cells cell still.0
          (inr (subst (λ (t : Bool). IsTrue (is_around (around_by c.definition t) after e.scope)) (sym (entering_plain e c m)) (kept (around_by c.definition false) (around_of_place c.definition false) e.scope (around_with b e.scope c false found there)), omega (arith, below, key_found b e.scope c found)));
      tokens = without_all (IsIn after) e.scope (spots_of m e.node e.via) b.tokens still.1;
    }

-- a body that may begin a run holds others
runs_around : (b after : Board) (key : ℕ) (c : Cell) → cell_at after key ≡ Some (one_taken c) → after.models ≡ b.models → IsTrue (runs_next b c) → IsTrue (is_around holds_cells after key)
runs_around b after key c now same next =
    let body = both_left (is_body c) _ next in
    let inner = both_right (is_body c) _ next in
    let active = both_left (is_phase c.phase phases.Active) _ inner in
    let model = some_of (model_under b c.definition) (holds_some (λ m. may_run m b c) (model_under b c.definition) (both_right (is_phase c.phase phases.Active) _ inner)) in
    let there : model_under after c.definition ≡ Some model.0 = ap (λ (ms : List Deployed). model_among ms c.definition) same ∙ model.1 in
    let holds : IsTrue (holds_cells model.0 c) = or_right (holds_tokens model.0 c) (is_body c || undoes model.0 c) (or_left (is_body c) (undoes model.0 c) body) in
    rw (now, active, there) holds

-- a run of a body begins
inner_placed : (b : Board) (i : Inner) → IsTrue (fits b (moves.Inner i)) → Between 1 i.key b.cells → Placed b → HoldsMade b Placed (moves.Inner i)
inner_placed b i fit new placed c found cells made =
    let mid = record b { cells = cells } in
    let cell = run_in i c in
    let after = record b { cells = cells ++ cell ∷ [] } in
    let kept : ScopesKept mid after = λ holds place. kept_more (holds_by holds mid) cells (cell ∷ []) in
    let still = all_still mid after kept (same_placed b i.body one_taken (λ x. refl) (λ x. refl) placed cells made) in
    let next = at_cell (runs_next b) (cell_at b i.body) c found fit in
    let now = edited_found i.body one_taken c b.cells cells (λ x. refl) found made in
    let there = around_with mid i.body (one_taken c) true now (runs_around b mid i.body c now refl next) in
    let below = (found_holds (is_keyed i.body) (λ (x : Cell). x.key < i.key) b.cells c (all_below 1 i.key b.cells new) found).0 in
    record {
      cells = All-push (Stands after) cells cell still.0 (inr (kept (around_by c.definition true) (around_of_place c.definition true) i.body there, omega (arith, below, key_found b i.body c found)));
      tokens = still.1;
    }

-- a compensation event that may run a handler holds others
event_around : (b : Board) (key : ℕ) (c : Cell) (node : List ℕ) → cell_at b key ≡ Some c → IsTrue (runs_handler b node c) → IsTrue (is_around holds_cells b key)
event_around b key c node found may =
    let active = both_left (is_phase c.phase phases.Active) _ may in
    let next = next_is b c node (handles_next b c node may) in
    let stands = next.stands in
    let holds : IsTrue (holds_cells next.model c) = or_right (holds_tokens next.model c) (is_body c || undoes next.model c) (or_right (is_body c) (undoes next.model c) next.at_event) in
    rw (found, active, stands) holds

-- a handler begins
handler_placed : (b : Board) (u : Undo) → IsTrue (fits b (moves.Undo u)) → Between 1 u.key b.cells → Placed b → HoldsMade b Placed (moves.Undo u)
handler_placed b u fit new placed c found cells made =
    let mid = record b { cells = cells } in
    let cell = handler_in u c in
    let after = record b { cells = cells ++ cell ∷ [] } in
    let kept : ScopesKept mid after = λ holds place. kept_more (holds_by holds mid) cells (cell ∷ []) in
    let still = all_still mid after kept (same_placed b c.scope one_undone (λ x. refl) (λ x. refl) placed cells made) in
    let there = same_kept b c.scope one_undone (λ x. refl) (λ x. refl) cells made (around_by c.definition true) (around_of_place c.definition true) u.event
    (around_with b u.event c true found (event_around b u.event c u.node found (at_cell (runs_handler b u.node) (cell_at b u.event) c found fit))) in
    let below = (found_holds (is_keyed u.event) (λ (x : Cell). x.key < u.key) b.cells c (all_below 1 u.key b.cells new) found).0 in
    record {
      cells = All-push (Stands after) cells cell still.0 (inr (kept (around_by c.definition true) (around_of_place c.definition true) u.event there, omega (arith, below, key_found b u.event c found)));
      tokens = still.1;
    }

-- a root comes
start_placed : (b : Board) (cell : Cell) → cell.scope ≡ 0 → Placed b → Placed (record b { cells = b.cells ++ cell ∷ [] })
start_placed b cell root placed =
    let after = record b { cells = b.cells ++ cell ∷ [] } in
    let still = all_still b after (λ holds place. kept_more (holds_by holds b) b.cells (cell ∷ [])) placed in
    record { cells = All-push (Stands after) b.cells cell still.0 (inl root); tokens = still.1 }

-- the tokens that a scope gets are in it
start_in_scope : (b : Board) (scope : ℕ) (found : Option Node) → IsTrue (is_around holds_tokens b scope) → All (IsIn b) (option_map_or (λ (n : Node). record { scope = scope; spot = spots.BeforeNode n.id } ∷ []) found [])
start_in_scope b scope None is = All-nil (IsIn b)
start_in_scope b scope (Some n) is = All-cons (IsIn b) (record { scope = scope; spot = spots.BeforeNode n.id }) [] is (All-nil (IsIn b))

start_by : (b : Board) (c : Cell) (m : Model) (scope : Bool) → (IsTrue scope → IsTrue (is_around holds_tokens b c.key))
    → All (IsIn b) (if scope then option_map_or (λ (n : Node). record { scope = c.key; spot = spots.BeforeNode n.id } ∷ []) (start_in m (scope_id c)) [] else [])
start_by b c m true is = start_in_scope b c.key (start_in m (scope_id c)) (is refl)
start_by b c m false is = All-nil (IsIn b)

-- a cell opens
open_placed : (b : Board) (o : Open) → Placed b → HoldsMade b Placed (moves.Open o)
open_placed b o placed c m found stands cells made =
    let after = record b { cells = cells } in
    let now = edited_found o.key (with_items o.items) c b.cells cells (λ x. refl) found made in
    let opened : IsTrue (holds_tokens m c) → IsTrue (is_around holds_tokens after c.key) = λ is. subst (λ (k : ℕ). IsTrue (is_around holds_tokens after k)) (sym (key_found b o.key c found)) (rw (now, stands) is) in
    more_tokens after (start_tokens c m) (runs_placed b o.key (with_items o.items) (λ x. refl) (λ x. refl) placed cells made) (start_by after c m (holds_tokens m c) opened)

-- a cell that leaves holds nothing
leave_placed : (b : Board) (l : Leave) → IsTrue (fits b (moves.Leave l)) → Placed b → HoldsMade b Placed (moves.Leave l)
leave_placed b l fit placed c found left made =
    let none : (x : Cell) → cell_at b l.key ≡ Some x → runs x.phase ≡ false = λ x there.
    no_run x phases.Completing (both_left (is_phase x.phase phases.Completing) _ (at_cell (λ (y : Cell). is_phase y.phase phases.Completing && may_owe b y l.owed) (cell_at b l.key) x there fit)) refl in
    let its = (left_placed b l.owed l.key left none placed made).1 in
    behind_holds Placed b c left its (ended_placed c.scope left its)
    (λ can. edited_or (λ cells. Placed (record left { cells = cells })) left.cells (edited (is_keyed c.scope) (with_finished c.node) left.cells) its (same_placed left c.scope (with_finished c.node) (λ x. refl) (λ x. refl) its))

root_apart : (c : Cell) → c.scope ≡ 0 → IsFalse (is_root c) → ⊥
root_apart c root inner = let same : (c.scope == 0) ≡ true = grind (arith, nat_tests) in cc

-- a cell that is no root stands in one with a lesser key in which others may be
pub inner_scope : (b : Board) (c : Cell) → InScope b c → IsFalse (is_root c) → IsTrue (is_around holds_cells b c.scope) × (c.scope < c.key)
inner_scope b c is inner = ⊎_elim (λ root. absurd (root_apart c root inner)) (λ r. r) is

-- that is there, and of the same definition
pub its_scope : (b : Board) (c : Cell) → Stands b c → IsFalse (is_root c) → (s : Cell) × (cell_at b c.scope ≡ Some s) × (s.definition ≡ c.definition) × (c.scope < c.key)
its_scope b c is inner = ⊎_elim (λ root. absurd (root_apart c root inner)) (λ r. let its = around_there b c.definition c.scope (is_part c) r.0 in (its.0, its.1, its.2, r.1)) is

-- and where it is no run of a body and no handler either, tokens may be in that
token_scope : (b : Board) (key : ℕ) (c : Cell) → Placed b → cell_at b key ≡ Some c → IsFalse (is_root c) → IsFalse (is_part c) → IsTrue (is_around holds_tokens b c.scope)
token_scope b key c placed found inner plain =
    ⊎_elim (λ root. absurd (root_apart c root inner)) (λ r. (around_there b c.definition c.scope false (subst (λ (t : Bool). IsTrue (is_around (around_by c.definition t) b c.scope)) plain r.0)).3)
    (found_holds (is_keyed key) (Stands b) b.cells c placed.cells found).0

take_placed : (b : Board) (t : Take) → IsTrue (fits b (moves.Take t)) → All Owes b.cells → Placed b → HoldsMade b Placed (moves.Take t)
take_placed b t fit owes placed c found left made =
    let leaves : (x : Cell) → cell_at b t.key ≡ Some x → IsTrue (is_phase x.phase phases.Leaving) = λ x there.
    both_left (is_phase x.phase phases.Leaving) _ (at_cell (λ (y : Cell). is_phase y.phase phases.Leaving && is_first t.flow y.owed) (cell_at b t.key) x there fit) in
    let r = left_placed b (rest_of c.owed) t.key left (λ x there. no_run x phases.Leaving (leaves x there) refl) placed made in
    let its = (found_holds (is_keyed t.key) Owes b.cells c owes found).0 (leaves c found) in
    let apart = or_parts (is_root c) _ its.1 in
    let scope = token_scope b t.key c placed found apart.0 apart.1 in
    let token : Token = record { scope = c.scope; spot = spot_behind b c t.flow } in
    more_tokens left (token ∷ []) r.1 (All-cons (IsIn left) token [] (r.0 holds_tokens tokens_of_place c.scope scope) (All-nil (IsIn left)))

-- a token before a boundary event stands in the scope of the event's cell, which is no root, no run of a body, and no handler
told_placed : (b : Board) (t : Triggered) → IsTrue (fits b (moves.Trigger t)) → All (IsOfHandler b) b.cells → Placed b → (c : Cell) → cell_at b t.cell ≡ Some c → mark_by b t c ≡ None → Placed (with_token c.scope (spots.BeforeNode t.node) b)
told_placed b t fit handled placed c found untold =
    let inner = told_inner b t c found fit (awaits_inner b t c) in
    let plain = told_plain b t c found fit untold in
    let whole = told_whole b t c (found_holds (is_keyed t.cell) (IsOfHandler b) b.cells c handled found).0 found fit in
    let scope = token_scope b t.cell c placed found inner (rw (plain, whole) refl) in
    let token : Token = record { scope = c.scope; spot = spots.BeforeNode t.node } in
    more_tokens b (token ∷ []) placed (All-cons (IsIn b) token [] scope (All-nil (IsIn b)))

made_placed : (b : Board) (move : Move) → IsTrue (fits b move) → IsNewIn b move → All Owes b.cells → All (IsOfHandler b) b.cells → Placed b → HoldsMade b Placed move
made_placed b (moves.Stand d) fit new owes handled placed =
    let still = all_still b (record b { models = b.models ++ d ∷ [] }) (scopes_grown b (d ∷ [])) placed in
    record { cells = still.0; tokens = still.1 }
made_placed b (moves.Start s) fit new owes handled placed = λ m found. start_placed b (new_cell s.key 0 s.definition m.process roles.Plain false) refl placed
made_placed b (moves.Enter e) fit new owes handled placed = enter_placed b e new placed
made_placed b (moves.Inner i) fit new owes handled placed = inner_placed b i fit new placed
made_placed b (moves.Undo u) fit new owes handled placed = handler_placed b u fit new placed
made_placed b (moves.Open o) fit new owes handled placed = open_placed b o placed
made_placed b (moves.Finish key) fit new owes handled placed = finish_placed b key fit placed
made_placed b (moves.Leave l) fit new owes handled placed = leave_placed b l fit placed
made_placed b (moves.Take t) fit new owes handled placed = take_placed b t fit owes placed
made_placed b (moves.Halt key) fit new owes handled placed = λ cells made. emptied_placed (record b { cells = cells }) key
    (runs_placed b key (in_phase phases.Terminating []) (λ x. refl) (λ x. refl) placed cells made)
made_placed b (moves.Gone key) fit new owes handled placed = gone_placed b key fit placed
made_placed b (moves.Assign a) fit new owes handled placed = same_placed b a.scope (with_variable a.name a.value) (λ c. refl) (λ c. refl) placed
made_placed b (moves.Update a) fit new owes handled placed = same_placed b a.scope (with_variable a.name a.value) (λ c. refl) (λ c. refl) placed
made_placed b (moves.Done key) fit new owes handled placed = same_placed b key (with_mark marks.Done) (λ c. refl) (λ c. refl) placed
made_placed b (moves.Throw t) fit new owes handled placed = same_placed b t.cell (with_mark (marks.Thrown t.code)) (λ c. refl) (λ c. refl) placed
made_placed b (moves.Trigger t) fit new owes handled placed = λ c found. (λ mark at. same_placed b t.cell (with_mark mark) (λ x. refl) (λ x. refl) placed, told_placed b t fit handled placed c found)
made_placed b (moves.Incident i) fit new owes handled placed = record { cells = placed.cells; tokens = placed.tokens }
made_placed b (moves.Repair key) fit new owes handled placed = λ incidents gone. record { cells = placed.cells; tokens = placed.tokens }

-- each cell and each token stands in a scope after the move that an event shows
pub placed_on : (b after : Board) (move : Option Move) → IsTrue (may_fit move b) → IfSome move (IsNewIn b) → after_shown b move ≡ Some after → All Owes b.cells → All (IsOfHandler b) b.cells → Placed b → Placed after
placed_on b after None fit new made owes handled placed = subst Placed (let same : b ≡ after = cc in same) placed
placed_on b after (Some move) fit new made owes handled placed = made_holds b Placed after move (made_placed b move fit new owes handled placed) made
