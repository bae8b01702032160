-- What holds of each cell after a move, and of each member of a list that is edited.
use Rattle.std.proofs.Common.{◌≡◌, ℕ, zero, suc, List, [], ◌∷◌, Bool, true, false, not, if◌then◌else◌, IsTrue, is_some, Option, Some, None, option_map, All, refl, subst, arith, sym, ◌∙◌}
use Rattle.std.specs.List.{find, AllPairs}
use Rattle.std.proofs.lemmas.Bool.Decides.{nat_tests}
use Rattle.std.proofs.lemmas.List.Elements.{All-cons, All-head, All-tail, All-push, All-filter}
use Rattle.std.proofs.lemmas.List.Kept.{AllPairs-cons}
use Rattle.zb_process.specs.declared.model.Model.{Model}
use Rattle.zb_instance_records.specs.declared.instance.Role.TheVariants as roles
use Rattle.zb_tokens.specs.declared.board.Cell.{Cell}
use Rattle.zb_tokens.specs.declared.board.Mark.{Mark}
use Rattle.zb_tokens.specs.declared.board.Mark.TheVariants as marks
use Rattle.zb_tokens.specs.Marks.{with_mark}
use Rattle.zb_tokens.specs.declared.board.Move.{Move}
use Rattle.zb_tokens.specs.declared.board.Move.TheVariants as moves
use Rattle.zb_tokens.specs.declared.board.Phase.TheVariants as phases
use Rattle.zb_tokens.specs.Edits.{edited, removed}
use Rattle.zb_tokens.specs.Board.{Board, cell_at, model_under, new_cell, in_phase, leaves_in}
use Rattle.zb_tokens.specs.MoveEnter.{entering}
use Rattle.zb_tokens.specs.Handlers.{can_be_undone}
use Rattle.zb_tokens.specs.MoveInner.{run_in, one_taken}
use Rattle.zb_tokens.specs.MoveUndo.{handler_in, one_undone}
use Rattle.zb_tokens.specs.MoveOpen.{with_items}
use Rattle.zb_tokens.specs.MoveLeave.{leaving, with_end, with_finished}
use Rattle.zb_tokens.specs.MoveTrigger.{mark_by}
use Rattle.zb_tokens.specs.MoveTake.{rest_of}
use Rattle.zb_tokens.specs.MoveAssign.{with_variable}
use Rattle.zb_tokens.specs.Game.{played}
use Rattle.zb_tokens.proofs.FoundLaws.{found_passes}
use Rattle.zb_rules.proofs.MadeLaws.{is_keyed, HoldsEdited, HoldsMade, left_holds, made_behind, made_holds}

module _ {A : Type 0} (passes : A → Bool) (P : A → Type 0) where
  edited_by : (edit : A → A) (x : A) (xs after : List A) (t : Bool) (later : Option (List A)) → All P (x ∷ xs) → ((y : A) → (if t then Some x else find passes xs) ≡ Some y → P y → P (edit y))
      → ((rest : List A) → later ≡ Some rest → ((y : A) → find passes xs ≡ Some y → P y → P (edit y)) → All P rest)
      → (if t then Some (edit x ∷ xs) else option_map (λ ys. x ∷ ys) later) ≡ Some after → All P after
  edited_by edit x xs after true later all each behind made =
      subst (All P) (let same : edit x ∷ xs ≡ after = cc in same) (All-cons P (edit x) xs (each x refl (All-head P x xs all)) (All-tail P x xs all))
  edited_by edit x xs after false None all each behind made = absurd (cc)
  edited_by edit x xs after false (Some rest) all each behind made =
      subst (All P) (let same : x ∷ rest ≡ after = cc in same) (All-cons P x rest (All-head P x xs all) (behind rest refl each))

  -- an edit that keeps it of the one that is found keeps it of each
  pub edited_all : (edit : A → A) (xs after : List A) → All P xs → ((y : A) → find passes xs ≡ Some y → P y → P (edit y)) → edited passes edit xs ≡ Some after → All P after
  edited_all edit [] after all each made = absurd (cc)
  edited_all edit (x ∷ xs) after all each made =
      edited_by edit x xs after (passes x) (edited passes edit xs) all each (λ rest is each. edited_all edit xs rest (All-tail P x xs all) each is) made

  removed_by : (x : A) (xs after : List A) (t : Bool) (later : Option (List A)) → All P (x ∷ xs) → ((rest : List A) → later ≡ Some rest → All P rest)
      → (if t then Some xs else option_map (λ ys. x ∷ ys) later) ≡ Some after → All P after
  removed_by x xs after true later all behind made = subst (All P) (let same : xs ≡ after = cc in same) (All-tail P x xs all)
  removed_by x xs after false None all behind made = absurd (cc)
  removed_by x xs after false (Some rest) all behind made =
      subst (All P) (let same : x ∷ rest ≡ after = cc in same) (All-cons P x rest (All-head P x xs all) (behind rest refl))

  -- what holds of each holds of each without one
  pub removed_all : (xs after : List A) → All P xs → removed passes xs ≡ Some after → All P after
  removed_all [] after all made = absurd (cc)
  removed_all (x ∷ xs) after all made = removed_by x xs after (passes x) (removed passes xs) all (λ rest is. removed_all xs rest (All-tail P x xs all) is) made

module _ {A : Type 0} (passes : A → Bool) (R : A → A → Type 0) where
  pairs_by : (x : A) (xs after : List A) (t : Bool) (later : Option (List A)) → All (R x) xs → AllPairs R xs → ((rest : List A) → later ≡ Some rest → All (R x) rest × AllPairs R rest)
      → (if t then Some xs else option_map (λ ys. x ∷ ys) later) ≡ Some after → AllPairs R after
  pairs_by x xs after true later head tail behind made = subst (AllPairs R) (let same : xs ≡ after = cc in same) tail
  pairs_by x xs after false None head tail behind made = absurd (cc)
  pairs_by x xs after false (Some rest) head tail behind made =
      let r = behind rest refl in
      subst (AllPairs R) (let same : x ∷ rest ≡ after = cc in same) (AllPairs-cons R x rest r.0 r.1)

  -- what holds of each pair holds of each without one
  pub removed_pairs : (xs after : List A) → AllPairs R xs → removed passes xs ≡ Some after → AllPairs R after
  removed_pairs [] after all made = absurd (cc)
  removed_pairs (x ∷ xs) after all made =
      let head : All (R x) xs = λ k d within. all zero (suc k) d (omega arith) (omega arith) in
      let tail : AllPairs R xs = λ i j d lt within. all (suc i) (suc j) d (omega arith) (omega arith) in
      pairs_by x xs after (passes x) (removed passes xs) head tail (λ rest is. (removed_all passes (R x) xs rest head is, removed_pairs xs rest tail is)) made

-- what has to be shown of the cell with a key as it is edited, so that P holds of each cell
abbrev pub EditKept : Board → (Cell → Type 0) → ℕ → (Cell → Cell) → Type 0
EditKept b P key edit = (c : Cell) → cell_at b key ≡ Some c → P c → P (edit c)

-- what has to be shown of the cells that a move makes or edits
abbrev pub CellKept : Board → (Cell → Type 0) → Move → Type 0
CellKept b P (moves.Stand d) = Unit {0}
CellKept b P (moves.Start s) = (node : List ℕ) → IsTrue (is_some (model_under b s.definition)) → P (new_cell s.key 0 s.definition node roles.Plain false)
CellKept b P (moves.Enter e) = (c : Cell) (m : Model) → cell_at b e.scope ≡ Some c → model_under b c.definition ≡ Some m → P (entering e c m)
CellKept b P (moves.Inner i) = ((c : Cell) → cell_at b i.body ≡ Some c → P (run_in i c)) × EditKept b P i.body one_taken
CellKept b P (moves.Undo u) = (c : Cell) → cell_at b u.event ≡ Some c → P (handler_in u c) × EditKept b P c.scope one_undone
CellKept b P (moves.Open o) = EditKept b P o.key (with_items o.items)
CellKept b P (moves.Finish key) = EditKept b P key (in_phase phases.Completing [])
CellKept b P (moves.Leave l) = ((flow : List ℕ) (owed : List (List ℕ)) → l.owed ≡ flow ∷ owed → EditKept b P l.key (in_phase phases.Leaving (flow ∷ owed))) × ((c : Cell) → P c → P (with_end c))
    × ((c : Cell) → cell_at b l.key ≡ Some c → IsTrue (can_be_undone b c) → (scope : Cell) → scope.key ≡ c.scope → P scope → P (with_finished c.node scope))
CellKept b P (moves.Take t) = (flow : List ℕ) (owed : List (List ℕ)) → EditKept b P t.key (in_phase phases.Leaving (flow ∷ owed))
CellKept b P (moves.Halt key) = EditKept b P key (in_phase phases.Terminating [])
CellKept b P (moves.Gone key) = Unit {0}
CellKept b P (moves.Assign a) = EditKept b P a.scope (with_variable a.name a.value)
CellKept b P (moves.Update a) = EditKept b P a.scope (with_variable a.name a.value)
CellKept b P (moves.Done key) = EditKept b P key (with_mark marks.Done)
CellKept b P (moves.Throw t) = EditKept b P t.cell (with_mark (marks.Thrown t.code))
CellKept b P (moves.Trigger t) = (c : Cell) → cell_at b t.cell ≡ Some c → (mark : Mark) → mark_by b t c ≡ Some mark → P c → P (with_mark mark c)
CellKept b P (moves.Incident i) = Unit {0}
CellKept b P (moves.Repair key) = Unit {0}

-- a cell that is found with a key has it
its_key : (key : ℕ) (c : Cell) (cells : List Cell) → find (is_keyed key) cells ≡ Some c → c.key ≡ key
its_key key c cells there =
    let same = found_passes (is_keyed key) cells c there in
    grind (arith, nat_tests, same)

module _ (b : Board) (P : Cell → Type 0) (all : All P b.cells) where
  abbrev Each : Board → Type 0
  Each x = All P x.cells

  edit_all : (key : ℕ) (edit : Cell → Cell) → EditKept b P key edit → HoldsEdited b Each key edit
  edit_all key edit kept cells made = edited_all (is_keyed key) P edit b.cells cells all kept made

  left_all : (owed : List (List ℕ)) (key : ℕ) (left : Board) → ((flow : List ℕ) (more : List (List ℕ)) → owed ≡ flow ∷ more → EditKept b P key (in_phase phases.Leaving (flow ∷ more))) → leaving owed key b ≡ Some left → All P left.cells
  left_all owed key left kept made = left_holds b Each left owed key (λ cells gone. removed_all (is_keyed key) P b.cells cells all gone) (λ flow more same. edit_all key (in_phase phases.Leaving (flow ∷ more)) (kept flow more same)) made

  made_all : (move : Move) → CellKept b P move → HoldsMade b Each move
  made_all (moves.Stand d) kept = all
  made_all (moves.Start s) kept = λ m found. All-push P b.cells (new_cell s.key 0 s.definition m.process roles.Plain false) all (kept m.process (rw found refl))
  made_all (moves.Enter e) kept = λ c m found under stand. All-push P b.cells (entering e c m) all (kept c m found under)
  made_all (moves.Inner i) kept = λ c found cells made. All-push P cells (run_in i c) (edit_all i.body one_taken kept.1 cells made) (kept.0 c found)
  made_all (moves.Undo u) kept = λ c found cells made. All-push P cells (handler_in u c) (edit_all c.scope one_undone (kept c found).1 cells made) (kept c found).0
  made_all (moves.Open o) kept = λ c m found stands. edit_all o.key (with_items o.items) kept
  made_all (moves.Finish key) kept = edit_all key (in_phase phases.Completing []) kept
  made_all (moves.Leave l) kept = λ c found left made.
      let its = left_all l.owed l.key left kept.0 made in
      made_behind (All P) b c left its (λ cells edit. edited_all (is_keyed c.scope) P with_end left.cells cells its (λ x there. kept.1 x) edit) (All-filter (λ x. not (leaves_in c.scope x)) P)
      (λ can cells edit. edited_all (is_keyed c.scope) P (with_finished c.node) left.cells cells its (λ x there. kept.2 c found can x (its_key c.scope x left.cells there)) edit)
  made_all (moves.Take t) kept = λ c found left made. left_all (rest_of c.owed) t.key left (λ flow owed same. kept flow owed) made
  made_all (moves.Halt key) kept = λ cells made. All-filter (λ x. not (leaves_in key x)) P cells (edit_all key (in_phase phases.Terminating []) kept cells made)
  made_all (moves.Gone key) kept = λ cells made. removed_all (is_keyed key) P b.cells cells all made
  made_all (moves.Assign a) kept = edit_all a.scope (with_variable a.name a.value) kept
  made_all (moves.Update a) kept = edit_all a.scope (with_variable a.name a.value) kept
  made_all (moves.Done key) kept = edit_all key (with_mark marks.Done) kept
  made_all (moves.Throw t) kept = edit_all t.cell (with_mark (marks.Thrown t.code)) kept
  made_all (moves.Trigger t) kept = λ c found. (λ mark at. edit_all t.cell (with_mark mark) (λ x there. let same : Some c ≡ Some x = sym found ∙ there in let one : c ≡ x = cc in kept x there mark (subst (λ (y : Cell). mark_by b t y ≡ Some mark) one at)), λ at. all)
  made_all (moves.Incident i) kept = all
  made_all (moves.Repair key) kept = λ incidents gone. all

  -- a move keeps what holds of each cell
  pub cells_played : (after : Board) (move : Move) → CellKept b P move → played b move ≡ Some after → All P after.cells
  cells_played after move kept made = made_holds b Each after move (made_all move kept) made
