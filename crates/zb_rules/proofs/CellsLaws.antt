-- Laws of the cells of a board as a move is made: their keys ascend.
use Rattle.std.proofs.Common.{◌≡◌, ℕ, ◌+◌, ◌<◌, ◌≤◌, List, [], ◌∷◌, ◌++◌, filter, Bool, true, false, not, cond, if◌then◌else◌, Option, Some, None, option_map, refl, subst, arith}
use Rattle.std.specs.Option.{IfSome}
use Rattle.zb_instance_records.specs.declared.instance.Role.TheVariants as roles
use Rattle.zb_tokens.specs.declared.board.Cell.{Cell}
use Rattle.zb_tokens.specs.declared.board.Mark.TheVariants as marks
use Rattle.zb_tokens.specs.Marks.{with_mark}
use Rattle.zb_tokens.specs.declared.board.Move.{Move}
use Rattle.zb_tokens.specs.declared.board.Move.TheVariants as moves
use Rattle.zb_tokens.specs.declared.board.Phase.TheVariants as phases
use Rattle.zb_tokens.specs.Edits.{edited, removed}
use Rattle.zb_tokens.specs.Board.{Board, CellsAscend, new_cell, in_phase, leaves_in}
use Rattle.zb_tokens.specs.MoveEnter.{entering}
use Rattle.zb_tokens.specs.MoveInner.{run_in, one_taken}
use Rattle.zb_tokens.specs.MoveUndo.{handler_in, one_undone}
use Rattle.zb_tokens.specs.MoveOpen.{with_items}
use Rattle.zb_tokens.specs.MoveLeave.{leaving, with_end, with_finished}
use Rattle.zb_tokens.specs.MoveTake.{rest_of}
use Rattle.zb_tokens.specs.MoveAssign.{with_variable}
use Rattle.zb_tokens.specs.Game.{played}
use Rattle.zb_rules.proofs.MadeLaws.{is_keyed, HoldsEdited, HoldsWithout, HoldsMade, left_holds, made_behind, made_holds}

-- the keys of the cells ascend, from `low` on, and lie below `high`
abbrev pub Between : ℕ → ℕ → List Cell → Type 0
Between low high [] = low ≤ high
Between low high (c ∷ cells) = (low ≤ c.key) × (c.key < high) × Between (c.key + 1) high cells

-- their keys ascend
pub ascend_between : (low high : ℕ) (cells : List Cell) → Between low high cells → CellsAscend low cells
ascend_between low high [] is = tt
ascend_between low high (c ∷ cells) is = (is.0, ascend_between (c.key + 1) high cells is.2)

-- the bounds are in order
pub ordered_between : (low high : ℕ) (cells : List Cell) → Between low high cells → low ≤ high
ordered_between low high [] is = is
ordered_between low high (c ∷ cells) is = omega arith

-- the lower bound may be less
pub between_lower : (less low high : ℕ) (cells : List Cell) → less ≤ low → Between low high cells → Between less high cells
between_lower less low high [] below is = omega arith
between_lower less low high (c ∷ cells) below is = (omega (arith, is.0), is.1, is.2)

-- the higher bound may be more
pub between_higher : (low high more : ℕ) (cells : List Cell) → high ≤ more → Between low high cells → Between low more cells
between_higher low high more [] above is = omega arith
between_higher low high more (c ∷ cells) above is = (is.0, omega (arith, is.1), between_higher (c.key + 1) high more cells above is.2)

-- one cell more behind them
pub between_push : (low high top : ℕ) (cells : List Cell) (c : Cell) → Between low high cells → high ≤ c.key → c.key < top → Between low top (cells ++ c ∷ [])
between_push low high top [] c is above below = (omega (arith, is), below, omega (arith, below))
between_push low high top (x ∷ cells) c is above below = (is.0, omega (arith, is.1), between_push (x.key + 1) high top cells c is.2 above below)

-- an edit that keeps each key keeps the order
module _ (passes : Cell → Bool) (edit : Cell → Cell) (keeps : (c : Cell) → (edit c).key ≡ c.key) where
  edited_by : (t : Bool) (low high : ℕ) (c : Cell) (cells after : List Cell) (later : Option (List Cell)) → Between low high (c ∷ cells) → ((rest : List Cell) → later ≡ Some rest → Between (c.key + 1) high rest)
      → (if t then Some (edit c ∷ cells) else option_map (λ ys. c ∷ ys) later) ≡ Some after → Between low high after
  edited_by true low high c cells after later is behind made =
      let same : edit c ∷ cells ≡ after = cc in
      let here : Between low high (edit c ∷ cells) = (rw (keeps c) is.0, rw (keeps c) is.1, rw (keeps c) is.2) in
      subst (Between low high) same here
  edited_by false low high c cells after None is behind made = absurd (cc)
  edited_by false low high c cells after (Some rest) is behind made =
      let same : c ∷ rest ≡ after = cc in
      let here : Between low high (c ∷ rest) = (is.0, is.1, behind rest refl) in
      subst (Between low high) same here

  -- the list with a cell edited
  pub between_edited : (low high : ℕ) (cells after : List Cell) → Between low high cells → edited passes edit cells ≡ Some after → Between low high after
  between_edited low high [] after is made = absurd (cc)
  between_edited low high (c ∷ cells) after is made =
      edited_by (passes c) low high c cells after (edited passes edit cells) is (λ rest. between_edited (c.key + 1) high cells rest is.2) made

-- and one without a cell too
module _ (passes : Cell → Bool) where
  removed_by : (t : Bool) (low high : ℕ) (c : Cell) (cells after : List Cell) (later : Option (List Cell)) → Between low high (c ∷ cells) → ((rest : List Cell) → later ≡ Some rest → Between (c.key + 1) high rest)
      → (if t then Some cells else option_map (λ ys. c ∷ ys) later) ≡ Some after → Between low high after
  removed_by true low high c cells after later is behind made =
      let same : cells ≡ after = cc in
      subst (Between low high) same (between_lower low (c.key + 1) high cells (omega (arith, is.0)) is.2)
  removed_by false low high c cells after None is behind made = absurd (cc)
  removed_by false low high c cells after (Some rest) is behind made =
      let same : c ∷ rest ≡ after = cc in
      let here : Between low high (c ∷ rest) = (is.0, is.1, behind rest refl) in
      subst (Between low high) same here

  -- the list without it
  pub between_removed : (low high : ℕ) (cells after : List Cell) → Between low high cells → removed passes cells ≡ Some after → Between low high after
  between_removed low high [] after is made = absurd (cc)
  between_removed low high (c ∷ cells) after is made =
      removed_by (passes c) low high c cells after (removed passes cells) is (λ rest. between_removed (c.key + 1) high cells rest is.2) made

-- and one with some cells alone
module _ (keep : Cell → Bool) where
  filtered_by : (t : Bool) (low high : ℕ) (c : Cell) (cells rest : List Cell) → Between low high (c ∷ cells) → Between (c.key + 1) high rest → Between low high (cond t (c ∷ rest) rest)
  filtered_by true low high c cells rest is behind = (is.0, is.1, behind)
  filtered_by false low high c cells rest is behind = between_lower low (c.key + 1) high rest (omega (arith, is.0)) behind

  -- the cells that pass a test
  pub between_filtered : (low high : ℕ) (cells : List Cell) → Between low high cells → Between low high (filter keep cells)
  between_filtered low high [] is = is
  between_filtered low high (c ∷ cells) is = filtered_by (keep c) low high c cells (filter keep cells) is (between_filtered (c.key + 1) high cells is.2)

-- the key of the cell that a move makes
abbrev pub key_made : Move → Option ℕ
key_made (moves.Start s) = Some s.key
key_made (moves.Enter e) = Some e.key
key_made (moves.Inner i) = Some i.key
key_made (moves.Undo u) = Some u.key
key_made _ = None

module _ (low high : ℕ) (b : Board) (is : Between low high b.cells) where
  module _ (top : ℕ) (more : high ≤ top) where
    abbrev Kept : Board → Type 0
    Kept x = Between low top x.cells

    with_edit : (key : ℕ) (edit : Cell → Cell) → ((c : Cell) → (edit c).key ≡ c.key) → HoldsEdited b Kept key edit
    with_edit key edit keeps cells made = between_higher low high top cells more (between_edited (is_keyed key) edit keeps low high b.cells cells is made)

    without : (key : ℕ) → HoldsWithout b Kept key
    without key cells made = between_higher low high top cells more (between_removed (is_keyed key) low high b.cells cells is made)

    with_left : (owed : List (List ℕ)) (key : ℕ) (left : Board) → leaving owed key b ≡ Some left → Kept left
    with_left owed key left made = left_holds b Kept left owed key (without key) (λ flow more same. with_edit key (in_phase phases.Leaving (flow ∷ more)) (λ c. refl)) made

    between_made : (move : Move) → IfSome (key_made move) (λ key. (high ≤ key) × (key < top)) → HoldsMade b Kept move
    between_made (moves.Stand d) new = between_higher low high top b.cells more is
    between_made (moves.Start s) new = λ m found. between_push low high top b.cells (new_cell s.key 0 s.definition m.process roles.Plain false) is new.0 new.1
    between_made (moves.Enter e) new = λ c m found under stand. between_push low high top b.cells (entering e c m) is new.0 new.1
    between_made (moves.Inner i) new = λ c found cells made. between_push low high top cells (run_in i c) (between_edited (is_keyed i.body) one_taken (λ x. refl) low high b.cells cells is made) new.0 new.1
    between_made (moves.Undo u) new = λ c found cells made. between_push low high top cells (handler_in u c) (between_edited (is_keyed c.scope) one_undone (λ x. refl) low high b.cells cells is made) new.0 new.1
    between_made (moves.Open o) new = λ c m found stands. with_edit o.key (with_items o.items) (λ c. refl)
    between_made (moves.Finish key) new = with_edit key (in_phase phases.Completing []) (λ c. refl)
    between_made (moves.Leave l) new = λ c found left made. made_behind (Between low top) b c left (with_left l.owed l.key left made)
        (λ cells edit. between_edited (is_keyed c.scope) with_end (λ x. refl) low top left.cells cells (with_left l.owed l.key left made) edit) (between_filtered (λ x. not (leaves_in c.scope x)) low top)
        (λ can cells edit. between_edited (is_keyed c.scope) (with_finished c.node) (λ x. refl) low top left.cells cells (with_left l.owed l.key left made) edit)
    between_made (moves.Take t) new = λ c found left made. with_left (rest_of c.owed) t.key left made
    between_made (moves.Halt key) new = λ cells made. between_filtered (λ x. not (leaves_in key x)) low top cells (with_edit key (in_phase phases.Terminating []) (λ c. refl) cells made)
    between_made (moves.Gone key) new = without key
    between_made (moves.Assign a) new = with_edit a.scope (with_variable a.name a.value) (λ c. refl)
    between_made (moves.Update a) new = with_edit a.scope (with_variable a.name a.value) (λ c. refl)
    between_made (moves.Done key) new = with_edit key (with_mark marks.Done) (λ c. refl)
    between_made (moves.Throw t) new = with_edit t.cell (with_mark (marks.Thrown t.code)) (λ c. refl)
    between_made (moves.Trigger t) new = λ c found. (λ mark at. with_edit t.cell (with_mark mark) (λ x. refl), λ at. between_higher low high top b.cells more is)
    between_made (moves.Incident i) new = between_higher low high top b.cells more is
    between_made (moves.Repair key) new = λ incidents gone. between_higher low high top b.cells more is

  -- a move keeps the order; a new cell has a key behind all
  pub between_played : (after : Board) (move : Move) (top : ℕ) → high ≤ top → IfSome (key_made move) (λ key. (high ≤ key) × (key < top)) → played b move ≡ Some after → Between low top after.cells
  between_played after move top more new made = made_holds b (λ x. Between low top x.cells) after move (between_made top more move new) made
