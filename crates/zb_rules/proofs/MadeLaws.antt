-- What each move makes of a board: what holds of all that it may make holds behind it.
use Rattle.std.proofs.Common.{◌≡◌, ℕ, ◌==◌, List, [], ◌∷◌, ◌++◌, filter, Bool, true, false, not, if◌then◌else◌, IsTrue, Option, Some, None, option_map, option_and_then, refl, subst}
use Rattle.std.specs.Option.{option_map_or}
use Rattle.zb_process.specs.declared.model.Model.{Model}
use Rattle.zb_instance_records.specs.declared.instance.Role.TheVariants as roles
use Rattle.zb_tokens.specs.declared.board.Cell.{Cell}
use Rattle.zb_tokens.specs.declared.board.Token.{Token}
use Rattle.zb_tokens.specs.declared.board.Incident.{Incident}
use Rattle.zb_tokens.specs.declared.board.Mark.{Mark}
use Rattle.zb_tokens.specs.declared.board.Mark.TheVariants as marks
use Rattle.zb_tokens.specs.declared.board.Spot.TheVariants as spots
use Rattle.zb_tokens.specs.declared.board.Triggered.{Triggered}
use Rattle.zb_tokens.specs.Marks.{with_mark}
use Rattle.zb_tokens.specs.declared.board.Move.{Move}
use Rattle.zb_tokens.specs.declared.board.Move.TheVariants as moves
use Rattle.zb_tokens.specs.declared.board.Phase.TheVariants as phases
use Rattle.zb_tokens.specs.Edits.{edited, removed}
use Rattle.zb_tokens.specs.Board.{Board, cell_at, model_under, new_cell, in_phase, leaves_in, emptied, with_token}
use Rattle.zb_tokens.specs.MoveEnter.{spots_of, stand_at_each, entered}
use Rattle.zb_tokens.specs.Handlers.{can_be_undone}
use Rattle.zb_tokens.specs.MoveInner.{run_in, one_taken}
use Rattle.zb_tokens.specs.MoveUndo.{handler_in, one_undone}
use Rattle.zb_tokens.specs.MoveOpen.{start_tokens, first_tokens, with_items}
use Rattle.zb_tokens.specs.MoveLeave.{leaving, ends_scope, with_end, scope_ended, with_finished, noted_finished, left_behind}
use Rattle.zb_tokens.specs.MoveTake.{rest_of, spot_behind}
use Rattle.zb_tokens.specs.MoveTrigger.{mark_by, told}
use Rattle.zb_tokens.specs.MoveAssign.{with_variable}
use Rattle.zb_tokens.specs.Game.{played}

-- what holds of nothing, and of what is made of a thing that is there, holds of what is made where it is
pub made_of_any : {A B : Type 0} (P : List B → Type 0) (make : A → List B) (found : Option A) → P [] → ((x : A) → found ≡ Some x → P (make x)) → P (option_map_or make found [])
made_of_any P make None none some = none
made_of_any P make (Some x) none some = some x refl

-- the cell has this key
abbrev pub is_keyed : ℕ → Cell → Bool
is_keyed key c = c.key == key

module _ {A B : Type 0} (Q : B → Type 0) where
  -- what each way through the option gives holds of what comes out
  pub chained_holds : (f : A → Option B) (o : Option A) (y : B) → ((x : A) → o ≡ Some x → (z : B) → f x ≡ Some z → Q z) → option_and_then f o ≡ Some y → Q y
  chained_holds f None y each made = absurd (cc)
  chained_holds f (Some x) y each made = each x refl y made

  -- and of what is mapped
  pub mapped_holds : (f : A → B) (o : Option A) (y : B) → ((x : A) → o ≡ Some x → Q (f x)) → option_map f o ≡ Some y → Q y
  mapped_holds f None y each made = absurd (cc)
  mapped_holds f (Some x) y each made = let same : f x ≡ y = cc in subst Q same (each x refl)

-- what is mapped passes a test, if anything is
pub mapped_passes : {A B : Type 0} (test : B → Bool) (make : A → B) → ((x : A) → IsTrue (test (make x))) → (found : Option A) → option_map_or test (option_map make found) true ≡ true
mapped_passes test make passes None = refl
mapped_passes test make passes (Some x) = passes x

module _ {B : Type 0} (Q : B → Type 0) where
  -- and of what is there under a test
  tested_holds : (t : Bool) (x y : B) → (IsTrue t → Q x) → (if t then Some x else None) ≡ Some y → Q y
  tested_holds true x y each made = subst Q (let same : x ≡ y = cc in same) (each refl)
  tested_holds false x y each made = absurd (cc)

-- Q holds of the board with the cell of this key edited
abbrev pub HoldsEdited : Board → (Board → Type 0) → ℕ → (Cell → Cell) → Type 0
HoldsEdited b Q key edit = (cells : List Cell) → edited (is_keyed key) edit b.cells ≡ Some cells → Q (record b { cells = cells })

-- and of the one without that cell
abbrev pub HoldsWithout : Board → (Board → Type 0) → ℕ → Type 0
HoldsWithout b Q key = (cells : List Cell) → removed (is_keyed key) b.cells ≡ Some cells → Q (record b { cells = cells })

-- Q holds of all that a move may make of a board
abbrev pub HoldsMade : Board → (Board → Type 0) → Move → Type 0
HoldsMade b Q (moves.Stand d) = Q (record b { models = b.models ++ d ∷ [] })
HoldsMade b Q (moves.Start s) = (m : Model) → model_under b s.definition ≡ Some m → Q (record b { cells = b.cells ++ new_cell s.key 0 s.definition m.process roles.Plain false ∷ [] })
HoldsMade b Q (moves.Enter e) = (c : Cell) (m : Model) → cell_at b e.scope ≡ Some c → model_under b c.definition ≡ Some m → IsTrue (stand_at_each e.scope (spots_of m e.node e.via) b.tokens) → Q (entered b e c m)
HoldsMade b Q (moves.Inner i) = (c : Cell) → cell_at b i.body ≡ Some c → HoldsEdited b (λ x. Q (record x { cells = x.cells ++ run_in i c ∷ [] })) i.body one_taken
HoldsMade b Q (moves.Undo u) = (c : Cell) → cell_at b u.event ≡ Some c → HoldsEdited b (λ x. Q (record x { cells = x.cells ++ handler_in u c ∷ [] })) c.scope one_undone
HoldsMade b Q (moves.Open o) = (c : Cell) (m : Model) → cell_at b o.key ≡ Some c → model_under b c.definition ≡ Some m
    → HoldsEdited b (λ x. Q (record x { tokens = b.tokens ++ start_tokens c m })) o.key (with_items o.items)
HoldsMade b Q (moves.Finish key) = HoldsEdited b Q key (in_phase phases.Completing [])
HoldsMade b Q (moves.Leave l) = (c : Cell) → cell_at b l.key ≡ Some c → (left : Board) → leaving l.owed l.key b ≡ Some left → Q (left_behind b c left)
HoldsMade b Q (moves.Take t) = (c : Cell) → cell_at b t.key ≡ Some c → (left : Board) → leaving (rest_of c.owed) t.key b ≡ Some left → Q (with_token c.scope (spot_behind b c t.flow) left)
HoldsMade b Q (moves.Halt key) = HoldsEdited b (λ x. Q (emptied key x)) key (in_phase phases.Terminating [])
HoldsMade b Q (moves.Gone key) = HoldsWithout b (λ x. Q (record x { tokens = filter (λ t. not (t.scope == key)) b.tokens })) key
HoldsMade b Q (moves.Assign a) = HoldsEdited b Q a.scope (with_variable a.name a.value)
HoldsMade b Q (moves.Update a) = HoldsEdited b Q a.scope (with_variable a.name a.value)
HoldsMade b Q (moves.Done key) = HoldsEdited b Q key (with_mark marks.Done)
HoldsMade b Q (moves.Throw t) = HoldsEdited b Q t.cell (with_mark (marks.Thrown t.code))
HoldsMade b Q (moves.Trigger t) = (c : Cell) → cell_at b t.cell ≡ Some c
    → ((mark : Mark) → mark_by b t c ≡ Some mark → HoldsEdited b Q t.cell (with_mark mark)) × (mark_by b t c ≡ None → Q (with_token c.scope (spots.BeforeNode t.node) b))
HoldsMade b Q (moves.Incident i) = Q (record b { incidents = b.incidents ++ i ∷ [] })
HoldsMade b Q (moves.Repair key) = (incidents : List Incident) → removed (λ i. i.key == key) b.incidents ≡ Some incidents → Q (record b { incidents = incidents })

-- what holds of a list as it was and of another one that may have been made of it holds of the one that is there
pub edited_or : {A : Type 0} (P : List A → Type 0) (xs : List A) (made : Option (List A)) → P xs → ((after : List A) → made ≡ Some after → P after) → P (option_map_or (λ ys. ys) made xs)
edited_or P xs None is edit = is
edited_or P xs (Some after) is edit = edit after refl

-- what holds of a board, where a scope on it is ended, and where an activity that can be undone has finished in it, holds of what a cell makes of it as it leaves
pub behind_holds : (Q : Board → Type 0) (b : Board) (c : Cell) (left : Board) → Q left → Q (scope_ended c.scope left) → (IsTrue (can_be_undone b c) → Q (noted_finished c.scope c.node left)) → Q (left_behind b c left)
behind_holds Q b c left is ended finished = by_tests (ends_scope b c) (can_be_undone b c) refl
  where
    by_tests : (ends can : Bool) → can_be_undone b c ≡ can → Q (if ends then scope_ended c.scope left else if can then noted_finished c.scope c.node left else left)
    by_tests true can at = ended
    by_tests false true at = finished at
    by_tests false false at = is

-- what holds of some cells, and of them with one edited and without some, holds of those that are there as a cell has left
pub made_behind : (P : List Cell → Type 0) (b : Board) (c : Cell) (left : Board) → P left.cells → ((cells : List Cell) → edited (is_keyed c.scope) with_end left.cells ≡ Some cells → P cells)
    → ((cells : List Cell) → P cells → P (filter (λ x. not (leaves_in c.scope x)) cells))
    → (IsTrue (can_be_undone b c) → (cells : List Cell) → edited (is_keyed c.scope) (with_finished c.node) left.cells ≡ Some cells → P cells) → P (left_behind b c left).cells
made_behind P b c left is edit some finish = behind_holds (λ (x : Board). P x.cells) b c left is
    (some _ (edited_or P left.cells (edited (is_keyed c.scope) with_end left.cells) is edit))
    (λ can. edited_or P left.cells (edited (is_keyed c.scope) (with_finished c.node) left.cells) is (finish can))

module _ (b : Board) (Q : Board → Type 0) where
  -- a cell that leaves owes flows, or is gone
  pub left_holds : (after : Board) (owed : List (List ℕ)) (key : ℕ) → HoldsWithout b Q key → ((flow : List ℕ) (more : List (List ℕ)) → owed ≡ flow ∷ more → HoldsEdited b Q key (in_phase phases.Leaving (flow ∷ more)))
      → leaving owed key b ≡ Some after → Q after
  left_holds after [] key without edited_is made = mapped_holds Q _ (removed (is_keyed key) b.cells) after without made
  left_holds after (flow ∷ owed) key without edited_is made = mapped_holds Q _ (edited (is_keyed key) (in_phase phases.Leaving (flow ∷ owed)) b.cells) after (edited_is flow owed refl) made

  -- a cell is told of an event, or a token stands before the boundary event
  told_holds : (t : Triggered) (c : Cell) (after : Board) (told_by : Option Mark) → ((mark : Mark) → told_by ≡ Some mark → HoldsEdited b Q t.cell (with_mark mark)) → (told_by ≡ None → Q (with_token c.scope (spots.BeforeNode t.node) b))
      → told b t c told_by ≡ Some after → Q after
  told_holds t c after (Some mark) marked placed made = mapped_holds Q _ (edited (is_keyed t.cell) (with_mark mark) b.cells) after (marked mark refl) made
  told_holds t c after None marked placed made = subst Q (let same : with_token c.scope (spots.BeforeNode t.node) b ≡ after = cc in same) (placed refl)

  -- what holds of all that a move may make holds behind it
  pub made_holds : (after : Board) (move : Move) → HoldsMade b Q move → played b move ≡ Some after → Q after
  made_holds after (moves.Stand d) holds made = subst Q (let same : record b { models = b.models ++ d ∷ [] } ≡ after = cc in same) holds
  made_holds after (moves.Start s) holds made = mapped_holds Q _ (model_under b s.definition) after holds made
  made_holds after (moves.Enter e) holds made = chained_holds Q _ (cell_at b e.scope) after (λ c found z led.
      chained_holds Q _ (model_under b c.definition) z (λ m stands y came.
      tested_holds Q (stand_at_each e.scope (spots_of m e.node e.via) b.tokens) (entered b e c m) y (holds c m found stands) came) led) made
  made_holds after (moves.Inner i) holds made = chained_holds Q _ (cell_at b i.body) after (λ c found z led.
      mapped_holds Q _ (edited (is_keyed i.body) one_taken b.cells) z (holds c found) led) made
  made_holds after (moves.Undo u) holds made = chained_holds Q _ (cell_at b u.event) after (λ c found z led.
      mapped_holds Q _ (edited (is_keyed c.scope) one_undone b.cells) z (holds c found) led) made
  made_holds after (moves.Open o) holds made = chained_holds Q _ (cell_at b o.key) after (λ c found z led.
      chained_holds Q _ (first_tokens b c) z (λ tokens got y came.
      mapped_holds Q _ (edited (is_keyed o.key) (with_items o.items) b.cells) y (λ cells there.
      mapped_holds (λ (ts : List Token). Q (record b { cells = cells; tokens = b.tokens ++ ts })) (start_tokens c) (model_under b c.definition) tokens (λ m stands. holds c m found stands cells there) got) came) led) made
  made_holds after (moves.Finish key) holds made = mapped_holds Q _ (edited (is_keyed key) (in_phase phases.Completing []) b.cells) after holds made
  made_holds after (moves.Leave l) holds made = chained_holds Q _ (cell_at b l.key) after (λ c found z led.
      mapped_holds Q _ (leaving l.owed l.key b) z (holds c found) led) made
  made_holds after (moves.Take t) holds made = chained_holds Q _ (cell_at b t.key) after (λ c found z led.
      mapped_holds Q (with_token c.scope (spot_behind b c t.flow)) (leaving (rest_of c.owed) t.key b) z (holds c found) led) made
  made_holds after (moves.Halt key) holds made = mapped_holds Q _ (edited (is_keyed key) (in_phase phases.Terminating []) b.cells) after holds made
  made_holds after (moves.Gone key) holds made = mapped_holds Q _ (removed (is_keyed key) b.cells) after holds made
  made_holds after (moves.Assign a) holds made = mapped_holds Q _ (edited (is_keyed a.scope) (with_variable a.name a.value) b.cells) after holds made
  made_holds after (moves.Update a) holds made = mapped_holds Q _ (edited (is_keyed a.scope) (with_variable a.name a.value) b.cells) after holds made
  made_holds after (moves.Done key) holds made = mapped_holds Q _ (edited (is_keyed key) (with_mark marks.Done) b.cells) after holds made
  made_holds after (moves.Throw t) holds made = mapped_holds Q _ (edited (is_keyed t.cell) (with_mark (marks.Thrown t.code)) b.cells) after holds made
  made_holds after (moves.Trigger t) holds made = chained_holds Q _ (cell_at b t.cell) after (λ c found z led. told_holds t c z (mark_by b t c) (holds c found).0 (holds c found).1 led) made
  made_holds after (moves.Incident i) holds made = subst Q (let same : record b { incidents = b.incidents ++ i ∷ [] } ≡ after = cc in same) holds
  made_holds after (moves.Repair key) holds made = mapped_holds Q _ (removed (λ i. i.key == key) b.incidents) after holds made
