-- What holds of the cell with one key as a log grows, and of keys that were drawn.
use Rattle.std.proofs.Common.{◌≡◌, ℕ, ◌<◌, ◌≤◌, ◌==◌, List, [], ◌∷◌, ◌++◌, Bool, true, false, ◌&&◌, if◌then◌else◌, IsTrue, Option, Some, None, option_and_then, All, sym, ap, ◌∙◌, subst, arith}
use Rattle.std.specs.Option.{IfSome}
use Rattle.std.proofs.lemmas.List.Elements.{All-weaker}
use Rattle.zb_instance_records.specs.declared.instance.ElementActivating.{ElementActivating}
use Rattle.zb_model.specs.declared.record.Event.{Event}
use Rattle.zb_model.specs.declared.record.Event.TheVariants as events
use Rattle.zb_views.specs.View.{next_key}
use Rattle.zb_views.specs.Jobs.{job_at, job_on}
use Rattle.zb_views.specs.Left.{left, left_told, leaves_root}
use Rattle.zb_views.specs.declared.left.Left.TheVariants as lefts
use Rattle.zb_views.specs.declared.begun.Begun.{Begun}
use Rattle.zb_views.proofs.ViewLaws.{left_more}
use Rattle.zb_tokens.specs.declared.board.Cell.{Cell}
use Rattle.zb_tokens.specs.declared.board.Move.{Move}
use Rattle.zb_tokens.specs.declared.board.Move.TheVariants as moves
use Rattle.zb_tokens.specs.Board.{Board, CellsAscend, cell_at}
use Rattle.zb_tokens.specs.Game.{fits, played}
use Rattle.zb_tokens.proofs.GameLaws.{both_left, both_right, found_holds}
use Rattle.zb_rules.specs.Shown.{shown, move_of_cell, after_shown, board_of}
use Rattle.zb_rules.specs.Applies.{is_fresh, holds_own, begins_instance, begins_cell, may_fit, applies, all_apply}
use Rattle.zb_rules.proofs.AppliedLaws.{Advances, some_of, applied_board, board_behind}
use Rattle.zb_rules.proofs.CatchLaws.{found_here}
use Rattle.zb_rules.proofs.CellsLaws.{key_made}
use Rattle.zb_rules.proofs.GrowthLaws.{job_shows, started, cell_shows}
use Rattle.zb_rules.proofs.KeysLaws.{HasOrderedCells, next_key_more, fresh_is, begun_is, begins_by, no_root, root_key}
use Rattle.zb_rules.proofs.MadeLaws.{is_keyed}
use Rattle.zb_rules.proofs.NamedLaws.{found_below}
use Rattle.zb_rules.proofs.PlacedLaws.{key_found}
use Rattle.zb_rules.proofs.PlayedLaws.{CellKept, cells_played}
use Rattle.zb_rules.proofs.SoundLaws.{board_is_there}
use Rattle.zb_rules.proofs.StepLaws.{all_apply_on}

-- of cells that ascend
module _ (key : ℕ) (P : Cell → Type 0) where
  -- this is said of the one with a key alone
  abbrev pub OfKey : Cell → Type 0
  OfKey c = c.key ≡ key → P c

  -- what holds of that one is said of each
  pub first_of_key : (b : Board) (c : Cell) → CellsAscend 1 b.cells → cell_at b key ≡ Some c → P c → All OfKey b.cells
  first_of_key b c up found holds = All-weaker (λ (x : Cell). (1 ≤ x.key) × (cell_at b x.key ≡ Some x)) OfKey (λ x its. is_same x its.1) b.cells (found_here 1 b.cells up)
    where
      is_same : (x : Cell) → cell_at b x.key ≡ Some x → x.key ≡ key → P x
      is_same x its same =
          let again : cell_at b key ≡ Some x = subst (λ (k : ℕ). cell_at b k ≡ Some x) same its in
          let both : Some c ≡ Some x = sym found ∙ again in
          subst P (let one : c ≡ x = cc in one) holds

  -- and what is said of each holds of that one
  pub found_of_key : (b : Board) (c : Cell) → All OfKey b.cells → cell_at b key ≡ Some c → P c
  found_of_key b c all found = (found_holds (is_keyed key) OfKey b.cells c all found).0 (key_found b key c found)

-- what a move keeps of each cell, an event does that shows it, or none
pub shown_keeps : (P : Cell → Type 0) (b after : Board) (move : Option Move) → IfSome move (CellKept b P) → after_shown b move ≡ Some after → All P b.cells → All P after.cells
shown_keeps P b after None kept made all = subst (λ (x : Board). All P x.cells) (let same : b ≡ after = cc in same) all
shown_keeps P b after (Some move) kept made all = cells_played b P all after move kept made

-- a key was drawn: it lies below the next one, and below that of a root that is left to be said
pub record IsPast (p : ℕ) (es : List Event) (key : ℕ) : Type 0 where
  pub below : key < next_key p es
  pub apart : (i : Begun) → left es ≡ lefts.Root i → key < i.key

-- the key of a cell was
pub found_past : (p : ℕ) (es : List Event) (b : Board) (key : ℕ) (c : Cell) → HasOrderedCells p es b → cell_at b key ≡ Some c → IsPast p es key
found_past p es b key c s found = record {
  below = found_below 1 (next_key p es) key b.cells c s.between found;
  apart = λ i root. found_below 1 i.key key b.cells c (s.begins i root).0 found;
}

-- a root that an event leaves to be said has a key behind those that were drawn
root_above : (p key : ℕ) (before : List Event) (e : Event) → IsTrue (holds_own p before e) → key < next_key p before → (i : Begun) → left_told before e ≡ lefts.Root i → key < i.key
root_above p key before (events.ProcessInstanceCreationCreated c) own less i is =
    let f = fresh_is p before c.key (both_left (is_fresh p before c.key) _ own) in
    let its : c.key ≡ i.key = ap root_key is in
    omega (arith, less, f.1, its)
root_above p key before (events.MessageStartEventSubscriptionCorrelated c) own less i is =
    let f = fresh_is p before c.instance (both_left (is_fresh p before c.instance) _ own) in
    let its : c.instance ≡ i.key = ap root_key is in
    omega (arith, less, f.1, its)
root_above p key before (events.ElementTerminating cell) own less i is = absurd (no_root (job_on cell before) i is)
root_above p key before e own less i is = absurd (cc)

module _ (p : ℕ) (before : List Event) (b : Board) (e : Event) (after : Board) (h : Advances p before b e after) where
  -- a key that was drawn is so behind an event too
  pub past_on : (key : ℕ) → key < next_key p before → IsPast p (before ++ e ∷ []) key
  past_on key less = record {
    below = omega (arith, less, next_key_more p before e);
    apart = λ i is. root_above p key before e h.own less i (sym (left_more before e) ∙ is);
  }

  -- a cell that begins has a key behind it
  pub new_above : (key : ℕ) → IsPast p before key → IfSome (option_and_then key_made (shown before e)) (λ new. key < new)
  new_above key past = by_event e h.own
    where
      by_scope : (a : ElementActivating) (t : Bool) → IsTrue (if t then begins_instance before a else begins_cell p before a) → IfSome (option_and_then key_made (if t then Some (moves.Start (started a)) else Some (move_of_cell a a.role))) (λ new. key < new)
      by_scope a true begins =
          let r = begun_is a.key a.definition (left before) (both_left (leaves_root a.key a.definition (left before)) _ (both_left _ _ (both_left _ _ begins))) in
          omega (arith, past.apart r.0 r.1, r.2)
      by_scope a false begins =
          let f = fresh_is p before a.key (both_left (is_fresh p before a.key) _ (both_left _ _ begins)) in
          let new : key < a.key = omega (arith, past.below, f.1) in
          cell_shows (λ (m : Move). IfSome (key_made m) (λ new. key < new)) a a.role new new new

      by_event : (x : Event) → IsTrue (holds_own p before x) → IfSome (option_and_then key_made (shown before x)) (λ new. key < new)
      by_event (events.ElementActivating a) own = by_scope a (a.scope == 0) (begins_by p before a own)
      by_event (events.JobCompleted job) own = job_shows (λ (m : Option Move). IfSome (option_and_then key_made m) (λ new. key < new)) (λ j. moves.Done j.cell) (job_at job before) tt (λ j. tt)
      by_event (events.JobErrorThrown t) own = job_shows (λ (m : Option Move). IfSome (option_and_then key_made m) (λ new. key < new)) (λ j. moves.Throw (record { cell = j.cell; code = t.code })) (job_at t.key before) tt (λ j. tt)
      by_event x own = tt

-- the move that an event shows fits, and is made
pub shown_moves : (p : ℕ) (before : List Event) (b : Board) (e : Event) (after : Board) (move : Move) → Advances p before b e after → shown before e ≡ Some move → IsTrue (fits b move) × (played b move ≡ Some after)
shown_moves p before b e after move h shows = (
  subst (λ (o : Option Move). IsTrue (may_fit o b)) shows h.fit,
  subst (λ (o : Option Move). after_shown b o ≡ Some after) shows h.leads,
)

-- the last event of a log advances the board of those before it
pub last_advances : (p : ℕ) (es : List Event) (e : Event) (after : Board) → IsTrue (all_apply p [] (es ++ e ∷ [])) → board_of (es ++ e ∷ []) ≡ Some after → (b : Board) × IsTrue (all_apply p [] es) × (board_of es ≡ Some b) × Advances p es b e after
last_advances p es e after apply is =
    let both : IsTrue (all_apply p [] es && all_apply p es (e ∷ [])) = sym (all_apply_on p [] es (e ∷ [])) ∙ apply in
    let before = both_left (all_apply p [] es) _ both in
    let first = both_left (applies p es e) _ (both_right (all_apply p [] es) _ both) in
    let found = some_of (board_of es) (board_is_there p es before) in
    let r = applied_board p es found.0 e found.1 first in
    let now : board_of (es ++ e ∷ []) ≡ Some r.0 = board_behind p es found.0 e r.0 r.1 in
    let led : Some r.0 ≡ Some after = sym now ∙ is in
    let same : r.0 ≡ after = cc in
    (found.0, before, found.1, subst (λ (x : Board). Advances p es found.0 e x) same r.1)
