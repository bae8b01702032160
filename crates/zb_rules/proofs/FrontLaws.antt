-- The events in front of that of a move apply, and behind them the move still fits.
use Rattle.std.proofs.Common.{◌≡◌, ℕ, List, [], ◌∷◌, ◌++◌, Bool, true, false, ◌&&◌, ◌||◌, IsTrue, Some, length, refl, append-nil}
use Rattle.std.specs.Option.{option_map_or}
use Rattle.std.specs.Result.{result_unwrap_or}
use Rattle.zb_model.specs.declared.record.Event.{Event}
use Rattle.zb_model.specs.declared.record.Event.TheVariants as events
use Rattle.zb_tokens.specs.declared.board.Assigned.{Assigned}
use Rattle.zb_tokens.specs.declared.board.Cell.{Cell}
use Rattle.zb_tokens.specs.declared.board.Leave.{Leave}
use Rattle.zb_tokens.specs.declared.board.Assignments.{Assignments}
use Rattle.zb_tokens.specs.declared.board.Open.{Open}
use Rattle.zb_tokens.specs.declared.board.Move.{Move}
use Rattle.zb_tokens.specs.declared.board.Move.TheVariants as moves
use Rattle.zb_tokens.specs.declared.board.Phase.TheVariants as phases
use Rattle.zb_tokens.specs.Edits.{edited, is_none_of}
use Rattle.zb_tokens.specs.Board.{Board, cell_at, is_body, is_phase, is_root, holds_cells}
use Rattle.zb_tokens.specs.Mappings.{inputs_of, outputs_of}
use Rattle.zb_tokens.specs.MoveAssign.{with_variable}
use Rattle.zb_tokens.specs.MoveOpen.{opens}
use Rattle.zb_tokens.specs.MoveLeave.{may_owe}
use Rattle.zb_tokens.specs.Game.{fits}
use Rattle.zb_tokens.proofs.GameLaws.{holds_some, found_holds}
use Rattle.zb_rules.specs.Shown.{board_of}
use Rattle.zb_rules.specs.Applies.{has_cell, all_apply}
use Rattle.zb_rules.specs.Sound.{holds_by}
use Rattle.zb_rules.specs.Update.{set_each}
use Rattle.zb_rules.specs.InFront.{set_all, count_in_front, events_in_front}
use Rattle.zb_rules.proofs.AppliedLaws.{some_of}
use Rattle.zb_rules.proofs.MadeLaws.{is_keyed, mapped_holds}
use Rattle.zb_rules.proofs.KindsLaws.{EachOf, sets_variable, front_are}
use Rattle.zb_rules.proofs.PlacedLaws.{InScope, inner_scope, key_found, scopes_of}
use Rattle.zb_rules.proofs.ScopesLaws.{kept_edited}
use Rattle.zb_rules.proofs.SoundLaws.{BoardKeeps, board_keeps}
use Rattle.zb_rules.proofs.UpdateLaws.{KeptBySetting, each_set}

-- the first of some events is one by which a cell begins to terminate
abbrev pub begins_end : List Event → Bool
begins_end [] = false
begins_end (events.ElementTerminating key ∷ es) = true
begins_end (e ∷ es) = false

sets_no_end : (es : List Event) → EachOf sets_variable es → begins_end es ≡ false
sets_no_end [] are = refl
sets_no_end (events.ElementTerminating key ∷ es) are = let sets = are.0 in absurd (cc)
sets_no_end (e ∷ es) are = refl

-- in front of an event there is none by which a cell begins to terminate
pub front_begins_no_end : (b : Board) (move : Move) (es : List Event) → begins_end (events_in_front b move es) ≡ false
front_begins_no_end b move es = sets_no_end (events_in_front b move es) (front_are b move es)

-- what doesn't look at variables holds of a cell still as one of them is set
still_of : (holds : Cell → Bool) (key : ℕ) (b after : Board) (a : Assigned) → ((c : Cell) → IsTrue (holds c) → IsTrue (holds (with_variable a.name a.value c))) → edited (is_keyed a.scope) (with_variable a.name a.value) b.cells ≡ Some after.cells
    → IsTrue (option_map_or holds (cell_at b key) false) → IsTrue (option_map_or holds (cell_at after key) false)
still_of holds key b after a blind made is = kept_edited holds a.scope (with_variable a.name a.value) b.cells after.cells (λ c. refl) (λ c found h. blind c h) made key is

-- a cell that may become active may still
open_still : (o : Open) → KeptBySetting (λ (x : Board). IsTrue (fits x (moves.Open o)))
open_still o b after a made fit = mapped_holds (λ (x : Board). IsTrue (fits x (moves.Open o))) (λ cells. record b { cells = cells }) (edited (is_keyed a.scope) (with_variable a.name a.value) b.cells) after
    (λ cells set. still_of (λ (c : Cell). is_phase c.phase phases.Activating && (opens b c && (is_body c || is_none_of o.items))) o.key b (record b { cells = cells }) a (λ c h. h) set fit) made

-- and so may one that has completed be left
leave_still : (l : Leave) → KeptBySetting (λ (x : Board). IsTrue (fits x (moves.Leave l)))
leave_still l b after a made fit = mapped_holds (λ (x : Board). IsTrue (fits x (moves.Leave l))) (λ cells. record b { cells = cells }) (edited (is_keyed a.scope) (with_variable a.name a.value) b.cells) after
    (λ cells set. still_of (λ (c : Cell). is_phase c.phase phases.Completing && may_owe b c l.owed) l.key b (record b { cells = cells }) a (λ c h. h) set fit) made

-- so many events in front of that of a move apply, and behind them it fits
pub record IsInFront (p : ℕ) (es : List Event) (move : Move) (count : ℕ) (front : List Event) : Type 0 where
  pub after : Board
  pub is : board_of (es ++ front) ≡ Some after
  pub applied : IsTrue (all_apply p es front)
  pub fit : IsTrue (fits after move)
  pub counted : length front ≡ count

module _ (p : ℕ) (es : List Event) (b : Board) (is : board_of es ≡ Some b) (k : BoardKeeps p es b) where
  none_in_front : (move : Move) → IsTrue (fits b move) → IsInFront p es move 0 []
  none_in_front move fit = record { after = b; is = rw (append-nil es) is; applied = refl; fit = fit; counted = refl }

  all_in_front : (move : Move) (s : Assignments) → KeptBySetting (λ (x : Board). IsTrue (fits x move)) → IsTrue (has_cell s.scope b) → IsTrue (fits b move) → IsInFront p es move (length s.variables) (set_all s es)
  all_in_front move s keeps there fit =
      let r = each_set p s.local s.scope (λ (x : Board). IsTrue (fits x move)) keeps s.variables es b is k fit there in
      record { after = r.after; is = r.is; applied = r.applied; fit = r.holds; counted = r.counted }

  opens_behind : (o : Open) (c : Cell) → cell_at b o.key ≡ Some c → IsTrue (fits b (moves.Open o)) → IsInFront p es (moves.Open o) (count_in_front b (moves.Open o)) (events_in_front b (moves.Open o) es)
  opens_behind o c found fit =
      let there : IsTrue (has_cell c.key b) = rw (key_found b o.key c found, found) refl in
      rw found (all_in_front (moves.Open o) (record { scope = c.key; local = true; variables = result_unwrap_or (inputs_of b c) [] }) (open_still o) there fit)

  -- where a cell is a root it gives nothing out; else the scope around it is there
  leaves_by : (l : Leave) (c : Cell) (root : Bool) → is_root c ≡ root → cell_at b l.key ≡ Some c → IsTrue (fits b (moves.Leave l)) → IsInFront p es (moves.Leave l) (length (result_unwrap_or (outputs_of b c) [])) (set_each false c.scope (result_unwrap_or (outputs_of b c) []) es)
  leaves_by l c true top found fit = by_body (is_body c) refl
    where
      by_body : (body : Bool) → is_body c ≡ body → IsInFront p es (moves.Leave l) (length (result_unwrap_or (outputs_of b c) [])) (set_each false c.scope (result_unwrap_or (outputs_of b c) []) es)
      by_body true is = rw is (none_in_front (moves.Leave l) fit)
      by_body false is = rw (is, top) (none_in_front (moves.Leave l) fit)
  leaves_by l c false inner found fit =
      let scope = inner_scope b c (found_holds (is_keyed l.key) (InScope b) b.cells c (scopes_of b k.placed) found).0 inner in
      let there : IsTrue (has_cell c.scope b) = holds_some (holds_by holds_cells b) (cell_at b c.scope) scope.0 in
      all_in_front (moves.Leave l) (record { scope = c.scope; local = false; variables = result_unwrap_or (outputs_of b c) [] }) (leave_still l) there fit

  leaves_behind : (l : Leave) (c : Cell) → cell_at b l.key ≡ Some c → IsTrue (fits b (moves.Leave l)) → IsInFront p es (moves.Leave l) (count_in_front b (moves.Leave l)) (events_in_front b (moves.Leave l) es)
  leaves_behind l c found fit = rw found (leaves_by l c (is_root c) refl found fit)

  -- the events in front of that of a move that fits
  pub in_front : (move : Move) → IsTrue (fits b move) → IsInFront p es move (count_in_front b move) (events_in_front b move es)
  in_front (moves.Open o) fit =
      let found = some_of (cell_at b o.key) (holds_some _ (cell_at b o.key) fit) in
      opens_behind o found.0 found.1 fit
  in_front (moves.Leave l) fit =
      let found = some_of (cell_at b l.key) (holds_some _ (cell_at b l.key) fit) in
      leaves_behind l found.0 found.1 fit
  in_front move fit = none_in_front move fit

-- there is one for each variable that the move sets
pub front_counts : (p : ℕ) (es : List Event) (b : Board) (move : Move) → IsTrue (all_apply p [] es) → board_of es ≡ Some b → IsTrue (fits b move) → length (events_in_front b move es) ≡ count_in_front b move
front_counts p es b move apply is fit = (in_front p es b is (board_keeps p es b apply is) move fit).counted
