-- The own events of a cancel apply: a root that isn't terminating may begin to.
use Rattle.std.proofs.Common.{◌≡◌, ℕ, List, Bool, true, false, not, if◌then◌else◌, IsTrue, Option, Some, None, refl, subst}
use Rattle.std.specs.Option.{option_map_or}
use Rattle.zb_model.specs.declared.record.Event.{Event}
use Rattle.zb_model.specs.declared.record.Event.TheVariants as events
use Rattle.zb_model.specs.declared.record.Rejection.{Rejection}
use Rattle.zb_tokens.specs.declared.board.Cell.{Cell}
use Rattle.zb_tokens.specs.declared.board.Move.TheVariants as moves
use Rattle.zb_tokens.specs.declared.board.Phase.TheVariants as phases
use Rattle.zb_tokens.specs.Board.{Board, cell_at, is_phase, is_root}
use Rattle.zb_tokens.specs.MoveHalt.{is_alive}
use Rattle.zb_tokens.specs.Game.{fits}
use Rattle.zb_tokens.proofs.GameLaws.{holds_some, found_holds}
use Rattle.zb_rules.specs.Shown.{board_of}
use Rattle.zb_rules.specs.Applies.{holds_of_game, applies, all_apply}
use Rattle.zb_rules.specs.Cancel.{has_root, is_terminating, reason_to_cancel, cancelled}
use Rattle.zb_rules.proofs.AppliedLaws.{some_of, game_holds, applied_from, applied_board, board_behind}
use Rattle.zb_rules.proofs.MadeLaws.{is_keyed}
use Rattle.zb_rules.proofs.ScopesLaws.{at_cell}
use Rattle.zb_rules.proofs.OwesLaws.{Owes, owes_inner}
use Rattle.zb_rules.proofs.SoundLaws.{BoardKeeps, keeps_on}
use Rattle.zb_rules.proofs.BehindLaws.{behind_apply}

-- where there is no reason, a root is there, and isn't terminating
no_reason : (root ends : Bool) (a z : Rejection) → (if not root then Some a else if ends then Some z else None) ≡ None → IsTrue root × (ends ≡ false)
no_reason true false a z none = (refl, refl)
no_reason true true a z none = absurd (cc)
no_reason false ends a z none = absurd (cc)

-- a root that isn't terminating is alive
alive_by : (c : Cell) (leaves : Bool) → is_phase c.phase phases.Leaving ≡ leaves → Owes c → IsTrue (is_root c) → is_phase c.phase phases.Terminating ≡ false → IsTrue (is_alive c)
alive_by c true leaves owes root runs = absurd (let inner = (owes_inner c owes leaves).1 in cc)
alive_by c false stays owes root runs = rw (stays, runs) refl

module _ (p : ℕ) (es : List Event) (b : Board) (is : board_of es ≡ Some b) (k : BoardKeeps p es b) where
  halts : (key : ℕ) → IsTrue (has_root key b) → is_terminating key b ≡ false → IsTrue (fits b (moves.Halt key))
  halts key root runs =
      let found = some_of (cell_at b key) (holds_some is_root (cell_at b key) root) in
      let c = found.0 in
      let its : IsTrue (is_root c) = at_cell is_root (cell_at b key) c found.1 root in
      let owes = (found_holds (is_keyed key) Owes b.cells c k.owes found.1).0 in
      let still : is_phase c.phase phases.Terminating ≡ false = rw found.1 at runs in
      let alive = alive_by c (is_phase c.phase phases.Leaving) refl owes its still in
      rw (found.1, alive, its) refl

  -- the own events of a cancel apply
  pub cancel_applies : (moment key : ℕ) → reason_to_cancel es key ≡ None → IsTrue (all_apply p es (cancelled p moment key es))
  cancel_applies moment key none =
      let r = no_reason (holds_of_game (has_root key) es) (holds_of_game (is_terminating key) es) _ _ none in
      let root = game_holds (has_root key) es b is r.0 in
      let runs : is_terminating key b ≡ false = subst (λ (o : Option Board). option_map_or (is_terminating key) o false ≡ false) is r.1 in
      let first : IsTrue (applies p es (events.ElementTerminating key)) = applied_from p es b (events.ElementTerminating key) (moves.Halt key) is refl refl (halts key root runs) in
      let after = applied_board p es b (events.ElementTerminating key) is first in
      let behind = behind_apply p moment es (events.ElementTerminating key) after.0 (board_behind p es b (events.ElementTerminating key) after.0 after.1)
      ((keeps_on p es b (events.ElementTerminating key) after.0 after.1 k).incidents.apart, (keeps_on p es b (events.ElementTerminating key) after.0 after.1 k).timers) in
      rw (first, behind) refl
