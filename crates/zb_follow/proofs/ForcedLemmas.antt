-- What the next mover does is the next turn.
use Rattle.std.proofs.Common.{◌≡◌, ℕ, List, [], IsTrue, Some, None, refl, ◌∙◌}
use Rattle.zb_model.specs.declared.record.Event.{Event}
use Rattle.zb_tokens.specs.declared.board.Mover.{Mover}
use Rattle.zb_tokens.specs.Board.{Board}
use Rattle.zb_tokens.specs.Forced.{next_mover, IsQuiet}
use Rattle.zb_rules.specs.Shown.{board_of}
use Rattle.zb_rules.specs.Applies.{all_apply}
use Rattle.zb_rules.specs.Settling.{turn, turn_of}
use Rattle.zb_rules.specs.Sound.{HasKeys, keys_of_turn}
use Rattle.zb_rules.proofs.ProgressLaws.{no_turn_is_quiet, turn_applies, turn_legal}
use Rattle.zb_follow.specs.Settled.{IsTurn}

module _ (p moment : ℕ) (es : List Event) (b : Board) (mover : Mover) where
  -- on the board of these events the next turn is that of the next mover
  turn_from : board_of es ≡ Some b → next_mover b ≡ Some mover → turn p moment es ≡ turn_of p moment es b mover
  unfolding turn
  turn_from at next = rw (at, next) refl

  -- the events that the next mover makes are the next turn
  pub is_turn : (made : List Event) → IsTrue (all_apply p [] es) → HasKeys p es keys_of_turn → board_of es ≡ Some b → next_mover b ≡ Some mover → turn_of p moment es b mover ≡ Some made → IsTurn p moment es made
  is_turn made applied keys at next is =
      let forced : turn p moment es ≡ Some made = turn_from at next ∙ is in
      record { forced = forced; applied = turn_applies p moment es made applied keys forced; legal = turn_legal p moment es made applied keys forced }

  moves_on : (other : Board) → board_of es ≡ Some b → board_of es ≡ Some other → next_mover b ≡ Some mover → IsQuiet other → ⊥
  moves_on other at too next quiet =
      let same : Some other ≡ Some b = (let e : Some b ≡ Some other = rw at at too in rw e refl) in
      let its : other ≡ b = cc in
      let none : next_mover b ≡ None = rw its at quiet in
      let e : None ≡ Some mover = rw none at next in
      cc

  -- the next mover has a turn
  pub has_turn : IsTrue (all_apply p [] es) → board_of es ≡ Some b → next_mover b ≡ Some mover → turn_of p moment es b mover ≡ None → ⊥
  has_turn applied at next none =
      let q = (no_turn_is_quiet p moment es applied).0 (turn_from at next ∙ none) in
      moves_on q.board at q.is next q.quiet
