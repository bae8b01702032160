-- Legal moves in a log (BPMN 2.0.2, 13).
use Rattle.std.specs.Prelude.{◌≡◌, ℕ, List, [], ◌∷◌, ◌++◌, Some, IfSome}
use Rattle.zb_model.specs.declared.record.Event.{Event}
use Rattle.zb_tokens.specs.declared.board.Move.{Move}
use Rattle.zb_tokens.specs.Board.{Board}
use Rattle.zb_tokens.specs.Game.{IsLegal}
use Rattle.zb_rules.specs.Shown.{shown, board_of}

-- a move is made legally by an event behind those before it. What it evaluates is asked of the board of the events that were seen
pub record IsMadeLegally (moment : ℕ) (seen before : List Event) (e : Event) (move : Move) : Type 0 where
  pub evaluated : Board
  pub board : Board
  pub after : Board
  pub is_seen : board_of seen ≡ Some evaluated
  pub is_before : board_of before ≡ Some board
  pub is_after : board_of (before ++ e ∷ []) ≡ Some after
  pub legal : IsLegal evaluated moment board move after

-- each of these events shows no move, or one that is made legally at the moment; what they evaluate is asked of the board of the events that were seen
abbrev pub AllLegal : ℕ → (seen before : List Event) → List Event → Type 0
AllLegal moment seen before [] = Unit {0}
AllLegal moment seen before (e ∷ es) = IfSome (shown before e) (IsMadeLegally moment seen before e) × AllLegal moment seen (before ++ e ∷ []) es

-- the moves of some turns are legal: what a turn evaluates is asked of the board before it, and so before the events in front of its move
abbrev pub TurnsLegal : ℕ → List Event → List (List Event) → Type 0
TurnsLegal moment before [] = Unit {0}
TurnsLegal moment before (made ∷ turns) = AllLegal moment before before made × TurnsLegal moment (before ++ made) turns

-- the moves of events that are no turns are legal: what each evaluates is asked of the board before it
abbrev pub EachLegal : ℕ → List Event → List Event → Type 0
EachLegal moment before [] = Unit {0}
EachLegal moment before (e ∷ es) = AllLegal moment before before (e ∷ []) × EachLegal moment (before ++ e ∷ []) es
