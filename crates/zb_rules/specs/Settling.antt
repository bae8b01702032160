-- How a step goes on behind its command's own events: forced moves, one by one, until nobody is forced or the batch is full (own).
use Rattle.std.specs.Prelude.{◌≡◌, ◌⊎◌, ◌<◌, ◌≤◌, ◌+◌, ℕ, List, [], ◌∷◌, ◌++◌, length, Option, Some, option_map, option_and_then}
use Rattle.zb_model.specs.declared.record.Event.{Event}
use Rattle.zb_views.specs.View.{next_key}
use Rattle.zb_tokens.specs.declared.board.Assignments.{Assignments}
use Rattle.zb_tokens.specs.Board.{Board}
use Rattle.zb_tokens.specs.Mappings.{assignments_of}
use Rattle.zb_tokens.specs.declared.board.Move.{Move}
use Rattle.zb_tokens.specs.declared.board.Mover.{Mover}
use Rattle.zb_tokens.specs.Forced.{next_mover, move_of, IsQuiet}
use Rattle.zb_rules.specs.Making.{Making, and_then}
use Rattle.zb_rules.specs.Shown.{board_of, event_of}
use Rattle.zb_rules.specs.InFront.{assigning}
use Rattle.zb_rules.specs.Behind.{with_events_behind}

-- a batch is full with so many events
unfoldable pub full : ℕ
full = 1024

-- an event, behind the variables that are set in front of it, and with those behind it
abbrev pub turn_with : (p moment : ℕ) → Option Assignments → Event → Making
turn_with p moment assignments e = and_then (assigning assignments) (with_events_behind p moment e)

-- a move in events: those in front, its own, those behind
abbrev pub in_events : (p moment : ℕ) → Board → Move → Event → Making
in_events p moment b move = turn_with p moment (assignments_of b move)

-- what a mover does on the board of some events, in events
abbrev pub turn_of : (p moment : ℕ) → List Event → Board → Mover → Option (List Event)
turn_of p moment es b mover = option_and_then (λ move. option_map (λ e. in_events p moment b move e es) (event_of b move)) (move_of b moment (next_key p es) mover)

-- what is forced next behind these events of partition p, at a moment; None where nobody is
unfoldable pub turn : (p moment : ℕ) → List Event → Option (List Event)
turn p moment es = option_and_then (λ b. option_and_then (turn_of p moment es b) (next_mover b)) (board_of es)

-- these turns, one after the other, in a batch that has count events before them
abbrev pub AreTurns : (p moment : ℕ) → List Event → ℕ → List (List Event) → Type 0
AreTurns p moment es count [] = Unit {0}
AreTurns p moment es count (made ∷ turns) = (count < full) × (turn p moment es ≡ Some made) × AreTurns p moment (es ++ made) (count + length made) turns

-- the events of turns, one after the other
abbrev pub joined : List (List Event) → List Event
joined [] = []
joined (made ∷ turns) = made ++ joined turns

-- the game of these events is quiet
pub record HasQuietGame (es : List Event) : Type 0 where
  pub board : Board
  pub is : board_of es ≡ Some board
  pub quiet : IsQuiet board

-- the rest of a step of partition p at a moment, behind its own events: turns until the game is quiet or the batch is full
pub record IsRest (p moment : ℕ) (before own rest : List Event) : Type 0 where
  pub turns : List (List Event)
  pub is : rest ≡ joined turns
  pub each : AreTurns p moment (before ++ own) (length own) turns
  pub ended : HasQuietGame (before ++ (own ++ rest)) ⊎ (full ≤ length own + length rest)
