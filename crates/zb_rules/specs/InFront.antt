-- The events in front of one by which a cell becomes active or has completed: what it takes in or gives out is set (BPMN 2.0.2, 10.4.2; Zeebe, variable mappings).
use Rattle.std.specs.Prelude.{ℕ, [], length, Option}
use Rattle.std.specs.Option.{option_map_or}
use Rattle.zb_tokens.specs.declared.board.Move.{Move}
use Rattle.zb_tokens.specs.declared.board.Assignments.{Assignments}
use Rattle.zb_tokens.specs.Board.{Board}
use Rattle.zb_tokens.specs.Mappings.{assignments_of}
use Rattle.zb_rules.specs.Making.{Making}
use Rattle.zb_rules.specs.Update.{set_each}

-- variables are set one by one, in their order (Zeebe, the records)
abbrev pub set_all : Assignments → Making
set_all s = set_each s.local s.scope s.variables

-- the same where there are any
abbrev pub assigning : Option Assignments → Making
assigning assignments before = option_map_or (λ s. set_all s before) assignments []

-- the events in front of that of a move, which is made on this board: what it sets there. All values are evaluated on that board, before one
-- is set (BPMN 2.0.2, 10.4.2; Zeebe, variable mappings)
abbrev pub events_in_front : Board → Move → Making
events_in_front b move = assigning (assignments_of b move)

-- how many variables a move sets
abbrev pub count_in_front : Board → Move → ℕ
count_in_front b move = option_map_or (λ s. length s.variables) (assignments_of b move) 0
