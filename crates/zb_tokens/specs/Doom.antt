-- Cells that are called off: one above them is terminating or ending (BPMN 2.0.2, 13.3.2: what terminates takes with it what is in it).
use Rattle.std.specs.Prelude.{ℕ, is_some, Bool, ◌||◌}
use Rattle.zb_tokens.specs.declared.board.Cell.{Cell}
use Rattle.zb_tokens.specs.declared.board.Phase.TheVariants as phases
use Rattle.zb_tokens.specs.Board.{Board, is_phase, nearest}

-- a cell takes with it what is in it: it is terminating, or a terminate end event ends it (BPMN 2.0.2, 13.3.2 and 13.5.6)
abbrev pub calls_off : Cell → Bool
calls_off c = is_phase c.phase phases.Terminating || c.ending

-- the cell with a key, or one above it, calls off what is in it (BPMN 2.0.2, 13.3.2)
abbrev pub is_called_off : Board → ℕ → Bool
is_called_off b key = is_some (nearest calls_off b key)

-- a cell above this one calls it off
abbrev pub is_doomed : Board → Cell → Bool
is_doomed b c = is_called_off b c.scope
