-- A variable gets a value, its first or another one (BPMN 2.0.2, 10.4.1: data that an instance has).
use Rattle.std.specs.Prelude.{ℕ, ◌==◌, List, Bool, false, not, is_some, Option, option_map}
use Rattle.std.specs.Option.{option_map_or}
use Rattle.zb_base.specs.Vars.{value_named, with_value}
use Rattle.zb_base.specs.declared.value.Value.{Value}
use Rattle.zb_tokens.specs.Edits.{edited}
use Rattle.zb_tokens.specs.declared.board.Cell.{Cell}
use Rattle.zb_tokens.specs.declared.board.Assigned.{Assigned}
use Rattle.zb_tokens.specs.Board.{Board, cell_at}

-- the cell has a variable with this name (BPMN 2.0.2, 10.4.1)
abbrev pub has_name : List ℕ → Cell → Bool
has_name name c = is_some (value_named name c.variables)

-- when it is the first value: the cell is there, and has no variable with this name (BPMN 2.0.2, 10.4.1)
abbrev pub fits_assign : Board → Assigned → Bool
fits_assign b a = option_map_or (λ c. not (has_name a.name c)) (cell_at b a.scope) false

-- when it is another one: the cell is there, and has the variable (BPMN 2.0.2, 10.4.1)
abbrev pub fits_update : Board → Assigned → Bool
fits_update b a = option_map_or (has_name a.name) (cell_at b a.scope) false

-- the cell with a value set
abbrev pub with_variable : List ℕ → Value → Cell → Cell
with_variable name value c = record c { variables = with_value name value c.variables }

-- effect: the cell has it, with this value (BPMN 2.0.2, 10.4.1)
abbrev pub play_assign : Board → Assigned → Option Board
play_assign b a = option_map (λ cells. record b { cells = cells }) (edited (λ c. c.key == a.scope) (with_variable a.name a.value) b.cells)
