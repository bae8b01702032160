-- Where a name is looked up, and where a value is set: in a cell, and then in those around it (BPMN 2.0.2, 10.4.1).
use Rattle.std.specs.Prelude.{ℕ, List, [], ◌∷◌, ◌||◌, Option, option_map, option_and_then}
use Rattle.std.specs.List.{flat_map}
use Rattle.zb_base.specs.Vars.{value_named, with_value}
use Rattle.zb_base.specs.declared.value.Value.{Value}
use Rattle.zb_base.specs.declared.vars.Variable.{Variable}
use Rattle.zb_tokens.specs.Board.{Board, is_root, nearest, up_from}
use Rattle.zb_tokens.specs.MoveAssign.{has_name}

-- what a cell sees under a name: its value in the nearest cell that has it (BPMN 2.0.2, 10.4.1)
abbrev pub value_seen : Board → ℕ → List ℕ → Option Value
value_seen b key name = option_and_then (λ c. value_named name c.variables) (nearest (has_name name) b key)

-- where a value is set that is handed up from a cell: in the nearest cell that has the name, or else in the root (BPMN 2.0.2, 10.4.1)
abbrev pub holder_of : Board → ℕ → List ℕ → Option ℕ
holder_of b key name = option_map (λ c. c.key) (nearest (λ c. has_name name c || is_root c) b key)

-- the instance that a cell is in: the root around it (BPMN 2.0.2, 13.2)
abbrev pub root_of : Board → ℕ → Option ℕ
root_of b key = option_map (λ c. c.key) (nearest is_root b key)

-- variables laid over one another, names ascending: of one name the one in front counts (BPMN 2.0.2, 10.4.1)
abbrev pub overlaid : List Variable → List Variable
overlaid [] = []
overlaid (v ∷ vs) = with_value v.name v.value (overlaid vs)

-- all variables that a cell sees: its own, laid over those of the cell around it, and so on up (BPMN 2.0.2, 10.4.1)
abbrev pub visible : Board → ℕ → List Variable
visible b key = overlaid (flat_map (λ c. c.variables) (up_from b.cells b key))
