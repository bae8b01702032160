-- Updating variables from a scope on up (BPMN 2.0.2, 10.4.1; the records as in Zeebe).
use Rattle.std.specs.Prelude.{ℕ, List, [], ◌∷◌, ◌++◌, codes, Bool, false, not, if◌then◌else◌, Option, Some, None, option_and_then}
use Rattle.std.specs.Fmt.{decimal}
use Rattle.std.specs.Option.{option_map_or}
use Rattle.zb_base.specs.declared.vars.Variable.{Variable}
use Rattle.zb_instance_records.specs.declared.happening.VariableDocumentUpdate.{VariableDocumentUpdate}
use Rattle.zb_model.specs.declared.record.Event.{Event}
use Rattle.zb_model.specs.declared.record.Event.TheVariants as events
use Rattle.zb_model.specs.declared.record.Rejection.{Rejection}
use Rattle.zb_model.specs.declared.record.RejectionKind.TheVariants as kinds
use Rattle.zb_tokens.specs.Board.{Board, cell_at}
use Rattle.zb_tokens.specs.MoveAssign.{has_name}
use Rattle.zb_tokens.specs.Names.{holder_of}
use Rattle.zb_rules.specs.Shown.{board_of}
use Rattle.zb_rules.specs.Applies.{has_cell, holds_of_game}
use Rattle.zb_rules.specs.Making.{Making, just, and_then, each_made}
use Rattle.zb_rules.specs.Create.{variable_event}

-- what is told where no cell has this key
abbrev pub no_scope : ℕ → List ℕ
no_scope key = codes "no scope " ++ decimal key

-- the rejection of an update, if there is a reason for one
abbrev pub reason_to_update : List Event → ℕ → Option Rejection
reason_to_update before scope = if not (holds_of_game (has_cell scope) before) then Some (record { kind = kinds.NotFound; reason = no_scope scope }) else None

-- on a board a cell has a variable with this name
abbrev pub is_named_in : ℕ → List ℕ → Board → Bool
is_named_in cell name b = option_map_or (has_name name) (cell_at b cell) false

-- a variable gets its value in a cell: another one where the cell has the name, else its first
abbrev pub set_in : ℕ → Variable → Making
set_in cell v before = if holds_of_game (is_named_in cell v.name) before then events.VariableUpdated (record { scope = cell; name = v.name; value = v.value }) ∷ [] else variable_event cell v ∷ []

-- the cell in which a name is set: the scope itself where it is local, else the one that it is handed up to
abbrev pub place_of : Bool → ℕ → List ℕ → List Event → Option ℕ
place_of local scope name before = if local then Some scope else option_and_then (λ b. holder_of b scope name) (board_of before)

-- a variable is set, in a scope where it is local, or from it on up
abbrev pub set_by : Bool → ℕ → Variable → Making
set_by local scope v before = option_map_or (λ cell. set_in cell v before) (place_of local scope v.name before) []

-- each of these variables is set, in order
abbrev pub set_each : Bool → ℕ → List Variable → Making
set_each local scope vs = each_made (set_by local scope) vs

-- each variable is set, and then the document is (Zeebe, the records)
abbrev pub updated : VariableDocumentUpdate → Making
updated c before = and_then (set_each c.local c.scope c.variables) (just (events.VariableDocumentUpdated c.scope)) before
