-- Activities with several instances: their bodies, and the items of those (BPMN 2.0.2, 10.3.8 and 13.3.7).
use Rattle.std.specs.Prelude.{List, [], ◌∷◌, ℕ, ◌-◌, ℤ, pos, codes, Bool, false, ◌&&◌, ◌||◌, not, is_some, if◌then◌else◌, Option, None, option_and_then, slice_get, Result, Ok, Err}
use Rattle.std.specs.Option.{option_map_or}
use Rattle.std.specs.Result.{result_map_both}
use Rattle.zb_base.specs.Results.{◌>>=◌}
use Rattle.zb_base.specs.declared.value.Value.{Value}
use Rattle.zb_base.specs.declared.value.Value.TheVariants as datums
use Rattle.zb_base.specs.declared.vars.Variable.{Variable}
use Rattle.zb_process.specs.declared.model.Model.{Model}
use Rattle.zb_process.specs.declared.model.Multi.{Multi}
use Rattle.zb_process.specs.declared.model.Node.{Node}
use Rattle.zb_process.specs.Expr.{ValueFault, Kind, value_of}
use Rattle.zb_faults.specs.Elements.{is_activity}
use Rattle.zb_instance_records.specs.declared.instance.Role.{Role}
use Rattle.zb_instance_records.specs.declared.instance.Role.TheVariants as roles
use Rattle.zb_tokens.specs.declared.board.Cell.{Cell}
use Rattle.zb_tokens.specs.Board.{Board, cell_at, model_under, node_with, has_child, is_body, is_inner}
use Rattle.zb_tokens.specs.Incidents.{Hindrance, hindrance_of}

-- how an activity has several instances; another node has none (BPMN 2.0.2, 10.3.8)
abbrev pub multi_of : Node → Option Multi
multi_of n = if is_activity n.kind then n.multi else None

-- the same by the id of its node
abbrev pub multi_at : Model → List ℕ → Option Multi
multi_at m id = option_and_then multi_of (node_with m id)

-- the role of a cell that a token begins at a node: a body at an activity with several instances (BPMN 2.0.2, 13.3.7)
abbrev pub role_at : Model → List ℕ → Role
role_at m id = if is_some (multi_at m id) then roles.Body else roles.Plain

-- the runs of a body come one after the other (BPMN 2.0.2, 10.3.8: isSequential)
abbrev pub is_sequential : Model → Cell → Bool
is_sequential m c = option_map_or (λ x. x.sequential) (multi_at m c.node) false

-- the item of a body for which it runs next, if one is left (BPMN 2.0.2, 13.3.7)
abbrev pub next_item : Cell → Option ℤ
next_item c = slice_get c.items c.taken

-- an item of a body is left (BPMN 2.0.2, 13.3.7)
abbrev pub has_item : Cell → Bool
has_item c = is_some (next_item c)

-- a body may begin a run in its model: an item is left, and its runs come at once, or none is there (BPMN 2.0.2, 13.3.7)
abbrev pub may_run : Model → Board → Cell → Bool
may_run m b c = has_item c && (not (is_sequential m c) || not (has_child b c.key))

-- the items that a value is; another value is of the wrong kind
abbrev pub items_told : Value → Result (List ℤ) ValueFault
items_told (datums.List items) = Ok items
items_told value = Err Kind

-- the items that a body keeps, where names have these values: those of its collection, or why it has none; another cell keeps none (BPMN 2.0.2, 10.3.8: loopDataInputRef)
abbrev pub items_by : (List ℕ → Option Value) → Model → Cell → Result (List ℤ) Hindrance
items_by names m c = if is_body c
    then option_map_or (λ x. result_map_both (λ items. items) hindrance_of (value_of names x.collection >>= items_told)) (multi_at m c.node) (Ok [])
    else Ok []

-- the item of a body that was taken last (BPMN 2.0.2, 13.3.7)
abbrev pub last_item : Cell → Option ℤ
last_item c = slice_get c.items (c.taken - 1)

-- the variables of a run that begins, where its body has taken its item: how many were taken so far, and the item, under the name that its activity gives it (BPMN 2.0.2, 10.3.8: loopCounter
-- and inputDataItem)
abbrev pub run_variables : Model → Cell → List Variable
run_variables m body = option_map_or (λ x. option_map_or (λ item. record { name = codes "loopCounter"; value = datums.Int (pos body.taken) } ∷ record { name = x.element; value = datums.Int item } ∷ []) (last_item body) []) (multi_at m body.node) []

-- the same of the body of a run; another cell has none
abbrev pub run_variables_of : Board → Cell → List Variable
run_variables_of b c = if is_inner c then option_map_or (λ body. option_map_or (λ m. run_variables m body) (model_under b body.definition) []) (cell_at b c.scope) [] else []

-- the same for the cell with a key
abbrev pub run_variables_at : Board → ℕ → List Variable
run_variables_at b key = option_map_or (run_variables_of b) (cell_at b key) []
