-- The flow by which a token goes out of an exclusive gateway (BPMN 2.0.2, 13.4.2 and 10.6.2).
use Rattle.std.specs.Prelude.{ℕ, List, filter, Bool, true, false, ◌&&◌, not, if◌then◌else◌, Option, Some, None, option_and_then, Result, Ok, Err}
use Rattle.std.specs.Option.{option_map_or, ok_or}
use Rattle.std.specs.List.{find}
use Rattle.std.specs.Str.{bytes_eq}
use Rattle.zb_base.specs.Results.{◌>>=◌}
use Rattle.zb_base.specs.declared.value.Value.{Value}
use Rattle.zb_base.specs.declared.value.Value.TheVariants as values
use Rattle.zb_process.specs.declared.model.Model.{Model}
use Rattle.zb_process.specs.declared.model.Node.{Node}
use Rattle.zb_process.specs.declared.model.Flow.{Flow}
use Rattle.zb_process.specs.Expr.{ValueFault, Kind, value_of}
use Rattle.zb_instance_records.specs.declared.happening.IncidentKind.TheVariants as kinds
use Rattle.zb_faults.specs.Elements.{is_exclusive_gateway}
use Rattle.zb_tokens.specs.declared.board.Cell.{Cell}
use Rattle.zb_tokens.specs.Edits.{is_none_of}
use Rattle.zb_tokens.specs.Board.{Board, model_under, node_with, owes_none}
use Rattle.zb_tokens.specs.Incidents.{Hindrance, hindrance_of}

-- an exclusive gateway, and the flows out of it in the order of the model (BPMN 2.0.2, 10.6.2)
pub record Gateway : Type 0 where
  pub node : Node
  pub outs : List Flow

-- the exclusive gateway with an id
abbrev pub gateway_in : Model → List ℕ → Option Gateway
gateway_in m id = option_and_then (λ n. if is_exclusive_gateway n.kind then Some (record { node = n; outs = filter (λ f. bytes_eq f.from id) m.flows }) else None) (node_with m id)

-- the exclusive gateway of a cell that flows leave; a root is at none
abbrev pub gateway_of : Board → Cell → Option Gateway
gateway_of b c = if owes_none c then None else option_and_then (λ m. gateway_in m c.node) (model_under b c.definition)

-- the truth that a value is; another value is of the wrong kind (BPMN 2.0.2, 10.4.2)
abbrev pub truth_of : Value → Result Bool ValueFault
truth_of (values.Bool truth) = Ok truth
truth_of value = Err Kind

-- the truth of a flow's condition, where names have these values; a flow without one counts as true (BPMN 2.0.2, 13.4.2)
abbrev pub truth_at : (List ℕ → Option Value) → Flow → Result Bool ValueFault
truth_at names f = option_map_or (λ condition. value_of names condition >>= truth_of) f.condition (Ok true)

-- it is there, and false
abbrev pub is_false : Result Bool ValueFault → Bool
is_false (Ok truth) = not truth
is_false (Err fault) = false

-- a flow is the default of its gateway (BPMN 2.0.2, 10.6.2)
abbrev pub is_default : Node → Flow → Bool
is_default n f = not (is_none_of n.otherwise) && bytes_eq f.id n.otherwise

-- a flow decides where none in front of it does: it isn't the default, and its condition isn't false (BPMN 2.0.2, 13.4.2)
abbrev pub decides : (List ℕ → Option Value) → Node → Flow → Bool
decides names n f = not (is_default n f) && not (is_false (truth_at names f))

-- what the flow that decides gives: itself, or the fault of its condition (BPMN 2.0.2, 13.4.2; Zeebe, incidents)
abbrev pub decided : Flow → Result Bool ValueFault → Result Flow Hindrance
decided f (Ok truth) = Ok f
decided f (Err fault) = Err (hindrance_of fault)

-- what is chosen where no flow decides: the default, if there is one (BPMN 2.0.2, 13.4.2; Zeebe, incidents)
abbrev pub by_default : Gateway → Result Flow Hindrance
by_default g = ok_or (find (is_default g.node) g.outs) (record { kind = kinds.ConditionError; text = g.node.id })

-- the flow that is chosen at a gateway, where names have these values, or why there is none (BPMN 2.0.2, 13.4.2)
abbrev pub choice_at : (List ℕ → Option Value) → Gateway → Result Flow Hindrance
choice_at names g = option_map_or (λ f. decided f (truth_at names f)) (find (decides names g.node) g.outs) (by_default g)
