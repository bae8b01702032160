-- The nodes and flows of a model, and what kinds of nodes there are (BPMN 2.0.2, chapter 10).
use Rattle.std.specs.Prelude.{ℕ, List, ◌∷◌, ◌++◌, map, count_by, Bool, true, false, ◌&&◌, Option, is_some, option_map}
use Rattle.std.specs.Option.{option_map_or}
use Rattle.std.specs.List.{find, list_any}
use Rattle.std.specs.Str.{bytes_eq}
use Rattle.zb_process.specs.declared.model.Model.{Model}
use Rattle.zb_process.specs.declared.model.Node.{Node}
use Rattle.zb_process.specs.declared.model.Flow.{Flow}
use Rattle.zb_process.specs.declared.model.NodeKind.{NodeKind}
use Rattle.zb_process.specs.declared.model.NodeKind.TheVariants as kinds

-- the ids of a model, in order: the process, the nodes, the flows
abbrev pub ids_of : Model → List (List ℕ)
ids_of m = m.process ∷ (map (λ n. n.id) m.nodes ++ map (λ f. f.id) m.flows)

-- the node with an id
abbrev pub node_with : Model → List ℕ → Option Node
node_with m id = find (λ n. bytes_eq n.id id) m.nodes

-- the flow with an id
abbrev pub flow_with : Model → List ℕ → Option Flow
flow_with m id = find (λ f. bytes_eq f.id id) m.flows

-- the node with an id is there, and is of such a kind
abbrev pub is_at : Model → List ℕ → (NodeKind → Bool) → Bool
is_at m id is_kind = option_map_or (λ n. is_kind n.kind) (node_with m id) false

-- how many flows lead to a node (BPMN 2.0.2, 8.4.13)
abbrev pub incoming : Model → List ℕ → ℕ
incoming m id = count_by (λ f. bytes_eq f.to id) m.flows

-- how many flows leave a node (BPMN 2.0.2, 8.4.13)
abbrev pub outgoing : Model → List ℕ → ℕ
outgoing m id = count_by (λ f. bytes_eq f.from id) m.flows

-- a start event, with a trigger or without (BPMN 2.0.2, 10.5.2)
abbrev pub is_start : NodeKind → Bool
is_start kinds.StartEvent = true
is_start kinds.MessageStartEvent = true
is_start kind = false

-- a start event that a message triggers (BPMN 2.0.2, 10.5.2)
abbrev pub is_message_start : NodeKind → Bool
is_message_start kinds.MessageStartEvent = true
is_message_start kind = false

-- an event that ends a process or a scope (BPMN 2.0.2, 10.5.3)
abbrev pub is_end_kind : NodeKind → Bool
is_end_kind kinds.EndEvent = true
is_end_kind kinds.TerminateEndEvent = true
is_end_kind kinds.CompensationEndEvent = true
is_end_kind kind = false

-- an intermediate event at the boundary of an activity (BPMN 2.0.2, 10.5.4)
abbrev pub is_boundary : NodeKind → Bool
is_boundary kinds.DateBoundaryEvent = true
is_boundary kinds.DurationBoundaryEvent = true
is_boundary kinds.MessageBoundaryEvent = true
is_boundary kinds.ErrorBoundaryEvent = true
is_boundary kinds.CompensationBoundaryEvent = true
is_boundary kind = false

-- a node is a boundary event of the activity with an id: by its kind, and attached to that (BPMN 2.0.2, 10.5.4)
abbrev pub is_boundary_of : List ℕ → Node → Bool
is_boundary_of id n = is_boundary n.kind && bytes_eq n.attached id

-- an event at which an error of an activity is caught (BPMN 2.0.2, 10.5.5)
abbrev pub is_error_boundary : NodeKind → Bool
is_error_boundary kinds.ErrorBoundaryEvent = true
is_error_boundary kind = false

-- an event that names what undoes an activity (BPMN 2.0.2, 10.7.1)
abbrev pub is_compensation_boundary : NodeKind → Bool
is_compensation_boundary kinds.CompensationBoundaryEvent = true
is_compensation_boundary kind = false

-- an intermediate event in the flow that waits for a trigger (BPMN 2.0.2, 10.5.4)
abbrev pub is_catch : NodeKind → Bool
is_catch kinds.DateCatchEvent = true
is_catch kinds.DurationCatchEvent = true
is_catch kinds.MessageCatchEvent = true
is_catch kind = false

-- a subprocess (BPMN 2.0.2, 10.3.5)
abbrev pub is_subprocess : NodeKind → Bool
is_subprocess kinds.SubProcess = true
is_subprocess kind = false

-- a service task (BPMN 2.0.2, 10.3.3)
abbrev pub is_service_task : NodeKind → Bool
is_service_task kinds.ServiceTask = true
is_service_task kind = false

-- an activity: a task or a subprocess (BPMN 2.0.2, 10.3)
abbrev pub is_activity : NodeKind → Bool
is_activity kinds.ServiceTask = true
is_activity kinds.ReceiveTask = true
is_activity kinds.SubProcess = true
is_activity kind = false

-- a gateway that chooses one flow by conditions (BPMN 2.0.2, 10.6.2)
abbrev pub is_exclusive_gateway : NodeKind → Bool
is_exclusive_gateway kinds.ExclusiveGateway = true
is_exclusive_gateway kind = false

-- a gateway that chooses the flow whose event comes first (BPMN 2.0.2, 10.6.6)
abbrev pub is_event_gateway : NodeKind → Bool
is_event_gateway kinds.EventBasedGateway = true
is_event_gateway kind = false

-- a gateway that waits for all flows into it, and forks into all flows out of it (BPMN 2.0.2, 10.6.4)
abbrev pub is_parallel_gateway : NodeKind → Bool
is_parallel_gateway kinds.ParallelGateway = true
is_parallel_gateway kind = false

-- an end event that ends all of its scope (BPMN 2.0.2, 10.5.3)
abbrev pub is_terminate_end : NodeKind → Bool
is_terminate_end kinds.TerminateEndEvent = true
is_terminate_end kind = false
