-- What is wrong with a model: the first fault by its number, and of that the first offender, nodes before flows, in the order of the lists (own).
use Rattle.std.specs.Prelude.{ℕ, ◌+◌, ◌==◌, nat_lt, length, List, [], ◌∷◌, ◌++◌, count_by, codes, Bool, true, false, cond, ◌&&◌, ◌||◌, not, is_none, is_some, if◌then◌else◌, Option, Some, None, option_map}
use Rattle.std.specs.Option.{option_eq, option_map_or, option_or}
use Rattle.std.specs.List.{find, list_any}
use Rattle.std.specs.Str.{bytes_eq}
use Rattle.zb_process.specs.declared.model.Model.{Model}
use Rattle.zb_process.specs.declared.model.Node.{Node}
use Rattle.zb_process.specs.declared.model.Flow.{Flow}
use Rattle.zb_process.specs.declared.model.NodeKind.{NodeKind}
use Rattle.zb_faults.specs.Elements.{ids_of, node_with, flow_with, is_at, incoming, outgoing, is_start, is_message_start, is_end_kind, is_boundary, is_boundary_of, is_error_boundary, is_compensation_boundary, is_catch, is_subprocess, is_service_task, is_activity, is_exclusive_gateway, is_event_gateway}
use Rattle.zb_faults.specs.declared.fault.Fault.{Fault}
use Rattle.zb_faults.specs.declared.fault.Fault.TheVariants as faults

-- the first item that passes a test of what stands in front of it, the nearest first, and of itself (own)
abbrev pub find_behind : {A : Type 0} → (List A → A → Bool) → List A → List A → Option A
find_behind test before [] = None
find_behind test before (x ∷ xs) = cond (test before x) (Some x) (find_behind test (x ∷ before) xs)

-- 1: without id (own)
abbrev pub empty_id : Model → Option (List ℕ)
empty_id m = find (λ id. bytes_eq id []) (ids_of m)

-- one of these ids is this one
abbrev pub has_id : List (List ℕ) → List ℕ → Bool
has_id ids id = list_any (λ other. bytes_eq other id) ids

-- 2: with an id that was used before (own)
abbrev pub double_id : Model → Option (List ℕ)
double_id m = find_behind has_id [] (ids_of m)

-- one of these nodes is a subprocess with this id
abbrev pub has_subprocess : List Node → List ℕ → Bool
has_subprocess nodes id = list_any (λ s. is_subprocess s.kind && bytes_eq s.id id) nodes

-- a node neither stands at the top nor in a subprocess in front of it
abbrev pub lacks_parent : List Node → Node → Bool
lacks_parent before n = not (bytes_eq n.parent [] || has_subprocess before n.parent)

-- 3: its parent is no subprocess in front of it (BPMN 2.0.2, 10.3.5; that it stands in front: own)
abbrev pub bad_parent : Model → Option (List ℕ)
bad_parent m = option_map (λ n. n.id) (find_behind lacks_parent [] m.nodes)

-- 4: an end of a flow is no node (BPMN 2.0.2, 8.4.13)
abbrev pub dangling : Model → Option (List ℕ)
dangling m = option_map (λ f. f.id) (find (λ f. is_none (node_with m f.from) || is_none (node_with m f.to)) m.flows)

-- the subprocess in which a node stands, [] at the top
abbrev pub parent_at : Model → List ℕ → Option (List ℕ)
parent_at m id = option_map (λ n. n.parent) (node_with m id)

-- 5: a flow from one scope into another (BPMN 2.0.2, 10.3.5)
abbrev pub crossing : Model → Option (List ℕ)
crossing m = option_map (λ f. f.id) (find (λ f. not (option_eq bytes_eq (parent_at m f.from) (parent_at m f.to))) m.flows)

-- how many start events of such a kind a scope has; [] is the process
abbrev pub starts_in : Model → (NodeKind → Bool) → List ℕ → ℕ
starts_in m is_kind scope = count_by (λ n. is_kind n.kind && bytes_eq n.parent scope) m.nodes

-- a subprocess hasn't exactly one start event, or one that a message triggers (BPMN 2.0.2, 10.3.5)
abbrev pub starts_badly : Model → Node → Bool
starts_badly m n = is_subprocess n.kind && (not (starts_in m is_start n.id == 1) || nat_lt 0 (starts_in m is_message_start n.id))

-- 6: a scope starts badly; the process hasn't exactly one start event (BPMN 2.0.2, 10.5.2)
abbrev pub bad_start : Model → Option (List ℕ)
bad_start m = if starts_in m is_start [] == 1 then option_map (λ n. n.id) (find (starts_badly m) m.nodes) else Some m.process

-- an event to which no flow leads (BPMN 2.0.2, 10.5.2 and 10.5.4)
abbrev pub takes_no_flow : NodeKind → Bool
takes_no_flow kind = is_start kind || is_boundary kind

-- 7: a flow into a start or boundary event, or out of an end event (BPMN 2.0.2, 10.5.2 to 10.5.4)
abbrev pub flow_end : Model → Option (List ℕ)
flow_end m = option_map (λ f. f.id) (find (λ f. is_at m f.to takes_no_flow || is_at m f.from is_end_kind) m.flows)

-- 8: no flow leads to a node that is no start event, no boundary event and no handler (own)
abbrev pub no_incoming : Model → Option (List ℕ)
no_incoming m = option_map (λ n. n.id) (find (λ n. not (takes_no_flow n.kind || n.handler) && (incoming m n.id == 0)) m.nodes)

-- a node is attached to an activity of its scope
abbrev pub is_attached : Model → Node → Bool
is_attached m n = option_map_or (λ host. is_activity host.kind && bytes_eq host.parent n.parent) (node_with m n.attached) false

-- 9: a boundary event isn't attached to an activity of its scope (BPMN 2.0.2, 10.5.4)
abbrev pub bad_attachment : Model → Option (List ℕ)
bad_attachment m = option_map (λ n. n.id) (find (λ n. is_boundary n.kind && not (is_attached m n)) m.nodes)

-- an exclusive gateway whose default is no flow out of it, or has a condition (BPMN 2.0.2, 10.6.2)
abbrev pub has_bad_default : Model → Node → Bool
has_bad_default m n = is_exclusive_gateway n.kind && (not (bytes_eq n.otherwise []) && not (option_map_or (λ f. bytes_eq f.from n.id && is_none f.condition) (flow_with m n.otherwise) false))

-- a flow out of this node has no condition where it needs one, or one where there may be none: one of several flows out of an exclusive gateway has
-- a condition or is the default, and no flow out of another node has one (BPMN 2.0.2, 10.6.2; that other nodes have none: own)
abbrev pub has_bad_condition : Model → Flow → Node → Bool
has_bad_condition m f n = if is_exclusive_gateway n.kind then is_none f.condition && (not (bytes_eq n.otherwise f.id) && nat_lt 1 (outgoing m n.id)) else is_some f.condition

-- 10: a gateway has a bad default, or else a flow a bad condition (BPMN 2.0.2, 10.6.2)
abbrev pub bad_condition : Model → Option (List ℕ)
bad_condition m = option_or (option_map (λ n. n.id) (find (has_bad_default m) m.nodes)) (option_map (λ f. f.id) (find (λ f. option_map_or (has_bad_condition m f) (node_with m f.from) false) m.flows))

-- a flow leads to a catch event to which no other does (BPMN 2.0.2, 10.6.6)
abbrev pub is_alternative : Model → Flow → Bool
is_alternative m f = is_at m f.to is_catch && (incoming m f.to == 1)

-- a flow out of this node leads to no alternative
abbrev pub strays : Model → List ℕ → Bool
strays m id = list_any (λ f. not (is_alternative m f) && bytes_eq f.from id) m.flows

-- an event gateway with fewer than two flows out of it, or with one that leads to no alternative
abbrev pub lacks_alternatives : Model → Node → Bool
lacks_alternatives m n = is_event_gateway n.kind && (nat_lt (outgoing m n.id) 2 || strays m n.id)

-- 11: an event gateway with fewer than two flows out of it, or with one that leads to no alternative (BPMN 2.0.2, 10.6.6)
abbrev pub bad_event_gateway : Model → Option (List ℕ)
bad_event_gateway m = option_map (λ n. n.id) (find (lacks_alternatives m) m.nodes)

-- a flow leads to a node or leaves it
abbrev pub has_flows : Model → Node → Bool
has_flows m n = nat_lt 0 (incoming m n.id) || nat_lt 0 (outgoing m n.id)

-- one of these nodes is a compensation event that names this handler
abbrev pub names_handler : List Node → List ℕ → Bool
names_handler nodes id = list_any (λ b. is_compensation_boundary b.kind && bytes_eq b.name id) nodes

-- one of these nodes is a compensation event of this activity
abbrev pub compensates : List Node → List ℕ → Bool
compensates nodes id = list_any (λ b. is_compensation_boundary b.kind && bytes_eq b.attached id) nodes

-- one of these nodes is a boundary event of this activity
abbrev pub has_boundary : List Node → List ℕ → Bool
has_boundary nodes id = list_any (is_boundary_of id) nodes

-- a node may undo an activity of a scope: a service task for that, without flows, boundary events and repetition (BPMN 2.0.2, 10.7.1)
abbrev pub is_handler_in : Model → List ℕ → Node → Bool
is_handler_in m scope n = is_service_task n.kind && n.handler && bytes_eq n.parent scope && is_none n.multi && not (has_flows m n) && not (has_boundary m.nodes n.id)

-- a compensation event names no handler, has flows, or has the handler or the activity of one in front of it (BPMN 2.0.2, 10.7.1)
abbrev pub compensates_badly : Model → List Node → Node → Bool
compensates_badly m before n =
    is_compensation_boundary n.kind && (not (option_map_or (is_handler_in m n.parent) (node_with m n.name) false) || has_flows m n || names_handler before n.name || compensates before n.attached)

-- a handler that no compensation event names
abbrev pub is_forgotten : Model → Node → Bool
is_forgotten m n = n.handler && not (names_handler m.nodes n.id)

-- a compensation event is bad, or a handler forgotten
abbrev pub is_compensated_badly : Model → List Node → Node → Bool
is_compensated_badly m before n = compensates_badly m before n || is_forgotten m n

-- 12: a compensation event is bad, or a handler forgotten (BPMN 2.0.2, 10.7.1)
abbrev pub bad_compensation : Model → Option (List ℕ)
bad_compensation m = option_map (λ n. n.id) (find_behind (is_compensated_badly m) [] m.nodes)

-- one of these nodes is an error event of this activity with this code
abbrev pub catches_error : List Node → List ℕ → List ℕ → Bool
catches_error nodes id code = list_any (λ b. is_error_boundary b.kind && (bytes_eq b.attached id && bytes_eq b.name code)) nodes

-- an error event doesn't end its activity, or has the activity and the code of one in front of it (BPMN 2.0.2, 10.5.5)
abbrev pub catches_badly : List Node → Node → Bool
catches_badly before n = is_error_boundary n.kind && (not n.cancel || catches_error before n.attached n.name)

-- 13: an error event is bad (BPMN 2.0.2, 10.5.5)
abbrev pub bad_error : Model → Option (List ℕ)
bad_error m = option_map (λ n. n.id) (find_behind catches_badly [] m.nodes)

-- how many subprocesses, one in the other, the one with an id is the innermost of; these are the nodes that may be, the last first. None has the id []
abbrev pub depth_among : List Node → List ℕ → ℕ
depth_among [] id = 0
depth_among (n ∷ before) id = if bytes_eq n.id id then depth_among before n.parent + 1 else depth_among before id

-- how many nodes a model may have
abbrev pub most_nodes : ℕ
most_nodes = 1000

-- how many flows a model may have
abbrev pub most_flows : ℕ
most_flows = 2000

-- how many subprocesses may stand one in the other
abbrev pub most_nested : ℕ
most_nested = 16

-- a subprocess in too many others
abbrev pub is_too_deep : List Node → Node → Bool
is_too_deep before n = is_subprocess n.kind && nat_lt most_nested (depth_among before n.parent + 1)

-- 14: more nodes, flows or subprocesses one in the other than a model may have (own)
abbrev pub too_large : Model → Option (List ℕ)
too_large m = if nat_lt most_nodes (length m.nodes) || nat_lt most_flows (length m.flows) || is_some (find_behind is_too_deep [] m.nodes) then Some m.process else None

-- the first offender of a fault; None where the model hasn't that fault
abbrev pub offender : Fault → Model → Option (List ℕ)
offender faults.EmptyId m = empty_id m
offender faults.DoubleId m = double_id m
offender faults.BadParent m = bad_parent m
offender faults.Dangling m = dangling m
offender faults.Crossing m = crossing m
offender faults.Start m = bad_start m
offender faults.FlowEnd m = flow_end m
offender faults.NoIncoming m = no_incoming m
offender faults.Attach m = bad_attachment m
offender faults.Condition m = bad_condition m
offender faults.EventGate m = bad_event_gateway m
offender faults.Compensation m = bad_compensation m
offender faults.Error m = bad_error m
offender faults.Limit m = too_large m

-- the faults, in order
abbrev pub all_faults : List Fault
all_faults =
    faults.EmptyId ∷ faults.DoubleId ∷ faults.BadParent ∷ faults.Dangling ∷ faults.Crossing ∷ faults.Start ∷ faults.FlowEnd
    ∷ faults.NoIncoming ∷ faults.Attach ∷ faults.Condition ∷ faults.EventGate ∷ faults.Compensation ∷ faults.Error ∷ faults.Limit ∷ []

-- this fault where it has an offender, or else a later one
abbrev pub or_found : Fault → Option (List ℕ) → Option (Fault × List ℕ) → Option (Fault × List ℕ)
or_found fault None later = later
or_found fault (Some id) later = Some (fault, id)

-- the first of these faults that a model has, with its offender
abbrev pub first_fault_among : List Fault → Model → Option (Fault × List ℕ)
first_fault_among [] m = None
first_fault_among (fault ∷ later) m = or_found fault (offender fault m) (first_fault_among later m)

-- the first fault that a model has, with its offender
unfoldable pub first_fault : Model → Option (Fault × List ℕ)
first_fault m = first_fault_among all_faults m

-- a model without faults
abbrev pub is_well_formed : Model → Bool
is_well_formed m = is_none (first_fault m)

-- the name of a fault
abbrev pub name_of : Fault → List ℕ
name_of faults.EmptyId = codes "EMPTY_ID"
name_of faults.DoubleId = codes "DOUBLE_ID"
name_of faults.BadParent = codes "BAD_PARENT"
name_of faults.Dangling = codes "DANGLING"
name_of faults.Crossing = codes "CROSSING"
name_of faults.Start = codes "START"
name_of faults.FlowEnd = codes "FLOW_END"
name_of faults.NoIncoming = codes "NO_INCOMING"
name_of faults.Attach = codes "ATTACH"
name_of faults.Condition = codes "CONDITION"
name_of faults.EventGate = codes "EVENT_GATE"
name_of faults.Compensation = codes "COMPENSATION"
name_of faults.Error = codes "ERROR"
name_of faults.Limit = codes "LIMIT"

-- the number of a fault
abbrev pub number_of : Fault → ℕ
number_of faults.EmptyId = 1
number_of faults.DoubleId = 2
number_of faults.BadParent = 3
number_of faults.Dangling = 4
number_of faults.Crossing = 5
number_of faults.Start = 6
number_of faults.FlowEnd = 7
number_of faults.NoIncoming = 8
number_of faults.Attach = 9
number_of faults.Condition = 10
number_of faults.EventGate = 11
number_of faults.Compensation = 12
number_of faults.Error = 13
number_of faults.Limit = 14

-- what is said of a fault and its offender
abbrev pub fault_text : Fault → List ℕ → List ℕ
fault_text fault id = name_of fault ++ (codes ": " ++ id)
