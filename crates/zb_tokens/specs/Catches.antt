-- The events that cells wait for, at catch events, behind event gateways and at the boundary of activities: timers, which are due by a date or a duration, and messages (BPMN 2.0.2, 10.5.4, 10.5.5, 10.6.6 and 13.5.3).
use Rattle.std.specs.Prelude.{ℕ, ℤ, List, [], ◌∷◌, ◌++◌, filter, codes, Bool, true, false, ◌&&◌, ◌||◌, not, is_some, if◌then◌else◌, Option, Some, None, Result, Ok, Err}
use Rattle.std.specs.Option.{option_map_or, option_or}
use Rattle.std.specs.List.{list_any}
use Rattle.std.specs.Result.{result_map_both, result_unwrap_or}
use Rattle.std.specs.Str.{bytes_eq}
use Rattle.std.specs.Fmt.{signed_decimal}
use Rattle.zb_base.specs.Results.{◌>>=◌}
use Rattle.zb_base.specs.Vars.{value_named, with_value}
use Rattle.zb_base.specs.declared.value.Value.{Value}
use Rattle.zb_base.specs.declared.value.Value.TheVariants as datums
use Rattle.zb_base.specs.declared.vars.Variable.{Variable}
use Rattle.zb_process.specs.declared.model.Model.{Model}
use Rattle.zb_process.specs.declared.model.Node.{Node}
use Rattle.zb_process.specs.declared.model.NodeKind.{NodeKind}
use Rattle.zb_process.specs.declared.model.NodeKind.TheVariants as kinds
use Rattle.zb_process.specs.Expr.{ValueFault, Unknown, Kind, value_of}
use Rattle.zb_process.specs.Tree.{Tree}
use Rattle.zb_faults.specs.Elements.{is_boundary, is_boundary_of, is_catch, is_event_gateway}
use Rattle.zb_duration.specs.Due.{due_of}
use Rattle.zb_duration.specs.declared.fault.DueFault.{DueFault}
use Rattle.zb_duration.specs.declared.form.TimeForm.{TimeForm}
use Rattle.zb_duration.specs.declared.form.TimeForm.TheVariants as forms
use Rattle.zb_instance_records.specs.declared.happening.IncidentKind.TheVariants as incidents
use Rattle.zb_tokens.specs.declared.board.Awaited.{Awaited}
use Rattle.zb_tokens.specs.declared.board.Awaited.TheVariants as awaiteds
use Rattle.zb_tokens.specs.declared.board.AwaitedMessage.{AwaitedMessage}
use Rattle.zb_tokens.specs.declared.board.Catch.{Catch}
use Rattle.zb_tokens.specs.declared.board.Catch.TheVariants as catches
use Rattle.zb_tokens.specs.declared.board.Cell.{Cell}
use Rattle.zb_tokens.specs.declared.board.Opening.{Opening}
use Rattle.zb_tokens.specs.declared.board.Phase.TheVariants as phases
use Rattle.zb_tokens.specs.Board.{Board, cell_at, model_under, node_with, is_phase, is_body, is_inner}
use Rattle.zb_tokens.specs.Bodies.{items_by}
use Rattle.zb_tokens.specs.Doom.{is_doomed}
use Rattle.zb_tokens.specs.Incidents.{Hindrance, hindrance_of}
use Rattle.zb_tokens.specs.Mappings.{inputs_of, node_of}
use Rattle.zb_tokens.specs.Marks.{error_of, is_unset}
use Rattle.zb_tokens.specs.Names.{value_seen}

-- the form of the time at a node with a timer: an event in the flow, or at the boundary of an activity (BPMN 2.0.2, 10.5.5)
abbrev pub time_form : NodeKind → Option TimeForm
time_form kinds.DateCatchEvent = Some forms.Date
time_form kinds.DurationCatchEvent = Some forms.Duration
time_form kinds.DateBoundaryEvent = Some forms.Date
time_form kinds.DurationBoundaryEvent = Some forms.Duration
time_form kind = None

-- a task that waits for a message (BPMN 2.0.2, 10.3.3)
abbrev pub is_receive_task : NodeKind → Bool
is_receive_task kinds.ReceiveTask = true
is_receive_task kind = false

-- at a node of this kind a message is caught: by a task, by an event in the flow, or at the boundary of an activity (BPMN 2.0.2, 10.3.3 and 10.5.5)
abbrev pub is_message_event : NodeKind → Bool
is_message_event kinds.ReceiveTask = true
is_message_event kinds.MessageCatchEvent = true
is_message_event kinds.MessageBoundaryEvent = true
is_message_event kind = false

-- at a node of this kind a time or a message is caught (BPMN 2.0.2, 10.5.5)
abbrev pub is_caught_at : NodeKind → Catch → Bool
is_caught_at kind catches.Time = is_some (time_form kind)
is_caught_at kind catches.Message = is_message_event kind

-- the text that a value is; another value is of the wrong kind
abbrev pub text_told : Value → Result (List ℕ) ValueFault
text_told (datums.Text text) = Ok text
text_told value = Err Kind

-- the correlation key that a value is: a text, or a whole number in decimal digits; another value is of the wrong kind (own)
abbrev pub key_told : Value → Result (List ℕ) ValueFault
key_told (datums.Text text) = Ok text
key_told (datums.Int number) = Ok (signed_decimal number)
key_told value = Err Kind

-- a text that is no time of its form, or names a moment out of range, keeps a cell from going on (Zeebe, incidents)
abbrev pub time_hindrance : DueFault → Hindrance
time_hindrance fault = record { kind = incidents.ExtractValueError; text = codes "TIMER" }

-- the value of a node's expression, where names have these values; one that is missing has none, as a name without a value has none (own)
abbrev pub value_given : (List ℕ → Option Value) → Option Tree → Result Value ValueFault
value_given names None = Err Unknown
value_given names (Some expr) = value_of names expr

-- when a timer is due that opens at a moment, where names have these values, or why that can't be told (BPMN 2.0.2, 10.5.5)
abbrev pub due_by : (List ℕ → Option Value) → ℕ → TimeForm → Option Tree → Result ℕ Hindrance
due_by names moment form time =
    result_map_both (λ text. text) hindrance_of (value_given names time >>= text_told) >>= (λ text. result_map_both (λ due. due) time_hindrance (due_of form text moment))

-- one message is all that is waited for at a node, unless it is a boundary event that lets its activity go on (BPMN 2.0.2, 10.5.4)
abbrev pub waits_once : Node → Bool
waits_once n = not (is_boundary n.kind) || n.cancel

-- the message for which a cell of a model waits at a node, where names have these values, or why its correlation key can't be told (BPMN 2.0.2, 8.4.2 and 10.5.5)
abbrev pub message_by : (List ℕ → Option Value) → Model → Node → Result AwaitedMessage Hindrance
message_by names m n =
    result_map_both (λ key. record { name = n.name; correlation_key = key; process = m.process; cancel = waits_once n }) hindrance_of (value_given names n.expr >>= key_told)

-- a flow leads from one node to another (BPMN 2.0.2, 8.4.13)
abbrev pub leads_from : Model → (origin target : List ℕ) → Bool
leads_from m origin target = list_any (λ f. bytes_eq f.from origin && bytes_eq f.to target) m.flows

-- at a node a cell that is no body waits for the node's own event: at a receive task, or at a catch event, where no event gateway in front of it has waited for that (BPMN 2.0.2, 10.3.3, 10.6.6 and 13.5.3)
abbrev pub waits_itself : Cell → Node → Bool
waits_itself c n = not (is_body c) && (is_receive_task n.kind || (is_catch n.kind && not c.before))

-- at a node a cell that is no run of a body waits for the event of another one: of one behind an event gateway, or at the boundary of an activity (BPMN 2.0.2, 10.5.4, 10.6.6 and 13.3.7)
abbrev pub waits_beside : Model → Cell → (at other : Node) → Bool
waits_beside m c at other = not (is_inner c) && (if is_event_gateway at.kind then leads_from m at.id other.id else is_boundary_of at.id other)

-- the nodes for whose events a cell at a node waits: its own one first, the others in the order of the model (BPMN 2.0.2, 13.5.3)
abbrev pub awaited : Model → Cell → Node → List Node
awaited m c n = (if waits_itself c n then n ∷ [] else []) ++ filter (waits_beside m c n) m.nodes

-- the event for which a cell of a model waits at a node, where names have these values, or why that can't be told; none at a node without a time or a message (BPMN 2.0.2, 10.5.5)
abbrev pub event_by : (List ℕ → Option Value) → ℕ → Model → Node → Result (Option Awaited) Hindrance
event_by names moment m n =
    if is_message_event n.kind then message_by names m n >>= (λ message. Ok (Some (awaiteds.Message message)))
    else option_map_or (λ form. due_by names moment form n.expr >>= (λ due. Ok (Some (awaiteds.Time due)))) (time_form n.kind) (Ok None)

-- what opens at a node with such an event
abbrev pub opened_at : Node → Option Awaited → List Opening
opened_at n event = option_map_or (λ e. record { node = n.id; event = e } ∷ []) event []

-- what opens at some nodes of a model, in their order, or why the first one at which it can't doesn't
abbrev pub openings_in : (List ℕ → Option Value) → ℕ → Model → List Node → Result (List Opening) Hindrance
openings_in names moment m [] = Ok []
openings_in names moment m (n ∷ ns) = event_by names moment m n >>= (λ event. openings_in names moment m ns >>= (λ os. Ok (opened_at n event ++ os)))

-- the timers and subscriptions that open for a cell as it becomes active at a moment, where names have these values, or why they can't (BPMN 2.0.2, 13.5.3)
abbrev pub openings_by : (List ℕ → Option Value) → Board → ℕ → Cell → Result (List Opening) Hindrance
openings_by names b moment c = option_map_or (λ m. option_map_or (λ n. openings_in names moment m (awaited m c n)) (node_of b c) (Ok [])) (model_under b c.definition) (Ok [])

-- variables set one after another: of one name the last counts (BPMN 2.0.2, 10.4.2)
abbrev pub set_over : List Variable → List Variable → List Variable
set_over [] vars = vars
set_over (v ∷ vs) vars = set_over vs (with_value v.name v.value vars)

-- what a cell sees once these variables are set in it
abbrev pub seen_with : List Variable → (List ℕ → Option Value) → List ℕ → Option Value
seen_with vs names name = option_or (value_named name (set_over vs [])) (names name)

-- the items that a cell keeps as it becomes active, by its model, where names have these values, or why it can't
abbrev pub items_of : (List ℕ → Option Value) → Board → Cell → Result (List ℤ) Hindrance
items_of names b c = option_map_or (λ m. items_by names m c) (model_under b c.definition) (Ok [])

-- the items that a cell keeps as it becomes active, where before it its inputs have values, and behind it the timers and subscriptions can open too, or what keeps it from that, in this order
-- (BPMN 2.0.2, 13.3.2, 13.3.7 and 13.5.3)
abbrev pub opened_with : Board → ℕ → Cell → Result (List ℤ) Hindrance
opened_with b moment c = inputs_of b c >>= (λ vs. items_of (seen_with vs (value_seen b c.key)) b c
    >>= (λ items. openings_by (seen_with vs (value_seen b c.key)) b moment c >>= (λ openings. Ok items)))

-- what opens for a cell that has become active, on a board on which its inputs are set (BPMN 2.0.2, 13.5.3)
abbrev pub openings_of : Board → ℕ → Cell → Result (List Opening) Hindrance
openings_of b moment c = openings_by (value_seen b c.key) b moment c

-- the same for the cell with a key; none where it isn't there, or where they can't open
abbrev pub openings_at : Board → (moment cell : ℕ) → List Opening
openings_at b moment cell = option_map_or (λ c. result_unwrap_or (openings_of b moment c) []) (cell_at b cell) []

-- at a node a cell waits for a time or a message at the node with an id: it is the cell's own one, or another one for whose event it waits (BPMN 2.0.2, 13.5.3)
abbrev pub is_awaited_at : Catch → Model → Cell → Node → List ℕ → Bool
is_awaited_at catch m c n id = option_map_or (λ x. ((bytes_eq c.node id && waits_itself c n) || waits_beside m c n x) && is_caught_at x.kind catch) (node_with m id) false

-- a cell waits, or is about to, for a time or a message at the node with an id (BPMN 2.0.2, 13.5.3)
abbrev pub awaits : Catch → Board → Cell → List ℕ → Bool
awaits catch b c id = option_map_or (λ m. option_map_or (λ n. is_awaited_at catch m c n id) (node_of b c) false) (model_under b c.definition) false

-- a catch may open for a cell at the node with an id: the cell is active, and waits for a time or a message there (BPMN 2.0.2, 13.5.3)
abbrev pub opens_at : Catch → List ℕ → Board → Cell → Bool
opens_at catch id b c = is_phase c.phase phases.Active && awaits catch b c id

-- the same of the cell with a key
abbrev pub may_open_at : Catch → (cell : ℕ) → List ℕ → Board → Bool
may_open_at catch cell id b = option_map_or (opens_at catch id b) (cell_at b cell) false

-- a cell waits for an event: it is active, not called off, and was told nothing so far, or of an error (BPMN 2.0.2, 13.5.3)
abbrev pub may_be_told : Board → Cell → Bool
may_be_told b c = is_phase c.phase phases.Active && not (is_doomed b c) && (is_unset c.mark || is_some (error_of c.mark))
