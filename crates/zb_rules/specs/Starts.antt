-- Instances that a message starts (BPMN 2.0.2, 10.5.2 and 13.2; Zeebe, the records).
use Rattle.std.specs.Prelude.{ℕ, ◌==◌, List, [], ◌∷◌, map, filter, Some, Bool, false, ◌&&◌, ◌||◌, not, if◌then◌else◌, Option, None, option_and_then}
use Rattle.std.specs.Option.{option_map_or}
use Rattle.std.specs.List.{find}
use Rattle.std.specs.BTreeSet.{insert_key}
use Rattle.std.specs.Str.{bytes_eq}
use Rattle.zb_base.specs.Vars.{order_of}
use Rattle.zb_process.specs.declared.model.Model.{Model}
use Rattle.zb_exchange_records.specs.declared.message.MessagePublished.{MessagePublished}
use Rattle.zb_instance_records.specs.declared.instance.Role.TheVariants as roles
use Rattle.zb_model.specs.declared.record.Event.{Event}
use Rattle.zb_model.specs.declared.record.Event.TheVariants as events
use Rattle.zb_faults.specs.Elements.{is_message_start}
use Rattle.zb_tokens.specs.Board.{start_in}
use Rattle.zb_views.specs.View.{next_key}
use Rattle.zb_views.specs.Definitions.{definition_for}
use Rattle.zb_views.specs.declared.definition.Definition.{Definition}
use Rattle.zb_views.specs.Messages.{buffered}
use Rattle.zb_views.specs.Processes.{process_in, processes}
use Rattle.zb_views.specs.Starts.{started_instances, has_started_with}
use Rattle.zb_views.specs.Subscriptions.{is_locked_for}
use Rattle.zb_views.specs.declared.started.Started.{Started}
use Rattle.zb_rules.specs.Create.{variable_event}
use Rattle.zb_rules.specs.Making.{Making, each_made}

-- a process starts by messages of this name: its start event has one of that (BPMN 2.0.2, 10.5.2)
abbrev pub starts_by : List ℕ → Model → Bool
starts_by name m = option_map_or (λ n. is_message_start n.kind && bytes_eq n.name name) (start_in m []) false

-- the latest definition of a process, where that starts by messages of this name (Zeebe)
abbrev pub starting_definition : (name process : List ℕ) → List Event → Option Definition
starting_definition name process es =
    option_and_then (λ d. if option_map_or (λ made. starts_by name made.model) (process_in d.key es) false then Some d else None) (definition_for process 0 es)

-- ids, each put at its place in byte order among those before it, unless it is there (own)
abbrev pub in_byte_order : List (List ℕ) → List (List ℕ) → List (List ℕ)
in_byte_order ids [] = ids
in_byte_order ids (id ∷ more) = in_byte_order (insert_key order_of ids id) more

-- the ids of the processes of which a version starts by messages of this name, in byte order (own)
abbrev pub starters : List ℕ → List Event → List (List ℕ)
starters name es = in_byte_order [] (map (λ made. made.model.process) (filter (λ made. starts_by name made.model) (processes es)))

-- a message may start an instance of a process: it isn't locked for that, and no instance that was started with its correlation key is there, if that isn't empty (Zeebe)
abbrev pub may_start : MessagePublished → List ℕ → List Event → Bool
may_start m process es = not (is_locked_for m.key process es) && (bytes_eq m.correlation_key [] || not (has_started_with process m.correlation_key es))

-- an instance of a definition that a message starts, under a key: that is told, then its root begins, and has the message's variables (Zeebe, the records)
abbrev pub instance_started : (key : ℕ) → Definition → MessagePublished → List Event
instance_started key d m = events.MessageStartEventSubscriptionCorrelated (record { message = m.key; definition = d.key; instance = key })
    ∷ events.ElementActivating (record { key = key; scope = 0; definition = d.key; node = d.process; role = roles.Plain; via = []; started = m.correlation_key })
    ∷ map (variable_event key) m.variables

-- a message starts an instance of a process, where its latest version starts by messages of that name, and the message may start one (Zeebe)
abbrev pub started_of : ℕ → MessagePublished → List ℕ → Making
started_of p m process before =
    option_map_or (λ d. if may_start m process before then instance_started (next_key p before) d m else []) (starting_definition m.name process before) []

-- a message that is published starts an instance of each process that it may, by the ids of these (Zeebe)
abbrev pub starts_of : ℕ → MessagePublished → Making
starts_of p m before = each_made (started_of p m) (starters m.name before) before

-- the first buffered message of this name and correlation key that isn't locked for a process (Zeebe)
abbrev pub next_starter : Started → List Event → Option MessagePublished
next_starter s es = find (λ m. bytes_eq m.name s.name && bytes_eq m.correlation_key s.correlation_key && not (is_locked_for m.key s.process es)) (buffered es)

-- behind the end of an instance that a message with a correlation key had started before, the next such message starts one of that process (Zeebe)
abbrev pub started_behind : ℕ → List Event → ℕ → Making
started_behind p seen instance before =
    option_map_or (λ s. option_map_or (λ m. started_of p m s.process before) (next_starter s before) []) (find (λ s. s.instance == instance) (started_instances seen)) []
