-- The instances that messages have started: queries over the events of a log.
use Rattle.std.specs.Prelude.{ℕ, List, [], Bool, false, ◌==◌, ◌&&◌, not, if◌then◌else◌, Option, Some, None, option_map, option_and_then}
use Rattle.std.specs.List.{list_any}
use Rattle.std.specs.Str.{bytes_eq}
use Rattle.zb_exchange_records.specs.declared.message.MessagePublished.{MessagePublished}
use Rattle.zb_instance_records.specs.declared.instance.ElementActivating.{ElementActivating}
use Rattle.zb_model.specs.declared.record.Event.{Event}
use Rattle.zb_model.specs.declared.record.Event.TheVariants as events
use Rattle.zb_views.specs.Standing.{Sort, standing}
use Rattle.zb_views.specs.Told.{last_told}
use Rattle.zb_views.specs.declared.started.Started.{Started}

-- the message that an event publishes, if it has this key
abbrev pub published_told : ℕ → Event → Option MessagePublished
published_told key (events.MessagePublished m) = if m.key == key then Some m else None
published_told key _ = None

-- the message that was published under a key, also where it has expired since
abbrev pub published_in : ℕ → List Event → Option MessagePublished
published_in key es = last_told (published_told key) es

-- the message by which an event says that an instance starts
abbrev pub starter_told : ℕ → Event → Option ℕ
starter_told instance (events.MessageStartEventSubscriptionCorrelated e) = if e.instance == instance then Some e.message else None
starter_told instance _ = None

-- the message that started an instance
abbrev pub starter_in : ℕ → List Event → Option MessagePublished
starter_in instance es = option_and_then (λ message. published_in message es) (last_told (starter_told instance) es)

-- a root that begins as an instance which a message started, by the events before it (Zeebe)
abbrev pub started_by : List Event → ElementActivating → Option Started
started_by before e = option_map (λ m. record { instance = e.key; process = e.node; name = m.name; correlation_key = e.started }) (starter_in e.key before)

-- the start that an event tells: a root begins that has a correlation key (Zeebe)
abbrev pub started_told : List Event → Event → Option Started
started_told before (events.ElementActivating e) = if (e.scope == 0) && not (bytes_eq e.started []) then started_by before e else None
started_told before _ = None

-- an event ends an instance: its root has completed or terminated (BPMN 2.0.2, 13.5.6)
abbrev pub ends_instance : Event → Started → Bool
ends_instance (events.ElementCompleted e) s = s.instance == e.key
ends_instance (events.ElementTerminated key) s = s.instance == key
ends_instance e s = false

-- instances are started and end, and keep the process and the message that they started with (Zeebe)
abbrev pub started_sort : Sort Started
started_sort = record {
  told = λ before e. started_told before e;
  ends = λ before e s. ends_instance e s;
  says = λ before e s. s;
}

-- the instances that a message with a correlation key has started and that are there (Zeebe)
abbrev pub started_instances : List Event → List Started
started_instances es = standing started_sort es

-- it is an instance of a process that was started with this correlation key
abbrev pub is_started_with : (process correlation_key : List ℕ) → Started → Bool
is_started_with process correlation_key s = bytes_eq s.process process && bytes_eq s.correlation_key correlation_key

-- an instance of a process that was started with this correlation key is there (Zeebe)
abbrev pub has_started_with : (process correlation_key : List ℕ) → List Event → Bool
has_started_with process correlation_key es = list_any (is_started_with process correlation_key) (started_instances es)
