-- The processes that a log makes: queries over its events.
use Rattle.std.specs.Prelude.{ℕ, ◌==◌, List, [], ◌∷◌, if◌then◌else◌, Option, Some, None}
use Rattle.std.specs.List.{flat_map}
use Rattle.zb_instance_records.specs.declared.deployment.ProcessDefinition.{ProcessDefinition}
use Rattle.zb_model.specs.declared.record.Event.{Event}
use Rattle.zb_model.specs.declared.record.Event.TheVariants as events
use Rattle.zb_views.specs.Told.{last_told}

-- the process that an event makes, if it has this key
abbrev pub process_told : ℕ → Event → Option ProcessDefinition
process_told key (events.ProcessCreated e) = if e.key == key then Some e else None
process_told key _ = None

-- the process with a key, as the last of some events makes one with it
abbrev pub process_in : ℕ → List Event → Option ProcessDefinition
process_in key es = last_told (process_told key) es

-- the processes that an event makes
abbrev pub processes_told : Event → List ProcessDefinition
processes_told (events.ProcessCreated e) = e ∷ []
processes_told _ = []

-- the processes, in the order in which they were made
abbrev pub processes : List Event → List ProcessDefinition
processes es = flat_map processes_told es
