-- Process definitions: queries over the events of a log.
use Rattle.std.specs.Prelude.{ℕ, ◌==◌, max, List, [], ◌∷◌, ◌&&◌, if◌then◌else◌, Option, Some, None}
use Rattle.std.specs.List.{flat_map}
use Rattle.std.specs.Str.{bytes_eq}
use Rattle.zb_model.specs.declared.record.Event.{Event}
use Rattle.zb_model.specs.declared.record.Event.TheVariants as events
use Rattle.zb_views.specs.declared.definition.Definition.{Definition}

-- the definition that an event makes (Zeebe)
abbrev pub definition_told : Event → List Definition
definition_told (events.ProcessCreated e) = record { key = e.key; version = e.version; process = e.model.process } ∷ []
definition_told _ = []

-- the definitions, in the order in which they were made
abbrev pub definitions : List Event → List Definition
definitions es = flat_map definition_told es

-- the greatest version of a process, or 0 (Zeebe)
abbrev pub greatest_version : List ℕ → List Definition → ℕ
greatest_version process [] = 0
greatest_version process (d ∷ ds) = if bytes_eq d.process process then max d.version (greatest_version process ds) else greatest_version process ds

-- of two definitions the one with the greater key
abbrev pub newer_definition : Definition → Option Definition → Option Definition
newer_definition d None = Some d
newer_definition d (Some found) = if max d.key found.key == found.key then Some found else Some d

-- a version of a process: of those with the same version the one with the greatest key
abbrev pub version_of : List ℕ → ℕ → List Definition → Option Definition
version_of process version [] = None
version_of process version (d ∷ ds) = if bytes_eq d.process process && (d.version == version) then newer_definition d (version_of process version ds) else version_of process version ds

-- the definition that is asked for: version 0 is the latest one (Zeebe)
abbrev pub definition_for : List ℕ → ℕ → List Event → Option Definition
definition_for process version es =
    let ds = definitions es in
    version_of process (if version == 0 then greatest_version process ds else version) ds
