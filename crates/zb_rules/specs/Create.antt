-- Making an instance of a process (BPMN 2.0.2, 13.2; the records as in Zeebe).
use Rattle.std.specs.Prelude.{ℕ, Bool, false, if◌then◌else◌, List, [], ◌∷◌, ◌++◌, map, codes, Option, Some, None}
use Rattle.std.specs.Fmt.{decimal}
use Rattle.zb_base.specs.declared.vars.Variable.{Variable}
use Rattle.zb_instance_records.specs.declared.instance.ProcessInstanceCreationCreate.{ProcessInstanceCreationCreate}
use Rattle.zb_instance_records.specs.declared.instance.Role.TheVariants as roles
use Rattle.zb_process.specs.declared.model.Model.{Model}
use Rattle.zb_faults.specs.Elements.{is_message_start}
use Rattle.zb_tokens.specs.Board.{start_in}
use Rattle.zb_views.specs.Processes.{process_in}
use Rattle.zb_model.specs.declared.record.Event.{Event}
use Rattle.zb_model.specs.declared.record.Event.TheVariants as events
use Rattle.zb_model.specs.declared.record.Rejection.{Rejection}
use Rattle.zb_model.specs.declared.record.RejectionKind.TheVariants as kinds
use Rattle.zb_views.specs.declared.definition.Definition.{Definition}
use Rattle.zb_views.specs.View.{next_key}
use Rattle.zb_views.specs.Definitions.{definition_for}
use Rattle.std.specs.Option.{option_map_or}
use Rattle.zb_rules.specs.Making.{Making}

-- a process starts by a message (BPMN 2.0.2, 10.5.2)
abbrev pub has_message_start : Model → Bool
has_message_start m = option_map_or (λ n. is_message_start n.kind) (start_in m []) false

-- what is told where there is no such process
abbrev pub no_process : List ℕ → List ℕ
no_process process = codes "no process " ++ process

-- and where there is no such version of it
abbrev pub no_version : List ℕ → ℕ → List ℕ
no_version process version = codes "no version " ++ (decimal version ++ (codes " of process " ++ process))

-- and where it starts by a message
abbrev pub starts_by_message : List ℕ → List ℕ
starts_by_message process = codes "process " ++ (process ++ codes " starts by a message")

-- why it is rejected: there is no such process, or no such version of it, or that starts by a message
abbrev pub reason_by : Option Definition → Option Definition → ProcessInstanceCreationCreate → List Event → Option Rejection
reason_by None asked c before = Some (record { kind = kinds.NotFound; reason = no_process c.process })
reason_by (Some latest) None c before = Some (record { kind = kinds.NotFound; reason = no_version c.process c.version })
reason_by (Some latest) (Some asked) c before =
    if option_map_or (λ made. has_message_start made.model) (process_in asked.key before) false then Some (record { kind = kinds.InvalidState; reason = starts_by_message c.process })
    else None

-- the rejection of a create, if there is a reason for one
abbrev pub reason_to_create : List Event → ProcessInstanceCreationCreate → Option Rejection
reason_to_create before c = reason_by (definition_for c.process 0 before) (definition_for c.process c.version before) c before

-- a variable of the instance
abbrev pub variable_event : ℕ → Variable → Event
variable_event root v = events.VariableCreated (record { scope = root; name = v.name; value = v.value })

-- the instance of a process under a key: it is made, it is activated, and it has these variables
abbrev pub instance_under : ℕ → ℕ → ProcessInstanceCreationCreate → List Event
instance_under key definition c = events.ProcessInstanceCreationCreated (record { key = key; definition = definition })
    ∷ events.ElementActivating (record { key = key; scope = 0; definition = definition; node = c.process; role = roles.Plain; via = []; started = [] })
    ∷ map (variable_event key) c.variables

-- what it makes, where its definition is there (BPMN 2.0.2, 13.2; Zeebe, the records)
abbrev pub created : ℕ → ProcessInstanceCreationCreate → Making
created p c before = option_map_or (λ d. instance_under (next_key p before) d.key c) (definition_for c.process c.version before) []
