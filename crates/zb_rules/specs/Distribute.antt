-- A definition reaches a partition that another one has sent it to (own; the records as in Zeebe).
use Rattle.std.specs.Prelude.{ℕ, List, ◌++◌, codes, if◌then◌else◌, Option, Some, None}
use Rattle.std.specs.Option.{option_or}
use Rattle.std.specs.Fmt.{decimal}
use Rattle.zb_instance_records.specs.declared.deployment.ProcessDefinition.{ProcessDefinition}
use Rattle.zb_model.specs.declared.record.Event.{Event}
use Rattle.zb_model.specs.declared.record.Event.TheVariants as events
use Rattle.zb_model.specs.declared.record.Rejection.{Rejection}
use Rattle.zb_model.specs.declared.record.RejectionKind.TheVariants as kinds
use Rattle.zb_rules.specs.Applies.{has_definition}
use Rattle.zb_rules.specs.Deploy.{reason_to_deploy}
use Rattle.zb_rules.specs.Making.{Making, just}

-- what is told where the definition is there
abbrev pub definition_is_there : ℕ → List ℕ
definition_is_there key = codes "definition " ++ (decimal key ++ codes " is there")

-- why it isn't taken a second time
abbrev pub reason_to_turn_back : List Event → ℕ → Option Rejection
reason_to_turn_back before key = if has_definition key before then Some (record { kind = kinds.AlreadyExists; reason = definition_is_there key }) else None

-- why a definition isn't taken: its model has a fault, or it is there
abbrev pub reason_to_distribute : List Event → ProcessDefinition → Option Rejection
reason_to_distribute before c = option_or (reason_to_deploy c.model) (reason_to_turn_back before c.key)

-- the definition stands under the key, and is the version, that its first partition gave it
abbrev pub distributed : ProcessDefinition → Making
distributed c = just (events.ProcessCreated c)
