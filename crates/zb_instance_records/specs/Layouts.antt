-- The layouts of records: their fields in order.
use Rattle.std.proofs.Common.{ℕ, [], ◌∷◌, List, refl}
use Rattle.zb_format.specs.Layout.{Layout, both, made, counted, by_byte, number, long, signed, flag, text, value, variables, pair}
use Rattle.zb_process.specs.Layouts.{model}
use Rattle.zb_instance_records.specs.declared.happening.IncidentKind.{IncidentKind}
use Rattle.zb_instance_records.specs.declared.happening.IncidentKind.TheVariants as incidents
use Rattle.zb_instance_records.specs.declared.instance.Role.{Role}
use Rattle.zb_instance_records.specs.declared.instance.Role.TheVariants as roles
use Rattle.zb_instance_records.specs.declared.deployment.CommandDistribution.{CommandDistribution}
use Rattle.zb_instance_records.specs.declared.deployment.DefinitionLink.{DefinitionLink}
use Rattle.zb_instance_records.specs.declared.deployment.ProcessDefinition.{ProcessDefinition}
use Rattle.zb_instance_records.specs.declared.happening.IncidentCreated.{IncidentCreated}
use Rattle.zb_instance_records.specs.declared.happening.IncidentResolved.{IncidentResolved}
use Rattle.zb_instance_records.specs.declared.happening.ScopeVariable.{ScopeVariable}
use Rattle.zb_instance_records.specs.declared.happening.TimerCreated.{TimerCreated}
use Rattle.zb_instance_records.specs.declared.happening.VariableDocumentUpdate.{VariableDocumentUpdate}
use Rattle.zb_instance_records.specs.declared.instance.ElementActivated.{ElementActivated}
use Rattle.zb_instance_records.specs.declared.instance.ElementActivating.{ElementActivating}
use Rattle.zb_instance_records.specs.declared.instance.ElementCompleted.{ElementCompleted}
use Rattle.zb_instance_records.specs.declared.instance.ElementMigrated.{ElementMigrated}
use Rattle.zb_instance_records.specs.declared.instance.ProcessEventTriggered.{ProcessEventTriggered}
use Rattle.zb_instance_records.specs.declared.instance.ProcessInstanceCreationCreate.{ProcessInstanceCreationCreate}
use Rattle.zb_instance_records.specs.declared.instance.ProcessInstanceMigration.{ProcessInstanceMigration}
use Rattle.zb_instance_records.specs.declared.instance.SequenceFlowTaken.{SequenceFlowTaken}

-- the byte of an element's role in its scope
abbrev pub role_byte : Role → ℕ
role_byte roles.Plain = 0
role_byte roles.Body = 1
role_byte roles.Inner = 2
role_byte roles.Handler = 3

-- each role
abbrev pub each_role : List Role
each_role = roles.Plain ∷ roles.Body ∷ roles.Inner ∷ roles.Handler ∷ []

-- an element's role in its scope
unfoldable pub role : Layout Role
role = by_byte role_byte each_role (elim [ roles.Plain ↦ refl | roles.Body ↦ refl | roles.Inner ↦ refl | roles.Handler ↦ refl ])

-- the byte of an incident's kind
abbrev pub incident_byte : IncidentKind → ℕ
incident_byte incidents.ExtractValueError = 1
incident_byte incidents.ConditionError = 2
incident_byte incidents.JobNoRetries = 3
incident_byte incidents.UnhandledErrorEvent = 4

-- each kind of incident
abbrev pub each_incident : List IncidentKind
each_incident = incidents.ExtractValueError ∷ incidents.ConditionError ∷ incidents.JobNoRetries ∷ incidents.UnhandledErrorEvent ∷ []

-- an incident's kind
unfoldable pub incident_kind : Layout IncidentKind
incident_kind = by_byte incident_byte each_incident (elim [ incidents.ExtractValueError ↦ refl | incidents.ConditionError ↦ refl | incidents.JobNoRetries ↦ refl | incidents.UnhandledErrorEvent ↦ refl ])

-- PROCESS_INSTANCE_CREATION CREATE
unfoldable pub process_instance_creation_create : Layout ProcessInstanceCreationCreate
process_instance_creation_create = made (λ r. (r.process, (r.version, r.variables))) (λ p. record { process = p.0; version = p.1.0; variables = p.1.1 }) (λ r. refl) (λ p. refl) (both text (both number variables))

-- VARIABLE_DOCUMENT UPDATE
unfoldable pub variable_document_update : Layout VariableDocumentUpdate
variable_document_update = made (λ r. (r.scope, (r.local, r.variables))) (λ p. record { scope = p.0; local = p.1.0; variables = p.1.1 }) (λ r. refl) (λ p. refl) (both long (both flag variables))

-- DEPLOYMENT DISTRIBUTE and PROCESS CREATED
unfoldable pub process_definition : Layout ProcessDefinition
process_definition = made (λ r. (r.key, (r.version, r.model))) (λ p. record { key = p.0; version = p.1.0; model = p.1.1 }) (λ r. refl) (λ p. refl) (both long (both number model))

-- COMMAND_DISTRIBUTION DISTRIBUTING, ACKNOWLEDGE and ACKNOWLEDGED
unfoldable pub command_distribution : Layout CommandDistribution
command_distribution = made (λ r. (r.key, r.partition)) (λ p. record { key = p.0; partition = p.1 }) (λ r. refl) (λ p. refl) (both long number)

-- DEPLOYMENT CREATED and PROCESS_INSTANCE_CREATION CREATED
unfoldable pub definition_link : Layout DefinitionLink
definition_link = made (λ r. (r.key, r.definition)) (λ p. record { key = p.0; definition = p.1 }) (λ r. refl) (λ p. refl) (both long long)

-- PROCESS_INSTANCE ELEMENT_ACTIVATING
unfoldable pub element_activating : Layout ElementActivating
element_activating = made (λ r. (r.key, (r.scope, (r.definition, (r.node, (r.role, (r.via, r.started))))))) (λ p. record { key = p.0; scope = p.1.0; definition = p.1.1.0; node = p.1.1.1.0; role = p.1.1.1.1.0; via = p.1.1.1.1.1.0; started = p.1.1.1.1.1.1 }) (λ r. refl) (λ p. refl) (both long (both long (both long (both text (both role (both text text))))))

-- PROCESS_INSTANCE ELEMENT_ACTIVATED
unfoldable pub element_activated : Layout ElementActivated
element_activated = made (λ r. (r.key, r.items)) (λ p. record { key = p.0; items = p.1 }) (λ r. refl) (λ p. refl) (both long (counted signed))

-- PROCESS_INSTANCE ELEMENT_COMPLETED
unfoldable pub element_completed : Layout ElementCompleted
element_completed = made (λ r. (r.key, r.owed)) (λ p. record { key = p.0; owed = p.1 }) (λ r. refl) (λ p. refl) (both long (counted text))

-- PROCESS_INSTANCE SEQUENCE_FLOW_TAKEN
unfoldable pub sequence_flow_taken : Layout SequenceFlowTaken
sequence_flow_taken = made (λ r. (r.key, r.flow)) (λ p. record { key = p.0; flow = p.1 }) (λ r. refl) (λ p. refl) (both long text)

-- PROCESS_INSTANCE ELEMENT_MIGRATED
unfoldable pub element_migrated : Layout ElementMigrated
element_migrated = made (λ r. (r.key, r.node)) (λ p. record { key = p.0; node = p.1 }) (λ r. refl) (λ p. refl) (both long text)

-- PROCESS_INSTANCE_MIGRATION MIGRATE and MIGRATED
unfoldable pub process_instance_migration : Layout ProcessInstanceMigration
process_instance_migration = made (λ r. (r.key, (r.definition, r.pairs))) (λ p. record { key = p.0; definition = p.1.0; pairs = p.1.1 }) (λ r. refl) (λ p. refl) (both long (both long (counted pair)))

-- TIMER CREATED
unfoldable pub timer_created : Layout TimerCreated
timer_created = made (λ r. (r.key, (r.cell, (r.node, r.due)))) (λ p. record { key = p.0; cell = p.1.0; node = p.1.1.0; due = p.1.1.1 }) (λ r. refl) (λ p. refl) (both long (both long (both text long)))

-- PROCESS_EVENT TRIGGERED
unfoldable pub process_event_triggered : Layout ProcessEventTriggered
process_event_triggered = made (λ r. (r.cell, r.node)) (λ p. record { cell = p.0; node = p.1 }) (λ r. refl) (λ p. refl) (both long text)

-- VARIABLE CREATED and UPDATED
unfoldable pub scope_variable : Layout ScopeVariable
scope_variable = made (λ r. (r.scope, (r.name, r.value))) (λ p. record { scope = p.0; name = p.1.0; value = p.1.1 }) (λ r. refl) (λ p. refl) (both long (both text value))

-- INCIDENT CREATED
unfoldable pub incident_created : Layout IncidentCreated
incident_created = made (λ r. (r.key, (r.kind, (r.cell, (r.job, r.text))))) (λ p. record { key = p.0; kind = p.1.0; cell = p.1.1.0; job = p.1.1.1.0; text = p.1.1.1.1 }) (λ r. refl) (λ p. refl) (both long (both incident_kind (both long (both long text))))

-- INCIDENT RESOLVED
unfoldable pub incident_resolved : Layout IncidentResolved
incident_resolved = made (λ r. (r.key, r.job)) (λ p. record { key = p.0; job = p.1 }) (λ r. refl) (λ p. refl) (both long long)
