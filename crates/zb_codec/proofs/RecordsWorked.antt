-- The bytes of each command and of each event, written out from the grammar of records: numbers are big-endian, a text or a list begins with its length in four bytes, and a key has eight.
use Rattle.std.specs.Prelude.{◌≡◌, pos, negsuc, true, false, None, Some, [], ◌∷◌, refl}
use Rattle.zb_format.specs.Field as fields
use Rattle.zb_model.specs.Layouts.{command, event}
use Rattle.zb_model.specs.declared.record.Command.TheVariants as commands
use Rattle.zb_exchange_records.specs.Layouts.{job_activated, job_batch_activate, job_batch_activated, job_complete, job_created, job_error, job_failure, job_retries, message_correlation, message_publish, message_published, message_start_event_subscription_correlated, message_subscription, message_subscription_delete, process_message_subscription_creating, process_message_subscription_deleting, subscribed_message}
use Rattle.zb_format.specs.Layout.{flag, long, number, pair, signed, text, value, variable, variables}
use Rattle.zb_instance_records.specs.Layouts.{command_distribution, definition_link, element_activated, element_activating, element_completed, element_migrated, incident_created, incident_kind, incident_resolved, process_definition, process_event_triggered, process_instance_creation_create, process_instance_migration, role, scope_variable, sequence_flow_taken, timer_created, variable_document_update}
use Rattle.zb_process.specs.Layouts.{expression, flow, kind, mapping, model, multi, node}
use Rattle.zb_base.specs.declared.value.Value.TheVariants as values
use Rattle.zb_process.specs.declared.model.NodeKind.TheVariants as kinds
use Rattle.zb_process.specs.declared.operator.Operator.TheVariants as operators
use Rattle.zb_process.specs.Tree.{Int, Truth, Text, Name, Members, Not, Minus, Binary, none, more}
use Rattle.zb_model.specs.declared.record.Event.TheVariants as events
use Rattle.zb_instance_records.specs.declared.instance.Role.TheVariants as roles
use Rattle.zb_instance_records.specs.declared.happening.IncidentKind.TheVariants as incidents

pub command_1 : command.spelling (commands.DeploymentCreate (record { process = (112 ∷ []); tag = (118 ∷ 49 ∷ []); nodes = ((record { id = (110 ∷ 50 ∷ []); kind = kinds.StartEvent; parent = []; attached = []; cancel = false; otherwise = []; name = []; expr = None; retries = 0; handler = false; multi = None; inputs = []; outputs = [] }) ∷ (record { id = (110 ∷ 51 ∷ []); kind = kinds.MessageStartEvent; parent = []; attached = []; cancel = false; otherwise = []; name = []; expr = None; retries = 0; handler = false; multi = None; inputs = []; outputs = [] }) ∷ (record { id = (110 ∷ 52 ∷ []); kind = kinds.EndEvent; parent = []; attached = []; cancel = false; otherwise = []; name = []; expr = None; retries = 0; handler = false; multi = None; inputs = []; outputs = [] }) ∷ (record { id = (110 ∷ 53 ∷ []); kind = kinds.TerminateEndEvent; parent = []; attached = []; cancel = false; otherwise = []; name = []; expr = None; retries = 0; handler = false; multi = None; inputs = []; outputs = [] }) ∷ (record { id = (110 ∷ 54 ∷ []); kind = kinds.CompensationEndEvent; parent = []; attached = []; cancel = false; otherwise = []; name = []; expr = None; retries = 0; handler = false; multi = None; inputs = []; outputs = [] }) ∷ (record { id = (110 ∷ 55 ∷ []); kind = kinds.ServiceTask; parent = (112 ∷ []); attached = (97 ∷ []); cancel = true; otherwise = (111 ∷ []); name = (112 ∷ 97 ∷ 121 ∷ []); expr = (Some (Name (110 ∷ []))); retries = 3; handler = true; multi = (Some (record { sequential = true; collection = (Members (more (Int (pos 1)) (more (Name (110 ∷ [])) none))); element = (120 ∷ []) })); inputs = ((record { source = (Int (pos 1)); target = (105 ∷ []) }) ∷ []); outputs = ((record { source = (Text (120 ∷ [])); target = (106 ∷ []) }) ∷ (record { source = (Truth false); target = (107 ∷ []) }) ∷ []) }) ∷ (record { id = (110 ∷ 56 ∷ []); kind = kinds.ReceiveTask; parent = []; attached = []; cancel = false; otherwise = []; name = []; expr = None; retries = 0; handler = false; multi = None; inputs = []; outputs = [] }) ∷ (record { id = (110 ∷ 57 ∷ []); kind = kinds.SubProcess; parent = []; attached = []; cancel = false; otherwise = []; name = []; expr = None; retries = 0; handler = false; multi = None; inputs = []; outputs = [] }) ∷ (record { id = (110 ∷ 49 ∷ 48 ∷ []); kind = kinds.ExclusiveGateway; parent = []; attached = []; cancel = false; otherwise = []; name = []; expr = None; retries = 0; handler = false; multi = None; inputs = []; outputs = [] }) ∷ (record { id = (110 ∷ 49 ∷ 49 ∷ []); kind = kinds.ParallelGateway; parent = []; attached = []; cancel = false; otherwise = []; name = []; expr = None; retries = 0; handler = false; multi = None; inputs = []; outputs = [] }) ∷ (record { id = (110 ∷ 49 ∷ 50 ∷ []); kind = kinds.EventBasedGateway; parent = []; attached = []; cancel = false; otherwise = []; name = []; expr = None; retries = 0; handler = false; multi = None; inputs = []; outputs = [] }) ∷ (record { id = (110 ∷ 49 ∷ 51 ∷ []); kind = kinds.DateCatchEvent; parent = []; attached = []; cancel = false; otherwise = []; name = []; expr = None; retries = 0; handler = false; multi = None; inputs = []; outputs = [] }) ∷ (record { id = (110 ∷ 49 ∷ 52 ∷ []); kind = kinds.DurationCatchEvent; parent = []; attached = []; cancel = false; otherwise = []; name = []; expr = None; retries = 0; handler = false; multi = None; inputs = []; outputs = [] }) ∷ (record { id = (110 ∷ 49 ∷ 53 ∷ []); kind = kinds.MessageCatchEvent; parent = []; attached = []; cancel = false; otherwise = []; name = []; expr = None; retries = 0; handler = false; multi = None; inputs = []; outputs = [] }) ∷ (record { id = (110 ∷ 49 ∷ 54 ∷ []); kind = kinds.ThrowEvent; parent = []; attached = []; cancel = false; otherwise = []; name = []; expr = None; retries = 0; handler = false; multi = None; inputs = []; outputs = [] }) ∷ (record { id = (110 ∷ 49 ∷ 55 ∷ []); kind = kinds.CompensationThrowEvent; parent = []; attached = []; cancel = false; otherwise = []; name = []; expr = None; retries = 0; handler = false; multi = None; inputs = []; outputs = [] }) ∷ (record { id = (110 ∷ 49 ∷ 56 ∷ []); kind = kinds.DateBoundaryEvent; parent = []; attached = []; cancel = false; otherwise = []; name = []; expr = None; retries = 0; handler = false; multi = None; inputs = []; outputs = [] }) ∷ (record { id = (110 ∷ 49 ∷ 57 ∷ []); kind = kinds.DurationBoundaryEvent; parent = []; attached = []; cancel = false; otherwise = []; name = []; expr = None; retries = 0; handler = false; multi = None; inputs = []; outputs = [] }) ∷ (record { id = (110 ∷ 50 ∷ 48 ∷ []); kind = kinds.MessageBoundaryEvent; parent = []; attached = []; cancel = false; otherwise = []; name = []; expr = None; retries = 0; handler = false; multi = None; inputs = []; outputs = [] }) ∷ (record { id = (110 ∷ 50 ∷ 49 ∷ []); kind = kinds.ErrorBoundaryEvent; parent = []; attached = []; cancel = false; otherwise = []; name = []; expr = None; retries = 0; handler = false; multi = None; inputs = []; outputs = [] }) ∷ (record { id = (110 ∷ 50 ∷ 50 ∷ []); kind = kinds.CompensationBoundaryEvent; parent = []; attached = []; cancel = false; otherwise = []; name = []; expr = None; retries = 0; handler = false; multi = None; inputs = []; outputs = [] }) ∷ []); flows = ((record { id = (102 ∷ 48 ∷ []); from = (97 ∷ []); to = (98 ∷ []); condition = (Some (Int (pos 1))) }) ∷ (record { id = (102 ∷ 49 ∷ []); from = (97 ∷ []); to = (98 ∷ []); condition = (Some (Truth false)) }) ∷ (record { id = (102 ∷ 50 ∷ []); from = (97 ∷ []); to = (98 ∷ []); condition = (Some (Text (120 ∷ []))) }) ∷ (record { id = (102 ∷ 51 ∷ []); from = (97 ∷ []); to = (98 ∷ []); condition = (Some (Name (110 ∷ []))) }) ∷ (record { id = (102 ∷ 52 ∷ []); from = (97 ∷ []); to = (98 ∷ []); condition = (Some (Members none)) }) ∷ (record { id = (102 ∷ 53 ∷ []); from = (97 ∷ []); to = (98 ∷ []); condition = (Some (Members (more (Int (pos 1)) (more (Name (110 ∷ [])) none)))) }) ∷ (record { id = (102 ∷ 54 ∷ []); from = (97 ∷ []); to = (98 ∷ []); condition = (Some (Not (Truth true))) }) ∷ (record { id = (102 ∷ 55 ∷ []); from = (97 ∷ []); to = (98 ∷ []); condition = (Some (Minus (Int (pos 2)))) }) ∷ (record { id = (102 ∷ 56 ∷ []); from = (97 ∷ []); to = (98 ∷ []); condition = (Some (Binary operators.Add (Name (110 ∷ [])) (Int (pos 7)))) }) ∷ (record { id = (102 ∷ 57 ∷ []); from = (97 ∷ []); to = (98 ∷ []); condition = (Some (Binary operators.Subtract (Name (110 ∷ [])) (Int (pos 8)))) }) ∷ (record { id = (102 ∷ 49 ∷ 48 ∷ []); from = (97 ∷ []); to = (98 ∷ []); condition = (Some (Binary operators.Multiply (Name (110 ∷ [])) (Int (pos 9)))) }) ∷ (record { id = (102 ∷ 49 ∷ 49 ∷ []); from = (97 ∷ []); to = (98 ∷ []); condition = (Some (Binary operators.Equal (Name (110 ∷ [])) (Int (pos 10)))) }) ∷ (record { id = (102 ∷ 49 ∷ 50 ∷ []); from = (97 ∷ []); to = (98 ∷ []); condition = (Some (Binary operators.NotEqual (Name (110 ∷ [])) (Int (pos 11)))) }) ∷ (record { id = (102 ∷ 49 ∷ 51 ∷ []); from = (97 ∷ []); to = (98 ∷ []); condition = (Some (Binary operators.Less (Name (110 ∷ [])) (Int (pos 12)))) }) ∷ (record { id = (102 ∷ 49 ∷ 52 ∷ []); from = (97 ∷ []); to = (98 ∷ []); condition = (Some (Binary operators.AtMost (Name (110 ∷ [])) (Int (pos 13)))) }) ∷ (record { id = (102 ∷ 49 ∷ 53 ∷ []); from = (97 ∷ []); to = (98 ∷ []); condition = (Some (Binary operators.Greater (Name (110 ∷ [])) (Int (pos 14)))) }) ∷ (record { id = (102 ∷ 49 ∷ 54 ∷ []); from = (97 ∷ []); to = (98 ∷ []); condition = (Some (Binary operators.AtLeast (Name (110 ∷ [])) (Int (pos 15)))) }) ∷ (record { id = (102 ∷ 49 ∷ 55 ∷ []); from = (97 ∷ []); to = (98 ∷ []); condition = (Some (Binary operators.And (Name (110 ∷ [])) (Int (pos 16)))) }) ∷ (record { id = (102 ∷ 49 ∷ 56 ∷ []); from = (97 ∷ []); to = (98 ∷ []); condition = (Some (Binary operators.Or (Name (110 ∷ [])) (Int (pos 17)))) }) ∷ (record { id = (103 ∷ []); from = (98 ∷ []); to = (99 ∷ []); condition = None }) ∷ []) })) ≡ 1 ∷ 0 ∷ 0 ∷ 0 ∷ 1 ∷ 112 ∷ 0 ∷ 0 ∷ 0 ∷ 2 ∷ 118 ∷ 49 ∷ 0 ∷ 0 ∷ 0 ∷ 21 ∷ 0 ∷ 0 ∷ 0 ∷ 2 ∷ 110 ∷ 50 ∷ 2 ∷ 0 ∷ 0 ∷ 0 ∷ 0 ∷ 0 ∷ 0 ∷ 0 ∷ 0 ∷ 0 ∷ 0 ∷ 0 ∷ 0 ∷ 0 ∷ 0 ∷ 0 ∷ 0 ∷ 0 ∷ 0 ∷ 0 ∷ 0 ∷ 0 ∷ 0 ∷ 0 ∷ 0 ∷ 0 ∷ 0 ∷ 0 ∷ 0 ∷ 0 ∷ 0 ∷ 0 ∷ 0 ∷ 0 ∷ 0 ∷ 0 ∷ 2 ∷ 110 ∷ 51 ∷ 3 ∷ 0 ∷ 0 ∷ 0 ∷ 0 ∷ 0 ∷ 0 ∷ 0 ∷ 0 ∷ 0 ∷ 0 ∷ 0 ∷ 0 ∷ 0 ∷ 0 ∷ 0 ∷ 0 ∷ 0 ∷ 0 ∷ 0 ∷ 0 ∷ 0 ∷ 0 ∷ 0 ∷ 0 ∷ 0 ∷ 0 ∷ 0 ∷ 0 ∷ 0 ∷ 0 ∷ 0 ∷ 0 ∷ 0 ∷ 0 ∷ 0 ∷ 2 ∷ 110 ∷ 52 ∷ 4 ∷ 0 ∷ 0 ∷ 0 ∷ 0 ∷ 0 ∷ 0 ∷ 0 ∷ 0 ∷ 0 ∷ 0 ∷ 0 ∷ 0 ∷ 0 ∷ 0 ∷ 0 ∷ 0 ∷ 0 ∷ 0 ∷ 0 ∷ 0 ∷ 0 ∷ 0 ∷ 0 ∷ 0 ∷ 0 ∷ 0 ∷ 0 ∷ 0 ∷ 0 ∷ 0 ∷ 0 ∷ 0 ∷ 0 ∷ 0 ∷ 0 ∷ 2 ∷ 110 ∷ 53 ∷ 5 ∷ 0 ∷ 0 ∷ 0 ∷ 0 ∷ 0 ∷ 0 ∷ 0 ∷ 0 ∷ 0 ∷ 0 ∷ 0 ∷ 0 ∷ 0 ∷ 0 ∷ 0 ∷ 0 ∷ 0 ∷ 0 ∷ 0 ∷ 0 ∷ 0 ∷ 0 ∷ 0 ∷ 0 ∷ 0 ∷ 0 ∷ 0 ∷ 0 ∷ 0 ∷ 0 ∷ 0 ∷ 0 ∷ 0 ∷ 0 ∷ 0 ∷ 2 ∷ 110 ∷ 54 ∷ 6 ∷ 0 ∷ 0 ∷ 0 ∷ 0 ∷ 0 ∷ 0 ∷ 0 ∷ 0 ∷ 0 ∷ 0 ∷ 0 ∷ 0 ∷ 0 ∷ 0 ∷ 0 ∷ 0 ∷ 0 ∷ 0 ∷ 0 ∷ 0 ∷ 0 ∷ 0 ∷ 0 ∷ 0 ∷ 0 ∷ 0 ∷ 0 ∷ 0 ∷ 0 ∷ 0 ∷ 0 ∷ 0 ∷ 0 ∷ 0 ∷ 0 ∷ 2 ∷ 110 ∷ 55 ∷ 7 ∷ 0 ∷ 0 ∷ 0 ∷ 1 ∷ 112 ∷ 0 ∷ 0 ∷ 0 ∷ 1 ∷ 97 ∷ 1 ∷ 0 ∷ 0 ∷ 0 ∷ 1 ∷ 111 ∷ 0 ∷ 0 ∷ 0 ∷ 3 ∷ 112 ∷ 97 ∷ 121 ∷ 1 ∷ 3 ∷ 0 ∷ 0 ∷ 0 ∷ 1 ∷ 110 ∷ 0 ∷ 0 ∷ 0 ∷ 3 ∷ 1 ∷ 1 ∷ 1 ∷ 4 ∷ 0 ∷ 0 ∷ 0 ∷ 2 ∷ 0 ∷ 0 ∷ 0 ∷ 0 ∷ 0 ∷ 0 ∷ 0 ∷ 0 ∷ 1 ∷ 3 ∷ 0 ∷ 0 ∷ 0 ∷ 1 ∷ 110 ∷ 0 ∷ 0 ∷ 0 ∷ 1 ∷ 120 ∷ 0 ∷ 0 ∷ 0 ∷ 1 ∷ 0 ∷ 0 ∷ 0 ∷ 0 ∷ 0 ∷ 0 ∷ 0 ∷ 0 ∷ 1 ∷ 0 ∷ 0 ∷ 0 ∷ 1 ∷ 105 ∷ 0 ∷ 0 ∷ 0 ∷ 2 ∷ 2 ∷ 0 ∷ 0 ∷ 0 ∷ 1 ∷ 120 ∷ 0 ∷ 0 ∷ 0 ∷ 1 ∷ 106 ∷ 1 ∷ 0 ∷ 0 ∷ 0 ∷ 0 ∷ 1 ∷ 107 ∷ 0 ∷ 0 ∷ 0 ∷ 2 ∷ 110 ∷ 56 ∷ 8 ∷ 0 ∷ 0 ∷ 0 ∷ 0 ∷ 0 ∷ 0 ∷ 0 ∷ 0 ∷ 0 ∷ 0 ∷ 0 ∷ 0 ∷ 0 ∷ 0 ∷ 0 ∷ 0 ∷ 0 ∷ 0 ∷ 0 ∷ 0 ∷ 0 ∷ 0 ∷ 0 ∷ 0 ∷ 0 ∷ 0 ∷ 0 ∷ 0 ∷ 0 ∷ 0 ∷ 0 ∷ 0 ∷ 0 ∷ 0 ∷ 0 ∷ 2 ∷ 110 ∷ 57 ∷ 9 ∷ 0 ∷ 0 ∷ 0 ∷ 0 ∷ 0 ∷ 0 ∷ 0 ∷ 0 ∷ 0 ∷ 0 ∷ 0 ∷ 0 ∷ 0 ∷ 0 ∷ 0 ∷ 0 ∷ 0 ∷ 0 ∷ 0 ∷ 0 ∷ 0 ∷ 0 ∷ 0 ∷ 0 ∷ 0 ∷ 0 ∷ 0 ∷ 0 ∷ 0 ∷ 0 ∷ 0 ∷ 0 ∷ 0 ∷ 0 ∷ 0 ∷ 3 ∷ 110 ∷ 49 ∷ 48 ∷ 10 ∷ 0 ∷ 0 ∷ 0 ∷ 0 ∷ 0 ∷ 0 ∷ 0 ∷ 0 ∷ 0 ∷ 0 ∷ 0 ∷ 0 ∷ 0 ∷ 0 ∷ 0 ∷ 0 ∷ 0 ∷ 0 ∷ 0 ∷ 0 ∷ 0 ∷ 0 ∷ 0 ∷ 0 ∷ 0 ∷ 0 ∷ 0 ∷ 0 ∷ 0 ∷ 0 ∷ 0 ∷ 0 ∷ 0 ∷ 0 ∷ 0 ∷ 3 ∷ 110 ∷ 49 ∷ 49 ∷ 11 ∷ 0 ∷ 0 ∷ 0 ∷ 0 ∷ 0 ∷ 0 ∷ 0 ∷ 0 ∷ 0 ∷ 0 ∷ 0 ∷ 0 ∷ 0 ∷ 0 ∷ 0 ∷ 0 ∷ 0 ∷ 0 ∷ 0 ∷ 0 ∷ 0 ∷ 0 ∷ 0 ∷ 0 ∷ 0 ∷ 0 ∷ 0 ∷ 0 ∷ 0 ∷ 0 ∷ 0 ∷ 0 ∷ 0 ∷ 0 ∷ 0 ∷ 3 ∷ 110 ∷ 49 ∷ 50 ∷ 12 ∷ 0 ∷ 0 ∷ 0 ∷ 0 ∷ 0 ∷ 0 ∷ 0 ∷ 0 ∷ 0 ∷ 0 ∷ 0 ∷ 0 ∷ 0 ∷ 0 ∷ 0 ∷ 0 ∷ 0 ∷ 0 ∷ 0 ∷ 0 ∷ 0 ∷ 0 ∷ 0 ∷ 0 ∷ 0 ∷ 0 ∷ 0 ∷ 0 ∷ 0 ∷ 0 ∷ 0 ∷ 0 ∷ 0 ∷ 0 ∷ 0 ∷ 3 ∷ 110 ∷ 49 ∷ 51 ∷ 13 ∷ 0 ∷ 0 ∷ 0 ∷ 0 ∷ 0 ∷ 0 ∷ 0 ∷ 0 ∷ 0 ∷ 0 ∷ 0 ∷ 0 ∷ 0 ∷ 0 ∷ 0 ∷ 0 ∷ 0 ∷ 0 ∷ 0 ∷ 0 ∷ 0 ∷ 0 ∷ 0 ∷ 0 ∷ 0 ∷ 0 ∷ 0 ∷ 0 ∷ 0 ∷ 0 ∷ 0 ∷ 0 ∷ 0 ∷ 0 ∷ 0 ∷ 3 ∷ 110 ∷ 49 ∷ 52 ∷ 14 ∷ 0 ∷ 0 ∷ 0 ∷ 0 ∷ 0 ∷ 0 ∷ 0 ∷ 0 ∷ 0 ∷ 0 ∷ 0 ∷ 0 ∷ 0 ∷ 0 ∷ 0 ∷ 0 ∷ 0 ∷ 0 ∷ 0 ∷ 0 ∷ 0 ∷ 0 ∷ 0 ∷ 0 ∷ 0 ∷ 0 ∷ 0 ∷ 0 ∷ 0 ∷ 0 ∷ 0 ∷ 0 ∷ 0 ∷ 0 ∷ 0 ∷ 3 ∷ 110 ∷ 49 ∷ 53 ∷ 15 ∷ 0 ∷ 0 ∷ 0 ∷ 0 ∷ 0 ∷ 0 ∷ 0 ∷ 0 ∷ 0 ∷ 0 ∷ 0 ∷ 0 ∷ 0 ∷ 0 ∷ 0 ∷ 0 ∷ 0 ∷ 0 ∷ 0 ∷ 0 ∷ 0 ∷ 0 ∷ 0 ∷ 0 ∷ 0 ∷ 0 ∷ 0 ∷ 0 ∷ 0 ∷ 0 ∷ 0 ∷ 0 ∷ 0 ∷ 0 ∷ 0 ∷ 3 ∷ 110 ∷ 49 ∷ 54 ∷ 16 ∷ 0 ∷ 0 ∷ 0 ∷ 0 ∷ 0 ∷ 0 ∷ 0 ∷ 0 ∷ 0 ∷ 0 ∷ 0 ∷ 0 ∷ 0 ∷ 0 ∷ 0 ∷ 0 ∷ 0 ∷ 0 ∷ 0 ∷ 0 ∷ 0 ∷ 0 ∷ 0 ∷ 0 ∷ 0 ∷ 0 ∷ 0 ∷ 0 ∷ 0 ∷ 0 ∷ 0 ∷ 0 ∷ 0 ∷ 0 ∷ 0 ∷ 3 ∷ 110 ∷ 49 ∷ 55 ∷ 17 ∷ 0 ∷ 0 ∷ 0 ∷ 0 ∷ 0 ∷ 0 ∷ 0 ∷ 0 ∷ 0 ∷ 0 ∷ 0 ∷ 0 ∷ 0 ∷ 0 ∷ 0 ∷ 0 ∷ 0 ∷ 0 ∷ 0 ∷ 0 ∷ 0 ∷ 0 ∷ 0 ∷ 0 ∷ 0 ∷ 0 ∷ 0 ∷ 0 ∷ 0 ∷ 0 ∷ 0 ∷ 0 ∷ 0 ∷ 0 ∷ 0 ∷ 3 ∷ 110 ∷ 49 ∷ 56 ∷ 18 ∷ 0 ∷ 0 ∷ 0 ∷ 0 ∷ 0 ∷ 0 ∷ 0 ∷ 0 ∷ 0 ∷ 0 ∷ 0 ∷ 0 ∷ 0 ∷ 0 ∷ 0 ∷ 0 ∷ 0 ∷ 0 ∷ 0 ∷ 0 ∷ 0 ∷ 0 ∷ 0 ∷ 0 ∷ 0 ∷ 0 ∷ 0 ∷ 0 ∷ 0 ∷ 0 ∷ 0 ∷ 0 ∷ 0 ∷ 0 ∷ 0 ∷ 3 ∷ 110 ∷ 49 ∷ 57 ∷ 19 ∷ 0 ∷ 0 ∷ 0 ∷ 0 ∷ 0 ∷ 0 ∷ 0 ∷ 0 ∷ 0 ∷ 0 ∷ 0 ∷ 0 ∷ 0 ∷ 0 ∷ 0 ∷ 0 ∷ 0 ∷ 0 ∷ 0 ∷ 0 ∷ 0 ∷ 0 ∷ 0 ∷ 0 ∷ 0 ∷ 0 ∷ 0 ∷ 0 ∷ 0 ∷ 0 ∷ 0 ∷ 0 ∷ 0 ∷ 0 ∷ 0 ∷ 3 ∷ 110 ∷ 50 ∷ 48 ∷ 20 ∷ 0 ∷ 0 ∷ 0 ∷ 0 ∷ 0 ∷ 0 ∷ 0 ∷ 0 ∷ 0 ∷ 0 ∷ 0 ∷ 0 ∷ 0 ∷ 0 ∷ 0 ∷ 0 ∷ 0 ∷ 0 ∷ 0 ∷ 0 ∷ 0 ∷ 0 ∷ 0 ∷ 0 ∷ 0 ∷ 0 ∷ 0 ∷ 0 ∷ 0 ∷ 0 ∷ 0 ∷ 0 ∷ 0 ∷ 0 ∷ 0 ∷ 3 ∷ 110 ∷ 50 ∷ 49 ∷ 21 ∷ 0 ∷ 0 ∷ 0 ∷ 0 ∷ 0 ∷ 0 ∷ 0 ∷ 0 ∷ 0 ∷ 0 ∷ 0 ∷ 0 ∷ 0 ∷ 0 ∷ 0 ∷ 0 ∷ 0 ∷ 0 ∷ 0 ∷ 0 ∷ 0 ∷ 0 ∷ 0 ∷ 0 ∷ 0 ∷ 0 ∷ 0 ∷ 0 ∷ 0 ∷ 0 ∷ 0 ∷ 0 ∷ 0 ∷ 0 ∷ 0 ∷ 3 ∷ 110 ∷ 50 ∷ 50 ∷ 22 ∷ 0 ∷ 0 ∷ 0 ∷ 0 ∷ 0 ∷ 0 ∷ 0 ∷ 0 ∷ 0 ∷ 0 ∷ 0 ∷ 0 ∷ 0 ∷ 0 ∷ 0 ∷ 0 ∷ 0 ∷ 0 ∷ 0 ∷ 0 ∷ 0 ∷ 0 ∷ 0 ∷ 0 ∷ 0 ∷ 0 ∷ 0 ∷ 0 ∷ 0 ∷ 0 ∷ 0 ∷ 0 ∷ 0 ∷ 0 ∷ 0 ∷ 20 ∷ 0 ∷ 0 ∷ 0 ∷ 2 ∷ 102 ∷ 48 ∷ 0 ∷ 0 ∷ 0 ∷ 1 ∷ 97 ∷ 0 ∷ 0 ∷ 0 ∷ 1 ∷ 98 ∷ 1 ∷ 0 ∷ 0 ∷ 0 ∷ 0 ∷ 0 ∷ 0 ∷ 0 ∷ 0 ∷ 1 ∷ 0 ∷ 0 ∷ 0 ∷ 2 ∷ 102 ∷ 49 ∷ 0 ∷ 0 ∷ 0 ∷ 1 ∷ 97 ∷ 0 ∷ 0 ∷ 0 ∷ 1 ∷ 98 ∷ 1 ∷ 1 ∷ 0 ∷ 0 ∷ 0 ∷ 0 ∷ 2 ∷ 102 ∷ 50 ∷ 0 ∷ 0 ∷ 0 ∷ 1 ∷ 97 ∷ 0 ∷ 0 ∷ 0 ∷ 1 ∷ 98 ∷ 1 ∷ 2 ∷ 0 ∷ 0 ∷ 0 ∷ 1 ∷ 120 ∷ 0 ∷ 0 ∷ 0 ∷ 2 ∷ 102 ∷ 51 ∷ 0 ∷ 0 ∷ 0 ∷ 1 ∷ 97 ∷ 0 ∷ 0 ∷ 0 ∷ 1 ∷ 98 ∷ 1 ∷ 3 ∷ 0 ∷ 0 ∷ 0 ∷ 1 ∷ 110 ∷ 0 ∷ 0 ∷ 0 ∷ 2 ∷ 102 ∷ 52 ∷ 0 ∷ 0 ∷ 0 ∷ 1 ∷ 97 ∷ 0 ∷ 0 ∷ 0 ∷ 1 ∷ 98 ∷ 1 ∷ 4 ∷ 0 ∷ 0 ∷ 0 ∷ 0 ∷ 0 ∷ 0 ∷ 0 ∷ 2 ∷ 102 ∷ 53 ∷ 0 ∷ 0 ∷ 0 ∷ 1 ∷ 97 ∷ 0 ∷ 0 ∷ 0 ∷ 1 ∷ 98 ∷ 1 ∷ 4 ∷ 0 ∷ 0 ∷ 0 ∷ 2 ∷ 0 ∷ 0 ∷ 0 ∷ 0 ∷ 0 ∷ 0 ∷ 0 ∷ 0 ∷ 1 ∷ 3 ∷ 0 ∷ 0 ∷ 0 ∷ 1 ∷ 110 ∷ 0 ∷ 0 ∷ 0 ∷ 2 ∷ 102 ∷ 54 ∷ 0 ∷ 0 ∷ 0 ∷ 1 ∷ 97 ∷ 0 ∷ 0 ∷ 0 ∷ 1 ∷ 98 ∷ 1 ∷ 5 ∷ 1 ∷ 1 ∷ 0 ∷ 0 ∷ 0 ∷ 2 ∷ 102 ∷ 55 ∷ 0 ∷ 0 ∷ 0 ∷ 1 ∷ 97 ∷ 0 ∷ 0 ∷ 0 ∷ 1 ∷ 98 ∷ 1 ∷ 6 ∷ 0 ∷ 0 ∷ 0 ∷ 0 ∷ 0 ∷ 0 ∷ 0 ∷ 0 ∷ 2 ∷ 0 ∷ 0 ∷ 0 ∷ 2 ∷ 102 ∷ 56 ∷ 0 ∷ 0 ∷ 0 ∷ 1 ∷ 97 ∷ 0 ∷ 0 ∷ 0 ∷ 1 ∷ 98 ∷ 1 ∷ 7 ∷ 3 ∷ 0 ∷ 0 ∷ 0 ∷ 1 ∷ 110 ∷ 0 ∷ 0 ∷ 0 ∷ 0 ∷ 0 ∷ 0 ∷ 0 ∷ 0 ∷ 7 ∷ 0 ∷ 0 ∷ 0 ∷ 2 ∷ 102 ∷ 57 ∷ 0 ∷ 0 ∷ 0 ∷ 1 ∷ 97 ∷ 0 ∷ 0 ∷ 0 ∷ 1 ∷ 98 ∷ 1 ∷ 8 ∷ 3 ∷ 0 ∷ 0 ∷ 0 ∷ 1 ∷ 110 ∷ 0 ∷ 0 ∷ 0 ∷ 0 ∷ 0 ∷ 0 ∷ 0 ∷ 0 ∷ 8 ∷ 0 ∷ 0 ∷ 0 ∷ 3 ∷ 102 ∷ 49 ∷ 48 ∷ 0 ∷ 0 ∷ 0 ∷ 1 ∷ 97 ∷ 0 ∷ 0 ∷ 0 ∷ 1 ∷ 98 ∷ 1 ∷ 9 ∷ 3 ∷ 0 ∷ 0 ∷ 0 ∷ 1 ∷ 110 ∷ 0 ∷ 0 ∷ 0 ∷ 0 ∷ 0 ∷ 0 ∷ 0 ∷ 0 ∷ 9 ∷ 0 ∷ 0 ∷ 0 ∷ 3 ∷ 102 ∷ 49 ∷ 49 ∷ 0 ∷ 0 ∷ 0 ∷ 1 ∷ 97 ∷ 0 ∷ 0 ∷ 0 ∷ 1 ∷ 98 ∷ 1 ∷ 10 ∷ 3 ∷ 0 ∷ 0 ∷ 0 ∷ 1 ∷ 110 ∷ 0 ∷ 0 ∷ 0 ∷ 0 ∷ 0 ∷ 0 ∷ 0 ∷ 0 ∷ 10 ∷ 0 ∷ 0 ∷ 0 ∷ 3 ∷ 102 ∷ 49 ∷ 50 ∷ 0 ∷ 0 ∷ 0 ∷ 1 ∷ 97 ∷ 0 ∷ 0 ∷ 0 ∷ 1 ∷ 98 ∷ 1 ∷ 11 ∷ 3 ∷ 0 ∷ 0 ∷ 0 ∷ 1 ∷ 110 ∷ 0 ∷ 0 ∷ 0 ∷ 0 ∷ 0 ∷ 0 ∷ 0 ∷ 0 ∷ 11 ∷ 0 ∷ 0 ∷ 0 ∷ 3 ∷ 102 ∷ 49 ∷ 51 ∷ 0 ∷ 0 ∷ 0 ∷ 1 ∷ 97 ∷ 0 ∷ 0 ∷ 0 ∷ 1 ∷ 98 ∷ 1 ∷ 12 ∷ 3 ∷ 0 ∷ 0 ∷ 0 ∷ 1 ∷ 110 ∷ 0 ∷ 0 ∷ 0 ∷ 0 ∷ 0 ∷ 0 ∷ 0 ∷ 0 ∷ 12 ∷ 0 ∷ 0 ∷ 0 ∷ 3 ∷ 102 ∷ 49 ∷ 52 ∷ 0 ∷ 0 ∷ 0 ∷ 1 ∷ 97 ∷ 0 ∷ 0 ∷ 0 ∷ 1 ∷ 98 ∷ 1 ∷ 13 ∷ 3 ∷ 0 ∷ 0 ∷ 0 ∷ 1 ∷ 110 ∷ 0 ∷ 0 ∷ 0 ∷ 0 ∷ 0 ∷ 0 ∷ 0 ∷ 0 ∷ 13 ∷ 0 ∷ 0 ∷ 0 ∷ 3 ∷ 102 ∷ 49 ∷ 53 ∷ 0 ∷ 0 ∷ 0 ∷ 1 ∷ 97 ∷ 0 ∷ 0 ∷ 0 ∷ 1 ∷ 98 ∷ 1 ∷ 14 ∷ 3 ∷ 0 ∷ 0 ∷ 0 ∷ 1 ∷ 110 ∷ 0 ∷ 0 ∷ 0 ∷ 0 ∷ 0 ∷ 0 ∷ 0 ∷ 0 ∷ 14 ∷ 0 ∷ 0 ∷ 0 ∷ 3 ∷ 102 ∷ 49 ∷ 54 ∷ 0 ∷ 0 ∷ 0 ∷ 1 ∷ 97 ∷ 0 ∷ 0 ∷ 0 ∷ 1 ∷ 98 ∷ 1 ∷ 15 ∷ 3 ∷ 0 ∷ 0 ∷ 0 ∷ 1 ∷ 110 ∷ 0 ∷ 0 ∷ 0 ∷ 0 ∷ 0 ∷ 0 ∷ 0 ∷ 0 ∷ 15 ∷ 0 ∷ 0 ∷ 0 ∷ 3 ∷ 102 ∷ 49 ∷ 55 ∷ 0 ∷ 0 ∷ 0 ∷ 1 ∷ 97 ∷ 0 ∷ 0 ∷ 0 ∷ 1 ∷ 98 ∷ 1 ∷ 16 ∷ 3 ∷ 0 ∷ 0 ∷ 0 ∷ 1 ∷ 110 ∷ 0 ∷ 0 ∷ 0 ∷ 0 ∷ 0 ∷ 0 ∷ 0 ∷ 0 ∷ 16 ∷ 0 ∷ 0 ∷ 0 ∷ 3 ∷ 102 ∷ 49 ∷ 56 ∷ 0 ∷ 0 ∷ 0 ∷ 1 ∷ 97 ∷ 0 ∷ 0 ∷ 0 ∷ 1 ∷ 98 ∷ 1 ∷ 17 ∷ 3 ∷ 0 ∷ 0 ∷ 0 ∷ 1 ∷ 110 ∷ 0 ∷ 0 ∷ 0 ∷ 0 ∷ 0 ∷ 0 ∷ 0 ∷ 0 ∷ 17 ∷ 0 ∷ 0 ∷ 0 ∷ 1 ∷ 103 ∷ 0 ∷ 0 ∷ 0 ∷ 1 ∷ 98 ∷ 0 ∷ 0 ∷ 0 ∷ 1 ∷ 99 ∷ 0 ∷ []
unfolding command expression flag flow kind mapping model multi node number text fields.counted_bytes fields.number_bytes fields.signed_bytes fields.text_bytes
command_1 = refl

pub command_2 : command.spelling (commands.ProcessInstanceCreationCreate (record { process = (112 ∷ []); version = 2; variables = (record { name = (97 ∷ []); value = (values.Int (pos 7)) } ∷ []) })) ≡ 2 ∷ 0 ∷ 0 ∷ 0 ∷ 1 ∷ 112 ∷ 0 ∷ 0 ∷ 0 ∷ 2 ∷ 0 ∷ 0 ∷ 0 ∷ 1 ∷ 0 ∷ 0 ∷ 0 ∷ 1 ∷ 97 ∷ 0 ∷ 0 ∷ 0 ∷ 0 ∷ 0 ∷ 0 ∷ 0 ∷ 0 ∷ 7 ∷ []
unfolding command number process_instance_creation_create text variables variable value fields.counted_bytes fields.number_bytes fields.signed_bytes fields.text_bytes fields.value_bytes
command_2 = refl

pub command_3 : command.spelling (commands.ProcessInstanceCancel 3) ≡ 3 ∷ 0 ∷ 0 ∷ 0 ∷ 0 ∷ 0 ∷ 0 ∷ 0 ∷ 3 ∷ []
unfolding command long fields.long_bytes
command_3 = refl

pub command_4 : command.spelling (commands.VariableDocumentUpdate (record { scope = 1; local = true; variables = (record { name = (97 ∷ []); value = (values.Int (negsuc 0)) } ∷ record { name = (98 ∷ []); value = (values.Bool true) } ∷ record { name = (99 ∷ []); value = (values.Text (97 ∷ [])) } ∷ record { name = (100 ∷ []); value = (values.List ((pos 1) ∷ (negsuc 1) ∷ [])) } ∷ []) })) ≡ 4 ∷ 0 ∷ 0 ∷ 0 ∷ 0 ∷ 0 ∷ 0 ∷ 0 ∷ 1 ∷ 1 ∷ 0 ∷ 0 ∷ 0 ∷ 4 ∷ 0 ∷ 0 ∷ 0 ∷ 1 ∷ 97 ∷ 0 ∷ 255 ∷ 255 ∷ 255 ∷ 255 ∷ 255 ∷ 255 ∷ 255 ∷ 255 ∷ 0 ∷ 0 ∷ 0 ∷ 1 ∷ 98 ∷ 1 ∷ 1 ∷ 0 ∷ 0 ∷ 0 ∷ 1 ∷ 99 ∷ 2 ∷ 0 ∷ 0 ∷ 0 ∷ 1 ∷ 97 ∷ 0 ∷ 0 ∷ 0 ∷ 1 ∷ 100 ∷ 3 ∷ 0 ∷ 0 ∷ 0 ∷ 2 ∷ 0 ∷ 0 ∷ 0 ∷ 0 ∷ 0 ∷ 0 ∷ 0 ∷ 1 ∷ 255 ∷ 255 ∷ 255 ∷ 255 ∷ 255 ∷ 255 ∷ 255 ∷ 254 ∷ []
unfolding command flag long variable_document_update variables variable text value fields.counted_bytes fields.long_bytes fields.number_bytes fields.signed_bytes fields.text_bytes fields.value_bytes
command_4 = refl

pub command_5 : command.spelling (commands.JobBatchActivate (record { kind = (107 ∷ []); worker = (119 ∷ []); timeout = 1000; most = 4 })) ≡ 5 ∷ 0 ∷ 0 ∷ 0 ∷ 1 ∷ 107 ∷ 0 ∷ 0 ∷ 0 ∷ 1 ∷ 119 ∷ 0 ∷ 0 ∷ 0 ∷ 0 ∷ 0 ∷ 0 ∷ 3 ∷ 232 ∷ 0 ∷ 0 ∷ 0 ∷ 4 ∷ []
unfolding command job_batch_activate long number text fields.long_bytes fields.number_bytes fields.text_bytes
command_5 = refl

pub command_6 : command.spelling (commands.JobComplete (record { key = 1; variables = (record { name = (97 ∷ []); value = (values.Int (pos 7)) } ∷ []) })) ≡ 6 ∷ 0 ∷ 0 ∷ 0 ∷ 0 ∷ 0 ∷ 0 ∷ 0 ∷ 1 ∷ 0 ∷ 0 ∷ 0 ∷ 1 ∷ 0 ∷ 0 ∷ 0 ∷ 1 ∷ 97 ∷ 0 ∷ 0 ∷ 0 ∷ 0 ∷ 0 ∷ 0 ∷ 0 ∷ 0 ∷ 7 ∷ []
unfolding command job_complete long variables variable text value fields.counted_bytes fields.long_bytes fields.number_bytes fields.signed_bytes fields.text_bytes fields.value_bytes
command_6 = refl

pub command_7 : command.spelling (commands.JobFail (record { key = 1; retries = 2; text = (116 ∷ []) })) ≡ 7 ∷ 0 ∷ 0 ∷ 0 ∷ 0 ∷ 0 ∷ 0 ∷ 0 ∷ 1 ∷ 0 ∷ 0 ∷ 0 ∷ 2 ∷ 0 ∷ 0 ∷ 0 ∷ 1 ∷ 116 ∷ []
unfolding command job_failure long number text fields.long_bytes fields.number_bytes fields.text_bytes
command_7 = refl

pub command_8 : command.spelling (commands.JobThrowError (record { key = 1; code = (99 ∷ []) })) ≡ 8 ∷ 0 ∷ 0 ∷ 0 ∷ 0 ∷ 0 ∷ 0 ∷ 0 ∷ 1 ∷ 0 ∷ 0 ∷ 0 ∷ 1 ∷ 99 ∷ []
unfolding command job_error long text fields.long_bytes fields.number_bytes fields.text_bytes
command_8 = refl

pub command_9 : command.spelling (commands.JobUpdateRetries (record { key = 1; retries = 2 })) ≡ 9 ∷ 0 ∷ 0 ∷ 0 ∷ 0 ∷ 0 ∷ 0 ∷ 0 ∷ 1 ∷ 0 ∷ 0 ∷ 0 ∷ 2 ∷ []
unfolding command job_retries long number fields.long_bytes fields.number_bytes
command_9 = refl

pub command_10 : command.spelling (commands.JobTimeOut 10) ≡ 10 ∷ 0 ∷ 0 ∷ 0 ∷ 0 ∷ 0 ∷ 0 ∷ 0 ∷ 10 ∷ []
unfolding command long fields.long_bytes
command_10 = refl

pub command_11 : command.spelling (commands.IncidentResolve 11) ≡ 11 ∷ 0 ∷ 0 ∷ 0 ∷ 0 ∷ 0 ∷ 0 ∷ 0 ∷ 11 ∷ []
unfolding command long fields.long_bytes
command_11 = refl

pub command_12 : command.spelling (commands.MessagePublish (record { name = (110 ∷ []); correlation_key = (99 ∷ []); time_to_live = 1000; id = (105 ∷ []); variables = (record { name = (97 ∷ []); value = (values.Int (pos 7)) } ∷ []) })) ≡ 12 ∷ 0 ∷ 0 ∷ 0 ∷ 1 ∷ 110 ∷ 0 ∷ 0 ∷ 0 ∷ 1 ∷ 99 ∷ 0 ∷ 0 ∷ 0 ∷ 0 ∷ 0 ∷ 0 ∷ 3 ∷ 232 ∷ 0 ∷ 0 ∷ 0 ∷ 1 ∷ 105 ∷ 0 ∷ 0 ∷ 0 ∷ 1 ∷ 0 ∷ 0 ∷ 0 ∷ 1 ∷ 97 ∷ 0 ∷ 0 ∷ 0 ∷ 0 ∷ 0 ∷ 0 ∷ 0 ∷ 0 ∷ 7 ∷ []
unfolding command long message_publish text variables variable value fields.counted_bytes fields.long_bytes fields.number_bytes fields.signed_bytes fields.text_bytes fields.value_bytes
command_12 = refl

pub command_13 : command.spelling (commands.MessageExpire 13) ≡ 13 ∷ 0 ∷ 0 ∷ 0 ∷ 0 ∷ 0 ∷ 0 ∷ 0 ∷ 13 ∷ []
unfolding command long fields.long_bytes
command_13 = refl

pub command_14 : command.spelling (commands.TimerTrigger 14) ≡ 14 ∷ 0 ∷ 0 ∷ 0 ∷ 0 ∷ 0 ∷ 0 ∷ 0 ∷ 14 ∷ []
unfolding command long fields.long_bytes
command_14 = refl

pub command_15 : command.spelling (commands.ProcessInstanceMigrationMigrate (record { key = 1; definition = 2; pairs = ((record { from = (97 ∷ []); to = (98 ∷ []) }) ∷ []) })) ≡ 15 ∷ 0 ∷ 0 ∷ 0 ∷ 0 ∷ 0 ∷ 0 ∷ 0 ∷ 1 ∷ 0 ∷ 0 ∷ 0 ∷ 0 ∷ 0 ∷ 0 ∷ 0 ∷ 2 ∷ 0 ∷ 0 ∷ 0 ∷ 1 ∷ 0 ∷ 0 ∷ 0 ∷ 1 ∷ 97 ∷ 0 ∷ 0 ∷ 0 ∷ 1 ∷ 98 ∷ []
unfolding command long pair process_instance_migration text fields.counted_bytes fields.long_bytes fields.number_bytes fields.text_bytes
command_15 = refl

pub command_16 : command.spelling (commands.ProcessInstanceBatchContinue) ≡ 16 ∷ []
unfolding command
command_16 = refl

pub command_17 : command.spelling (commands.DeploymentDistribute (record { key = 1; version = 2; model = record { process = (112 ∷ []); tag = []; nodes = ((record { id = (115 ∷ []); kind = kinds.StartEvent; parent = []; attached = []; cancel = false; otherwise = []; name = []; expr = None; retries = 0; handler = false; multi = None; inputs = []; outputs = [] }) ∷ (record { id = (101 ∷ []); kind = kinds.EndEvent; parent = []; attached = []; cancel = false; otherwise = []; name = []; expr = None; retries = 0; handler = false; multi = None; inputs = []; outputs = [] }) ∷ []); flows = ((record { id = (102 ∷ []); from = (115 ∷ []); to = (101 ∷ []); condition = None }) ∷ []) } })) ≡ 17 ∷ 0 ∷ 0 ∷ 0 ∷ 0 ∷ 0 ∷ 0 ∷ 0 ∷ 1 ∷ 0 ∷ 0 ∷ 0 ∷ 2 ∷ 0 ∷ 0 ∷ 0 ∷ 1 ∷ 112 ∷ 0 ∷ 0 ∷ 0 ∷ 0 ∷ 0 ∷ 0 ∷ 0 ∷ 2 ∷ 0 ∷ 0 ∷ 0 ∷ 1 ∷ 115 ∷ 2 ∷ 0 ∷ 0 ∷ 0 ∷ 0 ∷ 0 ∷ 0 ∷ 0 ∷ 0 ∷ 0 ∷ 0 ∷ 0 ∷ 0 ∷ 0 ∷ 0 ∷ 0 ∷ 0 ∷ 0 ∷ 0 ∷ 0 ∷ 0 ∷ 0 ∷ 0 ∷ 0 ∷ 0 ∷ 0 ∷ 0 ∷ 0 ∷ 0 ∷ 0 ∷ 0 ∷ 0 ∷ 0 ∷ 0 ∷ 0 ∷ 0 ∷ 1 ∷ 101 ∷ 4 ∷ 0 ∷ 0 ∷ 0 ∷ 0 ∷ 0 ∷ 0 ∷ 0 ∷ 0 ∷ 0 ∷ 0 ∷ 0 ∷ 0 ∷ 0 ∷ 0 ∷ 0 ∷ 0 ∷ 0 ∷ 0 ∷ 0 ∷ 0 ∷ 0 ∷ 0 ∷ 0 ∷ 0 ∷ 0 ∷ 0 ∷ 0 ∷ 0 ∷ 0 ∷ 0 ∷ 0 ∷ 0 ∷ 0 ∷ 0 ∷ 0 ∷ 1 ∷ 0 ∷ 0 ∷ 0 ∷ 1 ∷ 102 ∷ 0 ∷ 0 ∷ 0 ∷ 1 ∷ 115 ∷ 0 ∷ 0 ∷ 0 ∷ 1 ∷ 101 ∷ 0 ∷ []
unfolding command process_definition expression flag flow kind long mapping model multi node number text fields.counted_bytes fields.long_bytes fields.number_bytes fields.signed_bytes fields.text_bytes
command_17 = refl

pub command_18 : command.spelling (commands.CommandDistributionAcknowledge (record { key = 1; partition = 2 })) ≡ 18 ∷ 0 ∷ 0 ∷ 0 ∷ 0 ∷ 0 ∷ 0 ∷ 0 ∷ 1 ∷ 0 ∷ 0 ∷ 0 ∷ 2 ∷ []
unfolding command command_distribution long number fields.long_bytes fields.number_bytes
command_18 = refl

pub command_19 : command.spelling (commands.MessageSubscriptionCreate (record { subscription = 1; name = (110 ∷ []); correlation_key = (99 ∷ []); process = (112 ∷ []); cancel = true })) ≡ 19 ∷ 0 ∷ 0 ∷ 0 ∷ 0 ∷ 0 ∷ 0 ∷ 0 ∷ 1 ∷ 0 ∷ 0 ∷ 0 ∷ 1 ∷ 110 ∷ 0 ∷ 0 ∷ 0 ∷ 1 ∷ 99 ∷ 0 ∷ 0 ∷ 0 ∷ 1 ∷ 112 ∷ 1 ∷ []
unfolding command flag long message_subscription text fields.long_bytes fields.number_bytes fields.text_bytes
command_19 = refl

pub command_20 : command.spelling (commands.ProcessMessageSubscriptionCreate 20) ≡ 20 ∷ 0 ∷ 0 ∷ 0 ∷ 0 ∷ 0 ∷ 0 ∷ 0 ∷ 20 ∷ []
unfolding command long fields.long_bytes
command_20 = refl

pub command_21 : command.spelling (commands.ProcessMessageSubscriptionCorrelate (record { subscription = 1; message = 2; variables = (record { name = (97 ∷ []); value = (values.Int (pos 7)) } ∷ []) })) ≡ 21 ∷ 0 ∷ 0 ∷ 0 ∷ 0 ∷ 0 ∷ 0 ∷ 0 ∷ 1 ∷ 0 ∷ 0 ∷ 0 ∷ 0 ∷ 0 ∷ 0 ∷ 0 ∷ 2 ∷ 0 ∷ 0 ∷ 0 ∷ 1 ∷ 0 ∷ 0 ∷ 0 ∷ 1 ∷ 97 ∷ 0 ∷ 0 ∷ 0 ∷ 0 ∷ 0 ∷ 0 ∷ 0 ∷ 0 ∷ 7 ∷ []
unfolding command long message_correlation variables variable text value fields.counted_bytes fields.long_bytes fields.number_bytes fields.signed_bytes fields.text_bytes fields.value_bytes
command_21 = refl

pub command_22 : command.spelling (commands.MessageSubscriptionCorrelate (record { subscription = 1; message = 2 })) ≡ 22 ∷ 0 ∷ 0 ∷ 0 ∷ 0 ∷ 0 ∷ 0 ∷ 0 ∷ 1 ∷ 0 ∷ 0 ∷ 0 ∷ 0 ∷ 0 ∷ 0 ∷ 0 ∷ 2 ∷ []
unfolding command long subscribed_message fields.long_bytes
command_22 = refl

pub command_23 : command.spelling (commands.MessageSubscriptionReject (record { subscription = 1; message = 2 })) ≡ 23 ∷ 0 ∷ 0 ∷ 0 ∷ 0 ∷ 0 ∷ 0 ∷ 0 ∷ 1 ∷ 0 ∷ 0 ∷ 0 ∷ 0 ∷ 0 ∷ 0 ∷ 0 ∷ 2 ∷ []
unfolding command long subscribed_message fields.long_bytes
command_23 = refl

pub command_24 : command.spelling (commands.MessageSubscriptionDelete (record { subscription = 1; keys = (5 ∷ 6 ∷ []) })) ≡ 24 ∷ 0 ∷ 0 ∷ 0 ∷ 0 ∷ 0 ∷ 0 ∷ 0 ∷ 1 ∷ 0 ∷ 0 ∷ 0 ∷ 2 ∷ 0 ∷ 0 ∷ 0 ∷ 0 ∷ 0 ∷ 0 ∷ 0 ∷ 5 ∷ 0 ∷ 0 ∷ 0 ∷ 0 ∷ 0 ∷ 0 ∷ 0 ∷ 6 ∷ []
unfolding command long message_subscription_delete fields.counted_bytes fields.long_bytes fields.number_bytes
command_24 = refl

pub command_25 : command.spelling (commands.ProcessMessageSubscriptionDelete 25) ≡ 25 ∷ 0 ∷ 0 ∷ 0 ∷ 0 ∷ 0 ∷ 0 ∷ 0 ∷ 25 ∷ []
unfolding command long fields.long_bytes
command_25 = refl

pub event_1 : event.spelling (events.ProcessCreated (record { key = 1; version = 2; model = record { process = (112 ∷ []); tag = []; nodes = ((record { id = (115 ∷ []); kind = kinds.StartEvent; parent = []; attached = []; cancel = false; otherwise = []; name = []; expr = None; retries = 0; handler = false; multi = None; inputs = []; outputs = [] }) ∷ (record { id = (101 ∷ []); kind = kinds.EndEvent; parent = []; attached = []; cancel = false; otherwise = []; name = []; expr = None; retries = 0; handler = false; multi = None; inputs = []; outputs = [] }) ∷ []); flows = ((record { id = (102 ∷ []); from = (115 ∷ []); to = (101 ∷ []); condition = None }) ∷ []) } })) ≡ 1 ∷ 0 ∷ 0 ∷ 0 ∷ 0 ∷ 0 ∷ 0 ∷ 0 ∷ 1 ∷ 0 ∷ 0 ∷ 0 ∷ 2 ∷ 0 ∷ 0 ∷ 0 ∷ 1 ∷ 112 ∷ 0 ∷ 0 ∷ 0 ∷ 0 ∷ 0 ∷ 0 ∷ 0 ∷ 2 ∷ 0 ∷ 0 ∷ 0 ∷ 1 ∷ 115 ∷ 2 ∷ 0 ∷ 0 ∷ 0 ∷ 0 ∷ 0 ∷ 0 ∷ 0 ∷ 0 ∷ 0 ∷ 0 ∷ 0 ∷ 0 ∷ 0 ∷ 0 ∷ 0 ∷ 0 ∷ 0 ∷ 0 ∷ 0 ∷ 0 ∷ 0 ∷ 0 ∷ 0 ∷ 0 ∷ 0 ∷ 0 ∷ 0 ∷ 0 ∷ 0 ∷ 0 ∷ 0 ∷ 0 ∷ 0 ∷ 0 ∷ 0 ∷ 1 ∷ 101 ∷ 4 ∷ 0 ∷ 0 ∷ 0 ∷ 0 ∷ 0 ∷ 0 ∷ 0 ∷ 0 ∷ 0 ∷ 0 ∷ 0 ∷ 0 ∷ 0 ∷ 0 ∷ 0 ∷ 0 ∷ 0 ∷ 0 ∷ 0 ∷ 0 ∷ 0 ∷ 0 ∷ 0 ∷ 0 ∷ 0 ∷ 0 ∷ 0 ∷ 0 ∷ 0 ∷ 0 ∷ 0 ∷ 0 ∷ 0 ∷ 0 ∷ 0 ∷ 1 ∷ 0 ∷ 0 ∷ 0 ∷ 1 ∷ 102 ∷ 0 ∷ 0 ∷ 0 ∷ 1 ∷ 115 ∷ 0 ∷ 0 ∷ 0 ∷ 1 ∷ 101 ∷ 0 ∷ []
unfolding event expression flag flow kind long mapping model multi node number process_definition text fields.counted_bytes fields.long_bytes fields.number_bytes fields.signed_bytes fields.text_bytes
event_1 = refl

pub event_2 : event.spelling (events.DeploymentCreated (record { key = 1; definition = 2 })) ≡ 2 ∷ 0 ∷ 0 ∷ 0 ∷ 0 ∷ 0 ∷ 0 ∷ 0 ∷ 1 ∷ 0 ∷ 0 ∷ 0 ∷ 0 ∷ 0 ∷ 0 ∷ 0 ∷ 2 ∷ []
unfolding event definition_link long fields.long_bytes
event_2 = refl

pub event_3 : event.spelling (events.CommandDistributionDistributing (record { key = 1; partition = 2 })) ≡ 3 ∷ 0 ∷ 0 ∷ 0 ∷ 0 ∷ 0 ∷ 0 ∷ 0 ∷ 1 ∷ 0 ∷ 0 ∷ 0 ∷ 2 ∷ []
unfolding event command_distribution long number fields.long_bytes fields.number_bytes
event_3 = refl

pub event_4 : event.spelling (events.CommandDistributionAcknowledged (record { key = 1; partition = 2 })) ≡ 4 ∷ 0 ∷ 0 ∷ 0 ∷ 0 ∷ 0 ∷ 0 ∷ 0 ∷ 1 ∷ 0 ∷ 0 ∷ 0 ∷ 2 ∷ []
unfolding event command_distribution long number fields.long_bytes fields.number_bytes
event_4 = refl

pub event_5 : event.spelling (events.CommandDistributionFinished 5) ≡ 5 ∷ 0 ∷ 0 ∷ 0 ∷ 0 ∷ 0 ∷ 0 ∷ 0 ∷ 5 ∷ []
unfolding event long fields.long_bytes
event_5 = refl

pub event_6 : event.spelling (events.ProcessInstanceCreationCreated (record { key = 1; definition = 2 })) ≡ 6 ∷ 0 ∷ 0 ∷ 0 ∷ 0 ∷ 0 ∷ 0 ∷ 0 ∷ 1 ∷ 0 ∷ 0 ∷ 0 ∷ 0 ∷ 0 ∷ 0 ∷ 0 ∷ 2 ∷ []
unfolding event long definition_link fields.long_bytes
event_6 = refl

pub event_7 : event.spelling (events.ElementActivating (record { key = 1; scope = 2; definition = 3; node = (110 ∷ []); role = roles.Inner; via = (118 ∷ []); started = (115 ∷ []) })) ≡ 7 ∷ 0 ∷ 0 ∷ 0 ∷ 0 ∷ 0 ∷ 0 ∷ 0 ∷ 1 ∷ 0 ∷ 0 ∷ 0 ∷ 0 ∷ 0 ∷ 0 ∷ 0 ∷ 2 ∷ 0 ∷ 0 ∷ 0 ∷ 0 ∷ 0 ∷ 0 ∷ 0 ∷ 3 ∷ 0 ∷ 0 ∷ 0 ∷ 1 ∷ 110 ∷ 2 ∷ 0 ∷ 0 ∷ 0 ∷ 1 ∷ 118 ∷ 0 ∷ 0 ∷ 0 ∷ 1 ∷ 115 ∷ []
unfolding event element_activating long role text fields.long_bytes fields.number_bytes fields.text_bytes
event_7 = refl

pub event_8 : event.spelling (events.ElementActivated (record { key = 1; items = ((pos 3) ∷ (pos 1) ∷ []) })) ≡ 8 ∷ 0 ∷ 0 ∷ 0 ∷ 0 ∷ 0 ∷ 0 ∷ 0 ∷ 1 ∷ 0 ∷ 0 ∷ 0 ∷ 2 ∷ 0 ∷ 0 ∷ 0 ∷ 0 ∷ 0 ∷ 0 ∷ 0 ∷ 3 ∷ 0 ∷ 0 ∷ 0 ∷ 0 ∷ 0 ∷ 0 ∷ 0 ∷ 1 ∷ []
unfolding event element_activated long signed fields.counted_bytes fields.long_bytes fields.number_bytes fields.signed_bytes
event_8 = refl

pub event_9 : event.spelling (events.ElementCompleting 9) ≡ 9 ∷ 0 ∷ 0 ∷ 0 ∷ 0 ∷ 0 ∷ 0 ∷ 0 ∷ 9 ∷ []
unfolding event long fields.long_bytes
event_9 = refl

pub event_10 : event.spelling (events.ElementCompleted (record { key = 1; owed = ((102 ∷ []) ∷ (103 ∷ []) ∷ []) })) ≡ 10 ∷ 0 ∷ 0 ∷ 0 ∷ 0 ∷ 0 ∷ 0 ∷ 0 ∷ 1 ∷ 0 ∷ 0 ∷ 0 ∷ 2 ∷ 0 ∷ 0 ∷ 0 ∷ 1 ∷ 102 ∷ 0 ∷ 0 ∷ 0 ∷ 1 ∷ 103 ∷ []
unfolding event element_completed long text fields.counted_bytes fields.long_bytes fields.number_bytes fields.text_bytes
event_10 = refl

pub event_11 : event.spelling (events.ElementTerminating 11) ≡ 11 ∷ 0 ∷ 0 ∷ 0 ∷ 0 ∷ 0 ∷ 0 ∷ 0 ∷ 11 ∷ []
unfolding event long fields.long_bytes
event_11 = refl

pub event_12 : event.spelling (events.ElementTerminated 12) ≡ 12 ∷ 0 ∷ 0 ∷ 0 ∷ 0 ∷ 0 ∷ 0 ∷ 0 ∷ 12 ∷ []
unfolding event long fields.long_bytes
event_12 = refl

pub event_13 : event.spelling (events.SequenceFlowTaken (record { key = 1; flow = (102 ∷ []) })) ≡ 13 ∷ 0 ∷ 0 ∷ 0 ∷ 0 ∷ 0 ∷ 0 ∷ 0 ∷ 1 ∷ 0 ∷ 0 ∷ 0 ∷ 1 ∷ 102 ∷ []
unfolding event long sequence_flow_taken text fields.long_bytes fields.number_bytes fields.text_bytes
event_13 = refl

pub event_14 : event.spelling (events.ElementMigrated (record { key = 1; node = (110 ∷ []) })) ≡ 14 ∷ 0 ∷ 0 ∷ 0 ∷ 0 ∷ 0 ∷ 0 ∷ 0 ∷ 1 ∷ 0 ∷ 0 ∷ 0 ∷ 1 ∷ 110 ∷ []
unfolding event element_migrated long text fields.long_bytes fields.number_bytes fields.text_bytes
event_14 = refl

pub event_15 : event.spelling (events.ProcessInstanceMigrationMigrated (record { key = 1; definition = 2; pairs = ((record { from = (97 ∷ []); to = (98 ∷ []) }) ∷ []) })) ≡ 15 ∷ 0 ∷ 0 ∷ 0 ∷ 0 ∷ 0 ∷ 0 ∷ 0 ∷ 1 ∷ 0 ∷ 0 ∷ 0 ∷ 0 ∷ 0 ∷ 0 ∷ 0 ∷ 2 ∷ 0 ∷ 0 ∷ 0 ∷ 1 ∷ 0 ∷ 0 ∷ 0 ∷ 1 ∷ 97 ∷ 0 ∷ 0 ∷ 0 ∷ 1 ∷ 98 ∷ []
unfolding event long pair process_instance_migration text fields.counted_bytes fields.long_bytes fields.number_bytes fields.text_bytes
event_15 = refl

pub event_16 : event.spelling (events.JobCreated (record { key = 1; cell = 2; kind = (107 ∷ []); retries = 4 })) ≡ 16 ∷ 0 ∷ 0 ∷ 0 ∷ 0 ∷ 0 ∷ 0 ∷ 0 ∷ 1 ∷ 0 ∷ 0 ∷ 0 ∷ 0 ∷ 0 ∷ 0 ∷ 0 ∷ 2 ∷ 0 ∷ 0 ∷ 0 ∷ 1 ∷ 107 ∷ 0 ∷ 0 ∷ 0 ∷ 4 ∷ []
unfolding event job_created long number text fields.long_bytes fields.number_bytes fields.text_bytes
event_16 = refl

pub event_17 : event.spelling (events.JobActivated (record { key = 1; worker = (119 ∷ []); deadline = 3; instance = 4; node = (110 ∷ []); kind = (107 ∷ []); retries = 7; variables = (record { name = (97 ∷ []); value = (values.Int (pos 7)) } ∷ []) })) ≡ 17 ∷ 0 ∷ 0 ∷ 0 ∷ 0 ∷ 0 ∷ 0 ∷ 0 ∷ 1 ∷ 0 ∷ 0 ∷ 0 ∷ 1 ∷ 119 ∷ 0 ∷ 0 ∷ 0 ∷ 0 ∷ 0 ∷ 0 ∷ 0 ∷ 3 ∷ 0 ∷ 0 ∷ 0 ∷ 0 ∷ 0 ∷ 0 ∷ 0 ∷ 4 ∷ 0 ∷ 0 ∷ 0 ∷ 1 ∷ 110 ∷ 0 ∷ 0 ∷ 0 ∷ 1 ∷ 107 ∷ 0 ∷ 0 ∷ 0 ∷ 7 ∷ 0 ∷ 0 ∷ 0 ∷ 1 ∷ 0 ∷ 0 ∷ 0 ∷ 1 ∷ 97 ∷ 0 ∷ 0 ∷ 0 ∷ 0 ∷ 0 ∷ 0 ∷ 0 ∷ 0 ∷ 7 ∷ []
unfolding event job_activated long number text variables variable value fields.counted_bytes fields.long_bytes fields.number_bytes fields.signed_bytes fields.text_bytes fields.value_bytes
event_17 = refl

pub event_18 : event.spelling (events.JobTimedOut 18) ≡ 18 ∷ 0 ∷ 0 ∷ 0 ∷ 0 ∷ 0 ∷ 0 ∷ 0 ∷ 18 ∷ []
unfolding event long fields.long_bytes
event_18 = refl

pub event_19 : event.spelling (events.JobCompleted 19) ≡ 19 ∷ 0 ∷ 0 ∷ 0 ∷ 0 ∷ 0 ∷ 0 ∷ 0 ∷ 19 ∷ []
unfolding event long fields.long_bytes
event_19 = refl

pub event_20 : event.spelling (events.JobCanceled 20) ≡ 20 ∷ 0 ∷ 0 ∷ 0 ∷ 0 ∷ 0 ∷ 0 ∷ 0 ∷ 20 ∷ []
unfolding event long fields.long_bytes
event_20 = refl

pub event_21 : event.spelling (events.JobFailed (record { key = 1; retries = 2; text = (116 ∷ []) })) ≡ 21 ∷ 0 ∷ 0 ∷ 0 ∷ 0 ∷ 0 ∷ 0 ∷ 0 ∷ 1 ∷ 0 ∷ 0 ∷ 0 ∷ 2 ∷ 0 ∷ 0 ∷ 0 ∷ 1 ∷ 116 ∷ []
unfolding event job_failure long number text fields.long_bytes fields.number_bytes fields.text_bytes
event_21 = refl

pub event_22 : event.spelling (events.JobErrorThrown (record { key = 1; code = (99 ∷ []) })) ≡ 22 ∷ 0 ∷ 0 ∷ 0 ∷ 0 ∷ 0 ∷ 0 ∷ 0 ∷ 1 ∷ 0 ∷ 0 ∷ 0 ∷ 1 ∷ 99 ∷ []
unfolding event job_error long text fields.long_bytes fields.number_bytes fields.text_bytes
event_22 = refl

pub event_23 : event.spelling (events.JobRetriesUpdated (record { key = 1; retries = 2 })) ≡ 23 ∷ 0 ∷ 0 ∷ 0 ∷ 0 ∷ 0 ∷ 0 ∷ 0 ∷ 1 ∷ 0 ∷ 0 ∷ 0 ∷ 2 ∷ []
unfolding event job_retries long number fields.long_bytes fields.number_bytes
event_23 = refl

pub event_24 : event.spelling (events.JobBatchActivated (record { key = 1; jobs = (5 ∷ 6 ∷ []) })) ≡ 24 ∷ 0 ∷ 0 ∷ 0 ∷ 0 ∷ 0 ∷ 0 ∷ 0 ∷ 1 ∷ 0 ∷ 0 ∷ 0 ∷ 2 ∷ 0 ∷ 0 ∷ 0 ∷ 0 ∷ 0 ∷ 0 ∷ 0 ∷ 5 ∷ 0 ∷ 0 ∷ 0 ∷ 0 ∷ 0 ∷ 0 ∷ 0 ∷ 6 ∷ []
unfolding event job_batch_activated long fields.counted_bytes fields.long_bytes fields.number_bytes
event_24 = refl

pub event_25 : event.spelling (events.TimerCreated (record { key = 1; cell = 2; node = (110 ∷ []); due = 4 })) ≡ 25 ∷ 0 ∷ 0 ∷ 0 ∷ 0 ∷ 0 ∷ 0 ∷ 0 ∷ 1 ∷ 0 ∷ 0 ∷ 0 ∷ 0 ∷ 0 ∷ 0 ∷ 0 ∷ 2 ∷ 0 ∷ 0 ∷ 0 ∷ 1 ∷ 110 ∷ 0 ∷ 0 ∷ 0 ∷ 0 ∷ 0 ∷ 0 ∷ 0 ∷ 4 ∷ []
unfolding event long text timer_created fields.long_bytes fields.number_bytes fields.text_bytes
event_25 = refl

pub event_26 : event.spelling (events.TimerTriggered 26) ≡ 26 ∷ 0 ∷ 0 ∷ 0 ∷ 0 ∷ 0 ∷ 0 ∷ 0 ∷ 26 ∷ []
unfolding event long fields.long_bytes
event_26 = refl

pub event_27 : event.spelling (events.TimerCanceled 27) ≡ 27 ∷ 0 ∷ 0 ∷ 0 ∷ 0 ∷ 0 ∷ 0 ∷ 0 ∷ 27 ∷ []
unfolding event long fields.long_bytes
event_27 = refl

pub event_28 : event.spelling (events.ProcessEventTriggered (record { cell = 1; node = (110 ∷ []) })) ≡ 28 ∷ 0 ∷ 0 ∷ 0 ∷ 0 ∷ 0 ∷ 0 ∷ 0 ∷ 1 ∷ 0 ∷ 0 ∷ 0 ∷ 1 ∷ 110 ∷ []
unfolding event long process_event_triggered text fields.long_bytes fields.number_bytes fields.text_bytes
event_28 = refl

pub event_29 : event.spelling (events.MessagePublished (record { key = 1; name = (110 ∷ []); correlation_key = (99 ∷ []); id = (105 ∷ []); deadline = 5; variables = (record { name = (97 ∷ []); value = (values.Int (pos 7)) } ∷ []) })) ≡ 29 ∷ 0 ∷ 0 ∷ 0 ∷ 0 ∷ 0 ∷ 0 ∷ 0 ∷ 1 ∷ 0 ∷ 0 ∷ 0 ∷ 1 ∷ 110 ∷ 0 ∷ 0 ∷ 0 ∷ 1 ∷ 99 ∷ 0 ∷ 0 ∷ 0 ∷ 1 ∷ 105 ∷ 0 ∷ 0 ∷ 0 ∷ 0 ∷ 0 ∷ 0 ∷ 0 ∷ 5 ∷ 0 ∷ 0 ∷ 0 ∷ 1 ∷ 0 ∷ 0 ∷ 0 ∷ 1 ∷ 97 ∷ 0 ∷ 0 ∷ 0 ∷ 0 ∷ 0 ∷ 0 ∷ 0 ∷ 0 ∷ 7 ∷ []
unfolding event long message_published text variables variable value fields.counted_bytes fields.long_bytes fields.number_bytes fields.signed_bytes fields.text_bytes fields.value_bytes
event_29 = refl

pub event_30 : event.spelling (events.MessageExpired 30) ≡ 30 ∷ 0 ∷ 0 ∷ 0 ∷ 0 ∷ 0 ∷ 0 ∷ 0 ∷ 30 ∷ []
unfolding event long fields.long_bytes
event_30 = refl

pub event_31 : event.spelling (events.MessageStartEventSubscriptionCorrelated (record { message = 1; definition = 2; instance = 3 })) ≡ 31 ∷ 0 ∷ 0 ∷ 0 ∷ 0 ∷ 0 ∷ 0 ∷ 0 ∷ 1 ∷ 0 ∷ 0 ∷ 0 ∷ 0 ∷ 0 ∷ 0 ∷ 0 ∷ 2 ∷ 0 ∷ 0 ∷ 0 ∷ 0 ∷ 0 ∷ 0 ∷ 0 ∷ 3 ∷ []
unfolding event long message_start_event_subscription_correlated fields.long_bytes
event_31 = refl

pub event_32 : event.spelling (events.MessageSubscriptionCreated (record { subscription = 1; name = (110 ∷ []); correlation_key = (99 ∷ []); process = (112 ∷ []); cancel = true })) ≡ 32 ∷ 0 ∷ 0 ∷ 0 ∷ 0 ∷ 0 ∷ 0 ∷ 0 ∷ 1 ∷ 0 ∷ 0 ∷ 0 ∷ 1 ∷ 110 ∷ 0 ∷ 0 ∷ 0 ∷ 1 ∷ 99 ∷ 0 ∷ 0 ∷ 0 ∷ 1 ∷ 112 ∷ 1 ∷ []
unfolding event flag long message_subscription text fields.long_bytes fields.number_bytes fields.text_bytes
event_32 = refl

pub event_33 : event.spelling (events.MessageSubscriptionCorrelating (record { subscription = 1; message = 2; variables = (record { name = (97 ∷ []); value = (values.Int (pos 7)) } ∷ []) })) ≡ 33 ∷ 0 ∷ 0 ∷ 0 ∷ 0 ∷ 0 ∷ 0 ∷ 0 ∷ 1 ∷ 0 ∷ 0 ∷ 0 ∷ 0 ∷ 0 ∷ 0 ∷ 0 ∷ 2 ∷ 0 ∷ 0 ∷ 0 ∷ 1 ∷ 0 ∷ 0 ∷ 0 ∷ 1 ∷ 97 ∷ 0 ∷ 0 ∷ 0 ∷ 0 ∷ 0 ∷ 0 ∷ 0 ∷ 0 ∷ 7 ∷ []
unfolding event long message_correlation variables variable text value fields.counted_bytes fields.long_bytes fields.number_bytes fields.signed_bytes fields.text_bytes fields.value_bytes
event_33 = refl

pub event_34 : event.spelling (events.MessageSubscriptionCorrelated (record { subscription = 1; message = 2 })) ≡ 34 ∷ 0 ∷ 0 ∷ 0 ∷ 0 ∷ 0 ∷ 0 ∷ 0 ∷ 1 ∷ 0 ∷ 0 ∷ 0 ∷ 0 ∷ 0 ∷ 0 ∷ 0 ∷ 2 ∷ []
unfolding event long subscribed_message fields.long_bytes
event_34 = refl

pub event_35 : event.spelling (events.MessageSubscriptionRejected (record { subscription = 1; message = 2 })) ≡ 35 ∷ 0 ∷ 0 ∷ 0 ∷ 0 ∷ 0 ∷ 0 ∷ 0 ∷ 1 ∷ 0 ∷ 0 ∷ 0 ∷ 0 ∷ 0 ∷ 0 ∷ 0 ∷ 2 ∷ []
unfolding event long subscribed_message fields.long_bytes
event_35 = refl

pub event_36 : event.spelling (events.MessageSubscriptionDeleted 36) ≡ 36 ∷ 0 ∷ 0 ∷ 0 ∷ 0 ∷ 0 ∷ 0 ∷ 0 ∷ 36 ∷ []
unfolding event long fields.long_bytes
event_36 = refl

pub event_37 : event.spelling (events.ProcessMessageSubscriptionCreating (record { subscription = 1; cell = 2; node = (110 ∷ []); name = (110 ∷ []); correlation_key = (99 ∷ []); process = (112 ∷ []); cancel = true })) ≡ 37 ∷ 0 ∷ 0 ∷ 0 ∷ 0 ∷ 0 ∷ 0 ∷ 0 ∷ 1 ∷ 0 ∷ 0 ∷ 0 ∷ 0 ∷ 0 ∷ 0 ∷ 0 ∷ 2 ∷ 0 ∷ 0 ∷ 0 ∷ 1 ∷ 110 ∷ 0 ∷ 0 ∷ 0 ∷ 1 ∷ 110 ∷ 0 ∷ 0 ∷ 0 ∷ 1 ∷ 99 ∷ 0 ∷ 0 ∷ 0 ∷ 1 ∷ 112 ∷ 1 ∷ []
unfolding event flag long process_message_subscription_creating text fields.long_bytes fields.number_bytes fields.text_bytes
event_37 = refl

pub event_38 : event.spelling (events.ProcessMessageSubscriptionCreated 38) ≡ 38 ∷ 0 ∷ 0 ∷ 0 ∷ 0 ∷ 0 ∷ 0 ∷ 0 ∷ 38 ∷ []
unfolding event long fields.long_bytes
event_38 = refl

pub event_39 : event.spelling (events.ProcessMessageSubscriptionCorrelated (record { subscription = 1; message = 2 })) ≡ 39 ∷ 0 ∷ 0 ∷ 0 ∷ 0 ∷ 0 ∷ 0 ∷ 0 ∷ 1 ∷ 0 ∷ 0 ∷ 0 ∷ 0 ∷ 0 ∷ 0 ∷ 0 ∷ 2 ∷ []
unfolding event long subscribed_message fields.long_bytes
event_39 = refl

pub event_40 : event.spelling (events.ProcessMessageSubscriptionDeleted 40) ≡ 40 ∷ 0 ∷ 0 ∷ 0 ∷ 0 ∷ 0 ∷ 0 ∷ 0 ∷ 40 ∷ []
unfolding event long fields.long_bytes
event_40 = refl

pub event_41 : event.spelling (events.ProcessMessageSubscriptionDeleting (record { subscription = 1; correlation_key = (99 ∷ []); keys = (5 ∷ 6 ∷ []) })) ≡ 41 ∷ 0 ∷ 0 ∷ 0 ∷ 0 ∷ 0 ∷ 0 ∷ 0 ∷ 1 ∷ 0 ∷ 0 ∷ 0 ∷ 1 ∷ 99 ∷ 0 ∷ 0 ∷ 0 ∷ 2 ∷ 0 ∷ 0 ∷ 0 ∷ 0 ∷ 0 ∷ 0 ∷ 0 ∷ 5 ∷ 0 ∷ 0 ∷ 0 ∷ 0 ∷ 0 ∷ 0 ∷ 0 ∷ 6 ∷ []
unfolding event long process_message_subscription_deleting text fields.counted_bytes fields.long_bytes fields.number_bytes fields.text_bytes
event_41 = refl

pub event_42 : event.spelling (events.VariableCreated (record { scope = 1; name = (110 ∷ []); value = (values.List ((negsuc 1) ∷ [])) })) ≡ 42 ∷ 0 ∷ 0 ∷ 0 ∷ 0 ∷ 0 ∷ 0 ∷ 0 ∷ 1 ∷ 0 ∷ 0 ∷ 0 ∷ 1 ∷ 110 ∷ 3 ∷ 0 ∷ 0 ∷ 0 ∷ 1 ∷ 255 ∷ 255 ∷ 255 ∷ 255 ∷ 255 ∷ 255 ∷ 255 ∷ 254 ∷ []
unfolding event long text value scope_variable fields.counted_bytes fields.long_bytes fields.number_bytes fields.signed_bytes fields.text_bytes fields.value_bytes
event_42 = refl

pub event_43 : event.spelling (events.VariableUpdated (record { scope = 1; name = (110 ∷ []); value = (values.List ((negsuc 1) ∷ [])) })) ≡ 43 ∷ 0 ∷ 0 ∷ 0 ∷ 0 ∷ 0 ∷ 0 ∷ 0 ∷ 1 ∷ 0 ∷ 0 ∷ 0 ∷ 1 ∷ 110 ∷ 3 ∷ 0 ∷ 0 ∷ 0 ∷ 1 ∷ 255 ∷ 255 ∷ 255 ∷ 255 ∷ 255 ∷ 255 ∷ 255 ∷ 254 ∷ []
unfolding event long text value scope_variable fields.counted_bytes fields.long_bytes fields.number_bytes fields.signed_bytes fields.text_bytes fields.value_bytes
event_43 = refl

pub event_44 : event.spelling (events.VariableDocumentUpdated 44) ≡ 44 ∷ 0 ∷ 0 ∷ 0 ∷ 0 ∷ 0 ∷ 0 ∷ 0 ∷ 44 ∷ []
unfolding event long fields.long_bytes
event_44 = refl

pub event_45 : event.spelling (events.IncidentCreated (record { key = 1; kind = incidents.UnhandledErrorEvent; cell = 3; job = 4; text = (116 ∷ []) })) ≡ 45 ∷ 0 ∷ 0 ∷ 0 ∷ 0 ∷ 0 ∷ 0 ∷ 0 ∷ 1 ∷ 4 ∷ 0 ∷ 0 ∷ 0 ∷ 0 ∷ 0 ∷ 0 ∷ 0 ∷ 3 ∷ 0 ∷ 0 ∷ 0 ∷ 0 ∷ 0 ∷ 0 ∷ 0 ∷ 4 ∷ 0 ∷ 0 ∷ 0 ∷ 1 ∷ 116 ∷ []
unfolding event incident_created incident_kind long text fields.long_bytes fields.number_bytes fields.text_bytes
event_45 = refl

pub event_46 : event.spelling (events.IncidentResolved (record { key = 1; job = 2 })) ≡ 46 ∷ 0 ∷ 0 ∷ 0 ∷ 0 ∷ 0 ∷ 0 ∷ 0 ∷ 1 ∷ 0 ∷ 0 ∷ 0 ∷ 0 ∷ 0 ∷ 0 ∷ 0 ∷ 2 ∷ []
unfolding event incident_resolved long fields.long_bytes
event_46 = refl
