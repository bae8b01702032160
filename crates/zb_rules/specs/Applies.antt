-- Which events a log may have.
use Rattle.std.specs.Prelude.{ℕ, ◌+◌, ◌^◌, ◌==◌, nat_lt, List, [], ◌∷◌, ◌++◌, Bool, true, false, ◌&&◌, ◌||◌, not, is_some, if◌then◌else◌, Option, Some, None}
use Rattle.std.specs.Option.{option_map_or, option_and_then}
use Rattle.std.specs.List.{list_any}
use Rattle.std.specs.Str.{bytes_eq}
use Rattle.zb_base.specs.Vars.{is_ascending}
use Rattle.zb_instance_records.specs.declared.instance.ElementActivating.{ElementActivating}
use Rattle.zb_instance_records.specs.declared.instance.Role.TheVariants as roles
use Rattle.zb_model.specs.declared.record.Event.{Event}
use Rattle.zb_model.specs.declared.record.Event.TheVariants as events
use Rattle.zb_exchange_records.specs.declared.subscription.MessageStartEventSubscriptionCorrelated.{MessageStartEventSubscriptionCorrelated}
use Rattle.zb_views.specs.Messages.{is_buffered, message_at}
use Rattle.zb_views.specs.Processes.{process_in}
use Rattle.zb_views.specs.Starts.{published_in}
use Rattle.zb_views.specs.declared.left.Left.{Left}
use Rattle.zb_views.specs.declared.left.Left.TheVariants as lefts
use Rattle.zb_rules.specs.Starts.{may_start}
use Rattle.zb_views.specs.View.{greatest_counter, next_key}
use Rattle.zb_tokens.specs.declared.board.Move.{Move}
use Rattle.zb_tokens.specs.declared.board.Cell.{Cell}
use Rattle.zb_tokens.specs.Board.{Board, cell_at, model_under, is_role}
use Rattle.zb_tokens.specs.Game.{fits}
pub use Rattle.zb_rules.specs.Shown.{holds_of_game}
use Rattle.zb_rules.specs.Shown.{shown, role_on}
use Rattle.zb_views.specs.Jobs.{is_activated, is_given_out}
use Rattle.zb_rules.specs.JobEvents.{has_job, is_job_in, begins_job, hands_out, are_jobs, has_cause}
use Rattle.zb_rules.specs.TimerEvents.{may_open, has_timer}
use Rattle.zb_rules.specs.WaitEvents.{may_subscribe, is_waiting, is_open}
use Rattle.zb_views.specs.ProcessSubscriptions.{is_being_created, is_being_deleted}
use Rattle.zb_tokens.specs.Work.{is_cause_of}
use Rattle.zb_views.specs.Left.{left, leaves_root, leaves_cancel, leaves_deletion}
use Rattle.zb_views.specs.Subscriptions.{is_subscribed}
use Rattle.zb_rules.specs.Correlate.{begins_correlating, is_correlating}
use Rattle.zb_views.specs.Definitions.{definitions}
use Rattle.zb_views.specs.Distributions.{is_distributed_to, is_distributed}
use Rattle.zb_faults.specs.Faults.{is_well_formed}

-- the key is the next one that partition p draws, and there is one
abbrev pub is_fresh : ℕ → List Event → ℕ → Bool
is_fresh p before key = nat_lt (greatest_counter p before + 1) (2 ^ 51) && (key == next_key p before)

-- a definition with a key is there
abbrev pub has_definition : ℕ → List Event → Bool
has_definition key es = list_any (λ d. d.key == key) (definitions es)

-- on a board the process of a definition has this id
abbrev pub is_process_of : ℕ → List ℕ → Board → Bool
is_process_of definition id b = option_map_or (λ m. bytes_eq m.process id) (model_under b definition) false

-- on a board a cell has this key
abbrev pub has_cell : ℕ → Board → Bool
has_cell key b = is_some (cell_at b key)

-- the correlation key with which the root starts that is left to be said: that of the message which starts it; empty where none does
abbrev pub starts_with : Left → List Event → List ℕ
starts_with (lefts.Root begun) es = option_map_or (λ m. m.correlation_key) (option_and_then (λ message. published_in message es) begun.message) []
starts_with what es = []

-- a root comes where it is left to be said, with the process id as its node, by no flow, and with the correlation key of the message that starts it
abbrev pub begins_instance : List Event → ElementActivating → Bool
begins_instance before e = leaves_root e.key e.definition (left before)
    && holds_of_game (is_process_of e.definition e.node) before && bytes_eq e.via [] && bytes_eq e.started (starts_with (left before) before)

-- a cell begins in another by no flow, as a run of it at its node, or as a handler; or else in the role that its node tells (BPMN 2.0.2, 13.3.7 and 13.5.5)
abbrev pub suits : Board → ElementActivating → Cell → Bool
suits b e c = if is_role e.role roles.Inner then bytes_eq e.node c.node && bytes_eq e.via [] else if is_role e.role roles.Handler then bytes_eq e.via [] else is_role e.role (role_on b c e.node)

-- on a board it has the definition of its scope, and suits that
abbrev pub suits_scope : ElementActivating → Board → Bool
suits_scope e b = option_map_or (λ c. (c.definition == e.definition) && suits b e c) (cell_at b e.scope) false

-- another cell has a fresh key, suits its scope, and no message starts it
abbrev pub begins_cell : ℕ → List Event → ElementActivating → Bool
begins_cell p before e = is_fresh p before e.key && holds_of_game (suits_scope e) before && bytes_eq e.started []

-- a root is plain, and another cell suits its scope
abbrev pub begins_well : ℕ → List Event → ElementActivating → Bool
begins_well p before e = if e.scope == 0 then is_role e.role roles.Plain && begins_instance before e else begins_cell p before e

-- a message starts an instance of a definition: both are there, and it may start one of the process
abbrev pub begins_start : MessageStartEventSubscriptionCorrelated → List Event → Bool
begins_start e before = option_map_or (λ m. option_map_or (λ d. may_start m d.model.process before) (process_in e.definition before) false) (message_at e.message before) false

-- what holds of an event that applies, beside the move that it shows; one of a migration doesn't apply so far
abbrev pub holds_own : ℕ → List Event → Event → Bool
holds_own p before (events.ProcessCreated e) = is_well_formed e.model
holds_own p before (events.DeploymentCreated e) = is_fresh p before e.key && has_definition e.definition before
holds_own p before (events.CommandDistributionDistributing e) = has_definition e.key before
holds_own p before (events.CommandDistributionAcknowledged e) = is_distributed_to e.key e.partition before
holds_own p before (events.CommandDistributionFinished key) = has_definition key before && not (is_distributed key before)
holds_own p before (events.ProcessInstanceCreationCreated e) = is_fresh p before e.key && has_definition e.definition before
holds_own p before (events.ElementActivating e) = begins_well p before e
holds_own p before (events.ElementActivated e) = true
holds_own p before (events.ElementCompleting key) = true
holds_own p before (events.ElementCompleted e) = true
holds_own p before (events.ElementTerminating key) = true
holds_own p before (events.ElementTerminated key) = true
holds_own p before (events.SequenceFlowTaken e) = true
holds_own p before (events.VariableCreated e) = true
holds_own p before (events.VariableUpdated e) = true
holds_own p before (events.VariableDocumentUpdated key) = holds_of_game (has_cell key) before
holds_own p before (events.MessagePublished m) = is_fresh p before m.key && is_ascending m.variables
holds_own p before (events.MessageExpired key) = is_buffered key before
holds_own p before (events.MessageStartEventSubscriptionCorrelated e) = is_fresh p before e.instance && begins_start e before
holds_own p before (events.MessageSubscriptionCreated s) = not (is_subscribed s.subscription before)
holds_own p before (events.MessageSubscriptionCorrelating e) = begins_correlating e before
holds_own p before (events.MessageSubscriptionCorrelated e) = is_correlating e.subscription e.message before
holds_own p before (events.MessageSubscriptionRejected e) = is_correlating e.subscription e.message before
holds_own p before (events.MessageSubscriptionDeleted key) = is_subscribed key before || leaves_deletion key (left before)
holds_own p before (events.ProcessMessageSubscriptionCreating e) = is_fresh p before e.subscription && holds_of_game (may_subscribe e) before
holds_own p before (events.ProcessMessageSubscriptionCreated key) = is_waiting is_being_created key before
holds_own p before (events.ProcessMessageSubscriptionCorrelated e) = is_waiting is_open e.subscription before
holds_own p before (events.ProcessMessageSubscriptionDeleted key) = is_waiting is_being_deleted key before
holds_own p before (events.ProcessMessageSubscriptionDeleting e) = is_waiting is_open e.subscription before
holds_own p before (events.JobCreated e) = is_fresh p before e.key && begins_job e.cell before
holds_own p before (events.JobActivated e) = hands_out e before
holds_own p before (events.JobTimedOut key) = is_job_in is_activated key before
holds_own p before (events.JobCompleted key) = is_job_in is_given_out key before
holds_own p before (events.JobCanceled key) = leaves_cancel key (left before)
holds_own p before (events.JobFailed e) = is_job_in is_given_out e.key before
holds_own p before (events.JobErrorThrown e) = is_job_in is_given_out e.key before
holds_own p before (events.JobRetriesUpdated e) = has_job e.key before
holds_own p before (events.JobBatchActivated e) = is_fresh p before e.key && are_jobs e.jobs before
holds_own p before (events.TimerCreated e) = is_fresh p before e.key && holds_of_game (may_open e) before
holds_own p before (events.TimerTriggered key) = has_timer key before
holds_own p before (events.TimerCanceled key) = has_timer key before
holds_own p before (events.ProcessEventTriggered e) = true
holds_own p before (events.IncidentCreated e) = is_fresh p before e.key && has_cause e before
holds_own p before (events.IncidentResolved e) = holds_of_game (is_cause_of e.job e.key) before
holds_own p before _ = false

-- a move fits the board, if there is one
abbrev pub may_fit : Option Move → Board → Bool
may_fit None b = true
may_fit (Some move) b = fits b move

-- the event applies to those before it, at partition p: its own condition holds, and the move that it shows fits the board
abbrev pub applies : ℕ → List Event → Event → Bool
applies p before e = holds_own p before e && holds_of_game (may_fit (shown before e)) before

-- each of the events applies to the ones before and those of the list in front of it
abbrev pub all_apply : ℕ → List Event → List Event → Bool
all_apply p before [] = true
all_apply p before (e ∷ es) = applies p before e && all_apply p (before ++ e ∷ []) es
