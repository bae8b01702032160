-- Plays worked out by hand: of one start event, one flow and one end event; of its distribution to three partitions; with two end events; of a fork and a join; of a subprocess that a terminate
-- end event ends; of one that is cancelled while a task waits in it; the variables that an update sets; of choices at an exclusive gateway, with their incidents; of
-- what a subprocess takes in and gives out, with its incidents; of a job that is given out, taken back and completed, that fails, or in which an error is thrown; and of what no request makes,
-- but a log may have.
use Rattle.std.proofs.Common.{◌≡◌, ℕ, List, [], ◌∷◌, ◌++◌, Bool, true, false, ◌+◌, Some, None, refl}
use Rattle.std.specs.Prelude.{codes, pos}
use Rattle.std.specs.Fmt.{digits}
use Rattle.zb_process.specs.declared.model.Model.{Model}
use Rattle.zb_process.specs.declared.model.Node.{Node}
use Rattle.zb_process.specs.declared.model.Flow.{Flow}
use Rattle.zb_process.specs.declared.model.Mapping.{Mapping}
use Rattle.zb_process.specs.declared.operator.Operator.TheVariants as operators
use Rattle.zb_process.specs.Tree.{Tree, Int, Text, Name, Binary}
use Rattle.zb_process.specs.declared.model.NodeKind.{NodeKind}
use Rattle.zb_process.specs.declared.model.NodeKind.TheVariants as kinds
use Rattle.zb_instance_records.specs.declared.deployment.ProcessDefinition.{ProcessDefinition}
use Rattle.zb_instance_records.specs.declared.deployment.CommandDistribution.{CommandDistribution}
use Rattle.zb_instance_records.specs.declared.instance.Role.TheVariants as roles
use Rattle.zb_instance_records.specs.declared.happening.IncidentKind.{IncidentKind}
use Rattle.zb_instance_records.specs.declared.happening.IncidentKind.TheVariants as incidents
use Rattle.zb_model.specs.declared.record.Command.{Command}
use Rattle.zb_model.specs.declared.record.Command.TheVariants as commands
use Rattle.zb_model.specs.declared.record.Event.{Event}
use Rattle.zb_model.specs.declared.record.Event.TheVariants as events
use Rattle.zb_model.specs.declared.record.RejectionKind.TheVariants as kinds_of
use Rattle.zb_rules.specs.Settling.{turn}
use Rattle.zb_rules.specs.Deploy.{deployed}
use Rattle.zb_rules.specs.Distribute.{definition_is_there}
use Rattle.zb_rules.specs.Acknowledge.{no_distribution}
use Rattle.zb_rules.specs.Applies.{all_apply}
use Rattle.zb_rules.specs.Create.{created, reason_to_create}
use Rattle.zb_rules.specs.Shown.{board_of}
use Rattle.zb_rules.specs.Cancel.{no_instance, instance_terminates, reason_to_cancel, cancelled}
use Rattle.zb_rules.specs.Update.{no_scope, reason_to_update, updated}
use Rattle.zb_rules.specs.Resolve.{no_incident, reason_to_resolve, resolved}
use Rattle.zb_tokens.specs.declared.board.Phase.TheVariants as phases
use Rattle.zb_tokens.specs.declared.board.Spot.TheVariants as spots
use Rattle.zb_tokens.specs.Board.{Board, new_cell, in_phase}
use Rattle.zb_base.specs.declared.value.Value.{Value}
use Rattle.zb_base.specs.declared.value.Value.TheVariants as values
use Rattle.zb_base.specs.declared.vars.Variable.{Variable}
use Rattle.zb_rules.specs.Expire.{no_message, not_due, reason_to_expire}
use Rattle.zb_rules.specs.Due.{due_command}
use Rattle.zb_rules.specs.Own.{own_events}
use Rattle.zb_rules.specs.Reason.{reason_for}
use Rattle.zb_faults.specs.Faults.{first_fault, fault_text}
use Rattle.zb_faults.specs.declared.fault.Fault.TheVariants as faults

abbrev node : List ℕ → NodeKind → Node
node id kind = record { id = id; kind = kind; parent = []; attached = []; cancel = false; otherwise = []; name = []; expr = None; retries = 0; handler = false; multi = None; inputs = []; outputs = [] }

abbrev flow : List ℕ → List ℕ → List ℕ → Flow
flow id from to = record { id = id; from = from; to = to; condition = None }

abbrev process : Model
process = record {
  process = codes "p";
  tag = [];
  nodes = node (codes "s") kinds.StartEvent ∷ node (codes "e") kinds.EndEvent ∷ [];
  flows = flow (codes "f") (codes "s") (codes "e") ∷ [];
}

abbrev b : ℕ
b = 2251799813685248

abbrev activating : ℕ → ℕ → List ℕ → List ℕ → Event
activating key scope id via = events.ElementActivating (record { key = key; scope = scope; definition = 2251799813685249; node = id; role = roles.Plain; via = via; started = [] })

abbrev activated : ℕ → Event
activated key = events.ElementActivated (record { key = key; items = [] })

abbrev completed : ℕ → List (List ℕ) → Event
completed key owed = events.ElementCompleted (record { key = key; owed = owed })

-- the turns that follow, at most as many as the fuel has members
abbrev turns : List Bool → List Event → List Event
turns [] es = []
turns (more ∷ fuel) es = elim (turn 1 0 es) [
  | None ↦ []
  | Some made ↦ made ++ turns fuel (es ++ made)
]

abbrev before : List Event
before = events.ProcessCreated (record { key = 2251799813685249; version = 1; model = process }) ∷ events.DeploymentCreated (record { key = 2251799813685250; definition = 2251799813685249 }) ∷ events.ProcessInstanceCreationCreated (record { key = 2251799813685251; definition = 2251799813685249 }) ∷ activating 2251799813685251 0 (codes "p") [] ∷ []

root_opens : turn 1 0 before ≡ Some (activated 2251799813685251 ∷ [])
unfolding turn
root_opens = refl

fuel : List Bool
fuel = true ∷ true ∷ true ∷ true ∷ true ∷ true ∷ true ∷ true ∷ true ∷ true ∷ true ∷ true ∷ true ∷ true ∷ []

play : turns (true ∷ true ∷ true ∷ true ∷ true ∷ true ∷ true ∷ true ∷ true ∷ true ∷ true ∷ true ∷ true ∷ true ∷ []) before ≡
    activated 2251799813685251
    ∷ activating 2251799813685252 2251799813685251 (codes "s") [] ∷ activated 2251799813685252 ∷ events.ElementCompleting 2251799813685252 ∷ completed 2251799813685252 (codes "f" ∷ [])
    ∷ events.SequenceFlowTaken (record { key = 2251799813685252; flow = codes "f" })
    ∷ activating 2251799813685253 2251799813685251 (codes "e") (codes "f") ∷ activated 2251799813685253 ∷ events.ElementCompleting 2251799813685253 ∷ completed 2251799813685253 []
    ∷ events.ElementCompleting 2251799813685251 ∷ completed 2251799813685251 []
    ∷ []
unfolding turn
play = refl

-- a token that has come to a service task stays there
abbrev at_task : List Event
at_task =
    events.ProcessCreated (record { key = 2251799813685249; version = 1; model = record process { nodes = node (codes "s") kinds.StartEvent ∷ node (codes "e") kinds.ServiceTask ∷ [] } })
    ∷ events.ProcessInstanceCreationCreated (record { key = 2251799813685250; definition = 2251799813685249 }) ∷ activating 2251799813685250 0 (codes "p") []
    ∷ activated 2251799813685250 ∷ activating 2251799813685251 2251799813685250 (codes "s") [] ∷ activated 2251799813685251 ∷ events.ElementCompleting 2251799813685251 ∷ completed 2251799813685251 (codes "f" ∷ [])
    ∷ events.SequenceFlowTaken (record { key = 2251799813685251; flow = codes "f" }) ∷ activating 2251799813685252 2251799813685250 (codes "e") (codes "f") ∷ activated 2251799813685252 ∷ []

task_waits : turn 1 0 at_task ≡ None
unfolding turn
task_waits = refl

-- its definition sets out for a partition, and has arrived there
abbrev setting_out : ℕ → Event
setting_out p = events.CommandDistributionDistributing (record { key = 2251799813685249; partition = p })

abbrev arrived_at : ℕ → Event
arrived_at p = events.CommandDistributionAcknowledged (record { key = 2251799813685249; partition = p })

-- deploying it, and making an instance of it
deploy : deployed 1 1 process [] ≡ events.ProcessCreated (record { key = 2251799813685249; version = 1; model = process }) ∷ events.DeploymentCreated (record { key = 2251799813685250; definition = 2251799813685249 }) ∷ []
deploy = refl

-- the same at one of three partitions: the definition sets out for the others
deploy_of_three : deployed 1 3 process [] ≡
    events.ProcessCreated (record { key = 2251799813685249; version = 1; model = process }) ∷ events.DeploymentCreated (record { key = 2251799813685250; definition = 2251799813685249 })
    ∷ setting_out 2 ∷ setting_out 3 ∷ []
deploy_of_three = refl

-- it arrives there under its key, once
abbrev sent : ProcessDefinition
sent = record { key = 2251799813685249; version = 1; model = process }

arrives : own_events 2 3 [] 0 (commands.DeploymentDistribute sent) ≡ Some (events.ProcessCreated (record { key = 2251799813685249; version = 1; model = process }) ∷ [])
arrives = refl

welcome : reason_for [] 0 (commands.DeploymentDistribute sent) ≡ None
unfolding first_fault
welcome = refl

-- where it is there it isn't taken again
there_already : reason_for (events.ProcessCreated (record { key = 2251799813685249; version = 1; model = process }) ∷ []) 0 (commands.DeploymentDistribute sent)
    ≡ Some (record { kind = kinds_of.AlreadyExists; reason = definition_is_there 2251799813685249 })
unfolding first_fault
there_already = refl

-- each partition acknowledges it, and behind the last one the distribution is finished
abbrev three_deployed : List Event
three_deployed = deployed 1 3 process []

abbrev of_partition : ℕ → CommandDistribution
of_partition p = record { key = 2251799813685249; partition = p }

first_acknowledged : own_events 1 3 three_deployed 0 (commands.CommandDistributionAcknowledge (of_partition 3)) ≡ Some (arrived_at 3 ∷ [])
first_acknowledged = refl

last_acknowledged : own_events 1 3 (three_deployed ++ arrived_at 3 ∷ []) 0 (commands.CommandDistributionAcknowledge (of_partition 2)) ≡ Some (arrived_at 2 ∷ events.CommandDistributionFinished 2251799813685249 ∷ [])
last_acknowledged = refl

acknowledged_twice : reason_for (three_deployed ++ arrived_at 3 ∷ []) 0 (commands.CommandDistributionAcknowledge (of_partition 3))
    ≡ Some (record { kind = kinds_of.NotFound; reason = no_distribution 2251799813685249 3 })
acknowledged_twice = refl

-- all of it applies
distribution_applies : all_apply 1 [] (three_deployed ++ arrived_at 3 ∷ arrived_at 2 ∷ events.CommandDistributionFinished 2251799813685249 ∷ []) ≡ true
unfolding first_fault
distribution_applies = refl

-- a distribution isn't finished before the last answer
finished_early : all_apply 1 [] (three_deployed ++ arrived_at 3 ∷ events.CommandDistributionFinished 2251799813685249 ∷ []) ≡ false
unfolding first_fault
finished_early = refl

abbrev deployed_events : List Event
deployed_events = events.ProcessCreated (record { key = 2251799813685249; version = 1; model = process }) ∷ events.DeploymentCreated (record { key = 2251799813685250; definition = 2251799813685249 }) ∷ []

create : created 1 (record { process = codes "p"; version = 0; variables = [] }) deployed_events ≡ events.ProcessInstanceCreationCreated (record { key = 2251799813685251; definition = 2251799813685249 }) ∷ activating 2251799813685251 0 (codes "p") [] ∷ []
create = refl

good : first_fault process ≡ None
unfolding first_fault
good = refl

no_start : first_fault (record { process = codes "p"; tag = []; nodes = []; flows = [] }) ≡ Some (faults.Start, codes "p")
unfolding first_fault
no_start = refl

no_start_text : fault_text faults.Start (codes "p") ≡ codes "START: p"
no_start_text = refl

-- a process that isn't there
unknown : reason_to_create [] (record { process = codes "q"; version = 0; variables = [] }) ≡ Some (record { kind = kinds_of.NotFound; reason = codes "no process q" })
unknown = refl

-- messages that wait until their deadlines
abbrev message : ℕ → ℕ → Event
message key deadline = events.MessagePublished (record { key = key; name = codes "paid"; correlation_key = codes "o-1"; id = []; deadline = deadline; variables = [] })

unknown_message : reason_to_expire (message 7 1000 ∷ []) 1000 8 ≡ Some (record { kind = kinds_of.NotFound; reason = no_message 8 })
unknown_message = refl

too_early : reason_to_expire (message 7 1000 ∷ []) 999 7 ≡ Some (record { kind = kinds_of.InvalidState; reason = not_due 7 })
too_early = refl

in_time : reason_to_expire (message 7 1000 ∷ []) 1000 7 ≡ None
in_time = refl

earlier_deadline_first : due_command 2000 (message 1 2000 ∷ message 2 1000 ∷ []) ≡ Some (commands.MessageExpire 2)
earlier_deadline_first = refl

lesser_key_first : due_command 1000 (message 2 1000 ∷ message 1 1000 ∷ []) ≡ Some (commands.MessageExpire 1)
lesser_key_first = refl

none_due : due_command 999 (message 1 2000 ∷ message 2 1000 ∷ []) ≡ None
none_due = refl

-- every event of the play applies to those before it
abbrev whole_play : List Event
whole_play = before ++ turns (true ∷ true ∷ true ∷ true ∷ true ∷ true ∷ true ∷ true ∷ true ∷ true ∷ true ∷ true ∷ true ∷ true ∷ []) before

each_applies : all_apply 1 [] whole_play ≡ true
unfolding turn first_fault
each_applies = refl

-- the key of partition 1 with a counter
abbrev key : ℕ → ℕ
key n = 2251799813685248 + n

abbrev taken : ℕ → List ℕ → Event
taken cell flow = events.SequenceFlowTaken (record { key = cell; flow = flow })

-- an instance that is made, and its root
abbrev instance : ℕ → List Event
instance root = events.ProcessInstanceCreationCreated (record { key = root; definition = key 1 }) ∷ activating root 0 (codes "p") [] ∷ []

-- a model that is deployed, and an instance of it
abbrev begun_of : Model → List Event
begun_of m = events.ProcessCreated (record { key = key 1; version = 1; model = m }) ∷ events.DeploymentCreated (record { key = key 2; definition = key 1 }) ∷ instance (key 3)

-- a node that waits for nothing, from its beginning to where it has completed
abbrev passes : ℕ → ℕ → List ℕ → List ℕ → List (List ℕ) → List Event
passes cell scope id via owed = activating cell scope id via ∷ activated cell ∷ events.ElementCompleting cell ∷ completed cell owed ∷ []

-- a root with nothing in it ends
abbrev ends : ℕ → List Event
ends root = events.ElementCompleting root ∷ completed root [] ∷ []

-- as many turns as are enough for all the plays below, and more
abbrev many : List Bool
many = true ∷ true ∷ true ∷ true ∷ true ∷ true ∷ true ∷ true ∷ true ∷ true ∷ true ∷ true ∷ true ∷ true ∷ true ∷ true ∷ true ∷ true ∷ true ∷ true
    ∷ true ∷ true ∷ true ∷ true ∷ true ∷ true ∷ true ∷ true ∷ true ∷ true ∷ true ∷ true ∷ true ∷ true ∷ true ∷ true ∷ true ∷ true ∷ true ∷ true ∷ []

-- a start event with two flows, to two end events
abbrev fork : Model
fork = record {
  process = codes "p";
  tag = [];
  nodes = node (codes "s") kinds.StartEvent ∷ node (codes "e") kinds.EndEvent ∷ node (codes "d") kinds.EndEvent ∷ [];
  flows = flow (codes "f") (codes "s") (codes "e") ∷ flow (codes "g") (codes "s") (codes "d") ∷ [];
}

fork_is_good : first_fault fork ≡ None
unfolding first_fault
fork_is_good = refl

-- worked out by hand: a token goes out on each flow in the order of the model before one of them enters its node; each of them comes to an end; then the process ends
abbrev fork_plays : List Event
fork_plays =
    activated (key 3) ∷ passes (key 4) (key 3) (codes "s") [] (codes "f" ∷ codes "g" ∷ [])
    ++ (taken (key 4) (codes "f") ∷ taken (key 4) (codes "g") ∷ passes (key 5) (key 3) (codes "e") (codes "f") [] ++ (passes (key 6) (key 3) (codes "d") (codes "g") [] ++ ends (key 3)))

fork_play : turns many (begun_of fork) ≡ fork_plays
unfolding turn
fork_play = refl

fork_applies : all_apply 1 [] (begun_of fork ++ fork_plays) ≡ true
unfolding first_fault
fork_applies = refl

-- two instances at once
abbrev two_begun : List Event
two_begun = begun_of process ++ instance (key 4)

-- worked out by hand: of the two roots the one with the greater key opens first, then the other, and then the token that was made first goes on.
-- A token on a flow stands behind those that were made before it; a root ends as soon as nothing is in it, before another token enters
abbrev two_play : List Event
two_play =
    activated (key 4) ∷ activated (key 3)
    ∷ passes (key 5) (key 4) (codes "s") [] (codes "f" ∷ []) ++ (taken (key 5) (codes "f")
    ∷ passes (key 6) (key 3) (codes "s") [] (codes "f" ∷ []) ++ (taken (key 6) (codes "f")
    ∷ passes (key 7) (key 4) (codes "e") (codes "f") [] ++ (ends (key 4)
    ++ (passes (key 8) (key 3) (codes "e") (codes "f") [] ++ ends (key 3)))))

both_play : turns many two_begun ≡ two_play
unfolding turn
both_play = refl

both_apply : all_apply 1 [] (two_begun ++ two_play) ≡ true
unfolding first_fault
both_apply = refl

-- a parallel gateway with three flows: two to a throw event, and one to the gateway where its flow and the throw event's join
abbrev joining : Model
joining = record {
  process = codes "p";
  tag = [];
  nodes = node (codes "s") kinds.StartEvent ∷ node (codes "g") kinds.ParallelGateway ∷ node (codes "x") kinds.ThrowEvent ∷ node (codes "j") kinds.ParallelGateway ∷ node (codes "e") kinds.EndEvent ∷ [];
  flows = flow (codes "f") (codes "s") (codes "g")
      ∷ flow (codes "a") (codes "g") (codes "x")
      ∷ flow (codes "b") (codes "g") (codes "x")
      ∷ flow (codes "c") (codes "g") (codes "j")
      ∷ flow (codes "d") (codes "x") (codes "j")
      ∷ flow (codes "h") (codes "j") (codes "e")
      ∷ [];
}

joining_is_good : first_fault joining ≡ None
unfolding first_fault
joining_is_good = refl

-- worked out by hand: each of the two tokens passes the throw event, before the token that came first to the join goes on. That takes the first token
-- on each flow into it, once; the other token on the flow to it stays there. The root is active, and nobody is forced
abbrev joining_plays : List Event
joining_plays =
    activated (key 3) ∷ passes (key 4) (key 3) (codes "s") [] (codes "f" ∷ [])
    ++ (taken (key 4) (codes "f") ∷ passes (key 5) (key 3) (codes "g") [] (codes "a" ∷ codes "b" ∷ codes "c" ∷ [])
    ++ (taken (key 5) (codes "a") ∷ taken (key 5) (codes "b") ∷ taken (key 5) (codes "c")
    ∷ passes (key 6) (key 3) (codes "x") (codes "a") (codes "d" ∷ []) ++ (taken (key 6) (codes "d")
    ∷ passes (key 7) (key 3) (codes "x") (codes "b") (codes "d" ∷ []) ++ (taken (key 7) (codes "d")
    ∷ passes (key 8) (key 3) (codes "j") [] (codes "h" ∷ []) ++ (taken (key 8) (codes "h")
    ∷ passes (key 9) (key 3) (codes "e") (codes "h") [])))))

joining_play : turns many (begun_of joining) ≡ joining_plays
unfolding turn
joining_play = refl

joining_rests : turn 1 0 (begun_of joining ++ joining_plays) ≡ None
unfolding turn
joining_rests = refl

-- what is left on the board: the root, and a token on the flow to the join
abbrev joining_end : Board
joining_end = record {
  models = record { key = key 1; version = 1; model = joining } ∷ [];
  cells = in_phase phases.Active [] (new_cell (key 3) 0 (key 1) (codes "p") roles.Plain false) ∷ [];
  tokens = record { scope = key 3; spot = spots.OnFlow (codes "d") } ∷ [];
  incidents = [];
}

joining_ends : board_of (begun_of joining ++ joining_plays) ≡ Some joining_end
joining_ends = refl

joining_applies : all_apply 1 [] (begun_of joining ++ joining_plays) ≡ true
unfolding first_fault
joining_applies = refl

-- a node in a subprocess
abbrev inside : List ℕ → List ℕ → NodeKind → Node
inside parent id kind = record (node id kind) { parent = parent }

-- a subprocess whose start event has a flow to a terminate end event, and one to an end event
abbrev ended_early : Model
ended_early = record {
  process = codes "p";
  tag = [];
  nodes = node (codes "s") kinds.StartEvent ∷ node (codes "u") kinds.SubProcess ∷ node (codes "e") kinds.EndEvent
      ∷ inside (codes "u") (codes "t") kinds.StartEvent ∷ inside (codes "u") (codes "k") kinds.TerminateEndEvent ∷ inside (codes "u") (codes "d") kinds.EndEvent ∷ [];
  flows = flow (codes "f") (codes "s") (codes "u")
      ∷ flow (codes "h") (codes "u") (codes "e")
      ∷ flow (codes "a") (codes "t") (codes "k")
      ∷ flow (codes "b") (codes "t") (codes "d")
      ∷ [];
}

ended_early_is_good : first_fault ended_early ≡ None
unfolding first_fault
ended_early_is_good = refl

-- worked out by hand: the terminate end event takes the other token with it as it completes; then the subprocess is empty, completes and is left
abbrev ended_early_plays : List Event
ended_early_plays =
    activated (key 3) ∷ passes (key 4) (key 3) (codes "s") [] (codes "f" ∷ [])
    ++ (taken (key 4) (codes "f") ∷ activating (key 5) (key 3) (codes "u") (codes "f") ∷ activated (key 5)
    ∷ passes (key 6) (key 5) (codes "t") [] (codes "a" ∷ codes "b" ∷ [])
    ++ (taken (key 6) (codes "a") ∷ taken (key 6) (codes "b")
    ∷ passes (key 7) (key 5) (codes "k") (codes "a") []
    ++ (events.ElementCompleting (key 5) ∷ completed (key 5) (codes "h" ∷ []) ∷ taken (key 5) (codes "h")
    ∷ passes (key 8) (key 3) (codes "e") (codes "h") []
    ++ ends (key 3))))

ended_early_play : turns many (begun_of ended_early) ≡ ended_early_plays
unfolding turn
ended_early_play = refl

ended_early_applies : all_apply 1 [] (begun_of ended_early ++ ended_early_plays) ≡ true
unfolding first_fault
ended_early_applies = refl

-- the job of a cell is made
abbrev job_made : ℕ → ℕ → Event
job_made job cell = events.JobCreated (record { key = job; cell = cell; kind = codes "pay"; retries = 3 })

-- a subprocess in which a service task waits for its job
abbrev waiting : Model
waiting = record {
  process = codes "p";
  tag = [];
  nodes = node (codes "s") kinds.StartEvent ∷ node (codes "u") kinds.SubProcess ∷ node (codes "e") kinds.EndEvent
      ∷ inside (codes "u") (codes "t") kinds.StartEvent ∷ record (inside (codes "u") (codes "w") kinds.ServiceTask) { name = codes "pay"; retries = 3 } ∷ inside (codes "u") (codes "d") kinds.EndEvent ∷ [];
  flows = flow (codes "f") (codes "s") (codes "u") ∷ flow (codes "h") (codes "u") (codes "e")
      ∷ flow (codes "a") (codes "t") (codes "w") ∷ flow (codes "b") (codes "w") (codes "d") ∷ [];
}

abbrev waiting_plays : List Event
waiting_plays =
    activated (key 3) ∷ passes (key 4) (key 3) (codes "s") [] (codes "f" ∷ [])
    ++ (taken (key 4) (codes "f") ∷ activating (key 5) (key 3) (codes "u") (codes "f") ∷ activated (key 5)
    ∷ passes (key 6) (key 5) (codes "t") [] (codes "a" ∷ [])
    ++ (taken (key 6) (codes "a")
    ∷ activating (key 7) (key 5) (codes "w") (codes "a") ∷ activated (key 7) ∷ job_made (key 8) (key 7) ∷ []))

waiting_play : turns many (begun_of waiting) ≡ waiting_plays
unfolding turn
waiting_play = refl

abbrev waiting_events : List Event
waiting_events = begun_of waiting ++ waiting_plays

-- a cell begins to terminate, and is gone
abbrev terminated : ℕ → List Event
terminated cell = events.ElementTerminating cell ∷ events.ElementTerminated cell ∷ []

-- worked out by hand: the newest cell is called off first, and its job is canceled right behind; it is gone before the one around it; the root is gone last
abbrev ends_all : List Event
ends_all = events.ElementTerminating (key 3) ∷ events.ElementTerminating (key 7) ∷ events.JobCanceled (key 8) ∷ events.ElementTerminated (key 7) ∷ terminated (key 5) ++ events.ElementTerminated (key 3) ∷ []

cancel_play : cancelled 1 0 (key 3) waiting_events ++ turns many (waiting_events ++ cancelled 1 0 (key 3) waiting_events) ≡ ends_all
unfolding turn
cancel_play = refl

cancel_applies : all_apply 1 [] (waiting_events ++ ends_all) ≡ true
unfolding first_fault
cancel_applies = refl

cancel_none : reason_to_cancel waiting_events (key 3) ≡ None
cancel_none = refl

cancel_inner : reason_to_cancel waiting_events (key 5) ≡ Some (record { kind = kinds_of.NotFound; reason = no_instance (key 5) })
cancel_inner = refl

cancel_twice : reason_to_cancel (waiting_events ++ cancelled 1 0 (key 3) waiting_events) (key 3) ≡ Some (record { kind = kinds_of.InvalidState; reason = instance_terminates (key 3) })
cancel_twice = refl

-- variables, which are handed up from the task to where they stand, or else to the root; or are set in the task itself
abbrev value : ℕ → Variable
value name = record { name = name ∷ []; value = values.Bool true }

abbrev set_before : List Event
set_before = waiting_events ++ events.VariableCreated (record { scope = key 3; name = 97 ∷ []; value = values.Bool false }) ∷ events.VariableCreated (record { scope = key 5; name = 98 ∷ []; value = values.Bool false }) ∷ []

up : updated (record { scope = key 7; local = false; variables = value 97 ∷ value 98 ∷ value 99 ∷ [] }) set_before ≡
    events.VariableUpdated (record { scope = key 3; name = 97 ∷ []; value = values.Bool true })
    ∷ events.VariableUpdated (record { scope = key 5; name = 98 ∷ []; value = values.Bool true })
    ∷ events.VariableCreated (record { scope = key 3; name = 99 ∷ []; value = values.Bool true })
    ∷ events.VariableDocumentUpdated (key 7) ∷ []
up = refl

here : updated (record { scope = key 7; local = true; variables = value 97 ∷ value 98 ∷ [] }) set_before ≡
    events.VariableCreated (record { scope = key 7; name = 97 ∷ []; value = values.Bool true })
    ∷ events.VariableCreated (record { scope = key 7; name = 98 ∷ []; value = values.Bool true })
    ∷ events.VariableDocumentUpdated (key 7) ∷ []
here = refl

nowhere : reason_to_update set_before (key 9) ≡ Some (record { kind = kinds_of.NotFound; reason = no_scope (key 9) })
nowhere = refl

updates_apply : all_apply 1 set_before (updated (record { scope = key 7; local = false; variables = value 97 ∷ value 98 ∷ value 99 ∷ [] }) set_before) ≡ true
updates_apply = refl

-- a gateway whose flow a is taken where n is greater than 1, and else its flow b where n is greater than 0
abbrev above : ℕ → List ℕ → List ℕ → Flow
above least id to = record (flow id (codes "x") to) { condition = Some (Binary operators.Greater (Name (codes "n")) (Int (pos least))) }

abbrev choice : Model
choice = record {
  process = codes "p";
  tag = [];
  nodes = node (codes "s") kinds.StartEvent ∷ node (codes "x") kinds.ExclusiveGateway ∷ node (codes "e") kinds.EndEvent ∷ node (codes "d") kinds.EndEvent ∷ [];
  flows = flow (codes "f") (codes "s") (codes "x") ∷ above 1 (codes "a") (codes "e") ∷ above 0 (codes "b") (codes "d") ∷ [];
}

choice_is_good : first_fault choice ≡ None
unfolding first_fault
choice_is_good = refl

-- one whose default stands in front of a flow that is taken where n is greater than 0
abbrev choice_or : Model
choice_or = record choice {
  nodes = node (codes "s") kinds.StartEvent ∷ record (node (codes "x") kinds.ExclusiveGateway) { otherwise = codes "a" } ∷ node (codes "e") kinds.EndEvent ∷ node (codes "d") kinds.EndEvent ∷ [];
  flows = flow (codes "f") (codes "s") (codes "x") ∷ flow (codes "a") (codes "x") (codes "e") ∷ above 0 (codes "b") (codes "d") ∷ [];
}

choice_or_is_good : first_fault choice_or ≡ None
unfolding first_fault
choice_or_is_good = refl

-- an instance with this value of n
abbrev begun_at : Model → Value → List Event
begun_at m n = begun_of m ++ events.VariableCreated (record { scope = key 3; name = codes "n"; value = n }) ∷ []

-- it comes to the gateway, which completes
abbrev to_gateway : List Event
to_gateway =
    activated (key 3) ∷ passes (key 4) (key 3) (codes "s") [] (codes "f" ∷ [])
    ++ (taken (key 4) (codes "f") ∷ activating (key 5) (key 3) (codes "x") (codes "f") ∷ activated (key 5) ∷ events.ElementCompleting (key 5) ∷ [])

-- a flow is chosen, and leads to an end event whose cell gets this key
abbrev goes_by : ℕ → List ℕ → List ℕ → List Event
goes_by cell id to = completed (key 5) (id ∷ []) ∷ taken (key 5) id ∷ passes cell (key 3) to id [] ++ ends (key 3)

-- an incident of the gateway, under this key
abbrev stops : ℕ → IncidentKind → List ℕ → Event
stops incident kind text = events.IncidentCreated (record { key = incident; kind = kind; cell = key 5; job = 0; text = text })

-- worked out by hand: the first flow whose condition is true is taken
first_true : turns many (begun_at choice (values.Int (pos 2))) ≡ to_gateway ++ goes_by (key 6) (codes "a") (codes "e")
unfolding turn
first_true = refl

second_true : turns many (begun_at choice (values.Int (pos 1))) ≡ to_gateway ++ goes_by (key 6) (codes "b") (codes "d")
unfolding turn
second_true = refl

-- the default isn't taken before a flow behind it whose condition is true
not_by_default : turns many (begun_at choice_or (values.Int (pos 1))) ≡ to_gateway ++ goes_by (key 6) (codes "b") (codes "d")
unfolding turn
not_by_default = refl

-- it is where there is no such flow
by_default : turns many (begun_at choice_or (values.Int (pos 0))) ≡ to_gateway ++ goes_by (key 6) (codes "a") (codes "e")
unfolding turn
by_default = refl

-- a condition that is no truth value isn't false, and one that has no value isn't either
no_truth : turns many (begun_at choice_or (values.Text (codes "n"))) ≡ to_gateway ++ stops (key 6) incidents.ExtractValueError (codes "KIND") ∷ []
unfolding turn
no_truth = refl

no_value : turns many (begun_of choice_or) ≡ to_gateway ++ stops (key 6) incidents.ExtractValueError (codes "UNKNOWN") ∷ []
unfolding turn
no_value = refl

-- where each is false, and none is the default, there is an incident
abbrev stopped : List Event
stopped = begun_at choice (values.Int (pos 0)) ++ (to_gateway ++ stops (key 6) incidents.ConditionError (codes "x") ∷ [])

all_false : turns many (begun_at choice (values.Int (pos 0))) ≡ to_gateway ++ stops (key 6) incidents.ConditionError (codes "x") ∷ []
unfolding turn
all_false = refl

stopped_applies : all_apply 1 [] stopped ≡ true
unfolding first_fault
stopped_applies = refl

stopped_waits : turn 1 0 stopped ≡ None
unfolding turn
stopped_waits = refl

-- it is resolved while n is what it was, and stands again; or after n is another
resolve_none : reason_to_resolve stopped (key 6) ≡ None
resolve_none = refl

resolve_cell : reason_to_resolve stopped (key 5) ≡ Some (record { kind = kinds_of.NotFound; reason = no_incident (key 5) })
resolve_cell = refl

resolve_twice : reason_to_resolve (stopped ++ resolved (key 6) stopped) (key 6) ≡ Some (record { kind = kinds_of.NotFound; reason = no_incident (key 6) })
resolve_twice = refl

again : turns many (stopped ++ resolved (key 6) stopped) ≡ stops (key 7) incidents.ConditionError (codes "x") ∷ []
unfolding turn
again = refl

abbrev set_n : List Event
set_n = updated (record { scope = key 3; local = false; variables = record { name = codes "n"; value = values.Int (pos 1) } ∷ [] }) stopped

goes_on : turns many (stopped ++ (set_n ++ resolved (key 6) (stopped ++ set_n))) ≡ goes_by (key 7) (codes "b") (codes "d")
unfolding turn
goes_on = refl

goes_on_applies : all_apply 1 stopped (set_n ++ (resolved (key 6) (stopped ++ set_n) ++ goes_by (key 7) (codes "b") (codes "d"))) ≡ true
goes_on_applies = refl

-- a cancel calls the gateway off, and its incident is resolved right behind
abbrev stopped_ends : List Event
stopped_ends = events.ElementTerminating (key 3) ∷ events.ElementTerminating (key 5) ∷ events.IncidentResolved (record { key = key 6; job = 0 }) ∷ events.ElementTerminated (key 5) ∷ events.ElementTerminated (key 3) ∷ []

stopped_cancel : cancelled 1 0 (key 3) stopped ++ turns many (stopped ++ cancelled 1 0 (key 3) stopped) ≡ stopped_ends
unfolding turn
stopped_cancel = refl

stopped_cancel_applies : all_apply 1 stopped stopped_ends ≡ true
stopped_cancel_applies = refl

-- a subprocess with a start event and an end event in it, which takes in and gives out variables
abbrev mapping : Tree → List ℕ → Mapping
mapping source target = record { source = source; target = target }

abbrev mapping_model : (ins outs : List Mapping) → Model
mapping_model ins outs = record {
  process = codes "p";
  tag = [];
  nodes = node (codes "s") kinds.StartEvent
      ∷ record (node (codes "t") kinds.SubProcess) { inputs = ins; outputs = outs }
      ∷ record (node (codes "i") kinds.StartEvent) { parent = codes "t" }
      ∷ record (node (codes "o") kinds.EndEvent) { parent = codes "t" }
      ∷ node (codes "e") kinds.EndEvent
      ∷ [];
  flows = flow (codes "f") (codes "s") (codes "t") ∷ flow (codes "g") (codes "i") (codes "o") ∷ flow (codes "h") (codes "t") (codes "e") ∷ [];
}

-- x gets the value of y, and y that of x
abbrev swap : List Mapping
swap = mapping (Name (codes "y")) (codes "x") ∷ mapping (Name (codes "x")) (codes "y") ∷ []

-- n gets 1, and then 2
abbrev twice : List Mapping
twice = mapping (Int (pos 1)) (codes "n") ∷ mapping (Int (pos 2)) (codes "n") ∷ []

-- x gets one more than y
abbrev more : List Mapping
more = mapping (Binary operators.Add (Name (codes "y")) (Int (pos 1))) (codes "x") ∷ []

mapping_is_good : first_fault (mapping_model swap swap) ≡ None
unfolding first_fault
mapping_is_good = refl

-- a variable gets its first value, and another one
abbrev made : ℕ → List ℕ → Value → Event
made cell name value = events.VariableCreated (record { scope = cell; name = name; value = value })

abbrev reset : ℕ → List ℕ → Value → Event
reset cell name value = events.VariableUpdated (record { scope = cell; name = name; value = value })

-- an instance comes to the subprocess
abbrev to_mapping : List Event
to_mapping = activated (key 3) ∷ passes (key 4) (key 3) (codes "s") [] (codes "f" ∷ []) ++ (taken (key 4) (codes "f") ∷ activating (key 5) (key 3) (codes "t") (codes "f") ∷ [])

-- it runs, with these keys from the one of its start event on, and has completed
abbrev runs_inside : ℕ → List Event
runs_inside n = activated (key 5) ∷ passes (key n) (key 5) (codes "i") [] (codes "g" ∷ []) ++ (taken (key n) (codes "g") ∷ passes (key (n + 1)) (key 5) (codes "o") (codes "g") [] ++ events.ElementCompleting (key 5) ∷ [])

-- it is left, and the instance ends
abbrev goes_out : ℕ → List Event
goes_out n = completed (key 5) (codes "h" ∷ []) ∷ taken (key 5) (codes "h") ∷ passes (key n) (key 3) (codes "e") (codes "h") [] ++ ends (key 3)

-- an instance whose x is 1 and whose y is 2
abbrev begun_with_two : (ins outs : List Mapping) → List Event
begun_with_two ins outs = begun_of (mapping_model ins outs) ++ (made (key 3) (codes "x") (values.Int (pos 1)) ∷ made (key 3) (codes "y") (values.Int (pos 2)) ∷ [])

-- worked out by hand: both inputs are evaluated before one is set, and they are set in the subprocess itself
abbrev swaps_in : List Event
swaps_in = to_mapping ++ (made (key 5) (codes "x") (values.Int (pos 2)) ∷ made (key 5) (codes "y") (values.Int (pos 1)) ∷ runs_inside 6 ++ goes_out 8)

swap_in : turns many (begun_with_two swap []) ≡ swaps_in
unfolding turn
swap_in = refl

swap_in_applies : all_apply 1 [] (begun_with_two swap [] ++ swaps_in) ≡ true
unfolding first_fault
swap_in_applies = refl

-- both outputs too, and they are handed up from the scope around it, to the root that has the names
abbrev swaps_out : List Event
swaps_out = to_mapping ++ (runs_inside 6 ++ (reset (key 3) (codes "x") (values.Int (pos 2)) ∷ reset (key 3) (codes "y") (values.Int (pos 1)) ∷ goes_out 8))

swap_out : turns many (begun_with_two [] swap) ≡ swaps_out
unfolding turn
swap_out = refl

swap_out_applies : all_apply 1 [] (begun_with_two [] swap ++ swaps_out) ≡ true
unfolding first_fault
swap_out_applies = refl

-- with both, the outputs are evaluated in the names that the subprocess sees, and so give the root its own values back
swap_both : turns many (begun_with_two swap swap) ≡
    to_mapping ++ (made (key 5) (codes "x") (values.Int (pos 2)) ∷ made (key 5) (codes "y") (values.Int (pos 1)) ∷ runs_inside 6
    ++ (reset (key 3) (codes "x") (values.Int (pos 1)) ∷ reset (key 3) (codes "y") (values.Int (pos 2)) ∷ goes_out 8))
unfolding turn
swap_both = refl

-- two values for one target are both set, in their order: in the subprocess, and in the root
abbrev sets_twice : List Event
sets_twice =
    to_mapping ++ (made (key 5) (codes "n") (values.Int (pos 1)) ∷ reset (key 5) (codes "n") (values.Int (pos 2)) ∷ runs_inside 6
    ++ (made (key 3) (codes "n") (values.Int (pos 1)) ∷ reset (key 3) (codes "n") (values.Int (pos 2)) ∷ goes_out 8))

set_twice : turns many (begun_of (mapping_model twice twice)) ≡ sets_twice
unfolding turn
set_twice = refl

set_twice_applies : all_apply 1 [] (begun_of (mapping_model twice twice) ++ sets_twice) ≡ true
unfolding first_fault
set_twice_applies = refl

-- an input that has no value keeps the subprocess from becoming active; once y is 1 and the incident is resolved it goes on
abbrev begun_of_more : List Event → List Event
begun_of_more first = begun_of (mapping_model more []) ++ first

abbrev kept_at_input : List Event → List ℕ → List Event
kept_at_input first text = begun_of_more first ++ (to_mapping ++ stops (key 6) incidents.ExtractValueError text ∷ [])

abbrev y_set : List Event → List ℕ → List Event
y_set first text = updated (record { scope = key 3; local = false; variables = record { name = codes "y"; value = values.Int (pos 1) } ∷ [] }) (kept_at_input first text)

abbrev mended_input : List Event → List ℕ → List Event
mended_input first text = y_set first text ++ resolved (key 6) (kept_at_input first text ++ y_set first text)

abbrev input_goes_on : List Event
input_goes_on = made (key 5) (codes "x") (values.Int (pos 2)) ∷ runs_inside 7 ++ goes_out 9

-- y has no value
unknown_input : turns many (begun_of_more []) ≡ to_mapping ++ stops (key 6) incidents.ExtractValueError (codes "UNKNOWN") ∷ []
unfolding turn
unknown_input = refl

unknown_input_mended : turns many (kept_at_input [] (codes "UNKNOWN") ++ mended_input [] (codes "UNKNOWN")) ≡ input_goes_on
unfolding turn
unknown_input_mended = refl

unknown_input_applies : all_apply 1 [] (kept_at_input [] (codes "UNKNOWN") ++ (mended_input [] (codes "UNKNOWN") ++ input_goes_on)) ≡ true
unfolding first_fault
unknown_input_applies = refl

-- y is a text
abbrev y_text : List Event
y_text = made (key 3) (codes "y") (values.Text (codes "1")) ∷ []

kind_of_input : turns many (begun_of_more y_text) ≡ to_mapping ++ stops (key 6) incidents.ExtractValueError (codes "KIND") ∷ []
unfolding turn
kind_of_input = refl

kind_of_input_mended : turns many (kept_at_input y_text (codes "KIND") ++ mended_input y_text (codes "KIND")) ≡ input_goes_on
unfolding turn
kind_of_input_mended = refl

-- y is the greatest whole number
abbrev y_greatest : List Event
y_greatest = made (key 3) (codes "y") (values.Int (pos 9223372036854775807)) ∷ []

input_overflows : turns many (begun_of_more y_greatest) ≡ to_mapping ++ stops (key 6) incidents.ExtractValueError (codes "OVERFLOW") ∷ []
unfolding turn
input_overflows = refl

input_overflow_mended : turns many (kept_at_input y_greatest (codes "OVERFLOW") ++ mended_input y_greatest (codes "OVERFLOW")) ≡ input_goes_on
unfolding turn
input_overflow_mended = refl

-- an output that has no value keeps it from being left, and none is set: x is set once both have values
abbrev half_out : List Mapping
half_out = mapping (Int (pos 1)) (codes "x") ∷ mapping (Name (codes "z")) (codes "y") ∷ []

abbrev kept_at_output : List Event
kept_at_output = begun_of (mapping_model [] half_out) ++ (to_mapping ++ (runs_inside 6 ++ stops (key 8) incidents.ExtractValueError (codes "UNKNOWN") ∷ []))

unknown_output : turns many (begun_of (mapping_model [] half_out)) ≡ to_mapping ++ (runs_inside 6 ++ stops (key 8) incidents.ExtractValueError (codes "UNKNOWN") ∷ [])
unfolding turn
unknown_output = refl

-- z is set in the subprocess alone, where the outputs see it
abbrev z_set : List Event
z_set = updated (record { scope = key 5; local = true; variables = record { name = codes "z"; value = values.Int (pos 3) } ∷ [] }) kept_at_output

abbrev mended_output : List Event
mended_output = z_set ++ resolved (key 8) (kept_at_output ++ z_set)

abbrev output_goes_on : List Event
output_goes_on = made (key 3) (codes "x") (values.Int (pos 1)) ∷ made (key 3) (codes "y") (values.Int (pos 3)) ∷ goes_out 9

unknown_output_mended : turns many (kept_at_output ++ mended_output) ≡ output_goes_on
unfolding turn
unknown_output_mended = refl

unknown_output_applies : all_apply 1 [] (kept_at_output ++ (mended_output ++ output_goes_on)) ≡ true
unfolding first_fault
unknown_output_applies = refl

-- a service task between a start event and an end event
abbrev paying : Model
paying = record {
  process = codes "p";
  tag = [];
  nodes = node (codes "s") kinds.StartEvent ∷ record (node (codes "t") kinds.ServiceTask) { name = codes "pay"; retries = 3 } ∷ node (codes "e") kinds.EndEvent ∷ [];
  flows = flow (codes "f") (codes "s") (codes "t") ∷ flow (codes "g") (codes "t") (codes "e") ∷ [];
}

paying_is_good : first_fault paying ≡ None
unfolding first_fault
paying_is_good = refl

-- worked out by hand: the job is made right behind the event by which its cell becomes active, and then nobody is forced
abbrev to_job : List Event
to_job = activated (key 3) ∷ passes (key 4) (key 3) (codes "s") [] (codes "f" ∷ []) ++ (taken (key 4) (codes "f") ∷ activating (key 5) (key 3) (codes "t") (codes "f") ∷ activated (key 5) ∷ job_made (key 6) (key 5) ∷ [])

job_play : turns many (begun_of paying) ≡ to_job
unfolding turn
job_play = refl

abbrev offered : List Event
offered = begun_of paying ++ to_job

-- a worker asks for a job for a second
abbrev asks : List ℕ → Command
asks worker = commands.JobBatchActivate (record { kind = codes "pay"; worker = worker; timeout = 1000; most = 1 })

-- it is given the job, with so many tries, until a deadline, and then is told which
abbrev gives : (worker : List ℕ) → (deadline retries batch : ℕ) → List Event
gives worker deadline retries batch =
    events.JobActivated (record { key = key 6; worker = worker; deadline = deadline; instance = key 3; node = codes "t"; kind = codes "pay"; retries = retries; variables = [] })
    ∷ events.JobBatchActivated (record { key = batch; jobs = key 6 ∷ [] }) ∷ []

no_type : reason_for offered 0 (commands.JobBatchActivate (record { kind = []; worker = codes "a"; timeout = 1000; most = 1 })) ≡ Some (record { kind = kinds_of.InvalidArgument; reason = codes "empty job type" })
no_type = refl

job_is_given : own_events 1 1 offered 0 (asks (codes "a")) ≡ Some (gives (codes "a") 1000 3 (key 7))
job_is_given = refl

abbrev given : List Event
given = offered ++ gives (codes "a") 1000 3 (key 7)

-- another worker gets none as long as the first one has it; once its deadline has come it is taken back, and the other one gets it
none_is_given : own_events 1 1 given 999 (asks (codes "b")) ≡ Some (events.JobBatchActivated (record { key = key 8; jobs = [] }) ∷ [])
none_is_given = refl

not_due_so_far : due_command 999 given ≡ None
not_due_so_far = refl

due_by_then : due_command 1000 given ≡ Some (commands.JobTimeOut (key 6))
due_by_then = refl

abbrev taken_back : List Event
taken_back = events.JobTimedOut (key 6) ∷ gives (codes "b") 2000 3 (key 8)

given_again : own_events 1 1 (given ++ events.JobTimedOut (key 6) ∷ []) 1000 (asks (codes "b")) ≡ Some (gives (codes "b") 2000 3 (key 8))
given_again = refl

-- the first worker completes it still, and the instance ends
abbrev job_completes : Command
job_completes = commands.JobComplete (record { key = key 6; variables = [] })

not_activated : reason_for offered 0 job_completes ≡ Some (record { kind = kinds_of.InvalidState; reason = codes "job 2251799813685254 isn't activated" })
unfolding digits
not_activated = refl

job_is_completed : own_events 1 1 (given ++ taken_back) 1000 job_completes ≡ Some (events.JobCompleted (key 6) ∷ [])
job_is_completed = refl

abbrev paid : List Event
paid =
    events.ElementCompleting (key 5) ∷ completed (key 5) (codes "g" ∷ []) ∷ taken (key 5) (codes "g")
    ∷ passes (key 9) (key 3) (codes "e") (codes "g") [] ++ ends (key 3)

paid_play : turns many ((given ++ taken_back) ++ events.JobCompleted (key 6) ∷ []) ≡ paid
unfolding turn
paid_play = refl

abbrev whole : List Event
whole = given ++ (taken_back ++ events.JobCompleted (key 6) ∷ paid)

paid_applies : all_apply 1 [] whole ≡ true
unfolding first_fault
paid_applies = refl

completed_twice : reason_for whole 1000 job_completes ≡ Some (record { kind = kinds_of.NotFound; reason = codes "no job 2251799813685254" })
unfolding digits
completed_twice = refl

-- what the worker says that came of it is handed up to the root
abbrev says_x : Command
says_x = commands.JobComplete (record { key = key 6; variables = record { name = codes "x"; value = values.Int (pos 1) } ∷ [] })

results_go_up : own_events 1 1 given 0 says_x ≡ Some (events.JobCompleted (key 6) ∷ made (key 3) (codes "x") (values.Int (pos 1)) ∷ [])
results_go_up = refl

-- where the task has outputs it stays in the task, until they hand it up
abbrev paying_out : Model
paying_out = record paying { nodes = node (codes "s") kinds.StartEvent ∷ record (node (codes "t") kinds.ServiceTask) { name = codes "pay"; retries = 3; outputs = mapping (Name (codes "x")) (codes "y") ∷ [] } ∷ node (codes "e") kinds.EndEvent ∷ [] }

abbrev given_out : List Event
given_out = begun_of paying_out ++ (to_job ++ gives (codes "a") 1000 3 (key 7))

abbrev x_stays : List Event
x_stays = events.JobCompleted (key 6) ∷ made (key 5) (codes "x") (values.Int (pos 1)) ∷ []

results_stay : own_events 1 1 given_out 0 says_x ≡ Some x_stays
results_stay = refl

abbrev paid_out : List Event
paid_out =
    events.ElementCompleting (key 5) ∷ made (key 3) (codes "y") (values.Int (pos 1)) ∷ completed (key 5) (codes "g" ∷ []) ∷ taken (key 5) (codes "g")
    ∷ passes (key 8) (key 3) (codes "e") (codes "g") [] ++ ends (key 3)

outputs_go_up : turns many (given_out ++ x_stays) ≡ paid_out
unfolding turn
outputs_go_up = refl

results_apply : all_apply 1 [] (given_out ++ (x_stays ++ paid_out)) ≡ true
unfolding first_fault
results_apply = refl

-- the job fails without a try left: an incident stands on its cell, and is resolved only where there are tries again
abbrev job_fails : List Event
job_fails =
    events.JobFailed (record { key = key 6; retries = 0; text = codes "no" })
    ∷ events.IncidentCreated (record { key = key 8; kind = incidents.JobNoRetries; cell = key 5; job = key 6; text = codes "no" }) ∷ []

job_has_failed : own_events 1 1 given 0 (commands.JobFail (record { key = key 6; retries = 0; text = codes "no" })) ≡ Some job_fails
job_has_failed = refl

no_tries : reason_for (given ++ job_fails) 0 (commands.IncidentResolve (key 8)) ≡ Some (record { kind = kinds_of.InvalidState; reason = codes "job 2251799813685254 has no retries" })
unfolding digits
no_tries = refl

abbrev tries_again : List Event
tries_again = job_fails ++ events.JobRetriesUpdated (record { key = key 6; retries = 2 }) ∷ []

tries_are_given : own_events 1 1 (given ++ job_fails) 0 (commands.JobUpdateRetries (record { key = key 6; retries = 2 })) ≡ Some (events.JobRetriesUpdated (record { key = key 6; retries = 2 }) ∷ [])
tries_are_given = refl

-- it isn't offered before the incident is resolved
not_offered : own_events 1 1 (given ++ tries_again) 0 (asks (codes "b")) ≡ Some (events.JobBatchActivated (record { key = key 9; jobs = [] }) ∷ [])
not_offered = refl

tries_resolve : reason_for (given ++ tries_again) 0 (commands.IncidentResolve (key 8)) ≡ None
tries_resolve = refl

abbrev tried_again : List Event
tried_again = tries_again ++ events.IncidentResolved (record { key = key 8; job = key 6 }) ∷ gives (codes "b") 1000 2 (key 9)

try_is_resolved : own_events 1 1 (given ++ tries_again) 0 (commands.IncidentResolve (key 8)) ≡ Some (events.IncidentResolved (record { key = key 8; job = key 6 }) ∷ [])
try_is_resolved = refl

is_offered_again : own_events 1 1 (given ++ (tries_again ++ events.IncidentResolved (record { key = key 8; job = key 6 }) ∷ [])) 0 (asks (codes "b")) ≡ Some (gives (codes "b") 1000 2 (key 9))
is_offered_again = refl

tried_again_applies : all_apply 1 given tried_again ≡ true
tried_again_applies = refl

-- an error is thrown in the job: nothing catches it, so an incident stands on its cell, and stands again where it is resolved
abbrev error_stops : ℕ → Event
error_stops incident = stops incident incidents.UnhandledErrorEvent (codes "E")

abbrev error_thrown : List Event
error_thrown = events.JobErrorThrown (record { key = key 6; code = codes "E" }) ∷ []

error_is_thrown : own_events 1 1 given 0 (commands.JobThrowError (record { key = key 6; code = codes "E" })) ≡ Some error_thrown
error_is_thrown = refl

error_play : turns many (given ++ error_thrown) ≡ error_stops (key 8) ∷ []
unfolding turn
error_play = refl

abbrev error_resolved : List Event
error_resolved = error_thrown ++ error_stops (key 8) ∷ events.IncidentResolved (record { key = key 8; job = 0 }) ∷ []

error_is_resolved : own_events 1 1 (given ++ (error_thrown ++ error_stops (key 8) ∷ [])) 0 (commands.IncidentResolve (key 8)) ≡ Some (events.IncidentResolved (record { key = key 8; job = 0 }) ∷ [])
error_is_resolved = refl

error_again : turns many (given ++ error_resolved) ≡ error_stops (key 9) ∷ []
unfolding turn
error_again = refl

error_applies : all_apply 1 given (error_resolved ++ error_stops (key 9) ∷ []) ≡ true
error_applies = refl

-- what no request makes, but a log may have: a catch event whose timer has no expression, which has no value, so an incident stands on its cell
abbrev timeless : Model
timeless = record process {
  nodes = node (codes "s") kinds.StartEvent ∷ node (codes "c") kinds.DurationCatchEvent ∷ node (codes "e") kinds.EndEvent ∷ [];
  flows = flow (codes "f") (codes "s") (codes "c") ∷ flow (codes "g") (codes "c") (codes "e") ∷ [];
}

timeless_is_good : first_fault timeless ≡ None
unfolding first_fault
timeless_is_good = refl

abbrev timeless_stops : List Event
timeless_stops =
    activated (key 3) ∷ passes (key 4) (key 3) (codes "s") [] (codes "f" ∷ [])
    ++ (taken (key 4) (codes "f") ∷ activating (key 5) (key 3) (codes "c") (codes "f") ∷ stops (key 6) incidents.ExtractValueError (codes "UNKNOWN") ∷ [])

timeless_play : turns many (begun_of timeless) ≡ timeless_stops
unfolding turn
timeless_play = refl

timeless_applies : all_apply 1 [] (begun_of timeless ++ timeless_stops) ≡ true
unfolding first_fault
timeless_applies = refl

-- and one that is spelled as attached to a task, which is no boundary event of that: no timer opens at the task, nor may one
abbrev beside : Model
beside = record process {
  nodes = node (codes "s") kinds.StartEvent ∷ record (node (codes "t") kinds.ServiceTask) { name = codes "pay"; retries = 3 }
      ∷ record (node (codes "c") kinds.DurationCatchEvent) { attached = codes "t"; cancel = true; expr = Some (Text (codes "PT1S")) } ∷ node (codes "e") kinds.EndEvent ∷ [];
  flows = flow (codes "f") (codes "s") (codes "t") ∷ flow (codes "g") (codes "t") (codes "c") ∷ flow (codes "h") (codes "c") (codes "e") ∷ [];
}

beside_is_good : first_fault beside ≡ None
unfolding first_fault
beside_is_good = refl

abbrev beside_plays : List Event
beside_plays =
    activated (key 3) ∷ passes (key 4) (key 3) (codes "s") [] (codes "f" ∷ [])
    ++ (taken (key 4) (codes "f") ∷ activating (key 5) (key 3) (codes "t") (codes "f") ∷ activated (key 5) ∷ job_made (key 6) (key 5) ∷ [])

beside_play : turns many (begun_of beside) ≡ beside_plays
unfolding turn
beside_play = refl

beside_opens_none : all_apply 1 (begun_of beside ++ beside_plays) (events.TimerCreated (record { key = key 7; cell = key 5; node = codes "c"; due = 1000 }) ∷ []) ≡ false
beside_opens_none = refl

-- a message has the names of its variables in their order, each once
abbrev told : List Variable → Event
told variables = events.MessagePublished (record { key = key 1; name = codes "paid"; correlation_key = codes "o-1"; id = []; deadline = 1000; variables = variables })

told_in_order : all_apply 1 [] (told (value 97 ∷ value 98 ∷ []) ∷ []) ≡ true
told_in_order = refl

told_twice : all_apply 1 [] (told (value 97 ∷ value 97 ∷ []) ∷ []) ≡ false
told_twice = refl
