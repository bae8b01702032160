-- What a request asks for, and of which partition.
use Rattle.std.specs.Prelude.{ℕ, Option, Some, None}
use Rattle.std.specs.Option.{option_map_or}
use Rattle.zb_base.specs.Key.{home_of}
use Rattle.zb_model.specs.declared.record.Command.{Command}
use Rattle.zb_model.specs.declared.record.Command.TheVariants as commands
use Rattle.zb_record.specs.Partitions.{partition_known, partition_of_key}
use Rattle.zb_wire.specs.declared.request.Request.{Request}
use Rattle.zb_wire.specs.declared.request.Request.TheVariants as requests

-- the command of a client that a request asks for; the clock's two ops and a settle ask for none
abbrev pub command_of : Request → Option Command
command_of (requests.Deploy m) = Some (commands.DeploymentCreate m)
command_of (requests.Create partition c) = Some (commands.ProcessInstanceCreationCreate c)
command_of (requests.Cancel key) = Some (commands.ProcessInstanceCancel key)
command_of (requests.Variables u) = Some (commands.VariableDocumentUpdate u)
command_of (requests.Activate partition a) = Some (commands.JobBatchActivate a)
command_of (requests.Complete c) = Some (commands.JobComplete c)
command_of (requests.Fail f) = Some (commands.JobFail f)
command_of (requests.Throw t) = Some (commands.JobThrowError t)
command_of (requests.Retries r) = Some (commands.JobUpdateRetries r)
command_of (requests.Publish m) = Some (commands.MessagePublish m)
command_of (requests.Resolve key) = Some (commands.IncidentResolve key)
command_of requests.Tick = None
command_of (requests.Advance ms) = None
command_of requests.Settle = None

-- the key that a request names, if it names one
abbrev pub key_named : Request → Option ℕ
key_named (requests.Cancel key) = Some key
key_named (requests.Variables u) = Some u.scope
key_named (requests.Complete c) = Some c.key
key_named (requests.Fail f) = Some f.key
key_named (requests.Throw t) = Some t.key
key_named (requests.Retries r) = Some r.key
key_named (requests.Resolve key) = Some key
key_named _ = None

-- the partition, of n of them, that is asked for the command of a request: the one that it names, the home of a message, that of a key, or else the first
abbrev pub partition_asked : ℕ → Request → ℕ
partition_asked n (requests.Create partition c) = partition_known n partition
partition_asked n (requests.Activate partition a) = partition_known n partition
partition_asked n (requests.Publish m) = home_of m.correlation_key n
partition_asked n request = option_map_or (partition_of_key n) (key_named request) 1
