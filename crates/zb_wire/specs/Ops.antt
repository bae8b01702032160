-- The ops, a row for each, with what they ask for (Zeebe, the fields).
use Rattle.std.specs.Prelude.{ℕ, ◌+◌, ◌-◌, ◌%◌, max, List, [], ◌∷◌, codes, Bool, true, false, ◌&&◌, ◌||◌, not, is_some, if◌then◌else◌, Option}
use Rattle.std.specs.List.{find}
use Rattle.std.specs.Str.{bytes_eq}
use Rattle.serde_json.specs.Data.{Data}
use Rattle.serde_json.specs.Find.{get}
use Rattle.zb_exchange_records.specs.declared.job.JobBatchActivate.{JobBatchActivate}
use Rattle.zb_exchange_records.specs.declared.job.JobComplete.{JobComplete}
use Rattle.zb_exchange_records.specs.declared.job.JobFailure.{JobFailure}
use Rattle.zb_exchange_records.specs.declared.job.JobError.{JobError}
use Rattle.zb_exchange_records.specs.declared.job.JobRetries.{JobRetries}
use Rattle.zb_exchange_records.specs.declared.message.MessagePublish.{MessagePublish}
use Rattle.zb_instance_records.specs.declared.happening.VariableDocumentUpdate.{VariableDocumentUpdate}
use Rattle.zb_instance_records.specs.declared.instance.ProcessInstanceCreationCreate.{ProcessInstanceCreationCreate}
use Rattle.zb_reader.specs.Kinds.{text_in}
use Rattle.zb_reader.specs.Layout.{flag_in}
use Rattle.zb_wire.specs.Variables.{longest_name, longest_text}
use Rattle.zb_wire.specs.Fields.{must, may, count_at, short_count_at, variables_of_field, model_at}
use Rattle.zb_wire.specs.Op.{Op}
use Rattle.zb_wire.specs.declared.given.Given.{Given}
use Rattle.zb_wire.specs.declared.kind.Kind.{Kind}
use Rattle.zb_wire.specs.declared.kind.Kind.TheVariants as kinds
use Rattle.zb_wire.specs.declared.ops.OpName.{OpName}
use Rattle.zb_wire.specs.declared.ops.OpName.TheVariants as names
use Rattle.zb_wire.specs.declared.request.Request.{Request}
use Rattle.zb_wire.specs.declared.request.Request.TheVariants as requests

-- a name or an id: a text of at most 255 bytes (own)
abbrev pub a_name : Kind
a_name = kinds.Text longest_name

-- the longest time, in milliseconds (own)
abbrev pub longest_duration : ℕ
longest_duration = 4000000000000

-- how long something lasts, in milliseconds (own)
abbrev pub a_duration : Kind
a_duration = kinds.Number 0 longest_duration

-- a key: a whole number of 64 bits (own)
abbrev pub a_key : Kind
a_key = kinds.Number 0 18446744073709551615

-- the partition that the fields of a line ask; where they name none, the lines of a session ask one after the other (own)
abbrev pub partition_in : Given → Data → ℕ
partition_in given d = if is_some (get (codes "partition") d) then short_count_at (codes "partition") d else (given.number - 1) % max given.partitions 1 + 1

-- a deploy
abbrev pub deploy : Op
deploy = record {
  name = codes "deploy";
  by_hand = false;
  fields = must (codes "model") kinds.Model ∷ [];
  request = λ given d. requests.Deploy (model_at (codes "model") d);
}

-- the instance that the fields of a create ask for; the version 0 asks for the latest
abbrev pub creation_of : Data → ProcessInstanceCreationCreate
creation_of d = record { process = text_in (codes "process") d; version = short_count_at (codes "version") d; variables = variables_of_field (codes "variables") d }

-- a create
abbrev pub create : Op
create = record {
  name = codes "create";
  by_hand = false;
  fields =
      must (codes "process") a_name
      ∷ may (codes "version") (kinds.Number 0 4294967295)
      ∷ may (codes "variables") kinds.Variables
      ∷ may (codes "partition") kinds.Partition
      ∷ [];
  request = λ given d. requests.Create (partition_in given d) (creation_of d);
}

-- an op of this name whose one field is a key, which the request names
abbrev pub by_key : List ℕ → (ℕ → Request) → Op
by_key name request_for = record {
  name = name;
  by_hand = false;
  fields = must (codes "key") a_key ∷ [];
  request = λ given d. request_for (count_at (codes "key") d);
}

-- a cancel of an instance
abbrev pub cancel : Op
cancel = by_key (codes "cancel") requests.Cancel

-- the values that the fields of a variables line ask to be set
abbrev pub update_of : Data → VariableDocumentUpdate
update_of d = record { scope = count_at (codes "key") d; local = flag_in (codes "local") false d; variables = variables_of_field (codes "variables") d }

-- a setting of variables
abbrev pub set_variables : Op
set_variables = record {
  name = codes "variables";
  by_hand = false;
  fields =
      must (codes "key") a_key
      ∷ must (codes "variables") kinds.Variables
      ∷ may (codes "local") kinds.Flag
      ∷ [];
  request = λ given d. requests.Variables (update_of d);
}

-- so many tries of a job may be left (own)
abbrev pub a_retry_count : Kind
a_retry_count = kinds.Number 0 1000000

-- the jobs that the fields of an activate ask for
abbrev pub activation_of : Data → JobBatchActivate
activation_of d = record { kind = text_in (codes "type") d; worker = text_in (codes "worker") d; timeout = count_at (codes "timeout") d; most = short_count_at (codes "max") d }

-- an activation of jobs, which takes from 1 to 1,000 of them (own)
abbrev pub activate_jobs : Op
activate_jobs = record {
  name = codes "activate";
  by_hand = false;
  fields =
      must (codes "type") a_name
      ∷ must (codes "worker") a_name
      ∷ must (codes "timeout") (kinds.Number 1 longest_duration)
      ∷ must (codes "max") (kinds.Number 1 1000)
      ∷ may (codes "partition") kinds.Partition
      ∷ [];
  request = λ given d. requests.Activate (partition_in given d) (activation_of d);
}

-- the job that the fields of a complete end, with its results
abbrev pub completing_of : Data → JobComplete
completing_of d = record { key = count_at (codes "key") d; variables = variables_of_field (codes "variables") d }

-- a completion of a job
abbrev pub complete_job : Op
complete_job = record {
  name = codes "complete";
  by_hand = false;
  fields = must (codes "key") a_key ∷ may (codes "variables") kinds.Variables ∷ [];
  request = λ given d. requests.Complete (completing_of d);
}

-- the job that the fields of a fail say has failed
abbrev pub failure_of : Data → JobFailure
failure_of d = record { key = count_at (codes "key") d; retries = short_count_at (codes "retries") d; text = text_in (codes "message") d }

-- a failure of a job
abbrev pub fail_job : Op
fail_job = record {
  name = codes "fail";
  by_hand = false;
  fields =
      must (codes "key") a_key
      ∷ must (codes "retries") a_retry_count
      ∷ may (codes "message") (kinds.Text longest_text)
      ∷ [];
  request = λ given d. requests.Fail (failure_of d);
}

-- the job that the fields of a throw end, by an error of this code
abbrev pub thrown_of : Data → JobError
thrown_of d = record { key = count_at (codes "key") d; code = text_in (codes "code") d }

-- an error that a worker throws
abbrev pub throw_error : Op
throw_error = record {
  name = codes "throw";
  by_hand = false;
  fields = must (codes "key") a_key ∷ must (codes "code") a_name ∷ [];
  request = λ given d. requests.Throw (thrown_of d);
}

-- the tries that the fields of a retries line leave a job
abbrev pub retries_of : Data → JobRetries
retries_of d = record { key = count_at (codes "key") d; retries = short_count_at (codes "retries") d }

-- a setting of the tries that a job has left
abbrev pub update_retries : Op
update_retries = record {
  name = codes "retries";
  by_hand = false;
  fields = must (codes "key") a_key ∷ must (codes "retries") a_retry_count ∷ [];
  request = λ given d. requests.Retries (retries_of d);
}

-- the message that the fields of a publish ask for
abbrev pub message_of : Data → MessagePublish
message_of d = record { name = text_in (codes "name") d; correlation_key = text_in (codes "correlationKey") d; time_to_live = count_at (codes "timeToLive") d; id = text_in (codes "messageId") d; variables = variables_of_field (codes "variables") d }

-- a publish
abbrev pub publish : Op
publish = record {
  name = codes "publish";
  by_hand = false;
  fields =
      must (codes "name") a_name
      ∷ must (codes "correlationKey") a_name
      ∷ must (codes "timeToLive") a_duration
      ∷ may (codes "messageId") a_name
      ∷ may (codes "variables") kinds.Variables
      ∷ [];
  request = λ given d. requests.Publish (message_of d);
}

-- a resolving of an incident
abbrev pub resolve : Op
resolve = by_key (codes "resolve") requests.Resolve

-- a tick, which has no fields (own)
abbrev pub tick : Op
tick = record { name = codes "tick"; by_hand = false; fields = []; request = λ given d. requests.Tick }

-- an advance of the clock that is moved by hand (own)
abbrev pub advance : Op
advance = record {
  name = codes "advance";
  by_hand = true;
  fields = must (codes "ms") a_duration ∷ [];
  request = λ given d. requests.Advance (count_at (codes "ms") d);
}

-- a settle, which has no fields (own)
abbrev pub settle : Op
settle = record { name = codes "settle"; by_hand = false; fields = []; request = λ given d. requests.Settle }

-- all of them
abbrev pub ops : List Op
ops =
    deploy
    ∷ create
    ∷ cancel
    ∷ set_variables
    ∷ activate_jobs
    ∷ complete_job
    ∷ fail_job
    ∷ throw_error
    ∷ update_retries
    ∷ publish
    ∷ resolve
    ∷ tick
    ∷ advance
    ∷ settle
    ∷ []

-- the op of a name in the code
abbrev pub op_of : OpName → Op
op_of names.Deploy = deploy
op_of names.Create = create
op_of names.Cancel = cancel
op_of names.Variables = set_variables
op_of names.Activate = activate_jobs
op_of names.Complete = complete_job
op_of names.Fail = fail_job
op_of names.Throw = throw_error
op_of names.Retries = update_retries
op_of names.Publish = publish
op_of names.Resolve = resolve
op_of names.Tick = tick
op_of names.Advance = advance
op_of names.Settle = settle

-- an op has this name, and wants no clock that is moved by hand, or that is given
abbrev pub is_called : Given → List ℕ → Op → Bool
is_called given name op = (not op.by_hand || given.manual) && bytes_eq name op.name

-- the op of this name
unfoldable pub op_named : Given → List ℕ → Option Op
op_named given name = find (is_called given name) ops
