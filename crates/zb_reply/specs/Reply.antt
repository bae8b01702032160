-- The reply to a request, and its line: compact JSON (RFC 8259) with keys in byte order, and a newline.
use Rattle.std.specs.Prelude.{◌≡◌, ℕ, List, [], ◌∷◌, ◌++◌, codes, Bool, true, false, Option, Some, None}
use Rattle.std.specs.Fmt.{decimal, signed_decimal}
use Rattle.std.specs.List.{filter_map}
use Rattle.serde_json.specs.Data.{string}
use Rattle.serde_json.specs.Written.{compact_text}
use Rattle.zb_base.specs.declared.value.Value.{Value}
use Rattle.zb_base.specs.declared.value.Value.TheVariants as values
use Rattle.zb_base.specs.declared.vars.Variable.{Variable}
use Rattle.zb_exchange_records.specs.declared.job.JobActivated.{JobActivated}
use Rattle.zb_instance_records.specs.declared.deployment.ProcessDefinition.{ProcessDefinition}
use Rattle.zb_instance_records.specs.declared.deployment.DefinitionLink.{DefinitionLink}
use Rattle.zb_model.specs.declared.record.Command.{Command}
use Rattle.zb_model.specs.declared.record.Command.TheVariants as commands
use Rattle.zb_model.specs.declared.record.Event.{Event}
use Rattle.zb_model.specs.declared.record.Event.TheVariants as events
use Rattle.zb_model.specs.declared.record.Outcome.{Outcome}
use Rattle.zb_model.specs.declared.record.Outcome.TheVariants as outcomes
use Rattle.zb_model.specs.declared.record.Batch.{Batch}
use Rattle.zb_model.specs.declared.record.Rejection.{Rejection}
use Rattle.zb_model.specs.declared.record.RejectionKind.{RejectionKind}
use Rattle.zb_model.specs.declared.record.RejectionKind.TheVariants as kinds
use Rattle.zb_wire.specs.First.{first_told}
use Rattle.zb_wire.specs.declared.request.LineFault.{LineFault}
use Rattle.zb_wire.specs.declared.request.LineFault.TheVariants as faults
use Rattle.zb_reply.specs.declared.reply.DeployedReply.{DeployedReply}
use Rattle.zb_reply.specs.declared.reply.Created.{Created}
use Rattle.zb_reply.specs.declared.reply.ActivatedJob.{ActivatedJob}
use Rattle.zb_reply.specs.declared.reply.Reply.{Reply}
use Rattle.zb_reply.specs.declared.reply.Reply.TheVariants as replies

-- what is told of a definition
abbrev pub deployed_of : ProcessDefinition → DeployedReply
deployed_of e = record { definition = e.key; process = e.model.process; version = e.version }

-- what is told of an instance
abbrev pub created_of : DefinitionLink → Created
created_of e = record { definition = e.definition; instance = e.key }

-- what is told of a job that a worker was given
abbrev pub activated_of : JobActivated → ActivatedJob
activated_of e = record { deadline = e.deadline; element = e.node; instance = e.instance; job = e.key; retries = e.retries; kind = e.kind; variables = e.variables }

-- a deployment is answered by the definition that it makes
abbrev pub deploy_answer : Event → Option Reply
deploy_answer (events.ProcessCreated e) = Some (replies.Deploy (deployed_of e))
deploy_answer _ = None

-- a creation by the instance
abbrev pub create_answer : Event → Option Reply
create_answer (events.ProcessInstanceCreationCreated e) = Some (replies.Create (created_of e))
create_answer _ = None

-- a publish by the message
abbrev pub publish_answer : Event → Option Reply
publish_answer (events.MessagePublished e) = Some (replies.Publish e.key)
publish_answer _ = None

-- an activation of jobs by each job that a worker was given
abbrev pub activated_job : Event → Option ActivatedJob
activated_job (events.JobActivated e) = Some (activated_of e)
activated_job _ = None

-- the reply to a command that was accepted with these events: what the first of them tells that tells something, all
-- jobs that they tell, also where they tell none, or the key that the command itself names; None where no request asks for the command, or its events tell nothing
abbrev pub accepted_answer : Command → List Event → Option Reply
accepted_answer (commands.DeploymentCreate m) es = first_told deploy_answer es
accepted_answer (commands.ProcessInstanceCreationCreate c) es = first_told create_answer es
accepted_answer (commands.ProcessInstanceCancel key) es = Some (replies.Cancel key)
accepted_answer (commands.VariableDocumentUpdate u) es = Some (replies.Variables u.scope)
accepted_answer (commands.JobBatchActivate a) es = Some (replies.Activate (filter_map activated_job es))
accepted_answer (commands.JobComplete c) es = Some (replies.Complete c.key)
accepted_answer (commands.JobFail f) es = Some (replies.Fail f.key)
accepted_answer (commands.JobThrowError t) es = Some (replies.Throw t.key)
accepted_answer (commands.JobUpdateRetries r) es = Some (replies.Retries r.key)
accepted_answer (commands.MessagePublish m) es = first_told publish_answer es
accepted_answer (commands.IncidentResolve key) es = Some (replies.Resolve key)
accepted_answer _ es = None

-- the reply to a command that had this outcome: a rejected one is answered with the rejection
abbrev pub answer_to : Command → Outcome → Option Reply
answer_to command (outcomes.Accepted es) = accepted_answer command es
answer_to command (outcomes.Rejected r) = Some (replies.Rejected r)

-- the reply to the request whose command became this batch
unfoldable pub answer_of : Batch → Option Reply
answer_of batch = answer_to batch.command batch.outcome

-- the last field of a reply
abbrev pub units_of : Option ℕ → List ℕ
units_of None = []
units_of (Some units) = codes ",\"units\":" ++ decimal units

-- a text in quotes (RFC 8259, section 7)
unfoldable pub quoted : List ℕ → List ℕ
quoted s = compact_text (string s)

-- the name of a kind of rejection
abbrev pub kind_name : RejectionKind → List ℕ
kind_name kinds.InvalidArgument = codes "INVALID_ARGUMENT"
kind_name kinds.NotFound = codes "NOT_FOUND"
kind_name kinds.AlreadyExists = codes "ALREADY_EXISTS"
kind_name kinds.InvalidState = codes "INVALID_STATE"

-- the name of a fault; want of memory has none
abbrev pub fault_name : LineFault → List ℕ
fault_name faults.TooLong = codes "TOO_LONG"
fault_name faults.NotJson = codes "NOT_JSON"
fault_name faults.NotObject = codes "NOT_OBJECT"
fault_name faults.NoOp = codes "NO_OP"
fault_name faults.UnknownOp = codes "UNKNOWN_OP"
fault_name (faults.Field field path) = codes "FIELD"
fault_name (faults.Range field) = codes "RANGE"
fault_name faults.Memory = []

-- the field that a fault names
abbrev pub fault_field : LineFault → List ℕ
fault_field (faults.Field field path) = codes ",\"field\":" ++ quoted field
fault_field (faults.Range field) = codes ",\"field\":" ++ quoted field
fault_field _ = []

-- the place in the field's value that a fault names
abbrev pub fault_path : LineFault → List ℕ
fault_path (faults.Field field (Some path)) = codes ",\"path\":" ++ quoted path
fault_path _ = []

-- a comma, where something stands in front
abbrev pub comma_behind : Bool → List ℕ
comma_behind false = []
comma_behind true = codes ","

-- items with commas between, and one in front where something stands there (RFC 8259, sections 4 and 5)
abbrev pub listed : {A : Type 0} → (A → List ℕ) → Bool → List A → List ℕ
listed text behind [] = []
listed text behind (x ∷ xs) = comma_behind behind ++ (text x ++ listed text true xs)

-- a truth value (RFC 8259, section 3)
abbrev pub truth_text : Bool → List ℕ
truth_text true = codes "true"
truth_text false = codes "false"

-- the value of a variable (RFC 8259, sections 3, 5, 6 and 7)
abbrev pub value_text : Value → List ℕ
value_text (values.Int n) = signed_decimal n
value_text (values.Bool b) = truth_text b
value_text (values.Text s) = quoted s
value_text (values.List ns) = codes "[" ++ (listed signed_decimal false ns ++ codes "]")

-- a variable as a member of an object (RFC 8259, section 4)
abbrev pub variable_text : Variable → List ℕ
variable_text v = quoted v.name ++ (codes ":" ++ value_text v.value)

-- the object of variables, in their order (RFC 8259, section 4)
abbrev pub variables_text : List Variable → List ℕ
variables_text vs = codes "{" ++ (listed variable_text false vs ++ codes "}")

-- what a line tells under a name
pub data Member : Type 0 where
  a_number : List ℕ → ℕ → Member
  a_text : List ℕ → List ℕ → Member
  some_variables : List ℕ → List Variable → Member

-- a name, and a colon (RFC 8259, section 4)
abbrev pub name_text : List ℕ → List ℕ
name_text name = codes "\"" ++ (name ++ codes "\":")

-- a name with what is told under it
abbrev pub member_text : Member → List ℕ
member_text (a_number name n) = name_text name ++ decimal n
member_text (a_text name s) = name_text name ++ quoted s
member_text (some_variables name vs) = name_text name ++ variables_text vs

-- what is told of a job, in byte order of the names (own)
unfoldable pub job_members : ActivatedJob → List Member
job_members j =
    a_number (codes "deadline") j.deadline
    ∷ a_text (codes "element") j.element
    ∷ a_number (codes "instance") j.instance
    ∷ a_number (codes "job") j.job
    ∷ a_number (codes "retries") j.retries
    ∷ a_text (codes "type") j.kind
    ∷ some_variables (codes "variables") j.variables
    ∷ []

-- the object of a job (RFC 8259, section 4)
abbrev pub job_text : ActivatedJob → List ℕ
job_text j = codes "{" ++ (listed member_text false (job_members j) ++ codes "}")

-- the jobs that a worker was given, in their order (RFC 8259, section 5)
abbrev pub jobs_text : List ActivatedJob → List ℕ
jobs_text jobs = name_text (codes "jobs") ++ (codes "[" ++ (listed job_text false jobs ++ codes "]"))

-- what the line of a request that was done tells in numbers and texts, in byte order of the names
abbrev pub members_told : Reply → List Member
members_told (replies.Deploy d) = a_number (codes "definition") d.definition ∷ a_text (codes "process") d.process ∷ a_number (codes "version") d.version ∷ []
members_told (replies.Create c) = a_number (codes "definition") c.definition ∷ a_number (codes "instance") c.instance ∷ []
members_told (replies.Cancel key) = a_number (codes "instance") key ∷ []
members_told (replies.Variables key) = a_number (codes "scope") key ∷ []
members_told (replies.Complete key) = a_number (codes "job") key ∷ []
members_told (replies.Fail key) = a_number (codes "job") key ∷ []
members_told (replies.Throw key) = a_number (codes "job") key ∷ []
members_told (replies.Retries key) = a_number (codes "job") key ∷ []
members_told (replies.Publish key) = a_number (codes "message") key ∷ []
members_told (replies.Resolve key) = a_number (codes "incident") key ∷ []
members_told (replies.Tick due) = a_number (codes "due") due ∷ []
members_told (replies.Advance now) = a_number (codes "now") now ∷ []
members_told _ = []

-- what the line of a request that was done tells
abbrev pub told_text : Reply → List ℕ
told_text (replies.Activate jobs) = jobs_text jobs
told_text reply = listed member_text false (members_told reply)

-- the line of a request that was done, which tells this
abbrev pub ok_line : List ℕ → Option ℕ → List ℕ
ok_line told units = codes "{\"ok\":{" ++ (told ++ (codes "}" ++ (units_of units ++ codes "}\n")))

-- the line of a request that was rejected
abbrev pub rejected_line : Rejection → Option ℕ → List ℕ
rejected_line r units = codes "{\"reason\":" ++ (quoted r.reason ++ (codes ",\"rejected\":\"" ++ (kind_name r.kind ++ (codes "\"" ++ (units_of units ++ codes "}\n")))))

-- the line of a fault, which names the number of its line
abbrev pub fault_line : ℕ → LineFault → List ℕ
fault_line number fault = codes "{\"fault\":\"" ++ (fault_name fault ++ (codes "\"" ++ (fault_field fault ++ (codes ",\"line\":" ++ (decimal number ++ (fault_path fault ++ codes "}\n"))))))

-- the line of a reply; that of a fault has no units
unfoldable pub line_of : Reply → Option ℕ → List ℕ
line_of (replies.Rejected r) units = rejected_line r units
line_of (replies.Fault number fault) units = fault_line number fault
line_of reply units = ok_line (told_text reply) units

-- a reply that has a line: one that isn't want of memory
abbrev pub IsSpoken : Reply → Type 0
IsSpoken (replies.Fault number fault) = ¬ (fault ≡ faults.Memory)
IsSpoken _ = Unit {0}
