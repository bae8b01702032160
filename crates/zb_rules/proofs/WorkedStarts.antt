-- Starts by messages, worked out by hand: a process that starts by a message, one that meets an instance with its correlation key, and one that starts behind the end of that.
use Rattle.std.proofs.Common.{◌≡◌, ℕ, List, [], ◌∷◌, ◌++◌, false, None, refl}
use Rattle.std.specs.Prelude.{codes}
use Rattle.zb_process.specs.declared.model.Model.{Model}
use Rattle.zb_process.specs.declared.model.Node.{Node}
use Rattle.zb_process.specs.declared.model.NodeKind.{NodeKind}
use Rattle.zb_process.specs.declared.model.NodeKind.TheVariants as kinds
use Rattle.zb_exchange_records.specs.declared.message.MessagePublished.{MessagePublished}
use Rattle.zb_instance_records.specs.declared.instance.Role.TheVariants as roles
use Rattle.zb_model.specs.declared.record.Event.{Event}
use Rattle.zb_model.specs.declared.record.Event.TheVariants as events
use Rattle.zb_rules.specs.Starts.{starts_of, started_behind}

abbrev node : List ℕ → NodeKind → List ℕ → Node
node id kind name = record { id = id; kind = kind; parent = []; attached = []; cancel = false; otherwise = []; name = name; expr = None; retries = 3; handler = false; multi = None; inputs = []; outputs = [] }

-- the process m starts by a message go, and has a task of the type pay
abbrev process : Model
process = record {
  process = codes "m";
  tag = [];
  nodes = node (codes "s") kinds.MessageStartEvent (codes "go") ∷ node (codes "t") kinds.ServiceTask (codes "pay") ∷ node (codes "e") kinds.EndEvent [] ∷ [];
  flows = [];
}

abbrev message : ℕ → MessagePublished
message key = record { key = key; name = codes "go"; correlation_key = codes "k"; id = []; deadline = 60000; variables = [] }

-- the message with this key starts the instance with that
abbrev started : (message instance : ℕ) → List Event
started message instance = events.MessageStartEventSubscriptionCorrelated (record { message = message; definition = 2251799813685249; instance = instance })
    ∷ events.ElementActivating (record { key = instance; scope = 0; definition = 2251799813685249; node = codes "m"; role = roles.Plain; via = []; started = codes "k" })
    ∷ []

-- it is deployed, and a message is published
abbrev published : List Event
published =
    events.ProcessCreated (record { key = 2251799813685249; version = 1; model = process }) ∷ events.DeploymentCreated (record { key = 2251799813685250; definition = 2251799813685249 })
    ∷ events.MessagePublished (message 2251799813685251) ∷ []

-- it starts an instance
starts_one : starts_of 1 (message 2251799813685251) published ≡ started 2251799813685251 2251799813685252
starts_one = refl

-- the start event, the task and its job have the keys behind that; a second message is published
abbrev second : List Event
second =
    published
    ++ started 2251799813685251 2251799813685252
    ++ events.JobCreated (record { key = 2251799813685255; cell = 2251799813685254; kind = codes "pay"; retries = 3 })
    ∷ events.MessagePublished (message 2251799813685256) ∷ []

-- it starts none, since the first instance is there
starts_none : starts_of 1 (message 2251799813685256) second ≡ []
starts_none = refl

-- the job is given out, its batch has a key, and so has the end event; the instance ends
abbrev seen : List Event
seen = second ++ events.JobBatchActivated (record { key = 2251799813685257; jobs = 2251799813685255 ∷ [] })
    ∷ events.ElementActivating (record { key = 2251799813685258; scope = 2251799813685252; definition = 2251799813685249; node = codes "e"; role = roles.Plain; via = codes "g"; started = [] })
    ∷ []

abbrev ended : List Event
ended = seen ++ events.ElementCompleted (record { key = 2251799813685252; owed = [] }) ∷ []

-- behind that the second message starts an instance
starts_the_next : started_behind 1 seen 2251799813685252 ended ≡ started 2251799813685256 2251799813685259
starts_the_next = refl

-- a message with the key of no instance starts one beside; one without a correlation key, too
starts_beside : starts_of 1 (record { key = 2251799813685256; name = codes "go"; correlation_key = []; id = []; deadline = 60000; variables = [] }) second
    ≡ events.MessageStartEventSubscriptionCorrelated (record { message = 2251799813685256; definition = 2251799813685249; instance = 2251799813685257 })
    ∷ events.ElementActivating (record { key = 2251799813685257; scope = 0; definition = 2251799813685249; node = codes "m"; role = roles.Plain; via = []; started = [] })
    ∷ []
starts_beside = refl

-- where the latest version starts by another name, none is started
abbrev renamed : List Event
renamed = published ++ events.ProcessCreated (record { key = 2251799813685260; version = 2; model = record process { nodes = node (codes "s") kinds.MessageStartEvent (codes "stop") ∷ [] } }) ∷ []

starts_no_more : starts_of 1 (message 2251799813685251) renamed ≡ []
starts_no_more = refl
