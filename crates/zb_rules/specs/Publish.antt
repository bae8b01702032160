-- Publishing a message (own; the records as in Zeebe).
use Rattle.std.specs.Prelude.{ℕ, ◌+◌, ◌==◌, min, List, [], ◌∷◌, ◌++◌, codes, Bool, not, ◌&&◌, if◌then◌else◌, Option, Some, None}
use Rattle.std.specs.List.{list_any}
use Rattle.std.specs.Str.{bytes_eq}
use Rattle.zb_base.specs.Moment as moments
use Rattle.zb_exchange_records.specs.declared.message.MessagePublish.{MessagePublish}
use Rattle.zb_exchange_records.specs.declared.message.MessagePublished.{MessagePublished}
use Rattle.zb_model.specs.declared.record.Event.{Event}
use Rattle.zb_model.specs.declared.record.Event.TheVariants as events
use Rattle.zb_model.specs.declared.record.Rejection.{Rejection}
use Rattle.zb_model.specs.declared.record.RejectionKind.TheVariants as kinds
use Rattle.zb_views.specs.Messages.{buffered}
use Rattle.zb_views.specs.View.{next_key}
use Rattle.zb_rules.specs.Correlate.{correlated_all}
use Rattle.zb_rules.specs.Starts.{starts_of}
use Rattle.zb_rules.specs.Making.{Making, just, and_then}

-- the message has the name, the correlation key and the id that are to be published
abbrev pub is_same : MessagePublish → MessagePublished → Bool
is_same c m = bytes_eq m.name c.name && bytes_eq m.correlation_key c.correlation_key && bytes_eq m.id c.id

-- the id isn't empty, and a message with it, the name and the correlation key is buffered
abbrev pub is_repeated : List Event → MessagePublish → Bool
is_repeated before c = not (bytes_eq c.id []) && list_any (is_same c) (buffered before)

-- what the rejection of a repeated message says
unfoldable pub buffered_text : MessagePublish → List ℕ
buffered_text c = codes "message " ++ (c.name ++ (codes " " ++ (c.correlation_key ++ (codes " " ++ (c.id ++ codes " is buffered")))))

-- the rejection of a publish, if there is a reason for one (Zeebe)
abbrev pub reason_to_publish : List Event → MessagePublish → Option Rejection
reason_to_publish before c = if is_repeated before c then Some (record { kind = kinds.AlreadyExists; reason = buffered_text c }) else None

-- a message under a key, which waits from this moment for its time to live, at most up to the last moment
abbrev pub message_under : ℕ → ℕ → MessagePublish → MessagePublished
message_under key moment c = record {
  key = key;
  name = c.name;
  correlation_key = c.correlation_key;
  id = c.id;
  deadline = min (moment + c.time_to_live) moments.last_moment;
  variables = c.variables;
}

-- a message without time to live expires at once
abbrev pub expiry_of : ℕ → MessagePublish → List Event
expiry_of key c = if c.time_to_live == 0 then events.MessageExpired key ∷ [] else []

-- a message is published, then subscriptions begin to correlate it, then it starts an instance of each process that it may, and without time to live it expires then (Zeebe)
abbrev pub published_as : ℕ → MessagePublished → MessagePublish → Making
published_as p m c = and_then (just (events.MessagePublished m)) (and_then (correlated_all m) (and_then (starts_of p m) (λ before. expiry_of m.key c)))

-- the message is published under a fresh key (Zeebe)
abbrev pub published : (p moment : ℕ) → MessagePublish → Making
published p moment c before = published_as p (message_under (next_key p before) moment c) c before
