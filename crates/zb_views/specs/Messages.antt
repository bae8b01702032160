-- The messages of a log: queries over all its events.
use Rattle.std.specs.Prelude.{ℕ, List, Bool, false, ◌==◌, nat_le, Option, Some, None, not, filter}
use Rattle.std.specs.Option.{option_map_or}
use Rattle.std.specs.List.{find, list_any}
use Rattle.zb_exchange_records.specs.declared.message.MessagePublished.{MessagePublished}
use Rattle.zb_model.specs.declared.record.Event.{Event}
use Rattle.zb_model.specs.declared.record.Event.TheVariants as events
use Rattle.zb_views.specs.Standing.{Sort, standing}

-- the message that an event publishes
abbrev pub message_told : Event → Option MessagePublished
message_told (events.MessagePublished m) = Some m
message_told _ = None

-- the key of the message that, as an event says, has expired
abbrev pub expiry_told : Event → Option ℕ
expiry_told (events.MessageExpired key) = Some key
expiry_told _ = None

-- messages are published and expire, and stay as they were (Zeebe)
abbrev pub message_sort : Sort MessagePublished
message_sort = record {
  told = λ before e. message_told e;
  ends = λ before e m. option_map_or (λ key. m.key == key) (expiry_told e) false;
  says = λ before e m. m;
}

-- the buffered messages: those that were published and haven't expired after, in the order of their publishing (Zeebe)
abbrev pub buffered : List Event → List MessagePublished
buffered es = standing message_sort es

-- the message with this key is buffered
abbrev pub is_buffered : ℕ → List Event → Bool
is_buffered key events = list_any (λ m. m.key == key) (buffered events)

-- the first buffered message with this key
abbrev pub message_at : ℕ → List Event → Option MessagePublished
message_at key events = find (λ m. m.key == key) (buffered events)

-- the deadline of a message has come
abbrev pub is_past_deadline : ℕ → MessagePublished → Bool
is_past_deadline now m = nat_le m.deadline now

-- the messages but the one with this key
abbrev pub without_message : ℕ → List MessagePublished → List MessagePublished
without_message key messages = filter (λ m. not (m.key == key)) messages
