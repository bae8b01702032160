-- The table of messages.
use Rattle.std.specs.Prelude.{ℕ, List, Bool, true, ◌&&◌}
use Rattle.std.specs.Str.{bytes_eq}
use Rattle.std.specs.Option.{option_map_or}
use Rattle.zb_exchange_records.specs.declared.message.MessagePublished.{MessagePublished}
use Rattle.zb_model.specs.declared.record.Event.{Event}
use Rattle.zb_table.specs.Rows.{are_below}
use Rattle.zb_views.specs.Messages.{message_told}

-- an event can be taken into a table of messages: where it publishes one, that has a greater key than all (own)
abbrev pub has_place_for_message : List MessagePublished → Event → Bool
has_place_for_message ms e = option_map_or (λ m. are_below (λ x. x.key) m.key ms) (message_told e) true

-- a message has this name and this correlation key (Zeebe, messages)
abbrev pub is_addressed : (name correlation_key : List ℕ) → MessagePublished → Bool
is_addressed name correlation_key m = bytes_eq m.name name && bytes_eq m.correlation_key correlation_key
