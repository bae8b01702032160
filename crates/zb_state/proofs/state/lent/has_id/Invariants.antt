use Rattle.std.proofs.Common.{◌≡◌, ◌==◌, false, drop}
use Rattle.std.specs.List.{find, list_any}
use Rattle.std.specs.Option.{option_map_or}
use Rattle.std.specs.Str.{bytes_eq}
use Rattle.zb_exchange_records.specs.declared.message.MessagePublished.{MessagePublished}
use Rattle.zb_state.proofs.state.lent.has_id.Given as goal

-- one of the messages from here on has the id, where one of all has it
abbrev pub invariant-loop-key : goal.invariant-loop-key
invariant-loop-key l =
    list_any (λ k. option_map_or (λ (m : MessagePublished). bytes_eq m.id l.id) (find (λ m. m.key == k) l.messages) false) (drop l.key-index l.keys)
    ≡ list_any (λ k. option_map_or (λ (m : MessagePublished). bytes_eq m.id l.id) (find (λ m. m.key == k) l.messages) false) l.keys
