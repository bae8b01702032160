-- The table of messages, as events are taken in.
use Rattle.std.proofs.Common.{◌≡◌, ℕ, ◌==◌, nat_le, Option, Some, None, is_some, option_map, true, false, ◌&&◌, List, ◌∷◌, [], ◌++◌, filter, not, Result, Ok, Err, OnOk, OnErr, refl, sym, ap, subst, ◌∙◌, arith}
use Rattle.std.specs.declared.alloc.AllocError.{AllocError}
use Rattle.std.specs.List.{find, list_any}
use Rattle.std.specs.Option.{option_map_or}
use Rattle.zb_exchange_records.specs.declared.message.MessagePublished.{MessagePublished}
use Rattle.zb_model.specs.declared.record.Event.{Event}
use Rattle.zb_model.specs.declared.record.Event.TheVariants as events
use Rattle.zb_table.specs.Rows.{Ascend, are_below, with_row}
use Rattle.zb_table.proofs.Ascending.{ascend_more}
use Rattle.zb_table.proofs.Growing.{has_row, passes_at, with_last}
use Rattle.zb_pairs.proofs.FoundLemmas.{first_is_found}
use Rattle.zb_views.specs.Messages.{message_told, expiry_told, message_sort, is_past_deadline}
use Rattle.zb_views.specs.Standing.{standing_by}
use Rattle.zb_views.proofs.StandingLaws.{one_more, some_gone}

-- an event that publishes a message
pub published : (before : List Event) (e : Event) (ms : List MessagePublished) (m : MessagePublished) → message_told e ≡ Some m → standing_by message_sort before e ms ≡ ms ++ m ∷ []
published before (events.MessagePublished x) ms m is = one_more message_sort before (events.MessagePublished x) ms m is (λ y. refl) (λ y. refl)
published before e ms m is = absurd (cc)

-- one that publishes none
pub expired : (before : List Event) (e : Event) (ms : List MessagePublished) → message_told e ≡ None → standing_by message_sort before e ms ≡ filter (λ m. not (option_map_or (λ k. m.key == k) (expiry_told e) false)) ms
expired before e ms none = some_gone message_sort before e ms (λ m. option_map_or (λ k. m.key == k) (expiry_told e) false) none (λ m. refl) (λ m. refl)

-- the deadline of the message with a key
has_deadline : (found : Option MessagePublished) → is_some (option_map (λ m. m.deadline) found) ≡ is_some found
has_deadline None = refl
has_deadline (Some m) = refl

pub has_by_deadline : (k : ℕ) (messages : List MessagePublished) → is_some (option_map (λ m. m.deadline) (find (λ m. m.key == k) messages)) ≡ list_any (λ m. m.key == k) messages
has_by_deadline k messages =
    has_deadline (find (λ m. m.key == k) messages) ∙ (ap (λ (found : Option MessagePublished). is_some found) (sym (first_is_found (λ m. m.key == k) messages)) ∙ has_row (λ (m : MessagePublished). m.key) k messages)

deadline_passed : (moment : ℕ) (found : Option MessagePublished) → option_map_or (λ deadline. nat_le deadline moment) (option_map (λ m. m.deadline) found) false ≡ option_map_or (is_past_deadline moment) found false
deadline_passed moment None = refl
deadline_passed moment (Some m) = refl

pub due_by_deadline : (moment k : ℕ) (messages : List MessagePublished) → Ascend (λ m. m.key) 0 messages
    → option_map_or (λ deadline. nat_le deadline moment) (option_map (λ m. m.deadline) (find (λ m. m.key == k) messages)) false ≡ list_any (λ m. (m.key == k) && is_past_deadline moment m) messages
due_by_deadline moment k messages up =
    deadline_passed moment (find (λ m. m.key == k) messages)
    ∙ (ap (λ (found : Option MessagePublished). option_map_or (is_past_deadline moment) found false) (sym (first_is_found (λ m. m.key == k) messages)) ∙ passes_at (λ (m : MessagePublished). m.key) (is_past_deadline moment) k 0 messages up)

abbrev message_key : MessagePublished → ℕ
message_key m = m.key

-- keys ascend with a message more whose key is greater than all
pub ascend_with : (rows new : List MessagePublished) (m : MessagePublished) (added : Result (Unit {0}) AllocError) → Ascend message_key 0 rows → are_below message_key m.key rows ≡ true
    → OnOk added (new ≡ with_row message_key m rows) → OnErr added (new ≡ rows) → Ascend message_key 0 new
ascend_with rows new m (Ok _) up below is same = subst (Ascend message_key 0) (sym (is ∙ with_last message_key m rows below)) (ascend_more message_key 0 rows m (omega arith) up below)
ascend_with rows new m (Err _) up below is same = subst (Ascend message_key 0) (sym same) up
