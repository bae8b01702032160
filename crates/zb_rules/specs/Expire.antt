-- Expiring a message (own; the records as in Zeebe).
use Rattle.std.specs.Prelude.{ℕ, ◌==◌, List, ◌++◌, codes, Bool, not, ◌&&◌, if◌then◌else◌, Option, Some, None}
use Rattle.std.specs.Fmt.{decimal}
use Rattle.std.specs.List.{list_any}
use Rattle.zb_model.specs.declared.record.Event.{Event}
use Rattle.zb_model.specs.declared.record.Event.TheVariants as events
use Rattle.zb_model.specs.declared.record.Rejection.{Rejection}
use Rattle.zb_model.specs.declared.record.RejectionKind.TheVariants as kinds
use Rattle.zb_views.specs.Messages.{buffered, is_buffered, is_past_deadline}
use Rattle.zb_rules.specs.Making.{Making, just}

-- what is told where no message with this key is buffered
abbrev pub no_message : ℕ → List ℕ
no_message key = codes "no message " ++ decimal key

-- and where its deadline lies ahead
abbrev pub not_due : ℕ → List ℕ
not_due key = codes "message " ++ (decimal key ++ codes " isn't due")

-- the message with this key is buffered, and at the moment it is due
abbrev pub is_due_at : ℕ → ℕ → List Event → Bool
is_due_at moment key before = list_any (λ m. (m.key == key) && is_past_deadline moment m) (buffered before)

-- the rejection of an expiry, if there is a reason for one
abbrev pub reason_to_expire : List Event → ℕ → ℕ → Option Rejection
reason_to_expire before moment key = if not (is_buffered key before) then Some (record { kind = kinds.NotFound; reason = no_message key })
    else if not (is_due_at moment key before) then Some (record { kind = kinds.InvalidState; reason = not_due key })
    else None

-- the message expires (Zeebe, the records)
abbrev pub expired : ℕ → Making
expired key = just (events.MessageExpired key)
