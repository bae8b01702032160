-- Messages that pass to the next subscription.
use Rattle.std.specs.Prelude.{◌≡◌, ℕ, List, Option, Some, None, option_map}
use Rattle.zb_exchange_records.specs.declared.subscription.MessageSubscriptionDelete.{MessageSubscriptionDelete}
use Rattle.zb_model.specs.declared.record.Event.{Event}
use Rattle.zb_views.specs.Subscriptions.{subscription_at, opened_in}
use Rattle.zb_rules.specs.Subscribe.{unkept_message}
use Rattle.zb_step.specs.declared.correlate.PassedTo.{PassedTo}

-- the process for which a subscription was opened last, where it is there (own)
abbrev pub is_opened_for : Option (List ℕ) → ℕ → List Event → Type 0
is_opened_for None key es = subscription_at key es ≡ None
is_opened_for (Some process) key es = option_map (λ o. o.process) (opened_in key es) ≡ Some process

-- what passes on as a subscription is deleted is the message that it gives up, and its process; nothing does where it gives none up (own)
abbrev pub is_given_up : Option PassedTo → MessageSubscriptionDelete → List Event → Type 0
is_given_up None c es = unkept_message c es ≡ None
is_given_up (Some next) c es = (unkept_message c es ≡ Some next.message) × (option_map (λ o. o.process) (opened_in c.subscription es) ≡ Some next.process)
