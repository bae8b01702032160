-- The subscriptions as they are kept: at the places at which they were opened.
use Rattle.std.specs.Prelude.{ℕ, ◌==◌, List, [], ◌∷◌, Bool, true, false, IsTrue, Option, Some, None, is_none}
use Rattle.std.specs.Option.{option_map_or}
use Rattle.std.specs.List.{find}
use Rattle.zb_lists.specs.Listed.{row_found, AreListed}
use Rattle.zb_lists.specs.declared.lists.Lists.{Lists}
use Rattle.zb_table.specs.Rows.{Ascend, are_below}
use Rattle.zb_model.specs.declared.record.Event.{Event}
use Rattle.zb_model.specs.declared.record.Event.TheVariants as events
use Rattle.zb_views.specs.OwnKeys.{HaveOwnKeys}
use Rattle.zb_views.specs.declared.subscription.Subscription.{Subscription}
use Rattle.zb_subscriptions.specs.declared.opened.Opened.{Opened}

-- a subscription at a place (own)
abbrev pub opened_as : (place : ℕ) → Subscription → Opened
opened_as place s = record { place = place; subscription = s }

-- the texts under which a subscription is listed: the name and the correlation key of its messages (own)
abbrev pub label_of_opened : Opened → Option (List ℕ × List ℕ)
label_of_opened o = Some (o.subscription.name, o.subscription.correlation_key)

-- places ascend and lie below the next one; each subscription has its own key, is listed under its texts and waits for no moment, and nothing else is listed (own)
pub record AreOpened (os : List Opened) (lists : Lists) (next : ℕ) : Type 0 where
  pub ascend : Ascend (λ o. o.place) 0 os
  pub below : IsTrue (are_below (λ o. o.place) next os)
  pub own : HaveOwnKeys (λ o. o.subscription.key) os
  pub listed : AreListed (λ o. None) label_of_opened (row_found (λ o. o.place) os) lists

-- the one at a place (own)
abbrev pub kept_at : List Opened → ℕ → Option Opened
kept_at os place = find (λ o. o.place == place) os

-- the key of the subscription at a place, if one is there (own)
abbrev pub key_at : List Opened → ℕ → List ℕ
key_at os place = option_map_or (λ o. o.subscription.key ∷ []) (kept_at os place) []

-- the subscription at a place passes (own)
abbrev pub passes_place : (Subscription → Bool) → List Opened → ℕ → Bool
passes_place passes os place = option_map_or (λ o. passes o.subscription) (kept_at os place) false

-- an event opens no subscription that is there (own)
abbrev pub is_new : List Subscription → Event → Bool
is_new ss (events.MessageSubscriptionCreated s) = is_none (find (λ x. x.key == s.subscription) ss)
is_new ss e = true
