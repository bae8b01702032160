-- The subscriptions of element instances as they are kept: by their keys.
use Rattle.std.specs.Prelude.{◌≡◌, ℕ, ◌==◌, List, map, filter, Bool, true, false, Option, None, Some}
use Rattle.std.specs.Option.{option_map_or}
use Rattle.zb_model.specs.declared.record.Event.{Event}
use Rattle.zb_table.specs.Rows.{are_below}
use Rattle.zb_views.specs.ProcessSubscriptions.{process_subscription_told, process_subscription_changed}
use Rattle.zb_views.specs.declared.process_subscription.ProcessSubscription.{ProcessSubscription}

-- an event can be taken into such a table: where it opens a subscription, that has a greater key than all (own)
abbrev pub has_place_for_waiting : List ProcessSubscription → Event → Bool
has_place_for_waiting ss e = option_map_or (λ s. are_below (λ x. x.key) s.key ss) (process_subscription_told e) true

-- an event changes no subscription but the one with this key (own)
abbrev pub ChangesNoOther : ℕ → Event → Type 0
ChangesNoOther key e = (s : ProcessSubscription) → (s.key == key) ≡ false → process_subscription_changed e s ≡ s

-- the keys of the subscriptions of a cell, in the order of the list (own)
abbrev pub waiting_keys_on : ℕ → List ProcessSubscription → List ℕ
waiting_keys_on cell ss = map (λ s. s.key) (filter (λ s. s.cell == cell) ss)
