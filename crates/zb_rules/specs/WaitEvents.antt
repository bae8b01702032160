-- Which events of subscriptions a log may have at the partition of the element instances that wait (Zeebe, the records).
use Rattle.std.specs.Prelude.{ℕ, List, Bool, false, not}
use Rattle.std.specs.Option.{option_map_or}
use Rattle.zb_exchange_records.specs.declared.subscription.ProcessMessageSubscriptionCreating.{ProcessMessageSubscriptionCreating}
use Rattle.zb_model.specs.declared.record.Event.{Event}
use Rattle.zb_views.specs.declared.process_subscription.WaitPhase.{WaitPhase}
use Rattle.zb_views.specs.ProcessSubscriptions.{process_subscription_at, is_being_deleted}
use Rattle.zb_tokens.specs.declared.board.Catch.TheVariants as catches
use Rattle.zb_tokens.specs.Board.{Board}
use Rattle.zb_tokens.specs.Catches.{may_open_at}

-- a subscription opens for a cell that has become active, at a node for whose message it waits (BPMN 2.0.2, 13.5.3)
abbrev pub may_subscribe : ProcessMessageSubscriptionCreating → Board → Bool
may_subscribe e b = may_open_at catches.Message e.cell e.node b

-- the subscription with a key is there, in such a phase
abbrev pub is_waiting : (WaitPhase → Bool) → ℕ → List Event → Bool
is_waiting such key es = option_map_or (λ s. such s.phase) (process_subscription_at key es) false

-- a subscription in this phase isn't being deleted
abbrev pub is_open : WaitPhase → Bool
is_open phase = not (is_being_deleted phase)
