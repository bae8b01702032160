-- What an event changes of the locks of messages, and of the instances that messages have started, by the facts behind which it comes.
use Rattle.std.specs.Option.{option_map_or}
use Rattle.zb_model.specs.declared.record.Event.{Event}
use Rattle.zb_model.specs.declared.record.Event.TheVariants as events
use Rattle.zb_starts.specs.declared.change.Change.{Change}
use Rattle.zb_starts.specs.declared.change.Change.TheVariants as changes
use Rattle.zb_state.specs.Starts.{locked_by, lock_of, begin_by}
use Rattle.zb_state.specs.declared.facts.Facts.{Facts}

-- what an event changes where it applies behind those of some facts (own)
abbrev pub change_by : Facts → Event → Change
change_by facts (events.MessageStartEventSubscriptionCorrelated e) = locked_by facts.game e.message e.definition
change_by facts (events.MessageSubscriptionCorrelating e) = option_map_or (λ l. changes.Locked l) (lock_of facts.tables.subscriptions e.subscription e.message) changes.Nothing
change_by facts (events.MessageSubscriptionRejected e) = option_map_or (λ l. changes.Freed l) (lock_of facts.tables.subscriptions e.subscription e.message) changes.Nothing
change_by facts (events.MessageExpired message) = changes.Expired message
change_by facts (events.ElementActivating e) = begin_by facts.messages facts.left e
change_by facts (events.ElementCompleted e) = changes.Ended e.key
change_by facts (events.ElementTerminated cell) = changes.Ended cell
change_by facts _ = changes.Nothing
