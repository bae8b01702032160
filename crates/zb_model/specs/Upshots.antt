-- What batches say of the state, and how it is read.
use Rattle.std.specs.Prelude.{◌≡◌, ℕ, List, [], Option, None, Result, Ok, Err}
use Rattle.zb_format.specs.Reading.{Reader, made_at, many_at}
use Rattle.zb_format.specs.declared.fault.ReadFault.{ReadFault}
use Rattle.zb_format.specs.declared.fault.ReadFault.TheVariants as faults
use Rattle.zb_model.specs.Batches.{batch}
use Rattle.zb_model.specs.Layouts.{event}
use Rattle.zb_model.specs.declared.record.Batch.{Batch}
use Rattle.zb_model.specs.declared.record.Event.{Event}
use Rattle.zb_model.specs.declared.record.Heading.{Heading}
use Rattle.zb_model.specs.declared.record.Outcome.{Outcome}
use Rattle.zb_model.specs.declared.record.Outcome.TheVariants as outcomes

-- the events of an outcome; a rejection has none
abbrev pub events_in : Outcome → List Event
events_in (outcomes.Rejected r) = []
events_in (outcomes.Accepted es) = es

-- what a batch says of the state: its moment and its events
abbrev pub upshot_of : Batch → ℕ × List Event
upshot_of b = (b.moment, events_in b.outcome)

-- the upshot of the batch at the front of the bytes
abbrev pub upshot_at : Reader (ℕ × List Event)
upshot_at = made_at upshot_of batch.reading

-- so many events
abbrev pub events_at : ℕ → Reader (List Event)
events_at count = many_at event.reading count

-- the upshot that has this heading, where its events come next
abbrev pub upshot_behind : Heading → Reader (ℕ × List Event)
upshot_behind heading = made_at (λ es. (heading.moment, es)) (events_at heading.events)

-- what comes first was read, and the whole is what stands behind it by that; or there is no whole; or memory ran out
abbrev pub ReadsAhead : {A B : Type 0} → (A → Reader B) → Option (B × List ℕ) → Result A ReadFault → List ℕ → Type 0
ReadsAhead behind whole (Ok x) rest = whole ≡ behind x rest
ReadsAhead behind whole (Err faults.NotSpelled) rest = whole ≡ None
ReadsAhead behind whole (Err faults.Memory) rest = Unit {0}
