-- What the last event of a log leaves to be said: a query over the events.
use Rattle.std.specs.Prelude.{ℕ, ◌==◌, List, get_or, Bool, true, false, ◌&&◌, Some, None}
use Rattle.std.specs.Option.{option_map_or}
use Rattle.zb_model.specs.declared.record.Event.{Event}
use Rattle.zb_model.specs.declared.record.Event.TheVariants as events
use Rattle.zb_views.specs.Jobs.{job_on}
use Rattle.zb_views.specs.Standing.{Sort, standing}
use Rattle.zb_views.specs.declared.left.Left.{Left}
use Rattle.zb_views.specs.declared.left.Left.TheVariants as lefts

-- what an event behind others leaves to be said: the root of the instance that it begins or that a message starts, that the job is canceled of the cell that it begins to terminate, or that the subscription is deleted which gives up its message (Zeebe, the records)
abbrev pub left_told : List Event → Event → Left
left_told before (events.ProcessInstanceCreationCreated e) = lefts.Root (record { key = e.key; definition = e.definition; message = None })
left_told before (events.MessageStartEventSubscriptionCorrelated e) = lefts.Root (record { key = e.instance; definition = e.definition; message = Some e.message })
left_told before (events.ElementTerminating cell) = option_map_or (λ j. lefts.Cancels j.key) (job_on cell before) lefts.Nothing
left_told before (events.MessageSubscriptionRejected e) = lefts.Deletes e.subscription
left_told before e = lefts.Nothing

-- what an event leaves to be said stands until the next one, whatever that is (own)
abbrev pub left_sort : Sort Left
left_sort = record {
  told = λ before e. Some (left_told before e);
  ends = λ before e what. true;
  says = λ before e what. what;
}

-- what the last of some events leaves to be said; nothing where there is none (own)
abbrev pub left : List Event → Left
left es = get_or (standing left_sort es) 0 lefts.Nothing

-- what is left to be said is the root of this instance, of this definition
abbrev pub leaves_root : (instance definition : ℕ) → Left → Bool
leaves_root instance definition (lefts.Root begun) = (begun.key == instance) && (begun.definition == definition)
leaves_root instance definition left = false

-- what is left to be said is that this job is canceled
abbrev pub leaves_cancel : ℕ → Left → Bool
leaves_cancel job (lefts.Cancels canceled) = canceled == job
leaves_cancel job left = false

-- what is left to be said is that this subscription is deleted, which has given up its message
abbrev pub leaves_deletion : ℕ → Left → Bool
leaves_deletion subscription (lefts.Deletes deleted) = deleted == subscription
leaves_deletion subscription left = false
