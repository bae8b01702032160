-- What contracts see of a state.
use Rattle.std.specs.Prelude.{◌≡◌, ◌++◌, ℕ, max, List, [], Some, IsTrue, IsFalse}
use Rattle.zb_exchange_records.specs.declared.message.MessagePublished.{MessagePublished}
use Rattle.zb_model.specs.declared.record.Event.{Event}
use Rattle.zb_state.specs.declared.facts.Facts.{Facts}
use Rattle.zb_views.specs.View.{greatest_among, greatest_counter, keys_in}
use Rattle.zb_views.specs.Jobs.{jobs, job_sort}
use Rattle.zb_views.specs.Timers.{timers, timer_sort}
use Rattle.zb_views.specs.Messages.{buffered, message_sort}
use Rattle.zb_views.specs.Standing.{standing_by}
use Rattle.zb_views.specs.Left.{left_told, left}
use Rattle.zb_views.specs.Starts.{started_instances}
use Rattle.zb_views.specs.ProcessSubscriptions.{process_subscriptions}
use Rattle.zb_views.specs.Subscriptions.{subscriptions, locks}
use Rattle.zb_starts.specs.declared.change.Change.{Change}
use Rattle.zb_record.specs.Sendings.{sendings}
use Rattle.zb_rules.specs.Applies.{all_apply}
use Rattle.zb_rules.specs.Making.{Making}
use Rattle.zb_rules.specs.Shown.{board_of}
use Rattle.zb_tables.specs.Tables.{HaveTaken}

-- the partition that the state is of
abbrev pub partition_of : Facts → ℕ
partition_of state = state.place

-- each of these events applies to those before it, and the state is what they come to
pub record IsStateOf (es : List Event) (state : Facts) : Type 0 where
  pub applied : IsTrue (all_apply state.place [] es)
  pub counter : greatest_counter state.place es ≡ state.counter
  pub messages : buffered es ≡ state.messages
  pub sendings : sendings es ≡ state.tables.sendings
  pub jobs : jobs es ≡ state.tables.jobs
  pub timers : timers es ≡ state.tables.timers
  pub locks : locks es ≡ state.tables.starts.locks
  pub starts : started_instances es ≡ state.tables.starts.starts
  pub subscriptions : subscriptions es ≡ state.tables.subscriptions
  pub process_subscriptions : process_subscriptions es ≡ state.tables.process_subscriptions
  pub left : left es ≡ state.left
  pub game : board_of es ≡ Some state.game

-- no events come to this state
abbrev pub IsUnreached : Facts → Type 0
IsUnreached state = (es : List Event) → IsStateOf es state → ⊥

-- of no events that come to this state all that is made of them applies
abbrev pub CantMake : Facts → Making → Type 0
CantMake state make = (es : List Event) → IsStateOf es state → IsFalse (all_apply (partition_of state) es (make es))

-- what is made of the events that come to a state was put behind others, and the state has taken it in
pub record HasPut (make : Making) (state after : Facts) (out out_after : List Event) : Type 0 where
  pub put : (es : List Event) → IsStateOf es state → out_after ≡ out ++ make es
  pub taken : (es : List Event) → IsStateOf es state → IsStateOf (es ++ make es) after

-- two states that differ in their game alone
pub record IsSameBeside (old new : Facts) : Type 0 where
  pub place : new.place ≡ old.place
  pub counter : new.counter ≡ old.counter
  pub messages : new.messages ≡ old.messages
  pub tables : new.tables ≡ old.tables
  pub left : new.left ≡ old.left

-- the messages, the jobs and the timers have taken an event in (own)
pub record HasTakenRows (e : Event) (old new : Facts) : Type 0 where
  pub messages : new.messages ≡ standing_by message_sort [] e old.messages
  pub jobs : new.tables.jobs ≡ standing_by job_sort [] e old.tables.jobs
  pub timers : new.tables.timers ≡ standing_by timer_sort [] e old.tables.timers

-- a state that took an event in, with this change, but for its move, and has these messages
pub record HasTaken (e : Event) (change : Change) (ms : List MessagePublished) (old new : Facts) : Type 0 where
  pub place : new.place ≡ old.place
  pub counter : new.counter ≡ max old.counter (greatest_among old.place (keys_in e))
  pub messages : new.messages ≡ ms
  pub tables : HaveTaken e change old.tables new.tables
  pub left : (before : List Event) → jobs before ≡ old.tables.jobs → new.left ≡ left_told before e
  pub game : new.game ≡ old.game
