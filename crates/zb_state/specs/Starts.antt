-- What an event changes of the locks of messages, and of the instances that messages have started.
use Rattle.std.specs.Prelude.{◌≡◌, ℕ, ◌==◌, nat_lt, List, [], Bool, true, ◌&&◌, not, if◌then◌else◌, Option, Some, None, option_map, option_and_then}
use Rattle.std.specs.List.{find}
use Rattle.std.specs.Option.{option_map_or}
use Rattle.std.specs.Str.{bytes_eq}
use Rattle.zb_exchange_records.specs.declared.message.MessagePublished.{MessagePublished}
use Rattle.zb_instance_records.specs.declared.instance.ElementActivating.{ElementActivating}
use Rattle.zb_model.specs.declared.record.Event.{Event}
use Rattle.zb_model.specs.declared.record.Event.TheVariants as events
use Rattle.zb_table.specs.Rows.{are_below}
use Rattle.zb_faults.specs.Elements.{is_message_start}
use Rattle.zb_process.specs.declared.model.Node.{Node}
use Rattle.zb_tokens.specs.Board.{Board, model_under, start_in}
use Rattle.zb_views.specs.declared.left.Left.{Left}
use Rattle.zb_views.specs.declared.left.Left.TheVariants as lefts
use Rattle.zb_views.specs.declared.lock.Lock.{Lock}
use Rattle.zb_views.specs.declared.started.Started.{Started}
use Rattle.zb_views.specs.declared.subscription.Subscription.{Subscription}
use Rattle.zb_views.specs.Standing.{standing_by}
use Rattle.zb_views.specs.Starts.{started_sort}
use Rattle.zb_views.specs.Subscriptions.{lock_for, lock_sort}
use Rattle.zb_starts.specs.Change.{locks_by, instances_by}
use Rattle.zb_starts.specs.declared.change.Change.{Change}
use Rattle.zb_starts.specs.declared.change.Change.TheVariants as changes

-- the root that is left to be said (own)
abbrev pub root_left : Left → Option ℕ
root_left (lefts.Root begun) = Some begun.key
root_left what = None

-- the message that starts it (own)
abbrev pub starter_left : Left → Option ℕ
starter_left (lefts.Root begun) = begun.message
starter_left what = None

-- that message, among the buffered ones (own)
abbrev pub starter_among : List MessagePublished → Left → Option MessagePublished
starter_among ms left = option_and_then (λ key. find (λ m. m.key == key) ms) (starter_left left)

-- the start event of a definition on a board, if it has a message (own)
abbrev pub message_start_under : Board → ℕ → Option Node
message_start_under b definition = option_and_then (λ m. option_and_then (λ n. if is_message_start n.kind then Some n else None) (start_in m [])) (model_under b definition)

-- a message is locked for the process of a definition on a board, if that is there (own)
abbrev pub locked_by : Board → (message definition : ℕ) → Change
locked_by b message definition = option_map_or (λ m. changes.Locked (lock_for message m.process)) (model_under b definition) changes.Nothing

-- the lock of a message for the process of the subscription with a key among these, if there is one (own)
abbrev pub lock_of : List Subscription → (subscription message : ℕ) → Option Lock
lock_of ss subscription message = option_map (λ s. lock_for message s.process) (find (λ s. s.key == subscription) ss)

-- the instance begins of the root that is left to be said, where a message among these starts it (own)
abbrev pub begun_with : List MessagePublished → Left → ElementActivating → Change
begun_with ms left e = option_map_or (λ root. option_map_or (λ m. changes.Begun (record { instance = root; process = e.node; name = m.name; correlation_key = e.started })) (starter_among ms left) changes.Nothing) (root_left left) changes.Nothing

-- it does where a cell that begins is a root, and has a correlation key (own)
abbrev pub begin_by : List MessagePublished → Left → ElementActivating → Change
begin_by ms left e = if (e.scope == 0) && not (bytes_eq e.started []) then begun_with ms left e else changes.Nothing

-- the root that an event leaves to be said (own)
abbrev pub root_told : Event → Option ℕ
root_told (events.ProcessInstanceCreationCreated e) = Some e.key
root_told (events.MessageStartEventSubscriptionCorrelated e) = Some e.instance
root_told _ = None

-- an instance that begins by a change is the root that is left to be said (own)
abbrev pub BeginsRoot : Left → Change → Type 0
BeginsRoot left (changes.Begun started) = root_left left ≡ Some started.instance
BeginsRoot left change = Unit {0}

-- an event behind these changes the locks and the instances so (own)
pub record IsChangeOf (es : List Event) (e : Event) (change : Change) : Type 0 where
  pub locks : (ls : List Lock) → standing_by lock_sort es e ls ≡ locks_by change ls
  pub starts : (ss : List Started) → standing_by started_sort es e ss ≡ instances_by change ss

-- the instances have lower keys than this one, and than the root that is left to be said, which has a lower one too (own)
abbrev pub are_starts_below : ℕ → Left → List Started → Bool
are_starts_below high left ss = are_below (λ s. s.instance) high ss && option_map_or (λ root. nat_lt root high && are_below (λ s. s.instance) root ss) (root_left left) true
