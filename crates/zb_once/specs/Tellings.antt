-- What events tell of messages, and what commands ask of them; and where those live that are told of.
use Rattle.std.specs.Prelude.{ℕ, List, Bool}
use Rattle.zb_record.specs.Partitions.{partition_of_key, home_known}

-- what a subscription is opened with: the name and the correlation key of its messages, its process, and whether it ends with the first one that it has correlated (Zeebe)
pub record Terms : Type 0 where
  pub name : List ℕ
  pub correlation_key : List ℕ
  pub process : List ℕ
  pub cancel : Bool

-- what an event tells of messages: of a subscription at its own partition, and at the home of its messages (Zeebe, the records)
pub data Telling : Type 0 where
  -- nothing
  Other : Telling
  -- a definition is there, of this process; it goes to a partition
  Defined : (definition : ℕ) (process : List ℕ) → Telling
  Distributing : (definition to : ℕ) → Telling
  -- a message is published; it expires; it starts an instance of a definition
  Published : (message : ℕ) → Telling
  Expired : (message : ℕ) → Telling
  Started : (message definition : ℕ) → Telling
  -- at the home of its messages a subscription is opened, begins to correlate a message, has correlated it, gives it up, is deleted
  Opened : (subscription : ℕ) (terms : Terms) → Telling
  Correlating : (subscription message : ℕ) → Telling
  Correlated : (subscription message : ℕ) → Telling
  Rejected : (subscription message : ℕ) → Telling
  Deleted : (subscription : ℕ) → Telling
  -- at its own partition it opens, keeps a message, closes with the keys of those that it has kept, is gone
  Opens : (subscription : ℕ) (terms : Terms) → Telling
  Kept : (subscription message : ℕ) → Telling
  Closing : (subscription : ℕ) (correlation_key keys : List ℕ) → Telling
  Gone : (subscription : ℕ) → Telling

-- what a command asks of messages: what partitions ask of one another (Zeebe, the records)
pub data Asking : Type 0 where
  -- anything else
  Else : Asking
  -- to make a definition
  Distribute : (definition : ℕ) (process : List ℕ) → Asking
  -- to open a subscription at the home of its messages; that is done
  Create : (subscription : ℕ) (terms : Terms) → Asking
  IsCreated : (subscription : ℕ) → Asking
  -- to keep a message for a subscription; that is done; it is refused
  Correlate : (subscription message : ℕ) → Asking
  WasKept : (subscription message : ℕ) → Asking
  Reject : (subscription message : ℕ) → Asking
  -- to delete a subscription that has kept messages with these keys; that is done
  Delete : (subscription : ℕ) (keys : List ℕ) → Asking
  IsDeleted : (subscription : ℕ) → Asking

-- why what is asked is refused, as far as the reply rests on it (Zeebe; the exact form own)
pub data Refusal : Type 0 where
  NoSubscription : Refusal
  WasCorrelated : Refusal
  BeingDeleted : Refusal
  AnyOther : Refusal

-- the partition that a key names, of n of them (Zeebe's layout of keys; the rest own)
unfoldable pub home : (n key : ℕ) → ℕ
home n key = partition_of_key n key

-- the partition at which the messages with a correlation key live, of n of them (Zeebe; the rest own)
unfoldable pub seat : ℕ → List ℕ → ℕ
seat n correlation_key = home_known n correlation_key
