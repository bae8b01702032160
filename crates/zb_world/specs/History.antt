-- Histories of the engine: the steps of all partitions in one list, by the order in which they were committed.
use Rattle.std.specs.Prelude.{◌≡◌, ◌≤◌, ◌<◌, ℕ, List, [], ◌++◌, length, take, slice_get, All, Contains, IsTrue, Some}
use Rattle.zb_model.specs.declared.record.Batch.{Batch}
use Rattle.zb_model.specs.declared.record.Packet.{Packet}
use Rattle.zb_record.specs.Packets.{sent_by, is_by_packet}
use Rattle.zb_rules.specs.Step.{IsStep, EachOn}
use Rattle.zb_once.specs.Once.{AtMostOne}
use Rattle.zb_world.specs.Entries.{IsPartitionOf, is_of, part_of}
use Rattle.zb_world.specs.declared.entry.Entry.{Entry}

-- the command of a batch rests on no more places than there are members before it (own)
abbrev pub RestsOn : {A : Type 0} → List A → Batch → Type 0
RestsOn before batch = batch.begin ≤ length before

-- of these entries of n partitions one at a place below this one sent the packet (own)
pub record IsSentAmong (n : ℕ) (entries : List Entry) (below : ℕ) (packet : Packet) : Type 0 where
  pub place : ℕ
  pub sender : Entry
  pub at : slice_get entries place ≡ Some sender
  pub before : place < below
  pub sends : Contains (sent_by sender.partition n sender.batch) packet

-- an entry's command was sent to its partition by a packet, by one of these entries on which it rests (own)
pub record WasSent (n : ℕ) (before : List Entry) (entry : Entry) : Type 0 where
  pub packet : Packet
  pub sent : IsSentAmong n before entry.batch.begin packet
  pub to : packet.to ≡ entry.partition
  pub command : packet.command ≡ entry.batch.command

-- behind these entries of n partitions this may be the next one (own)
pub record IsEntryOf (n : ℕ) (before : List Entry) (entry : Entry) : Type 0 where
  -- its partition is one of them
  pub partition : IsPartitionOf n entry.partition
  -- its batch is a step of its partition on what that one has
  pub step : IsStep entry.partition n (part_of entry.partition before) entry.batch
  -- and rests on no more entries than there are
  pub begin : RestsOn before entry.batch
  -- where a partition takes its command by packets alone, one of the entries on which it rests sent it
  pub packet : IsTrue (is_by_packet entry.batch.command) → WasSent n before entry

-- a history of n partitions: each entry may be the next one behind those before it (own)
abbrev pub IsHistory : ℕ → List Entry → Type 0
IsHistory n h = EachOn (IsEntryOf n) [] h

-- a cut of h: its first few entries, and behind them of each partition at most one more, which knows of those alone (own)
pub record IsCutAt (n at : ℕ) (h cut : List Entry) : Type 0 where
  pub more : List Entry
  pub within : at ≤ length h
  pub is : cut ≡ take at h ++ more
  -- of each partition at most one entry is added
  pub once : (p : ℕ) → AtMostOne (is_of p) more
  -- and each might have been the next one behind the first few
  pub each : All (IsEntryOf n (take at h)) more
