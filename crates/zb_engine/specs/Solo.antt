-- What is known of the engine of one thread.
use Rattle.std.specs.Prelude.{◌≡◌, ◌⊎◌, ◌≤◌, ℕ, List, [], ◌∷◌, ◌++◌, length, map, Bool, true, false, Option, Some, None}
use Rattle.std.specs.List.{AllByRecursion}
use Rattle.zb_disk.specs.declared.disk.Disk.{Ghosts}
use Rattle.zb_model.specs.declared.record.Batch.{Batch}
use Rattle.zb_model.specs.declared.record.Command.{Command}
use Rattle.zb_model.specs.declared.record.Command.TheVariants as commands
use Rattle.zb_model.specs.declared.stop.Stop.{Stop}
use Rattle.zb_rules.specs.Own.{IsSupported}
use Rattle.zb_rules.specs.Step.{IsStep, EachOn}
use Rattle.zb_world.specs.Entries.{IsPartitionOf, part_of, stamps_of, as_entry}
use Rattle.zb_world.specs.declared.entry.Entry.{Entry}
use Rattle.zb_partition.specs.declared.partition.Partition.{Partition}
use Rattle.zb_wire.specs.declared.request.Request.{Request}
use Rattle.zb_reply.specs.declared.reply.Reply.{Reply}
use Rattle.zb_wire.specs.Asked.{command_of}
use Rattle.zb_desk.specs.Numbered.{EachFrom, OfNumber}
use Rattle.zb_desk.specs.Replies.{IsReplyIf}
use Rattle.zb_desk.specs.Serial.{Basis, basis_of, log_behind, place_behind, IsEntryBy, AreMadeFor, IsNextEntry, AreAsked}
use Rattle.zb_partition.specs.Ledger.{Opening, Account, account_of, HasAccount}
use Rattle.zb_partition.specs.Submitting.{HasStopped}
use Rattle.zb_engine.specs.declared.solo.Solo.{Solo}

-- the opening is that of the partition with this number, of so many
abbrev pub IsNumbered : {D : Type 0} → (n number : ℕ) → Opening D → Type 0
IsNumbered n number opening = (opening.place ≡ number) × (opening.partitions ≡ n)

-- what an engine began with: how its logs were opened, and how many units of work it does behind a request
pub record Start (D : Type 0) : Type 0 where
  pub openings : List (Opening D)
  pub units : ℕ

-- what an engine began with, by its parts
abbrev pub start_of : {D : Type 0} → List (Opening D) → ℕ → Start D
start_of openings units = record { openings = openings; units = units }

-- how many partitions it has
abbrev pub many_in : {D : Type 0} → Start D → ℕ
many_in start = length start.openings

-- the batches that each of its logs had
abbrev pub logs_in : {D : Type 0} → Start D → List (List Batch)
logs_in start = map (λ opening. opening.batches) start.openings

-- what its run goes by
abbrev pub basis_in : {D : Type 0} → Start D → Basis
basis_in start = basis_of (logs_in start) start.units

-- the place of its first entry
abbrev pub place_at_start : {D : Type 0} → Start D → ℕ
place_at_start start = place_behind (logs_in start) []

-- the account of the partition with a number, behind these entries
abbrev pub account_in : {D : Type 0} → ℕ → Opening D → List Entry → Account D
account_in number opening entries = account_of opening (part_of number entries)

-- the partition with this number, of n, was opened so, and has made what is its own of these entries
abbrev pub HasPart : {D : Type 0} {disks : Ghosts D} → (n : ℕ) → List Entry → (number : ℕ)
    → Opening D → Partition D disks → Type 0
HasPart n entries number opening partition = IsNumbered n number opening
    × HasAccount (account_in number opening entries) partition

-- each of these entries begins at its own place
abbrev pub AreStamped : List (List Batch) → List Entry → Type 0
AreStamped logs entries = EachOn (λ before entry. entry.batch.begin ≡ place_behind logs before) []
    entries

-- the partitions of an engine
abbrev pub partitions_in : {D : Type 0} {disks : Ghosts D} → Solo D disks → List (Partition D disks)
partitions_in solo = solo.partitions.items

-- the places that the batches of each have
abbrev pub stamps_in : {D : Type 0} {disks : Ghosts D} → Solo D disks → List (List ℕ)
stamps_in solo = map (λ places. places.items) solo.stamps.items

-- the stop that it keeps, with the number of the partition that met it
abbrev pub kept_in : {D : Type 0} {disks : Ghosts D} → Solo D disks → Option (ℕ × Stop)
kept_in solo = solo.kept

-- its logs were opened so, and it has made these entries since
pub record HasMade {D : Type 0} {disks : Ghosts D} (start : Start D) (entries : List Entry)
    (solo : Solo D disks) : Type 0 where
  pub within : AllByRecursion (λ entry. IsPartitionOf (many_in start) entry.partition) entries
  pub begun : AreStamped (logs_in start) entries
  pub parts : EachFrom (HasPart (many_in start) entries) 1 start.openings (partitions_in solo)
  pub stamped : stamps_in solo ≡ stamps_of (many_in start) (place_at_start start) entries
  pub place : solo.place ≡ place_behind (logs_in start) entries
  pub goes_on : kept_in solo ≡ None
  pub bound : solo.units ≡ start.units

-- this is the batch of an entry of the partition with this number, if there is one
abbrev pub IsBatchOf : ℕ → Option Entry → Option Batch → Type 0
IsBatchOf number None batch = batch ≡ None
IsBatchOf number (Some entry) batch = (entry.partition ≡ number) × (batch ≡ Some entry.batch)

-- where an engine stopped: at which partition, why, and the entry that was made last and isn't in
-- its log, if there is one
pub record Halted : Type 0 where
  pub at : ℕ
  pub stop : Stop
  pub unlogged : Option Entry

-- where it stopped, by its parts
abbrev pub halted_at : ℕ → Stop → Option Entry → Halted
halted_at at stop unlogged = record { at = at; stop = stop; unlogged = unlogged }

-- the partition with this number was opened so and has made what is its own of these entries, or it
-- is the one that stopped
abbrev pub IsLeftPart : {D : Type 0} {disks : Ghosts D} → (n : ℕ) → List Entry → Halted
    → (number : ℕ) → Opening D → Partition D disks → Type 0
IsLeftPart n entries halted number opening partition = IsNumbered n number opening
    × (((number ≡ halted.at → ⊥) × HasAccount (account_in number opening entries) partition)
    ⊎ ((number ≡ halted.at) × ((refused : Option Batch) × IsBatchOf number halted.unlogged refused
    × HasStopped (account_in number opening entries) refused halted.stop partition)))

-- its logs were opened so, it made these entries, and then the partition with this number stopped, with the entry that was
-- made last and isn't in its log, if there is one
pub record HasEnded {D : Type 0} {disks : Ghosts D} (start : Start D) (entries : List Entry)
    (unlogged : Option Entry) (stop : Stop) (solo : Solo D disks) : Type 0 where
  pub at : ℕ
  pub within : AllByRecursion (λ entry. IsPartitionOf (many_in start) entry.partition) entries
  pub begun : AreStamped (logs_in start) entries
  pub last : (entry : Entry) → unlogged ≡ Some entry → (entry.partition ≡ at)
      × (entry.batch.begin ≡ place_behind (logs_in start) entries)
  pub of : IsPartitionOf (many_in start) at
  pub parts : EachFrom (IsLeftPart (many_in start) entries (halted_at at stop unlogged)) 1
      start.openings (partitions_in solo)
  pub stamped : stamps_in solo ≡ stamps_of (many_in start) (place_at_start start) entries
  pub kept : kept_in solo ≡ Some (at, stop)

-- a command that is run
abbrev pub is_run : Command → Bool
is_run (commands.ProcessInstanceMigrationMigrate migration) = false
is_run _ = true

-- a command that is run comes next, at one of so many partitions
abbrev pub CanBeDone : ℕ → ℕ × Command → Type 0
CanBeDone count next = (next.0 ≤ count) × IsSupported next.1

-- behind these entries a command was submitted at a reading of the clock at a partition, and this is its batch, a step on
-- the log that the partition has then
pub record IsPlaced {D : Type 0} {disks : Ghosts D} (start : Start D) (entries : List Entry)
    (reading : ℕ) (next : ℕ × Command) (batch : Batch) (solo : Solo D disks) : Type 0 where
  pub step : OfNumber (logs_in start) next.0
      (λ opened. IsStep next.0 (many_in start) (log_behind next.0 opened entries) batch)
  pub by : IsEntryBy (logs_in start) (Some next) reading entries (as_entry next.0 batch)
  pub holds : HasMade start (entries ++ as_entry next.0 batch ∷ []) solo

-- behind these entries a command at a partition stopped the engine
pub record IsTurnedAway {D : Type 0} {disks : Ghosts D} (start : Start D) (entries : List Entry)
    (reading : ℕ) (next : ℕ × Command) (stop : Stop) (solo : Solo D disks) : Type 0 where
  pub unlogged : Option Entry
  pub by : (entry : Entry) → unlogged ≡ Some entry
      → IsEntryBy (logs_in start) (Some next) reading entries entry
  pub holds : HasEnded start entries unlogged stop solo

-- what a request itself asks for was done at a reading, and this is the reply to it
pub record IsDone {D : Type 0} {disks : Ghosts D} (start : Start D) (earlier : List Entry)
    (request : Request) (reading : ℕ) (reply : Reply) (solo : Solo D disks) : Type 0 where
  pub own : List Entry
  pub done : AreAsked (logs_in start) request reading earlier own
  pub told : IsReplyIf (command_of request) (many_in start) request reading own reply
  pub holds : HasMade start (earlier ++ own) solo

-- a request stopped the engine once it had made these entries, and the one that isn't in its log, if there is one
pub record IsCutOff {D : Type 0} {disks : Ghosts D} (start : Start D) (earlier : List Entry)
    (request : Request) (reading : ℕ) (stop : Stop) (solo : Solo D disks) : Type 0 where
  pub own : List Entry
  pub made : AreMadeFor (basis_in start) request reading earlier own
  pub unlogged : Option Entry
  pub next : (entry : Entry) → unlogged ≡ Some entry
      → IsNextEntry (basis_in start) request reading earlier own entry
  pub holds : HasEnded start (earlier ++ own) unlogged stop solo
