-- The serial run: which command comes next, units of work included, and what a request leads to by it.
use Rattle.std.specs.Prelude.{◌≡◌, ◌+◌, nat_lt, max, if◌then◌else◌, ℕ, suc, List, [], ◌∷◌, ◌++◌, length, filter, drop, slice_get, Bool, true, not, Option, Some, None, option_map}
use Rattle.std.specs.List.{sum_by, list_any, flat_map}
use Rattle.std.specs.Option.{option_or}
use Rattle.zb_model.specs.declared.record.Batch.{Batch}
use Rattle.zb_model.specs.declared.record.Command.{Command}
use Rattle.zb_model.specs.declared.record.Command.TheVariants as commands
use Rattle.zb_model.specs.declared.record.Packet.{Packet}
use Rattle.zb_views.specs.View.{events_of, moment_of_last}
use Rattle.zb_views.specs.Standing.{begun_by}
use Rattle.zb_record.specs.Answers.{answer_packet, is_answer}
use Rattle.zb_record.specs.Packets.{first_packet, delivery_of, is_by_packet}
use Rattle.zb_rules.specs.Step.{EachOn}
use Rattle.zb_rules.specs.Due.{due_command}
use Rattle.zb_rules.specs.Continue.{is_quiet}
use Rattle.zb_world.specs.Entries.{part_of}
use Rattle.zb_world.specs.declared.entry.Entry.{Entry}
use Rattle.zb_wire.specs.declared.request.Request.{Request}
use Rattle.zb_wire.specs.declared.request.Request.TheVariants as requests
use Rattle.zb_wire.specs.Asked.{command_of, partition_asked}
use Rattle.zb_desk.specs.Numbered.{OfNumber}

-- a tick makes at most so many batches
unfoldable pub most_due : ℕ
most_due = 1000

-- the log of partition p that was opened with these batches, behind these entries of the run
abbrev pub log_behind : ℕ → List Batch → List Entry → List Batch
log_behind p opened entries = opened ++ part_of p entries

-- the place behind these entries of a run whose logs had these batches at opening
abbrev pub place_behind : List (List Batch) → List Entry → ℕ
place_behind logs entries = sum_by length logs + length entries

-- the first command that is due at a reading behind these entries, with its partition, of the logs from partition p on
abbrev pub due_in_logs : (reading p : ℕ) → List (List Batch) → List Entry → Option (ℕ × Command)
due_in_logs reading p [] entries = None
due_in_logs reading p (log ∷ logs) entries =
    option_or (option_map (λ command. (p, command)) (due_command reading (events_of (log_behind p log entries))))
    (due_in_logs reading (suc p) logs entries)

-- a client's command is asked for once, at partition p
abbrev pub once : (p : ℕ) → Command → (done : List Entry) → Option (ℕ × Command)
once p command [] = Some (p, command)
once p command (entry ∷ done) = None

-- what the clock's ops ask for next: a tick for what is due, the first partition first, and an advance for nothing
abbrev pub clocked : List (List Batch) → Request → ℕ → (earlier done : List Entry) → Option (ℕ × Command)
clocked logs requests.Tick reading earlier done =
    if nat_lt (length done) most_due then due_in_logs reading 1 logs (earlier ++ done) else None
clocked logs _ reading earlier done = None

-- the command that is asked for next, and its partition, by the command of a client that the request has, or else by time
abbrev pub next_by : Option Command → List (List Batch) → Request → ℕ → (earlier done : List Entry) → Option (ℕ × Command)
next_by (Some command) logs request reading earlier done = once (partition_asked (length logs) request) command done
next_by None logs request reading earlier done = clocked logs request reading earlier done

-- the command that a request itself asks for next at a reading, and its partition
abbrev pub next_asked : List (List Batch) → Request → ℕ → (earlier done : List Entry) → Option (ℕ × Command)
next_asked logs request reading earlier done = next_by (command_of request) logs request reading earlier done

-- a unit of work is a command that nobody asks for: the engine goes on where a batch was full, or takes a packet (own)
abbrev pub is_unit_command : Command → Bool
is_unit_command commands.ProcessInstanceBatchContinue = true
is_unit_command command = is_by_packet command

-- the entry is a unit of work
abbrev pub is_unit : Entry → Bool
is_unit entry = is_unit_command entry.batch.command

-- the entries that are units of work
abbrev pub units_in : List Entry → List Entry
units_in entries = filter is_unit entries

-- and those that were asked for
abbrev pub asked_in : List Entry → List Entry
asked_in entries = filter (λ entry. not (is_unit entry)) entries

-- of the logs from partition p on, behind some entries: the first one whose game isn't quiet goes on
abbrev pub going_on : (p : ℕ) → List (List Batch) → List Entry → Option (ℕ × Command)
going_on p [] entries = None
going_on p (log ∷ logs) entries =
    if is_quiet (events_of (log_behind p log entries)) then going_on (suc p) logs entries else Some (p, commands.ProcessInstanceBatchContinue)

-- the answers that some units of work at n partitions have sent, in order
abbrev pub answers_sent : (n : ℕ) → List Entry → List Packet
answers_sent n units = flat_map (λ entry. begun_by (answer_packet entry.partition n entry.batch)) units

-- the answers of them that are still in hand, the oldest first: as many of those that were sent were taken as units took one (own)
abbrev pub answers_in_hand : (n : ℕ) → List Entry → List Packet
answers_in_hand n units = drop (length (filter (λ entry. is_answer entry.batch.command) units)) (answers_sent n units)

-- of the logs from partition p on, of n in all, behind some entries: the first packet of the first outbox that isn't empty
abbrev pub first_sent : (n p : ℕ) → List (List Batch) → List Entry → Option Packet
first_sent n p [] entries = None
first_sent n p (log ∷ logs) entries =
    option_or (first_packet p n (events_of (log_behind p log entries))) (first_sent n (suc p) logs entries)

-- the packet that is delivered next behind some entries, of which these last ones are units of work: the oldest answer in hand, or else one of an outbox
abbrev pub packet_next : List (List Batch) → (units entries : List Entry) → Option Packet
packet_next logs units entries = option_or (slice_get (answers_in_hand (length logs) units) 0) (first_sent (length logs) 1 logs entries)

-- the next unit of work behind some entries, with its partition, where these units were done so far: the engine goes on, or a packet is delivered
abbrev pub unit_in_logs : List (List Batch) → (units entries : List Entry) → Option (ℕ × Command)
unit_in_logs logs units entries = option_or (going_on 1 logs entries) (option_map delivery_of (packet_next logs units entries))

-- what a run goes by as it begins: the logs as they were opened, and how many units of work are done behind a request
pub record Basis : Type 0 where
  pub logs : List (List Batch)
  pub units : ℕ

-- what a run goes by, by its parts
abbrev pub basis_of : List (List Batch) → ℕ → Basis
basis_of logs units = record { logs = logs; units = units }

-- the next unit of work behind some entries, where these were done so far; None where no more are done, or where every game is quiet and no packet is left
abbrev pub next_unit : Basis → (units entries : List Entry) → Option (ℕ × Command)
next_unit basis units entries = if nat_lt (length units) basis.units then unit_in_logs basis.logs units entries else None

-- the command that comes next for a request at a reading, and its partition, behind the entries before it and those that
-- were done for it: what it asks for, and then units of work
abbrev pub next_of : Basis → Request → ℕ → (earlier done : List Entry) → Option (ℕ × Command)
next_of basis request reading earlier done =
    option_or (if list_any is_unit done then None else next_asked basis.logs request reading earlier done)
    (next_unit basis (units_in done) (earlier ++ done))

-- this is the entry of a command that comes next behind some entries: at the larger one of the last moment of its log and
-- the reading, and it begins at its own place
pub record IsEntryBy (logs : List (List Batch)) (next : Option (ℕ × Command)) (reading : ℕ) (behind : List Entry) (entry : Entry) : Type 0 where
  pub command : next ≡ Some (entry.partition, entry.batch.command)
  pub moment : OfNumber logs entry.partition
      (λ opened. entry.batch.moment ≡ max (moment_of_last (log_behind entry.partition opened behind)) reading)
  pub begin : entry.batch.begin ≡ place_behind logs behind

-- this is the entry that comes next for a request
abbrev pub IsNextEntry : Basis → Request → ℕ → (earlier done : List Entry) → Entry → Type 0
IsNextEntry basis request reading earlier done entry =
    IsEntryBy basis.logs (next_of basis request reading earlier done) reading (earlier ++ done) entry

-- these entries came one after the other for a request, behind those before it
abbrev pub AreMadeFor : Basis → Request → ℕ → (earlier entries : List Entry) → Type 0
AreMadeFor basis request reading earlier entries = EachOn (IsNextEntry basis request reading earlier) [] entries

-- a request was carried out at a reading by these entries: no more come for it
pub record IsCarriedOut (basis : Basis) (request : Request) (reading : ℕ) (earlier entries : List Entry) : Type 0 where
  pub made : AreMadeFor basis request reading earlier entries
  pub all : next_of basis request reading earlier entries ≡ None

-- this is the unit of work that is done next at a reading, for no request
abbrev pub IsNextUnit : Basis → ℕ → (earlier done : List Entry) → Entry → Type 0
IsNextUnit basis reading earlier done entry =
    IsEntryBy basis.logs (next_unit basis done (earlier ++ done)) reading (earlier ++ done) entry

-- these units of work were done one after the other behind some entries
abbrev pub AreUnits : Basis → ℕ → (earlier units : List Entry) → Type 0
AreUnits basis reading earlier units = EachOn (IsNextUnit basis reading earlier) [] units

-- these units of work were done, and no more come
pub record AreAllUnits (basis : Basis) (reading : ℕ) (earlier units : List Entry) : Type 0 where
  pub made : AreUnits basis reading earlier units
  pub all : next_unit basis units (earlier ++ units) ≡ None

-- a request alone asked for this entry next (own)
abbrev pub IsNextAsked : List (List Batch) → Request → ℕ → (earlier done : List Entry) → Entry → Type 0
IsNextAsked logs request reading earlier done entry = IsEntryBy logs (next_asked logs request reading earlier done) reading (earlier ++ done) entry

-- these entries are all that a request itself asked for (own)
pub record AreAsked (logs : List (List Batch)) (request : Request) (reading : ℕ) (earlier entries : List Entry) : Type 0 where
  pub made : EachOn (IsNextAsked logs request reading earlier) [] entries
  pub all : next_asked logs request reading earlier entries ≡ None
