-- What stands in the log of each partition of an engine, and what comes next by it.
use Rattle.std.proofs.Common.{◌≡◌, ◌<◌, ◌≤◌, ◌+◌, ℕ, zero, suc, List, [], ◌∷◌, length, map, drop, get_or, slice_get, if◌then◌else◌, Some, option_map, refl, ap, ◌∙◌, arith}
use Rattle.std.specs.Option.{option_or}
use Rattle.std.proofs.lemmas.List.{length-map}
use Rattle.zb_disk.specs.declared.disk.Disk.{Ghosts}
use Rattle.zb_model.specs.declared.record.Batch.{Batch}
use Rattle.zb_model.specs.declared.record.Command.TheVariants as commands
use Rattle.zb_views.specs.View.{events_of}
use Rattle.zb_record.specs.Packets.{first_packet}
use Rattle.zb_rules.specs.Continue.{is_quiet}
use Rattle.zb_rules.specs.Due.{due_command}
use Rattle.zb_world.specs.declared.entry.Entry.{Entry}
use Rattle.zb_partition.specs.Partition.{partition_number_of, partitions_of, HasLog}
use Rattle.zb_partition.specs.declared.partition.Partition.{Partition}
use Rattle.zb_desk.specs.Serial.{log_behind, due_in_logs, going_on, first_sent}
use Rattle.zb_partition.specs.Ledger.{Opening}
use Rattle.zb_engine.specs.Solo.{Start, many_in, logs_in, HasPart, partitions_in, HasMade}
use Rattle.zb_engine.specs.declared.solo.Solo.{Solo}
use Rattle.zb_engine.proofs.NumberLemmas.{each_from_length, each_from_at}

-- the log of the partition at a place stands first of those from it on
pub record StandsAt {D : Type 0} {disks : Ghosts D} (start : Start D) (made : List Entry) (index : ℕ) (partition : Partition D disks) : Type 0 where
  pub log : List Batch
  pub first : drop index (logs_in start) ≡ log ∷ drop (suc index) (logs_in start)
  pub has : HasLog (log_behind (1 + index) log made) partition
  pub place : partition_number_of partition ≡ 1 + index
  pub partitions : partitions_of partition ≡ many_in start

first_of : {A B : Type 0} (f : A → B) (xs : List A) (i : ℕ) (x : A) → slice_get xs i ≡ Some x → drop i (map f xs) ≡ f x ∷ drop (suc i) (map f xs)
first_of f [] i x is = absurd (cc)
first_of f (y ∷ ys) zero x is = let same : y ≡ x = cc in ap (λ z. f z ∷ map f ys) same
first_of f (y ∷ ys) (suc i) x is = first_of f ys i x is

past : {A : Type 0} (xs : List A) (i : ℕ) → length xs ≤ i → drop i xs ≡ []
past [] zero far = refl
past [] (suc i) far = refl
past (x ∷ xs) zero far = absurd (let no : ⊥ = omega (arith, far) in no)
past (x ∷ xs) (suc i) far = past xs i (omega (arith, far))

module _ {D : Type 0} {disks : Ghosts D} (start : Start D) (made : List Entry) (solo : Solo D disks) (has : HasMade start made solo) where
  as_many : many_in start ≡ length (partitions_in solo)
  as_many = each_from_length (HasPart (many_in start) made) 1 start.openings (partitions_in solo) has.parts

  pub stands_at : (index : ℕ) (d : Partition D disks) → index < length (partitions_in solo) → StandsAt start made index (get_or (partitions_in solo) index d)
  stands_at index d within =
      let x = each_from_at (HasPart (many_in start) made) (1 + index) 1 start.openings (partitions_in solo) index d refl within has.parts in
      record {
        log = x.0.batches;
        first = first_of (λ (o : Opening D). o.batches) start.openings index x.0 x.1;
        has = x.2.1.is_open.has;
        place = x.2.1.is_open.place ∙ x.2.0.0;
        partitions = x.2.1.is_open.partitions ∙ x.2.0.1;
      }

  pub none_behind : (index : ℕ) → length (partitions_in solo) ≤ index → drop index (logs_in start) ≡ []
  none_behind index far = past (logs_in start) index (omega (arith, far, as_many, length-map start.openings (λ (o : Opening D). o.batches)))

-- what is due from a partition on
module _ (index : ℕ) (logs : List (List Batch)) (log : List Batch) (made : List Entry) (first : drop index logs ≡ log ∷ drop (suc index) logs) where
  -- what is found from it on is found in its log, or in those behind it
  from_here : {A : Type 0} (found : ℕ → List (List Batch) → A) (or_later : A → A) → found (1 + index) (log ∷ drop (suc index) logs) ≡ or_later (found (suc (1 + index)) (drop (suc index) logs))
      → found (1 + index) (drop index logs) ≡ or_later (found (1 + (index + 1)) (drop (index + 1) logs))
  from_here found or_later here =
      let on : suc index ≡ index + 1 = omega arith in
      let number : suc (1 + index) ≡ 1 + (index + 1) = omega arith in
      ap (found (1 + index)) first ∙ (here ∙ (ap (λ p. or_later (found p (drop (suc index) logs))) number ∙ ap (λ i. or_later (found (1 + (index + 1)) (drop i logs))) on))

  pub due_here : (reading : ℕ) → due_in_logs reading (1 + index) (drop index logs) made
      ≡ option_or (option_map (λ command. (1 + index, command)) (due_command reading (events_of (log_behind (1 + index) log made)))) (due_in_logs reading (1 + (index + 1)) (drop (index + 1) logs) made)
  due_here reading =
      from_here (λ p ls. due_in_logs reading p ls made) (λ later. option_or (option_map (λ command. (1 + index, command)) (due_command reading (events_of (log_behind (1 + index) log made)))) later) refl

  -- what goes on
  pub going_on_here : going_on (1 + index) (drop index logs) made
      ≡ (if is_quiet (events_of (log_behind (1 + index) log made)) then going_on (1 + (index + 1)) (drop (index + 1) logs) made else Some (1 + index, commands.ProcessInstanceBatchContinue))
  going_on_here =
      from_here (λ p ls. going_on p ls made) (λ later. if is_quiet (events_of (log_behind (1 + index) log made)) then later else Some (1 + index, commands.ProcessInstanceBatchContinue)) refl

  -- and what was sent first
  pub first_sent_here : (n : ℕ) → first_sent n (1 + index) (drop index logs) made
      ≡ option_or (first_packet (1 + index) n (events_of (log_behind (1 + index) log made))) (first_sent n (1 + (index + 1)) (drop (index + 1) logs) made)
  first_sent_here n = from_here (λ p ls. first_sent n p ls made) (λ later. option_or (first_packet (1 + index) n (events_of (log_behind (1 + index) log made))) later) refl
