-- An engine whose entries grow by one, and one that stops.
use Rattle.std.proofs.Common.{◌≡◌, ◌<◌, ◌+◌, ◌-◌, ℕ, List, [], ◌∷◌, ◌++◌, length, set, get_or, slice_get, Option, Some, None, option_map, IsTrue, refl, sym, ap, ◌∙◌, subst, inl, inr, arith, length-append, append-nil}
use Rattle.std.specs.List.{AllByRecursion}
use Rattle.zb_disk.specs.declared.disk.Disk.{Ghosts}
use Rattle.zb_model.specs.declared.record.Batch.{Batch}
use Rattle.zb_model.specs.declared.record.Command.{Command}
use Rattle.zb_model.specs.declared.stop.Stop.{Stop}
use Rattle.zb_model.specs.declared.stop.Stop.TheVariants as stops
use Rattle.zb_rules.specs.Step.{IsStep}
use Rattle.zb_rules.proofs.StepLaws.{each_on_more}
use Rattle.zb_rules.proofs.KindsLaws.{all_joined}
use Rattle.zb_world.specs.Entries.{IsPartitionOf, part_of, places_of, stamps_of, as_entry}
use Rattle.zb_world.specs.declared.entry.Entry.{Entry}
use Rattle.zb_world.proofs.EntryLaws.{part_of_joined, part_of_its, part_of_other, places_of_joined, places_of_its, places_of_other}
use Rattle.zb_partition.specs.declared.partition.Partition.{Partition}
use Rattle.zb_desk.specs.Numbered.{EachFrom}
use Rattle.zb_desk.specs.Serial.{log_behind, place_behind, IsEntryBy}
use Rattle.zb_partition.specs.Ledger.{Opening, Account, account_of, HasAccount}
use Rattle.zb_partition.specs.Submitting.{IsCommitted, HasRefused, HasStopped}
use Rattle.zb_partition.proofs.LedgerLaws.{stopped_resting}
use Rattle.zb_engine.specs.Solo.{Start, many_in, logs_in, place_at_start, account_in, HasPart, partitions_in, stamps_in, kept_in, HasMade, IsBatchOf, halted_at, IsLeftPart, HasEnded, IsPlaced, IsTurnedAway}
use Rattle.zb_engine.specs.declared.solo.Solo.{Solo}
use Rattle.zb_engine.proofs.NumberLemmas.{each_from_length, each_from_at, each_from_set, range_map_set, range_map_get, slice_get_made, get_within, put_same, member}

-- all of some, and one more
pub all_more : {A : Type 0} (P : A → Type 0) (xs : List A) (x : A) → AllByRecursion P xs → P x → AllByRecursion P (xs ++ x ∷ [])
all_more P xs x all one = all_joined P xs (x ∷ []) all (one, tt)

-- the part of a partition behind one entry more
part_its : (p : ℕ) (made : List Entry) (batch : Batch) → part_of p (made ++ as_entry p batch ∷ []) ≡ part_of p made ++ batch ∷ []
part_its p made batch = part_of_joined p made (as_entry p batch ∷ []) ∙ ap (λ bs. part_of p made ++ bs) (part_of_its p (as_entry p batch) [] refl)

part_other : (p k : ℕ) (made : List Entry) (batch : Batch) → (k ≡ p → ⊥) → part_of k (made ++ as_entry p batch ∷ []) ≡ part_of k made
part_other p k made batch other =
    part_of_joined k made (as_entry p batch ∷ []) ∙ (ap (λ bs. part_of k made ++ bs) (part_of_other k (as_entry p batch) [] (λ same. other (sym same))) ∙ append-nil (part_of k made))

-- and its places
places_its : (p first : ℕ) (made : List Entry) (batch : Batch) → places_of p first (made ++ as_entry p batch ∷ []) ≡ places_of p first made ++ (first + length made) ∷ []
places_its p first made batch = places_of_joined p first made (as_entry p batch ∷ []) ∙ ap (λ ks. places_of p first made ++ ks) (places_of_its p (first + length made) (as_entry p batch) [] refl)

places_other : (p k first : ℕ) (made : List Entry) (batch : Batch) → (k ≡ p → ⊥) → places_of k first (made ++ as_entry p batch ∷ []) ≡ places_of k first made
places_other p k first made batch other =
    places_of_joined k first made (as_entry p batch ∷ [])
    ∙ (ap (λ ks. places_of k first made ++ ks) (places_of_other k (first + length made) (as_entry p batch) [] (λ same. other (sym same))) ∙ append-nil (places_of k first made))

-- the place behind one entry more
place_more : (logs : List (List Batch)) (made : List Entry) (entry : Entry) → place_behind logs (made ++ entry ∷ []) ≡ place_behind logs made + 1
place_more logs made entry = omega (arith, length-append made (entry ∷ []))

-- an engine that has made some entries, and a partition of it
module _ {D : Type 0} {disks : Ghosts D} (start : Start D) (made : List Entry) (old new : Solo D disks) (has : HasMade start made old) (p index : ℕ) (numbered : p ≡ 1 + index) (within : index < length (partitions_in old)) where
  abbrev n : ℕ
  n = many_in start

  as_many : n ≡ length (partitions_in old)
  as_many = each_from_length (HasPart n made) 1 start.openings (partitions_in old) has.parts

  of_it : IsPartitionOf n p
  of_it = (omega (arith, numbered), omega (arith, numbered, within, as_many))

  opened_at : (x : Opening D) → slice_get start.openings index ≡ Some x → slice_get (logs_in start) (p - 1) ≡ Some x.batches
  opened_at x at = ap (λ i. slice_get (logs_in start) i) (let i : p - 1 ≡ index = omega (arith, numbered) in i) ∙ slice_get_made (λ (o : Opening D). o.batches) start.openings index x at

  -- how its log was opened, and what it holds
  pub its_part : (d : Partition D disks) → (x : Opening D) × (slice_get start.openings index ≡ Some x) × HasPart n made p x (get_or (partitions_in old) index d)
  its_part d = each_from_at (HasPart n made) p 1 start.openings (partitions_in old) index d numbered within has.parts

  -- a command became a batch of it
  module _ (reading : ℕ) (command : Command) (batch : Batch) (partition : Partition D disks)
      (committed : (account : Account D) → HasAccount account (get_or (partitions_in old) index partition) → IsCommitted account reading old.place command batch partition) where
    abbrev entry : Entry
    entry = as_entry p batch

    -- which the others don't have
    others : (k : ℕ) (x : Opening D) (z : Partition D disks) → (k ≡ p → ⊥) → HasPart n made k x z → HasPart n (made ++ entry ∷ []) k x z
    others k x z other part = (part.0, subst (λ bs. HasAccount (account_of x bs) z) (sym (part_other p k made batch other)) part.1)

    its : (x : Opening D) → slice_get start.openings index ≡ Some x → HasPart n made p x (get_or (partitions_in old) index partition) → HasPart n (made ++ entry ∷ []) p x partition
    its x at part = (part.0, subst (λ bs. HasAccount (account_of x bs) partition) (sym (part_its p made batch)) (committed (account_in p x made) part.1).holds)

    stamps_more : stamps_of n (place_at_start start) (made ++ entry ∷ []) ≡ set (stamps_of n (place_at_start start) made) index (places_of p (place_at_start start) made ++ (place_at_start start + length made) ∷ [])
    stamps_more =
        range_map_set (λ k. places_of k (place_at_start start) made) (λ k. places_of k (place_at_start start) (made ++ entry ∷ [])) p 1 n index numbered (omega (arith, within, as_many))
        (λ k other. places_other p k (place_at_start start) made batch other)
        ∙ ap (set (stamps_of n (place_at_start start) made) index) (places_its p (place_at_start start) made batch)

    -- so it has made one entry more
    pub placed : partitions_in new ≡ set (partitions_in old) index partition → stamps_in new ≡ set (stamps_in old) index (get_or (stamps_in old) index [] ++ old.place ∷ [])
        → new.place ≡ old.place + 1 → new.kept ≡ old.kept → new.units ≡ old.units → IsPlaced start made reading (p, command) batch new
    placed parts stamps place kept units =
        let x = its_part partition in
        let done = committed (account_in p x.0 made) x.2.1 in
        let at_place : place_at_start start + length made ≡ old.place = omega (arith, has.place) in
        record {
          step = (
            x.0.batches,
            of_it.0,
            opened_at x.0 x.1,
            subst (λ (m : ℕ). IsStep p m (log_behind p x.0.batches made) batch) x.2.0.1 (subst (λ (q : ℕ). IsStep q x.0.partitions (log_behind p x.0.batches made) batch) x.2.0.0 done.made.step),
          );
          by = record {
            command = ap (λ c. Some (p, c)) (sym done.made.is.command);
            moment = (x.0.batches, of_it.0, opened_at x.0 x.1, done.made.is.moment);
            begin = done.made.is.begin ∙ has.place;
          };
          holds = record {
            within = all_more (λ (e : Entry). IsPartitionOf n e.partition) made entry has.within of_it;
            begun = each_on_more (λ before (e : Entry). e.batch.begin ≡ place_behind (logs_in start) before) [] made entry has.begun (done.made.is.begin ∙ has.place);
            parts = subst (EachFrom (HasPart n (made ++ entry ∷ [])) 1 start.openings) (sym parts)
                (each_from_set (HasPart n made) (HasPart n (made ++ entry ∷ [])) p 1 start.openings (partitions_in old) index partition numbered has.parts others its);
            stamped = stamps ∙ (ap (λ ss. set ss index (get_or ss index [] ++ old.place ∷ [])) has.stamped
                ∙ (ap (λ ks. set (stamps_of n (place_at_start start) made) index (ks ++ old.place ∷ [])) (range_map_get (λ k. places_of k (place_at_start start) made) (λ k. []) p 1 n index [] numbered (omega (arith, within, as_many)))
                ∙ (ap (λ k. set (stamps_of n (place_at_start start) made) index (places_of p (place_at_start start) made ++ k ∷ [])) (sym at_place) ∙ sym stamps_more)));
            place = place ∙ (ap (λ k. k + 1) has.place ∙ sym (place_more (logs_in start) made entry));
            goes_on = kept_same kept;
            bound = units ∙ has.bound;
          };
        }
      where
        kept_same : new.kept ≡ old.kept → kept_in new ≡ None
        kept_same same = same ∙ has.goes_on

  -- it stopped
  module _ (refused : Option Batch) (stop : Stop) (partition : Partition D disks)
      (stopped : (x : Opening D) → slice_get start.openings index ≡ Some x → HasPart n made p x (get_or (partitions_in old) index partition) → HasStopped (account_in p x made) refused stop partition) where
    abbrev unlogged : Option Entry
    unlogged = option_map (as_entry p) refused

    still : (k : ℕ) (x : Opening D) (z : Partition D disks) → (k ≡ p → ⊥) → HasPart n made k x z → IsLeftPart n made (halted_at p stop unlogged) k x z
    still k x z other part = (part.0, inl (other, part.1))

    batch_of : (r : Option Batch) → IsBatchOf p (option_map (as_entry p) r) r
    batch_of None = refl
    batch_of (Some batch) = (refl, refl)

    left : (x : Opening D) → slice_get start.openings index ≡ Some x → HasPart n made p x (get_or (partitions_in old) index partition) → IsLeftPart n made (halted_at p stop unlogged) p x partition
    left x at part = (part.0, inr (refl, (refused, batch_of refused, stopped x at part)))

    last_of : (r : Option Batch) → ((batch : Batch) → r ≡ Some batch → batch.begin ≡ place_behind (logs_in start) made) → (entry : Entry) → option_map (as_entry p) r ≡ Some entry
        → (entry.partition ≡ p) × (entry.batch.begin ≡ place_behind (logs_in start) made)
    last_of None begin entry is = absurd (cc)
    last_of (Some batch) begin entry is =
        let same : as_entry p batch ≡ entry = cc in
        subst (λ (e : Entry). (e.partition ≡ p) × (e.batch.begin ≡ place_behind (logs_in start) made)) same (refl, begin batch refl)

    -- and with it the engine
    pub ended : partitions_in new ≡ set (partitions_in old) index partition → stamps_in new ≡ stamps_in old → kept_in new ≡ Some (p, stop)
        → ((batch : Batch) → refused ≡ Some batch → batch.begin ≡ place_behind (logs_in start) made) → HasEnded start made unlogged stop new
    ended parts stamps kept begin = record {
      at = p;
      within = has.within;
      begun = has.begun;
      last = last_of refused begin;
      of = of_it;
      parts = subst (EachFrom (IsLeftPart n made (halted_at p stop unlogged)) 1 start.openings) (sym parts)
          (each_from_set (HasPart n made) (IsLeftPart n made (halted_at p stop unlogged)) p 1 start.openings (partitions_in old) index partition numbered has.parts still left);
      stamped = stamps ∙ has.stamped;
      kept = kept;
    }

  -- a command stopped it
  pub turned_away : (reading : ℕ) (command : Command) (stop : Stop) (partition : Partition D disks)
      → ((account : Account D) → HasAccount account (get_or (partitions_in old) index partition) → HasRefused account reading old.place command stop partition)
      → partitions_in new ≡ set (partitions_in old) index partition → stamps_in new ≡ stamps_in old → kept_in new ≡ Some (p, stop)
      → IsTurnedAway start made reading (p, command) stop new
  turned_away reading command stop partition refuses parts stamps kept =
      let x = its_part partition in
      let told = refuses (account_in p x.0 made) x.2.1 in
      record {
        unlogged = option_map (as_entry p) told.refused;
        by = by_of x told told.refused refl;
        holds = ended told.refused stop partition (stopped_of x told) parts stamps kept (λ batch is. (told.next batch is).is.begin ∙ has.place);
      }
    where
      stopped_of : (x : ((x : Opening D) × (slice_get start.openings index ≡ Some x) × HasPart n made p x (get_or (partitions_in old) index partition))) (told : HasRefused (account_in p x.0 made) reading old.place command stop partition)
          → (y : Opening D) → slice_get start.openings index ≡ Some y → HasPart n made p y (get_or (partitions_in old) index partition) → HasStopped (account_in p y made) told.refused stop partition
      stopped_of x told y at part =
          let same : Some x.0 ≡ Some y = sym x.1 ∙ at in
          let one : x.0 ≡ y = cc in
          subst (λ (o : Opening D). HasStopped (account_in p o made) told.refused stop partition) one told.stopped

      by_of : (x : ((x : Opening D) × (slice_get start.openings index ≡ Some x) × HasPart n made p x (get_or (partitions_in old) index partition))) (told : HasRefused (account_in p x.0 made) reading old.place command stop partition) (r : Option Batch) → told.refused ≡ r
          → (entry : Entry) → option_map (as_entry p) r ≡ Some entry → IsEntryBy (logs_in start) (Some (p, command)) reading made entry
      by_of x told None none entry is = absurd (cc)
      by_of x told (Some batch) some entry is =
          let same : as_entry p batch ≡ entry = cc in
          let next = told.next batch some in
          subst (λ (e : Entry). IsEntryBy (logs_in start) (Some (p, command)) reading made e) same (record {
            command = ap (λ c. Some (p, c)) (sym next.is.command);
            moment = (x.0.batches, of_it.0, opened_at x.0 x.1, next.is.moment);
            begin = next.is.begin ∙ has.place;
          })

  -- there was no memory, and nothing was done to it
  module _ (told : IsTrue disks.tells_images → IsTrue disks.tells) (parts : partitions_in new ≡ partitions_in old) (stamps : stamps_in new ≡ stamps_in old) (kept : kept_in new ≡ Some (p, stops.Memory)) where
    abbrev itself : Partition D disks
    itself = get_or (partitions_in old) index (member (partitions_in old) index within)

    here : get_or (partitions_in old) index itself ≡ itself
    here = get_within (partitions_in old) index itself (member (partitions_in old) index within) within

    pub ended_resting : HasEnded start made None stops.Memory new
    ended_resting =
        ended None stops.Memory itself (λ x at part. subst (λ (z : Partition D disks). HasStopped (account_in p x made) None stops.Memory z) here (stopped_resting (account_in p x made) (get_or (partitions_in old) index itself) part.1 told))
        (parts ∙ sym (put_same (partitions_in old) index (member (partitions_in old) index within))) stamps kept (λ batch is. absurd (cc))

    -- so a command was turned away
    pub away_resting : (reading : ℕ) (command : Command) → IsTurnedAway start made reading (p, command) stops.Memory new
    away_resting reading command = record { unlogged = None; by = λ entry is. absurd (cc); holds = ended_resting }
