-- How an engine begins.
use Rattle.std.proofs.Common.{◌≡◌, ◌+◌, ℕ, zero, suc, List, [], ◌∷◌, length, map, replicate, sum_by, None, refl, sym, ap, ◌∙◌, append-nil, arith}
use Rattle.std.specs.List.{range_with_len}
use Rattle.std.proofs.lemmas.List.Sums.{sum_by-cons}
use Rattle.zb_disk.specs.declared.disk.Disk.{Ghosts}
use Rattle.zb_model.specs.declared.record.Batch.{Batch}
use Rattle.zb_rules.proofs.StepLaws.{each_on_none}
use Rattle.zb_world.specs.Entries.{places_of}
use Rattle.zb_world.specs.declared.entry.Entry.{Entry}
use Rattle.zb_partition.specs.Partition.{frames_of}
use Rattle.zb_partition.specs.declared.partition.Partition.{Partition}
use Rattle.zb_desk.specs.Numbered.{EachFrom}
use Rattle.zb_desk.specs.Serial.{place_behind}
use Rattle.zb_partition.specs.Ledger.{Opening}
use Rattle.zb_engine.specs.Solo.{start_of, logs_in, place_at_start, HasPart, partitions_in, stamps_in, kept_in, HasMade}
use Rattle.zb_engine.specs.declared.solo.Solo.{Solo}
use Rattle.zb_engine.proofs.NumberLemmas.{each_from_length}

-- all frames are the batches that the logs had
frames_summed : {D : Type 0} {disks : Ghosts D} (n number : ℕ) (openings : List (Opening D)) (partitions : List (Partition D disks)) → EachFrom (HasPart n []) number openings partitions
    → sum_by frames_of partitions ≡ sum_by length (map (λ (o : Opening D). o.batches) openings)
frames_summed n number [] [] each = refl
frames_summed {D} {disks} n number (opening ∷ openings) (partition ∷ partitions) each =
    let rest = frames_summed n (suc number) openings partitions each.1 in
    let frames = sum_by-cons (frames_of {D = D} {disks = disks}) partition partitions in
    let batches = sum_by-cons (length {A = Batch}) opening.batches (map (λ (o : Opening D). o.batches) openings) in
    omega (arith, each.0.1.is_open.has.count, ap length (append-nil opening.batches), rest, frames, batches)
frames_summed n number [] (partition ∷ partitions) each = absurd each
frames_summed n number (opening ∷ openings) [] each = absurd each

-- no entry has no place
none_placed : (first start n : ℕ) → replicate n [] ≡ map (λ k. places_of k first []) (range_with_len start n)
none_placed first start zero = refl
none_placed first start (suc n) = ap (λ ks. [] ∷ ks) (none_placed first (start + 1) n)

-- and so the engine
pub made_first : {D : Type 0} {disks : Ghosts D} (openings : List (Opening D)) (units : ℕ) (solo : Solo D disks) → EachFrom (HasPart (length openings) []) 1 openings (partitions_in solo)
    → stamps_in solo ≡ replicate (length (partitions_in solo)) [] → solo.place ≡ sum_by frames_of (partitions_in solo) → kept_in solo ≡ None → solo.units ≡ units → HasMade (start_of openings units) [] solo
made_first openings units solo each stamps place goes_on bound =
    let start = start_of openings units in
    record {
      within = tt;
      begun = each_on_none (λ before (entry : Entry). entry.batch.begin ≡ place_behind (logs_in start) before) [];
      parts = each;
      stamped = stamps
          ∙ (ap (λ n. replicate n []) (sym (each_from_length (HasPart (length openings) []) 1 openings (partitions_in solo) each)) ∙ none_placed (place_at_start start) 1 (length openings));
      place = omega (arith, place, frames_summed (length openings) 1 openings (partitions_in solo) each);
      goes_on = goes_on;
      bound = bound;
    }
