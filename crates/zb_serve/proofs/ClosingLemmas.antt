-- Partitions that are closed one after the other.
use Rattle.std.proofs.Common.{◌≡◌, ◌≤◌, ℕ, List, [], ◌∷◌, ◌++◌, length, map, take, drop, Option, refl, sym, ap, ◌∙◌, arith, ◌+◌, append_assoc, length-append}
use Rattle.std.specs.Option.{option_or}
use Rattle.std.proofs.lemmas.List.{length-map}
use Rattle.zb_disk.specs.declared.disk.Disk.{Ghosts}
use Rattle.zb_model.specs.declared.record.Batch.{Batch}
use Rattle.zb_store.specs.declared.volume.Volume.{Volume}
use Rattle.zb_partition.specs.Partition.{disk_of, slots_of, in_writing}
use Rattle.zb_partition.specs.declared.partition.Partition.{Partition}
use Rattle.zb_serve.specs.Running.{files_of, first_writing}
use Rattle.zb_serve.proofs.ListLemmas.{or_none, or_or}

module _ {D : Type 0} {disks : Ghosts D} where
  -- a volume of its log and its slots is the files of a partition
  volume_is : (volume : Volume D) (partition : Partition D disks) → volume.log ≡ disk_of partition → (volume.snap_a, volume.snap_b) ≡ slots_of partition → volume ≡ files_of partition
  volume_is volume partition log slots =
      ap (λ (disk : D). the_volume disk (volume.snap_a, volume.snap_b)) log ∙ ap (λ (pair : D × D). the_volume (disk_of partition) pair) slots
    where
      the_volume : D → D × D → Volume D
      the_volume disk pair = record { log = disk; snap_a = pair.0; snap_b = pair.1 }

  -- one was closed
  pub one_closed : (old new : List (Partition D disks)) (partition : Partition D disks) (volumes : List (Volume D)) (volume : Volume D) → old ≡ partition ∷ new
      → volume.log ≡ disk_of partition → (volume.snap_a, volume.snap_b) ≡ slots_of partition → (volumes ++ volume ∷ []) ++ map files_of new ≡ volumes ++ map files_of old
  one_closed old new partition volumes volume split log slots =
      append_assoc volumes (volume ∷ []) (map files_of new)
      ∙ (ap (λ (v : Volume D). volumes ++ v ∷ map files_of new) (volume_is volume partition log slots) ∙ ap (λ (ps : List (Partition D disks)). volumes ++ map files_of ps) (sym split))

  -- and the batch that was being written is still the first one
  pub still_first : (old new : List (Partition D disks)) (partition : Partition D disks) (writing its : Option Batch) → old ≡ partition ∷ new → its ≡ in_writing partition
      → option_or (option_or writing its) (first_writing new) ≡ option_or writing (first_writing old)
  still_first old new partition writing its split is =
      or_or writing its (first_writing new)
      ∙ (ap (λ (w : Option Batch). option_or writing (option_or w (first_writing new))) is ∙ ap (λ (ps : List (Partition D disks)). option_or writing (first_writing ps)) (sym split))

  -- none is left
  pub none_left_open : (partitions : List (Partition D disks)) (writing : Option Batch) → length partitions ≡ 0 → writing ≡ option_or writing (first_writing partitions)
  none_left_open [] writing none = sym (or_none writing)
  none_left_open (partition ∷ partitions) writing none = absurd (omega (arith, none))

  pub files_count : (partitions : List (Partition D disks)) → length (map files_of partitions) ≡ length partitions
  files_count partitions = length-map partitions files_of

-- volumes behind others, with one more behind them, once the others were moved to the end
pub rotated : {D : Type 0} (others files : List (Volume D)) (refused : Volume D) (count : ℕ) (closed pushed new : List (Volume D)) → count ≡ length others → closed ≡ others ++ files → pushed ≡ closed ++ refused ∷ []
    → new ≡ drop count pushed ++ take count pushed → new ≡ files ++ refused ∷ others
rotated {D = D} others files refused count closed pushed new many is_closed is_pushed is_new =
    let whole : pushed ≡ others ++ (files ++ refused ∷ []) = is_pushed ∙ (ap (λ (l : List (Volume D)). l ++ refused ∷ []) is_closed ∙ append_assoc others files (refused ∷ [])) in
    let front = seam others (files ++ refused ∷ []) in
    is_new ∙ (ap (λ (l : List (Volume D)). drop count l ++ take count l) whole
    ∙ (ap (λ (k : ℕ). drop k (others ++ (files ++ refused ∷ [])) ++ take k (others ++ (files ++ refused ∷ []))) many
    ∙ (ap (λ (l : List (Volume D)). l ++ take (length others) (others ++ (files ++ refused ∷ []))) front.0
    ∙ (ap (λ (l : List (Volume D)). (files ++ refused ∷ []) ++ l) front.1 ∙ append_assoc files (refused ∷ []) others))))
  where
    seam : (front rest : List (Volume D)) → (drop (length front) (front ++ rest) ≡ rest) × (take (length front) (front ++ rest) ≡ front)
    seam [] rest = (refl, refl)
    seam (x ∷ front) rest = let behind = seam front rest in (behind.0, ap (λ (l : List (Volume D)). x ∷ l) behind.1)

-- there are stamps where there are partitions
pub some_stamps : {A : Type 0} (f : A → List ℕ) (lists : List A) (stamps : List (List ℕ)) → map f lists ≡ stamps → 1 ≤ length stamps → lists ≡ [] → ⊥
some_stamps f lists stamps are some none = let many : length stamps ≡ 0 = ap length (sym are) ∙ ap (λ (l : List _). length (map f l)) none in omega (arith, some, many)

-- how many volumes there are behind others
pub filled : {A B : Type 0} (f : A → B) (before : List B) (more : List A) (all : List B) → all ≡ before ++ map f more → length all ≡ length before + length more
filled f before more all is = ap length is ∙ (length-append before (map f more) ∙ ap (λ (n : ℕ). length before + n) (length-map more f))
