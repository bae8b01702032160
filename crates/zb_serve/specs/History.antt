-- The run in the one history of the engine.
use Rattle.std.specs.Prelude.{◌≡◌, ℕ, List, ◌++◌, length, slice_get, Some, suc}
use Rattle.std.specs.List.{AllZip}
use Rattle.zb_model.specs.declared.record.Batch.{Batch}
use Rattle.zb_world.specs.Entries.{parts_of}
use Rattle.zb_world.specs.declared.entry.Entry.{Entry}
use Rattle.zb_world.specs.History.{IsHistory, IsCutAt}
use Rattle.zb_world.specs.Once.{HappensOnce}
use Rattle.zb_partition.specs.Log.{StandsFor}

-- behind a history of n partitions that has these logs as its parts these entries are one history
-- with it, and in that one what happens at most once does
abbrev pub GoesOnWith : ℕ → List (List Batch) → List Entry → Type 0
GoesOnWith n logs entries = (base : List Entry) → IsHistory n base → parts_of n base ≡ logs
    → IsHistory n (base ++ entries) × HappensOnce (base ++ entries)

-- one image of the log of each of n partitions stands for a cut of a history at its end
pub record AreCut (n : ℕ) (h : List Entry) (kept : List (List ℕ)) : Type 0 where
  pub cut : List Entry
  pub is : IsCutAt n (length h) h cut
  pub stand : AllZip StandsFor kept (parts_of n cut)

-- each of these is an image of the log of the partition with its number
abbrev pub AreImages : ((number : ℕ) → List ℕ → Type 0) → List (List ℕ) → Type 0
AreImages images kept = (place : ℕ) (image : List ℕ) → slice_get kept place ≡ Some image
    → images (suc place) image
