-- The image in which each unsynced byte is that of a fill.
use Rattle.std.specs.Prelude.{◌≡◌, ℕ, ◌+◌, ◌%◌, ◌<◌, ◌≤◌, List, [], ◌∷◌, ◌++◌, length, take, drop, slice_index, All, ◌&&◌, nat_le, nat_lt, Bool, true, false, IsTrue, IsFalse}
use Rattle.std.specs.List.{before_last, after_last, list_any}
use Rattle.zb_disk.specs.declared.calls.Call.{Call}
use Rattle.zb_disk.specs.declared.calls.Call.TheVariants.{Wrote, Synced, Other}
use Rattle.zb_disk.specs.Kept.{file_after, IsImage}

-- whether a call is a sync that succeeded
abbrev pub is_sync : Call → Bool
is_sync (Wrote w) = false
is_sync Synced = true
is_sync Other = false

-- whether a call is a write, done or not, with this place of the file in its range
abbrev pub reaches : ℕ → Call → Bool
reaches k (Wrote w) = nat_le w.at k && nat_lt k (w.at + length w.bytes.items)
reaches k Synced = false
reaches k Other = false

-- the calls since the last sync, all where there is none
abbrev pub unsynced : List Call → List Call
unsynced calls = after_last is_sync calls

-- the file at the last sync, or as it was before the first call
abbrev pub synced_file : List ℕ → List Call → List ℕ
synced_file file calls = file_after file (before_last is_sync calls)

-- the byte at a place of a fill that is repeated, 0 where it is empty
abbrev pub fill_at : List ℕ → ℕ → ℕ
fill_at fill k = slice_index fill (k % length fill)

-- the image has the fill where one of the calls reached the file, and the file's bytes elsewhere
pub record IsFilled (file : List ℕ) (calls : List Call) (fill image : List ℕ) : Type 0 where
  pub reached : (k : ℕ) → k < length image → IsTrue (list_any (reaches k) calls) → slice_index image k ≡ fill_at fill k
  pub others : (k : ℕ) → k < length image → IsFalse (list_any (reaches k) calls) → slice_index image k ≡ slice_index file k

-- no image is longer
abbrev pub IsLongest : List ℕ → List Call → List ℕ → Type 0
IsLongest file calls image = (c : List ℕ) → IsImage file calls c → length c ≤ length image

-- a longest image, and filled where the calls reached the file
pub record IsCovered (file : List ℕ) (calls : List Call) (fill image : List ℕ) : Type 0 where
  pub left : IsImage file calls image
  pub longest : IsLongest file calls image
  pub filled : IsFilled file calls fill image

-- the first n calls are those up to the last sync, this one included; n is 0 where there is none
pub record EndsAtSync (calls : List Call) (n : ℕ) : Type 0 where
  pub within : n ≤ length calls
  pub first : n ≡ 0 → before_last is_sync calls ≡ []
  pub last : 0 < n → take n calls ≡ before_last is_sync calls ++ Synced ∷ []
  pub behind : drop n calls ≡ unsynced calls
  pub no_other : All (λ call. IsFalse (is_sync call)) (drop n calls)
