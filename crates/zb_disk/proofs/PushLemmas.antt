-- One call more of a disk that keeps its calls: its file, and what a crash may leave.
use Rattle.std.proofs.Common.{◌≡◌, ℕ, List, [], ◌∷◌, ◌++◌, refl}
use Rattle.zb_disk.specs.declared.calls.Call.{Call}
use Rattle.zb_disk.specs.Kept.{after, file_after, Leaves, LeavesAfter}

-- the file behind one call more
pub file_push : (file : List ℕ) (calls : List Call) (call : Call) → file_after file (calls ++ call ∷ []) ≡ after (file_after file calls) call
file_push file [] call = refl
file_push file (next ∷ calls) call = file_push (after file next) calls call

-- what a crash may leave after one call more, by what it might have left before that call
pub image_push : (before : List ℕ → Type 0) (file : List ℕ) (calls : List Call) (call : Call) (c : List ℕ) → LeavesAfter file (calls ++ call ∷ []) before c → Leaves (file_after file calls) call (LeavesAfter file calls before) c
image_push before file [] call c image = image
image_push before file (next ∷ calls) call c image = image_push (Leaves file next before) (after file next) calls call c image

-- and whatever a call leaves of an image is one
pub left_push : (before : List ℕ → Type 0) (file : List ℕ) (calls : List Call) (call : Call) (c : List ℕ) → Leaves (file_after file calls) call (LeavesAfter file calls before) c → LeavesAfter file (calls ++ call ∷ []) before c
left_push before file [] call c left = left
left_push before file (next ∷ calls) call c left = left_push (Leaves file next before) (after file next) calls call c left
