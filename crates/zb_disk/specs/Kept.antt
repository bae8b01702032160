-- What a disk in memory keeps of its calls, and what a crash may leave of its file.
use Rattle.std.specs.Prelude.{◌≡◌, ℕ, ◌≤◌, List, [], ◌∷◌, length, take, ◌&&◌, nat_le, Bool, true, false, if◌then◌else◌}
use Rattle.zb_disk.specs.declared.calls.Call.{Call}
use Rattle.zb_disk.specs.declared.calls.Call.TheVariants.{Wrote, Synced, Other}
use Rattle.zb_disk.specs.Disk.{overwritten, Torn}

-- the file after a call: only a write that was done changes it, and none begins past the end
abbrev pub after : List ℕ → Call → List ℕ
after file (Wrote w) = if w.is_done && nat_le w.at (length file) then overwritten file w.at w.bytes.items else file
after file Synced = file
after file Other = file

-- the file after these calls
abbrev pub file_after : List ℕ → List Call → List ℕ
file_after file [] = file
file_after file (call ∷ calls) = file_after (after file call) calls

-- whether a call is a write
abbrev pub is_write : Call → Bool
is_write (Wrote w) = true
is_write Synced = false
is_write Other = false

-- what a crash after a call may leave, by what one before it might have left
abbrev pub Leaves : List ℕ → Call → (List ℕ → Type 0) → List ℕ → Type 0
Leaves file (Wrote w) before c = (d : List ℕ) × before d × Torn w.at (length w.bytes.items) d c
Leaves file Synced before c = c ≡ file
Leaves file Other before c = before c

-- what a crash after these calls may leave
abbrev pub LeavesAfter : List ℕ → List Call → (List ℕ → Type 0) → List ℕ → Type 0
LeavesAfter file [] before c = before c
LeavesAfter file (call ∷ calls) before c = LeavesAfter (after file call) calls (Leaves file call before) c

-- the same, where the file was on the disk before the first call
abbrev pub IsImage : List ℕ → List Call → List ℕ → Type 0
IsImage file calls c = LeavesAfter file calls (λ d. d ≡ file) c

-- what a crash at some moment from t on might have left, a moment being a number of calls
abbrev pub WasImage : List ℕ → List Call → ℕ → List ℕ → Type 0
WasImage file calls t c = (k : ℕ) × (t ≤ k) × (k ≤ length calls) × IsImage file (take k calls) c
