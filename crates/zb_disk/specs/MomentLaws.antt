-- The laws of a disk that keeps its calls. The code cites them as the laws of a disk, so they stand beside the definitions.
use Rattle.std.proofs.Common.{◌≡◌, ℕ, ◌+◌, ◌-◌, ◌≤◌, List, [], ◌∷◌, ◌++◌, length, take, drop, Bool, true, false, ◌&&◌, nat_le, if◌then◌else◌, refl, sym, ◌∙◌, ap, subst, arith, append_assoc, length-append, length-drop}
use Rattle.std.proofs.lemmas.List.{take_at, drop_at, take_all, length-take-le}
use Rattle.std.proofs.lemmas.Bool.Decides.{nat_tests}
use Rattle.zb_disk.specs.declared.calls.Call.{Call}
use Rattle.zb_disk.specs.declared.calls.Call.TheVariants.{Wrote, Synced, Other}
use Rattle.zb_disk.specs.Disk.{overwritten, Torn}
use Rattle.zb_disk.specs.Kept.{after, file_after, Leaves, LeavesAfter, IsImage, WasImage}

-- a whole write is one that was cut short, too
pub torn_whole : (file : List ℕ) (at : ℕ) (bytes : List ℕ) → at ≤ length file → Torn at (length bytes) file (overwritten file at bytes)
torn_whole file at bytes le =
    let front = take at file in
    let size : length front ≡ at = length-take-le at file le in
    let long : length (front ++ bytes) ≡ at + length bytes = omega (arith, length-append front bytes) in
    let rest = drop (at + length bytes) file in
    let all : length (front ++ bytes ++ rest) ≡ length (front ++ bytes) + length rest = length-append (front ++ bytes) rest in
    let left : length rest ≡ length file - (at + length bytes) = length-drop (at + length bytes) file in
    record {
      before = ap (λ (l : List ℕ). take at l) (append_assoc front bytes rest) ∙ take_at front (bytes ++ rest) at size;
      after = drop_at (front ++ bytes) rest (at + length bytes) long;
      no_shorter = omega arith;
      no_longer = omega arith;
    }

-- and so is none
pub torn_none : (file : List ℕ) (at n : ℕ) → Torn at n file file
torn_none file at n = record { before = refl; after = refl; no_shorter = omega arith; no_longer = omega arith }

-- so is a write that is done or not
torn_if : (file : List ℕ) (at : ℕ) (bytes : List ℕ) (is_done : Bool) → (is_done ≡ true → at ≤ length file) → Torn at (length bytes) file (if is_done then overwritten file at bytes else file)
torn_if file at bytes true inside = torn_whole file at bytes (inside refl)
torn_if file at bytes false inside = torn_none file at (length bytes)

-- what a read gives after a call, a crash could leave
read_after : (before : List ℕ → Type 0) (file : List ℕ) (call : Call) → before file → Leaves file call before (after file call)
read_after before file (Wrote w) held = (file, held, torn_if file w.at w.bytes.items _ inside)
  where
    inside : (w.is_done && nat_le w.at (length file)) ≡ true → w.at ≤ length file
    inside done = grind (arith, nat_tests)
read_after before file Synced held = refl
read_after before file Other held = held

reads_after : (before : List ℕ → Type 0) (file : List ℕ) (calls : List Call) → before file → LeavesAfter file calls before (file_after file calls)
reads_after before file [] held = held
reads_after before file (call ∷ calls) held =
    reads_after (Leaves file call before) (after file call) calls (read_after before file call held)

-- a file that is read could be left by a crash
pub reads : (first : List ℕ) (calls : List Call) (file : List ℕ) → file ≡ file_after first calls → IsImage first calls file
reads first calls file is =
    subst (λ (l : List ℕ). IsImage first calls l) (sym is) (reads_after (λ d. d ≡ first) first calls refl)

-- the laws
pub counts_now : (file : List ℕ) (calls : List Call) (t : ℕ) (c : List ℕ) → t ≤ length calls → IsImage file calls c → WasImage file calls t c
counts_now file calls t c le image =
    let whole : take (length calls) calls ≡ calls = take_all (length calls) calls (omega arith) in
    (length calls, le, omega arith, subst (λ (l : List Call). IsImage file l c) (sym whole) image)

-- the only moment since the last one is now
pub only_now : (file : List ℕ) (calls : List Call) (c : List ℕ) → WasImage file calls (length calls) c → IsImage file calls c
only_now file calls c was = subst (λ (l : List Call). IsImage file l c) (take_all was.0 calls was.1) was.3
