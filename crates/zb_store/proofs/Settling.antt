-- A file is settled from the first call of its opening on.
use Rattle.std.proofs.Common.{◌≡◌, inl, inr, ℕ, ◌≤◌, List, length, IsTrue, ap, ◌∙◌, arith}
use Rattle.zb_disk.specs.Disk.{Only, Elapses}
use Rattle.zb_disk.specs.declared.disk.Disk.{Ghosts}
use Rattle.zb_store.specs.Calls.{IsAsOpened, Settles, LeftByOpening}
use Rattle.zb_store.proofs.CallLaws.{Opens, leaves_call, settles_first, settles_then}

-- the file itself is as it was opened
as_opened : (file c : List ℕ) → c ≡ file → IsAsOpened file c
as_opened file c is = (λ long. is, λ short. omega (arith, ap length is, short))

-- a disk's laws: a crash since this moment is one now, and a crash now is one since any moment so far
module _ {D : Type 0} (disks : Ghosts D) (alone : (disk : D) (c : List ℕ) → disks.since disk (disks.view disk).moment c → disks.images disk c)
    (counts : (disk : D) (t : ℕ) (c : List ℕ) → t ≤ (disks.view disk).moment → disks.images disk c → disks.since disk t c) where
  -- a first call that is a sync
  synced : (old new : D) → Elapses (disks.view old).moment (disks.view new).moment (disks.since old) (disks.since new) (disks.images new)
      → Only (disks.view new).contents (disks.images new) → (disks.view new).contents ≡ (disks.view old).contents
      → Settles (disks.view old).moment (disks.view new).moment (disks.images old) (disks.since new) (IsAsOpened (disks.view old).contents)
  synced old new time only same =
      settles_first (disks.view old).moment (disks.view new).moment (disks.images old) (disks.since old) (disks.since new) (disks.images new) (IsAsOpened (disks.view old).contents) time
      (alone old) (alone new) (λ c image. counts new (disks.view new).moment c (omega arith) image) (λ c image. as_opened (disks.view old).contents c (only c image ∙ same))

  -- and one behind it that writes nothing
  pub measured : (old mid new : D) → Elapses (disks.view old).moment (disks.view mid).moment (disks.since old) (disks.since mid) (disks.images mid)
      → Only (disks.view mid).contents (disks.images mid) → (disks.view mid).contents ≡ (disks.view old).contents
      → Elapses (disks.view mid).moment (disks.view new).moment (disks.since mid) (disks.since new) (disks.images new) → ((c : List ℕ) → disks.images new c → disks.images mid c)
      → Settles (disks.view old).moment (disks.view new).moment (disks.images old) (disks.since new) (IsAsOpened (disks.view old).contents)
  measured old mid new time only same then crash =
      let first = synced old mid time only same in
      settles_then (disks.view old).moment (disks.view mid).moment (disks.view new).moment (disks.images old) (disks.since mid) (disks.since new) (IsAsOpened (disks.view old).contents) (disks.images mid) first
      (leaves_call (disks.view mid).moment (disks.view new).moment (disks.since mid) (disks.since new) (disks.images new) (disks.images mid) then (counts new) crash)
      (λ c image. first.left c (counts mid first.opened_at c first.later image))

  -- the rest of an opening
  pub settled_open : (began : ℕ) (file : List ℕ) (before : List ℕ → Type 0) (old new : D) → IsTrue disks.tells_images → (disks.view old).contents ≡ file
      → Settles began (disks.view old).moment before (disks.since old) (IsAsOpened file) → Opens disks old new → Settles began (disks.view new).moment before (disks.since new) (IsAsOpened file)
  settled_open began file before old new told same first opens =
      settles_then began (disks.view old).moment (disks.view new).moment before (disks.since old) (disks.since new) (IsAsOpened file)
      (LeftByOpening (disks.view old).contents (disks.images old)) first (opens.time told) (λ c left. elim left [
        | inl image ↦ first.left c (counts old first.opened_at c first.later image)
        | inr few ↦ (λ long. absurd (omega (arith, long, few.0, ap length same)), λ short. few.1)
      ])
