-- What calls of a disk leave behind.
use Rattle.std.specs.Prelude.{◌≡◌, ◌⊎◌, ℕ, ◌+◌, ◌<◌, ◌≤◌, List, length, IsTrue}
use Rattle.zb_disk.specs.Disk.{Torn}
use Rattle.zb_disk.specs.declared.disk.Disk.{Ghosts}

-- time goes on, and a crash at any moment since leaves a file that has P
pub record LeavesOnly (before now : ℕ) (past since : ℕ → List ℕ → Type 0)
    (P : List ℕ → Type 0) : Type 0 where
  pub later : before ≤ now
  pub nothing_else : (t : ℕ) (c : List ℕ) → t ≤ before → since t c → past t c ⊎ P c
  -- what it might have left before, it might have left still; what is new, it might have left at any later moment too
  pub keeps : (t : ℕ) (c : List ℕ) → t ≤ before → past t c → since t c
  pub splits : (t u : ℕ) (c : List ℕ) → t ≤ u → u ≤ before → since t c → past t c ⊎ since u c

-- calls that write nothing: the contents stay, and a crash leaves nothing that one before couldn't
pub record OnlyReads {D : Type 0} (disks : Ghosts D) (old new : D) : Type 0 where
  pub later : (disks.view old).faults ≤ (disks.view new).faults
  pub same : IsTrue disks.tells → (disks.view new).contents ≡ (disks.view old).contents
  pub crash : IsTrue disks.tells_images → (c : List ℕ) → disks.images new c → disks.images old c
  pub time : IsTrue disks.tells_images → LeavesOnly (disks.view old).moment (disks.view new).moment
      (disks.since old) (disks.since new) (disks.images old)

-- calls leave of a disk's file, as it is now and by a crash at any moment since they began, only files that have P
pub record LeavesFiles {D : Type 0} (disks : Ghosts D) (old new : D)
    (P : List ℕ → Type 0) : Type 0 where
  pub file : IsTrue disks.tells → P (disks.view new).contents
  pub crash : IsTrue disks.tells_images → (c : List ℕ) → disks.images new c → P c
  pub since : IsTrue disks.tells_images → (c : List ℕ)
      → disks.since new (disks.view old).moment c → P c
  pub time : IsTrue disks.tells_images → LeavesOnly (disks.view old).moment (disks.view new).moment
      (disks.since old) (disks.since new) P

-- what a crash may leave of a file that is opened: what one before might have left, or, where the file had no
-- more than one byte, no more than one byte
abbrev pub LeftByOpening : List ℕ → (List ℕ → Type 0) → List ℕ → Type 0
LeftByOpening file before c = before c ⊎ ((length file ≤ 1) × (length c ≤ 1))

-- calls of an opening: a file of more than one byte stays, and a shorter one gets no longer than one byte
pub record OnlyOpens {D : Type 0} (disks : Ghosts D) (old new : D) : Type 0 where
  pub later : (disks.view old).faults ≤ (disks.view new).faults
  pub same : IsTrue disks.tells → 1 < length (disks.view old).contents
      → (disks.view new).contents ≡ (disks.view old).contents
  pub short : IsTrue disks.tells → length (disks.view old).contents ≤ 1
      → length (disks.view new).contents ≤ 1
  pub crash : IsTrue disks.tells_images → (c : List ℕ) → disks.images new c
      → LeftByOpening (disks.view old).contents (disks.images old) c
  pub time : IsTrue disks.tells_images → LeavesOnly (disks.view old).moment (disks.view new).moment
      (disks.since old) (disks.since new)
      (LeftByOpening (disks.view old).contents (disks.images old))

-- what a write that was cut short may leave of one of these files
abbrev pub LeftByWriting : ℕ → ℕ → (List ℕ → Type 0) → List ℕ → Type 0
LeftByWriting at n before c = (d : List ℕ) × before d × Torn at n d c

-- a moment is that at which calls begin, or the next one, at which the first of them is made
abbrev pub IsByFirstCall : (began moment : ℕ) → Type 0
IsByFirstCall began moment = (began ≤ moment) × (moment ≤ began + 1)

-- what a crash may leave of a file once its opening has begun with a sync: the file, or, where it had no more than one
-- byte, no more than one byte
abbrev pub IsAsOpened : List ℕ → List ℕ → Type 0
IsAsOpened file c = (1 < length file → c ≡ file) × (length file ≤ 1 → length c ≤ 1)

-- From the first call on a crash leaves only files that have P. What one since the calls began might have left is that,
-- or what one might have left before.
pub record Settles (began now : ℕ) (before : List ℕ → Type 0) (since : ℕ → List ℕ → Type 0)
    (P : List ℕ → Type 0) : Type 0 where
  pub opened_at : ℕ
  pub by_first : IsByFirstCall began opened_at
  pub later : opened_at ≤ now
  pub left : (c : List ℕ) → since opened_at c → P c
  pub earlier : (c : List ℕ) → since began c → before c ⊎ since opened_at c
