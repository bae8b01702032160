-- The slots for snapshots, as a run leaves them.
use Rattle.std.specs.Prelude.{◌≡◌, List}
use Rattle.std.specs.List.{AllZip}
use Rattle.zb_store.specs.declared.volume.Volume.{Volume}
use Rattle.zb_partition.specs.Ledger.{slots_in}

-- the slots of a volume are as they were
abbrev pub AreSlotsLeft : {D : Type 0} → (old new : Volume D) → Type 0
AreSlotsLeft old new = slots_in new ≡ slots_in old

-- those of all volumes are
abbrev pub AreAllSlotsLeft : {D : Type 0} → (olds news : List (Volume D)) → Type 0
AreAllSlotsLeft olds news = AllZip AreSlotsLeft olds news
