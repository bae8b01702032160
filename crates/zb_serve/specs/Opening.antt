-- How the logs of a run are opened, and how its volumes are handed back where one can't be.
use Rattle.std.specs.Prelude.{◌≡◌, ℕ, List, [], map, None}
use Rattle.std.specs.List.{AllByRecursion}
use Rattle.zb_disk.specs.declared.disk.Disk.{Ghosts}
use Rattle.zb_store.specs.Calls.{OnlyOpens}
use Rattle.zb_store.specs.declared.volume.Volume.{Volume}
use Rattle.zb_partition.specs.Ground.{IsFoundIn}
use Rattle.zb_partition.specs.Partition.{disk_of}
use Rattle.zb_partition.specs.declared.fault.OpenFault.{OpenFault}
use Rattle.zb_partition.specs.declared.fault.OpenFault.TheVariants as faults
use Rattle.zb_partition.specs.declared.partition.Partition.{Partition}
use Rattle.zb_desk.specs.Numbered.{EachFrom}
use Rattle.zb_partition.specs.Ledger.{Opening}
use Rattle.zb_engine.specs.Solo.{Start, HasPart}
use Rattle.zb_serve.specs.Ends.{Told}
use Rattle.zb_serve.specs.Slots.{AreSlotsLeft}
use Rattle.zb_serve.specs.declared.run.Cause.{Cause}
use Rattle.zb_serve.specs.declared.run.Cause.TheVariants as causes

-- why an opening of the log of the partition with this number ends a run
abbrev pub open_cause_of : (number : ℕ) → OpenFault → Cause
open_cause_of number faults.DiskFault = causes.DiskFault number None
open_cause_of number (faults.BadLog frame) = causes.BadLog number frame
open_cause_of number faults.Memory = causes.Memory

-- a run tells what these disks tell, and what they count
abbrev pub TellsOf : {D : Type 0} → Ghosts D → Told → Type 0
TellsOf disks told = (told.disk ≡ disks.tells) × (told.disk_counts ≡ disks.counts_failures)

-- calls of an opening, or none, became of a volume, and its slots are left
pub record IsHandedBack {D : Type 0} (disks : Ghosts D) (old new : Volume D) : Type 0 where
  pub opens : OnlyOpens disks old.log new.log
  pub slots : AreSlotsLeft old new

-- this was found in the file of a volume as the partition with this number, and the log is that
pub record IsFoundOver {D : Type 0} (disks : Ghosts D) (number : ℕ) (volume : Volume D)
    (opening : Opening D) : Type 0 where
  pub in_file : IsFoundIn number disks.tells (disks.view volume.log).contents opening.found
  pub log_is : opening.batches ≡ opening.found.tail

-- the partition with this number, of n, was opened over this volume, with this limit
pub record IsOpenedOver {D : Type 0} {disks : Ghosts D} (n limit number : ℕ) (volume : Volume D)
    (partition : Partition D disks) : Type 0 where
  pub opening : Opening D
  pub over : opening.volume ≡ volume
  pub most : opening.limit ≡ limit
  pub found : IsFoundOver disks number volume opening
  pub fresh : HasPart n [] number opening partition
  pub opens : OnlyOpens disks volume.log (disk_of partition)

-- the volumes that an engine began with
abbrev pub volumes_in : {D : Type 0} → Start D → List (Volume D)
volumes_in start = map (λ opening. opening.volume) start.openings

-- an engine began with what was found in these volumes, whose logs may have so many bytes each, and
-- does so many units of work behind a request
pub record IsBegunOver {D : Type 0} (disks : Ghosts D) (limit units : ℕ)
    (volumes : List (Volume D)) (start : Start D) : Type 0 where
  pub over : volumes_in start ≡ volumes
  pub found : EachFrom (IsFoundOver disks) 1 volumes start.openings
  pub most : AllByRecursion (λ opening. opening.limit ≡ limit) start.openings
  pub bound : start.units ≡ units
