-- How showing a log ends.
use Rattle.std.specs.Prelude.{ℕ, Result, Ok, Err}
use Rattle.zb_disk.specs.Cause.{Rose}
use Rattle.zb_outside.specs.Cause.{StreamFaultsRose}
use Rattle.zb_outside.specs.declared.trouble.Trouble.TheVariants as troubles
use Rattle.zb_partition.specs.declared.fault.OpenFault.TheVariants as open_faults
use Rattle.zb_show.specs.declared.fault.ShowFault.{ShowFault}
use Rattle.zb_show.specs.declared.fault.ShowFault.TheVariants as faults

-- the exit status of a fault (own)
abbrev pub fault_status : ShowFault → ℕ
fault_status faults.Usage = 2
fault_status (faults.Log open_faults.DiskFault) = 4
fault_status (faults.Log (open_faults.BadLog frame)) = 5
fault_status (faults.Log open_faults.Memory) = 7
fault_status (faults.Sink troubles.Failed) = 6
fault_status (faults.Sink troubles.Memory) = 7
fault_status faults.Memory = 7

-- the exit status of what came of showing a log (own)
abbrev pub status_shown : Result (Unit {0}) ShowFault → ℕ
status_shown (Ok shown) = 0
status_shown (Err fault) = fault_status fault

-- a disk is named only where its count of faults rose, and so is a sink; words are at fault no more (own)
abbrev pub IsShowCause : (disk disk_after sink sink_after : ℕ) → ShowFault → Type 0
IsShowCause disk disk_after sink sink_after (faults.Log open_faults.DiskFault) = Rose disk disk_after
IsShowCause disk disk_after sink sink_after (faults.Sink troubles.Failed) = StreamFaultsRose sink sink_after
IsShowCause disk disk_after sink sink_after faults.Usage = ⊥
IsShowCause disk disk_after sink sink_after _ = Unit {0}

-- the fault is that the log can't be read (own)
abbrev pub IsBadLog : ShowFault → Type 0
IsBadLog (faults.Log (open_faults.BadLog frame)) = Unit {0}
IsBadLog _ = ⊥
