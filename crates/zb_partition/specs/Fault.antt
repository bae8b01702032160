-- Why a partition could not be opened.
use Rattle.std.specs.Prelude.{◌≡◌, ℕ, Bool, IsTrue}
use Rattle.zb_disk.specs.Cause.{Rose}
use Rattle.zb_store.specs.declared.fault.StoreFault.{StoreFault}
use Rattle.zb_store.specs.declared.fault.StoreFault.TheVariants as store
use Rattle.zb_partition.specs.declared.fault.OpenFault.{OpenFault}
use Rattle.zb_partition.specs.declared.fault.OpenFault.TheVariants.{DiskFault, BadLog, Memory}

-- the fault of an opening in which a call of the log was refused; none is since the log is full
abbrev pub open_fault_of : StoreFault → OpenFault
open_fault_of store.DiskFault = DiskFault
open_fault_of (store.LogFull length frame limit) = Memory
open_fault_of store.Memory = Memory

-- a disk is named only where its count of faults rose; where another fault is, a disk that counts nothing but failures has
-- counted none
abbrev pub IsDiskCause : Bool → ℕ → ℕ → OpenFault → Type 0
IsDiskCause counts_failures before now DiskFault = Rose before now
IsDiskCause counts_failures before now (BadLog frame) = IsTrue counts_failures → now ≡ before
IsDiskCause counts_failures before now Memory = IsTrue counts_failures → now ≡ before
