-- Why a call of a log was refused.
use Rattle.std.specs.Prelude.{◌≡◌, ◌<◌, ◌+◌, ℕ, Bool, IsTrue, Result, Ok, Err}
use Rattle.zb_disk.specs.Cause.{Rose}
use Rattle.zb_disk.specs.declared.disk.Trouble.{Trouble}
use Rattle.zb_disk.specs.declared.disk.Trouble.TheVariants as disk
use Rattle.zb_store.specs.declared.fault.StoreFault.{StoreFault}
use Rattle.zb_store.specs.declared.fault.StoreFault.TheVariants.{DiskFault, LogFull, Memory}

-- the fault of a call that the disk refused
abbrev pub refusal_of : Trouble → StoreFault
refusal_of disk.Failed = DiskFault
refusal_of disk.Memory = Memory

-- why a call that adds nothing may be refused: the disk's count of faults rose, or there was no memory, and then a
-- disk that counts nothing but failures has counted none
abbrev pub IsCaused : Bool → ℕ → ℕ → StoreFault → Type 0
IsCaused counts_failures before now DiskFault = Rose before now
IsCaused counts_failures before now (LogFull length frame limit) = ⊥
IsCaused counts_failures before now Memory = IsTrue counts_failures → now ≡ before

-- a log that is told to be full: these are its length, the frame's and its limit, and the frame has no room
abbrev pub IsFullAt : ℕ → ℕ → ℕ → StoreFault → Type 0
IsFullAt length frame limit DiskFault = Unit {0}
IsFullAt length frame limit (LogFull l f m) = (l ≡ length) × (f ≡ frame) × (m ≡ limit)
    × (limit < length + frame)
IsFullAt length frame limit Memory = Unit {0}

-- what holds of a call unless the disk failed
abbrev pub UnlessDiskFault : {T : Type 0} → Result T StoreFault → Type 0 → Type 0
UnlessDiskFault (Ok value) P = P
UnlessDiskFault (Err DiskFault) P = Unit {0}
UnlessDiskFault (Err (LogFull length frame limit)) P = P
UnlessDiskFault (Err Memory) P = P
