-- Which calls of a disk in memory fail.
use Rattle.std.specs.Prelude.{◌≡◌, ◌+◌, length, Result, IsErr, IsErrOf}
use Rattle.std.specs.List.{Contains}
use Rattle.zb_disk.specs.declared.calls.CallLog.{CallLog}
use Rattle.zb_disk.specs.declared.disk.Trouble.{Trouble}
use Rattle.zb_disk.specs.declared.disk.Trouble.TheVariants.{Failed, Memory}

-- whether the next call's number is listed
abbrev pub IsListed : CallLog → Type 0
IsListed log = Contains log.fails.items (length log.calls.items)

-- A call whose number is listed is not done, and no other fails. Each is counted, but for one that wanted memory.
pub record FailsAsListed {T : Type 0} (old new : CallLog) (result : Result T Trouble) : Type 0 where
  pub listed : IsListed old → IsErr result
  pub failed : IsErrOf result Failed → IsListed old
  pub counted : ¬ IsErrOf result Memory → length new.calls.items ≡ length old.calls.items + 1
  pub same : new.fails.items ≡ old.fails.items
