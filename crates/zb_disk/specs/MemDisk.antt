-- What contracts see of the images of a disk in memory.
use Rattle.std.specs.Prelude.{ℕ, List, take}
use Rattle.zb_disk.specs.declared.memory.MemDisk.{MemDisk}
use Rattle.zb_disk.specs.declared.calls.Call.{Call}
use Rattle.zb_disk.specs.Kept.{IsImage}
use Rattle.zb_disk.specs.Image.{synced_file, unsynced, IsFilled, IsLongest}

-- the bytes that it began with
abbrev pub first_of : MemDisk → List ℕ
first_of disk = disk.first.items

-- the numbers of its calls that fail
abbrev pub failing_calls_of : MemDisk → List ℕ
failing_calls_of disk = disk.log.fails.items

-- its calls before a moment
abbrev pub calls_before : MemDisk → ℕ → List Call
calls_before disk moment = take moment disk.log.calls.items

-- a crash at exactly this moment may have left this
abbrev pub IsLeftAt : MemDisk → ℕ → List ℕ → Type 0
IsLeftAt disk moment image = IsImage (first_of disk) (calls_before disk moment) image

-- it has the fill where a byte was unsynced at this moment, and the bytes of the file at the last sync elsewhere
abbrev pub IsFilledAt : MemDisk → ℕ → List ℕ → List ℕ → Type 0
IsFilledAt disk moment fill image =
    let calls = calls_before disk moment in
    IsFilled (synced_file (first_of disk) calls) (unsynced calls) fill image

-- a crash at this moment could have left nothing longer
abbrev pub IsLongestAt : MemDisk → ℕ → List ℕ → Type 0
IsLongestAt disk moment image = IsLongest (first_of disk) (calls_before disk moment) image
