-- What contracts see of an open log.
use Rattle.std.specs.Prelude.{◌≡◌, ◌+◌, ℕ, List, length, take, slice_index, Bool, IsTrue, Result, Ok, Err}
use Rattle.zb_disk.specs.Disk.{DiskView, Only}
use Rattle.zb_disk.specs.declared.disk.Disk.{Ghosts}
use Rattle.zb_store.specs.declared.fault.StoreFault.{StoreFault}
use Rattle.zb_store.specs.declared.gate_log.GateLog.{GateLog}
use Rattle.zb_store.specs.Log.{extent}
use Rattle.zb_store.specs.Stands.{Leads}

-- the disk that it lies on
abbrev pub disk_of_log : {D : Type 0} {disks : Ghosts D} → GateLog D disks → D
disk_of_log log = log.disk

-- that disk as plain data
abbrev pub view_of_log : {D : Type 0} {disks : Ghosts D} → GateLog D disks → DiskView
view_of_log {D} {disks} log = disks.view log.disk

-- the file that it lies in
abbrev pub file_of_log : {D : Type 0} {disks : Ghosts D} → GateLog D disks → List ℕ
file_of_log log = (view_of_log log).contents

-- how long it may become
abbrev pub limit_of_log : {D : Type 0} {disks : Ghosts D} → GateLog D disks → ℕ
limit_of_log log = log.limit

-- how many frames it has
abbrev pub count_of : {D : Type 0} {disks : Ghosts D} → GateLog D disks → ℕ
count_of log = log.count

-- the place of its last gate in the file
abbrev pub last_gate_of : {D : Type 0} {disks : Ghosts D} → GateLog D disks → ℕ
last_gate_of log = log.last

-- its length up to its last gate, this one included
abbrev pub length_of : {D : Type 0} {disks : Ghosts D} → GateLog D disks → ℕ
length_of log = last_gate_of log + 1

-- whether no frame runs past the end of the file
abbrev pub is_whole_log : {D : Type 0} {disks : Ghosts D} → GateLog D disks → Bool
is_whole_log log = log.whole

-- whether no append to it has failed but for want of room
abbrev pub is_sound : {D : Type 0} {disks : Ghosts D} → GateLog D disks → Bool
is_sound log = log.sound

-- the log has frames of these bodies: in this file they lead from the first gate to the last one, and so many of them to
-- the gate that is kept in mind
pub record HasFrames {D : Type 0} {disks : Ghosts D} (file : List ℕ) (log : GateLog D disks)
    (bodies : List (List ℕ)) : Type 0 where
  pub count : count_of log ≡ length bodies
  pub leads : Leads file 0 bodies (last_gate_of log)
  pub near : Leads file 0 (take log.near_frame bodies) log.near_gate
  pub length : length_of log ≡ extent bodies

-- and its last gate is closed in this file
pub record HasClosedFrames {D : Type 0} {disks : Ghosts D} (file : List ℕ) (log : GateLog D disks)
    (bodies : List (List ℕ)) : Type 0 where
  pub frames : HasFrames file log bodies
  pub closed : slice_index file (last_gate_of log) ≡ 0

-- The log has these bodies: it has so many frames and is so long. Where its disk tells, they are closed frames of its
-- file, and a crash leaves only that file.
pub record IsLogOf {D : Type 0} {disks : Ghosts D} (bodies : List (List ℕ))
    (log : GateLog D disks) : Type 0 where
  pub count : count_of log ≡ length bodies
  pub length : length_of log ≡ extent bodies
  pub file : IsTrue disks.tells → HasClosedFrames (file_of_log log) log bodies
  pub durable : IsTrue disks.tells_images → Only (file_of_log log) (disks.images (disk_of_log log))

-- the log is the same but for what its disk did
pub record IsSameLog {D : Type 0} {disks : Ghosts D} (old new : GateLog D disks) : Type 0 where
  pub limit : limit_of_log new ≡ limit_of_log old
  pub count : count_of new ≡ count_of old
  pub last_gate : last_gate_of new ≡ last_gate_of old
  pub whole : is_whole_log new ≡ is_whole_log old

-- the disk behind an opening, whether it was refused or not
abbrev pub disk_after_log : {D : Type 0} {disks : Ghosts D}
    → Result (GateLog D disks) (StoreFault × D) → D
disk_after_log (Ok log) = log.disk
disk_after_log (Err refused) = refused.1
