-- Laws of what GateLog.antt defines: what contracts see of an open log.
use Rattle.std.specs.Prelude.{ℕ, List, IsTrue}
use Rattle.std.proofs.Common.{sym, subst}
use Rattle.zb_disk.specs.declared.disk.Disk.{Ghosts}
use Rattle.zb_store.specs.Calls.{LeavesFiles}
use Rattle.zb_store.specs.declared.gate_log.GateLog.{GateLog}
use Rattle.zb_store.specs.Stands.{Stands}
use Rattle.zb_store.proofs.CallLaws.{leaves_none}
use Rattle.zb_store.proofs.StandsLaws.{closed_stands}
use Rattle.zb_store.specs.GateLog.{last_gate_of, file_of_log, HasClosedFrames, IsLogOf}

-- the file of a log stands for its bodies
pub log_stands : {D : Type 0} {disks : Ghosts D} (file : List ℕ) (log : GateLog D disks) (bodies : List (List ℕ)) → HasClosedFrames file log bodies → Stands file bodies
log_stands file log bodies has = closed_stands file bodies (last_gate_of log) has.frames.leads has.closed

-- a log with these bodies, on a disk that tells its contents where it tells its images
module _ {D : Type 0} {disks : Ghosts D} (told : IsTrue disks.tells_images → IsTrue disks.tells) (log : GateLog D disks) (bodies : List (List ℕ)) (has : IsLogOf bodies log) where
  -- whatever a crash leaves of it stands for them
  pub image_stands : IsTrue disks.tells_images → (c : List ℕ) → disks.images log.disk c → Stands c bodies
  image_stands tells c image = subst (λ (file : List ℕ). Stands file bodies) (sym (has.durable tells c image)) (log_stands (file_of_log log) log bodies (has.file (told tells)))

  -- and no call leaves anything else; a crash since this moment is one now
  pub log_leaves : (IsTrue disks.tells_images → (c : List ℕ) → disks.since log.disk (disks.view log.disk).moment c → disks.images log.disk c) → LeavesFiles disks log.disk log.disk (λ c. Stands c bodies)
  log_leaves alone = record {
    file = λ tells. log_stands (file_of_log log) log bodies (has.file tells);
    crash = image_stands;
    since = λ tells c was. image_stands tells c (alone tells c was);
    time = λ tells. leaves_none (disks.view log.disk).moment (disks.since log.disk) (λ c. Stands c bodies);
  }
