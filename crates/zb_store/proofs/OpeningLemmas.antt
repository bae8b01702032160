-- What opening leaves stands for what there was.
use Rattle.std.proofs.Common.{◌≡◌, inl, inr, ℕ, ◌≤◌, List, length, IsTrue, IsFalse, Result, Ok, Err, subst, arith}
use Rattle.std.specs.Prelude.{IfOk}
use Rattle.zb_store.specs.Calls.{LeavesOnly, LeftByOpening}
use Rattle.zb_store.specs.Stands.{Stands, IsCutAfter}
use Rattle.zb_store.specs.GateLog.{disk_of_log, disk_after_log, is_whole_log, HasFrames, HasClosedFrames}
use Rattle.zb_store.proofs.GateLogLaws.{log_stands}
use Rattle.zb_store.specs.declared.fault.StoreFault.{StoreFault}
use Rattle.zb_store.specs.declared.gate_log.GateLog.{GateLog}
use Rattle.zb_disk.specs.declared.disk.Disk.{Ghosts}

-- a file of at most one byte has no frames, whatever the byte is
short_standing : (file : List ℕ) (bodies : List (List ℕ)) → length file ≤ 1 → Stands file bodies → (other : List ℕ) → length other ≤ 1 → Stands other bodies
short_standing file bodies short stands other few = record { short = λ _. stands.short short; long = λ long. absurd (omega arith) }

-- what a crash leaves
left_standing : (file : List ℕ) (images : List ℕ → Type 0) (bodies : List (List ℕ)) → ((c : List ℕ) → images c → Stands c bodies) → images file → (c : List ℕ) → LeftByOpening file images c → Stands c bodies
left_standing file images bodies all reads c left = elim left [
  | inl image ↦ all c image
  | inr short ↦ short_standing file bodies short.0 (all file reads) c short.1
]

-- at any moment since
pub since_standing : (before now : ℕ) (past since : ℕ → List ℕ → Type 0) (file : List ℕ) (images : List ℕ → Type 0) (bodies : List (List ℕ)) → LeavesOnly before now past since (LeftByOpening file images) → ((c : List ℕ) → past before c → images c) → images file → ((c : List ℕ) → images c → Stands c bodies) → (c : List ℕ) → since before c → Stands c bodies
since_standing before now past since file images bodies only now_alone reads all c was = elim (only.nothing_else before c (omega arith) was) [
  | inl earlier ↦ all c (now_alone c earlier)
  | inr left ↦ left_standing file images bodies all reads c left
]

-- an opened log that is whole has the frames that the file stood for
pub whole_opened : {D : Type 0} {disks : Ghosts D} (old file : List ℕ) (result : Result (GateLog D disks) (StoreFault × D))
    → (disks.view (disk_after_log result)).contents ≡ file → ((bodies : List (List ℕ)) → Stands file bodies → Stands old bodies)
    → IfOk result (λ log. IsTrue (is_whole_log log) → (all : List (List ℕ)) × HasClosedFrames (disks.view (disk_of_log log)).contents log all)
    → IfOk result (λ log. IsTrue (is_whole_log log) → (all : List (List ℕ)) × Stands old all × HasClosedFrames (disks.view (disk_of_log log)).contents log all)
whole_opened {disks = disks} old file (Ok log) same stood opened = λ whole.
    let from = opened whole in
    (from.0, stood from.0 (subst (λ (f : List ℕ). Stands f from.0) same (log_stands (disks.view log.disk).contents log from.0 from.1)), from.1)
whole_opened old file (Err refused) same stood opened = opened

-- one that isn't has those before the cut
pub cut_opened : {D : Type 0} {disks : Ghosts D} (old file : List ℕ) (result : Result (GateLog D disks) (StoreFault × D))
    → (disks.view (disk_after_log result)).contents ≡ file → ((bodies : List (List ℕ)) → IsCutAfter file bodies → IsCutAfter old bodies)
    → IfOk result (λ log. IsFalse (is_whole_log log) → (all : List (List ℕ)) × IsCutAfter (disks.view (disk_of_log log)).contents all × HasFrames (disks.view (disk_of_log log)).contents log all)
    → IfOk result (λ log. IsFalse (is_whole_log log) → (all : List (List ℕ)) × IsCutAfter old all × HasFrames (disks.view (disk_of_log log)).contents log all)
cut_opened old file (Ok log) same was opened = λ cut.
    let from = opened cut in
    (from.0, was from.0 (subst (λ (f : List ℕ). IsCutAfter f from.0) same from.1), from.2)
cut_opened old file (Err refused) same was opened = opened
