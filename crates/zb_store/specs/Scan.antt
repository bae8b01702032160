-- What contracts see of a log whose frames are found one after the other.
use Rattle.std.specs.Prelude.{◌≡◌, ◌<◌, ◌+◌, ℕ, List, ◌∷◌, [], ◌++◌, length, slice_index, slice_range, Bool, true, false, Result, Ok, Err}
use Rattle.zb_disk.specs.declared.disk.Disk.{Ghosts}
use Rattle.zb_store.specs.declared.fault.StoreFault.{StoreFault}
use Rattle.zb_store.specs.declared.scan.Scan.{Scan}
use Rattle.zb_store.specs.declared.scan.Found.{Found}
use Rattle.zb_store.specs.declared.scan.Found.TheVariants.{Frame, End, Cut}
use Rattle.zb_store.specs.Log.{extent}
use Rattle.zb_store.specs.Stands.{Leads, RunsPast}

-- the disk that is scanned
abbrev pub disk_of_scan : {D : Type 0} {disks : Ghosts D} → Scan D disks → D
disk_of_scan scan = scan.disk

-- how long the log may become
abbrev pub limit_of_scan : {D : Type 0} {disks : Ghosts D} → Scan D disks → ℕ
limit_of_scan scan = scan.limit

-- how many frames were found
abbrev pub count_of_scan : {D : Type 0} {disks : Ghosts D} → Scan D disks → ℕ
count_of_scan scan = scan.count

-- the place of the gate behind them
abbrev pub gate_of_scan : {D : Type 0} {disks : Ghosts D} → Scan D disks → ℕ
gate_of_scan scan = scan.gate

-- the body of the frame that was found last
abbrev pub body_found : {D : Type 0} {disks : Ghosts D} → Scan D disks → List ℕ
body_found scan = slice_range scan.window.bytes.items scan.from scan.to

-- whether there are no more frames
abbrev pub is_over : {D : Type 0} {disks : Ghosts D} → Scan D disks → Bool
is_over scan = scan.over

-- whether the gate behind them was seen to be closed
abbrev pub is_closed : {D : Type 0} {disks : Ghosts D} → Scan D disks → Bool
is_closed scan = scan.closed

-- these are the bodies of the frames that were found: in this file they lead from the first gate to the one behind them
pub record HasFound {D : Type 0} {disks : Ghosts D} (file : List ℕ) (scan : Scan D disks)
    (bodies : List (List ℕ)) : Type 0 where
  pub count : count_of_scan scan ≡ length bodies
  pub leads : Leads file 0 bodies (gate_of_scan scan)
  pub extent : gate_of_scan scan + 1 ≡ extent bodies

-- a scan went on behind one more frame, or it stays at the gate where there are no more
abbrev pub GoesTo : {D : Type 0} {disks : Ghosts D} → Scan D disks → Scan D disks → Found → Type 0
GoesTo old new Frame = (count_of_scan new ≡ count_of_scan old + 1)
    × (gate_of_scan new ≡ gate_of_scan old + (9 + length (body_found new)))
GoesTo old new End = (count_of_scan new ≡ count_of_scan old) × (gate_of_scan new ≡ gate_of_scan old)
GoesTo old new Cut = (count_of_scan new ≡ count_of_scan old) × (gate_of_scan new ≡ gate_of_scan old)

-- what was found in this file behind the frames of these bodies
abbrev pub IsFound : {D : Type 0} {disks : Ghosts D} → List ℕ → Scan D disks → List (List ℕ) → Found
    → Type 0
IsFound file scan bodies Frame = HasFound file scan (bodies ++ body_found scan ∷ [])
IsFound file scan bodies End = HasFound file scan bodies
    × (slice_index file (gate_of_scan scan) ≡ 0)
IsFound file scan bodies Cut = HasFound file scan bodies × RunsPast file (gate_of_scan scan)
    × (1 < length file)

-- there are no more frames
abbrev pub ends : Found → Bool
ends Frame = false
ends End = true
ends Cut = true

-- the gate behind them is closed
abbrev pub closes : Found → Bool
closes Frame = false
closes End = true
closes Cut = false

-- the disk behind the beginning of a scan, whether it was refused or not
abbrev pub disk_behind : {D : Type 0} {disks : Ghosts D} → Result (Scan D disks) (StoreFault × D)
    → D
disk_behind (Ok scan) = scan.disk
disk_behind (Err refused) = refused.1
