-- Opening a partition.
use Rattle.std.proofs.Common.{◌≡◌, ◌⊎◌, ◌≤◌, inl, inr, List, [], ℕ, length, Bool, true, false, IsTrue, Result, Ok, Err, IfOk, OnOk, refl, sym, ◌∙◌, ap, subst, arith, append-nil}
use Rattle.std.specs.Prelude.{None, slice_index}
use Rattle.std.proofs.lemmas.Bool.{cases_lt, false≢true}
use Rattle.std.proofs.lemmas.List.{length-map}
use Rattle.zb_disk.specs.Disk.{Only}
use Rattle.zb_disk.specs.declared.disk.Disk.{Ghosts}
use Rattle.zb_model.specs.declared.record.Batch.{Batch}
use Rattle.zb_model.specs.Record.{bytes_of}
use Rattle.zb_store.specs.Calls.{IsAsOpened, IsByFirstCall, Settles}
use Rattle.zb_store.proofs.CallLaws.{CallsRead, Opens, opens_long}
use Rattle.zb_store.specs.GateLog as gates
use Rattle.zb_store.specs.Log.{extent}
use Rattle.zb_store.specs.Scan.{disk_of_scan, count_of_scan, gate_of_scan}
use Rattle.zb_store.specs.Stands.{Stands}
use Rattle.zb_store.proofs.StandsLaws.{closed_stands}
use Rattle.zb_store.specs.declared.scan.Scan.{Scan}
use Rattle.zb_store.specs.declared.volume.Volume.{Volume}
use Rattle.zb_partition.specs.Log.{bodies_of, StandsFor, IsBadAt}
use Rattle.zb_partition.specs.Ground.{Found, at_start, IsLogOn, IsFoundIn}
use Rattle.zb_partition.specs.Ledger.{Opening, account_of, on_log, slots_in, IsOpeningOf, IsOpen, HasAccount}
use Rattle.zb_partition.specs.Partition.{disk_of, slots_of, view_in, log_length_of, partition_number_of, partitions_of, limit_of, is_live, HasLog}
use Rattle.zb_partition.specs.Opening.{IsOpened, disk_after, slots_after}
use Rattle.zb_partition.specs.Reading.{IsRead}
use Rattle.zb_partition.specs.declared.opening.Known.{Known}
use Rattle.zb_partition.specs.declared.partition.Partition.{Partition}
use Rattle.zb_partition.specs.declared.fault.OpenFault.{OpenFault}
use Rattle.zb_partition.proofs.GroundLaws.{log_found, only_log, extent_is}
use Rattle.zb_partition.proofs.LedgerLaws.{made_none}

-- what was read of a disk that leaves one thing alone
pub only_stays : {D : Type 0} (disks : Ghosts D) (old new : D) → IsTrue disks.tells → IsTrue disks.tells_images → CallsRead disks old new → Only (disks.view old).contents (disks.images old) → Only (disks.view new).contents (disks.images new)
only_stays disks old new told images reads only = λ c image. only c (reads.crash images c image) ∙ sym (reads.same told)

-- all frames of a file were read, and the partition keeps what is known of them
pub opened_by : {D : Type 0} {disks : Ghosts D} (p : ℕ) (old new : Scan D disks) (tail : List Batch) (known : Known) (partition : Partition D disks)
    → (IsTrue disks.tells_images → IsTrue disks.tells) → (IsTrue disks.tells_images → Only (disks.view (disk_of_scan old)).contents (disks.images (disk_of_scan old)))
    → CallsRead disks (disk_of_scan old) (disk_of_scan new)
    → IsRead p (disks.view (disk_of_scan new)).contents new tail known × (IsTrue disks.tells → slice_index (disks.view (disk_of_scan new)).contents (gate_of_scan new) ≡ 0)
    → disk_of partition ≡ disk_of_scan new
    → (IsTrue disks.tells → gates.HasFrames (disks.view (disk_of_scan new)).contents partition.log (bodies_of tail))
    → gates.count_of partition.log ≡ count_of_scan new → gates.last_gate_of partition.log ≡ gate_of_scan new
    → known.state ≡ partition.state → known.last_moment ≡ partition.last_moment → partition.in_writing ≡ None
    → (found : Found) × IsOpened p (disks.view (disk_of_scan old)).contents found partition
opened_by {D = D} {disks = disks} p old new tail known partition told_both durable reads read disk frames count last state moment resting =
    let file = (disks.view (disk_of_scan new)).contents in
    let closed : IsTrue disks.tells → slice_index file (gates.last_gate_of partition.log) ≡ 0 = λ told. ap (λ (n : ℕ). slice_index file n) last ∙ read.1 told in
    let found : Found = record { ground = at_start; tail = tail; length = log_length_of partition } in
    let long : log_length_of partition ≡ extent (bodies_of tail) = omega (arith, last, read.0.extent) in
    let is : IsFoundIn p disks.tells (disks.view (disk_of_scan old)).contents found = record {
      ground = refl;
      stood = λ told. subst (λ (f : List ℕ). Stands f (bodies_of tail)) (reads.same told) (closed_stands file (bodies_of tail) (gates.last_gate_of partition.log) (frames told).leads (closed told));
      fits = read.0.knows.fits;
      applied = read.0.knows.applied;
      length = long ∙ extent_is tail;
    } in
    let has : HasLog tail partition = record {
      frames = record {
        count = count ∙ (read.0.count ∙ sym (length-map tail bytes_of));
        length = long;
        file = λ told. subst (λ (d : D). gates.HasClosedFrames (disks.view d).contents partition.log (bodies_of tail)) (sym disk) (record { frames = frames told; closed = closed told });
        durable = λ images.
            subst (λ (d : D). Only (disks.view d).contents (disks.images d)) (sym disk) (only_stays disks (disk_of_scan old) (disk_of_scan new) (told_both images) images reads (durable images));
      };
      fits = read.0.knows.fits;
      count = count ∙ read.0.count;
      state = rw (sym state) read.0.knows.state;
      moment = read.0.knows.moment ∙ moment;
      resting = resting;
    } in (
      found,
      record {
        found_in = is;
        long = refl;
        has = λ log on. subst (λ (l : List Batch). HasLog l partition) (sym (only_log p disks.tells (disks.view (disk_of_scan old)).contents found is log on)) has;
      },
    )

-- what is settled where it is told, from a moment that there is in any case
pub settled_at : (tells : Bool) (began now : ℕ) (before : List ℕ → Type 0) (since : ℕ → List ℕ → Type 0) (P : List ℕ → Type 0) → (IsTrue tells → Settles began now before since P)
    → (at : ℕ) × (IsTrue tells → IsByFirstCall began at × (at ≤ now) × ((image : List ℕ) → since at image → P image) × ((image : List ℕ) → since began image → before image ⊎ since at image))
settled_at true began now before since P settled =
    let s = settled refl in
    (s.opened_at, λ t. (s.by_first, s.later, s.left, s.earlier))
settled_at false began now before since P settled = (0, λ t. absurd (false≢true t))

-- a partition that was opened over a volume has each log that goes on from what was found
module _ {D : Type 0} {disks : Ghosts D} (volume : Volume D) (place partitions limit : ℕ) (found : Found) (partition : Partition D disks) (is : IsFoundIn place disks.tells (disks.view volume.log).contents found)
    (told : IsTrue disks.tells_images → IsTrue disks.tells)
    (settled : IsTrue disks.tells_images → (log : List Batch) → StandsFor (disks.view volume.log).contents log
    → Settles (disks.view volume.log).moment (view_in partition).moment (disks.images volume.log) (disks.since (disk_of partition)) (λ image. StandsFor image log)) where
  -- since when it is settled
  abbrev so : (at : ℕ) × (IsTrue disks.tells_images → IsByFirstCall (disks.view volume.log).moment at × (at ≤ (view_in partition).moment)
      × ((image : List ℕ) → disks.since (disk_of partition) at image → StandsFor image found.tail)
      × ((image : List ℕ) → disks.since (disk_of partition) (disks.view volume.log).moment image → disks.images volume.log image ⊎ disks.since (disk_of partition) at image))
  so = settled_at disks.tells_images (disks.view volume.log).moment (view_in partition).moment (disks.images volume.log) (disks.since (disk_of partition)) (λ image. StandsFor image found.tail)
      (λ t. settled t found.tail (is.stood (told t)))

  abbrev pub opening_of : Opening D
  opening_of = record { place = place; partitions = partitions; volume = volume; limit = limit; found = found; moment = so.0; batches = found.tail }

  pub has_opened : IsOpen opening_of partition found.tail → log_length_of partition ≡ found.length → (disks.view volume.log).faults ≤ (view_in partition).faults
      → (IsTrue disks.counts_failures → (view_in partition).faults ≡ (disks.view volume.log).faults) → slots_of partition ≡ slots_in volume
      → (log : List Batch) → IsLogOn found log → HasAccount (account_of (on_log opening_of log) []) partition
  has_opened is_open long later steady slots log on =
      subst (λ (l : List Batch). IsLogOn found l → HasAccount (account_of (on_log opening_of l) []) partition) (sym (only_log place disks.tells (disks.view volume.log).contents found is log on)) of_tail on
    where
      of_tail : IsLogOn found found.tail → HasAccount (account_of (on_log opening_of found.tail) []) partition
      of_tail goes_on = record {
        was = record { found = is; goes_on = goes_on; stood = is.stood; applied = is.applied; by_first = λ t. (so.1 t).0 };
        made = made_none (on_log opening_of found.tail) is.fits;
        is_open = subst (λ (l : List Batch). IsOpen (on_log opening_of found.tail) partition l) (sym (append-nil found.tail))
            (record { has = is_open.has; live = is_open.live; place = is_open.place; partitions = is_open.partitions; most = is_open.most });
        long = omega (arith, long);
        time = λ t.
            let at = so.1 t in
            record { later = at.1; ever = λ image was. (0, subst (λ (l : List Batch). StandsFor image l) (sym (append-nil found.tail)) (at.2 image was)); before = at.3 };
        faults = later;
        steady = steady;
        slots = slots;
      }

-- the end of an opening over a disk that was made ready, whose frames are those that the file had
module _ {D : Type 0} {disks : Ghosts D} (volume : Volume D) (place partitions limit : ℕ) (mid : D) (told : IsTrue disks.tells_images → IsTrue disks.tells)
    (opens : Opens disks volume.log mid) (stood : IsTrue disks.tells → (log : List Batch) → StandsFor (disks.view mid).contents log → StandsFor (disks.view volume.log).contents log) where
  was_found : (found : Found) → IsFoundIn place disks.tells (disks.view mid).contents found → IsFoundIn place disks.tells (disks.view volume.log).contents found
  was_found found is = record { ground = is.ground; stood = λ t. stood t found.tail (is.stood t); fits = is.fits; applied = is.applied; length = is.length }

  pub opened_whole : (r : Result (Partition D disks) (OpenFault × Volume D))
      → IfOk r (λ partition. (found : Found) × IsOpened place (disks.view mid).contents found partition)
      → IfOk r (λ partition. partition_number_of partition ≡ place) → IfOk r (λ partition. partitions_of partition ≡ partitions)
      → IfOk r (λ partition. limit_of partition ≡ limit) → IfOk r (λ partition. IsTrue (is_live partition))
      → CallsRead disks mid (disk_after r) → (IsTrue disks.counts_failures → OnOk r ((disks.view (disk_after r)).faults ≡ (disks.view volume.log).faults)) → slots_after r ≡ slots_in volume
      → (IsTrue disks.tells_images → (log : List Batch) → StandsFor (disks.view volume.log).contents log
      → Settles (disks.view volume.log).moment (disks.view (disk_after r)).moment (disks.images volume.log) (disks.since (disk_after r)) (λ image. StandsFor image log))
      → IfOk r (λ partition. (opening : Opening D) × IsOpeningOf volume place partitions limit opening × IsFoundIn place disks.tells (disks.view volume.log).contents opening.found
      × ((log : List Batch) → IsLogOn opening.found log → HasAccount (account_of (on_log opening log) []) partition))
  opened_whole (Ok partition) found number many most live reads steady slots settled =
      let is = was_found found.0 found.1.found_in in
      let on = log_found place disks.tells (disks.view volume.log).contents found.0 is in (
        opening_of volume place partitions limit found.0 partition is told settled,
        record { volume_is = refl; place_is = refl; partitions_are = refl; limit_is = refl },
        is,
        has_opened volume place partitions limit found.0 partition is told settled
            (record { has = found.1.has found.0.tail on; live = live; place = number; partitions = many; most = most }) found.1.long (omega (arith, opens.later, reads.later)) steady slots,
      )
  opened_whole (Err refused) found number many most live reads steady slots settled = tt

-- what was found is the partition's log
pub has_found : {D : Type 0} {disks : Ghosts D} (place : ℕ) (file : List ℕ) (opening : Opening D) (partition : Partition D disks) → IsFoundIn place disks.tells file opening.found
    → ((log : List Batch) → IsLogOn opening.found log → HasAccount (account_of (on_log opening log) []) partition) → HasLog opening.found.tail partition
has_found {disks = disks} place file opening partition is each =
    let tail = opening.found.tail in
    subst (λ (log : List Batch). HasLog log partition) (append-nil tail) (each tail (log_found place disks.tells file opening.found is)).is_open.has

-- a frame that is bad after an opening was bad before
pub bad_before : {D : Type 0} (disks : Ghosts D) (p frame : ℕ) (old new : D) → Opens disks old new → IsTrue disks.tells → IsBadAt p (disks.view new).contents frame → IsBadAt p (disks.view old).contents frame
bad_before disks p frame old new opens told bad = subst (λ (f : List ℕ). IsBadAt p f frame) (opens_long disks old new opens told bad.long) bad

-- a file that is as it was opened stands for what it stood for
pub stands_open : (file c : List ℕ) (bodies : List (List ℕ)) → Stands file bodies → IsAsOpened file c → Stands c bodies
stands_open file c bodies stands opened = elim (cases_lt 1 (length file)) [
  | inl long ↦ subst (λ (f : List ℕ). Stands f bodies) (sym (opened.0 long)) stands
  | inr short ↦ record { short = λ _. stands.short short; long = λ long. absurd (omega (arith, opened.1 short, long)) }
]
