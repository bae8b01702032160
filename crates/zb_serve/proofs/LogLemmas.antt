-- What a run leaves of the log of one of its partitions.
use Rattle.std.proofs.Common.{◌≡◌, ◌⊎◌, ℕ, zero, suc, ◌+◌, ◌==◌, ◌<◌, ◌≤◌, List, [], ◌∷◌, ◌++◌, length, slice_get, true, false, IsTrue, Option, Some, None, refl, sym, ap, ◌∙◌, subst, inl, inr, ⊎_elim, arith}
use Rattle.std.proofs.lemmas.Bool.Decides.{nat_tests}
use Rattle.zb_disk.specs.declared.disk.Disk.{Ghosts}
use Rattle.zb_model.specs.declared.record.Batch.{Batch}
use Rattle.zb_model.specs.declared.stop.Stop.{Stop}
use Rattle.zb_model.specs.declared.stop.Stop.TheVariants as stops
use Rattle.zb_rules.specs.Step.{IsStep, AreStepsOn}
use Rattle.zb_disk.specs.Cause.{Rose}
use Rattle.zb_store.proofs.GateLogLaws.{log_stands, image_stands}
use Rattle.zb_store.specs.declared.volume.Volume.{Volume}
use Rattle.zb_partition.specs.Log.{bodies_of, frame_size}
use Rattle.zb_partition.specs.Partition.{disk_of, in_writing}
use Rattle.zb_partition.specs.declared.partition.Partition.{Partition}
use Rattle.zb_partition.specs.Stopping.{frame_of, IsLeft, IsHurt}
use Rattle.zb_partition.specs.Submitting.{IsStopCause, HasStopped}
use Rattle.zb_world.specs.Entries.{part_of}
use Rattle.zb_world.specs.declared.entry.Entry.{Entry}
use Rattle.zb_partition.specs.Ledger.{Opening, Account, log_of, length_with, LeftSince, HasAccount}
use Rattle.zb_partition.proofs.LedgerLaws.{length_more}
use Rattle.zb_engine.specs.Solo.{account_in, IsBatchOf}
use Rattle.zb_session.specs.Session.{Streams}
use Rattle.zb_serve.specs.Setting.{RunSetting}
use Rattle.zb_serve.specs.Ends.{Told, VolumeEnds, volume_ends, volumes_ends, Crashes, crashes_of}
use Rattle.zb_serve.specs.Log.{Course, course_of, OpenedLog, length_in, batch_if, batch_of, IsDiskHurt, IsKept, IsLeftOf, IsDiskNamed, IsVolume, IsLog}
use Rattle.zb_serve.specs.Served.{IsUntroubled}
use Rattle.zb_serve.specs.Opening.{IsFoundOver}
use Rattle.zb_serve.specs.Cause.{rank_of}
use Rattle.zb_serve.specs.Running.{files_of, stop_cause_of}
use Rattle.zb_serve.specs.declared.run.Cause.{Cause}
use Rattle.zb_serve.specs.declared.run.Cause.TheVariants as causes
use Rattle.zb_serve.proofs.ListLemmas.{some_same, of_number, has_number}
use Rattle.zb_serve.proofs.OpeningLemmas.{all_steady}

-- what streams and a disk tell
abbrev pub told_by : {D : Type 0} → Streams → Ghosts D → Told
told_by streams disks = record {
  source = streams.source_tells;
  sink = streams.sink_tells;
  disk = disks.tells;
  images = disks.tells_images;
  sink_memory = streams.sink_memory;
  disk_memory = disks.takes_memory;
  source_counts = streams.source_counts;
  sink_counts = streams.sink_counts;
  disk_counts = disks.counts_failures;
}

-- what crashes leave of the log of the partition with this number is what they leave of these disks
pub record AreTold {D : Type 0} (disks : Ghosts D) (crashes : Crashes) (number : ℕ) (old new : D) : Type 0 where
  pub before : (image : List ℕ) → disks.images old image → crashes.before number image
  pub now : (image : List ℕ) → crashes.now number image → disks.images new image
  pub gone : (moment : ℕ) (image : List ℕ) → crashes.since number moment image → disks.since new moment image
  pub again : (moment : ℕ) (image : List ℕ) → disks.since new moment image → crashes.since number moment image

pub crashes_told : {D : Type 0} (disks : Ghosts D) (olds news : List (Volume D)) (k : ℕ) (old new : Volume D) → slice_get olds k ≡ Some old → slice_get news k ≡ Some new
    → AreTold disks (crashes_of disks olds news) (suc k) old.log new.log
crashes_told disks olds news k old new here there = record {
  before = λ image is. has_number olds k old (λ volume. disks.images volume.log image) here is;
  now = λ image is. of_number news k new (λ volume. disks.images volume.log image) there is;
  gone = λ moment image is. of_number news k new (λ volume. disks.since volume.log moment image) there is;
  again = λ moment image is. has_number news k new (λ volume. disks.since volume.log moment image) there is;
}

-- the ends of the volume at a place
pub ends_at : {D : Type 0} (disks : Ghosts D) (olds news : List (Volume D)) (k : ℕ) (old new : Volume D) → slice_get olds k ≡ Some old → slice_get news k ≡ Some new → slice_get (volumes_ends disks olds news) k ≡ Some (volume_ends disks old new)
ends_at disks [] news k old new here there = absurd (cc (here))
ends_at disks (x ∷ olds) [] k old new here there = absurd (cc (there))
ends_at disks (x ∷ olds) (y ∷ news) zero old new here there = ap (λ (volume : Volume _). Some (volume_ends disks volume y)) (some_same x old here) ∙ ap (λ (volume : Volume _). Some (volume_ends disks old volume)) (some_same y new there)
ends_at disks (x ∷ olds) (y ∷ news) (suc k) old new here there = ends_at disks olds news k old new here there

-- as many as there are volumes
pub ends_many : {D : Type 0} (disks : Ghosts D) (olds news : List (Volume D)) → length news ≡ length olds → length (volumes_ends disks olds news) ≡ length news
ends_many disks [] [] many = refl
ends_many disks (old ∷ olds) (new ∷ news) many = ap suc (ends_many disks olds news (omega (arith, many)))
ends_many disks [] (new ∷ news) many = absurd (omega (arith, many))
ends_many disks (old ∷ olds) [] many = absurd (omega (arith, many))

-- the batch of a partition that isn't in its log
pub batch_left : (number : ℕ) (unlogged : Option Entry) (refused : Option Batch) → IsBatchOf number unlogged refused → batch_of number unlogged ≡ refused
batch_left number None refused is = sym is
batch_left number (Some entry) refused is =
    let its = is.0 in
    let test : (entry.partition == number) ≡ true = grind (arith, nat_tests) in
    ap (λ t. batch_if t entry.batch) test ∙ sym is.1

-- another partition has none
pub none_left : (number : ℕ) (unlogged : Option Entry) → ((entry : Entry) → unlogged ≡ Some entry → entry.partition ≡ number → ⊥) → batch_of number unlogged ≡ None
none_left number None other = refl
none_left number (Some entry) other =
    let not = other entry refl in
    let test : (entry.partition == number) ≡ false = grind (arith, nat_tests) in
    ap (λ t. batch_if t entry.batch) test

-- why a partition stopped, of which the batch that was made last isn't in the log
module _ {D : Type 0} (told : Told) (ends : VolumeEnds) (account : Account D) (number : ℕ) (refused writing : Option Batch) where
  abbrev limit : ℕ
  limit = account.opening.limit

  abbrev length_is : ℕ
  length_is = length_with account.opening account.made

  abbrev pub Why : Stop → Type 0
  Why stop = IsStopCause account (Rose ends.log.before.faults ends.log.after.faults) refused writing stop

  abbrev pub Hurt : Type 0
  Hurt = IsHurt told.disk_memory ends.log.before.faults ends.log.after.faults

  abbrev cause_by : Stop → Cause
  cause_by stop = stop_cause_of writing (Some (number, stop))

  -- a batch that was in writing is the one that was made last
  asked : (batch : Batch) → writing ≡ Some batch → (stop : Stop) → Why stop → refused ≡ Some batch
  asked batch is stops.Memory why = ⊎_elim (λ none. absurd (let e : None ≡ Some batch = sym none ∙ is in cc)) (λ same. same ∙ is) why.0
  asked batch is stops.DiskFault why = why.2 ∙ is
  asked batch is (stops.LogFull n frame most) why = absurd (let e : None ≡ Some batch = sym why.0 ∙ is in cc)

  -- and a hurt disk is told by the cause
  hurt_told : (batch : Batch) → writing ≡ Some batch → (stop : Stop) → Why stop → Hurt → IsDiskHurt told ends (cause_by stop)
  hurt_told batch is stops.Memory why hurt = ⊎_elim (λ rose. inl rose) (λ takes. inr (takes, refl)) hurt
  hurt_told batch is stops.DiskFault why hurt = inl why.0
  hurt_told batch is (stops.LogFull n frame most) why hurt = absurd (let e : None ≡ Some batch = sym why.0 ∙ is in cc)

  pub kept_by : (now : Option Batch) → writing ≡ now → (stop : Stop) → Why stop → (file : List ℕ) → IsLeft Hurt (log_of account) now file → IsKept told ends (cause_by stop) refused (log_of account) file
  kept_by None is stop why file left = inl left
  kept_by (Some batch) is stop why file (inl before) = inl before
  kept_by (Some batch) is stop why file (inr (hurt, fits, after)) =
      inr ((batch, asked batch is stop why, fits, after), hurt_told batch is stop why hurt)

  -- what it says of the disk, and of the length of the log
  pub stop_disk_fault : (stop : Stop) → Why stop → (batch : Option Batch) → cause_by stop ≡ causes.DiskFault number batch → (batch ≡ refused) × IsDiskNamed limit length_is ends batch
  stop_disk_fault stops.Memory why batch e = absurd (cc (e))
  stop_disk_fault stops.DiskFault why batch e =
      let same : writing ≡ batch = cc (e) in
      let room = why.1 in
      (sym same ∙ sym why.2, subst (IsDiskNamed limit length_is ends) (sym room.1 ∙ same) (why.0, omega (arith, room.2, length_more account.opening.found.length account.made room.0)))
  stop_disk_fault (stops.LogFull n frame most) why batch e = absurd (cc (e))

  pub stop_log_full : (stop : Stop) → Why stop → (length_told frame most : ℕ) → cause_by stop ≡ causes.LogFull number length_told frame most
      → (length_told ≡ length_is) × (most ≡ limit) × (most < length_told + frame) × ((batch : Batch) × (refused ≡ Some batch) × (frame ≡ frame_of batch))
  stop_log_full stops.Memory why n' frame' most' e = absurd (cc (e))
  stop_log_full stops.DiskFault why n' frame' most' e = absurd (cc (e))
  stop_log_full (stops.LogFull n frame most) why n' frame' most' e =
      let same_length : n ≡ n' = cc (e) in
      let same_frame : frame ≡ frame' = cc (e) in
      let same_most : most ≡ most' = cc (e) in
      (sym same_length ∙ why.1, sym same_most ∙ why.2, omega (arith, why.3, same_length, same_frame, same_most), (why.4.0, why.4.1, sym same_frame ∙ why.4.2))

  -- the disk of one that is told behind a disk fault didn't fail
  pub stop_steady : (stop : Stop) → 1 < rank_of (cause_by stop) → stop ≡ stops.DiskFault → ⊥
  stop_steady stops.Memory before e = absurd (cc (e))
  stop_steady stops.DiskFault before e = omega (arith, before)
  stop_steady (stops.LogFull n frame most) before e = absurd (cc (e))

  -- and behind a full log there was room
  pub stop_room : (stop : Stop) → Why stop → 2 < rank_of (cause_by stop) → (batch : Batch) → refused ≡ Some batch → length_is + frame_size batch ≤ limit
  stop_room stops.Memory why before batch is = let room = why.1 batch is in omega (arith, room, length_more account.opening.found.length account.made batch)
  stop_room stops.DiskFault why before batch is = absurd (omega (arith, before))
  stop_room (stops.LogFull n frame most) why before batch is = absurd (omega (arith, before))

-- what a run found of a log that was opened so
abbrev pub opened_by : {D : Type 0} → Opening D → OpenedLog
opened_by opening = record { found = opening.found; moment = opening.moment }

-- and the ends of its volume
abbrev pub ends_by : {D : Type 0} {disks : Ghosts D} → Opening D → Partition D disks → VolumeEnds
ends_by {D} {disks} opening partition = volume_ends disks opening.volume (files_of partition)

-- the partition with the number behind a place, of n, that was opened so, in a run that ended so
module _ {D : Type 0} {disks : Ghosts D} (streams : Streams) (images_told : IsTrue disks.tells_images → IsTrue disks.tells) (setting : RunSetting) (n : ℕ) (entries : List Entry) (unlogged : Option Entry) (cause : Cause) (crashes : Crashes)
    (number : ℕ) (opening : Opening D) (partition : Partition D disks) (here : opening.place ≡ number) (many : opening.partitions ≡ n) (most : opening.limit ≡ setting.limit) (found : IsFoundOver disks number opening.volume opening)
    (told_so : AreTold disks crashes number opening.volume.log (disk_of partition)) where
  abbrev told : Told
  told = told_by streams disks

  abbrev course : Course
  course = course_of told setting n entries unlogged cause

  abbrev made : List Batch
  made = part_of number entries

  abbrev log : List Batch
  log = opening.batches ++ made

  abbrev ends : VolumeEnds
  ends = ends_by opening partition

  steps_here : (before more : List Batch) → AreStepsOn opening.place opening.partitions before more → AreStepsOn number n before more
  steps_here before more are = subst (λ (m : ℕ). AreStepsOn number m before more) many (subst (λ (p : ℕ). AreStepsOn p opening.partitions before more) here are)

  step_here : (before : List Batch) (batch : Batch) → IsStep opening.place opening.partitions before batch → IsStep number n before batch
  step_here before batch is = subst (λ (m : ℕ). IsStep number m before batch) many (subst (λ (p : ℕ). IsStep p opening.partitions before batch) here is)

  fits_here : (made ≡ []) ⊎ (length_with opening made ≤ opening.limit) → (made ≡ []) ⊎ (length_in course number (opened_by opening) ≤ setting.limit)
  fits_here (inl none) = inl none
  fits_here (inr within) = inr (omega (arith, within, most))

  opening_here : (P : List ℕ → Type 0) → LeftSince disks opening (disk_of partition) P → (image : List ℕ) → crashes.since number ends.log.before.moment image → crashes.before number image ⊎ crashes.since number opening.moment image
  opening_here P time image was = ⊎_elim (λ before. inl (told_so.before image before)) (λ since. inr (told_so.again opening.moment image since)) (time.before image (told_so.gone ends.log.before.moment image was))

  -- no command has stopped it
  module _ (h : HasAccount (account_in number opening entries) partition) (none : batch_of number unlogged ≡ None) where
    pub account_volume : ((batch : Option Batch) → cause ≡ causes.DiskFault number batch → ⊥) → ((a b c : ℕ) → cause ≡ causes.LogFull number a b c → ⊥)
        → IsVolume course crashes number ends (opened_by opening)
    account_volume no_fault not_full = record {
      found = found.in_file;
      by_first = h.was.by_first;
      crash_opening = λ t image was. opening_here _ (h.time t) image was;
      disk_fault = λ batch e. absurd (no_fault batch e);
      fits = fits_here h.made.fits;
      log_full = λ a b c e. absurd (not_full a b c e);
    }

    pub account_log : IsLog course crashes number ends (opened_by opening) opening.batches
    account_log = record {
      fit = h.made.fit;
      steps = steps_here opening.batches made h.made.steps;
      next = λ batch e. absurd (let some : None ≡ Some batch = sym none ∙ e in cc (some));
      contents = λ t. inl (log_stands (disks.view (disk_of partition)).contents partition.log (bodies_of log) (h.is_open.has.frames.file t));
      crash_now = λ t image now. inl (image_stands images_told partition.log (bodies_of log) h.is_open.has.frames t image (told_so.now image now));
      crash_ever = λ t image was. inl ((h.time t).ever image (told_so.gone opening.moment image was));
    }

    pub account_steady : IsUntroubled told ends
    account_steady = λ t. all_steady disks opening.volume (files_of partition) (h.steady t) h.slots

  -- or one has
  module _ (refused : Option Batch) (stop : Stop) (s : HasStopped (account_in number opening entries) refused stop partition) (last : IsBatchOf number unlogged refused) (named : cause ≡ stop_cause_of (in_writing partition) (Some (number, stop))) where
    same : batch_of number unlogged ≡ refused
    same = batch_left number unlogged refused last

    abbrev account : Account D
    account = account_in number opening entries

    kept : (file : List ℕ) → IsLeft (Hurt told ends account number refused (in_writing partition)) log (in_writing partition) file → IsLeftOf course number ends opening.batches file
    kept file left =
        subst (λ (c : Cause). IsKept told ends c (batch_of number unlogged) log file) (sym named)
        (subst (λ (u : Option Batch). IsKept told ends (stop_cause_of (in_writing partition) (Some (number, stop))) u log file) (sym same)
        (kept_by told ends account number refused (in_writing partition) (in_writing partition) refl stop s.cause file left))

    pub stopped_volume : IsVolume course crashes number ends (opened_by opening)
    stopped_volume = record {
      found = found.in_file;
      by_first = s.was.by_first;
      crash_opening = λ t image was. opening_here _ (s.time t) image was;
      disk_fault = λ batch e.
          let f = stop_disk_fault told ends account number refused (in_writing partition) stop s.cause batch (sym named ∙ e) in
          (f.0 ∙ sym same, subst (λ (l : ℕ). IsDiskNamed l (length_with opening made) ends batch) most f.1);
      fits = fits_here s.made.fits;
      log_full = λ a b c e.
          let f = stop_log_full told ends account number refused (in_writing partition) stop s.cause a b c (sym named ∙ e) in
          (f.0, f.1 ∙ most, f.2, (f.3.0, same ∙ f.3.1, f.3.2));
    }

    pub stopped_log : IsLog course crashes number ends (opened_by opening) opening.batches
    stopped_log = record {
      fit = s.made.fit;
      steps = steps_here opening.batches made s.made.steps;
      next = λ batch e. step_here log batch (s.left batch (sym same ∙ e));
      contents = λ t. kept ends.log.after.contents (s.file t);
      crash_now = λ t image now. kept image (s.crash t image (told_so.now image now));
      crash_ever = λ t image was. ⊎_elim (λ front. inl front) (λ left. inr (kept image left)) ((s.time t).ever image (told_so.gone opening.moment image was));
    }

    -- its disks, and its room
    pub stopped_steady : 1 < rank_of cause → IsUntroubled told ends
    stopped_steady before = λ t.
        let later : 1 < rank_of (stop_cause_of (in_writing partition) (Some (number, stop))) = subst (λ (c : Cause). 1 < rank_of c) named before in
        all_steady disks opening.volume (files_of partition) (s.steady t (stop_steady told ends account number refused (in_writing partition) stop later)) s.slots

    pub stopped_room : 2 < rank_of cause → (batch : Batch) → batch_of number unlogged ≡ Some batch → length_in course number (opened_by opening) + frame_size batch ≤ setting.limit
    stopped_room before batch e =
        let later : 2 < rank_of (stop_cause_of (in_writing partition) (Some (number, stop))) = subst (λ (c : Cause). 2 < rank_of c) named before in
        subst (λ (l : ℕ). length_with opening made + frame_size batch ≤ l) most (stop_room told ends account number refused (in_writing partition) stop s.cause later batch (sym same ∙ e))
