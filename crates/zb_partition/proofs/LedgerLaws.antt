-- Batches that are made one after the other, and commands that stop a partition.
use Rattle.std.proofs.Common.{◌≡◌, ◌⊎◌, ℕ, ◌+◌, ◌<◌, ◌≤◌, max, min, List, [], ◌∷◌, ◌++◌, length, take, IsTrue, Option, Some, None, refl, sym, ap, ◌∙◌, subst, inl, inr, ⊎_elim, append_assoc, append-nil, arith}
use Rattle.std.proofs.lemmas.List.{take-append-le, take_min}
use Rattle.std.proofs.lemmas.List.Sums.{sum_by_push}
use Rattle.std.proofs.Math.Seq.{take-append-add}
use Rattle.zb_disk.specs.Cause.{Rose}
use Rattle.zb_disk.specs.Disk.{DiskView}
use Rattle.zb_disk.specs.declared.disk.Disk.{Ghosts}
use Rattle.zb_model.specs.declared.record.Batch.{Batch}
use Rattle.zb_model.specs.declared.record.Command.{Command}
use Rattle.zb_model.specs.declared.stop.Stop.{Stop}
use Rattle.zb_model.specs.declared.stop.Stop.TheVariants as stops
use Rattle.zb_rules.specs.Step.{IsStep}
use Rattle.zb_rules.proofs.StepLaws.{are_steps_none, are_steps_more}
use Rattle.zb_store.proofs.GateLogLaws.{log_stands, image_stands}
use Rattle.zb_store.specs.Calls.{LeavesOnly, LeavesFiles}
use Rattle.zb_partition.specs.Log.{bodies_of, frame_size, length_behind, StandsFor, AreBatches}
use Rattle.zb_partition.specs.Partition.{disk_of, view_in, slots_of, limit_of, log_length_of, last_moment_of, partition_number_of, partitions_of, is_live, in_writing, HasLog, IsSamePartition}
use Rattle.zb_partition.specs.Ledger.{Opening, Account, log_of, length_with, IsFront, AreMadeBatches, LeftSince, HasAccount, first_disk}
use Rattle.zb_partition.specs.Stopping.{IsOfCommand, IsLeft, IsHurt, IsLogOrMore}
use Rattle.zb_partition.specs.Submitting.{IsCommitted, IsAdded, IsHurtSince, IsLeftIn, IsStepFor, IsStopCause, IsWhyUnwritten, HasStopped, HasRefused, HasRoomFor}
use Rattle.zb_partition.specs.declared.partition.Partition.{Partition}

-- how long a log is with a batch more
pub length_more : (opened : ℕ) (made : List Batch) (batch : Batch) → length_behind opened (made ++ batch ∷ []) ≡ length_behind opened made + frame_size batch
length_more opened made batch = omega (arith, sum_by_push frame_size made batch)

-- nothing was made yet
pub made_none : {D : Type 0} (opening : Opening D) → AreBatches opening.batches → AreMadeBatches opening []
made_none opening fit = record {
  steps = are_steps_none opening.place opening.partitions opening.batches;
  fit = subst AreBatches (sym (append-nil opening.batches)) fit;
  fits = inl refl;
}

-- a count that rose later rose
pub rose_since : (start old new : ℕ) → start ≤ old → Rose old new → Rose start new
rose_since start old new later rose = λ below. let more : old < new = rose below in omega arith

-- one batch more
pub made_more : {D : Type 0} (opening : Opening D) (made : List Batch) (batch : Batch) → AreMadeBatches opening made → IsStep opening.place opening.partitions (opening.batches ++ made) batch
    → length_with opening (made ++ batch ∷ []) ≤ opening.limit → AreBatches ((opening.batches ++ made) ++ batch ∷ []) → AreMadeBatches opening (made ++ batch ∷ [])
made_more opening made batch old step fits fit = record {
  steps = are_steps_more opening.place opening.partitions opening.batches made batch old.steps step;
  fit = subst AreBatches (append_assoc opening.batches made (batch ∷ [])) fit;
  fits = inr fits;
}

-- a front of a log that grows is one of it when it has grown more
pub front_grows : (log more again : List Batch) (file : List ℕ) → IsFront log more file → IsFront log (more ++ again) file
front_grows log more again file front =
    let k = min front.0 (length more) in
    let same : take k (more ++ again) ≡ take front.0 more = take-append-le k more again (omega arith) ∙ take_min front.0 more in
    (k, subst (λ (l : List Batch). StandsFor file (log ++ l)) (sym same) front.1)

-- a front of what a log has grown to
pub front_behind : (log more again : List Batch) (file : List ℕ) → IsFront (log ++ more) again file → IsFront log (more ++ again) file
front_behind log more again file front =
    let same : log ++ take (length more + front.0) (more ++ again) ≡ (log ++ more) ++ take front.0 again =
    ap (λ (l : List Batch). log ++ l) (take-append-add more again front.0) ∙ sym (append_assoc log more (take front.0 again)) in
    (length more + front.0, subst (λ (l : List Batch). StandsFor file l) (sym same) front.1)

-- a log without a batch, or with it
pub front_or_more : (log : List Batch) (batch : Batch) (file : List ℕ) → IsLogOrMore log batch file → IsFront log (batch ∷ []) file
front_or_more log batch file (inl without) = (0, subst (λ (l : List Batch). StandsFor file l) (sym (append-nil log)) without)
front_or_more log batch file (inr with) = (1, with)

-- what a crash might have left since the log was opened, once it has grown
ever_more : (opened made more : List Batch) (at old new : ℕ) (gone since : ℕ → List ℕ → Type 0) → at ≤ old
    → ((image : List ℕ) → gone at image → IsFront opened made image) → LeavesOnly old new gone since (IsFront (opened ++ made) more)
    → (image : List ℕ) → since at image → IsFront opened (made ++ more) image
ever_more opened made more at old new gone since later ever leaves image was =
    ⊎_elim (λ earlier. front_grows opened made more image (ever image earlier)) (λ front. front_behind opened made more image front) (leaves.nothing_else at image later was)

-- what one might have left since the run began, once more calls were made
opening_more : (before : List ℕ → Type 0) (first at old new : ℕ) (gone since : ℕ → List ℕ → Type 0) (P : List ℕ → Type 0) → first ≤ at → at ≤ old
    → ((image : List ℕ) → gone first image → before image ⊎ gone at image) → LeavesOnly old new gone since P
    → (image : List ℕ) → since first image → before image ⊎ since at image
opening_more before first at old new gone since P sooner later opening leaves image was =
    ⊎_elim (λ earlier. ⊎_elim (λ left. inl left) (λ kept. inr (leaves.keeps at image later kept)) (opening image earlier)) (λ now. inr now) (leaves.splits first at image sooner later was)

-- a partition that holds what an account has
module _ {D : Type 0} {disks : Ghosts D} (account : Account D) (old : Partition D disks) (holds : HasAccount account old) where
  abbrev first : DiskView
  first = disks.view (first_disk account)

  -- the batch that was made of a command is the step for it
  pub step_for : (reading at begin_at : ℕ) (asked : Command) (batch : Batch) → at ≡ max (last_moment_of old) reading → IsStep (partition_number_of old) (partitions_of old) (log_of account) batch
      → IsOfCommand at begin_at asked batch → IsStepFor account reading begin_at asked batch
  step_for reading at begin_at asked batch is_at step is = record {
    step = subst (λ (p : ℕ). IsStep p account.opening.partitions (log_of account) batch) holds.is_open.place (subst (λ (n : ℕ). IsStep (partition_number_of old) n (log_of account) batch) holds.is_open.partitions step);
    is = record { moment = is.moment ∙ (is_at ∙ ap (λ (m : ℕ). max m reading) (sym holds.is_open.has.moment)); begin = is.begin; command = is.command };
  }

  -- and its disk since, over the calls of a command
  module _ (new : Partition D disks) (slots : slots_of new ≡ slots_of old) where
    -- the same log since, of which a crash leaves no more than P
    since_then : (P : List ℕ → Type 0) → (IsTrue disks.tells_images → LeavesOnly (view_in old).moment (view_in new).moment (disks.since (disk_of old)) (disks.since (disk_of new)) P)
        → (Q : List ℕ → Type 0) → ((image : List ℕ) → IsFront account.opening.batches account.made image → Q image) → ((image : List ℕ) → P image → Q image)
        → IsTrue disks.tells_images → LeftSince disks account.opening (disk_of new) Q
    since_then P leaves Q so_front so_left t =
        let h = holds.time t in
        let left = leaves t in
        record {
          later = omega (arith, h.later, left.later);
          ever = λ image was. ⊎_elim (λ earlier. so_front image (h.ever image earlier)) (λ late. so_left image late) (left.nothing_else account.opening.moment image h.later was);
          before = opening_more (disks.images (first_disk account)) first.moment account.opening.moment (view_in old).moment (view_in new).moment (disks.since (disk_of old)) (disks.since (disk_of new)) P
              (holds.was.by_first t).0 h.later h.before left;
        }

    -- one batch more was made and added, which a command became
    pub committed_by : (reading begin_at : ℕ) (asked : Command) (batch : Batch) → IsStepFor account reading begin_at asked batch → IsAdded (log_of account) batch old.log new
        → IsTrue (is_live new) → IsSamePartition old new → IsCommitted account reading begin_at asked batch new
    committed_by reading begin_at asked batch step written live same =
        let opening = account.opening in
        let more = length_more opening.found.length account.made batch in
        record {
          made = step;
          holds = record {
            was = holds.was;
            made = made_more opening account.made batch holds.made step.step (omega (arith, written.fits, written.long, holds.long, holds.is_open.most, more)) written.has.fits;
            is_open = record {
              has = subst (λ (log : List Batch). HasLog log new) (append_assoc opening.batches account.made (batch ∷ [])) written.has;
              live = live;
              place = same.place ∙ holds.is_open.place;
              partitions = same.partitions ∙ holds.is_open.partitions;
              most = same.limit ∙ holds.is_open.most;
            };
            long = omega (arith, written.long, holds.long, more);
            time = since_then (IsLogOrMore (log_of account) batch) written.leaves.time (IsFront opening.batches (account.made ++ batch ∷ []))
                (λ image front. front_grows opening.batches account.made (batch ∷ []) image front)
                (λ image either. front_behind opening.batches account.made (batch ∷ []) image (front_or_more (log_of account) batch image either));
            faults = omega (arith, holds.faults, written.later);
            steady = λ t. written.steady t ∙ holds.steady t;
            slots = slots ∙ holds.slots;
          };
        }

    -- what a disk that was hurt in a command holds
    hurt_then : (log : List Batch) (writing : Option Batch) (file : List ℕ)
        → IsLeft (IsHurt disks.takes_memory (view_in old).faults (view_in new).faults) log writing file → IsLeft (IsHurtSince account new) log writing file
    hurt_then log None file left = left
    hurt_then log (Some batch) file (inl without) = inl without
    hurt_then log (Some batch) file (inr (inl rose, fits, with)) = inr (inl (rose_since first.faults (view_in old).faults (view_in new).faults holds.faults rose), fits, with)
    hurt_then log (Some batch) file (inr (inr takes, fits, with)) = inr (inr takes, fits, with)

    -- the log has room for a batch for which the partition's had
    room_then : (batch : Batch) → log_length_of old + frame_size batch ≤ limit_of old → HasRoomFor account batch
    room_then batch room = omega (arith, room, holds.long, holds.is_open.most, length_more account.opening.found.length account.made batch)

    same_room : (batch : Batch) → log_length_of old + frame_size batch ≤ limit_of old → (other : Batch) → Some batch ≡ Some other → HasRoomFor account other
    same_room batch room other same =
        let one : batch ≡ other = cc in
        subst (λ (b : Batch). HasRoomFor account b) one (room_then batch room)

    cause_then : (batch : Batch) (stop : Stop) → IsWhyUnwritten old.log new batch stop → IsStopCause account (Rose first.faults (view_in new).faults) (Some batch) (in_writing new) stop
    cause_then batch stops.Memory why = (why.1, same_room batch why.0)
    cause_then batch stops.DiskFault why = (rose_since first.faults (view_in old).faults (view_in new).faults holds.faults why.2, (batch, sym why.1, room_then batch why.0), why.1)
    cause_then batch (stops.LogFull n frame most) why = (why.0, why.1 ∙ holds.long, why.3 ∙ holds.is_open.most, why.4, (batch, refl, why.2))

    -- a command stopped it, and it left this
    module _ (stop : Stop) (leaves : LeavesFiles disks (disk_of old) (disk_of new) (IsLeft (IsHurt disks.takes_memory (view_in old).faults (view_in new).faults) (log_of account) (in_writing new)))
        (steady : IsTrue disks.counts_failures → (stop ≡ stops.DiskFault → ⊥) → (view_in new).faults ≡ (view_in old).faults) where
      pub stopped_for : (refused : Option Batch) → ((batch : Batch) → refused ≡ Some batch → IsStep account.opening.place account.opening.partitions (log_of account) batch)
          → IsStopCause account (Rose first.faults (view_in new).faults) refused (in_writing new) stop → HasStopped account refused stop new
      stopped_for refused left cause = record {
        was = holds.was;
        made = holds.made;
        left = left;
        cause = cause;
        file = λ t. hurt_then (log_of account) (in_writing new) (view_in new).contents (leaves.file t);
        crash = λ t image is. hurt_then (log_of account) (in_writing new) image (leaves.crash t image is);
        time = since_then _ leaves.time _ (λ image front. inl front) (λ image is. inr (hurt_then (log_of account) (in_writing new) image is));
        steady = λ t other. steady t other ∙ holds.steady t;
        slots = slots ∙ holds.slots;
      }

      -- behind a batch that was not added
      pub refused_by : (reading begin_at : ℕ) (asked : Command) (batch : Batch) → IsStepFor account reading begin_at asked batch → IsWhyUnwritten old.log new batch stop
          → HasRefused account reading begin_at asked stop new
      refused_by reading begin_at asked batch step why = record {
        refused = Some batch;
        next = is_it;
        stopped = stopped_for (Some batch) (λ other is. (is_it other is).step) (cause_then batch stop why);
      }
        where
          is_it : (other : Batch) → Some batch ≡ Some other → IsStepFor account reading begin_at asked other
          is_it other is =
              let same : batch ≡ other = cc in
              subst (λ (b : Batch). IsStepFor account reading begin_at asked b) same step

    -- there was no memory to make one
    pub refused_none : (reading begin_at : ℕ) (asked : Command) → in_writing new ≡ None → LeavesFiles disks (disk_of old) (disk_of new) (IsLeft (IsHurt disks.takes_memory (view_in old).faults (view_in new).faults) (log_of account) (in_writing new))
        → (view_in new).faults ≡ (view_in old).faults → HasRefused account reading begin_at asked stops.Memory new
    refused_none reading begin_at asked none leaves same = record {
      refused = None;
      next = λ batch is. absurd cc;
      stopped = stopped_for stops.Memory leaves (λ t other. same) None (λ batch is. absurd cc) (inl none, λ batch is. absurd cc);
    }

  -- nothing was done to it, since there was no memory
  pub stopped_resting : (IsTrue disks.tells_images → IsTrue disks.tells) → HasStopped account None stops.Memory old
  stopped_resting told =
      let has = holds.is_open.has in
      let resting : (file : List ℕ) → StandsFor file (log_of account) → IsLeftIn account old file = λ file stands. subst (λ (writing : Option Batch). IsLeft (IsHurtSince account old) (log_of account) writing file) (sym has.resting) stands in
      record {
        was = holds.was;
        made = holds.made;
        left = λ batch e. absurd (cc);
        cause = (inl has.resting, λ batch e. absurd (cc));
        file = λ t. resting (view_in old).contents (log_stands (view_in old).contents old.log (bodies_of (log_of account)) (has.frames.file t));
        crash = λ t image left. resting image (image_stands told old.log (bodies_of (log_of account)) has.frames t image left);
        time = λ t.
            let h = holds.time t in
            record { later = h.later; ever = λ image was. inl (h.ever image was); before = h.before };
        steady = λ t other. holds.steady t;
        slots = holds.slots;
      }
