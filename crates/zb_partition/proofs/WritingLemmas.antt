-- A batch more in a log, or one that could not be added.
use Rattle.std.proofs.Common.{◌≡◌, ℕ, ◌+◌, List, [], ◌∷◌, ◌++◌, Bool, IsTrue, Option, Some, None, Err, refl, sym, ap, ◌∙◌, subst, inl, inr, ⊎_elim, arith, length-append}
use Rattle.zb_disk.specs.Cause.{Rose}
use Rattle.zb_disk.specs.declared.disk.Disk.{Ghosts}
use Rattle.zb_model.specs.declared.record.Batch.{Batch}
use Rattle.zb_model.specs.declared.stop.Stop.{Stop}
use Rattle.zb_model.specs.declared.stop.Stop.TheVariants as stops
use Rattle.zb_model.specs.Record.{bytes_of}
use Rattle.zb_model.specs.RecordFits.{IsBatch}
use Rattle.zb_store.specs.Calls.{LeavesFiles}
use Rattle.zb_store.proofs.CallLaws.{left_weaker}
use Rattle.zb_store.proofs.GateLogLaws.{log_leaves}
use Rattle.zb_store.specs.Stands.{Stands, StandsWithOrWithout}
use Rattle.zb_store.specs.Cause.{IsFullAt, UnlessDiskFault}
use Rattle.zb_store.specs.GateLog as gates
use Rattle.zb_store.specs.declared.gate_log.GateLog.{GateLog}
use Rattle.zb_store.specs.declared.fault.StoreFault.{StoreFault}
use Rattle.zb_store.specs.declared.fault.StoreFault.TheVariants as store
use Rattle.zb_views.specs.View.{events_of}
use Rattle.zb_views.proofs.ViewLaws.{moment_of_last_more}
use Rattle.zb_state.specs.State.{IsStateOf}
use Rattle.zb_state.specs.declared.state.State.{State}
use Rattle.zb_partition.specs.Log.{bodies_of, frame_size, StandsFor}
use Rattle.zb_partition.specs.Partition.{disk_of, view_in, in_writing, HasLog, IsAhead}
use Rattle.zb_partition.specs.Stopping.{IsLeft, IsLogOrMore, IsHurt, IsTooLong, stop_of}
use Rattle.zb_partition.specs.Submitting.{IsRoomFor, IsWhyUnwritten, IsUnwritten}
use Rattle.zb_partition.specs.declared.partition.Partition.{Partition}
use Rattle.zb_partition.proofs.FrameLemmas.{bodies_of_more}
use Rattle.zb_partition.proofs.ReadingLemmas.{are_more}

-- with or without the bytes of a batch, it is the log or one batch more
pub log_or_more : (log : List Batch) (batch : Batch) (file : List ℕ) → StandsWithOrWithout (bodies_of log) (bytes_of batch) file → IsLogOrMore log batch file
log_or_more log batch file (inl without) = inl without
log_or_more log batch file (inr with_it) = inr (subst (λ (bodies : List (List ℕ)). Stands file bodies) (sym (bodies_of_more log batch)) with_it)

-- a partition of which nothing was written
module _ {D : Type 0} {disks : Ghosts D} (before : GateLog D disks) (new : Partition D disks) (log : List Batch) (same_log : new.log ≡ before) (none : in_writing new ≡ None)
    (told : IsTrue disks.tells_images → IsTrue disks.tells) (alone : IsTrue disks.tells_images → (c : List ℕ) → disks.since before.disk (disks.view before.disk).moment c → disks.images before.disk c)
    (has : gates.IsLogOf (bodies_of log) before) where
  -- what it leaves is the log
  pub leaves_log : (hurt : Type 0) → LeavesFiles disks before.disk (disk_of new) (IsLeft hurt log (in_writing new))
  leaves_log hurt =
      subst (λ (writing : Option Batch). LeavesFiles disks before.disk (disk_of new) (IsLeft hurt log writing)) (sym none)
      (subst (λ (l : GateLog D disks). LeavesFiles disks before.disk (gates.disk_of_log l) (λ file. StandsFor file log)) (sym same_log) (log_leaves told before (bodies_of log) has alone))

  why_too_long : (batch : Batch) (stop : Stop) → IsTooLong (gates.length_of before) (gates.limit_of_log before) batch stop → IsWhyUnwritten before new batch stop
  why_too_long batch stops.Memory long = (long, inl none)
  why_too_long batch stops.DiskFault long = absurd long
  why_too_long batch (stops.LogFull n frame most) long = (none, long.0, long.1, long.2, long.3)

  -- though its log can't take a batch
  pub unwritten_none : (batch : Batch) (stop : Stop) → IsTooLong (gates.length_of before) (gates.limit_of_log before) batch stop → IsUnwritten log batch stop before new
  unwritten_none batch stop long = record {
    why = why_too_long batch stop long;
    leaves = leaves_log _;
    steady = λ counts other. ap (λ (l : GateLog D disks). (gates.view_of_log l).faults) same_log;
  }

-- the batch was in writing as the log refused it, which had room for it
module _ {D : Type 0} {disks : Ghosts D} (before : GateLog D disks) (new : Partition D disks) (log : List Batch) (batch : Batch) (of_batch : IsBatch batch) (room : IsRoomFor before batch)
    (writing : Some batch ≡ in_writing new) (left : LeavesFiles disks before.disk (disk_of new) (StandsWithOrWithout (bodies_of log) (bytes_of batch))) where
  abbrev Hurt : Type 0
  Hurt = IsHurt disks.takes_memory (disks.view before.disk).faults (view_in new).faults

  may_have : Hurt → (file : List ℕ) → StandsWithOrWithout (bodies_of log) (bytes_of batch) file → IsLeft Hurt log (Some batch) file
  may_have hurt file either = ⊎_elim (λ without. inl without) (λ with_it. inr (hurt, of_batch, with_it)) (log_or_more log batch file either)

  by_hurt : (stop : Stop) → IsWhyUnwritten before new batch stop → (IsTrue disks.counts_failures → (stop ≡ stops.DiskFault → ⊥) → (view_in new).faults ≡ (disks.view before.disk).faults) → Hurt
      → IsUnwritten log batch stop before new
  by_hurt stop why steady hurt = record {
    why = why;
    leaves = subst (λ (w : Option Batch). LeavesFiles disks before.disk (disk_of new) (IsLeft Hurt log w)) writing (left_weaker disks before.disk (disk_of new) _ _ (may_have hurt) left);
    steady = steady;
  }

  pub unwritten_some : (frame : ℕ) → frame ≡ frame_size batch → (fault : StoreFault) → IsFullAt (gates.length_of before) frame (gates.limit_of_log before) fault
      → (fault ≡ store.DiskFault → Rose (disks.view before.disk).faults (view_in new).faults) → (fault ≡ store.Memory → IsTrue disks.takes_memory)
      → (IsTrue disks.counts_failures → (stop_of fault ≡ stops.DiskFault → ⊥) → (view_in new).faults ≡ (disks.view before.disk).faults) → IsUnwritten log batch (stop_of fault) before new
  unwritten_some frame size store.DiskFault full rose memory steady = by_hurt stops.DiskFault (room, writing, rose refl) steady (inl (rose refl))
  unwritten_some frame size (store.LogFull n m k) full rose memory steady = absurd (omega (arith, full, size, room))
  unwritten_some frame size store.Memory full rose memory steady = by_hurt stops.Memory (room, inr writing) steady (inr (memory refl))

-- a log that stops for want of memory had none on its disk
pub memory_told : (takes_memory : Bool) (fault : StoreFault) → (fault ≡ store.Memory → IsTrue takes_memory) → stop_of fault ≡ stops.Memory → IsTrue takes_memory
memory_told takes_memory store.DiskFault takes is = absurd cc
memory_told takes_memory (store.LogFull n m k) takes is = absurd cc
memory_told takes_memory store.Memory takes is = takes refl

-- a partition that has the same log and knows the same
module _ {D : Type 0} {disks : Ghosts D} (log : List Batch) (old new : Partition D disks) (same_log : new.log ≡ old.log) (same_writing : new.in_writing ≡ old.in_writing) where
  kept_frames : gates.IsLogOf (bodies_of log) old.log → gates.IsLogOf (bodies_of log) new.log
  kept_frames frames = subst (λ (l : GateLog D disks). gates.IsLogOf (bodies_of log) l) (sym same_log) frames

  pub ahead_kept : (batch : Batch) → new.state ≡ old.state → new.last_moment ≡ old.last_moment → IsAhead log batch old → IsAhead log batch new
  ahead_kept batch same_state same_moment is = record {
    frames = kept_frames is.frames;
    fits = is.fits;
    count = ap (λ (l : GateLog D disks). gates.count_of l) same_log ∙ is.count;
    state = subst (λ (s : State). IsStateOf (events_of (log ++ batch ∷ [])) s) (sym same_state) is.state;
    moment = is.moment ∙ sym same_moment;
    resting = same_writing ∙ is.resting;
  }

  pub has_kept : new.state ≡ old.state → new.last_moment ≡ old.last_moment → HasLog log old → HasLog log new
  has_kept same_state same_moment is = record {
    frames = kept_frames is.frames;
    fits = is.fits;
    count = ap (λ (l : GateLog D disks). gates.count_of l) same_log ∙ is.count;
    state = subst (λ (s : State). IsStateOf (events_of log) s) (sym same_state) is.state;
    moment = is.moment ∙ sym same_moment;
    resting = same_writing ∙ is.resting;
  }

-- the batch was added
pub has_more : {D : Type 0} {disks : Ghosts D} (log : List Batch) (batch : Batch) (old new : Partition D disks) → IsAhead log batch old → IsBatch batch
    → gates.IsLogOf (bodies_of log ++ bytes_of batch ∷ []) new.log → gates.count_of new.log ≡ gates.count_of old.log + 1
    → new.state ≡ old.state → new.last_moment ≡ old.last_moment → new.in_writing ≡ old.in_writing
    → HasLog (log ++ batch ∷ []) new
has_more log batch old new ahead of_batch frames count same_state same_moment same_writing = record {
  frames = subst (λ (bodies : List (List ℕ)). gates.IsLogOf bodies new.log) (sym (bodies_of_more log batch)) frames;
  fits = are_more log batch ahead.fits of_batch;
  count = omega (arith, count, ahead.count, length-append log (batch ∷ []));
  state = subst (λ (s : State). IsStateOf (events_of (log ++ batch ∷ [])) s) (sym same_state) ahead.state;
  moment = moment_of_last_more log batch ∙ ahead.moment ∙ sym same_moment;
  resting = same_writing ∙ ahead.resting;
}

-- what the log says of its call unless the disk failed, where it didn't
pub unless_told : (fault : StoreFault) (P : Type 0) → UnlessDiskFault {T = Unit {0}} (Err fault) P → (stop_of fault ≡ stops.DiskFault → ⊥) → P
unless_told store.DiskFault P told other = absurd (other refl)
unless_told (store.LogFull n m k) P told other = told
unless_told store.Memory P told other = told
