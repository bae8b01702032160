-- The run of a workload, the logs that it left, and how it ended.
use Rattle.std.proofs.Common.{◌≡◌, ◌≢◌, ◌⊎◌, Bool, ℕ, zero, suc, ◌+◌, List, [], ◌∷◌, length, slice_get, Contains, IsTrue, Some, Result, Ok, Err, IfErr, refl, sym, ◌∙◌, subst, inl, inr, arith}
use Rattle.std.specs.List.{AllByRecursion}
use Rattle.std.proofs.lemmas.Bool.{false≢true}
use Rattle.zb_disk.specs.declared.disk.Disk.{Ghosts}
use Rattle.zb_model.specs.declared.record.Batch.{Batch}
use Rattle.zb_store.specs.declared.volume.Volume.{Volume}
use Rattle.zb_partition.specs.Log.{StandsFor, AreBatches}
use Rattle.zb_desk.specs.Numbered.{EachFrom}
use Rattle.zb_session.specs.Session.{SessionEnds}
use Rattle.zb_serve.specs.Ends.{Told, Crashes, VolumeEnds, RunEnds, volume_ends, volumes_ends}
use Rattle.zb_serve.specs.Log.{Course, course_of, OpenedLog, IsVolume, IsLog, IsLogIn, IsKept, IsDiskHurt, log_in, batch_of}
use Rattle.zb_serve.specs.Running.{ends_alone}
use Rattle.zb_serve.specs.Served.{answer_of_run, IsRun}
use Rattle.zb_serve.specs.Setting.{RunSetting}
use Rattle.zb_serve.specs.declared.run.Cause.{Cause}
use Rattle.zb_serve.specs.declared.run.Cause.TheVariants as causes
use Rattle.zb_serve.proofs.ListLemmas.{member_at, place_within, of_number, each_length, first_at}
use Rattle.zb_serve.proofs.LogLemmas.{ends_at, ends_many}
use Rattle.zb_serve.proofs.GroundLemmas.{tails_of, runs_on_tails}
use Rattle.zb_outside.specs.Cause.{StreamFaultsRose, HasStreamCause}
use Rattle.zb_outside.specs.declared.trouble.Trouble.{Trouble}
use Rattle.zb_outside.specs.declared.trouble.Trouble.TheVariants as troubles
use Rattle.zb_words.specs.Plan.{IsPlan}
use Rattle.zb_words.specs.declared.plan.Plan.TheVariants as plans
use Rattle.zb_words.specs.declared.plan.GenPlan.{GenPlan}
use Rattle.zb_words.specs.declared.plan.ServePlan.{ServePlan}
use Rattle.zb_words.specs.declared.plan.ClockKind.TheVariants as kinds
use Rattle.zb_gen.specs.Workload.{workload}
use Rattle.zb_serve.specs.Setting.{setting_of}
use Rattle.zb_serve.specs.Ends.{crashes_of}
use Rattle.zb_tally.specs.Served.{AreLogsOf, IsWorkloadRun, IsWorkloadServed, IsWorkloadCut, IsTooLarge, workload_setting}
use Rattle.zb_tally.specs.Status.{gen_status, gen_fault_status, run_end, IsRunFault, IsGenCause}
use Rattle.zb_tally.specs.declared.fault.GenFault.{GenFault}
use Rattle.zb_tally.specs.declared.fault.GenFault.TheVariants as faults

module _ {D : Type 0} (disks : Ghosts D) (sound : (disk : D) → (disks.view disk).faults ≡ 0) where
  -- a sound disk wasn't hurt in a run that is done
  not_hurt : (told : Told) (old new : Volume D) → IsDiskHurt told (volume_ends disks old new) causes.Done → ⊥
  not_hurt told old new (inl rose) = let below = rose (omega (arith, sound old.log)) in let no : ⊥ = omega (arith, below, sound old.log, sound new.log) in no
  not_hurt told old new (inr memory) = absurd (false≢true memory.1)

  -- so its file stands for the log
  module _ (course : Course) (ends : RunEnds) (crashes : Crashes) (done : course.cause ≡ causes.Done) (tells : IsTrue course.told.disk) where
    stands_one : (number : ℕ) (old new : Volume D) (opened : OpenedLog) (log : List Batch) → IsLog course crashes number (volume_ends disks old new) opened log
        → StandsFor (disks.view new.log).contents (log_in course number log)
    stands_one number old new opened log is =
        elim (subst (λ (cause : Cause). IsKept course.told (volume_ends disks old new) cause (batch_of number course.unlogged) (log_in course number log) (disks.view new.log).contents) done (is.contents tells)) [
          | inl stands ↦ stands
          | inr hurt ↦ absurd (not_hurt course.told old new hurt.1)
        ]

    -- those of all, where each is the one at its place
    logs_from : (number : ℕ) (news : List (Volume D)) (logs : List (List Batch)) → length news ≡ length logs
        → ((k : ℕ) (new : Volume D) (log : List Batch) → slice_get news k ≡ Some new → slice_get logs k ≡ Some log → StandsFor (disks.view new.log).contents (log_in course (number + k) log) × AreBatches (log_in course (number + k) log))
        → (left : List (List Batch)) × AreLogsOf disks news left
    logs_from number [] [] many each = ([], tt)
    logs_from number (new ∷ news) (log ∷ logs) many each =
        let here : number + 0 ≡ number = omega arith in
        let rest = logs_from (suc number) news logs (omega (arith, many)) (λ k other its at_other at_its.
        let on : number + suc k ≡ suc number + k = omega arith in
        subst (λ (m : ℕ). StandsFor (disks.view other.log).contents (log_in course m its) × AreBatches (log_in course m its)) on (each (suc k) other its at_other at_its)) in
        (log_in course number log ∷ rest.0, (subst (λ (m : ℕ). StandsFor (disks.view new.log).contents (log_in course m log) × AreBatches (log_in course m log)) here (each 0 new log refl refl), rest.1))
    logs_from number [] (log ∷ logs) many each = absurd (let no : ⊥ = omega (arith, many) in no)
    logs_from number (new ∷ news) [] many each = absurd (let no : ⊥ = omega (arith, many) in no)

    logs_left : (olds news : List (Volume D)) (opened : List OpenedLog) (logs : List (List Batch)) → length news ≡ length olds → length news ≡ length opened → ends.volumes ≡ volumes_ends disks olds news
        → EachFrom (IsLogIn course ends crashes) 1 opened logs → (left : List (List Batch)) × AreLogsOf disks news left
    logs_left olds news opened logs many found are each =
        let one_each : length opened ≡ length logs = each_length (IsLogIn course ends crashes) 1 opened logs each in
        logs_from 1 news logs (found ∙ one_each) (λ k new log at_new at_log.
        let within = place_within news k new at_new in
        let old = member_at olds k (omega (arith, within, many)) in
        let one = member_at opened k (omega (arith, within, found)) in
        let volumes = subst (λ (volumes : List VolumeEnds). slice_get volumes k ≡ Some (volume_ends disks old.0 new)) (sym are) (ends_at disks olds news k old.0 new old.1 at_new) in
        let is : IsLog course crashes (suc k) (volume_ends disks old.0 new) one.0 log =
        of_number ends.volumes k (volume_ends disks old.0 new) (λ volume. IsLog course crashes (suc k) volume one.0 log) volumes (first_at (IsLogIn course ends crashes) opened logs k one.0 log each one.1 at_log) in
        let number : suc k ≡ 1 + k = omega arith in
        subst (λ (m : ℕ). StandsFor (disks.view new.log).contents (log_in course m log) × AreBatches (log_in course m log)) number (stands_one (suc k) old.0 new one.0 log is, is.fit))

  -- the logs that a run leaves that is done
  run_logs : (told : Told) (setting : RunSetting) (session : SessionEnds) (crashes : Crashes) (olds news : List (Volume D)) (stamps : List (List ℕ)) (units : ℕ) → IsTrue told.disk → length news ≡ length olds
      → IsRun told setting (ends_alone session (volumes_ends disks olds news)) crashes (answer_of_run causes.Done stamps units) → (logs : List (List Batch)) × AreLogsOf disks news logs
  run_logs told setting session crashes olds news [] units tells many run = absurd run.0
  run_logs told setting session crashes olds news (stamp ∷ stamps) units tells many run =
      let serves = run.2 in
      let ends = ends_alone session (volumes_ends disks olds news) in
      let course = course_of told setting (length ends.volumes) run.0 run.1 causes.Done in
      let opened = serves.parts.opened in
      let found : length ends.volumes ≡ length opened = each_length (IsVolume course crashes) 1 ends.volumes opened serves.volumes in
      logs_left course ends crashes refl tells olds news opened (tails_of opened) many (sym (ends_many disks olds news many) ∙ found) refl (runs_on_tails course crashes ends (stamp ∷ stamps) units serves).are_logs

  pub served_logs : (plan : GenPlan) (back : List (Volume D)) → IsWorkloadServed disks plan back → (logs : List (List Batch)) × AreLogsOf disks back logs
  served_logs plan back served = run_logs served.told workload_setting served.session (crashes_of disks served.volumes back) served.volumes back served.stamps served.units served.tells.2 served.same served.run

-- what the run of a workload goes by
pub same_setting : (plan : ServePlan) (tells : Bool) (upcoming : ℕ → ℕ) → plan.limit ≡ 1073741824 → plan.units ≡ 1000 → plan.clock ≡ kinds.Manual → setting_of plan tells upcoming ≡ workload_setting
same_setting plan tells upcoming limit units clock = rw (limit, units, clock) refl

pub workload_run : {D : Type 0} (disks : Ghosts D) (plan : GenPlan) (told : Told) (setting : RunSetting) (session : SessionEnds) (olds news : List (Volume D)) (cause : Cause) (stamps : List (List ℕ)) (units : ℕ) → setting ≡ workload_setting
    → IsTrue told.source × IsTrue told.sink × IsTrue told.disk → session.source.left ≡ workload plan.number plan.requests → length olds ≡ plan.partitions
    → AllByRecursion (λ volume. (disks.view volume.log).contents ≡ []) olds → length news ≡ length olds
    → IsRun told setting (ends_alone session (volumes_ends disks olds news)) (crashes_of disks olds news) (answer_of_run cause stamps units) → IsWorkloadRun disks plan news cause
workload_run disks plan told setting session olds news cause stamps units goes_by tells input many empty same run = record {
  told = told;
  tells = tells;
  session = session;
  input = input;
  volumes = olds;
  many = many;
  empty = empty;
  same = same;
  stamps = stamps;
  units = units;
  run = subst (λ (s : RunSetting). IsRun told s (ends_alone session (volumes_ends disks olds news)) (crashes_of disks olds news) (answer_of_run cause stamps units)) goes_by run;
}

-- what the end of a run says of its cause
abbrev pub IsEndBy : Cause → Result (Unit {0}) GenFault → Type 0
IsEndBy cause (Ok done) = cause ≡ causes.Done
IsEndBy cause (Err faults.LogFull) = (partition : ℕ) × (length_told : ℕ) × (frame : ℕ) × (most : ℕ) × (cause ≡ causes.LogFull partition length_told frame most)
IsEndBy cause (Err faults.Memory) = Unit {0}
IsEndBy cause (Err faults.Usage) = ⊥
IsEndBy cause (Err (faults.Sink trouble)) = ⊥

pub ends_by : (cause : Cause) → IsEndBy cause (run_end cause)
ends_by causes.Done = refl
ends_by (causes.LogFull partition length_told frame most) = (partition, length_told, frame, most, refl)
ends_by causes.Memory = tt
ends_by causes.Usage = tt
ends_by (causes.SourceFault session) = tt
ends_by (causes.DiskFault partition batch) = tt
ends_by (causes.BadLog partition frame) = tt
ends_by (causes.SinkFault session) = tt
ends_by (causes.InputFull session) = tt

-- and of the fault
pub fault_by : {D : Type 0} (disks : Ghosts D) (plan : GenPlan) (back : List (Volume D)) (cause : Cause) (fault : GenFault) → IsEndBy cause (Err fault) → IsWorkloadRun disks plan back cause
    → (fault ≡ faults.Memory) ⊎ ((fault ≡ faults.LogFull) × IsWorkloadCut disks plan)
fault_by disks plan back cause faults.Memory is run = inl refl
fault_by disks plan back cause faults.LogFull is run = inr (
  refl,
  record {
    back = back;
    partition = is.0;
    length_told = is.1;
    frame = is.2;
    most = is.3;
    run = subst (IsWorkloadRun disks plan back) is.4 run;
  },
)
fault_by disks plan back cause faults.Usage is run = absurd is
fault_by disks plan back cause (faults.Sink trouble) is run = absurd is

-- ---- statuses

-- which there are
pub known : (written : Result (Unit {0}) GenFault) → Contains (0 ∷ 2 ∷ 6 ∷ 7 ∷ 8 ∷ []) (gen_status written)
known (Ok done) = (0, omega arith, refl)
known (Err faults.Usage) = (1, omega arith, refl)
known (Err (faults.Sink troubles.Failed)) = (2, omega arith, refl)
known (Err (faults.Sink troubles.Memory)) = (3, omega arith, refl)
known (Err faults.Memory) = (3, omega arith, refl)
known (Err faults.LogFull) = (4, omega arith, refl)

-- those before anything is written, and those of what is written
pub of_run : {D : Type 0} (disks : Ghosts D) (words : List (List ℕ)) (fault : GenFault) → IsRunFault disks words fault → Contains (2 ∷ 7 ∷ 8 ∷ []) (gen_fault_status fault)
of_run disks words faults.Usage is = (0, omega arith, refl)
of_run disks words faults.Memory is = (1, omega arith, refl)
of_run disks words faults.LogFull is = (2, omega arith, refl)
of_run disks words (faults.Sink trouble) is = absurd is

pub of_sink : (trouble : Trouble) → Contains (0 ∷ 6 ∷ 7 ∷ []) (gen_fault_status (faults.Sink trouble))
of_sink troubles.Failed = (1, omega arith, refl)
of_sink troubles.Memory = (2, omega arith, refl)

pub not_of_run : Contains {X = ℕ} (2 ∷ 7 ∷ 8 ∷ []) 0 → ⊥
not_of_run (zero, within, is) = absurd (omega (arith, is))
not_of_run (suc zero, within, is) = absurd (omega (arith, is))
not_of_run (suc (suc zero), within, is) = absurd (omega (arith, is))
not_of_run (suc (suc (suc k)), within, is) = absurd (omega (arith, within))

-- what a status says of how it ended
module _ {D : Type 0} (disks : Ghosts D) (words : List (List ℕ)) (takes : Bool) (s t : ℕ) where
  pub run_cause : (fault : GenFault) → IsRunFault disks words fault → IsGenCause disks words takes s t fault
  run_cause faults.Usage is = is
  run_cause faults.Memory is = tt
  run_cause faults.LogFull is = is
  run_cause (faults.Sink trouble) is = absurd is

  pub sink_cause : {counts : Bool} (trouble : Trouble) → (let sent : Result (Unit {0}) Trouble = Err trouble in HasStreamCause counts takes s t sent) → IsGenCause disks words takes s t (faults.Sink trouble)
  sink_cause troubles.Failed cause = cause.failed refl
  sink_cause troubles.Memory cause = cause.memory refl

  pub record StatusTells (written : Result (Unit {0}) GenFault) : Type 0 where
    pub usage : gen_status written ≡ 2 → (plan : GenPlan) → IsPlan words (plans.Gen plan) → ⊥
    pub done : gen_status written ≡ 0 → written ≡ Ok tt
    pub sink : gen_status written ≡ 6 → StreamFaultsRose s t
    pub full : gen_status written ≡ 8 → IsTooLarge disks words

  pub status_tells : (written : Result (Unit {0}) GenFault) → IfErr written (IsGenCause disks words takes s t) → StatusTells written
  status_tells (Ok done) cause = record { usage = λ e. absurd (omega arith); done = λ e. refl; sink = λ e. absurd (omega arith); full = λ e. absurd (omega arith) }
  status_tells (Err faults.Usage) cause = record { usage = λ e. cause; done = λ e. absurd (omega arith); sink = λ e. absurd (omega arith); full = λ e. absurd (omega arith) }
  status_tells (Err (faults.Sink troubles.Failed)) cause = record { usage = λ e. absurd (omega arith); done = λ e. absurd (omega arith); sink = λ e. cause; full = λ e. absurd (omega arith) }
  status_tells (Err (faults.Sink troubles.Memory)) cause = record { usage = λ e. absurd (omega arith); done = λ e. absurd (omega arith); sink = λ e. absurd (omega arith); full = λ e. absurd (omega arith) }
  status_tells (Err faults.Memory) cause = record { usage = λ e. absurd (omega arith); done = λ e. absurd (omega arith); sink = λ e. absurd (omega arith); full = λ e. absurd (omega arith) }
  status_tells (Err faults.LogFull) cause = record { usage = λ e. absurd (omega arith); done = λ e. absurd (omega arith); sink = λ e. absurd (omega arith); full = λ e. cause }

  -- want of memory was met before anything was written, or it was the sink's
  pub memory_of : (Same : Type 0) (written : Result (Unit {0}) GenFault) → gen_status written ≡ 7 → IfErr written (IsGenCause disks words takes s t) → IfErr written (λ fault. fault ≡ faults.Memory → Same) → Same ⊎ IsTrue takes
  memory_of Same (Ok done) status cause same = absurd (omega (arith, status))
  memory_of Same (Err faults.Usage) status cause same = absurd (omega (arith, status))
  memory_of Same (Err (faults.Sink troubles.Failed)) status cause same = absurd (omega (arith, status))
  memory_of Same (Err (faults.Sink troubles.Memory)) status cause same = inr cause
  memory_of Same (Err faults.Memory) status cause same = inl (same refl)
  memory_of Same (Err faults.LogFull) status cause same = absurd (omega (arith, status))

-- a status of a run that isn't 2 is one of want of memory, or of a full log
pub run_status : (status : ℕ) → Contains (2 ∷ 7 ∷ 8 ∷ []) status → status ≢ 2 → (status ≡ 7) ⊎ (status ≡ 8)
run_status status (zero, within, is) other = absurd (other (sym is))
run_status status (suc zero, within, is) other = inl (sym is)
run_status status (suc (suc zero), within, is) other = inr (sym is)
run_status status (suc (suc (suc k)), within, is) other = absurd (omega (arith, within))

-- a run that ended so is at fault for that alone
pub fault_of_run : {D : Type 0} (disks : Ghosts D) (words : List (List ℕ)) (plan : GenPlan) (fault : GenFault) → IsPlan words (plans.Gen plan) → (fault ≡ faults.Memory) ⊎ ((fault ≡ faults.LogFull) × IsWorkloadCut disks plan)
    → IsRunFault disks words fault
fault_of_run disks words plan fault asked (inl is) = subst (IsRunFault disks words) (sym is) tt
fault_of_run disks words plan fault asked (inr (is, cut)) = subst (IsRunFault disks words) (sym is) (plan, asked, cut)
