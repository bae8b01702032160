-- What it means that a workload was served, and that it is told what came of it.
use Rattle.std.specs.Prelude.{◌≡◌, ◌^◌, ℕ, List, [], length, Bool, IsTrue}
use Rattle.std.specs.List.{AllZip, AllByRecursion}
use Rattle.zb_disk.specs.declared.disk.Disk.{Ghosts}
use Rattle.zb_model.specs.declared.record.Batch.{Batch}
use Rattle.zb_store.specs.declared.volume.Volume.{Volume}
use Rattle.zb_partition.specs.Log.{StandsFor, AreBatches}
use Rattle.zb_words.specs.Plan.{IsPlan}
use Rattle.zb_words.specs.declared.plan.GenPlan.{GenPlan}
use Rattle.zb_words.specs.declared.plan.Plan.TheVariants as plans
use Rattle.zb_gen.specs.Workload.{workload}
use Rattle.zb_session.specs.Hours.{manual}
use Rattle.zb_session.specs.Session.{SessionEnds}
use Rattle.zb_serve.specs.Ends.{Told, volumes_ends, crashes_of}
use Rattle.zb_serve.specs.Running.{ends_alone}
use Rattle.zb_serve.specs.Served.{answer_of_run, IsRun}
use Rattle.zb_serve.specs.Setting.{RunSetting}
use Rattle.zb_serve.specs.declared.run.Cause.{Cause}
use Rattle.zb_serve.specs.declared.run.Cause.TheVariants as causes
use Rattle.zb_show.specs.Show.{IsWritten}
use Rattle.zb_tally.specs.Counts.{tally_from}
use Rattle.zb_tally.specs.Summary.{summary}

-- what the run of a workload goes by: a clock that its requests move, and logs and units as a server has them by default (own)
abbrev pub workload_setting : RunSetting
workload_setting = record { hours = manual; limit = 2 ^ 30; units = 1000 }

-- these volumes are what a run of the server handed back that ended so: of one session, whose source had the lines of the
-- workload, over so many empty volumes (own)
pub record IsWorkloadRun {D : Type 0} (disks : Ghosts D) (plan : GenPlan) (back : List (Volume D)) (cause : Cause) : Type 0 where
  pub told : Told
  pub tells : IsTrue told.source × IsTrue told.sink × IsTrue told.disk
  pub session : SessionEnds
  pub input : session.source.left ≡ workload plan.number plan.requests
  pub volumes : List (Volume D)
  pub many : length volumes ≡ plan.partitions
  pub empty : AllByRecursion (λ volume. (disks.view volume.log).contents ≡ []) volumes
  -- all of them and no other
  pub same : length back ≡ length volumes
  pub stamps : List (List ℕ)
  pub units : ℕ
  pub run : IsRun told workload_setting (ends_alone session (volumes_ends disks volumes back)) (crashes_of disks volumes back) (answer_of_run cause stamps units)

-- these volumes are left of the run of a workload that was done (own)
abbrev pub IsWorkloadServed : {D : Type 0} → Ghosts D → GenPlan → List (Volume D) → Type 0
IsWorkloadServed disks plan back = IsWorkloadRun disks plan back causes.Done

-- the run of a workload was cut off at an entry that doesn't fit into the log of its partition (own)
pub record IsWorkloadCut {D : Type 0} (disks : Ghosts D) (plan : GenPlan) : Type 0 where
  pub back : List (Volume D)
  pub partition : ℕ
  pub length_told : ℕ
  pub frame : ℕ
  pub most : ℕ
  pub run : IsWorkloadRun disks plan back (causes.LogFull partition length_told frame most)

-- each of these logs is the one that the file of a volume stands for (own)
abbrev pub AreLogsOf : {D : Type 0} → Ghosts D → List (Volume D) → List (List Batch) → Type 0
AreLogsOf disks volumes logs = AllZip (λ volume log. StandsFor (disks.view volume.log).contents log × AreBatches log) volumes logs

-- the words ask for a workload, and this is the summary of what came of it: the counts of the logs that its run left (own)
pub record IsSummary {D : Type 0} (disks : Ghosts D) (words : List (List ℕ)) (text : List ℕ) : Type 0 where
  pub plan : GenPlan
  pub asked : IsPlan words (plans.Gen plan)
  pub back : List (Volume D)
  pub served : IsWorkloadServed disks plan back
  pub logs : List (List Batch)
  pub are : AreLogsOf disks back logs
  pub lines : text ≡ summary plan.requests (tally_from 1 logs)

-- where the sink tells, that summary but the bytes that are left was written behind what stood there (own)
abbrev pub PrintsSummary : {D : Type 0} → Bool → Ghosts D → List (List ℕ) → (before after left : List ℕ) → Type 0
PrintsSummary told disks words before after left =
    (text : List ℕ) × IsSummary disks words text × (IsTrue told → IsWritten text before after left)

-- the words ask for a workload whose run was cut off at an entry that doesn't fit (own)
abbrev pub IsTooLarge : {D : Type 0} → Ghosts D → List (List ℕ) → Type 0
IsTooLarge disks words = (plan : GenPlan) × IsPlan words (plans.Gen plan) × IsWorkloadCut disks plan
