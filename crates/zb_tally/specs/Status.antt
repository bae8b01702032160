-- How serving a workload ends.
use Rattle.std.specs.Prelude.{ℕ, List, Bool, IsTrue, Result, Ok, Err}
use Rattle.zb_disk.specs.declared.disk.Disk.{Ghosts}
use Rattle.zb_outside.specs.Cause.{StreamFaultsRose}
use Rattle.zb_outside.specs.declared.trouble.Trouble.TheVariants as troubles
use Rattle.zb_words.specs.Plan.{IsPlan}
use Rattle.zb_words.specs.declared.plan.GenPlan.{GenPlan}
use Rattle.zb_words.specs.declared.plan.Plan.TheVariants as plans
use Rattle.zb_serve.specs.declared.run.Cause.{Cause}
use Rattle.zb_serve.specs.declared.run.Cause.TheVariants as causes
use Rattle.zb_tally.specs.Served.{IsTooLarge}
use Rattle.zb_tally.specs.declared.fault.GenFault.{GenFault}
use Rattle.zb_tally.specs.declared.fault.GenFault.TheVariants as faults

-- the exit status of a fault (own)
abbrev pub gen_fault_status : GenFault → ℕ
gen_fault_status faults.Usage = 2
gen_fault_status (faults.Sink troubles.Failed) = 6
gen_fault_status (faults.Sink troubles.Memory) = 7
gen_fault_status faults.Memory = 7
gen_fault_status faults.LogFull = 8

-- the exit status of what came of a workload (own)
abbrev pub gen_status : Result (Unit {0}) GenFault → ℕ
gen_status (Ok written) = 0
gen_status (Err fault) = gen_fault_status fault

-- before the sink is touched, words are at fault only where they ask for no workload, and a full log only where the run of
-- the workload is cut off at an entry that doesn't fit (own)
abbrev pub IsRunFault : {D : Type 0} → Ghosts D → List (List ℕ) → GenFault → Type 0
IsRunFault disks words faults.Usage = (plan : GenPlan) → IsPlan words (plans.Gen plan) → ⊥
IsRunFault disks words faults.LogFull = IsTooLarge disks words
IsRunFault disks words faults.Memory = Unit {0}
IsRunFault disks words (faults.Sink trouble) = ⊥

-- and a sink only where its count of faults rose, or where its calls take memory (own)
abbrev pub IsGenCause : {D : Type 0} → Ghosts D → List (List ℕ) → (takes_memory : Bool) → (sink sink_after : ℕ) → GenFault → Type 0
IsGenCause disks words takes_memory sink sink_after (faults.Sink troubles.Failed) = StreamFaultsRose sink sink_after
IsGenCause disks words takes_memory sink sink_after (faults.Sink troubles.Memory) = IsTrue takes_memory
IsGenCause disks words takes_memory sink sink_after fault = IsRunFault disks words fault

-- what a run of a workload comes to, by why it ended; what is neither of the first two is told as want of memory (own)
abbrev pub run_end : Cause → Result (Unit {0}) GenFault
run_end causes.Done = Ok tt
run_end (causes.LogFull partition length_told frame most) = Err faults.LogFull
run_end causes.Memory = Err faults.Memory
run_end causes.Usage = Err faults.Memory
run_end (causes.SourceFault session) = Err faults.Memory
run_end (causes.DiskFault partition batch) = Err faults.Memory
run_end (causes.BadLog partition frame) = Err faults.Memory
run_end (causes.SinkFault session) = Err faults.Memory
run_end (causes.InputFull session) = Err faults.Memory
