-- Why events were not put.
use Rattle.zb_model.specs.declared.stop.TableFault.{TableFault}
use Rattle.zb_model.specs.declared.stop.TableFault.TheVariants as faults
use Rattle.zb_state.specs.declared.refusal.Refusal.{Refusal}
use Rattle.zb_state.specs.declared.refusal.Refusal.TheVariants.{Memory, Misfit}

-- what a fault of the state's tables is told as (own)
abbrev pub refusal_of_fault : TableFault → Refusal
refusal_of_fault faults.NotApplicable = Misfit
refusal_of_fault faults.Memory = Memory
