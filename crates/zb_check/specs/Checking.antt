-- What checking a model promises.
use Rattle.std.specs.Prelude.{◌≡◌, ℕ, List, Option, Some, None, Result, Ok, Err, ⊤}
use Rattle.zb_faults.specs.declared.fault.Fault.{Fault}
use Rattle.zb_check.specs.declared.checking.ModelFault.{ModelFault}
use Rattle.zb_check.specs.declared.checking.ModelFault.TheVariants as faults

-- the model has no fault, or this first one, unless memory ran out
abbrev pub Checks : Result ⊤ ModelFault → Option (Fault × List ℕ) → Type 0
Checks (Ok done) found = found ≡ None
Checks (Err (faults.Bad fault id)) found = found ≡ Some (fault, id)
Checks (Err faults.Memory) found = Unit {0}
