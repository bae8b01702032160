use Rattle.std.proofs.Common.{◌≡◌, drop}
use Rattle.zb_faults.specs.Faults.{all_faults, first_fault_among}
use Rattle.zb_check.proofs.checking.check_parts.Given as goal

-- the model has none of the faults so far
abbrev pub invariant-loop-fault : goal.invariant-loop-fault
invariant-loop-fault l = first_fault_among (drop l.fault-index all_faults) l.parts ≡ first_fault_among all_faults l.parts
