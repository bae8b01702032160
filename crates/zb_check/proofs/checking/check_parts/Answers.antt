use Rattle.std.proofs.Common.{sym, ap, ◌∙◌}
use Rattle.std.specs.Option.{option_copied}
use Rattle.zb_faults.specs.Faults.{all_faults, first_fault}
use Rattle.zb_check.proofs.FaultLemmas.{first_of_here, first_of_later}
use Rattle.zb_check.proofs.checking.check_parts.Goals as goal

pub returns-in-Some : goal.returns-in-Some
unfolding first_fault
returns-in-Some c =
    sym c.loop-fault.invariant
    ∙ first_of_here c.args.parts.now all_faults c.loop-fault.fault-index _ c.loop-fault-test.true (option_copied c.in_ok-found.found) c.in_ok-found.ensures _ c.in_ok-id.id c.in_ok-id.ensures (ap option_copied c.in-Some.is)

pub loop-fault-preserved : goal.loop-fault-preserved
unfolding first_fault
loop-fault-preserved c =
    sym (first_of_later c.args.parts.now all_faults c.loop-fault.fault-index _ c.loop-fault-test.true (option_copied c.in_ok-found.found) c.in_ok-found.ensures (ap option_copied c.in_default.is)) ∙ c.loop-fault.invariant
