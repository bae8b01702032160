use Rattle.std.proofs.Common.{◌≡◌, drop}
use Rattle.std.specs.List.{find}
use Rattle.zb_check.specs.Finding.{is_found_flow}
use Rattle.zb_check.proofs.finding.first_flow.Given as goal

-- the test finds none so far
abbrev pub invariant-loop-flow : goal.invariant-loop-flow
invariant-loop-flow l = find (is_found_flow l.test l.parts) (drop l.flow-index l.flows) ≡ find (is_found_flow l.test l.parts) l.flows
