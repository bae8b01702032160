use Rattle.std.proofs.Common.{◌≡◌, drop}
use Rattle.std.specs.List.{find}
use Rattle.zb_tokens.specs.Choice.{is_default}
use Rattle.zb_values.proofs.FlowLemmas.{flows_from}
use Rattle.zb_values.proofs.flows.default_of.Given as goal

-- what is asked of the flows that are left
abbrev pub invariant-loop-number : goal.invariant-loop-number
invariant-loop-number l = find (is_default l.node) (drop l.number-index (flows_from l.model l.id)) ≡ find (is_default l.node) (flows_from l.model l.id)
