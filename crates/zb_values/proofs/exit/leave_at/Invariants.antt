use Rattle.std.proofs.Common.{◌≡◌, drop}
use Rattle.std.specs.List.{find}
use Rattle.zb_tokens.specs.Names.{value_seen}
use Rattle.zb_tokens.specs.Choice.{decides}
use Rattle.zb_values.proofs.FlowLemmas.{flows_from}
use Rattle.zb_values.proofs.exit.leave_at.Given as goal

-- the first flow that decides is among those that are left
abbrev pub invariant-loop-number : goal.invariant-loop-number
invariant-loop-number l = find (decides (value_seen l.game l.cell.key) l.node) (drop l.number-index (flows_from l.model l.cell.node))
    ≡ find (decides (value_seen l.game l.cell.key) l.node) (flows_from l.model l.cell.node)
