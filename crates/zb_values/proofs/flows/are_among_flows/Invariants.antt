use Rattle.std.proofs.Common.{◌≡◌, drop, filter}
use Rattle.zb_tokens.specs.MoveLeave.{are_among, may_take}
use Rattle.zb_values.proofs.FlowLemmas.{flows_from, ids_of_flows}
use Rattle.zb_values.proofs.flows.are_among_flows.Given as goal

-- the ids that are left are sought among the flows that are left
abbrev pub invariant-loop-number : goal.invariant-loop-number
invariant-loop-number l = are_among l.rest (ids_of_flows (filter (may_take l.at_event_gateway l.cell) (drop l.number-index (flows_from l.model l.cell.node))))
    ≡ are_among l.ids (ids_of_flows (filter (may_take l.at_event_gateway l.cell) (flows_from l.model l.cell.node)))
