use Rattle.std.proofs.Common.{◌≡◌, List, Some, map, slice_get, take}
use Rattle.zb_process.specs.declared.model.Flow.{Flow}
use Rattle.zb_values.proofs.FlowLemmas.{ids_of_flows}
use Rattle.zb_values.proofs.flows.ids_of.Given as goal

-- the ids of the flows so far
abbrev pub invariant-loop-number : goal.invariant-loop-number
invariant-loop-number l = (flows : List Flow) → map (slice_get l.model.flows) l.numbers ≡ map Some flows → l.ids ≡ ids_of_flows (take l.number-index flows)
