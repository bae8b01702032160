use Rattle.std.proofs.Common.{◌≡◌, drop}
use Rattle.zb_places.specs.Places.{held_tokens}
use Rattle.zb_places.proofs.FlowLemmas.{flows_to, ids_of_flows, on_each}
use Rattle.zb_places.proofs.flows.are_on_each.Given as goal

-- what is asked of the flows that are left
abbrev pub invariant-loop-number : goal.invariant-loop-number
invariant-loop-number l =
    on_each l.scope (ids_of_flows (drop l.number-index (flows_to l.model l.node))) (held_tokens l.tokens) ≡ on_each l.scope (ids_of_flows (flows_to l.model l.node)) (held_tokens l.tokens)
