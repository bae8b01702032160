use Rattle.std.proofs.Common.{◌≡◌, drop}
use Rattle.std.specs.List.{list_any}
use Rattle.std.specs.Str.{bytes_eq}
use Rattle.zb_places.proofs.FlowLemmas.{flows_to}
use Rattle.zb_values.proofs.awaited.leads_from.Given as goal

-- what is asked of the flows that are left
abbrev pub invariant-loop-number : goal.invariant-loop-number
invariant-loop-number l = list_any (λ f. bytes_eq f.from l.origin) (drop l.number-index (flows_to l.model l.target)) ≡ list_any (λ f. bytes_eq f.from l.origin) (flows_to l.model l.target)
