use Rattle.std.proofs.Common.{ℕ, List, [], Option, subst}
use Rattle.std.specs.Option.{option_map_or}
use Rattle.std.specs.List.Sorted.{IsStrictlySortedBy}
use Rattle.std.specs.Ordering.{nat_cmp}
use Rattle.zb_line.proofs.OrderLemmas.{none_sorted}
use Rattle.zb_line.proofs.texts.Texts.keys.Goals as goal

pub returns-in-None-clause-order : goal.returns-in-None-clause-order
returns-in-None-clause-order c = subst (λ (found : Option (List ℕ)). IsStrictlySortedBy nat_cmp (option_map_or (λ line. line) found [])) c.in-None.ensures.value (none_sorted nat_cmp)
