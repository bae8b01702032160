use Rattle.std.proofs.Common.{[], Option, subst}
use Rattle.std.specs.Option.{option_map_or}
use Rattle.std.specs.List.Sorted.{IsStrictlySortedBy}
use Rattle.std.specs.Ordering.{nat_cmp}
use Rattle.zb_line.specs.declared.firsts.Firsts.{Firsts}
use Rattle.zb_line.specs.Labels.{keys_by_first}
use Rattle.zb_line.proofs.OrderLemmas.{none_sorted}
use Rattle.zb_line.proofs.labels.Labels.keys.Goals as goal

pub returns-in-None-clause-order : goal.returns-in-None-clause-order
returns-in-None-clause-order c = subst (λ (found : Option Firsts). IsStrictlySortedBy nat_cmp (option_map_or (λ s. keys_by_first s c.args.first.now) found [])) c.in-None.ensures.value (none_sorted nat_cmp)
