use Rattle.std.proofs.Common.{◌≡◌, false, bytes_eq, sym, subst}
use Rattle.std.specs.List.Sorted.{IsStrictlySortedBy}
use Rattle.std.specs.Ordering.{nat_cmp}
use Rattle.zb_line.specs.declared.firsts.Firsts.{Firsts}
use Rattle.zb_line.specs.Labels.{keys_by_first}
use Rattle.zb_line.proofs.OrderLemmas.{none_sorted}
use Rattle.zb_line.proofs.firsts.Firsts.leave.Goals as goal

pub returns-else-eq-clause-order : goal.returns-else-eq-clause-order
returns-else-eq-clause-order c =
    let other : bytes_eq c.in-One.single c.args.first.now ≡ false = cc (c.as_str.ensures, c.eq.ensures, c.if-eq.false) in
    subst (λ (f : Firsts). IsStrictlySortedBy nat_cmp (keys_by_first f c.args.first.now)) (sym c.in-One.is) (rw other (none_sorted nat_cmp))
