use Rattle.std.proofs.Common.{arith, sym, ◌∙◌}
use Rattle.std.specs.BTreeMap.{is_at}
use Rattle.std.proofs.lemmas.List.Filters.{dedup_is}
use Rattle.std.proofs.lemmas.List.Kept.{IsStrictlySortedBy-dedup}
use Rattle.std.proofs.lemmas.List.Sorted.{list_any-IsPermutation}
use Rattle.zb_line.proofs.OrderLemmas.{any_once, alike}
use Rattle.zb_line.proofs.line.Line.of.Goals as goal

pub invariant_of-result : goal.invariant_of-result
invariant_of-result g c =
    let once = dedup_is g.T.PartialEq.eq c.sort_unstable.new.self.items c.dedup.new.self.items c.dedup.ensures.filtered in
    record { within = omega arith; order = rw once (IsStrictlySortedBy-dedup g.met.T.Ord.total g.met.T.Ord.matches_eq c.sort_unstable.new.self.items c.sort_unstable.ensures.sorted) }

pub returns : goal.returns
returns g c = λ x.
    let once = dedup_is g.T.PartialEq.eq c.sort_unstable.new.self.items c.dedup.new.self.items c.dedup.ensures.filtered in
    rw once (any_once g.T.PartialEq.eq (is_at (g.T.Ord.cmp x)) (alike g.T.Ord.cmp g.met.T.Ord.total g.T.PartialEq.eq g.met.T.Ord.matches_eq x) c.sort_unstable.new.self.items
    ∙ sym (list_any-IsPermutation (is_at (g.T.Ord.cmp x)) c.args.items.items c.sort_unstable.new.self.items c.sort_unstable.ensures.permutation))
