use Rattle.std.proofs.Common.{◌≡◌, ℕ, ◌==◌, not, filter, false, true, Bool, List, ◌∷◌, refl, sym, ap, subst, ◌∙◌}
use Rattle.std.specs.List.{find}
use Rattle.zb_pairs.specs.Pairs.{keys_under}
use Rattle.zb_pairs.proofs.UnderLemmas.{RiseFrom, is_from, under_from, from_rises, none_behind, is_other, none_ordered}
use Rattle.zb_pairs.proofs.under.first_under_that.Goals as goal

pub loop-pair-init : goal.loop-pair-init
loop-pair-init g c =
    let pairs = c.args.pairs.now.keys in
    let is : c.into_iter-pair-iterator.result ≡ filter (is_from c.args.number) pairs = c.into_iter-pair-iterator.ensures.into_iter_gives ∙ (c.range-pair-items.ensures.between tt ∙ rw c.new.ensures refl) in
    (ap (find (g.Q.Query.passes c.args.query.now)) (ap (keys_under c.args.number) is ∙ under_from c.args.number pairs), rw is (from_rises c.args.number pairs c.range-pair-items.ensures.ordered), refl)

pub returns-then-ne-clause-key : goal.returns-then-ne-clause-key
returns-then-ne-clause-key g c =
    let number = c.args.number in
    let rises : RiseFrom number (c.in-Some.pair.now ∷ c.next.new.self) = subst (λ (ps : List (ℕ × ℕ)). RiseFrom number ps) c.in-Some.ensures.steps c.loop-pair.invariant.1 in
    let none = ap (keys_under number) c.in-Some.ensures.steps ∙ none_behind number c.in-Some.pair.now c.next.new.self rises (is_other (c.in-Some.pair.now.0 == number) c.if-ne.ensures) in
    ap (find (g.Q.Query.passes c.args.query.now)) (sym none) ∙ c.loop-pair.invariant.0

pub returns-then-is_empty-clause-order : goal.returns-then-is_empty-clause-order
returns-then-is_empty-clause-order g c = none_ordered c.args.pairs.now (c.is_empty.ensures.0 c.if-is_empty.true)
