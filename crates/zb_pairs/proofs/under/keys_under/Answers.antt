use Rattle.std.proofs.Common.{◌≡◌, ℕ, ◌==◌, filter, List, ◌∷◌, ◌++◌, refl, sym, ap, subst, ◌∙◌, append-nil}
use Rattle.zb_pairs.specs.Pairs.{keys_under}
use Rattle.zb_pairs.proofs.UnderLemmas.{RiseFrom, is_from, under_from, from_rises, none_behind, is_other}
use Rattle.zb_pairs.proofs.under.keys_under.Goals as goal

pub loop-pair-init : goal.loop-pair-init
loop-pair-init c =
    let pairs = c.args.pairs.now.keys in
    let is : c.into_iter-pair-iterator.result ≡ filter (is_from c.args.number) pairs = c.into_iter-pair-iterator.ensures.into_iter_gives ∙ (c.range-pair-items.ensures.between tt ∙ rw c.new.ensures refl) in
    (rw (c.new-keys.ensures.items, is) (under_from c.args.number pairs), rw is (from_rises c.args.number pairs c.range-pair-items.ensures.ordered), refl)

pub returns-then-ne-clause-keys : goal.returns-then-ne-clause-keys
returns-then-ne-clause-keys c =
    let cell = c.args.number in
    let rises : RiseFrom cell (c.in-Some.pair.now ∷ c.next.new.self) = subst (λ (ps : List (ℕ × ℕ)). RiseFrom cell ps) c.in-Some.ensures.steps c.loop-pair.invariant.1 in
    let none = ap (keys_under cell) c.in-Some.ensures.steps ∙ none_behind cell c.in-Some.pair.now c.next.new.self rises (is_other (c.in-Some.pair.now.0 == cell) c.if-ne.ensures) in
    sym (append-nil c.loop-pair.keys.items) ∙ (ap (λ (ks : List ℕ). c.loop-pair.keys.items ++ ks) (sym none) ∙ c.loop-pair.invariant.0)
