use Rattle.std.proofs.Common.{◌≡◌, ℕ, ◌==◌, filter, slice_get, true, List, [], ◌∷◌, Some, None, refl, sym, ap, subst, ◌∙◌}
use Rattle.zb_pairs.specs.Pairs.{keys_under}
use Rattle.zb_pairs.proofs.UnderLemmas.{RiseFrom, is_from, under_from, from_rises, none_behind, none_ordered}
use Rattle.zb_pairs.proofs.under.first_under.Goals as goal

-- the first of those that are kept from a number on is that of all
module _ (n : ℕ) (pairs from : List (ℕ × ℕ)) (is : from ≡ filter (is_from n) pairs) where
  same : (rest : List (ℕ × ℕ)) → from ≡ rest → slice_get (keys_under n rest) 0 ≡ slice_get (keys_under n pairs) 0
  same rest steps = ap (λ (ks : List ℕ). slice_get ks 0) (ap (keys_under n) (sym steps ∙ is) ∙ under_from n pairs)

  here : (p : ℕ × ℕ) (ps : List (ℕ × ℕ)) → (p.0 == n) ≡ true → Some p.1 ≡ slice_get (keys_under n (p ∷ ps)) 0
  here p ps own = rw own refl

pub returns-then-eq-clause-key : goal.returns-then-eq-clause-key
returns-then-eq-clause-key c =
    let n = c.args.number in
    let pairs = c.args.pairs.now.keys in
    let is : c.range-from.result ≡ filter (is_from n) pairs = c.range-from.ensures.between tt ∙ rw c.new.ensures refl in
    here n pairs c.range-from.result is c.in-Some.pair.now c.next.new.self (sym c.if-eq.ensures) ∙ same n pairs c.range-from.result is _ c.in-Some.ensures.steps

pub returns-else-eq-clause-key : goal.returns-else-eq-clause-key
returns-else-eq-clause-key c =
    let n = c.args.number in
    let pairs = c.args.pairs.now.keys in
    let is : c.range-from.result ≡ filter (is_from n) pairs = c.range-from.ensures.between tt ∙ rw c.new.ensures refl in
    let rises : RiseFrom n (c.in-Some.pair.now ∷ c.next.new.self) = subst (λ (ps : List (ℕ × ℕ)). RiseFrom n ps) (sym is ∙ c.in-Some.ensures.steps) (from_rises n pairs c.range-from.ensures.ordered) in
    let none = none_behind n c.in-Some.pair.now c.next.new.self rises (sym c.if-eq.ensures) in
    ap (λ (ks : List ℕ). slice_get ks 0) (sym none) ∙ same n pairs c.range-from.result is _ c.in-Some.ensures.steps

pub returns-in-None-clause-key : goal.returns-in-None-clause-key
returns-in-None-clause-key c =
    let n = c.args.number in
    let pairs = c.args.pairs.now.keys in
    let is : c.range-from.result ≡ filter (is_from n) pairs = c.range-from.ensures.between tt ∙ rw c.new.ensures refl in
    same n pairs c.range-from.result is [] c.in-None.ensures.steps.0

pub returns-then-is_empty-clause-order : goal.returns-then-is_empty-clause-order
returns-then-is_empty-clause-order c = none_ordered c.args.pairs.now (c.is_empty.ensures.0 c.if-is_empty.true)
