use Rattle.std.proofs.Common.{◌≡◌, ℕ, suc, ◌+◌, ◌<◌, ◌∷◌, [], List, drop, length, refl, sym, ap, subst, ◌∙◌, arith, rules}
use Rattle.std.proofs.Math.Seq.{drop-cons}
use Rattle.std.proofs.lemmas.List.{drop_all}
use Rattle.zb_groups.specs.declared.held.Held.{Held}
use Rattle.zb_groups.proofs.EmptyingLemmas.{IsEmptying, goes_on, emptied}
use Rattle.zb_groups.proofs.groups.Groups.take_group.Goals as goal

pub loop-number-init : goal.loop-number-init
loop-number-init g c = record { ascend = c.numbers_in.ensures.order; here = sym (c.as_slice-number-items.ensures.value ∙ c.in_ok-numbers.ensures.numbers); out = refl }

pub loop-number-preserved : goal.loop-number-preserved
loop-number-preserved g c =
    let group_in = g.R.Grouped.group_in in
    let all = c.args.self.now in
    let rows = c.loop-number.self in
    let items = c.as_slice-number-items.result.now in
    let i = c.loop-number.number-index in
    let n = c.number-item.result in
    let within : i < length items = search rules in
    let next : suc i ≡ i + 1 = omega arith in
    let split : drop i items ≡ n ∷ drop (i + 1) items = drop-cons items i n within ∙ (ap (λ (k : ℕ). k ∷ drop (suc i) items) (sym c.number-item.is) ∙ ap (λ (k : ℕ). n ∷ drop k items) next) in
    let now = goes_on group_in c.args.group all rows n (drop (i + 1) items) (subst (λ (l : List ℕ). IsEmptying group_in c.args.group all rows l) split c.loop-number.invariant) in
    subst (λ left. IsEmptying group_in c.args.group all left (drop (i + 1) items)) (sym c.take.ensures.left) now

pub returns-clause-ok : goal.returns-clause-ok
returns-clause-ok g c =
    let group_in = g.R.Grouped.group_in in
    let all = c.args.self.now in
    let rows = c.loop-number.self in
    let items = c.as_slice-number-items.result.now in
    let i = c.loop-number.number-index in
    let past : length items ≡ i = search rules in
    let none : drop i items ≡ [] = drop_all i items (omega (arith, past)) in
    emptied group_in c.args.group all rows (subst (λ (l : List ℕ). IsEmptying group_in c.args.group all rows l) none c.loop-number.invariant)
