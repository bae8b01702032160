use Rattle.std.proofs.Common.{◌≡◌, ℕ, ◌+◌, ◌∷◌, Bool, List, drop, arith, rules, sym, ap, subst, ◌∙◌}
use Rattle.std.proofs.lemmas.List.{drop_more}
use Rattle.std.specs.List.{find}
use Rattle.zb_lists.specs.Moments.{IsTimeOrdered}
use Rattle.zb_lists.proofs.OrderLemmas.{order_sorted}
use Rattle.zb_lists.proofs.PassingLemmas.{found_late}
use Rattle.zb_lists.proofs.lists.Lists.first_due_that.Goals as goal

pub loop-pair-init : goal.loop-pair-init
loop-pair-init g c = (ap (find (λ (p : ℕ × ℕ). g.Q.Query.passes c.args.query.now p.1)) c.as_slice-pair-items.ensures.items, subst (λ (ps : List (ℕ × ℕ)). IsTimeOrdered ps) (sym c.as_slice-pair-items.ensures.items) (order_sorted c.args.self.now.moments c.as_slice-pair-items.ensures.order))

pub returns-then-gt-clause-first : goal.returns-then-gt-clause-first
returns-then-gt-clause-first g c =
    let passes : ℕ → ℕ → Bool = λ n k. g.Q.Query.passes c.args.query.now k in
    let items : List (ℕ × ℕ) = c.as_slice-pair-items.result.now in
    let i = c.loop-pair.pair-index in
    let pair : ℕ × ℕ = c.pair-item.result in
    let at : drop i items ≡ pair ∷ drop (i + 1) items = drop_more items i pair (omega arith) ∙ ap (λ (p : ℕ × ℕ). p ∷ drop (i + 1) items) (sym c.pair-item.is) in
    found_late passes c.args.now (drop i items) c.args.self.now.moments pair (drop (i + 1) items) at c.loop-pair.invariant.0 c.loop-pair.invariant.1 (search rules)
