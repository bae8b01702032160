use Rattle.std.proofs.Common.{◌≡◌, ℕ, ◌+◌, ◌==◌, ◌&&◌, List, [], ◌∷◌, ◌++◌, Bool, Some, true, cond, subst, sym, ap, ◌∙◌, arith, rules}
use Rattle.std.specs.BTreeSet.{BTreeSet}
use Rattle.zb_table.specs.Rows.{Ascend, are_below}
use Rattle.zb_table.proofs.Ascending.{ascend_more}
use Rattle.zb_table.proofs.Growing.{with_last, below_higher, below_more}
use Rattle.zb_pairs.specs.Pairs.{has_pair, IsIndex}
use Rattle.zb_pairs.proofs.FoundLemmas.{none_below}
use Rattle.zb_pairs.proofs.PairLemmas.{same_place, index_with}
use Rattle.zb_groups.specs.declared.held.Held.{Held}
use Rattle.zb_groups.specs.Groups.{IsGrouped}
use Rattle.zb_groups.proofs.groups.Groups.with.Goals as goal

-- an index with a row behind the others
more : {A : Type 0} (of : A → ℕ) (new : Held A) (rows : List (Held A)) (pairs puts : BTreeSet (ℕ × ℕ)) → IsIndex (λ (h : Held A). h.number) (λ (h : Held A). Some (of h.row)) rows pairs → are_below (λ (h : Held A). h.number) new.number rows ≡ true
    → ((m k : ℕ) → has_pair puts m k ≡ cond ((of new.row == m) && (new.number == k)) true (has_pair pairs m k)) → IsIndex (λ (h : Held A). h.number) (λ (h : Held A). Some (of h.row)) (rows ++ new ∷ []) puts
more of new rows pairs puts index below is =
    subst (λ now. IsIndex (λ (h : Held _). h.number) (λ (h : Held _). Some (of h.row)) now puts) (with_last (λ (h : Held _). h.number) new rows below)
    (index_with (λ (h : Held _). h.number) (λ (h : Held _). Some (of h.row)) rows pairs index new puts (none_below (λ (h : Held _). h.number) new.number rows below) is)

pub invariant_of-more : goal.invariant_of-more
invariant_of-more g c =
    let group_in = g.R.Grouped.group_in in
    let place_in = g.R.Grouped.place_in in
    let rows = c.self.inside.rows in
    let n = c.new-number.result in
    let new : Held _ = record { number = n; row = c.args.row } in
    let below : are_below (λ (h : Held _). h.number) n rows ≡ true = rw c.new-number.ensures c.self.invariant.below in
    let added : c.add.new.self ≡ rows ++ new ∷ [] = c.in_ok-add.ensures.ok ∙ with_last (λ (h : Held _). h.number) new rows below in
    let next : c.in_ok-next.next ≡ c.self.inside.next + 1 = search rules in
    subst (λ now. IsGrouped group_in place_in c.in_ok-next.next now c.insert.new.self c.insert-2.new.self) (sym added) (record {
      ascend = ascend_more (λ (h : Held _). h.number) 0 rows new (omega arith) c.self.invariant.ascend below;
      below = below_more (λ (h : Held _). h.number) c.in_ok-next.next rows new (omega (arith, next, c.new-number.ensures)) (below_higher (λ (h : Held _). h.number) c.self.inside.next c.in_ok-next.next rows (omega (arith, next)) c.self.invariant.below);
      in_groups = more group_in new rows c.self.inside.groups c.insert.new.self c.self.invariant.in_groups below
          (λ m k. c.in_ok-insert.ensures.updates.0 (m, k) ∙ (ap (λ (t : Bool). cond t true (has_pair c.self.inside.groups m k)) (same_place c.group.result n m k) ∙ ap (λ (s : ℕ). cond ((s == m) && (n == k)) true (has_pair c.self.inside.groups m k)) c.group.ensures));
      at_places = more place_in new rows c.self.inside.places c.insert-2.new.self c.self.invariant.at_places below
          (λ m k. c.in_ok-insert-2.ensures.updates.0 (m, k) ∙ (ap (λ (t : Bool). cond t true (has_pair c.self.inside.places m k)) (same_place c.place.result n m k) ∙ ap (λ (s : ℕ). cond ((s == m) && (n == k)) true (has_pair c.self.inside.places m k)) c.place.ensures));
    })

pub returns-clause-row : goal.returns-clause-row
returns-clause-row g c =
    let rows = c.self.inside.rows in
    let new : Held _ = record { number = c.new-number.result; row = c.args.row } in
    c.in_ok-add.ensures.ok ∙ (with_last (λ (h : Held _). h.number) new rows (rw c.new-number.ensures c.self.invariant.below) ∙ ap (λ l. l ++ new ∷ []) c.self.view_is)

pub returns-clause-order : goal.returns-clause-order
returns-clause-order g c =
    let rows = c.self.inside.rows in
    let new : Held _ = record { number = c.new-number.result; row = c.args.row } in
    let below : are_below (λ (h : Held _). h.number) c.new-number.result rows ≡ true = rw c.new-number.ensures c.self.invariant.below in
    subst (λ now. Ascend (λ (h : Held _). h.number) 0 now) (sym (c.in_ok-add.ensures.ok ∙ with_last (λ (h : Held _). h.number) new rows below)) (ascend_more (λ (h : Held _). h.number) 0 rows new (omega arith) c.self.invariant.ascend below)
