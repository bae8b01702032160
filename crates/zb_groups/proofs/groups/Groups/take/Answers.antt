use Rattle.std.proofs.Common.{◌≡◌, ℕ, ◌==◌, ◌&&◌, List, Bool, Some, None, false, cond, Option, sym, ap, subst, ◌∙◌}
use Rattle.std.specs.BTreeSet.{BTreeSet}
use Rattle.std.specs.List.{find}
use Rattle.zb_table.specs.Rows.{row_at, without}
use Rattle.zb_table.proofs.Changing.{without_absent}
use Rattle.zb_table.proofs.Growing.{below_without}
use Rattle.zb_pairs.specs.Pairs.{has_pair, IsIndex}
use Rattle.zb_pairs.proofs.FoundLemmas.{first_is_found}
use Rattle.zb_pairs.proofs.PairLemmas.{same_place, index_without}
use Rattle.zb_groups.specs.declared.held.Held.{Held}
use Rattle.zb_groups.specs.Groups.{IsGrouped}
use Rattle.zb_groups.proofs.RowLemmas.{ascend_without}
use Rattle.zb_groups.proofs.groups.Groups.take.Goals as goal

-- an index without the row that has a number
fewer : {A : Type 0} (of : A → ℕ) (n : ℕ) (held : Held A) (rows : List (Held A)) (pairs left : BTreeSet (ℕ × ℕ)) → IsIndex (λ (h : Held A). h.number) (λ (h : Held A). Some (of h.row)) rows pairs → Some held ≡ row_at (λ (h : Held A). h.number) n rows
    → ((m k : ℕ) → has_pair left m k ≡ cond ((of held.row == m) && (n == k)) false (has_pair pairs m k)) → IsIndex (λ (h : Held A). h.number) (λ (h : Held A). Some (of h.row)) (without (λ (h : Held A). h.number) n rows) left
fewer of n held rows pairs left index found takes =
    index_without (λ (h : Held _). h.number) (λ (h : Held _). Some (of h.row)) rows pairs index n held left (sym (found ∙ first_is_found (λ (h : Held _). h.number == n) rows)) takes

pub invariant_of-self : goal.invariant_of-self
invariant_of-self g c =
    let group_in = g.R.Grouped.group_in in
    let place_in = g.R.Grouped.place_in in
    let rows = c.self.inside.rows in
    let n = c.args.number in
    let held = c.in-Some.held in
    subst (λ now. IsGrouped group_in place_in c.self.inside.next now c.remove.new.self c.remove-in-Some.new.self) (sym c.take.ensures.left) (record {
      ascend = ascend_without (λ (h : Held _). h.number) n 0 rows c.self.invariant.ascend;
      below = below_without (λ (h : Held _). h.number) n c.self.inside.next rows c.self.invariant.below;
      in_groups = fewer group_in n held rows c.self.inside.groups c.remove.new.self c.self.invariant.in_groups c.in-Some.ensures.row
          (λ m k. c.remove.ensures.updates.0 (m, k) ∙ (ap (λ (t : Bool). cond t false (has_pair c.self.inside.groups m k)) (same_place c.group.result n m k) ∙ ap (λ (s : ℕ). cond ((s == m) && (n == k)) false (has_pair c.self.inside.groups m k)) c.group.ensures));
      at_places = fewer place_in n held rows c.self.inside.places c.remove-in-Some.new.self c.self.invariant.at_places c.in-Some.ensures.row
          (λ m k. c.remove-in-Some.ensures.updates.0 (m, k) ∙ (ap (λ (t : Bool). cond t false (has_pair c.self.inside.places m k)) (same_place c.place.result n m k) ∙ ap (λ (s : ℕ). cond ((s == m) && (n == k)) false (has_pair c.self.inside.places m k)) c.place.ensures));
    })

pub invariant_of-self-in-None : goal.invariant_of-self-in-None
invariant_of-self-in-None g c =
    let rows = c.self.inside.rows in
    let same = c.take.ensures.left ∙ without_absent (λ (h : Held _). h.number) c.args.number rows (sym c.in-None.ensures.row) in
    subst (λ now. IsGrouped g.R.Grouped.group_in g.R.Grouped.place_in c.self.inside.next now c.self.inside.groups c.self.inside.places) (sym same) c.self.invariant
