use Rattle.std.proofs.Common.{ℕ, List, [], Option, Some, None, if◌then◌else◌, subst, refl, sym, ap, ◌∙◌, bytes_eq, rules}
use Rattle.std.specs.Option.{option_map_or}
use Rattle.std.specs.BTreeMap.{is_at}
use Rattle.std.specs.Ordering.{nat_cmp}
use Rattle.std.specs.List.Sorted.{IsStrictlySortedBy}
use Rattle.std.specs.Set.{remove_key}
use Rattle.zb_line.proofs.OrderLemmas.{none_sorted}
use Rattle.std.proofs.lemmas.Map.Text.{hash_map_updates_text}
use Rattle.zb_line.specs.declared.firsts.Firsts.{Firsts}
use Rattle.zb_line.specs.Labels.{keys_by_first}
use Rattle.zb_line.proofs.LevelLemmas.{level_changed, taken_again, under_both}
use Rattle.zb_line.proofs.labels.Labels.leave.Goals as goal

pub returns-then-is_empty-clause-left : goal.returns-then-is_empty-clause-left
returns-then-is_empty-clause-left c = λ a b.
    let change = λ (keys : List ℕ). if bytes_eq c.args.first.now a then remove_key (is_at (nat_cmp c.args.key)) keys else keys in
    let text = c.args.second.now in
    let old = c.args.self.now.seconds in
    let firsts = c.leave.new.self in
    let lent = c.get_mut.follows.lender firsts in
    let new = c.remove.new.self in
    let writes = hash_map_updates_text text old lent (Some firsts) ((c.get_mut.follows.holds firsts).3 (search rules)) in
    let takes = hash_map_updates_text text lent new None c.remove.ensures.updates in
    let left = c.leave.ensures.left a ∙ ap (λ (found : Option Firsts). change (option_map_or (λ s. keys_by_first s a) found [])) c.in-Some.ensures.value in
    level_changed (λ s. keys_by_first s a) text old change new None (taken_again (λ s. keys_by_first s a) text old lent new firsts writes takes) (sym (c.if-is_empty.ensures refl a) ∙ left) b
    ∙ under_both (bytes_eq c.args.first.now a) (bytes_eq text b) _ _

pub returns-else-is_empty-clause-left : goal.returns-else-is_empty-clause-left
returns-else-is_empty-clause-left c = λ a b.
    let change = λ (keys : List ℕ). if bytes_eq c.args.first.now a then remove_key (is_at (nat_cmp c.args.key)) keys else keys in
    let text = c.args.second.now in
    let old = c.args.self.now.seconds in
    let firsts = c.leave.new.self in
    let lent = c.get_mut.follows.lender firsts in
    let writes = hash_map_updates_text text old lent (Some firsts) ((c.get_mut.follows.holds firsts).3 (search rules)) in
    let left = c.leave.ensures.left a ∙ ap (λ (found : Option Firsts). change (option_map_or (λ s. keys_by_first s a) found [])) c.in-Some.ensures.value in
    level_changed (λ s. keys_by_first s a) text old change lent (Some firsts) writes left b
    ∙ under_both (bytes_eq c.args.first.now a) (bytes_eq text b) _ _

pub returns-in_default-clause-order : goal.returns-in_default-clause-order
returns-in_default-clause-order c = subst (λ (found : Option Firsts). IsStrictlySortedBy nat_cmp (option_map_or (λ s. keys_by_first s c.args.first.now) found [])) c.in_default.ensures.value (none_sorted nat_cmp)
