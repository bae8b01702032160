use Rattle.std.proofs.Common.{ℕ, List, [], Option, Some, None, subst, refl, sym, ap, ◌∙◌, rules}
use Rattle.std.specs.Option.{option_map_or}
use Rattle.std.specs.BTreeMap.{is_at}
use Rattle.std.specs.Ordering.{nat_cmp}
use Rattle.std.specs.List.Sorted.{IsStrictlySortedBy}
use Rattle.std.specs.Set.{remove_key}
use Rattle.zb_line.proofs.OrderLemmas.{none_sorted}
use Rattle.std.proofs.lemmas.Map.Text.{hash_map_updates_text}
use Rattle.zb_line.proofs.LevelLemmas.{level_changed, taken_again}
use Rattle.zb_line.proofs.texts.Texts.leave.Goals as goal

pub returns-then-is_empty-clause-left : goal.returns-then-is_empty-clause-left
returns-then-is_empty-clause-left c =
    let change = λ (keys : List ℕ). remove_key (is_at (nat_cmp c.args.key)) keys in
    let text = c.args.name.now in
    let old = c.args.self.now.texts in
    let line = c.remove.new.self in
    let lent = c.get_mut.follows.lender line in
    let new = c.remove-then-is_empty.new.self in
    let writes = hash_map_updates_text text old lent (Some line) ((c.get_mut.follows.holds line).3 (search rules)) in
    let takes = hash_map_updates_text text lent new None c.remove-then-is_empty.ensures.updates in
    let left = c.remove.ensures.left ∙ ap (λ (found : Option (List ℕ)). change (option_map_or (λ line. line) found [])) c.in-Some.ensures.value in
    level_changed (λ line. line) text old change new None (taken_again (λ line. line) text old lent new line writes takes) (sym (c.if-is_empty.ensures.0 refl) ∙ left)

pub returns-else-is_empty-clause-left : goal.returns-else-is_empty-clause-left
returns-else-is_empty-clause-left c =
    let change = λ (keys : List ℕ). remove_key (is_at (nat_cmp c.args.key)) keys in
    let text = c.args.name.now in
    let old = c.args.self.now.texts in
    let line = c.remove.new.self in
    let lent = c.get_mut.follows.lender line in
    let writes = hash_map_updates_text text old lent (Some line) ((c.get_mut.follows.holds line).3 (search rules)) in
    let left = c.remove.ensures.left ∙ ap (λ (found : Option (List ℕ)). change (option_map_or (λ line. line) found [])) c.in-Some.ensures.value in
    level_changed (λ line. line) text old change lent (Some line) writes left

pub returns-in_default-clause-order : goal.returns-in_default-clause-order
returns-in_default-clause-order c = subst (λ (found : Option (List ℕ)). IsStrictlySortedBy nat_cmp (option_map_or (λ line. line) found [])) c.in_default.ensures.value (none_sorted nat_cmp)
