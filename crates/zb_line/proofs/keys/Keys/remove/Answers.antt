use Rattle.std.proofs.Common.{ℕ, List, ap, subst, sym, ◌∙◌}
use Rattle.std.specs.Ordering.{nat_cmp}
use Rattle.std.specs.List.Sorted.{IsStrictlySortedBy}
use Rattle.zb_line.specs.Keys.{keys_kept}
use Rattle.zb_line.proofs.KeptLemmas.{in_place_sorted}
use Rattle.zb_line.proofs.keys.Keys.remove.Goals as goal
use Rattle.zb_line.proofs.keys.Keys.remove.Goals.{in-InPlace+then-eq, in-InPlace+else-eq, in-Apart}

pub returns-clause-order : goal.returns-clause-order
returns-clause-order c =
    elim c.match-self.branch [
      | in-InPlace+then-eq w ↦ in_place_sorted c.self.inside.kept w.in-InPlace.place c.args.self.now w.in-InPlace.is c.self.view_is
      | in-InPlace+else-eq w ↦ in_place_sorted c.self.inside.kept w.in-InPlace.place c.args.self.now w.in-InPlace.is c.self.view_is
      | in-Apart w ↦ subst (λ (ks : List ℕ). IsStrictlySortedBy nat_cmp ks) (sym (ap keys_kept w.in-Apart.is) ∙ c.self.view_is) w.remove.ensures.order
    ]
