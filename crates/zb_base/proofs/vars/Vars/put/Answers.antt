use Rattle.std.proofs.Common.{◌≡◌, IsTrue, List, sym, subst, ap, ◌∙◌}
use Rattle.std.specs.declared.cmp.Ordering.TheVariants.{Less, Equal}
use Rattle.zb_base.specs.declared.vars.Variable.{Variable}
use Rattle.zb_base.specs.Vars.{StandsAt, is_ascending, with_value}
use Rattle.zb_base.proofs.VarsLemmas.{stands_in_same, with_value_found, with_value_missing, is_ascending-with_value}
use Rattle.zb_base.proofs.vars.Vars.put.Goals.{Joined-index_mut-2, In_ok-insert-in-Err}
use Rattle.zb_base.proofs.vars.Vars.put.Goals as goal

abbrev AreAscending : List Variable → Type 0
AreAscending vs = IsTrue (is_ascending vs)

found : (c : Joined-index_mut-2) → StandsAt c.args.name c.self.inside.items.items Equal c.in-Ok.index
found c = stands_in_same _ _ _ _ _ _ c.as_str.ensures c.as_slice.ensures.value c.in-Ok.ensures.found

missing : (c : In_ok-insert-in-Err) → StandsAt c.args.name c.self.inside.items.items Less c.in-Err.index
missing c = stands_in_same _ _ _ _ _ _ c.as_str.ensures c.as_slice.ensures.value c.in-Err.ensures.missing

inserted : (c : In_ok-insert-in-Err) → c.insert.new.self.items ≡ with_value c.args.name c.args.value c.self.inside.items.items
inserted c =
    c.in_ok-insert-in-Err.ensures.items ∙ with_value_missing c.args.name c.args.value c.self.inside.items.items c.in-Err.index (missing c)

pub invariant_of-self : goal.invariant_of-self
invariant_of-self c =
    subst AreAscending (sym (with_value_found c.args.name c.args.value c.self.inside.items.items c.in-Ok.index (found c))) (is_ascending-with_value c.args.name c.args.value c.self.inside.items.items c.self.invariant)

pub invariant_of-self-in-Err : goal.invariant_of-self-in-Err
invariant_of-self-in-Err c =
    subst AreAscending (sym (inserted c)) (is_ascending-with_value c.args.name c.args.value c.self.inside.items.items c.self.invariant)

pub returns-in-Ok-clause-ok : goal.returns-in-Ok-clause-ok
returns-in-Ok-clause-ok c =
    with_value_found c.args.name c.args.value c.self.inside.items.items c.in-Ok.index (found c) ∙ ap (λ vs. with_value c.args.name c.args.value vs) c.self.view_is

pub returns-in_ok-insert-in-Err-clause-ok : goal.returns-in_ok-insert-in-Err-clause-ok
returns-in_ok-insert-in-Err-clause-ok c =
    inserted c ∙ ap (λ vs. with_value c.args.name c.args.value vs) c.self.view_is
