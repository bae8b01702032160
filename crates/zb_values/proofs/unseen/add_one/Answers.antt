use Rattle.std.proofs.Common.{◌≡◌, ◌∙◌, List, IsTrue, Some, None, ap, sym, subst, rules}
use Rattle.std.proofs.lemmas.Result.{on_ok_weaker}
use Rattle.zb_base.specs.declared.vars.Variable.{Variable}
use Rattle.zb_base.specs.Vars.{is_ascending, value_named, with_value}
use Rattle.zb_base.proofs.VarsLemmas.{is_ascending-with_value}
use Rattle.zb_values.proofs.UnseenLemmas.{name_kept, name_added}
use Rattle.zb_values.proofs.unseen.add_one.Goals as goal

pub returns-in-Some-clause-values : goal.returns-in-Some-clause-values
returns-in-Some-clause-values c = λ q.
    let v = c.args.variable.now in
    let there : value_named v.name c.args.seen.now ≡ Some c.in-Some.field-0.now = search rules in
    name_kept q v.name v.value c.in-Some.field-0.now c.args.seen.now there

pub returns-in_ok-copy-in-None-2-clause-values : goal.returns-in_ok-copy-in-None-2-clause-values
returns-in_ok-copy-in-None-2-clause-values c = λ q.
    let v = c.args.variable.now in
    let none : value_named v.name c.args.seen.now ≡ None = search rules in
    let name = c.in_ok-copy-in-None.field-0 in
    let value = c.in_ok-copy-in-None-2.field-0 in
    let seen = c.args.seen.now in
    on_ok_weaker c.put-in-None.result
    (λ put. ap (value_named q) (put ∙ (ap (λ n. with_value n value seen) c.in_ok-copy-in-None.ensures ∙ ap (λ x. with_value v.name x seen) c.in_ok-copy-in-None-2.ensures))
    ∙ name_added q v.name v.value seen none)
    c.put-in-None.ensures.ok

pub returns-in_ok-copy-in-None-2-clause-ascending : goal.returns-in_ok-copy-in-None-2-clause-ascending
returns-in_ok-copy-in-None-2-clause-ascending c = λ up.
    on_ok_weaker c.put-in-None.result
    (λ put. subst (λ (vs : List Variable). IsTrue (is_ascending vs)) (sym put) (is_ascending-with_value _ _ c.args.seen.now up))
    c.put-in-None.ensures.ok
