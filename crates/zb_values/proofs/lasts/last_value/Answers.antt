use Rattle.std.proofs.Common.{◌≡◌, ◌∙◌, ◌<◌, ◌+◌, ◌++◌, ◌∷◌, [], List, length, take, if◌then◌else◌, Option, Some, ap, sym, arith}
use Rattle.std.specs.Ordering.{is_eq}
use Rattle.std.proofs.lemmas.List.{take_more}
use Rattle.zb_base.specs.declared.value.Value.{Value}
use Rattle.zb_base.specs.declared.vars.Variable.{Variable}
use Rattle.zb_base.specs.Vars.{order_of, value_named}
use Rattle.zb_tokens.specs.Catches.{set_over}
use Rattle.zb_values.proofs.LastLemmas.{value_of_last}
use Rattle.zb_values.proofs.lasts.last_value.Goals as goal

pub loop-variable-preserved : goal.loop-variable-preserved
loop-variable-preserved c =
    let at = c.loop-variable in
    let i = at.variable-index in
    let vs = c.args.variables.now in
    let v = c.variable-item.result in
    let name = c.args.name.now in
    let within : i < length vs = omega arith in
    let more : take (i + 1) vs ≡ take i vs ++ v ∷ [] = take_more vs i v within ∙ ap (λ (y : Variable). take i vs ++ y ∷ []) (sym c.variable-item.is) in
    c.after-found.ensures
    ∙ (ap (λ (o : Option Value). if is_eq (order_of name v.name) then Some v.value else o) at.invariant
    ∙ (sym (value_of_last name (take i vs) v)
    ∙ ap (λ (l : List Variable). value_named name (set_over l [])) (sym more)))
