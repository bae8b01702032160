use Rattle.std.proofs.Common.{◌≡◌, Some, sym, ap, ◌∙◌}
use Rattle.std.specs.Prelude.{string_bytes}
use Rattle.serde_json.specs.View.{view}
use Rattle.zb_wire.specs.Variables.{variable_of}
use Rattle.zb_wire.proofs.MemberLemmas.{variables_of-step, variables_of-made}
use Rattle.zb_wire.proofs.variables.variables_of.Goals as goal

pub loop-name-preserved : goal.loop-name-preserved
loop-name-preserved c =
    let is : variable_of (string_bytes c.in-Some.name.now) (view c.in-Some.value.now) ≡ Some c.in-Some-2.variable = ap (λ name. variable_of name (view c.in-Some.value.now)) (sym c.as_str.ensures.value) ∙ (sym c.in_ok-variable.ensures ∙ c.in-Some-2.is) in
    variables_of-step _ _ _ _ _ (c.in-Some.name.now, c.in-Some.value.now) c.in-Some-2.variable c.loop-name.invariant c.in-Some.ensures.steps is c.in_ok-push-in-Some-2.ensures.ok

pub returns : goal.returns
returns c = variables_of-made _ _ _ _ c.iter-name-items.ensures.ordered c.loop-name.invariant c.in-None.ensures.steps.0 c.of.ensures.made c.of.ensures.ascending
