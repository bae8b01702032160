use Rattle.std.proofs.Common.{◌≡◌, ◌∙◌, ◌<◌, ◌+◌, ◌++◌, ◌∷◌, [], List, length, take, ap, sym, arith}
use Rattle.std.specs.Option.{option_or}
use Rattle.std.proofs.lemmas.List.{take_more}
use Rattle.zb_base.specs.declared.vars.Variable.{Variable}
use Rattle.zb_base.specs.Vars.{value_named}
use Rattle.zb_tokens.proofs.VisibleLaws.{value_of_both}
use Rattle.zb_values.proofs.UnseenLemmas.{or_assoc}
use Rattle.zb_values.proofs.unseen.add_unseen.Goals as goal

pub loop-variable-preserved : goal.loop-variable-preserved
loop-variable-preserved c = (
  λ name.
      let at = c.loop-variable in
      let i = at.variable-index in
      let vs = c.args.variables.now in
      let v = c.variable-item.result in
      let within : i < length vs = omega arith in
      let more : take (i + 1) vs ≡ take i vs ++ v ∷ [] = take_more vs i v within ∙ ap (λ (y : Variable). take i vs ++ y ∷ []) (sym c.variable-item.is) in
      let first = value_named name c.args.seen.now in
      c.in_ok-add_one.ensures.values name
      ∙ (ap (λ o. option_or o (value_named name (v ∷ []))) (at.invariant.0 name)
      ∙ (or_assoc first (value_named name (take i vs)) (value_named name (v ∷ []))
      ∙ (ap (λ o. option_or first o) (sym (value_of_both name (take i vs) (v ∷ [])))
      ∙ ap (λ (l : List Variable). option_or first (value_named name l)) (sym more)))),
  λ up. c.in_ok-add_one.ensures.ascending (c.loop-variable.invariant.1 up),
)
