use Rattle.std.proofs.Common.{◌≡◌, ◌++◌, ◌∷◌, [], Bool, true, false, Some, slice_get, rules}
use Rattle.zb_process.specs.declared.model.Node.{Node}
use Rattle.zb_tokens.specs.Catches.{leads_from}
use Rattle.zb_values.proofs.AwaitedLemmas.{number_added, number_passed}
use Rattle.zb_values.proofs.awaited.add_behind.Goals as goal
use Rattle.zb_values.proofs.awaited.add_behind.Goals.{then-leads_from+in_ok-push, else-leads_from}

pub loop-number-preserved : goal.loop-number-preserved
loop-number-preserved c =
    let p : Node → Bool = λ n. leads_from c.args.model.now c.args.origin.now n.id in
    let nodes = c.args.model.now.nodes in
    let i = c.loop-number.number in
    let node = c.node.result.now in
    let there : slice_get nodes i ≡ Some node = search rules in
    elim c.if-leads_from.branch [
      | then-leads_from+in_ok-push w ↦
          let leads : p node ≡ true = search rules in
          let pushed : c.if-leads_from.numbers ≡ c.loop-number.numbers ++ i ∷ [] = search rules in
          rw pushed (number_added p nodes i node there c.loop-number.numbers _ c.loop-number.invariant leads)
      | else-leads_from w ↦
          let out : p node ≡ false = search rules in
          let same : c.if-leads_from.numbers ≡ c.loop-number.numbers = search rules in
          rw same (number_passed p nodes i node there c.loop-number.numbers _ c.loop-number.invariant out)
    ]
