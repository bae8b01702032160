use Rattle.std.proofs.Common.{List, sym, ap, ◌∙◌}
use Rattle.zb_process.specs.Tree.{Tree, Members, trees_of}
use Rattle.zb_process.specs.ExprView.{tree_of}
use Rattle.zb_same.proofs.MemberLemmas.{members_same}
use Rattle.zb_same.proofs.expressions.+expressions.Goals as goal

pub is_same_node-returns-in-List-List : goal.is_same_node-returns-in-List-List
is_same_node-returns-in-List-List t c =
    let one = ap tree_of c.in-List-List.is-0 in
    let two = ap tree_of c.in-List-List.is-1 in
    let these = c.as_slice.ensures.value in
    let those = c.as_slice-in-List-List.ensures.value in
    let same = c.are_same_exprs.ensures in (
      λ yes. one ∙ (ap (λ (l : List Tree). Members (trees_of l)) (sym these ∙ (same.0 yes ∙ those)) ∙ sym two),
      λ e. same.1 (these ∙ (members_same _ _ (sym one ∙ (e ∙ two)) ∙ sym those)),
    )
