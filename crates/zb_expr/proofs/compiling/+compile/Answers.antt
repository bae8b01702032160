use Rattle.std.proofs.Common.{◌≡◌, ◌∷◌, ◌++◌, [], refl, rules, arith}
use Rattle.std.specs.Prelude.{OnOk}
use Rattle.std.proofs.lemmas.Grind.{common_steps}
use Rattle.std.proofs.lemmas.Result.{on_ok_weaker}
use Rattle.zb_base.specs.declared.value.Value.TheVariants as values
use Rattle.zb_process.specs.ExprView.{tree_of}
use Rattle.zb_expr.specs.declared.instruction.Instruction.TheVariants as instructions
use Rattle.zb_expr.proofs.CodeLemmas.{writes-nothing, writes-both, writes-more, writes-over}
use Rattle.zb_expr.proofs.compiling.+compile.Goals as goal

pub put_node-returns-in-Int : goal.put_node-returns-in-Int
put_node-returns-in-Int t c =
    let pushed : OnOk c.push.result (c.push.new.self ≡ c.args.code.now ++ instructions.Constant (values.Int c.in-Int.number) ∷ []) = first_of (search (rules, c.push.ensures.ok), grind (arith, common_steps, c.push.ensures.ok)) in
    on_ok_weaker c.push.result (writes-over _ _ _ (instructions.Constant (values.Int c.in-Int.number)) [] (tree_of c.args.node.now) (writes-nothing _) refl (rw c.in-Int.is refl)) pushed

pub put_node-returns-in-Bool : goal.put_node-returns-in-Bool
put_node-returns-in-Bool t c =
    on_ok_weaker c.push-in-Bool.result (writes-over _ _ _ (instructions.Constant (values.Bool c.in-Bool.flag)) [] (tree_of c.args.node.now) (writes-nothing _) refl (rw c.in-Bool.is refl)) c.push-in-Bool.ensures.ok

pub put_node-returns-in_ok-copy-in-Text : goal.put_node-returns-in_ok-copy-in-Text
put_node-returns-in_ok-copy-in-Text t c =
    on_ok_weaker c.push-in-Text.result (writes-over _ _ _ (instructions.Constant (values.Text c.in_ok-copy-in-Text.field-0)) [] (tree_of c.args.node.now) (writes-nothing _) refl (rw (c.in-Text.is, c.in_ok-copy-in-Text.ensures) refl)) c.push-in-Text.ensures.ok

pub put_node-returns-in_ok-name-in-Name : goal.put_node-returns-in_ok-name-in-Name
put_node-returns-in_ok-name-in-Name t c =
    on_ok_weaker c.push-in-Name.result (writes-over _ _ _ (instructions.Name c.in_ok-name-in-Name.name) [] (tree_of c.args.node.now) (writes-nothing _) refl (rw (c.in-Name.is, c.in_ok-name-in-Name.ensures) refl)) c.push-in-Name.ensures.ok

pub put_node-returns-in_ok-put_expr-in-Not : goal.put_node-returns-in_ok-put_expr-in-Not
put_node-returns-in_ok-put_expr-in-Not t c =
    on_ok_weaker c.push-in-Not.result (writes-over _ _ _ instructions.Not (c.deref.result.now ∷ []) (tree_of c.args.node.now) c.in_ok-put_expr-in-Not.ensures refl (rw (c.in-Not.is, c.deref.ensures) refl)) c.push-in-Not.ensures.ok

pub put_node-returns-in_ok-put_expr-in-Minus : goal.put_node-returns-in_ok-put_expr-in-Minus
put_node-returns-in_ok-put_expr-in-Minus t c =
    on_ok_weaker c.push-in-Minus.result (writes-over _ _ _ instructions.Minus (c.deref-in-Minus.result.now ∷ []) (tree_of c.args.node.now) c.in_ok-put_expr-in-Minus.ensures refl (rw (c.in-Minus.is, c.deref-in-Minus.ensures) refl)) c.push-in-Minus.ensures.ok

pub put_node-returns-in_ok-put_expr-in-Binary-2 : goal.put_node-returns-in_ok-put_expr-in-Binary-2
put_node-returns-in_ok-put_expr-in-Binary-2 t c =
    let left = c.deref-in-Binary.result.now in
    let right = c.deref-in-Binary-2.result.now in
    let both = writes-both _ _ _ (left ∷ []) (right ∷ []) c.in_ok-put_expr-in-Binary.ensures c.in_ok-put_expr-in-Binary-2.ensures in
    on_ok_weaker c.push-in-Binary.result (writes-over _ _ _ (instructions.Binary c.in-Binary.operator) (left ∷ right ∷ []) (tree_of c.args.node.now) both refl (rw (c.in-Binary.is, c.deref-in-Binary.ensures, c.deref-in-Binary-2.ensures) refl)) c.push-in-Binary.ensures.ok

pub put_list-returns : goal.put_list-returns
put_list-returns t c =
    on_ok_weaker c.push.result (writes-over _ _ _ (instructions.List _) c.args.members.now _ c.in_ok-put_members.ensures refl refl) c.push.ensures.ok

pub put_members-loop-member-init : goal.put_members-loop-member-init
put_members-loop-member-init t c = writes-nothing _

pub put_members-loop-member-preserved : goal.put_members-loop-member-preserved
put_members-loop-member-preserved t c =
    writes-more _ _ _ c.args.members.now c.loop-member.member-index c.member-item.result c.loop-member-test.true c.member-item.is c.loop-member.invariant c.in_ok-put_expr.ensures
