use Rattle.std.proofs.Common.{◌≡◌, ◌∷◌, [], Some, List, subst, refl}
use Rattle.zb_expr.specs.declared.instruction.Instruction.{Instruction}
use Rattle.zb_expr.specs.Postfix.{trees_behind, WritesMore}
use Rattle.zb_expr.proofs.CodeLemmas.{writes-alone}
use Rattle.zb_expr.proofs.compiling.compile.Goals as goal

pub new-requires : goal.new-requires
new-requires c =
    let code = c.put_expr.new.code in
    let expr = c.args.expr.now in
    let written : trees_behind [] code ≡ Some (expr ∷ []) = writes-alone code expr (subst (λ (is : List Instruction). WritesMore is (expr ∷ []) code) c.empty-code.ensures c.in_ok-put_expr.ensures) in
    rw written refl

pub returns : goal.returns
returns c =
    let code = c.put_expr.new.code in
    let expr = c.args.expr.now in
    let written : trees_behind [] code ≡ Some (expr ∷ []) = writes-alone code expr (subst (λ (is : List Instruction). WritesMore is (expr ∷ []) code) c.empty-code.ensures c.in_ok-put_expr.ensures) in
    rw (c.new.ensures, written) refl
