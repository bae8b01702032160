-- Texts that stand for expressions.
use Rattle.std.proofs.Common.{◌≡◌, ℕ, List, Option, Some, None, refl, sym}
use Rattle.zb_process.specs.Tree.{Tree}
use Rattle.zb_expr.specs.Reading.{expr_read}
use Rattle.zb_expr.specs.Lexical.{IsExpr}
use Rattle.zb_expr.proofs.ExprLemmas.{expr_read-is, expr_read-of}

none_by : (text : List ℕ) (o : Option Tree) → expr_read text ≡ o → ((tree : Tree) → IsExpr text tree → ⊥) → None ≡ expr_read text
none_by text None e none = sym e
none_by text (Some tree) e none = absurd (none tree (expr_read-is text tree e))

-- a text that is no expression isn't read as one
pub read_none : (text : List ℕ) → ((tree : Tree) → IsExpr text tree → ⊥) → None ≡ expr_read text
read_none text none = none_by text (expr_read text) refl none

-- a text that is one is
pub read_some : (text : List ℕ) (tree : Tree) → IsExpr text tree → Some tree ≡ expr_read text
read_some text tree is = sym (expr_read-of text tree is)
