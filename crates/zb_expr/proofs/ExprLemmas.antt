-- What is read off a text is what the grammar has, both ways.
use Rattle.std.proofs.Common.{◌≡◌, ℕ, ◌≤◌, Bool, true, false, nat_lt, if◌then◌else◌, Option, Some, None, Result, Ok, Err, List, length, refl, arith, IfOk}
use Rattle.std.specs.Prelude.{IsErrOf}
use Rattle.std.proofs.lemmas.Bool.Decides.{nat_tests}
use Rattle.zb_format.specs.Reading.{◌>>=◌}
use Rattle.zb_process.specs.Tree.{Tree}
use Rattle.zb_expr.specs.declared.fault.ExprFault.{ExprFault}
use Rattle.zb_expr.specs.declared.fault.ExprFault.TheVariants as faults
use Rattle.zb_expr.specs.declared.token.Token.{Token}
use Rattle.zb_expr.specs.Reading.{ComesAs, expr_read, tree_read}
use Rattle.zb_expr.specs.Lexical.{IsExpr}
use Rattle.zb_expr.specs.Spelling.{tokens_of}
use Rattle.zb_expr.proofs.LexicalLemmas.{split-spelled, spelled-split}
use Rattle.zb_expr.proofs.SoundLemmas.{tree_read-is, tree_read-of}

split_by : (text : List ℕ) (tree : Tree) → length text ≤ 4096 → (found : Option (List Token)) → tokens_of text ≡ found → (found >>= tree_read) ≡ Some tree → IsExpr text tree
split_by text tree short None e h = absurd cc
split_by text tree short (Some ts) e h = record { short = short; parts = ts; spelled = spelled-split text ts e; are = tree_read-is ts tree h }

read_by : (text : List ℕ) (tree : Tree) (long : Bool) → nat_lt 4096 (length text) ≡ long → (if long then None else tokens_of text >>= tree_read) ≡ Some tree → IsExpr text tree
read_by text tree true e h = absurd cc
read_by text tree false e h =
    let short : length text ≤ 4096 = grind (arith, nat_tests) in
    split_by text tree short (tokens_of text) refl h

-- a tree that is read is that of the text
pub expr_read-is : (text : List ℕ) (tree : Tree) → expr_read text ≡ Some tree → IsExpr text tree
expr_read-is text tree h = read_by text tree (nat_lt 4096 (length text)) refl h

-- the tree of the text is read
pub expr_read-of : (text : List ℕ) (tree : Tree) → IsExpr text tree → expr_read text ≡ Some tree
expr_read-of text tree h =
    let short : length text ≤ 4096 = h.short in
    let few : nat_lt 4096 (length text) ≡ false = grind (arith, nat_tests) in
    rw (few, split-spelled text h.parts h.spelled) (tree_read-of h.parts tree h.are)

-- so a result that is what is read says what the grammar has
pub ok_of : (text : List ℕ) (r : Result Tree ExprFault) → ComesAs (λ tree. tree) (expr_read text) r → IfOk r (λ tree. IsExpr text tree)
ok_of text (Ok tree) h = expr_read-is text tree h
ok_of text (Err e) h = tt

pub only_read : (text : List ℕ) (tree other : Tree) → expr_read text ≡ Some tree → expr_read text ≡ Some other → other ≡ tree
only_read text tree other h k = cc

pub only_of : (text : List ℕ) (r : Result Tree ExprFault) → ComesAs (λ tree. tree) (expr_read text) r → IfOk r (λ tree. (other : Tree) → IsExpr text other → other ≡ tree)
only_of text (Ok tree) h = λ other is. only_read text tree other h (expr_read-of text other is)
only_of text (Err e) h = tt

none_read : (text : List ℕ) (tree : Tree) → expr_read text ≡ None → expr_read text ≡ Some tree → ⊥
none_read text tree h k = cc

pub none_of : (text : List ℕ) (r : Result Tree ExprFault) → ComesAs (λ tree. tree) (expr_read text) r → IsErrOf r faults.NotExpr → (tree : Tree) → IsExpr text tree → ⊥
none_of text (Ok found) h e tree is = cc
none_of text (Err faults.NotExpr) h e tree is = none_read text tree h (expr_read-of text tree is)
none_of text (Err faults.Memory) h e tree is = cc
