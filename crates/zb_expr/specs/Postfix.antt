-- The trees that postfix code writes.
use Rattle.std.specs.Prelude.{◌≡◌, ◌-◌, Bool, true, false, Option, None, Some, List, [], ◌∷◌, ◌++◌, length, take, drop}
use Rattle.zb_base.specs.declared.value.Value.{Value}
use Rattle.zb_base.specs.declared.value.Value.TheVariants as values
use Rattle.zb_format.specs.Reading.{◌>>=◌}
use Rattle.zb_process.specs.Tree as trees
use Rattle.zb_process.specs.Tree.{Tree, trees_of}
use Rattle.zb_expr.specs.declared.instruction.Instruction.{Instruction}
use Rattle.zb_expr.specs.declared.instruction.Instruction.TheVariants as instructions
use Rattle.zb_expr.specs.Instructions.{arity}

-- the tree of a constant, which is no list (own)
abbrev pub constant_tree : Value → Option Tree
constant_tree (values.Int z) = Some (trees.Int z)
constant_tree (values.Bool b) = Some (trees.Truth b)
constant_tree (values.Text t) = Some (trees.Text t)
constant_tree (values.List zs) = None

-- the tree of an instruction over those of its operands (own)
abbrev pub tree_over : Instruction → List Tree → Option Tree
tree_over (instructions.Constant v) [] = constant_tree v
tree_over (instructions.Name t) [] = Some (trees.Name t)
tree_over (instructions.List n) ts = Some (trees.Members (trees_of ts))
tree_over instructions.Not (t ∷ []) = Some (trees.Not t)
tree_over instructions.Minus (t ∷ []) = Some (trees.Minus t)
tree_over (instructions.Binary o) (t ∷ u ∷ []) = Some (trees.Binary o t u)
tree_over i ts = None

-- these trees, of which an instruction takes the last as its operands, and its own behind the others (own)
unfoldable pub with_instruction : List Tree → Instruction → Option (List Tree)
with_instruction ts i = tree_over i (drop (length ts - arity i) ts) >>= (λ t. Some (take (length ts - arity i) ts ++ t ∷ []))

-- the trees that code leaves behind these (own)
abbrev pub trees_behind : List Tree → List Instruction → Option (List Tree)
trees_behind ts [] = Some ts
trees_behind ts (i ∷ is) = with_instruction ts i >>= (λ us. trees_behind us is)

-- whether there is one tree
abbrev pub is_one : Option (List Tree) → Bool
is_one (Some (t ∷ [])) = true
is_one other = false

-- the one tree; where there isn't one, an empty list
abbrev pub one_tree : Option (List Tree) → Tree
one_tree (Some (t ∷ [])) = t
one_tree other = trees.Members trees.none

-- whether code writes one tree (own)
abbrev pub writes_one : List Instruction → Bool
writes_one is = is_one (trees_behind [] is)

-- the tree that code writes (own)
abbrev pub tree_written : List Instruction → Tree
tree_written is = one_tree (trees_behind [] is)

-- what code writes, longer code writes too, and these trees behind it
unfoldable pub WritesMore : List Instruction → List Tree → List Instruction → Type 0
WritesMore code more longer = (ts : List Tree) → trees_behind [] code ≡ Some ts → trees_behind [] longer ≡ Some (ts ++ more)
