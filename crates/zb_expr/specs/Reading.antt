-- How expressions are read off tokens, from left to right. That the grammar has what is read and nothing else is what `parse` of this crate promises.
use Rattle.std.specs.Prelude.{◌≡◌, ℕ, zero, suc, ◌+◌, ◌<◌, ◌≤◌, max, nat_lt, Bool, true, false, not, ◌&&◌, Option, None, Some, Result, Ok, Err, List, [], ◌∷◌, ◌++◌, length, drop, if◌then◌else◌}
use Rattle.zb_format.specs.Reading.{◌>>=◌}
use Rattle.zb_process.specs.declared.operator.Operator.{Operator}
use Rattle.zb_process.specs.declared.operator.Operator.TheVariants as operators
use Rattle.zb_process.specs.Tree.{Tree, Not, Minus, Members, Binary, trees_of, nesting}
use Rattle.zb_expr.specs.declared.fault.ExprFault.{ExprFault}
use Rattle.zb_expr.specs.declared.fault.ExprFault.TheVariants as faults
use Rattle.zb_expr.specs.declared.part.Part.{Part}
use Rattle.zb_expr.specs.declared.part.Listed.{Listed}
use Rattle.zb_expr.specs.declared.token.Leaf.{Leaf}
use Rattle.zb_expr.specs.declared.token.Token.{Token}
use Rattle.zb_expr.specs.declared.token.Token.TheVariants as tokens
use Rattle.zb_expr.specs.Spelling.{tokens_of}
use Rattle.zb_expr.specs.Grammar.{level_of, left_level, leaf_tree}

-- what is read at the front of tokens, and the tokens behind it
abbrev pub TokenReader : Type 0 → Type 0
TokenReader A = List Token → Option (A × List Token)

-- what a function answered, seen by view, is what reading gives, and it leaves this, unless memory ran out
abbrev pub ParsesAs : {A B R : Type 0} → (A → B) → Option (B × R) → Result A ExprFault → R → Type 0
ParsesAs view read (Ok x) rest = read ≡ Some (view x, rest)
ParsesAs view read (Err faults.NotExpr) rest = read ≡ None
ParsesAs view read (Err faults.Memory) rest = Unit {0}

-- the same of an answer as it is
abbrev pub Parses : {A R : Type 0} → Option (A × R) → Result A ExprFault → R → Type 0
Parses read answer rest = ParsesAs (λ x. x) read answer rest

-- what a function answered, seen by view, is what there is, unless memory ran out
abbrev pub ComesAs : {A B : Type 0} → (A → B) → Option B → Result A ExprFault → Type 0
ComesAs view found (Ok x) = found ≡ Some (view x)
ComesAs view found (Err faults.NotExpr) = found ≡ None
ComesAs view found (Err faults.Memory) = Unit {0}

-- a part whose expression is no deeper than it says, and that has less than so many around a leaf
pub record IsWithin (levels : ℕ) (part : Part) : Type 0 where
  pub deep : nesting part.expr ≤ part.around
  pub few : part.around < levels

-- the same of members
pub record AreWithin (levels : ℕ) (listed : Listed) : Type 0 where
  pub deep : nesting (Members (trees_of listed.members)) ≤ listed.around
  pub few : listed.around < levels

-- the first token
abbrev pub first_token : List Token → Option Token
first_token [] = None
first_token (t ∷ ts) = Some t

-- a token that is an operator
abbrev pub operator_in : Option Token → Option Operator
operator_in (Some (tokens.Operator o)) = Some o
operator_in other = None

-- whether a token ends a list
abbrev pub ends_list : Option Token → Bool
ends_list (Some tokens.CloseList) = true
ends_list other = false

-- the part of a leaf
abbrev pub part_alone : Leaf → Part
part_alone l = record { expr = leaf_tree l; around = 0; level = 7 }

-- the part of one in parentheses
abbrev pub part_grouped : Part → Part
part_grouped p = record { expr = p.expr; around = p.around + 1; level = 7 }

-- the part of a not
abbrev pub part_negated : Part → Part
part_negated p = record { expr = Not p.expr; around = p.around + 1; level = 7 }

-- the part of a sign
abbrev pub part_minus : Part → Part
part_minus p = record { expr = Minus p.expr; around = p.around + 1; level = 6 }

-- the part of a list
abbrev pub part_listed : Listed → Part
part_listed l = record { expr = Members (trees_of l.members); around = l.around; level = 7 }

-- the part of an operator between two
abbrev pub part_joined : Operator → Part → Part → Part
part_joined o a b = record { expr = Binary o a.expr b.expr; around = max a.around b.around + 1; level = level_of o }

-- no members
abbrev pub no_members : Listed
no_members = record { members = []; around = 0 }

-- one member more
abbrev pub with_member : Listed → Part → Listed
with_member l p = record { members = l.members ++ p.expr ∷ []; around = max l.around (p.around + 1) }

-- the tokens behind the end of parentheses
abbrev pub behind_close : Option Token → List Token → Option (List Token)
behind_close (Some tokens.Close) ts = Some ts
behind_close other ts = None

-- a part, and the end of parentheses behind it
abbrev pub closed_at : (ℕ → TokenReader Part) → TokenReader Part
closed_at inner ts = do
  x ← inner 1 ts
  us ← behind_close (first_token x.1) (drop 1 x.1)
  Some (x.0, us)

-- what is made of a part
abbrev pub part_made : (Part → Part) → Option (Part × List Token) → Option (Part × List Token)
part_made make (Some x) = Some (make x.0, x.1)
part_made make None = None

-- behind a not, the part in parentheses
abbrev pub negated_at : (ℕ → TokenReader Part) → Option Token → TokenReader Part
negated_at inner (Some tokens.Open) ts = part_made part_negated (closed_at inner ts)
negated_at inner other ts = None

-- behind a member: these at the end of the list, what follows behind a comma, else nothing
abbrev pub where_member : {A : Type 0} → Option Token → A → (Unit {0} → Option A) → Option A
where_member (Some tokens.CloseList) x f = Some x
where_member (Some tokens.Comma) x f = f tt
where_member other x f = None

-- further members, up to the end of their list
abbrev pub more_members_at : (ℕ → TokenReader Part) → ℕ → Listed → TokenReader Listed
more_members_at inner zero so_far ts = None
more_members_at inner (suc n) so_far ts =
    where_member (first_token ts) (so_far, drop 1 ts) (λ u. inner 1 (drop 1 ts) >>= (λ x. more_members_at inner n (with_member so_far x.0) x.1))

-- the members of a list
abbrev pub all_members_at : (ℕ → TokenReader Part) → TokenReader Listed
all_members_at inner ts =
    if ends_list (first_token ts) then Some (no_members, drop 1 ts) else inner 1 ts >>= (λ x. more_members_at inner (length x.1) (with_member no_members x.0) x.1)

-- the part of a list's members
abbrev pub listed_of : Option (Listed × List Token) → Option (Part × List Token)
listed_of (Some x) = Some (part_listed x.0, x.1)
listed_of None = None

-- a part that begins with this token and is none of an operator between two
abbrev pub operand_at : (ℕ → TokenReader Part) → Option Token → TokenReader Part
operand_at inner (Some (tokens.Leaf l)) ts = Some (part_alone l, ts)
operand_at inner (Some tokens.Open) ts = part_made part_grouped (closed_at inner ts)
operand_at inner (Some tokens.Not) ts = negated_at inner (first_token ts) (drop 1 ts)
operand_at inner (Some (tokens.Operator operators.Subtract)) ts = part_made part_minus (inner 6 ts)
operand_at inner (Some tokens.OpenList) ts = listed_of (all_members_at inner ts)
operand_at inner other ts = None

-- whether an operator goes on with a part of this level, where the whole has to bind so tightly at least
abbrev pub binds_on : ℕ → ℕ → Operator → Bool
binds_on least level o = not (nat_lt (level_of o) least) && not (nat_lt level (left_level o))

-- the operator that goes on
abbrev pub operator_on : ℕ → ℕ → Option Operator → Option Operator
operator_on least level (Some o) = if binds_on least level o then Some o else None
operator_on least level None = None

-- these where no operator goes on, else what it makes of them
abbrev pub where_on : {A : Type 0} → Option Operator → A → (Operator → Option A) → Option A
where_on None x f = Some x
where_on (Some o) x f = f o

-- a part, and the operators behind it that go on, each with its right operand
abbrev pub chain_at : (ℕ → TokenReader Part) → ℕ → ℕ → ℕ → Part → TokenReader Part
chain_at inner room zero least left ts = where_on (operator_on least left.level (operator_in (first_token ts))) (left, ts) (λ o. None)
chain_at inner room (suc n) least left ts =
    where_on (operator_on least left.level (operator_in (first_token ts))) (left, ts)
    (λ o. if nat_lt left.around room then inner (level_of o + 1) (drop 1 ts) >>= (λ x. chain_at inner room n least (part_joined o left x.0) x.1) else None)

-- a part that binds so tightly at least, and has at most so many around a leaf, where inner reads those that have fewer
abbrev pub part_with : (ℕ → TokenReader Part) → ℕ → ℕ → TokenReader Part
part_with inner room least ts = operand_at inner (first_token ts) (drop 1 ts) >>= (λ x. chain_at inner room room least x.0 x.1)

-- a part that binds so tightly at least, and has less than so many around a leaf
unfoldable pub part_at : ℕ → ℕ → TokenReader Part
part_at zero least ts = None
part_at (suc room) least ts = part_with (part_at room) room least ts

-- the tree of a part, where nothing stands behind it
abbrev pub whole_tree : Option (Part × List Token) → Option Tree
whole_tree (Some (p, [])) = Some p.expr
whole_tree (Some (p, t ∷ ts)) = None
whole_tree None = None

-- the tree of all of these tokens
abbrev pub tree_read : List Token → Option Tree
tree_read ts = whole_tree (part_at 65 1 ts)

-- the tree of a text
abbrev pub expr_read : List ℕ → Option Tree
expr_read text = if nat_lt 4096 (length text) then None else tokens_of text >>= tree_read
