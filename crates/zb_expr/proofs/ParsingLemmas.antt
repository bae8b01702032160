-- One step of reading.
use Rattle.std.proofs.Common.{◌≡◌, ℕ, zero, suc, ◌+◌, ◌-◌, ◌<◌, true, nat_lt, Option, Some, List, drop, sym, arith}
use Rattle.std.proofs.lemmas.Bool.Decides.{nat_tests}
use Rattle.zb_process.specs.declared.operator.Operator.{Operator}
use Rattle.zb_process.proofs.MemberLemmas.{nesting-append}
use Rattle.zb_expr.specs.declared.part.Part.{Part}
use Rattle.zb_expr.specs.declared.part.Listed.{Listed}
use Rattle.zb_expr.specs.declared.token.Token.{Token}
use Rattle.zb_expr.specs.declared.token.Token.TheVariants as tokens
use Rattle.zb_expr.specs.Grammar.{level_of}
use Rattle.zb_expr.specs.Reading.{TokenReader, IsWithin, AreWithin, first_token, operator_in, operator_on, where_on, where_member, chain_at, more_members_at, part_at, part_with, part_joined, with_member}

-- what is read with fewer than so many around
pub part_at-some : (levels least : ℕ) (ts : List Token) → 0 < levels → part_at levels least ts ≡ part_with (part_at (levels - 1)) (levels - 1) least ts
unfolding part_at
part_at-some zero least ts h = absurd (omega arith)
part_at-some (suc room) least ts h =
    let less : suc room - 1 ≡ room = omega arith in
    rw less

where_one_on : {A : Type 0} (found : Option Operator) (o : Operator) (x : A) (f : Operator → Option A) → found ≡ Some o → where_on found x f ≡ f o
where_one_on found o x f h = rw h

where_comma : {A : Type 0} (found : Option Token) (x : A) (f : Unit {0} → Option A) → found ≡ Some tokens.Comma → where_member found x f ≡ f tt
where_comma found x f h = rw h

-- the next operator with its right operand
pub chain-next : (inner : ℕ → TokenReader Part) (room n least : ℕ) (left right : Part) (ts us : List Token) (o : Operator) → operator_on least left.level (operator_in (first_token ts)) ≡ Some o → left.around < room → inner (level_of o + 1) (drop 1 ts) ≡ Some (right, us) → chain_at inner room (suc n) least left ts ≡ chain_at inner room n least (part_joined o left right) us
chain-next inner room n least left right ts us o found few read =
    let less : nat_lt left.around room ≡ true = grind (arith, nat_tests) in
    rw (where_one_on (operator_on least left.level (operator_in (first_token ts))) o, less, read)

-- the same, after so many
pub chain-on : (inner : ℕ → TokenReader Part) (room least k : ℕ) (left right : Part) (ts us : List Token) (o : Operator) → k < room → operator_on least left.level (operator_in (first_token ts)) ≡ Some o → left.around < room → inner (level_of o + 1) (drop 1 ts) ≡ Some (right, us) → chain_at inner room (room - (k + 1)) least (part_joined o left right) us ≡ chain_at inner room (room - k) least left ts
chain-on inner room least k left right ts us o h found few read =
    let next : room - k ≡ suc (room - (k + 1)) = omega arith in
    rw next (sym (chain-next inner room (room - (k + 1)) least left right ts us o found few read))

-- the next member
pub members-on : (inner : ℕ → TokenReader Part) (n k : ℕ) (so_far : Listed) (member : Part) (ts us : List Token) → k < n → first_token ts ≡ Some tokens.Comma → inner 1 (drop 1 ts) ≡ Some (member, us) → more_members_at inner (n - (k + 1)) (with_member so_far member) us ≡ more_members_at inner (n - k) so_far ts
members-on inner n k so_far member ts us h found read =
    let next : n - k ≡ suc (n - (k + 1)) = omega arith in
    rw (next, where_comma (first_token ts), read)

-- what is joined has one more around
pub joined-within : (room : ℕ) (o : Operator) (a b : Part) → IsWithin (room + 1) a → a.around < room → IsWithin room b → IsWithin (room + 1) (part_joined o a b)
joined-within room o a b h few k = record { deep = omega arith; few = omega arith }

-- so have members with one more
pub added-within : (room : ℕ) (so_far : Listed) (member : Part) → AreWithin (room + 1) so_far → IsWithin room member → AreWithin (room + 1) (with_member so_far member)
added-within room so_far member h k = record { deep = omega (arith, nesting-append so_far.members member.expr); few = omega arith }
