-- What the grammar has is read: the tokens of a form are read as its part.
use Rattle.std.proofs.Common.{◌≡◌, ℕ, zero, suc, ◌+◌, ◌-◌, ◌<◌, ◌≤◌, max, false, Some, None, List, [], ◌∷◌, ◌++◌, length, refl, sym, ◌∙◌, append_assoc, append-nil, arith}
use Rattle.zb_process.specs.declared.operator.Operator.{Operator}
use Rattle.zb_expr.specs.declared.part.Part.{Part}
use Rattle.zb_expr.specs.declared.part.Listed.{Listed}
use Rattle.zb_expr.specs.declared.token.Token.{Token}
use Rattle.zb_expr.specs.declared.token.Token.TheVariants as tokens
use Rattle.zb_expr.specs.Grammar.{Form, Forms, Alone, Group, Negation, Minus, Members, Binary, none, more, level, level_of, left_level, IsFormed, AreFormed, around, around_members, written, written_behind, form_tree, form_trees}
use Rattle.zb_expr.specs.Reading.{TokenReader, first_token, operator_in, ends_list, chain_at, more_members_at, part_at, part_with, with_member, no_members}
use Rattle.zb_expr.proofs.LevelLemmas.{level_of-between, left_level-least, level-some, operator_on-none, operator_on-some}
use Rattle.zb_expr.proofs.ParsingLemmas.{chain-next}

-- the part that a form is read as
abbrev pub part_of : Form → Part
part_of f = record { expr = form_tree f; around = around f; level = level f }

-- an operator that stands first binds less tightly than this
abbrev pub Stops : ℕ → List Token → Type 0
Stops least ts = (o : Operator) → operator_in (first_token ts) ≡ Some o → level_of o < least

-- how many operators have the form as their left operand's left operand, and so on
abbrev pub spine : Form → ℕ
spine (Alone l) = 0
spine (Group a) = 0
spine (Negation a) = 0
spine (Minus a) = 0
spine (Members ms) = 0
spine (Binary o a b) = suc (spine a)

pub spine-few : (f : Form) → spine f ≤ around f
spine-few (Alone l) = omega arith
spine-few (Group a) = omega arith
spine-few (Negation a) = omega arith
spine-few (Minus a) = omega arith
spine-few (Members ms) = omega arith
spine-few (Binary o a b) = omega (arith, spine-few a)

-- where nothing goes on, the chain ends
pub chain-stops : (inner : ℕ → TokenReader Part) (room n least : ℕ) (left : Part) (ts : List Token) → Stops least ts → chain_at inner room n least left ts ≡ Some (left, ts)
chain-stops inner room zero least left ts h = rw (operator_on-none least left.level (operator_in (first_token ts)) h)
chain-stops inner room (suc n) least left ts h = rw (operator_on-none least left.level (operator_in (first_token ts)) h)

-- what is no operator stops
pub stops_by : (t : Token) (ts : List Token) (least : ℕ) → operator_in (Some t) ≡ None → Stops least (t ∷ ts)
stops_by t ts least h = λ o e. let never : ⊥ = cc in absurd never

-- the tokens of a form are read as far as its chain
abbrev pub IsReadOn : Form → Type 0
IsReadOn f = (room least n : ℕ) (rest : List Token) → IsFormed f → around f ≤ room → least ≤ level f → Stops (level f + 1) rest → n + spine f ≡ room → part_with (part_at room) room least (written f rest) ≡ chain_at (part_at room) room n least (part_of f) rest

-- the tokens of a form are read as its part
abbrev pub IsReadAs : Form → Type 0
IsReadAs f = (levels least : ℕ) (rest : List Token) → IsFormed f → around f < levels → least ≤ level f → Stops least rest → part_at levels least (written f rest) ≡ Some (part_of f, rest)

pub whole-read : (f : Form) → IsReadOn f → IsReadAs f
unfolding part_at
whole-read f on zero least rest formed few tight stops = absurd (omega arith)
whole-read f on (suc room) least rest formed few tight stops =
    let n : ℕ = room - spine f in
    let total : n + spine f ≡ room = omega (arith, spine-few f) in
    let later : Stops (level f + 1) rest = λ o e. omega (arith, stops o e) in
    on room least n rest formed (omega arith) tight later total ∙ chain-stops (part_at room) room n least (part_of f) rest stops

-- the members with these behind
abbrev pub with_all : Listed → Forms → Listed
with_all l none = l
with_all l (more a ms) = with_all (with_member l (part_of a)) ms

pub with_all-is : (l : Listed) (ms : Forms) → with_all l ms ≡ record { members = l.members ++ form_trees ms; around = max l.around (around_members ms) }
with_all-is l none =
    let same : l.members ++ [] ≡ l.members = append-nil l.members in
    let most : max l.around 0 ≡ l.around = omega arith in
    λ i. record { members = sym same i; around = sym most i }
with_all-is l (more a ms) =
    let next = with_all-is (with_member l (part_of a)) ms in
    let regrouped : (l.members ++ form_tree a ∷ []) ++ form_trees ms ≡ l.members ++ (form_tree a ∷ form_trees ms) = append_assoc l.members (form_tree a ∷ []) (form_trees ms) in
    let most : max (max l.around (around a + 1)) (around_members ms) ≡ max l.around (max (around a + 1) (around_members ms)) = omega arith in
    next ∙ (λ i. record { members = regrouped i; around = most i })

-- how many members there are
abbrev pub count : Forms → ℕ
count none = 0
count (more a ms) = suc (count ms)

mutual
  -- a form has a token at least
  pub longer : (f : Form) (rest : List Token) → length rest < length (written f rest)
  longer (Alone l) rest = omega arith
  longer (Group a) rest = omega (arith, longer a (tokens.Close ∷ rest))
  longer (Negation a) rest = omega (arith, longer a (tokens.Close ∷ rest))
  longer (Minus a) rest = omega (arith, longer a rest)
  longer (Members none) rest = omega arith
  longer (Members (more a ms)) rest = omega (arith, longer a (written_behind ms rest), longer_behind ms rest)
  longer (Binary o a b) rest = omega (arith, longer a (tokens.Operator o ∷ written b rest), longer b rest)

  -- and each member, with the end of the list
  pub longer_behind : (ms : Forms) (rest : List Token) → count ms + length rest < length (written_behind ms rest)
  longer_behind none rest = omega arith
  longer_behind (more a ms) rest = omega (arith, longer a (written_behind ms rest), longer_behind ms rest)

-- no form begins with the end of a list
pub no_end : (f : Form) (rest : List Token) → ends_list (first_token (written f rest)) ≡ false
no_end (Alone l) rest = refl
no_end (Group a) rest = refl
no_end (Negation a) rest = refl
no_end (Minus a) rest = refl
no_end (Members none) rest = refl
no_end (Members (more a ms)) rest = refl
no_end (Binary o a b) rest = no_end a (tokens.Operator o ∷ written b rest)

behind_stops : (ms : Forms) (rest : List Token) (least : ℕ) → Stops least (written_behind ms rest)
behind_stops none rest least = stops_by tokens.CloseList rest least refl
behind_stops (more a ms) rest least = stops_by tokens.Comma (written a (written_behind ms rest)) least refl

mutual
  -- the tokens of each form are read on
  pub read-on : (f : Form) → IsReadOn f
  read-on (Alone l) room least n rest formed few tight stops total =
      let all : n ≡ room = omega arith in
      rw all
  read-on (Group a) room least n rest formed few tight stops total =
      let all : n ≡ room = omega arith in
      let inside = whole-read a (read-on a) room 1 (tokens.Close ∷ rest) formed (omega arith) (level-some a) (stops_by tokens.Close rest 1 refl) in
      rw (inside, all)
  read-on (Negation a) room least n rest formed few tight stops total =
      let all : n ≡ room = omega arith in
      let inside = whole-read a (read-on a) room 1 (tokens.Close ∷ rest) formed (omega arith) (level-some a) (stops_by tokens.Close rest 1 refl) in
      rw (inside, all)
  read-on (Minus a) room least n rest formed few tight stops total =
      let all : n ≡ room = omega arith in
      let inside = whole-read a (read-on a) room 6 rest formed.1 (omega arith) formed.0 (λ o e. omega (arith, (level_of-between o).1)) in
      rw (inside, all)
  read-on (Members none) room least n rest formed few tight stops total =
      let all : n ≡ room = omega arith in
      rw all
  read-on (Members (more a ms)) room least n rest formed few tight stops total =
      let all : n ≡ room = omega arith in
      let behind = written_behind ms rest in
      let first = whole-read a (read-on a) room 1 behind formed.0 (omega arith) (level-some a) (behind_stops ms rest 1) in
      let others = members-read ms room (length behind) (with_member no_members (part_of a)) rest formed.1 (omega arith) (omega (arith, longer_behind ms rest)) in
      let one : max 0 (around a + 1) ≡ around a + 1 = omega arith in
      rw (no_end a behind, first, others, with_all-is (with_member no_members (part_of a)) ms, one, all)
  read-on (Binary o a b) room least n rest formed few tight stops total =
      let bound : level_of o ≤ left_level o = left_level-least o in
      let enough : left_level o ≤ level a = formed.0 in
      let behind = tokens.Operator o ∷ written b rest in
      let goes : Stops (level a + 1) behind = λ p e. let same : o ≡ p = cc in rw (← same) (omega arith) in
      let left = read-on a room least (suc n) behind formed.2 (omega arith) (omega arith) goes (omega arith) in
      let right = whole-read b (read-on b) room (level_of o + 1) rest formed.3 (omega arith) (omega (arith, formed.1)) stops in
      left ∙ chain-next (part_at room) room n least (part_of a) (part_of b) behind rest o (operator_on-some least (level a) o tight enough) (omega arith) right

  -- so are members
  pub members-read : (ms : Forms) (room n : ℕ) (l : Listed) (rest : List Token) → AreFormed ms → around_members ms ≤ room → count ms < n → more_members_at (part_at room) n l (written_behind ms rest) ≡ Some (with_all l ms, rest)
  members-read ms room zero l rest formed few many = absurd (omega arith)
  members-read none room (suc n) l rest formed few many = refl
  members-read (more a ms) room (suc n) l rest formed few many =
      let first = whole-read a (read-on a) room 1 (written_behind ms rest) formed.0 (omega arith) (level-some a) (behind_stops ms rest 1) in
      let others = members-read ms room n (with_member l (part_of a)) rest formed.1 (omega arith) (omega arith) in
      rw (first, others)
