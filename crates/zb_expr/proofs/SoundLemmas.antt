-- What is read is in the grammar: the tokens of a part are those of a form.
use Rattle.std.proofs.Common.{◌≡◌, ℕ, zero, suc, ◌+◌, ◌<◌, ◌≤◌, max, Bool, true, false, nat_lt, not, ◌&&◌, if◌then◌else◌, Option, Some, None, List, [], ◌∷◌, length, drop, refl, sym, subst, ◌∙◌, ap, arith}
use Rattle.std.proofs.lemmas.Bool.Decides.{nat_tests}
use Rattle.zb_format.specs.Reading.{◌>>=◌}
use Rattle.zb_process.specs.declared.operator.Operator.{Operator}
use Rattle.zb_process.specs.declared.operator.Operator.TheVariants as operators
use Rattle.zb_process.specs.Tree.{Tree}
use Rattle.zb_expr.specs.declared.part.Part.{Part}
use Rattle.zb_expr.specs.declared.part.Listed.{Listed}
use Rattle.zb_expr.specs.declared.token.Token.{Token}
use Rattle.zb_expr.specs.declared.token.Token.TheVariants as tokens
use Rattle.zb_expr.specs.Grammar.{Form, Forms, Alone, Group, Negation, Minus, Members, Binary, none, more, level, level_of, left_level, IsFormed, AreFormed, around, around_members, written, written_behind, AreExpression}
use Rattle.zb_expr.specs.Reading.{TokenReader, first_token, operator_in, ends_list, operator_on, where_on, chain_at, more_members_at, all_members_at, closed_at, behind_close, part_made, listed_of, operand_at, part_at, part_with, part_alone, part_joined, part_grouped, part_negated, part_minus, part_listed, with_member, no_members, whole_tree, tree_read}
use Rattle.zb_expr.proofs.LevelLemmas.{level_of-between, level-some}
use Rattle.zb_expr.proofs.CompleteLemmas.{Stops, part_of, with_all, with_all-is, whole-read, read-on}

-- the tokens are those of a form that has less than so many around, and binds so tightly at least
pub record IsWritten (levels least : ℕ) (p : Part) (ts rest : List Token) : Type 0 where
  pub form : Form
  pub formed : IsFormed form
  pub few : around form < levels
  pub tight : least ≤ level form
  pub is : part_of form ≡ p
  pub tokens : written form rest ≡ ts

-- what this reads is written so
abbrev pub IsSound : (ℕ → TokenReader Part) → ℕ → Type 0
IsSound inner levels = (least : ℕ) (ts : List Token) (p : Part) (rest : List Token) → least ≤ 6 → inner least ts ≡ Some (p, rest) → IsWritten levels least p ts rest

-- what follows a value had the value
bound : {A B : Type 0} (r : Option A) (f : A → Option B) (y : B) → (r >>= f) ≡ Some y → (x : A) × (r ≡ Some x) × (f x ≡ Some y)
bound None f y h = absurd cc
bound (Some x) f y h = (x, refl, h)

-- where two values with what is left are one, the values are, and what is left is
both : {A : Type 0} (a c : A) (us vs : List Token) → ◌≡◌ {A = Option (A × List Token)} (Some (a, us)) (Some (c, vs)) → (a ≡ c) × (us ≡ vs)
both {A} a c us vs h =
    let x : A × List Token = (a, us) in
    let y : A × List Token = (c, vs) in
    let same : x ≡ y = cc in
    (ap (λ (z : A × List Token). z.0) same, ap (λ (z : A × List Token). z.1) same)

made : (make : Part → Part) (r : Option (Part × List Token)) (p : Part) (rest : List Token) → part_made make r ≡ Some (p, rest) → (q : Part) × (r ≡ Some (q, rest)) × (make q ≡ p)
made make None p rest h = absurd cc
made make (Some (q, us)) p rest h =
    let e = both (make q) p us rest h in
    (q, ap (λ (zs : List Token). Some (q, zs)) e.1, e.0)

close_first : (us rest : List Token) → behind_close (first_token us) (drop 1 us) ≡ Some rest → tokens.Close ∷ rest ≡ us
close_first [] rest h = absurd cc
close_first (tokens.Close ∷ us) rest h = cc
close_first (t ∷ us) rest h = absurd cc

closed : (inner : ℕ → TokenReader Part) (levels : ℕ) → IsSound inner levels → (ts : List Token) (p : Part) (rest : List Token) → closed_at inner ts ≡ Some (p, rest) → IsWritten levels 1 p ts (tokens.Close ∷ rest)
closed inner levels sound ts p rest h =
    let x = bound (inner 1 ts) (λ x. behind_close (first_token x.1) (drop 1 x.1) >>= (λ us. Some (x.0, us))) (p, rest) h in
    let y = bound (behind_close (first_token x.0.1) (drop 1 x.0.1)) (λ us. Some (x.0.0, us)) (p, rest) x.2 in
    let e = both x.0.0 p y.0 rest y.2 in
    let behind : tokens.Close ∷ rest ≡ x.0.1 = close_first x.0.1 rest (y.1 ∙ ap Some e.1) in
    sound 1 ts p (tokens.Close ∷ rest) (omega arith) (x.1 ∙ (λ i. Some (e.0 i, sym behind i)))

-- members and the end of their list, behind members so far
record AreWritten (levels : ℕ) (so_far all : Listed) (ts rest : List Token) : Type 0 where
  forms : Forms
  formed : AreFormed forms
  few : around_members forms < levels
  is : with_all so_far forms ≡ all
  tokens : written_behind forms rest ≡ ts

members : (inner : ℕ → TokenReader Part) (room : ℕ) → IsSound inner room → (n : ℕ) (so_far all : Listed) (ts rest : List Token) → more_members_at inner n so_far ts ≡ Some (all, rest) → AreWritten (room + 1) so_far all ts rest
members inner room sound zero so_far all ts rest h = absurd cc
members inner room sound (suc n) so_far all [] rest h = absurd cc
members inner room sound (suc n) so_far all (tokens.CloseList ∷ us) rest h = record {
  forms = none;
  formed = tt;
  few = omega arith;
  is = (both so_far all us rest h).0;
  tokens = ap (λ (zs : List Token). tokens.CloseList ∷ zs) (sym (both so_far all us rest h).1);
}
members inner room sound (suc n) so_far all (tokens.Comma ∷ us) rest h =
    let x = bound (inner 1 us) (λ x. more_members_at inner n (with_member so_far x.0) x.1) (all, rest) h in
    let first = sound 1 us x.0.0 x.0.1 (omega arith) x.1 in
    let others = members inner room sound n (with_member so_far x.0.0) all x.0.1 rest x.2 in
    record {
      forms = more first.form others.forms;
      formed = (first.formed, others.formed);
      few = omega (arith, first.few, others.few);
      is = ap (λ (q : Part). with_all (with_member so_far q) others.forms) first.is ∙ others.is;
      tokens = ap (λ (zs : List Token). tokens.Comma ∷ written first.form zs) others.tokens ∙ ap (λ (zs : List Token). tokens.Comma ∷ zs) first.tokens;
    }
members inner room sound (suc n) so_far all (t ∷ us) rest h = absurd cc

end_first : (ts : List Token) → ends_list (first_token ts) ≡ true → tokens.CloseList ∷ drop 1 ts ≡ ts
end_first [] h = absurd cc
end_first (tokens.CloseList ∷ us) h = refl
end_first (t ∷ us) h = absurd cc

listed-is : (a : Form) (ms : Forms) → part_of (Members (more a ms)) ≡ part_listed (with_all (with_member no_members (part_of a)) ms)
listed-is a ms =
    let one : max 0 (around a + 1) ≡ around a + 1 = omega arith in
    rw (with_all-is (with_member no_members (part_of a)) ms, one)

all_members_by : (inner : ℕ → TokenReader Part) (room : ℕ) → IsSound inner room → (ts : List Token) (all : Listed) (rest : List Token) (ends : Bool) → ends_list (first_token ts) ≡ ends → (if ends then Some (no_members, drop 1 ts) else inner 1 ts >>= (λ x. more_members_at inner (length x.1) (with_member no_members x.0) x.1)) ≡ Some (all, rest) → IsWritten (room + 1) 6 (part_listed all) (tokens.OpenList ∷ ts) rest
all_members_by inner room sound ts all rest true e h =
    let b = both no_members all (drop 1 ts) rest h in
    record {
      form = Members none;
      formed = tt;
      few = omega arith;
      tight = omega arith;
      is = ap part_listed b.0;
      tokens = ap (λ (zs : List Token). tokens.OpenList ∷ tokens.CloseList ∷ zs) (sym b.1) ∙ ap (λ (zs : List Token). tokens.OpenList ∷ zs) (end_first ts e);
    }
all_members_by inner room sound ts all rest false e h =
    let x = bound (inner 1 ts) (λ x. more_members_at inner (length x.1) (with_member no_members x.0) x.1) (all, rest) h in
    let first = sound 1 ts x.0.0 x.0.1 (omega arith) x.1 in
    let others = members inner room sound (length x.0.1) (with_member no_members x.0.0) all x.0.1 rest x.2 in
    record {
      form = Members (more first.form others.forms);
      formed = (first.formed, others.formed);
      few = omega (arith, first.few, others.few);
      tight = omega arith;
      is = listed-is first.form others.forms ∙ ap (λ (q : Part). part_listed (with_all (with_member no_members q) others.forms)) first.is ∙ ap part_listed others.is;
      tokens = ap (λ (zs : List Token). tokens.OpenList ∷ written first.form zs) others.tokens ∙ ap (λ (zs : List Token). tokens.OpenList ∷ zs) first.tokens;
    }

listed_by : (r : Option (Listed × List Token)) (p : Part) (rest : List Token) → listed_of r ≡ Some (p, rest) → (all : Listed) × (r ≡ Some (all, rest)) × (part_listed all ≡ p)
listed_by None p rest h = absurd cc
listed_by (Some (all, us)) p rest h =
    let e = both (part_listed all) p us rest h in
    (all, ap (λ (zs : List Token). Some (all, zs)) e.1, e.0)

grouped : (levels : ℕ) (q p : Part) (ts rest : List Token) → IsWritten levels 1 q ts (tokens.Close ∷ rest) → part_grouped q ≡ p → IsWritten (levels + 1) 6 p (tokens.Open ∷ ts) rest
grouped levels q p ts rest w e = record {
  form = Group w.form;
  formed = w.formed;
  few = omega (arith, w.few);
  tight = omega arith;
  is = ap part_grouped w.is ∙ e;
  tokens = ap (λ (zs : List Token). tokens.Open ∷ zs) w.tokens;
}

negated : (levels : ℕ) (q p : Part) (ts rest : List Token) → IsWritten levels 1 q ts (tokens.Close ∷ rest) → part_negated q ≡ p → IsWritten (levels + 1) 6 p (tokens.Not ∷ tokens.Open ∷ ts) rest
negated levels q p ts rest w e = record {
  form = Negation w.form;
  formed = w.formed;
  few = omega (arith, w.few);
  tight = omega arith;
  is = ap part_negated w.is ∙ e;
  tokens = ap (λ (zs : List Token). tokens.Not ∷ tokens.Open ∷ zs) w.tokens;
}

signed : (levels : ℕ) (q p : Part) (ts rest : List Token) → IsWritten levels 6 q ts rest → part_minus q ≡ p → IsWritten (levels + 1) 6 p (tokens.Operator operators.Subtract ∷ ts) rest
signed levels q p ts rest w e = record {
  form = Minus w.form;
  formed = (w.tight, w.formed);
  few = omega (arith, w.few);
  tight = omega arith;
  is = ap part_minus w.is ∙ e;
  tokens = ap (λ (zs : List Token). tokens.Operator operators.Subtract ∷ zs) w.tokens;
}

first : (inner : ℕ → TokenReader Part) (room : ℕ) → IsSound inner room → (t : Token) (ts : List Token) (p : Part) (rest : List Token) → operand_at inner (Some t) ts ≡ Some (p, rest) → IsWritten (room + 1) 6 p (t ∷ ts) rest
first inner room sound (tokens.Leaf l) ts p rest h =
    let e = both (part_alone l) p ts rest h in
    record { form = Alone l; formed = tt; few = omega arith; tight = omega arith; is = e.0; tokens = ap (λ (zs : List Token). tokens.Leaf l ∷ zs) (sym e.1) }
first inner room sound tokens.Open ts p rest h =
    let m = made part_grouped (closed_at inner ts) p rest h in
    grouped room m.0 p ts rest (closed inner room sound ts m.0 rest m.1) m.2
first inner room sound tokens.Not [] p rest h = absurd cc
first inner room sound tokens.Not (tokens.Open ∷ ts) p rest h =
    let m = made part_negated (closed_at inner ts) p rest h in
    negated room m.0 p ts rest (closed inner room sound ts m.0 rest m.1) m.2
first inner room sound tokens.Not (t ∷ ts) p rest h = absurd cc
first inner room sound (tokens.Operator operators.Subtract) ts p rest h =
    let m = made part_minus (inner 6 ts) p rest h in
    signed room m.0 p ts rest (sound 6 ts m.0 rest (omega arith) m.1) m.2
first inner room sound tokens.OpenList ts p rest h =
    let l = listed_by (all_members_at inner ts) p rest h in
    subst (λ (q : Part). IsWritten (room + 1) 6 q (tokens.OpenList ∷ ts) rest) l.2 (all_members_by inner room sound ts l.0 rest (ends_list (first_token ts)) refl l.1)
first inner room sound t ts p rest h = absurd cc

-- which operator goes on
record GoesOn (least tight : ℕ) (found : Option Operator) (o : Operator) : Type 0 where
  is : found ≡ Some o
  high : least ≤ level_of o
  left : left_level o ≤ tight

tests : (least tight : ℕ) (o p : Operator) (low loose : Bool) → nat_lt (level_of o) least ≡ low → nat_lt tight (left_level o) ≡ loose → (if not low && not loose then Some o else None) ≡ Some p → GoesOn least tight (Some o) p
tests least tight o p true loose e f h = absurd cc
tests least tight o p false true e f h = absurd cc
tests least tight o p false false e f h =
    let same : o ≡ p = cc in
    let high : least ≤ level_of o = grind (arith, nat_tests) in
    let left : left_level o ≤ tight = grind (arith, nat_tests) in
    record { is = ap Some same; high = subst (λ (q : Operator). least ≤ level_of q) same high; left = subst (λ (q : Operator). left_level q ≤ tight) same left }

going_on : (least tight : ℕ) (found : Option Operator) (o : Operator) → operator_on least tight found ≡ Some o → GoesOn least tight found o
going_on least tight None o h = absurd cc
going_on least tight (Some p) o h = tests least tight p o (nat_lt (level_of p) least) (nat_lt tight (left_level p)) refl refl h

operator_first : (ts : List Token) (o : Operator) → operator_in (first_token ts) ≡ Some o → tokens.Operator o ∷ drop 1 ts ≡ ts
operator_first [] o h = absurd cc
operator_first (tokens.Operator p ∷ ts) o h = let same : o ≡ p = cc in ap (λ (q : Operator). tokens.Operator q ∷ ts) same
operator_first (t ∷ ts) o h = absurd cc

stopped : (room least : ℕ) (f : Form) (p : Part) (ts rest : List Token) → IsFormed f → around f ≤ room → least ≤ level f → ◌≡◌ {A = Option (Part × List Token)} (Some (part_of f, ts)) (Some (p, rest)) → IsWritten (room + 1) least p (written f ts) rest
stopped room least f p ts rest formed few tight h =
    let e = both (part_of f) p ts rest h in
    record { form = f; formed = formed; few = omega arith; tight = tight; is = e.0; tokens = ap (λ (zs : List Token). written f zs) (sym e.1) }

chain_end : (room least : ℕ) (f : Form) (p : Part) (ts rest : List Token) (found : Option Operator) → IsFormed f → around f ≤ room → least ≤ level f → where_on {A = Part × List Token} found (part_of f, ts) (λ o. None) ≡ Some (p, rest) → IsWritten (room + 1) least p (written f ts) rest
chain_end room least f p ts rest None formed few tight h = stopped room least f p ts rest formed few tight h
chain_end room least f p ts rest (Some o) formed few tight h = absurd cc

-- what is read with these as a chain's left part is written so
abbrev IsChainSound : (ℕ → TokenReader Part) → ℕ → ℕ → ℕ → Type 0
IsChainSound inner room n least = (f : Form) (p : Part) (ts rest : List Token) → IsFormed f → around f ≤ room → least ≤ level f → chain_at inner room n least (part_of f) ts ≡ Some (p, rest) → IsWritten (room + 1) least p (written f ts) rest

chain_by : (inner : ℕ → TokenReader Part) (room : ℕ) → IsSound inner room → (n least : ℕ) → IsChainSound inner room n least → (f : Form) (p : Part) (ts rest : List Token) (found : Option Operator) → operator_on least (level f) (operator_in (first_token ts)) ≡ found → (fits : Bool) → nat_lt (around f) room ≡ fits → IsFormed f → around f ≤ room → least ≤ level f → where_on found (part_of f, ts) (λ o. if fits then inner (level_of o + 1) (drop 1 ts) >>= (λ x. chain_at inner room n least (part_joined o (part_of f) x.0) x.1) else None) ≡ Some (p, rest) → IsWritten (room + 1) least p (written f ts) rest
chain_by inner room sound n least on f p ts rest None e fits k formed few tight h = stopped room least f p ts rest formed few tight h
chain_by inner room sound n least on f p ts rest (Some o) e false k formed few tight h = absurd cc
chain_by inner room sound n least on f p ts rest (Some o) e true k formed few tight h =
    let x = bound (inner (level_of o + 1) (drop 1 ts)) (λ x. chain_at inner room n least (part_joined o (part_of f) x.0) x.1) (p, rest) h in
    let right = sound (level_of o + 1) (drop 1 ts) x.0.0 x.0.1 (omega (arith, (level_of-between o).1)) x.1 in
    let go = going_on least (level f) (operator_in (first_token ts)) o e in
    let less : around f < room = grind (arith, nat_tests) in
    let IsRest : Part → Type 0 = λ q. chain_at inner room n least (part_joined o (part_of f) q) x.0.1 ≡ Some (p, rest) in
    let later = subst IsRest (sym right.is) x.2 in
    let all = on (Binary o f right.form) p x.0.1 rest (go.left, omega (arith, right.tight), formed, right.formed) (omega (arith, right.few)) go.high later in
    record {
      form = all.form;
      formed = all.formed;
      few = all.few;
      tight = all.tight;
      is = all.is;
      tokens = all.tokens ∙ ap (λ (zs : List Token). written f (tokens.Operator o ∷ zs)) right.tokens ∙ ap (λ (zs : List Token). written f zs) (operator_first ts o go.is);
    }

chain : (inner : ℕ → TokenReader Part) (room : ℕ) → IsSound inner room → (n least : ℕ) → IsChainSound inner room n least
chain inner room sound zero least f p ts rest formed few tight h = chain_end room least f p ts rest (operator_on least (level f) (operator_in (first_token ts))) formed few tight h
chain inner room sound (suc n) least f p ts rest formed few tight h =
    chain_by inner room sound n least (chain inner room sound n least) f p ts rest (operator_on least (level f) (operator_in (first_token ts))) refl (nat_lt (around f) room) refl formed few tight h

whole_by : (inner : ℕ → TokenReader Part) (room : ℕ) → IsSound inner room → (least : ℕ) (ts : List Token) (p : Part) (rest : List Token) → least ≤ 6 → part_with inner room least ts ≡ Some (p, rest) → IsWritten (room + 1) least p ts rest
whole_by inner room sound least [] p rest low h = absurd cc
whole_by inner room sound least (t ∷ ts) p rest low h =
    let x = bound (operand_at inner (Some t) ts) (λ x. chain_at inner room room least x.0 x.1) (p, rest) h in
    let one = first inner room sound t ts x.0.0 x.0.1 x.1 in
    let IsRest : Part → Type 0 = λ q. chain_at inner room room least q x.0.1 ≡ Some (p, rest) in
    let all = chain inner room sound room least one.form p x.0.1 rest one.formed (omega (arith, one.few)) (omega (arith, one.tight)) (subst IsRest (sym one.is) x.2) in
    record { form = all.form; formed = all.formed; few = all.few; tight = all.tight; is = all.is; tokens = all.tokens ∙ one.tokens }

-- each part that is read is written so
pub part-written : (levels : ℕ) → IsSound (part_at levels) levels
unfolding part_at
part-written zero least ts p rest low h = absurd cc
part-written (suc room) least ts p rest low h =
    let w = whole_by (part_at room) room (part-written room) least ts p rest low h in
    record { form = w.form; formed = w.formed; few = omega (arith, w.few); tight = w.tight; is = w.is; tokens = w.tokens }

whole_some : (r : Option (Part × List Token)) (tree : Tree) → whole_tree r ≡ Some tree → (p : Part) × (r ≡ Some (p, [])) × (p.expr ≡ tree)
whole_some None tree h = absurd cc
whole_some (Some (p, [])) tree h = (p, refl, cc)
whole_some (Some (p, t ∷ ts)) tree h = absurd cc

-- a tree that is read is that of an expression
pub tree_read-is : (ts : List Token) (tree : Tree) → tree_read ts ≡ Some tree → AreExpression ts tree
tree_read-is ts tree h =
    let x = whole_some (part_at 65 1 ts) tree h in
    let w = part-written 65 1 ts x.0 [] (omega arith) x.1 in
    record {
      form = w.form;
      formed = w.formed;
      few = omega (arith, w.few);
      tokens = w.tokens;
      is = ap (λ (p : Part). p.expr) w.is ∙ x.2;
    }

-- the tree of an expression is read
pub tree_read-of : (ts : List Token) (tree : Tree) → AreExpression ts tree → tree_read ts ≡ Some tree
tree_read-of ts tree h =
    let stops : Stops 1 [] = λ o e. (let never : ⊥ = cc in absurd never) in
    let read = whole-read h.form (read-on h.form) 65 1 [] h.formed (omega (arith, h.few)) (level-some h.form) stops in
    ap whole_tree (ap (λ (us : List Token). part_at 65 1 us) (sym h.tokens) ∙ read) ∙ ap Some h.is
