-- Variables whose names aren't there yet, and what a cell sees.
use Rattle.std.proofs.Common.{◌≡◌, ℕ, List, [], ◌∷◌, true, false, IsTrue, if◌then◌else◌, Option, Some, None, refl, sym, ap, ◌∙◌, subst, arith}
use Rattle.std.specs.declared.cmp.Ordering.{Ordering}
use Rattle.std.specs.declared.cmp.Ordering.TheVariants.{Less, Equal, Greater}
use Rattle.std.specs.Ordering.{is_eq, is_lt, ordering_reverse}
use Rattle.std.specs.Option.{option_or}
use Rattle.std.specs.List.{flat_map}
use Rattle.std.proofs.lemmas.Cmp.{nat_list_cmp_total, tied_itself}
use Rattle.std.proofs.lemmas.List.Elements.{All-nil}
use Rattle.std.proofs.lemmas.Map.Lookups.{exact_bytes}
use Rattle.zb_base.specs.declared.value.Value.{Value}
use Rattle.zb_base.specs.declared.vars.Variable.{Variable}
use Rattle.zb_base.specs.Vars.{order_at, order_of, is_ascending, value_named, with_value}
use Rattle.zb_base.proofs.VarsLaws.{value_of_set}
use Rattle.zb_base.proofs.VarsLemmas.{value_of_missing}
use Rattle.zb_tokens.specs.Board.{Board, up_from}
use Rattle.zb_tokens.proofs.GameLaws.{both_left, both_right}
use Rattle.zb_tokens.specs.Names.{visible}
use Rattle.zb_tokens.proofs.VisibleLaws.{value_of_overlaid, visible_ascends}

pub or_none : (o : Option Value) → option_or o None ≡ o
or_none None = refl
or_none (Some x) = refl

pub or_assoc : (a b c : Option Value) → option_or (option_or a b) c ≡ option_or a (option_or b c)
or_assoc None b c = refl
or_assoc (Some x) b c = refl

-- a name that comes before all of the variables has no value among them
none_before : (name : List ℕ) (vs : List Variable) → IsTrue (is_ascending vs) → order_at name vs ≡ Less → value_named name vs ≡ None
none_before name vs up before = value_of_missing name vs 0 up (record { within = omega arith; behind = All-nil (λ (v : Variable). order_of name v.name ≡ Greater); next = before })

-- the value of the first name, and the names behind it
first_named : (v : Variable) (vs : List Variable) → value_named v.name (v ∷ vs) ≡ Some v.value
first_named v vs = let same : order_of v.name v.name ≡ Equal = tied_itself nat_list_cmp_total v.name in rw same refl

not_first : (name : List ℕ) (v : Variable) (vs : List Variable) (o : Ordering) → order_of name v.name ≡ o → is_eq o ≡ false → value_named name (v ∷ vs) ≡ value_named name vs
not_first name v vs o is other = rw (is, other) refl

is_less : (o : Ordering) → is_lt o ≡ true → o ≡ Less
is_less Less is = refl
is_less Equal is = absurd (cc)
is_less Greater is = absurd (cc)

-- the names behind the first one ascend, and it is none of them
ascends_behind : (v : Variable) (vs : List Variable) → IsTrue (is_ascending (v ∷ vs)) → IsTrue (is_ascending vs)
ascends_behind v vs up = both_right (is_lt (order_at v.name vs)) (is_ascending vs) up

none_behind : (v : Variable) (vs : List Variable) → IsTrue (is_ascending (v ∷ vs)) → value_named v.name vs ≡ None
none_behind v vs up = none_before v.name vs (ascends_behind v vs up) (is_less (order_at v.name vs) (both_left (is_lt (order_at v.name vs)) (is_ascending vs) up))

made_same : (n m : List ℕ) (x y : Value) → n ≡ m → x ≡ y → ◌≡◌ {A = Variable} (record { name = n; value = x }) (record { name = m; value = y })
made_same n m x y name value = rw (name, value) refl

-- two lists of variables whose names ascend are the same one where each name has the same value in both
module _ (v w : Variable) (vs ws : List Variable) (up : IsTrue (is_ascending (v ∷ vs))) (up' : IsTrue (is_ascending (w ∷ ws)))
    (same : (name : List ℕ) → value_named name (v ∷ vs) ≡ value_named name (w ∷ ws)) where
  first_earlier : order_of v.name w.name ≡ Less → v.name ≡ w.name
  first_earlier before =
      let there = first_named v vs in
      let none = none_before v.name (w ∷ ws) up' before in
      absurd (let e : Some v.value ≡ None = sym there ∙ (same v.name ∙ none) in cc)

  first_later : order_of w.name v.name ≡ Less → v.name ≡ w.name
  first_later before =
      let there = first_named w ws in
      let none = none_before w.name (v ∷ vs) up before in
      absurd (let e : Some w.value ≡ None = sym there ∙ (sym (same w.name) ∙ none) in cc)

  same_name : (o : Ordering) → order_of v.name w.name ≡ o → v.name ≡ w.name
  same_name Less is = first_earlier is
  same_name Equal is = exact_bytes v.name w.name is
  same_name Greater is = first_later (nat_list_cmp_total.antisymm w.name v.name ∙ ap ordering_reverse is)

  -- so the first of both is the same one
  pub first_same : v ≡ w
  first_same =
      let name : v.name ≡ w.name = same_name (order_of v.name w.name) refl in
      let there : value_named v.name (w ∷ ws) ≡ Some w.value = subst (λ (n : List ℕ). value_named n (w ∷ ws) ≡ Some w.value) (sym name) (first_named w ws) in
      let both : Some v.value ≡ Some w.value = sym (first_named v vs) ∙ (same v.name ∙ there) in
      let value : v.value ≡ w.value = cc in
      made_same v.name w.name v.value w.value name value

  -- and behind it each name has the same value too
  pub rest_same : (name : List ℕ) → value_named name vs ≡ value_named name ws
  rest_same name = by_order (order_of name v.name) refl
    where
      passed : (o : Ordering) → order_of name v.name ≡ o → is_eq o ≡ false → value_named name vs ≡ value_named name ws
      passed o is other =
          let at : order_of name w.name ≡ o = subst (λ (x : Variable). order_of name x.name ≡ o) first_same is in
          sym (not_first name v vs o is other) ∙ (same name ∙ not_first name w ws o at other)

      by_order : (o : Ordering) → order_of name v.name ≡ o → value_named name vs ≡ value_named name ws
      by_order Less is = passed Less is refl
      by_order Greater is = passed Greater is refl
      by_order Equal is =
          let own : v.name ≡ name = sym (exact_bytes name v.name is) in
          let other : w.name ≡ name = sym (ap (λ (x : Variable). x.name) first_same) ∙ own in
          let none : value_named name vs ≡ None = subst (λ (n : List ℕ). value_named n vs ≡ None) own (none_behind v vs up) in
          let none' : value_named name ws ≡ None = subst (λ (n : List ℕ). value_named n ws ≡ None) other (none_behind w ws up') in
          none ∙ sym none'

pub all_same : (vs ws : List Variable) → IsTrue (is_ascending vs) → IsTrue (is_ascending ws) → ((name : List ℕ) → value_named name vs ≡ value_named name ws) → vs ≡ ws
all_same [] [] up up' same = refl
all_same [] (w ∷ ws) up up' same = absurd (let e : None ≡ Some w.value = same w.name ∙ first_named w ws in cc)
all_same (v ∷ vs) [] up up' same = absurd (let e : Some v.value ≡ None = sym (first_named v vs) ∙ same v.name in cc)
all_same (v ∷ vs) (w ∷ ws) up up' same =
    ap (λ (x : Variable). x ∷ vs) (first_same v w vs ws up up' same)
    ∙ ap (λ (xs : List Variable). w ∷ xs) (all_same vs ws (ascends_behind v vs up) (ascends_behind w ws up') (rest_same v w vs ws up up' same))

-- variables that give each name the value in the nearest cell that has it are all that a cell sees
pub all_seen : (b : Board) (cell : ℕ) (vars : List Variable) → IsTrue (is_ascending vars) → ((name : List ℕ) → value_named name vars ≡ value_named name (flat_map (λ c. c.variables) (up_from b.cells b cell))) → vars ≡ visible b cell
all_seen b cell vars up same = all_same vars (visible b cell) up (visible_ascends b cell) (λ name. same name ∙ sym (value_of_overlaid name (flat_map (λ c. c.variables) (up_from b.cells b cell))))

-- a name that is there keeps its value
kept_by : (q name : List ℕ) (value found : Value) (vs : List Variable) (o : Ordering) → order_of q name ≡ o → value_named name vs ≡ Some found → value_named q vs ≡ option_or (value_named q vs) (if is_eq o then Some value else None)
kept_by q name value found vs Less is there = sym (or_none (value_named q vs))
kept_by q name value found vs Greater is there = sym (or_none (value_named q vs))
kept_by q name value found vs Equal is there =
    let same : q ≡ name = exact_bytes q name is in
    rw (same, there) refl

pub name_kept : (q name : List ℕ) (value found : Value) (vs : List Variable) → value_named name vs ≡ Some found → value_named q vs ≡ option_or (value_named q vs) (value_named q (record { name = name; value = value } ∷ []))
name_kept q name value found vs there = kept_by q name value found vs (order_of q name) refl there

-- and one that isn't gets one
added_by : (q name : List ℕ) (value : Value) (vs : List Variable) (o : Ordering) → order_of q name ≡ o → value_named name vs ≡ None → (if is_eq o then Some value else value_named q vs) ≡ option_or (value_named q vs) (if is_eq o then Some value else None)
added_by q name value vs Less is none = sym (or_none (value_named q vs))
added_by q name value vs Greater is none = sym (or_none (value_named q vs))
added_by q name value vs Equal is none =
    let same : q ≡ name = exact_bytes q name is in
    rw (same, none) refl

pub name_added : (q name : List ℕ) (value : Value) (vs : List Variable) → value_named name vs ≡ None → value_named q (with_value name value vs) ≡ option_or (value_named q vs) (value_named q (record { name = name; value = value } ∷ []))
name_added q name value vs none = value_of_set q name value vs ∙ added_by q name value vs (order_of q name) refl none
