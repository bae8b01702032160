-- The last row that passes, from the back.
use Rattle.std.proofs.Common.{◌≡◌, ℕ, ◌+◌, ◌-◌, ◌<◌, ◌≤◌, List, [], ◌∷◌, ◌++◌, length, take, get_or, Bool, if◌then◌else◌, Option, Some, None, option_map, refl, sym, ap, ◌∙◌, arith}
use Rattle.std.specs.Option.{option_or}
use Rattle.std.proofs.lemmas.List.{take_more}
use Rattle.zb_table.specs.declared.row.Place.{Place}
use Rattle.zb_table.specs.Rows.{last_passing}
use Rattle.zb_table.specs.Places.{held, rows_in}

module _ {A : Type 0} where
  or_twice : (a b c : Option A) → option_or (option_or a b) c ≡ option_or a (option_or b c)
  or_twice None b c = refl
  or_twice (Some x) b c = refl

  or_none : (a : Option A) → option_or a None ≡ a
  or_none None = refl
  or_none (Some x) = refl

  -- the key of the first of two that is there
  pub key_first : (key : A → ℕ) (a b : Option A) (k : ℕ) → Some k ≡ option_map key a → Some k ≡ option_map key (option_or a b)
  key_first key None b k is = absurd (cc)
  key_first key (Some x) b k is = is

  pub key_second : (key : A → ℕ) (a b : Option A) → None ≡ option_map key a → option_map key (option_or a b) ≡ option_map key b
  key_second key None b is = refl
  key_second key (Some x) b is = absurd (cc)

  held_more : (row : Option A) (rows more : List A) → held row (rows ++ more) ≡ held row rows ++ more
  held_more None rows more = refl
  held_more (Some r) rows more = refl

  rows_more : (ps : List (Place A)) (p : Place A) → rows_in (ps ++ p ∷ []) ≡ rows_in ps ++ held p.row []
  rows_more [] p = refl
  rows_more (q ∷ ps) p = ap (held q.row) (rows_more ps p) ∙ held_more q.row (rows_in ps) (held p.row [])

module _ {A : Type 0} (passes : A → Bool) where
  last_more : (xs ys : List A) → last_passing passes (xs ++ ys) ≡ option_or (last_passing passes ys) (last_passing passes xs)
  last_more [] ys = sym (or_none (last_passing passes ys))
  last_more (x ∷ xs) ys =
      let t : Option A = if passes x then Some x else None in
      ap (λ (o : Option A). option_or o t) (last_more xs ys) ∙ or_twice (last_passing passes ys) (last_passing passes xs) t

  -- one step towards the front
  pub one_back : (ps : List (Place A)) (i : ℕ) (p : Place A) → 0 < i → i ≤ length ps → p ≡ get_or ps (i - 1) p
      → last_passing passes (rows_in (take i ps)) ≡ option_or (last_passing passes (held p.row [])) (last_passing passes (rows_in (take (i - 1) ps)))
  one_back ps i p above within at =
      let n : (i - 1) + 1 ≡ i = omega arith in
      let inside : i - 1 < length ps = omega arith in
      let split : take i ps ≡ take (i - 1) ps ++ p ∷ [] = ap (λ (k : ℕ). take k ps) (sym n) ∙ (take_more ps (i - 1) p inside ∙ ap (λ (q : Place A). take (i - 1) ps ++ q ∷ []) (sym at)) in
      ap (λ (l : List (Place A)). last_passing passes (rows_in l)) split
      ∙ (ap (last_passing passes) (rows_more (take (i - 1) ps) p) ∙ last_more (rows_in (take (i - 1) ps)) (held p.row []))
