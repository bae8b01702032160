-- What stands under a key, where a row is put.
use Rattle.std.proofs.Common.{◌≡◌, ℕ, ◌==◌, List, Bool, true, false, ◌&&◌, if◌then◌else◌, is_some, Option, Some, None, refl, sym, ap, subst, ◌∙◌, option_map, arith}
use Rattle.std.specs.Option.{option_or, option_map_or}
use Rattle.std.proofs.lemmas.Bool.Decides.{nat_tests}
use Rattle.zb_table.specs.Rows.{row_at, with_row}
use Rattle.zb_table.proofs.Reading.{read_put}
use Rattle.zb_definitions.specs.Versions.{greater_key}

whole : {A : Type 0} (found : Option A) → option_map_or (λ x. Some x) found None ≡ found
whole None = refl
whole (Some x) = refl

-- the row with a key, where one is put
pub row_put : {A : Type 0} (key : A → ℕ) (new : A) (k : ℕ) (rows : List A) → row_at key k (with_row key new rows) ≡ (if key new == k then Some new else row_at key k rows)
row_put {A} key new k rows = sym (whole (row_at key k (with_row key new rows))) ∙ (read_put key (λ (x : A). Some x) None new k rows ∙ by_test (key new == k))
  where
    by_test : (t : Bool) → (if t then Some new else option_map_or (λ (x : A). Some x) (row_at key k rows) None) ≡ (if t then Some new else row_at key k rows)
    by_test true = refl
    by_test false = whole (row_at key k rows)

-- what is read of it
pub read_where : {A V : Type 0} (read : A → V) (t : Bool) (new : A) (found : Option A) → option_map read (if t then Some new else found) ≡ (if t then Some (read new) else option_map read found)
read_where read true new found = refl
read_where read false new found = refl

-- two tests, one behind the other
pub if_both : {A : Type 0} (t u : Bool) (a b : A) → (if t then (if u then a else b) else b) ≡ (if t && u then a else b)
if_both true u a b = refl
if_both false u a b = refl

module _ (read : ℕ → Option ℕ) (key other : ℕ) where
  some_or : (found : Option ℕ) (v : ℕ) → is_some found ≡ false → Some v ≡ option_or found (Some v)
  some_or None v none = refl
  some_or (Some x) v none = absurd (cc)

  or_none : (found : Option ℕ) → found ≡ option_or found None
  or_none None = refl
  or_none (Some x) = refl

  -- what is put under a key that has nothing comes behind what there is
  pub put_absent : (v : ℕ) → is_some (read key) ≡ false → (if key == other then Some v else read other) ≡ option_or (read other) (if key == other then Some v else None)
  put_absent v none = by_test (key == other) refl
    where
      by_test : (t : Bool) → (key == other) ≡ t → (if t then Some v else read other) ≡ option_or (read other) (if t then Some v else None)
      by_test true same =
          let is : key ≡ other = grind (arith, nat_tests) in
          some_or (read other) v (subst (λ (k : ℕ). is_some (read k) ≡ false) is none)
      by_test false apart = or_none (read other)

  -- the greater key is put in place of the one that was there
  pub put_greater : (definition greater : ℕ) → greater ≡ greater_key definition (read key) → (if key == other then Some greater else read other) ≡ (if key == other then Some (greater_key definition (read other)) else read other)
  put_greater definition greater is = by_test (key == other) refl
    where
      by_test : (t : Bool) → (key == other) ≡ t → (if t then Some greater else read other) ≡ (if t then Some (greater_key definition (read other)) else read other)
      by_test true same =
          let at : key ≡ other = grind (arith, nat_tests) in
          ap (λ (k : ℕ). Some k) (is ∙ ap (λ (k : ℕ). greater_key definition (read k)) at)
      by_test false apart = refl
