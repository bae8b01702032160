-- Edits at the first member that passes a test.
use Rattle.std.proofs.Common.{◌≡◌, ℕ, zero, suc, ◌+◌, ◌≤◌, ◌<◌, List, [], ◌∷◌, length, Bool, true, false, not, cond, if◌then◌else◌, Option, Some, None, option_map, slice_get, slice_set, get_or, remove, refl, ap, sym, ◌∙◌, arith}
use Rattle.std.specs.List.{find, insert, position, position_or_len}
use Rattle.std.proofs.lemmas.Grind.{common_steps}
use Rattle.std.proofs.lemmas.List.Folds.{find_at}
use Rattle.std.proofs.lemmas.Option.{slice_get_read}
use Rattle.zb_table.specs.Edits.{edited, removed}

-- what was there where what is made of it is there
pub mapped_from : {A B : Type 0} (f : A → B) (o : Option A) (y : B) → option_map f o ≡ Some y → (x : A) × (o ≡ Some x) × (f x ≡ y)
mapped_from f None y is = absurd (cc)
mapped_from f (Some x) y is = (x, refl, cc)

module _ {A : Type 0} (passes : A → Bool) where
  -- the place of a position
  place_is : (xs : List A) (i : ℕ) → position passes xs ≡ Some i → position_or_len passes xs ≡ i
  place_is xs i is = grind (arith, common_steps)

  no_place : (xs : List A) → position passes xs ≡ None → length xs ≤ position_or_len passes xs
  no_place xs is = grind (arith, common_steps)

  edited_first : (edit : A → A) (xs : List A) (x : A) → slice_get xs (position_or_len passes xs) ≡ Some x → edited passes edit xs ≡ Some (slice_set xs (position_or_len passes xs) (edit x))
  edited_first edit [] x at = absurd (cc)
  edited_first edit (y ∷ ys) x at = by_test (edited_first edit ys x) (passes y) at
    where
      by_test : (slice_get ys (position_or_len passes ys) ≡ Some x → edited passes edit ys ≡ Some (slice_set ys (position_or_len passes ys) (edit x))) → (t : Bool) → slice_get (y ∷ ys) (cond (not t) (1 + position_or_len passes ys) 0) ≡ Some x
          → (if t then Some (edit y ∷ ys) else option_map (λ zs. y ∷ zs) (edited passes edit ys)) ≡ Some (slice_set (y ∷ ys) (cond (not t) (1 + position_or_len passes ys) 0) (edit x))
      by_test rest true at = let same : y ≡ x = cc in ap (λ z. Some (edit z ∷ ys)) same
      by_test rest false at =
          let n : 1 + position_or_len passes ys ≡ suc (position_or_len passes ys) = omega arith in
          let later : slice_get ys (position_or_len passes ys) ≡ Some x = sym (ap (slice_get (y ∷ ys)) n) ∙ at in
          rw n (ap (option_map (λ zs. y ∷ zs)) (rest later))

  removed_within : (xs : List A) → position_or_len passes xs < length xs → removed passes xs ≡ Some (remove xs (position_or_len passes xs))
  removed_within [] within = absurd (omega arith)
  removed_within (y ∷ ys) within = by_test (removed_within ys) (passes y) within
    where
      by_test : (position_or_len passes ys < length ys → removed passes ys ≡ Some (remove ys (position_or_len passes ys))) → (t : Bool) → cond (not t) (1 + position_or_len passes ys) 0 < length (y ∷ ys)
          → (if t then Some ys else option_map (λ zs. y ∷ zs) (removed passes ys)) ≡ Some (remove (y ∷ ys) (cond (not t) (1 + position_or_len passes ys) 0))
      by_test rest true within = refl
      by_test rest false within =
          let n : 1 + position_or_len passes ys ≡ suc (position_or_len passes ys) = omega arith in
          rw n (ap (option_map (λ zs. y ∷ zs)) (rest (omega arith)))

  edited_nowhere : (edit : A → A) (xs : List A) → length xs ≤ position_or_len passes xs → edited passes edit xs ≡ None
  edited_nowhere edit [] past = refl
  edited_nowhere edit (y ∷ ys) past = by_test (edited_nowhere edit ys) (passes y) past
    where
      by_test : (length ys ≤ position_or_len passes ys → edited passes edit ys ≡ None) → (t : Bool) → length (y ∷ ys) ≤ cond (not t) (1 + position_or_len passes ys) 0 → (if t then Some (edit y ∷ ys) else option_map (λ zs. y ∷ zs) (edited passes edit ys)) ≡ None
      by_test rest true past = absurd (omega arith)
      by_test rest false past = ap (option_map (λ zs. y ∷ zs)) (rest (omega arith))

  removed_nowhere : (xs : List A) → length xs ≤ position_or_len passes xs → removed passes xs ≡ None
  removed_nowhere [] past = refl
  removed_nowhere (y ∷ ys) past = by_test (removed_nowhere ys) (passes y) past
    where
      by_test : (length ys ≤ position_or_len passes ys → removed passes ys ≡ None) → (t : Bool) → length (y ∷ ys) ≤ cond (not t) (1 + position_or_len passes ys) 0 → (if t then Some ys else option_map (λ zs. y ∷ zs) (removed passes ys)) ≡ None
      by_test rest true past = absurd (omega arith)
      by_test rest false past = ap (option_map (λ zs. y ∷ zs)) (rest (omega arith))

  -- the member at a position
  at_place : (xs : List A) (i : ℕ) (x : A) → position passes xs ≡ Some i → x ≡ get_or xs i x → slice_get xs (position_or_len passes xs) ≡ Some x
  at_place xs i x is at =
      let place = place_is xs i is in
      let within : i < length xs = grind (arith, common_steps) in
      ap (slice_get xs) place ∙ slice_get_read xs (length xs) i x refl within at

  -- at the place of the first member that passes
  pub edited_at : (edit : A → A) (xs : List A) (i : ℕ) (x : A) → position passes xs ≡ Some i → x ≡ get_or xs i x → edited passes edit xs ≡ Some (slice_set xs i (edit x))
  edited_at edit xs i x is at = edited_first edit xs x (at_place xs i x is at) ∙ ap (λ k. Some (slice_set xs k (edit x))) (place_is xs i is)

  pub removed_at : (xs : List A) (i : ℕ) → position passes xs ≡ Some i → removed passes xs ≡ Some (remove xs i)
  removed_at xs i is = removed_within xs (let within : position_or_len passes xs < length xs = grind (arith, common_steps) in within) ∙ ap (λ k. Some (remove xs k)) (place_is xs i is)

  -- and where none passes
  pub edited_none : (edit : A → A) (xs : List A) → position passes xs ≡ None → edited passes edit xs ≡ None
  edited_none edit xs is = edited_nowhere edit xs (no_place xs is)

  pub removed_none : (xs : List A) → position passes xs ≡ None → removed passes xs ≡ None
  removed_none xs is = removed_nowhere xs (no_place xs is)

-- what is taken out and put back in the same place, changed
pub put_back : {A : Type 0} (xs : List A) (i : ℕ) (y : A) → i < length xs → insert (remove xs i) i y ≡ slice_set xs i y
put_back [] i y within = absurd (omega (arith, within))
put_back (x ∷ xs) zero y within = refl
put_back (x ∷ xs) (suc i) y within = ap (λ l. x ∷ l) (put_back xs i y (omega (arith, within)))

-- what is found, by its position
pub found_at : {A : Type 0} (passes : A → Bool) (xs : List A) (i : ℕ) (x : A) → position passes xs ≡ Some i → x ≡ get_or xs i x → find passes xs ≡ Some x
found_at passes xs i x is at = find_at passes xs ∙ at_place passes xs i x is at

pub found_nowhere : {A : Type 0} (passes : A → Bool) (xs : List A) → position passes xs ≡ None → find passes xs ≡ None
found_nowhere {A} passes xs is = find_at passes xs ∙ past xs (position_or_len passes xs) (no_place passes xs is)
  where
    past : (ys : List A) (i : ℕ) → length ys ≤ i → slice_get ys i ≡ None
    past [] i le = refl
    past (y ∷ ys) zero le = absurd (omega (arith, le))
    past (y ∷ ys) (suc i) le = past ys i (omega (arith, le))

module _ {A : Type 0} (passes : A → Bool) where
  -- what is found stands at a place, and there it is taken out, or edited
  pub found_place : (xs : List A) (x : A) → find passes xs ≡ Some x
      → (i : ℕ) × (i < length xs) × (x ≡ get_or xs i x) × (removed passes xs ≡ Some (remove xs i)) × ((edit : A → A) → edited passes edit xs ≡ Some (slice_set xs i (edit x))) × (passes x ≡ true)
  found_place [] x is = absurd (cc)
  found_place (y ∷ ys) x is = by_test (passes y) refl is (found_place ys x)
    where
      by_test : (t : Bool) → passes y ≡ t → ◌≡◌ {A = Option A} (cond t (Some y) (find passes ys)) (Some x)
          → (find passes ys ≡ Some x → (i : ℕ) × (i < length ys) × (x ≡ get_or ys i x) × (removed passes ys ≡ Some (remove ys i)) × ((edit : A → A) → edited passes edit ys ≡ Some (slice_set ys i (edit x))) × (passes x ≡ true))
          → (i : ℕ) × (i < length (y ∷ ys)) × (x ≡ get_or (y ∷ ys) i x) × ((if t then Some ys else option_map (λ zs. y ∷ zs) (removed passes ys)) ≡ Some (remove (y ∷ ys) i))
          × ((edit : A → A) → (if t then Some (edit y ∷ ys) else option_map (λ zs. y ∷ zs) (edited passes edit ys)) ≡ Some (slice_set (y ∷ ys) i (edit x))) × (passes x ≡ true)
      by_test true here is later =
          let same : y ≡ x = cc in
          (0, omega arith, sym same, refl, λ edit. ap (λ z. Some (edit z ∷ ys)) same, ap passes (sym same) ∙ here)
      by_test false here is later =
          let r = later is in
          (suc r.0, omega (arith, r.1), r.2, ap (option_map (λ zs. y ∷ zs)) r.3, λ edit. ap (option_map (λ zs. y ∷ zs)) (r.4 edit), r.5)

  -- and nothing is where none is found
  pub found_none : (xs : List A) → find passes xs ≡ None → (removed passes xs ≡ None) × ((edit : A → A) → edited passes edit xs ≡ None)
  found_none [] none = (refl, λ edit. refl)
  found_none (y ∷ ys) none = by_test (passes y) none (found_none ys)
    where
      by_test : (t : Bool) → ◌≡◌ {A = Option A} (cond t (Some y) (find passes ys)) None → (find passes ys ≡ None → (removed passes ys ≡ None) × ((edit : A → A) → edited passes edit ys ≡ None))
          → ((if t then Some ys else option_map (λ zs. y ∷ zs) (removed passes ys)) ≡ None) × ((edit : A → A) → (if t then Some (edit y ∷ ys) else option_map (λ zs. y ∷ zs) (edited passes edit ys)) ≡ None)
      by_test true none later = absurd (cc)
      by_test false none later =
          let r = later none in
          (ap (option_map (λ zs. y ∷ zs)) r.0, λ edit. ap (option_map (λ zs. y ∷ zs)) (r.1 edit))
