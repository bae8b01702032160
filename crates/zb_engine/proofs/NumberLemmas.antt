-- Laws of members that have numbers, and of what each number has.
use Rattle.std.proofs.Common.{◌≡◌, ℕ, zero, suc, ◌+◌, ◌<◌, ◌≤◌, List, [], ◌∷◌, ◌++◌, length, map, set, get_or, slice_get, Bool, IsTrue, Some, refl, sym, ap, ◌∙◌, subst, arith}
use Rattle.std.specs.List.{list_all, range_with_len}
use Rattle.std.proofs.lemmas.Bool.{and_parts, and_from}
use Rattle.zb_desk.specs.Numbered.{EachFrom}

module _ {A B : Type 0} where
  -- there are as many of both
  pub each_from_length : (R : ℕ → A → B → Type 0) (n : ℕ) (xs : List A) (ys : List B) → EachFrom R n xs ys → length xs ≡ length ys
  each_from_length R n [] [] all = refl
  each_from_length R n (x ∷ xs) (y ∷ ys) all = ap suc (each_from_length R (suc n) xs ys all.1)
  each_from_length R n [] (y ∷ ys) all = absurd all
  each_from_length R n (x ∷ xs) [] all = absurd all

  -- the pair with a number
  pub each_from_at : (R : ℕ → A → B → Type 0) (at n : ℕ) (xs : List A) (ys : List B) (i : ℕ) (d : B) → at ≡ n + i → i < length ys → EachFrom R n xs ys
      → (x : A) × (slice_get xs i ≡ Some x) × R at x (get_or ys i d)
  each_from_at R at n [] [] i d is within all = absurd (let no : ⊥ = omega (arith, within) in no)
  each_from_at R at n (x ∷ xs) (y ∷ ys) zero d is within all = (x, refl, subst (λ (k : ℕ). R k x y) (let here : n ≡ at = omega (arith, is) in here) all.0)
  each_from_at R at n (x ∷ xs) (y ∷ ys) (suc i) d is within all =
      each_from_at R at (suc n) xs ys i d (omega (arith, is)) (omega (arith, within)) all.1
  each_from_at R at n [] (y ∷ ys) i d is within all = absurd all
  each_from_at R at n (x ∷ xs) [] i d is within all = absurd all

  -- what holds of all holds of all in other words
  pub each_from_weaker : (R Q : ℕ → A → B → Type 0) (n : ℕ) (xs : List A) (ys : List B) → ((k : ℕ) (x : A) (y : B) → n ≤ k → R k x y → Q k x y) → EachFrom R n xs ys → EachFrom Q n xs ys
  each_from_weaker R Q n [] [] goes all = tt
  each_from_weaker R Q n (x ∷ xs) (y ∷ ys) goes all =
      (goes n x y (omega arith) all.0, each_from_weaker R Q (suc n) xs ys (λ k a b above. goes k a b (omega (arith, above))) all.1)
  each_from_weaker R Q n [] (y ∷ ys) goes all = absurd all
  each_from_weaker R Q n (x ∷ xs) [] goes all = absurd all

  -- one of them is another
  pub each_from_set : (R Q : ℕ → A → B → Type 0) (at n : ℕ) (xs : List A) (ys : List B) (i : ℕ) (y : B) → at ≡ n + i → EachFrom R n xs ys
      → ((k : ℕ) (x : A) (z : B) → (k ≡ at → ⊥) → R k x z → Q k x z) → ((x : A) → slice_get xs i ≡ Some x → R at x (get_or ys i y) → Q at x y) → EachFrom Q n xs (set ys i y)
  each_from_set R Q at n [] [] i y is all others this = tt
  each_from_set R Q at n (x ∷ xs) (z ∷ zs) zero y is all others this =
      let here : at ≡ n = omega (arith, is) in (
        subst (λ (k : ℕ). Q k x y) here (this x refl (subst (λ (k : ℕ). R k x z) (sym here) all.0)),
        each_from_weaker R Q (suc n) xs zs (λ k a b above. others k a b (λ same. let no : ⊥ = omega (arith, above, same, here) in no)) all.1,
      )
  each_from_set R Q at n (x ∷ xs) (z ∷ zs) (suc i) y is all others this = (
    others n x z (λ same. let no : ⊥ = omega (arith, same, is) in no) all.0,
    each_from_set R Q at (suc n) xs zs i y (omega (arith, is)) all.1 others this,
  )
  each_from_set R Q at n [] (y ∷ ys) i z is all others this = absurd all
  each_from_set R Q at n (x ∷ xs) [] i z is all others this = absurd all

module _ {X : Type 0} (f g : ℕ → X) where
  -- what some numbers have is the same
  pub range_map_same : (start n : ℕ) → ((k : ℕ) → start ≤ k → g k ≡ f k) → map g (range_with_len start n) ≡ map f (range_with_len start n)
  range_map_same start zero same = refl
  range_map_same start (suc n) same =
      ap (λ x. x ∷ map g (range_with_len (start + 1) n)) (same start (omega arith))
      ∙ ap (λ xs. f start ∷ xs) (range_map_same (start + 1) n (λ k above. same k (omega (arith, above))))

  -- what one of them has is another
  pub range_map_set : (at start n i : ℕ) → at ≡ start + i → i < n → ((k : ℕ) → (k ≡ at → ⊥) → g k ≡ f k) → map g (range_with_len start n) ≡ set (map f (range_with_len start n)) i (g at)
  range_map_set at start zero i is within same = absurd (let no : ⊥ = omega (arith, within) in no)
  range_map_set at start (suc n) zero is within same =
      let here : start ≡ at = omega (arith, is) in
      ap (λ k. g k ∷ map g (range_with_len (start + 1) n)) here
      ∙ ap (λ xs. g at ∷ xs) (range_map_same (start + 1) n (λ k above. same k (λ its. let no : ⊥ = omega (arith, above, its, is) in no)))
  range_map_set at start (suc n) (suc i) is within same =
      ap (λ x. x ∷ map g (range_with_len (start + 1) n)) (same start (λ its. let no : ⊥ = omega (arith, its, is) in no))
      ∙ ap (λ xs. f start ∷ xs) (range_map_set at (start + 1) n i (omega (arith, is)) (omega (arith, within)) same)

  -- and what one of them has
  pub range_map_get : (at start n i : ℕ) (d : X) → at ≡ start + i → i < n → get_or (map f (range_with_len start n)) i d ≡ f at
  range_map_get at start zero i d is within = absurd (let no : ⊥ = omega (arith, within) in no)
  range_map_get at start (suc n) zero d is within = ap f (let here : start ≡ at = omega (arith, is) in here)
  range_map_get at start (suc n) (suc i) d is within = range_map_get at (start + 1) n i d (omega (arith, is)) (omega (arith, within))

-- the place of a number from 1 on, in a list that goes so far
pub there_within : (n p index : ℕ) → p ≤ n → p ≡ 1 + index → index < n
there_within n p index there numbered = omega (arith, there, numbered)

module _ {A : Type 0} (test : A → Bool) where
  -- where all pass a test the member at a place does
  pub all_at : (xs : List A) (i : ℕ) (d : A) → i < length xs → IsTrue (list_all test xs) → IsTrue (test (get_or xs i d))
  all_at [] i d within all = absurd (let no : ⊥ = omega (arith, within) in no)
  all_at (x ∷ xs) zero d within all = (and_parts (test x) (list_all test xs) all).0
  all_at (x ∷ xs) (suc i) d within all = all_at xs i d (omega (arith, within)) (and_parts (test x) (list_all test xs) all).1

  -- and all do where one that does is put
  pub all_put : (xs : List A) (i : ℕ) (a : A) → IsTrue (list_all test xs) → IsTrue (test a) → IsTrue (list_all test (set xs i a))
  all_put [] i a all this = refl
  all_put (x ∷ xs) zero a all this = and_from (test a) (list_all test xs) this (and_parts (test x) (list_all test xs) all).1
  all_put (x ∷ xs) (suc i) a all this = let parts = and_parts (test x) (list_all test xs) all in and_from (test x) (list_all test (set xs i a)) parts.0 (all_put xs i a parts.1 this)

-- the member of a list that is made of another
pub slice_get_made : {A B : Type 0} (f : A → B) (xs : List A) (i : ℕ) (x : A) → slice_get xs i ≡ Some x → slice_get (map f xs) i ≡ Some (f x)
slice_get_made f [] i x is = absurd (cc)
slice_get_made f (y ∷ ys) zero x is = let same : y ≡ x = cc in ap (λ z. Some (f z)) same
slice_get_made f (y ∷ ys) (suc i) x is = slice_get_made f ys i x is

-- a member that is there, whatever stands for one that isn't
pub get_within : {A : Type 0} (xs : List A) (i : ℕ) (a b : A) → i < length xs → get_or xs i a ≡ get_or xs i b
get_within [] i a b within = absurd (let no : ⊥ = omega (arith, within) in no)
get_within (x ∷ xs) zero a b within = refl
get_within (x ∷ xs) (suc i) a b within = get_within xs i a b (omega (arith, within))

-- the member that was put at a place
pub get_put : {A : Type 0} (xs : List A) (i : ℕ) (a d : A) → i < length xs → get_or (set xs i a) i d ≡ a
get_put [] i a d within = absurd (let no : ⊥ = omega (arith, within) in no)
get_put (x ∷ xs) zero a d within = refl
get_put (x ∷ xs) (suc i) a d within = get_put xs i a d (omega (arith, within))

-- what is made of each of them
pub get_made : {A B : Type 0} (f : A → B) (xs : List A) (i : ℕ) (d : A) (e : B) → i < length xs → get_or (map f xs) i e ≡ f (get_or xs i d)
get_made f [] i d e within = absurd (let no : ⊥ = omega (arith, within) in no)
get_made f (x ∷ xs) zero d e within = refl
get_made f (x ∷ xs) (suc i) d e within = get_made f xs i d e (omega (arith, within))

pub put_made : {A B : Type 0} (f : A → B) (xs : List A) (i : ℕ) (a : A) → map f (set xs i a) ≡ set (map f xs) i (f a)
put_made f [] i a = refl
put_made f (x ∷ xs) zero a = refl
put_made f (x ∷ xs) (suc i) a = ap (λ ys. f x ∷ ys) (put_made f xs i a)

-- a place that was put anew
pub put_again : {A : Type 0} (xs : List A) (i : ℕ) (a b : A) → set (set xs i a) i b ≡ set xs i b
put_again [] i a b = refl
put_again (x ∷ xs) zero a b = refl
put_again (x ∷ xs) (suc i) a b = ap (λ ys. x ∷ ys) (put_again xs i a b)

-- what is there is put again
pub put_same : {A : Type 0} (xs : List A) (i : ℕ) (d : A) → set xs i (get_or xs i d) ≡ xs
put_same [] i d = refl
put_same (x ∷ xs) zero d = refl
put_same (x ∷ xs) (suc i) d = ap (λ ys. x ∷ ys) (put_same xs i d)

-- the member at a place
pub member : {A : Type 0} (xs : List A) (i : ℕ) → i < length xs → A
member [] i within = absurd (let no : ⊥ = omega (arith, within) in no)
member (x ∷ xs) zero within = x
member (x ∷ xs) (suc i) within = member xs i (omega (arith, within))

-- what is made of each stays where one that makes the same is put
pub put_made_same : {A B : Type 0} (f : A → B) (xs : List A) (i : ℕ) (a d : A) → f a ≡ f (get_or xs i d) → map f (set xs i a) ≡ map f xs
put_made_same f [] i a d same = refl
put_made_same f (x ∷ xs) zero a d same = ap (λ b. b ∷ map f xs) same
put_made_same f (x ∷ xs) (suc i) a d same = ap (λ ys. f x ∷ ys) (put_made_same f xs i a d same)

-- and grows by one where one that makes one more is
pub put_made_more : {A B : Type 0} (f : A → List B) (xs : List A) (i : ℕ) (a b d : A) (y : B) → i < length xs → f b ≡ f a ++ y ∷ [] → f a ≡ f (get_or xs i d)
    → map f (set (set xs i a) i b) ≡ set (map f xs) i (get_or (map f xs) i [] ++ y ∷ [])
put_made_more f xs i a b d y within more same =
    ap (map f) (put_again xs i a b) ∙ (put_made f xs i b ∙ ap (set (map f xs) i) (more ∙ ap (λ zs. zs ++ y ∷ []) (same ∙ sym (get_made f xs i d [] within))))

-- the first of some, if there are any
pub first_there : {A : Type 0} (xs : List A) (x : A) → 0 < length xs → x ≡ get_or xs 0 x → slice_get xs 0 ≡ Some x
first_there [] x some is = absurd (let no : ⊥ = omega (arith, some) in no)
first_there (y ∷ ys) x some is = ap (λ z. Some z) (sym is)
