-- Laws of lists, and of members by their places and numbers.
use Rattle.std.proofs.Common.{◌≡◌, ℕ, zero, suc, ◌+◌, ◌-◌, ◌<◌, ◌≤◌, List, [], ◌∷◌, ◌++◌, length, map, slice_get, Option, Some, None, refl, sym, ap, ◌∙◌, subst, arith}
use Rattle.std.specs.Option.{option_or}
use Rattle.std.specs.List.{AllByRecursion}
use Rattle.std.proofs.lemmas.List.{append-nil}
use Rattle.zb_desk.specs.Numbered.{EachFrom, OfNumber}

-- nothing more
pub append_none : {A : Type 0} (xs : List A) → xs ≡ xs ++ []
append_none xs = sym (append-nil xs)

-- what is some is one thing
pub some_same : {A : Type 0} (x y : A) → Some x ≡ Some y → x ≡ y
some_same x y e = cc

pub one_at : {A : Type 0} (xs : List A) (k : ℕ) (x y : A) → slice_get xs k ≡ Some x → slice_get xs k ≡ Some y → x ≡ y
one_at xs k x y here there = some_same x y (sym here ∙ there)

-- there are none
pub no_members : {A : Type 0} (xs : List A) → length xs ≡ 0 → xs ≡ []
no_members [] none = refl
no_members (x ∷ xs) none = absurd (omega (arith, none))

-- there is a member at each place
pub member_at : {A : Type 0} (xs : List A) (k : ℕ) → k < length xs → (x : A) × (slice_get xs k ≡ Some x)
member_at [] k within = absurd (omega (arith, within))
member_at (x ∷ xs) zero within = (x, refl)
member_at (x ∷ xs) (suc k) within = member_at xs k (omega (arith, within))

-- no member stands behind the end
pub place_within : {A : Type 0} (xs : List A) (k : ℕ) (x : A) → slice_get xs k ≡ Some x → k < length xs
place_within [] k x at = absurd (cc (at))
place_within (y ∷ xs) zero x at = omega arith
place_within (y ∷ xs) (suc k) x at = let behind = place_within xs k x at in omega (arith, behind)

-- the member at a place of what a list is mapped to
pub mapped_at : {A B : Type 0} (f : A → B) (xs : List A) (k : ℕ) (x : A) → slice_get xs k ≡ Some x → slice_get (map f xs) k ≡ Some (f x)
mapped_at f [] k x at = absurd (cc (at))
mapped_at f (y ∷ xs) zero x at = ap (λ (z : _). Some (f z)) (some_same y x at)
mapped_at f (y ∷ xs) (suc k) x at = mapped_at f xs k x at

-- and what a member there comes from
pub unmapped_at : {A B : Type 0} (f : A → B) (xs : List A) (k : ℕ) (y : B) → slice_get (map f xs) k ≡ Some y → (x : A) × (slice_get xs k ≡ Some x) × (f x ≡ y)
unmapped_at f [] k y at = absurd (cc (at))
unmapped_at f (x ∷ xs) zero y at = (x, refl, some_same (f x) y at)
unmapped_at f (x ∷ xs) (suc k) y at = unmapped_at f xs k y at

pub map_map : {A B C : Type 0} (g : B → C) (f : A → B) (xs : List A) → map g (map f xs) ≡ map (λ x. g (f x)) xs
map_map g f [] = refl
map_map g f (x ∷ xs) = ap (λ (l : List _). g (f x) ∷ l) (map_map g f xs)

-- a member of a list all of whose members have P
pub all_at : {A : Type 0} (P : A → Type 0) (xs : List A) (k : ℕ) (x : A) → AllByRecursion P xs → slice_get xs k ≡ Some x → P x
all_at P [] k x all at = absurd (cc (at))
all_at P (y ∷ xs) zero x all at = subst P (some_same y x at) all.0
all_at P (y ∷ xs) (suc k) x all at = all_at P xs k x all.1 at

pub all_by : {A : Type 0} (P : A → Type 0) (xs : List A) → ((k : ℕ) (x : A) → slice_get xs k ≡ Some x → P x) → AllByRecursion P xs
all_by P [] each = tt
all_by P (x ∷ xs) each = (each 0 x refl, all_by P xs (λ k y at. each (suc k) y at))

-- the member with a number is the one at the place before it
pub of_number : {A : Type 0} (xs : List A) (k : ℕ) (x : A) (P : A → Type 0) → slice_get xs k ≡ Some x → OfNumber xs (suc k) P → P x
of_number xs k x P at is =
    let place : suc k - 1 ≡ k = omega arith in
    let there : slice_get xs k ≡ Some is.0 = subst (λ (j : ℕ). slice_get xs j ≡ Some is.0) place is.2 in
    subst P (one_at xs k is.0 x there at) is.3

pub has_number : {A : Type 0} (xs : List A) (k : ℕ) (x : A) (P : A → Type 0) → slice_get xs k ≡ Some x → P x → OfNumber xs (suc k) P
has_number xs k x P at is =
    let place : k ≡ suc k - 1 = omega arith in
    (x, omega arith, subst (λ (j : ℕ). slice_get xs j ≡ Some x) place at, is)

pub number_behind : (number : ℕ) → 1 ≤ number → number ≡ suc (number - 1)
number_behind number some = omega (arith, some)

-- what is known of members by their numbers
module _ {A B : Type 0} (R : ℕ → A → B → Type 0) where
  pub each_length : (n : ℕ) (xs : List A) (ys : List B) → EachFrom R n xs ys → length xs ≡ length ys
  each_length n [] [] each = refl
  each_length n (x ∷ xs) (y ∷ ys) each = ap suc (each_length (suc n) xs ys each.1)
  each_length n [] (y ∷ ys) each = absurd each
  each_length n (x ∷ xs) [] each = absurd each

  pub each_at : (n : ℕ) (xs : List A) (ys : List B) (k : ℕ) (x : A) (y : B) → EachFrom R n xs ys → slice_get xs k ≡ Some x → slice_get ys k ≡ Some y → R (n + k) x y
  each_at n [] ys k x y each at_x at_y = absurd (cc (at_x))
  each_at n (a ∷ xs) [] k x y each at_x at_y = absurd each
  each_at n (a ∷ xs) (b ∷ ys) zero x y each at_x at_y =
      let here : n ≡ n + 0 = omega arith in
      subst (λ (m : ℕ). R m x y) here (subst (λ (z : A). R n z y) (some_same a x at_x) (subst (λ (z : B). R n a z) (some_same b y at_y) each.0))
  each_at n (a ∷ xs) (b ∷ ys) (suc k) x y each at_x at_y =
      let same : suc n + k ≡ n + suc k = omega arith in
      subst (λ (m : ℕ). R m x y) same (each_at (suc n) xs ys k x y each.1 at_x at_y)

  pub each_by : (n : ℕ) (xs : List A) (ys : List B) → length xs ≡ length ys → ((k : ℕ) (x : A) (y : B) → slice_get xs k ≡ Some x → slice_get ys k ≡ Some y → R (n + k) x y) → EachFrom R n xs ys
  each_by n [] [] many each = tt
  each_by n [] (y ∷ ys) many each = absurd (omega (arith, many))
  each_by n (x ∷ xs) [] many each = absurd (omega (arith, many))
  each_by n (x ∷ xs) (y ∷ ys) many each =
      let here : n + 0 ≡ n = omega arith in (
        subst (λ (m : ℕ). R m x y) here (each 0 x y refl refl),
        each_by (suc n) xs ys (omega (arith, many)) (λ k a b at_a at_b. let same : n + suc k ≡ suc n + k = omega arith in subst (λ (m : ℕ). R m a b) same (each (suc k) a b at_a at_b)),
      )

  -- where the first has the number 1
  pub first_at : (xs : List A) (ys : List B) (k : ℕ) (x : A) (y : B) → EachFrom R 1 xs ys → slice_get xs k ≡ Some x → slice_get ys k ≡ Some y → R (suc k) x y
  first_at xs ys k x y each at_x at_y = let same : 1 + k ≡ suc k = omega arith in subst (λ (m : ℕ). R m x y) same (each_at 1 xs ys k x y each at_x at_y)

  pub first_by : (xs : List A) (ys : List B) → length xs ≡ length ys → ((k : ℕ) (x : A) (y : B) → slice_get xs k ≡ Some x → slice_get ys k ≡ Some y → R (suc k) x y) → EachFrom R 1 xs ys
  first_by xs ys many each = each_by 1 xs ys many (λ k x y at_x at_y. let same : suc k ≡ 1 + k = omega arith in subst (λ (m : ℕ). R m x y) same (each k x y at_x at_y))

  -- one pair more
  pub each_more : (n : ℕ) (xs : List A) (ys : List B) (x : A) (y : B) → EachFrom R n xs ys → R (n + length xs) x y → EachFrom R n (xs ++ x ∷ []) (ys ++ y ∷ [])
  each_more n [] [] x y each last = let here : n + 0 ≡ n = omega arith in (subst (λ (m : ℕ). R m x y) here last, tt)
  each_more n (a ∷ xs) (b ∷ ys) x y each last =
      let same : n + length (a ∷ xs) ≡ suc n + length xs = omega arith in
      (each.0, each_more (suc n) xs ys x y each.1 (subst (λ (m : ℕ). R m x y) same last))
  each_more n [] (b ∷ ys) x y each last = absurd each
  each_more n (a ∷ xs) [] x y each last = absurd each

-- either, or the other where there is none
pub or_none : {A : Type 0} (o : Option A) → option_or o None ≡ o
or_none None = refl
or_none (Some x) = refl

pub or_or : {A : Type 0} (a b c : Option A) → option_or (option_or a b) c ≡ option_or a (option_or b c)
or_or None b c = refl
or_or (Some x) b c = refl
