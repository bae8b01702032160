-- The places of what passes, item by item.
use Rattle.std.proofs.Common.{◌≡◌, ℕ, ◌+◌, suc, ◌<◌, List, [], ◌∷◌, ◌++◌, length, take, get_or, slice_get, map, filter, nat_lt, not, cond, append-nil, Bool, true, false, if◌then◌else◌, Option, Some, None, refl, sym, ap, subst, ◌∙◌, arith, length-take}
use Rattle.std.proofs.lemmas.List.{take_more}
use Rattle.std.proofs.lemmas.Bool.Decides.{nat_tests}
use Rattle.std.specs.List.{find, position, position_or_len}
use Rattle.std.specs.Option.{option_and_then, option_map_or}
use Rattle.std.specs.Map.{update}
use Rattle.std.specs.Str.{bytes_eq}
use Rattle.std.specs.Cmp.Lexicographic.{bytes_decides}
use Rattle.zb_graph.specs.Places.{places_from, places}

-- with one more item
pub places_from-push : {A : Type 0} (first : ℕ) (p : A → Bool) (xs : List A) (x : A) → places_from first p (xs ++ x ∷ []) ≡ places_from first p xs ++ (if p x then (first + length xs) ∷ [] else [])
places_from-push {A} first p [] x =
    let here : first ≡ first + 0 = omega arith in
    ap (λ (n : ℕ). if p x then n ∷ [] else []) here
places_from-push {A} first p (y ∷ ys) x =
    let same : (first + 1) + length ys ≡ first + length (y ∷ ys) = omega arith in
    let rest = subst (λ (n : ℕ). places_from (first + 1) p (ys ++ x ∷ []) ≡ places_from (first + 1) p ys ++ (if p x then n ∷ [] else [])) same (places_from-push (first + 1) p ys x) in
    by_test (p y) (places_from (first + 1) p (ys ++ x ∷ [])) (places_from (first + 1) p ys) (if p x then (first + length (y ∷ ys)) ∷ [] else []) rest
  where
    by_test : (t : Bool) (a b c : List ℕ) → a ≡ b ++ c → (if t then first ∷ a else a) ≡ (if t then first ∷ b else b) ++ c
    by_test true a b c e = ap (λ (l : List ℕ). first ∷ l) e
    by_test false a b c e = e

-- up to the item at a place, and with it
pub places_more : {A : Type 0} (p : A → Bool) (xs : List A) (i : ℕ) (x : A) → i < length xs → x ≡ get_or xs i x → places p (take (i + 1) xs) ≡ places p (take i xs) ++ (if p x then i ∷ [] else [])
places_more p xs i x within is =
    let more : take (i + 1) xs ≡ take i xs ++ x ∷ [] = take_more xs i x within ∙ ap (λ y. take i xs ++ y ∷ []) (sym is) in
    let long : 0 + length (take i xs) ≡ i = omega (arith, length-take i xs) in
    ap (places p) more ∙ (places_from-push 0 p (take i xs) x ∙ ap (λ (n : ℕ). places p (take i xs) ++ (if p x then n ∷ [] else [])) long)

-- what stands there, where the items of a list are at the places from the first on
pub found_from : {A : Type 0} (at : ℕ → Option A) (first : ℕ) (p : A → Bool) (xs : List A) → ((k n : ℕ) → n ≡ first + k → at n ≡ slice_get xs k) → map at (places_from first p xs) ≡ map Some (filter p xs)
found_from at first p [] stands = refl
found_from at first p (x ∷ xs) stands =
    let here : at first ≡ Some x = stands 0 first (omega arith) in
    let later : map at (places_from (first + 1) p xs) ≡ map Some (filter p xs) = found_from at (first + 1) p xs (λ k n is. stands (suc k) n (omega (arith, is))) in
    by_test (p x) here later
  where
    by_test : (t : Bool) → at first ≡ Some x → map at (places_from (first + 1) p xs) ≡ map Some (filter p xs)
        → map at (if t then first ∷ places_from (first + 1) p xs else places_from (first + 1) p xs) ≡ map Some (if t then x ∷ filter p xs else filter p xs)
    by_test true here later = rw (here, later) refl
    by_test false here later = later

-- what stands at the places
pub found_at : {A : Type 0} (p : A → Bool) (xs : List A) → map (slice_get xs) (places p xs) ≡ map Some (filter p xs)
found_at p xs = found_from (slice_get xs) 0 p xs (λ k n is. let same : n ≡ k = omega (arith, is) in ap (slice_get xs) same)

-- the first place
first_from : {A : Type 0} (first : ℕ) (p : A → Bool) (xs : List A) → slice_get (places_from first p xs) 0 ≡ cond (nat_lt (position_or_len p xs) (length xs)) (Some (first + position_or_len p xs)) None
first_from first p [] = refl
first_from first p (x ∷ xs) = by_test (p x) (first_from (first + 1) p xs)
  where
    by_test : (t : Bool) → slice_get (places_from (first + 1) p xs) 0 ≡ cond (nat_lt (position_or_len p xs) (length xs)) (Some ((first + 1) + position_or_len p xs)) None
        → slice_get (if t then first ∷ places_from (first + 1) p xs else places_from (first + 1) p xs) 0
        ≡ cond (nat_lt (cond (not t) (1 + position_or_len p xs) 0) (suc (length xs))) (Some (first + cond (not t) (1 + position_or_len p xs) 0)) None
    by_test true later = grind (arith, nat_tests)
    by_test false later = grind (arith, nat_tests)

pub first_place : {A : Type 0} (p : A → Bool) (xs : List A) → slice_get (places p xs) 0 ≡ position p xs
first_place p xs =
    let same : 0 + position_or_len p xs ≡ position_or_len p xs = omega arith in
    first_from 0 p xs ∙ ap (λ (n : ℕ). cond (nat_lt (position_or_len p xs) (length xs)) (Some n) None) same

-- what stands at the first place
first_found : {A : Type 0} (at : ℕ → Option A) (first : ℕ) (p : A → Bool) (xs : List A) → ((k n : ℕ) → n ≡ first + k → at n ≡ slice_get xs k) → option_and_then at (slice_get (places_from first p xs) 0) ≡ find p xs
first_found at first p [] stands = refl
first_found {A} at first p (x ∷ xs) stands =
    let here : at first ≡ Some x = stands 0 first (omega arith) in
    let later : option_and_then at (slice_get (places_from (first + 1) p xs) 0) ≡ find p xs = first_found at (first + 1) p xs (λ k n is. stands (suc k) n (omega (arith, is))) in
    by_test (p x) here later
  where
    by_test : (t : Bool) → at first ≡ Some x → option_and_then at (slice_get (places_from (first + 1) p xs) 0) ≡ find p xs
        → option_and_then at (slice_get (if t then first ∷ places_from (first + 1) p xs else places_from (first + 1) p xs) 0) ≡ (if t then Some x else find p xs)
    by_test true here later = here
    by_test false here later = later

-- what is kept in a value that is seen from outside
module _ {A M : Type 0} (p : A → Bool) (items : M → List A) (inside outside : M) (kept : List ℕ) (view : inside ≡ outside) (is : kept ≡ places p (items inside)) where
  pub number_kept : (result : Option ℕ) → result ≡ slice_get kept 0 → result ≡ position p (items outside)
  number_kept result first = first ∙ (ap (λ (l : List ℕ). slice_get l 0) is ∙ (first_place p (items inside) ∙ ap (λ (m : M). position p (items m)) view))

  pub item_kept : (slice : List A) (result : Option A) → slice ≡ items inside → result ≡ option_and_then (slice_get slice) (slice_get kept 0) → result ≡ find p (items outside)
  item_kept slice result whole first =
      first
      ∙ (ap (λ (l : List A). option_and_then (slice_get l) (slice_get kept 0)) whole
      ∙ (ap (λ (l : List ℕ). option_and_then (slice_get (items inside)) (slice_get l 0)) is
      ∙ (first_found (slice_get (items inside)) 0 p (items inside) (λ k n at. let same : n ≡ k = omega (arith, at) in ap (slice_get (items inside)) same) ∙ ap (λ (m : M). find p (items m)) view)))

  pub items_kept : map (slice_get (items outside)) kept ≡ map Some (filter p (items outside))
  items_kept = ap (map (slice_get (items outside))) (is ∙ ap (λ (m : M). places p (items m)) view) ∙ found_at p (items outside)

-- the list of a name, where one name gets a place more
pub added_under : {X : Type 0} (items : X → List ℕ) (f g : List ℕ → Option X) (name other : List ℕ) (place : ℕ) (w : X) → g other ≡ update bytes_eq f name (Some w) other → items w ≡ option_map_or items (f name) [] ++ place ∷ []
    → option_map_or items (g other) [] ≡ option_map_or items (f other) [] ++ (if bytes_eq name other then place ∷ [] else [])
added_under {X} items f g name other place w updates added = by_test (bytes_eq name other) refl
  where
    by_test : (t : Bool) → bytes_eq name other ≡ t → option_map_or items (g other) [] ≡ option_map_or items (f other) [] ++ (if t then place ∷ [] else [])
    by_test true same =
        let is : name ≡ other = (bytes_decides name other).0 same in
        let now : g other ≡ Some w = updates ∙ ap (λ (t : Bool). cond t (Some w) (f other)) same in
        ap (λ (o : Option X). option_map_or items o []) now ∙ (added ∙ ap (λ (n : List ℕ). option_map_or items (f n) [] ++ place ∷ []) is)
    by_test false apart =
        let now : g other ≡ f other = updates ∙ ap (λ (t : Bool). cond t (Some w) (f other)) apart in
        ap (λ (o : Option X). option_map_or items o []) now ∙ sym (append-nil (option_map_or items (f other) []))
