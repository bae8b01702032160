-- Tokens at a spot, found by the number of their place.
use Rattle.std.proofs.Common.{◌≡◌, ℕ, ◌==◌, List, [], ◌∷◌, Bool, true, false, ◌&&◌, ◌||◌, cond, Option, Some, refl, sym, ap, ◌∙◌, arith}
use Rattle.std.specs.List.{find, list_any}
use Rattle.std.specs.Str.{bytes_eq}
use Rattle.std.proofs.lemmas.Bool.{and_parts}
use Rattle.std.proofs.lemmas.Bool.Decides.{nat_tests}
use Rattle.std.proofs.lemmas.Slice.Eq.{bytes_eq-Decides}
use Rattle.zb_groups.specs.declared.held.Held.{Held}
use Rattle.zb_tokens.specs.declared.board.Token.{Token}
use Rattle.zb_tokens.specs.declared.board.Spot.{Spot}
use Rattle.zb_tokens.specs.declared.board.Spot.TheVariants as spots
use Rattle.zb_tokens.specs.Board.{is_spot}
use Rattle.zb_tokens.specs.MoveEnter.{stands_at}
use Rattle.zb_tokens.specs.Places.{id_of, place_number}
use Rattle.zb_places.specs.Places.{first_there}

-- spots that are one are the same
pub same_spot : (a b : Spot) → is_spot a b ≡ true → a ≡ b
same_spot (spots.OnFlow a) (spots.OnFlow b) is = ap (λ (id : List ℕ). spots.OnFlow id) ((bytes_eq-Decides a b).0 is)
same_spot (spots.BeforeNode a) (spots.BeforeNode b) is = ap (λ (id : List ℕ). spots.BeforeNode id) ((bytes_eq-Decides a b).0 is)
same_spot (spots.OnFlow a) (spots.BeforeNode b) is = absurd (cc)
same_spot (spots.BeforeNode a) (spots.OnFlow b) is = absurd (cc)

-- and so is the only one of some
pub only_spot : (a b : Spot) → list_any (is_spot a) (b ∷ []) ≡ true → a ≡ b
only_spot a b is = same_spot a b (unless (is_spot a b) is)
  where
    unless : (t : Bool) → (t || false) ≡ true → t ≡ true
    unless true it = refl
    unless false it = absurd (cc)

pub spot_itself : (a : Spot) → is_spot a a ≡ true
spot_itself (spots.OnFlow id) = (bytes_eq-Decides id id).1 refl
spot_itself (spots.BeforeNode id) = (bytes_eq-Decides id id).1 refl

-- the first that passes is that of another test that all pass alike
pub find_same : {A : Type 0} (p q : A → Bool) (xs : List A) → ((x : A) → p x ≡ q x) → find p xs ≡ find q xs
find_same p q [] same = refl
find_same p q (x ∷ xs) same = rw (same x) (ap (cond (q x) (Some x)) (find_same p q xs same))

module _ (scope : ℕ) (spot : Spot) where
  -- a token that stands there has the number of the place
  at_number : (t : Token) → stands_at scope spot t ≡ true → (place_number t.scope (id_of t.spot) == place_number scope (id_of spot)) ≡ true
  at_number t stands =
      let both = and_parts (t.scope == scope) (is_spot t.spot spot) stands in
      let one : t.scope ≡ scope = grind (arith, nat_tests, both.0) in
      let at : t.spot ≡ spot = same_spot t.spot spot both.1 in
      let same : place_number t.scope (id_of t.spot) ≡ place_number scope (id_of spot) = ap (λ (s : ℕ). place_number s (id_of t.spot)) one ∙ ap (λ (s : Spot). place_number scope (id_of s)) at in
      grind (arith, nat_tests, same)

  by_test : (t : Token) (u : Bool) → stands_at scope spot t ≡ u → ((place_number t.scope (id_of t.spot) == place_number scope (id_of spot)) && u) ≡ u
  by_test t true stands = rw (at_number t stands) refl
  by_test t false apart = nowhere (place_number t.scope (id_of t.spot) == place_number scope (id_of spot))
    where
      nowhere : (b : Bool) → (b && false) ≡ false
      nowhere true = refl
      nowhere false = refl

  -- the first token of that number that stands there is the first that does
  pub found_there : (n : ℕ) (rows : List (Held Token)) → n ≡ place_number scope (id_of spot)
      → find (λ h. (place_number h.row.scope (id_of h.row.spot) == n) && stands_at scope spot h.row) rows ≡ first_there scope spot rows
  found_there n rows is =
      ap (λ (k : ℕ). find (λ (h : Held Token). (place_number h.row.scope (id_of h.row.spot) == k) && stands_at scope spot h.row) rows) is
      ∙ find_same (λ (h : Held Token). (place_number h.row.scope (id_of h.row.spot) == place_number scope (id_of spot)) && stands_at scope spot h.row) (λ (h : Held Token). stands_at scope spot h.row) rows
      (λ h. by_test h.row (stands_at scope spot h.row) refl)
