-- A text that is told by its parts.
use Rattle.std.proofs.Common.{◌≡◌, ◌≢◌, ℕ, List, ◌∷◌, [], ◌++◌, Bool, true, false, ◌==◌, refl, arith}
use Rattle.std.specs.Str.{bytes_eq}
use Rattle.std.proofs.lemmas.Slice.Eq.{bytes_eq-Decides}
use Rattle.std.proofs.lemmas.Bool.Decides.{nat_tests}

-- texts with one front are told by what is behind
pub behind_front : (front xs ys : List ℕ) → bytes_eq (front ++ xs) (front ++ ys) ≡ bytes_eq xs ys
behind_front [] xs ys = refl
behind_front (c ∷ front) xs ys = let itself : (c == c) ≡ true = grind (arith, nat_tests) in rw itself (behind_front front xs ys)

-- one that doesn't begin like another isn't that
pub other_front : (text front : List ℕ) → ((rest : List ℕ) → text ≢ front ++ rest) → (behind : List ℕ) → bytes_eq text (front ++ behind) ≡ false
other_front text front other behind = by_test (bytes_eq text (front ++ behind)) refl
  where
    by_test : (t : Bool) → bytes_eq text (front ++ behind) ≡ t → t ≡ false
    by_test true same = absurd (other behind ((bytes_eq-Decides text (front ++ behind)).0 same))
    by_test false apart = refl
