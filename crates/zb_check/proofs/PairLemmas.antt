-- What is noted under two texts, where one pair more is.
use Rattle.std.proofs.Common.{◌≡◌, ℕ, List, Option, Some, Bool, true, false, cond, ap, ◌∙◌, ◌&&◌, ◌||◌, refl, bytes_eq}
use Rattle.std.specs.Option.{option_map_or}
use Rattle.std.specs.Map.{update}
use Rattle.std.specs.Cmp.Lexicographic.{bytes_decides}

-- f is what stands under each text, and g what stands there once it is w under the text a, which has b beside what was there
pub noted_under : {X : Type 0} (has : X → List ℕ → Bool) (f g : List ℕ → Option X) (a b p q : List ℕ) (w : X) → g p ≡ update bytes_eq f a (Some w) p → has w q ≡ (bytes_eq b q || option_map_or (λ x. has x q) (f a) false)
    → option_map_or (λ x. has x q) (g p) false ≡ ((bytes_eq a p && bytes_eq b q) || option_map_or (λ x. has x q) (f p) false)
noted_under {X} has f g a b p q w updates added = by_test (bytes_eq a p) refl
  where
    by_test : (t : Bool) → bytes_eq a p ≡ t → option_map_or (λ x. has x q) (g p) false ≡ ((t && bytes_eq b q) || option_map_or (λ x. has x q) (f p) false)
    by_test true same =
        let is : a ≡ p = (bytes_decides a p).0 same in
        let now : g p ≡ Some w = updates ∙ ap (λ (t : Bool). cond t (Some w) (f p)) same in
        ap (λ (o : Option X). option_map_or (λ x. has x q) o false) now ∙ (added ∙ ap (λ (n : List ℕ). bytes_eq b q || option_map_or (λ x. has x q) (f n) false) is)
    by_test false apart =
        let now : g p ≡ f p = updates ∙ ap (λ (t : Bool). cond t (Some w) (f p)) apart in
        ap (λ (o : Option X). option_map_or (λ x. has x q) o false) now
