-- What stands under a name, where one gets another value.
use Rattle.std.proofs.Common.{◌≡◌, ℕ, List, Bool, true, false, cond, if◌then◌else◌, Option, Some, refl, ap, ◌∙◌}
use Rattle.std.specs.Map.{update}
use Rattle.std.specs.Str.{bytes_eq}
use Rattle.std.specs.Cmp.Lexicographic.{bytes_decides}

-- what stands under a name, where one gets a value
pub put_under : {X V : Type 0} (read : Option X → V) (f g : List ℕ → Option X) (name other : List ℕ) (w : X) (v : V → V) → g other ≡ update bytes_eq f name (Some w) other → read (Some w) ≡ v (read (f name))
    → read (g other) ≡ (if bytes_eq name other then v (read (f other)) else read (f other))
put_under {X} {V} read f g name other w v updates put = by_test (bytes_eq name other) refl
  where
    by_test : (t : Bool) → bytes_eq name other ≡ t → read (g other) ≡ (if t then v (read (f other)) else read (f other))
    by_test true same =
        let is : name ≡ other = (bytes_decides name other).0 same in
        let now : g other ≡ Some w = updates ∙ ap (λ (t : Bool). cond t (Some w) (f other)) same in
        ap read now ∙ (put ∙ ap (λ (n : List ℕ). v (read (f n))) is)
    by_test false apart =
        let now : g other ≡ f other = updates ∙ ap (λ (t : Bool). cond t (Some w) (f other)) apart in
        ap read now
