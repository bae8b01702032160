-- How names stand in pointers.
use Rattle.std.proofs.Common.{◌≡◌, ℕ, ◌+◌, ◌/◌, ◌≤◌, List, [], ◌∷◌, Bool, true, false, cond, refl, ap, arith}
use Rattle.std.proofs.lemmas.Bool.{ne_eqb}
use Rattle.std.specs.List.{AllByRecursion}
use lib.Utf8.{next}
use Rattle.std.specs.Char.{encode_utf8}
use Rattle.zb_reader.specs.Place.{escaped}

-- a byte that isn't escaped
escaped-plain : (b : ℕ) (bs : List ℕ) → (b ≡ 126 → ⊥) → (b ≡ 47 → ⊥) → escaped (b ∷ bs) ≡ b ∷ escaped bs
escaped-plain b bs tilde slash = rw (ne_eqb b 126 tilde, ne_eqb b 47 slash) refl

-- nor are bytes beyond ASCII
escaped-beyond : (bs : List ℕ) → AllByRecursion (λ b. 128 ≤ b) bs → escaped bs ≡ bs
escaped-beyond [] beyond = refl
escaped-beyond (b ∷ bs) beyond = rw (escaped-plain b bs (λ is. omega (arith, is, beyond.0)) (λ is. omega (arith, is, beyond.0))) (ap (λ bs. b ∷ bs) (escaped-beyond bs beyond.1))

-- the bytes of a character, by whether it is below 128, 2048 and 65536
abbrev bytes_by : Bool → Bool → Bool → ℕ → List ℕ
bytes_by x y z c = cond x (c ∷ []) (cond y ((192 + c / 64) ∷ next c ∷ []) (cond z ((224 + c / 4096) ∷ next (c / 64) ∷ next c ∷ []) ((240 + c / 262144) ∷ next (c / 4096) ∷ next (c / 64) ∷ next c ∷ [])))

escaped-bytes_by : (x y z : Bool) (c : ℕ) → (c ≡ 126 → ⊥) → (c ≡ 47 → ⊥) → escaped (bytes_by x y z c) ≡ bytes_by x y z c
escaped-bytes_by true y z c tilde slash = escaped-plain c [] tilde slash
escaped-bytes_by false true z c tilde slash = escaped-beyond _ (omega arith, (omega arith, tt))
escaped-bytes_by false false true c tilde slash = escaped-beyond _ (omega arith, (omega arith, (omega arith, tt)))
escaped-bytes_by false false false c tilde slash = escaped-beyond _ (omega arith, (omega arith, (omega arith, (omega arith, tt))))

-- nor is another character than `~` and `/`
pub escaped_encode : (c : ℕ) → (c ≡ 126 → ⊥) → (c ≡ 47 → ⊥) → escaped (encode_utf8 c) ≡ encode_utf8 c
unfolding encode_utf8
escaped_encode c tilde slash = escaped-bytes_by _ _ _ c tilde slash
