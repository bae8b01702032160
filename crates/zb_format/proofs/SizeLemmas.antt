-- The sizes of spellings.
use Rattle.std.proofs.Common.{◌≡◌, ℕ, ℤ, ◌+◌, ◌*◌, ◌^◌, ◌-◌, min, List, [], ◌∷◌, ◌++◌, length, refl, ap, ◌∙◌, arith, length-append, add_assoc}
use Rattle.std.specs.List.{flat_map}
use Rattle.zb_format.specs.Field.{number_bytes, long_bytes, signed_bytes}

pub length-number : (n : ℕ) → length (number_bytes n) ≡ 4
unfolding number_bytes
length-number n = refl

pub length-long : (n : ℕ) → length (long_bytes n) ≡ 8
unfolding long_bytes
length-long n = refl

pub length-signed : (z : ℤ) → length (signed_bytes z) ≡ 8
unfolding signed_bytes
length-signed z = refl

pub length-flat_map-signed : (zs : List ℤ) → length (flat_map signed_bytes zs) ≡ length zs * 8
length-flat_map-signed [] = refl
length-flat_map-signed (z ∷ zs) = omega (arith, length-append (signed_bytes z) (flat_map signed_bytes zs), length-signed z, length-flat_map-signed zs)

pub ruleset pieces = (length-append, length-number, length-long, length-signed, length-flat_map-signed)
