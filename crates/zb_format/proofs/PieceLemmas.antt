-- Spellings, piece by piece.
use Rattle.std.proofs.Common.{◌≡◌, ℕ, ◌+◌, ◌*◌, ◌/◌, ◌%◌, ◌^◌, ◌≤◌, Bool, true, false, if◌then◌else◌, List, [], ◌∷◌, ◌++◌, length, take, refl, sym, ap, ap₂, ◌∙◌, arith, length-append, append_assoc}
use Rattle.std.proofs.lemmas.List.{take-append-le, length-take}
use Rattle.std.specs.Int.{w32, to_be_bytes}
use Rattle.zb_format.specs.Front.{Begins, Keeps}

-- a list that goes on begins as before
pub begins_more : (front bytes more : List ℕ) → Begins front bytes → Begins front (bytes ++ more)
begins_more front bytes more h =
    let short : length front ≤ length bytes = omega (arith, ap length h.front_of, length-take (length front) bytes) in
    record { front_of = take-append-le (length front) bytes more short ∙ h.front_of }

-- the low four bytes of a number are those of the whole number
pub low_bytes : (n : ℕ) → to_be_bytes w32 (n % 4294967296) ≡ to_be_bytes w32 n
low_bytes n =
    let first : n % 4294967296 / 16777216 % 256 ≡ n / 16777216 % 256 = omega arith in
    let second : n % 4294967296 / 65536 % 256 ≡ n / 65536 % 256 = omega arith in
    let third : n % 4294967296 / 256 % 256 ≡ n / 256 % 256 = omega arith in
    let fourth : n % 4294967296 % 256 ≡ n % 256 = omega arith in
    rw (first, second, third, fourth)

pub appended : (ok : Bool) (before piece after : List ℕ) → after ≡ (if ok then before ++ piece else before) → Keeps before after
appended true before piece after h front b = rw h (begins_more front before piece b)
appended false before piece after h front b = rw h b

pub ruleset pieces = (append_assoc)
