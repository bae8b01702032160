-- Reading values one after another, as a loop does.
use Rattle.std.proofs.Common.{◌≡◌, ℕ, suc, ◌+◌, ◌-◌, ◌≤◌, ◌<◌, Option, None, Some, List, [], ◌∷◌, ◌++◌, refl, ap, append_assoc, arith}
use Rattle.std.proofs.lemmas.List.{append-nil}
use Rattle.zb_format.specs.Reading.{◌>>=◌, Reader, many_at}

-- what was read before, and what is still read
abbrev pub with_front : {A : Type 0} → List A → Option (List A × List ℕ) → Option (List A × List ℕ)
with_front front read = read >>= λ x. Some (front ++ x.0, x.1)

regroup : {A : Type 0} (front : List A) (x : A) (read : Option (List A × List ℕ)) → with_front front (read >>= λ xs. Some (x ∷ xs.0, xs.1)) ≡ with_front (front ++ x ∷ []) read
regroup front x (Some xs) = ap (λ (ys : List _). Some (ys, xs.1)) (simp append_assoc)
regroup front x None = refl

pub goes_on : {A : Type 0} (read : Reader A) (front : List A) (count i : ℕ) (bytes : List ℕ) (x : A) (after : List ℕ) → i < count → read bytes ≡ Some (x, after)
    → with_front front (many_at read (count - i) bytes) ≡ with_front (front ++ x ∷ []) (many_at read (count - (i + 1)) after)
goes_on read front count i bytes x after lt h =
    let k : count - i ≡ suc (count - (i + 1)) = omega arith in
    rw (k, h) (regroup front x (many_at read (count - (i + 1)) after))

pub ends : {A : Type 0} (read : Reader A) (front : List A) (count i : ℕ) (bytes : List ℕ) → i < count → read bytes ≡ None → with_front front (many_at read (count - i) bytes) ≡ None
ends read front count i bytes lt h =
    let k : count - i ≡ suc (count - (i + 1)) = omega arith in
    rw (k, h) refl

pub is_done : {A : Type 0} (read : Reader A) (front : List A) (count i : ℕ) (bytes : List ℕ) → count ≤ i → with_front front (many_at read (count - i) bytes) ≡ Some (front, bytes)
is_done read front count i bytes le =
    let k : count - i ≡ 0 = omega arith in
    rw k (ap (λ (ys : List _). Some (ys, bytes)) (append-nil front))

pub ruleset many = (goes_on, ends, is_done)
