-- Members of a list that are found, and where they stand.
use Rattle.std.proofs.Common.{◌≡◌, ℕ, zero, suc, ◌<◌, ◌≤◌, Bool, List, [], ◌∷◌, length, slice_get, position, Some, None, refl, ap, ◌∙◌, arith}
use Rattle.std.specs.List.{find, position_or_len}
use Rattle.std.proofs.lemmas.Grind.{common_steps}
use Rattle.std.proofs.lemmas.List.Folds.{find_at}
use Rattle.std.proofs.lemmas.Option.{slice_get_past}

-- the member that is found stands at its position
pub found_at : {A : Type 0} (p : A → Bool) (xs : List A) (i : ℕ) → position p xs ≡ Some i → (find p xs ≡ slice_get xs i) × (i < length xs)
found_at p xs i is =
    let here : position_or_len p xs ≡ i = grind (arith, common_steps) in
    let within : i < length xs = grind (arith, common_steps) in
    (find_at p xs ∙ ap (slice_get xs) here, within)

item_at : {A : Type 0} (xs : List A) (i : ℕ) → i < length xs → (x : A) × (slice_get xs i ≡ Some x)
item_at [] i within = absurd (omega arith)
item_at (x ∷ xs) zero within = (x, refl)
item_at (x ∷ xs) (suc i) within = item_at xs i (omega (arith, within))

-- and is this one
pub found_item : {A : Type 0} (p : A → Bool) (xs : List A) (i : ℕ) → position p xs ≡ Some i → (x : A) × (slice_get xs i ≡ Some x) × (find p xs ≡ Some x)
found_item p xs i is =
    let at = found_at p xs i is in
    let item = item_at xs i at.1 in
    (item.0, item.1, at.0 ∙ item.1)

-- none is found where there is no position
pub none_at : {A : Type 0} (p : A → Bool) (xs : List A) → position p xs ≡ None → find p xs ≡ None
none_at p xs is =
    let past : length xs ≤ position_or_len p xs = grind (arith, common_steps) in
    find_at p xs ∙ slice_get_past xs (position_or_len p xs) past
