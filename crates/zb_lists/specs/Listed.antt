-- Rows that are listed by the moments for which they wait, and under their labels.
use Rattle.std.specs.Prelude.{◌≡◌, ℕ, ◌==◌, List, Bool, false, ◌&&◌, Option, Some, None, if◌then◌else◌}
use Rattle.std.specs.List.{find, list_any}
use Rattle.std.specs.BTreeMap.{is_at}
use Rattle.std.specs.Ordering.{nat_cmp}
use Rattle.std.specs.Option.{option_map_or}
use Rattle.std.specs.Str.{bytes_eq}
use Rattle.zb_line.specs.Labels.{keys_labelled}
use Rattle.zb_line.specs.declared.labels.Labels.{Labels}
use Rattle.std.specs.List.Sorted.{IsStrictlySortedBy}
use Rattle.zb_pairs.specs.Pairs.{is_number, place_cmp}
use Rattle.zb_lists.specs.Moments.{is_among}
use Rattle.zb_lists.specs.declared.lists.Lists.{Lists}

-- the moments that are listed, each with its key
abbrev pub moments_of : Lists → List (ℕ × ℕ)
moments_of lists = lists.moments

-- the keys that are listed under two texts
abbrev pub keys_of : Lists → (first second : List ℕ) → List ℕ
keys_of lists first second = keys_labelled lists.labels first second

-- there is a label, and it is of these texts (own)
abbrev pub is_label : (first second : List ℕ) → Option (List ℕ × List ℕ) → Bool
is_label first second None = false
is_label first second (Some l) = bytes_eq l.0 first && bytes_eq l.1 second

-- a key is one of some that ascend (own)
abbrev pub has_key : ℕ → List ℕ → Bool
has_key k keys = list_any (is_at (nat_cmp k)) keys

-- a key is listed under two texts (own)
abbrev pub is_labelled : Labels → (first second : List ℕ) → ℕ → Bool
is_labelled labels first second k = has_key k (keys_labelled labels first second)

-- the row with a key, if it is among these (own)
abbrev pub row_found : {A : Type 0} → (A → ℕ) → List A → ℕ → Option A
row_found key rows k = find (λ r. key r == k) rows

-- what is listed of the rows that are found by their keys: where one waits for a moment, that with its key; where it has a label, its key under that; and nothing else (own)
pub record AreListed {A : Type 0} (moment : A → Option ℕ) (label : A → Option (List ℕ × List ℕ)) (found : ℕ → Option A) (lists : Lists) : Type 0 where
  pub in_time : (n k : ℕ) → is_among lists.moments n k ≡ option_map_or (λ r. is_number n (moment r)) (found k) false
  pub labelled : (first second : List ℕ) (k : ℕ) → is_labelled lists.labels first second k ≡ option_map_or (λ r. is_label first second (label r)) (found k) false

-- the rows that are found, but the one with this key, if there is one (own)
abbrev pub without_named : {A : Type 0} → Option ℕ → (ℕ → Option A) → ℕ → Option A
without_named key found k = if is_number k key then None else found k

-- the moments for which rows wait, each with its key, in their order: by the moment, and at one moment by the key
pub record AreInTime {A : Type 0} (key : A → ℕ) (moment : A → Option ℕ) (rows : List A) (pairs : List (ℕ × ℕ)) : Type 0 where
  pub order : IsStrictlySortedBy place_cmp pairs
  pub listed : (n k : ℕ) → is_among pairs n k ≡ option_map_or (λ r. is_number n (moment r)) (row_found key rows k) false
