-- What is listed of rows that are found by their keys, as one comes and as one goes.
use Rattle.std.proofs.Common.{◌≡◌, ℕ, ◌+◌, ◌≤◌, ◌<◌, ◌==◌, ◌&&◌, ◌||◌, nat_lt, List, [], ◌∷◌, ◌++◌, map, filter, Bool, true, false, cond, if◌then◌else◌, Option, Some, None, refl, sym, ap, ◌∙◌, arith, nat_cmp}
use Rattle.std.specs.declared.cmp.Ordering.TheVariants.{Less, Equal, Greater}
use Rattle.std.specs.List.{find, list_any}
use Rattle.std.specs.List.Sorted.{IsStrictlySortedBy}
use Rattle.std.specs.Option.{option_map_or}
use Rattle.std.proofs.lemmas.Bool.Decides.{nat_tests}
use Rattle.std.proofs.lemmas.Map.Keys.{sorted_head, sorted_tail}
use Rattle.zb_table.specs.Rows.{Ascend}
use Rattle.zb_pairs.specs.Pairs.{is_number}
use Rattle.zb_lists.specs.Moments.{is_among}
use Rattle.zb_pairs.proofs.UnderLemmas.{keys_passing}
use Rattle.zb_lists.specs.declared.lists.Lists.{Lists}
use Rattle.zb_lists.specs.Listed.{row_found, without_named, has_key, is_label, moments_of, keys_of, AreListed}
use Rattle.zb_lists.proofs.MemberLemmas.{same_number}

-- keys in order ascend
from_on : (x low : ℕ) (xs : List ℕ) → IsStrictlySortedBy nat_cmp (x ∷ xs) → low ≤ x → Ascend (λ k. k) low (x ∷ xs)
from_on x low [] sorted above = (above, tt)
from_on x low (y ∷ xs) sorted above =
    let next : x + 1 ≤ y = less_of x y (sorted_head nat_cmp x (y ∷ xs) sorted).0 in
    (above, from_on y (x + 1) xs (sorted_tail nat_cmp x (y ∷ xs) sorted) next)
  where
    less_of : (a b : ℕ) → nat_cmp a b ≡ Less → a + 1 ≤ b
    less_of a b is = by_tests (nat_lt a b) (a == b) refl is
      where
        by_tests : (t u : Bool) → nat_lt a b ≡ t → cond t Less (cond u Equal Greater) ≡ Less → a + 1 ≤ b
        by_tests true u less is = grind (arith, nat_tests, less)
        by_tests false true less is = absurd (cc)
        by_tests false false less is = absurd (cc)

keys_ascend : (keys : List ℕ) → IsStrictlySortedBy nat_cmp keys → Ascend (λ k. k) 0 keys
keys_ascend [] sorted = tt
keys_ascend (x ∷ keys) sorted = from_on x 0 keys sorted (omega arith)

-- a key is one of some, said in two ways
as_key : (keys : List ℕ) (k : ℕ) → list_any (λ x. x == k) keys ≡ has_key k keys
as_key [] k = refl
as_key (x ∷ keys) k =
    let turned : (x == k) ≡ (k == x) = grind (arith, nat_tests) in
    rw (turned ∙ sym (same_number k x), as_key keys k) refl

module _ {A : Type 0} (test : A → Bool) where
  -- listed are the rows that pass
  abbrev pub IsListOf : (ℕ → Option A) → (ℕ → Bool) → Type 0
  IsListOf found has = (k : ℕ) → has k ≡ option_map_or test (found k) false

  -- the same of rows that are found elsewhere
  pub listed_same : (found now : ℕ → Option A) (has : ℕ → Bool) → ((k : ℕ) → now k ≡ found k) → IsListOf found has → IsListOf now has
  listed_same found now has same listed k = listed k ∙ ap (λ (o : Option A). option_map_or test o false) (sym (same k))

  -- a row goes, if it is there
  pub listed_left : (found : ℕ → Option A) (has new : ℕ → Bool) (key : ℕ) (row : Option A) → found key ≡ row → IsListOf found has
      → ((k : ℕ) → new k ≡ (if option_map_or test row false && (key == k) then false else has k)) → IsListOf (without_named (Some key) found) new
  listed_left found has new key row at listed takes k = takes k ∙ by_test (option_map_or test row false) (key == k) refl refl
    where
      here : (t : Bool) → (if t && true then false else t) ≡ false
      here true = refl
      here false = refl

      elsewhere : (t old : Bool) → (if t && false then false else old) ≡ old
      elsewhere true old = refl
      elsewhere false old = refl

      by_test : (s t : Bool) → option_map_or test row false ≡ s → (key == k) ≡ t → (if s && t then false else has k) ≡ option_map_or test (if t then None else found k) false
      by_test s true passes same =
          let is : key ≡ k = grind (arith, nat_tests, same) in
          let old : has k ≡ s = listed k ∙ (ap (λ (j : ℕ). option_map_or test (found j) false) (sym is) ∙ (ap (λ (o : Option A). option_map_or test o false) at ∙ passes)) in
          rw old (here s)
      by_test s false passes other = elsewhere s (has k) ∙ listed k

  -- a row comes, if it is there now
  pub listed_joined : (found now : ℕ → Option A) (has new : ℕ → Bool) (key : ℕ) (row : Option A) → now key ≡ row → ((k : ℕ) → is_number k (Some key) ≡ false → now k ≡ found k)
      → IsListOf (without_named (Some key) found) has → ((k : ℕ) → new k ≡ (if option_map_or test row false && (key == k) then true else has k)) → IsListOf now new
  listed_joined found now has new key row at others listed puts k = puts k ∙ by_test (option_map_or test row false) (key == k) refl refl (listed k)
    where
      here : (t : Bool) → (if t && true then true else false) ≡ t
      here true = refl
      here false = refl

      elsewhere : (t old : Bool) → (if t && false then true else old) ≡ old
      elsewhere true old = refl
      elsewhere false old = refl

      by_test : (s t : Bool) → option_map_or test row false ≡ s → (key == k) ≡ t → has k ≡ option_map_or test (if t then None else found k) false → (if s && t then true else has k) ≡ option_map_or test (now k) false
      by_test s true passes same was =
          let is : key ≡ k = grind (arith, nat_tests, same) in
          let its : option_map_or test (now k) false ≡ s = ap (λ (j : ℕ). option_map_or test (now j) false) (sym is) ∙ (ap (λ (o : Option A). option_map_or test o false) at ∙ passes) in
          rw (was, its) (here s)
      by_test s false passes other was = elsewhere s (has k) ∙ (was ∙ ap (λ (o : Option A). option_map_or test o false) (sym (others k other)))

module _ {A : Type 0} (key : A → ℕ) where
  -- the key of the first of some rows is that of no other one
  pub none_behind : (k low : ℕ) (rows : List A) → Ascend key low rows → k < low → row_found key rows k ≡ None
  none_behind k low [] up below = refl
  none_behind k low (r ∷ rows) up below =
      let other : (key r == k) ≡ false = grind (arith, nat_tests, up.0, below) in
      rw other (none_behind k (key r + 1) rows up.1 (omega (arith, up.0, below)))

  module _ (test : A → Bool) where
    -- listed are the rows that pass, but for some that are still to come
    abbrev pub IsListBut : (rows rest : List A) → (ℕ → Bool) → Type 0
    IsListBut rows rest has = (k : ℕ) → (option_map_or test (row_found key rest k) false || has k) ≡ option_map_or test (row_found key rows k) false

    -- none are listed so far
    pub listed_first : (rows : List A) (has : ℕ → Bool) → ((k : ℕ) → has k ≡ false) → IsListBut rows rows has
    listed_first rows has none k = ap (λ (b : Bool). option_map_or test (row_found key rows k) false || b) (none k) ∙ alone (option_map_or test (row_found key rows k) false)
      where
        alone : (b : Bool) → (b || false) ≡ b
        alone true = refl
        alone false = refl

    -- the next one comes
    pub listed_next : (rows : List A) (row : A) (rest : List A) (has new : ℕ → Bool) → Ascend key 0 (row ∷ rest) → IsListBut rows (row ∷ rest) has
        → ((k : ℕ) → new k ≡ ((test row && (key row == k)) || has k)) → IsListBut rows rest new
    listed_next rows row rest has new up listed puts k = ap (λ (b : Bool). option_map_or test (row_found key rest k) false || b) (puts k) ∙ by_test (key row == k) refl (listed k)
      where
        here : (t b : Bool) → (false || ((t && true) || b)) ≡ (t || b)
        here true b = refl
        here false b = refl

        elsewhere : (t b : Bool) → ((t && false) || b) ≡ b
        elsewhere true b = refl
        elsewhere false b = refl

        by_test : (t : Bool) → (key row == k) ≡ t → (option_map_or test (cond t (Some row) (row_found key rest k)) false || has k) ≡ option_map_or test (row_found key rows k) false
            → (option_map_or test (row_found key rest k) false || ((test row && t) || has k)) ≡ option_map_or test (row_found key rows k) false
        by_test true same was =
            let none : row_found key rest k ≡ None = none_behind k (key row + 1) rest up.1 (grind (arith, nat_tests, same)) in
            rw none (here (test row) (has k) ∙ was)
        by_test false other was = ap (λ (b : Bool). option_map_or test (row_found key rest k) false || b) (elsewhere (test row) (has k)) ∙ was

-- nothing is listed of no rows
pub none_listed : {A : Type 0} (moment : A → Option ℕ) (label : A → Option (List ℕ × List ℕ)) (found : ℕ → Option A) (lists : Lists) → moments_of lists ≡ [] → ((first second : List ℕ) → keys_of lists first second ≡ [])
    → ((k : ℕ) → found k ≡ None) → AreListed moment label found lists
none_listed moment label found lists no_moments no_keys gone = record {
  in_time = λ n k. ap (λ (ps : List (ℕ × ℕ)). is_among ps n k) no_moments ∙ sym (ap (λ (o : Option _). option_map_or (λ r. is_number n (moment r)) o false) (gone k));
  labelled = λ a b k. ap (has_key k) (no_keys a b) ∙ sym (ap (λ (o : Option _). option_map_or (λ r. is_label a b (label r)) o false) (gone k));
}

-- the keys under a label are those of the rows that have it
pub keys_listed : {A : Type 0} (key : A → ℕ) (moment : A → Option ℕ) (label : A → Option (List ℕ × List ℕ)) (rows : List A) (lists : Lists) (first second keys : List ℕ) → Ascend key 0 rows
    → AreListed moment label (row_found key rows) lists → keys ≡ keys_of lists first second → IsStrictlySortedBy nat_cmp keys → keys ≡ map key (filter (λ r. is_label first second (label r)) rows)
keys_listed key moment label rows lists first second keys up listed is sorted =
    keys_passing key (λ r. is_label first second (label r)) keys rows up (keys_ascend keys sorted)
    (λ k. as_key keys k ∙ (ap (has_key k) is ∙ listed.labelled first second k))
