-- Members of what is in order, with one more and with one fewer.
use Rattle.std.proofs.Common.{◌≡◌, ℕ, ◌==◌, ◌&&◌, ◌||◌, nat_lt, bytes_eq, List, [], ◌∷◌, Bool, true, false, cond, if◌then◌else◌, refl, sym, ap, subst, ◌∙◌, arith, nat_cmp}
use Rattle.std.specs.declared.cmp.Ordering.{Ordering}
use Rattle.std.specs.declared.cmp.Ordering.TheVariants.{Less, Equal, Greater}
use Rattle.std.specs.Ordering.{is_eq, match_ordering}
use Rattle.std.specs.List.{list_any, AllByRecursion}
use Rattle.std.specs.List.Sorted.{IsStrictlySortedBy}
use Rattle.std.specs.BTreeMap.{is_at}
use Rattle.std.specs.BTreeSet.{insert_key}
use Rattle.std.specs.Set.{remove_key}
use Rattle.std.proofs.lemmas.Bool.Decides.{nat_tests}
use Rattle.std.proofs.lemmas.Map.Keys.{sorted_head, sorted_tail}
use Rattle.zb_pairs.specs.Pairs.{place_cmp}
use Rattle.zb_lists.specs.Moments.{is_among}
use Rattle.zb_pairs.proofs.PairLemmas.{parts_of, same_place}
use Rattle.std.specs.Cmp.Lexicographic.{bytes_decides}
use Rattle.zb_line.specs.Labels.{keys_labelled}
use Rattle.zb_line.specs.declared.labels.Labels.{Labels}
use Rattle.zb_lists.specs.Listed.{has_key}

-- what compares equal
equal_of : (o : Ordering) → is_eq o ≡ true → o ≡ Equal
equal_of Less is = absurd (cc)
equal_of Equal is = refl
equal_of Greater is = absurd (cc)

module _ {K : Type 0} (cmp : K → K → Ordering) (same : (a b : K) → is_eq (cmp a b) ≡ true → a ≡ b) (itself : (a : K) → is_eq (cmp a a) ≡ true) where
  -- a member is there
  abbrev pub has : K → List K → Bool
  has q xs = list_any (is_at (cmp q)) xs

  twice : (a b : Bool) → (a || b) ≡ (a || (a || b))
  twice true b = refl
  twice false b = refl

  turned : (a b c : Bool) → (a || (b || c)) ≡ (b || (a || c))
  turned true true c = refl
  turned true false c = refl
  turned false b c = refl

  -- with one more
  pub has_inserted : (xs : List K) (k q : K) → has q (insert_key cmp xs k) ≡ (is_eq (cmp q k) || has q xs)
  has_inserted [] k q = refl
  has_inserted (x ∷ xs) k q = by_order (cmp k x) refl (has_inserted xs k q)
    where
      by_order : (o : Ordering) → cmp k x ≡ o → has q (insert_key cmp xs k) ≡ (is_eq (cmp q k) || has q xs)
          → has q (match_ordering o (k ∷ x ∷ xs) (x ∷ xs) (x ∷ insert_key cmp xs k)) ≡ (is_eq (cmp q k) || (is_eq (cmp q x) || has q xs))
      by_order Less is later = refl
      by_order Equal is later =
          let one : k ≡ x = same k x (ap is_eq is) in
          twice (is_eq (cmp q x)) (has q xs) ∙ ap (λ (y : K). is_eq (cmp q y) || (is_eq (cmp q x) || has q xs)) (sym one)
      by_order Greater is later = ap (λ (b : Bool). is_eq (cmp q x) || b) later ∙ turned (is_eq (cmp q x)) (is_eq (cmp q k)) (has q xs)

  -- what is less than all isn't there
  none_of : (q : K) (xs : List K) → AllByRecursion (λ y. cmp q y ≡ Less) xs → has q xs ≡ false
  none_of q [] less = refl
  none_of q (x ∷ xs) less = rw (less.0) (none_of q xs less.1)

  -- with one fewer
  pub has_removed : (xs : List K) (k q : K) → IsStrictlySortedBy cmp xs → has q (remove_key (is_at (cmp k)) xs) ≡ (if is_eq (cmp k q) then false else has q xs)
  has_removed [] k q up = by_test (is_eq (cmp k q))
    where
      by_test : (t : Bool) → false ≡ (if t then false else false)
      by_test true = refl
      by_test false = refl
  has_removed (x ∷ xs) k q up = by_tests (is_eq (cmp k x)) (is_eq (cmp k q)) refl refl (has_removed xs k q (sorted_tail cmp x xs up))
    where
      less : AllByRecursion (λ y. cmp x y ≡ Less) xs
      less = sorted_head cmp x xs up

      by_tests : (t u : Bool) → is_eq (cmp k x) ≡ t → is_eq (cmp k q) ≡ u → has q (remove_key (is_at (cmp k)) xs) ≡ (if is_eq (cmp k q) then false else has q xs)
          → has q (cond t xs (x ∷ remove_key (is_at (cmp k)) xs)) ≡ (if u then false else (is_eq (cmp q x) || has q xs))
      by_tests true true at its later =
          let one : x ≡ q = sym (same k x at) ∙ same k q its in
          none_of q xs (subst (λ (z : K). AllByRecursion (λ y. cmp z y ≡ Less) xs) one less)
      by_tests true false at other later =
          let one : k ≡ x = same k x at in
          let apart : is_eq (cmp q x) ≡ false = by_apart (is_eq (cmp q x)) refl one other in
          rw apart refl
        where
          by_apart : (t : Bool) → is_eq (cmp q x) ≡ t → k ≡ x → is_eq (cmp k q) ≡ false → t ≡ false
          by_apart true is one other = let whole : is_eq (cmp k q) ≡ true = subst (λ (z : K). is_eq (cmp k z) ≡ true) (one ∙ sym (same q x is)) (itself k) in absurd (cc)
          by_apart false is one other = refl
      by_tests false true apart its later =
          let one : k ≡ q = same k q its in
          let other : is_eq (cmp q x) ≡ false = subst (λ (z : K). is_eq (cmp z x) ≡ false) one apart in
          rw other (later ∙ rw its refl)
      by_tests false false apart other later = ap (λ (b : Bool). is_eq (cmp q x) || b) (later ∙ rw other refl)

-- numbers that compare equal
pub same_number : (a b : ℕ) → is_eq (nat_cmp a b) ≡ (a == b)
same_number a b = by_tests (nat_lt a b) (a == b) (λ is. grind (arith, nat_tests))
  where
    by_tests : (t u : Bool) → (t ≡ true → u ≡ false) → is_eq (cond t Less (cond u Equal Greater)) ≡ u
    by_tests true u apart = sym (apart refl)
    by_tests false true apart = refl
    by_tests false false apart = refl

number_of : (a b : ℕ) → is_eq (nat_cmp a b) ≡ true → a ≡ b
number_of a b is = let test = sym (same_number a b) ∙ is in grind (arith, nat_tests, test)

number_itself : (a : ℕ) → is_eq (nat_cmp a a) ≡ true
number_itself a = same_number a a ∙ grind (arith, nat_tests)

-- pairs that do
pair_of : (a b : ℕ × ℕ) → is_eq (place_cmp a b) ≡ true → a ≡ b
pair_of a b is = let parts = parts_of a.0 a.1 b is in ap (λ (x : ℕ). (x, a.1)) parts.0 ∙ ap (λ (y : ℕ). (b.0, y)) parts.1

pub pair_itself : (a : ℕ × ℕ) → is_eq (place_cmp a a) ≡ true
pair_itself a = same_place a.0 a.1 a.0 a.1 ∙ grind (arith, nat_tests)

either : (a b : Bool) → (a || b) ≡ (if a then true else b)
either true b = refl
either false b = refl

same_turned : (a b : ℕ) → (a == b) ≡ (b == a)
same_turned a b = grind (arith, nat_tests)

-- a key among some with one more, and with one fewer
pub key_inserted : (keys : List ℕ) (k j : ℕ) → has_key k (insert_key nat_cmp keys j) ≡ (if j == k then true else has_key k keys)
key_inserted keys k j =
    has_inserted nat_cmp number_of number_itself keys j k ∙ (ap (λ (b : Bool). b || has_key k keys) (same_number k j ∙ same_turned k j) ∙ either (j == k) (has_key k keys))

pub key_removed : (keys : List ℕ) (k j : ℕ) → IsStrictlySortedBy nat_cmp keys → has_key k (remove_key (is_at (nat_cmp j)) keys) ≡ (if j == k then false else has_key k keys)
key_removed keys k j up = has_removed nat_cmp number_of number_itself keys j k up ∙ ap (λ (b : Bool). if b then false else has_key k keys) (same_number j k)

-- and a moment with its key
pub pair_inserted : (pairs : List (ℕ × ℕ)) (m j n k : ℕ) → is_among (insert_key place_cmp pairs (m, j)) n k ≡ (if (m == n) && (j == k) then true else is_among pairs n k)
pair_inserted pairs m j n k =
    let turned : ((n == m) && (k == j)) ≡ ((m == n) && (j == k)) = ap (λ (b : Bool). b && (k == j)) (same_turned n m) ∙ ap (λ (b : Bool). (m == n) && b) (same_turned k j) in
    has_inserted place_cmp pair_of pair_itself pairs (m, j) (n, k) ∙ (ap (λ (b : Bool). b || is_among pairs n k) (same_place n k m j ∙ turned) ∙ either ((m == n) && (j == k)) (is_among pairs n k))

pub pair_removed : (pairs : List (ℕ × ℕ)) (m j n k : ℕ) → IsStrictlySortedBy place_cmp pairs → is_among (remove_key (is_at (place_cmp (m, j))) pairs) n k ≡ (if (m == n) && (j == k) then false else is_among pairs n k)
pair_removed pairs m j n k up = has_removed place_cmp pair_of pair_itself pairs (m, j) (n, k) up ∙ ap (λ (b : Bool). if b then false else is_among pairs n k) (same_place m j n k)

-- a key under a label, with one more there, and with one fewer
pub label_joined : (a b : List ℕ) (k : ℕ) (first second keys : List ℕ) (key : ℕ)
    → has_key k (if bytes_eq first a && bytes_eq second b then insert_key nat_cmp keys key else keys) ≡ (if (bytes_eq first a && bytes_eq second b) && (key == k) then true else has_key k keys)
label_joined a b k first second keys key = by_test (bytes_eq first a && bytes_eq second b)
  where
    by_test : (t : Bool) → has_key k (if t then insert_key nat_cmp keys key else keys) ≡ (if t && (key == k) then true else has_key k keys)
    by_test true = key_inserted keys k key
    by_test false = refl

pub label_left : (a b : List ℕ) (k : ℕ) (first second : List ℕ) (labels : Labels) (key : ℕ) → IsStrictlySortedBy nat_cmp (keys_labelled labels first second)
    → has_key k (if bytes_eq first a && bytes_eq second b then remove_key (is_at (nat_cmp key)) (keys_labelled labels a b) else keys_labelled labels a b)
    ≡ (if (bytes_eq first a && bytes_eq second b) && (key == k) then false else has_key k (keys_labelled labels a b))
label_left a b k first second labels key up = by_tests (bytes_eq first a) (bytes_eq second b) refl refl
  where
    by_tests : (s t : Bool) → bytes_eq first a ≡ s → bytes_eq second b ≡ t
        → has_key k (if s && t then remove_key (is_at (nat_cmp key)) (keys_labelled labels a b) else keys_labelled labels a b) ≡ (if (s && t) && (key == k) then false else has_key k (keys_labelled labels a b))
    by_tests true true one other =
        let same : first ≡ a = (bytes_decides first a).0 one in
        let too : second ≡ b = (bytes_decides second b).0 other in
        key_removed (keys_labelled labels a b) k key (subst (λ (l : List ℕ). IsStrictlySortedBy nat_cmp (keys_labelled labels a l)) too (subst (λ (l : List ℕ). IsStrictlySortedBy nat_cmp (keys_labelled labels l second)) same up))
    by_tests true false one other = refl
    by_tests false t one other = refl
