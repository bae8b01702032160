-- Laws of the parts of entries, and of their places.
use Rattle.std.proofs.Common.{◌≡◌, ℕ, ◌<◌, ◌+◌, ◌==◌, List, [], ◌∷◌, ◌++◌, length, filter, slice_get, All, true, false, Some, suc, refl, inl, inr, ap, sym, subst, ◌∙◌, arith}
use Rattle.std.specs.List.{range_with_len}
use Rattle.std.proofs.lemmas.Bool.{cases_eq}
use Rattle.std.proofs.lemmas.Bool.Decides.{nat_tests}
use Rattle.std.proofs.lemmas.List.{map-append}
use Rattle.std.proofs.lemmas.List.Elements.{filter-append, All-head, All-tail}
use Rattle.zb_model.specs.declared.record.Batch.{Batch}
use Rattle.zb_world.specs.Entries.{IsPartitionOf, is_of, part_of, places_of, as_entry, entries_of}
use Rattle.zb_world.specs.declared.entry.Entry.{Entry}

-- the parts of two lists, one behind the other
pub part_of_joined : (p : ℕ) (a b : List Entry) → part_of p (a ++ b) ≡ part_of p a ++ part_of p b
part_of_joined p a b = rw (filter-append (is_of p) a b) (map-append (λ (entry : Entry). entry.batch) (filter (is_of p) a) (filter (is_of p) b))

-- a part with one more entry of its partition in front
pub part_of_its : (p : ℕ) (e : Entry) (h : List Entry) → e.partition ≡ p → part_of p (e ∷ h) ≡ e.batch ∷ part_of p h
part_of_its p e h same = let is : (e.partition == p) ≡ true = grind (arith, nat_tests) in rw is refl

-- a part with one more entry of another partition in front
pub part_of_other : (p : ℕ) (e : Entry) (h : List Entry) → (e.partition ≡ p → ⊥) → part_of p (e ∷ h) ≡ part_of p h
part_of_other p e h other = let is : (e.partition == p) ≡ false = grind (arith, nat_tests) in rw is refl

-- no part where no entry is of the partition
pub part_of_none : (p : ℕ) (h : List Entry) → ((k : ℕ) (e : Entry) → slice_get h k ≡ Some e → e.partition ≡ p → ⊥) → part_of p h ≡ []
part_of_none p [] none = refl
part_of_none p (e ∷ h) none = part_of_other p e h (none 0 e refl) ∙ part_of_none p h (λ (k : ℕ) (x : Entry) (at : slice_get h k ≡ Some x). none (suc k) x at)

-- places with one more entry of their partition in front
pub places_of_its : (p first : ℕ) (e : Entry) (h : List Entry) → e.partition ≡ p → places_of p first (e ∷ h) ≡ first ∷ places_of p (first + 1) h
places_of_its p first e h same = let is : (e.partition == p) ≡ true = grind (arith, nat_tests) in rw is refl

-- places with one more entry of another partition in front
pub places_of_other : (p first : ℕ) (e : Entry) (h : List Entry) → (e.partition ≡ p → ⊥) → places_of p first (e ∷ h) ≡ places_of p (first + 1) h
places_of_other p first e h other = let is : (e.partition == p) ≡ false = grind (arith, nat_tests) in rw is refl

-- the entries of a log are its own
pub part_of_entries : (p : ℕ) (log : List Batch) → part_of p (entries_of p log) ≡ log
part_of_entries p [] = refl
part_of_entries p (batch ∷ log) = part_of_its p (as_entry p batch) (entries_of p log) refl ∙ ap (λ (rest : List Batch). batch ∷ rest) (part_of_entries p log)

-- the places of two lists, one behind the other
pub places_of_joined : (p first : ℕ) (a b : List Entry) → places_of p first (a ++ b) ≡ places_of p first a ++ places_of p (first + length a) b
places_of_joined p first [] b = let none : first + 0 ≡ first = omega arith in rw none refl
places_of_joined p first (e ∷ a) b =
    let rest = places_of_joined p (first + 1) a b in
    let on : first + 1 + length a ≡ first + length (e ∷ a) = omega (arith) in
    let behind : places_of p (first + 1) (a ++ b) ≡ places_of p (first + 1) a ++ places_of p (first + length (e ∷ a)) b = rw on at rest in
    elim (cases_eq e.partition p) [
      | inl same ↦ places_of_its p first e (a ++ b) same ∙ (ap (λ (rest : List ℕ). first ∷ rest) behind ∙ ap (λ (front : List ℕ). front ++ places_of p (first + length (e ∷ a)) b) (sym (places_of_its p first e a same)))
      | inr other ↦ places_of_other p first e (a ++ b) other ∙ (behind ∙ ap (λ (front : List ℕ). front ++ places_of p (first + length (e ∷ a)) b) (sym (places_of_other p first e a other)))
    ]

-- a partition has as many places as batches
pub places_of_count : (p first : ℕ) (h : List Entry) → length (places_of p first h) ≡ length (part_of p h)
places_of_count p first [] = refl
places_of_count p first (e ∷ h) =
    let rest = places_of_count p (first + 1) h in
    elim (cases_eq e.partition p) [
      | inl same ↦ rw (places_of_its p first e h same, part_of_its p e h same) (ap (λ (k : ℕ). suc k) rest)
      | inr other ↦ rw (places_of_other p first e h other, part_of_other p e h other) rest
    ]

-- the entries of a log have all places from the first on
pub places_of_entries : (p first : ℕ) (log : List Batch) → places_of p first (entries_of p log) ≡ range_with_len first (length log)
places_of_entries p first [] = refl
places_of_entries p first (batch ∷ log) = places_of_its p first (as_entry p batch) (entries_of p log) refl ∙ ap (λ (rest : List ℕ). first ∷ rest) (places_of_entries p (first + 1) log)

-- no place lies before the first
places_from : (p k first : ℕ) (h : List Entry) (rest : List ℕ) → k < first → places_of p first h ≡ k ∷ rest → ⊥
places_from p k first [] rest before is = cc
places_from p k first (e ∷ h) rest before is = elim (cases_eq e.partition p) [
  | inl same ↦
      let here : places_of p first (e ∷ h) ≡ first ∷ places_of p (first + 1) h = places_of_its p first e h same in
      let at : first ≡ k = cc in
      omega arith
  | inr other ↦ places_from p k (first + 1) h rest (omega arith) (sym (places_of_other p first e h other) ∙ is)
]

-- of an entry at the front, and a list with the same places
module _ (n first : ℕ) (e : Entry) (h : List Entry) where
  front_is : (x : Entry) (xs : List Entry) → part_of e.partition (e ∷ h) ≡ part_of e.partition (x ∷ xs) → places_of e.partition first (e ∷ h) ≡ places_of e.partition first (x ∷ xs) → (e.partition ≡ x.partition) × (e.batch ≡ x.batch)
  front_is x xs parts places =
      let places_here : places_of e.partition first (e ∷ h) ≡ first ∷ places_of e.partition (first + 1) h = places_of_its e.partition first e h refl in
      let part_here : part_of e.partition (e ∷ h) ≡ e.batch ∷ part_of e.partition h = part_of_its e.partition e h refl in
      elim (cases_eq x.partition e.partition) [
        | inl same ↦
            let part_there : part_of e.partition (x ∷ xs) ≡ x.batch ∷ part_of e.partition xs = part_of_its e.partition x xs same in
            (sym same, cc)
        | inr other ↦ absurd (places_from e.partition first (first + 1) xs (places_of e.partition (first + 1) h) (omega arith) (sym (places_of_other e.partition first x xs other) ∙ (sym places ∙ places_here)))
      ]

-- the tails of two lists with one front have the same part, and the same places
tails : (p first : ℕ) (e : Entry) (h xs : List Entry) → (part_of p (e ∷ h) ≡ part_of p (e ∷ xs)) × (places_of p first (e ∷ h) ≡ places_of p first (e ∷ xs)) → (part_of p h ≡ part_of p xs) × (places_of p (first + 1) h ≡ places_of p (first + 1) xs)
tails p first e h xs same = elim (cases_eq e.partition p) [
  | inl its ↦
      let a = part_of_its p e h its in
      let b = part_of_its p e xs its in
      let c = places_of_its p first e h its in
      let d = places_of_its p first e xs its in
      (cc (same.0, a, b), cc (same.1, c, d))
  | inr other ↦ (
    sym (part_of_other p e h other) ∙ (same.0 ∙ part_of_other p e xs other),
    sym (places_of_other p first e h other) ∙ (same.1 ∙ places_of_other p first e xs other),
  )
]

-- entries of n partitions are pinned by each one's part and its places
pub pinned : (n first : ℕ) (a b : List Entry) → All (λ entry. IsPartitionOf n entry.partition) a → All (λ entry. IsPartitionOf n entry.partition) b
    → ((p : ℕ) → IsPartitionOf n p → (part_of p a ≡ part_of p b) × (places_of p first a ≡ places_of p first b)) → a ≡ b
pinned n first [] [] in_a in_b same = refl
pinned n first [] (x ∷ xs) in_a in_b same =
    let is = same x.partition (All-head (λ (entry : Entry). IsPartitionOf n entry.partition) x xs in_b) in
    absurd (cc (is.0, part_of_its x.partition x xs refl))
pinned n first (e ∷ h) [] in_a in_b same =
    let is = same e.partition (All-head (λ (entry : Entry). IsPartitionOf n entry.partition) e h in_a) in
    absurd (cc (is.0, part_of_its e.partition e h refl))
pinned n first (e ∷ h) (x ∷ xs) in_a in_b same =
    let Within : Entry → Type 0 = λ (entry : Entry). IsPartitionOf n entry.partition in
    let is = same e.partition (All-head Within e h in_a) in
    let front = front_is n first e h x xs is.0 is.1 in
    let fronts : e ≡ x = ap (λ (q : ℕ). as_entry q e.batch) front.0 ∙ ap (λ (batch : Batch). as_entry x.partition batch) front.1 in
    let rest : (p : ℕ) → IsPartitionOf n p → (part_of p h ≡ part_of p xs) × (places_of p (first + 1) h ≡ places_of p (first + 1) xs)
    = λ (p : ℕ) (one : IsPartitionOf n p). tails p first e h xs (subst (λ (y : Entry). (part_of p (e ∷ h) ≡ part_of p (y ∷ xs)) × (places_of p first (e ∷ h) ≡ places_of p first (y ∷ xs))) (sym fronts) (same p one)) in
    let behind : h ≡ xs = pinned n (first + 1) h xs (All-tail Within e h in_a) (All-tail Within x xs in_b) rest in
    cc (fronts, behind)
