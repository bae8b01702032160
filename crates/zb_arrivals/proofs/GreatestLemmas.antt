-- The greatest key of the rows that pass.
use Rattle.std.proofs.Common.{◌≡◌, ℕ, ◌+◌, ◌<◌, ◌≤◌, max, List, [], ◌∷◌, ◌++◌, map, filter, length, take, get_or, Bool, true, false, cond, if◌then◌else◌, Option, Some, None, option_map, refl, sym, ap, ◌∙◌, arith}
use Rattle.std.specs.Option.{option_map_or, option_or}
use Rattle.std.proofs.lemmas.List.{take_more}
use Rattle.zb_table.specs.Rows.{Ascend, last_passing}
use Rattle.zb_table.specs.Greatest.{greatest}
use Rattle.zb_arrivals.specs.Newer.{newer_of}

-- one more key is the greatest where it is greater than the best so far
newer_first : (n : ℕ) (rest : Option ℕ) → Some (option_map_or (max n) rest n) ≡ newer_of (Some n) rest
newer_first n None = refl
newer_first n (Some m) = refl

newer_assoc : (a b c : Option ℕ) → newer_of a (newer_of b c) ≡ newer_of (newer_of a b) c
newer_assoc None b c = refl
newer_assoc (Some a) None c = refl
newer_assoc (Some a) (Some b) None = refl
newer_assoc (Some a) (Some b) (Some c) = let e : max a (max b c) ≡ max (max a b) c = grind arith in ap Some e

pub newer_none : (a : Option ℕ) → newer_of a None ≡ a
newer_none None = refl
newer_none (Some a) = refl

-- the greatest of two lists
pub greatest_both : (ms ns : List ℕ) → greatest (ms ++ ns) ≡ newer_of (greatest ms) (greatest ns)
greatest_both [] ns = refl
greatest_both (m ∷ ms) ns =
    newer_first m (greatest (ms ++ ns)) ∙ (ap (newer_of (Some m)) (greatest_both ms ns) ∙ (newer_assoc (Some m) (greatest ms) (greatest ns) ∙ ap (λ (o : Option ℕ). newer_of o (greatest ns)) (sym (newer_first m (greatest ms)))))

module _ {A : Type 0} (key : A → ℕ) (p : A → Bool) where
  -- the greatest key of those that pass
  abbrev pub best_of : List A → Option ℕ
  best_of rows = greatest (map key (filter p rows))

  keys_both : (xs ys : List A) → map key (filter p (xs ++ ys)) ≡ map key (filter p xs) ++ map key (filter p ys)
  keys_both [] ys = refl
  keys_both (x ∷ xs) ys = by_test (p x) (keys_both xs ys)
    where
      by_test : (t : Bool) → map key (filter p (xs ++ ys)) ≡ map key (filter p xs) ++ map key (filter p ys)
          → map key (cond t (x ∷ filter p (xs ++ ys)) (filter p (xs ++ ys))) ≡ map key (cond t (x ∷ filter p xs) (filter p xs)) ++ map key (filter p ys)
      by_test true later = ap (λ (l : List ℕ). key x ∷ l) later
      by_test false later = later

  pub best_both : (xs ys : List A) → best_of (xs ++ ys) ≡ newer_of (best_of xs) (best_of ys)
  best_both xs ys = ap greatest (keys_both xs ys) ∙ greatest_both (map key (filter p xs)) (map key (filter p ys))

  -- with one row more
  pub best_more : (rows : List A) (i : ℕ) (row : A) → i < length rows → row ≡ get_or rows i row → best_of (take (i + 1) rows) ≡ newer_of (best_of (take i rows)) (if p row then Some (key row) else None)
  best_more rows i row within at =
      ap best_of (take_more rows i row within ∙ ap (λ (x : A). take i rows ++ x ∷ []) (sym at)) ∙ (best_both (take i rows) (row ∷ []) ∙ ap (newer_of (best_of (take i rows))) (one (p row)))
    where
      one : (t : Bool) → greatest (map key (cond t (row ∷ []) [])) ≡ (if t then Some (key row) else None)
      one true = refl
      one false = refl

  -- the last that passes isn't below the first
  last_above : (low : ℕ) (rows : List A) (r : A) → Ascend key low rows → last_passing p rows ≡ Some r → low ≤ key r
  last_above low [] r up is = absurd (cc)
  last_above low (x ∷ rows) r up is = by_later (last_passing p rows) (p x) is (last_above (key x + 1) rows r up.1)
    where
      by_later : (later : Option A) (t : Bool) → option_or later (if t then Some x else None) ≡ Some r → (later ≡ Some r → key x + 1 ≤ key r) → low ≤ key r
      by_later (Some y) t is further = let above = further is in omega (arith, above, up.0)
      by_later None true is further = let same : x ≡ r = cc in rw (sym same) up.0
      by_later None false is further = absurd (cc)

  -- where the keys ascend, the last that passes has the greatest key
  pub last_greatest : (low : ℕ) (rows : List A) → Ascend key low rows → option_map key (last_passing p rows) ≡ best_of rows
  last_greatest low [] up = refl
  last_greatest low (x ∷ rows) up = by_later (last_passing p rows) (p x) refl (last_greatest (key x + 1) rows up.1) (λ r. last_above (key x + 1) rows r up.1)
    where
      by_later : (later : Option A) (t : Bool) → last_passing p rows ≡ later → option_map key later ≡ best_of rows → ((r : A) → last_passing p rows ≡ Some r → key x + 1 ≤ key r)
          → option_map key (option_or later (if t then Some x else None)) ≡ greatest (map key (cond t (x ∷ filter p rows) (filter p rows)))
      by_later (Some y) true is rest above =
          let far = above y is in
          let e : max (key x) (key y) ≡ key y = grind (arith, far) in
          rw (sym rest) (ap Some (sym e))
      by_later (Some y) false is rest above = rest
      by_later None true is rest above = rw (sym rest) refl
      by_later None false is rest above = rest
