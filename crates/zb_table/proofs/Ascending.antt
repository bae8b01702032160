-- Lists whose keys ascend: one row more, fewer or changed, and what is found in them.
use Rattle.std.proofs.Common.{◌≡◌, ℕ, zero, suc, ◌+◌, ◌<◌, ◌≤◌, ◌==◌, nat_lt, ◌&&◌, List, [], ◌∷◌, ◌++◌, map, length, get_or, slice_set, remove, Bool, true, false, cond, Some, refl, ap, sym, subst, ◌∙◌, arith}
use Rattle.std.specs.List.{find}
use Rattle.std.proofs.lemmas.Bool.Decides.{nat_tests}
use Rattle.zb_table.specs.Rows.{Ascend, are_below}

module _ {A : Type 0} (key : A → ℕ) where
  -- they ascend from a lower one on too
  pub lower : (low high : ℕ) (rows : List A) → low ≤ high → Ascend key high rows → Ascend key low rows
  lower low high [] le up = tt
  lower low high (r ∷ rows) le up = (omega (arith, le, up.0), up.1)

  -- rows with the same keys ascend too, and lie below the same ends
  pub ascend_by_keys : (low : ℕ) (xs ys : List A) → map key xs ≡ map key ys → Ascend key low ys → Ascend key low xs
  ascend_by_keys low [] ys same up = tt
  ascend_by_keys low (x ∷ xs) [] same up = absurd (cc)
  ascend_by_keys low (x ∷ xs) (y ∷ ys) same up =
      let here : key x ≡ key y = cc in
      let later : map key xs ≡ map key ys = cc in
      (omega (arith, here, up.0), subst (λ (n : ℕ). Ascend key (n + 1) xs) (sym here) (ascend_by_keys (key y + 1) xs ys later up.1))

  pub below_by_keys : (high : ℕ) (xs ys : List A) → map key xs ≡ map key ys → are_below key high xs ≡ are_below key high ys
  below_by_keys high [] [] same = refl
  below_by_keys high [] (y ∷ ys) same = absurd (cc)
  below_by_keys high (x ∷ xs) [] same = absurd (cc)
  below_by_keys high (x ∷ xs) (y ∷ ys) same =
      let here : key x ≡ key y = cc in
      let later : map key xs ≡ map key ys = cc in
      ap (λ (n : ℕ). nat_lt n high && are_below key high xs) here ∙ ap (λ (b : Bool). nat_lt (key y) high && b) (below_by_keys high xs ys later)

  -- keys go on ascending with one that is greater than all, where one is changed but for its key, and without one
  pub ascend_more : (low : ℕ) (rows : List A) (row : A) → low ≤ key row → Ascend key low rows → are_below key (key row) rows ≡ true → Ascend key low (rows ++ row ∷ [])
  ascend_more low [] row le up below = (le, tt)
  ascend_more low (r ∷ rows) row le up below =
      let here : key r + 1 ≤ key row = grind (arith, nat_tests, below) in
      let later : are_below key (key row) rows ≡ true = grind (arith, nat_tests, below) in
      (up.0, ascend_more (key r + 1) rows row here up.1 later)

  pub ascend_set : (low : ℕ) (rows : List A) (i : ℕ) (x y : A) → x ≡ get_or rows i x → key y ≡ key x → Ascend key low rows → Ascend key low (slice_set rows i y)
  ascend_set low [] i x y at same up = tt
  ascend_set low (r ∷ rows) zero x y at same up =
      let is : key y ≡ key r = same ∙ ap key at in
      rw is up
  ascend_set low (r ∷ rows) (suc i) x y at same up = (up.0, ascend_set (key r + 1) rows i x y at same up.1)

  pub ascend_remove : (low : ℕ) (rows : List A) (i : ℕ) → Ascend key low rows → Ascend key low (remove rows i)
  ascend_remove low [] zero up = tt
  ascend_remove low [] (suc i) up = tt
  ascend_remove low (r ∷ rows) zero up = lower low (key r + 1) rows (omega (arith, up.0)) up.1
  ascend_remove low (r ∷ rows) (suc i) up = (up.0, ascend_remove (key r + 1) rows i up.1)

  -- no row has a key below theirs
  pub not_below : (low : ℕ) (rows : List A) (i : ℕ) (d : A) → Ascend key low rows → i < length rows → low ≤ key (get_or rows i d)
  not_below low [] i d up within = absurd (omega (arith, within))
  not_below low (r ∷ rows) zero d up within = up.0
  not_below low (r ∷ rows) (suc i) d up within = omega (arith, not_below (key r + 1) rows i d up.1 (omega (arith, within)), up.0)

  -- a row is the one that is found with its key
  pub finds_own : (low : ℕ) (rows : List A) (i : ℕ) (d : A) → i < length rows → Ascend key low rows → find (λ r. key r == key (get_or rows i d)) rows ≡ Some (get_or rows i d)
  finds_own low [] i d within up = absurd (omega (arith, within))
  finds_own low (r ∷ rows) zero d within up = let same : (key r == key r) ≡ true = grind (arith, nat_tests) in rw same refl
  finds_own low (r ∷ rows) (suc i) d within up =
      let above = not_below (key r + 1) rows i d up.1 (omega (arith, within)) in
      let other : (key r == key (get_or rows i d)) ≡ false = grind (arith, nat_tests, above) in
      rw other (finds_own (key r + 1) rows i d (omega (arith, within)) up.1)

  -- what is found is found among more
  pub finds_more : (p : A → Bool) (rows more : List A) (x : A) → find p rows ≡ Some x → find p (rows ++ more) ≡ Some x
  finds_more p [] more x is = absurd (cc)
  finds_more p (r ∷ rows) more x is = by_test (p r) is (finds_more p rows more x)
    where
      by_test : (t : Bool) → cond t (Some r) (find p rows) ≡ Some x → (find p rows ≡ Some x → find p (rows ++ more) ≡ Some x) → cond t (Some r) (find p (rows ++ more)) ≡ Some x
      by_test true is later = is
      by_test false is later = later is
