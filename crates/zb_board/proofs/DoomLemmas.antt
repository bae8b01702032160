-- Who is called off where cells come, change and go: nobody is but those who were, and those below a cell that begins to call off what is in it.
use Rattle.std.proofs.Common.{◌≡◌, ℕ, ◌+◌, ◌<◌, ◌≤◌, ◌==◌, nat_lt, List, [], ◌∷◌, length, filter, All, Bool, true, false, ◌||◌, cond, is_some, Option, Some, None, refl, sym, ap, ◌∙◌, arith}
use Rattle.std.specs.List.{find}
use Rattle.std.specs.Option.{option_map_or}
use Rattle.std.proofs.lemmas.Bool.Decides.{nat_tests}
use Rattle.zb_tokens.specs.declared.board.Cell.{Cell}
use Rattle.zb_tokens.specs.Board.{Board, cell_at, up_from}
use Rattle.zb_tokens.proofs.FoundLaws.{found_holds}

-- a cell is newer than its scope
abbrev pub IsNewer : Cell → Type 0
IsNewer c = c.scope < c.key

-- a cell above passes
abbrev pub climbs : (Cell → Bool) → Board → List Cell → ℕ → Bool
climbs p b fuel k = is_some (find p (up_from fuel b k))

-- a cell passes no test that none does
pub none_climbs : (b : Board) (fuel : List Cell) (k : ℕ) → climbs (λ _. false) b fuel k ≡ false
none_climbs b fuel k = by_list (up_from fuel b k)
  where
    by_list : (cells : List Cell) → is_some (find (λ (_ : Cell). false) cells) ≡ false
    by_list [] = refl
    by_list (c ∷ cells) = by_list cells

-- where cells of two boards, up to a bound, are in the same scopes, and pass one test there only where they pass one of two here, one passes above there only where one does here
module _ (b after : Board) (p q passes : Cell → Bool) (bound : ℕ)
    (same : (k : ℕ) (d : Cell) → k < bound → cell_at after k ≡ Some d → (c : Cell) × (cell_at b k ≡ Some c) × (c.scope ≡ d.scope) × (d.scope < bound) × (passes d ≡ true → (p c || q c) ≡ true)) where
  pub climbed : (there here : List Cell) (k : ℕ) → length there ≤ length here → k < bound → climbs passes after there k ≡ true → (climbs p b here k || climbs q b here k) ≡ true
  climbed [] here k fuel below is = absurd (cc)
  climbed (x ∷ there) [] k fuel below is = absurd (omega (arith, fuel))
  climbed (x ∷ there) (y ∷ here) k fuel below is = by_found (λ up lower was. climbed there here up (omega (arith, fuel)) lower was) (cell_at after k) refl is
    where
      either : (s t : Bool) (c : Cell) (u v : Bool) → (s || t) ≡ true → (is_some (cond s (Some c) (cond u (Some c) None)) || is_some (cond t (Some c) (cond v (Some c) None))) ≡ true
      either true t c u v is = refl
      either false true c u v is = by_first u
        where
          by_first : (w : Bool) → (is_some (cond w (Some c) None) || true) ≡ true
          by_first true = refl
          by_first false = refl
      either false false c u v is = absurd (cc)

      passed : (s t : Bool) (c : Cell) (xs : List Cell) → p c ≡ s → q c ≡ t → (s || t) ≡ true → (is_some (find p (c ∷ xs)) || is_some (find q (c ∷ xs))) ≡ true
      passed true t c xs first second is = rw first refl
      passed false true c xs first second is = rw second (by_first (is_some (find p (c ∷ xs))))
        where
          by_first : (w : Bool) → (w || true) ≡ true
          by_first true = refl
          by_first false = refl
      passed false false c xs first second is = absurd (cc)

      behind : (s t : Bool) (c : Cell) (xs : List Cell) → p c ≡ s → q c ≡ t → (is_some (find p xs) || is_some (find q xs)) ≡ true → (is_some (find p (c ∷ xs)) || is_some (find q (c ∷ xs))) ≡ true
      behind true t c xs first second is = rw first refl
      behind false true c xs first second is = passed false true c xs first second refl
      behind false false c xs first second is = rw (first, second) is

      by_test : ((up : ℕ) → up < bound → climbs passes after there up ≡ true → (climbs p b here up || climbs q b here up) ≡ true) → (t : Bool) (d c : Cell) → passes d ≡ t → cell_at b k ≡ Some c → c.scope ≡ d.scope → d.scope < bound → (passes d ≡ true → (p c || q c) ≡ true)
          → is_some {T = Cell} (cond t (Some d) (find passes (up_from there after d.scope))) ≡ true → (climbs p b (y ∷ here) k || climbs q b (y ∷ here) k) ≡ true
      by_test later true d c it at scope lower gives is = rw at (passed (p c) (q c) c (up_from here b c.scope) refl refl (gives it))
      by_test later false d c it at scope lower gives is =
          let above = later d.scope lower is in
          rw at (behind (p c) (q c) c (up_from here b c.scope) refl refl (rw scope above))

      by_found : ((up : ℕ) → up < bound → climbs passes after there up ≡ true → (climbs p b here up || climbs q b here up) ≡ true) → (found : Option Cell) → cell_at after k ≡ found
          → climbs passes after (x ∷ there) k ≡ true → (climbs p b (y ∷ here) k || climbs q b (y ∷ here) k) ≡ true
      by_found later None none is = absurd (let never : climbs passes after (x ∷ there) k ≡ false = rw none refl in cc)
      by_found later (Some d) at is =
          let r = same k d below at in
          by_test later (passes d) d r.0 refl r.1 r.2 r.3 r.4 (sym (ap (λ (o : Option Cell). is_some (find passes (option_map_or (λ x. x ∷ up_from there after x.scope) o []))) at) ∙ is)

-- fewer cells have keys up to a lower bound, where there is one with the higher
module _ (s k : ℕ) (less : s < k) where
  count_within : (cells : List Cell) → length (filter (λ x. nat_lt x.key (s + 1)) cells) ≤ length (filter (λ x. nat_lt x.key (k + 1)) cells)
  count_within [] = omega arith
  count_within (x ∷ cells) = by_tests (nat_lt x.key (s + 1)) (nat_lt x.key (k + 1)) (λ is. grind (arith, nat_tests, is, less)) (count_within cells)
    where
      by_tests : (t u : Bool) → (t ≡ true → u ≡ true) → length (filter (λ y. nat_lt y.key (s + 1)) cells) ≤ length (filter (λ y. nat_lt y.key (k + 1)) cells)
          → length (cond t (x ∷ filter (λ y. nat_lt y.key (s + 1)) cells) (filter (λ y. nat_lt y.key (s + 1)) cells)) ≤ length (cond u (x ∷ filter (λ y. nat_lt y.key (k + 1)) cells) (filter (λ y. nat_lt y.key (k + 1)) cells))
      by_tests true true both later = omega (arith, later)
      by_tests true false both later = absurd (let never = both refl in cc)
      by_tests false true both later = omega (arith, later)
      by_tests false false both later = later

  count_less : (cells : List Cell) (c : Cell) → find (λ x. x.key == k) cells ≡ Some c → length (filter (λ x. nat_lt x.key (s + 1)) cells) < length (filter (λ x. nat_lt x.key (k + 1)) cells)
  count_less [] c found = absurd (cc)
  count_less (x ∷ cells) c found = by_key (count_less cells c) (x.key == k) refl found
    where
      by_own : (t u : Bool) → t ≡ false → u ≡ true
          → length (cond t (x ∷ filter (λ y. nat_lt y.key (s + 1)) cells) (filter (λ y. nat_lt y.key (s + 1)) cells)) < length (cond u (x ∷ filter (λ y. nat_lt y.key (k + 1)) cells) (filter (λ y. nat_lt y.key (k + 1)) cells))
      by_own true u isnt it = absurd (cc)
      by_own false true isnt it = let within = count_within cells in omega (arith, within)
      by_own false false isnt it = absurd (cc)

      by_tests : (t u : Bool) → (t ≡ true → u ≡ true) → length (filter (λ y. nat_lt y.key (s + 1)) cells) < length (filter (λ y. nat_lt y.key (k + 1)) cells)
          → length (cond t (x ∷ filter (λ y. nat_lt y.key (s + 1)) cells) (filter (λ y. nat_lt y.key (s + 1)) cells)) < length (cond u (x ∷ filter (λ y. nat_lt y.key (k + 1)) cells) (filter (λ y. nat_lt y.key (k + 1)) cells))
      by_tests true true both later = omega (arith, later)
      by_tests true false both later = absurd (let never = both refl in cc)
      by_tests false true both later = omega (arith, later)
      by_tests false false both later = later

      by_key : (find (λ y. y.key == k) cells ≡ Some c → length (filter (λ y. nat_lt y.key (s + 1)) cells) < length (filter (λ y. nat_lt y.key (k + 1)) cells)) → (t : Bool) → (x.key == k) ≡ t
          → cond t (Some x) (find (λ y. y.key == k) cells) ≡ Some c → length (filter (λ y. nat_lt y.key (s + 1)) (x ∷ cells)) < length (filter (λ y. nat_lt y.key (k + 1)) (x ∷ cells))
      by_key later true is found = by_own (nat_lt x.key (s + 1)) (nat_lt x.key (k + 1)) (grind (arith, nat_tests, is, less)) (grind (arith, nat_tests, is))
      by_key later false other found = by_tests (nat_lt x.key (s + 1)) (nat_lt x.key (k + 1)) (λ is. grind (arith, nat_tests, is, less)) (later found)

module _ (b : Board) (newer : All IsNewer b.cells) where
  -- the scope of a cell that is there is older than its key
  pub scope_older : (k : ℕ) (c : Cell) → cell_at b k ≡ Some c → c.scope < k
  scope_older k c at =
      let r = found_holds (λ (x : Cell). x.key == k) IsNewer b.cells c newer at in
      let own : c.key ≡ k = (let is = r.1 in grind (arith, nat_tests, is)) in
      let older = r.0 in
      omega (arith, own, older)

  -- going up takes no more steps than there are cells with keys up to that
  pub climbs_less : (passes : Cell → Bool) (more fuel : List Cell) (k : ℕ) → length (filter (λ x. nat_lt x.key (k + 1)) b.cells) ≤ length fuel → climbs passes b more k ≡ true → climbs passes b fuel k ≡ true
  climbs_less passes [] fuel k enough is = absurd (cc)
  climbs_less passes (x ∷ more) fuel k enough is = by_found (λ left up lower was. climbs_less passes more left up lower was) (cell_at b k) refl is
    where
      by_test : (t : Bool) (c : Cell) (xs ys : List Cell) → (is_some (find passes xs) ≡ true → is_some (find passes ys) ≡ true) → is_some {T = Cell} (cond t (Some c) (find passes xs)) ≡ true → is_some {T = Cell} (cond t (Some c) (find passes ys)) ≡ true
      by_test true c xs ys later is = refl
      by_test false c xs ys later is = later is

      by_fuel : ((left : List Cell) (up : ℕ) → length (filter (λ y. nat_lt y.key (up + 1)) b.cells) ≤ length left → climbs passes b more up ≡ true → climbs passes b left up ≡ true) → (fuel : List Cell) (c : Cell) → length (filter (λ y. nat_lt y.key (k + 1)) b.cells) ≤ length fuel → cell_at b k ≡ Some c → climbs passes b (x ∷ more) k ≡ true → climbs passes b fuel k ≡ true
      by_fuel later [] c enough at is = absurd (let some = count_less c.scope k (scope_older k c at) b.cells c at in omega (arith, enough, some))
      by_fuel later (y ∷ fuel) c enough at is =
          let some = count_less c.scope k (scope_older k c at) b.cells c at in
          let was = is in
          rw at (by_test (passes c) c (up_from more b c.scope) (up_from fuel b c.scope) (later fuel c.scope (omega (arith, enough, some))) (sym (ap (λ (o : Option Cell). is_some (find passes (option_map_or (λ x. x ∷ up_from more b x.scope) o []))) at) ∙ was))

      by_found : ((left : List Cell) (up : ℕ) → length (filter (λ y. nat_lt y.key (up + 1)) b.cells) ≤ length left → climbs passes b more up ≡ true → climbs passes b left up ≡ true) → (found : Option Cell) → cell_at b k ≡ found → climbs passes b (x ∷ more) k ≡ true → climbs passes b fuel k ≡ true
      by_found later None none is = absurd (let never : climbs passes b (x ∷ more) k ≡ false = rw none refl in cc)
      by_found later (Some c) at is = by_fuel later fuel c enough at is
