-- The first token that can enter is the first of the coming numbers that is one of a token that can.
use Rattle.std.proofs.Common.{◌≡◌, ℕ, ◌+◌, ◌≤◌, ◌==◌, List, [], ◌∷◌, Bool, true, false, ◌||◌, cond, if◌then◌else◌, Option, Some, None, option_map, refl, sym, ap, ◌∙◌, arith}
use Rattle.std.specs.List.{find}
use Rattle.std.specs.Option.{option_map_or}
use Rattle.std.proofs.lemmas.Bool.Decides.{nat_tests}
use Rattle.zb_table.specs.Rows.{Ascend, first_passing, row_at}
use Rattle.zb_groups.specs.declared.held.Held.{Held}
use Rattle.zb_groups.specs.Groups.{passes_at}
use Rattle.zb_tokens.specs.declared.board.Token.{Token}
use Rattle.zb_tokens.proofs.GameLaws.{found_holds}
use Rattle.zb_tokens.specs.MoveEnter.{stands_at}
use Rattle.zb_pairs.proofs.FoundLemmas.{first_is_found}
use Rattle.zb_places.specs.Places.{first_there, held_tokens, IsFirst}
use Rattle.zb_places.proofs.HeldLemmas.{number_in, find_row, own_number}
use Rattle.zb_places.proofs.SpotLemmas.{spot_itself}
use Rattle.zb_tokens.specs.Board.{Board}
use Rattle.zb_tokens.specs.Forced.{can_enter}
use Rattle.zb_board.specs.Indexed.{is_kept}
use Rattle.zb_board.proofs.ComingLemmas.{IsAwaited, enters_moves, same_place}

module _ (q : ℕ → Bool) where
  -- keys that are kept aren't below the first
  kept_above : (low : ℕ) (keys : List ℕ) (n : ℕ) → Ascend (λ (k : ℕ). k) low keys → is_kept keys n ≡ true → low ≤ n
  kept_above low [] n up is = absurd (cc)
  kept_above low (x ∷ keys) n up is = by_here (x == n) refl is (kept_above (x + 1) keys n up.1)
    where
      by_here : (t : Bool) → (x == n) ≡ t → (t || is_kept keys n) ≡ true → (is_kept keys n ≡ true → x + 1 ≤ n) → low ≤ n
      by_here true same there later = let is : x ≡ n = grind (arith, nat_tests) in omega (arith, is, up.0)
      by_here false other there later = let above = later there in omega (arith, above, up.0)

  -- the first key that passes is no greater than any that does
  pub down_to : (low : ℕ) (keys : List ℕ) (n : ℕ) → Ascend (λ (k : ℕ). k) low keys → is_kept keys n ≡ true → q n ≡ true → (k : ℕ) × (first_passing q keys ≡ Some k) × (k ≤ n)
  down_to low [] n up in_it it = absurd (cc)
  down_to low (x ∷ keys) n up in_it it = by_first (q x) refl (λ there. down_to (x + 1) keys n up.1 there it)
    where
      from_here : (t : Bool) → (x == n) ≡ t → (t || is_kept keys n) ≡ true → x ≤ n
      from_here true same there = let is : x ≡ n = grind (arith, nat_tests) in omega (arith, is)
      from_here false other there = let above = kept_above (x + 1) keys n up.1 there in omega (arith, above)

      not_here : (t : Bool) → (x == n) ≡ t → (t || is_kept keys n) ≡ true → q x ≡ false → is_kept keys n ≡ true
      not_here true same there fails =
          let is : x ≡ n = grind (arith, nat_tests) in
          let passes : q x ≡ true = ap q is ∙ it in
          absurd (cc)
      not_here false other there fails = there

      by_first : (t : Bool) → q x ≡ t → (is_kept keys n ≡ true → (k : ℕ) × (first_passing q keys ≡ Some k) × (k ≤ n)) → (k : ℕ) × ((if t then Some x else first_passing q keys) ≡ Some k) × (k ≤ n)
      by_first true passes later = (x, refl, from_here (x == n) refl in_it)
      by_first false fails later = later (not_here (x == n) refl in_it fails)

  -- and it passes
  pub first_passes : (keys : List ℕ) (k : ℕ) → first_passing q keys ≡ Some k → q k ≡ true
  first_passes keys k is = (found_holds q (λ n. Unit {0}) keys k (λ i d within. tt) (sym (first_is_found q keys) ∙ is)).1

module _ (p : Token → Bool) where
  abbrev first : List (Held Token) → Option (Held Token)
  first rows = find (λ h. p h.row) rows

  -- the number of the first row that passes is no greater than that of any that does
  least_row : (low : ℕ) (rows : List (Held Token)) (n : ℕ) → Ascend number_in low rows → passes_at p rows n ≡ true → (low ≤ n) × ((h : Held Token) × (first rows ≡ Some h) × (h.number ≤ n))
  least_row low [] n up is = absurd (cc)
  least_row low (x ∷ rows) n up is = by_number (x.number == n) (p x.row) refl refl is (least_row (x.number + 1) rows n up.1)
    where
      by_number : (t u : Bool) → (x.number == n) ≡ t → p x.row ≡ u → option_map_or (λ h. p h.row) (if t then Some x else row_at number_in n rows) false ≡ true
          → (passes_at p rows n ≡ true → (x.number + 1 ≤ n) × ((h : Held Token) × (first rows ≡ Some h) × (h.number ≤ n)))
          → (low ≤ n) × ((h : Held Token) × (cond u (Some x) (first rows) ≡ Some h) × (h.number ≤ n))
      by_number true true same passes is later =
          let one : x.number ≡ n = grind (arith, nat_tests) in
          (omega (arith, one, up.0), (x, refl, omega (arith, one)))
      by_number true false same fails is later = absurd (cc)
      by_number false true other passes is later =
          let r = later is in
          let above = r.0 in
          (omega (arith, above, up.0), (x, refl, omega (arith, above)))
      by_number false false other fails is later =
          let r = later is in
          let above = r.0 in
          (omega (arith, above, up.0), r.1)

  -- the first of all is the first at its spot
  first_of_spot : (rows : List (Held Token)) (h : Held Token) → first rows ≡ Some h → p h.row ≡ true → IsFirst rows h
  first_of_spot rows h is passes = narrowed rows is
    where
      same : (x : Held Token) → stands_at h.row.scope h.row.spot x.row ≡ true → p x.row ≡ true
      same x there = ap p (same_place x.row h.row there) ∙ passes

      itself : stands_at h.row.scope h.row.spot h.row ≡ true
      itself = let one : (h.row.scope == h.row.scope) ≡ true = grind (arith, nat_tests) in rw one (spot_itself h.row.spot)

      by_tests : (x : Held Token) (rows : List (Held Token)) → (first rows ≡ Some h → IsFirst rows h) → (t u : Bool) → p x.row ≡ t → stands_at h.row.scope h.row.spot x.row ≡ u → cond t (Some x) (first rows) ≡ Some h → cond u (Some x) (first_there h.row.scope h.row.spot rows) ≡ Some h
      by_tests x rows later true true it there is = is
      by_tests x rows later true false it apart is = absurd (let one : x ≡ h = cc in let both : true ≡ false = sym itself ∙ (sym (ap (λ (y : Held Token). stands_at h.row.scope h.row.spot y.row) one) ∙ apart) in cc)
      by_tests x rows later false true fails there is = absurd (let both = sym (same x there) ∙ fails in cc)
      by_tests x rows later false false fails apart is = later is

      narrowed : (rows : List (Held Token)) → first rows ≡ Some h → IsFirst rows h
      narrowed [] is = absurd (cc)
      narrowed (x ∷ rows) is = by_tests x rows (narrowed rows) (p x.row) (stands_at h.row.scope h.row.spot x.row) refl refl is

  module _ (rows : List (Held Token)) (coming : List ℕ) (rows_up : Ascend number_in 0 rows) (coming_up : Ascend (λ (k : ℕ). k) 0 coming) (kept : (h : Held Token) → IsFirst rows h → p h.row ≡ true → is_kept coming h.number ≡ true) where
    -- the first row that passes is among those that come
    found_kept : (h : Held Token) → first rows ≡ Some h → (is_kept coming h.number ≡ true) × (passes_at p rows h.number ≡ true)
    found_kept h is =
        let own = own_number (λ x. p x.row) rows h rows_up is in
        (kept h (first_of_spot rows h is own.1) own.1, ap (λ (o : Option (Held Token)). option_map_or (λ x. p x.row) o false) own.0 ∙ own.1)

    by_none : (found : Option (Held Token)) → first rows ≡ found → first_passing (passes_at p rows) coming ≡ None → None ≡ option_map number_in found
    by_none None at is = refl
    by_none (Some h) at is =
        let there = found_kept h at in
        let r = down_to (passes_at p rows) 0 coming h.number coming_up there.0 there.1 in
        let some = r.1 in
        absurd (cc)

    by_first : (found : Option ℕ) → first_passing (passes_at p rows) coming ≡ found → found ≡ option_map number_in (first rows)
    by_first None is = by_none (first rows) refl is
    by_first (Some k) is =
        let passes = first_passes (passes_at p rows) coming k is in
        let r = (least_row 0 rows k rows_up passes).1 in
        let there = found_kept r.0 r.1 in
        let d = down_to (passes_at p rows) 0 coming r.0.number coming_up there.0 there.1 in
        let same : d.0 ≡ k = (let e : Some d.0 ≡ Some k = sym d.1 ∙ is in cc) in
        let up_to = r.2 in
        let low_to = d.2 in
        let number : k ≡ r.0.number = omega (arith, same, up_to, low_to) in
        ap (λ (n : ℕ). Some n) number ∙ ap (option_map number_in) (sym r.1)

    -- the first of the coming numbers whose row passes is that of the first row that does
    pub first_coming : first_passing (passes_at p rows) coming ≡ option_map number_in (first rows)
    first_coming = by_first (first_passing (passes_at p rows) coming) refl

  -- the token with that number
  pub read_first : (rows : List (Held Token)) (n : ℕ) → Ascend number_in 0 rows → Some n ≡ option_map number_in (first rows) → option_map (λ (h : Held Token). h.row) (row_at number_in n rows) ≡ find p (held_tokens rows)
  read_first rows n up is = by_found (first rows) refl is ∙ sym (find_row p rows)
    where
      by_found : (found : Option (Held Token)) → first rows ≡ found → Some n ≡ option_map number_in found → option_map (λ (h : Held Token). h.row) (row_at number_in n rows) ≡ option_map (λ (h : Held Token). h.row) found
      by_found None at is = absurd (cc)
      by_found (Some h) at is =
          let same : n ≡ h.number = cc in
          let own = own_number (λ x. p x.row) rows h up at in
          ap (λ (k : ℕ). option_map (λ (x : Held Token). x.row) (row_at number_in k rows)) same ∙ ap (option_map (λ (x : Held Token). x.row)) own.0

  -- none where there is no number
  pub read_none : (rows : List (Held Token)) → None ≡ option_map number_in (first rows) → None ≡ find p (held_tokens rows)
  read_none rows is = by_found (first rows) is ∙ sym (find_row p rows)
    where
      by_found : (found : Option (Held Token)) → None ≡ option_map number_in found → None ≡ option_map (λ (h : Held Token). h.row) found
      by_found None is = refl
      by_found (Some h) is = absurd (cc)

-- a token that can enter, and is the first at its spot, is among those that come
pub all_waiting : (b : Board) (coming : List ℕ) (rows : List (Held Token)) → IsAwaited b rows coming → (h : Held Token) → IsFirst rows h → can_enter b h.row ≡ true → is_kept coming h.number ≡ true
all_waiting b coming rows awaited h first enters = awaited h first (enters_moves b h.row enters)
