-- Parts of a file, in another file that begins as it does, and in a window.
use Rattle.std.proofs.Common.{◌≡◌, ℕ, ◌+◌, ◌-◌, ◌<◌, ◌≤◌, List, length, take, drop, sym, ◌∙◌, ap, arith, get_or-take, get_or-drop, length-drop}
use Rattle.std.specs.Prelude.{slice_index, slice_range}
use Rattle.std.specs.Int.{w64, from_be_bytes}
use Rattle.std.proofs.lemmas.List.{take-take, drop-take, drop-drop, length-take-le}
use Rattle.zb_store.specs.Stands.{next_gate}
use Rattle.zb_store.specs.Step.{AreFrom}
use Rattle.zb_store.proofs.NumberLemmas.{in_range}

-- two files whose first n bytes are the same
module _ (file c : List ℕ) (n : ℕ) (same : take n c ≡ take n file) where
  pub byte_kept : (k : ℕ) → k < n → slice_index c k ≡ slice_index file k
  byte_kept k lt = sym (get_or-take n c k 0 lt) ∙ ap (λ (l : List ℕ). slice_index l k) same ∙ get_or-take n file k 0 lt

  rest_kept : (a : ℕ) → a ≤ n → take (n - a) (drop a c) ≡ take (n - a) (drop a file)
  rest_kept a le =
      let all : a + (n - a) ≡ n = omega arith in
      sym (drop-take a (n - a) c)
      ∙ ap (λ (m : ℕ). drop a (take m c)) all
      ∙ ap (λ (l : List ℕ). drop a l) same
      ∙ ap (λ (m : ℕ). drop a (take m file)) (sym all)
      ∙ drop-take a (n - a) file

  pub part_kept : (a b : ℕ) → a ≤ n → b ≤ n → slice_range c a b ≡ slice_range file a b
  part_kept a b from to =
      let few : b - a ≤ n - a = omega arith in
      sym (take-take (b - a) (n - a) (drop a c) few)
      ∙ ap (λ (l : List ℕ). take (b - a) l) (rest_kept a from)
      ∙ take-take (b - a) (n - a) (drop a file) few

  pub next_kept : (at : ℕ) → at + 9 ≤ n → next_gate c at ≡ next_gate file at
  unfolding next_gate
  next_kept at le = ap (λ (l : List ℕ). at + 9 + from_be_bytes w64 l) (part_kept (at + 1) (at + 9) (omega arith) le)

-- how long a part is
pub part_length : (xs : List ℕ) (a b : ℕ) → b ≤ length xs → length (slice_range xs a b) ≡ b - a
part_length xs a b inside = length-take-le (b - a) (drop a xs) (omega (arith, length-drop a xs))

-- the bytes of a window from a place on are those of the file
pub piece_from : (file bytes : List ℕ) (start filled at : ℕ) → take filled bytes ≡ take filled (drop start file) → filled ≤ length bytes → start ≤ at → AreFrom file at (slice_range bytes (at - start) filled)
piece_from file bytes start filled at same inside begins k lt =
    let from = at - start in
    let within : k < filled - from = omega (arith, lt, part_length bytes from filled inside) in
    let place : start + (from + k) ≡ at + k = omega arith in
    in_range bytes from filled k within
    ∙ byte_kept (drop start file) bytes filled same (from + k) (omega (arith, within))
    ∙ get_or-drop start file (from + k) 0
    ∙ ap (λ (n : ℕ). slice_index file n) place

-- a part of a window is one of the file
pub piece_part : (file bytes : List ℕ) (start filled from to a b : ℕ) → take filled bytes ≡ take filled (drop start file) → from ≤ filled → to ≤ filled → start + from ≡ a → start + to ≡ b → slice_range bytes from to ≡ slice_range file a b
piece_part file bytes start filled from to a b same begins ends here there =
    let size : to - from ≡ b - a = omega (arith, here, there) in
    part_kept (drop start file) bytes filled same from to begins ends
    ∙ ap (λ (l : List ℕ). take (to - from) l) (drop-drop from start file)
    ∙ ap (λ (n : ℕ). take (to - from) (drop n file)) here
    ∙ ap (λ (n : ℕ). take n (drop a file)) size
