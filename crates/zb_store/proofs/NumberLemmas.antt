-- The number that eight bytes of a file spell.
use Rattle.std.proofs.Common.{◌≡◌, ℕ, zero, suc, ◌+◌, ◌-◌, ◌<◌, ◌≤◌, List, length, drop, sym, ◌∙◌, ap, arith, get_or-take, get_or-drop}
use Rattle.std.specs.Prelude.{slice_index, slice_range}
use Rattle.std.specs.Int.{w64, from_be_bytes, sum_through, byte_worth}
use Rattle.zb_store.specs.Step.{AreFrom}
use Rattle.zb_store.specs.Stands.{next_gate, RunsPast}
use Rattle.zb_store.proofs.GateLemmas.{next_behind}

-- sums of the same numbers
same_sums : (f g : ℕ → ℕ) (n : ℕ) → ((i : ℕ) → i ≤ n → f i ≡ g i) → sum_through f n ≡ sum_through g n
same_sums f g zero same = same 0 (omega arith)
same_sums f g (suc k) same =
    let front = same_sums f g k (λ i le. same i (omega arith)) in
    ap (λ (x : ℕ). x + f (suc k)) front ∙ ap (λ (x : ℕ). sum_through g k + x) (same (suc k) (omega arith))

-- the same bytes spell the same number
same_numbers : (xs ys : List ℕ) → ((i : ℕ) → i < 8 → slice_index xs i ≡ slice_index ys i) → from_be_bytes w64 xs ≡ from_be_bytes w64 ys
same_numbers xs ys same =
    same_sums (λ i. byte_worth (7 - i) (slice_index xs i)) (λ i. byte_worth (7 - i) (slice_index ys i)) 7 (λ i le. ap (λ (x : ℕ). byte_worth (7 - i) x) (same i (omega arith)))

-- an element of a part of a list
pub in_range : (xs : List ℕ) (a b i : ℕ) → i < b - a → slice_index (slice_range xs a b) i ≡ slice_index xs (a + i)
in_range xs a b i lt = get_or-take (b - a) (drop a xs) i 0 lt ∙ get_or-drop a xs i 0

-- the length behind a gate, by bytes of the file from the gate on
pub next_by_bytes : (file : List ℕ) (at : ℕ) (bytes : List ℕ) → AreFrom file at bytes → 9 ≤ length bytes → next_gate file at ≡ at + 9 + from_be_bytes w64 (slice_range bytes 1 9)
unfolding next_gate
next_by_bytes file at bytes from long =
    ap (λ (n : ℕ). at + 9 + n) (sym (same_numbers (slice_range bytes 1 9) (slice_range file (at + 1) (at + 9)) same))
  where
    same : (i : ℕ) → i < 8 → slice_index (slice_range bytes 1 9) i ≡ slice_index (slice_range file (at + 1) (at + 9)) i
    same i lt =
        let place : at + (1 + i) ≡ at + 1 + i = omega arith in
        in_range bytes 1 9 i lt ∙ from (1 + i) (omega arith) ∙ ap (λ (n : ℕ). slice_index file n) place ∙ sym (in_range file (at + 1) (at + 9) i (omega arith))

-- the gate, by bytes of the file from it on
pub gate_by_bytes : (file : List ℕ) (at : ℕ) (bytes : List ℕ) → AreFrom file at bytes → 0 < length bytes → slice_index bytes 0 ≡ slice_index file at
gate_by_bytes file at bytes from some =
    let here : at + 0 ≡ at = omega arith in
    from 0 some ∙ ap (λ (n : ℕ). slice_index file n) here

-- an open gate with fewer bytes behind it than a length has
pub short_is_past : (file : List ℕ) (at : ℕ) (bytes : List ℕ) → AreFrom file at bytes → 0 < length bytes → (slice_index bytes 0 ≡ 0 → ⊥) → at + length bytes ≡ length file → length bytes < 9 → RunsPast file at
short_is_past file at bytes from some is_open all short =
    let behind : at + 9 ≤ next_gate file at = next_behind file at in
    record { is_open = λ closed. is_open (gate_by_bytes file at bytes from some ∙ closed); past = omega arith }
