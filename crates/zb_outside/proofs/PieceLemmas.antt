-- Bytes that are handed out from the front of a list.
use Rattle.std.proofs.Common.{◌≡◌, ◌≤◌, ◌+◌, ◌-◌, ℕ, List, ◌++◌, length, take, drop, slice_range, sym, ap, ◌∙◌, arith}
use Rattle.std.proofs.lemmas.List.{length-take, length-drop, take_at, take-append-drop, drop-drop}

-- a piece that begins with the next bytes, and what is left behind them
pub hands_out : (bytes front rest : List ℕ) (given count : ℕ) → given + count ≤ length bytes → front ≡ slice_range bytes given (given + count) → drop given bytes ≡ take count (front ++ rest) ++ drop (given + count) bytes
hands_out bytes front rest given count fits same =
    let left = drop given bytes in
    let e : given + count - given ≡ count = omega arith in
    let is_front : front ≡ take count left = same ∙ ap (λ n. take n left) e in
    let size : length front ≡ count = ap length is_front ∙ omega (arith, length-take count left, length-drop given bytes) in
    let first : take count (front ++ rest) ≡ take count left = take_at front rest count size ∙ is_front in
    sym (take-append-drop count left) ∙ (ap (λ bs. bs ++ drop count left) (sym first) ∙ ap (λ bs. take count (front ++ rest) ++ bs) (drop-drop count given bytes))
