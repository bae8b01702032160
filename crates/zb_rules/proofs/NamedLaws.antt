-- Events that name keys which were drawn already use none up: where a key is left, one still is behind them.
use Rattle.std.proofs.Common.{◌≡◌, ℕ, ◌+◌, ◌<◌, ◌≤◌, ◌==◌, List, [], ◌∷◌, ◌++◌, Bool, true, false, if◌then◌else◌, Some, refl, arith}
use Rattle.std.specs.List.{find}
use Rattle.std.proofs.lemmas.Bool.Decides.{nat_tests}
use Rattle.zb_model.specs.declared.record.Event.{Event}
use Rattle.zb_views.specs.View.{counter_at, keys_in, greatest_among, greatest_counter, next_key}
use Rattle.zb_views.proofs.ViewLaws.{greatest_counter_more}
use Rattle.zb_tokens.specs.declared.board.Cell.{Cell}
use Rattle.zb_rules.proofs.MadeLaws.{is_keyed}
use Rattle.zb_rules.proofs.CellsLaws.{Between}
use Rattle.zb_rules.specs.Sound.{HasKeys}

-- a key below the next one counts no more than the greatest
pub counted_below : (p key : ℕ) (es : List Event) → HasKeys p es 1 → key < next_key p es → counter_at p key ≤ greatest_counter p es
counted_below p key es keys below = grind (arith, nat_tests)

-- an event whose keys were drawn already leaves as many as there were
pub keys_left : (p n : ℕ) (es : List Event) (e : Event) → HasKeys p es n → greatest_among p (keys_in e) ≤ greatest_counter p es → HasKeys p (es ++ e ∷ []) n
keys_left p n es e keys named =
    let more = greatest_counter_more p es (e ∷ []) in
    let its : greatest_counter p (e ∷ []) ≡ greatest_among p (keys_in e) = only_its (keys_in e) in
    omega (arith, keys, named, more, its)
  where
    only_its : (ks : List ℕ) → greatest_among p (ks ++ []) ≡ greatest_among p ks
    only_its [] = refl
    only_its (k ∷ ks) = omega (arith, only_its ks)

-- the key of a cell that is found lies below the bound of all
below_by : (low high key : ℕ) (x c : Cell) (cells : List Cell) (t : Bool) → x.key < high → (x.key == key) ≡ t → (find (is_keyed key) cells ≡ Some c → key < high)
    → (if t then Some x else find (is_keyed key) cells) ≡ Some c → key < high
below_by low high key x c cells true below same later found = grind (arith, nat_tests)
below_by low high key x c cells false below other later found = later found

-- a cell that is found among cells whose keys lie between two has a key below the upper one
pub found_below : (low high key : ℕ) (cells : List Cell) (c : Cell) → Between low high cells → find (is_keyed key) cells ≡ Some c → key < high
found_below low high key [] c between found = absurd (cc)
found_below low high key (x ∷ cells) c between found = below_by low high key x c cells (x.key == key) between.1 refl (found_below (x.key + 1) high key cells c between.2) found
