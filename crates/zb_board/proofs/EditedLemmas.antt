-- A cell of a board that is edited, or taken away.
use Rattle.std.proofs.Common.{◌≡◌, ℕ, ◌<◌, ◌==◌, List, length, get_or, slice_set, remove, true, false, Option, Some, None, is_none, refl, arith}
use Rattle.std.specs.List.{find}
use Rattle.std.proofs.lemmas.Bool.Decides.{nat_tests}
use Rattle.zb_tokens.specs.declared.board.Cell.{Cell}
use Rattle.zb_tokens.specs.Edits.{edited, removed}
use Rattle.zb_arrivals.proofs.EditLemmas.{found_place}

-- where a cell with a key stands, and what an edit makes of the cells
pub record IsThere (cells : List Cell) (key : ℕ) (c : Cell) : Type 0 where
  pub place : ℕ
  pub within : place < length cells
  pub at : c ≡ get_or cells place c
  pub gone : removed (λ x. x.key == key) cells ≡ Some (remove cells place)
  pub made : (edit : Cell → Cell) → edited (λ x. x.key == key) edit cells ≡ Some (slice_set cells place (edit c))
  pub own : c.key ≡ key

pub there : (cells : List Cell) (key : ℕ) (c : Cell) → find (λ x. x.key == key) cells ≡ Some c → IsThere cells key c
there cells key c is =
    let r = found_place (λ (x : Cell). x.key == key) cells c is in
    let same = r.5 in
    record { place = r.0; within = r.1; at = r.2; gone = r.3; made = r.4; own = grind (arith, nat_tests, same) }

-- a cell that is there
pub some_there : (cells : List Cell) (key : ℕ) → is_none (find (λ x. x.key == key) cells) ≡ false → (c : Cell) × IsThere cells key c
some_there cells key some = by_found (find (λ x. x.key == key) cells) refl some
  where
    by_found : (found : Option Cell) → find (λ x. x.key == key) cells ≡ found → is_none found ≡ false → (c : Cell) × IsThere cells key c
    by_found None is some = absurd (cc)
    by_found (Some c) is some = (c, there cells key c is)

pub none_there : (cells : List Cell) (key : ℕ) → is_none (find (λ x. x.key == key) cells) ≡ true → find (λ x. x.key == key) cells ≡ None
none_there cells key none = by_found (find (λ x. x.key == key) cells) none
  where
    by_found : (found : Option Cell) → is_none found ≡ true → found ≡ None
    by_found None none = refl
    by_found (Some c) none = absurd (cc)
