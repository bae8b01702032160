-- Counting what is in scopes, and on cells.
use Rattle.std.proofs.Common.{◌≡◌, ℕ, zero, suc, ◌<◌, ◌==◌, List, [], ◌∷◌, filter, length, All, get_or, remove, Bool, true, false, ◌||◌, cond, Option, Some, None, option_map, not, is_some, refl, sym, ap, ◌∙◌, arith}
use Rattle.std.specs.List.{find, list_any}
use Rattle.std.proofs.lemmas.Bool.Decides.{nat_tests}
use Rattle.std.proofs.lemmas.List.Elements.{All-head, All-tail}
use Rattle.zb_tokens.specs.declared.board.Cell.{Cell}
use Rattle.zb_tokens.specs.Board.{Board, has_child}
use Rattle.zb_tokens.specs.Incidents.{incident_on, is_stuck}
use Rattle.zb_places.specs.Places.{count_in_scope}
use Rattle.zb_board.specs.Tallies.{incidents_on}
use Rattle.zb_board.specs.Searches.{has_token}
use Rattle.zb_places.proofs.CountLemmas.{any_passing}

-- how many cells of a board are in a scope
abbrev pub cells_in : Board → ℕ → ℕ
cells_in b scope = length (filter (λ c. c.scope == scope) b.cells)

-- and how many tokens
abbrev pub tokens_in : Board → ℕ → ℕ
tokens_in b scope = count_in_scope scope b.tokens

-- a cell is in a scope where the number of those in it isn't 0
pub child_counted : (b : Board) (scope : ℕ) → has_child b scope ≡ not (cells_in b scope == 0)
child_counted b scope = any_passing (λ c. c.scope == scope) b.cells

-- and a token
pub token_counted : (b : Board) (scope : ℕ) → has_token b scope ≡ not (tokens_in b scope == 0)
token_counted b scope = any_passing (λ t. t.scope == scope) b.tokens

-- one is found where one passes
pub found_any : {A : Type 0} (p : A → Bool) (xs : List A) → is_some (find p xs) ≡ list_any p xs
found_any p [] = refl
found_any {A} p (x ∷ xs) = by_test (p x) (found_any p xs)
  where
    by_test : (t : Bool) → is_some (find p xs) ≡ list_any p xs → is_some {T = A} (cond t (Some x) (find p xs)) ≡ (t || list_any p xs)
    by_test true later = refl
    by_test false later = later

-- and an incident stands on a cell where the number of those on it isn't 0
incident_counted : (b : Board) (cell : ℕ) → is_some (incident_on b cell) ≡ not (incidents_on b cell == 0)
incident_counted b cell = found_any (λ i. i.cell == cell) b.incidents ∙ any_passing (λ i. i.cell == cell) b.incidents

pub stuck_counted : (b : Board) (c : Cell) → is_stuck b c ≡ not (incidents_on b c.key == 0)
stuck_counted b c = incident_counted b c.key

-- none does where it is
pub counted_none : (b : Board) (cell : ℕ) → incidents_on b cell ≡ 0 → incident_on b cell ≡ None
counted_none b cell none = by_found (incident_on b cell) (incident_counted b cell ∙ ap (λ (n : ℕ). not (n == 0)) none)
  where
    by_found : {A : Type 0} (o : Option A) → is_some o ≡ false → o ≡ None
    by_found None is = refl
    by_found (Some x) is = absurd (cc)

pub none_counted : (b : Board) (cell : ℕ) → incident_on b cell ≡ None → incidents_on b cell ≡ 0
none_counted b cell none =
    let is : not (incidents_on b cell == 0) ≡ false = sym (incident_counted b cell) ∙ ap (λ o. is_some o) none in
    grind (arith, nat_tests)

-- what is found stays where one that doesn't pass is taken away
pub found_without : {A : Type 0} (p : A → Bool) (xs : List A) (i : ℕ) (x : A) → i < length xs → x ≡ get_or xs i x → p x ≡ false → find p (remove xs i) ≡ find p xs
found_without p [] i x within at fails = absurd (omega (arith, within))
found_without p (y ∷ ys) zero x within at fails = let here : p y ≡ false = ap p (sym at) ∙ fails in rw here refl
found_without {A} p (y ∷ ys) (suc i) x within at fails = ap (λ (o : Option A). cond (p y) (Some y) o) (found_without p ys i x (omega (arith, within)) at fails)

-- nothing is there where nothing is made of it
pub unmapped : {A B : Type 0} (f : A → B) (o : Option A) → option_map f o ≡ None → o ≡ None
unmapped f None is = refl
unmapped f (Some x) is = absurd (cc)

-- something is there where what is made of it is
pub some_mapped : {A B : Type 0} (f : A → B) (o : Option A) → is_some (option_map f o) ≡ is_some o
some_mapped f None = refl
some_mapped f (Some x) = refl

-- none is found with a key that none has
pub none_with : (k : ℕ) (xs : List Cell) → All (λ (x : Cell). (x.key == k) ≡ false) xs → find (λ x. x.key == k) xs ≡ None
none_with k [] none = refl
none_with k (x ∷ xs) none = rw (All-head (λ (y : Cell). (y.key == k) ≡ false) x xs none) (none_with k xs (All-tail (λ (y : Cell). (y.key == k) ≡ false) x xs none))
