-- What a cell waits for doesn't look at variables: it waits as before once one is set.
use Rattle.std.proofs.Common.{◌≡◌, ℕ, ◌==◌, List, [], ◌∷◌, map, Bool, true, false, cond, IsTrue, is_some, Option, Some, None, option_map, refl, sym, ap, ◌∙◌}
use Rattle.std.specs.List.{find}
use Rattle.std.specs.Option.{option_map_or}
use Rattle.zb_tokens.specs.declared.board.Assigned.{Assigned}
use Rattle.zb_tokens.specs.declared.board.Cell.{Cell}
use Rattle.zb_tokens.specs.declared.board.Triggered.{Triggered}
use Rattle.zb_tokens.specs.Board.{Board, cell_at, up_from}
use Rattle.zb_tokens.specs.Doom.{calls_off, is_doomed}
use Rattle.zb_tokens.specs.Edits.{edited}
use Rattle.zb_tokens.specs.MoveAssign.{with_variable}
use Rattle.zb_tokens.specs.MoveTrigger.{awaits_event, is_awaited}
use Rattle.zb_rules.proofs.MadeLaws.{is_keyed, mapped_holds}
use Rattle.zb_rules.proofs.UpdateLaws.{KeptBySetting}

-- a cell without its variables
abbrev bare : Cell → Cell
bare c = record c { variables = [] }

-- a board with such cells
abbrev bare_board : Board → Board
bare_board b = record b { cells = map bare b.cells }

-- the cell with a key is the same one
found_bare : (key : ℕ) (cells : List Cell) → find (is_keyed key) (map bare cells) ≡ option_map bare (find (is_keyed key) cells)
found_bare key [] = refl
found_bare key (c ∷ cells) = by_test (c.key == key) (found_bare key cells)
  where
    by_test : (t : Bool) → find (is_keyed key) (map bare cells) ≡ option_map bare (find (is_keyed key) cells)
        → cond t (Some (bare c)) (find (is_keyed key) (map bare cells)) ≡ option_map bare (cond t (Some c) (find (is_keyed key) cells))
    by_test true later = refl
    by_test false later = later

-- and those above it are
up_bare : (few : List Cell) (b : Board) (key : ℕ) → up_from (map bare few) (bare_board b) key ≡ map bare (up_from few b key)
up_bare [] b key = refl
up_bare (x ∷ few) b key = rw (found_bare key b.cells) (by_found (λ c. up_bare few b c.scope) (cell_at b key))
  where
    by_found : ((c : Cell) → up_from (map bare few) (bare_board b) c.scope ≡ map bare (up_from few b c.scope)) → (found : Option Cell)
        → option_map_or (λ c. c ∷ up_from (map bare few) (bare_board b) c.scope) (option_map bare found) [] ≡ map bare (option_map_or (λ c. c ∷ up_from few b c.scope) found [])
    by_found later None = refl
    by_found later (Some c) = ap (λ (l : List Cell). bare c ∷ l) (later c)

called_off_bare : (cells : List Cell) → is_some (find calls_off (map bare cells)) ≡ is_some (find calls_off cells)
called_off_bare [] = refl
called_off_bare (c ∷ cells) = by_test (calls_off c) (called_off_bare cells)
  where
    by_test : (t : Bool) → is_some (find calls_off (map bare cells)) ≡ is_some (find calls_off cells) → is_some (cond t (Some (bare c)) (find calls_off (map bare cells))) ≡ is_some (cond t (Some c) (find calls_off cells))
    by_test true later = refl
    by_test false later = later

-- so it is called off alike
doomed_bare : (b : Board) (c : Cell) → is_doomed (bare_board b) (bare c) ≡ is_doomed b c
doomed_bare b c = ap (λ (l : List Cell). is_some (find calls_off l)) (up_bare b.cells b c.scope) ∙ called_off_bare (up_from b.cells b c.scope)

-- and waits alike
awaited_bare : (b : Board) (t : Triggered) → is_awaited (bare_board b) t ≡ is_awaited b t
awaited_bare b t = rw (found_bare t.cell b.cells) (by_found (cell_at b t.cell))
  where
    by_found : (found : Option Cell) → option_map_or (awaits_event (bare_board b) t) (option_map bare found) false ≡ option_map_or (awaits_event b t) found false
    by_found None = refl
    by_found (Some c) = rw (doomed_bare b c) refl

-- a variable that is set is none of the rest
set_bare : (key : ℕ) (a : Assigned) (cells after : List Cell) → edited (is_keyed key) (with_variable a.name a.value) cells ≡ Some after → map bare after ≡ map bare cells
set_bare key a [] after set = absurd (cc)
set_bare key a (c ∷ cells) after set = by_test (c.key == key) (edited (is_keyed key) (with_variable a.name a.value) cells) (λ rest is. set_bare key a cells rest is) set
  where
    by_test : (t : Bool) (later : Option (List Cell)) → ((rest : List Cell) → later ≡ Some rest → map bare rest ≡ map bare cells)
        → cond t (Some (with_variable a.name a.value c ∷ cells)) (option_map (λ ys. c ∷ ys) later) ≡ Some after → map bare after ≡ map bare (c ∷ cells)
    by_test true later behind set = let same : with_variable a.name a.value c ∷ cells ≡ after = cc in ap (map bare) (sym same)
    by_test false None behind set = absurd (cc)
    by_test false (Some rest) behind set = let same : c ∷ rest ≡ after = cc in ap (map bare) (sym same) ∙ ap (λ (l : List Cell). bare c ∷ l) (behind rest refl)

-- a cell that waits for an event waits for it still
pub awaited_still : (t : Triggered) → KeptBySetting (λ (x : Board). IsTrue (is_awaited x t))
awaited_still t b after a made waits = mapped_holds (λ (x : Board). IsTrue (is_awaited x t)) (λ cells. record b { cells = cells }) (edited (is_keyed a.scope) (with_variable a.name a.value) b.cells) after
    (λ cells set.
    let now = record b { cells = cells } in
    let same : bare_board now ≡ bare_board b = ap (λ (l : List Cell). record b { cells = l }) (set_bare a.scope a b.cells cells set) in
    sym (awaited_bare now t) ∙ (ap (λ (x : Board). is_awaited x t) same ∙ (awaited_bare b t ∙ waits))) made
