-- Laws of what is found: in a list, and up the scopes.
use Rattle.std.proofs.Common.{◌≡◌, ℕ, ◌==◌, List, [], ◌∷◌, All, cond, Bool, true, false, Option, Some, None, refl, ap, ◌∙◌, subst, arith}
use Rattle.std.specs.Option.{option_map_or}
use Rattle.std.specs.List.{find}
use Rattle.std.proofs.lemmas.Bool.Decides.{nat_tests}
use Rattle.std.proofs.lemmas.List.Elements.{All-head, All-tail}
use Rattle.zb_tokens.specs.declared.board.Cell.{Cell}
use Rattle.zb_tokens.specs.Board.{Board, cell_at, nearest, up_from}

module _ {A : Type 0} (passes : A → Bool) (P : A → Type 0) where
  holds_by : (t : Bool) (x y : A) (xs : List A) → passes x ≡ t → All P (x ∷ xs) → (All P xs → find passes xs ≡ Some y → P y × (passes y ≡ true)) → cond t (Some x) (find passes xs) ≡ Some y → P y × (passes y ≡ true)
  holds_by true x y xs it all later is = let same : x ≡ y = cc in (subst P same (All-head P x xs all), subst (λ (z : A). passes z ≡ true) same it)
  holds_by false x y xs it all later is = later (All-tail P x xs all) is

  -- what holds of each holds of the one that is found, and that one passes
  pub found_holds : (xs : List A) (y : A) → All P xs → find passes xs ≡ Some y → P y × (passes y ≡ true)
  found_holds [] y all is = absurd (cc)
  found_holds (x ∷ xs) y all is = holds_by (passes x) x y xs refl all (found_holds xs y) is

module _ {A : Type 0} (passes : A → Bool) where
  -- one that is found passes
  pub found_passes : (xs : List A) (x : A) → find passes xs ≡ Some x → passes x ≡ true
  found_passes xs x is = (found_holds passes (λ y. Unit {0}) xs x (λ k d within. tt) is).1

module _ (b : Board) (passes : Cell → Bool) where
  abbrev IsThere : Cell → Type 0
  IsThere c = (cell_at b c.key ≡ Some c) × (passes c ≡ true)

  there_by : (t : Bool) (key : ℕ) (c d : Cell) (above : Option Cell) → cell_at b key ≡ Some c → passes c ≡ t → (above ≡ Some d → IsThere d) → cond t (Some c) above ≡ Some d → IsThere d
  there_by true key c d above at it later is =
      let test = found_passes (λ (x : Cell). x.key == key) b.cells c at in
      let own : c.key ≡ key = grind (arith, nat_tests, test) in
      let same : c ≡ d = cc in
      subst IsThere same (ap (cell_at b) own ∙ at, it)
  there_by false key c d above at it later is = later is

  there_from : (left : List Cell) (key : ℕ) (d : Cell) → find passes (up_from left b key) ≡ Some d → IsThere d
  there_from [] key d is = absurd (cc)
  there_from (more ∷ left) key d is = by_cell (cell_at b key) refl (λ k. there_from left k d) is
    where
      by_cell : (found : Option Cell) → cell_at b key ≡ found → ((k : ℕ) → find passes (up_from left b k) ≡ Some d → IsThere d)
          → find passes (option_map_or (λ c. c ∷ up_from left b c.scope) found []) ≡ Some d → IsThere d
      by_cell None at above is = absurd (cc)
      by_cell (Some c) at above is = there_by (passes c) key c d (find passes (up_from left b c.scope)) at refl (above c.scope) is

  -- the nearest cell that passes is there, and passes
  pub nearest_there : (key : ℕ) (c : Cell) → nearest passes b key ≡ Some c → (cell_at b c.key ≡ Some c) × (passes c ≡ true)
  nearest_there key c is = there_from b.cells key c is
