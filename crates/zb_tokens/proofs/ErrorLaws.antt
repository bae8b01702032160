-- Laws of where errors are caught, in the subject's own words.
use Rattle.std.proofs.Common.{◌≡◌, ℕ, List, [], ◌∷◌, All, Bool, true, false, ◌||◌, Option, Some, None, option_map, option_and_then, refl, sym, ap, ◌∙◌}
use Rattle.std.specs.List.{list_any}
use Rattle.std.proofs.lemmas.List.Elements.{All-head, All-tail}
use Rattle.zb_process.specs.declared.model.Node.{Node}
use Rattle.zb_tokens.specs.declared.board.Cell.{Cell}
use Rattle.zb_tokens.specs.declared.board.Triggered.{Triggered}
use Rattle.zb_tokens.specs.Board.{Board, cell_at, nearest}
use Rattle.zb_tokens.specs.Errors.{error_event_of, catches, catcher, caught, IsCaughtAt}
use Rattle.zb_tokens.proofs.FoundLaws.{nearest_there}
use Rattle.zb_tokens.specs.Marks.{error_of}

-- an error is caught at the nearest cell that catches it, by the event there
pub catcher_near : (b : Board) (code : List ℕ) (key : ℕ) (t : Triggered) → catcher b code key ≡ Some t
    → (h : Cell) × (n : Node) × (nearest (catches b code) b key ≡ Some h) × (error_event_of b code h ≡ Some n) × (h.key ≡ t.cell) × (n.id ≡ t.node)
catcher_near b code key t is = by_cell (nearest (catches b code) b key) refl is
  where
    by_event : (h : Cell) (event : Option Node) → nearest (catches b code) b key ≡ Some h → error_event_of b code h ≡ event → option_map (λ (n : Node). record { cell = h.key; node = n.id }) event ≡ Some t
        → (h : Cell) × (n : Node) × (nearest (catches b code) b key ≡ Some h) × (error_event_of b code h ≡ Some n) × (h.key ≡ t.cell) × (n.id ≡ t.node)
    by_event h None near at is = absurd (cc)
    by_event h (Some n) near at is =
        let same : record { cell = h.key; node = n.id } ≡ t = cc in
        (h, n, near, at, ap (λ (x : Triggered). x.cell) same, ap (λ (x : Triggered). x.node) same)

    by_cell : (found : Option Cell) → nearest (catches b code) b key ≡ found → option_and_then (λ (h : Cell). option_map (λ (n : Node). record { cell = h.key; node = n.id }) (error_event_of b code h)) found ≡ Some t
        → (h : Cell) × (n : Node) × (nearest (catches b code) b key ≡ Some h) × (error_event_of b code h ≡ Some n) × (h.key ≡ t.cell) × (n.id ≡ t.node)
    by_cell None at is = absurd (cc)
    by_cell (Some h) at is = by_event h (error_event_of b code h) at refl is

-- where an error is caught the event is there
pub catcher_there : (b : Board) (code : List ℕ) (key : ℕ) (t : Triggered) → catcher b code key ≡ Some t → IsCaughtAt b code t
catcher_there b code key t is =
    let r = catcher_near b code key t is in
    record {
      host = r.0;
      event = r.1;
      there = ap (cell_at b) (sym r.4) ∙ (nearest_there b (catches b code) key r.0 r.2).0;
      catches = r.3;
      named = r.5;
    }

-- the error of a cell that is caught
pub caught_there : (b : Board) (c : Cell) (t : Triggered) → caught b c ≡ Some t → (code : List ℕ) × (error_of c.mark ≡ Some code) × IsCaughtAt b code t
caught_there b c t is = by_error (error_of c.mark) refl is
  where
    by_error : (error : Option (List ℕ)) → error_of c.mark ≡ error → option_and_then (λ code. catcher b code c.key) error ≡ Some t → (code : List ℕ) × (error_of c.mark ≡ Some code) × IsCaughtAt b code t
    by_error None at is = absurd (cc)
    by_error (Some code) at is = (code, at, catcher_there b code c.key t is)

-- one that passes is there, with what holds of each
module _ {A : Type 0} (passes : A → Bool) (P : A → Type 0) where
  any_by : (t : Bool) (x : A) (xs : List A) → passes x ≡ t → All P (x ∷ xs) → (All P xs → list_any passes xs ≡ true → (y : A) × P y × (passes y ≡ true)) → (t || list_any passes xs) ≡ true → (y : A) × P y × (passes y ≡ true)
  any_by true x xs it all later is = (x, All-head P x xs all, it)
  any_by false x xs it all later is = later (All-tail P x xs all) is

  -- where some item passes there is one that does, of which something holds that holds of all
  pub any_there : (xs : List A) → All P xs → list_any passes xs ≡ true → (x : A) × P x × (passes x ≡ true)
  any_there [] all is = absurd (cc)
  any_there (x ∷ xs) all is = any_by (passes x) x xs refl all (λ rest later. any_there xs rest later) is
