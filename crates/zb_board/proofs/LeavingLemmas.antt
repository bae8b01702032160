-- The first cell that leaves in a scope, among the keys of the cells in it.
use Rattle.std.proofs.Common.{◌≡◌, ℕ, ◌+◌, ◌≤◌, ◌==◌, ◌&&◌, List, [], ◌∷◌, map, filter, All, Bool, true, false, cond, if◌then◌else◌, Option, Some, option_map, refl, sym, ap, subst, ◌∙◌, arith}
use Rattle.std.specs.BTreeSet.{BTreeSet, IsOrdered}
use Rattle.std.specs.List.{find}
use Rattle.std.specs.Option.{option_map_or}
use Rattle.std.proofs.lemmas.Bool.Decides.{nat_tests}
use Rattle.std.proofs.lemmas.List.Elements.{All-head, All-tail}
use Rattle.zb_table.specs.Rows.{Ascend}
use Rattle.zb_table.proofs.Ascending.{finds_own, not_below}
use Rattle.zb_tokens.specs.declared.board.Cell.{Cell}
use Rattle.zb_tokens.specs.declared.board.Phase.TheVariants as phases
use Rattle.zb_tokens.specs.Board.{Board, cell_at, is_phase, leaves_in}
use Rattle.zb_tokens.specs.Edits.{removed, without_first}
use Rattle.zb_tokens.proofs.FoundLaws.{found_holds, found_passes}
use Rattle.zb_arrivals.proofs.EditLemmas.{found_place, mapped_from}
use Rattle.zb_arrivals.proofs.SplitLemmas.{or_kept}
use Rattle.zb_pairs.specs.Pairs.{keys_under, place_cmp}
use Rattle.zb_board.specs.Indexed.{AreChildren}
use Rattle.zb_board.specs.Searches.{leaves_at}
use Rattle.zb_board.proofs.ChildLemmas.{children_in}

-- the cell with the key of one leaves where that does
abbrev LeavesAlike : Board → Cell → Type 0
LeavesAlike b c = leaves_at b c.key ≡ is_phase c.phase phases.Leaving

all_alike : (b : Board) → Ascend (λ c. c.key) 0 b.cells → All (LeavesAlike b) b.cells
all_alike b up = λ i d within. ap (λ (o : Option Cell). option_map_or (λ c. is_phase c.phase phases.Leaving) o false) (finds_own (λ (c : Cell). c.key) 0 b.cells i d within up)

alike_key : (b : Board) (scope : ℕ) (cells : List Cell) → All (LeavesAlike b) cells → find (leaves_at b) (map (λ (c : Cell). c.key) (filter (λ (c : Cell). c.scope == scope) cells)) ≡ option_map (λ (c : Cell). c.key) (find (leaves_in scope) cells)
alike_key b scope [] alike = refl
alike_key b scope (c ∷ cells) alike =
    by_tests (c.scope == scope) (is_phase c.phase phases.Leaving) (All-head (LeavesAlike b) c cells alike) (alike_key b scope cells (All-tail (LeavesAlike b) c cells alike))
  where
    by_tests : (s t : Bool) → leaves_at b c.key ≡ t → find (leaves_at b) (map (λ (x : Cell). x.key) (filter (λ (x : Cell). x.scope == scope) cells)) ≡ option_map (λ (x : Cell). x.key) (find (leaves_in scope) cells)
        → find (leaves_at b) (map (λ (x : Cell). x.key) (cond s (c ∷ filter (λ (x : Cell). x.scope == scope) cells) (filter (λ (x : Cell). x.scope == scope) cells))) ≡ option_map (λ (x : Cell). x.key) (cond (s && t) (Some c) (find (leaves_in scope) cells))
    by_tests true true its later = rw its refl
    by_tests true false its later = rw its later
    by_tests false t its later = later

-- the first of the keys whose cell leaves is that of the first cell
pub leaving_key : (b : Board) (scope : ℕ) → Ascend (λ c. c.key) 0 b.cells → find (leaves_at b) (map (λ (c : Cell). c.key) (filter (λ (c : Cell). c.scope == scope) b.cells)) ≡ option_map (λ (c : Cell). c.key) (find (leaves_in scope) b.cells)
leaving_key b scope up = alike_key b scope b.cells (all_alike b up)

-- the first cell that passes is the one with its key
pub first_gone : (p : Cell → Bool) (low : ℕ) (cells : List Cell) (c : Cell) → Ascend (λ x. x.key) low cells → find p cells ≡ Some c → removed (λ x. x.key == c.key) cells ≡ removed p cells
first_gone p low [] c up found = absurd (cc)
first_gone p low (x ∷ cells) c up found = by_test (p x) found (first_gone p (x.key + 1) cells c up.1)
  where
    one : Some x ≡ Some c → x ≡ c
    one is = cc

    by_test : (t : Bool) → cond t (Some x) (find p cells) ≡ Some c → (find p cells ≡ Some c → removed (λ y. y.key == c.key) cells ≡ removed p cells)
        → (if x.key == c.key then Some cells else option_map (λ l. x ∷ l) (removed (λ y. y.key == c.key) cells)) ≡ (if t then Some cells else option_map (λ l. x ∷ l) (removed p cells))
    by_test true found later =
        let own = one found in
        let same : (x.key == c.key) ≡ true = ap (λ (y : Cell). x.key == y.key) (sym own) ∙ itself x.key in
        rw same refl
      where
        itself : (n : ℕ) → (n == n) ≡ true
        itself n = grind (arith, nat_tests)
    by_test false found later =
        let above = found_holds p (λ (y : Cell). x.key + 1 ≤ y.key) cells c (λ i d within. not_below (λ (y : Cell). y.key) (x.key + 1) cells i d up.1 within) found in
        let high = above.0 in
        let apart : (x.key == c.key) ≡ false = grind (arith, nat_tests, high) in
        rw apart (ap (option_map (λ l. x ∷ l)) (later found))

-- a cell with a key is the first that leaves in a scope
pub record IsFirstLeaving (b : Board) (scope key : ℕ) : Type 0 where
  pub cell : Cell
  pub found : find (leaves_in scope) b.cells ≡ Some cell
  pub around : option_map (λ (c : Cell). c.scope) (cell_at b key) ≡ Some scope
  pub gone : without_first (λ c. c.key == key) b.cells ≡ without_first (leaves_in scope) b.cells

pub first_leaving : (b : Board) (scope key : ℕ) → Ascend (λ c. c.key) 0 b.cells → option_map (λ (c : Cell). c.key) (find (leaves_in scope) b.cells) ≡ Some key → IsFirstLeaving b scope key
first_leaving b scope key up is = record {
  cell = cell;
  found = r.1;
  around = subst (λ (k : ℕ). option_map (λ (c : Cell). c.scope) (cell_at b k) ≡ Some scope) r.2 (ap (option_map (λ (c : Cell). c.scope)) own ∙ ap (λ (s : ℕ). Some s) (in_scope (found_passes (leaves_in scope) b.cells cell r.1)));
  gone = subst (λ (k : ℕ). without_first (λ c. c.key == k) b.cells ≡ without_first (leaves_in scope) b.cells) r.2 (ap (λ o. or_kept o b.cells) (first_gone (leaves_in scope) 0 b.cells cell up r.1));
}
  where
    r : (c : Cell) × (find (leaves_in scope) b.cells ≡ Some c) × (c.key ≡ key)
    r = mapped_from (λ (c : Cell). c.key) (find (leaves_in scope) b.cells) key is

    cell : Cell
    cell = r.0

    own : cell_at b cell.key ≡ Some cell
    own = let its = found_place (leaves_in scope) b.cells cell r.1 in subst (λ (c : Cell). find (λ (x : Cell). x.key == c.key) b.cells ≡ Some c) (sym its.2) (finds_own (λ (x : Cell). x.key) 0 b.cells its.0 cell its.1 up)

    in_scope : leaves_in scope cell ≡ true → cell.scope ≡ scope
    in_scope leaves = by_test (cell.scope == scope) refl leaves
      where
        by_test : (t : Bool) → (cell.scope == scope) ≡ t → (t && is_phase cell.phase phases.Leaving) ≡ true → cell.scope ≡ scope
        by_test true is leaves = grind (arith, nat_tests, is)
        by_test false is leaves = absurd (cc)

-- what is found among the keys that are kept is the key of the first cell that leaves
module _ (b now : Board) (same : b ≡ now) (children : BTreeSet (ℕ × ℕ)) (right : AreChildren b.cells children) (up : Ascend (λ c. c.key) 0 b.cells) (scope : ℕ) (order : IsOrdered place_cmp children)
    (found : Option ℕ) (is : found ≡ find (leaves_at now) (keys_under scope children.keys)) where
  pub now_up : Ascend (λ c. c.key) 0 now.cells
  now_up = subst (λ (x : Board). Ascend (λ (c : Cell). c.key) 0 x.cells) same up

  pub found_leaving : option_map (λ (c : Cell). c.key) (find (leaves_in scope) now.cells) ≡ found
  found_leaving =
      let all = children_in b.cells children right scope up order ∙ ap (λ (x : Board). map (λ (c : Cell). c.key) (filter (λ (c : Cell). c.scope == scope) x.cells)) same in
      sym (is ∙ (ap (find (leaves_at now)) all ∙ leaving_key now scope now_up))
