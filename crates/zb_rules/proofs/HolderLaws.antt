-- Each cell of a board of a log has a holder of each name: its scopes go up to a root, each with a lesser key.
use Rattle.std.proofs.Common.{◌≡◌, ℕ, ◌+◌, ◌<◌, ◌≤◌, ◌==◌, nat_le, length, count_by, List, [], ◌∷◌, Bool, true, false, ◌||◌, cond, if◌then◌else◌, IsTrue, IsFalse, is_some, option_map, Option, Some, All, refl, ap, arith}
use Rattle.std.specs.List.{find}
use Rattle.std.proofs.lemmas.Bool.{or_right}
use Rattle.std.proofs.lemmas.Bool.Decides.{nat_tests}
use Rattle.std.proofs.lemmas.List.Sums.{sum_by-cons, count_by-le-length}
use Rattle.zb_tokens.specs.declared.board.Cell.{Cell}
use Rattle.zb_tokens.specs.Board.{Board, CellsAscend, cell_at, holds_cells, is_root, nearest, up_from}
use Rattle.zb_tokens.specs.MoveAssign.{has_name}
use Rattle.zb_tokens.specs.Names.{holder_of, root_of}
use Rattle.zb_tokens.proofs.FoundLaws.{nearest_there}
use Rattle.zb_tokens.proofs.GameLaws.{holds_some, found_holds}
use Rattle.zb_rules.specs.Sound.{IsHolder, holds_by}
use Rattle.zb_rules.proofs.MadeLaws.{is_keyed}
use Rattle.zb_rules.proofs.AppliedLaws.{some_of}
use Rattle.zb_rules.proofs.PlacedLaws.{InScope, inner_scope, key_found}
use Rattle.zb_rules.proofs.MoversLaws.{found_key}

-- how many of some cells have a key up to this one
abbrev upto : ℕ → List Cell → ℕ
upto key cells = count_by (λ (c : Cell). nat_le c.key key) cells

upto_step : (key : ℕ) (c : Cell) (cells : List Cell) → upto key (c ∷ cells) ≡ cond (nat_le c.key key) 1 0 + upto key cells
upto_step key c cells = sum_by-cons (λ (x : Cell). cond (nat_le x.key key) 1 0) c cells

upto_more : (j k : ℕ) (cells : List Cell) → j ≤ k → upto j cells ≤ upto k cells
upto_more j k [] below = omega arith
upto_more j k (c ∷ cells) below = grind (arith, nat_tests, upto_step j c cells, upto_step k c cells, upto_more j k cells below)

-- one more where a cell has the greater key
module _ (j k : ℕ) (below : j < k) where
  upto_by : (x c : Cell) (cells : List Cell) (t : Bool) → (x.key == k) ≡ t → (find (is_keyed k) cells ≡ Some c → upto j cells + 1 ≤ upto k cells) → (if t then Some x else find (is_keyed k) cells) ≡ Some c → upto j (x ∷ cells) + 1 ≤ upto k (x ∷ cells)
  upto_by x c cells true same later found = grind (arith, nat_tests, upto_step j x cells, upto_step k x cells, upto_more j k cells (omega arith))
  upto_by x c cells false other later found = grind (arith, nat_tests, upto_step j x cells, upto_step k x cells, later found)

  upto_one : (cells : List Cell) (c : Cell) → find (is_keyed k) cells ≡ Some c → upto j cells + 1 ≤ upto k cells
  upto_one [] c found = absurd (cc)
  upto_one (x ∷ cells) c found = upto_by x c cells (x.key == k) refl (upto_one cells c) found

-- where roots pass, a cell that passes is found from each cell that is there on up
module _ (b : Board) (up : CellsAscend 1 b.cells) (scopes : All (InScope b) b.cells) (passes : Cell → Bool) (top : (c : Cell) → is_root c ≡ true → passes c ≡ true) where
  near_by : (fuel : List Cell) (key : ℕ) (c : Cell) (t : Bool) → cell_at b key ≡ Some c → upto key b.cells ≤ length fuel + 1 → passes c ≡ t
      → ((x : Cell) → cell_at b c.scope ≡ Some x → upto c.scope b.cells ≤ length fuel → IsTrue (is_some (find passes (up_from fuel b c.scope)))) → IsTrue (is_some (cond t (Some c) (find passes (up_from fuel b c.scope))))
  near_by fuel key c true found enough it later = refl
  near_by fuel key c false found enough none later =
      let scope = inner_scope b c (found_holds (is_keyed key) (InScope b) b.cells c scopes found).0 (inner (is_root c) (top c)) in
      let around = some_of (cell_at b c.scope) (holds_some (holds_by holds_cells b) (cell_at b c.scope) scope.0) in
      let less = scope.1 in
      let same = key_found b key c found in
      let fewer = upto_one c.scope key (omega arith) b.cells c found in
      later around.0 around.1 (omega arith)
    where
      inner : (t : Bool) → (t ≡ true → passes c ≡ true) → IsFalse t
      inner true is = absurd (let it = is refl in cc)
      inner false is = refl

  -- the cells that are left are enough to go up from a cell
  near_from : (fuel : List Cell) (key : ℕ) (c : Cell) → cell_at b key ≡ Some c → upto key b.cells ≤ length fuel → IsTrue (is_some (find passes (up_from fuel b key)))
  near_from [] key c found enough =
      let above = found_key 1 key b.cells c up found in
      absurd (let more = upto_one 0 key (omega arith) b.cells c found in omega arith)
  near_from (more ∷ fuel) key c found enough = rw found (near_by fuel key c (passes c) found (omega arith) refl (near_from fuel c.scope))

  near_there : (key : ℕ) (c : Cell) → cell_at b key ≡ Some c → (h : Cell) × (nearest passes b key ≡ Some h) × (cell_at b h.key ≡ Some h) × (passes h ≡ true)
  near_there key c found =
      let near = some_of (nearest passes b key) (near_from b.cells key c found (count_by-le-length (λ (x : Cell). nat_le x.key key) b.cells)) in
      let there = nearest_there b passes key near.0 near.1 in
      (near.0, near.1, there.0, there.1)

-- the root around a cell is there, and is a cell (BPMN 2.0.2, 13.2)
pub record HasRoot (b : Board) (found : Option ℕ) : Type 0 where
  pub key : ℕ
  pub is : found ≡ Some key
  pub there : IsTrue (is_some (cell_at b key))

module _ (b : Board) (up : CellsAscend 1 b.cells) (scopes : All (InScope b) b.cells) where
  -- a cell that is there has a holder of each name
  pub holder_there : (name : List ℕ) (key : ℕ) (c : Cell) → cell_at b key ≡ Some c → IsHolder b name (holder_of b key name)
  holder_there name key c found =
      let near = near_there b up scopes (λ x. has_name name x || is_root x) (λ x root. or_right (has_name name x) (is_root x) root) key c found in
      record { key = near.0.key; cell = near.0; is = ap (option_map (λ (x : Cell). x.key)) near.1; there = near.2; holds = near.3 }

  -- a cell that is there has a root around it (BPMN 2.0.2, 13.2)
  pub root_there : (key : ℕ) (c : Cell) → cell_at b key ≡ Some c → HasRoot b (root_of b key)
  root_there key c found =
      let near = near_there b up scopes is_root (λ x root. root) key c found in
      record { key = near.0.key; is = ap (option_map (λ (x : Cell). x.key)) near.1; there = ap is_some near.2 }
