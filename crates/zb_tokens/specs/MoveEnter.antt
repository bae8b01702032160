-- A token enters a node (BPMN 2.0.2, 13.3.2: an activity is ready once a token arrives).
use Rattle.std.specs.Prelude.{ℕ, ◌==◌, List, [], ◌∷◌, ◌++◌, map, Bool, true, false, ◌&&◌, not, is_some, if◌then◌else◌, Option, Some, None, option_and_then}
use Rattle.std.specs.Option.{option_map_or}
use Rattle.std.specs.List.{fold, list_any, list_all}
use Rattle.zb_process.specs.declared.model.Model.{Model}
use Rattle.zb_faults.specs.Elements.{is_parallel_gateway}
use Rattle.zb_tokens.specs.declared.board.Cell.{Cell}
use Rattle.zb_tokens.specs.declared.board.Token.{Token}
use Rattle.zb_tokens.specs.declared.board.Spot.{Spot}
use Rattle.zb_tokens.specs.declared.board.Spot.TheVariants as spots
use Rattle.zb_tokens.specs.declared.board.Enter.{Enter}
use Rattle.zb_tokens.specs.Edits.{without_first, is_none_of}
use Rattle.zb_tokens.specs.Board.{Board, cell_at, model_under, node_with, is_at, flows_in, leads_to, is_spot, spot_of, new_cell}
use Rattle.zb_tokens.specs.Bodies.{role_at}
use Rattle.zb_tokens.specs.Doom.{is_called_off}

-- a gateway at which flows join: it waits for a token on each flow into it (BPMN 2.0.2, 13.4.1)
abbrev pub joins : Model → List ℕ → Bool
joins m node = is_at m node is_parallel_gateway

-- the spots from which tokens go as a node is entered: all flows into a gateway at which they join, or else where the
-- token is that comes by a flow or stands before the node (BPMN 2.0.2, 13.3.2 and 13.4.1)
abbrev pub spots_of : Model → (node via : List ℕ) → List Spot
spots_of m node via = if joins m node then map spots.OnFlow (flows_in m node) else spot_of via node ∷ []

-- a token is in this scope, at this spot
abbrev pub stands_at : ℕ → Spot → Token → Bool
stands_at scope spot t = (t.scope == scope) && is_spot t.spot spot

-- there are spots, and in a scope a token stands at each
abbrev pub stand_at_each : ℕ → List Spot → List Token → Bool
stand_at_each scope spots tokens = not (is_none_of spots) && list_all (λ spot. list_any (stands_at scope spot) tokens) spots

-- the tokens without the first one at each of these spots in a scope
abbrev pub without_each : ℕ → List Spot → List Token → List Token
without_each scope spots tokens = fold (λ left spot. without_first (stands_at scope spot) left) tokens spots

-- a token before a node has come, and so have those that join; one on a flow comes where that leads to another node
abbrev pub arrives : Model → List ℕ → List ℕ → Bool
arrives m node [] = true
arrives m node (byte ∷ flow) = leads_to m (byte ∷ flow) node && not (joins m node)

-- in a model the node is there, the flow leads to it, and tokens stand where they have to
abbrev pub has_come : Model → List Token → ℕ → List ℕ → List ℕ → Bool
has_come m tokens scope node via = is_some (node_with m node) && arrives m node via && stand_at_each scope (spots_of m node via) tokens

-- in a scope a node may be entered by a flow: tokens have come, and nothing calls the scope off (BPMN 2.0.2, 13.3.2)
abbrev pub may_enter : Board → ℕ → List ℕ → List ℕ → Bool
may_enter b scope node via = option_map_or (λ c. not (is_called_off b scope)
    && option_map_or (λ m. has_come m b.tokens scope node via) (model_under b c.definition) false) (cell_at b scope) false

-- when: the node may be entered by the flow (BPMN 2.0.2, 13.3.2)
abbrev pub fits_enter : Board → Enter → Bool
fits_enter b e = may_enter b e.scope e.node e.via

-- the cell that begins in a scope, where a model has the node: a body where that has several instances (BPMN 2.0.2, 13.3.7)
abbrev pub entering : Enter → Cell → Model → Cell
entering e scope m = new_cell e.key e.scope scope.definition e.node (role_at m e.node) (is_none_of e.via && not (joins m e.node))

-- the board with that cell, without the tokens that entered
abbrev pub entered : Board → Enter → Cell → Model → Board
entered b e scope m = record b {
  cells = b.cells ++ entering e scope m ∷ [];
  tokens = without_each e.scope (spots_of m e.node e.via) b.tokens;
}

-- effect: the first token at each spot goes, and a new cell is there (BPMN 2.0.2, 13.3.2)
abbrev pub play_enter : Board → Enter → Option Board
play_enter b e = option_and_then (λ c. option_and_then (λ m.
    if stand_at_each e.scope (spots_of m e.node e.via) b.tokens then Some (entered b e c m) else None)
    (model_under b c.definition)) (cell_at b e.scope)
