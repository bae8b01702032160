-- Words of the player's own functions.
use Rattle.std.specs.Prelude.{ℕ, List, map, filter, Bool, false, ◌&&◌, Option, option_map, option_and_then}
use Rattle.std.specs.Option.{option_map_or}
use Rattle.std.specs.List.{list_any}
use Rattle.zb_process.specs.declared.model.Model.{Model}
use Rattle.zb_process.specs.declared.model.Node.{Node}
use Rattle.zb_tokens.specs.declared.board.Token.{Token}
use Rattle.zb_tokens.specs.declared.board.Move.{Move}
use Rattle.zb_tokens.specs.declared.board.Move.TheVariants as moves
use Rattle.zb_tokens.specs.declared.board.Spot.TheVariants as spots
use Rattle.zb_tokens.specs.declared.board.Triggered.{Triggered}
use Rattle.zb_tokens.specs.Errors.{error_event}
use Rattle.zb_tokens.specs.MoveTrigger.{comes_about_by}
use Rattle.zb_tokens.specs.Board.{Board, cell_at, node_with}
use Rattle.zb_tokens.specs.Forced.{greatest, is_forced}
use Rattle.zb_tokens.specs.MoveEnter.{stands_at}

-- the cell with a key is there, and is forced
abbrev pub is_forced_at : Board → ℕ → Bool
is_forced_at b key = option_map_or (is_forced b) (cell_at b key) false

-- the greatest key of the cells that are forced
abbrev pub newest_key : Board → Option ℕ
newest_key b = greatest (map (λ c. c.key) (filter (is_forced b) b.cells))

-- how a token in a scope enters by the way that it has, where the new cell gets this key
abbrev pub entry_by : ℕ → ℕ → Option (List ℕ × List ℕ) → Option Move
entry_by key scope way = option_map (λ w. moves.Enter (record { key = key; scope = scope; node = w.0; via = w.1 })) way

-- a boundary event interrupts what is in a scope at its activity: it is one that does, and one of these tokens stands before it there (BPMN 2.0.2, 10.5.4 and 13.5.3)
abbrev pub interrupts_among : ℕ → List Token → Node → Bool
interrupts_among scope tokens n = n.cancel && list_any (stands_at scope (spots.BeforeNode n.id)) tokens

-- the cell with a key is there, and its error comes about at an event
abbrev pub comes_about_at : Board → Triggered → ℕ → Bool
comes_about_at b t key = option_map_or (comes_about_by b t) (cell_at b key) false

-- the event at the boundary of the node with an id that catches an error
abbrev pub error_event_in : Model → (code id : List ℕ) → Option Node
error_event_in m code id = option_and_then (error_event m code) (node_with m id)
