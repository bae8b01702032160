-- A sequence flow is taken: a token goes out on it (BPMN 2.0.2, 13.3.1).
use Rattle.std.specs.Prelude.{ℕ, List, [], ◌∷◌, Bool, false, ◌&&◌, if◌then◌else◌, Option, option_map, option_and_then}
use Rattle.std.specs.Option.{option_map_or}
use Rattle.std.specs.Str.{bytes_eq}
use Rattle.zb_process.specs.declared.model.Model.{Model}
use Rattle.zb_faults.specs.Elements.{flow_with, is_event_gateway}
use Rattle.zb_tokens.specs.declared.board.Cell.{Cell}
use Rattle.zb_tokens.specs.declared.board.Spot.{Spot}
use Rattle.zb_tokens.specs.declared.board.Take.{Take}
use Rattle.zb_tokens.specs.declared.board.Phase.TheVariants as phases
use Rattle.zb_tokens.specs.declared.board.Spot.TheVariants as spots
use Rattle.zb_tokens.specs.Board.{Board, cell_at, model_under, is_at, is_phase, with_token}
use Rattle.zb_tokens.specs.MoveLeave.{leaving}

-- the flow is the first one owed
abbrev pub is_first : List ℕ → List (List ℕ) → Bool
is_first flow [] = false
is_first flow (first ∷ owed) = bytes_eq flow first

-- what is owed then
abbrev pub rest_of : List (List ℕ) → List (List ℕ)
rest_of [] = []
rest_of (first ∷ owed) = owed

-- when: the cell is leaving, and owes this flow first (BPMN 2.0.2, 13.3.1)
abbrev pub fits_take : Board → Take → Bool
fits_take b t = option_map_or (λ c. is_phase c.phase phases.Leaving && is_first t.flow c.owed) (cell_at b t.key) false

-- where the token stands that goes out of a node by a flow: before the target at an event gateway, whose event has come there, on the flow at any other node (BPMN 2.0.2, 10.6.6 and 13.3.1)
abbrev pub spot_by : Model → (node flow : List ℕ) → Spot
spot_by m node flow = if is_at m node is_event_gateway then spots.BeforeNode (option_map_or (λ f. f.to) (flow_with m flow) []) else spots.OnFlow flow

-- the same for a cell that takes the flow, by its model
abbrev pub spot_behind : Board → Cell → List ℕ → Spot
spot_behind b c flow = option_map_or (λ m. spot_by m c.node flow) (model_under b c.definition) (spots.OnFlow flow)

-- effect: a token on that flow, or before its target; with the last one the cell is gone (BPMN 2.0.2, 10.6.6 and 13.3.1)
abbrev pub play_take : Board → Take → Option Board
play_take b t = option_and_then (λ c. option_map (with_token c.scope (spot_behind b c t.flow)) (leaving (rest_of c.owed) t.key b)) (cell_at b t.key)
