-- How a cell is left, in the words of the player's own functions.
use Rattle.std.specs.Prelude.{ℕ, List, [], ◌∷◌, Bool, if◌then◌else◌, Option, Some, None, Result, Ok}
use Rattle.std.specs.Option.{option_map_or}
use Rattle.std.specs.Str.{bytes_eq}
use Rattle.zb_base.specs.Results.{◌>>=◌}
use Rattle.zb_base.specs.declared.value.Value.{Value}
use Rattle.zb_process.specs.declared.model.Model.{Model}
use Rattle.zb_process.specs.declared.model.Node.{Node}
use Rattle.zb_process.specs.declared.model.Flow.{Flow}
use Rattle.zb_process.specs.Expr.{ValueFault, value_of}
use Rattle.zb_process.specs.Tree.{Tree}
use Rattle.zb_tokens.specs.declared.board.Cell.{Cell}
use Rattle.zb_tokens.specs.declared.board.Move.{Move}
use Rattle.zb_tokens.specs.Board.{Board}
use Rattle.zb_tokens.specs.Names.{value_seen}
use Rattle.zb_tokens.specs.Incidents.{Hindrance}
use Rattle.zb_tokens.specs.Choice.{gateway_in, choice_at, decided, decides, truth_at, truth_of}
use Rattle.zb_tokens.specs.MoveLeave.{flows_on}
use Rattle.zb_tokens.specs.Forced.{leave_by}

-- the truth of a condition, where names have these values
abbrev pub truth_told : (List ℕ → Option Value) → Tree → Result Bool ValueFault
truth_told names condition = value_of names condition >>= truth_of

-- the flow that is chosen is the one that is owed
abbrev pub owed_for : Result Flow Hindrance → Result (List (List ℕ)) Hindrance
owed_for chosen = chosen >>= (λ f. Ok (f.id ∷ []))

-- the flows by which a cell is left at an exclusive gateway, whose flows out these are, or why it can't be
abbrev pub exit_at : (List ℕ → Option Value) → Node → List Flow → Result (List (List ℕ)) Hindrance
exit_at names n outs = owed_for (choice_at names (record { node = n; outs = outs }))

-- the flows by which a cell is left in its model, or why it can't be
abbrev pub exit_in : Model → Board → Cell → Result (List (List ℕ)) Hindrance
exit_in m b c = option_map_or (λ g. owed_for (choice_at (value_seen b c.key) g)) (gateway_in m c.node) (Ok (flows_on m c))

-- how a cell is left, where an incident gets this key, if a flow decides it
abbrev pub decided_by : (List ℕ → Option Value) → Node → Flow → ℕ → Cell → Option Move
decided_by names n f key c = if decides names n f then Some (leave_by key c (owed_for (decided f (truth_at names f)))) else None

-- which ids are still to be found once this one was met
abbrev pub left_after : List (List ℕ) → List ℕ → List (List ℕ)
left_after [] id = []
left_after (first ∷ rest) id = if bytes_eq first id then rest else first ∷ rest
