-- What a node takes in as it begins and gives out as it completes: variables, each with the value of an expression (BPMN 2.0.2, 10.4.2: data associations and their
-- assignments; Zeebe, variable mappings).
use Rattle.std.specs.Prelude.{ℕ, List, [], ◌∷◌, Bool, true, false, not, if◌then◌else◌, Option, None, option_map, option_and_then, Result, Ok}
use Rattle.std.specs.Option.{option_map_or}
use Rattle.std.specs.Result.{result_map_both, result_unwrap_or}
use Rattle.zb_base.specs.Results.{◌>>=◌}
use Rattle.zb_base.specs.declared.value.Value.{Value}
use Rattle.zb_base.specs.declared.vars.Variable.{Variable}
use Rattle.zb_process.specs.declared.model.Node.{Node}
use Rattle.zb_process.specs.declared.model.Mapping.{Mapping}
use Rattle.zb_process.specs.Expr.{ValueFault, value_of}
use Rattle.zb_tokens.specs.declared.board.Cell.{Cell}
use Rattle.zb_tokens.specs.declared.board.Move.{Move}
use Rattle.zb_tokens.specs.declared.board.Move.TheVariants as moves
use Rattle.zb_tokens.specs.declared.board.Assignments.{Assignments}
use Rattle.zb_tokens.specs.Board.{Board, cell_at, model_under, node_with, is_root, is_body, is_inner}
use Rattle.zb_tokens.specs.Edits.{is_none_of}
use Rattle.zb_tokens.specs.Names.{value_seen}
use Rattle.zb_tokens.specs.Incidents.{Hindrance, hindrance_of}

-- the variables that mappings make, in their order, where names have these values: each source is evaluated before a variable is set, and the
-- first fault is the answer (BPMN 2.0.2, 10.4.2; Zeebe, variable mappings)
abbrev pub mapped : (List ℕ → Option Value) → List Mapping → Result (List Variable) ValueFault
mapped names [] = Ok []
mapped names (m ∷ ms) = value_of names m.source >>= (λ value. mapped names ms >>= (λ vs. Ok (record { name = m.target; value = value } ∷ vs)))

-- the same for a cell: these variables, or why it can't go on with them (Zeebe, incidents)
abbrev pub variables_by : Board → Cell → List Mapping → Result (List Variable) Hindrance
variables_by b c ms = result_map_both (λ vs. vs) hindrance_of (mapped (value_seen b c.key) ms)

-- the node of a cell; a root is at none
abbrev pub node_of : Board → Cell → Option Node
node_of b c = if is_root c then None else option_and_then (λ m. node_with m c.node) (model_under b c.definition)

-- the node whose activity a cell runs itself: a body leaves that to the cells in it (BPMN 2.0.2, 13.3.7)
abbrev pub own_node : Board → Cell → Option Node
own_node b c = if is_body c then None else node_of b c

-- the node at whose boundary events wait for a cell: those of a run of a body wait for the body (BPMN 2.0.2, 13.3.7)
abbrev pub rim_node : Board → Cell → Option Node
rim_node b c = if is_inner c then None else node_of b c

-- what a cell takes in as it becomes active: the inputs of its node, in the names that it sees; a body takes in none (BPMN 2.0.2, 10.4.2 and 13.3.2)
abbrev pub inputs_of : Board → Cell → Result (List Variable) Hindrance
inputs_of b c = variables_by b c (option_map_or (λ n. n.inputs) (own_node b c) [])

-- what it gives out as it completes: the outputs of its node, in the names that it sees; a body gives out none (BPMN 2.0.2, 10.4.2 and 13.3.2)
abbrev pub outputs_of : Board → Cell → Result (List Variable) Hindrance
outputs_of b c = variables_by b c (option_map_or (λ n. n.outputs) (own_node b c) [])

-- the node that a cell runs has outputs, so what comes to the cell stays in it until they hand it up (Zeebe, variable mappings)
abbrev pub gives_outputs : Board → Cell → Bool
gives_outputs b c = not (is_none_of (option_map_or (λ n. n.outputs) (own_node b c) []))

-- the variables that are set where a move is made on a board: a cell that becomes active takes in its inputs, and one that has completed hands its
-- outputs up from the scope around it. All of them are evaluated on that board (BPMN 2.0.2, 10.4.2; Zeebe, variable mappings)
abbrev pub assignments_of : Board → Move → Option Assignments
assignments_of b (moves.Open o) = option_map (λ c. record { scope = c.key; local = true; variables = result_unwrap_or (inputs_of b c) [] }) (cell_at b o.key)
assignments_of b (moves.Leave l) = option_map (λ c. record { scope = c.scope; local = false; variables = result_unwrap_or (outputs_of b c) [] }) (cell_at b l.key)
assignments_of b move = None
