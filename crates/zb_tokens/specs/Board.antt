-- What stands on a board (BPMN 2.0.2, 13.1: tokens).
use Rattle.std.specs.Prelude.{ℕ, ◌==◌, List, [], ◌∷◌, ◌++◌, map, filter, Bool, true, false, ◌&&◌, ◌||◌, not, if◌then◌else◌, Option, option_map, ◌+◌, ◌≤◌}
use Rattle.std.specs.Option.{option_map_or}
use Rattle.std.specs.List.{find, list_any}
use Rattle.std.specs.Str.{bytes_eq}
use Rattle.zb_process.specs.declared.model.Model.{Model}
use Rattle.zb_process.specs.declared.model.Node.{Node}
use Rattle.zb_process.specs.declared.model.NodeKind.{NodeKind}
use Rattle.zb_process.specs.declared.model.NodeKind.TheVariants as kinds
use Rattle.zb_instance_records.specs.declared.instance.Role.{Role}
use Rattle.zb_instance_records.specs.declared.instance.Role.TheVariants as roles
use Rattle.zb_faults.specs.Elements.{is_start, is_subprocess}
pub use Rattle.zb_faults.specs.Elements.{node_with, is_at}
use Rattle.zb_tokens.specs.declared.board.Cell.{Cell}
use Rattle.zb_tokens.specs.declared.board.Token.{Token}
use Rattle.zb_tokens.specs.declared.board.Spot.{Spot}
use Rattle.zb_tokens.specs.declared.board.Spot.TheVariants as spots
use Rattle.zb_tokens.specs.declared.board.Incident.{Incident}
use Rattle.zb_tokens.specs.declared.board.Deployed.{Deployed}
use Rattle.zb_tokens.specs.declared.board.Mark.TheVariants as marks
use Rattle.zb_tokens.specs.declared.board.Phase.{Phase}
use Rattle.zb_tokens.specs.declared.board.Phase.TheVariants as phases

-- a game of tokens: the models, the cells in the order of their keys, the tokens and the incidents in the order in
-- which they were made
pub record Board : Type 0 where
  pub models : List Deployed
  pub cells : List Cell
  pub tokens : List Token
  pub incidents : List Incident

-- the cell with a key
abbrev pub cell_at : Board → ℕ → Option Cell
cell_at b key = find (λ c. c.key == key) b.cells

-- the model of a definition
abbrev pub model_under : Board → ℕ → Option Model
model_under b key = option_map (λ d. d.model) (find (λ d. d.key == key) b.models)

-- the ids of the flows out of a node, in the order of the model (BPMN 2.0.2, 8.4.13)
abbrev pub flows_out : Model → List ℕ → List (List ℕ)
flows_out m id = map (λ f. f.id) (filter (λ f. bytes_eq f.from id) m.flows)

-- the ids of the flows into a node, in the order of the model (BPMN 2.0.2, 8.4.13)
abbrev pub flows_in : Model → List ℕ → List (List ℕ)
flows_in m id = map (λ f. f.id) (filter (λ f. bytes_eq f.to id) m.flows)

-- the flow with an id leads to a node
abbrev pub leads_to : Model → List ℕ → List ℕ → Bool
leads_to m flow id = option_map_or (λ f. bytes_eq f.to id) (find (λ f. bytes_eq f.id flow) m.flows) false

-- the start event of a scope with this id, empty at the top (BPMN 2.0.2, 10.5.2)
abbrev pub start_in : Model → List ℕ → Option Node
start_in m scope = find (λ n. is_start n.kind && bytes_eq n.parent scope) m.nodes

-- the cell has this phase
abbrev pub is_phase : Phase → Phase → Bool
is_phase phases.Activating phases.Activating = true
is_phase phases.Active phases.Active = true
is_phase phases.Completing phases.Completing = true
is_phase phases.Leaving phases.Leaving = true
is_phase phases.Terminating phases.Terminating = true
is_phase a b = false

-- two roles are the same
abbrev pub is_role : Role → Role → Bool
is_role roles.Plain roles.Plain = true
is_role roles.Body roles.Body = true
is_role roles.Inner roles.Inner = true
is_role roles.Handler roles.Handler = true
is_role a b = false

-- a cell stands in no other
abbrev pub is_top : Cell → Bool
is_top c = c.scope == 0

-- a root, with which an instance begins: the cell of a process, which stands in no other (BPMN 2.0.2, 13.2)
abbrev pub is_root : Cell → Bool
is_root c = is_top c

-- the body of an activity with several instances, which runs that once for each item of a collection (BPMN 2.0.2, 13.3.7)
abbrev pub is_body : Cell → Bool
is_body c = is_role c.role roles.Body

-- one of the runs of a body (BPMN 2.0.2, 13.3.7)
abbrev pub is_inner : Cell → Bool
is_inner c = is_role c.role roles.Inner

-- a handler, which undoes an activity that has finished (BPMN 2.0.2, 13.5.5)
abbrev pub is_handler : Cell → Bool
is_handler c = is_role c.role roles.Handler

-- no sequence flow leaves a cell: a root, a run of a body, or a handler (BPMN 2.0.2, 13.3.7 and 13.5.5)
abbrev pub owes_none : Cell → Bool
owes_none c = is_root c || (is_inner c || is_handler c)

-- the cells from the one with a key on up to its root; no more are above it than there are (BPMN 2.0.2, 13.2)
abbrev pub up_from : List Cell → Board → ℕ → List Cell
up_from [] b key = []
up_from (more ∷ cells) b key = option_map_or (λ c. c ∷ up_from cells b c.scope) (cell_at b key) []

-- of the cell with a key and those above it the nearest that passes (BPMN 2.0.2, 13.2)
abbrev pub nearest : (Cell → Bool) → Board → ℕ → Option Cell
nearest passes b key = find passes (up_from b.cells b key)

-- a scope, in which tokens move: no body, but a root, or a cell at a subprocess (BPMN 2.0.2, 13.2 and 13.3.4)
abbrev pub holds_tokens : Model → Cell → Bool
holds_tokens m c = not (is_body c) && (is_root c || is_at m c.node is_subprocess)

-- a node of this kind is a compensation event, in the flow or at its end (BPMN 2.0.2, 10.7.2)
abbrev pub is_compensation : NodeKind → Bool
is_compensation kinds.CompensationEndEvent = true
is_compensation kinds.CompensationThrowEvent = true
is_compensation kind = false

-- a cell is at a compensation event, and runs handlers there (BPMN 2.0.2, 10.7.2 and 13.5.5)
abbrev pub undoes : Model → Cell → Bool
undoes m c = not (is_root c || is_body c) && is_at m c.node is_compensation

-- other cells run in a cell: in a scope, in a body, and at a compensation event (BPMN 2.0.2, 13.2, 13.3.4, 13.3.7 and 13.5.5)
abbrev pub holds_cells : Model → Cell → Bool
holds_cells m c = holds_tokens m c || (is_body c || undoes m c)

-- the id of a scope, which its nodes have as their parent; empty at the top
abbrev pub scope_id : Cell → List ℕ
scope_id c = if is_root c then [] else c.node

-- something runs in a cell
abbrev pub has_child : Board → ℕ → Bool
has_child b key = list_any (λ c. c.scope == key) b.cells

-- nothing runs in a cell, and no token is in it
abbrev pub is_empty : Board → ℕ → Bool
is_empty b key = not (has_child b key) && not (list_any (λ t. t.scope == key) b.tokens)

-- the spot of a token that comes by a flow, or stands before a node where there is none
abbrev pub spot_of : List ℕ → List ℕ → Spot
spot_of [] node = spots.BeforeNode node
spot_of (byte ∷ flow) node = spots.OnFlow (byte ∷ flow)

-- two spots are the same
abbrev pub is_spot : Spot → Spot → Bool
is_spot (spots.OnFlow a) (spots.OnFlow b) = bytes_eq a b
is_spot (spots.BeforeNode a) (spots.BeforeNode b) = bytes_eq a b
is_spot a b = false

-- a cell that begins under a key, in a scope, at a node of a definition, in a role; a token before the node entered it, or none did
abbrev pub new_cell : (key scope definition : ℕ) → List ℕ → Role → Bool → Cell
new_cell key scope definition node role before = record {
  key = key;
  scope = scope;
  definition = definition;
  node = node;
  role = role;
  phase = phases.Activating;
  mark = marks.Unset;
  before = before;
  items = [];
  taken = 0;
  owed = [];
  finished = [];
  ending = false;
  variables = [];
}

-- the cell in another phase, owing these flows
abbrev pub in_phase : Phase → List (List ℕ) → Cell → Cell
in_phase phase owed c = record c { phase = phase; owed = owed }

-- the board with a token more, in a scope at a spot
abbrev pub with_token : ℕ → Spot → Board → Board
with_token scope spot b = record b { tokens = b.tokens ++ record { scope = scope; spot = spot } ∷ [] }

-- the cell leaves, and is in this scope
abbrev pub leaves_in : ℕ → Cell → Bool
leaves_in scope c = (c.scope == scope) && is_phase c.phase phases.Leaving

-- the board without the tokens in a scope, and without the cells that leave in it
abbrev pub emptied : ℕ → Board → Board
emptied scope b = record b {
  cells = filter (λ c. not (leaves_in scope c)) b.cells;
  tokens = filter (λ t. not (t.scope == scope)) b.tokens;
}

-- the keys of the cells ascend, from `low` on
abbrev pub CellsAscend : ℕ → List Cell → Type 0
CellsAscend low [] = Unit {0}
CellsAscend low (c ∷ cells) = (low ≤ c.key) × CellsAscend (c.key + 1) cells
