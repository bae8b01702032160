-- Where an error is caught that was thrown in a cell: at the boundary of that, or of the nearest cell around it that has an event for it (BPMN 2.0.2, 10.5.6 and 10.5.7).
use Rattle.std.specs.Prelude.{ℕ, ◌==◌, List, [], filter, Bool, ◌&&◌, if◌then◌else◌, Option, None, is_some, option_map, option_and_then, ◌≡◌, Some}
use Rattle.std.specs.Option.{option_or}
use Rattle.std.specs.List.{find}
use Rattle.std.specs.Str.{bytes_eq}
use Rattle.zb_process.specs.declared.model.Model.{Model}
use Rattle.zb_process.specs.declared.model.Node.{Node}
use Rattle.zb_faults.specs.Elements.{is_activity, is_boundary_of, is_error_boundary}
use Rattle.zb_tokens.specs.declared.board.Cell.{Cell}
use Rattle.zb_tokens.specs.declared.board.Triggered.{Triggered}
use Rattle.zb_tokens.specs.Board.{Board, cell_at, model_under, nearest}
use Rattle.zb_tokens.specs.Mappings.{rim_node}
use Rattle.zb_tokens.specs.Marks.{error_of}

-- a node is a boundary event for errors with a code; without one it is for any (BPMN 2.0.2, 10.5.7)
abbrev pub is_for : (code : List ℕ) → Node → Bool
is_for code n = is_error_boundary n.kind && bytes_eq n.name code

-- of some boundary events the one that catches an error: the first for its code, or else the first for any (BPMN 2.0.2, 10.5.7)
abbrev pub first_for : (code : List ℕ) → List Node → Option Node
first_for code ns = option_or (find (is_for code) ns) (find (is_for []) ns)

-- at the boundary of an activity the event that catches an error (BPMN 2.0.2, 10.5.7)
abbrev pub error_event : Model → (code : List ℕ) → Node → Option Node
error_event m code at = if is_activity at.kind then first_for code (filter (is_boundary_of at.id) m.nodes) else None

-- the event at the boundary of a cell that catches an error; a run of a body has none
abbrev pub error_event_of : Board → (code : List ℕ) → Cell → Option Node
error_event_of b code c = option_and_then (λ m. option_and_then (error_event m code) (rim_node b c)) (model_under b c.definition)

-- at the boundary of a cell there is an event that catches an error
abbrev pub catches : Board → (code : List ℕ) → Cell → Bool
catches b code c = is_some (error_event_of b code c)

-- where an error is caught that is thrown in the cell with a key: at the nearest cell that catches it (BPMN 2.0.2, 10.5.6 and 10.5.7)
abbrev pub catcher : Board → (code : List ℕ) → ℕ → Option Triggered
catcher b code key = option_and_then (λ c. option_map (λ n. record { cell = c.key; node = n.id }) (error_event_of b code c)) (nearest (catches b code) b key)

-- where the error is caught that was thrown in a cell
abbrev pub caught : Board → Cell → Option Triggered
caught b c = option_and_then (λ code. catcher b code c.key) (error_of c.mark)

-- two events are the same
abbrev pub is_same_event : Triggered → Triggered → Bool
is_same_event t u = (u.cell == t.cell) && bytes_eq u.node t.node

-- an event catches an error: it is at the boundary of the cell that it names (BPMN 2.0.2, 10.5.7)
pub record IsCaughtAt (b : Board) (code : List ℕ) (t : Triggered) : Type 0 where
  pub host : Cell
  pub event : Node
  pub there : cell_at b t.cell ≡ Some host
  pub catches : error_event_of b code host ≡ Some event
  pub named : event.id ≡ t.node
