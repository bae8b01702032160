-- What moves change, and what they leave alone (own).
use Rattle.std.specs.Prelude.{◌≡◌, ℕ, ◌==◌, List, [], ◌∷◌, ◌++◌, filter, Bool, true, false, ◌&&◌, ◌||◌, not, if◌then◌else◌, IsTrue, IsFalse, Option, Some, None, option_and_then}
use Rattle.std.specs.Option.{option_map_or}
use Rattle.std.specs.List.{list_any}
use Rattle.zb_process.specs.declared.model.Model.{Model}
use Rattle.zb_tokens.specs.declared.board.Cell.{Cell}
use Rattle.zb_tokens.specs.declared.board.Token.{Token}
use Rattle.zb_tokens.specs.declared.board.Spot.{Spot}
use Rattle.zb_tokens.specs.declared.board.Enter.{Enter}
use Rattle.zb_tokens.specs.declared.board.Move.{Move}
use Rattle.zb_tokens.specs.declared.board.Move.TheVariants as moves
use Rattle.zb_tokens.specs.Board.{Board, cell_at, model_under, is_spot, leaves_in}
use Rattle.zb_tokens.specs.MoveEnter.{spots_of, stands_at, entering}
use Rattle.zb_tokens.specs.Handlers.{can_be_undone}
use Rattle.zb_tokens.specs.MoveLeave.{ends_scope}

-- it is the cell with this key, or leaves in that (own)
abbrev pub is_or_leaves_in : ℕ → Cell → Bool
is_or_leaves_in key c = (c.key == key) || leaves_in key c

-- the scope that the cell with a key ends as it leaves (BPMN 2.0.2, 13.5.6)
abbrev pub scope_ended_by : Board → ℕ → Option ℕ
scope_ended_by b key = option_and_then (λ c. if ends_scope b c then Some c.scope else None) (cell_at b key)

-- the scope in which the cell with a key finishes as it leaves, and can be undone from then on (BPMN 2.0.2, 13.5.5)
abbrev pub scope_finished_in : Board → ℕ → Option ℕ
scope_finished_in b key = option_and_then (λ c. if can_be_undone b c then Some c.scope else None) (cell_at b key)

-- a move makes, changes or ends this cell (own)
abbrev pub names_cell : Board → Move → Cell → Bool
names_cell b (moves.Stand d) c = false
names_cell b (moves.Start s) c = c.key == s.key
names_cell b (moves.Enter e) c = c.key == e.key
names_cell b (moves.Inner i) c = (c.key == i.key) || (c.key == i.body)
names_cell b (moves.Undo u) c = (c.key == u.key) || option_map_or (λ event. c.key == event.scope) (cell_at b u.event) false
names_cell b (moves.Open o) c = c.key == o.key
names_cell b (moves.Finish key) c = c.key == key
names_cell b (moves.Leave l) c = (c.key == l.key) || option_map_or (λ scope. is_or_leaves_in scope c) (scope_ended_by b l.key) (option_map_or (λ scope. c.key == scope) (scope_finished_in b l.key) false)
names_cell b (moves.Take t) c = c.key == t.key
names_cell b (moves.Halt key) c = is_or_leaves_in key c
names_cell b (moves.Gone key) c = c.key == key
names_cell b (moves.Assign a) c = c.key == a.scope
names_cell b (moves.Update a) c = c.key == a.scope
names_cell b (moves.Done key) c = c.key == key
names_cell b (moves.Throw t) c = c.key == t.cell
names_cell b (moves.Trigger t) c = c.key == t.cell
names_cell b (moves.Incident i) c = false
names_cell b (moves.Repair key) c = false

-- a move makes or takes a token in this scope (own)
abbrev pub names_scope : Board → Move → ℕ → Bool
names_scope b (moves.Enter e) scope = scope == e.scope
names_scope b (moves.Open o) scope = scope == o.key
names_scope b (moves.Leave l) scope = option_map_or (λ one. scope == one) (scope_ended_by b l.key) false
names_scope b (moves.Take t) scope = option_map_or (λ c. scope == c.scope) (cell_at b t.key) false
names_scope b (moves.Trigger t) scope = option_map_or (λ c. scope == c.scope) (cell_at b t.cell) false
names_scope b (moves.Halt key) scope = scope == key
names_scope b (moves.Gone key) scope = scope == key
names_scope b move scope = false

-- the cells of a board that a move doesn't name on another one, in order (own)
abbrev pub other_cells : Board → Move → Board → List Cell
other_cells named move b = filter (λ c. not (names_cell named move c)) b.cells

-- the tokens of a board in the scopes that a move doesn't name on another one, in order (own)
abbrev pub other_tokens : Board → Move → Board → List Token
other_tokens named move b = filter (λ t. not (names_scope named move t.scope)) b.tokens

-- it is the move by which a model stands there
abbrev pub is_stand : Move → Bool
is_stand (moves.Stand d) = true
is_stand move = false

-- it is a move by which an incident stands there or is gone
abbrev pub is_of_incident : Move → Bool
is_of_incident (moves.Incident i) = true
is_of_incident (moves.Repair key) = true
is_of_incident move = false

-- no token is in this scope, and no cell leaves in it (BPMN 2.0.2, 13.3.2 and 13.5.6)
abbrev pub is_emptied : ℕ → Board → Bool
is_emptied scope b = not (list_any (λ t. t.scope == scope) b.tokens) && not (list_any (leaves_in scope) b.cells)

-- these tokens are those without the first one that passes (own)
pub record IsWithoutFirst (passes : Token → Bool) (tokens left : List Token) : Type 0 where
  pub front : List Token
  pub taken : Token
  pub back : List Token
  pub whole : tokens ≡ front ++ taken ∷ back
  pub passing : IsTrue (passes taken)
  pub first_one : IsFalse (list_any passes front)
  pub gone : left ≡ front ++ back

-- spot by spot, exactly the first token there in a scope is gone (own)
abbrev pub IsWithoutEach : ℕ → List Spot → List Token → List Token → Type 0
IsWithoutEach scope [] tokens left = left ≡ tokens
IsWithoutEach scope (spot ∷ spots) tokens left = (between : List Token) × IsWithoutFirst (stands_at scope spot) tokens between × IsWithoutEach scope spots between left

-- no two of these spots are the same; one alone is apart (own)
abbrev pub are_apart : List Spot → Bool
are_apart [] = true
are_apart (spot ∷ spots) = not (list_any (is_spot spot) spots) && are_apart spots

-- a board behind an entry: one cell more, in a scope that is there and has a model, and exactly the first token at each
-- spot gone, where the spots are apart (BPMN 2.0.2, 13.3.2 and 13.4.1)
pub record IsEntered (b : Board) (e : Enter) (after : Board) : Type 0 where
  pub scope : Cell
  pub model : Model
  pub scope_there : cell_at b e.scope ≡ Some scope
  pub model_there : model_under b scope.definition ≡ Some model
  pub made : after.cells ≡ b.cells ++ entering e scope model ∷ []
  pub taken : IsTrue (are_apart (spots_of model e.node e.via)) → IsWithoutEach e.scope (spots_of model e.node e.via) b.tokens after.tokens
