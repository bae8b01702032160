-- Words of the board's own functions.
use Rattle.std.specs.Prelude.{◌≡◌, ℕ, ◌==◌, List, Bool, true, false, Option, Some, option_and_then}
use Rattle.std.specs.Option.{option_map_or}
use Rattle.std.specs.List.{list_any}
use Rattle.zb_process.specs.declared.model.Model.{Model}
use Rattle.zb_table.specs.Rows.{row_at}
use Rattle.zb_groups.specs.declared.held.Held.{Held}
use Rattle.zb_tokens.specs.declared.board.Token.{Token}
use Rattle.zb_tokens.specs.declared.board.Phase.TheVariants as phases
use Rattle.zb_tokens.specs.Board.{Board, cell_at, is_phase, is_spot, model_under}
use Rattle.zb_places.specs.Places.{comes_in, counts_for, held_tokens, is_kept, IsFirst}

-- the cell with a key is there, and leaves
abbrev pub leaves_at : Board → ℕ → Bool
leaves_at b key = option_map_or (λ c. is_phase c.phase phases.Leaving) (cell_at b key) false

-- a token is in a scope
abbrev pub has_token : Board → ℕ → Bool
has_token b scope = list_any (λ t. t.scope == scope) b.tokens

-- the model by which tokens move in a scope
abbrev pub scope_model : Board → ℕ → Option Model
scope_model b scope = option_and_then (λ c. model_under b c.definition) (cell_at b scope)

-- in a model, if there is one, some numbers are those of the tokens that are first at their spots, and can enter, among them such as
-- need the one with a number, elsewhere in its scope (own)
abbrev pub AreMet : Option Model → List (Held Token) → ℕ → List ℕ → Type 0
AreMet found rows number met = (m : Model) (new h : Held Token) → found ≡ Some m → row_at (λ x. x.number) number rows ≡ Some new
    → IsFirst rows h → h.row.scope ≡ new.row.scope → is_spot h.row.spot new.row.spot ≡ false → counts_for m new.row.spot h.row ≡ true → comes_in m (held_tokens rows) h.row ≡ true → is_kept met h.number ≡ true
