-- What a game keeps beside its board, so that a move needs no walk.
use Rattle.std.specs.Prelude.{◌≡◌, ℕ, ◌<◌, ◌≤◌, List, All, Bool, true, false, ◌&&◌, ◌||◌, not, is_some, Some, option_map}
use Rattle.std.specs.Option.{option_map_or}
use Rattle.std.specs.BTreeSet.{BTreeSet}
use Rattle.zb_table.specs.Rows.{Ascend}
use Rattle.zb_pairs.specs.Pairs.{IsIndex}
use Rattle.zb_groups.specs.declared.held.Held.{Held}
use Rattle.zb_tokens.specs.declared.board.Cell.{Cell}
use Rattle.zb_tokens.specs.declared.board.Token.{Token}
use Rattle.zb_tokens.specs.declared.board.Phase.{Phase}
use Rattle.zb_tokens.specs.declared.board.Phase.TheVariants as phases
use Rattle.zb_tokens.specs.Edits.{is_none_of}
use Rattle.zb_tokens.specs.Board.{Board, cell_at, model_under, has_child}
use Rattle.zb_tokens.specs.Doom.{calls_off, is_doomed}
use Rattle.zb_tokens.specs.Forced.{ends_in}
use Rattle.zb_tokens.specs.Incidents.{incident_on, is_stuck}
use Rattle.zb_tokens.specs.Marks.{error_of}
use Rattle.zb_tokens.specs.MoveFinish.{acts_in}
use Rattle.zb_places.specs.Places.{comes_in, IsFirst}
pub use Rattle.zb_places.specs.Places.{is_kept}
use Rattle.zb_board.specs.Kept.{number_under}
use Rattle.zb_board.specs.Tallies.{incidents_on}

-- an active cell rests, whatever models come: no error was thrown in it, its model is there, and it waits for something (own)
abbrev pub stays_active : Board → Cell → Bool
stays_active b c = not (is_some (error_of c.mark)) && option_map_or (λ m. not (acts_in m b c)) (model_under b c.definition) false

-- in a phase a cell rests, whatever models come, where nobody is called off (own)
abbrev pub rests_in : Board → Cell → Phase → Bool
rests_in b c phases.Activating = false
rests_in b c phases.Active = stays_active b c
rests_in b c phases.Completing = false
rests_in b c phases.Leaving = is_none_of c.owed
rests_in b c phases.Terminating = has_child b c.key

-- a cell rests, whatever models come, where nobody is called off: it is stuck, or rests in its phase (own)
abbrev pub is_resting : Board → Cell → Bool
is_resting b c = is_stuck b c || rests_in b c c.phase

-- a cell that is called off ends in its phase (own)
abbrev pub is_ending : Board → Cell → Bool
is_ending b c = is_doomed b c && ends_in b c c.phase

-- the cell with a key is there, and doesn't rest, or ends as it is called off (own)
abbrev pub is_awake : Board → ℕ → Bool
is_awake b key = option_map_or (λ c. not (is_resting b c) || is_ending b c) (cell_at b key) false

-- a token rests, whatever models and cells come, where nobody is called off: its cell and its model are there, and the
-- tokens that it needs to enter its node haven't come (own)
abbrev pub stays_out : Board → Token → Bool
stays_out b t = option_map_or (λ c. option_map_or (λ m. not (comes_in m b.tokens t)) (model_under b c.definition) false) (cell_at b t.scope) false

-- the key of each cell is kept under its scope, and no other one is (own)
abbrev pub AreChildren : List Cell → BTreeSet (ℕ × ℕ) → Type 0
AreChildren cells children = IsIndex (λ c. c.key) (λ c. Some c.scope) cells children

-- what is kept is right, where the tokens have these numbers: keys and numbers ascend, each cell is newer than its scope, no two incidents stand on one cell, the key of each cell is kept
-- under its scope, that of the incident on each cell is kept, each cell that doesn't rest, or ends as it is called off, is among the ready ones, each that calls off what is in it among
-- those that do, and each token that doesn't rest, and is the first at its spot, among the coming ones (own)
pub record IsIndexed (b : Board) (rows : List (Held Token)) (children : BTreeSet (ℕ × ℕ)) (stuck : List (ℕ × ℕ)) (ready calling coming : List ℕ) : Type 0 where
  pub cells_ascend : Ascend (λ c. c.key) 0 b.cells
  pub newer : All (λ c. c.scope < c.key) b.cells
  pub tokens_ascend : Ascend (λ h. h.number) 0 rows
  pub incidents_ascend : Ascend (λ i. i.key) 0 b.incidents
  pub alone : (cell : ℕ) → incidents_on b cell ≤ 1
  pub children_right : AreChildren b.cells children
  pub stuck_right : (cell : ℕ) → number_under stuck cell ≡ option_map (λ i. i.key) (incident_on b cell)
  pub awake : All (λ c. is_resting b c ≡ false → is_kept ready c.key ≡ true) b.cells
  pub ending : All (λ c. is_ending b c ≡ true → is_kept ready c.key ≡ true) b.cells
  pub called : All (λ c. calls_off c ≡ true → is_kept calling c.key ≡ true) b.cells
  pub awaited : (h : Held Token) → IsFirst rows h → stays_out b h.row ≡ false → is_kept coming h.number ≡ true

-- what is made of a cell stays where that was: it has its key, scope and definition, and calls off what is in it only where that did (own)
pub record StaysThere (c made : Cell) : Type 0 where
  pub key : made.key ≡ c.key
  pub scope : made.scope ≡ c.scope
  pub definition : made.definition ≡ c.definition
  pub calls : calls_off made ≡ true → calls_off c ≡ true
