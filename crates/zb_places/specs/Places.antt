-- Tokens under their numbers, in their scopes.
use Rattle.std.specs.Prelude.{◌≡◌, ℕ, ◌==◌, List, [], map, filter, length, Bool, true, false, Option, Some, option_map}
use Rattle.std.specs.List.{find, list_any}
use Rattle.std.specs.Option.{option_map_or}
use Rattle.zb_process.specs.declared.model.Model.{Model}
use Rattle.zb_table.specs.Rows.{Ascend, without}
use Rattle.zb_groups.specs.declared.held.Held.{Held}
use Rattle.zb_tokens.specs.declared.board.Token.{Token}
use Rattle.zb_tokens.specs.declared.board.Spot.{Spot}
use Rattle.zb_tokens.specs.Board.{is_spot}
use Rattle.zb_tokens.specs.Edits.{without_first}
use Rattle.zb_tokens.specs.Forced.{entry_at}
use Rattle.zb_tokens.specs.MoveEnter.{has_come, joins, spots_of, stands_at}

-- the tokens without their numbers
abbrev pub held_tokens : List (Held Token) → List Token
held_tokens rows = map (λ h. h.row) rows

-- in a model the tokens have come that a token needs to enter its node (BPMN 2.0.2, 13.3.2)
abbrev pub comes_in : Model → List Token → Token → Bool
comes_in m tokens t = option_map_or (λ way. has_come m tokens t.scope way.0 way.1) (entry_at m t.spot) false

-- in a model a token at this spot is one of those that another token needs to enter its node (BPMN 2.0.2, 13.3.2 and 13.4.1)
abbrev pub counts_for : Model → Spot → Token → Bool
counts_for m spot t = option_map_or (λ way. list_any (is_spot spot) (spots_of m way.0 way.1)) (entry_at m t.spot) false

-- how many of some tokens are in a scope (own)
abbrev pub count_in_scope : ℕ → List Token → ℕ
count_in_scope scope tokens = length (filter (λ t. t.scope == scope) tokens)

-- some tokens of one scope are gone, and no other ones: those that are left were there, and in the other scopes are as many (own)
pub record IsFewer (scope : ℕ) (rows left : List (Held Token)) : Type 0 where
  pub stays : Held Token → Bool
  pub among : left ≡ filter stays rows
  pub elsewhere : (other : ℕ) → (scope == other) ≡ false → count_in_scope other (held_tokens left) ≡ count_in_scope other (held_tokens rows)

-- the first token at a spot in a scope
abbrev pub first_there : ℕ → Spot → List (Held Token) → Option (Held Token)
first_there scope spot rows = find (λ h. stands_at scope spot h.row) rows

-- a token is the first at its spot in its scope
abbrev pub IsFirst : List (Held Token) → Held Token → Type 0
IsFirst rows h = first_there h.row.scope h.row.spot rows ≡ Some h

-- the first token at a spot in a scope is taken, if there is one (own)
pub record IsTokenTaken (scope : ℕ) (spot : Spot) (rows : List (Held Token)) (taken : Option ℕ) (left : List (Held Token)) : Type 0 where
  pub found : taken ≡ option_map (λ h. h.number) (first_there scope spot rows)
  pub others : left ≡ option_map_or (λ n. without (λ h. h.number) n rows) taken rows
  pub gone : held_tokens left ≡ without_first (stands_at scope spot) (held_tokens rows)
  pub fewer : IsFewer scope rows left
  pub ascend : Ascend (λ h. h.number) 0 rows

-- a key is among some that are kept (own)
abbrev pub is_kept : List ℕ → ℕ → Bool
is_kept keys key = list_any (λ k. k == key) keys

-- a token that is the first at its spot, and can enter a node at which flows join, is among those with some numbers (own)
abbrev pub IsMetAt : Model → List (Held Token) → ℕ → List ℕ → List ℕ → Type 0
IsMetAt m rows scope node met = (h : Held Token) → IsFirst rows h → h.row.scope ≡ scope → entry_at m h.row.spot ≡ Some (node, []) → joins m node ≡ true
    → comes_in m (held_tokens rows) h.row ≡ true → is_kept met h.number ≡ true
