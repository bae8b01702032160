-- Numbers by which spots are found.
use Rattle.std.specs.Prelude.{ℕ, ◌+◌, ◌*◌, ◌^◌, ◌%◌, List}
use Rattle.zb_base.specs.Key.{hash_of}
use Rattle.zb_tokens.specs.declared.board.Spot.{Spot}
use Rattle.zb_tokens.specs.declared.board.Spot.TheVariants as spots

-- the id of the flow on which a spot is, or of the node before which it is
abbrev pub id_of : Spot → List ℕ
id_of (spots.OnFlow flow) = flow
id_of (spots.BeforeNode node) = node

-- a number of the spots in a scope that have an id: what the key of the scope ends in above, and the hash of the id below (own)
abbrev pub place_number : ℕ → List ℕ → ℕ
place_number scope id = scope % 2 ^ 32 * 2 ^ 32 + hash_of id
