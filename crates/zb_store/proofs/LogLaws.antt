-- Laws of what Log.antt defines: what is written for a frame, and how long a log is.
use Rattle.std.specs.Prelude.{◌≡◌, ℕ, ◌+◌, List, [], ◌∷◌, ◌++◌, length}
use Rattle.std.proofs.Common.{arith}
use Rattle.std.proofs.lemmas.List.{length_push}
use Rattle.zb_store.specs.Log.{framed, extent}

-- one more
pub extent_more : (bodies : List (List ℕ)) (body : List ℕ) → extent (bodies ++ body ∷ []) ≡ extent bodies + (9 + length body)
extent_more [] body = omega arith
extent_more (next ∷ bodies) body = omega (arith, extent_more bodies body)

-- what is written for a frame is as long as the log gets longer
pub framed_length : (body : List ℕ) → length (framed body) ≡ 9 + length body
unfolding framed
framed_length body = omega (arith, length_push body 0)
