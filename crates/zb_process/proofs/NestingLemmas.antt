-- How deep the members of a list are.
use Rattle.std.proofs.Common.{◌≡◌, ℕ, zero, suc, ◌+◌, ◌<◌, ◌≤◌, max, List, [], ◌∷◌, length, take, slice_index_or, arith}
use Rattle.zb_process.specs.Tree.{Tree, nesting, nesting_over, trees_of}

-- one more member
pub nesting-take : (ts : List Tree) (i : ℕ) (d : Tree) → i < length ts → nesting_over (trees_of (take (i + 1) ts)) ≡ max (nesting_over (trees_of (take i ts))) (nesting (slice_index_or ts i d) + 1)
nesting-take [] i d h = absurd (omega arith)
nesting-take (t ∷ ts) zero d h = omega arith
nesting-take (t ∷ ts) (suc i) d h =
    let next : suc i + 1 ≡ suc (i + 1) = omega arith in
    rw next (omega (arith, nesting-take ts i d (omega arith)))

-- a member is less deep than the list
pub nesting-member : (ts : List Tree) (i : ℕ) (d : Tree) → i < length ts → nesting (slice_index_or ts i d) + 1 ≤ nesting_over (trees_of ts)
nesting-member [] i d h = absurd (omega arith)
nesting-member (t ∷ ts) zero d h = omega arith
nesting-member (t ∷ ts) (suc i) d h = omega (arith, nesting-member ts i d (omega arith))

pub ruleset members = (nesting-take, nesting-member)
