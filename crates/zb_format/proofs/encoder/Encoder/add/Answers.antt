use Rattle.std.proofs.Common.{arith}
use Rattle.zb_format.specs.Encoded.{Adds, HoldsFront, IsCounting}
use Rattle.zb_format.proofs.encoder.Encoder.add.Goals as goal

pub returns-in-Bytes-clause-added : goal.returns-in-Bytes-clause-added
unfolding Adds
returns-in-Bytes-clause-added c = rw c.in-Bytes.is c.append.ensures.ok

pub returns-in-Bytes-clause-kept : goal.returns-in-Bytes-clause-kept
unfolding HoldsFront IsCounting
returns-in-Bytes-clause-kept c = rw c.in-Bytes.is (c.append.ensures.kept, λ h. h)

pub returns-in-Bytes-clause-counts : goal.returns-in-Bytes-clause-counts
unfolding IsCounting
returns-in-Bytes-clause-counts c = rw c.in-Bytes.is (λ h. absurd h)

pub returns-in-Count-clause-added : goal.returns-in-Count-clause-added
unfolding Adds
returns-in-Count-clause-added c = rw c.in-Count.is (omega arith)

pub returns-in-Count-clause-kept : goal.returns-in-Count-clause-kept
unfolding HoldsFront IsCounting
returns-in-Count-clause-kept c = rw c.in-Count.is (λ front h. absurd h, λ h. h)
