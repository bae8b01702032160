use Rattle.std.proofs.Common.{◌≡◌, [], map, replicate}
use Rattle.zb_engine.proofs.starting.no_stamps.Given as goal

-- so many lists are there, and all are empty
abbrev pub invariant-loop-place : goal.invariant-loop-place
invariant-loop-place l = map (λ places. places.items) l.stamps.items ≡ replicate l._place []
