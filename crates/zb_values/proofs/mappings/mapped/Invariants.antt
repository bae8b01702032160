use Rattle.std.proofs.Common.{◌≡◌, ◌++◌, drop, Ok}
use Rattle.zb_base.specs.Results.{◌>>=◌}
use Rattle.zb_tokens.specs.Mappings.{mapped}
use Rattle.zb_tokens.specs.Names.{value_seen}
use Rattle.zb_values.proofs.mappings.mapped.Given as goal

-- what the mappings that are left make stands behind what was made so far
abbrev pub invariant-loop-place : goal.invariant-loop-place
invariant-loop-place l = (mapped (value_seen l.game l.cell) (drop l.place l.mappings) >>= (λ rest. Ok (l.made ++ rest))) ≡ mapped (value_seen l.game l.cell) l.mappings
