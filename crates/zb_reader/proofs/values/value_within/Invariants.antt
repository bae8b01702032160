use Rattle.std.proofs.Common.{◌≡◌, drop}
use Rattle.std.specs.Prelude.{map}
use Rattle.serde_json.specs.View.{view}
use Rattle.zb_reader.specs.Kinds as spec
use Rattle.zb_reader.proofs.values.value_within.Given as goal

-- the names that are left lead on from what was found
abbrev pub invariant-loop-name : goal.invariant-loop-name
invariant-loop-name l = spec.value_within (map (λ name. name.now) l.path) (view l.fn.value) ≡ spec.value_within (map (λ name. name.now) (drop l.name-index l.path)) (view l.found)
