use Rattle.std.proofs.Common.{◌≡◌, ℕ, List, IsTrue, drop}
use Rattle.std.specs.List.{flat_map}
use Rattle.std.specs.Option.{option_or}
use Rattle.zb_base.specs.Vars.{is_ascending, value_named}
use Rattle.zb_tokens.specs.Board.{up_from}
use Rattle.zb_values.proofs.seen.visible.Given as goal

-- what was seen so far, and what is seen from there on up
abbrev pub invariant-loop-step : goal.invariant-loop-step
invariant-loop-step l = IsTrue (is_ascending l.vars)
    × ((name : List ℕ) → option_or (value_named name l.vars) (value_named name (flat_map (λ c. c.variables) (up_from (drop l._step l.game.cells) l.game l.key)))
    ≡ value_named name (flat_map (λ c. c.variables) (up_from l.game.cells l.game l.fn.cell)))
