use Rattle.std.proofs.Common.{◌≡◌, ℕ, List, IsTrue, take}
use Rattle.std.specs.Option.{option_or}
use Rattle.zb_base.specs.Vars.{is_ascending, value_named}
use Rattle.zb_values.proofs.unseen.add_unseen.Given as goal

-- the variables so far were added, and the names still ascend
abbrev pub invariant-loop-variable : goal.invariant-loop-variable
invariant-loop-variable l = ((name : List ℕ) → value_named name l.seen ≡ option_or (value_named name l.fn.seen) (value_named name (take l.variable-index l.variables)))
    × (IsTrue (is_ascending l.fn.seen) → IsTrue (is_ascending l.seen))
