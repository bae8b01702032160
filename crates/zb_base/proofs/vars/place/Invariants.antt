use Rattle.std.proofs.Common.{◌≡◌, All, take}
use Rattle.std.specs.declared.cmp.Ordering.TheVariants.{Greater}
use Rattle.zb_base.specs.declared.vars.Variable.{Variable}
use Rattle.zb_base.specs.Vars.{order_of}
use Rattle.zb_base.proofs.vars.place.Given as goal

-- the name comes behind the variables so far
abbrev pub invariant-loop-index : goal.invariant-loop-index
invariant-loop-index l = All (λ (v : Variable). order_of l.name v.name ≡ Greater) (take l.index l.variables)
