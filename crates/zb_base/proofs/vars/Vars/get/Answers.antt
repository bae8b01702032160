use Rattle.std.proofs.Common.{List, subst}
use Rattle.std.specs.declared.cmp.Ordering.TheVariants.{Less, Equal}
use Rattle.zb_base.specs.declared.vars.Variable.{Variable}
use Rattle.zb_base.specs.Vars.{StandsAt}
use Rattle.zb_base.proofs.VarsLemmas.{value_of_found, value_of_missing}
use Rattle.zb_base.proofs.vars.Vars.get.Goals as goal

pub returns-in-Ok : goal.returns-in-Ok
returns-in-Ok c =
    let name = c.args.name.now in
    let index = c.in-Ok.index in
    let IsFound : List Variable → Type 0 = λ vs. StandsAt name vs Equal index in
    let found = subst IsFound c.as_slice.ensures.value c.in-Ok.ensures.found in
    let value = value_of_found name c.self.inside.items.items index c.index.result.now found in
    cc

pub returns-in-Err : goal.returns-in-Err
returns-in-Err c =
    let name = c.args.name.now in
    let IsMissing : List Variable → Type 0 = λ vs. StandsAt name vs Less c.in-Err.field-0 in
    let missing = subst IsMissing c.as_slice.ensures.value c.in-Err.ensures.missing in
    let value = value_of_missing name c.self.inside.items.items c.in-Err.field-0 c.self.invariant missing in
    cc
