use Rattle.std.proofs.Common.{List, ap}
use Rattle.std.proofs.lemmas.Result.{on_ok_weaker}
use Rattle.zb_base.specs.declared.vars.Variable.{Variable}
use Rattle.zb_rules.specs.InFront.{set_all}
use Rattle.zb_rules.specs.Update.{set_each}
use Rattle.zb_follow.proofs.MakerLemmas.{same_put}
use Rattle.zb_follow.proofs.assigning.AssignmentsMaker.put.Goals as goal

pub returns-clause-ok : goal.returns-clause-ok
returns-clause-ok c =
    let set = c.args.self in
    on_ok_weaker c.put.result
    (same_put (set_each set.local set.scope c.as_slice-things.result.now) (set_all set) c.args.state.now c.put.new.state c.args.out.now c.put.new.out
    (λ es is. ap (λ (vs : List Variable). set_each set.local set.scope vs es) c.as_slice-things.ensures))
    c.put.ensures.ok
