use Rattle.std.proofs.Common.{ℕ, List, OnOk, subst}
use Rattle.zb_rules.specs.Correlate.{correlated_by}
use Rattle.zb_rules.specs.Making.{each_made}
use Rattle.zb_state.specs.State.{HasPut}
use Rattle.zb_step.proofs.correlate.EachCorrelatingMaker.put.Goals as goal

pub returns-clause-ok : goal.returns-clause-ok
returns-clause-ok c = subst (λ (keys : List ℕ). OnOk c.put.result (HasPut (each_made (correlated_by c.args.self.message) keys) c.args.state.now c.put.new.state c.args.out.now c.put.new.out)) c.as_slice-things.ensures.value c.put.ensures.ok
