use Rattle.std.proofs.Common.{sym}
use Rattle.std.proofs.lemmas.Result.{on_ok_weaker}
use Rattle.zb_state.specs.State.{partition_of}
use Rattle.zb_follow.specs.Making.{any_event}
use Rattle.zb_follow.proofs.MakerLemmas.{same_put}
use Rattle.zb_follow.proofs.making.FoundMaker.put.Goals as goal

pub returns-clause-ok : goal.returns-clause-ok
returns-clause-ok g c =
    on_ok_weaker c.put.result
    (same_put (λ es. any_event c.in_ok-event.event) (g.F.Find.finds c.args.self.0 (partition_of c.args.state.now)) c.args.state.now c.put.new.state c.args.out.now c.put.new.out (λ es is. sym (c.in_ok-event.ensures es is)))
    c.put.ensures.ok
