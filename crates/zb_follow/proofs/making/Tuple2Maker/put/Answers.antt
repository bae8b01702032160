use Rattle.std.proofs.lemmas.Result.{on_ok_weaker}
use Rattle.zb_state.specs.State.{partition_of}
use Rattle.zb_follow.proofs.MakerLemmas.{cant_first, cant_second, put_both}
use Rattle.zb_follow.proofs.making.Tuple2Maker.put.Goals as goal

pub returns-in-Ok-clause-ok : goal.returns-in-Ok-clause-ok
returns-in-Ok-clause-ok g c =
    on_ok_weaker c.put-in-Ok.result
    (put_both (g.A.Maker.making c.args.self.0 (partition_of c.args.state.now) c.args.moment) (λ p. g.B.Maker.making c.args.self.1 p c.args.moment) c.args.state.now c.put.new.state c.put-in-Ok.new.state
    c.args.out.now c.put.new.out c.put-in-Ok.new.out c.put.ensures.place c.in-Ok.ensures.ok)
    c.put-in-Ok.ensures.ok

pub returns-in-Ok-clause-misfit : goal.returns-in-Ok-clause-misfit
returns-in-Ok-clause-misfit g c = λ misfit.
    cant_second (g.A.Maker.making c.args.self.0 (partition_of c.args.state.now) c.args.moment) (λ p. g.B.Maker.making c.args.self.1 p c.args.moment) _ _ _ _ c.put.ensures.place c.in-Ok.ensures.ok (c.put-in-Ok.ensures.misfit misfit)

pub returns-in-Err-clause-misfit : goal.returns-in-Err-clause-misfit
returns-in-Err-clause-misfit g c = λ misfit.
    cant_first (g.A.Maker.making c.args.self.0 (partition_of c.args.state.now) c.args.moment) (λ p. g.B.Maker.making c.args.self.1 p c.args.moment) _ (c.put.ensures.misfit (rw c.in-Err.is misfit))
