use Rattle.std.proofs.Common.{refl}
use Rattle.std.proofs.lemmas.Result.{IfOk-weaker}
use Rattle.zb_reply.proofs.ReplyLaws.{answer_of-spoken}
use Rattle.zb_engine.proofs.AskingLemmas.{nothing_done}
use Rattle.zb_engine.proofs.asking.carry_out.Goals as goal

pub returns-in-Tick-clause-done : goal.returns-in-Tick-clause-done
returns-in-Tick-clause-done g c = λ start made has. rw c.in-Tick.is (c.tick.ensures.done start made has)

pub returns-in-Tick-clause-cut : goal.returns-in-Tick-clause-cut
returns-in-Tick-clause-cut g c = λ start made has. rw c.in-Tick.is (c.tick.ensures.cut start made has)

pub returns-in-Advance-clause-done : goal.returns-in-Advance-clause-done
returns-in-Advance-clause-done g c = λ start made has. rw c.in-Advance.is (nothing_done start made _ c.args.reading _ c.args.solo.now refl (refl, refl) has)

pub returns-in-Settle-clause-done : goal.returns-in-Settle-clause-done
returns-in-Settle-clause-done g c = λ start made has. rw c.in-Settle.is (nothing_done start made _ c.args.reading _ c.args.solo.now refl (refl, refl) has)

pub returns-in_default-clause-spoken : goal.returns-in_default-clause-spoken
returns-in_default-clause-spoken g c = IfOk-weaker c.command.result _ _ (λ reply told. answer_of-spoken told.0 reply told.1) c.command.ensures.told
