use Rattle.std.proofs.lemmas.Result.{IfOk-weaker}
use Rattle.std.proofs.Common.{Option, IsSome, sym, subst}
use Rattle.zb_reply.specs.declared.reply.Reply.{Reply}
use Rattle.zb_engine.proofs.AnswerLemmas.{step_answered}
use Rattle.zb_engine.proofs.asking.reply_for.Goals as goal

-- the step of a log has a reply
pub returns-clause-there : goal.returns-clause-there
returns-clause-there c = λ p n log request asked step.
    IfOk-weaker c.reply_of.result _ _ (λ reply is. subst (λ (o : Option Reply). IsSome o) (sym is) (step_answered p n log c.args.batch.now request asked step)) c.reply_of.ensures
