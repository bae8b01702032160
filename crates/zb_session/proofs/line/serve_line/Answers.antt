use Rattle.std.proofs.Common.{◌++◌, take, refl, ap, ◌∙◌, inl, inr}
use Rattle.std.proofs.lemmas.Result.{on_ok_weaker, IfErr-weaker}
use Rattle.zb_session.proofs.ResultLemmas.{on_ok_under, if_err_both}
use Rattle.zb_session.proofs.line.serve_line.Goals as goal

-- nothing was written
pub returns-in-Err-clause-over : goal.returns-in-Err-clause-over
returns-in-Err-clause-over g c = λ tells counts begun hours answers line next. inr (refl, c.in-Err.ensures.unanswered begun hours answers line next)

pub returns-in-Ok-clause-replied : goal.returns-in-Ok-clause-replied
returns-in-Ok-clause-replied g c = λ tells counts begun hours answers line next.
    on_ok_weaker c.deliver.result (λ sent. record {
      reply = c.answer_line.new.reply.items;
      answered = c.in-Ok.ensures.answered begun hours answers line next;
      sent = λ t. sent t ∙ ap (λ reply. (g.K.Sink.view c.args.sink.now).written ++ reply) c.deref.ensures.value;
    }) (on_ok_under c.deliver.result _ _ c.deliver.ensures.sent)

pub returns-in-Ok-clause-over : goal.returns-in-Ok-clause-over
returns-in-Ok-clause-over g c = λ tells counts begun hours answers line next.
    if_err_both c.deliver.result _ _ _ _ c.deliver.ensures.part c.deliver.ensures.end (λ end part named. inl (record {
      reply = c.answer_line.new.reply.items;
      answered = c.in-Ok.ensures.answered begun hours answers line next;
      sent = λ t. ((part t).0, (part t).1 ∙ ap (λ reply. (g.K.Sink.view c.args.sink.now).written ++ take (part t).0 reply) c.deref.ensures.value);
      named = named;
    }))

pub returns-in-Ok-clause-still : goal.returns-in-Ok-clause-still
returns-in-Ok-clause-still g c = on_ok_weaker c.deliver.result (λ sent. c.in-Ok.ensures.still) (on_ok_under c.deliver.result _ _ c.deliver.ensures.sent)

pub returns-in-Ok-clause-uncut : goal.returns-in-Ok-clause-uncut
returns-in-Ok-clause-uncut g c = IfErr-weaker c.deliver.result _ _ (λ end named uncut. c.in-Ok.ensures.still) c.deliver.ensures.end
