use Rattle.std.proofs.lemmas.Result.{IfOk-weaker}
use Rattle.zb_state.specs.State.{partition_of}
use Rattle.zb_partition.proofs.ReadingLemmas.{none_refused, one_refused}
use Rattle.zb_partition.proofs.opening.take_event.Goals as goal

pub returns-in-Ok-clause-taken : goal.returns-in-Ok-clause-taken
returns-in-Ok-clause-taken c = λ es was.
    IfOk-weaker c.take_in.result _ _ (λ taken said is. let so = said is in (c.in-Ok.event, c.in-Ok.ensures, so.0, so.1)) (c.take_in.ensures.taken es was)

pub returns-in-Ok-clause-bad : goal.returns-in-Ok-clause-bad
returns-in-Ok-clause-bad c = λ es was.
    IfOk-weaker c.take_in.result _ _ (λ taken said is. one_refused (partition_of c.args.state.now) es _ c.in-Ok.event _ c.in-Ok.ensures (said is)) (c.take_in.ensures.bad es was)

pub returns-in-Err-NotSpelled-clause-bad : goal.returns-in-Err-NotSpelled-clause-bad
returns-in-Err-NotSpelled-clause-bad c = λ es was is. none_refused (partition_of c.args.state.now) es _ (rw c.in-Err-NotSpelled.field-0-is at c.in-Err-NotSpelled.ensures)
