use Rattle.std.proofs.Common.{◌∙◌}
use Rattle.zb_tests.proofs.logs.add.Goals as goal

pub append-requires-clause-form : goal.append-requires-clause-form
append-requires-clause-form c = (c.args.body.now, c.deref.ensures.value ∙ c.in_ok-frame.ensures)
