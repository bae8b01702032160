use Rattle.zb_disk.specs.declared.calls.Call.TheVariants.{Wrote}
use Rattle.zb_disk.proofs.CallLemmas.{elapses_push}
use Rattle.zb_disk.proofs.memory.keep_failed.Goals as goal

pub returns-in-Ok-clause-time : goal.returns-in-Ok-clause-time
returns-in-Ok-clause-time c = λ first. elapses_push first c.args.log.now.calls.items c.push.new.self.items (Wrote c.args.write) c.in-Ok.ensures.items
