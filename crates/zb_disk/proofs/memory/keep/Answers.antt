use Rattle.zb_disk.specs.declared.calls.Call.TheVariants.{Other}
use Rattle.zb_disk.proofs.CallLemmas.{elapses_push}
use Rattle.zb_disk.proofs.memory.keep.Goals as goal

pub returns-then-fails_next-clause-time : goal.returns-then-fails_next-clause-time
returns-then-fails_next-clause-time c = λ first. elapses_push first c.args.log.now.calls.items c.push.new.self.items Other c.in_ok-push.ensures.items

pub returns-clause-time : goal.returns-clause-time
returns-clause-time c = λ first. elapses_push first c.args.log.now.calls.items c.push-2.new.self.items c.args.call c.in_ok-push-2.ensures.items
