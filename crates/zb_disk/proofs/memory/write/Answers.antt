use Rattle.std.proofs.Common.{[], ◌∷◌, ◌++◌, ap, ◌∙◌}
use Rattle.zb_disk.specs.declared.calls.Call.TheVariants.{Wrote}
use Rattle.zb_disk.proofs.CallLemmas.{elapses_push}
use Rattle.zb_disk.proofs.memory.write.Goals as goal

pub returns-clause-time : goal.returns-clause-time
returns-clause-time c = λ first. elapses_push first c.args.calls.now.items c.push_reserved.new.self.items _ (c.push_reserved.ensures.items ∙ ap (λ l. l ++ Wrote c.args.write ∷ []) c.reserve.ensures.items)
