use Rattle.std.proofs.Common.{◌≡◌, ◌+◌, ◌<◌, ◌≤◌, length, drop, Some, if◌then◌else◌, sym, ap, ◌∙◌, subst, arith}
use Rattle.zb_model.specs.declared.record.Command.TheVariants as commands
use Rattle.zb_partition.specs.Partition.{HasLog}
use Rattle.zb_partition.specs.declared.partition.Partition.{Partition}
use Rattle.zb_desk.specs.Serial.{log_behind, going_on}
use Rattle.zb_engine.specs.Solo.{logs_in, partitions_in}
use Rattle.zb_engine.proofs.StandingLemmas.{stands_at, none_behind, going_on_here}
use Rattle.zb_engine.proofs.solo.Solo.going_on.Goals as goal

pub returns-then-not-quiet : goal.returns-then-not-quiet
returns-then-not-quiet g c = λ start made has.
    let index = c.loop-index.index in
    let within : index < length (partitions_in c.args.self.now) = omega (arith, c.loop-index-test.true, c.len-index-end.ensures, c.args.self.now.partitions.ok.0) in
    let s = stands_at start made c.args.self.now has index c.index.result.now within in
    let quiet = c.quiet.ensures (log_behind (1 + index) s.log made) (subst (λ (p : Partition _ _). HasLog (log_behind (1 + index) s.log made) p) (sym c.index.ensures) s.has) in
    let number : c.partition_at.result ≡ 1 + index = omega (arith, c.partition_at.ensures) in
    ap (λ p. Some (p, commands.ProcessInstanceBatchContinue)) number
    ∙ sym (c.loop-index.invariant start made has ∙ (going_on_here index (logs_in start) s.log made s.first
    ∙ ap (λ q. if q then going_on (1 + (index + 1)) (drop (index + 1) (logs_in start)) made else Some (1 + index, commands.ProcessInstanceBatchContinue)) (sym quiet ∙ c.if-not-quiet.true)))

pub loop-index-preserved : goal.loop-index-preserved
loop-index-preserved g c = λ start made has.
    let index = c.loop-index.index in
    let within : index < length (partitions_in c.args.self.now) = omega (arith, c.loop-index-test.true, c.len-index-end.ensures, c.args.self.now.partitions.ok.0) in
    let s = stands_at start made c.args.self.now has index c.index.result.now within in
    let quiet = c.quiet.ensures (log_behind (1 + index) s.log made) (subst (λ (p : Partition _ _). HasLog (log_behind (1 + index) s.log made) p) (sym c.index.ensures) s.has) in
    c.loop-index.invariant start made has ∙ (going_on_here index (logs_in start) s.log made s.first
    ∙ ap (λ q. if q then going_on (1 + (index + 1)) (drop (index + 1) (logs_in start)) made else Some (1 + index, commands.ProcessInstanceBatchContinue)) (sym quiet ∙ c.if-not-quiet.false))

pub returns : goal.returns
returns g c = λ start made has.
    let index = c.loop-index.index in
    let far : length (partitions_in c.args.self.now) ≤ index = omega (arith, c.loop-index-test.false, c.len-index-end.ensures, c.args.self.now.partitions.ok.0) in
    sym (c.loop-index.invariant start made has ∙ ap (λ ls. going_on (1 + index) ls made) (none_behind start made c.args.self.now has index far))
