use Rattle.std.proofs.Common.{◌≡◌, ◌+◌, ◌<◌, ◌≤◌, length, drop, Some, sym, ap, ◌∙◌, subst, option_map, arith}
use Rattle.std.specs.Option.{option_or}
use Rattle.zb_partition.specs.Partition.{HasLog}
use Rattle.zb_partition.specs.declared.partition.Partition.{Partition}
use Rattle.zb_desk.specs.Serial.{log_behind, due_in_logs}
use Rattle.zb_engine.specs.Solo.{logs_in, partitions_in}
use Rattle.zb_engine.proofs.StandingLemmas.{stands_at, none_behind, due_here}
use Rattle.zb_engine.proofs.solo.Solo.next_due.Goals as goal

pub returns-in-Some : goal.returns-in-Some
returns-in-Some g c = λ start made has.
    let index = c.loop-index.index in
    let within : index < length (partitions_in c.args.self.now) = omega (arith, c.loop-index-test.true, c.len-index-end.ensures, c.args.self.now.partitions.ok.0) in
    let s = stands_at start made c.args.self.now has index c.index.result.now within in
    let due = c.due.ensures (log_behind (1 + index) s.log made) (subst (λ (p : Partition _ _). HasLog (log_behind (1 + index) s.log made) p) (sym c.index.ensures) s.has) in
    let number : c.partition_at.result ≡ 1 + index = omega (arith, c.partition_at.ensures) in
    ap (λ p. Some (p, c.in-Some.command)) number
    ∙ sym (c.loop-index.invariant start made has ∙ (due_here index (logs_in start) s.log made s.first c.args.reading
    ∙ ap (λ found. option_or (option_map (λ command. (1 + index, command)) found) (due_in_logs c.args.reading (1 + (index + 1)) (drop (index + 1) (logs_in start)) made)) (sym due ∙ c.in-Some.is)))

pub loop-index-preserved : goal.loop-index-preserved
loop-index-preserved g c = λ start made has.
    let index = c.loop-index.index in
    let within : index < length (partitions_in c.args.self.now) = omega (arith, c.loop-index-test.true, c.len-index-end.ensures, c.args.self.now.partitions.ok.0) in
    let s = stands_at start made c.args.self.now has index c.index.result.now within in
    let due = c.due.ensures (log_behind (1 + index) s.log made) (subst (λ (p : Partition _ _). HasLog (log_behind (1 + index) s.log made) p) (sym c.index.ensures) s.has) in
    c.loop-index.invariant start made has ∙ (due_here index (logs_in start) s.log made s.first c.args.reading
    ∙ ap (λ found. option_or (option_map (λ command. (1 + index, command)) found) (due_in_logs c.args.reading (1 + (index + 1)) (drop (index + 1) (logs_in start)) made)) (sym due ∙ c.in_default.is))

pub returns : goal.returns
returns g c = λ start made has.
    let index = c.loop-index.index in
    let far : length (partitions_in c.args.self.now) ≤ index = omega (arith, c.loop-index-test.false, c.len-index-end.ensures, c.args.self.now.partitions.ok.0) in
    sym (c.loop-index.invariant start made has ∙ ap (λ ls. due_in_logs c.args.reading (1 + index) ls made) (none_behind start made c.args.self.now has index far))
