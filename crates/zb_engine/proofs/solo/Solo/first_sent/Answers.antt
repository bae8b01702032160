use Rattle.std.proofs.Common.{◌+◌, ◌<◌, ◌≤◌, length, drop, sym, ap, ◌∙◌, subst, arith}
use Rattle.std.specs.Option.{option_or}
use Rattle.zb_views.specs.View.{events_of}
use Rattle.zb_record.specs.Packets.{first_packet}
use Rattle.zb_partition.specs.Partition.{HasLog, partition_number_of, partitions_of}
use Rattle.zb_partition.specs.declared.partition.Partition.{Partition}
use Rattle.zb_desk.specs.Serial.{log_behind, first_sent}
use Rattle.zb_engine.specs.Solo.{logs_in, many_in, partitions_in}
use Rattle.zb_engine.proofs.StandingLemmas.{stands_at, none_behind, first_sent_here}
use Rattle.zb_engine.proofs.solo.Solo.first_sent.Goals as goal

pub returns-in-Some : goal.returns-in-Some
returns-in-Some g c = λ start made has.
    let index = c.loop-index.index in
    let within : index < length (partitions_in c.args.self.now) = omega (arith, c.loop-index-test.true, c.len-index-end.ensures, c.args.self.now.partitions.ok.0) in
    let s = stands_at start made c.args.self.now has index c.index.result.now within in
    let es = events_of (log_behind (1 + index) s.log made) in
    let sent = c.in_ok-packet.ensures (log_behind (1 + index) s.log made) (subst (λ (p : Partition _ _). HasLog (log_behind (1 + index) s.log made) p) (sym c.index.ensures) s.has) in
    let place = ap partition_number_of c.index.ensures ∙ s.place in
    let many = ap partitions_of c.index.ensures ∙ s.partitions in
    let told = ap (λ n. first_packet (1 + index) n es) (sym many) ∙ (ap (λ p. first_packet p (partitions_of c.index.result.now) es) (sym place) ∙ (sym sent ∙ c.in-Some.is)) in
    sym (c.loop-index.invariant start made has ∙ (first_sent_here index (logs_in start) s.log made s.first (many_in start)
    ∙ ap (λ found. option_or found (first_sent (many_in start) (1 + (index + 1)) (drop (index + 1) (logs_in start)) made)) told))

pub loop-index-preserved : goal.loop-index-preserved
loop-index-preserved g c = λ start made has.
    let index = c.loop-index.index in
    let within : index < length (partitions_in c.args.self.now) = omega (arith, c.loop-index-test.true, c.len-index-end.ensures, c.args.self.now.partitions.ok.0) in
    let s = stands_at start made c.args.self.now has index c.index.result.now within in
    let es = events_of (log_behind (1 + index) s.log made) in
    let sent = c.in_ok-packet.ensures (log_behind (1 + index) s.log made) (subst (λ (p : Partition _ _). HasLog (log_behind (1 + index) s.log made) p) (sym c.index.ensures) s.has) in
    let place = ap partition_number_of c.index.ensures ∙ s.place in
    let many = ap partitions_of c.index.ensures ∙ s.partitions in
    let told = ap (λ n. first_packet (1 + index) n es) (sym many) ∙ (ap (λ p. first_packet p (partitions_of c.index.result.now) es) (sym place) ∙ (sym sent ∙ c.in_default.is)) in
    c.loop-index.invariant start made has ∙ (first_sent_here index (logs_in start) s.log made s.first (many_in start)
    ∙ ap (λ found. option_or found (first_sent (many_in start) (1 + (index + 1)) (drop (index + 1) (logs_in start)) made)) told)

pub returns : goal.returns
returns g c = λ start made has.
    let index = c.loop-index.index in
    let far : length (partitions_in c.args.self.now) ≤ index = omega (arith, c.loop-index-test.false, c.len-index-end.ensures, c.args.self.now.partitions.ok.0) in
    sym (c.loop-index.invariant start made has ∙ ap (λ ls. first_sent (many_in start) (1 + index) ls made) (none_behind start made c.args.self.now has index far))
