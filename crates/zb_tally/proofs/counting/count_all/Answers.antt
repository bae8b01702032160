use Rattle.std.proofs.Common.{◌≡◌, ◌<◌, ◌+◌, ◌∷◌, length, drop, sym, ap, ◌∙◌, subst, arith}
use Rattle.zb_serve.proofs.OpeningLemmas.{first_removed}
use Rattle.zb_serve.proofs.ListLemmas.{no_members}
use Rattle.zb_tally.specs.Counts.{both_tallies, tally_from}
use Rattle.zb_tally.specs.Served.{AreLogsOf}
use Rattle.zb_tally.specs.declared.tally.Tally.{Tally}
use Rattle.zb_tally.proofs.CountLemmas.{first_log, joined_none, counted_on, joined_last, no_logs}
use Rattle.zb_tally.proofs.counting.count_all.Goals as goal

pub loop-index-init : goal.loop-index-init
loop-index-init g c = record {
  left = omega arith;
  counted = λ tells logs are. (are, ap (λ (t : Tally). both_tallies t (tally_from 1 logs)) c.none-tally.ensures ∙ joined_none (tally_from 1 logs));
}

pub loop-index-preserved : goal.loop-index-preserved
loop-index-preserved g c =
    let before = c.loop-index.invariant in
    let old = c.loop-index.volumes.items in
    let left = c.remove-log.new.self.items in
    let some : 0 < length old = omega (arith, c.loop-index-test.true, c.len-index-end.ensures, before.left, c.loop-index.volumes.ok.0) in
    let split : old ≡ c.remove-log.result ∷ left = first_removed old left c.remove-log.result some c.remove-log.ensures.value c.remove-log.ensures.items in
    record {
      left = omega (arith, before.left, ap length split, c.loop-index.volumes.ok.0, c.remove-log.new.self.ok.0);
      counted = λ tells logs are.
          let was = before.counted tells logs are in
          let one = first_log g.D.Disk c.remove-log.result left c.loop-index.index logs (subst (λ volumes. AreLogsOf g.D.Disk volumes (drop c.loop-index.index logs)) split was.0) in (
            one.rest,
            counted_on c.loop-index.index c.partition_at.result c.loop-index.tally c.in_ok-counted.counted c.in_ok-tally.tally _ one.log logs c.partition_at.ensures
                (c.in_ok-counted.ensures tells one.log one.stands one.fits) c.in_ok-tally.ensures one.first was.1,
          );
    }

pub returns : goal.returns
returns g c = λ tells logs are.
    let last = c.loop-index.invariant.counted tells logs are in
    let none = no_logs g.D.Disk (drop c.loop-index.index logs) (subst (λ volumes. AreLogsOf g.D.Disk volumes (drop c.loop-index.index logs))
    (no_members c.loop-index.volumes.items (omega (arith, c.loop-index-test.false, c.len-index-end.ensures, c.loop-index.invariant.left, c.loop-index.volumes.ok.0))) last.0) in
    sym (joined_last c.loop-index.tally) ∙ (ap (λ ls. both_tallies c.loop-index.tally (tally_from (1 + c.loop-index.index) ls)) (sym none) ∙ last.1)
