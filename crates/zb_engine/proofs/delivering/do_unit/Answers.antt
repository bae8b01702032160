use Rattle.std.proofs.Common.{rules, ℕ, ◌≡◌, ◌<◌, length, Some, None, refl, ap, ◌∙◌, arith}
use Rattle.zb_model.specs.declared.stop.Stop.TheVariants as stops
use Rattle.zb_record.specs.Answers.{answer_packet}
use Rattle.zb_engine.specs.Solo.{many_in, partitions_in}
use Rattle.zb_engine.proofs.MadeLemmas.{ended_resting}
use Rattle.zb_engine.proofs.delivering.do_unit.Goals as goal
use Rattle.zb_engine.proofs.delivering.do_unit.Goals.{in-Some, in_default}

pub returns-in-Err-clause-stopped : goal.returns-in-Err-clause-stopped
returns-in-Err-clause-stopped g c = λ start made has.
    let within : 0 < length (partitions_in c.args.solo.now) = omega (arith, c.args.solo.now.some) in
    rw (c.keep.ensures.stop) (record {
      unlogged = None;
      by = λ entry is. absurd (cc);
      holds = ended_resting start made c.args.solo.now c.keep.new.self has 1 0 refl within g.met.D.Disk.images_told c.keep.ensures.partitions c.keep.ensures.stamps
          (c.keep.ensures.kept ∙ ap (λ (p : ℕ). Some (p, stops.Memory)) c.new.ensures);
    })

pub returns-clause-placed : goal.returns-clause-placed
returns-clause-placed g c = λ start made has.
    let batch = c.in-Ok-commit.batch in
    let placed = c.in-Ok-commit.ensures.placed start made has in
    let many = c.count.ensures.count start _ placed.holds in
    let answer : c.answer_packet.result ≡ answer_packet c.args.partition (many_in start) batch =
    c.answer_packet.ensures ∙ ap (λ n. answer_packet c.args.partition n batch) many in
    (batch, placed, elim c.match-answer_packet.branch [ in-Some w ↦ search rules | in_default w ↦ search rules ])
