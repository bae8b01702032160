use Rattle.std.proofs.Common.{◌≡◌, ◌+◌, length, refl, ap, ◌∙◌, arith}
use Rattle.zb_model.specs.Record.{bytes_of}
use Rattle.zb_store.proofs.LogLaws.{framed_length}
use Rattle.zb_partition.proofs.partition.Partition.prepare.Goals as goal

pub returns-in-Some-clause-full : goal.returns-in-Some-clause-full
returns-in-Some-clause-full g c =
    let frame = c.put_frame.new.frame in
    let long : length frame.items ≡ 9 + length (bytes_of c.args.batch.now) = ap length c.in-Ok.ensures.made ∙ framed_length (bytes_of c.args.batch.now) in
    let full = c.in-Some.ensures.full in
    rw full.0 (refl, omega (arith, long, c.len.ensures, frame.ok.0, frame.ok.1, frame.small), refl, full.1)

pub returns-in-None-clause-batch : goal.returns-in-None-clause-batch
returns-in-None-clause-batch g c =
    let frame = c.put_frame.new.frame in
    let long : length frame.items ≡ 9 + length (bytes_of c.args.batch.now) = ap length c.in-Ok.ensures.made ∙ framed_length (bytes_of c.args.batch.now) in
    c.in-Ok.ensures.fits (omega (arith, long, c.len.ensures, frame.ok.0, c.in-None.ensures.room, c.args.self.now.limited))
