use Rattle.std.proofs.Common.{◌≡◌, ◌++◌, length}
use Rattle.zb_format.specs.Encoded.{Adds}
use Rattle.zb_format.proofs.Adding.{adds_then}
use Rattle.std.proofs.lemmas.Result.{on_ok_weaker}
use Rattle.zb_format.specs.Layout.{text}
use Rattle.zb_format.specs.Field as fields
use Rattle.zb_format.proofs.field.TextFormat.write.Goals as goal

pub returns-clause-added : goal.returns-clause-added
unfolding text fields.text_bytes
returns-clause-added c =
    let same : c.as_bytes-spelled.result.now ≡ c.args.self.now = cc in
    let counted : Adds c.args.encoder.now (fields.number_bytes (length c.args.self.now)) c.write_count.new.encoder = rw (← same) c.in_ok-write_count.ensures.added in
    let then : Adds c.write_count.new.encoder c.args.self.now c.add.new.self → Adds c.args.encoder.now (fields.number_bytes (length c.args.self.now) ++ c.args.self.now) c.add.new.self = λ added. adds_then c.args.encoder.now (fields.number_bytes (length c.args.self.now)) c.write_count.new.encoder c.args.self.now c.add.new.self counted added in
    on_ok_weaker c.add.result then (rw same at c.add.ensures.added)
