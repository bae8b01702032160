use Rattle.std.proofs.Common.{◌≡◌, Some, arith}
use Rattle.zb_model.specs.Batches.{batch}
use Rattle.zb_codec.proofs.BatchLemmas.{found_where}
use Rattle.zb_codec.proofs.read.Goals as goal

pub returns-in-Ok-clause-found : goal.returns-in-Ok-clause-found
returns-in-Ok-clause-found c =
    let read : batch.reading c.args.bytes.now ≡ Some (c.in-Ok.batch, c.read.new.cursor) = rw (← c.new-cursor.ensures) c.in-Ok.ensures in
    rw (c.where_ended.ensures, c.is_at_end.ensures) (found_where c.in-Ok.batch c.args.bytes.now c.read.new.cursor (λ i. omega (arith, c.type_inv.bytes i)) read)
