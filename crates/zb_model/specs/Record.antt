-- The bytes of a batch.
use Rattle.std.specs.Prelude.{ℕ, List}
use Rattle.zb_model.specs.Batches.{batch}
use Rattle.zb_model.specs.declared.record.Batch.{Batch}

-- the bytes of a batch, its one spelling
abbrev pub bytes_of : Batch → List ℕ
bytes_of b = batch.spelling b
