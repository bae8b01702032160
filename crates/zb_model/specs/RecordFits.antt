-- The batches that have a spelling.
use Rattle.zb_model.specs.Batches.{batch}
use Rattle.zb_model.specs.declared.record.Batch.{Batch}

-- a batch whose numbers, texts and lists fit their bytes
abbrev pub IsBatch : Batch → Type 0
IsBatch b = batch.fits b
