-- What the proof of the writer of batches rests on.
use Rattle.zb_format.proofs.Adding.{adds_then, adds_byte}

pub ruleset pieces = (adds_then, adds_byte)
