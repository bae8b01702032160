use Rattle.std.proofs.Common.{length, take}
use Rattle.zb_format.specs.Field.{number_bytes}
use Rattle.zb_format.proofs.Adding.{Written}
use Rattle.zb_format.proofs.list.write_all.Given as goal

-- the length and the items so far have been added
abbrev pub invariant-loop-item : goal.invariant-loop-item
invariant-loop-item g l = Written g.T.Format.layout.spelling g.T.Format.layout.fits l.fn.encoder (number_bytes (length l.items)) (take l.item-index l.items) l.encoder
