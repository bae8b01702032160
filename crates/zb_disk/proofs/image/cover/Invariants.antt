use Rattle.std.proofs.Common.{take}
use Rattle.zb_disk.specs.Image.{IsCovered}
use Rattle.zb_disk.proofs.image.cover.Given as goal

abbrev pub invariant-loop-call : goal.invariant-loop-call
invariant-loop-call l = IsCovered l.initial.image.items (take l.call-index l.calls) l.fill l.image.items
