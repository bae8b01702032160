use Rattle.std.proofs.Common.{◌≡◌, take}
use Rattle.zb_disk.specs.Kept.{file_after}
use Rattle.zb_disk.proofs.image.redo.Given as goal

abbrev pub invariant-loop-call : goal.invariant-loop-call
invariant-loop-call l = l.file.items ≡ file_after l.initial.file.items (take l.call-index l.calls)
