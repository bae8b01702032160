use Rattle.std.proofs.Common.{arith}
use Rattle.zb_outside.proofs.PieceLemmas.{hands_out}
use Rattle.zb_outside.proofs.mem_source.MemSourceSource.read.Goals as goal

pub returns-clause-taken : goal.returns-clause-taken
returns-clause-taken c =
    hands_out c.args.self.now.bytes.items c.copy_from_slice.new.self _ c.args.self.now.given c.min-count.result (omega arith) (rw c.deref-2.ensures.value at c.copy_from_slice.ensures.after)
