use Rattle.zb_disk.proofs.memory.MemDiskDisk.write_at.Goals as goal

pub returns-in_err-write-clause-time : goal.returns-in_err-write-clause-time
returns-in_err-write-clause-time c = c.write.ensures.time c.args.self.now.first.items

pub returns-then-is_done-clause-time : goal.returns-then-is_done-clause-time
returns-then-is_done-clause-time c = c.write.ensures.time c.args.self.now.first.items

pub returns-clause-time : goal.returns-clause-time
returns-clause-time c = c.keep_failed.ensures.time c.args.self.now.first.items
