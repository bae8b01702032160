use Rattle.zb_disk.proofs.memory.MemDiskDisk.len.Goals as goal

pub returns-in_err-keep-clause-time : goal.returns-in_err-keep-clause-time
returns-in_err-keep-clause-time c = c.keep.ensures.time c.args.self.now.first.items

pub returns-clause-time : goal.returns-clause-time
returns-clause-time c = c.keep.ensures.time c.args.self.now.first.items
