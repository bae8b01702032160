use Rattle.zb_disk.proofs.memory.MemDiskDisk.sync.Goals as goal

pub returns-clause-time : goal.returns-clause-time
returns-clause-time c = c.keep.ensures.time c.args.self.now.first.items
