use Rattle.std.proofs.Common.{map, string_bytes}
use Rattle.zb_disk.specs.contracts.sound.SoundDiskDisk.TheImpl as sound
use Rattle.zb_tally.proofs.RunLemmas.{fault_of_run}
use Rattle.zb_tally.proofs.serving.tell.Goals as goal

pub returns-in-Err-serve_workload-clause-fault : goal.returns-in-Err-serve_workload-clause-fault
returns-in-Err-serve_workload-clause-fault c = fault_of_run sound.ghosts (map string_bytes c.args.words.now) c.in-Ok.plan c.in-Err-serve_workload.fault c.in-Ok.ensures.planned c.in-Err-serve_workload.ensures.fault
