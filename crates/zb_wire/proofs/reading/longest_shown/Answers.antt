use Rattle.std.proofs.Common.{lit<}
use Rattle.zb_wire.specs.Request.{longest_line}
use Rattle.zb_wire.proofs.RequestLaws.{request_of-take}
use Rattle.zb_wire.proofs.reading.longest_shown.Goals as goal

pub returns-clause-decides : goal.returns-clause-decides
unfolding longest_line
returns-clause-decides c = λ given line. request_of-take given 262145 line (lit< tt)
