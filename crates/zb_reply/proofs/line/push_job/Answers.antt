use Rattle.std.proofs.Common.{sym}
use Rattle.zb_reply.specs.Reply.{job_members}
use Rattle.zb_reply.proofs.line.push_job.Goals as goal

pub returns : goal.returns
unfolding job_members
returns c = rw (sym c.ms.ensures, sym c.as_str.ensures, sym c.number.ensures, sym c.number-2.ensures, sym c.from.ensures, sym c.as_str-2.ensures, sym c.as_slice.ensures.value) c.push_listed.ensures
