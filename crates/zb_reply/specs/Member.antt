-- What the code's members of a line say.
use Rattle.zb_reply.specs.Reply.{Member, a_number, a_text, some_variables}
use Rattle.zb_reply.specs.declared.line.Member.{Member as Row}
use Rattle.zb_reply.specs.declared.line.Member.TheVariants as rows

-- what a line tells by a member
abbrev pub member_of : Row → Member
member_of (rows.Number name n) = a_number name.now n
member_of (rows.Text name s) = a_text name.now s.now
member_of (rows.Variables name vs) = some_variables name.now vs.now
