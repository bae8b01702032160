use Rattle.zb_lines.proofs.LineLemmas.{breaks_first}
use Rattle.zb_lines.proofs.reader.newline_of.Goals as goal

pub returns : goal.returns
returns c = breaks_first _ _ c.memchr.ensures
