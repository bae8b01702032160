use Rattle.zb_expr.proofs.PrintableLemmas.{printable_of}
use Rattle.zb_expr.proofs.PrintedUtf8Lemmas.{printed_utf8}
use Rattle.zb_expr.proofs.PrintingLemmas.{printed_is, printed_only}
use Rattle.zb_expr.proofs.laws.printed_trees_are_read_again.Goals as goal

pub returns-clause-again : goal.returns-clause-again
returns-clause-again c = printed_is

pub returns-clause-only : goal.returns-clause-only
returns-clause-only c = printed_only

pub returns-clause-utf8 : goal.returns-clause-utf8
returns-clause-utf8 c = λ tree h u. printed_utf8 tree h.leaves u

pub returns-clause-each : goal.returns-clause-each
returns-clause-each c = printable_of
