use Rattle.zb_expr.proofs.ExprLemmas.{ok_of, only_of, none_of}
use Rattle.zb_expr.proofs.reading.parse.Goals as goal

pub returns-clause-ok : goal.returns-clause-ok
returns-clause-ok c = ok_of c.args.text.now c.expr_of_text.result c.expr_of_text.ensures

pub returns-clause-only : goal.returns-clause-only
returns-clause-only c = only_of c.args.text.now c.expr_of_text.result c.expr_of_text.ensures

pub returns-clause-none : goal.returns-clause-none
returns-clause-none c = none_of c.args.text.now c.expr_of_text.result c.expr_of_text.ensures
