use Rattle.zb_reader.proofs.SourceLemmas.{read_none}
use Rattle.zb_reader.proofs.sources.parsed.Goals as goal

pub returns-in-Err-NotExpr : goal.returns-in-Err-NotExpr
returns-in-Err-NotExpr c = read_none c.args.text.now (c.in-Err-NotExpr.ensures.none (cc c.in-Err-NotExpr.field-0-is))
