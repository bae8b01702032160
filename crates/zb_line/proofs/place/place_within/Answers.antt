use Rattle.zb_line.proofs.OrderLemmas.{is_found, is_missing}
use Rattle.zb_line.proofs.place.place_within.Goals as goal

pub returns-in_default-clause-taken : goal.returns-in_default-clause-taken
returns-in_default-clause-taken g c = is_found g.T.Ord.cmp g.met.T.Ord.total c.args.item.now c.args.line.now c.binary_search.result c.requires c.binary_search.ensures.bound c.binary_search.ensures.position

pub returns-in_default-clause-free : goal.returns-in_default-clause-free
returns-in_default-clause-free g c = is_missing g.T.Ord.cmp g.met.T.Ord.total c.args.item.now c.args.line.now c.binary_search.result c.requires c.binary_search.ensures.bound c.binary_search.ensures.position
