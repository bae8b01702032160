use Rattle.zb_line.proofs.KeptLemmas.{in_place_sorted}
use Rattle.zb_line.proofs.keys.Keys.as_slice.Goals as goal

pub returns-in-InPlace-Some-clause-order : goal.returns-in-InPlace-Some-clause-order
returns-in-InPlace-Some-clause-order c = in_place_sorted c.self.inside.kept c.in-InPlace-Some.field-0 c.args.self.now c.in-InPlace-Some.is c.self.view_is

pub returns-in-InPlace-None-clause-order : goal.returns-in-InPlace-None-clause-order
returns-in-InPlace-None-clause-order c = in_place_sorted c.self.inside.kept c.in-InPlace-None.field-0 c.args.self.now c.in-InPlace-None.is c.self.view_is
