use Rattle.std.proofs.Common.{rules, sym, ◌∙◌}
use Rattle.std.proofs.lemmas.Bool.{false≢true}
use Rattle.zb_partition.proofs.partition.Partition.make.Goals as goal

pub invariant_of-self : goal.invariant_of-self
invariant_of-self g c = record {
  whole = λ live. absurd (false≢true (sym c.requires.stopped ∙ live));
  sound = λ live. absurd (false≢true (sym c.requires.stopped ∙ live));
  limited = search rules;
  counted = search rules;
  resting = λ live. absurd (false≢true (sym c.requires.stopped ∙ live));
}
