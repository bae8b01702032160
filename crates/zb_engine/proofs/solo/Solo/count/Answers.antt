use Rattle.std.proofs.Common.{sym, ◌∙◌}
use Rattle.zb_engine.specs.Solo.{many_in, HasPart, partitions_in}
use Rattle.zb_engine.proofs.NumberLemmas.{each_from_length}
use Rattle.zb_engine.proofs.solo.Solo.count.Goals as goal

pub returns-clause-count : goal.returns-clause-count
returns-clause-count g c = λ start made has.
    c.len.ensures ∙ (c.args.self.now.partitions.ok.0 ∙ sym (each_from_length (HasPart (many_in start) made) 1 start.openings (partitions_in c.args.self.now) has.parts))
