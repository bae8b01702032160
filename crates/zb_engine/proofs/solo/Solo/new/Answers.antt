use Rattle.std.proofs.Common.{length, replicate, sum_by, [], refl, sym, ap, ◌∙◌}
use Rattle.std.proofs.lemmas.List.{length-map, length-replicate}
use Rattle.zb_partition.specs.Partition.{frames_of}
use Rattle.zb_engine.proofs.StartLemmas.{made_first}
use Rattle.zb_engine.proofs.solo.Solo.new.Goals as goal

pub invariant_of-result : goal.invariant_of-result
invariant_of-result g c = record {
  some = c.requires.some;
  few = c.requires.few;
  same = sym (length-map c.in-Ok.stamps.items (λ places. places.items)) ∙ (ap length c.in-Ok.ensures ∙ (length-replicate c.len.result [] ∙ (c.len.ensures ∙ c.args.partitions.ok.0)));
  live = λ none. c.requires.live;
}

pub returns-clause-made : goal.returns-clause-made
returns-clause-made g c = λ openings each.
    made_first openings c.args.units _ each (c.in-Ok.ensures ∙ ap (λ n. replicate n []) (c.len.ensures ∙ c.args.partitions.ok.0)) (c.in-Some.ensures ∙ ap (sum_by frames_of) c.deref.ensures.value) refl refl
