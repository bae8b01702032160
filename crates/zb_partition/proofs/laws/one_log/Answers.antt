use Rattle.zb_partition.specs.Log.{bodies_of}
use Rattle.zb_partition.proofs.LogLemmas.{same_log, none_bad, one_frame}
use Rattle.zb_partition.proofs.laws.one_log.Goals as goal

pub returns : goal.returns
returns c = record {
  one = λ file a b of_a of_b for_a for_b. same_log a b of_a of_b (c.one_reading.ensures.one file (bodies_of a) (bodies_of b) for_a for_b);
  not_both = none_bad;
  one_frame = one_frame;
}
