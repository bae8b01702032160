use Rattle.zb_store.proofs.GateLemmas.{one_or_other, not_both, one_standing, one_cut}
use Rattle.zb_store.proofs.reading.one_reading.Goals as goal

pub returns : goal.returns
returns c = record { some = one_or_other; not_both = not_both; one = one_standing; one_cut = one_cut }
