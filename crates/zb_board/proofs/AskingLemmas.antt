-- For functions that ask whether there are any.
use Rattle.zb_places.proofs.FlowLemmas.{are_among-none, is_none_of-length}

pub ruleset compared = (are_among-none, is_none_of-length)
