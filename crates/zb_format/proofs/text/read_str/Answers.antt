use Rattle.std.proofs.lemmas.Str.{IsUtf8-from_ascii}
use Rattle.zb_format.proofs.text.read_str.Goals as goal

pub from_utf8_unchecked-requires : goal.from_utf8_unchecked-requires
from_utf8_unchecked-requires c = IsUtf8-from_ascii c.in_ok-front.front.now (c.is_short_ascii.ensures c.if-is_short_ascii.true)
