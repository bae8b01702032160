use Rattle.std.proofs.Common.{subst, sym}
use Rattle.std.specs.Str.{IsUtf8}
use Rattle.zb_expr.proofs.SplittingLemmas.{word_utf8}
use Rattle.zb_expr.proofs.splitting.read_word.Goals as goal

pub from_utf8_unchecked-word-requires : goal.from_utf8_unchecked-word-requires
from_utf8_unchecked-word-requires c = subst IsUtf8 (sym c.take_run-run.ensures.run) (word_utf8 c.args.bytes.now)
