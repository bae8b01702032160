use Rattle.std.proofs.Common.{sym, subst}
use Rattle.std.specs.Str.{IsUtf8}
use Rattle.zb_expr.proofs.Utf8Lemmas.{utf8_quoted}
use Rattle.zb_expr.proofs.splitting.read_text.Goals as goal

pub from_utf8_unchecked-text-requires : goal.from_utf8_unchecked-text-requires
from_utf8_unchecked-text-requires c =
    let content = utf8_quoted c.args.bytes.now c.in_ok-content.content.items c.read_quoted.new.bytes c.in_ok-content.ensures c.requires in
    subst IsUtf8 (sym c.as_slice.ensures.value) content
