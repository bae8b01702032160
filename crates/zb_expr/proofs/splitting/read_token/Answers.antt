use Rattle.std.proofs.Common.{◌≡◌, Some, sym, subst}
use Rattle.std.specs.Str.{IsUtf8}
use Rattle.zb_expr.specs.Spelling.{first_byte}
use Rattle.zb_expr.proofs.Utf8Lemmas.{utf8_behind_quote}
use Rattle.zb_expr.proofs.splitting.read_token.Goals as goal

pub read_text-requires : goal.read_text-requires
read_text-requires c =
    let first : first_byte c.args.bytes.now ≡ Some 34 = cc in
    subst IsUtf8 (sym c.take_next-first.ensures.rest) (utf8_behind_quote c.args.bytes.now first c.requires)
