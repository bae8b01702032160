use Rattle.std.proofs.Common.{◌≡◌, ◌-◌}
use Rattle.std.specs.Str.{IsUtf8}
use Rattle.zb_expr.specs.Spelling.{tokens_after, tokens_of}
use Rattle.zb_expr.proofs.splitting.tokens_in.Given as goal

-- the tokens so far and those that are left are all of them, and what is left is UTF-8
abbrev pub invariant-loop : goal.invariant-loop
invariant-loop l = record {
  all : tokens_after (l.most - l.counter) l.tokens.items l.bytes ≡ tokens_of l.text;
  utf8 : IsUtf8 l.bytes;
}
