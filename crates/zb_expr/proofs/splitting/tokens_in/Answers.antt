use Rattle.std.proofs.Common.{◌≡◌, ◌<◌, ◌++◌, ◌∷◌, [], length, Some, sym, subst, arith}
use Rattle.std.proofs.lemmas.Bool.Decides.{nat_tests}
use Rattle.std.specs.Str.{IsUtf8}
use Rattle.zb_expr.specs.declared.class.Class.TheVariants.{Space}
use Rattle.zb_expr.specs.Spelling.{token_at}
use Rattle.zb_expr.proofs.SplittingLemmas.{tokens-on}
use Rattle.zb_expr.proofs.Utf8Lemmas.{utf8_behind_read, utf8_behind_run}
use Rattle.zb_expr.proofs.splitting.tokens_in.Goals as goal

pub loop-preserved : goal.loop-preserved
loop-preserved c =
    let left = c.read_token.new.bytes in
    let token = c.in_ok-read_token.field-0 in
    let some : 0 < length left = grind (arith, nat_tests) in
    let read : token_at c.loop.bytes ≡ Some (token, left) = c.in_ok-read_token.ensures in
    let step = tokens-on (length c.args.text.now) c.loop.counter c.loop.tokens.items token c.loop.bytes left (omega arith) read some in
    let pushed : c.push.new.self.items ≡ c.loop.tokens.items ++ token ∷ [] = c.in_ok-push.ensures.items in
    let utf8 = utf8_behind_run Space left (utf8_behind_read token c.loop.bytes left read c.loop.invariant.utf8) in
    record {
      all = cc (step, pushed, c.take_run-spaces.ensures.rest);
      utf8 = subst IsUtf8 (sym c.take_run-spaces.ensures.rest) utf8;
    }
