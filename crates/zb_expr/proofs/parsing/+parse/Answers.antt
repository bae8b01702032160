use Rattle.std.proofs.Common.{◌≡◌, ◌+◌, ◌<◌, Some, drop, subst, sym, arith}
use Rattle.zb_expr.specs.Grammar.{level_of}
use Rattle.zb_expr.specs.Reading.{IsWithin, AreWithin, part_at, first_token, part_joined, with_member}
use Rattle.zb_expr.specs.declared.token.Token.TheVariants as tokens
use Rattle.zb_expr.proofs.ParsingLemmas.{part_at-some, chain-on, members-on, joined-within, added-within}
use Rattle.zb_expr.proofs.parsing.+parse.Goals as goal

pub read_part-returns-clause-read : goal.read_part-returns-clause-read
read_part-returns-clause-read t c =
    let some : 0 < c.args.levels = omega arith in
    rw (part_at-some c.args.levels c.args.least c.args.tokens.now some) c.read_within.ensures.read

pub read_chain-loop-preserved : goal.read_chain-loop-preserved
read_chain-loop-preserved t c =
    let room = c.args.room in
    let o = c.in-Some.operator in
    let left = c.loop.left in
    let right = c.in_ok-right.right in
    let joins : c.in_ok-left.left ≡ part_joined o left right = c.in_ok-left.ensures in
    let behind : c.take_next-operator.new.self ≡ drop 1 c.loop.tokens = c.take_next-operator.ensures.rest in
    let tight : c.tightness.result ≡ level_of o = c.tightness.ensures.value in
    let had : part_at room (c.tightness.result + 1) c.take_next-operator.new.self ≡ Some (right, c.read_part.new.tokens) = c.in_ok-right.ensures.read in
    let read : part_at room (level_of o + 1) (drop 1 c.loop.tokens) ≡ Some (right, c.read_part.new.tokens) = rw (← tight, ← behind) had in
    let few : left.around < room = omega arith in
    let step = chain-on (part_at room) room c.args.least c.loop.counter left right c.loop.tokens c.read_part.new.tokens o (omega arith) (sym c.in-Some.ensures) few read in
    record {
      read = cc;
      within = subst (IsWithin (room + 1)) (sym joins) (joined-within room o left right c.loop.invariant.within few c.in_ok-right.ensures.within);
    }

pub read_members-loop-preserved : goal.read_members-loop-preserved
read_members-loop-preserved t c =
    let room = c.args.room in
    let member = c.in_ok-member-in-Some-Comma.member in
    let joins : c.in_ok-listed-in-Some-Comma.listed ≡ with_member c.loop.listed member = c.in_ok-listed-in-Some-Comma.ensures in
    let behind : c.take_next.new.self ≡ drop 1 c.loop.tokens = c.take_next.ensures.rest in
    let had : part_at room 1 c.take_next.new.self ≡ Some (member, c.read_part.new.tokens) = c.in_ok-member-in-Some-Comma.ensures.read in
    let read : part_at room 1 (drop 1 c.loop.tokens) ≡ Some (member, c.read_part.new.tokens) = rw (← behind) had in
    let comma : first_token c.loop.tokens ≡ Some tokens.Comma = cc (c.in-Some-Comma.ensures.token, c.in-Some-Comma.field-0-is) in
    let step = members-on (part_at room) c.len-most.result c.loop.counter c.loop.listed member c.loop.tokens c.read_part.new.tokens (omega arith) comma read in
    record {
      read = cc;
      within = subst (AreWithin (room + 1)) (sym joins) (added-within room c.loop.listed member c.loop.invariant.within c.in_ok-member-in-Some-Comma.ensures.within);
    }
