use Rattle.std.proofs.Common.{sym, ◌∙◌, arith}
use Rattle.zb_store.proofs.NumberLemmas.{next_by_bytes, gate_by_bytes, short_is_past}
use Rattle.zb_store.proofs.step.step_at.Goals as goal

pub returns-then-bytes-lt9-clause-step : goal.returns-then-bytes-lt9-clause-step
returns-then-bytes-lt9-clause-step c = λ file size from.
    let all = c.requires.enough c.if-bytes-lt9.true in
    short_is_past file c.args.at c.args.bytes.now from c.requires.some c.if-bytes-eq0.false (all ∙ sym size) c.if-bytes-lt9.true

pub returns-then-size-end-clause-step : goal.returns-then-size-end-clause-step
returns-then-size-end-clause-step c = λ file size from.
    let next = next_by_bytes file c.args.at c.args.bytes.now from c.if-bytes-lt9.false in
    record {
      is_open = λ closed. c.if-bytes-eq0.false (gate_by_bytes file c.args.at c.args.bytes.now from c.requires.some ∙ closed);
      past = omega (arith, next, size, c.number-size.ensures, c.if-size-end.true);
    }

pub returns-clause-step : goal.returns-clause-step
returns-clause-step c = λ file size from.
    let next = next_by_bytes file c.args.at c.args.bytes.now from c.if-bytes-lt9.false in (
      λ closed. c.if-bytes-eq0.false (gate_by_bytes file c.args.at c.args.bytes.now from c.requires.some ∙ closed),
      omega (arith, next, c.number-size.ensures),
      omega (arith, size, c.if-size-end.false),
    )
