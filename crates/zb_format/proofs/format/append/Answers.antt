use Rattle.std.proofs.Common.{◌≡◌, length, take, arith, ◌∙◌, ap}
use Rattle.zb_format.specs.Encoded.{KeepsEncoded}
use Rattle.zb_format.specs.declared.encoder.Encoder.TheVariants.{Bytes, Count}
use Rattle.zb_format.proofs.Adding.{kept_front}
use Rattle.zb_format.proofs.format.append.Goals as goal

pub returns-in-Err-Bytes-clause-err : goal.returns-in-Err-Bytes-clause-err
returns-in-Err-Bytes-clause-err g c =
    let kept : KeepsEncoded (Bytes c.args.bytes.now) (Bytes c.in-Err-Bytes.held) = rw (← c.in-Err-Bytes.is-1, ← c.replace.ensures.value) c.in-Err-Bytes.ensures.kept in
    let front = kept_front (Bytes c.args.bytes.now) (Bytes c.in-Err-Bytes.held) kept in
    let before : c.len-before.result ≡ length c.args.bytes.now.items = omega (arith, c.len-before.ensures, c.args.bytes.now.ok.0) in
    c.truncate.ensures.items ∙ ap (λ (n : _). take n c.in-Err-Bytes.held.items) before ∙ front.front_of

pub returns-in_default-Count-2-clause-err : goal.returns-in_default-Count-2-clause-err
returns-in_default-Count-2-clause-err g c =
    let kept : KeepsEncoded (Bytes c.args.bytes.now) (Count c.in_default-Count.field-0-1) = rw (← c.in_default-Count.is-1, ← c.replace.ensures.value) c.in_default-Count.ensures.kept in
    absurd (kept_front (Bytes c.args.bytes.now) (Count c.in_default-Count.field-0-1) kept)
