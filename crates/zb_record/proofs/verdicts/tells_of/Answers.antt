use Rattle.std.proofs.Common.{◌≡◌, ◌≢◌, ℕ, ◌++◌, List, Some, None, sym, ap, ◌∙◌}
use Rattle.std.specs.Fmt.{decimal}
use Rattle.std.proofs.lemmas.Bool.Decides.{Decides-eqb}
use Rattle.std.proofs.lemmas.Slice.Eq.{strip_prefix_is}
use Rattle.zb_record.proofs.TextLemmas.{behind_front, other_front}
use Rattle.zb_record.proofs.verdicts.tells_of.Goals as goal

pub returns-in_default : goal.returns-in_default
returns-in_default c =
    let text = c.as_bytes.result.now in
    let front = c.as_bytes-2.result.now in
    let other : (rest : List ℕ) → text ≢ front ++ rest = strip_prefix_is Decides-eqb text front None c.in_default.ensures.cases in
    sym (rw (sym c.as_bytes.ensures.value, sym c.as_bytes-2.ensures.value) (other_front text front other (decimal c.args.key ++ c.args.behind.now)))

pub returns-in_default-strip_prefix : goal.returns-in_default-strip_prefix
returns-in_default-strip_prefix c =
    let text = c.as_bytes.result.now in
    let front = c.as_bytes-2.result.now in
    let rest = c.in-Some.rest.now in
    let digits = c.as_bytes-3.result.now in
    let is : text ≡ front ++ rest = strip_prefix_is Decides-eqb text front (Some c.in-Some.rest) c.in-Some.ensures.cases in
    let spelt : digits ≡ decimal c.args.key = c.as_bytes-3.ensures.value ∙ (c.format-digits.ensures.text ∙ ap decimal c.number.ensures) in
    let other : (last : List ℕ) → rest ≢ digits ++ last = strip_prefix_is Decides-eqb rest digits None c.in_default-strip_prefix.ensures.cases in
    sym (rw (sym c.as_bytes.ensures.value, sym c.as_bytes-2.ensures.value, sym spelt, is) (behind_front front rest (digits ++ c.args.behind.now) ∙ other_front rest digits other c.args.behind.now))

pub returns : goal.returns
returns c =
    let text = c.as_bytes.result.now in
    let front = c.as_bytes-2.result.now in
    let rest = c.in-Some.rest.now in
    let digits = c.as_bytes-3.result.now in
    let last = c.in-Some-strip_prefix.rest.now in
    let is : text ≡ front ++ rest = strip_prefix_is Decides-eqb text front (Some c.in-Some.rest) c.in-Some.ensures.cases in
    let spelt : digits ≡ decimal c.args.key = c.as_bytes-3.ensures.value ∙ (c.format-digits.ensures.text ∙ ap decimal c.number.ensures) in
    let too : rest ≡ digits ++ last = strip_prefix_is Decides-eqb rest digits (Some c.in-Some-strip_prefix.rest) c.in-Some-strip_prefix.ensures.cases in
    sym
    (rw (sym c.as_bytes.ensures.value, sym c.as_bytes-2.ensures.value, sym spelt, sym c.as_bytes-4.ensures.value, is)
    (behind_front front rest (digits ++ c.as_bytes-4.result.now) ∙ (rw too (behind_front digits last c.as_bytes-4.result.now) ∙ sym c.eq.ensures)))
