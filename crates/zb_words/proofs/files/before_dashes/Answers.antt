use Rattle.std.proofs.Common.{map, string_bytes, sym, ◌∙◌, ap, take}
use Rattle.std.proofs.lemmas.List.{take-map, take_all}
use Rattle.zb_words.proofs.PartLemmas.{dashes_found, dashes_nowhere}
use Rattle.zb_words.proofs.files.before_dashes.Goals as goal

pub returns-in-Some : goal.returns-in-Some
returns-in-Some c =
    let at = dashes_found string_bytes c.args.words.now c.in-Some.place (sym c.in-Some.ensures) in
    sym (take-map string_bytes c.in-Some.place c.args.words.now) ∙ ap (λ i. take i (map string_bytes c.args.words.now)) (sym at)

pub returns-in-None : goal.returns-in-None
returns-in-None c = sym (take_all _ (map string_bytes c.args.words.now) (dashes_nowhere string_bytes c.args.words.now (sym c.in-None.ensures)))
