use Rattle.std.proofs.Common.{◌≡◌, ◌∙◌, ap, not, rules, true}
use Rattle.std.proofs.lemmas.Str.Pattern.{starts_text}
use Rattle.zb_words.specs.Part.{has_dash}
use Rattle.zb_words.proofs.LeafLemmas.{dashes}
use Rattle.zb_words.proofs.ReadLemmas.{two_dashes}
use Rattle.zb_words.proofs.files.is_lone.Goals as goal

pub returns-then-starts_with : goal.returns-then-starts_with
returns-then-starts_with c =
    let word = c.args.word.now in
    let dash : has_dash word ≡ true = search rules in
    rw dash (ap not (starts_text c.starts_with-then-starts_with.result dashes word c.starts_with-then-starts_with.ensures.cases ∙ two_dashes word dash))
