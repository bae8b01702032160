use Rattle.std.proofs.Common.{◌≡◌, ◌∙◌, ◌∷◌, ap, map, string_bytes}
use Rattle.zb_words.specs.App.{word_of}
use Rattle.zb_words.proofs.WordLaws.{is_plan, its_plan}
use Rattle.zb_words.proofs.PlanLemmas.{no_words, taken_behind, verb_is}
use Rattle.zb_words.proofs.plan.plan_in.Goals as goal

pub unreachable-requires : goal.unreachable-requires
unreachable-requires c = no_words string_bytes c.args.words.now c.args.matches.now c.requires.taken c.in_default.ensures.cases

pub verb_plan-requires : goal.verb_plan-requires
verb_plan-requires c =
    let words = map string_bytes c.args.words.now in
    let options = map string_bytes c.in-Some.options.now in
    let verb = c.verb_of-verb.result in
    let is : words ≡ word_of verb ∷ options =
    verb_is words options (string_bytes c.in-Some.word.now) verb c.args.matches.now c.requires.taken (ap (map string_bytes) c.in-Some.ensures.cases.0) (λ v e. c.verb_of-verb.ensures v (c.as_str.ensures.value ∙ e)) in
    record { taken = taken_behind verb words options c.args.matches.now _ c.requires.taken is c.in-Some-subcommand.ensures.rows }

pub returns-in-Ok-clause-planned : goal.returns-in-Ok-clause-planned
returns-in-Ok-clause-planned c =
    let words = map string_bytes c.args.words.now in
    let options = map string_bytes c.in-Some.options.now in
    let verb = c.verb_of-verb.result in
    let is : words ≡ word_of verb ∷ options =
    verb_is words options (string_bytes c.in-Some.word.now) verb c.args.matches.now c.requires.taken (ap (map string_bytes) c.in-Some.ensures.cases.0) (λ v e. c.verb_of-verb.ensures v (c.as_str.ensures.value ∙ e)) in
    is_plan verb words options c.in-Ok.plan is c.in-Ok.ensures.planned

pub returns-in-Err-clause-unplanned : goal.returns-in-Err-clause-unplanned
returns-in-Err-clause-unplanned c = λ other plan planned.
    let words = map string_bytes c.args.words.now in
    let options = map string_bytes c.in-Some.options.now in
    let verb = c.verb_of-verb.result in
    let is : words ≡ word_of verb ∷ options =
    verb_is words options (string_bytes c.in-Some.word.now) verb c.args.matches.now c.requires.taken (ap (map string_bytes) c.in-Some.ensures.cases.0) (λ v e. c.verb_of-verb.ensures v (c.as_str.ensures.value ∙ e)) in
    c.in-Err.ensures.unplanned (λ memory. other (c.error_of.ensures memory)) plan (its_plan verb words options plan is planned)
