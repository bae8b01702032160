use Rattle.std.proofs.Common.{◌∙◌, codes, map, refl, string_bytes, sym, true≢false}
use Rattle.clap.specs.Words.{first_value, found_of}
use Rattle.zb_words.specs.declared.verb.Verb.TheVariants as verbs
use Rattle.zb_words.specs.Plan.{IsGenPlan}
use Rattle.zb_words.proofs.PartLemmas.{asked_by}
use Rattle.zb_words.proofs.TakenLemmas.{fit_others, if_refused, option_alone}
use Rattle.zb_words.proofs.plan.gen_plan.Goals as goal

pub returns-in_err-check_dashes-clause-unplanned : goal.returns-in_err-check_dashes-clause-unplanned
returns-in_err-check_dashes-clause-unplanned c =
    if_refused c.from_residual.result (IsGenPlan (map string_bytes c.args.words.now)) (λ plan is. true≢false (sym (fit_others verbs.Gen (map string_bytes c.args.words.now) is.partitions.once.parts is.partitions.once.given) ∙ c.in_err-check_dashes.ensures.unfit))

pub returns-in_err-number_in-clause-unplanned : goal.returns-in_err-number_in-clause-unplanned
returns-in_err-number_in-clause-unplanned c =
    let words = map string_bytes c.args.words.now in
    let once = option_alone verbs.Gen words (found_of c.args.asked.now) refl c.requires.taken c.in_ok-check_dashes.ensures.fit (codes "number") refl in
    if_refused c.from_residual-in_err-number_in.result (IsGenPlan (map string_bytes c.args.words.now)) (λ plan is. c.in_err-number_in.ensures.none plan.number (asked_by verbs.Gen words _ _ _ plan.number _ once is.number))

pub returns-in_err-small_number_in-clause-unplanned : goal.returns-in_err-small_number_in-clause-unplanned
returns-in_err-small_number_in-clause-unplanned c =
    let words = map string_bytes c.args.words.now in
    let once = option_alone verbs.Gen words (found_of c.args.asked.now) refl c.requires.taken c.in_ok-check_dashes.ensures.fit (codes "requests") refl in
    if_refused c.from_residual-in_err-small_number_in.result (IsGenPlan (map string_bytes c.args.words.now)) (λ plan is. c.in_err-small_number_in.ensures.none plan.requests (asked_by verbs.Gen words _ _ _ plan.requests _ once is.requests))

pub returns-in_err-small_number_in-2-clause-unplanned : goal.returns-in_err-small_number_in-2-clause-unplanned
returns-in_err-small_number_in-2-clause-unplanned c =
    let words = map string_bytes c.args.words.now in
    let once = option_alone verbs.Gen words (found_of c.args.asked.now) refl c.requires.taken c.in_ok-check_dashes.ensures.fit (codes "partitions") refl in
    if_refused c.from_residual-in_err-small_number_in-2.result (IsGenPlan (map string_bytes c.args.words.now)) (λ plan is. c.in_err-small_number_in-2.ensures.none plan.partitions (asked_by verbs.Gen words _ _ _ plan.partitions _ once is.partitions))

pub returns-clause-planned : goal.returns-clause-planned
returns-clause-planned c =
    let once = option_alone verbs.Gen (map string_bytes c.args.words.now) (found_of c.args.asked.now) refl c.requires.taken c.in_ok-check_dashes.ensures.fit in
    record {
      number = record { text = first_value (found_of c.args.asked.now) (codes "number"); once = once (codes "number") refl; meant = c.in_ok-number_in.ensures.some };
      requests = record { text = first_value (found_of c.args.asked.now) (codes "requests"); once = once (codes "requests") refl; meant = c.in_ok-small_number_in.ensures.some };
      partitions = record { text = first_value (found_of c.args.asked.now) (codes "partitions"); once = once (codes "partitions") refl; meant = c.in_ok-small_number_in-2.ensures.some };
    }
