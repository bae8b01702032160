use Rattle.std.proofs.Common.{◌≡◌, ◌∙◌, codes, map, refl, string_bytes, subst, sym, true≢false}
use Rattle.std.specs.Prelude.{None, Some}
use Rattle.clap.specs.Words.{first_value, found_of}
use Rattle.zb_words.specs.declared.verb.Verb.TheVariants as verbs
use Rattle.zb_words.specs.Part.{AskFor, IsMeant}
use Rattle.zb_words.specs.Plan.{IsDecimal, IsLogPlan, IsPath}
use Rattle.zb_words.proofs.PartLemmas.{asked_by}
use Rattle.zb_words.proofs.WordLaws.{one_asked, one_decimal}
use Rattle.zb_words.proofs.TakenLemmas.{fit_others, if_refused, option_alone}
use Rattle.zb_words.proofs.plan.log_plan.Goals as goal

pub returns-in_err-check_dashes-clause-unplanned : goal.returns-in_err-check_dashes-clause-unplanned
returns-in_err-check_dashes-clause-unplanned c =
    let words = map string_bytes c.args.words.now in
    if_refused c.from_residual.result (IsLogPlan words) (λ plan is. true≢false (sym (fit_others verbs.Log words is.partitions.once.parts is.partitions.once.given) ∙ c.in_err-check_dashes.ensures.unfit))

pub returns-in_err-partitions-clause-unplanned : goal.returns-in_err-partitions-clause-unplanned
returns-in_err-partitions-clause-unplanned c =
    let words = map string_bytes c.args.words.now in
    let once = option_alone verbs.Log words (found_of c.args.asked.now) refl c.requires.taken c.in_ok-check_dashes.ensures.fit (codes "partitions") refl in
    if_refused c.from_residual-in_err-partitions.result (IsLogPlan words) (λ plan is. c.in_err-partitions.ensures.none plan.partitions (asked_by verbs.Log words _ _ _ plan.partitions _ once is.partitions))

pub returns-in_err-partition-clause-unplanned : goal.returns-in_err-partition-clause-unplanned
returns-in_err-partition-clause-unplanned c =
    let words = map string_bytes c.args.words.now in
    let found = found_of c.args.asked.now in
    let once = option_alone verbs.Log words found refl c.requires.taken c.in_ok-check_dashes.ensures.fit in
    let partitions : AskFor verbs.Log words (codes "--partitions") (IsDecimal 1 16) (Some 1) c.in_ok-partitions.partitions =
    record { text = first_value found (codes "partitions"); once = once (codes "partitions") refl; meant = c.in_ok-partitions.ensures.some } in
    if_refused c.from_residual-in_err-partition.result (IsLogPlan words) (λ plan is.
    let same : plan.partitions ≡ c.from.result = one_asked verbs.Log words _ _ _ plan.partitions c.in_ok-partitions.partitions (one_decimal _ _) is.partitions partitions ∙ sym c.from.ensures in
    c.in_err-partition.ensures.none plan.partition
    (subst (λ n. IsMeant (IsDecimal 1 n) (first_value found (codes "partition")) None plan.partition) same (asked_by verbs.Log words _ _ _ plan.partition _ (once (codes "partition") refl) is.partition)))

pub returns-clause-planned : goal.returns-clause-planned
returns-clause-planned c =
    let found = found_of c.args.asked.now in
    let once = option_alone verbs.Log (map string_bytes c.args.words.now) found refl c.requires.taken c.in_ok-check_dashes.ensures.fit in
    record {
      partitions = record { text = first_value found (codes "partitions"); once = once (codes "partitions") refl; meant = c.in_ok-partitions.ensures.some };
      dir = record { text = first_value found (codes "dir"); once = once (codes "dir") refl; meant = subst (IsMeant IsPath (first_value found (codes "dir")) (Some (codes "zb"))) (sym c.in_ok-of.ensures) c.dir_in.ensures };
      partition = record { text = first_value found (codes "partition"); once = once (codes "partition") refl; meant = subst (λ n. IsMeant (IsDecimal 1 n) (first_value found (codes "partition")) None c.in_ok-partition.partition) c.from.ensures c.in_ok-partition.ensures.some };
    }
