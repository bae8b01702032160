use Rattle.std.proofs.Common.{◌≡◌, ◌∙◌, ◌++◌, ◌%◌, ap, codes, length, map, refl, string_bytes, subst, sym, true≢false}
use Rattle.std.specs.Prelude.{Some}
use Rattle.clap.specs.Words.{first_value, found_of, rows_of}
use Rattle.zb_words.specs.declared.verb.Verb.TheVariants as verbs
use Rattle.zb_words.specs.App.{files_among}
use Rattle.zb_words.specs.Part.{IsMeant, before_dashes, behind_dashes}
use Rattle.zb_words.specs.Plan.{IsPath, IsServePlan}
use Rattle.zb_words.proofs.PartLemmas.{asked_by, one_files}
use Rattle.zb_words.proofs.TakenLemmas.{asked, fit_serve, if_refused}
use Rattle.zb_words.proofs.plan.serve_plan.Goals as goal

pub returns-in_err-check_dashes-clause-unplanned : goal.returns-in_err-check_dashes-clause-unplanned
returns-in_err-check_dashes-clause-unplanned c =
    let words = map string_bytes c.args.words.now in
    if_refused c.from_residual.result (IsServePlan (before_dashes words) (behind_dashes words)) (λ plan is. true≢false (sym (fit_serve words is.partitions.once.parts is.partitions.once.given) ∙ c.in_err-check_dashes.ensures.unfit))

pub returns-in_err-partitions-clause-unplanned : goal.returns-in_err-partitions-clause-unplanned
returns-in_err-partitions-clause-unplanned c =
    let words = map string_bytes c.args.words.now in
    let once = (asked verbs.Serve words (found_of c.args.asked.now) c.requires.taken c.in_ok-check_dashes.ensures.fit).option (codes "partitions") refl in
    if_refused c.from_residual-in_err-partitions.result (IsServePlan (before_dashes words) (behind_dashes words)) (λ plan is. c.in_err-partitions.ensures.none plan.partitions (asked_by verbs.Serve (before_dashes words) _ _ _ plan.partitions _ once is.partitions))

pub returns-in_err-clock-clause-unplanned : goal.returns-in_err-clock-clause-unplanned
returns-in_err-clock-clause-unplanned c =
    let words = map string_bytes c.args.words.now in
    let once = (asked verbs.Serve words (found_of c.args.asked.now) c.requires.taken c.in_ok-check_dashes.ensures.fit).option (codes "clock") refl in
    if_refused c.from_residual-in_err-clock.result (IsServePlan (before_dashes words) (behind_dashes words)) (λ plan is. c.in_err-clock.ensures.none plan.clock (asked_by verbs.Serve (before_dashes words) _ _ _ plan.clock _ once is.clock))

pub returns-in_err-limit-clause-unplanned : goal.returns-in_err-limit-clause-unplanned
returns-in_err-limit-clause-unplanned c =
    let words = map string_bytes c.args.words.now in
    let once = (asked verbs.Serve words (found_of c.args.asked.now) c.requires.taken c.in_ok-check_dashes.ensures.fit).option (codes "limit") refl in
    if_refused c.from_residual-in_err-limit.result (IsServePlan (before_dashes words) (behind_dashes words)) (λ plan is. c.in_err-limit.ensures.none plan.limit (asked_by verbs.Serve (before_dashes words) _ _ _ plan.limit _ once is.limit))

pub returns-in_err-units-clause-unplanned : goal.returns-in_err-units-clause-unplanned
returns-in_err-units-clause-unplanned c =
    let words = map string_bytes c.args.words.now in
    let once = (asked verbs.Serve words (found_of c.args.asked.now) c.requires.taken c.in_ok-check_dashes.ensures.fit).option (codes "units") refl in
    if_refused c.from_residual-in_err-units.result (IsServePlan (before_dashes words) (behind_dashes words)) (λ plan is. c.in_err-units.ensures.none plan.units (asked_by verbs.Serve (before_dashes words) _ _ _ plan.units _ once is.units))

pub returns-in-Err-clause-unplanned : goal.returns-in-Err-clause-unplanned
returns-in-Err-clause-unplanned c = λ other plan is.
    let words = map string_bytes c.args.words.now in
    let behind = behind_dashes words in
    let ours = asked verbs.Serve words (found_of c.args.asked.now) c.requires.taken c.in_ok-check_dashes.ensures.fit in
    let same : files_among (rows_of (found_of c.args.asked.now)) ≡ plan.files =
    ours.all ∙ ap (λ among. among ++ behind) (one_files verbs.Serve (before_dashes words) ours.among is.files.among ours.given is.files.given) ∙ sym is.files.all in
    c.in-Err.ensures.none other (ap (λ fs. length fs % 2) same ∙ is.files.pairs)

pub returns-in-Ok-of-clause-planned : goal.returns-in-Ok-of-clause-planned
returns-in-Ok-of-clause-planned c =
    let found = found_of c.args.asked.now in
    let ours = asked verbs.Serve (map string_bytes c.args.words.now) found c.requires.taken c.in_ok-check_dashes.ensures.fit in
    record {
      partitions = record { text = first_value found (codes "partitions"); once = ours.option (codes "partitions") refl; meant = c.in_ok-partitions.ensures.some };
      dir = record { text = first_value found (codes "dir"); once = ours.option (codes "dir") refl; meant = subst (IsMeant IsPath (first_value found (codes "dir")) (Some (codes "zb"))) (sym c.in-Ok-of.ensures) c.dir_in.ensures };
      clock = record { text = first_value found (codes "clock"); once = ours.option (codes "clock") refl; meant = c.in_ok-clock.ensures.some };
      limit = record { text = first_value found (codes "limit"); once = ours.option (codes "limit") refl; meant = c.in_ok-limit.ensures.some };
      units = record { text = first_value found (codes "units"); once = ours.option (codes "units") refl; meant = c.in_ok-units.ensures.some };
      files = record { among = ours.among; given = ours.given; all = c.in-Ok.ensures.files.0 ∙ ours.all; pairs = c.in-Ok.ensures.files.1 };
    }
