-- Which jobs are there.
use Rattle.std.proofs.Common.{◌≡◌, ℕ, ◌+◌, ◌<◌, ◌==◌, Option, Some, None, is_some, is_none, Bool, true, false, ◌&&◌, ◌||◌, not, List, [], ◌∷◌, refl, sym, ap, subst, ◌∙◌, arith, suc, length, drop, get_or, drop-cons}
use Rattle.std.specs.List.{find, list_any}
use Rattle.std.specs.Option.{option_map_or}
use Rattle.zb_exchange_records.specs.declared.job.JobActivated.{JobActivated}
use Rattle.zb_model.specs.declared.record.Event.{Event}
use Rattle.zb_views.specs.declared.job.Job.{Job}
use Rattle.zb_views.specs.Jobs.{jobs, job_at, is_activatable}
use Rattle.zb_tokens.specs.Board.{Board}
use Rattle.zb_tokens.specs.Work.{is_work_in}
use Rattle.zb_rules.specs.Shown.{holds_of_game}
use Rattle.zb_rules.specs.JobEvents.{has_job, hands_out, are_jobs}
use Rattle.zb_state.specs.declared.facts.Facts.{Facts}
use Rattle.zb_state.specs.State.{IsStateOf}

there_or_not : {A : Type 0} (found : Option A) → not (is_none found) ≡ is_some found
there_or_not None = refl
there_or_not (Some a) = refl

not_both : (a b c d : Bool) → not a ≡ c → not b ≡ d → not (a || b) ≡ (c && d)
not_both true b c d first rest = rw (sym first) refl
not_both false b c d first rest = rw (sym first, sym rest) refl

-- each of some jobs is there, where none is missing
pub all_there : (es : List Event) (js : List Job) (keys : List ℕ) → jobs es ≡ js → not (list_any (λ key. is_none (find (λ (j : Job). j.key == key) js)) keys) ≡ are_jobs keys es
all_there es js [] is = refl
all_there es js (key ∷ keys) is =
    let here : not (is_none (find (λ (j : Job). j.key == key) js)) ≡ has_job key es = subst (λ (l : List Job). not (is_none (find (λ (j : Job). j.key == key) l)) ≡ has_job key es) is (there_or_not (job_at key es)) in
    not_both (is_none (find (λ (j : Job). j.key == key) js)) (list_any (λ k. is_none (find (λ (j : Job). j.key == k) js)) keys) (has_job key es) (are_jobs keys es) here (all_there es js keys is)

-- whether one of some things passes, from a place on
pub any_from : {A : Type 0} (f : A → Bool) (xs : List A) (i : ℕ) (x : A) → i < length xs → x ≡ get_or xs i x → list_any f (drop i xs) ≡ (f x || list_any f (drop (i + 1) xs))
any_from f xs i x within is =
    let up : suc i ≡ i + 1 = omega arith in
    ap (list_any f) (drop-cons xs i x within) ∙ (ap (λ y. f y || list_any f (drop (suc i) xs)) (sym is) ∙ ap (λ (n : ℕ). f x || list_any f (drop n xs)) up)

-- whether a worker may be given a job that is there
pub handed : (es : List Event) (facts : Facts) → IsStateOf es facts → (e : JobActivated) (j : Job) → Some j ≡ find (λ x. x.key == e.key) facts.tables.jobs
    → hands_out e es ≡ (is_activatable j.phase && is_work_in j.cell e.instance e.node facts.game)
handed es facts is e j found =
    ap (λ (js : List Job). option_map_or (λ (x : Job). is_activatable x.phase && holds_of_game (is_work_in x.cell e.instance e.node) es) (find (λ x. x.key == e.key) js) false) is.jobs
    ∙ (ap (λ (o : Option Job). option_map_or (λ (x : Job). is_activatable x.phase && holds_of_game (is_work_in x.cell e.instance e.node) es) o false) (sym found)
    ∙ ap (λ (o : Option Board). is_activatable j.phase && option_map_or (is_work_in j.cell e.instance e.node) o false) is.game)
