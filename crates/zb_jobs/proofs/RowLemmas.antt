-- Jobs on cells of their own: one more, one fewer, or one changed; and what an event makes of all.
use Rattle.std.proofs.Common.{◌≡◌, ℕ, ◌+◌, ◌==◌, List, [], ◌∷◌, ◌++◌, map, filter, Bool, true, false, not, ◌&&◌, is_none, cond, Option, Some, None, refl, sym, ap, ◌∙◌, arith}
use Rattle.std.proofs.lemmas.Bool.Decides.{nat_tests}
use Rattle.zb_table.specs.Rows.{Ascend, are_below, without}
use Rattle.zb_table.proofs.Changing.{without_none}
use Rattle.zb_pairs.proofs.FoundLemmas.{none_here, none_later, none_more, none_kept, none_mapped, all_stay, found_above}
use Rattle.zb_views.specs.declared.job.Job.{Job}
use Rattle.zb_jobs.specs.Table.{job_of_cell, HaveOwnCells}

-- one more job has its own cell
pub own_more : (js : List Job) (j : Job) → HaveOwnCells js → job_of_cell j.cell js ≡ None → HaveOwnCells (js ++ j ∷ [])
own_more [] j own none = (refl, tt)
own_more (x ∷ js) j own none =
    let apart : (x.cell == j.cell) ≡ false = none_here (λ o. o.cell == j.cell) x js none in
    let other : (j.cell == x.cell) ≡ false = grind (arith, nat_tests, apart) in
    (none_more (λ o. o.cell == x.cell) js j own.0 other, own_more js j own.1 (none_later (λ o. o.cell == j.cell) x js none))

-- some of them have theirs
pub own_kept : (keeps : Job → Bool) (js : List Job) → HaveOwnCells js → HaveOwnCells (filter keeps js)
own_kept keeps [] own = tt
own_kept keeps (j ∷ js) own = by_test (keeps j) (own_kept keeps js own.1)
  where
    by_test : (t : Bool) → HaveOwnCells (filter keeps js) → HaveOwnCells (cond t (j ∷ filter keeps js) (filter keeps js))
    by_test true later = (none_kept (λ o. o.cell == j.cell) keeps js own.0, later)
    by_test false later = later

-- and so they have where the cells stay
pub own_mapped : (f : Job → Job) (js : List Job) → ((j : Job) → (f j).cell ≡ j.cell) → HaveOwnCells js → HaveOwnCells (map f js)
own_mapped f [] keeps own = tt
own_mapped f (j ∷ js) keeps own =
    rw (keeps j) (none_mapped (λ o. o.cell == j.cell) f js (λ o. ap (λ (c : ℕ). c == j.cell) (keeps o)) own.0, own_mapped f js keeps own.1)

-- the job of a cell is the only one that waits on it
pub cell_gone : (cell low : ℕ) (js : List Job) (j : Job) → Ascend (λ x. x.key) low js → HaveOwnCells js → job_of_cell cell js ≡ Some j → without (λ x. x.key) j.key js ≡ filter (λ x. not (x.cell == cell)) js
cell_gone cell low [] j up own is = absurd (cc)
cell_gone cell low (x ∷ js) j up own is = by_test (x.cell == cell) refl is (cell_gone cell (x.key + 1) js j up.1 own.1)
  where
    by_test : (t : Bool) → (x.cell == cell) ≡ t → ◌≡◌ {A = Option Job} (cond t (Some x) (job_of_cell cell js)) (Some j)
        → (job_of_cell cell js ≡ Some j → without (λ o. o.key) j.key js ≡ filter (λ o. not (o.cell == cell)) js)
        → without (λ o. o.key) j.key (x ∷ js) ≡ cond (not t) (x ∷ filter (λ o. not (o.cell == cell)) js) (filter (λ o. not (o.cell == cell)) js)
    by_test true here is later =
        let same : x ≡ j = cc in
        let at : cell ≡ x.cell = grind (arith, nat_tests, here) in
        let its : j.key ≡ x.key = ap (λ (o : Job). o.key) (sym same) in
        let itself : (x.key == x.key) ≡ true = grind (arith, nat_tests) in
        let gone : without (λ o. o.key) x.key (x ∷ js) ≡ js = rw itself (without_none (λ o. o.key) x.key (x.key + 1) js up.1 (omega arith)) in
        let others : filter (λ o. not (o.cell == cell)) js ≡ js = all_stay (λ o. o.cell == cell) js (ap (λ (k : ℕ). job_of_cell k js) at ∙ own.0) in
        ap (λ (k : ℕ). without (λ o. o.key) k (x ∷ js)) its ∙ (gone ∙ sym others)
    by_test false here is later =
        let found = found_above (λ o. o.key) (λ o. o.cell == cell) (x.key + 1) js j up.1 is in
        let apart : (x.key == j.key) ≡ false = grind (arith, nat_tests, found) in
        rw apart (ap (λ (l : List Job). x ∷ l) (later is))

-- where a job has its place: its key is greater than all, and its cell has none
pub has_place : (key cell : ℕ) (js : List Job) → (are_below (λ j. j.key) key js && is_none (job_of_cell cell js)) ≡ true → (are_below (λ j. j.key) key js ≡ true) × (job_of_cell cell js ≡ None)
has_place key cell js fits = by_tests (are_below (λ j. j.key) key js) (job_of_cell cell js) fits
  where
    by_tests : (below : Bool) (found : Option Job) → (below && is_none found) ≡ true → (below ≡ true) × (found ≡ None)
    by_tests true None fits = (refl, refl)
    by_tests true (Some j) fits = absurd (cc)
    by_tests false found fits = absurd (cc)
