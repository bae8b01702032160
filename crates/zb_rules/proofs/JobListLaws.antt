-- Laws of lists of jobs: of those whose keys ascend, and whose cells are apart.
use Rattle.std.proofs.Common.{◌≡◌, ℕ, zero, suc, ◌+◌, ◌<◌, ◌≤◌, ◌==◌, get_or, List, [], ◌∷◌, ◌++◌, Bool, true, false, Some, All, Contains, refl, sym, ◌∙◌, subst, arith}
use Rattle.std.specs.List.{find, AllPairs}
use Rattle.std.proofs.lemmas.Bool.Decides.{nat_tests}
use Rattle.std.proofs.lemmas.List.Elements.{All-nil, All-cons, All-head, All-tail, All-weaker, All-contains, All-contains_itself}
use Rattle.zb_table.specs.Rows.{Ascend}
use Rattle.zb_tokens.proofs.GameLaws.{found_holds}
use Rattle.zb_views.specs.declared.job.Job.{Job}
use Rattle.zb_rules.specs.Sound.{AreApartJobs}

-- the keys of the jobs ascend, from `low` on
abbrev pub JobsAscend : ℕ → List Job → Type 0
JobsAscend low js = Ascend (λ (j : Job). j.key) low js

-- no key lies below the bound
pub ascend_above : (low : ℕ) (js : List Job) → JobsAscend low js → All (λ (j : Job). low ≤ j.key) js
ascend_above low [] is = All-nil (λ (j : Job). low ≤ j.key)
ascend_above low (j ∷ js) is =
    let less = is.0 in
    All-cons (λ (x : Job). low ≤ x.key) j js less (All-weaker (λ (x : Job). j.key + 1 ≤ x.key) (λ (x : Job). low ≤ x.key) (λ x more. omega (arith, less, more)) js (ascend_above (j.key + 1) js is.1))

-- one job more behind them
pub ascend_push : (low : ℕ) (js : List Job) (j : Job) → JobsAscend low js → All (λ (x : Job). x.key < j.key) js → low ≤ j.key → JobsAscend low (js ++ j ∷ [])
ascend_push low [] j is below least = (least, tt)
ascend_push low (x ∷ js) j is below least =
    let head = All-head (λ (y : Job). y.key < j.key) x js below in
    (is.0, ascend_push (x.key + 1) js j is.1 (All-tail (λ (y : Job). y.key < j.key) x js below) (omega (arith, head)))

head_apart : (x : Job) (xs : List Job) → AllPairs AreApartJobs (x ∷ xs) → All (AreApartJobs x) xs
head_apart x xs apart = λ k d within. apart zero (suc k) d (omega arith) (omega arith)

tail_apart : (x : Job) (xs : List Job) → AllPairs AreApartJobs (x ∷ xs) → AllPairs AreApartJobs xs
tail_apart x xs apart = λ i j d lt within. apart (suc i) (suc j) d (omega arith) (omega arith)

-- one that is found is among them, and passes
pub found_among : (passes : Job → Bool) (js : List Job) (j : Job) → find passes js ≡ Some j → Contains js j × (passes j ≡ true)
found_among passes js j is = found_holds passes (Contains js) js j (All-contains_itself js) is

-- of jobs whose keys ascend the one with a key
key_each : (low : ℕ) (js : List Job) → JobsAscend low js → All (λ (j : Job). find (λ (x : Job). x.key == j.key) js ≡ Some j) js
key_each low [] is = All-nil (λ (j : Job). find (λ (x : Job). x.key == j.key) [] ≡ Some j)
key_each low (x ∷ js) is =
    let later = key_each (x.key + 1) js is.1 in
    let above = ascend_above (x.key + 1) js is.1 in
    let same : (x.key == x.key) ≡ true = grind (arith, nat_tests) in
    All-cons (λ (j : Job). find (λ (y : Job). y.key == j.key) (x ∷ js) ≡ Some j) x js (rw same refl)
    (λ k d within. let other : (x.key == (get_or js k d).key) ≡ false = (let more = above k d within in grind (arith, nat_tests, more)) in rw other (later k d within))

-- is the one that is found
pub job_of_key : (low : ℕ) (js : List Job) (key : ℕ) (j : Job) → JobsAscend low js → Contains js j → j.key ≡ key → find (λ (x : Job). x.key == key) js ≡ Some j
job_of_key low js key j is among its = subst (λ (k : ℕ). find (λ (x : Job). x.key == k) js ≡ Some j) its (All-contains (λ (x : Job). find (λ (y : Job). y.key == x.key) js ≡ Some x) js j (key_each low js is) among)

-- of jobs whose cells are apart the one of a cell
cell_each : (js : List Job) → AllPairs AreApartJobs js → All (λ (j : Job). find (λ (x : Job). x.cell == j.cell) js ≡ Some j) js
cell_each [] apart = All-nil (λ (j : Job). find (λ (x : Job). x.cell == j.cell) [] ≡ Some j)
cell_each (x ∷ js) apart =
    let later = cell_each js (tail_apart x js apart) in
    let others = head_apart x js apart in
    let same : (x.cell == x.cell) ≡ true = grind (arith, nat_tests) in
    All-cons (λ (j : Job). find (λ (y : Job). y.cell == j.cell) (x ∷ js) ≡ Some j) x js (rw same refl)
    (λ k d within. let other : (x.cell == (get_or js k d).cell) ≡ false = others k d within in rw other (later k d within))

-- is the one that is found
pub job_of_its_cell : (js : List Job) (cell : ℕ) (j : Job) → AllPairs AreApartJobs js → Contains js j → j.cell ≡ cell → find (λ (x : Job). x.cell == cell) js ≡ Some j
job_of_its_cell js cell j apart among its = subst (λ (c : ℕ). find (λ (x : Job). x.cell == c) js ≡ Some j) its (All-contains (λ (x : Job). find (λ (y : Job). y.cell == x.cell) js ≡ Some x) js j (cell_each js apart) among)

-- two jobs of one cell are one job
pub one_of_cell : (js : List Job) (j k : Job) → AllPairs AreApartJobs js → Contains js j → Contains js k → j.cell ≡ k.cell → j ≡ k
one_of_cell js j k apart among too same =
    let both : Some j ≡ Some k = sym (job_of_its_cell js k.cell j apart among same) ∙ job_of_its_cell js k.cell k apart too refl in
    cc
