use Rattle.std.proofs.Common.{◌≡◌, ◌∙◌, ◌%◌, List, ℕ, ap, length, map, refl, sym}
use Rattle.std.specs.Borrow.{Bor}
use Rattle.std.proofs.lemmas.List.{length-map}
use Rattle.clap.specs.Words.{found_of, rows_of}
use Rattle.zb_words.specs.App.{files_among}
use Rattle.zb_words.proofs.TakenLemmas.{paths_are}
use Rattle.zb_words.proofs.plan.files_in.Goals as goal

pub returns-then-paths-ne0-clause-none : goal.returns-then-paths-ne0-clause-none
returns-then-paths-ne0-clause-none c = λ other even.
    let paths : List (Bor (List ℕ)) = c.unwrap_or-paths.result.now in
    let same : map (λ (v : Bor (List ℕ)). v.now) paths ≡ files_among (rows_of (found_of c.args.asked.now)) =
    ap (λ (s : Bor (List (Bor (List ℕ)))). map (λ (v : Bor (List ℕ)). v.now) s.now) c.unwrap_or-paths.ensures ∙ paths_are (found_of c.args.asked.now) c.get_strs.result _ c.get_strs.ensures refl in
    c.if-paths-ne0.true (ap (λ n. n % 2) (sym (length-map paths (λ v. v.now)) ∙ ap length same) ∙ even)

pub returns-clause-files : goal.returns-clause-files
returns-clause-files c =
    let paths : List (Bor (List ℕ)) = c.unwrap_or-paths.result.now in
    let same : map (λ (v : Bor (List ℕ)). v.now) paths ≡ files_among (rows_of (found_of c.args.asked.now)) =
    ap (λ (s : Bor (List (Bor (List ℕ)))). map (λ (v : Bor (List ℕ)). v.now) s.now) c.unwrap_or-paths.ensures ∙ paths_are (found_of c.args.asked.now) c.get_strs.result _ c.get_strs.ensures refl in
    (c.in_ok-texts_of.ensures ∙ same, ap (λ n. n % 2) (ap length c.in_ok-texts_of.ensures ∙ length-map paths (λ v. v.now)) ∙ c.if-paths-ne0.false)
