-- In parts that give each option once at most clap finds no fault.
use Rattle.std.proofs.Common.{◌≡◌, ◌<◌, ◌≤◌, ◌∙◌, ◌+◌, ◌⊎◌, true, false, suc, List, [], ◌∷◌, ◌++◌, Some, None, codes, refl, ap, sym, subst, length, map, inl, inr, arith, append_assoc, append-nil, is_some}
use Rattle.std.specs.List.{filter_map}
use Rattle.std.proofs.lemmas.List.{length-append}
use Rattle.std.proofs.lemmas.List.Elements.{filter_map-append}
use Rattle.clap.specs.Walk.{Row, Text, Waiting, Walk, has_row, idle, option, positional, settled_rows, used, walked}
use Rattle.clap.specs.Kinds.{or_else}
use Rattle.clap.specs.Faults.{settle_fault, turn_fault}
use Rattle.zb_words.specs.declared.verb.Verb.{Verb}
use Rattle.zb_words.specs.Part.{GiveAll, Part, has_dash, is_option, takes_files, text_for}
use Rattle.zb_words.specs.App.{leaf}
use Rattle.zb_words.proofs.RowLemmas.{has_row-in, row_for, row_in, same_bytes}
use Rattle.zb_words.proofs.LeafLemmas.{IsOption, built_option, dashes, option_facts}
use Rattle.zb_words.proofs.StepLemmas.{IsFree, Pending, at, final, held, next_word, total, turn_bare, turn_behind, turn_dashes, turn_file, turn_joined, turn_value, walked_bare, walked_behind, walked_dashes, walked_file, walked_joined, walked_value}
use Rattle.zb_words.proofs.ReadLemmas.{Holds, as_file, at_end, free_use, holds_file, holds_option, settle_file, settle_option, settled_file, settled_option}

-- each option is given once at most
abbrev pub Once : Verb → List Part → Type 0
Once verb parts = (word : Text) → is_option verb word ≡ true → length (filter_map (text_for word) parts) ≤ 1

-- nothing, or "--" and these words
abbrev pub IsTail : Verb → List Text → List Text → Type 0
IsTail verb tail behind = ((tail ≡ []) × (behind ≡ [])) ⊎ ((takes_files verb ≡ true) × (tail ≡ dashes ∷ behind))

-- clap finds no fault in the words, and the rows at the end hold what the parts give
pub record Passes (verb : Verb) (w : Walk) (words : List Text) (parts : List Part) : Type 0 where
  pub faultless : total verb w words ≡ []
  pub holds : Holds verb parts (final verb w words)

-- one word that passes, and then the others
pass_on : (verb : Verb) (w next : Walk) (word : Text) (rest : List Text) (parts : List Part) → walked (leaf verb).rules [] w word ≡ next → turn_fault (leaf verb) [] w word ≡ [] → Passes verb next rest parts → Passes verb w (word ∷ rest) parts
pass_on verb w next word rest parts step turn pass = record {
  faultless = next_word verb w word rest ∙ ap (λ k. or_else k (total verb (walked (leaf verb).rules [] w word) rest)) turn ∙ ap (λ s. total verb s rest) step ∙ pass.faultless;
  holds = subst (λ (s : Walk). Holds verb parts (final verb s rest)) (sym step) pass.holds;
}

-- ---- the words behind "--"

module _ (verb : Verb) (takes : takes_files verb ≡ true) where
  -- a FILE that is pending is no fault
  file_held : (v : Text) (rows : List Row) (parts : List Part) → Holds verb parts rows → Holds verb (parts ++ as_file v ∷ []) (settled_rows (leaf verb).rules (Some (codes "FILE", v ∷ [])) rows)
  file_held v rows parts h = subst (λ (rs : List Row). Holds verb (parts ++ as_file v ∷ []) rs) (sym (settled_file verb v rows takes)) (holds_file verb parts rows v h)

  behind_passes : (words : List Text) (rows : List Row) (p : Pending) (w : Waiting) (parts : List Part) → settle_fault (leaf verb).rules false (held rows p) ≡ [] → Holds verb parts (settled_rows (leaf verb).rules p rows)
      → Passes verb (at true rows p w) words (parts ++ map as_file words)
  behind_passes [] rows p w parts settles h = record { faultless = at_end verb (at true rows p w) ∙ settles; holds = subst (λ (ps : List Part). Holds verb ps (settled_rows (leaf verb).rules p rows)) (sym (append-nil parts)) h }
  behind_passes (v ∷ words) rows p w parts settles h =
      let now = settled_rows (leaf verb).rules p rows in
      let next = behind_passes words now (Some (codes "FILE", v ∷ [])) positional (parts ++ as_file v ∷ []) (settle_file verb v now takes) (file_held v now parts h) in
      pass_on verb (at true rows p w) (at true now (Some (codes "FILE", v ∷ [])) positional) v words (parts ++ map as_file (v ∷ words)) (walked_behind verb v rows p w takes) (turn_behind verb v rows p w takes ∙ settles)
      (subst (λ (ps : List Part). Passes verb (at true now (Some (codes "FILE", v ∷ [])) positional) words ps) (append_assoc parts (as_file v ∷ []) (map as_file words)) next)

-- ---- the words of parts

none_before : (before more : List Text) (v : Text) → length (before ++ v ∷ more) ≤ 1 → before ≡ []
none_before [] more v short = refl
none_before (x ∷ before) more v short =
    let long : length (before ++ v ∷ more) ≡ length before + suc (length more) = length-append before (v ∷ more) in
    absurd (omega arith)

-- an option that is given here isn't given before
new_here : (verb : Verb) (word v : Text) (o : IsOption (leaf verb).rules word) (sofar parts : List Part) (rows : List Row) → is_option verb word ≡ true → Once verb (sofar ++ (Some word, v) ∷ parts) → Holds verb sofar rows → has_row o.id rows ≡ false
new_here verb word v o sofar parts rows is once h =
    let split : filter_map (text_for word) (sofar ++ (Some word, v) ∷ parts) ≡ filter_map (text_for word) sofar ++ v ∷ filter_map (text_for word) parts =
    filter_map-append (text_for word) sofar ((Some word, v) ∷ parts) ∙ rw (same_bytes word) refl in
    let none : filter_map (text_for word) sofar ≡ [] = none_before (filter_map (text_for word) sofar) (filter_map (text_for word) parts) v (subst (λ (ts : List Text). length ts ≤ 1) split (once word is)) in
    let row : row_in o.id rows ≡ None = h.options o.id (subst (λ (x : Text). is_option verb x ≡ true) o.word is) ∙ ap (λ (x : Text). row_for o.id (filter_map (text_for x) sofar)) (sym o.word) ∙ ap (row_for o.id) none in
    has_row-in o.id rows ∙ ap is_some row

module _ (verb : Verb) (tail behind : List Text) (ends : IsTail verb tail behind) where
  -- what is said of these parts, behind others
  abbrev Passing : List Part → Type 0
  Passing parts = (words : List Text) (rows : List Row) (p : Pending) (w : Waiting) (sofar : List Part) → IsFree w → settle_fault (leaf verb).rules false (held rows p) ≡ [] → Holds verb sofar (settled_rows (leaf verb).rules p rows)
      → GiveAll verb words parts → Once verb (sofar ++ parts) → Passes verb (at false rows p w) (words ++ tail) (sofar ++ (parts ++ map as_file behind))

  no_part : Passing []
  no_part words rows p w sofar free settles h given once = subst (λ (ws : List Text). Passes verb (at false rows p w) (ws ++ tail) (sofar ++ map as_file behind)) (sym given) (go ends)
    where
      go : IsTail verb tail behind → Passes verb (at false rows p w) tail (sofar ++ map as_file behind)
      go (inl none) = rw (none.0, none.1, append-nil sofar) (record { faultless = at_end verb (at false rows p w) ∙ settles; holds = h })
      go (inr some) = subst (λ (ws : List Text). Passes verb (at false rows p w) ws (sofar ++ map as_file behind)) (sym some.1)
          (pass_on verb (at false rows p w) (at true rows p w) dashes behind (sofar ++ map as_file behind) (walked_dashes verb rows p w) (turn_dashes verb rows p w) (behind_passes verb some.0 behind rows p w sofar settles h))

  module _ (parts : List Part) (others : Passing parts) where
    regroup : (w : Walk) (words : List Text) (sofar : List Part) (x : Part) → Passes verb w words ((sofar ++ x ∷ []) ++ (parts ++ map as_file behind)) → Passes verb w words (sofar ++ ((x ∷ parts) ++ map as_file behind))
    regroup w words sofar x pass = subst (λ (ps : List Part). Passes verb w words ps) (append_assoc sofar (x ∷ []) (parts ++ map as_file behind)) pass

    once_more : (sofar : List Part) (x : Part) → Once verb (sofar ++ x ∷ parts) → Once verb ((sofar ++ x ∷ []) ++ parts)
    once_more sofar x once = λ word is. subst (λ (ps : List Part). length (filter_map (text_for word) ps) ≤ 1) (sym (append_assoc sofar (x ∷ []) parts)) (once word is)

    file_passes : (v : Text) (rest : List Text) (rows : List Row) (p : Pending) (w : Waiting) (sofar : List Part) → IsFree w → settle_fault (leaf verb).rules false (held rows p) ≡ [] → Holds verb sofar (settled_rows (leaf verb).rules p rows)
        → takes_files verb ≡ true → has_dash v ≡ false → GiveAll verb rest parts → Once verb (sofar ++ as_file v ∷ parts) → Passes verb (at false rows p w) (v ∷ (rest ++ tail)) (sofar ++ ((as_file v ∷ parts) ++ map as_file behind))
    file_passes v rest rows p w sofar free settles h takes plain given once =
        let now = settled_rows (leaf verb).rules p rows in
        pass_on verb (at false rows p w) (at false now (Some (codes "FILE", v ∷ [])) positional) v (rest ++ tail) _ (walked_file verb v rows p w takes free plain) (turn_file verb v rows p w takes free plain ∙ settles)
        (regroup _ (rest ++ tail) sofar (as_file v)
        (others rest now (Some (codes "FILE", v ∷ [])) positional (sofar ++ as_file v ∷ []) tt (settle_file verb v now takes) (file_held verb takes v now sofar h) given (once_more sofar (as_file v) once)))

    joined_passes : (word v : Text) (o : IsOption (leaf verb).rules word) (rest : List Text) (rows : List Row) (p : Pending) (w : Waiting) (sofar : List Part) → settle_fault (leaf verb).rules false (held rows p) ≡ [] → Holds verb sofar (settled_rows (leaf verb).rules p rows)
        → is_option verb word ≡ true → 0 < length v → GiveAll verb rest parts → Once verb (sofar ++ (Some word, v) ∷ parts) → Passes verb (at false rows p w) ((word ++ (codes "=" ++ v)) ∷ (rest ++ tail)) (sofar ++ (((Some word, v) ∷ parts) ++ map as_file behind))
    joined_passes word v o rest rows p w sofar settles h is some given once =
        let now = settled_rows (leaf verb).rules p rows in
        let new = new_here verb word v o sofar parts now is once h in
        pass_on verb (at false rows p w) (at false (used (built_option o.id o.required) (v ∷ []) now) None idle) (word ++ (codes "=" ++ v)) (rest ++ tail) _ (walked_joined verb word o v rows p w)
        (turn_joined verb word o v rows p w ∙ rw (settles, free_use o.id v o.required now new some) refl)
        (regroup _ (rest ++ tail) sofar (Some word, v)
        (others rest (used (built_option o.id o.required) (v ∷ []) now) None idle (sofar ++ (Some word, v) ∷ []) tt refl (holds_option verb word o sofar now v new h) given (once_more sofar (Some word, v) once)))

    value_passes : (word v : Text) (o : IsOption (leaf verb).rules word) (rest : List Text) (rows : List Row) (p : Pending) (w : Waiting) (sofar : List Part) → settle_fault (leaf verb).rules false (held rows p) ≡ [] → Holds verb sofar (settled_rows (leaf verb).rules p rows)
        → is_option verb word ≡ true → 0 < length v → has_dash v ≡ false → GiveAll verb rest parts → Once verb (sofar ++ (Some word, v) ∷ parts) → Passes verb (at false rows p w) (word ∷ v ∷ (rest ++ tail)) (sofar ++ (((Some word, v) ∷ parts) ++ map as_file behind))
    value_passes word v o rest rows p w sofar settles h is some plain given once =
        let now = settled_rows (leaf verb).rules p rows in
        let new = new_here verb word v o sofar parts now is once h in
        pass_on verb (at false rows p w) (at false now (Some (o.id, [])) (option o.id)) word (v ∷ (rest ++ tail)) _ (walked_bare verb word o rows p w) (turn_bare verb word o rows p w ∙ rw settles refl)
        (pass_on verb (at false now (Some (o.id, [])) (option o.id)) (at false now (Some (o.id, v ∷ [])) idle) v (rest ++ tail) _ (walked_value verb word v o now plain) (turn_value verb word v o now plain)
        (regroup _ (rest ++ tail) sofar (Some word, v)
        (others rest now (Some (o.id, v ∷ [])) idle (sofar ++ (Some word, v) ∷ []) tt (settle_option verb word v o now ∙ free_use o.id v o.required now new some)
        (subst (λ (rs : List Row). Holds verb (sofar ++ (Some word, v) ∷ []) rs) (sym (settled_option verb word v o now)) (holds_option verb word o sofar now v new h)) given (once_more sofar (Some word, v) once))))

    part_passes : (x : Part) → Passing (x ∷ parts)
    part_passes (None, v) words rows p w sofar free settles h (rest, (takes, is, plain), given) once =
        subst (λ (ws : List Text). Passes verb (at false rows p w) (ws ++ tail) (sofar ++ ((as_file v ∷ parts) ++ map as_file behind))) (sym is) (file_passes v rest rows p w sofar free settles h takes plain given once)
    part_passes (Some word, v) words rows p w sofar free settles h (rest, (is, some, inl two), given) once =
        subst (λ (ws : List Text). Passes verb (at false rows p w) (ws ++ tail) (sofar ++ (((Some word, v) ∷ parts) ++ map as_file behind))) (sym two.0)
        (value_passes word v (option_facts verb word is) rest rows p w sofar settles h is some two.1 given once)
    part_passes (Some word, v) words rows p w sofar free settles h (rest, (is, some, inr one), given) once =
        subst (λ (ws : List Text). Passes verb (at false rows p w) (ws ++ tail) (sofar ++ (((Some word, v) ∷ parts) ++ map as_file behind))) (sym one)
        (joined_passes word v (option_facts verb word is) rest rows p w sofar settles h is some given once)

  parts_pass : (parts : List Part) → Passing parts
  parts_pass [] = no_part
  parts_pass (x ∷ parts) = part_passes parts (parts_pass parts) x

-- words that give parts, and what may stand behind them
pub words_pass : (verb : Verb) (words tail behind : List Text) (parts : List Part) → GiveAll verb words parts → Once verb parts → IsTail verb tail behind → Passes verb (at false [] None idle) (words ++ tail) (parts ++ map as_file behind)
words_pass verb words tail behind parts given once ends = parts_pass verb tail behind ends parts words [] None idle [] tt refl (record { options = λ id is. refl; once = λ id is. omega arith; files = refl }) given once
