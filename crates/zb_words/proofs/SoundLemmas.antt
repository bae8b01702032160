-- Words in which clap finds no fault, and whose dashes the grammar has too, are parts.
use Rattle.std.proofs.Common.{◌≡◌, ◌≤◌, ◌∙◌, ℕ, Bool, true, false, zero, suc, List, [], ◌∷◌, ◌++◌, Option, Some, None, codes, refl, ap, sym, subst, length, inl, inr, arith, append-nil, map}
use Rattle.std.proofs.lemmas.Slice.Eq.{bytes_eq-Decides}
use Rattle.clap.specs.Walk.{Row, Text, Waiting, Walk, idle, option, positional, settled_rows, used}
use Rattle.clap.specs.Faults.{settle_fault, turn_fault, use_fault}
use Rattle.zb_words.specs.declared.verb.Verb.{Verb}
use Rattle.zb_words.specs.Part.{Part, has_dash, is_dashes, is_option, takes_files}
use Rattle.zb_words.specs.App.{leaf}
use Rattle.zb_words.proofs.LeafLemmas.{IsOption, built_option, dashes, option_facts}
use Rattle.zb_words.proofs.StepLemmas.{IsFree, Pending, at, final, held, long_named, neither, plain_word, stray_file, total, turn_bare, turn_file, turn_joined, walked_bare, walked_dashes, walked_file, walked_joined, walked_value}
use Rattle.zb_words.proofs.ReadLemmas.{FitsDashes, Holds, IsLong, Reads, Ready, as_file, at_end, before_more, behind_more, behind_reads, extend, fits_more, holds_file, holds_option, long_word, settle_bare, settle_option, settled_file, settled_option, spelling, takes_of, then_rest, use_free}

-- what is said of at most n words
abbrev Sound : Verb → ℕ → Type 0
Sound verb n = (words : List Text) (rows : List Row) (p : Pending) (w : Waiting) (parts : List Part) → length words ≤ n → IsFree w → Ready verb parts rows p → FitsDashes verb words
    → total verb (at false rows p w) words ≡ [] → Reads verb words rows p w parts

module _ (verb : Verb) (n : ℕ) (others : Sound verb n) where
  -- a FILE
  file_reads : (v : Text) (rest : List Text) (rows : List Row) (p : Pending) (w : Waiting) (parts : List Part) → length rest ≤ n → IsFree w → Ready verb parts rows p → FitsDashes verb rest
      → takes_files verb ≡ true → has_dash v ≡ false → total verb (at false rows p w) (v ∷ rest) ≡ [] → Reads verb (v ∷ rest) rows p w parts
  file_reads v rest rows p w parts short free ready fits takes plain none =
      let step = walked_file verb v rows p w takes free plain in
      let both = then_rest verb (at false rows p w) _ v rest step none in
      let settles = sym (turn_file verb v rows p w takes free plain) ∙ both.0 in
      let other = (plain_word v plain).2 in
      let now = settled_rows (leaf verb).rules p rows in
      extend verb (v ∷ rest) rest rows now p (Some (codes "FILE", v ∷ [])) w positional parts (as_file v) settles
      (takes, before_more v rest other, plain) (behind_more v rest other) (ap (λ s. final verb s rest) step)
      (others rest now (Some (codes "FILE", v ∷ [])) positional (parts ++ as_file v ∷ []) short tt
      (λ fine. subst (λ (rs : List Row). Holds verb (parts ++ as_file v ∷ []) rs) (sym (settled_file verb v now takes)) (holds_file verb parts now v (ready settles))) fits both.1)

  -- an option with its value, as one word
  joined_reads : (word v : Text) (o : IsOption (leaf verb).rules word) (rest : List Text) (rows : List Row) (p : Pending) (w : Waiting) (parts : List Part) → is_option verb word ≡ true → length rest ≤ n
      → Ready verb parts rows p → FitsDashes verb rest → total verb (at false rows p w) ((word ++ (codes "=" ++ v)) ∷ rest) ≡ [] → Reads verb ((word ++ (codes "=" ++ v)) ∷ rest) rows p w parts
  joined_reads word v o rest rows p w parts is short ready fits none =
      let step = walked_joined verb word o v rows p w in
      let now = settled_rows (leaf verb).rules p rows in
      let both = then_rest verb (at false rows p w) _ (word ++ (codes "=" ++ v)) rest step none in
      let settle = settle_fault (leaf verb).rules false (held rows p) in
      let fault = use_fault false (built_option o.id o.required) (v ∷ []) now in
      let turn = neither settle fault (neither _ [] (sym (turn_joined verb word o v rows p w) ∙ both.0)).0 in
      let free = use_free o.id v o.required now turn.1 in
      let other = o.no_joined_dashes v in
      extend verb _ rest rows (used (built_option o.id o.required) (v ∷ []) now) p None w idle parts (Some word, v) turn.0
      (is, free.1, inr (before_more (word ++ (codes "=" ++ v)) rest other)) (behind_more (word ++ (codes "=" ++ v)) rest other) (ap (λ s. final verb s rest) step)
      (others rest (used (built_option o.id o.required) (v ∷ []) now) None idle (parts ++ (Some word, v) ∷ []) short tt (λ fine. holds_option verb word o parts now v free.0 (ready turn.0)) fits both.1)

  -- an option and its value, as two words
  value_reads : (word v : Text) (o : IsOption (leaf verb).rules word) (rest : List Text) (rows : List Row) (p : Pending) (w : Waiting) (parts : List Part) → is_option verb word ≡ true → length rest ≤ n
      → Ready verb parts rows p → FitsDashes verb rest → has_dash v ≡ false → settle_fault (leaf verb).rules false (held rows p) ≡ []
      → total verb (at false (settled_rows (leaf verb).rules p rows) (Some (o.id, [])) (option o.id)) (v ∷ rest) ≡ [] → Reads verb (word ∷ v ∷ rest) rows p w parts
  value_reads word v o rest rows p w parts is short ready fits plain settles none =
      let now = settled_rows (leaf verb).rules p rows in
      let first = walked_bare verb word o rows p w in
      let step = walked_value verb word v o now plain in
      let both = then_rest verb (at false now (Some (o.id, [])) (option o.id)) _ v rest step none in
      let free = λ (fine : settle_fault (leaf verb).rules false (held now (Some (o.id, v ∷ []))) ≡ []). use_free o.id v o.required now (sym (settle_option verb word v o now) ∙ fine) in
      let next = others rest now (Some (o.id, v ∷ [])) idle (parts ++ (Some word, v) ∷ []) short tt
      (λ fine. subst (λ (rs : List Row). Holds verb (parts ++ (Some word, v) ∷ []) rs) (sym (settled_option verb word v o now)) (holds_option verb word o parts now v (free fine).0 (ready settles))) fits both.1 in
      let other = (plain_word v plain).2 in
      extend verb (word ∷ v ∷ rest) rest rows now p (Some (o.id, v ∷ [])) w idle parts (Some word, v) settles
      (is, (free next.settles).1, inl (before_more word (v ∷ rest) o.no_dashes ∙ ap (λ (ws : List Text). word ∷ ws) (before_more v rest other), plain))
      (behind_more word (v ∷ rest) o.no_dashes ∙ behind_more v rest other)
      (ap (λ s. final verb s (v ∷ rest)) first ∙ ap (λ s. final verb s rest) step) next

  -- where a long word passes, so does what is pending
  long_settles : (word : Text) (rows : List Row) (p : Pending) (w : Waiting) → IsLong word → is_dashes word ≡ false → turn_fault (leaf verb) [] (at false rows p w) word ≡ [] → settle_fault (leaf verb).rules false (held rows p) ≡ []
  long_settles word rows p w its differ e =
      let is = long_named verb word its.name its.value rows p w differ its.long e in
      go its.value (option_facts verb (45 ∷ 45 ∷ its.name) is) (subst (λ (x : Text). turn_fault (leaf verb) [] (at false rows p w) x ≡ []) its.spelled e)
    where
      go : (value : Option Text) → IsOption (leaf verb).rules (45 ∷ 45 ∷ its.name) → turn_fault (leaf verb) [] (at false rows p w) (spelling its.name value) ≡ [] → settle_fault (leaf verb).rules false (held rows p) ≡ []
      go None o e = (neither (settle_fault (leaf verb).rules false (held rows p)) [] (sym (turn_bare verb (45 ∷ 45 ∷ its.name) o rows p w) ∙ e)).0
      go (Some v) o e =
          let fault = use_fault false (built_option o.id o.required) (v ∷ []) (settled_rows (leaf verb).rules p rows) in
          (neither (settle_fault (leaf verb).rules false (held rows p)) fault (neither _ [] (sym (turn_joined verb (45 ∷ 45 ∷ its.name) o v rows p w) ∙ e)).0).0

  -- an option that no value follows is a fault
  no_value : (word v : Text) (o : IsOption (leaf verb).rules word) (rest : List Text) (rows : List Row) → FitsDashes verb (v ∷ rest) → has_dash v ≡ true
      → total verb (at false rows (Some (o.id, [])) (option o.id)) (v ∷ rest) ≡ [] → ⊥
  no_value word v o rest rows fits dash none = go (is_dashes v) refl
    where
      go : (b : Bool) → is_dashes v ≡ b → ⊥
      go true e =
          let same : v ≡ dashes = (bytes_eq-Decides v dashes).0 e in
          let none' : total verb (at false rows (Some (o.id, [])) (option o.id)) (dashes ∷ rest) ≡ [] = subst (λ (x : Text). total verb (at false rows (Some (o.id, [])) (option o.id)) (x ∷ rest) ≡ []) same none in
          let both = then_rest verb (at false rows (Some (o.id, [])) (option o.id)) _ dashes rest (walked_dashes verb rows (Some (o.id, [])) (option o.id)) none' in
          let takes = takes_of verb rest (subst (λ (x : Text). FitsDashes verb (x ∷ rest)) same fits) in
          settle_bare verb word o rows (behind_reads verb rest rows (Some (o.id, [])) (option o.id) [] takes (λ fine. absurd (settle_bare verb word o rows fine)) both.1).0
      go false e =
          let more = fits_more verb v rest e fits in
          let both = then_rest verb (at false rows (Some (o.id, [])) (option o.id)) _ v rest refl none in
          settle_bare verb word o rows (long_settles v rows (Some (o.id, [])) (option o.id) (long_word v dash more.0 e) e both.0)

  bare_reads : (word : Text) (o : IsOption (leaf verb).rules word) (rest : List Text) (rows : List Row) (p : Pending) (w : Waiting) (parts : List Part) → is_option verb word ≡ true → length rest ≤ n
      → Ready verb parts rows p → FitsDashes verb rest → total verb (at false rows p w) (word ∷ rest) ≡ [] → Reads verb (word ∷ rest) rows p w parts
  bare_reads word o rest rows p w parts is short ready fits none =
      let now = settled_rows (leaf verb).rules p rows in
      let both = then_rest verb (at false rows p w) _ word rest (walked_bare verb word o rows p w) none in
      let settles = (neither (settle_fault (leaf verb).rules false (held rows p)) [] (sym (turn_bare verb word o rows p w) ∙ both.0)).0 in
      go rest short fits settles both.1
    where
      go : (rest : List Text) → length rest ≤ n → FitsDashes verb rest → settle_fault (leaf verb).rules false (held rows p) ≡ []
          → total verb (at false (settled_rows (leaf verb).rules p rows) (Some (o.id, [])) (option o.id)) rest ≡ [] → Reads verb (word ∷ rest) rows p w parts
      go [] short fits settles none = absurd (settle_bare verb word o (settled_rows (leaf verb).rules p rows) (sym (at_end verb (at false (settled_rows (leaf verb).rules p rows) (Some (o.id, [])) (option o.id))) ∙ none))
      go (v ∷ rest) short fits settles none = dash (has_dash v) refl
        where
          dash : (b : Bool) → has_dash v ≡ b → Reads verb (word ∷ v ∷ rest) rows p w parts
          dash true e = absurd (no_value word v o rest (settled_rows (leaf verb).rules p rows) fits e none)
          dash false e = value_reads word v o rest rows p w parts is (omega arith) ready (fits_more verb v rest (plain_word v e).2 fits).1 e settles none

  -- one word or two, and then the others
  word_reads : (word : Text) (rest : List Text) (rows : List Row) (p : Pending) (w : Waiting) (parts : List Part) → length rest ≤ n → IsFree w → Ready verb parts rows p → FitsDashes verb (word ∷ rest)
      → total verb (at false rows p w) (word ∷ rest) ≡ [] → Reads verb (word ∷ rest) rows p w parts
  word_reads word rest rows p w parts short free ready fits none = go (is_dashes word) refl (has_dash word) refl
    where
      file : (b : Bool) → takes_files verb ≡ b → is_dashes word ≡ false → has_dash word ≡ false → Reads verb (word ∷ rest) rows p w parts
      file true takes other plain = file_reads word rest rows p w parts short free ready (fits_more verb word rest other fits).1 takes plain none
      file false takes other plain = absurd (stray_file verb word rows p w takes free plain (then_rest verb (at false rows p w) _ word rest refl none).0)

      long : (name : Text) (value : Option Text) → is_option verb (45 ∷ 45 ∷ name) ≡ true → word ≡ spelling name value → is_dashes word ≡ false → Reads verb (word ∷ rest) rows p w parts
      long name None is same other = subst (λ (x : Text). Reads verb (x ∷ rest) rows p w parts) (sym same)
          (bare_reads (45 ∷ 45 ∷ name) (option_facts verb (45 ∷ 45 ∷ name) is) rest rows p w parts is short ready (fits_more verb word rest other fits).1
          (subst (λ (x : Text). total verb (at false rows p w) (x ∷ rest) ≡ []) same none))
      long name (Some v) is same other = subst (λ (x : Text). Reads verb (x ∷ rest) rows p w parts) (sym same)
          (joined_reads (45 ∷ 45 ∷ name) v (option_facts verb (45 ∷ 45 ∷ name) is) rest rows p w parts is short ready (fits_more verb word rest other fits).1
          (subst (λ (x : Text). total verb (at false rows p w) (x ∷ rest) ≡ []) same none))

      go : (b : Bool) → is_dashes word ≡ b → (d : Bool) → has_dash word ≡ d → Reads verb (word ∷ rest) rows p w parts
      go false other false plain = file (takes_files verb) refl other plain
      go false other true dash =
          let its = long_word word dash (fits_more verb word rest other fits).0 other in
          let turn = (then_rest verb (at false rows p w) _ word rest refl none).0 in
          long its.name its.value (long_named verb word its.name its.value rows p w other its.long turn) its.spelled other
      go true e d has =
          let same : word ≡ dashes = (bytes_eq-Decides word dashes).0 e in
          subst (λ (x : Text). Reads verb (x ∷ rest) rows p w parts) (sym same)
          (behind (subst (λ (x : Text). FitsDashes verb (x ∷ rest)) same fits) (subst (λ (x : Text). total verb (at false rows p w) (x ∷ rest) ≡ []) same none))
        where
          behind : FitsDashes verb (dashes ∷ rest) → total verb (at false rows p w) (dashes ∷ rest) ≡ [] → Reads verb (dashes ∷ rest) rows p w parts
          behind fits none =
              let step = walked_dashes verb rows p w in
              let both = then_rest verb (at false rows p w) _ dashes rest step none in
              let reads = behind_reads verb rest rows p w parts (takes_of verb rest fits) ready both.1 in
              record { settles = reads.0; more = []; given = refl; holds = subst (λ (s : Walk). Holds verb (parts ++ ([] ++ map as_file rest)) (final verb s rest)) (sym step) reads.1 }

sound : (verb : Verb) (n : ℕ) → Sound verb n
sound verb n [] rows p w parts short free ready fits none =
    let settles = sym (at_end verb (at false rows p w)) ∙ none in
    record { settles = settles; more = []; given = refl; holds = subst (λ (ps : List Part). Holds verb ps (settled_rows (leaf verb).rules p rows)) (sym (append-nil parts)) (ready settles) }
sound verb zero (word ∷ rest) rows p w parts short free ready fits none = absurd (omega arith)
sound verb (suc n) (word ∷ rest) rows p w parts short free ready fits none = word_reads verb n (sound verb n) word rest rows p w parts (omega arith) free ready fits none

-- the words behind a verb, where clap finds no fault in them
pub words_read : (verb : Verb) (words : List Text) → FitsDashes verb words → total verb (at false [] None idle) words ≡ [] → Reads verb words [] None idle []
words_read verb words fits none = sound verb (length words) words [] None idle [] (omega arith) tt (λ fine. record { options = λ id is. refl; once = λ id is. omega arith; files = refl }) fits none
