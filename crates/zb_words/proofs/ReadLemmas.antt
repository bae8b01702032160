-- Words in which clap finds no fault are parts, and its rows hold what they give.
use Rattle.std.proofs.Common.{◌≡◌, ◌<◌, ◌≤◌, ◌∙◌, ◌&&◌, ◌||◌, ◌==◌, ◌+◌, ℕ, Bool, cond, true, false, not, suc, List, [], ◌∷◌, ◌++◌, Option, Some, None, codes, refl, ap, ap₂, sym, subst, is_some, true≢false, length, map, arith, append_assoc, append-nil, take, drop, eqb}
use Rattle.std.specs.Prelude.{nat_lt}
use Rattle.std.specs.List.{after_first, before_first, filter_map, list_any, position_or_len, slice_index, starts_with}
use Rattle.std.specs.Str.{bytes_eq}
use Rattle.std.proofs.lemmas.Bool.{eq-eqb, eqb-true, lt-ltb}
use Rattle.std.proofs.lemmas.List.Elements.{filter_map-append}
use Rattle.std.proofs.lemmas.Slice.Eq.{bytes_eq-Decides}
use Rattle.clap.specs.Lexer.{long_of}
use Rattle.clap.specs.Walk.{Row, Text, Waiting, Walk, has_row, positional, settled_rows, used, walked, with_values}
use Rattle.clap.specs.Kinds.{or_else}
use Rattle.clap.specs.Faults.{settle_fault, turn_fault, use_fault, walk_fault}
use Rattle.clap.specs.declared.builder.value_parser.Reading.TheVariants.{AsWritten}
use Rattle.clap.specs.declared.parser.matches.ValueSource.TheVariants.{CommandLine}
use Rattle.clap.specs.declared.error.kind.ErrorKind.TheVariants.{ArgumentConflict, InvalidValue}
use Rattle.zb_words.specs.declared.verb.Verb.{Verb}
use Rattle.zb_words.specs.Part.{GiveAll, Gives, Part, before_dashes, behind_dashes, file_in, has_dash, is_dashes, is_option, takes_files, text_for}
use Rattle.zb_words.specs.App.{is_lone, leaf}
use Rattle.zb_words.proofs.RowLemmas.{has_row-in, row_for, row_in, row_kept, row_more, rows_without}
use Rattle.zb_words.proofs.LeafLemmas.{IsOption, built_file, built_option, dashes, file_named, option_facts}
use Rattle.zb_words.proofs.StepLemmas.{Pending, at, final, held, neither, next_word, no_fault, total, turn_behind, walked_behind}

-- ---- what rows hold

-- the rows hold what these parts give, which give each option once at most
pub record Holds (verb : Verb) (parts : List Part) (rows : List Row) : Type 0 where
  pub options : (id : Text) → is_option verb (45 ∷ 45 ∷ id) ≡ true → row_in id rows ≡ row_for id (filter_map (text_for (45 ∷ 45 ∷ id)) parts)
  pub once : (id : Text) → is_option verb (45 ∷ 45 ∷ id) ≡ true → length (filter_map (text_for (45 ∷ 45 ∷ id)) parts) ≤ 1
  pub files : row_in (codes "FILE") rows ≡ row_for (codes "FILE") (filter_map file_in parts)

abbrev pub as_file : Text → Part
as_file text = (None, text)

-- the name of an option is its own
own_id : (verb : Verb) (id : Text) (o : IsOption (leaf verb).rules (45 ∷ 45 ∷ id)) → o.id ≡ id
own_id verb id o =
    let joined : 45 ∷ 45 ∷ id ≡ 45 ∷ 45 ∷ o.id = o.word in
    let same : id ≡ o.id = cc in
    sym same

file_differs : (verb : Verb) (id : Text) → is_option verb (45 ∷ 45 ∷ id) ≡ true → bytes_eq (codes "FILE") id ≡ false
file_differs verb id is =
    let o = option_facts verb (45 ∷ 45 ∷ id) is in
    subst (λ (x : Text). bytes_eq (codes "FILE") x ≡ false) (own_id verb id o) o.no_file

no_text : (id v : Text) (parts : List Part) → filter_map (text_for (45 ∷ 45 ∷ id)) parts ≡ filter_map (text_for (45 ∷ 45 ∷ id)) (parts ++ as_file v ∷ [])
no_text id v parts = sym (filter_map-append (text_for (45 ∷ 45 ∷ id)) parts (as_file v ∷ []) ∙ append-nil (filter_map (text_for (45 ∷ 45 ∷ id)) parts))

pub holds_file : (verb : Verb) (parts : List Part) (rows : List Row) (v : Text) → Holds verb parts rows → Holds verb (parts ++ as_file v ∷ []) (used built_file (v ∷ []) rows)
holds_file verb parts rows v h = record {
  options = λ id is. row_kept (codes "FILE") id v rows (file_differs verb id is) ∙ h.options id is ∙ ap (row_for id) (no_text id v parts);
  once = λ id is. subst (λ (ts : List Text). length ts ≤ 1) (no_text id v parts) (h.once id is);
  files = row_more (codes "FILE") v (filter_map file_in parts) rows h.files ∙ ap (row_for (codes "FILE")) (sym (filter_map-append file_in parts (as_file v ∷ [])));
}

nothing_in : (id : Text) (rows : List Row) → has_row id rows ≡ false → row_in id rows ≡ None
nothing_in id rows e = go (row_in id rows) (sym (has_row-in id rows) ∙ e)
  where
    go : (o : Option Row) → is_some o ≡ false → o ≡ None
    go None e = refl
    go (Some r) e = absurd (true≢false e)

-- a text that an option is given goes to its row alone
given_to : (verb : Verb) (word id v : Text) (o : IsOption (leaf verb).rules word) (parts : List Part) (rows : List Row) → row_in id rows ≡ row_for id (filter_map (text_for (45 ∷ 45 ∷ id)) parts)
    → row_in id (with_values o.id AsWritten CommandLine (v ∷ []) rows) ≡ row_for id (filter_map (text_for (45 ∷ 45 ∷ id)) (parts ++ (Some word, v) ∷ []))
given_to verb word id v o parts rows h = rw (filter_map-append (text_for (45 ∷ 45 ∷ id)) parts ((Some word, v) ∷ []), o.word) (go (bytes_eq o.id id) refl)
  where
    texts : List Text
    texts = filter_map (text_for (45 ∷ 45 ∷ id)) parts

    go : (b : Bool) → bytes_eq o.id id ≡ b
        → row_in id (with_values o.id AsWritten CommandLine (v ∷ []) rows) ≡ row_for id (texts ++ filter_map (text_for (45 ∷ 45 ∷ id)) ((Some (45 ∷ 45 ∷ o.id), v) ∷ []))
    go true e = rw (e, (bytes_eq-Decides o.id id).0 e) (row_more id v texts rows h)
    go false e = rw (e, append-nil texts) (row_kept o.id id v rows e ∙ h)

none_for : (id : Text) (texts : List Text) → row_for id texts ≡ None → texts ≡ []
none_for id [] e = refl
none_for id (t ∷ texts) e = absurd (true≢false (ap is_some e))

-- so it is given once
once_given : (verb : Verb) (word id v : Text) (o : IsOption (leaf verb).rules word) (parts : List Part) → (bytes_eq o.id id ≡ true → filter_map (text_for (45 ∷ 45 ∷ id)) parts ≡ []) → length (filter_map (text_for (45 ∷ 45 ∷ id)) parts) ≤ 1
    → length (filter_map (text_for (45 ∷ 45 ∷ id)) (parts ++ (Some word, v) ∷ [])) ≤ 1
once_given verb word id v o parts none once = rw (filter_map-append (text_for (45 ∷ 45 ∷ id)) parts ((Some word, v) ∷ []), o.word) (go (bytes_eq o.id id) refl)
  where
    go : (b : Bool) → bytes_eq o.id id ≡ b → length (filter_map (text_for (45 ∷ 45 ∷ id)) parts ++ filter_map (text_for (45 ∷ 45 ∷ id)) ((Some (45 ∷ 45 ∷ o.id), v) ∷ [])) ≤ 1
    go true e = rw (none e, e) (omega arith)
    go false e = rw (e, append-nil (filter_map (text_for (45 ∷ 45 ∷ id)) parts)) once

pub holds_option : (verb : Verb) (word : Text) (o : IsOption (leaf verb).rules word) (parts : List Part) (rows : List Row) (v : Text) → has_row o.id rows ≡ false → Holds verb parts rows
    → Holds verb (parts ++ (Some word, v) ∷ []) (used (built_option o.id o.required) (v ∷ []) rows)
holds_option verb word o parts rows v none h = rw (rows_without o.id rows (nothing_in o.id rows none)) (record {
  options = λ id is. given_to verb word id v o parts rows (h.options id is);
  once = λ id is. once_given verb word id v o parts
      (λ e. none_for id (filter_map (text_for (45 ∷ 45 ∷ id)) parts) (sym (h.options id is) ∙ ap (λ (x : Text). row_in x rows) (sym ((bytes_eq-Decides o.id id).0 e)) ∙ nothing_in o.id rows none)) (h.once id is);
  files = row_kept o.id (codes "FILE") v rows o.other_file ∙ h.files
      ∙ ap (row_for (codes "FILE")) (sym (filter_map-append file_in parts ((Some word, v) ∷ []) ∙ append-nil (filter_map file_in parts)));
})

-- ---- what is pending

module _ (verb : Verb) where
  pub settle_option : (word v : Text) (o : IsOption (leaf verb).rules word) (rows : List Row) → settle_fault (leaf verb).rules false (held rows (Some (o.id, v ∷ []))) ≡ use_fault false (built_option o.id o.required) (v ∷ []) rows
  settle_option word v o rows = rw o.by_id refl

  pub settled_option : (word v : Text) (o : IsOption (leaf verb).rules word) (rows : List Row) → settled_rows (leaf verb).rules (Some (o.id, v ∷ [])) rows ≡ used (built_option o.id o.required) (v ∷ []) rows
  settled_option word v o rows = rw o.by_id refl

  pub settle_bare : (word : Text) (o : IsOption (leaf verb).rules word) (rows : List Row) → settle_fault (leaf verb).rules false (held rows (Some (o.id, []))) ≡ [] → ⊥
  settle_bare word o rows e = no_fault InvalidValue [] (rw o.by_id at e)

  pub settle_file : (v : Text) (rows : List Row) → takes_files verb ≡ true → settle_fault (leaf verb).rules false (held rows (Some (codes "FILE", v ∷ []))) ≡ []
  settle_file v rows takes = rw (file_named verb takes) refl

  pub settled_file : (v : Text) (rows : List Row) → takes_files verb ≡ true → settled_rows (leaf verb).rules (Some (codes "FILE", v ∷ [])) rows ≡ used built_file (v ∷ []) rows
  settled_file v rows takes = rw (file_named verb takes) refl

-- an option is used where it is new, and its value isn't empty
pub use_free : (id v : Text) (required : Bool) (rows : List Row) → use_fault false (built_option id required) (v ∷ []) rows ≡ [] → (has_row id rows ≡ false) × (0 < length v)
use_free id v required rows e = (once (has_row id rows) both.0, some v both.1)
  where
    both : (cond (has_row id rows && true) (ArgumentConflict ∷ []) [] ≡ []) × (or_else (cond (nat_lt 0 (length v)) [] (InvalidValue ∷ [])) [] ≡ [])
    both = neither (cond (has_row id rows && true) (ArgumentConflict ∷ []) []) (or_else (cond (nat_lt 0 (length v)) [] (InvalidValue ∷ [])) []) e

    once : (b : Bool) → cond (b && true) (ArgumentConflict ∷ []) [] ≡ [] → b ≡ false
    once true e = absurd (no_fault ArgumentConflict [] e)
    once false e = refl

    some : (v : Text) → or_else (cond (nat_lt 0 (length v)) [] (InvalidValue ∷ [])) [] ≡ [] → 0 < length v
    some [] e = absurd (no_fault InvalidValue [] e)
    some (b ∷ v) e = omega arith

pub free_use : (id v : Text) (required : Bool) (rows : List Row) → has_row id rows ≡ false → 0 < length v → use_fault false (built_option id required) (v ∷ []) rows ≡ []
free_use id v required rows new some = rw (new, lt-ltb 0 (length v) some) refl

-- ---- words

pub neither_or : (a b : Bool) → (a || b) ≡ false → (a ≡ false) × (b ≡ false)
neither_or true b e = absurd (true≢false e)
neither_or false b e = (refl, e)

-- no word has a '-' where the grammar has none
pub record FitsDashes (verb : Verb) (words : List Text) : Type 0 where
  pub alone : list_any is_lone (before_dashes words) ≡ false
  pub none : takes_files verb ≡ false → list_any is_dashes words ≡ false

before_further : {X : Type 0} (p : X → Bool) (x : X) (xs : List X) → p x ≡ false → before_first p (x ∷ xs) ≡ x ∷ before_first p xs
before_further p x xs e =
    let next : 1 + position_or_len p xs ≡ suc (position_or_len p xs) = omega arith in
    rw e (ap (λ n. take n (x ∷ xs)) next)

after_further : {X : Type 0} (p : X → Bool) (x : X) (xs : List X) → p x ≡ false → after_first p (x ∷ xs) ≡ after_first p xs
after_further p x xs e =
    let next : 1 + position_or_len p xs + 1 ≡ suc (position_or_len p xs + 1) = omega arith in
    rw e (ap (λ n. drop n (x ∷ xs)) next)

pub before_more : (word : Text) (rest : List Text) → is_dashes word ≡ false → before_dashes (word ∷ rest) ≡ word ∷ before_dashes rest
before_more word rest e = before_further is_dashes word rest e

pub behind_more : (word : Text) (rest : List Text) → is_dashes word ≡ false → behind_dashes (word ∷ rest) ≡ behind_dashes rest
behind_more word rest e = after_further is_dashes word rest e

pub fits_more : (verb : Verb) (word : Text) (rest : List Text) → is_dashes word ≡ false → FitsDashes verb (word ∷ rest) → (is_lone word ≡ false) × FitsDashes verb rest
fits_more verb word rest e fits =
    let both = neither_or (is_lone word) (list_any is_lone (before_dashes rest)) (ap (list_any is_lone) (sym (before_more word rest e)) ∙ fits.alone) in
    (both.0, record { alone = both.1; none = λ takes. (neither_or (is_dashes word) (list_any is_dashes rest) (fits.none takes)).1 })

pub takes_of : (verb : Verb) (rest : List Text) → FitsDashes verb (dashes ∷ rest) → takes_files verb ≡ true
takes_of verb rest fits = go (takes_files verb) fits.none
  where
    go : (b : Bool) → (b ≡ false → list_any is_dashes (dashes ∷ rest) ≡ false) → b ≡ true
    go true none = refl
    go false none = absurd (true≢false (none refl))

-- a word is cut at its first '='
cut_at_equals : (text : Text) → list_any (λ x. x == 61) text ≡ true → text ≡ before_first (λ x. x == 61) text ++ 61 ∷ after_first (λ x. x == 61) text
cut_at_equals [] e = absurd (true≢false (sym e))
cut_at_equals (x ∷ text) e = go (x == 61) refl e (cut_at_equals text)
  where
    go : (b : Bool) → (x == 61) ≡ b → (b || list_any (λ y. y == 61) text) ≡ true
        → (list_any (λ y. y == 61) text ≡ true → text ≡ before_first (λ y. y == 61) text ++ 61 ∷ after_first (λ y. y == 61) text)
        → x ∷ text ≡ before_first (λ y. y == 61) (x ∷ text) ++ 61 ∷ after_first (λ y. y == 61) (x ∷ text)
    go true t e others = rw t (ap (λ (y : ℕ). y ∷ text) (eqb-true x 61 t))
    go false t e others = ap (λ (rest : Text). x ∷ rest) (others e)
        ∙ ap₂ (λ (before behind : Text). before ++ 61 ∷ behind) (sym (before_further (λ y. y == 61) x text t)) (sym (after_further (λ y. y == 61) x text t))

pub uncut : {X : Type 0} (p : X → Bool) (xs : List X) → list_any p xs ≡ false → before_first p xs ≡ xs
uncut p [] e = refl
uncut p (x ∷ xs) e =
    let both = neither_or (p x) (list_any p xs) e in
    before_further p x xs both.0 ∙ ap (λ rest. x ∷ rest) (uncut p xs both.1)

abbrev pub spelling : Text → Option Text → Text
spelling name None = 45 ∷ 45 ∷ name
spelling name (Some v) = (45 ∷ 45 ∷ name) ++ (codes "=" ++ v)

pub record IsLong (word : Text) : Type 0 where
  pub name : Text
  pub value : Option Text
  pub long : long_of word ≡ Some (name, value)
  pub spelled : word ≡ spelling name value

long_text : (x : ℕ) (text : Text) → IsLong (45 ∷ 45 ∷ x ∷ text)
long_text x text = go (list_any (λ y. y == 61) (x ∷ text)) refl
  where
    go : (b : Bool) → list_any (λ y. y == 61) (x ∷ text) ≡ b → IsLong (45 ∷ 45 ∷ x ∷ text)
    go true e = record {
      name = before_first (λ y. y == 61) (x ∷ text);
      value = Some (after_first (λ y. y == 61) (x ∷ text));
      long = rw e refl;
      spelled = ap (λ (t : Text). 45 ∷ 45 ∷ t) (cut_at_equals (x ∷ text) e);
    }
    go false e = record {
      name = before_first (λ y. y == 61) (x ∷ text);
      value = None;
      long = rw e refl;
      spelled = ap (λ (t : Text). 45 ∷ 45 ∷ t) (sym (uncut (λ y. y == 61) (x ∷ text) e));
    }

pub long_word : (word : Text) → has_dash word ≡ true → is_lone word ≡ false → is_dashes word ≡ false → IsLong word
long_word [] dash alone other = absurd (true≢false (sym dash))
long_word (b ∷ []) dash alone other = absurd (true≢false (rw dash at alone))
long_word (b ∷ d ∷ text) dash alone other = go (d == 45) refl (rw dash at alone)
  where
    tail : (text : Text) → is_dashes (45 ∷ 45 ∷ text) ≡ false → IsLong (45 ∷ 45 ∷ text)
    tail [] other = absurd (true≢false other)
    tail (x ∷ text) other = long_text x text

    go : (t : Bool) → (d == 45) ≡ t → not t ≡ false → IsLong (b ∷ d ∷ text)
    go false e lone = absurd (true≢false lone)
    go true e lone =
        let same : 45 ∷ 45 ∷ text ≡ b ∷ d ∷ text = ap₂ (λ (x y : ℕ). x ∷ y ∷ text) (sym (eqb-true b 45 dash)) (sym (eqb-true d 45 e)) in
        subst IsLong same (tail text (subst (λ (w : Text). is_dashes w ≡ false) (sym same) other))

-- ---- words that pass

-- so far the rows hold what these parts give, where nothing is wrong with what is pending
abbrev pub Ready : Verb → List Part → List Row → Pending → Type 0
Ready verb parts rows p = settle_fault (leaf verb).rules false (held rows p) ≡ [] → Holds verb parts (settled_rows (leaf verb).rules p rows)

-- the words in front of "--" are parts, and the rows at the end hold what they and the words behind it give besides
pub record Reads (verb : Verb) (words : List Text) (rows : List Row) (p : Pending) (w : Waiting) (parts : List Part) : Type 0 where
  pub settles : settle_fault (leaf verb).rules false (held rows p) ≡ []
  pub more : List Part
  pub given : GiveAll verb (before_dashes words) more
  pub holds : Holds verb (parts ++ (more ++ map as_file (behind_dashes words))) (final verb (at false rows p w) words)

pub at_end : (verb : Verb) (w : Walk) → total verb w [] ≡ settle_fault (leaf verb).rules false w.held
unfolding walk_fault
at_end verb w = refl

pub then_rest : (verb : Verb) (w next : Walk) (word : Text) (rest : List Text) → walked (leaf verb).rules [] w word ≡ next → total verb w (word ∷ rest) ≡ [] → (turn_fault (leaf verb) [] w word ≡ []) × (total verb next rest ≡ [])
then_rest verb w next word rest e none =
    let both = neither (turn_fault (leaf verb) [] w word) (total verb (walked (leaf verb).rules [] w word) rest) (sym (next_word verb w word rest) ∙ none) in
    (both.0, subst (λ (s : Walk). total verb s rest ≡ []) e both.1)

-- the words behind "--"
pub behind_reads : (verb : Verb) (words : List Text) (rows : List Row) (p : Pending) (w : Waiting) (parts : List Part) → takes_files verb ≡ true → Ready verb parts rows p → total verb (at true rows p w) words ≡ []
    → (settle_fault (leaf verb).rules false (held rows p) ≡ []) × Holds verb (parts ++ map as_file words) (final verb (at true rows p w) words)
behind_reads verb [] rows p w parts takes ready none =
    let settles = sym (at_end verb (at true rows p w)) ∙ none in
    (settles, subst (λ (ps : List Part). Holds verb ps (settled_rows (leaf verb).rules p rows)) (sym (append-nil parts)) (ready settles))
behind_reads verb (v ∷ words) rows p w parts takes ready none =
    let step = walked_behind verb v rows p w takes in
    let both = then_rest verb (at true rows p w) _ v words step none in
    let settles = sym (turn_behind verb v rows p w takes) ∙ both.0 in
    let next = behind_reads verb words (settled_rows (leaf verb).rules p rows) (Some (codes "FILE", v ∷ [])) positional (parts ++ as_file v ∷ []) takes
    (λ fine. subst (λ (rs : List Row). Holds verb (parts ++ as_file v ∷ []) rs) (sym (settled_file verb v _ takes)) (holds_file verb parts (settled_rows (leaf verb).rules p rows) v (ready settles))) both.1 in (
      settles,
      subst (λ (s : Walk). Holds verb (parts ++ map as_file (v ∷ words)) (final verb s words)) (sym step)
          (subst (λ (ps : List Part). Holds verb ps (final verb (at true (settled_rows (leaf verb).rules p rows) (Some (codes "FILE", v ∷ [])) positional) words)) (append_assoc parts (as_file v ∷ []) (map as_file words)) next.1),
    )

-- one part more in front
pub extend : (verb : Verb) (words rest : List Text) (rows rows' : List Row) (p p' : Pending) (w w' : Waiting) (parts : List Part) (x : Part) → settle_fault (leaf verb).rules false (held rows p) ≡ []
    → Gives verb (before_dashes words) x (before_dashes rest) → behind_dashes words ≡ behind_dashes rest → final verb (at false rows p w) words ≡ final verb (at false rows' p' w') rest
    → Reads verb rest rows' p' w' (parts ++ x ∷ []) → Reads verb words rows p w parts
extend verb words rest rows rows' p p' w w' parts x settles gives behind same next = record {
  settles = settles;
  more = x ∷ next.more;
  given = (before_dashes rest, gives, next.given);
  holds = subst (λ (rs : List Row). Holds verb (parts ++ ((x ∷ next.more) ++ map as_file (behind_dashes words))) rs) (sym same)
      (subst (λ (ws : List Text). Holds verb (parts ++ ((x ∷ next.more) ++ map as_file ws)) (final verb (at false rows' p' w') rest)) (sym behind)
      (subst (λ (ps : List Part). Holds verb ps (final verb (at false rows' p' w') rest)) (append_assoc parts (x ∷ []) (next.more ++ map as_file (behind_dashes rest))) next.holds));
}

-- ---- a word that begins with one '-'

same_dash : (d : ℕ) → eqb 45 d ≡ (d == 45)
same_dash d = go (eqb 45 d) refl (d == 45) refl
  where
    go : (a : Bool) → eqb 45 d ≡ a → (b : Bool) → (d == 45) ≡ b → a ≡ b
    go true e true e' = refl
    go false e false e' = refl
    go true e false e' = sym (eq-eqb d 45 (sym (eqb-true 45 d e))) ∙ e'
    go false e true e' = sym e ∙ eq-eqb 45 d (sym (eqb-true d 45 e'))

second_dash : (text : Text) → starts_with eqb (45 ∷ text) dashes ≡ (slice_index (45 ∷ text) 1 == 45)
second_dash [] = refl
second_dash (d ∷ text) = rw (same_dash d) (go (d == 45))
  where
    go : (b : Bool) → (b && true) ≡ b
    go true = refl
    go false = refl

pub two_dashes : (word : Text) → has_dash word ≡ true → starts_with eqb word dashes ≡ (slice_index word 1 == 45)
two_dashes [] e = absurd (true≢false (sym e))
two_dashes (b ∷ text) e = subst (λ (x : ℕ). starts_with eqb (x ∷ text) dashes ≡ (slice_index (x ∷ text) 1 == 45)) (sym (eqb-true b 45 e)) (second_dash text)
