-- What clap makes of the first word.
use Rattle.std.proofs.Common.{◌≡◌, ◌∙◌, Bool, cond, true, false, ℕ, List, [], ◌∷◌, ◌++◌, Option, Some, None, codes, refl, ap, ap₂, sym, subst, is_some, true≢false, length, append_assoc, append-nil}
use Rattle.std.specs.Prelude.{drop, encode_utf8, slice_get}
use Rattle.std.specs.List.{fold}
use Rattle.std.specs.Str.{bytes_eq, chars}
use Rattle.std.proofs.lemmas.Slice.Eq.{bytes_eq-Decides}
use Rattle.clap.specs.Lexer.{long_of, short_of}
use Rattle.clap.specs.Walk.{Held, Names, Outcome, Rule, Text, Walk, after_flag, arg_by_long, arg_by_short, bundle, bundle_met, bundle_step, plain, finished, idle, nothing_held, rows_after, settled, subcommand_met, walk_from, walked}
use Rattle.clap.specs.Simple.{Shape, built, entered, names_of, subcommand_of}
use Rattle.clap.specs.Kinds.{Kinds, or_else}
use Rattle.clap.specs.Faults.{bundle_fault, bundle_step_fault, check_fault, defaults_fault, entered_fault, fault_of, flags_fault, is_simple_and_free, level_fault, long_fault, settle_fault, short_fault, step_fault, turn_fault, walk_fault, word_fault}
use Rattle.clap.specs.declared.error.kind.ErrorKind.TheVariants.{DisplayHelp, InvalidSubcommand, MissingSubcommand, TooManyValues, UnknownArgument}
use Rattle.zb_words.specs.declared.verb.Verb.{Verb}
use Rattle.zb_words.specs.declared.verb.Verb.TheVariants as verbs
use Rattle.zb_words.specs.App.{leaf, word_of, zbd_app}
use Rattle.zb_words.proofs.LeafLemmas.{built_help, dashes}
use Rattle.zb_words.proofs.StepLemmas.{neither, no_fault}

pub simple : is_simple_and_free zbd_app ≡ true
simple = refl

-- ---- a verb

-- the walk once a subcommand is met
abbrev stopped : Walk → Text → List Text → Walk
stopped w name words = record w { stopped = Some (name, words) }

stops : (c : List Rule) (names : Names) (w : Walk) (name : Text) (so_far words : List Text) → fold (walked c names) (stopped w name so_far) words ≡ stopped w name (so_far ++ words)
unfolding walked
stops c names w name so_far [] = ap (stopped w name) (sym (append-nil so_far))
stops c names w name so_far (x ∷ words) = stops c names w name (so_far ++ x ∷ []) words ∙ ap (stopped w name) (append_assoc so_far (x ∷ []) words)

no_further_fault : (s : Shape) (names : Names) (w : Walk) (name : Text) (so_far words : List Text) → walk_fault s names (stopped w name so_far) words ≡ []
unfolding walk_fault walked
no_further_fault s names w name so_far [] = refl
no_further_fault s names w name so_far (x ∷ words) = no_further_fault s names w name (so_far ++ x ∷ []) words

abbrev top : Shape
top = (built zbd_app).top

abbrev names : Names
names = names_of (built zbd_app)

-- the faults where the walk over the words comes to this, and has these faults
abbrev faults_at : Kinds → Walk → Kinds
faults_at walking w = or_else walking (or_else (entered_fault (built zbd_app) w.stopped) (or_else (settle_fault top.rules top.args_override_self w.held)
    (or_else (defaults_fault (settled top.rules w.held).rows top.rules) (check_fault top (finished top.rules w.held) (is_some (entered (built zbd_app) w.stopped))))))

pub fault_at : (verb : Verb) (words : List Text) → fault_of zbd_app (word_of verb ∷ words) ≡ or_else (level_fault (leaf verb) [] nothing_held words false []) []
unfolding leaf walked walk_fault defaults_fault
fault_at verbs.Serve words = ap₂ faults_at (no_further_fault top names (walk_from nothing_held) (codes "serve") [] words) (stops top.rules names (walk_from nothing_held) (codes "serve") [] words)
fault_at verbs.Log words = ap₂ faults_at (no_further_fault top names (walk_from nothing_held) (codes "log") [] words) (stops top.rules names (walk_from nothing_held) (codes "log") [] words)
fault_at verbs.Gen words = ap₂ faults_at (no_further_fault top names (walk_from nothing_held) (codes "gen") [] words) (stops top.rules names (walk_from nothing_held) (codes "gen") [] words)

pub matches_at : (verb : Verb) (words : List Text) → subcommand_of zbd_app (word_of verb ∷ words) ≡ Some (word_of verb, rows_after (leaf verb).rules [] words)
unfolding leaf walked
matches_at verbs.Serve words = ap (λ (w : Walk). entered (built zbd_app) w.stopped) (stops top.rules names (walk_from nothing_held) (codes "serve") [] words)
matches_at verbs.Log words = ap (λ (w : Walk). entered (built zbd_app) w.stopped) (stops top.rules names (walk_from nothing_held) (codes "log") [] words)
matches_at verbs.Gen words = ap (λ (w : Walk). entered (built zbd_app) w.stopped) (stops top.rules names (walk_from nothing_held) (codes "gen") [] words)

-- ---- every other first word

-- in front of the first word
abbrev start : Walk
start = walk_from nothing_held

found_help : (b : Bool) (a : Rule) → cond b (Some built_help) None ≡ Some a → a ≡ built_help
found_help true a e = sym some
  where
    some : built_help ≡ a
    some = cc
found_help false a e = absurd (true≢false (sym (ap is_some e)))

-- a word with two '-' names no option but `help`
no_long : (word name : Text) (value : Option Text) → subcommand_met names idle word ≡ None → bytes_eq word dashes ≡ false → long_of word ≡ Some (name, value) → turn_fault top names start word ≡ [] → ⊥
no_long word name value met differ long e =
    let first : word_fault top names false idle word nothing_held ≡ [] = (neither _ _ e).0 in
    go (arg_by_long top.rules name) (found_help _) value (rw (met, differ, long) at first)
  where
    go : (found : Option Rule) → ((a : Rule) → found ≡ Some a → a ≡ built_help) → (value : Option Text) → long_fault top.rules false found value nothing_held ≡ [] → ⊥
    go None only value e = no_fault UnknownArgument [] e
    go (Some a) only (Some v) e = no_fault TooManyValues [] (subst (λ x. long_fault top.rules false (Some x) (Some v) nothing_held ≡ []) (only a refl) e)
    go (Some a) only None e = no_fault DisplayHelp [] (subst (λ x. long_fault top.rules false (Some x) None nothing_held ≡ []) (only a refl) e)

-- nor does a letter behind one '-'
no_letter : (c : ℕ) (rest : Text) (next : Held → Kinds) → short_fault top.rules false (arg_by_short top.rules c) rest nothing_held next ≡ [] → ⊥
no_letter c rest next e = go (arg_by_short top.rules c) (found_help _) e
  where
    go : (found : Option Rule) → ((a : Rule) → found ≡ Some a → a ≡ built_help) → short_fault top.rules false found rest nothing_held next ≡ [] → ⊥
    go None only e = no_fault UnknownArgument [] e
    go (Some a) only e = no_fault DisplayHelp [] (subst (λ x. short_fault top.rules false (Some x) rest nothing_held next ≡ []) (only a refl) e)

abbrev bundled_fault : Text → Held × Outcome → Kinds
bundled_fault word met = step_fault top 1 (after_flag top.rules idle word met.0 met.1).0 (after_flag top.rules idle word met.0 met.1).1

no_letters : (word flags : Text) (k : ℕ) (first : Option ℕ) → or_else (bundle_step_fault top.rules false first flags 0 nothing_held (flags_fault top.rules false k))
    (bundled_fault word (bundle_step top.rules first flags 0 plain nothing_held (bundle_met top.rules k))) ≡ [] → ⊥
no_letters word flags k None e = no_fault UnknownArgument (InvalidSubcommand ∷ []) e
no_letters word flags k (Some c) e = no_letter c (drop (length (encode_utf8 c)) flags) (flags_fault top.rules false k (drop (length (encode_utf8 c)) flags) 0) (neither _ _ e).0

no_bundle : (word flags : Text) → or_else (bundle_fault top.rules false flags nothing_held) (bundled_fault word (bundle top.rules flags nothing_held)) ≡ [] → ⊥
unfolding flags_fault bundle_met
no_bundle word [] e = no_fault UnknownArgument (InvalidSubcommand ∷ []) e
no_bundle word (x ∷ flags) e = no_letters word (x ∷ flags) (length flags) (slice_get (chars (x ∷ flags)) 0) e

no_other : (word : Text) → subcommand_met names idle word ≡ None → bytes_eq word dashes ≡ false → turn_fault top names start word ≡ [] → ⊥
no_other word met differ e = go (long_of word) refl (short_of word) refl
  where
    go : (long : Option (Text × Option Text)) → long_of word ≡ long → (short : Option Text) → short_of word ≡ short → ⊥
    go (Some p) long short is = no_long word p.0 p.1 met differ long e
    go None long (Some flags) is = no_bundle word flags (rw (met, differ, long, is) at e)
    go None long None is = no_fault UnknownArgument (InvalidSubcommand ∷ []) (rw (met, differ, long, is) at e)

-- the first word is a verb
pub record IsVerbFirst (words : List Text) : Type 0 where
  pub verb : Verb
  pub rest : List Text
  pub is : words ≡ word_of verb ∷ rest

-- behind "--" there is none
no_verb : (rest : List Text) → fault_of zbd_app (dashes ∷ rest) ≡ [] → ⊥
unfolding walk_fault walked defaults_fault
no_verb [] e = no_fault MissingSubcommand [] e
no_verb (x ∷ rest) e = no_fault UnknownArgument (InvalidSubcommand ∷ []) e

first_turn : (word : Text) (rest : List Text) → fault_of zbd_app (word ∷ rest) ≡ [] → turn_fault top names start word ≡ []
unfolding walk_fault
first_turn word rest e = (neither (turn_fault top names start word) (walk_fault top names (walked top.rules names start word) rest) (neither (walk_fault top names start (word ∷ rest)) _ e).0).0

pub verb_first : (words : List Text) → fault_of zbd_app words ≡ [] → IsVerbFirst words
unfolding walk_fault defaults_fault
verb_first [] e = absurd (no_fault MissingSubcommand [] e)
verb_first (word ∷ rest) e = serve (bytes_eq (codes "serve") word) refl
  where
    other : subcommand_met names idle word ≡ None → IsVerbFirst (word ∷ rest)
    other met = go (bytes_eq word dashes) refl
      where
        go : (b : Bool) → bytes_eq word dashes ≡ b → IsVerbFirst (word ∷ rest)
        go true is = absurd (no_verb rest (subst (λ (x : Text). fault_of zbd_app (x ∷ rest) ≡ []) ((bytes_eq-Decides word dashes).0 is) e))
        go false is = absurd (no_other word met is (first_turn word rest e))

    verb_here : (verb : Verb) → bytes_eq (word_of verb) word ≡ true → IsVerbFirst (word ∷ rest)
    verb_here verb is = record { verb = verb; rest = rest; is = ap (λ (x : Text). x ∷ rest) (sym ((bytes_eq-Decides (word_of verb) word).0 is)) }

    help : (b : Bool) → bytes_eq (codes "help") word ≡ b → bytes_eq (codes "gen") word ≡ false → bytes_eq (codes "log") word ≡ false → bytes_eq (codes "serve") word ≡ false → IsVerbFirst (word ∷ rest)
    help false is gen log serve = other (rw (serve, log, gen, is) refl)
    help true is gen log serve = absurd (no_fault DisplayHelp (InvalidSubcommand ∷ [])
        (first_turn (codes "help") rest (subst (λ (x : Text). fault_of zbd_app (x ∷ rest) ≡ []) (sym ((bytes_eq-Decides (codes "help") word).0 is)) e)))

    gen : (b : Bool) → bytes_eq (codes "gen") word ≡ b → bytes_eq (codes "log") word ≡ false → bytes_eq (codes "serve") word ≡ false → IsVerbFirst (word ∷ rest)
    gen true is log serve = verb_here verbs.Gen is
    gen false is log serve = help (bytes_eq (codes "help") word) refl is log serve

    log : (b : Bool) → bytes_eq (codes "log") word ≡ b → bytes_eq (codes "serve") word ≡ false → IsVerbFirst (word ∷ rest)
    log true is serve = verb_here verbs.Log is
    log false is serve = gen (bytes_eq (codes "gen") word) refl is serve

    serve : (b : Bool) → bytes_eq (codes "serve") word ≡ b → IsVerbFirst (word ∷ rest)
    serve true is = verb_here verbs.Serve is
    serve false is = log (bytes_eq (codes "log") word) refl is
