-- The rules that clap reads the words behind a verb by, as it builds them.
use Rattle.std.proofs.Common.{◌≡◌, ◌∙◌, ◌&&◌, ◌||◌, Bool, cond, true, false, not, List, [], ◌∷◌, ◌++◌, Some, None, codes, refl, ap, sym, subst, is_some, true≢false}
use Rattle.std.specs.Bool.{⊤}
use Rattle.std.specs.List.{find, fold, list_any}
use Rattle.std.specs.Str.{bytes_eq}
use Rattle.std.proofs.lemmas.Slice.Eq.{bytes_eq-Decides}
use Rattle.clap.specs.Lexer.{long_of}
use Rattle.clap.specs.Walk.{Row, Rule, Text, arg_by_id, arg_by_index, arg_by_long, has_long, has_row, with_default}
use Rattle.clap.specs.Simple.{filled, help_rule}
use Rattle.clap.specs.Kinds.{or_else}
use Rattle.clap.specs.Takes.{is_given}
use Rattle.clap.specs.Faults.{check_fault, default_fault, defaults_fault, given_default_fault}
use Rattle.clap.specs.declared.builder.action.ArgAction.TheVariants.{Set}
use Rattle.clap.specs.declared.builder.value_parser.ValueParser.TheVariants.{String}
use Rattle.zb_words.specs.declared.verb.Verb.{Verb}
use Rattle.zb_words.specs.declared.verb.Verb.TheVariants as verbs
use Rattle.zb_words.specs.Part.{is_option, options_of, takes_files}
use Rattle.zb_words.specs.App.{file_rule, given_rule, leaf}

abbrev pub dashes : Text
dashes = 45 ∷ 45 ∷ []

-- an option, as it is built
abbrev pub built_option : Text → Bool → Rule
built_option id required = record (given_rule id) { action = Some Set; range = Some (record { start_inclusive = 1; end_inclusive = 1 }); required = required }

abbrev pub built_file : Rule
built_file = record file_rule { range = Some (record { start_inclusive = 1; end_inclusive = 1 }); parser = Some String; index = Some 1 }

abbrev pub built_help : Rule
built_help = filled help_rule

abbrev pub Each : {X : Type 0} → (X → Type 0) → List X → Type 0
Each P [] = ⊤
Each P (x ∷ xs) = P x × Each P xs

-- what clap makes of an option
pub record IsOption (c : List Rule) (option : Text) : Type 0 where
  pub id : Text
  pub required : Bool
  pub word : option ≡ 45 ∷ 45 ∷ id
  pub bare : long_of option ≡ Some (id, None)
  pub joined : (v : Text) → long_of (option ++ (codes "=" ++ v)) ≡ Some (id, Some v)
  pub no_dashes : bytes_eq option dashes ≡ false
  pub no_joined_dashes : (v : Text) → bytes_eq (option ++ (codes "=" ++ v)) dashes ≡ false
  pub by_long : arg_by_long c id ≡ Some (built_option id required)
  pub by_id : arg_by_id c id ≡ Some (built_option id required)
  pub no_file : bytes_eq (codes "FILE") id ≡ false
  pub other_file : bytes_eq id (codes "FILE") ≡ false

pub each_of : (P : Text → Type 0) (names : List Text) (text : Text) → Each P names → list_any (bytes_eq text) names ≡ true → P text
each_of P [] text each is = absurd (true≢false (sym is))
each_of P (name ∷ names) text each is = go (bytes_eq text name) refl is (each_of P names text each.1)
  where
    go : (b : Bool) → bytes_eq text name ≡ b → (b || list_any (bytes_eq text) names) ≡ true → (list_any (bytes_eq text) names ≡ true → P text) → P text
    go true e is others = subst P (sym ((bytes_eq-Decides text name).0 e)) each.0
    go false e is others = others is

pub option_facts : (verb : Verb) (option : Text) → is_option verb option ≡ true → IsOption (leaf verb).rules option
unfolding leaf
option_facts verbs.Serve option is = each_of (IsOption (leaf verbs.Serve).rules) (options_of verbs.Serve) option (
  record { id = codes "partitions"; required = false; word = refl; bare = refl; joined = λ v. refl; no_dashes = refl; no_joined_dashes = λ v. refl; by_long = refl; by_id = refl; no_file = refl; other_file = refl },
  (
    record { id = codes "dir"; required = false; word = refl; bare = refl; joined = λ v. refl; no_dashes = refl; no_joined_dashes = λ v. refl; by_long = refl; by_id = refl; no_file = refl; other_file = refl },
    (
      record { id = codes "clock"; required = false; word = refl; bare = refl; joined = λ v. refl; no_dashes = refl; no_joined_dashes = λ v. refl; by_long = refl; by_id = refl; no_file = refl; other_file = refl },
      (
        record { id = codes "limit"; required = false; word = refl; bare = refl; joined = λ v. refl; no_dashes = refl; no_joined_dashes = λ v. refl; by_long = refl; by_id = refl; no_file = refl; other_file = refl },
        (
          record { id = codes "units"; required = false; word = refl; bare = refl; joined = λ v. refl; no_dashes = refl; no_joined_dashes = λ v. refl; by_long = refl; by_id = refl; no_file = refl; other_file = refl },
          tt,
        ),
      ),
    ),
  ),
) is
option_facts verbs.Log option is = each_of (IsOption (leaf verbs.Log).rules) (options_of verbs.Log) option (
  record { id = codes "partitions"; required = false; word = refl; bare = refl; joined = λ v. refl; no_dashes = refl; no_joined_dashes = λ v. refl; by_long = refl; by_id = refl; no_file = refl; other_file = refl },
  (
    record { id = codes "dir"; required = false; word = refl; bare = refl; joined = λ v. refl; no_dashes = refl; no_joined_dashes = λ v. refl; by_long = refl; by_id = refl; no_file = refl; other_file = refl },
    (
      record { id = codes "partition"; required = true; word = refl; bare = refl; joined = λ v. refl; no_dashes = refl; no_joined_dashes = λ v. refl; by_long = refl; by_id = refl; no_file = refl; other_file = refl },
      tt,
    ),
  ),
) is
option_facts verbs.Gen option is = each_of (IsOption (leaf verbs.Gen).rules) (options_of verbs.Gen) option (
  record { id = codes "number"; required = true; word = refl; bare = refl; joined = λ v. refl; no_dashes = refl; no_joined_dashes = λ v. refl; by_long = refl; by_id = refl; no_file = refl; other_file = refl },
  (
    record { id = codes "requests"; required = true; word = refl; bare = refl; joined = λ v. refl; no_dashes = refl; no_joined_dashes = λ v. refl; by_long = refl; by_id = refl; no_file = refl; other_file = refl },
    (
      record { id = codes "partitions"; required = false; word = refl; bare = refl; joined = λ v. refl; no_dashes = refl; no_joined_dashes = λ v. refl; by_long = refl; by_id = refl; no_file = refl; other_file = refl },
      tt,
    ),
  ),
) is

found_of_each : (p : Rule → Bool) (P : Rule → Type 0) (c : List Rule) → Each (λ a. p a ≡ true → P a) c → (a : Rule) → find p c ≡ Some a → P a
found_of_each p P [] each a e = absurd (true≢false (sym (ap is_some e)))
found_of_each p P (x ∷ xs) each a e = go (p x) refl e (found_of_each p P xs each.1 a)
  where
    go : (b : Bool) → p x ≡ b → cond b (Some x) (find p xs) ≡ Some a → (find p xs ≡ Some a → P a) → P a
    go true t e others =
        let same : x ≡ a = cc in
        subst P same (each.0 t)
    go false t e others = others e

named : (verb : Verb) (name id : Text) → is_option verb (45 ∷ 45 ∷ name) ≡ false → is_option verb (45 ∷ 45 ∷ id) ≡ true → (bytes_eq id name || false) ≡ true → ⊥
named verb name id none is e = go (bytes_eq id name) refl e
  where
    go : (b : Bool) → bytes_eq id name ≡ b → (b || false) ≡ true → ⊥
    go true t e = true≢false (sym is ∙ ap (λ (n : Text). is_option verb (45 ∷ 45 ∷ n)) ((bytes_eq-Decides id name).0 t) ∙ none)
    go false t e = true≢false (sym e)

abbrev has_name : Text → Rule → Bool
has_name name x = not (is_some x.index) && has_long x name

-- no other name is one but `help`
pub no_option : (verb : Verb) (name : Text) (a : Rule) → is_option verb (45 ∷ 45 ∷ name) ≡ false → arg_by_long (leaf verb).rules name ≡ Some a → a ≡ built_help
unfolding leaf
no_option verbs.Serve name a none e = found_of_each (has_name name) (λ x. x ≡ built_help) (leaf verbs.Serve).rules (
  λ t. absurd (named verbs.Serve name (codes "partitions") none refl t),
  (
    λ t. absurd (named verbs.Serve name (codes "dir") none refl t),
    (
      λ t. absurd (named verbs.Serve name (codes "clock") none refl t),
      (
        λ t. absurd (named verbs.Serve name (codes "limit") none refl t),
        (
          λ t. absurd (named verbs.Serve name (codes "units") none refl t),
          (
            λ t. absurd (true≢false (sym t)),
            (
              λ t. refl,
              tt,
            ),
          ),
        ),
      ),
    ),
  ),
) a e
no_option verbs.Log name a none e = found_of_each (has_name name) (λ x. x ≡ built_help) (leaf verbs.Log).rules (
  λ t. absurd (named verbs.Log name (codes "partitions") none refl t),
  (
    λ t. absurd (named verbs.Log name (codes "dir") none refl t),
    (
      λ t. absurd (named verbs.Log name (codes "partition") none refl t),
      (
        λ t. refl,
        tt,
      ),
    ),
  ),
) a e
no_option verbs.Gen name a none e = found_of_each (has_name name) (λ x. x ≡ built_help) (leaf verbs.Gen).rules (
  λ t. absurd (named verbs.Gen name (codes "number") none refl t),
  (
    λ t. absurd (named verbs.Gen name (codes "requests") none refl t),
    (
      λ t. absurd (named verbs.Gen name (codes "partitions") none refl t),
      (
        λ t. refl,
        tt,
      ),
    ),
  ),
) a e

-- FILEs
pub file_at : (verb : Verb) → takes_files verb ≡ true → arg_by_index (leaf verb).rules 1 ≡ Some built_file
unfolding leaf
file_at verbs.Serve takes = refl
file_at verbs.Log takes = absurd (true≢false (sym takes))
file_at verbs.Gen takes = absurd (true≢false (sym takes))

pub file_named : (verb : Verb) → takes_files verb ≡ true → arg_by_id (leaf verb).rules (codes "FILE") ≡ Some built_file
unfolding leaf
file_named verbs.Serve takes = refl
file_named verbs.Log takes = absurd (true≢false (sym takes))
file_named verbs.Gen takes = absurd (true≢false (sym takes))

pub no_file_at : (verb : Verb) → takes_files verb ≡ false → arg_by_index (leaf verb).rules 1 ≡ None
unfolding leaf
no_file_at verbs.Serve takes = absurd (true≢false takes)
no_file_at verbs.Log takes = refl
no_file_at verbs.Gen takes = refl

-- no rule has a default, so none adds to the rows, and none is a fault
abbrev NoDefaults : List Rule → Type 0
NoDefaults c = Each (λ a. a.defaults ≡ []) c

default_kept : (rows : List Row) (a : Rule) → a.defaults ≡ [] → (with_default rows a ≡ rows) × (default_fault rows a ≡ [])
default_kept rows a none = rw none (go (has_row a.id rows))
  where
    go : (b : Bool) → (cond b rows rows ≡ rows) × (cond (b || true) [] (given_default_fault a []) ≡ [])
    go true = (refl, refl)
    go false = (refl, refl)

rows_finished : (c : List Rule) (rows : List Row) → NoDefaults c → fold with_default rows c ≡ rows
rows_finished [] rows none = refl
rows_finished (a ∷ more) rows none = ap (λ rs. fold with_default rs more) (default_kept rows a none.0).0 ∙ rows_finished more rows none.1

no_default_fault : (c : List Rule) (rows : List Row) → NoDefaults c → defaults_fault rows c ≡ []
unfolding defaults_fault
no_default_fault [] rows none = refl
no_default_fault (a ∷ more) rows none =
    ap (λ k. or_else k (defaults_fault (with_default rows a) more)) (default_kept rows a none.0).1
    ∙ ap (λ rs. defaults_fault rs more) (default_kept rows a none.0).0 ∙ no_default_fault more rows none.1

no_defaults : (verb : Verb) → NoDefaults (leaf verb).rules
unfolding leaf
no_defaults verbs.Serve = (refl, (refl, (refl, (refl, (refl, (refl, (refl, tt)))))))
no_defaults verbs.Log = (refl, (refl, (refl, (refl, tt))))
no_defaults verbs.Gen = (refl, (refl, (refl, (refl, tt))))

pub finished_rows : (verb : Verb) (rows : List Row) → fold with_default rows (leaf verb).rules ≡ rows
finished_rows verb rows = rows_finished (leaf verb).rules rows (no_defaults verb)

pub default_faults : (verb : Verb) (rows : List Row) → defaults_fault rows (leaf verb).rules ≡ []
default_faults verb rows = no_default_fault (leaf verb).rules rows (no_defaults verb)

-- what has to be given is given
abbrev pub HasRequired : Verb → List Row → Type 0
HasRequired verbs.Serve rows = ⊤
HasRequired verbs.Log rows = is_given (codes "partition") rows ≡ true
HasRequired verbs.Gen rows = (is_given (codes "number") rows ≡ true) × (is_given (codes "requests") rows ≡ true)

pub check_faults : (verb : Verb) (rows : List Row) → HasRequired verb rows → check_fault (leaf verb) rows false ≡ []
unfolding leaf
check_faults verbs.Serve rows has = refl
check_faults verbs.Log rows has = rw has refl
check_faults verbs.Gen rows has = rw (has.0, has.1) refl
