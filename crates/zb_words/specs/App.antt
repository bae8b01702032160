-- What clap is told of the command line, and what clap takes that the grammar doesn't.
use Rattle.std.specs.Prelude.{◌≡◌, ◌==◌, ◌&&◌, ◌||◌, not, Bool, true, false, Some, List, [], ◌∷◌, codes, slice_index, unwrap_or}
use Rattle.std.specs.List.{fold, list_any}
use Rattle.clap.specs.Walk.{Row, Rule, Text, all_of, nothing_held, rows_after}
use Rattle.clap.specs.Simple.{App, Shape, app_of, built_leaf, inherited, new_app, new_rule, new_shape, on_top, shape_of, with_rule, with_subcommand}
use Rattle.clap.specs.declared.builder.command.Command.{Command}
use Rattle.clap.specs.declared.builder.command.Command.TheViews.{out-Command}
use Rattle.clap.specs.Faults.{level_fault}
use Rattle.clap.specs.Words.{subcommand_rows_of}
use Rattle.clap.specs.declared.parser.matches.ArgMatches.{ArgMatches}
use Rattle.clap.specs.declared.builder.action.ArgAction.TheVariants.{Append}
use Rattle.clap.specs.declared.builder.value_parser.ValueParser.TheVariants.{NonEmptyString}
use Rattle.zb_words.specs.declared.app.GivenOption.{GivenOption}
use Rattle.zb_words.specs.declared.verb.Verb.{Verb}
use Rattle.zb_words.specs.declared.verb.Verb.TheVariants as verbs
use Rattle.zb_words.specs.declared.plan.Plan.{Plan}
use Rattle.zb_words.specs.declared.plan.Plan.TheVariants as plans
use Rattle.zb_words.specs.Part.{before_dashes, behind_dashes, has_dash, is_dashes, takes_files}
use Rattle.zb_words.specs.Plan.{IsGenPlan, IsLogPlan, IsServePlan}

-- an option with a value, which isn't empty (own)
abbrev pub given_rule : Text → Rule
given_rule name = record (new_rule name) { long = Some name; value_names = 1; parser = Some NonEmptyString }

-- one that has to be given (own)
abbrev pub required_rule : Text → Rule
required_rule name = record (given_rule name) { required = true }

-- an option, as the code tells of it (own)
abbrev pub given_rule_of : GivenOption → Rule
given_rule_of option = record (given_rule option.name.now) { required = option.required }

-- the FILEs (own)
abbrev pub file_rule : Rule
file_rule = record (new_rule (codes "FILE")) { action = Some Append }

-- the options and FILEs of a verb (own)
abbrev pub rules_for : Verb → List Rule
rules_for verbs.Serve = given_rule (codes "partitions") ∷ given_rule (codes "dir") ∷ given_rule (codes "clock") ∷ given_rule (codes "limit") ∷ given_rule (codes "units") ∷ file_rule ∷ []
rules_for verbs.Log = given_rule (codes "partitions") ∷ given_rule (codes "dir") ∷ required_rule (codes "partition") ∷ []
rules_for verbs.Gen = required_rule (codes "number") ∷ required_rule (codes "requests") ∷ given_rule (codes "partitions") ∷ []

-- the word of a verb (own)
abbrev pub word_of : Verb → Text
word_of verbs.Serve = codes "serve"
word_of verbs.Log = codes "log"
word_of verbs.Gen = codes "gen"

-- the subcommand of a verb (own)
abbrev pub shape_for : Verb → Shape
shape_for verb = record (new_shape (word_of verb)) { rules = rules_for verb }

-- the command reads the words behind the verb, and hands no argument down (own)
pub record IsCommandOf (verb : Verb) (command : Command) : Type 0 where
  pub shape : shape_of command ≡ shape_for verb
  pub local : (out-Command command).has_globals ≡ false

-- `new` is `old` with these rules behind its own, which hand nothing down (own)
pub record HasRules (old : Command) (rules : List Rule) (new : Command) : Type 0 where
  pub app : app_of new ≡ fold with_rule (app_of old) rules
  pub local : (out-Command new).has_globals ≡ (out-Command old).has_globals

-- the program and its three subcommands (own)
abbrev pub zbd_app : App
zbd_app = with_subcommand (with_subcommand (with_subcommand
    (on_top (λ s. record s { no_binary_name = true; subcommand_required = true }) (new_app (codes "zbd")))
    (shape_for verbs.Serve)) (shape_for verbs.Log)) (shape_for verbs.Gen)

-- the subcommand as clap builds it (own)
unfoldable pub leaf : Verb → Shape
leaf verb = built_leaf (inherited zbd_app.top (shape_for verb))

-- clap finds no fault in the words behind the verb, and these are their matches (own)
pub record IsMatched (verb : Verb) (words : List Text) (rows : List Row) : Type 0 where
  pub faultless : level_fault (leaf verb) [] nothing_held words false [] ≡ []
  pub rows_are : rows ≡ rows_after (leaf verb).rules [] words

-- the words begin with a verb, clap finds no fault in those behind it, and these are their matches (own)
pub record TakesVerb (words : List Text) (matches : ArgMatches) : Type 0 where
  pub verb : Verb
  pub rest : List Text
  pub is : words ≡ word_of verb ∷ rest
  pub faultless : level_fault (leaf verb) [] nothing_held rest false [] ≡ []
  pub rows : subcommand_rows_of matches ≡ Some (word_of verb, rows_after (leaf verb).rules [] rest)

-- the words behind the verb ask for this plan, which is one of its (own)
abbrev pub IsPlanOf : Verb → List Text → Plan → Type 0
IsPlanOf verbs.Serve words (plans.Serve plan) = IsServePlan (before_dashes words) (behind_dashes words) plan
IsPlanOf verbs.Log words (plans.Log plan) = IsLogPlan words plan
IsPlanOf verbs.Gen words (plans.Gen plan) = IsGenPlan words plan
IsPlanOf _ words _ = ⊥

-- the FILEs of the matches (own)
abbrev pub files_among : List Row → List Text
files_among rows = unwrap_or (all_of (codes "FILE") rows) []

-- the word begins with one '-', and not with two (own)
abbrev pub is_lone : Text → Bool
is_lone word = has_dash word && not (slice_index word 1 == 45)

-- no word in front of "--" begins with one '-', and "--" stands where FILEs may follow (own)
abbrev pub has_fit_dashes : Verb → List Text → Bool
has_fit_dashes verb words = not (list_any is_lone (before_dashes words)) && (takes_files verb || not (list_any is_dashes words))
