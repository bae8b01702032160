-- The grammar of the command line: a verb, then options, each at most once and in any order, and FILEs where the verb takes them.
use Rattle.std.specs.Prelude.{◌≡◌, ◌≤◌, ◌-◌, ◌^◌, ℕ, Some, None, List, ◌∷◌, length, codes}
use Rattle.std.specs.Str.Parse.{IsNumeral, digits_value}
use Rattle.zb_words.specs.declared.verb.Verb.TheVariants as verbs
use Rattle.zb_words.specs.declared.plan.ClockKind.{ClockKind}
use Rattle.zb_words.specs.declared.plan.ClockKind.TheVariants.{Real, Manual}
use Rattle.zb_words.specs.declared.plan.ServePlan.{ServePlan}
use Rattle.zb_words.specs.declared.plan.LogPlan.{LogPlan}
use Rattle.zb_words.specs.declared.plan.GenPlan.{GenPlan}
use Rattle.zb_words.specs.declared.plan.Plan.{Plan}
use Rattle.zb_words.specs.declared.plan.Plan.TheVariants as plans
use Rattle.zb_words.specs.Part.{AskFor, ArePaths, before_dashes, behind_dashes}

-- the clock has this name (own)
abbrev pub IsClockName : List ℕ → ClockKind → Type 0
IsClockName text Real = text ≡ codes "real"
IsClockName text Manual = text ≡ codes "manual"

-- the text is 1 to 20 decimal digits, which write a number from the least to the greatest (own)
pub record IsDecimal (least greatest : ℕ) (text : List ℕ) (n : ℕ) : Type 0 where
  pub digits : IsNumeral 10 text
  pub short : length text ≤ 20
  pub value : n ≡ digits_value 10 text
  pub least_one : least ≤ n
  pub greatest_one : n ≤ greatest

-- the text names a path, which is the text (own)
abbrev pub IsPath : List ℕ → List ℕ → Type 0
IsPath text path = path ≡ text

-- the words behind `serve`, which are those before "--" and those behind it, ask for this plan (own)
pub record IsServePlan (words behind : List (List ℕ)) (plan : ServePlan) : Type 0 where
  pub partitions : AskFor verbs.Serve words (codes "--partitions") (IsDecimal 1 16) (Some 1) plan.partitions
  pub dir : AskFor verbs.Serve words (codes "--dir") IsPath (Some (codes "zb")) plan.dir
  pub clock : AskFor verbs.Serve words (codes "--clock") IsClockName (Some Real) plan.clock
  pub limit : AskFor verbs.Serve words (codes "--limit") (IsDecimal 64 (2 ^ 32)) (Some (2 ^ 30)) plan.limit
  pub units : AskFor verbs.Serve words (codes "--units") (IsDecimal 0 1000000) (Some 1000) plan.units
  pub files : ArePaths words behind plan.files

-- the words behind `log` ask for this plan (own)
pub record IsLogPlan (words : List (List ℕ)) (plan : LogPlan) : Type 0 where
  pub partitions : AskFor verbs.Log words (codes "--partitions") (IsDecimal 1 16) (Some 1) plan.partitions
  pub dir : AskFor verbs.Log words (codes "--dir") IsPath (Some (codes "zb")) plan.dir
  pub partition : AskFor verbs.Log words (codes "--partition") (IsDecimal 1 plan.partitions) None plan.partition

-- the words behind `gen` ask for this plan (own)
pub record IsGenPlan (words : List (List ℕ)) (plan : GenPlan) : Type 0 where
  pub number : AskFor verbs.Gen words (codes "--number") (IsDecimal 0 (2 ^ 64 - 1)) None plan.number
  pub requests : AskFor verbs.Gen words (codes "--requests") (IsDecimal 0 100000) None plan.requests
  pub partitions : AskFor verbs.Gen words (codes "--partitions") (IsDecimal 1 16) (Some 1) plan.partitions

-- the words, those after the program's name, ask for this plan (own)
abbrev pub IsPlan : List (List ℕ) → Plan → Type 0
IsPlan words (plans.Serve plan) = (options : List (List ℕ)) × (words ≡ codes "serve" ∷ options) × IsServePlan (before_dashes options) (behind_dashes options) plan
IsPlan words (plans.Log plan) = (options : List (List ℕ)) × (words ≡ codes "log" ∷ options) × IsLogPlan options plan
IsPlan words (plans.Gen plan) = (options : List (List ℕ)) × (words ≡ codes "gen" ∷ options) × IsGenPlan options plan

-- the numbers of a plan lie within their limits (own)
abbrev pub IsInRange : Plan → Type 0
IsInRange (plans.Serve plan) = (1 ≤ plan.partitions) × (plan.partitions ≤ 16) × (64 ≤ plan.limit) × (plan.limit ≤ 2 ^ 32)
IsInRange (plans.Log plan) = (1 ≤ plan.partitions) × (plan.partitions ≤ 16) × (1 ≤ plan.partition) × (plan.partition ≤ plan.partitions)
IsInRange (plans.Gen plan) = (1 ≤ plan.partitions) × (plan.partitions ≤ 16) × (plan.requests ≤ 100000)
