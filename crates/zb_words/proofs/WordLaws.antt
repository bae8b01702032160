-- Laws of the words of a command line.
use Rattle.std.proofs.Common.{◌≡◌, ℕ, Option, Some, None, List, [], ◌∷◌, ◌++◌, length, get_or, refl, ap, sym, ◌∙◌, subst, arith}
use Rattle.std.specs.Prelude.{codes}
use Rattle.std.specs.List.{filter_map}
use Rattle.std.proofs.lemmas.List.Elements.{filter_map-append}
use Rattle.std.proofs.lemmas.Slice.Eq.{bytes_eq-Decides}
use Rattle.zb_words.specs.declared.verb.Verb.{Verb}
use Rattle.zb_words.specs.declared.verb.Verb.TheVariants as verbs
use Rattle.zb_words.specs.declared.plan.ClockKind.{ClockKind}
use Rattle.zb_words.specs.declared.plan.ClockKind.TheVariants.{Real, Manual}
use Rattle.zb_words.specs.declared.plan.ServePlan.{ServePlan}
use Rattle.zb_words.specs.declared.plan.LogPlan.{LogPlan}
use Rattle.zb_words.specs.declared.plan.GenPlan.{GenPlan}
use Rattle.zb_words.specs.declared.plan.Plan.{Plan}
use Rattle.zb_words.specs.declared.plan.Plan.TheVariants as plans
use Rattle.zb_words.specs.Part.{Part, GiveAll, text_for, IsMeant, AskFor, ArePaths, before_dashes, behind_dashes}
use Rattle.zb_words.specs.Plan.{IsClockName, IsDecimal, IsPath, IsServePlan, IsLogPlan, IsGenPlan, IsPlan}
use Rattle.zb_words.specs.App.{IsPlanOf, word_of}
use Rattle.zb_words.proofs.PartLemmas.{asked_by, one_files}

-- no clock has both names
no_name : codes "manual" ≡ codes "real" → ⊥
no_name e = let long : length (codes "manual") ≡ length (codes "real") = ap length e in omega arith

one_clock : (text : List ℕ) (kind other : ClockKind) → IsClockName text kind → IsClockName text other → kind ≡ other
one_clock text Real Real is is' = refl
one_clock text Real Manual is is' = absurd (no_name (sym is' ∙ is))
one_clock text Manual Real is is' = absurd (no_name (sym is ∙ is'))
one_clock text Manual Manual is is' = refl

pub one_decimal : (least greatest : ℕ) (text : List ℕ) (n m : ℕ) → IsDecimal least greatest text n → IsDecimal least greatest text m → n ≡ m
one_decimal least greatest text n m is is' = is.value ∙ sym is'.value

one_path : (text path other : List ℕ) → IsPath text path → IsPath text other → path ≡ other
one_path text path other is is' = is ∙ sym is'

-- where a text says one thing, words ask for one by an option
pub one_asked : {X : Type 0} (verb : Verb) (words : List (List ℕ)) (option : List ℕ) (Says : List ℕ → X → Type 0) (default : Option X) (x y : X) → ((text : List ℕ) (a b : X) → Says text a → Says text b → a ≡ b)
    → AskFor verb words option Says default x → AskFor verb words option Says default y → x ≡ y
one_asked {X} verb words option Says default x y one ask ask' = same ask.text default ask.meant (asked_by verb words option Says default y ask.text ask.once ask')
  where
    same : (text : Option (List ℕ)) (default : Option X) → IsMeant Says text default x → IsMeant Says text default y → x ≡ y
    same None None is is' = absurd is
    same None (Some d) is is' = is ∙ sym is'
    same (Some text) default is is' = one text x y is is'

one_paths : (words behind files others : List (List ℕ)) → ArePaths words behind files → ArePaths words behind others → files ≡ others
one_paths words behind files others are are' = are.all ∙ ap (λ among. among ++ behind) (one_files verbs.Serve words are.among are'.among are.given are'.given) ∙ sym are'.all

-- words ask for one plan
one_serve : (words behind : List (List ℕ)) (plan other : ServePlan) → IsServePlan words behind plan → IsServePlan words behind other → plan ≡ other
one_serve words behind plan other is is' =
    let partitions : plan.partitions ≡ other.partitions = one_asked verbs.Serve words _ _ _ plan.partitions other.partitions (one_decimal _ _) is.partitions is'.partitions in
    let dir : plan.dir ≡ other.dir = one_asked verbs.Serve words _ _ _ plan.dir other.dir one_path is.dir is'.dir in
    let clock : plan.clock ≡ other.clock = one_asked verbs.Serve words _ _ _ plan.clock other.clock one_clock is.clock is'.clock in
    let limit : plan.limit ≡ other.limit = one_asked verbs.Serve words _ _ _ plan.limit other.limit (one_decimal _ _) is.limit is'.limit in
    let units : plan.units ≡ other.units = one_asked verbs.Serve words _ _ _ plan.units other.units (one_decimal _ _) is.units is'.units in
    let files : plan.files ≡ other.files = one_paths _ _ plan.files other.files is.files is'.files in
    λ i. record { partitions = partitions i; dir = dir i; clock = clock i; limit = limit i; units = units i; files = files i }

one_log : (words : List (List ℕ)) (plan other : LogPlan) → IsLogPlan words plan → IsLogPlan words other → plan ≡ other
one_log words plan other is is' =
    let partitions : plan.partitions ≡ other.partitions = one_asked verbs.Log words _ _ _ plan.partitions other.partitions (one_decimal _ _) is.partitions is'.partitions in
    let dir : plan.dir ≡ other.dir = one_asked verbs.Log words _ _ _ plan.dir other.dir one_path is.dir is'.dir in
    let partition : plan.partition ≡ other.partition = one_asked verbs.Log words _ _ _ plan.partition other.partition (one_decimal _ _) is.partition
    (subst (λ n. AskFor verbs.Log words (codes "--partition") (IsDecimal 1 n) None other.partition) (sym partitions) is'.partition) in
    λ i. record { partitions = partitions i; dir = dir i; partition = partition i }

one_gen : (words : List (List ℕ)) (plan other : GenPlan) → IsGenPlan words plan → IsGenPlan words other → plan ≡ other
one_gen words plan other is is' =
    let number : plan.number ≡ other.number = one_asked verbs.Gen words _ _ _ plan.number other.number (one_decimal _ _) is.number is'.number in
    let requests : plan.requests ≡ other.requests = one_asked verbs.Gen words _ _ _ plan.requests other.requests (one_decimal _ _) is.requests is'.requests in
    let partitions : plan.partitions ≡ other.partitions = one_asked verbs.Gen words _ _ _ plan.partitions other.partitions (one_decimal _ _) is.partitions is'.partitions in
    λ i. record { number = number i; requests = requests i; partitions = partitions i }

-- the words behind a verb are known from the words
pub its_options : (words options others : List (List ℕ)) (verb other : List ℕ) → words ≡ verb ∷ options → words ≡ other ∷ others → (verb ≡ other) × (options ≡ others)
its_options words options others verb other e e' =
    let joined : verb ∷ options ≡ other ∷ others = sym e ∙ e' in
    (cc, cc)

pub log_or_gen : codes "log" ≡ codes "gen" → ⊥
log_or_gen e = let first : get_or (codes "log") 0 0 ≡ get_or (codes "gen") 0 0 = ap (λ text. get_or text 0 0) e in omega arith

pub serve_or_log : codes "serve" ≡ codes "log" → ⊥
serve_or_log e = let long : length (codes "serve") ≡ length (codes "log") = ap length e in omega arith

pub serve_or_gen : codes "serve" ≡ codes "gen" → ⊥
serve_or_gen e = let long : length (codes "serve") ≡ length (codes "gen") = ap length e in omega arith

pub one_plan : (words : List (List ℕ)) (plan other : Plan) → IsPlan words plan → IsPlan words other → plan ≡ other
one_plan words (plans.Serve plan) (plans.Serve other) (options, e, is) (others, e', is') =
    ap plans.Serve (one_serve _ _ plan other is (subst (λ ws. IsServePlan (before_dashes ws) (behind_dashes ws) other) (sym (its_options words options others _ _ e e').1) is'))
one_plan words (plans.Log plan) (plans.Log other) (options, e, is) (others, e', is') =
    ap plans.Log (one_log options plan other is (subst (λ ws. IsLogPlan ws other) (sym (its_options words options others _ _ e e').1) is'))
one_plan words (plans.Gen plan) (plans.Gen other) (options, e, is) (others, e', is') =
    ap plans.Gen (one_gen options plan other is (subst (λ ws. IsGenPlan ws other) (sym (its_options words options others _ _ e e').1) is'))
one_plan words (plans.Serve plan) (plans.Log other) (options, e, is) (others, e', is') = absurd (serve_or_log (its_options words options others _ _ e e').0)
one_plan words (plans.Serve plan) (plans.Gen other) (options, e, is) (others, e', is') = absurd (serve_or_gen (its_options words options others _ _ e e').0)
one_plan words (plans.Log plan) (plans.Serve other) (options, e, is) (others, e', is') = absurd (serve_or_log (its_options words others options _ _ e' e).0)
one_plan words (plans.Log plan) (plans.Gen other) (options, e, is) (others, e', is') = absurd (log_or_gen (its_options words options others _ _ e e').0)
one_plan words (plans.Gen plan) (plans.Serve other) (options, e, is) (others, e', is') = absurd (serve_or_gen (its_options words others options _ _ e' e).0)
one_plan words (plans.Gen plan) (plans.Log other) (options, e, is) (others, e', is') = absurd (log_or_gen (its_options words others options _ _ e' e).0)

-- behind a verb stand the words of its plan
pub its_plan : (verb : Verb) (words options : List (List ℕ)) (plan : Plan) → words ≡ word_of verb ∷ options → IsPlan words plan → IsPlanOf verb options plan
its_plan verbs.Serve words options (plans.Serve plan) e (others, e', is) = subst (λ ws. IsServePlan (before_dashes ws) (behind_dashes ws) plan) (sym (its_options words options others _ _ e e').1) is
its_plan verbs.Log words options (plans.Log plan) e (others, e', is) = subst (λ ws. IsLogPlan ws plan) (sym (its_options words options others _ _ e e').1) is
its_plan verbs.Gen words options (plans.Gen plan) e (others, e', is) = subst (λ ws. IsGenPlan ws plan) (sym (its_options words options others _ _ e e').1) is
its_plan verbs.Serve words options (plans.Log plan) e (others, e', is) = absurd (serve_or_log (its_options words options others _ _ e e').0)
its_plan verbs.Serve words options (plans.Gen plan) e (others, e', is) = absurd (serve_or_gen (its_options words options others _ _ e e').0)
its_plan verbs.Log words options (plans.Serve plan) e (others, e', is) = absurd (serve_or_log (its_options words others options _ _ e' e).0)
its_plan verbs.Log words options (plans.Gen plan) e (others, e', is) = absurd (log_or_gen (its_options words options others _ _ e e').0)
its_plan verbs.Gen words options (plans.Serve plan) e (others, e', is) = absurd (serve_or_gen (its_options words others options _ _ e' e).0)
its_plan verbs.Gen words options (plans.Log plan) e (others, e', is) = absurd (log_or_gen (its_options words others options _ _ e' e).0)

pub is_plan : (verb : Verb) (words options : List (List ℕ)) (plan : Plan) → words ≡ word_of verb ∷ options → IsPlanOf verb options plan → IsPlan words plan
is_plan verbs.Serve words options (plans.Serve plan) e is = (options, e, is)
is_plan verbs.Log words options (plans.Log plan) e is = (options, e, is)
is_plan verbs.Gen words options (plans.Gen plan) e is = (options, e, is)
is_plan verbs.Serve words options (plans.Log plan) e is = absurd is
is_plan verbs.Serve words options (plans.Gen plan) e is = absurd is
is_plan verbs.Log words options (plans.Serve plan) e is = absurd is
is_plan verbs.Log words options (plans.Gen plan) e is = absurd is
is_plan verbs.Gen words options (plans.Serve plan) e is = absurd is
is_plan verbs.Gen words options (plans.Log plan) e is = absurd is

-- the plan that a verb has is of its kind
pub of_serve : (options : List (List ℕ)) (plan : Plan) → IsPlanOf verbs.Serve options plan → (p : ServePlan) × IsServePlan (before_dashes options) (behind_dashes options) p
of_serve options (plans.Serve plan) is = (plan, is)
of_serve options (plans.Log plan) is = absurd is
of_serve options (plans.Gen plan) is = absurd is

pub of_log : (options : List (List ℕ)) (plan : Plan) → IsPlanOf verbs.Log options plan → (p : LogPlan) × IsLogPlan options p
of_log options (plans.Log plan) is = (plan, is)
of_log options (plans.Serve plan) is = absurd is
of_log options (plans.Gen plan) is = absurd is

pub of_gen : (options : List (List ℕ)) (plan : Plan) → IsPlanOf verbs.Gen options plan → (p : GenPlan) × IsGenPlan options p
of_gen options (plans.Gen plan) is = (plan, is)
of_gen options (plans.Serve plan) is = absurd is
of_gen options (plans.Log plan) is = absurd is

-- an option that is given once asks for what its text says, wherever it stands among the parts
pub ask_once : {X : Type 0} (verb : Verb) (words : List (List ℕ)) (option text : List ℕ) (before after : List Part) (Says : List ℕ → X → Type 0) (default : Option X) (x : X)
    → GiveAll verb words (before ++ (Some option, text) ∷ after) → filter_map (text_for option) before ≡ [] → filter_map (text_for option) after ≡ [] → Says text x → AskFor verb words option Says default x
ask_once verb words option text before after Says default x given none none' says = record {
  text = Some text;
  once = record {
    parts = before ++ (Some option, text) ∷ after;
    given = given;
    once = rw (filter_map-append (text_for option) before ((Some option, text) ∷ after), none, (bytes_eq-Decides option option).1 refl, none') refl;
  };
  meant = says;
}

-- an option that isn't given asks for the default
pub ask_never : {X : Type 0} (verb : Verb) (words : List (List ℕ)) (option : List ℕ) (parts : List Part) (Says : List ℕ → X → Type 0) (default : X)
    → GiveAll verb words parts → filter_map (text_for option) parts ≡ [] → AskFor verb words option Says (Some default) default
ask_never verb words option parts Says default given none = record { text = None; once = record { parts = parts; given = given; once = none }; meant = refl }

-- the verb `serve` alone asks for one partition in `zb`, the real clock, the default limit, the default units of work, and no FILEs
pub no_options : IsPlan (codes "serve" ∷ []) (plans.Serve (record { partitions = 1; dir = codes "zb"; clock = Real; limit = 1073741824; units = 1000; files = [] }))
no_options = (
  [],
  refl,
  record {
    partitions = ask_never verbs.Serve [] _ [] _ _ refl refl;
    dir = ask_never verbs.Serve [] _ [] _ _ refl refl;
    clock = ask_never verbs.Serve [] _ [] _ _ refl refl;
    limit = ask_never verbs.Serve [] _ [] _ _ refl refl;
    units = ask_never verbs.Serve [] _ [] _ _ refl refl;
    files = record { among = []; given = record { parts = []; given = refl; all = refl }; all = refl; pairs = refl };
  },
)
