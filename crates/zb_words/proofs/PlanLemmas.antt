-- Clap takes the words of a plan, and words that it takes begin with a verb.
use Rattle.std.proofs.Common.{◌≡◌, ◌≢◌, ◌∙◌, List, [], ◌∷◌, Some, refl, ap, sym, subst, false, true, inl, inr, length, arith, map}
use Rattle.std.specs.Prelude.{option_map, unwrap_or}
use Rattle.clap.specs.Walk.{Row, Text, nothing_held, rows_after}
use Rattle.clap.specs.Words.{App, HasMatchesOf, is_simple, kind_of, subcommand_of, subcommand_rows_of}
use Rattle.clap.specs.Kinds.{HasKind, Kinds, or_else}
use Rattle.clap.specs.Faults.{fault_of, is_simple_and_free, level_fault}
use Rattle.clap.specs.declared.error.Error.{Error}
use Rattle.clap.specs.declared.error.kind.ErrorKind.TheVariants.{OutOfMemory}
use Rattle.clap.specs.declared.parser.matches.ArgMatches.{ArgMatches}
use Rattle.zb_words.specs.declared.verb.Verb.{Verb}
use Rattle.zb_words.specs.declared.verb.Verb.TheVariants as verbs
use Rattle.zb_words.specs.declared.plan.Plan.{Plan}
use Rattle.zb_words.specs.declared.plan.Plan.TheVariants as plans
use Rattle.zb_words.specs.Plan.{IsPlan}
use Rattle.zb_words.specs.App.{IsMatched, TakesVerb, leaf, word_of, zbd_app}
use Rattle.zb_words.proofs.StepLemmas.{neither}
use Rattle.zb_words.proofs.VerbLemmas.{fault_at, matches_at, simple, verb_first}
use Rattle.zb_words.proofs.TakenLemmas.{gen_passes, log_passes, serve_passes}
use Rattle.zb_words.proofs.WordLaws.{its_options, log_or_gen, serve_or_gen, serve_or_log}

-- ---- words of a plan

passes_at : (verb : Verb) (words rest : List Text) → words ≡ word_of verb ∷ rest → level_fault (leaf verb) [] nothing_held rest false [] ≡ [] → fault_of zbd_app words ≡ []
passes_at verb words rest is none = ap (fault_of zbd_app) is ∙ fault_at verb rest ∙ ap (λ k. or_else k []) none

plan_passes : (words : List Text) (plan : Plan) → IsPlan words plan → fault_of zbd_app words ≡ []
plan_passes words (plans.Serve plan) (rest, is, asks) = passes_at verbs.Serve words rest is (serve_passes rest plan asks)
plan_passes words (plans.Log plan) (rest, is, asks) = passes_at verbs.Log words rest is (log_passes rest plan asks)
plan_passes words (plans.Gen plan) (rest, is, asks) = passes_at verbs.Gen words rest is (gen_passes rest plan asks)

-- where clap's error isn't for want of memory, the words are no plan
pub refused : (app : App) (words : List Text) (e : Error) → app ≡ zbd_app → (is_simple_and_free app ≡ true → HasKind (fault_of app words) e) → kind_of e ≢ OutOfMemory → (plan : Plan) → IsPlan words plan → ⊥
refused app words e same kinds other plan is = go (subst (λ (k : Kinds). HasKind k e) (ap (λ (a : App). fault_of a words) same ∙ plan_passes words plan is) (kinds (ap is_simple_and_free same ∙ simple)))
  where
    go : HasKind [] e → ⊥
    go (inl memory) = other memory
    go (inr none) = none

-- ---- words that clap takes

-- they begin with a verb
pub takes_verb : (app : App) (words : List Text) (matches : ArgMatches) → app ≡ zbd_app → (is_simple_and_free app ≡ true → fault_of app words ≡ []) → HasMatchesOf app words matches → TakesVerb words matches
takes_verb app words matches same kinds has =
    let none : fault_of zbd_app words ≡ [] = ap (λ (a : App). fault_of a words) (sym same) ∙ kinds (ap is_simple_and_free same ∙ simple) in
    let first = verb_first words none in
    let level = level_fault (leaf first.verb) [] nothing_held first.rest false [] in
    record {
      verb = first.verb;
      rest = first.rest;
      is = first.is;
      faultless = (neither level [] (sym (fault_at first.verb first.rest) ∙ ap (fault_of zbd_app) (sym first.is) ∙ none)).0;
      rows = (has (ap is_simple same)).1 ∙ ap (λ (a : App). subcommand_of a words) same ∙ ap (subcommand_of zbd_app) first.is ∙ matches_at first.verb first.rest;
    }

pub one_verb : (verb other : Verb) → word_of verb ≡ word_of other → verb ≡ other
one_verb verbs.Serve verbs.Serve e = refl
one_verb verbs.Log verbs.Log e = refl
one_verb verbs.Gen verbs.Gen e = refl
one_verb verbs.Serve verbs.Log e = absurd (serve_or_log e)
one_verb verbs.Serve verbs.Gen e = absurd (serve_or_gen e)
one_verb verbs.Log verbs.Serve e = absurd (serve_or_log (sym e))
one_verb verbs.Log verbs.Gen e = absurd (log_or_gen e)
one_verb verbs.Gen verbs.Serve e = absurd (serve_or_gen (sym e))
one_verb verbs.Gen verbs.Log e = absurd (log_or_gen (sym e))

-- behind the verb that the first word is, clap took the words
pub taken_behind : (verb : Verb) (words rest : List Text) (matches : ArgMatches) (rows : List Row) → TakesVerb words matches → words ≡ word_of verb ∷ rest → Some rows ≡ option_map (λ p. p.1) (subcommand_rows_of matches) → IsMatched verb rest rows
taken_behind verb words rest matches rows takes is read =
    let both = its_options words takes.rest rest (word_of takes.verb) (word_of verb) takes.is is in
    let same : takes.verb ≡ verb = one_verb takes.verb verb both.0 in
    let its : rows ≡ rows_after (leaf takes.verb).rules [] takes.rest = ap (λ o. unwrap_or o rows) (read ∙ ap (option_map (λ p. p.1)) takes.rows) in
    subst (λ (v : Verb). IsMatched v rest rows) same (subst (λ (ws : List Text). IsMatched takes.verb ws rows) both.1 (record { faultless = takes.faultless; rows_are = its }))

-- what each verb is told by, where it is the first word, is told by the first word
pub verb_is : (words rest : List Text) (word : Text) (verb : Verb) (matches : ArgMatches) → TakesVerb words matches → words ≡ word ∷ rest → ((v : Verb) → word ≡ word_of v → verb ≡ v) → words ≡ word_of verb ∷ rest
verb_is words rest word verb matches takes is told =
    let first : word ≡ word_of takes.verb = (its_options words rest takes.rest word (word_of takes.verb) is takes.is).0 in
    is ∙ ap (λ (w : Text). w ∷ rest) (first ∙ ap word_of (sym (told takes.verb first)))

-- there is a first word
pub no_words : {X : Type 0} (f : X → Text) (words : List X) (matches : ArgMatches) → TakesVerb (map f words) matches → length words ≡ 0 → ⊥
no_words f [] matches takes none = let both : word_of takes.verb ∷ takes.rest ≡ [] = sym takes.is in cc
no_words f (word ∷ words) matches takes none = omega arith
