-- Where clap takes the words behind a verb its matches hold what they ask for, and where they ask for a plan it takes them.
use Rattle.std.proofs.Common.{◌≡◌, ◌≢◌, ◌≤◌, ◌∙◌, ◌&&◌, ◌||◌, Bool, true, false, not, List, [], ◌∷◌, ◌++◌, Option, Some, None, codes, refl, ap, sym, subst, true≢false, length, map, inl, inr, arith, append-nil}
use Rattle.std.specs.Prelude.{Err, IfErr, Ok, Result, option_map, option_to_list, unwrap_or}
use Rattle.std.specs.List.{filter_map, fold, list_any}
use Rattle.std.proofs.lemmas.List.Elements.{filter_map-append}
use Rattle.std.proofs.lemmas.Slice.Eq.{bytes_eq-Decides}
use Rattle.clap.specs.Walk.{Row, Text, Walk, first_of, idle, nothing_held, rows_of, walked, with_default}
use Rattle.std.specs.Borrow.{Bor}
use Rattle.clap.specs.Words.{first_value, matched_of, raw_values}
use Rattle.clap.specs.Kinds.{or_else}
use Rattle.clap.specs.Faults.{check_fault, defaults_fault, level_fault, settle_fault, walk_fault}
use Rattle.clap.specs.Takes.{is_given}
use Rattle.clap.specs.declared.parser.matches.Found.{Found}
use Rattle.clap.proofs.WalkLemmas.{first_value-rows, raw_values-rows}
use Rattle.zb_words.specs.declared.verb.Verb.{Verb}
use Rattle.zb_words.specs.declared.verb.Verb.TheVariants as verbs
use Rattle.zb_words.specs.declared.plan.ServePlan.{ServePlan}
use Rattle.zb_words.specs.declared.plan.LogPlan.{LogPlan}
use Rattle.zb_words.specs.declared.plan.GenPlan.{GenPlan}
use Rattle.zb_words.specs.declared.refusal.Refusal.{Refusal}
use Rattle.zb_words.specs.declared.refusal.Refusal.TheVariants as refusals
use Rattle.zb_words.specs.Part.{AskFor, GiveAll, GiveFiles, GiveOnce, Gives, IsMeant, Part, before_dashes, behind_dashes, file_in, is_dashes, is_option, options_of, takes_files, text_for}
use Rattle.zb_words.specs.Plan.{IsGenPlan, IsLogPlan, IsServePlan}
use Rattle.zb_words.specs.App.{IsMatched, files_among, has_fit_dashes, is_lone, leaf}
use Rattle.zb_words.proofs.PartLemmas.{one_list}
use Rattle.zb_words.proofs.RowLemmas.{given-in, row_for, row_in}
use Rattle.zb_words.proofs.LeafLemmas.{HasRequired, check_faults, dashes, default_faults, each_of, finished_rows, option_facts}
use Rattle.zb_words.proofs.StepLemmas.{at, final, neither, plain_word, total}
use Rattle.zb_words.proofs.ReadLemmas.{FitsDashes, Holds, as_file, before_more, behind_more, uncut}
use Rattle.zb_words.proofs.SoundLemmas.{words_read}
use Rattle.zb_words.proofs.CompleteLemmas.{IsTail, Once, Passes, words_pass}

-- in front of the words behind a verb
abbrev first : Walk
first = at false [] None idle

-- ---- what the matches hold

level_total : (verb : Verb) (words : List Text) → level_fault (leaf verb) [] nothing_held words false [] ≡ [] → total verb first words ≡ []
unfolding leaf
level_total verb words e =
    let walks = neither (walk_fault (leaf verb) [] first words) _ e in
    let settles = neither (settle_fault (leaf verb).rules false (fold (walked (leaf verb).rules []) first words).held) _ walks.1 in
    ap (λ k. or_else k (settle_fault (leaf verb).rules false (fold (walked (leaf verb).rules []) first words).held)) walks.0 ∙ settles.0

fits : (verb : Verb) (words : List Text) → has_fit_dashes verb words ≡ true → FitsDashes verb words
fits verb words e = go (list_any is_lone (before_dashes words)) (takes_files verb) refl refl e
  where
    go : (a b : Bool) → list_any is_lone (before_dashes words) ≡ a → takes_files verb ≡ b → (not a && (b || not (list_any is_dashes words))) ≡ true → FitsDashes verb words
    go true b alone takes e = absurd (true≢false (sym e))
    go false true alone takes e = record { alone = alone; none = λ no_files. absurd (true≢false (sym takes ∙ no_files)) }
    go false false alone takes e = record { alone = alone; none = λ no_files. denied (list_any is_dashes words) e }
      where
        denied : (b : Bool) → not b ≡ true → b ≡ false
        denied true e = absurd (true≢false (sym e))
        denied false e = refl

no_texts : (word : Text) (words : List Text) → filter_map (text_for word) (map as_file words) ≡ []
no_texts word [] = refl
no_texts word (v ∷ words) = no_texts word words

all_files : (words : List Text) → filter_map file_in (map as_file words) ≡ words
all_files [] = refl
all_files (v ∷ words) = ap (λ (ws : List Text). v ∷ ws) (all_files words)

first_in : (id : Text) (texts : List Text) (rows : List Row) → row_in id rows ≡ row_for id texts → length texts ≤ 1 → texts ≡ option_to_list (first_of id rows)
first_in id [] rows e short = rw e refl
first_in id (t ∷ []) rows e short = rw e refl
first_in id (t ∷ u ∷ texts) rows e short = absurd (omega arith)

files_in : (texts : List Text) (rows : List Row) → row_in (codes "FILE") rows ≡ row_for (codes "FILE") texts → files_among rows ≡ texts
files_in [] rows e = rw e refl
files_in (t ∷ texts) rows e = rw e refl

-- what the matches hold is what the words ask for
pub record IsAsked (verb : Verb) (words : List Text) (found : Found) : Type 0 where
  pub option : (id : Text) → is_option verb (45 ∷ 45 ∷ id) ≡ true → GiveOnce verb (before_dashes words) (45 ∷ 45 ∷ id) (first_value found id)
  pub among : List Text
  pub given : GiveFiles verb (before_dashes words) among
  pub all : files_among (rows_of found) ≡ among ++ behind_dashes words

pub asked : (verb : Verb) (words : List Text) (found : Found) → IsMatched verb words (rows_of found) → has_fit_dashes verb words ≡ true → IsAsked verb words found
asked verb words found taken fit =
    let reads = words_read verb words (fits verb words fit) (level_total verb words taken.faultless) in
    let behind = behind_dashes words in
    let same : rows_of found ≡ final verb first words = taken.rows_are ∙ finished_rows verb (final verb first words) in
    let holds = subst (λ (rs : List Row). Holds verb (reads.more ++ map as_file behind) rs) (sym same) reads.holds in
    let told = λ (word : Text). filter_map-append (text_for word) reads.more (map as_file behind) ∙ ap (λ (ts : List Text). filter_map (text_for word) reads.more ++ ts) (no_texts word behind) ∙ append-nil (filter_map (text_for word) reads.more) in
    record {
      option = λ id is. record {
        parts = reads.more;
        given = reads.given;
        once = sym (told (45 ∷ 45 ∷ id)) ∙ first_in id (filter_map (text_for (45 ∷ 45 ∷ id)) (reads.more ++ map as_file behind)) (rows_of found) (holds.options id is) (holds.once id is)
            ∙ ap option_to_list (sym (first_value-rows found id));
      };
      among = filter_map file_in reads.more;
      given = record { parts = reads.more; given = reads.given; all = refl };
      all = files_in (filter_map file_in (reads.more ++ map as_file behind)) (rows_of found) holds.files
          ∙ filter_map-append file_in reads.more (map as_file behind) ∙ ap (λ (ws : List Text). filter_map file_in reads.more ++ ws) (all_files behind);
    }

-- where no FILEs may follow, all words stand in front of "--"
pub all_before : (verb : Verb) (words : List Text) → takes_files verb ≡ false → has_fit_dashes verb words ≡ true → before_dashes words ≡ words
all_before verb words none fit = uncut is_dashes words ((fits verb words fit).none none)

-- ---- words that ask for a plan

-- no word of a part is "--" or has one '-' alone
fit_word : (verb : Verb) (words : List Text) (x : Part) (rest : List Text) → Gives verb words x rest → (list_any is_lone rest ≡ false) × (list_any is_dashes rest ≡ false) → (list_any is_lone words ≡ false) × (list_any is_dashes words ≡ false)
fit_word verb words (None, v) rest (takes, is, plain) fine = rw (is, plain, (plain_word v plain).2) fine
fit_word verb words (Some word, v) rest (is, some, inl two) fine =
    let o = option_facts verb word is in
    let lone : is_lone word ≡ false = rw o.word refl in
    rw (two.0, lone, o.no_dashes, two.1, (plain_word v two.1).2) fine
fit_word verb words (Some word, v) rest (is, some, inr one) fine =
    let o = option_facts verb word is in
    let lone : is_lone (word ++ (codes "=" ++ v)) ≡ false = rw o.word refl in
    rw (one, lone, o.no_joined_dashes v) fine

fit_words : (verb : Verb) (words : List Text) (parts : List Part) → GiveAll verb words parts → (list_any is_lone words ≡ false) × (list_any is_dashes words ≡ false)
fit_words verb words [] e = rw e (refl, refl)
fit_words verb words (x ∷ parts) (rest, gives, given) = fit_word verb words x rest gives (fit_words verb rest parts given)

pub fit_serve : (words : List Text) (parts : List Part) → GiveAll verbs.Serve (before_dashes words) parts → has_fit_dashes verbs.Serve words ≡ true
fit_serve words parts given = rw (fit_words verbs.Serve (before_dashes words) parts given).0 refl

pub fit_others : (verb : Verb) (words : List Text) (parts : List Part) → GiveAll verb words parts → has_fit_dashes verb words ≡ true
fit_others verb words parts given =
    let both = fit_words verb words parts given in
    let alone : list_any is_lone (before_dashes words) ≡ false = ap (list_any is_lone) (uncut is_dashes words both.1) ∙ both.0 in
    go (takes_files verb) alone both.1
  where
    go : (b : Bool) → list_any is_lone (before_dashes words) ≡ false → list_any is_dashes words ≡ false → (not (list_any is_lone (before_dashes words)) && (b || not (list_any is_dashes words))) ≡ true
    go true alone none = rw alone refl
    go false alone none = rw (alone, none) refl

-- the words are those in front of "--", and what stands from there on
record Ends (words : List Text) : Type 0 where
  tail : List Text
  ends : IsTail verbs.Serve tail (behind_dashes words)
  joined : before_dashes words ++ tail ≡ words

split_dashes : (words : List Text) → Ends words
split_dashes [] = record { tail = []; ends = inl (refl, refl); joined = refl }
split_dashes (word ∷ words) = go (is_dashes word) refl (split_dashes words)
  where
    go : (b : Bool) → is_dashes word ≡ b → Ends words → Ends (word ∷ words)
    go true e more = subst (λ (x : Text). Ends (x ∷ words)) (sym ((bytes_eq-Decides word dashes).0 e)) (record { tail = dashes ∷ words; ends = inr (refl, refl); joined = refl })
    go false e more = record {
      tail = more.tail;
      ends = subst (λ (ws : List Text). IsTail verbs.Serve more.tail ws) (sym (behind_more word words e)) more.ends;
      joined = ap (λ (ws : List Text). ws ++ more.tail) (before_more word words e) ∙ ap (λ (ws : List Text). word ∷ ws) more.joined;
    }

level_passes : (verb : Verb) (words : List Text) (parts : List Part) → Passes verb first words parts → HasRequired verb (final verb first words) → level_fault (leaf verb) [] nothing_held words false [] ≡ []
unfolding leaf
level_passes verb words parts pass has =
    let end = (fold (walked (leaf verb).rules []) first words).held in
    let settle = settle_fault (leaf verb).rules false end in
    let both = neither (walk_fault (leaf verb) [] first words) settle pass.faultless in
    let rows = final verb first words in
    let none = ap (λ (rs : List Row). check_fault (leaf verb) rs false) (finished_rows verb rows) ∙ check_faults verb rows has in
    let check = check_fault (leaf verb) (fold with_default rows (leaf verb).rules) false in
    ap (λ k. or_else k (or_else settle (or_else (defaults_fault rows (leaf verb).rules) check))) both.0
    ∙ ap (λ k. or_else k (or_else (defaults_fault rows (leaf verb).rules) check)) both.1
    ∙ ap (λ k. or_else k check) (default_faults verb rows) ∙ none

-- what asks for something by an option gives it once
asks_once : {X : Type 0} (verb : Verb) (words : List Text) (option : Text) (Says : Text → X → Type 0) (default : Option X) (x : X) (parts : List Part) → GiveAll verb words parts → AskFor verb words option Says default x → length (filter_map (text_for option) parts) ≤ 1
asks_once verb words option Says default x parts given ask =
    subst (λ (ts : List Text). length ts ≤ 1) (sym (ap (filter_map (text_for option)) (one_list verb words parts ask.once.parts given ask.once.given) ∙ ask.once.once)) (short ask.text)
  where
    short : (text : Option Text) → length (option_to_list text) ≤ 1
    short None = omega arith
    short (Some t) = omega arith

pub serve_passes : (words : List Text) (plan : ServePlan) → IsServePlan (before_dashes words) (behind_dashes words) plan → level_fault (leaf verbs.Serve) [] nothing_held words false [] ≡ []
serve_passes words plan is =
    let parts = is.partitions.once.parts in
    let given = is.partitions.once.given in
    let once : Once verbs.Serve parts = λ word option. each_of (λ (w : Text). length (filter_map (text_for w) parts) ≤ 1) (options_of verbs.Serve) word (
      asks_once verbs.Serve _ _ _ _ _ parts given is.partitions,
      (
        asks_once verbs.Serve _ _ _ _ _ parts given is.dir,
        (
          asks_once verbs.Serve _ _ _ _ _ parts given is.clock,
          (asks_once verbs.Serve _ _ _ _ _ parts given is.limit, (asks_once verbs.Serve _ _ _ _ _ parts given is.units, tt)),
        ),
      ),
    ) option in
    let split = split_dashes words in
    let pass = words_pass verbs.Serve (before_dashes words) split.tail (behind_dashes words) parts given once split.ends in
    level_passes verbs.Serve words (parts ++ map as_file (behind_dashes words)) (subst (λ (ws : List Text). Passes verbs.Serve first ws (parts ++ map as_file (behind_dashes words))) split.joined pass) tt

-- words that stand in front of no "--" pass
passes_alone : (verb : Verb) (words : List Text) (parts : List Part) → GiveAll verb words parts → Once verb parts → Passes verb first words parts
passes_alone verb words parts given once =
    let pass = words_pass verb words [] [] parts given once (inl (refl, refl)) in
    subst (λ (ws : List Text). Passes verb first ws parts) (append-nil words) (subst (λ (ps : List Part). Passes verb first (words ++ []) ps) (append-nil parts) pass)

-- an option that has to be given is given
is_there : {X : Type 0} (verb : Verb) (id : Text) (ws : List Text) (Says : Text → X → Type 0) (x : X) (parts : List Part) (rows : List Row) → GiveAll verb ws parts → Holds verb parts rows → is_option verb (45 ∷ 45 ∷ id) ≡ true
    → AskFor verb ws (45 ∷ 45 ∷ id) Says None x → is_given id rows ≡ true
is_there verb id ws Says x parts rows given holds is ask = go ask.text ask.meant (ap (filter_map (text_for (45 ∷ 45 ∷ id))) (one_list verb ws parts ask.once.parts given ask.once.given) ∙ ask.once.once)
  where
    go : (text : Option Text) → IsMeant Says text None x → filter_map (text_for (45 ∷ 45 ∷ id)) parts ≡ option_to_list text → is_given id rows ≡ true
    go None meant told = absurd meant
    go (Some t) meant told = given-in id t [] rows (holds.options id is ∙ ap (row_for id) told)

pub log_passes : (words : List Text) (plan : LogPlan) → IsLogPlan words plan → level_fault (leaf verbs.Log) [] nothing_held words false [] ≡ []
log_passes words plan is =
    let parts = is.partitions.once.parts in
    let given = is.partitions.once.given in
    let once : Once verbs.Log parts = λ word option. each_of (λ (w : Text). length (filter_map (text_for w) parts) ≤ 1) (options_of verbs.Log) word
    (asks_once verbs.Log _ _ _ _ _ parts given is.partitions, (asks_once verbs.Log _ _ _ _ _ parts given is.dir, (asks_once verbs.Log _ _ _ _ _ parts given is.partition, tt))) option in
    let pass = passes_alone verbs.Log words parts given once in
    level_passes verbs.Log words parts pass (is_there verbs.Log (codes "partition") words _ plan.partition parts _ given pass.holds refl is.partition)

pub gen_passes : (words : List Text) (plan : GenPlan) → IsGenPlan words plan → level_fault (leaf verbs.Gen) [] nothing_held words false [] ≡ []
gen_passes words plan is =
    let parts = is.partitions.once.parts in
    let given = is.partitions.once.given in
    let once : Once verbs.Gen parts = λ word option. each_of (λ (w : Text). length (filter_map (text_for w) parts) ≤ 1) (options_of verbs.Gen) word
    (asks_once verbs.Gen _ _ _ _ _ parts given is.number, (asks_once verbs.Gen _ _ _ _ _ parts given is.requests, (asks_once verbs.Gen _ _ _ _ _ parts given is.partitions, tt))) option in
    let pass = passes_alone verbs.Gen words parts given once in
    level_passes verbs.Gen words parts pass
    (is_there verbs.Gen (codes "number") words _ plan.number parts _ given pass.holds refl is.number, is_there verbs.Gen (codes "requests") words _ plan.requests parts _ given pass.holds refl is.requests)

-- ---- what a plan is made of

-- behind a verb without FILEs the words are parts
pub option_alone : (verb : Verb) (words : List Text) (found : Found) → takes_files verb ≡ false → IsMatched verb words (rows_of found) → has_fit_dashes verb words ≡ true → (id : Text) → is_option verb (45 ∷ 45 ∷ id) ≡ true
    → GiveOnce verb words (45 ∷ 45 ∷ id) (first_value found id)
option_alone verb words found none taken fit id is =
    subst (λ (ws : List Text). GiveOnce verb ws (45 ∷ 45 ∷ id) (first_value found id)) (all_before verb words none fit) ((asked verb words found taken fit).option id is)

-- `?` passes a refusal up where there is no plan, whatever the refusal is
pub if_refused : {X Y : Type 0} (r : Result X Refusal) (Q : Y → Type 0) → ((plan : Y) → Q plan → ⊥) → IfErr r (λ refusal. refusal ≢ refusals.Memory → (plan : Y) → Q plan → ⊥)
if_refused (Ok x) Q none = tt
if_refused (Err e) Q none = λ other. none

-- the FILEs that clap hands over
pub paths_are : (found : Found) (paths : Option (Bor (List (Bor Text)))) (default : Bor (List (Bor Text))) → option_map (λ s. map (λ v. v.now) s.now) paths ≡ option_map raw_values (matched_of found (codes "FILE"))
    → default.now ≡ [] → map (λ v. v.now) (unwrap_or paths default).now ≡ files_among (rows_of found)
paths_are found paths default same none = go paths ∙ ap (λ o. unwrap_or o []) (same ∙ raw_values-rows found (codes "FILE"))
  where
    go : (paths : Option (Bor (List (Bor Text)))) → map (λ v. v.now) (unwrap_or paths default).now ≡ unwrap_or (option_map (λ s. map (λ v. v.now) s.now) paths) []
    go None = ap (map (λ (v : Bor Text). v.now)) none
    go (Some s) = refl
