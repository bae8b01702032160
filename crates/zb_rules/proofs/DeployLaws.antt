-- The own events of what makes definitions and sends them to other partitions apply, where there is no reason against it.
use Rattle.std.proofs.Common.{◌≡◌, ℕ, ◌+◌, ◌-◌, ◌≤◌, ◌==◌, List, [], ◌∷◌, ◌++◌, map, Bool, true, false, ◌||◌, if◌then◌else◌, IsTrue, is_some, Option, Some, None, option_map, All, refl, sym, ap, ◌∙◌, subst, arith}
use Rattle.std.specs.Option.{option_or}
use Rattle.std.specs.List.{find, list_any, range_with_len}
use Rattle.std.proofs.lemmas.Bool.Decides.{nat_tests}
use Rattle.std.proofs.lemmas.List.Elements.{All-nil, All-cons, All-head, All-tail, All-append, All-weaker, All-contains}
use Rattle.std.proofs.lemmas.List.Folds.{list_any-append}
use Rattle.zb_process.specs.declared.model.Model.{Model}
use Rattle.zb_instance_records.specs.declared.deployment.ProcessDefinition.{ProcessDefinition}
use Rattle.zb_instance_records.specs.declared.deployment.CommandDistribution.{CommandDistribution}
use Rattle.zb_model.specs.declared.record.Event.{Event}
use Rattle.zb_model.specs.declared.record.Event.TheVariants as events
use Rattle.zb_model.specs.declared.record.Rejection.{Rejection}
use Rattle.zb_model.specs.declared.record.RejectionKind.TheVariants as kinds
use Rattle.zb_faults.specs.Faults.{first_fault, is_well_formed, fault_text}
use Rattle.zb_faults.specs.declared.fault.Fault.{Fault}
use Rattle.zb_views.specs.View.{counter_at, greatest_counter, next_key}
use Rattle.zb_views.proofs.ViewLaws.{definitions_more}
use Rattle.zb_views.specs.Standing.{left_by, begun_by}
use Rattle.zb_views.proofs.StandingLaws.{standing_more, each_left}
use Rattle.zb_views.specs.declared.definition.Definition.{Definition}
use Rattle.zb_views.specs.declared.distribution.Distribution.{Distribution}
use Rattle.zb_views.specs.Definitions.{definition_told, definitions, greatest_version}
use Rattle.zb_views.specs.Distributions.{is_that, distribution_told, distribution_sort, distributions, is_distributed_to, is_distributed}
use Rattle.zb_tokens.specs.declared.board.Deployed.{Deployed}
use Rattle.zb_tokens.specs.declared.board.Move.TheVariants as moves
use Rattle.zb_tokens.specs.Board.{Board, model_under}
use Rattle.zb_rules.specs.Shown.{board_of}
use Rattle.zb_rules.specs.Applies.{has_definition, holds_own, applies, all_apply}
use Rattle.zb_rules.specs.Sound.{HasKeys}
use Rattle.zb_rules.specs.Deploy.{reason_to_deploy, version_behind, sent_to, deployed}
use Rattle.zb_rules.specs.Distribute.{reason_to_turn_back, reason_to_distribute, distributed}
use Rattle.zb_rules.specs.Acknowledge.{reason_to_acknowledge, acknowledged}
use Rattle.zb_rules.proofs.AppliedLaws.{Advances, applied_from, holds_of_all}
use Rattle.zb_rules.proofs.ModelsLaws.{Knows, is_there_where_defined}
use Rattle.zb_rules.proofs.OwnLaws.{or_true, fresh_from, silent_applies, board_after, next_counted, one_more}

-- no model stands under it
unnamed_by : (p key bound : ℕ) (d : Deployed) (models : List Deployed) (t : Bool) → counter_at p key ≡ bound + 1 → counter_at p d.key ≤ bound → (d.key == key) ≡ t
    → find (λ (x : Deployed). x.key == key) models ≡ None → (if t then Some d else find (λ (x : Deployed). x.key == key) models) ≡ None
unnamed_by p key bound d models true counted below same later =
    let its : d.key ≡ key = grind (arith, nat_tests) in
    let less : counter_at p key ≤ bound = subst (λ (k : ℕ). counter_at p k ≤ bound) its below in
    absurd (omega arith)
unnamed_by p key bound d models false counted below other later = later

unnamed : (p key bound : ℕ) (models : List Deployed) → counter_at p key ≡ bound + 1 → All (λ (d : Deployed). counter_at p d.key ≤ bound) models → find (λ (x : Deployed). x.key == key) models ≡ None
unnamed p key bound [] counted below = refl
unnamed p key bound (d ∷ models) counted below =
    unnamed_by p key bound d models (d.key == key) counted (All-head (λ (x : Deployed). counter_at p x.key ≤ bound) d models below) refl
    (unnamed p key bound models counted (All-tail (λ (x : Deployed). counter_at p x.key ≤ bound) d models below))

none_there : (p : ℕ) (es : List Event) (b : Board) → Knows p es b → HasKeys p es 1 → model_under b (next_key p es) ≡ None
none_there p es b knows keys = ap (option_map (λ (d : Deployed). d.model)) (unnamed p (next_key p es) (greatest_counter p es) b.models (next_counted p es keys) knows.counted)

-- a definition that is there still is behind an event more
still_defined : (key : ℕ) (es : List Event) (e : Event) → IsTrue (has_definition key es) → IsTrue (has_definition key (es ++ e ∷ []))
still_defined key es e there = rw (definitions_more es e, list_any-append (λ (d : Definition). d.key == key) (definitions es) (definition_told e), there) refl

-- a definition that is there may set out for some partitions
sent_apply : (p definition : ℕ) (qs : List ℕ) (es : List Event) (b : Board) → board_of es ≡ Some b → IsTrue (has_definition definition es) → IsTrue (all_apply p es (map (sent_to definition) qs))
sent_apply p definition [] es b is there = refl
sent_apply p definition (q ∷ qs) es b is there =
    let e = sent_to definition q in
    let first : IsTrue (applies p es e) = silent_applies p es b e is there refl in
    rw first (sent_apply p definition qs (es ++ e ∷ []) b (board_after es b b e is refl) (still_defined definition es e there))

-- a model without a fault is well formed
formed_by : (m : Model) (found : Option (Fault × List ℕ)) → first_fault m ≡ found → option_map {U = Rejection} (λ (f : Fault × List ℕ). record { kind = kinds.InvalidArgument; reason = fault_text f.0 f.1 }) found ≡ None → IsTrue (is_well_formed m)
formed_by m None good none = rw good refl
formed_by m (Some f) good none = absurd (cc)

module _ (p : ℕ) (es : List Event) (b : Board) (is : board_of es ≡ Some b) (knows : Knows p es b) where
  -- the own events of a deployment apply
  pub deploy_applies : (n : ℕ) (m : Model) → HasKeys p es 2 → reason_to_deploy m ≡ None → IsTrue (all_apply p es (deployed p n m es))
  deploy_applies n m keys none =
      let key = next_key p es in
      let e = events.ProcessCreated (record { key = key; version = version_behind (greatest_version m.process (definitions es)); model = m }) in
      let one : HasKeys p es 1 = omega arith in
      let formed = formed_by m (first_fault m) refl none in
      let new = none_there p es b knows one in
      let first : IsTrue (applies p es e) = applied_from p es b e (moves.Stand (record { key = key; version = version_behind (greatest_version m.process (definitions es)); model = m })) is formed refl (rw new refl) in
      let counted : counter_at p key ≡ greatest_counter p es + 1 = next_counted p es one in
      let more : HasKeys p (es ++ e ∷ []) 1 = one_more p es e 1 (omega (arith, keys)) (omega (arith, counted)) in
      let same : (key == key) ≡ true = grind (arith, nat_tests) in
      let there : IsTrue (has_definition key (es ++ e ∷ [])) = rw (definitions_more es e, list_any-append (λ d. d.key == key) (definitions es), same) (or_true (list_any (λ d. d.key == key) (definitions es))) in
      let fresh = fresh_from p (es ++ e ∷ []) more in
      let made = events.DeploymentCreated (record { key = next_key p (es ++ e ∷ []); definition = key }) in
      let after : Board = record b { models = b.models ++ record { key = key; version = version_behind (greatest_version m.process (definitions es)); model = m } ∷ [] } in
      let after_is : board_of (es ++ e ∷ []) ≡ Some after = board_after es b after e is refl in
      let second : IsTrue (applies p (es ++ e ∷ []) made) = silent_applies p (es ++ e ∷ []) after made after_is (rw (fresh, there) refl) refl in
      let sent = sent_apply p key (range_with_len 2 (n - 1)) ((es ++ e ∷ []) ++ made ∷ []) after (board_after (es ++ e ∷ []) after after made after_is refl) (still_defined key (es ++ e ∷ []) made there) in
      rw (first, second) sent

-- of two reasons there is none
neither : (first second : Option Rejection) → option_or first second ≡ None → (first ≡ None) × (second ≡ None)
neither None second none = (refl, none)
neither (Some r) second none = absurd (cc)

untested : (t : Bool) (r : Rejection) → (if t then Some r else None) ≡ None → t ≡ false
untested true r none = absurd (cc)
untested false r none = refl

tested : (t : Bool) (r : Rejection) → (if t then None else Some r) ≡ None → t ≡ true
tested true r none = refl
tested false r none = absurd (cc)

missing : {A : Type 0} (found : Option A) → is_some found ≡ false → found ≡ None
missing None is = refl
missing (Some x) is = absurd (cc)

-- the own event of a definition that arrives applies
pub distribute_applies : (p : ℕ) (es : List Event) (b : Board) (c : ProcessDefinition) → board_of es ≡ Some b → IsTrue (all_apply p [] es) → reason_to_distribute es c ≡ None → IsTrue (all_apply p es (distributed c es))
distribute_applies p es b c is apply none =
    let reasons = neither (reason_to_deploy c.model) (reason_to_turn_back es c.key) none in
    let undefined : has_definition c.key es ≡ false = untested (has_definition c.key es) _ reasons.1 in
    let new : model_under b c.key ≡ None = missing (model_under b c.key) (is_there_where_defined p es b c.key apply is ∙ undefined) in
    let e = events.ProcessCreated c in
    let first : IsTrue (applies p es e) = applied_from p es b e (moves.Stand (record { key = c.key; version = c.version; model = c.model })) is (formed_by c.model (first_fault c.model) refl reasons.0) refl (rw new refl) in
    rw first refl

-- each definition that is on its way is there
abbrev AreDefined : List Event → Board → Type 0
AreDefined es b = All (λ (d : Distribution). IsTrue (has_definition d.definition es)) (distributions es)

told_defined : (p : ℕ) (before : List Event) (e : Event) → IsTrue (holds_own p before e) → All (λ (d : Distribution). IsTrue (has_definition d.definition (before ++ e ∷ []))) (begun_by (distribution_told e))
told_defined p before (events.CommandDistributionDistributing e) own =
    All-cons (λ (d : Distribution). IsTrue (has_definition d.definition (before ++ events.CommandDistributionDistributing e ∷ []))) (record { definition = e.key; partition = e.partition }) []
    (still_defined e.key before (events.CommandDistributionDistributing e) own) (All-nil (λ (d : Distribution). IsTrue (has_definition d.definition (before ++ events.CommandDistributionDistributing e ∷ []))))
told_defined p before e own = All-nil (λ (d : Distribution). IsTrue (has_definition d.definition (before ++ e ∷ [])))

defined_on : (p : ℕ) (before : List Event) (b : Board) (e : Event) (after : Board) → Advances p before b e after → AreDefined before b → AreDefined (before ++ e ∷ []) after
defined_on p before b e after h are =
    let Defined : Distribution → Type 0 = λ d. IsTrue (has_definition d.definition (before ++ e ∷ [])) in
    let still : All Defined (distributions before) = All-weaker (λ (d : Distribution). IsTrue (has_definition d.definition before)) Defined (λ d there. still_defined d.definition before e there) (distributions before) are in
    subst (All Defined) (sym (standing_more distribution_sort before e))
    (All-append Defined (left_by distribution_sort before e (distributions before)) (begun_by (distribution_told e))
    (each_left distribution_sort Defined before e (distributions before) (λ d among out. All-contains Defined (distributions before) d still among)) (told_defined p before e h.own))

-- of some distributions whose definitions are there, one that is found
found_defined : (definition partition : ℕ) (es : List Event) (ds : List Distribution) → All (λ (d : Distribution). IsTrue (has_definition d.definition es)) ds → list_any (is_that definition partition) ds ≡ true → IsTrue (has_definition definition es)
found_defined definition partition es [] are found = absurd (cc)
found_defined definition partition es (d ∷ ds) are found =
    by_test (is_that definition partition d) refl (found_defined definition partition es ds (All-tail (λ (x : Distribution). IsTrue (has_definition x.definition es)) d ds are)) found
  where
    by_test : (t : Bool) → is_that definition partition d ≡ t → (list_any (is_that definition partition) ds ≡ true → IsTrue (has_definition definition es))
        → (t || list_any (is_that definition partition) ds) ≡ true → IsTrue (has_definition definition es)
    by_test true is later found =
        let same : d.definition ≡ definition = grind (arith, nat_tests, is) in
        subst (λ (key : ℕ). IsTrue (has_definition key es)) same (All-head (λ (x : Distribution). IsTrue (has_definition x.definition es)) d ds are)
    by_test false is later found = later found

finish_apply : (p definition : ℕ) (es : List Event) (b : Board) (t : Bool) → board_of es ≡ Some b → IsTrue (has_definition definition es) → is_distributed definition es ≡ t
    → IsTrue (all_apply p es (if t then [] else events.CommandDistributionFinished definition ∷ []))
finish_apply p definition es b true is there under_way = refl
finish_apply p definition es b false is there under_way =
    let first : IsTrue (applies p es (events.CommandDistributionFinished definition)) = silent_applies p es b (events.CommandDistributionFinished definition) is (rw (there, under_way) refl) refl in
    rw first refl

-- the own events of an acknowledgement apply
pub acknowledge_applies : (p : ℕ) (es : List Event) (b : Board) (c : CommandDistribution) → board_of es ≡ Some b → IsTrue (all_apply p [] es) → reason_to_acknowledge es c ≡ None → IsTrue (all_apply p es (acknowledged c es))
acknowledge_applies p es b c is apply none =
    let under_way : is_distributed_to c.key c.partition es ≡ true = tested (is_distributed_to c.key c.partition es) _ none in
    let are : AreDefined es b = holds_of_all p AreDefined (defined_on p) es b (All-nil (λ (d : Distribution). IsTrue (has_definition d.definition []))) apply is in
    let there = found_defined c.key c.partition es (distributions es) are under_way in
    let e = events.CommandDistributionAcknowledged c in
    let first : IsTrue (applies p es e) = silent_applies p es b e is under_way refl in
    let second = finish_apply p c.key (es ++ e ∷ []) b (is_distributed c.key (es ++ e ∷ [])) (board_after es b b e is refl) (still_defined c.key es e there) refl in
    rw first second
