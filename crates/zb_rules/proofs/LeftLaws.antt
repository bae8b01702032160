-- The message that starts the root that is left to be said, in a log whose events apply.
use Rattle.std.proofs.Common.{◌≡◌, ℕ, ◌==◌, List, [], ◌∷◌, ◌++◌, true, false, IsTrue, Option, Some, None, refl, sym, ap, ◌∙◌, subst, arith}
use Rattle.std.specs.List.{find}
use Rattle.std.specs.Option.{option_and_then, option_map_or}
use Rattle.std.proofs.lemmas.Bool.Decides.{nat_tests}
use Rattle.std.proofs.lemmas.List.Elements.{All-nil}
use Rattle.zb_exchange_records.specs.declared.message.MessagePublished.{MessagePublished}
use Rattle.zb_exchange_records.specs.declared.subscription.MessageStartEventSubscriptionCorrelated.{MessageStartEventSubscriptionCorrelated}
use Rattle.zb_instance_records.specs.declared.deployment.ProcessDefinition.{ProcessDefinition}
use Rattle.zb_model.specs.declared.record.Event.{Event}
use Rattle.zb_model.specs.declared.record.Event.TheVariants as events
use Rattle.zb_views.specs.declared.begun.Begun.{Begun}
use Rattle.zb_views.specs.declared.job.Job.{Job}
use Rattle.zb_views.specs.declared.left.Left.TheVariants as lefts
use Rattle.zb_views.specs.Jobs.{job_on}
use Rattle.zb_views.specs.Left.{left_told, left}
use Rattle.zb_views.specs.Messages.{buffered, message_at}
use Rattle.zb_views.specs.Processes.{process_in}
use Rattle.zb_views.specs.Told.{last_told}
use Rattle.zb_views.specs.Starts.{published_told, published_in, starter_told, starter_in}
use Rattle.zb_views.proofs.MessageLaws.{buffered_kept}
use Rattle.zb_views.proofs.ToldLaws.{last_told_more}
use Rattle.zb_views.proofs.ViewLaws.{left_more}
use Rattle.zb_tokens.specs.Board.{Board}
use Rattle.zb_tokens.proofs.GameLaws.{both_right, found_holds, found_passes}
use Rattle.zb_rules.specs.Applies.{is_fresh, begins_start, all_apply}
use Rattle.zb_rules.specs.Shown.{board_of}
use Rattle.zb_rules.specs.Starts.{may_start}
use Rattle.zb_rules.proofs.AppliedLaws.{Advances, holds_of_all}
use Rattle.zb_rules.proofs.MessageSoundLaws.{IsKnownMessage, AreKnownMessages, known_on}

-- the message that starts an instance is buffered, and was the last one under its key; it is told as the one that started it
pub record IsStarter (es : List Event) (begun : Begun) (key : ℕ) : Type 0 where
  pub message : MessagePublished
  pub waits : message_at key es ≡ Some message
  pub last : published_in key es ≡ Some message
  pub starts : starter_in begun.key es ≡ Some message

-- each buffered message is known, and the message of a root that is left to be said is its starter
record KnowsStarter (p : ℕ) (es : List Event) (b : Board) : Type 0 where
  known : AreKnownMessages p es b
  starter : (begun : Begun) (key : ℕ) → left es ≡ lefts.Root begun → begun.message ≡ Some key → IsStarter es begun key

-- an event by which a message starts an instance
by_start : (p : ℕ) (before : List Event) (b : Board) (x : MessageStartEventSubscriptionCorrelated) (after : Board) → Advances p before b (events.MessageStartEventSubscriptionCorrelated x) after → AreKnownMessages p before b
    → IsStarter (before ++ events.MessageStartEventSubscriptionCorrelated x ∷ []) (record { key = x.instance; definition = x.definition; message = Some x.message }) x.message
by_start p before b x after h known = by_found (message_at x.message before) refl (both_right (is_fresh p before x.instance) (begins_start x before) h.own)
  where
    e : Event
    e = events.MessageStartEventSubscriptionCorrelated x

    by_found : (found : Option MessagePublished) → message_at x.message before ≡ found
        → IsTrue (option_map_or (λ m. option_map_or (λ (d : ProcessDefinition). may_start m d.model.process before) (process_in x.definition before) false) found false) → IsStarter (before ++ e ∷ []) (record { key = x.instance; definition = x.definition; message = Some x.message }) x.message
    by_found None at starts = absurd (cc)
    by_found (Some m) at starts =
        let k = (found_holds (λ (y : MessagePublished). y.key == x.message) (IsKnownMessage p before) (buffered before) m known at).0 in
        let passes = found_passes (λ (y : MessagePublished). y.key == x.message) (buffered before) m at in
        let same : m.key ≡ x.message = grind (arith, nat_tests, passes) in
        let was : published_in x.message before ≡ Some m = subst (λ (key : ℕ). published_in key before ≡ Some m) same k.last in
        let last : published_in x.message (before ++ e ∷ []) ≡ Some m = last_told_more (published_told x.message) before e ∙ was in
        let its : (x.instance == x.instance) ≡ true = grind (arith, nat_tests) in
        let told : last_told (starter_told x.instance) (before ++ e ∷ []) ≡ Some x.message = last_told_more (starter_told x.instance) before e ∙ rw its refl in
        record {
          message = m;
          waits = ap (find (λ (y : MessagePublished). y.key == x.message)) (buffered_kept before e refl refl) ∙ at;
          last = last;
          starts = ap (option_and_then (λ (message : ℕ). published_in message (before ++ e ∷ []))) told ∙ last;
        }

-- what the others leave is no root that a message starts
no_root : (job : Option Job) (begun : Begun) → option_map_or (λ (j : Job). lefts.Cancels j.key) job lefts.Nothing ≡ lefts.Root begun → ⊥
no_root None begun is = cc
no_root (Some j) begun is = cc

starter_on : (p : ℕ) (before : List Event) (b : Board) (e : Event) (after : Board) → Advances p before b e after → KnowsStarter p before b → KnowsStarter p (before ++ e ∷ []) after
starter_on p before b e after h k = record {
  known = known_on p before b e after h k.known;
  starter = λ begun key leaves starts. by_event e h begun key (sym (left_more before e) ∙ leaves) starts;
}
  where
    by_event : (e : Event) → Advances p before b e after → (begun : Begun) (key : ℕ) → left_told before e ≡ lefts.Root begun → begun.message ≡ Some key → IsStarter (before ++ e ∷ []) begun key
    by_event (events.MessageStartEventSubscriptionCorrelated x) h begun key leaves starts =
        let r : Begun = record { key = x.instance; definition = x.definition; message = Some x.message } in
        let same : r ≡ begun = let both : lefts.Root r ≡ lefts.Root begun = leaves in cc in
        let its : x.message ≡ key = let one : Some x.message ≡ Some key = ap (λ (y : Begun). y.message) same ∙ starts in cc in
        subst (λ (y : Begun). IsStarter (before ++ events.MessageStartEventSubscriptionCorrelated x ∷ []) y key) same
        (subst (λ (k : ℕ). IsStarter (before ++ events.MessageStartEventSubscriptionCorrelated x ∷ []) r k) its (by_start p before b x after h k.known))
    by_event (events.ProcessInstanceCreationCreated x) h begun key leaves starts =
        let r : Begun = record { key = x.key; definition = x.definition; message = None } in
        let same : r ≡ begun = let both : lefts.Root r ≡ lefts.Root begun = leaves in cc in
        absurd (let one : None ≡ Some key = ap (λ (y : Begun). y.message) same ∙ starts in cc)
    by_event (events.ElementTerminating cell) h begun key leaves starts = absurd (no_root (job_on cell before) begun leaves)
    by_event e h begun key leaves starts = absurd (cc)

-- so in a log whose events apply the message of a root that is left to be said is its starter
pub starter_left : (p : ℕ) (es : List Event) (b : Board) (begun : Begun) (key : ℕ) → board_of es ≡ Some b → IsTrue (all_apply p [] es) → left es ≡ lefts.Root begun → begun.message ≡ Some key → IsStarter es begun key
starter_left p es b begun key is apply leaves starts =
    (holds_of_all p (KnowsStarter p) (starter_on p) es b (record { known = All-nil (IsKnownMessage p []); starter = λ begun key leaves starts. absurd (let none : lefts.Nothing ≡ lefts.Root begun = leaves in cc) }) apply is).starter begun key leaves starts
