-- Laws of the views of a log as it grows.
use Rattle.std.proofs.Common.{◌≡◌, ℕ, max, List, [], ◌∷◌, ◌++◌, get_or, refl, ap, ◌∙◌, arith, append-nil}
use Rattle.std.proofs.lemmas.Grind.{flat_map-append}
use Rattle.zb_model.specs.declared.record.Event.{Event}
use Rattle.zb_model.specs.declared.record.Batch.{Batch}
use Rattle.zb_views.specs.declared.definition.Definition.{Definition}
use Rattle.zb_views.specs.View.{events_in, events_of, keys_in, greatest_among, greatest_counter, moment_of_last}
use Rattle.zb_views.specs.Definitions.{definition_told, definitions}
use Rattle.zb_views.specs.Left.{left_told, left_sort, left}
use Rattle.zb_views.specs.declared.left.Left.{Left}
use Rattle.zb_views.specs.declared.left.Left.TheVariants as lefts
use Rattle.zb_views.specs.Standing.{standing, left_by}
use Rattle.zb_views.proofs.StandingLaws.{standing_more}

-- the events of a log that grew are those before, and then the batch's
pub events_of_more : (log : List Batch) (batch : Batch) → events_of (log ++ batch ∷ []) ≡ events_of log ++ events_in batch.outcome
events_of_more log batch =
    let events : Batch → List Event = λ batch. events_in batch.outcome in
    flat_map-append events log (batch ∷ []) ∙ ap (λ es. events_of log ++ es) (append-nil (events_in batch.outcome))

-- the greatest of two lists of keys
pub greatest_among_more : (p : ℕ) (a b : List ℕ) → greatest_among p (a ++ b) ≡ max (greatest_among p a) (greatest_among p b)
greatest_among_more p [] b = omega arith
greatest_among_more p (k ∷ a) b = omega (arith, greatest_among_more p a b)

-- the greatest counter after more events
pub greatest_counter_more : (p : ℕ) (before more : List Event) → greatest_counter p (before ++ more) ≡ max (greatest_counter p before) (greatest_counter p more)
greatest_counter_more p before more = rw (flat_map-append keys_in before more, greatest_among_more)

-- the last moment of a log that grew
pub moment_of_last_more : (log : List Batch) (batch : Batch) → moment_of_last (log ++ batch ∷ []) ≡ batch.moment
moment_of_last_more [] batch = refl
moment_of_last_more (first ∷ []) batch = refl
moment_of_last_more (first ∷ next ∷ log) batch = moment_of_last_more (next ∷ log) batch

-- the definitions
pub definitions_more : (es : List Event) (e : Event) → definitions (es ++ e ∷ []) ≡ definitions es ++ definition_told e
definitions_more es e = flat_map-append definition_told es (e ∷ []) ∙ ap (λ (ds : List Definition). definitions es ++ ds) (append-nil (definition_told e))

-- what the last event leaves to be said
pub left_more : (es : List Event) (e : Event) → left (es ++ e ∷ []) ≡ left_told es e
left_more es e = ap (λ (l : List Left). get_or l 0 lefts.Nothing) (standing_more left_sort es e) ∙ rw (none_left (standing left_sort es)) refl
  where
    none_left : (xs : List Left) → left_by left_sort es e xs ≡ []
    none_left [] = refl
    none_left (x ∷ xs) = none_left xs
