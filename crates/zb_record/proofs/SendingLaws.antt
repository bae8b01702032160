-- The distributions among what is sent.
use Rattle.std.proofs.Common.{◌≡◌, List, [], ◌∷◌, ◌++◌, map, filter, not, Bool, true, false, cond, None, refl, sym, ap, ◌∙◌}
use Rattle.std.proofs.lemmas.List.Elements.{filter_map-append}
use Rattle.zb_model.specs.declared.record.Event.{Event}
use Rattle.zb_model.specs.declared.record.Event.TheVariants as events
use Rattle.zb_views.specs.Standing.{standing_by, left_by, begun_by}
use Rattle.zb_views.specs.declared.distribution.Distribution.{Distribution}
use Rattle.zb_views.specs.Distributions.{distribution_told, ends_distribution, distribution_sort, distributions}
use Rattle.zb_views.proofs.StandingLaws.{standing_more, standing_keeps}
use Rattle.zb_record.specs.declared.sending.Sending.{Sending}
use Rattle.zb_record.specs.declared.sending.Sending.TheVariants as sending
use Rattle.zb_record.specs.Sendings.{sending_told, ends_sending, sending_sort, sendings, distribution_sent, distributions_sent}

-- what an event begins to send is a distribution where it begins one
begun : (e : Event) → distributions_sent (begun_by (sending_told e)) ≡ begun_by (distribution_told e)
begun (events.CommandDistributionDistributing x) = refl
begun (events.ProcessMessageSubscriptionCreating x) = refl
begun (events.MessageSubscriptionCorrelating x) = refl
begun (events.ProcessMessageSubscriptionDeleting x) = refl
begun _ = refl

module _ (before : List Event) (e : Event) where
  -- of what an event leaves the distributions are those that it leaves
  abbrev IsLeft : List Sending → Type 0
  IsLeft ss = distributions_sent (left_by sending_sort before e ss) ≡ left_by distribution_sort before e (distributions_sent ss)

  -- with a distribution more
  with_one : (d : Distribution) (ss : List Sending) → IsLeft ss → IsLeft (sending.Definition d ∷ ss)
  with_one d ss later = by_test (ends_distribution d e)
    where
      by_test : (t : Bool) → distributions_sent (map (λ s. s) (cond (not t) (sending.Definition d ∷ filter (λ s. not (ends_sending e s)) ss) (filter (λ s. not (ends_sending e s)) ss))) ≡ map (λ x. x) (cond (not t) (d ∷ filter (λ x. not (ends_distribution x e)) (distributions_sent ss)) (filter (λ x. not (ends_distribution x e)) (distributions_sent ss)))
      by_test true = later
      by_test false = ap (λ (l : List Distribution). d ∷ l) later

  -- with something else
  with_other : (s : Sending) (ss : List Sending) → distribution_sent s ≡ None → IsLeft ss → IsLeft (s ∷ ss)
  with_other s ss none later = rw none (by_test (ends_sending e s))
    where
      by_test : (t : Bool) → distributions_sent (map (λ x. x) (cond (not t) (s ∷ filter (λ x. not (ends_sending e x)) ss) (filter (λ x. not (ends_sending e x)) ss))) ≡ left_by distribution_sort before e (distributions_sent ss)
      by_test true = later
      by_test false = rw none later

  left : (ss : List Sending) → IsLeft ss
  left [] = refl
  left (sending.Definition d ∷ ss) = with_one d ss (left ss)
  left (sending.Opening x ∷ ss) = with_other (sending.Opening x) ss refl (left ss)
  left (sending.Correlating x ∷ ss) = with_other (sending.Correlating x) ss refl (left ss)
  left (sending.Closing x ∷ ss) = with_other (sending.Closing x) ss refl (left ss)

  -- what an event makes of the distributions among what is sent is what it makes of what is sent
  made : (ss : List Sending) → distributions_sent (standing_by sending_sort before e ss) ≡ standing_by distribution_sort before e (distributions_sent ss)
  made ss =
      filter_map-append distribution_sent (left_by sending_sort before e ss) (begun_by (sending_told e))
      ∙ (ap (λ (l : List Distribution). l ++ distributions_sent (begun_by (sending_told e))) (left ss) ∙ ap (λ (l : List Distribution). left_by distribution_sort before e (distributions_sent ss) ++ l) (begun e))

-- the distributions of a log are those among what is sent
pub distributions_among : (es : List Event) → distributions es ≡ distributions_sent (sendings es)
distributions_among es =
    standing_keeps sending_sort (λ before ss. distributions before ≡ distributions_sent ss) refl
    (λ before e ss is. standing_more distribution_sort before e ∙ (ap (standing_by distribution_sort before e) is ∙ sym (made before e ss))) es
