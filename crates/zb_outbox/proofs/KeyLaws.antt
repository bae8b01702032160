-- An event ends what stands under the key that it names, and nothing else.
use Rattle.std.proofs.Common.{◌≡◌, ℕ, ◌==◌, List, [], ◌∷◌, filter, not, Bool, true, false, ◌||◌, Some, None, refl, ap, ◌∙◌, arith}
use Rattle.std.specs.List.{list_any}
use Rattle.std.specs.Option.{option_map_or}
use Rattle.std.proofs.lemmas.Bool.Decides.{nat_tests}
use Rattle.zb_exchange_records.specs.declared.subscription.MessageCorrelation.{MessageCorrelation}
use Rattle.zb_model.specs.declared.record.Event.{Event}
use Rattle.zb_model.specs.declared.record.Event.TheVariants as events
use Rattle.zb_views.specs.declared.distribution.Distribution.{Distribution}
use Rattle.zb_queue.proofs.RowLemmas.{is_under, all_under}
use Rattle.zb_views.specs.Distributions.{ends_distribution, is_that}
use Rattle.zb_record.specs.declared.sending.Sending.{Sending}
use Rattle.zb_record.specs.declared.sending.Sending.TheVariants as sending
use Rattle.zb_record.specs.Sendings.{key_of_sending, ends_sending, ends_opening, ends_correlating, ends_closing, distribution_sent, distributions_sent}
use Rattle.zb_outbox.specs.Keys.{ending_key, is_of_definition, is_to_partition}

ends_definition : (d : Distribution) (e : Event) → ends_distribution d e ≡ true → ending_key e ≡ Some d.definition
ends_definition d (events.CommandDistributionAcknowledged x) is = ap Some (grind (arith, nat_tests, is))
ends_definition d _ is = absurd (cc)

ends_open : (subscription : ℕ) (e : Event) → ends_opening subscription e ≡ true → ending_key e ≡ Some subscription
ends_open subscription (events.ProcessMessageSubscriptionCreated key) is = ap Some (grind (arith, nat_tests, is))
ends_open subscription (events.ProcessMessageSubscriptionDeleting x) is = ap Some (grind (arith, nat_tests, is))
ends_open subscription _ is = absurd (cc)

ends_message : (c : MessageCorrelation) (e : Event) → ends_correlating c e ≡ true → ending_key e ≡ Some c.subscription
ends_message c (events.MessageSubscriptionCorrelated x) is = ap Some (grind (arith, nat_tests, is))
ends_message c (events.MessageSubscriptionRejected x) is = ap Some (grind (arith, nat_tests, is))
ends_message c (events.MessageSubscriptionDeleted key) is = ap Some (grind (arith, nat_tests, is))
ends_message c _ is = absurd (cc)

ends_close : (subscription : ℕ) (e : Event) → ends_closing subscription e ≡ true → ending_key e ≡ Some subscription
ends_close subscription (events.ProcessMessageSubscriptionDeleted key) is = ap Some (grind (arith, nat_tests, is))
ends_close subscription _ is = absurd (cc)

-- what an event ends stands under the key that it names
ends_named : (e : Event) (s : Sending) → ends_sending e s ≡ true → ending_key e ≡ Some (key_of_sending s)
ends_named e (sending.Definition d) is = ends_definition d e is
ends_named e (sending.Opening s) is = ends_open s.subscription e is
ends_named e (sending.Correlating c) is = ends_message c e is
ends_named e (sending.Closing s) is = ends_close s.subscription e is

-- so what has that key and is ended is all that is ended
pub ended_key : (e : Event) (key : ℕ) → ending_key e ≡ Some key → is_under key_of_sending key (ends_sending e) ≡ ends_sending e
ended_key e key named = all_under key_of_sending key (ends_sending e) (λ s is. let both = ends_named e s is in cc)

-- and an event that names none ends nothing
pub none_ended : (e : Event) (ss : List Sending) → ending_key e ≡ None → filter (λ s. not (ends_sending e s)) ss ≡ ss
none_ended e [] none = refl
none_ended e (s ∷ ss) none = rw lasts (ap (λ (l : List Sending). s ∷ l) (none_ended e ss none))
  where
    by_test : (t : Bool) → ends_sending e s ≡ t → t ≡ false
    by_test true is = absurd (let both = ends_named e s is in cc)
    by_test false is = refl

    lasts : ends_sending e s ≡ false
    lasts = by_test (ends_sending e s) refl

-- what is of a definition stands under its key
of_key : (definition : ℕ) (s : Sending) → is_of_definition definition s ≡ true → key_of_sending s ≡ definition
of_key definition (sending.Definition d) is = grind (arith, nat_tests, is)
of_key definition (sending.Opening s) is = absurd (cc)
of_key definition (sending.Correlating c) is = absurd (cc)
of_key definition (sending.Closing s) is = absurd (cc)

-- and so does what is of it to a partition
to_key : (definition partition : ℕ) (s : Sending) → is_to_partition definition partition s ≡ true → key_of_sending s ≡ definition
to_key definition partition (sending.Definition d) is = grind (arith, nat_tests, is)
to_key definition partition (sending.Opening s) is = absurd (cc)
to_key definition partition (sending.Correlating c) is = absurd (cc)
to_key definition partition (sending.Closing s) is = absurd (cc)

-- a distribution among what is sent passes where one of what is sent is one that does
any_sent : (passes : Distribution → Bool) (ss : List Sending) → list_any (λ s. option_map_or passes (distribution_sent s) false) ss ≡ list_any passes (distributions_sent ss)
any_sent passes [] = refl
any_sent passes (sending.Definition d ∷ ss) = ap (λ (b : Bool). passes d || b) (any_sent passes ss)
any_sent passes (sending.Opening s ∷ ss) = any_sent passes ss
any_sent passes (sending.Correlating c ∷ ss) = any_sent passes ss
any_sent passes (sending.Closing s ∷ ss) = any_sent passes ss

-- so whether something is of a definition is told by what has its key
pub any_of_key : (definition : ℕ) (ss : List Sending) → list_any (is_under key_of_sending definition (is_of_definition definition)) ss ≡ list_any (λ d. d.definition == definition) (distributions_sent ss)
any_of_key definition ss =
    ap (λ (passes : Sending → Bool). list_any passes ss) (all_under key_of_sending definition (is_of_definition definition) (of_key definition)) ∙ any_sent (λ d. d.definition == definition) ss

-- and to a partition
pub any_to_key : (definition partition : ℕ) (ss : List Sending) → list_any (is_under key_of_sending definition (is_to_partition definition partition)) ss ≡ list_any (is_that definition partition) (distributions_sent ss)
any_to_key definition partition ss =
    ap (λ (passes : Sending → Bool). list_any passes ss) (all_under key_of_sending definition (is_to_partition definition partition) (to_key definition partition)) ∙ any_sent (is_that definition partition) ss
