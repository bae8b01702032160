-- Laws of the buffered messages as a log grows by an event.
use Rattle.std.proofs.Common.{◌==◌, ◌≡◌, ℕ, List, [], ◌∷◌, ◌++◌, None, refl, ◌∙◌}
use Rattle.zb_exchange_records.specs.declared.message.MessagePublished.{MessagePublished}
use Rattle.zb_model.specs.declared.record.Event.{Event}
use Rattle.zb_model.specs.declared.record.Event.TheVariants as events
use Rattle.zb_views.specs.Messages.{message_told, expiry_told, message_sort, buffered, without_message}
use Rattle.zb_views.proofs.StandingLaws.{standing_more, one_more, some_gone, standing_kept}

-- a published message is buffered behind those before
pub buffered_published : (es : List Event) (m : MessagePublished) → buffered (es ++ events.MessagePublished m ∷ []) ≡ buffered es ++ m ∷ []
buffered_published es m = standing_more message_sort es (events.MessagePublished m) ∙ one_more message_sort es (events.MessagePublished m) (buffered es) m refl (λ x. refl) (λ x. refl)

-- an expired message is buffered no more, and the others are
pub buffered_expired : (es : List Event) (key : ℕ) → buffered (es ++ events.MessageExpired key ∷ []) ≡ without_message key (buffered es)
buffered_expired es key = standing_more message_sort es (events.MessageExpired key) ∙ some_gone message_sort es (events.MessageExpired key) (buffered es) (λ m. m.key == key) refl (λ m. refl) (λ m. refl)

-- an event that tells of no message leaves the buffered ones as they were
pub buffered_kept : (es : List Event) (e : Event) → message_told e ≡ None → expiry_told e ≡ None → buffered (es ++ e ∷ []) ≡ buffered es
buffered_kept es e none lasting = standing_kept message_sort es e (none, λ m. rw lasting refl, λ m. refl)
