-- The layouts of records: their fields in order.
use Rattle.std.proofs.Common.{refl}
use Rattle.zb_format.specs.Layout.{Layout, both, made, counted, number, long, flag, text, variables}
use Rattle.zb_exchange_records.specs.declared.job.JobActivated.{JobActivated}
use Rattle.zb_exchange_records.specs.declared.job.JobBatchActivate.{JobBatchActivate}
use Rattle.zb_exchange_records.specs.declared.job.JobBatchActivated.{JobBatchActivated}
use Rattle.zb_exchange_records.specs.declared.job.JobComplete.{JobComplete}
use Rattle.zb_exchange_records.specs.declared.job.JobCreated.{JobCreated}
use Rattle.zb_exchange_records.specs.declared.job.JobError.{JobError}
use Rattle.zb_exchange_records.specs.declared.job.JobFailure.{JobFailure}
use Rattle.zb_exchange_records.specs.declared.job.JobRetries.{JobRetries}
use Rattle.zb_exchange_records.specs.declared.message.MessagePublish.{MessagePublish}
use Rattle.zb_exchange_records.specs.declared.message.MessagePublished.{MessagePublished}
use Rattle.zb_exchange_records.specs.declared.subscription.MessageCorrelation.{MessageCorrelation}
use Rattle.zb_exchange_records.specs.declared.subscription.MessageStartEventSubscriptionCorrelated.{MessageStartEventSubscriptionCorrelated}
use Rattle.zb_exchange_records.specs.declared.subscription.MessageSubscription.{MessageSubscription}
use Rattle.zb_exchange_records.specs.declared.subscription.MessageSubscriptionDelete.{MessageSubscriptionDelete}
use Rattle.zb_exchange_records.specs.declared.subscription.ProcessMessageSubscriptionCreating.{ProcessMessageSubscriptionCreating}
use Rattle.zb_exchange_records.specs.declared.subscription.ProcessMessageSubscriptionDeleting.{ProcessMessageSubscriptionDeleting}
use Rattle.zb_exchange_records.specs.declared.subscription.SubscribedMessage.{SubscribedMessage}

-- JOB_BATCH ACTIVATE
unfoldable pub job_batch_activate : Layout JobBatchActivate
job_batch_activate = made (λ r. (r.kind, (r.worker, (r.timeout, r.most)))) (λ p. record { kind = p.0; worker = p.1.0; timeout = p.1.1.0; most = p.1.1.1 }) (λ r. refl) (λ p. refl) (both text (both text (both long number)))

-- JOB COMPLETE
unfoldable pub job_complete : Layout JobComplete
job_complete = made (λ r. (r.key, r.variables)) (λ p. record { key = p.0; variables = p.1 }) (λ r. refl) (λ p. refl) (both long variables)

-- JOB FAIL and JOB FAILED
unfoldable pub job_failure : Layout JobFailure
job_failure = made (λ r. (r.key, (r.retries, r.text))) (λ p. record { key = p.0; retries = p.1.0; text = p.1.1 }) (λ r. refl) (λ p. refl) (both long (both number text))

-- JOB THROW_ERROR and JOB ERROR_THROWN
unfoldable pub job_error : Layout JobError
job_error = made (λ r. (r.key, r.code)) (λ p. record { key = p.0; code = p.1 }) (λ r. refl) (λ p. refl) (both long text)

-- JOB UPDATE_RETRIES and JOB RETRIES_UPDATED
unfoldable pub job_retries : Layout JobRetries
job_retries = made (λ r. (r.key, r.retries)) (λ p. record { key = p.0; retries = p.1 }) (λ r. refl) (λ p. refl) (both long number)

-- MESSAGE PUBLISH
unfoldable pub message_publish : Layout MessagePublish
message_publish = made (λ r. (r.name, (r.correlation_key, (r.time_to_live, (r.id, r.variables))))) (λ p. record { name = p.0; correlation_key = p.1.0; time_to_live = p.1.1.0; id = p.1.1.1.0; variables = p.1.1.1.1 }) (λ r. refl) (λ p. refl) (both text (both text (both long (both text variables))))

-- MESSAGE_SUBSCRIPTION CREATE and CREATED
unfoldable pub message_subscription : Layout MessageSubscription
message_subscription = made (λ r. (r.subscription, (r.name, (r.correlation_key, (r.process, r.cancel))))) (λ p. record { subscription = p.0; name = p.1.0; correlation_key = p.1.1.0; process = p.1.1.1.0; cancel = p.1.1.1.1 }) (λ r. refl) (λ p. refl) (both long (both text (both text (both text flag))))

-- PROCESS_MESSAGE_SUBSCRIPTION CORRELATE and MESSAGE_SUBSCRIPTION CORRELATING
unfoldable pub message_correlation : Layout MessageCorrelation
message_correlation = made (λ r. (r.subscription, (r.message, r.variables))) (λ p. record { subscription = p.0; message = p.1.0; variables = p.1.1 }) (λ r. refl) (λ p. refl) (both long (both long variables))

-- MESSAGE_SUBSCRIPTION CORRELATE, REJECT, CORRELATED and REJECTED, and PROCESS_MESSAGE_SUBSCRIPTION CORRELATED
unfoldable pub subscribed_message : Layout SubscribedMessage
subscribed_message = made (λ r. (r.subscription, r.message)) (λ p. record { subscription = p.0; message = p.1 }) (λ r. refl) (λ p. refl) (both long long)

-- MESSAGE_SUBSCRIPTION DELETE
unfoldable pub message_subscription_delete : Layout MessageSubscriptionDelete
message_subscription_delete = made (λ r. (r.subscription, r.keys)) (λ p. record { subscription = p.0; keys = p.1 }) (λ r. refl) (λ p. refl) (both long (counted long))

-- JOB CREATED
unfoldable pub job_created : Layout JobCreated
job_created = made (λ r. (r.key, (r.cell, (r.kind, r.retries)))) (λ p. record { key = p.0; cell = p.1.0; kind = p.1.1.0; retries = p.1.1.1 }) (λ r. refl) (λ p. refl) (both long (both long (both text number)))

-- JOB ACTIVATED
unfoldable pub job_activated : Layout JobActivated
job_activated = made (λ r. (r.key, (r.worker, (r.deadline, (r.instance, (r.node, (r.kind, (r.retries, r.variables)))))))) (λ p. record { key = p.0; worker = p.1.0; deadline = p.1.1.0; instance = p.1.1.1.0; node = p.1.1.1.1.0; kind = p.1.1.1.1.1.0; retries = p.1.1.1.1.1.1.0; variables = p.1.1.1.1.1.1.1 }) (λ r. refl) (λ p. refl) (both long (both text (both long (both long (both text (both text (both number variables)))))))

-- JOB_BATCH ACTIVATED
unfoldable pub job_batch_activated : Layout JobBatchActivated
job_batch_activated = made (λ r. (r.key, r.jobs)) (λ p. record { key = p.0; jobs = p.1 }) (λ r. refl) (λ p. refl) (both long (counted long))

-- MESSAGE PUBLISHED
unfoldable pub message_published : Layout MessagePublished
message_published = made (λ r. (r.key, (r.name, (r.correlation_key, (r.id, (r.deadline, r.variables)))))) (λ p. record { key = p.0; name = p.1.0; correlation_key = p.1.1.0; id = p.1.1.1.0; deadline = p.1.1.1.1.0; variables = p.1.1.1.1.1 }) (λ r. refl) (λ p. refl) (both long (both text (both text (both text (both long variables)))))

-- MESSAGE_START_EVENT_SUBSCRIPTION CORRELATED
unfoldable pub message_start_event_subscription_correlated : Layout MessageStartEventSubscriptionCorrelated
message_start_event_subscription_correlated = made (λ r. (r.message, (r.definition, r.instance))) (λ p. record { message = p.0; definition = p.1.0; instance = p.1.1 }) (λ r. refl) (λ p. refl) (both long (both long long))

-- PROCESS_MESSAGE_SUBSCRIPTION CREATING
unfoldable pub process_message_subscription_creating : Layout ProcessMessageSubscriptionCreating
process_message_subscription_creating = made (λ r. (r.subscription, (r.cell, (r.node, (r.name, (r.correlation_key, (r.process, r.cancel))))))) (λ p. record { subscription = p.0; cell = p.1.0; node = p.1.1.0; name = p.1.1.1.0; correlation_key = p.1.1.1.1.0; process = p.1.1.1.1.1.0; cancel = p.1.1.1.1.1.1 }) (λ r. refl) (λ p. refl) (both long (both long (both text (both text (both text (both text flag))))))

-- PROCESS_MESSAGE_SUBSCRIPTION DELETING
unfoldable pub process_message_subscription_deleting : Layout ProcessMessageSubscriptionDeleting
process_message_subscription_deleting = made (λ r. (r.subscription, (r.correlation_key, r.keys))) (λ p. record { subscription = p.0; correlation_key = p.1.0; keys = p.1.1 }) (λ r. refl) (λ p. refl) (both long (both text (counted long)))
