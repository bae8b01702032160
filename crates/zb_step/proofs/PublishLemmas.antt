-- The own events of a publish.
use Rattle.std.proofs.Common.{◌≡◌, ℕ, List, [], ◌∷◌, ◌++◌, map, filter, Bool, true, false, if◌then◌else◌, Option, Some, None, refl, sym, ap, ◌∙◌, append-nil, append_assoc}
use Rattle.std.specs.Option.{option_map_or}
use Rattle.zb_exchange_records.specs.declared.message.MessagePublish.{MessagePublish}
use Rattle.zb_exchange_records.specs.declared.message.MessagePublished.{MessagePublished}
use Rattle.zb_model.specs.declared.record.Event.{Event}
use Rattle.zb_model.specs.declared.record.Event.TheVariants as events
use Rattle.zb_views.specs.View.{next_key}
use Rattle.zb_rules.specs.Making.{Making, just, and_then, each_made}
use Rattle.zb_rules.specs.Publish.{message_under, expiry_of, published_as, published}
use Rattle.zb_rules.specs.Starts.{starts_by, in_byte_order, started_of, starters}
use Rattle.zb_follow.specs.declared.starting.EachStarting.{EachStarting}
use Rattle.zb_instance_records.specs.declared.deployment.ProcessDefinition.{ProcessDefinition}
use Rattle.zb_views.specs.Processes.{processes}
use Rattle.zb_views.specs.Subscriptions.{wants_messages, subscription_sort, subscriptions, subscription_at}
use Rattle.zb_views.specs.declared.subscription.Subscription.{Subscription}
use Rattle.zb_views.proofs.StandingLaws.{standing_kept}
use Rattle.zb_rules.proofs.ProcessLaws.{processes_more}
use Rattle.zb_rules.specs.Correlate.{fits_message, correlating_event, correlated_by, correlated_all}
use Rattle.zb_step.specs.declared.correlate.EachCorrelating.{EachCorrelating}
use Rattle.zb_step.specs.Correlating.{correlating_as}
use Rattle.zb_step.specs.Starting.{starting_as}

-- what there is to start
abbrev pub made_of_starting : ℕ → Option EachStarting → Making
made_of_starting p starting before = option_map_or (λ s. each_made (started_of p s.message) s.processes.items before) starting []

-- it is what the message starts of these processes
starting_made : (p : ℕ) (starting : Option EachStarting) (m : MessagePublished) (ids : List (List ℕ)) (before : List Event) → starting_as starting m ids → made_of_starting p starting before ≡ each_made (started_of p m) ids before
starting_made p None m ids before none = ap (λ (l : List (List ℕ)). each_made (started_of p m) l before) (sym none)
starting_made p (Some s) m ids before is = ap (λ (x : MessagePublished). each_made (started_of p x) s.processes.items before) is.0 ∙ ap (λ (l : List (List ℕ)). each_made (started_of p m) l before) is.1

-- what there is to correlate
abbrev pub made_of_correlating : Option EachCorrelating → Making
made_of_correlating correlating before = option_map_or (λ s. each_made (correlated_by s.message) s.keys.items before) correlating []

-- it is what begins to correlate the message at these subscriptions
correlating_made : (correlating : Option EachCorrelating) (m : MessagePublished) (keys : List ℕ) (before : List Event) → correlating_as correlating m keys → made_of_correlating correlating before ≡ each_made (correlated_by m) keys before
correlating_made None m keys before none = ap (λ (l : List ℕ). each_made (correlated_by m) l before) (sym none)
correlating_made (Some s) m keys before is = ap (λ (x : MessagePublished). each_made (correlated_by x) s.keys.items before) is.0 ∙ ap (λ (l : List ℕ). each_made (correlated_by m) l before) is.1

-- it makes no process
one_same : (m : MessagePublished) (key : ℕ) (es : List Event) → processes (es ++ correlated_by m key es) ≡ processes es
one_same m key es = by_found (subscription_at key es)
  where
    none : processes (es ++ []) ≡ processes es
    none = ap processes (append-nil es)

    by_test : (s : Subscription) (t : Bool) → processes (es ++ (if t then correlating_event m s ∷ [] else [])) ≡ processes es
    by_test s false = none
    by_test s true = processes_more es (correlating_event m s) ∙ append-nil (processes es)

    by_found : (found : Option Subscription) → processes (es ++ option_map_or (λ (s : Subscription). if fits_message m s es then correlating_event m s ∷ [] else []) found []) ≡ processes es
    by_found None = none
    by_found (Some s) = by_test s (fits_message m s es)

each_same : (m : MessagePublished) (keys : List ℕ) (es : List Event) → processes (es ++ each_made (correlated_by m) keys es) ≡ processes es
each_same m [] es = ap processes (append-nil es)
each_same m (key ∷ keys) es =
    let made = correlated_by m key es in
    sym (ap processes (append_assoc es made (each_made (correlated_by m) keys (es ++ made)))) ∙ (each_same m keys (es ++ made) ∙ one_same m key es)

-- a message is published, begins to be correlated, starts what it may, and expires where it has no time to live
pub published_by : (p moment : ℕ) (es : List Event) (c : MessagePublish) (key : ℕ) (m : MessagePublished) (correlating : Option EachCorrelating) (starting : Option EachStarting) (expiry : Option Event)
    → key ≡ next_key p es → m ≡ message_under key moment c → correlating_as correlating m (map (λ s. s.key) (filter (wants_messages m.name m.correlation_key) (subscriptions es))) → starting_as starting m (starters m.name es)
    → option_map_or (λ e. e ∷ []) expiry [] ≡ expiry_of key c
    → and_then (just (events.MessagePublished m)) (and_then (made_of_correlating correlating) (and_then (made_of_starting p starting) (λ before. option_map_or (λ e. e ∷ []) expiry []))) es ≡ published p moment c es
published_by p moment es c key m correlating starting expiry next is waits starts expires =
    let e = events.MessagePublished m in
    let before = es ++ e ∷ [] in
    let keys : List Event → List ℕ = λ l. map (λ (s : Subscription). s.key) (filter (wants_messages m.name m.correlation_key) (subscriptions l)) in
    let cs = correlated_all m before in
    let later = before ++ cs in
    let same : subscriptions before ≡ subscriptions es = standing_kept subscription_sort es e (refl, λ s. refl, λ s. refl) in
    let begun : made_of_correlating correlating before ≡ cs =
    correlating_made correlating m (keys es) before waits ∙ ap (λ (ss : List Subscription). each_made (correlated_by m) (map (λ (s : Subscription). s.key) (filter (wants_messages m.name m.correlation_key) ss)) before) (sym same) in
    let ids : starters m.name later ≡ starters m.name es =
    ap (λ (made : List ProcessDefinition). in_byte_order [] (map (λ d. d.model.process) (filter (λ d. starts_by m.name d.model) made))) (each_same m (keys before) before ∙ (processes_more es e ∙ append-nil (processes es))) in
    let first : made_of_starting p starting later ≡ each_made (started_of p m) (starters m.name later) later =
    starting_made p starting m (starters m.name es) later starts ∙ ap (λ (l : List (List ℕ)). each_made (started_of p m) l later) (sym ids) in
    let its : key ≡ m.key = ap (λ (x : MessagePublished). x.key) (sym is) in
    let last : option_map_or (λ (x : Event). x ∷ []) expiry [] ≡ expiry_of m.key c = expires ∙ ap (λ (k : ℕ). expiry_of k c) its in
    let rest : List Event → List Event = λ made. made ++ (made_of_starting p starting (before ++ made) ++ option_map_or (λ (x : Event). x ∷ []) expiry []) in
    ap (λ (l : List Event). e ∷ rest l) begun
    ∙ (ap (λ (l : List Event). e ∷ (cs ++ (l ++ option_map_or (λ (x : Event). x ∷ []) expiry []))) first
    ∙ (ap (λ (l : List Event). e ∷ (cs ++ (each_made (started_of p m) (starters m.name later) later ++ l))) last
    ∙ (ap (λ (x : MessagePublished). published_as p x c es) is ∙ ap (λ (k : ℕ). published_as p (message_under k moment c) c es) next)))
