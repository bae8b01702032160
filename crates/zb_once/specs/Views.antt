-- What a partition has told of messages and subscriptions: queries over all that it has told.
use Rattle.std.specs.Prelude.{ℕ, ◌==◌, ◌&&◌, ◌||◌, not, if◌then◌else◌, List, [], ◌∷◌, ◌++◌, Bool, true, false, Option, Some, None}
use Rattle.std.specs.Option.{option_map_or, option_or}
use Rattle.std.specs.List.{list_any}
use Rattle.std.specs.Str.{bytes_eq}
use Rattle.zb_once.specs.Tellings.{Terms, Telling}
use Rattle.zb_once.specs.Tellings.Telling.{Defined, Published, Expired, Started, Opened, Correlating, Correlated, Rejected, Deleted}

-- what the last one says that says something (own)
abbrev pub said_last : {A : Type 0} → (Telling → Option A) → List Telling → Option A
said_last says [] = None
said_last says (e ∷ es) = option_or (said_last says es) (says e)

-- what is said of a thing, where this key is its own (own)
abbrev pub said_about : {A : Type 0} → (thing key : ℕ) → A → Option A
said_about thing key said = if thing == key then Some said else None

-- the terms with which a subscription is opened, if it is (own)
abbrev pub terms_told : ℕ → Telling → Option Terms
terms_told subscription (Opened key terms) = said_about subscription key terms
terms_told subscription _ = None

-- the terms with which a subscription was opened last at the home of its messages (Zeebe)
abbrev pub terms_of : ℕ → List Telling → Option Terms
terms_of subscription es = said_last (terms_told subscription) es

-- a subscription ends with the first message that it has correlated (Zeebe)
abbrev pub cancels : ℕ → List Telling → Bool
cancels subscription es = option_map_or (λ terms. terms.cancel) (terms_of subscription es) false

-- whether a subscription is there, as a telling says, where it does or doesn't end with its first message (Zeebe)
abbrev pub presence_told : ℕ → Bool → Telling → Option Bool
presence_told subscription cancel (Opened key terms) = said_about subscription key true
presence_told subscription cancel (Correlated key message) = if cancel then said_about subscription key false else None
presence_told subscription cancel (Rejected key message) = said_about subscription key false
presence_told subscription cancel (Deleted key) = said_about subscription key false
presence_told subscription cancel _ = None

-- a subscription is there at the home of its messages: since it was opened last it has given up none, wasn't deleted, and has correlated none with which it ends (Zeebe)
abbrev pub is_there : ℕ → List Telling → Bool
is_there subscription es = option_map_or (λ there. there) (said_last (presence_told subscription (cancels subscription es)) es) false

-- which message a subscription is correlating, or that it is none, as a telling says (Zeebe)
abbrev pub task_told : ℕ → Telling → Option (Option ℕ)
task_told subscription (Opened key terms) = said_about subscription key None
task_told subscription (Correlating key message) = said_about subscription key (Some message)
task_told subscription (Correlated key message) = said_about subscription key None
task_told subscription (Rejected key message) = said_about subscription key None
task_told subscription _ = None

-- the message that a subscription is correlating: it is there, and what it began last isn't over (Zeebe)
abbrev pub task_of : ℕ → List Telling → Option ℕ
task_of subscription es = if is_there subscription es then option_map_or (λ task. task) (said_last (task_told subscription) es) None else None

-- a subscription was opened for this process (own)
abbrev pub is_for_process : ℕ → List ℕ → List Telling → Bool
is_for_process subscription process es = option_map_or (λ terms. bytes_eq terms.process process) (terms_of subscription es) false

-- the process of which a definition is made, if it is (own)
abbrev pub defined_told : ℕ → Telling → Option (List ℕ)
defined_told definition (Defined key process) = said_about definition key process
defined_told definition _ = None

-- the process of a definition (Zeebe)
abbrev pub defined_process : ℕ → List Telling → Option (List ℕ)
defined_process definition es = said_last (defined_told definition) es

-- a definition is one of this process (own)
abbrev pub is_defined_for : ℕ → List ℕ → List Telling → Bool
is_defined_for definition process es = option_map_or (λ name. bytes_eq name process) (defined_process definition es) false

-- whether a message is locked for a process behind a telling, where it was so or not before (Zeebe)
abbrev pub lock_by : List Telling → (message : ℕ) (process : List ℕ) → Telling → Bool → Bool
lock_by before message process (Started key definition) was = if (key == message) && is_defined_for definition process before then true else was
lock_by before message process (Correlating subscription key) was = if (key == message) && is_for_process subscription process before then true else was
lock_by before message process (Rejected subscription key) was = if (key == message) && is_for_process subscription process before then false else was
lock_by before message process (Expired key) was = if key == message then false else was
lock_by before message process _ was = was

-- whether a message is locked for a process behind these, which stand behind others, where it was so or not before (own)
abbrev pub lock_behind : List Telling → Bool → (message : ℕ) (process : List ℕ) → List Telling → Bool
lock_behind before was message process [] = was
lock_behind before was message process (e ∷ es) = lock_behind (before ++ e ∷ []) (lock_by before message process e was) message process es

-- a message is locked for a process: a subscription for that has begun to correlate it, or it has started an instance of that, and after that none for it has given it up, and it hasn't expired (Zeebe)
abbrev pub is_locked : (message : ℕ) (process : List ℕ) → List Telling → Bool
is_locked message process es = lock_behind [] false message process es

-- a telling publishes the message (own)
abbrev pub publishes : ℕ → Telling → Bool
publishes message (Published key) = key == message
publishes message _ = false

-- by a telling the message expires (own)
abbrev pub expires : ℕ → Telling → Bool
expires message (Expired key) = key == message
expires message _ = false

-- a message is buffered: it was published, and hasn't expired after (Zeebe)
abbrev pub still_buffered : ℕ → List Telling → Bool
still_buffered message [] = false
still_buffered message (e ∷ after) = (publishes message e && not (list_any (expires message) after)) || still_buffered message after
