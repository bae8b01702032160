-- What a step may do to messages: what it may tell, by what was told before at its partition and by what was asked of it, and what it may reply.
use Rattle.std.specs.Prelude.{◌≡◌, ℕ, List, [], ◌∷◌, ◌++◌, true, false, Option, Some, None, Contains, ◌⊎◌, ◌↔◌}
use Rattle.zb_once.specs.Tellings.{Terms, Telling, Asking, Refusal, home}
use Rattle.zb_once.specs.Tellings.Telling.{Defined, Published, Expired, Started, Opened, Correlating, Correlated, Rejected, Deleted, Opens, Kept, Closing, Gone}
use Rattle.zb_once.specs.Tellings.Asking.{Distribute, Create, IsCreated, Correlate, WasKept, Reject, Delete, IsDeleted}
use Rattle.zb_once.specs.Tellings.Refusal.{NoSubscription, WasCorrelated, BeingDeleted}
use Rattle.zb_once.specs.Views.{defined_process, terms_of, is_there, task_of, is_locked, still_buffered}

-- a definition gets a key that no other here has: one of partition p of n, or the one that is asked, with its process (Zeebe; the exact form own)
abbrev pub MayDefine : (n p : ℕ) → List Telling → Asking → (definition : ℕ) (process : List ℕ) → Type 0
MayDefine n p before asked definition process =
    ((home n definition ≡ p) ⊎ (asked ≡ Distribute definition process)) × ((other : List ℕ) → Contains before (Defined definition other) → ⊥)

-- an instance is started by a buffered message that isn't locked for the definition's process (Zeebe)
abbrev pub MayStart : List Telling → (message definition : ℕ) → Type 0
MayStart before message definition =
    (process : List ℕ) × (defined_process definition before ≡ Some process) × (still_buffered message before ≡ true) × (is_locked message process before ≡ false)

-- a subscription that is there and correlates nothing begins to correlate a buffered message that isn't locked for its process (Zeebe)
abbrev pub MayBegin : List Telling → (subscription message : ℕ) → Type 0
MayBegin before subscription message =
    (terms : Terms) × (terms_of subscription before ≡ Some terms) × (is_there subscription before ≡ true) × (task_of subscription before ≡ None)
    × (still_buffered message before ≡ true) × (is_locked message terms.process before ≡ false)

-- a subscription gives up the message that it is correlating: that is asked, or that it be deleted, with keys of which this is none (Zeebe)
abbrev pub MayGiveUp : List Telling → Asking → (subscription message : ℕ) → Type 0
MayGiveUp before asked subscription message =
    (task_of subscription before ≡ Some message) × ((asked ≡ Reject subscription message) ⊎ (keys : List ℕ) × (asked ≡ Delete subscription keys) × (Contains keys message → ⊥))

-- a subscription keeps the message that is asked, where it hasn't kept that and doesn't close (Zeebe)
abbrev pub MayKeep : List Telling → Asking → (subscription message : ℕ) → Type 0
MayKeep before asked subscription message =
    (asked ≡ Correlate subscription message) × ((correlation_key keys : List ℕ) → Contains before (Closing subscription correlation_key keys) → ⊥)
    × (Contains before (Kept subscription message) → ⊥)

-- a subscription closes with the keys of just the messages that it has kept, and with the correlation key with which it opened (Zeebe; the keys own)
abbrev pub MayClose : List Telling → (subscription : ℕ) (correlation_key keys : List ℕ) → Type 0
MayClose before subscription correlation_key keys =
    (terms : Terms) × Contains before (Opens subscription terms) × (terms.correlation_key ≡ correlation_key)
    × ((message : ℕ) → Contains keys message ↔ Contains before (Kept subscription message))

-- what a step of partition p of n may tell behind what that has told, where this is asked of it (Zeebe; the exact form own)
abbrev pub May : (n p : ℕ) → List Telling → Asking → Telling → Type 0
May n p before asked (Defined definition process) = MayDefine n p before asked definition process
May n p before asked (Published message) = (home n message ≡ p) × (Contains before (Published message) → ⊥)
May n p before asked (Expired message) = still_buffered message before ≡ true
May n p before asked (Started message definition) = MayStart before message definition
May n p before asked (Opened subscription terms) = (asked ≡ Create subscription terms) × (task_of subscription before ≡ None)
May n p before asked (Correlating subscription message) = MayBegin before subscription message
May n p before asked (Correlated subscription message) = (asked ≡ WasKept subscription message) × (task_of subscription before ≡ Some message)
May n p before asked (Rejected subscription message) = MayGiveUp before asked subscription message
May n p before asked (Deleted subscription) = (keys : List ℕ) × (asked ≡ Delete subscription keys)
May n p before asked (Opens subscription terms) = (home n subscription ≡ p) × ((other : Terms) → Contains before (Opens subscription other) → ⊥)
May n p before asked (Kept subscription message) = MayKeep before asked subscription message
May n p before asked (Closing subscription correlation_key keys) = MayClose before subscription correlation_key keys
May n p before asked (Gone subscription) = asked ≡ IsDeleted subscription
May n p before asked _ = Unit {0}

-- it may tell each of these, behind those before it (own)
abbrev pub EachMay : (n p : ℕ) → List Telling → Asking → List Telling → Type 0
EachMay n p before asked [] = Unit {0}
EachMay n p before asked (e ∷ es) = May n p before asked e × EachMay n p (before ++ e ∷ []) asked es

-- the replies to what is asked, where it is refused or not (Zeebe, the records)
abbrev pub replies_to : Asking → Option Refusal → List Asking
replies_to (Create subscription terms) refusal = IsCreated subscription ∷ []
replies_to (Correlate subscription message) None = WasKept subscription message ∷ []
replies_to (Correlate subscription message) (Some WasCorrelated) = WasKept subscription message ∷ []
replies_to (Correlate subscription message) (Some NoSubscription) = Reject subscription message ∷ []
replies_to (Correlate subscription message) (Some BeingDeleted) = Reject subscription message ∷ []
replies_to (Delete subscription keys) refusal = IsDeleted subscription ∷ []
replies_to _ refusal = []

-- a subscription isn't there at its own partition: it didn't open, or it is gone (own)
abbrev pub IsNowhere : ℕ → List Telling → Type 0
IsNowhere subscription es = ((terms : Terms) → Contains es (Opens subscription terms) → ⊥) ⊎ Contains es (Gone subscription)

-- a subscription closes, and hasn't kept the message (own)
abbrev pub ClosesWithout : (subscription message : ℕ) → List Telling → Type 0
ClosesWithout subscription message es = ((correlation_key : List ℕ) × (keys : List ℕ) × Contains es (Closing subscription correlation_key keys)) × (Contains es (Kept subscription message) → ⊥)

-- what a step of which this is asked may reply, by what its partition has told behind it (Zeebe; the exact form own)
abbrev pub MayAnswer : List Telling → (asked reply : Asking) → Type 0
MayAnswer after asked (WasKept subscription message) = Contains after (Kept subscription message)
MayAnswer after asked (Reject subscription message) = (asked ≡ Correlate subscription message) × (IsNowhere subscription after ⊎ ClosesWithout subscription message after)
MayAnswer after asked (IsDeleted subscription) = (keys : List ℕ) × (asked ≡ Delete subscription keys) × (task_of subscription after ≡ None)
MayAnswer after asked _ = Unit {0}

-- a step of partition p of n, behind what that has told, does to messages what it may: it is asked this, refuses it or not, and tells that (own)
pub record IsMessageStep (n p : ℕ) (before : List Telling) (asked : Asking) (refusal : Option Refusal) (told : List Telling) : Type 0 where
  -- it may tell each of these
  pub each : EachMay n p before asked told
  -- and reply what it replies
  pub answers : (reply : Asking) → Contains (replies_to asked refusal) reply → MayAnswer (before ++ told) asked reply
