-- What holds of messages behind each telling of a history, by which the law is proved; nobody has to believe it. `parts` is what each of n partitions has told so far, and `replies` are all replies so far.
use Rattle.std.specs.Prelude.{◌≡◌, ℕ, List, true, false, Some, Contains, ◌⊎◌, ◌↔◌}
use Rattle.zb_once.specs.Tellings.{Terms, Telling, Asking, home, seat}
use Rattle.zb_once.specs.Tellings.Telling.{Defined, Published, Expired, Started, Opened, Correlating, Opens, Kept, Closing, Gone}
use Rattle.zb_once.specs.Tellings.Asking.{Distribute, Create, Correlate, WasKept, Reject, Delete, IsDeleted}
use Rattle.zb_once.specs.Views.{task_of, is_locked, still_buffered}

-- a subscription has opened with these terms at its own partition (own)
abbrev pub HasTerms : (n : ℕ) → (ℕ → List Telling) → (subscription : ℕ) → Terms → Type 0
HasTerms n parts subscription terms = Contains (parts (home n subscription)) (Opens subscription terms)

-- a subscription has opened for a process (own)
abbrev pub IsForProcess : (n : ℕ) → (ℕ → List Telling) → (subscription : ℕ) (process : List ℕ) → Type 0
IsForProcess n parts subscription process = (terms : Terms) × HasTerms n parts subscription terms × (terms.process ≡ process)

-- a definition is one of a process, as the partition of its key tells (own)
abbrev pub IsDefinedAs : (n : ℕ) → (ℕ → List Telling) → (definition : ℕ) (process : List ℕ) → Type 0
IsDefinedAs n parts definition process = Contains (parts (home n definition)) (Defined definition process)

-- a subscription has closed at its own partition (own)
abbrev pub HasClosed : (n : ℕ) → (ℕ → List Telling) → (subscription : ℕ) → Type 0
HasClosed n parts subscription = (correlation_key : List ℕ) × (keys : List ℕ) × Contains (parts (home n subscription)) (Closing subscription correlation_key keys)

-- a subscription is correlating a message where that lives (own)
abbrev pub IsCorrelating : (n : ℕ) → (ℕ → List Telling) → (subscription message : ℕ) → Type 0
IsCorrelating n parts subscription message = task_of subscription (parts (home n message)) ≡ Some message

-- a subscription has begun to correlate a message where that lives (own)
abbrev pub HasBegun : (n : ℕ) → (ℕ → List Telling) → (subscription message : ℕ) → Type 0
HasBegun n parts subscription message = Contains (parts (home n message)) (Correlating subscription message)

-- a subscription has kept a message at its own partition (own)
abbrev pub HasKept : (n : ℕ) → (ℕ → List Telling) → (subscription message : ℕ) → Type 0
HasKept n parts subscription message = Contains (parts (home n subscription)) (Kept subscription message)

-- a message has started an instance of a process (own)
abbrev pub HasStarted : (n : ℕ) → (ℕ → List Telling) → (message : ℕ) (process : List ℕ) → Type 0
HasStarted n parts message process = (definition : ℕ) × Contains (parts (home n message)) (Started message definition) × IsDefinedAs n parts definition process

-- nobody else of a process may have the message: it is locked for that, or has expired (own)
abbrev pub IsClaimed : (n : ℕ) → (ℕ → List Telling) → (message : ℕ) (process : List ℕ) → Type 0
IsClaimed n parts message process = (is_locked message process (parts (home n message)) ≡ true) ⊎ Contains (parts (home n message)) (Expired message)

-- what holds of messages behind each telling of a history; s and x are subscriptions, m a message, d a definition and q a partition (own)
pub record KeepsMessages (n : ℕ) (parts : ℕ → List Telling) (replies : List Asking) : Type 0 where
  -- where a thing is told of, and by what it came there
  pub opens_home : (q s : ℕ) (terms : Terms) → Contains (parts q) (Opens s terms) → q ≡ home n s
  pub opens_once : (s : ℕ) (terms other : Terms) → HasTerms n parts s terms → HasTerms n parts s other → terms ≡ other
  pub opened : (q s : ℕ) (terms : Terms) → Contains (parts q) (Opened s terms) → HasTerms n parts s terms × (q ≡ seat n terms.correlation_key)
  pub published_home : (q m : ℕ) → Contains (parts q) (Published m) → q ≡ home n m
  pub expired : (q m : ℕ) → Contains (parts q) (Expired m) → (still_buffered m (parts q) ≡ false) × Contains (parts q) (Published m)
  pub begun : (q s m : ℕ) → Contains (parts q) (Correlating s m) → (q ≡ home n m) × (terms : Terms) × Contains (parts q) (Opened s terms)
  pub defined : (q d : ℕ) (process : List ℕ) → Contains (parts q) (Defined d process) → IsDefinedAs n parts d process
  pub defined_once : (d : ℕ) (process other : List ℕ) → IsDefinedAs n parts d process → IsDefinedAs n parts d other → process ≡ other
  pub started : (q m d : ℕ) → Contains (parts q) (Started m d) → (q ≡ home n m) × (process : List ℕ) × IsDefinedAs n parts d process
  pub kept : (q s m : ℕ) → Contains (parts q) (Kept s m) → (q ≡ home n s) × HasBegun n parts s m
  pub closing : (q s : ℕ) (correlation_key keys : List ℕ) → Contains (parts q) (Closing s correlation_key keys)
      → (q ≡ home n s) × ((terms : Terms) × HasTerms n parts s terms × (terms.correlation_key ≡ correlation_key)) × ((m : ℕ) → Contains keys m ↔ HasKept n parts s m)
  pub gone : (q s : ℕ) → Contains (parts q) (Gone s) → Contains replies (IsDeleted s)
  -- what a reply says
  pub acknowledged : (s m : ℕ) → Contains replies (WasKept s m) → HasKept n parts s m
  pub refused : (s m : ℕ) → Contains replies (Reject s m) → HasClosed n parts s × (HasKept n parts s m → IsCorrelating n parts s m → ⊥)
  pub freed : (s : ℕ) → Contains replies (IsDeleted s) → HasClosed n parts s × ((m : ℕ) → HasKept n parts s m → IsCorrelating n parts s m → ⊥)
  -- what is correlated is claimed
  pub kept_claimed : (s m : ℕ) (process : List ℕ) → HasKept n parts s m → IsForProcess n parts s process → IsClaimed n parts m process
  pub start_claimed : (m : ℕ) (process : List ℕ) → HasStarted n parts m process → IsClaimed n parts m process
  pub task_claimed : (s m : ℕ) (process : List ℕ) → IsCorrelating n parts s m → IsForProcess n parts s process → IsClaimed n parts m process
  -- where s is correlating m, nobody else of its process is or has, or will have
  pub no_start : (s m : ℕ) (process : List ℕ) → IsCorrelating n parts s m → IsForProcess n parts s process → HasStarted n parts m process → ⊥
  pub alone_now : (s x m : ℕ) (process : List ℕ) → IsCorrelating n parts s m → IsForProcess n parts s process → IsCorrelating n parts x m → IsForProcess n parts x process → x ≡ s
  pub alone_kept : (s x m : ℕ) (process : List ℕ) → IsCorrelating n parts s m → IsForProcess n parts s process → HasKept n parts x m → IsForProcess n parts x process → x ≡ s
  pub alone_begun : (s x m : ℕ) (process : List ℕ) → IsCorrelating n parts s m → IsForProcess n parts s process → HasBegun n parts x m → IsForProcess n parts x process → (x ≡ s) ⊎ HasClosed n parts x
  -- who began to correlate m has kept it, or has closed, or still does
  pub outcome : (s m : ℕ) → HasBegun n parts s m → HasKept n parts s m ⊎ (HasClosed n parts s ⊎ IsCorrelating n parts s m)

-- what is known of that which partition p is asked: somebody sent it, and what that rests on stands (own)
abbrev pub IsBacked : (n : ℕ) → (ℕ → List Telling) → List Asking → ℕ → Asking → Type 0
IsBacked n parts replies p (Distribute definition process) = IsDefinedAs n parts definition process
IsBacked n parts replies p (Create subscription terms) = HasTerms n parts subscription terms × (p ≡ seat n terms.correlation_key)
IsBacked n parts replies p (Correlate subscription message) = HasBegun n parts subscription message × (p ≡ home n subscription)
IsBacked n parts replies p (WasKept subscription message) = Contains replies (WasKept subscription message)
IsBacked n parts replies p (Reject subscription message) = Contains replies (Reject subscription message)
IsBacked n parts replies p (Delete subscription keys) = (correlation_key : List ℕ) × Contains (parts (home n subscription)) (Closing subscription correlation_key keys) × (p ≡ seat n correlation_key)
IsBacked n parts replies p (IsDeleted subscription) = Contains replies (IsDeleted subscription)
IsBacked n parts replies p _ = Unit {0}
