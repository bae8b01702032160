-- At most one of several; and that a message is correlated with a process at most once.
use Rattle.std.specs.Prelude.{◌≡◌, ℕ, ◌==◌, ◌&&◌, List, slice_get, Bool, false, Some, IsTrue}
use Rattle.std.specs.List.{list_any}
use Rattle.std.specs.Str.{bytes_eq}
use Rattle.zb_once.specs.Tellings.{Telling}
use Rattle.zb_once.specs.Tellings.Telling.{Defined, Started, Opens, Kept}
use Rattle.zb_once.specs.History.{Deed, all_tellings}

-- at most one of these passes the test: two places whose members do are one place (own)
abbrev pub AtMostOne : {A : Type 0} → (A → Bool) → List A → Type 0
AtMostOne {A} test xs = (i j : ℕ) (x y : A) → slice_get xs i ≡ Some x → slice_get xs j ≡ Some y → IsTrue (test x) → IsTrue (test y) → i ≡ j

-- a telling says that the subscription with this key opens for a process (own)
abbrev pub tells_opening : (subscription : ℕ) (process : List ℕ) → Telling → Bool
tells_opening subscription process (Opens key terms) = (key == subscription) && bytes_eq terms.process process
tells_opening subscription process _ = false

-- a telling says that the definition with this key is one of a process (own)
abbrev pub tells_definition : (definition : ℕ) (process : List ℕ) → Telling → Bool
tells_definition definition process (Defined key name) = (key == definition) && bytes_eq name process
tells_definition definition process _ = false

-- among all that was told, this correlates a message with a process: at a subscription that opened for it, or by a start of one of its definitions (Zeebe)
abbrev pub correlates_with : List Telling → (message : ℕ) (process : List ℕ) → Telling → Bool
correlates_with all message process (Kept subscription key) = (key == message) && list_any (tells_opening subscription process) all
correlates_with all message process (Started key definition) = (key == message) && list_any (tells_definition definition process) all
correlates_with all message process _ = false

-- a message is correlated with a process at most once, whatever the partitions are at which that happens (Zeebe; the exact form own)
abbrev pub CorrelatesOnce : List Deed → Type 0
CorrelatesOnce h = (message : ℕ) (process : List ℕ) → AtMostOne (correlates_with (all_tellings h) message process) (all_tellings h)
