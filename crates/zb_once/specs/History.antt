-- Histories of messages: what the steps of all partitions do to them in one list, by the order in which they were committed, and the letters that they send one another.
use Rattle.std.specs.Prelude.{◌≡◌, ◌≤◌, ◌<◌, ℕ, ◌==◌, List, [], ◌∷◌, ◌++◌, length, slice_get, map, filter, Bool, true, false, if◌then◌else◌, Option, Some, Contains, IsTrue}
use Rattle.std.specs.List.{flat_map}
use Rattle.zb_record.specs.Partitions.{partition_known}
use Rattle.zb_rules.specs.Step.{EachOn}
use Rattle.zb_once.specs.Tellings.{Telling, Asking, Refusal, home, seat}
use Rattle.zb_once.specs.Tellings.Telling.{Defined, Distributing, Correlating, Opens, Closing}
use Rattle.zb_once.specs.Tellings.Asking.{Distribute, Create, IsCreated, Correlate, WasKept, Reject, Delete, IsDeleted}
use Rattle.zb_once.specs.May.{replies_to, IsMessageStep}

-- what a batch of a partition does to messages: what it is asked, on how many deeds before it that rests, whether it refuses it, and what it tells (own)
pub record Deed : Type 0 where
  pub partition : ℕ
  pub begin : ℕ
  pub asked : Asking
  pub refusal : Option Refusal
  pub told : List Telling

-- what is asked of a partition by another one (own)
pub record Letter : Type 0 where
  pub to : ℕ
  pub asked : Asking

-- the deed is one of partition p (own)
abbrev pub is_deed_at : ℕ → Deed → Bool
is_deed_at p deed = deed.partition == p

-- what partition p has told, in order (own)
abbrev pub tellings_at : List Deed → ℕ → List Telling
tellings_at h p = flat_map (λ (deed : Deed). deed.told) (filter (is_deed_at p) h)

-- all that was told, in order (own)
abbrev pub all_tellings : List Deed → List Telling
all_tellings h = flat_map (λ (deed : Deed). deed.told) h

-- the letter by which a definition goes to a partition, where this tells its process (own)
abbrev pub letter_of_definition : (definition to : ℕ) → Telling → List Letter
letter_of_definition definition to (Defined key process) = if key == definition then record { to = to; asked = Distribute definition process } ∷ [] else []
letter_of_definition definition to _ = []

-- the letters that a telling sends at one of n partitions: a definition goes where it is told, with a process that its deed tells, a subscription to the home of its messages, a message to the partition of its subscription (Zeebe, the records)
abbrev pub letters_told : ℕ → List Telling → Telling → List Letter
letters_told n told (Distributing definition to) = flat_map (letter_of_definition definition (partition_known n to)) told
letters_told n told (Opens subscription terms) = record { to = seat n terms.correlation_key; asked = Create subscription terms } ∷ []
letters_told n told (Correlating subscription message) = record { to = home n subscription; asked = Correlate subscription message } ∷ []
letters_told n told (Closing subscription correlation_key keys) = record { to = seat n correlation_key; asked = Delete subscription keys } ∷ []
letters_told n told _ = []

-- the partition to which a reply goes, of n of them: of a subscription to its own, of a message to that of the message (Zeebe, the records)
abbrev pub address_of : ℕ → Asking → ℕ
address_of n (IsCreated subscription) = home n subscription
address_of n (WasKept subscription message) = home n message
address_of n (Reject subscription message) = home n message
address_of n (IsDeleted subscription) = home n subscription
address_of n _ = 1

-- the replies of a deed (own)
abbrev pub replies_by : Deed → List Asking
replies_by deed = replies_to deed.asked deed.refusal

-- the letter with a reply of one of n partitions (own)
abbrev pub reply_letter : ℕ → Asking → Letter
reply_letter n reply = record { to = address_of n reply; asked = reply }

-- the letters that a deed of one of n partitions sends: those of what it tells, and its replies (own)
abbrev pub letters_by : ℕ → Deed → List Letter
letters_by n deed = flat_map (letters_told n deed.told) deed.told ++ map (reply_letter n) (replies_by deed)

-- a partition is asked this by letters alone (own)
abbrev pub is_by_letter : Asking → Bool
is_by_letter (Distribute definition process) = true
is_by_letter (Create subscription terms) = true
is_by_letter (IsCreated subscription) = true
is_by_letter (Correlate subscription message) = true
is_by_letter (WasKept subscription message) = true
is_by_letter (Reject subscription message) = true
is_by_letter (Delete subscription keys) = true
is_by_letter (IsDeleted subscription) = true
is_by_letter _ = false

-- of these deeds of n partitions one at a place below this one sent the letter (own)
pub record IsPostedAmong (n : ℕ) (deeds : List Deed) (below : ℕ) (letter : Letter) : Type 0 where
  pub place : ℕ
  pub sender : Deed
  pub at : slice_get deeds place ≡ Some sender
  pub before : place < below
  pub sends : Contains (letters_by n sender) letter

-- what a deed is asked was sent to its partition by a letter, by one of these deeds on which it rests (own)
pub record WasPosted (n : ℕ) (before : List Deed) (deed : Deed) : Type 0 where
  pub letter : Letter
  pub posted : IsPostedAmong n before deed.begin letter
  pub to : letter.to ≡ deed.partition
  pub asked : letter.asked ≡ deed.asked

-- behind these deeds of n partitions this may be the next one (own)
pub record IsNextDeed (n : ℕ) (before : List Deed) (deed : Deed) : Type 0 where
  -- it is a message step of its partition on what that one has told
  pub step : IsMessageStep n deed.partition (tellings_at before deed.partition) deed.asked deed.refusal deed.told
  -- and rests on no more deeds than there are
  pub begin : deed.begin ≤ length before
  -- what a partition is asked by letters alone, one of the deeds on which it rests sent
  pub letter : IsTrue (is_by_letter deed.asked) → WasPosted n before deed

-- a history of messages at n partitions: each deed may be the next one behind those before it (own)
abbrev pub IsMessageHistory : ℕ → List Deed → Type 0
IsMessageHistory n h = EachOn (IsNextDeed n) [] h
