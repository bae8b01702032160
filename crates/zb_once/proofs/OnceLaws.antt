-- In a history of messages each is correlated with a process at most once.
use Rattle.std.proofs.Common.{◌≡◌, Bool, ℕ, ◌==◌, List, [], ◌∷◌, ◌++◌, if◌then◌else◌, filter, map, slice_get, true, false, IsTrue, Option, Some, None, Contains, ◌⊎◌, inl, inr, refl, sym, ap, ◌∙◌, subst, append-nil, append_assoc, arith}
use Rattle.std.specs.List.{flat_map, list_any}
use Rattle.std.specs.Str.{bytes_eq}
use Rattle.std.proofs.lemmas.Bool.{cases_eq, and_parts}
use Rattle.std.proofs.lemmas.Bool.Decides.{nat_tests}
use Rattle.std.proofs.lemmas.Grind.{flat_map-append}
use Rattle.std.proofs.lemmas.List.Elements.{Contains-append_left, Contains-append_cases, Contains-push_cases, filter-append}
use Rattle.zb_record.specs.Partitions.{partition_known}
use Rattle.zb_rules.proofs.StepLaws.{each_on_all}
use Rattle.zb_once.specs.Tellings.{Terms, Telling, Asking, Refusal, home, seat}
use Rattle.zb_once.specs.Tellings.Telling.{Defined, Distributing, Published, Expired, Started, Opened, Correlating, Opens, Kept, Closing, Gone}
use Rattle.zb_once.specs.Tellings.Asking.{Distribute, Create, IsCreated, Correlate, WasKept, Reject, Delete, IsDeleted}
use Rattle.zb_once.specs.Tellings.Refusal.{NoSubscription, WasCorrelated, BeingDeleted}
use Rattle.zb_once.specs.Views.{task_of}
use Rattle.zb_once.specs.May.{May, EachMay, replies_to, IsNowhere, ClosesWithout, MayAnswer}
use Rattle.zb_once.specs.History.{Deed, Letter, is_deed_at, tellings_at, all_tellings, letter_of_definition, letters_told, address_of, replies_by, reply_letter, is_by_letter, WasPosted, IsNextDeed, IsMessageHistory}
use Rattle.zb_once.specs.Once.{tells_opening, tells_definition, correlates_with, CorrelatesOnce}
use Rattle.zb_once.specs.Keeps.{IsForProcess, IsDefinedAs, HasClosed, IsCorrelating, HasKept, HasStarted, KeepsMessages, IsBacked}
use Rattle.zb_once.proofs.ListLemmas.{nothing_in, the_one, among, placed_or_last, flat_in, flat_out, filter_in, map_out, passing}
use Rattle.zb_once.proofs.ViewLaws.{task_stands, eq_true, text_true}
use Rattle.zb_once.proofs.KeepLaws.{Further, stands_on, stands_now, begun_for, keeping, defined_back, starting_free, keeps_more, backed_on}

-- by it m is correlated with the process
abbrev IsCorrelation : (n : ℕ) → (ℕ → List Telling) → (m : ℕ) (process : List ℕ) → Telling → Type 0
IsCorrelation n parts m process (Kept s k) = (k ≡ m) × IsForProcess n parts s process
IsCorrelation n parts m process (Started k d) = (k ≡ m) × IsDefinedAs n parts d process
IsCorrelation n parts m process _ = ⊥

-- all that was told stands at a partition, and correlates each message with a process at most once
record Happened (n : ℕ) (parts : ℕ → List Telling) (all : List Telling) : Type 0 where
  stands : (x : Telling) → Contains all x → (q : ℕ) × Contains (parts q) x
  once : (m : ℕ) (process : List ℕ) (i j : ℕ) (x y : Telling) → slice_get all i ≡ Some x → slice_get all j ≡ Some y → IsCorrelation n parts m process x → IsCorrelation n parts m process y → i ≡ j

-- what holds behind each telling
record Stage (n : ℕ) (parts : ℕ → List Telling) (replies : List Asking) (all : List Telling) : Type 0 where
  keeps : KeepsMessages n parts replies
  happened : Happened n parts all

-- one telling more
module _ {n : ℕ} {parts grown : ℕ → List Telling} {replies : List Asking} {p : ℕ} {asked : Asking} {e : Telling} (f : Further n parts grown replies p asked e) (all : List Telling) (h : Happened n parts all) where
  -- all that was told stands at a partition
  stands_more : (x : Telling) → Contains (all ++ e ∷ []) x → (q : ℕ) × Contains (grown q) x
  stands_more x is = elim (Contains-push_cases all e x is) [
    | inl old ↦ let before = h.stands x old in (before.0, stands_on f before.0 x before.1)
    | inr one ↦ (p, subst (Contains (grown p)) one (stands_now f p refl))
  ]

  -- a process has a message: a subscription of it has kept that, or the message has started an instance of it
  abbrev Has : (m : ℕ) (process : List ℕ) → Type 0
  Has m process = ((s : ℕ) × HasKept n parts s m × IsForProcess n parts s process) ⊎ HasStarted n parts m process

  -- what kept a message has it at its own partition
  kept_there : (s m : ℕ) → Contains all (Kept s m) → HasKept n parts s m
  kept_there s m is = let at = h.stands (Kept s m) is in subst (λ (q : ℕ). Contains (parts q) (Kept s m)) (f.keeps.kept at.0 s m at.1).0 at.1

  -- what started an instance did where the message lives
  started_there : (m d : ℕ) → Contains all (Started m d) → Contains (parts (home n m)) (Started m d)
  started_there m d is = let at = h.stands (Started m d) is in subst (λ (q : ℕ). Contains (parts q) (Started m d)) (f.keeps.started at.0 m d at.1).0 at.1

  -- what was told before correlates what it did
  correlates_back : (m : ℕ) (process : List ℕ) (x : Telling) → Contains all x → IsCorrelation n grown m process x → IsCorrelation n parts m process x
  correlates_back m process (Kept s k) is (same, its) = (same, begun_for f s k process (f.keeps.kept (home n s) s k (kept_there s k is)).1 its)
  correlates_back m process (Started k d) is (same, its) = let known = f.keeps.started (home n k) k d (started_there k d is) in (same, defined_back f d process known.1 known.2 its)
  correlates_back m process _ is its = its

  -- and the process has what that did
  has_by : (m : ℕ) (process : List ℕ) (x : Telling) → Contains all x → IsCorrelation n parts m process x → Has m process
  has_by m process (Kept s k) is (same, its) = inl (s, subst (HasKept n parts s) same (kept_there s k is), its)
  has_by m process (Started k d) is (same, its) = inr (d, subst (λ (y : ℕ). Contains (parts (home n y)) (Started y d)) same (started_there k d is), its)
  has_by m process _ is its = absurd its

  -- the one more correlates no message with a process that has it
  clash : (m : ℕ) (process : List ℕ) (y : Telling) → y ≡ e → IsCorrelation n grown m process y → Has m process → ⊥
  clash m process (Kept s k) is (same, its) has =
      let now : Kept s m ≡ e = subst (λ (y : ℕ). Kept s y ≡ e) same is in
      let keeps = keeping f s m now in
      let before = begun_for f s m process keeps.begun its in
      elim (has) [
        | inl (x, kept, its_too) ↦ keeps.fresh (subst (λ (y : ℕ). HasKept n parts y m) (f.keeps.alone_kept s x m process keeps.task before kept its_too) kept)
        | inr started ↦ f.keeps.no_start s m process keeps.task before started
      ]
  clash m process (Started k d) is (same, its) has =
      let now : Started m d ≡ e = subst (λ (y : ℕ). Started y d ≡ e) same is in
      starting_free f m d process now its (elim (has) [
        | inl (x, kept, its_too) ↦ f.keeps.kept_claimed x m process kept its_too
        | inr started ↦ f.keeps.start_claimed m process started
      ])
  clash m process _ is its has = its

  -- so a message is correlated at most once behind the one more
  once_more : (m : ℕ) (process : List ℕ) (i j : ℕ) (x y : Telling) → slice_get (all ++ e ∷ []) i ≡ Some x → slice_get (all ++ e ∷ []) j ≡ Some y → IsCorrelation n grown m process x → IsCorrelation n grown m process y → i ≡ j
  once_more m process i j x y here there its its_too = elim (placed_or_last all e i x here) [
    | inl old ↦
        let before = correlates_back m process x (among all i x old) its in
        elim (placed_or_last all e j y there) [
          | inl old_too ↦ h.once m process i j x y old old_too before (correlates_back m process y (among all j y old_too) its_too)
          | inr (end, now) ↦ absurd (clash m process y now its_too (has_by m process x (among all i x old) before))
        ]
    | inr (end, now) ↦ elim (placed_or_last all e j y there) [
      | inl old ↦ absurd (clash m process x now its (has_by m process y (among all j y old) (correlates_back m process y (among all j y old) its_too)))
      | inr (end_too, too) ↦ end ∙ sym end_too
    ]
  ]

  -- and both hold behind it
  happened_more : Happened n grown (all ++ e ∷ [])
  happened_more = record { stands = stands_more; once = once_more }

-- partition p tells some more
abbrev put : (ℕ → List Telling) → ℕ → List Telling → ℕ → List Telling
put parts p es q = if q == p then parts q ++ es else parts q

-- at p that is behind what it has told
put_here : (parts : ℕ → List Telling) (p q : ℕ) (es : List Telling) → q ≡ p → put parts p es q ≡ parts q ++ es
put_here parts p q es same = let its : (q == p) ≡ true = grind (arith, nat_tests, same) in rw its refl

-- at another nothing is
put_else : (parts : ℕ → List Telling) (p q : ℕ) (es : List Telling) → (q ≡ p → ⊥) → put parts p es q ≡ parts q
put_else parts p q es other = let out : (q == p) ≡ false = grind (arith, nat_tests, other) in rw out refl

-- and one more behind them
put_more : (parts : ℕ → List Telling) (p : ℕ) (es : List Telling) (e : Telling) → put parts p (es ++ e ∷ []) p ≡ put parts p es p ++ e ∷ []
put_more parts p es e = put_here parts p p (es ++ e ∷ []) refl ∙ (sym (append_assoc (parts p) es (e ∷ [])) ∙ ap (λ (xs : List Telling). xs ++ e ∷ []) (sym (put_here parts p p es refl)))

-- what a deed tells, one after the other
each_holds : (n : ℕ) (parts : ℕ → List Telling) (replies : List Asking) (all : List Telling) (p : ℕ) (asked : Asking) (es more : List Telling) → Stage n (put parts p es) replies (all ++ es) → IsBacked n (put parts p es) replies p asked
    → EachMay n p (parts p ++ es) asked more → Stage n (put parts p (es ++ more)) replies (all ++ (es ++ more)) × IsBacked n (put parts p (es ++ more)) replies p asked
each_holds n parts replies all p asked es [] h backed each = rw (append-nil es) (h, backed)
each_holds n parts replies all p asked es (e ∷ more) h backed each =
    let f : Further n (put parts p es) (put parts p (es ++ e ∷ [])) replies p asked e = record {
      here = put_more parts p es e;
      elsewhere = λ q other. put_else parts p q (es ++ e ∷ []) other ∙ sym (put_else parts p q es other);
      keeps = h.keeps;
      may = subst (λ (xs : List Telling). May n p xs asked e) (sym (put_here parts p p es refl)) each.0;
      backed = backed;
    } in
    let next : Stage n (put parts p (es ++ e ∷ [])) replies ((all ++ es) ++ e ∷ []) = record { keeps = keeps_more f; happened = happened_more f (all ++ es) h.happened } in
    let rest = each_holds n parts replies all p asked (es ++ e ∷ []) more (subst (Stage n (put parts p (es ++ e ∷ [])) replies) (append_assoc all es (e ∷ [])) next) (backed_on f asked backed)
    (subst (λ (xs : List Telling). EachMay n p xs asked more) (append_assoc (parts p) es (e ∷ [])) each.1) in
    let regroup : (es ++ e ∷ []) ++ more ≡ es ++ e ∷ more = append_assoc es (e ∷ []) more in
    subst (λ (xs : List Telling). Stage n (put parts p xs) replies (all ++ xs) × IsBacked n (put parts p xs) replies p asked) regroup rest

-- what is so at each partition is so of all
pointwise : (parts others : ℕ → List Telling) → ((q : ℕ) → parts q ≡ others q) → parts ≡ others
pointwise parts others same = λ i q. same q i

-- what a letter asks is backed by the telling that sends it
letter_backed : (n : ℕ) (parts : ℕ → List Telling) (replies : List Asking) (k : KeepsMessages n parts replies) (q : ℕ) (told : List Telling) (e : Telling) (letter : Letter) → ((x : Telling) → Contains told x → Contains (parts q) x) → Contains (parts q) e
    → Contains (letters_told n told e) letter → IsBacked n parts replies letter.to letter.asked
letter_backed n parts replies k q told (Distributing d to) letter all stands sends =
    let by = flat_out (letter_of_definition d (partition_known n to)) told letter sends in
    by_telling by.0 (all by.0 by.1) by.2
  where
    by_telling : (t : Telling) → Contains (parts q) t → Contains (letter_of_definition d (partition_known n to) t) letter → IsBacked n parts replies letter.to letter.asked
    by_telling (Defined key process) there sends = by_key (key == d) refl sends
      where
        by_key : (same : Bool) → (key == d) ≡ same → Contains (if same then record { to = partition_known n to; asked = Distribute d process } ∷ [] else []) letter → IsBacked n parts replies letter.to letter.asked
        by_key true same sends =
            let is = the_one (record { to = partition_known n to; asked = Distribute d process }) letter sends in
            let its : IsBacked n parts replies (partition_known n to) (Distribute d process) = k.defined q d process (subst (λ (x : ℕ). Contains (parts q) (Defined x process)) (eq_true key d same) there) in
            subst (λ (x : Letter). IsBacked n parts replies x.to x.asked) (sym is) its
        by_key false other sends = absurd (nothing_in letter sends)
    by_telling _ there sends = absurd (nothing_in letter sends)
letter_backed n parts replies k q told (Opens s terms) letter all stands sends =
    let is = the_one (record { to = seat n terms.correlation_key; asked = Create s terms }) letter sends in
    let its : IsBacked n parts replies (seat n terms.correlation_key) (Create s terms) = (subst (λ (y : ℕ). Contains (parts y) (Opens s terms)) (k.opens_home q s terms stands) stands, refl) in
    subst (λ (x : Letter). IsBacked n parts replies x.to x.asked) (sym is) its
letter_backed n parts replies k q told (Correlating s m) letter all stands sends =
    let is = the_one (record { to = home n s; asked = Correlate s m }) letter sends in
    let its : IsBacked n parts replies (home n s) (Correlate s m) = (subst (λ (y : ℕ). Contains (parts y) (Correlating s m)) (k.begun q s m stands).0 stands, refl) in
    subst (λ (x : Letter). IsBacked n parts replies x.to x.asked) (sym is) its
letter_backed n parts replies k q told (Closing s correlation_key keys) letter all stands sends =
    let is = the_one (record { to = seat n correlation_key; asked = Delete s keys }) letter sends in
    let its : IsBacked n parts replies (seat n correlation_key) (Delete s keys) = (correlation_key, subst (λ (y : ℕ). Contains (parts y) (Closing s correlation_key keys)) (k.closing q s correlation_key keys stands).0 stands, refl) in
    subst (λ (x : Letter). IsBacked n parts replies x.to x.asked) (sym is) its
letter_backed n parts replies k q told _ letter all stands sends = absurd (nothing_in letter sends)

-- these alone are replies
abbrev IsReplying : Asking → Type 0
IsReplying (IsCreated s) = Unit {0}
IsReplying (WasKept s m) = Unit {0}
IsReplying (Reject s m) = Unit {0}
IsReplying (IsDeleted s) = Unit {0}
IsReplying _ = ⊥

-- the one in one is a reply, where that is
one_replies : (a b : Asking) → IsReplying b → Contains (b ∷ []) a → IsReplying a
one_replies a b its is = subst IsReplying (sym (the_one b a is)) its

-- the replies to what is asked are replies
replies_are : (asked : Asking) (refusal : Option Refusal) (a : Asking) → Contains (replies_to asked refusal) a → IsReplying a
replies_are (Create s terms) refusal a is = one_replies a (IsCreated s) tt is
replies_are (Correlate s m) None a is = one_replies a (WasKept s m) tt is
replies_are (Correlate s m) (Some WasCorrelated) a is = one_replies a (WasKept s m) tt is
replies_are (Correlate s m) (Some NoSubscription) a is = one_replies a (Reject s m) tt is
replies_are (Correlate s m) (Some BeingDeleted) a is = one_replies a (Reject s m) tt is
replies_are (Correlate s m) (Some _) a is = absurd (nothing_in a is)
replies_are (Delete s keys) refusal a is = one_replies a (IsDeleted s) tt is
replies_are _ refusal a is = absurd (nothing_in a is)

-- a reply that was sent is known as such
reply_backed : (n : ℕ) (parts : ℕ → List Telling) (replies : List Asking) (p : ℕ) (a : Asking) → IsReplying a → Contains replies a → IsBacked n parts replies p a
reply_backed n parts replies p (WasKept s m) its is = is
reply_backed n parts replies p (Reject s m) its is = is
reply_backed n parts replies p (IsDeleted s) its is = is
reply_backed n parts replies p (Distribute d process) its is = absurd its
reply_backed n parts replies p (Create s terms) its is = absurd its
reply_backed n parts replies p (Correlate s m) its is = absurd its
reply_backed n parts replies p (Delete s keys) its is = absurd its
reply_backed n parts replies p _ its is = tt

-- the replies of a deed behind what it tells
module _ (n : ℕ) (parts : ℕ → List Telling) (replies : List Asking) (p : ℕ) (asked : Asking) (k : KeepsMessages n parts replies) (backed : IsBacked n parts replies p asked) where
  -- a refused message: its subscription has closed, and if it kept the message it isn't correlating that
  refuses : (s m : ℕ) → asked ≡ Correlate s m → (IsNowhere s (parts p) ⊎ ClosesWithout s m (parts p)) → HasClosed n parts s × (HasKept n parts s m → IsCorrelating n parts s m → ⊥)
  refuses s m is (inl nowhere) =
      let sent : IsBacked n parts replies p (Correlate s m) = subst (IsBacked n parts replies p) is backed in
      let begun = k.begun (home n m) s m sent.0 in
      let opened = k.opened (home n m) s begun.1 begun.2 in
      elim (nowhere) [
        | inl none ↦ absurd (none begun.1 (subst (λ (y : ℕ). Contains (parts y) (Opens s begun.1)) (sym sent.1) opened.0))
        | inr gone ↦ let freed = k.freed s (k.gone p s gone) in (freed.0, freed.1 m)
      ]
  refuses s m is (inr closes) =
      let sent : IsBacked n parts replies p (Correlate s m) = subst (IsBacked n parts replies p) is backed in (
        (closes.0.0, closes.0.1, subst (λ (y : ℕ). Contains (parts y) (Closing s closes.0.0 closes.0.1)) sent.1 closes.0.2),
        λ kept task. closes.1 (subst (λ (y : ℕ). Contains (parts y) (Kept s m)) (sym sent.1) kept),
      )

  -- a subscription that is deleted has closed, and is correlating none that it has kept
  frees : (s : ℕ) (keys : List ℕ) → asked ≡ Delete s keys → task_of s (parts p) ≡ None → HasClosed n parts s × ((m : ℕ) → HasKept n parts s m → IsCorrelating n parts s m → ⊥)
  frees s keys is idle =
      let sent : IsBacked n parts replies p (Delete s keys) = subst (IsBacked n parts replies p) is backed in
      let closing = k.closing (home n s) s sent.0 keys sent.1 in (
        (sent.0, keys, sent.1),
        λ m kept task.
            let begun = k.begun (home n m) s m (task_stands s m (parts (home n m)) task) in
            let opened = k.opened (home n m) s begun.1 begun.2 in
            let one : begun.1 ≡ closing.1.0 = k.opens_once s begun.1 closing.1.0 opened.0 closing.1.1 in
            let here : home n m ≡ p = opened.1 ∙ (ap (λ (terms : Terms). seat n terms.correlation_key) one ∙ (ap (seat n) closing.1.2 ∙ sym sent.2)) in
            let there : task_of s (parts p) ≡ Some m = subst (λ (y : ℕ). task_of s (parts y) ≡ Some m) here task in
            absurd (cc),
      )

  -- so all is kept behind the replies
  keeps_replied : (refusal : Option Refusal) → ((a : Asking) → Contains (replies_to asked refusal) a → MayAnswer (parts p) asked a) → KeepsMessages n parts (replies ++ replies_to asked refusal)
  keeps_replied refusal may = record {
    opens_home = k.opens_home;
    opens_once = k.opens_once;
    opened = k.opened;
    published_home = k.published_home;
    expired = k.expired;
    begun = k.begun;
    defined = k.defined;
    defined_once = k.defined_once;
    started = k.started;
    kept = k.kept;
    closing = k.closing;
    gone = λ q s stands. Contains-append_left replies (replies_to asked refusal) (IsDeleted s) (k.gone q s stands);
    acknowledged = λ s m was. elim (Contains-append_cases replies (replies_to asked refusal) (WasKept s m) was) [
      | inl before ↦ k.acknowledged s m before
      | inr now ↦ let there = may (WasKept s m) now in subst (λ (y : ℕ). Contains (parts y) (Kept s m)) (k.kept p s m there).0 there
    ];
    refused = λ s m was. elim (Contains-append_cases replies (replies_to asked refusal) (Reject s m) was) [
      | inl before ↦ k.refused s m before
      | inr now ↦ let its = may (Reject s m) now in refuses s m its.0 its.1
    ];
    freed = λ s was. elim (Contains-append_cases replies (replies_to asked refusal) (IsDeleted s) was) [
      | inl before ↦ k.freed s before
      | inr now ↦ let its = may (IsDeleted s) now in frees s its.0 its.1 its.2
    ];
    kept_claimed = k.kept_claimed;
    start_claimed = k.start_claimed;
    task_claimed = k.task_claimed;
    no_start = k.no_start;
    alone_now = k.alone_now;
    alone_kept = k.alone_kept;
    alone_begun = k.alone_begun;
    outcome = k.outcome;
  }

-- what a deed adds to that which each partition has told
added : (h : List Deed) (deed : Deed) (q : ℕ) → put (tellings_at h) deed.partition deed.told q ≡ tellings_at (h ++ deed ∷ []) q
added h deed q = rw (filter-append (is_deed_at q) h (deed ∷ []), flat_map-append (λ (x : Deed). x.told) (filter (is_deed_at q) h) (filter (is_deed_at q) (deed ∷ []))) (elim (cases_eq q deed.partition) [
  | inl same ↦
      let its : (q == deed.partition) ≡ true = grind (arith, nat_tests, same) in
      let turned : (deed.partition == q) ≡ true = grind (arith, nat_tests, same) in
      rw (its, turned, append-nil deed.told) refl
  | inr other ↦
      let out : (q == deed.partition) ≡ false = grind (arith, nat_tests, other) in
      let turned : (deed.partition == q) ≡ false = (let differs : deed.partition ≡ q → ⊥ = λ x. other (sym x) in grind (arith, nat_tests, differs)) in
      rw (out, turned) (sym (append-nil (tellings_at h q)))
])

-- what a deed tells stands at its partition
told_at_its : (h : List Deed) (deed : Deed) (e : Telling) → Contains h deed → Contains deed.told e → Contains (tellings_at h deed.partition) e
told_at_its h deed e here tells = flat_in (λ (x : Deed). x.told) (filter (is_deed_at deed.partition) h) deed e (filter_in (is_deed_at deed.partition) h deed here (grind (arith, nat_tests))) tells

-- what the next deed is asked is backed
module _ (n : ℕ) (h : List Deed) (deed : Deed) (k : KeepsMessages n (tellings_at h) (flat_map replies_by h)) (by : IsTrue (is_by_letter deed.asked) → WasPosted n h deed) where
  -- what is known of what a partition is asked behind them
  abbrev Meant : ℕ → Asking → Type 0
  Meant q asked = IsBacked n (tellings_at h) (flat_map replies_by h) q asked

  -- what a letter asks is
  posted_backed : WasPosted n h deed → Meant deed.partition deed.asked
  posted_backed was =
      let sender = was.posted.sender in
      let there = among h was.posted.place sender was.posted.at in
      let meant : Meant was.letter.to was.letter.asked = elim (Contains-append_cases (flat_map (letters_told n sender.told) sender.told) (map (reply_letter n) (replies_by sender)) was.letter was.posted.sends) [
        | inl told ↦
            let by = flat_out (letters_told n sender.told) sender.told was.letter told in
            letter_backed n (tellings_at h) (flat_map replies_by h) k sender.partition sender.told by.0 was.letter (λ x tells. told_at_its h sender x there tells) (told_at_its h sender by.0 there by.1) by.2
        | inr reply ↦
            let by = map_out (reply_letter n) (replies_by sender) was.letter reply in
            let its : Meant (address_of n by.0) by.0 = reply_backed n (tellings_at h) (flat_map replies_by h) (address_of n by.0) by.0 (replies_are sender.asked sender.refusal by.0 by.1) (flat_in replies_by h sender by.0 there by.1) in
            subst (λ (x : Letter). Meant x.to x.asked) (sym by.2) its
      ] in
      subst (λ (q : ℕ). Meant q deed.asked) was.to (subst (λ (x : Asking). Meant was.letter.to x) was.asked meant)

  -- and so is what is asked by letters alone
  by_letter : (asked : Asking) → deed.asked ≡ asked → IsTrue (is_by_letter asked) → Meant deed.partition asked
  by_letter asked is letter = subst (Meant deed.partition) is (posted_backed (by (subst (λ (x : Asking). IsTrue (is_by_letter x)) (sym is) letter)))

  -- of anything else nothing is known
  by_asked : (asked : Asking) → deed.asked ≡ asked → Meant deed.partition asked
  by_asked (Distribute d process) is = by_letter (Distribute d process) is refl
  by_asked (Create s terms) is = by_letter (Create s terms) is refl
  by_asked (Correlate s m) is = by_letter (Correlate s m) is refl
  by_asked (WasKept s m) is = by_letter (WasKept s m) is refl
  by_asked (Reject s m) is = by_letter (Reject s m) is refl
  by_asked (Delete s keys) is = by_letter (Delete s keys) is refl
  by_asked (IsDeleted s) is = by_letter (IsDeleted s) is refl
  by_asked _ is = tt

  -- so what the deed is asked is
  deed_backed : Meant deed.partition deed.asked
  deed_backed = by_asked deed.asked refl

-- one deed more
deed_holds : (n : ℕ) (h : List Deed) (deed : Deed) → Stage n (tellings_at h) (flat_map replies_by h) (all_tellings h) → IsNextDeed n h deed → Stage n (tellings_at (h ++ deed ∷ [])) (flat_map replies_by (h ++ deed ∷ [])) (all_tellings (h ++ deed ∷ []))
deed_holds n h deed holds is =
    let parts = tellings_at h in
    let replies = flat_map replies_by h in
    let all = all_tellings h in
    let p = deed.partition in
    let backed = deed_backed n h deed holds.keeps is.letter in
    let none : put parts p [] ≡ parts = pointwise (put parts p []) parts (λ q. by_test q) in
    let start : Stage n (put parts p []) replies (all ++ []) = rw (append-nil all) (subst (λ (others : ℕ → List Telling). Stage n others replies all) (sym none) holds) in
    let start_backed : IsBacked n (put parts p []) replies p deed.asked = subst (λ (others : ℕ → List Telling). IsBacked n others replies p deed.asked) (sym none) backed in
    let each = each_holds n parts replies all p deed.asked [] deed.told start start_backed (rw (append-nil (parts p)) is.step.each) in
    let grown = put parts p deed.told in
    let here : grown p ≡ parts p ++ deed.told = put_here parts p p deed.told refl in
    let keeps : KeepsMessages n grown (replies ++ replies_by deed) = keeps_replied n grown replies p deed.asked each.0.keeps each.1 deed.refusal (λ a sends. subst (λ (es : List Telling). MayAnswer es deed.asked a) (sym here) (is.step.answers a sends)) in
    let behind : Stage n grown (replies ++ replies_by deed) (all ++ deed.told) = record { keeps = keeps; happened = each.0.happened } in
    let tellings : grown ≡ tellings_at (h ++ deed ∷ []) = pointwise grown (tellings_at (h ++ deed ∷ [])) (added h deed) in
    let replied : flat_map replies_by (h ++ deed ∷ []) ≡ replies ++ replies_by deed = flat_map-append replies_by h (deed ∷ []) ∙ ap (λ (xs : List Asking). replies ++ xs) (append-nil (replies_by deed)) in
    let told : all_tellings (h ++ deed ∷ []) ≡ all ++ deed.told = flat_map-append (λ (x : Deed). x.told) h (deed ∷ []) ∙ ap (λ (xs : List Telling). all ++ xs) (append-nil deed.told) in
    rw (replied, told) (subst (λ (others : ℕ → List Telling). Stage n others (replies ++ replies_by deed) (all ++ deed.told)) tellings behind)
  where
    by_test : (q : ℕ) → put (tellings_at h) deed.partition [] q ≡ tellings_at h q
    by_test q = elim (cases_eq q deed.partition) [
      | inl same ↦ put_here (tellings_at h) deed.partition q [] same ∙ append-nil (tellings_at h q)
      | inr other ↦ put_else (tellings_at h) deed.partition q [] other
    ]

-- behind nothing it holds
holds_first : (n : ℕ) → Stage n (tellings_at []) [] []
holds_first n = record {
  keeps = record {
    opens_home = λ q s terms is. absurd (nothing_in (Opens s terms) is);
    opens_once = λ s terms other is is_too. absurd (nothing_in (Opens s terms) is);
    opened = λ q s terms is. absurd (nothing_in (Opened s terms) is);
    published_home = λ q m is. absurd (nothing_in (Published m) is);
    expired = λ q m is. absurd (nothing_in (Expired m) is);
    begun = λ q s m is. absurd (nothing_in (Correlating s m) is);
    defined = λ q d process is. absurd (nothing_in (Defined d process) is);
    defined_once = λ d process other is is_too. absurd (nothing_in (Defined d process) is);
    started = λ q m d is. absurd (nothing_in (Started m d) is);
    kept = λ q s m is. absurd (nothing_in (Kept s m) is);
    closing = λ q s correlation_key keys is. absurd (nothing_in (Closing s correlation_key keys) is);
    gone = λ q s is. absurd (nothing_in (Gone s) is);
    acknowledged = λ s m is. absurd (nothing_in (WasKept s m) is);
    refused = λ s m is. absurd (nothing_in (Reject s m) is);
    freed = λ s is. absurd (nothing_in (IsDeleted s) is);
    kept_claimed = λ s m process is its. absurd (nothing_in (Kept s m) is);
    start_claimed = λ m process is. let none = is.1 in absurd (nothing_in (Started m is.0) none);
    task_claimed = λ s m process is its. absurd (cc);
    no_start = λ s m process task its is. let none = is.1 in nothing_in (Started m is.0) none;
    alone_now = λ s x m process task its task_too its_too. absurd (cc);
    alone_kept = λ s x m process task its is its_too. absurd (nothing_in (Kept x m) is);
    alone_begun = λ s x m process task its is its_too. absurd (nothing_in (Correlating x m) is);
    outcome = λ s m is. absurd (nothing_in (Correlating s m) is);
  };
  happened = record { stands = λ x is. absurd (nothing_in x is); once = λ m process i j x y here. absurd (cc) };
}

-- behind each history it holds
history_holds : (n : ℕ) (h : List Deed) → IsMessageHistory n h → Stage n (tellings_at h) (flat_map replies_by h) (all_tellings h)
history_holds n h is =
    each_on_all (IsNextDeed n) [] (λ (h : List Deed). Stage n (tellings_at h) (flat_map replies_by h) (all_tellings h))
    (λ (front : List Deed) (deed : Deed) before holds next. deed_holds n front deed holds next)
    (holds_first n) h is

-- what opens a subscription for a process says so
opening_is : (s : ℕ) (process : List ℕ) (e : Telling) → tells_opening s process e ≡ true → (terms : Terms) × (e ≡ Opens s terms) × (terms.process ≡ process)
opening_is s process (Opens key terms) passes =
    let both = and_parts (key == s) (bytes_eq terms.process process) passes in
    (terms, ap (λ (q : ℕ). Opens q terms) (eq_true key s both.0), text_true terms.process process both.1)
opening_is s process _ passes = absurd (cc)

-- what makes a definition of a process says so
definition_is : (d : ℕ) (process : List ℕ) (e : Telling) → tells_definition d process e ≡ true → e ≡ Defined d process
definition_is d process (Defined key name) passes =
    let both = and_parts (key == d) (bytes_eq name process) passes in
    let one = eq_true key d both.0 in
    let too = text_true name process both.1 in
    cc (one, too)
definition_is d process _ passes = absurd (cc)

-- what correlates among all that was told does by what each partition has told
correlates_so : (n : ℕ) (h : List Deed) → Stage n (tellings_at h) (flat_map replies_by h) (all_tellings h) → (m : ℕ) (process : List ℕ) (x : Telling) → IsTrue (correlates_with (all_tellings h) m process x) → IsCorrelation n (tellings_at h) m process x
correlates_so n h stage m process (Kept s k) its =
    let both = and_parts (k == m) (list_any (tells_opening s process) (all_tellings h)) its in
    let found = passing (tells_opening s process) (all_tellings h) both.1 in
    let opened = opening_is s process found.0 found.2 in
    let at = stage.happened.stands found.0 found.1 in
    let there : Contains (tellings_at h at.0) (Opens s opened.0) = subst (Contains (tellings_at h at.0)) opened.1 at.1 in
    (eq_true k m both.0, (opened.0, subst (λ (q : ℕ). Contains (tellings_at h q) (Opens s opened.0)) (stage.keeps.opens_home at.0 s opened.0 there) there, opened.2))
correlates_so n h stage m process (Started k d) its =
    let both = and_parts (k == m) (list_any (tells_definition d process) (all_tellings h)) its in
    let found = passing (tells_definition d process) (all_tellings h) both.1 in
    let at = stage.happened.stands found.0 found.1 in
    let there : Contains (tellings_at h at.0) (Defined d process) = subst (Contains (tellings_at h at.0)) (definition_is d process found.0 found.2) at.1 in
    (eq_true k m both.0, stage.keeps.defined at.0 d process there)
correlates_so n h stage m process _ its = absurd (cc)

-- a message is correlated with a process at most once
pub correlates_once : (n : ℕ) (h : List Deed) → IsMessageHistory n h → CorrelatesOnce h
correlates_once n h is m process i j x y here there its its_too =
    let stage = history_holds n h is in
    stage.happened.once m process i j x y here there (correlates_so n h stage m process x its) (correlates_so n h stage m process y its_too)
