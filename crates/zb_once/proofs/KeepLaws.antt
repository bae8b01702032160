-- One telling more keeps all that is kept of messages.
use Rattle.std.proofs.Common.{◌≡◌, ℕ, List, [], ◌∷◌, ◌++◌, Bool, true, false, Some, None, Contains, ◌⊎◌, ◌↔◌, inl, inr, refl, sym, ap, ◌∙◌, subst}
use Rattle.std.proofs.lemmas.Bool.{cases_eq}
use Rattle.std.proofs.lemmas.List.Elements.{Contains-append_left, Contains-push, Contains-push_cases}
use Rattle.zb_once.specs.Tellings.{Terms, Telling, Asking, home, seat}
use Rattle.zb_once.specs.Tellings.Telling.{Defined, Published, Expired, Started, Opened, Correlating, Correlated, Rejected, Deleted, Opens, Kept, Closing, Gone}
use Rattle.zb_once.specs.Tellings.Asking.{Distribute, Create, Correlate, WasKept, Reject, Delete, IsDeleted}
use Rattle.zb_once.specs.Views.{defined_process, terms_of, is_there, task_of, is_locked, still_buffered}
use Rattle.zb_once.specs.May.{May}
use Rattle.zb_once.specs.Keeps.{HasTerms, IsForProcess, IsDefinedAs, HasClosed, IsCorrelating, HasBegun, HasKept, HasStarted, IsClaimed, KeepsMessages, IsBacked}
use Rattle.zb_once.proofs.ViewLaws.{Touches, Parts, terms_stand, definition_stands, task_stands, task_now, task_back, task_on, lock_on, lock_started, lock_correlating, buffered_stands, buffered_back}

-- a test that doesn't say yes says no
is_false : (b : Bool) → (b ≡ true → ⊥) → b ≡ false
is_false true out = absurd (out refl)
is_false false out = refl

-- partition p tells one more, of which this is asked: it may, and somebody sent what is asked
pub record Further (n : ℕ) (parts grown : ℕ → List Telling) (replies : List Asking) (p : ℕ) (asked : Asking) (e : Telling) : Type 0 where
  pub here : grown p ≡ parts p ++ e ∷ []
  pub elsewhere : (q : ℕ) → (q ≡ p → ⊥) → grown q ≡ parts q
  pub keeps : KeepsMessages n parts replies
  pub may : May n p (parts p) asked e
  pub backed : IsBacked n parts replies p asked

module _ {n : ℕ} {parts grown : ℕ → List Telling} {replies : List Asking} {p : ℕ} {asked : Asking} {e : Telling} (f : Further n parts grown replies p asked e) where
  -- what p has told behind it
  grown_at : (q : ℕ) → q ≡ p → grown q ≡ parts p ++ e ∷ []
  grown_at q same = ap grown same ∙ f.here

  -- what stands still does
  pub stands_on : (q : ℕ) (x : Telling) → Contains (parts q) x → Contains (grown q) x
  stands_on q x stands = elim (cases_eq q p) [
    | inl same ↦ subst (λ (es : List Telling). Contains es x) (sym (grown_at q same)) (Contains-append_left (parts p) (e ∷ []) x (subst (λ (r : ℕ). Contains (parts r) x) same stands))
    | inr other ↦ subst (λ (es : List Telling). Contains es x) (sym (f.elsewhere q other)) stands
  ]

  -- what stands did, or is the one more
  pub stands_back : (q : ℕ) (x : Telling) → Contains (grown q) x → Contains (parts q) x ⊎ ((q ≡ p) × (x ≡ e))
  stands_back q x stands = elim (cases_eq q p) [
    | inl same ↦ elim (Contains-push_cases (parts p) e x (subst (λ (es : List Telling). Contains es x) (grown_at q same) stands)) [
      | inl old ↦ inl (subst (λ (r : ℕ). Contains (parts r) x) (sym same) old)
      | inr one ↦ inr (same, sym one)
    ]
    | inr other ↦ inl (subst (λ (es : List Telling). Contains es x) (f.elsewhere q other) stands)
  ]

  -- the one more stands
  pub stands_now : (q : ℕ) → q ≡ p → Contains (grown q) e
  stands_now q same = subst (λ (es : List Telling). Contains es e) (sym (grown_at q same)) (Contains-push (parts p) e)

  -- what it may be
  may_be : (x : Telling) → x ≡ e → May n p (parts p) asked x
  may_be x is = subst (May n p (parts p) asked) (sym is) f.may

  -- what is asked is backed
  backed_by : (x : Asking) → asked ≡ x → IsBacked n parts replies p x
  backed_by x is = subst (IsBacked n parts replies p) is f.backed

  -- a subscription that had opened has not opened for another process
  for_process_back : (s : ℕ) (process : List ℕ) (terms : Terms) → HasTerms n parts s terms → IsForProcess n grown s process → IsForProcess n parts s process
  for_process_back s process terms has (other, there, is) = elim (stands_back (home n s) (Opens s other) there) [
    | inl old ↦ (other, old, is)
    | inr (here, same) ↦ absurd ((may_be (Opens s other) same).1 terms (subst (λ (r : ℕ). Contains (parts r) (Opens s terms)) here has))
  ]

  -- what has closed has
  closed_on : (s : ℕ) → HasClosed n parts s → HasClosed n grown s
  closed_on s (correlation_key, keys, stands) = (correlation_key, keys, stands_on (home n s) (Closing s correlation_key keys) stands)

  -- a subscription that has begun to correlate has opened
  begun_terms : (s m : ℕ) → HasBegun n parts s m → (terms : Terms) × HasTerms n parts s terms
  begun_terms s m begun =
      let opened = f.keeps.begun (home n m) s m begun in
      let has = f.keeps.opened (home n m) s opened.1 opened.2 in
      (opened.1, has.0)

  -- and so it is for the process that it was for
  pub begun_for : (s m : ℕ) (process : List ℕ) → HasBegun n parts s m → IsForProcess n grown s process → IsForProcess n parts s process
  begun_for s m process begun its = let has = begun_terms s m begun in for_process_back s process has.0 has.1 its

  -- what keeps a message has begun to correlate it
  kept_begun : (s m : ℕ) → HasKept n parts s m → HasBegun n parts s m
  kept_begun s m its = (f.keeps.kept (home n s) s m its).1

  -- and so has what is correlating it
  task_begun : (s m : ℕ) → IsCorrelating n parts s m → HasBegun n parts s m
  task_begun s m is = task_stands s m (parts (home n m)) is

  -- a message that is buffered at p lives there
  buffered_home : (m : ℕ) → still_buffered m (parts p) ≡ true → home n m ≡ p
  buffered_home m buffered = sym (f.keeps.published_home p m (buffered_stands m (parts p) buffered))

  -- and where it isn't locked nobody has it
  unclaimed : (m : ℕ) (process : List ℕ) → home n m ≡ p → still_buffered m (parts p) ≡ true → is_locked m process (parts p) ≡ false → IsClaimed n parts m process → ⊥
  unclaimed m process same buffered free (inl lock) = let here : is_locked m process (parts p) ≡ true = subst (λ (r : ℕ). is_locked m process (parts r) ≡ true) same lock in absurd (cc)
  unclaimed m process same buffered free (inr out) = let none = (f.keeps.expired p m (subst (λ (r : ℕ). Contains (parts r) (Expired m)) same out)).0 in absurd (cc)

  -- s begins to correlate m: it has opened, and nobody of its process has m
  record Beginning (s m : ℕ) : Type 0 where
    here : home n m ≡ p
    terms : Terms
    has : HasTerms n parts s terms
    view : terms_of s (parts p) ≡ Some terms
    there : is_there s (parts p) ≡ true
    idle : task_of s (parts p) ≡ None
    free : IsClaimed n parts m terms.process → ⊥

  -- where s begins to correlate m, that is so
  beginning : (s m : ℕ) → Correlating s m ≡ e → Beginning s m
  beginning s m is =
      let may = may_be (Correlating s m) is in
      let same = buffered_home m may.4 in
      let opened = f.keeps.opened p s may.0 (terms_stand s may.0 (parts p) may.1) in
      record { here = same; terms = may.0; has = opened.0; view = may.1; there = may.2; idle = may.3; free = unclaimed m (may.0).process same may.4 may.5 }

  -- it is for the process of its terms alone
  beginning_for : (s m : ℕ) (process : List ℕ) → (b : Beginning s m) → IsForProcess n parts s process → b.terms.process ≡ process
  beginning_for s m process b (other, has, is) = ap (λ (terms : Terms). terms.process) (f.keeps.opens_once s b.terms other b.has has) ∙ is

  -- so nobody of a process that it is for has the message
  beginning_free : (s m : ℕ) (process : List ℕ) → (b : Beginning s m) → IsForProcess n grown s process → IsClaimed n parts m process → ⊥
  beginning_free s m process b its claimed = b.free (subst (IsClaimed n parts m) (sym (beginning_for s m process b (for_process_back s process b.terms b.has its))) claimed)

  -- m starts an instance of d: that is a definition of a process, of which nobody has m
  record Starting (m d : ℕ) : Type 0 where
    here : home n m ≡ p
    process : List ℕ
    view : defined_process d (parts p) ≡ Some process
    defines : IsDefinedAs n parts d process
    free : IsClaimed n parts m process → ⊥

  -- where m starts an instance of d, that is so
  starting : (m d : ℕ) → Started m d ≡ e → Starting m d
  starting m d is =
      let may = may_be (Started m d) is in
      let same = buffered_home m may.2 in
      record { here = same; process = may.0; view = may.1; defines = f.keeps.defined p d may.0 (definition_stands d may.0 (parts p) may.1); free = unclaimed m may.0 same may.2 may.3 }

  -- a definition that was there is of the process that it was of
  pub defined_back : (d : ℕ) (process other : List ℕ) → IsDefinedAs n parts d other → IsDefinedAs n grown d process → IsDefinedAs n parts d process
  defined_back d process other known is = elim (stands_back (home n d) (Defined d process) is) [
    | inl old ↦ old
    | inr (here, same) ↦ absurd ((may_be (Defined d process) same).1 other (subst (λ (r : ℕ). Contains (parts r) (Defined d other)) here known))
  ]

  -- so nobody of a process that it is of has the message
  pub starting_free : (m d : ℕ) (process : List ℕ) → Started m d ≡ e → IsDefinedAs n grown d process → IsClaimed n parts m process → ⊥
  starting_free m d process is defines claimed =
      let s = starting m d is in
      let one : process ≡ s.process = f.keeps.defined_once d process s.process (defined_back d process s.process s.defines defines) s.defines in
      s.free (subst (IsClaimed n parts m) one claimed)

  -- a message has started an instance of a process before, or does so now
  started_back : (m : ℕ) (process : List ℕ) → HasStarted n grown m process → HasStarted n parts m process ⊎ ((d : ℕ) × (home n m ≡ p) × (Started m d ≡ e) × IsDefinedAs n grown d process)
  started_back m process (d, stands, defines) = elim (stands_back (home n m) (Started m d) stands) [
    | inl old ↦ let known = f.keeps.started (home n m) m d old in inl (d, old, defined_back d process known.1 known.2 defines)
    | inr (here, same) ↦ inr (d, here, same, defines)
  ]

  -- s keeps m: it is correlating that, hasn't kept it, and hasn't closed
  pub record Keeping (s m : ℕ) : Type 0 where
    pub here : p ≡ home n s
    pub begun : HasBegun n parts s m
    pub task : IsCorrelating n parts s m
    pub unclosed : HasClosed n parts s → ⊥
    pub fresh : HasKept n parts s m → ⊥

  -- where s keeps m, that is so: it began to correlate that, so by the outcome it still does
  pub keeping : (s m : ℕ) → Kept s m ≡ e → Keeping s m
  keeping s m is =
      let may = may_be (Kept s m) is in
      let sent = backed_by (Correlate s m) may.0 in
      let unclosed : HasClosed n parts s → ⊥ = λ closed. may.1 closed.0 closed.1 (subst (λ (q : ℕ). Contains (parts q) (Closing s closed.0 closed.1)) (sym sent.1) closed.2) in
      let fresh : HasKept n parts s m → ⊥ = λ kept. may.2 (subst (λ (q : ℕ). Contains (parts q) (Kept s m)) (sym sent.1) kept) in
      let task : IsCorrelating n parts s m = elim (f.keeps.outcome s m sent.0) [
        | inl kept ↦ absurd (fresh kept)
        | inr (inl closed) ↦ absurd (unclosed closed)
        | inr (inr is) ↦ is
      ] in
      record { here = sent.1; begun = sent.0; task = task; unclosed = unclosed; fresh = fresh }

  -- what is correlated at p lives there
  task_here : (s m : ℕ) → task_of s (parts p) ≡ Some m → (home n m ≡ p) × IsCorrelating n parts s m
  task_here s m is =
      let same : p ≡ home n m = (f.keeps.begun p s m (task_stands s m (parts p) is)).0 in
      (sym same, subst (λ (q : ℕ). task_of s (parts q) ≡ Some m) same is)

  -- s gives m up: it is correlating that, has closed, and hasn't kept it
  record GivingUp (s m : ℕ) : Type 0 where
    here : home n m ≡ p
    task : IsCorrelating n parts s m
    closed : HasClosed n parts s
    fresh : HasKept n parts s m → ⊥

  -- where s gives m up, that is so: by the reply that refused m, or by the keys that don't name it
  giving_up : (s m : ℕ) → Rejected s m ≡ e → GivingUp s m
  giving_up s m is =
      let may = may_be (Rejected s m) is in
      let task = task_here s m may.0 in
      elim (may.1) [
        | inl by ↦ let refused = f.keeps.refused s m (backed_by (Reject s m) by) in record { here = task.0; task = task.1; closed = refused.0; fresh = λ kept. refused.1 kept task.1 }
        | inr (keys, by, unnamed) ↦
            let sent = backed_by (Delete s keys) by in
            let its = f.keeps.closing (home n s) s sent.0 keys sent.1 in
            record { here = task.0; task = task.1; closed = (sent.0, keys, sent.1); fresh = λ kept. unnamed ((its.2 m).1 kept) }
      ]

  -- what is correlating a message was, and the one more doesn't touch it; or it begins to
  correlating_back : (s m : ℕ) → IsCorrelating n grown s m → (IsCorrelating n parts s m × (home n m ≡ p → Touches s e → ⊥)) ⊎ ((home n m ≡ p) × (Correlating s m ≡ e))
  correlating_back s m is = elim (cases_eq (home n m) p) [
    | inl same ↦ elim (task_back s m (parts p) e (subst (λ (es : List Telling). task_of s es ≡ Some m) (grown_at (home n m) same) is)) [
      | inl (old, out) ↦ inl (subst (λ (q : ℕ). task_of s (parts q) ≡ Some m) (sym same) old, λ here. out)
      | inr now ↦ inr (same, sym now)
    ]
    | inr other ↦ inl (subst (λ (es : List Telling). task_of s es ≡ Some m) (f.elsewhere (home n m) other) is, λ here. absurd (other here))
  ]

  -- what was correlating a message is, or the one more ends that
  correlating_on : (s m : ℕ) → IsCorrelating n parts s m → IsCorrelating n grown s m ⊎ ((home n m ≡ p) × (task_of s (parts p) ≡ Some m) × (Parts s e ⊎ (x : ℕ) × (e ≡ Correlating s x)))
  correlating_on s m is = elim (cases_eq (home n m) p) [
    | inl same ↦
        let at : task_of s (parts p) ≡ Some m = subst (λ (q : ℕ). task_of s (parts q) ≡ Some m) same is in
        elim (task_on s m (parts p) e at) [
          | inl still ↦ inl (subst (λ (es : List Telling). task_of s es ≡ Some m) (sym (grown_at (home n m) same)) still)
          | inr ends ↦ inr (same, at, ends)
        ]
    | inr other ↦ inl (subst (λ (es : List Telling). task_of s es ≡ Some m) (sym (f.elsewhere (home n m) other)) is)
  ]

  -- a message that somebody of a process has is still claimed, or is given up
  claimed_on : (m : ℕ) (process : List ℕ) → IsClaimed n parts m process → IsClaimed n grown m process ⊎ ((s : ℕ) × (Rejected s m ≡ e) × IsForProcess n parts s process)
  claimed_on m process (inr out) = inl (inr (stands_on (home n m) (Expired m) out))
  claimed_on m process (inl lock) = elim (cases_eq (home n m) p) [
    | inl same ↦
        let at : is_locked m process (parts p) ≡ true = subst (λ (q : ℕ). is_locked m process (parts q) ≡ true) same lock in
        elim (lock_on m process (parts p) e at) [
          | inl still ↦ inl (inl (subst (λ (es : List Telling). is_locked m process es ≡ true) (sym (grown_at (home n m) same)) still))
          | inr (inl out) ↦ inl (inr (subst (λ (x : Telling). Contains (grown (home n m)) x) out (stands_now (home n m) same)))
          | inr (inr (s, is, terms, view, its)) ↦ inr (s, sym is, (terms, (f.keeps.opened p s terms (terms_stand s terms (parts p) view)).0, its))
        ]
    | inr other ↦ inl (inl (subst (λ (es : List Telling). is_locked m process es ≡ true) (sym (f.elsewhere (home n m) other)) lock))
  ]

  -- where nobody gives it up it is still claimed
  claimed_still : (m : ℕ) (process : List ℕ) → IsClaimed n parts m process → ((s : ℕ) → Rejected s m ≡ e → IsForProcess n parts s process → ⊥) → IsClaimed n grown m process
  claimed_still m process claimed none = elim (claimed_on m process claimed) [
    | inl still ↦ still
    | inr (s, is, its) ↦ absurd (none s is its)
  ]

  -- who begins to correlate a message claims it
  claimed_now : (s m : ℕ) (process : List ℕ) → (b : Beginning s m) → Correlating s m ≡ e → IsForProcess n grown s process → IsClaimed n grown m process
  claimed_now s m process b is its =
      let told : parts p ++ Correlating s m ∷ [] ≡ grown (home n m) = ap (λ (x : Telling). parts p ++ x ∷ []) is ∙ sym (grown_at (home n m) b.here) in
      let set : is_locked m b.terms.process (grown (home n m)) ≡ true = subst (λ (es : List Telling). is_locked m b.terms.process es ≡ true) told (lock_correlating s m b.terms (parts p) b.view) in
      inl (subst (λ (name : List ℕ). is_locked m name (grown (home n m)) ≡ true) (beginning_for s m process b (for_process_back s process b.terms b.has its)) set)

  -- nobody of its process gives up a message that was kept
  kept_stays : (s m : ℕ) (process : List ℕ) → HasKept n parts s m → IsForProcess n parts s process → (x : ℕ) → Rejected x m ≡ e → IsForProcess n parts x process → ⊥
  kept_stays s m process kept its x is its_too =
      let up = giving_up x m is in
      let same = f.keeps.alone_kept x s m process up.task its_too kept its in
      up.fresh (subst (λ (y : ℕ). HasKept n parts y m) same kept)

  -- who begins to correlate a message finds that nobody of its process has kept or is correlating it
  apart : (s m : ℕ) (process : List ℕ) → (b : Beginning s m) → IsForProcess n grown s process → (x : ℕ) → IsForProcess n grown x process → HasBegun n parts x m → HasKept n parts x m ⊎ IsCorrelating n parts x m → ⊥
  apart s m process b its x its_too begun is =
      let old = begun_for x m process begun its_too in
      let claimed : IsClaimed n parts m process = elim (is) [
        | inl kept ↦ f.keeps.kept_claimed x m process kept old
        | inr task ↦ f.keeps.task_claimed x m process task old
      ] in
      beginning_free s m process b its claimed

  -- a message that was kept is claimed: nobody of the process gives it up
  kept_claimed_on : (s m : ℕ) (process : List ℕ) → HasKept n grown s m → IsForProcess n grown s process → IsClaimed n grown m process
  kept_claimed_on s m process kept its = elim (stands_back (home n s) (Kept s m) kept) [
    | inl old ↦
        let before = begun_for s m process (kept_begun s m old) its in
        claimed_still m process (f.keeps.kept_claimed s m process old before) (kept_stays s m process old before)
    | inr (here, now) ↦
        let k = keeping s m now in
        let before = begun_for s m process k.begun its in
        claimed_still m process (f.keeps.task_claimed s m process k.task before) (λ (x : ℕ) (is : Rejected x m ≡ e) (its_too : IsForProcess n parts x process). absurd (cc (is, now)))
  ]

  -- so is one that has started an instance: nobody of the process is correlating it
  start_claimed_on : (m : ℕ) (process : List ℕ) → HasStarted n grown m process → IsClaimed n grown m process
  start_claimed_on m process started = elim (started_back m process started) [
    | inl old ↦ claimed_still m process (f.keeps.start_claimed m process old) (λ (x : ℕ) (is : Rejected x m ≡ e) (its : IsForProcess n parts x process). f.keeps.no_start x m process (giving_up x m is).task its old)
    | inr (d, here, now, defines) ↦
        let s = starting m d now in
        let one : s.process ≡ process = f.keeps.defined_once d s.process process s.defines (defined_back d process s.process s.defines defines) in
        let told : parts p ++ Started m d ∷ [] ≡ grown (home n m) = ap (λ (x : Telling). parts p ++ x ∷ []) now ∙ sym (grown_at (home n m) here) in
        let set : is_locked m s.process (grown (home n m)) ≡ true = subst (λ (es : List Telling). is_locked m s.process es ≡ true) told (lock_started m d s.process (parts p) s.view) in
        inl (subst (λ (name : List ℕ). is_locked m name (grown (home n m)) ≡ true) one set)
  ]

  -- so is one that is correlated: nobody else of the process is correlating it
  task_claimed_on : (s m : ℕ) (process : List ℕ) → IsCorrelating n grown s m → IsForProcess n grown s process → IsClaimed n grown m process
  task_claimed_on s m process task its = elim (correlating_back s m task) [
    | inl (old, out) ↦
        let before = begun_for s m process (task_begun s m old) its in
        claimed_still m process (f.keeps.task_claimed s m process old before) (λ (x : ℕ) (is : Rejected x m ≡ e) (its_too : IsForProcess n parts x process).
        let up = giving_up x m is in
        let same = f.keeps.alone_now x s m process up.task its_too old before in
        out up.here (subst (Touches s) is (sym same)))
    | inr (here, now) ↦ claimed_now s m process (beginning s m now) now its
  ]

  -- nothing starts an instance by a message that is correlated, and what has started one isn't correlated
  no_start_on : (s m : ℕ) (process : List ℕ) → IsCorrelating n grown s m → IsForProcess n grown s process → HasStarted n grown m process → ⊥
  no_start_on s m process task its started = elim (correlating_back s m task) [
    | inl (old, out) ↦
        let before = begun_for s m process (task_begun s m old) its in
        elim (started_back m process started) [
          | inl earlier ↦ f.keeps.no_start s m process old before earlier
          | inr (d, here, now, defines) ↦ starting_free m d process now defines (f.keeps.task_claimed s m process old before)
        ]
    | inr (here, now) ↦ elim (started_back m process started) [
      | inl earlier ↦ beginning_free s m process (beginning s m now) its (f.keeps.start_claimed m process earlier)
      | inr (d, there, too, defines) ↦ absurd (cc (now, too))
    ]
  ]

  -- nobody begins to correlate a message that somebody else of its process is correlating
  alone_now_on : (s x m : ℕ) (process : List ℕ) → IsCorrelating n grown s m → IsForProcess n grown s process → IsCorrelating n grown x m → IsForProcess n grown x process → x ≡ s
  alone_now_on s x m process task its task_too its_too = elim (correlating_back s m task) [
    | inl (old, out) ↦ elim (correlating_back x m task_too) [
      | inl (old_too, out_too) ↦ f.keeps.alone_now s x m process old (begun_for s m process (task_begun s m old) its) old_too (begun_for x m process (task_begun x m old_too) its_too)
      | inr (here, now) ↦ absurd (apart x m process (beginning x m now) its_too s its (task_begun s m old) (inr old))
    ]
    | inr (here, now) ↦ elim (correlating_back x m task_too) [
      | inl (old_too, out_too) ↦ absurd (apart s m process (beginning s m now) its x its_too (task_begun x m old_too) (inr old_too))
      | inr (there, too) ↦ cc (now, too)
    ]
  ]

  -- what keeps a message is correlating it, and nobody begins to correlate one that another has kept
  alone_kept_on : (s x m : ℕ) (process : List ℕ) → IsCorrelating n grown s m → IsForProcess n grown s process → HasKept n grown x m → IsForProcess n grown x process → x ≡ s
  alone_kept_on s x m process task its kept its_too = elim (correlating_back s m task) [
    | inl (old, out) ↦
        let before = begun_for s m process (task_begun s m old) its in
        elim (stands_back (home n x) (Kept x m) kept) [
          | inl earlier ↦ f.keeps.alone_kept s x m process old before earlier (begun_for x m process (kept_begun x m earlier) its_too)
          | inr (here, now) ↦ let k = keeping x m now in f.keeps.alone_now s x m process old before k.task (begun_for x m process k.begun its_too)
        ]
    | inr (here, now) ↦ elim (stands_back (home n x) (Kept x m) kept) [
      | inl earlier ↦ absurd (apart s m process (beginning s m now) its x its_too (kept_begun x m earlier) (inl earlier))
      | inr (there, too) ↦ absurd (cc (now, too))
    ]
  ]

  -- who had begun to correlate a message before has closed, where another of its process begins to
  alone_begun_on : (s x m : ℕ) (process : List ℕ) → IsCorrelating n grown s m → IsForProcess n grown s process → HasBegun n grown x m → IsForProcess n grown x process → (x ≡ s) ⊎ HasClosed n grown x
  alone_begun_on s x m process task its begun its_too = elim (correlating_back s m task) [
    | inl (old, out) ↦
        let before = begun_for s m process (task_begun s m old) its in
        elim (stands_back (home n m) (Correlating x m) begun) [
          | inl earlier ↦ elim (f.keeps.alone_begun s x m process old before earlier (begun_for x m process earlier its_too)) [
            | inl same ↦ inl same
            | inr closed ↦ inr (closed_on x closed)
          ]
          | inr (here, now) ↦ absurd (apart x m process (beginning x m now) its_too s its (task_begun s m old) (inr old))
        ]
    | inr (here, now) ↦ elim (stands_back (home n m) (Correlating x m) begun) [
      | inl earlier ↦ elim (f.keeps.outcome x m earlier) [
        | inl kept ↦ absurd (apart s m process (beginning s m now) its x its_too earlier (inl kept))
        | inr (inl closed) ↦ inr (closed_on x closed)
        | inr (inr still) ↦ absurd (apart s m process (beginning s m now) its x its_too earlier (inr still))
      ]
      | inr (there, too) ↦ inl (cc (now, too))
    ]
  ]

  -- what ends a correlation: the message was kept, or its subscription has closed
  ended : (s m : ℕ) → task_of s (parts p) ≡ Some m → (Parts s e ⊎ (x : ℕ) × (e ≡ Correlating s x)) → HasKept n parts s m ⊎ HasClosed n parts s
  ended s m task (inr (x, is)) = let none = (beginning s x (sym is)).idle in absurd (cc)
  ended s m task (inl parted) = by_telling e refl parted
    where
      by_telling : (x : Telling) → x ≡ e → Parts s x → HasKept n parts s m ⊎ HasClosed n parts s
      by_telling (Opened key terms) is its =
          let none = (may_be (Opened key terms) is).1 in
          let here : task_of s (parts p) ≡ None = subst (λ (y : ℕ). task_of y (parts p) ≡ None) its none in
          absurd (cc)
      by_telling (Correlated key x) is its =
          let may = may_be (Correlated key x) is in
          let there : task_of s (parts p) ≡ Some x = subst (λ (y : ℕ). task_of y (parts p) ≡ Some x) its may.1 in
          let same : x ≡ m = cc in
          let kept : HasKept n parts key x = f.keeps.acknowledged key x (backed_by (WasKept key x) may.0) in
          inl (subst (λ (y : ℕ). HasKept n parts y m) its (subst (HasKept n parts key) same kept))
      by_telling (Rejected key x) is its = inr (subst (HasClosed n parts) its (giving_up key x is).closed)
      by_telling (Deleted key) is its = let may = may_be (Deleted key) is in let sent = backed_by (Delete key may.0) may.1 in inr (subst (HasClosed n parts) its (sent.0, may.0, sent.1))
      by_telling _ is its = absurd its

  -- who has begun to correlate a message is at it, until it was kept or its subscription has closed
  outcome_on : (s m : ℕ) → HasBegun n grown s m → HasKept n grown s m ⊎ (HasClosed n grown s ⊎ IsCorrelating n grown s m)
  outcome_on s m begun = elim (stands_back (home n m) (Correlating s m) begun) [
    | inl old ↦ elim (f.keeps.outcome s m old) [
      | inl kept ↦ inl (stands_on (home n s) (Kept s m) kept)
      | inr (inl closed) ↦ inr (inl (closed_on s closed))
      | inr (inr task) ↦ elim (correlating_on s m task) [
        | inl still ↦ inr (inr still)
        | inr (here, at, ends) ↦ elim (ended s m at ends) [
          | inl kept ↦ inl (stands_on (home n s) (Kept s m) kept)
          | inr closed ↦ inr (inl (closed_on s closed))
        ]
      ]
    ]
    | inr (here, now) ↦
        let b = beginning s m now in
        let told : parts p ++ Correlating s m ∷ [] ≡ grown (home n m) = ap (λ (x : Telling). parts p ++ x ∷ []) now ∙ sym (grown_at (home n m) b.here) in
        inr (inr (subst (λ (es : List Telling). task_of s es ≡ Some m) told (task_now s m (parts p) b.there)))
  ]

  -- a closed subscription keeps nothing more, and what it has kept it doesn't begin to correlate
  parted_on : (s m : ℕ) → HasClosed n parts s → (HasKept n parts s m → IsCorrelating n parts s m → ⊥) → HasKept n grown s m → IsCorrelating n grown s m → ⊥
  parted_on s m closed parted kept task = elim (stands_back (home n s) (Kept s m) kept) [
    | inl old ↦ elim (correlating_back s m task) [
      | inl (was, out) ↦ parted old was
      | inr (here, now) ↦ let b = beginning s m now in b.free (f.keeps.kept_claimed s m b.terms.process old (b.terms, b.has, refl))
    ]
    | inr (here, now) ↦ (keeping s m now).unclosed closed
  ]

  -- a closing names just the messages that were kept: nothing is kept behind it
  closing_on : (q s : ℕ) (correlation_key keys : List ℕ) → Contains (grown q) (Closing s correlation_key keys)
      → (q ≡ home n s) × ((terms : Terms) × HasTerms n grown s terms × (terms.correlation_key ≡ correlation_key)) × ((m : ℕ) → Contains keys m ↔ HasKept n grown s m)
  closing_on q s correlation_key keys stands = elim (stands_back q (Closing s correlation_key keys) stands) [
    | inl old ↦
        let its = f.keeps.closing q s correlation_key keys old in
        let closed : HasClosed n parts s = (correlation_key, keys, subst (λ (y : ℕ). Contains (parts y) (Closing s correlation_key keys)) its.0 old) in (
          its.0,
          (its.1.0, stands_on (home n s) (Opens s its.1.0) its.1.1, its.1.2),
          λ (m : ℕ). (
            λ (named : Contains keys m). stands_on (home n s) (Kept s m) ((its.2 m).0 named),
            λ (kept : HasKept n grown s m). elim (stands_back (home n s) (Kept s m) kept) [
              | inl before ↦ (its.2 m).1 before
              | inr (here, now) ↦ absurd ((keeping s m now).unclosed closed)
            ],
          ),
        )
    | inr (here, now) ↦
        let may = may_be (Closing s correlation_key keys) now in
        let home_is = f.keeps.opens_home p s may.0 may.1 in
        let has : HasTerms n parts s may.0 = subst (λ (y : ℕ). Contains (parts y) (Opens s may.0)) home_is may.1 in (
          here ∙ home_is,
          (may.0, stands_on (home n s) (Opens s may.0) has, may.2),
          λ (m : ℕ). (
            λ (named : Contains keys m). stands_on (home n s) (Kept s m) (subst (λ (y : ℕ). Contains (parts y) (Kept s m)) home_is ((may.3 m).0 named)),
            λ (kept : HasKept n grown s m). elim (stands_back (home n s) (Kept s m) kept) [
              | inl before ↦ (may.3 m).1 (subst (λ (y : ℕ). Contains (parts y) (Kept s m)) (sym home_is) before)
              | inr (there, too) ↦ absurd (cc (now, too))
            ],
          ),
        )
  ]

  -- a message that has expired isn't buffered, and never again
  expired_on : (q m : ℕ) → Contains (grown q) (Expired m) → (still_buffered m (grown q) ≡ false) × Contains (grown q) (Published m)
  expired_on q m stands = elim (cases_eq q p) [
    | inl same ↦
        let published : Contains (parts p) (Published m) = elim (stands_back q (Expired m) stands) [
          | inl old ↦ subst (λ (y : ℕ). Contains (parts y) (Published m)) same (f.keeps.expired q m old).1
          | inr (here, now) ↦ buffered_stands m (parts p) (may_be (Expired m) now)
        ] in
        let out : still_buffered m (parts p ++ e ∷ []) ≡ true → ⊥ = λ is. elim (buffered_back m (parts p) e is) [
          | inl (was, lasts) ↦ elim (stands_back q (Expired m) stands) [
            | inl old ↦
                let none = (f.keeps.expired q m old).0 in
                let here : still_buffered m (parts p) ≡ false = subst (λ (y : ℕ). still_buffered m (parts y) ≡ false) same none in
                absurd (cc)
            | inr (here, now) ↦ lasts (sym now)
          ]
          | inr now ↦ (may_be (Published m) (sym now)).1 published
        ] in
        let gone : still_buffered m (grown q) ≡ false = subst (λ (es : List Telling). still_buffered m es ≡ false) (sym (grown_at q same)) (is_false (still_buffered m (parts p ++ e ∷ [])) out) in
        (gone, stands_on q (Published m) (subst (λ (y : ℕ). Contains (parts y) (Published m)) (sym same) published))
    | inr other ↦
        let before : Contains (parts q) (Expired m) = subst (λ (es : List Telling). Contains es (Expired m)) (f.elsewhere q other) stands in
        let its = f.keeps.expired q m before in
        (subst (λ (es : List Telling). still_buffered m es ≡ false) (sym (f.elsewhere q other)) its.0, stands_on q (Published m) its.1)
  ]

  -- a subscription opens under a fresh key, so it has the terms of one
  opens_once_on : (s : ℕ) (terms other : Terms) → HasTerms n grown s terms → HasTerms n grown s other → terms ≡ other
  opens_once_on s terms other has has_too = elim (stands_back (home n s) (Opens s terms) has) [
    | inl old ↦ elim (stands_back (home n s) (Opens s other) has_too) [
      | inl old_too ↦ f.keeps.opens_once s terms other old old_too
      | inr (here, now) ↦ absurd ((may_be (Opens s other) now).1 terms (subst (λ (q : ℕ). Contains (parts q) (Opens s terms)) here old))
    ]
    | inr (here, now) ↦ elim (stands_back (home n s) (Opens s other) has_too) [
      | inl old_too ↦ absurd ((may_be (Opens s terms) now).1 other (subst (λ (q : ℕ). Contains (parts q) (Opens s other)) here old_too))
      | inr (there, too) ↦ cc (now, too)
    ]
  ]

  -- a definition gets a fresh key, so it is of one process
  defined_once_on : (d : ℕ) (process other : List ℕ) → IsDefinedAs n grown d process → IsDefinedAs n grown d other → process ≡ other
  defined_once_on d process other is is_too = elim (stands_back (home n d) (Defined d process) is) [
    | inl old ↦ f.keeps.defined_once d process other old (defined_back d other process old is_too)
    | inr (here, now) ↦ elim (stands_back (home n d) (Defined d other) is_too) [
      | inl old_too ↦ absurd ((may_be (Defined d process) now).1 other (subst (λ (q : ℕ). Contains (parts q) (Defined d other)) here old_too))
      | inr (there, too) ↦ cc (now, too)
    ]
  ]

  -- what is opened at the home of its messages has opened at its own partition: that was sent
  opened_on : (q s : ℕ) (terms : Terms) → Contains (grown q) (Opened s terms) → HasTerms n grown s terms × (q ≡ seat n terms.correlation_key)
  opened_on q s terms stands = elim (stands_back q (Opened s terms) stands) [
    | inl old ↦ let its = f.keeps.opened q s terms old in (stands_on (home n s) (Opens s terms) its.0, its.1)
    | inr (here, now) ↦ let sent = backed_by (Create s terms) (may_be (Opened s terms) now).0 in (stands_on (home n s) (Opens s terms) sent.0, here ∙ sent.1)
  ]

  -- what begins to correlate was opened, and its message lives there
  begun_on : (q s m : ℕ) → Contains (grown q) (Correlating s m) → (q ≡ home n m) × (terms : Terms) × Contains (grown q) (Opened s terms)
  begun_on q s m stands = elim (stands_back q (Correlating s m) stands) [
    | inl old ↦ let its = f.keeps.begun q s m old in (its.0, its.1, stands_on q (Opened s its.1) its.2)
    | inr (here, now) ↦
        let b = beginning s m now in
        let opened : Contains (grown p) (Opened s b.terms) = stands_on p (Opened s b.terms) (terms_stand s b.terms (parts p) b.view) in
        (here ∙ sym b.here, b.terms, subst (λ (y : ℕ). Contains (grown y) (Opened s b.terms)) (sym here) opened)
  ]

  -- a definition is told of at the partition of its key too: it is one of that, or was sent
  defined_on : (q d : ℕ) (process : List ℕ) → Contains (grown q) (Defined d process) → IsDefinedAs n grown d process
  defined_on q d process stands = elim (stands_back q (Defined d process) stands) [
    | inl old ↦ stands_on (home n d) (Defined d process) (f.keeps.defined q d process old)
    | inr (here, now) ↦ elim ((may_be (Defined d process) now).0) [
      | inl its ↦ subst (λ (x : Telling). Contains (grown (home n d)) x) (sym now) (stands_now (home n d) its)
      | inr by ↦ stands_on (home n d) (Defined d process) (backed_by (Distribute d process) by)
    ]
  ]

  -- a start is at home with its message, and of a definition that is there
  started_on : (q m d : ℕ) → Contains (grown q) (Started m d) → (q ≡ home n m) × (process : List ℕ) × IsDefinedAs n grown d process
  started_on q m d stands = elim (stands_back q (Started m d) stands) [
    | inl old ↦ let its = f.keeps.started q m d old in (its.0, its.1, stands_on (home n d) (Defined d its.1) its.2)
    | inr (here, now) ↦ let s = starting m d now in (here ∙ sym s.here, s.process, stands_on (home n d) (Defined d s.process) s.defines)
  ]

  -- what keeps a message is at home, and has begun to correlate it
  kept_on : (q s m : ℕ) → Contains (grown q) (Kept s m) → (q ≡ home n s) × HasBegun n grown s m
  kept_on q s m stands = elim (stands_back q (Kept s m) stands) [
    | inl old ↦ let its = f.keeps.kept q s m old in (its.0, stands_on (home n m) (Correlating s m) its.1)
    | inr (here, now) ↦ let k = keeping s m now in (here ∙ k.here, stands_on (home n m) (Correlating s m) k.begun)
  ]

  -- one telling more keeps it all
  pub keeps_more : KeepsMessages n grown replies
  keeps_more = record {
    opens_home = λ q s terms stands. elim (stands_back q (Opens s terms) stands) [ inl old ↦ f.keeps.opens_home q s terms old | inr (here, now) ↦ here ∙ sym (may_be (Opens s terms) now).0 ];
    opens_once = opens_once_on;
    opened = opened_on;
    published_home = λ q m stands. elim (stands_back q (Published m) stands) [ inl old ↦ f.keeps.published_home q m old | inr (here, now) ↦ here ∙ sym (may_be (Published m) now).0 ];
    expired = expired_on;
    begun = begun_on;
    defined = defined_on;
    defined_once = defined_once_on;
    started = started_on;
    kept = kept_on;
    closing = closing_on;
    gone = λ q s stands. elim (stands_back q (Gone s) stands) [ inl old ↦ f.keeps.gone q s old | inr (here, now) ↦ backed_by (IsDeleted s) (may_be (Gone s) now) ];
    acknowledged = λ s m was. stands_on (home n s) (Kept s m) (f.keeps.acknowledged s m was);
    refused = λ s m was. let its = f.keeps.refused s m was in (closed_on s its.0, parted_on s m its.0 its.1);
    freed = λ s was. let its = f.keeps.freed s was in (closed_on s its.0, λ m. parted_on s m its.0 (its.1 m));
    kept_claimed = kept_claimed_on;
    start_claimed = start_claimed_on;
    task_claimed = task_claimed_on;
    no_start = no_start_on;
    alone_now = alone_now_on;
    alone_kept = alone_kept_on;
    alone_begun = alone_begun_on;
    outcome = outcome_on;
  }

  -- what is asked is still backed
  pub backed_on : (x : Asking) → IsBacked n parts replies p x → IsBacked n grown replies p x
  backed_on (Distribute d process) is = stands_on (home n d) (Defined d process) is
  backed_on (Create s terms) (has, to) = (stands_on (home n s) (Opens s terms) has, to)
  backed_on (Correlate s m) (begun, to) = (stands_on (home n m) (Correlating s m) begun, to)
  backed_on (WasKept s m) is = is
  backed_on (Reject s m) is = is
  backed_on (Delete s keys) (correlation_key, stands, to) = (correlation_key, stands_on (home n s) (Closing s correlation_key keys) stands, to)
  backed_on (IsDeleted s) is = is
  backed_on _ is = is
