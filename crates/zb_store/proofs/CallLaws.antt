-- Laws of calls of a disk, one after another.
use Rattle.std.proofs.Common.{◌≡◌, ◌⊎◌, inl, inr, ℕ, ◌<◌, ◌≤◌, List, length, IsTrue, Result, Ok, Err, OnOk, ◌∙◌, ap, arith}
use Rattle.std.proofs.lemmas.Bool.{cases_lt}
use Rattle.zb_disk.specs.Disk.{Elapses}
use Rattle.zb_disk.specs.declared.disk.Disk.{Ghosts}
use Rattle.zb_store.specs.Calls.{LeavesOnly, LeavesFiles, OnlyReads, OnlyOpens, Settles}

-- no call leaves anything more
pub leaves_none : (now : ℕ) (since : ℕ → List ℕ → Type 0) (P : List ℕ → Type 0) → LeavesOnly now now since since P
leaves_none now since P = record {
  later = omega arith;
  nothing_else = λ t c le was. inl was;
  keeps = λ t c le was. was;
  splits = λ t u c le lt was. inl was;
}

-- one call after another leaves what either of them leaves
pub leaves_then : (before between now : ℕ) (past mid since : ℕ → List ℕ → Type 0) (P Q : List ℕ → Type 0) → LeavesOnly before between past mid P → LeavesOnly between now mid since Q → LeavesOnly before now past since (λ c. P c ⊎ Q c)
leaves_then before between now past mid since P Q first second = record {
  later = omega (arith, first.later, second.later);
  nothing_else = λ t c le was. elim (second.nothing_else t c (omega (arith, first.later, le)) was) [
    | inr left ↦ inr (inr left)
    | inl earlier ↦ elim (first.nothing_else t c le earlier) [
      | inl long_ago ↦ inl long_ago
      | inr left ↦ inr (inl left)
    ]
  ];
  keeps = λ t c le was. second.keeps t c (omega (arith, first.later, le)) (first.keeps t c le was);
  splits = λ t u c order le was. elim (second.splits t u c order (omega (arith, first.later, le)) was) [
    | inr later ↦ inr later
    | inl earlier ↦ elim (first.splits t u c order le earlier) [
      | inl long_ago ↦ inl long_ago
      | inr then ↦ inr (second.keeps u c (omega (arith, first.later, le)) then)
    ]
  ];
}

-- what is left has whatever follows from P
pub leaves_weaker : (before now : ℕ) (past since : ℕ → List ℕ → Type 0) (P Q : List ℕ → Type 0) → ((c : List ℕ) → P c → Q c) → LeavesOnly before now past since P → LeavesOnly before now past since Q
leaves_weaker before now past since P Q so leaves = record {
  later = leaves.later;
  nothing_else = λ t c le was. elim (leaves.nothing_else t c le was) [
    | inl earlier ↦ inl earlier
    | inr left ↦ inr (so c left)
  ];
  keeps = leaves.keeps;
  splits = leaves.splits;
}

-- one call leaves what a crash behind it leaves
pub leaves_call : (before now : ℕ) (past since : ℕ → List ℕ → Type 0) (images P : List ℕ → Type 0) → Elapses before now past since images → ((t : ℕ) (c : List ℕ) → t ≤ now → images c → since t c) → ((c : List ℕ) → images c → P c) → LeavesOnly before now past since P
leaves_call before now past since images P time counts so = record {
  later = time.later;
  nothing_else = λ t c le was. elim (time.nothing_else t c le was) [
    | inl earlier ↦ inl earlier
    | inr left ↦ inr (so c left)
  ];
  keeps = time.keeps;
  splits = λ t u c order le was. elim (time.nothing_else t c (omega (arith, order, le)) was) [
    | inl earlier ↦ inl earlier
    | inr left ↦ inr (counts u c (omega (arith, le, time.later)) left)
  ];
}

-- what holds, holds of any answer
pub on_ok : {A B : Type 0} (result : Result A B) (P : Type 0) → P → OnOk result P
on_ok (Ok value) P p = p
on_ok (Err fault) P p = tt

-- a crash since the calls began leaves what one before them might have left, or what they leave
pub leaves_since : (before now : ℕ) (past since : ℕ → List ℕ → Type 0) (P : List ℕ → Type 0) → LeavesOnly before now past since P → (c : List ℕ) → since before c → past before c ⊎ P c
leaves_since before now past since P leaves c was = leaves.nothing_else before c (omega arith) was

-- what a first call leaves, if all of it has P, is settled
pub settles_first : (began now : ℕ) (before : List ℕ → Type 0) (past since : ℕ → List ℕ → Type 0) (images P : List ℕ → Type 0) → Elapses began now past since images
    → ((c : List ℕ) → past began c → before c) → ((c : List ℕ) → since now c → images c) → ((c : List ℕ) → images c → since now c) → ((c : List ℕ) → images c → P c)
    → Settles began now before since P
settles_first began now before past since images P time then_alone now_alone counts so = record {
  opened_at = now;
  by_first = (time.later, time.next);
  later = omega arith;
  left = λ c was. so c (now_alone c was);
  earlier = λ c was. elim (time.nothing_else began c (omega arith) was) [
    | inl long_ago ↦ inl (then_alone c long_ago)
    | inr image ↦ inr (counts c image)
  ];
}

-- and stays so where the calls behind it leave only files that have P
pub settles_then : (began between now : ℕ) (before : List ℕ → Type 0) (past since : ℕ → List ℕ → Type 0) (P Q : List ℕ → Type 0) → Settles began between before past P → LeavesOnly between now past since Q → ((c : List ℕ) → Q c → P c) → Settles began now before since P
settles_then began between now before past since P Q first leaves so = record {
  opened_at = first.opened_at;
  by_first = first.by_first;
  later = omega (arith, first.later, leaves.later);
  left = λ c was. elim (leaves.nothing_else first.opened_at c first.later was) [
    | inl earlier ↦ first.left c earlier
    | inr image ↦ so c image
  ];
  earlier = λ c was. elim (leaves.splits began first.opened_at c first.by_first.0 first.later was) [
    | inl long_ago ↦ elim (first.earlier c long_ago) [
      | inl image ↦ inl image
      | inr then ↦ inr (leaves.keeps first.opened_at c first.later then)
    ]
    | inr then ↦ inr then
  ];
}

-- what is settled has whatever follows from P
pub settles_weaker : (began now : ℕ) (before : List ℕ → Type 0) (since : ℕ → List ℕ → Type 0) (P Q : List ℕ → Type 0) → ((c : List ℕ) → P c → Q c) → Settles began now before since P → Settles began now before since Q
settles_weaker began now before since P Q so settled = record {
  opened_at = settled.opened_at;
  by_first = settled.by_first;
  later = settled.later;
  left = λ c was. so c (settled.left c was);
  earlier = settled.earlier;
}

module _ {D : Type 0} (disks : Ghosts D) where
  -- a disk, and what it became: a crash since leaves a file that has P
  abbrev pub CallsLeave : D → D → (List ℕ → Type 0) → Type 0
  CallsLeave old new P = LeavesOnly (disks.view old).moment (disks.view new).moment (disks.since old) (disks.since new) P

  -- what is left has whatever follows from P
  pub left_weaker : (old new : D) (P Q : List ℕ → Type 0) → ((c : List ℕ) → P c → Q c) → LeavesFiles disks old new P → LeavesFiles disks old new Q
  left_weaker old new P Q so left = record {
    file = λ told. so (disks.view new).contents (left.file told);
    crash = λ told c image. so c (left.crash told c image);
    since = λ told c was. so c (left.since told c was);
    time = λ told. leaves_weaker (disks.view old).moment (disks.view new).moment (disks.since old) (disks.since new) P Q so (left.time told);
  }

  -- a disk, and what it became by reading alone
  abbrev pub CallsRead : D → D → Type 0
  CallsRead old new = OnlyReads disks old new

  -- a disk, and what it became by an opening
  abbrev pub Opens : D → D → Type 0
  Opens old new = OnlyOpens disks old new

  -- what reading leaves after other calls that leave no more than P, P is left of it all
  leaves_read : (old mid new : D) (P : List ℕ → Type 0) → ((c : List ℕ) → disks.images mid c → P c) → CallsLeave old mid P → CallsLeave mid new (disks.images mid) → CallsLeave old new P
  leaves_read old mid new P within first second =
      let was = disks.since old in
      let is = disks.since new in
      leaves_weaker (disks.view old).moment (disks.view new).moment was is (λ c. P c ⊎ disks.images mid c) P (λ c left. elim left [ inl first_left ↦ first_left | inr image ↦ within c image ])
      (leaves_then (disks.view old).moment (disks.view mid).moment (disks.view new).moment was (disks.since mid) is P (disks.images mid) first second)

  -- reading, and then more of it
  pub reads_then : (old mid new : D) → CallsRead old mid → CallsRead mid new → CallsRead old new
  reads_then old mid new first second = record {
    later = omega (arith, first.later, second.later);
    same = λ told. second.same told ∙ first.same told;
    crash = λ told c image. first.crash told c (second.crash told c image);
    time = λ told. leaves_read old mid new (disks.images old) (first.crash told) (first.time told) (second.time told);
  }

  -- what is settled stays so where it is read
  pub settles_read : (began : ℕ) (before P : List ℕ → Type 0) (old new : D) → IsTrue disks.tells_images
      → ((t : ℕ) (c : List ℕ) → t ≤ (disks.view old).moment → disks.images old c → disks.since old t c)
      → Settles began (disks.view old).moment before (disks.since old) P → CallsRead old new → Settles began (disks.view new).moment before (disks.since new) P
  settles_read began before P old new told counts first reads =
      settles_then began (disks.view old).moment (disks.view new).moment before (disks.since old) (disks.since new) P (disks.images old) first (reads.time told)
      (λ c image. first.left c (counts first.opened_at c first.later image))

  -- an opening, and then reading
  pub opens_then : (old mid new : D) → Opens old mid → CallsRead mid new → Opens old new
  opens_then old mid new first second = record {
    later = omega (arith, first.later, second.later);
    same = λ told long. second.same told ∙ first.same told long;
    short = λ told few. omega (arith, ap length (second.same told), first.short told few);
    crash = λ told c image. first.crash told c (second.crash told c image);
    time = λ told. leaves_read old mid new _ (first.crash told) (first.time told) (second.time told);
  }

  -- after an opening, a file of more than one byte is as it was
  pub opens_long : (old new : D) → Opens old new → IsTrue disks.tells → 1 < length (disks.view new).contents → (disks.view new).contents ≡ (disks.view old).contents
  opens_long old new opens told long = elim (cases_lt 1 (length (disks.view old).contents)) [
    | inl was_long ↦ opens.same told was_long
    | inr was_short ↦ absurd (omega (arith, long, opens.short told was_short))
  ]
