-- What a change makes of the locks, and of the instances that messages have started.
use Rattle.std.specs.Prelude.{ℕ, ◌==◌, List, [], ◌∷◌, ◌++◌, filter, not, Bool, true}
use Rattle.zb_table.specs.Rows.{are_below}
use Rattle.zb_views.specs.declared.lock.Lock.{Lock}
use Rattle.zb_views.specs.declared.started.Started.{Started}
use Rattle.zb_views.specs.Subscriptions.{is_lock}
use Rattle.zb_starts.specs.declared.change.Change.{Change}
use Rattle.zb_starts.specs.declared.change.Change.TheVariants.{Locked, Freed, Expired, Begun, Ended}

-- an instance that begins by a change has a greater key than all that are there (own)
abbrev pub begins_last : Change → List Started → Bool
begins_last (Begun started) ss = are_below (λ s. s.instance) started.instance ss
begins_last _ ss = true

-- the locks behind a change: one more, none of a message for a process, or none of a message that has expired (own)
abbrev pub locks_by : Change → List Lock → List Lock
locks_by (Locked lock) ls = ls ++ lock ∷ []
locks_by (Freed lock) ls = filter (λ l. not (is_lock lock.message lock.process l)) ls
locks_by (Expired message) ls = filter (λ l. not (l.message == message)) ls
locks_by _ ls = ls

-- the instances behind a change: one more, or one less (own)
abbrev pub instances_by : Change → List Started → List Started
instances_by (Begun started) ss = ss ++ started ∷ []
instances_by (Ended instance) ss = filter (λ s. not (s.instance == instance)) ss
instances_by _ ss = ss
