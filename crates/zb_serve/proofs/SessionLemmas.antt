-- A run of one session, as a run of a list of them.
use Rattle.std.proofs.Common.{◌≡◌, ℕ, List, [], ◌∷◌, length, get_or, refl, sym, ap, subst, arith}
use Rattle.std.proofs.Math.ListN.{set}
use Rattle.zb_store.specs.declared.volume.Volume.{Volume}
use Rattle.zb_session.specs.Session.{session_ends}
use Rattle.zb_session.specs.declared.session.Session.{Session}
use Rattle.zb_words.specs.Plan.{IsPlan}
use Rattle.zb_words.proofs.WordLaws.{one_plan}
use Rattle.zb_words.specs.declared.plan.Plan.{Plan}
use Rattle.zb_words.specs.declared.plan.Plan.TheVariants as plans
use Rattle.zb_words.specs.declared.plan.ServePlan.{ServePlan}
use Rattle.zb_words.specs.declared.fault.PlanFault.{PlanFault}
use Rattle.zb_words.specs.declared.fault.PlanFault.TheVariants as faults
use Rattle.zb_serve.specs.Words.{words_cause_of}
use Rattle.zb_serve.specs.Ends.{Told, RunEnds, Crashes, Devices, told_of, volumes_ends, ends_of, crashes_of}
use Rattle.zb_serve.specs.Setting.{RunSetting}
use Rattle.zb_serve.specs.Served.{MayEnd, FailsToOpen, answer_of_run, IsRun}
use Rattle.zb_serve.specs.Running.{ends_alone}
use Rattle.zb_serve.specs.declared.run.Cause.{Cause}
use Rattle.zb_serve.specs.declared.run.Cause.TheVariants as causes

-- a list of one member
pub one_member : {A : Type 0} (xs : List A) (x : A) → length xs ≡ 1 → x ≡ get_or xs 0 x → xs ≡ x ∷ []
one_member [] x one is = absurd (omega arith)
one_member (a ∷ []) x one is = ap (λ y. y ∷ []) (sym is)
one_member (a ∷ b ∷ xs) x one is = absurd (omega arith)

pub one_set : {A : Type 0} (xs : List A) (x y : A) → xs ≡ x ∷ [] → set xs 0 y ≡ y ∷ []
one_set xs x y is = ap (λ l. set l 0 y) is

-- the run of the one session is the run
pub run_single : {S K D : Type 0} (devices : Devices S K D) (setting : RunSetting) (old new : Session S K) (olds news : List (Session S K)) (volumes volumes' back : List (Volume D))
    (cause : Cause) (units : ℕ) (stamps : List (List ℕ)) → olds ≡ old ∷ [] → news ≡ new ∷ [] → back ≡ volumes'
    → IsRun (told_of devices) setting
    (ends_alone (session_ends (devices.source.view old.source) (devices.source.view new.source) (devices.sink.view old.sink) (devices.sink.view new.sink)) (volumes_ends devices.disk volumes volumes'))
    (crashes_of devices.disk volumes volumes') (answer_of_run cause stamps units)
    → IsRun (told_of devices) setting (ends_of devices olds news volumes back) (crashes_of devices.disk volumes back) (answer_of_run cause stamps units)
run_single devices setting old new olds news volumes volumes' back cause units stamps e1 e2 e3 run = rw (e1, e2, e3) run

-- a run of planned words is no question of usage
pub not_usage : (told : Told) (setting : RunSetting) (ends : RunEnds) (crashes : Crashes) (cause : Cause) (units : ℕ) (stamps : List (List ℕ)) → IsRun told setting ends crashes (answer_of_run cause stamps units) → cause ≡ causes.Usage → ⊥
not_usage told setting ends crashes cause units [] run is = subst (λ (c : Cause). FailsToOpen told ends.volumes c) is run.0
not_usage told setting ends crashes cause units (stamp ∷ stamps) run is = subst (λ (c : Cause). MayEnd (length ends.sessions) (length ends.volumes) c) is run.2.status

-- words that weren't read were none of a command line, or there was no memory
pub usage_fault : (fault : PlanFault) → words_cause_of fault ≡ causes.Usage → fault ≡ faults.Usage
usage_fault faults.Usage is = refl
usage_fault faults.Memory is = absurd (cc (is))

pub memory_fault : (fault : PlanFault) → (words_cause_of fault ≡ causes.Usage → ⊥) → words_cause_of fault ≡ causes.Memory
memory_fault faults.Usage not = absurd (not refl)
memory_fault faults.Memory not = refl

-- words that ask for one plan of a server don't ask for another
pub one_served : (words : List (List ℕ)) (a b : ServePlan) → IsPlan words (plans.Serve a) → IsPlan words (plans.Serve b) → a ≡ b
one_served words a b first second = let same = one_plan words (plans.Serve a) (plans.Serve b) first second in cc (same)

-- nor for another verb's
pub only_served : (words : List (List ℕ)) (read : Plan) (plan : ServePlan) → IsPlan words read → IsPlan words (plans.Serve plan) → read ≡ plans.Serve plan
only_served words read plan first second = one_plan words read (plans.Serve plan) first second
