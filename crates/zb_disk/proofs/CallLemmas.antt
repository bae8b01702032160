-- What a call more means for the file, for what a crash may leave, and for the moments.
use Rattle.std.proofs.Common.{◌≡◌, inl, inr, ℕ, ◌+◌, ◌≤◌, List, [], ◌∷◌, ◌++◌, length, take, true, false, nat_le, IsFalse, refl, sym, ◌∙◌, ap, subst, arith}
use Rattle.std.proofs.lemmas.Bool.{cases_eq, false≢true}
use Rattle.std.proofs.lemmas.Bool.Decides.{nat_tests}
use Rattle.std.proofs.lemmas.List.{take_all, take-append-le, length_push}
use Rattle.zb_disk.specs.declared.calls.Call.{Call}
use Rattle.zb_disk.specs.declared.calls.Write.{Write}
use Rattle.zb_disk.specs.declared.calls.Call.TheVariants.{Wrote, Synced, Other}
use Rattle.zb_disk.specs.Disk.{overwritten, Torn, Follows, Elapses}
use Rattle.zb_disk.specs.Kept.{after, file_after, is_write, Leaves, IsImage, WasImage}
use Rattle.zb_disk.proofs.PushLemmas.{file_push, image_push}
use Rattle.zb_disk.specs.MomentLaws.{torn_none, reads}

-- time goes on where no call is kept
pub elapses_none : (file : List ℕ) (old new : List Call) → new ≡ old → Elapses (length old) (length new) (WasImage file old) (WasImage file new) (IsImage file new)
elapses_none file old new same = record {
  later = omega (arith, ap length same);
  next = omega (arith, ap length same);
  nothing_else = λ t c le was. inl (subst (λ (l : List Call). WasImage file l t c) same was);
  keeps = λ t c le was. subst (λ (l : List Call). WasImage file l t c) (sym same) was;
}

-- and where one is
pub elapses_push : (file : List ℕ) (old new : List Call) (call : Call) → new ≡ old ++ call ∷ [] → Elapses (length old) (length new) (WasImage file old) (WasImage file new) (IsImage file new)
elapses_push file old new call pushed = record {
  later = omega (arith, size);
  next = omega (arith, size);
  nothing_else = λ t c le was. elim (cases_eq was.0 (length new)) [
    | inl last ↦ inr (subst (λ (l : List Call). IsImage file l c) (take_all was.0 new (omega arith)) was.3)
    | inr sooner ↦
        let within : was.0 ≤ length old = omega (arith, was.2, size) in
        inl (was.0, was.1, within, subst (λ (l : List Call). IsImage file l c) (front was.0 within) was.3)
  ];
  keeps = λ t c le was. (was.0, was.1, omega (arith, was.2, size), subst (λ (l : List Call). IsImage file l c) (sym (front was.0 was.2)) was.3);
}
  where
    size : length new ≡ length old + 1
    size = omega (arith, ap length pushed, length_push old call)

    front : (k : ℕ) → k ≤ length old → take k new ≡ take k old
    front k le = ap (λ (l : List Call). take k l) pushed ∙ take-append-le k old (call ∷ []) le

-- a call that doesn't write
plain_file : (file : List ℕ) (call : Call) → IsFalse (is_write call) → after file call ≡ file
plain_file file (Wrote w) plain = cc
plain_file file Synced plain = refl
plain_file file Other plain = refl

pub pushed_file : (first : List ℕ) (old new : List Call) (call : Call) → IsFalse (is_write call) → new ≡ old ++ call ∷ [] → file_after first new ≡ file_after first old
pushed_file first old new call plain pushed =
    ap (λ (l : List Call). file_after first l) pushed ∙ file_push first old call ∙ plain_file (file_after first old) call plain

plain_image : (file : List ℕ) (call : Call) (before : List ℕ → Type 0) (c : List ℕ) → IsFalse (is_write call) → before file → Leaves file call before c → before c
plain_image file (Wrote w) before c plain held left = absurd (false≢true (sym plain))
plain_image file Synced before c plain held left = subst before (sym left) held
plain_image file Other before c plain held left = left

-- what a crash may leave after it, by what it might have left before
left_after : (first : List ℕ) (old new : List Call) (call : Call) (c : List ℕ) → new ≡ old ++ call ∷ [] → IsImage first new c → Leaves (file_after first old) call (IsImage first old) c
left_after first old new call c pushed image =
    image_push (λ d. d ≡ first) first old call c (subst (λ (l : List Call). IsImage first l c) pushed image)

pub pushed_image : (first : List ℕ) (old new : List Call) (call : Call) (c : List ℕ) → IsFalse (is_write call) → new ≡ old ++ call ∷ [] → IsImage first new c → IsImage first old c
pushed_image first old new call c plain pushed image =
    plain_image (file_after first old) call (IsImage first old) c plain (reads first old (file_after first old) refl) (left_after first old new call c pushed image)

-- a sync leaves the file alone
pub synced_image : (first : List ℕ) (old new : List Call) (call : Call) (c : List ℕ) → call ≡ Synced → new ≡ old ++ call ∷ [] → IsImage first new c → c ≡ file_after first new
synced_image first old new call c sync pushed image =
    let is : new ≡ old ++ Synced ∷ [] = pushed ∙ ap (λ (x : Call). old ++ x ∷ []) sync in
    left_after first old new Synced c is image ∙ sym (pushed_file first old new Synced refl is)

-- a write, done or not, leaves what it might have been cut short to
pub written_image : (first : List ℕ) (old new : List Call) (w : Write) → new ≡ old ++ Wrote w ∷ [] → Follows (Torn w.at (length w.bytes.items)) (IsImage first old) (IsImage first new)
written_image first old new w pushed = λ c image. left_after first old new (Wrote w) c pushed image

pub unwritten_image : (first : List ℕ) (old new : List Call) (at n : ℕ) → new ≡ old → Follows (Torn at n) (IsImage first old) (IsImage first new)
unwritten_image first old new at n same = λ c image.
    (c, subst (λ (l : List Call). IsImage first l c) same image, torn_none c at n)

-- the file after a write
pub done_file : (first : List ℕ) (old new : List Call) (w : Write) → w.is_done ≡ true → w.at ≤ length (file_after first old) → new ≡ old ++ Wrote w ∷ [] → file_after first new ≡ overwritten (file_after first old) w.at w.bytes.items
done_file first old new w done inside pushed =
    let is : nat_le w.at (length (file_after first old)) ≡ true = grind (arith, nat_tests) in
    ap (λ (l : List Call). file_after first l) pushed ∙ file_push first old (Wrote w) ∙ rw (done, is) refl

pub failed_file : (first : List ℕ) (old new : List Call) (w : Write) → w.is_done ≡ false → new ≡ old ++ Wrote w ∷ [] → file_after first new ≡ file_after first old
failed_file first old new w done pushed =
    ap (λ (l : List Call). file_after first l) pushed ∙ file_push first old (Wrote w) ∙ rw done refl

-- the lemmas that a function which keeps a call takes
pub ruleset steps = (elapses_none, elapses_push, pushed_file, pushed_image, synced_image, written_image, unwritten_image, done_file, failed_file)
