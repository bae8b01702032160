-- What a sync means for the images: the calls up to it count by the file that they leave.
use Rattle.std.proofs.Common.{◌≡◌, ℕ, suc, zero, ◌+◌, ◌-◌, ◌<◌, ◌≤◌, List, [], ◌∷◌, ◌++◌, length, take, drop, get_or, All, true, false, not, IsFalse, refl, sym, ◌∙◌, ap, subst, arith, append_assoc, length-drop}
use Rattle.std.proofs.lemmas.Bool.{false≢true}
use Rattle.std.proofs.lemmas.List.{take_more, get_or-drop, take-append-drop}
use Rattle.std.proofs.lemmas.List.Elements.{All-get_or}
use Rattle.std.proofs.lemmas.List.Sums.{suffix_len_is}
use Rattle.std.specs.List.{before_last, suffix_len}
use Rattle.zb_disk.specs.declared.calls.Call.{Call}
use Rattle.zb_disk.specs.declared.calls.Call.TheVariants.{Wrote, Synced, Other}
use Rattle.zb_disk.specs.Kept.{after, file_after, Leaves, LeavesAfter, IsImage}
use Rattle.zb_disk.proofs.PushLemmas.{file_push}
use Rattle.zb_disk.specs.Image.{is_sync, synced_file, unsynced, EndsAtSync}

-- only one kind of call is a sync
sync_is : (call : Call) → is_sync call ≡ true → call ≡ Synced
sync_is (Wrote w) is = absurd (false≢true is)
sync_is Synced is = refl
sync_is Other is = absurd (false≢true is)

-- a count from which on no call is a sync, and the one before it is
pub ends_at_sync : (calls : List Call) (n : ℕ) → n ≤ length calls → All (λ call. IsFalse (is_sync call)) (drop n calls) → (0 < n → is_sync (get_or calls (n - 1) Other) ≡ true) → EndsAtSync calls n
ends_at_sync calls n within none sync = record {
  within = within;
  first = λ is. ap (λ k. take (k - 1) calls) (count ∙ is);
  last = λ some.
      let one : n - 1 + 1 ≡ n = omega (arith, some) in
      sym (ap (λ k. take k calls) one)
      ∙ take_more calls (n - 1) Other (omega (arith, some, within))
      ∙ ap (λ call. take (n - 1) calls ++ call ∷ []) (sync_is (get_or calls (n - 1) Other) (sync some))
      ∙ ap (λ k. take (k - 1) calls ++ Synced ∷ []) (sym count);
  behind = ap (λ k. drop k calls) (sym count);
  no_other = none;
}
  where
    at : (k : ℕ) → n ≤ k → get_or (drop n calls) (k - n) Other ≡ get_or calls k Other
    at k from = get_or-drop n calls (k - n) Other ∙ ap (λ i. get_or calls i Other) (omega arith)

    passes : (k : ℕ) → n ≤ k → k < length calls → not (is_sync (get_or calls k Other)) ≡ true
    passes k from to = ap not (subst (λ call. is_sync call ≡ false) (at k from) (All-get_or (λ call. IsFalse (is_sync call)) (drop n calls) (k - n) Other (omega (arith, length-drop n calls)) none))

    count : length calls - suffix_len (λ call. not (is_sync call)) calls ≡ n
    count = omega (arith, within, suffix_len_is (λ call. not (is_sync call)) calls n Other within passes (λ some. ap not (sync some)))

-- the calls up to a sync count by their file alone
forget_synced : (before : List ℕ → Type 0) (file : List ℕ) (xs ys : List Call) (c : List ℕ) → LeavesAfter file (xs ++ Synced ∷ ys) before c → IsImage (file_after file xs) ys c
forget_synced before file [] ys c image = image
forget_synced before file (x ∷ xs) ys c image = forget_synced (Leaves file x before) (after file x) xs ys c image

recall_synced : (before : List ℕ → Type 0) (file : List ℕ) (xs ys : List Call) (c : List ℕ) → IsImage (file_after file xs) ys c → LeavesAfter file (xs ++ Synced ∷ ys) before c
recall_synced before file [] ys c image = image
recall_synced before file (x ∷ xs) ys c image = recall_synced (Leaves file x before) (after file x) xs ys c image

-- a longest image since the last sync is one since the beginning
pub record IsSameSince (first : List ℕ) (calls : List Call) : Type 0 where
  pub into : (c : List ℕ) → IsImage first calls c → IsImage (synced_file first calls) (unsynced calls) c
  pub back : (c : List ℕ) → IsImage (synced_file first calls) (unsynced calls) c → IsImage first calls c

pub file_synced : (first : List ℕ) (calls : List Call) (n : ℕ) → EndsAtSync calls n → file_after first (take n calls) ≡ synced_file first calls
file_synced first calls zero ends = ap (λ l. file_after first l) (sym (ends.first refl))
file_synced first calls (suc n) ends = ap (λ l. file_after first l) (ends.last (omega arith)) ∙ file_push first (before_last is_sync calls) Synced

pub same_since : (first : List ℕ) (calls : List Call) (n : ℕ) → EndsAtSync calls n → IsSameSince first calls
same_since first calls zero ends = record {
  into = λ c image. subst (λ l. IsImage l (unsynced calls) c) file (subst (λ l. IsImage first l c) ends.behind image);
  back = λ c image. subst (λ l. IsImage first l c) (sym ends.behind) (subst (λ l. IsImage l (unsynced calls) c) (sym file) image);
}
  where
    file : first ≡ synced_file first calls
    file = file_synced first calls zero ends
same_since first calls (suc n) ends = record {
  into = λ c image. forget_synced _ first (before_last is_sync calls) (unsynced calls) c (subst (λ l. IsImage first l c) split image);
  back = λ c image. subst (λ l. IsImage first l c) (sym split) (recall_synced _ first (before_last is_sync calls) (unsynced calls) c image);
}
  where
    split : calls ≡ before_last is_sync calls ++ Synced ∷ unsynced calls
    split =
        sym (take-append-drop (suc n) calls)
        ∙ ap (λ l. l ++ drop (suc n) calls) (ends.last (omega arith))
        ∙ append_assoc (before_last is_sync calls) (Synced ∷ []) (drop (suc n) calls)
        ∙ ap (λ l. before_last is_sync calls ++ Synced ∷ l) ends.behind
