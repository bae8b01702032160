-- Which of some entries, taken in order, sends a packet.
use Rattle.std.proofs.Common.{◌≡◌, ◌+◌, ℕ, List, slice_get, Contains, Some, inl, inr, subst, arith}
use Rattle.std.proofs.lemmas.Bool.{cases_eq}
use Rattle.zb_model.specs.declared.record.Packet.{Packet}
use Rattle.zb_record.specs.Packets.{sent_by}
use Rattle.zb_world.specs.declared.entry.Entry.{Entry}
use Rattle.zb_world.specs.History.{IsSentAmong}

-- before the first of them none does
pub none_sent : (n : ℕ) (es : List Entry) (p : Packet) → IsSentAmong n es 0 p → ⊥
none_sent n es p s = let before = s.before in absurd (omega arith)

-- nor behind one more that doesn't
pub not_sent : (n : ℕ) (es : List Entry) (p : Packet) (k : ℕ) (e : Entry) → slice_get es k ≡ Some e → (IsSentAmong n es k p → ⊥) → (Contains (sent_by e.partition n e.batch) p → ⊥) → IsSentAmong n es (k + 1) p → ⊥
not_sent n es p k e here none not s = elim (cases_eq s.place k) [
  | inl same ↦
      let at : slice_get es k ≡ Some s.sender = subst (λ (i : ℕ). slice_get es i ≡ Some s.sender) same s.at in
      let its : s.sender ≡ e = cc in
      not (subst (λ (x : Entry). Contains (sent_by x.partition n x.batch) p) its s.sends)
  | inr other ↦ none (record {
    place = s.place;
    sender = s.sender;
    at = s.at;
    before = let before = s.before in omega arith;
    sends = s.sends;
  })
]
