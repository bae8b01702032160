use Rattle.std.proofs.Common.{◌≡◌, ◌==◌, ℕ, List, Bool, true, false, not, cond, refl, sym, ap, ◌∙◌, subst, arith, nat_cmp}
use Rattle.std.specs.BTreeSet.{BTreeSet, contains}
use Rattle.std.specs.List.{list_any}
use Rattle.std.specs.Ordering.{is_eq}
use Rattle.std.proofs.lemmas.Bool.Decides.{nat_tests}
use Rattle.zb_views.proofs.given.Given.push.Goals as goal

-- a key that was added and taken out again leaves the others as they were
taken_out : (message : ℕ) (keys : List ℕ) (old added now : BTreeSet ℕ) → ((q : ℕ) → contains nat_cmp old q ≡ list_any (λ key. key == q) keys) → contains nat_cmp old message ≡ false
    → ((q : ℕ) → contains nat_cmp added q ≡ cond (is_eq (nat_cmp message q)) true (contains nat_cmp old q)) → ((q : ℕ) → contains nat_cmp now q ≡ cond (is_eq (nat_cmp message q)) false (contains nat_cmp added q))
    → (q : ℕ) → contains nat_cmp now q ≡ list_any (λ key. key == q) keys
taken_out message keys old added now known absent adds takes q = by_test (is_eq (nat_cmp message q)) refl
  where
    by_test : (t : Bool) → is_eq (nat_cmp message q) ≡ t → contains nat_cmp now q ≡ list_any (λ key. key == q) keys
    by_test true same =
        let one : message ≡ q = grind (arith, nat_tests, same) in
        let none : contains nat_cmp old q ≡ false = subst (λ (k : ℕ). contains nat_cmp old k ≡ false) one absent in
        takes q ∙ (rw same (sym none ∙ known q))
    by_test false other = takes q ∙ (rw other (adds q ∙ (rw other (known q))))

was_absent : (t : Bool) → true ≡ not t → t ≡ false
was_absent false is = refl
was_absent true is = absurd (cc)

pub invariant_of-self-then-is_new : goal.invariant_of-self-then-is_new
invariant_of-self-then-is_new c = λ q.
    let absent = was_absent (contains nat_cmp c.self.inside.known c.args.message) (sym c.if-is_new.true ∙ c.in-Ok.ensures.added) in
    taken_out c.args.message c.self.inside.keys c.self.inside.known c.insert.new.self c.remove.new.self c.self.invariant absent (λ k. c.in-Ok.ensures.updates.0 k) (λ k. c.remove.ensures.updates.0 k) q
    ∙ ap (λ (keys : List ℕ). list_any (λ key. key == q) keys) (sym c.in-Err-push.ensures.err)
