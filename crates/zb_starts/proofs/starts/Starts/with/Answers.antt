use Rattle.std.proofs.Common.{◌≡◌, List, [], ◌∷◌, ◌++◌, Some, None, refl, sym, ap, subst, ◌∙◌, arith}
use Rattle.zb_table.specs.Rows.{Ascend}
use Rattle.zb_table.proofs.Growing.{with_last}
use Rattle.zb_pairs.proofs.FoundLemmas.{ascend_with, found_with, none_below}
use Rattle.zb_lists.specs.Listed.{row_found, without_named}
use Rattle.zb_views.specs.declared.started.Started.{Started}
use Rattle.zb_starts.specs.Listing.{label_of_start}
use Rattle.zb_starts.proofs.ListingLemmas.{found_same, none_named}
use Rattle.zb_starts.proofs.starts.Starts.with.Goals as goal

pub add-requires : goal.add-requires
add-requires c = none_below (λ (s : Started). s.instance) c.args.started.instance c.self.inside.rows (rw c.self.view_is c.requires)

pub invariant_of-self : goal.invariant_of-self
invariant_of-self c =
    let rows = c.self.inside.rows in
    let instance = c.args.started.instance in
    let found = row_found (λ (s : Started). s.instance) rows in
    let none : found instance ≡ None = none_below (λ (s : Started). s.instance) instance rows (rw c.self.view_is c.requires) in
    record {
      ascend = subst (λ (ss : List Started). Ascend (λ s. s.instance) 0 ss) (sym c.in_ok-add.ensures.ok) (ascend_with (λ (s : Started). s.instance) c.args.started 0 rows (omega arith) c.self.invariant.ascend);
      listed = c.in_ok-join.ensures found
          (found_same (λ (s : Started). None) label_of_start found (without_named (Some instance) found) c.self.inside.lists (λ k. none_named found instance k none) c.self.invariant.listed)
          (λ k other. ap (λ (ss : List Started). row_found (λ s. s.instance) ss k) c.in_ok-add.ensures.ok ∙ (found_with (λ (s : Started). s.instance) c.args.started k rows none ∙ rw other refl));
    }

pub returns : goal.returns
returns c =
    c.in_ok-add.ensures.ok
    ∙ (with_last (λ (s : Started). s.instance) c.args.started c.self.inside.rows (rw c.self.view_is c.requires) ∙ ap (λ (ss : List Started). ss ++ c.args.started ∷ []) c.self.view_is)
