use Rattle.std.proofs.Common.{◌≡◌, ◌∙◌, ◌⊎◌, ◌&&◌, Bool, ap, false, inl, inr, map, not, refl, string_bytes, sym, true}
use Rattle.std.specs.List.{list_any}
use Rattle.clap.proofs.WalkLemmas.{list_any-map}
use Rattle.zb_words.specs.declared.verb.Verb.TheVariants as verbs
use Rattle.zb_words.specs.declared.verb.Verb.{Verb}
use Rattle.zb_words.specs.Part.{before_dashes, is_dashes, takes_files}
use Rattle.zb_words.specs.App.{is_lone}
use Rattle.zb_words.proofs.files.check_dashes.Goals as goal

pub returns-then-has_lone-clause-unfit : goal.returns-then-has_lone-clause-unfit
returns-then-has_lone-clause-unfit c =
    let lone : list_any is_lone (before_dashes (map string_bytes c.args.words.now)) ≡ true =
    ap (list_any is_lone) (sym c.before_dashes.ensures) ∙ sym (list_any-map is_lone string_bytes c.before_dashes.result.now) ∙ sym c.has_lone.ensures ∙ c.if-has_lone.true in
    rw lone refl

pub returns-in-Serve-clause-fit : goal.returns-in-Serve-clause-fit
returns-in-Serve-clause-fit c =
    let lone : list_any is_lone (before_dashes (map string_bytes c.args.words.now)) ≡ false =
    ap (list_any is_lone) (sym c.before_dashes.ensures) ∙ sym (list_any-map is_lone string_bytes c.before_dashes.result.now) ∙ sym c.has_lone.ensures ∙ c.if-has_lone.false in
    rw (lone, c.in-Serve.is) refl

-- behind `log` and `gen` no FILEs may follow
no_files : (verb : Verb) → (verb ≡ verbs.Log) ⊎ (verb ≡ verbs.Gen) → takes_files verb ≡ false
no_files verb (inl e) = rw e refl
no_files verb (inr e) = rw e refl

pub returns-in-Log : goal.returns-in-Log
returns-in-Log c =
    let words = map string_bytes c.args.words.now in
    let dashes : list_any is_dashes words ≡ true = sym (list_any-map is_dashes string_bytes c.args.words.now) ∙ sym c.has_dashes.ensures ∙ c.if-has_dashes.true in
    record { fit = tt; unfit = rw (no_files c.args.verb c.in-Log.is, dashes) (go (list_any is_lone (before_dashes words))) }
  where
    go : (b : Bool) → (not b && false) ≡ false
    go true = refl
    go false = refl

pub returns-in-Log-2 : goal.returns-in-Log-2
returns-in-Log-2 c =
    let words = map string_bytes c.args.words.now in
    let lone : list_any is_lone (before_dashes words) ≡ false =
    ap (list_any is_lone) (sym c.before_dashes.ensures) ∙ sym (list_any-map is_lone string_bytes c.before_dashes.result.now) ∙ sym c.has_lone.ensures ∙ c.if-has_lone.false in
    let dashes : list_any is_dashes words ≡ false = sym (list_any-map is_dashes string_bytes c.args.words.now) ∙ sym c.has_dashes.ensures ∙ c.if-has_dashes.false in
    record { fit = rw (lone, no_files c.args.verb c.in-Log-2.is, dashes) refl; unfit = tt }
