use Rattle.std.proofs.Common.{◌≡◌, ◌≢◌, ◌∙◌, List, ℕ, codes, refl, sym}
use Rattle.zb_words.specs.declared.verb.Verb.{Verb}
use Rattle.zb_words.specs.declared.verb.Verb.TheVariants as verbs
use Rattle.zb_words.specs.App.{word_of}
use Rattle.zb_words.proofs.PlanLemmas.{one_verb}
use Rattle.zb_words.proofs.plan.verb_of.Goals as goal

pub returns-in-serve : goal.returns-in-serve
returns-in-serve c = λ verb e. one_verb verbs.Serve verb (sym c.in-serve.is ∙ e)

pub returns-in-log : goal.returns-in-log
returns-in-log c = λ verb e. one_verb verbs.Log verb (sym c.in-log.is ∙ e)

-- a word that is neither of the others
left : (word : List ℕ) → word ≢ codes "serve" → word ≢ codes "log" → (verb : Verb) → word ≡ word_of verb → verbs.Gen ≡ verb
left word no_serve no_log verbs.Serve e = absurd (no_serve e)
left word no_serve no_log verbs.Log e = absurd (no_log e)
left word no_serve no_log verbs.Gen e = refl

pub returns-in_default : goal.returns-in_default
returns-in_default c = left c.args.word.now c.in_default.not-serve c.in_default.not-log
