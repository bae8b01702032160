use Rattle.std.proofs.Common.{◌≡◌, map, take}
use Rattle.zb_words.proofs.plan.texts_of.Given as goal

-- the texts before the index are copied
abbrev pub invariant-loop-text : goal.invariant-loop-text
invariant-loop-text l = l.copies ≡ map (λ text. text.now) (take l.text-index l.texts)
