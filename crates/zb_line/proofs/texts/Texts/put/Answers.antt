use Rattle.std.proofs.Common.{arith}
use Rattle.std.proofs.lemmas.Map.Text.{text_keys}
use Rattle.zb_line.proofs.texts.Texts.put.Goals as goal

pub returns : goal.returns
returns c text = grind (arith, text_keys)
