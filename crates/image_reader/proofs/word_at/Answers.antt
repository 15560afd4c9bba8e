-- `image_reader::word_at`: four bytes that stand whole are a number of 4, and a number that runs past the end reads as 0.
use mathlib.Core.Path.{◌∙◌}
use native.Mathlib.Omega.{arith}
use Rattle.image_reader.proofs.Laws.{word_whole, rest_short}
use Rattle.image_reader.proofs.word_at.Goals as goal

pub returns-in_default : goal.returns-in_default
returns-in_default c = (rest_short c.args.bytes.now c.args.at c.min.result c.min.ensures 4 c.in_default.len_below, omega arith)

pub returns : goal.returns
returns c = (c.from_le_bytes.ensures ∙ word_whole c.args.bytes.now c.args.at c.min.result c.min.ensures c.in-len4-up.len_at_least, omega arith)
