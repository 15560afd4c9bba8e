-- `image_reader::reader::Reader::pass`: the place behind some bytes, or the last one.
use mathlib.Core.Path.{◌∙◌}
use Rattle.image_reader.proofs.Laws.{behind_least}
use Rattle.image_reader.proofs.reader.Reader.pass.Goals as goal

pub returns-clause-place : goal.returns-clause-place
returns-clause-place c = c.saturating_add-self.ensures ∙ behind_least _ _
