-- `image_loading::entry_at`: two numbers side by side are an entry.
use native.Mathlib.Omega.{arith}
use Rattle.image_loading.proofs.Reading.{entry_whole}
use Rattle.image_loading.proofs.entry_at.Goals as goal

pub returns : goal.returns
returns c = entry_whole _ _ _ _ c.requires (omega arith) c.read_entry-pair.ensures.budget.0 c.read_entry-pair.ensures.period.0
