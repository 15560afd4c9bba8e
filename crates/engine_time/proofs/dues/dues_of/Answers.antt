-- `dues::dues_of` meets its contract: each number is that of its guest.
use Rattle.rules.specs.Places.{no_guest_place}
use Rattle.laws.proofs.Places.{length_mapped}
use borrow.Author.Rules.{rules}
use Rattle.engine_time.specs.Inner.{due_at}
use Rattle.laws.proofs.Mapped.{mapped}
use Rattle.engine_time.proofs.dues.dues_of.Goals as goal

pub returns : goal.returns
returns c = mapped due_at no_guest_place 0 c.args.guests c.map.result (search (rules, length_mapped)) (λ i h. (c.map.ensures.items.at i no_guest_place 0 (search (rules, length_mapped))).2.met)
