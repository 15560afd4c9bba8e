-- `engine_sound::guests_hold` meets its contract: the pairs of an entry and a guest are the guests.
use Rattle.std.proofs.Common.{rules, sym, ◌∙◌}
use Rattle.std.proofs.lemmas.Iterator.{YieldsList-from_slice, YieldsList-from_zip}
use Rattle.std.proofs.lemmas.Iterator.Search.{all_from_yields_List}
use Rattle.engine_sound.proofs.Testing.{every_zip}
use Rattle.rules.specs.declared.Entry.{Entry}
use Rattle.rules.specs.declared.Guest.{Guest}
use Rattle.rules.specs.Places.{guest_of}
use Rattle.engine_sound.specs.Inner.{guest_holds}
use Rattle.engine_sound.proofs.guests_hold.Goals as goal

pub returns : goal.returns
returns c =
    all_from_yields_List (λ (q : Entry × Guest). guest_holds c.args.now (guest_of q.0 q.1)) c.all.new.self _ _ c.all.ensures.ran
    (YieldsList-from_zip {s = c.zip.result} (YieldsList-from_slice c.args.entries.now (cc)) (YieldsList-from_slice c.args.guests.now (cc))) (λ x b q k. search rules)
    ∙ sym (every_zip (guest_holds c.args.now) guest_of c.args.entries.now c.args.guests.now)
