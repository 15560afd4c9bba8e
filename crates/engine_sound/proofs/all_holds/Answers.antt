-- `engine_sound::all_holds` meets its contract: the rules' points are what it asks.
use Rattle.std.proofs.Common.{rules, length, ◌≡◌, ◌∙◌, eqb, ◌&&◌}
use mathlib.Core.Bool.{and_assoc}
use Rattle.rules.specs.Limits.{guest_places, spare_places}
use Rattle.laws.proofs.Places.{length_mapped}
use Rattle.rules.specs.Places.{guest_place_is_zero, no_guest_place, spare_place_is_zero, no_spare_place}
use Rattle.engine_sound.proofs.Sounding.{together, split_asked}
use Rattle.engine_sound.proofs.Testing.{zero_told}
use Rattle.engine_sound.proofs.all_holds.Goals as goal

pub returns : goal.returns
returns c =
    let s = c.args.s in
    let he : length s.table.entries ≡ guest_places = search (rules, length_mapped) in
    let hg : length s.guests ≡ guest_places = search (rules, length_mapped) in
    let hs : length s.spares ≡ spare_places = search (rules, length_mapped) in
    let no_guest : c.default.result ≡ no_guest_place = λ j. record { jobs = c.default.ensures.0 j; current = c.default.ensures.1.0 j; deadline = c.default.ensures.1.1.0 j; own = c.default.ensures.1.1.1.0 j; borrowed = c.default.ensures.1.1.1.1 j } in
    let no_spare : c.default-2.result ≡ no_spare_place = λ j. record { deadline = c.default-2.ensures.0 j; owner = c.default-2.ensures.1.0 j; capacity = c.default-2.ensures.1.1 j } in
    let guests_zero = c.all_equal.ensures ∙ zero_told guest_place_is_zero (λ x y. eqb x.jobs y.jobs && (eqb x.current y.current && (eqb x.deadline y.deadline && (eqb x.own y.own && eqb x.borrowed y.borrowed)))) no_guest_place (λ x. simp and_assoc) {z = c.default.result} no_guest c.split_at.result.1.now in
    let spares_zero = c.all_equal-2.ensures ∙ zero_told spare_place_is_zero (λ x y. eqb x.deadline y.deadline && (eqb x.owner y.owner && eqb x.capacity y.capacity)) no_spare_place (λ x. simp and_assoc) {z = c.default-2.result} no_spare c.split_at-2.result.1.now in
    together c.guests_hold.ensures c.spares_hold.ensures c.tallies_add_up.ensures c.spares_rise.ensures c.has_room.ensures guests_zero spares_zero
    ∙ split_asked s c.requires.0 c.requires.2 c.requires.3 he hg hs c.requires.1
    c.split_at.ensures.front c.split_at.ensures.back c.split_at-2.ensures.front c.split_at-2.ensures.back
