-- The model of a state in places, and the places of a model: nothing is lost either way.
use mathlib.Core.Path.{◌≡◌, refl, ap, ap₂, sym, ◌∙◌}
use mathlib.Core.Bool.{true, ◌&&◌}
use mathlib.Core.List.{List, [], ◌∷◌, map, zip_with}
use Prim.Native.Nat.{ℕ, zero, suc, ◌≤◌, ◌<◌}
use native.Mathlib.Omega.{arith}
use lib.Dec.{eqb}
use lib.ListN.{length, get_or, take, length-map}
use lib.Seq.{length-take-le}
use borrow.Author.Tests.{eqb-true}
use Rattle.laws.specs.Lists.{padded, unused}
use Rattle.laws.proofs.Cases.{and_both, and_intro}
use Rattle.laws.proofs.Places.{take_padded, unused_padded, padded_take, length_places}
use Rattle.rules.specs.declared.Entry.{Entry}
use Rattle.rules.specs.declared.Guest.{Guest as GuestPlace}
use Rattle.rules.specs.declared.Spare.{Spare as SparePlace}
use Rattle.rules.specs.declared.State.{State}
use Rattle.rules.specs.Limits.{guest_places, spare_places}
use Rattle.rules.specs.Table.{entries_of, no_entry}
use Rattle.rules.specs.Model.{Guest, guest, Spare, spare, Model, no_guest}
use Rattle.rules.specs.Places.{guest_of, spare_of, model, entry_of, guest_place, spare_place, no_guest_place, no_spare_place, table_of, packed, guest_place_is_zero, spare_place_is_zero, unused_zero}
use Rattle.promises.proofs.GoodTable.{Good}

-- ---- guests are entries and places side by side

pub zip_length : (n : ℕ) (es : List Entry) (gs : List GuestPlace) → length es ≡ n → length gs ≡ n → length (zip_with guest_of es gs) ≡ n
unfolding zip_with
zip_length n [] gs h k = h
zip_length n (e ∷ es) [] h k = absurd (omega arith)
zip_length zero (e ∷ es) (g ∷ gs) h k = absurd (omega arith)
zip_length (suc n) (e ∷ es) (g ∷ gs) h k = ap suc (zip_length n es gs (omega arith) (omega arith))

pub zip_at : (i : ℕ) (es : List Entry) (gs : List GuestPlace) → i < length es → i < length gs → get_or (zip_with guest_of es gs) i no_guest ≡ guest_of (get_or es i no_entry) (get_or gs i no_guest_place)
unfolding zip_with
zip_at i [] gs h k = absurd (omega arith)
zip_at i (e ∷ es) [] h k = absurd (omega arith)
zip_at zero (e ∷ es) (g ∷ gs) h k = refl
zip_at (suc i) (e ∷ es) (g ∷ gs) h k = zip_at i es gs (omega arith) (omega arith)

zip_entries : (es : List Entry) (gs : List GuestPlace) → length es ≡ length gs → map entry_of (zip_with guest_of es gs) ≡ es
unfolding zip_with
zip_entries [] gs h = refl
zip_entries (e ∷ es) [] h = absurd (omega arith)
zip_entries (e ∷ es) (g ∷ gs) h = ap {B = List Entry} (λ r. e ∷ r) (zip_entries es gs (omega arith))

zip_places : (es : List Entry) (gs : List GuestPlace) → length es ≡ length gs → map guest_place (zip_with guest_of es gs) ≡ gs
unfolding zip_with
zip_places [] [] h = refl
zip_places [] (g ∷ gs) h = absurd (omega arith)
zip_places (e ∷ es) [] h = absurd (omega arith)
zip_places (e ∷ es) (g ∷ gs) h = ap {B = List GuestPlace} (λ r. g ∷ r) (zip_places es gs (omega arith))

zip_guests : (gs : List Guest) → zip_with guest_of (map entry_of gs) (map guest_place gs) ≡ gs
unfolding zip_with
zip_guests [] = refl
zip_guests (guest Q T jobs c d own borrowed ∷ gs) = ap {B = List Guest} (λ r. guest Q T jobs c d own borrowed ∷ r) (zip_guests gs)

place_spares : (ss : List Spare) → map spare_of (map spare_place ss) ≡ ss
place_spares [] = refl
place_spares (spare d owner c ∷ ss) = ap {B = List Spare} (λ r. spare d owner c ∷ r) (place_spares ss)

pub spare_places_lem : (xs : List SparePlace) → map spare_place (map spare_of xs) ≡ xs
spare_places_lem [] = refl
spare_places_lem (x ∷ xs) = ap {B = List SparePlace} (λ r. x ∷ r) (spare_places_lem xs)

-- ---- an empty place is all zeros

pub guest_zero : (g : GuestPlace) → guest_place_is_zero g ≡ true → g ≡ no_guest_place
guest_zero g h =
    let a = and_both (eqb g.jobs 0 && eqb g.current 0 && eqb g.deadline 0 && eqb g.own 0) (eqb g.borrowed 0) h in
    let b = and_both (eqb g.jobs 0 && eqb g.current 0 && eqb g.deadline 0) (eqb g.own 0) a.0 in
    let c = and_both (eqb g.jobs 0 && eqb g.current 0) (eqb g.deadline 0) b.0 in
    let d = and_both (eqb g.jobs 0) (eqb g.current 0) c.0 in
    let jobs = eqb-true g.jobs 0 d.0 in
    let left = eqb-true g.current 0 d.1 in
    let deadline = eqb-true g.deadline 0 c.1 in
    let own = eqb-true g.own 0 b.1 in
    let borrowed = eqb-true g.borrowed 0 a.1 in
    λ i. record { jobs = jobs i; current = left i; deadline = deadline i; own = own i; borrowed = borrowed i }

pub spare_zero : (x : SparePlace) → spare_place_is_zero x ≡ true → x ≡ no_spare_place
spare_zero x h =
    let a = and_both (eqb x.deadline 0 && eqb x.owner 0) (eqb x.capacity 0) h in
    let b = and_both (eqb x.deadline 0) (eqb x.owner 0) a.0 in
    let deadline = eqb-true x.deadline 0 b.0 in
    let owner = eqb-true x.owner 0 b.1 in
    let capacity = eqb-true x.capacity 0 a.1 in
    λ i. record { deadline = deadline i; owner = owner i; capacity = capacity i }

-- ---- there and back

pub model-packed : (m : Model) → model (packed m) ≡ m
unfolding model packed table_of
model-packed m =
    let es = take_padded guest_places no_entry (length m.guests) (map entry_of m.guests) (length-map m.guests entry_of) in
    let gs = take_padded guest_places no_guest_place (length m.guests) (map guest_place m.guests) (length-map m.guests guest_place) in
    let xs = take_padded spare_places no_spare_place (length m.spares) (map spare_place m.spares) (length-map m.spares spare_place) in
    let guests = ap₂ (λ (a : List Entry) (b : List GuestPlace). zip_with guest_of a b) es gs ∙ zip_guests m.guests in
    let spares = ap (λ (a : List SparePlace). map spare_of a) xs ∙ place_spares m.spares in
    λ i. record { frame = m.frame; now = m.now; guests = guests i; spares = spares i; burned = m.burned; empty = m.empty }

-- a model's table has the entries of its guests
pub table_entries : (m : Model) → entries_of (table_of m) ≡ map entry_of m.guests
unfolding table_of
table_entries m = take_padded guest_places no_entry (length m.guests) (map entry_of m.guests) (length-map m.guests entry_of)

-- the places behind a model's are not used
pub packed_unused : (m : Model) → length m.guests ≤ guest_places → length m.spares ≤ spare_places → unused_zero (packed m) ≡ true
unfolding packed table_of
packed_unused m g s =
    and_intro (unused_padded guest_place_is_zero guest_places no_guest_place (length m.guests) (map guest_place m.guests) refl (length-map m.guests guest_place) g)
    (unused_padded spare_place_is_zero spare_places no_spare_place (length m.spares) (map spare_place m.spares) refl (length-map m.spares spare_place) s)

-- a state whose other places are not used is its model in places
module _ (s : State) (t : Good s.table) (fits : s.listed ≤ spare_places) (rest : unused_zero s ≡ true) where
  both : (unused guest_place_is_zero guest_places s.table.count s.guests ≡ true) × (unused spare_place_is_zero spare_places s.listed s.spares ≡ true)
  both = and_both (unused guest_place_is_zero guest_places s.table.count s.guests) (unused spare_place_is_zero spare_places s.listed s.spares) rest

  guests_long : length (take s.table.count s.guests) ≡ s.table.count
  guests_long =
      length-take-le s.table.count s.guests
      (omega (arith, t.count_high, length_places guest_place_is_zero no_guest_place guest_zero guest_places s.table.count s.guests both.0))

  spares_long : length (map spare_of (take s.listed s.spares)) ≡ s.listed
  spares_long =
      length-map (take s.listed s.spares) spare_of
      ∙ length-take-le s.listed s.spares
      (omega (arith, fits, length_places spare_place_is_zero no_spare_place spare_zero spare_places s.listed s.spares both.1))

  pub model_long : length (model s).guests ≡ s.table.count
  unfolding model
  model_long = zip_length s.table.count (entries_of s.table) (take s.table.count s.guests) t.long guests_long

  pub table-model : table_of (model s) ≡ s.table
  unfolding table_of model
  table-model =
      let es = zip_entries (entries_of s.table) (take s.table.count s.guests) (t.long ∙ sym guests_long) in
      let count = model_long in
      let entries = ap (λ (a : List Entry). padded guest_places no_entry a) es ∙ t.filled in
      λ i. record { frame = s.table.frame; count = count i; entries = entries i }

  pub packed-model : packed (model s) ≡ s
  unfolding packed model
  packed-model =
      let gs = zip_places (entries_of s.table) (take s.table.count s.guests) (t.long ∙ sym guests_long) in
      let table = table-model in
      let guests = ap (λ (a : List GuestPlace). padded guest_places no_guest_place a) gs ∙ padded_take guest_place_is_zero no_guest_place guest_zero guest_places s.table.count s.guests both.0 t.count_high in
      let spares = ap (λ (a : List SparePlace). padded spare_places no_spare_place a) (spare_places_lem (take s.listed s.spares)) ∙ padded_take spare_place_is_zero no_spare_place spare_zero spare_places s.listed s.spares both.1 fits in
      let count = spares_long in
      λ i. record { table = table i; now = s.now; guests = guests i; listed = count i; spares = spares i; burned = s.burned; empty = s.empty }
