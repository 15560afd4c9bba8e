-- The soundness test put together: the rules' points are what the code asks, in another order.
use mathlib.Core.Path.{◌≡◌, refl, sym, ap, ap₂, ◌∙◌}
use mathlib.Core.Bool.{Bool, true, false, not, ◌&&◌, ◌||◌, and_assoc, and-true, and-false}
use mathlib.Core.List.{List, [], ◌∷◌, map, zip_with}
use Prim.Native.Nat.{ℕ, ◌+◌, ◌≤◌, ◌<◌}
use native.Mathlib.Omega.{arith}
use lib.Dec.{leb, eqb, ltb}
use lib.ListN.{length, take, drop, length-map}
use Rattle.laws.proofs.Cases.{and_intro, by_test, never}
use lib.Seq.{length-take-le}
use borrow.Author.Tests.{le-leb, eq-eqb, ne_eqb}
use Rattle.laws.specs.Lists.{every, total}
use Rattle.rules.specs.declared.Entry.{Entry}
use Rattle.rules.specs.declared.Guest.{Guest as GuestPlace}
use Rattle.rules.specs.declared.Spare.{Spare as SparePlace}
use Rattle.rules.specs.declared.State.{State}
use Rattle.rules.specs.Limits.{guest_places, spare_places, last_tick, deadline_bound}
use Rattle.rules.specs.Model.{Guest, Spare, guest_at, active, budget_of, tallies_of, active_count, deadline_of, due_of}
use Rattle.rules.specs.Places.{guest_of, spare_of, guest_place_is_zero, spare_place_is_zero, model}
use Rattle.rules.specs.Sound.{guest_in_range, spare_in_range, behind_owner, rising, in_range, sound}
use Rattle.rules.specs.Table.{table_rows, good_table}
use Rattle.rules.specs.Refusals.{first, number_of}
use Rattle.rules.specs.declared.Table.{Table}
use Rattle.std.specs.Prelude.{Result, Ok, Err}
use Rattle.std.specs.Result.{is_ok}
use Rattle.rules.specs.declared.Refusal.{Refusal}
use Rattle.promises.proofs.Facts.{points, sane_model}
use Rattle.promises.proofs.Outcomes.{refusal_counts}
use Rattle.engine_choice.specs.Choice.{in_use}
use Rattle.engine_sound.specs.Inner.{guests_of, guest_holds, spare_place_holds, place_tallies}
use Rattle.engine_choice.proofs.Choosing.{count_shown}

-- ---- laws of tests and sums

every_both : {A : Type 0} (p q : A → Bool) (xs : List A) → every (λ x. p x && q x) xs ≡ every p xs && every q xs
every_both p q [] = refl
every_both p q (x ∷ xs) = rw (every_both p q xs) (exchange (p x) (q x) (every p xs) (every q xs))
  where
    exchange : (a b c d : Bool) → a && b && (c && d) ≡ a && c && (b && d)
    exchange true true c d = refl
    exchange true false c d = sym (and-false c)
    exchange false b c d = refl

-- a spare's test in its place is the rules' three of it
module _ (now : ℕ) (gs : List Guest) where
  regroup : (i a q b d o : Bool) → i && (a && q && b && d && o) ≡ i && a && q && b && (d && o)
  regroup true true true true d o = refl
  regroup true true true false d o = refl
  regroup true true false b d o = refl
  regroup true false q b d o = refl
  regroup false a q b d o = refl

  spread : (r b k A B C : Bool) → r && b && k && (A && B && C) ≡ r && A && (b && B) && (k && C)
  spread true true true A B C = refl
  spread true true false A B C = sym (and-false (A && B))
  spread true false k A B C = ap {B = Bool} (λ z. z && (k && C)) (sym (and-false A))
  spread false b k A B C = refl

  spares_split : (xs : List SparePlace) → every (spare_place_holds now gs) xs ≡ every (spare_in_range gs) (map spare_of xs) && every (λ x. leb (due_of x) (deadline_bound now)) (map spare_of xs) && every (behind_owner gs) (map spare_of xs)
  spares_split [] = refl
  spares_split (x ∷ xs) =
      let g = guest_at x.owner gs in
      let one = regroup (ltb x.owner (length gs)) (leb 1 x.capacity) (leb x.capacity (budget_of g)) (leb x.deadline (deadline_bound now)) (leb x.deadline (deadline_of g)) (not (active g) || ltb x.deadline (deadline_of g)) in
      let ys = map spare_of xs in
      ap₂ (λ (a b : Bool). a && b) one (spares_split xs)
      ∙ spread (spare_in_range gs (spare_of x)) (leb x.deadline (deadline_bound now)) (behind_owner gs (spare_of x)) (every (spare_in_range gs) ys) (every {A = Spare} (λ y. leb (due_of y) (deadline_bound now)) ys) (every (behind_owner gs) ys)

tallies-shown : (es : List Entry) (gs : List GuestPlace) → length es ≡ length gs → total place_tallies gs ≡ total tallies_of (zip_with guest_of es gs)
unfolding zip_with
tallies-shown [] [] h = refl
tallies-shown [] (g ∷ gs) h = absurd (omega (arith, h))
tallies-shown (e ∷ es) [] h = absurd (omega (arith, h))
tallies-shown (e ∷ es) (g ∷ gs) h = rw (tallies-shown es gs (omega (arith, h)))

-- the rules' order of the points
in_order : (G E S D B t r o : Bool) → G && E && (S && D && B) && t && r && o ≡ G && S && t && r && o && E && D && B
in_order true true true true true t r o = sym (and-true _ ∙ and-true _ ∙ and-true _)
in_order true true true true false t r o = rw and-false
in_order true true true false B t r o = ap {B = Bool} (λ z. z && B) (sym (and-false (t && r && o && true)))
in_order true true false D B t r o = refl
in_order true false S D B t r o = rw and-false
in_order false E S D B t r o = refl

-- seven tests together, each for what it is
pub together : {a b c d e f g a' b' c' d' e' f' g' : Bool} → a ≡ a' → b ≡ b' → c ≡ c' → d ≡ d' → e ≡ e' → f ≡ f' → g ≡ g' → a && b && c && d && e && f && g ≡ a' && b' && c' && d' && e' && f' && g'
together ha hb hc hd he hf hg = rw (ha, hb, hc, hd, he, hf, hg)

-- ---- the test

module _ (s : State) (good : good_table s.table ≡ true) (few : s.listed ≤ spare_places) (early : s.now ≤ last_tick) where
  abbrev n : ℕ
  n = s.table.count

  abbrev gs : List Guest
  gs = guests_of s.table.entries s.guests n

  abbrev xs : List Spare
  xs = map spare_of (take s.listed s.spares)

  -- what the code asks of the places in use, and of the others
  abbrev pub Used : Bool
  Used =
      every (guest_holds s.now) gs
      && every (spare_place_holds s.now gs) (take s.listed s.spares)
      && eqb (total place_tallies (take n s.guests) + s.burned + s.empty) s.now
      && rising xs
      && leb (s.listed + active_count (in_use n s.guests)) spare_places

  module _ (he : length s.table.entries ≡ guest_places) (hg : length s.guests ≡ guest_places) (hs : length s.spares ≡ spare_places) (hn : n ≤ guest_places) where
    same_length : length (take n s.table.entries) ≡ length (take n s.guests)
    same_length = length-take-le n s.table.entries (omega arith) ∙ sym (length-take-le n s.guests (omega arith))

    tally : total place_tallies (take n s.guests) ≡ total tallies_of gs
    unfolding guests_of
    tally = tallies-shown (take n s.table.entries) (take n s.guests) same_length

    room : s.listed + active_count (in_use n s.guests) ≡ length xs + active_count gs
    unfolding guests_of
    room = ap₂ (λ (a b : ℕ). a + b) (sym (length-map (take s.listed s.spares) spare_of ∙ length-take-le s.listed s.spares (omega arith))) (count_shown (take n s.table.entries) (take n s.guests) same_length)

    used : Used ≡ in_range (model s)
    unfolding in_range model guests_of zip_with
    used =
        let early-all : Guest → Bool = λ g. leb (deadline_of g) (deadline_bound s.now) in
        let G = every guest_in_range gs in
        let E = every early-all gs in
        let S = every (spare_in_range gs) xs in
        let D = every {A = Spare} (λ x. leb (due_of x) (deadline_bound s.now)) xs in
        let B = every (behind_owner gs) xs in
        let T : ℕ → Bool = λ t. eqb (t + s.burned + s.empty) s.now in
        let O : ℕ → Bool = λ o. leb o spare_places in
        ap₂ (λ (a b : Bool). a && b && T (total place_tallies (take n s.guests)) && rising xs && O (s.listed + active_count (in_use n s.guests))) (every_both guest_in_range early-all gs) (spares_split s.now gs (take s.listed s.spares))
        ∙ ap₂ (λ (t o : ℕ). G && E && (S && D && B) && T t && rising xs && O o) tally room
        ∙ in_order G E S D B (T (total tallies_of gs)) (rising xs) (O (length xs + active_count gs))
        ∙ ap (λ (t : Bool). t && G && S && T (total tallies_of gs) && rising xs && O (length xs + active_count gs) && E && D && B) (sym (le-leb s.now last_tick early))

    pub sound-asked : Used && every guest_place_is_zero (drop n s.guests) && every spare_place_is_zero (drop s.listed s.spares) ≡ sound s
    unfolding sound
    sound-asked =
        and_assoc Used _ _
        ∙ ap₂ (λ (a b : Bool). a && b) (used ∙ ap (λ (t : Bool). t && in_range (model s)) (sym (and_intro good (le-leb s.listed spare_places few))))
        (ap₂ (λ (a b : Bool). a && every guest_place_is_zero (drop n s.guests) && (b && every spare_place_is_zero (drop s.listed s.spares))) (sym (eq-eqb _ _ hg)) (sym (eq-eqb _ _ hs)))

    -- with the places split into those in use and the others
    pub split_asked : {used : List GuestPlace} {unused : List GuestPlace} {listed : List SparePlace} {free : List SparePlace} → used ≡ take n s.guests → unused ≡ drop n s.guests → listed ≡ take s.listed s.spares → free ≡ drop s.listed s.spares
        → every (guest_holds s.now) (zip_with guest_of (take n s.table.entries) used) && every (spare_place_holds s.now (zip_with guest_of (take n s.table.entries) used)) listed && eqb (total place_tallies used + s.burned + s.empty) s.now && rising (map spare_of listed) && leb (s.listed + active_count (in_use n s.guests)) spare_places && every guest_place_is_zero unused && every spare_place_is_zero free ≡ sound s
    unfolding guests_of
    split_asked u v l f = rw (u, v, l, f) sound-asked

-- ---- states that are not sound

-- the check of its table, by the answer
pub table_told : {A : Type 0} (t : Table) (a : Result A Refusal) → number_of a ≡ first (table_rows t) → is_ok a ≡ good_table t
unfolding good_table
table_told t (Ok x) e = sym (eq-eqb (first (table_rows t)) 0 (sym e))
table_told t (Err r) e = sym (ne_eqb (first (table_rows t)) 0 (λ z. omega (arith, e, z, refusal_counts r)))

module _ (s : State) where
  pub bad_table : good_table s.table ≡ false → false ≡ sound s
  bad_table f = by_test (λ t. false ≡ t) (sound s) (λ h. never (points s h).table f) (λ _. refl)

  pub too_many : spare_places < s.listed → false ≡ sound s
  too_many f = by_test (λ t. false ≡ t) (sound s) (λ h. absurd (omega (arith, f, (points s h).few))) (λ _. refl)

  pub too_late : last_tick < s.now → false ≡ sound s
  unfolding model
  too_late f = by_test (λ t. false ≡ t) (sound s) (λ h. absurd (omega (arith, f, (sane_model s h).time))) (λ _. refl)
