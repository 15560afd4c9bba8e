-- The search for the earliest guest: it may start at the lowest active one, and at i the best of the guests before i is known.
use mathlib.Core.Path.{◌≡◌, refl, sym, ap, ◌∙◌}
use mathlib.Core.Bool.{Bool, true, false, cond}
use mathlib.Core.List.{List, [], ◌∷◌}
use Prim.Native.Nat.{ℕ, zero, suc, ◌+◌, ◌*◌, ◌/◌, ◌%◌, ◌≤◌, ◌<◌}
use native.Mathlib.Nat.{add-zero, zero-add}
use native.Mathlib.Numerals.{add-one}
use native.Mathlib.Omega.{arith}
use lib.Count.{count_trailing_zeros, under}
use lib.Dec.{leb, eqb-suc-zero}
use lib.ListN.{length, get_or, take, drop, get_or-map}
use lib.Seq.{drop-cons, drop-nil, get_or-take}
use borrow.Author.Tests.{le-leb, lt-leb}
use Rattle.laws.proofs.Cases.{by_leb, by_ltb}
use Rattle.rules.specs.declared.Guest.{Guest as GuestPlace}
use Rattle.rules.specs.Model.{Guest, guest, bit_of, mask_of}
use Rattle.rules.specs.Places.{no_guest_place}
use Rattle.rules.specs.Steps.{Pick, nobody, picked, ready, sooner, earliest}
use Rattle.promises.proofs.Mask.{bit_small}
use Rattle.engine_choice.specs.Choice.{shown, in_use}
use Rattle.engine_choice.proofs.Choosing.{length_in_use}
use Rattle.engine_time.specs.Inner.{beats}

-- ---- the sooner of two picks

module _ (i d c k e b : ℕ) where
  pub first_picked : d ≤ e → picked i d c ≡ sooner (picked i d c) (picked k e b)
  first_picked h = rw (le-leb d e h)

  pub second_picked : e < d → picked k e b ≡ sooner (picked i d c) (picked k e b)
  second_picked h = rw (lt-leb d e h)

sooner_nobody : (p : Pick) → sooner p nobody ≡ p
sooner_nobody nobody = refl
sooner_nobody (picked i d c) = refl

sooner_assoc : (p q r : Pick) → sooner (sooner p q) r ≡ sooner p (sooner q r)
sooner_assoc nobody q r = refl
sooner_assoc (picked i d c) nobody r = refl
sooner_assoc (picked i d c) (picked j e b) nobody = sooner_nobody (cond (leb d e) (picked i d c) (picked j e b))
sooner_assoc (picked i d c) (picked j e b) (picked k f a) =
    let x = picked i d c in
    let y = picked j e b in
    let z = picked k f a in
    by_leb (λ s. sooner (cond s x y) z ≡ sooner x (cond (leb e f) y z)) d e
    (λ h. by_leb (λ t. sooner x z ≡ sooner x (cond t y z)) e f (λ l. sym (first_picked i d c k f a (omega arith)) ∙ first_picked i d c j e b h) (λ l. refl))
    (λ h. by_leb (λ t. cond t y z ≡ sooner x (cond t y z)) e f (λ l. second_picked i d c j e b h) (λ l. second_picked i d c k f a (omega arith)))

-- ---- where the search may start

lowest_step : (digits : ℕ) (g : Guest) (gs : List Guest) → count_trailing_zeros (suc digits) (mask_of (g ∷ gs)) ≡ under (bit_of g) (count_trailing_zeros digits (mask_of gs))
unfolding count_trailing_zeros
lowest_step digits g gs =
    let n = bit_of g + 2 * mask_of gs in
    let low : n % 2 ≡ bit_of g = omega (arith, bit_small g) in
    let high : n / 2 ≡ mask_of gs = omega (arith, bit_small g) in
    rw (low, high)

-- the guests in front of the mask's lowest one are idle: who runs is not among them
from_lowest : (digits i : ℕ) (gs : List Guest) → length gs ≤ digits
    → earliest (i + count_trailing_zeros digits (mask_of gs)) (drop (count_trailing_zeros digits (mask_of gs)) gs) ≡ earliest i gs
from_lowest digits i [] h = rw drop-nil
from_lowest zero i (g ∷ gs) h = absurd (omega arith)
from_lowest (suc digits) i (guest Q T zero c d own borrowed ∷ gs) h =
    let t = count_trailing_zeros digits (mask_of gs) in
    let next : i + suc t ≡ suc i + t = omega arith in
    rw (lowest_step digits (guest Q T zero c d own borrowed) gs, next) (from_lowest digits (suc i) gs (omega arith))
from_lowest (suc digits) i (guest Q T (suc jobs) c d own borrowed ∷ gs) h =
    let g = guest Q T (suc jobs) c d own borrowed in
    rw (lowest_step digits g gs) (ap (λ (k : ℕ). earliest k (g ∷ gs)) (add-zero i))

-- so the search may start at it
pub lowest_first : (digits : ℕ) (gs : List Guest) {from : ℕ} → from ≡ count_trailing_zeros digits (mask_of gs) → length gs ≤ digits → earliest from (drop from gs) ≡ earliest 0 gs
lowest_first digits gs e h = rw e (rw zero-add at (from_lowest digits 0 gs h))

-- ---- the search

-- a guest in its place, with so many jobs
abbrev with_jobs : GuestPlace → ℕ → GuestPlace
with_jobs g j = record { jobs = j; current = g.current; deadline = g.deadline; own = g.own; borrowed = g.borrowed }

-- the better of two guests is the sooner of their picks
better_by : (i k : ℕ) (b g : GuestPlace) (m n : ℕ)
    → let p = with_jobs b m in
    let q = with_jobs g n in
    ready (cond (beats p q) k i) (shown (cond (beats p q) q p)) ≡ sooner (ready i (shown p)) (ready k (shown q))
better_by i k b g m zero = sym (sooner_nobody (ready i (shown (with_jobs b m))))
better_by i k b g zero (suc n) = rw (eqb-suc-zero n)
better_by i k b g (suc m) (suc n) =
    let p = with_jobs b (suc m) in
    let q = with_jobs g (suc n) in
    rw (eqb-suc-zero n, eqb-suc-zero m)
    (by_ltb (λ t. ready (cond t k i) (shown (cond t q p)) ≡ sooner (ready i (shown p)) (ready k (shown q))) g.deadline b.deadline
    (λ l. second_picked i b.deadline b.current k g.deadline g.current l)
    (λ l. first_picked i b.deadline b.current k g.deadline g.current l))

-- guest i, and an empty place where there is none
abbrev pub here : List GuestPlace → ℕ → GuestPlace
here gs i = get_or gs i no_guest_place

here_cond : (gs : List GuestPlace) (t : Bool) (i k : ℕ) → here gs (cond t i k) ≡ cond t (here gs i) (here gs k)
here_cond gs true i k = refl
here_cond gs false i k = refl

-- of the guests from a number on, the best before i and the earliest of the others make the earliest
pub record Searched (gs : List GuestPlace) (from n best i : ℕ) : Type 0 where
  pub so : sooner (ready best (shown (here gs best))) (earliest i (drop i (in_use n gs))) ≡ earliest from (drop from (in_use n gs))

module _ (gs : List GuestPlace) (n : ℕ) (inside : n ≤ length gs) where
  -- the guests from i on begin with guest i
  from_here : (i : ℕ) → i < n → earliest i (drop i (in_use n gs)) ≡ sooner (ready i (shown (here gs i))) (earliest (suc i) (drop (suc i) (in_use n gs)))
  from_here i h =
      let at : get_or (in_use n gs) i (shown no_guest_place) ≡ shown (here gs i) = get_or-map shown (take n gs) i no_guest_place ∙ ap shown (get_or-take n gs i no_guest_place h) in
      rw (drop-cons (in_use n gs) i (shown no_guest_place) (omega (arith, length_in_use n gs inside)), at)

  pub searched_start : (from : ℕ) → from < n → Searched gs from n from (from + 1)
  searched_start from h = record { so = rw (add-one from) (sym (from_here from h)) }

  module _ {from best i : ℕ} (s : Searched gs from n best i) where
    pub searched_more : {next : ℕ} → next ≡ cond (beats (here gs best) (here gs i)) i best → i < n → Searched gs from n next (i + 1)
    searched_more e h =
        let b = here gs best in
        let g = here gs i in
        let others = earliest (suc i) (drop (suc i) (in_use n gs)) in
        record {
          so = rw (add-one i, e, here_cond gs (beats b g) i best)
              (ap (λ (p : Pick). sooner p others) (better_by best i b g b.jobs g.jobs) ∙ sooner_assoc (ready best (shown b)) (ready i (shown g)) others ∙ ap (sooner (ready best (shown b))) (sym (from_here i h)) ∙ s.so);
        }

-- either of two places is a place
pub either_inside : (t : Bool) (i k : ℕ) {n next : ℕ} → next ≡ cond t i k → i < n → k < n → next < n
either_inside true i k e h l = omega arith
either_inside false i k e h l = omega arith
