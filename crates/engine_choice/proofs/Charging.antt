-- One portion: what comes next and what is charged, as the code has them and as the rules say.
use mathlib.Core.Path.{◌≡◌, refl, sym}
use mathlib.Core.Bool.{cond}
use mathlib.Core.List.{List, [], ◌∷◌}
use Prim.Native.Nat.{ℕ, zero, suc, ◌+◌, ◌-◌, ◌≤◌, ◌<◌, min}
use native.Mathlib.Nat.{add-zero, sub-zero}
use native.Mathlib.Omega.{arith}
use lib.ListN.{length, drop}
use Rattle.laws.specs.Lists.{changed}
use Rattle.laws.proofs.Cases.{by_leb}
use Rattle.rules.specs.declared.Source.TheVariants.{Own, SpareOf}
use Rattle.rules.specs.declared.Portion.{Portion as DeclaredPortion}
use Rattle.rules.specs.declared.Portion.TheVariants.{Run, Burn, Nothing}
use Rattle.rules.specs.Calls.{portion_of}
use Rattle.rules.specs.Lines.{ticks_on}
use Rattle.rules.specs.Model.{Guest, guest, Spare, spare, Model, current_of, capacity_of, guest_at, spare_at}
use Rattle.promises.specs.Promises.{FirstSpareIs, Uses}
use Rattle.rules.specs.Steps.{limited, Portion, use_of, span_of, spend, ran, later, charge}
use Rattle.promises.specs.Spans.{Within}
use Rattle.promises.proofs.Spans.{limited_same}
use Rattle.engine_choice.specs.declared.Charge.{Charge}
use Rattle.engine_choice.specs.Clauses.{removed_by, charge_of}

-- ---- the charge of a portion that is next

-- the spares after it
abbrev pub lost_by : Charge → List Spare → List Spare
lost_by c [] = []
lost_by c (spare d owner b ∷ ss) = drop c.removed (spare d owner (b - c.spent) ∷ ss)

-- the model after it
abbrev pub made : Charge → Model → Model
made c m = later c.ticks m (changed c.guest (ran c.own c.borrowed) m.guests) (lost_by c m.spares) (m.burned + c.burned) (m.empty + c.empty)

-- what the code needs to know of it
pub record Fits (c : Charge) (left : ℕ) (p : Portion) (m : Model) : Type 0 where
  pub ticks : c.ticks ≡ ticks_on left (span_of p)
  pub some : 1 ≤ c.ticks
  pub most : c.ticks ≤ left
  pub span : Within c.ticks (span_of p)
  pub names : c.guest < length m.guests
  pub own : c.own ≤ current_of (guest_at c.guest m.guests)
  pub own_ticks : c.own ≤ c.ticks
  pub borrowed_ticks : c.borrowed ≤ c.ticks
  pub burned_ticks : c.burned ≤ c.ticks
  pub empty_ticks : c.empty ≤ c.ticks
  pub spent : c.spent ≤ capacity_of (spare_at 0 m.spares)
  pub removed : c.removed ≤ length m.spares
  pub so : charge c.ticks (use_of p) m ≡ made c m

-- the model after it, from its parts
made_of : (c : Charge) (m : Model) {gs : List Guest} {ss : List Spare} {burned empty : ℕ} → gs ≡ changed c.guest (ran c.own c.borrowed) m.guests → ss ≡ lost_by c m.spares
    → burned ≡ m.burned + c.burned → empty ≡ m.empty + c.empty → later c.ticks m gs ss burned empty ≡ made c m
made_of c m guests spares burned empty = λ j. later c.ticks m (guests j) (spares j) (burned j) (empty j)

ran_none : (g : Guest) → ran 0 0 g ≡ g
ran_none (guest Q T jobs c d own borrowed) = rw (add-zero, add-zero, sub-zero)

changed_none : (i : ℕ) (gs : List Guest) → changed i (ran 0 0) gs ≡ gs
changed_none i [] = refl
changed_none zero (g ∷ gs) = rw (ran_none g)
changed_none (suc i) (g ∷ gs) = rw (changed_none i gs)

lost_none : (c : Charge) → c.removed ≡ 0 → c.spent ≡ 0 → (ss : List Spare) → lost_by c ss ≡ ss
lost_none c e f [] = refl
lost_none c e f (spare d owner b ∷ ss) = rw (e, f, sub-zero)

removed_few : (n b : ℕ) → removed_by n b ≤ 1
removed_few n b = by_leb (λ t. cond t 1 0 ≤ 1) b n (λ h. omega arith) (λ h. omega arith)

-- a spare that loses n is removed where n reaches what is left of it
spend_lost : (n d owner b : ℕ) (ss : List Spare) → spend n (spare d owner b ∷ ss) ≡ drop (removed_by n b) (spare d owner (b - n) ∷ ss)
spend_lost n d owner b ss =
    by_leb (λ t. cond t ss (spare d owner (b - n) ∷ ss) ≡ drop (cond t 1 0) (spare d owner (b - n) ∷ ss)) b n (λ h. refl) (λ h. refl)

module _ (left last : ℕ) (some : 0 < left) (m : Model) (inside : last < length m.guests) where
  -- a spare that is used is the first one, with the span's capacity
  first_is : (owner d span : ℕ) → FirstSpareIs m.spares owner d (limited span) → (rest : List Spare) × (m.spares ≡ spare d owner span ∷ rest)
  first_is owner d span f = let e : span ≡ f.0 = limited_same span f.0 f.2 in (f.1.0, rw e f.1.1)

  pub charge_fits : (x : DeclaredPortion) → Uses m.guests m.spares (portion_of x) → Within 1 (span_of (portion_of x)) → Fits (charge_of left last x) left (portion_of x) m
  charge_fits (Run i Own d span) u h =
      let l : span ≡ current_of (guest_at i m.guests) = limited_same span (current_of (guest_at i m.guests)) u.2 in
      record {
        ticks = refl;
        some = omega arith;
        most = omega arith;
        span = omega arith;
        names = u.0.place;
        own = omega arith;
        own_ticks = omega arith;
        borrowed_ticks = omega arith;
        burned_ticks = omega arith;
        empty_ticks = omega arith;
        spent = omega arith;
        removed = omega arith;
        so = let c = charge_of left last (Run i Own d span) in made_of c m refl (sym (lost_none c refl refl m.spares)) (sym (add-zero _)) (sym (add-zero _));
      }
  charge_fits (Run i (SpareOf owner) d span) u h =
      let n = min left span in
      let f = first_is owner d span u.1 in
      record {
        ticks = refl;
        some = omega arith;
        most = omega arith;
        span = omega arith;
        names = u.0.place;
        own = omega arith;
        own_ticks = omega arith;
        borrowed_ticks = omega arith;
        burned_ticks = omega arith;
        empty_ticks = omega arith;
        spent = rw f.1 (omega arith);
        removed = rw f.1 (omega (arith, removed_few n span));
        so = let c = charge_of left last (Run i (SpareOf owner) d span) in made_of c m refl (rw f.1 (spend_lost n d owner span f.0)) (sym (add-zero _)) (sym (add-zero _));
      }
  charge_fits (Burn owner d span) u h =
      let n = min left span in
      let f = first_is owner d span u.1 in
      record {
        ticks = refl;
        some = omega arith;
        most = omega arith;
        span = omega arith;
        names = inside;
        own = omega arith;
        own_ticks = omega arith;
        borrowed_ticks = omega arith;
        burned_ticks = omega arith;
        empty_ticks = omega arith;
        spent = rw f.1 (omega arith);
        removed = rw f.1 (omega (arith, removed_few n span));
        so = let c = charge_of left last (Burn owner d span) in made_of c m (sym (changed_none last m.guests)) (rw f.1 (spend_lost n d owner span f.0)) refl (sym (add-zero _));
      }
  charge_fits Nothing u h =
      record {
        ticks = refl;
        some = omega arith;
        most = omega arith;
        span = tt;
        names = inside;
        own = omega arith;
        own_ticks = omega arith;
        borrowed_ticks = omega arith;
        burned_ticks = omega arith;
        empty_ticks = omega arith;
        spent = omega arith;
        removed = omega arith;
        so = let c = charge_of left last Nothing in made_of c m (sym (changed_none last m.guests)) (sym (lost_none c refl refl m.spares)) (sym (add-zero _)) refl;
      }
