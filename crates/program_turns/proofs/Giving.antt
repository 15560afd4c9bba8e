-- What holds of a line that may stand in its place and of one that may not: by the two cases of what it gives there.
use mathlib.Core.Option.{Option, none, some}
use Rattle.program_listing.specs.Listing.{given}

pub by_given : {A B : Type 0} {f : A → B} {x : B} (P : B → Type 0) (o : Option A) → ((a : A) → P (f a)) → P x → P (given o f x)
by_given P (some a) s n = s a
by_given P none s n = n

-- the same of two that go by one line
pub by_both : {A B C : Type 0} {f : A → B} {g : A → C} {x : B} {y : C} (R : B → C → Type 0) (o : Option A) → ((a : A) → R (f a) (g a)) → R x y
    → R (given o f x) (given o g y)
by_both R (some a) s n = s a
by_both R none s n = n
