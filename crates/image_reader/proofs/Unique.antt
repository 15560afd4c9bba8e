-- Any two answers that a predicate allows are equal.
use mathlib.Core.Path.{◌≡◌, refl, sym, ◌∙◌}
use Prim.Native.Nat.{ℕ}
use Rattle.image_reader.specs.declared.Pair.{Pair}
use Rattle.image_reader.specs.declared.Trailer.{Trailer}
use Rattle.image_reader.specs.Clauses.{OneAnswer}

trailer_same : {f g o p c d e h : ℕ} → f ≡ g → o ≡ p → c ≡ d → e ≡ h
    → ◌≡◌ {A = Trailer} (record { frame = f; offset = o; count = c; edition = e }) (record { frame = g; offset = p; count = d; edition = h })
trailer_same f o c e = rw (f, o, c, e) refl

pair_same : {x y v w : ℕ} → x ≡ y → v ≡ w → ◌≡◌ {A = Pair} (record { budget = x; period = v }) (record { budget = y; period = w })
pair_same e f = rw (e, f) refl

pub one_answer : OneAnswer
one_answer =
    record {
      number = λ width bytes at a b p q. p.0 ∙ sym q.0;
      entry = λ part at a b p q. pair_same (p.budget.0 ∙ sym q.budget.0) (p.period.0 ∙ sym q.period.0);
      trailer = λ image a b p q. trailer_same (p.frame.0 ∙ sym q.frame.0) (p.offset.0 ∙ sym q.offset.0)
          (p.count.0 ∙ sym q.count.0) (p.edition.0 ∙ sym q.edition.0);
    }
