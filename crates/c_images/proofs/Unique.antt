-- Any two outcomes that a predicate allows are equal: what C reads is a function of the call's outcome, and that is settled.
use mathlib.Core.Path.{◌≡◌, refl, sym, ap, ◌∙◌}
use mathlib.Core.List.{List}
use Prim.Native.Nat.{ℕ}
use lib.ListN.{length}
use Rattle.std.specs.Prelude.{Result}
use Rattle.std.specs.Result.{result_unwrap_or}
use Rattle.rules.specs.declared.Table.{Table}
use Rattle.rules.specs.declared.Refusal.{Refusal}
use Rattle.rules.specs.Table.{no_table}
use Rattle.rules.specs.Refusals.{number_of}
use Rattle.promises.proofs.Outcomes as settled
use Rattle.c_images.specs.declared.Part.{Part}
use Rattle.c_images.specs.Clauses.{EntriesPlaced, OneOutcome}

part_same : {m n o p k l : ℕ} → m ≡ n → o ≡ p → k ≡ l
    → ◌≡◌ {A = Part} (record { refusal = m; offset = o; length = k }) (record { refusal = n; offset = p; length = l })
part_same e f g = rw (e, f, g) refl

one_part : (image : List ℕ) (a b : Part) → EntriesPlaced image a → EntriesPlaced image b → a ≡ b
one_part image a b p q =
    let same = (settled.one_outcome).entries image a.offset b.offset p.bytes q.bytes p.allowed q.allowed in
    part_same ((settled.one_outcome).boot image a.refusal b.refusal p.number q.number) same.0 (p.long ∙ ap length same.1 ∙ sym q.long)

pub one_outcome : OneOutcome
one_outcome =
    record {
      check = (settled.one_outcome).boot;
      read = λ image t t' n n' p q.
          let same = (settled.one_outcome).read image p.loaded q.loaded p.allowed q.allowed in
          (p.table ∙ ap (λ (l : Result Table Refusal). result_unwrap_or l no_table) same ∙ sym q.table, p.number ∙ ap number_of same ∙ sym q.number);
      entries = one_part;
      write = λ t buffer x y n n' p q.
          let same = (settled.one_outcome).write t buffer p.answer q.answer x y p.allowed q.allowed in
          (same.1, p.number ∙ ap number_of same.0 ∙ sym q.number);
    }
