-- What is known of a function that does the work by value: which answers it may give, of a value and bytes that it may change.
use Rattle.std.specs.Prelude.{◌≡◌, ℕ, List}
use denote.Ref.{MutBor}
use denote.Param.Members.{Once}

-- called with the value and the bytes, it may give the number and leave the bytes so
pub record StoresAt {F T : Type 0} (g : Once F (T × (MutBor (List ℕ) × Unit {0})) (ℕ × (MutBor (List ℕ) × Unit {0}))) (f : F) (value : T) (before : List ℕ) (number : ℕ) (after : List ℕ) : Type 0 where
  pub shown : MutBor (List ℕ)
  pub shows : shown.now ≡ before
  pub left : MutBor (List ℕ)
  pub met : g.post f (value, (shown, tt)) (number, (left, tt))
  pub leaves : left.now ≡ after
