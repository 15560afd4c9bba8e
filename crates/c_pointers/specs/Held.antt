-- Rows that hold `Forms`: of a function that stores a value at the front and gives 0, what it may give and leave, and what it may not.
use Rattle.std.specs.Prelude.{◌≡◌, List, [], ◌∷◌, ℕ, set}
use denote.Ref.{MutBor}
use denote.Param.Members.{Once}
use Rattle.c_pointers.specs.Forms.{StoresAt}

-- a function that stores the value at the front and gives 0
abbrev pub at_front : Once (Unit {0}) (ℕ × (MutBor (List ℕ) × Unit {0})) (ℕ × (MutBor (List ℕ) × Unit {0}))
at_front = record { pre = λ f a. Unit {0}; post = λ f a r. (r.0 ≡ 0) × (r.1.0.now ≡ set a.1.0.now 0 a.0) }

pub record FormsHeld : Type 0 where
  pub stored : StoresAt at_front tt 7 (1 ∷ 2 ∷ []) 0 (7 ∷ 2 ∷ [])
  pub other_number : StoresAt at_front tt 7 (1 ∷ 2 ∷ []) 1 (7 ∷ 2 ∷ []) → ⊥
  pub other_value : StoresAt at_front tt 8 (1 ∷ 2 ∷ []) 0 (7 ∷ 2 ∷ []) → ⊥
  pub other_before : StoresAt at_front tt 7 (1 ∷ 3 ∷ []) 0 (7 ∷ 2 ∷ []) → ⊥
  pub other_after : StoresAt at_front tt 7 (1 ∷ 2 ∷ []) 0 (7 ∷ 3 ∷ []) → ⊥
