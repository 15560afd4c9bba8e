-- What C reads of each call on an image: some outcome that the library's own predicate allows, and its answer as a number.
use Rattle.std.specs.Prelude.{◌≡◌, List, ℕ, length, ⊤, Result}
use Rattle.std.specs.Result.{result_unwrap_or}
use Rattle.rules.specs.declared.Table.{Table}
use Rattle.rules.specs.declared.Refusal.{Refusal}
use Rattle.rules.specs.Refusals.{number_of}
use Rattle.rules.specs.Table.{no_table}
use Rattle.rules.specs.Calls.{ImageChecked, TableRead, EntriesHanded, TableWritten}
use Rattle.c_images.specs.declared.Part.{Part}

-- reading: the table that is left in its place, and the number
pub record ReadInPlace (image : List ℕ) (after : Table) (refusal : ℕ) : Type 0 where
  pub loaded : Result Table Refusal
  pub allowed : TableRead image loaded
  pub table : after ≡ result_unwrap_or loaded no_table
  pub number : refusal ≡ number_of loaded

-- "the entries as a part of the caller's own image": where the part starts there, and how long it is
pub record EntriesPlaced (image : List ℕ) (r : Part) : Type 0 where
  pub bytes : List ℕ
  pub allowed : EntriesHanded image r.offset bytes
  pub long : r.length ≡ length bytes
  pub number : ImageChecked image r.refusal

-- writing: the lent buffer as it is left, and the number
pub record WrittenInPlace (t : Table) (before after : List ℕ) (refusal : ℕ) : Type 0 where
  pub answer : Result ⊤ Refusal
  pub allowed : TableWritten t before answer after
  pub number : refusal ≡ number_of answer

-- any two outcomes that a predicate allows are equal
pub record OneOutcome : Type 0 where
  pub check : (image : List ℕ) (n n' : ℕ) → ImageChecked image n → ImageChecked image n' → n ≡ n'
  pub read : (image : List ℕ) (t t' : Table) (n n' : ℕ) → ReadInPlace image t n → ReadInPlace image t' n' → (t ≡ t') × (n ≡ n')
  pub entries : (image : List ℕ) (a b : Part) → EntriesPlaced image a → EntriesPlaced image b → a ≡ b
  pub write : (t : Table) (buffer x y : List ℕ) (n n' : ℕ) → WrittenInPlace t buffer x n → WrittenInPlace t buffer y n' → (x ≡ y) × (n ≡ n')
