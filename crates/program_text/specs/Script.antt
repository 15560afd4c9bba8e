-- "A line is a letter, then numbers, each after one space, then a line feed."
use Rattle.std.specs.Prelude.{◌≡◌, Bool, cond, ◌&&◌, List, [], ◌∷◌, ℕ, eqb, length, get_or}
use Rattle.rules.specs.declared.Refusal.TheVariants.{Malformed as LineMalformed}
use Rattle.rules.specs.Refusals.{refusal_number}
use Rattle.program_text.specs.declared.Call.TheVariants.{Arrive, Done, Advance}
use Rattle.program_text.specs.declared.Line.{Line}
use Rattle.program_text.specs.declared.Line.TheVariants.{Frame, Guest, Command, Malformed}
use Rattle.program_text.specs.Numbers.{Got, no_number, got, number_at}

-- ---- what a line asks for, in 01's letters and numbers

-- "a line of program input is malformed"
abbrev pub malformed : ℕ
malformed = refusal_number LineMalformed

-- a letter and its numbers, or a number of refusal
pub data Said : Type 0 where
  says : (letter : ℕ) → (numbers : List ℕ) → Said
  refuses : (number : ℕ) → Said

-- "`F h`", "`G q t`", "`A i` (arrive), `D i` (done), `R k` (advance)"
abbrev pub said_by : Line → Said
said_by (Frame h) = says 70 (h ∷ [])
said_by (Guest q t) = says 71 (q ∷ t ∷ [])
said_by (Command (Arrive i)) = says 65 (i ∷ [])
said_by (Command (Done i)) = says 68 (i ∷ [])
said_by (Command (Advance k)) = says 82 (k ∷ [])
said_by Malformed = refuses malformed

-- ---- how it is read

-- the line feed, and nothing behind it
abbrev pub ends : List ℕ → Bool
ends bs = eqb (length bs) 1 && eqb (get_or bs 0 0) 10

-- a number that ends its line
abbrev pub ended : Got → Got
ended no_number = no_number
ended (got value rest) = cond (ends rest) (got value rest) no_number

-- the number that stands there, if it ends the line
unfoldable pub last_at : List ℕ → Got
unfolding number_at
last_at bs = ended (number_at bs)

-- "`G q t`"
abbrev pub guest_end : ℕ → Got → Line
guest_end q no_number = Malformed
guest_end q (got t rest) = Guest q t

-- two numbers, the second one at the line's end
unfoldable pub guest_line : Got → Line
unfolding last_at
guest_line no_number = Malformed
guest_line (got q rest) = guest_end q (last_at rest)

-- "`F h`", "`A i` (arrive), `D i` (done), `R k` (advance)"
abbrev pub line_with : ℕ → ℕ → Line
line_with letter value =
    cond (eqb letter 70) (Frame value) (cond (eqb letter 65) (Command (Arrive value)) (cond (eqb letter 68) (Command (Done value)) (cond (eqb letter 82) (Command (Advance value)) Malformed)))

-- a letter and its one number
abbrev pub one_line : ℕ → Got → Line
one_line letter no_number = Malformed
one_line letter (got value rest) = line_with letter value

-- a letter, and the numbers that it wants
unfoldable pub line_of : List ℕ → Line
unfolding guest_line last_at number_at
line_of [] = Malformed
line_of (letter ∷ bs) = cond (eqb letter 71) (guest_line (number_at bs)) (one_line letter (last_at bs))

-- what a line's bytes, its line feed among them, ask for
abbrev pub LineTold : List ℕ → Line → Type 0
LineTold bytes r = r ≡ line_of bytes

-- any two answers that the predicate allows are equal, and what a line says tells its case and its numbers
pub record OneAnswer : Type 0 where
  pub answer : (bytes : List ℕ) (a b : Line) → LineTold bytes a → LineTold bytes b → a ≡ b
  pub cases : (a b : Line) → said_by a ≡ said_by b → a ≡ b
