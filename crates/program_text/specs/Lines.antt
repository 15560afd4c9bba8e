-- "The program and its listing": a portion, a refusal and the end as the bytes of a line, and a line put into a lent buffer.
use Rattle.std.specs.Prelude.{◌≡◌, Bool, cond, List, [], ◌∷◌, ◌++◌, ℕ, ◌+◌, ◌≤◌, leb, length}
use Rattle.std.proofs.lemmas.List.Edits.{sets}
use Rattle.rules.specs.declared.Source.{Source}
use Rattle.rules.specs.declared.Source.TheVariants.{Own, SpareOf}
use Rattle.rules.specs.declared.Use.{Use}
use Rattle.rules.specs.declared.Use.TheVariants.{Run, Burn, Nothing}
use Rattle.rules.specs.declared.Line.{Line as LinePlace}
use Rattle.program_text.specs.Decimal.{decimal}

-- ---- the lines

-- a space and `-`, for "guest or `-`" and "the owner .. or `-`"
abbrev pub dash : List ℕ
dash = 32 ∷ 45 ∷ []

-- a space and a number
abbrev pub spaced : ℕ → List ℕ
spaced n = 32 ∷ decimal n

-- a space, a number and one byte behind it, as in "the owner followed by `o` (own) or `s` (spare)"
abbrev pub closed : ℕ → ℕ → List ℕ
closed n last = spaced n ++ (last ∷ [])

-- "the owner followed by `o` (own) or `s` (spare)"; a guest's own budget is its own
unfoldable pub source_bytes : ℕ → Source → List ℕ
source_bytes guest Own = closed guest 111
source_bytes guest (SpareOf owner) = closed owner 115

-- "guest or `-`, and the owner followed by `o` (own) or `s` (spare), or `-`"
unfoldable pub used_bytes : Use → List ℕ
unfolding source_bytes
used_bytes (Run guest source) = spaced guest ++ source_bytes guest source
used_bytes (Burn owner) = dash ++ closed owner 115
used_bytes Nothing = dash ++ dash

-- "one line per portion: first tick, end tick", and what it used
unfoldable pub portion_bytes : LinePlace → List ℕ
unfolding used_bytes
portion_bytes p = decimal p.first ++ spaced p.end ++ used_bytes p.used ++ (10 ∷ [])

-- "print `! number`"
unfoldable pub refusal_bytes : ℕ → List ℕ
refusal_bytes n = 33 ∷ spaced n ++ (10 ∷ [])

-- "The last line is `end` and the tick."
unfoldable pub end_bytes : ℕ → List ℕ
end_bytes tick = 101 ∷ 110 ∷ 100 ∷ spaced tick ++ (10 ∷ [])

-- ---- in a lent buffer

-- no line takes more bytes: four numbers of at most 20 digits, three spaces, a letter and a line feed
abbrev pub line_room : ℕ
line_room = 85

-- so many bytes have room behind those that a buffer of this length holds
abbrev pub has_room : ℕ → ℕ → ℕ → Bool
has_room room long filled = leb (filled + room) long

-- whether they have
abbrev pub RoomTold : ℕ → ℕ → ℕ → Bool → Type 0
RoomTold long filled room r = r ≡ has_room room long filled

-- a line put behind them: the whole buffer's content, and how many bytes it holds then; without room nothing is put
pub record LinePut (bytes buffer : List ℕ) (filled : ℕ) (after : List ℕ) (r : ℕ) : Type 0 where
  pub content : after ≡ cond (has_room line_room (length buffer) filled) (sets buffer filled bytes) buffer
  pub holds : r ≡ cond (has_room line_room (length buffer) filled) (filled + length bytes) filled
  pub short : r ≤ filled + line_room

-- any two outcomes that the predicates allow are equal
pub record OneOutcome : Type 0 where
  pub room : (long filled room : ℕ) (r r' : Bool) → RoomTold long filled room r → RoomTold long filled room r' → r ≡ r'
  pub line :
      (bytes buffer : List ℕ) (filled : ℕ) (after after' : List ℕ) (r r' : ℕ)
      → LinePut bytes buffer filled after r → LinePut bytes buffer filled after' r' → (after ≡ after') × (r ≡ r')
