-- What the contracts of the public functions of `program_script` and `program_lines` allow is one outcome.
use mathlib.Core.Path.{◌≡◌, refl, sym, ap, ◌∙◌}
use mathlib.Core.List.{[], ◌∷◌}
use Rattle.program_text.specs.declared.Call.TheVariants.{Arrive, Done, Advance}
use Rattle.program_text.specs.declared.Line.{Line}
use Rattle.program_text.specs.declared.Line.TheVariants.{Frame, Guest, Command, Malformed}
use Rattle.program_text.specs.Script.{Said, says, refuses, said_by, line_with, OneAnswer}
use Rattle.program_text.specs.Lines.{OneOutcome}

-- ---- a line of input

-- the line that says it
undo : Said → Line
undo (says letter []) = Malformed
undo (says letter (value ∷ [])) = line_with letter value
undo (says letter (q ∷ t ∷ ns)) = Guest q t
undo (refuses number) = Malformed

undone : (l : Line) → undo (said_by l) ≡ l
unfolding undo
undone (Frame h) = refl
undone (Guest q t) = refl
undone (Command (Arrive i)) = refl
undone (Command (Done i)) = refl
undone (Command (Advance k)) = refl
undone Malformed = refl

pub one_answer : OneAnswer
one_answer = record { answer = λ bytes a b p q. p ∙ sym q; cases = λ a b e. sym (undone a) ∙ ap undo e ∙ undone b }

-- ---- a line of output

pub one_outcome : OneOutcome
one_outcome =
    record {
      room = λ long filled room r r' a b. a ∙ sym b;
      line = λ bytes buffer filled after after' r r' a b. (a.content ∙ sym b.content, a.holds ∙ sym b.holds);
    }
