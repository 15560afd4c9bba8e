-- Rows that hold `Lines` and `Walks`: portions of every use, the lines of an advance, and whole outcomes of a walk.
use Rattle.std.specs.Prelude.{◌≡◌, [], ◌∷◌, map, ℕ, length, replicate, Ok, Err}
use Rattle.rules.specs.declared.Refusal.TheVariants.{EndOfTime}
use Rattle.rules.specs.declared.Source.TheVariants.{Own, SpareOf}
use Rattle.rules.specs.declared.Use.{Use as DeclaredUse}
use Rattle.rules.specs.declared.Use.TheVariants.{Run, Burn, Nothing}
use Rattle.rules.specs.declared.Line.{Line as LinePlace}
use Rattle.rules.specs.Model.{guest, spare}
use Rattle.rules.specs.Steps.{own_budget, spare_of, runs, burns, nothing, limited, endless}
use Rattle.rules.specs.Places.{packed}
use Rattle.rules.specs.Calls.{arrives, finishes, advances, asks, asks_active, asks_margin}
use Rattle.rules.specs.Lines.{line, ticks_on, lines, lines_of, listing}
use Rattle.rules.specs.Walks.{ticks_in, declared_use, use_in, no_line, walk_lines, walk_state, walk_left, no_walk, Walked}
use Rattle.rules.specs.Samples.{resting, sample_model, sample, lone}
use Rattle.rules.specs.HeldSteps.{of, at10, then}

-- a line in its place
abbrev pub line_in : ℕ → ℕ → DeclaredUse → LinePlace
line_in first end used = record { first = first; end = end; used = used }

-- "one line per portion"
pub record LinesHeld : Type 0 where
  -- what is left of k ticks or of the span ends a portion; nothing to do has no end
  pub cut : map (ticks_on 3) (limited 4 ∷ endless ∷ []) ≡ 3 ∷ 3 ∷ []
  pub spent : map (ticks_on 5) (limited 4 ∷ endless ∷ []) ≡ 4 ∷ 5 ∷ []
  -- "each next spare, even of the same owner" is a new portion
  pub spares : lines_of (advances 7) sample ≡ line 10 14 (runs 0 (spare_of 1)) ∷ line 14 15 (runs 0 (spare_of 1)) ∷ line 15 17 (runs 0 (spare_of 0)) ∷ []
  -- "A renewed budget is a new portion"
  pub budgets : lines 9 5 (at10 (of 1 2 20 ∷ []) []) ≡ line 10 12 (runs 0 own_budget) ∷ line 12 15 (runs 0 own_budget) ∷ []
  pub idles : lines 9 5 (at10 (of 0 0 20 ∷ []) (spare 20 0 2 ∷ [])) ≡ line 10 12 (burns 0) ∷ line 12 15 nothing ∷ []
  -- at most so many of them
  pub most : lines 1 7 sample_model ≡ line 10 14 (runs 0 (spare_of 1)) ∷ []
  -- "an `R` of 0 prints none", a refused one too, and no other call has any
  pub none_printed : lines_of (advances 0) sample ≡ []
  pub refused : lines_of (advances 1) (lone 1099511627776 0 0 0) ≡ []
  pub to_the_end : lines_of (advances 5) (lone 1099511627771 0 0 0) ≡ line 1099511627771 1099511627776 nothing ∷ []
  pub other_calls : map (λ c. lines_of c sample) (arrives 1 ∷ finishes 0 ∷ asks ∷ asks_active ∷ asks_margin 0 ∷ []) ≡ [] ∷ [] ∷ [] ∷ [] ∷ [] ∷ []
  -- "Lines of two `R` commands are not joined"
  pub not-joined : listing (advances 1 ∷ arrives 0 ∷ advances 2 ∷ []) sample ≡ line 10 11 (runs 0 (spare_of 1)) ∷ line 11 13 (runs 0 (spare_of 1)) ∷ []

-- a walk
pub record WalksHeld : Type 0 where
  pub used : map declared_use (runs 1 own_budget ∷ runs 1 (spare_of 4) ∷ burns 4 ∷ nothing ∷ []) ≡ Run 1 Own ∷ Run 1 (SpareOf 4) ∷ Burn 4 ∷ Nothing ∷ []
  pub says : map use_in (Run 1 Own ∷ Run 1 (SpareOf 4) ∷ Burn 4 ∷ Nothing ∷ []) ≡ runs 1 own_budget ∷ runs 1 (spare_of 4) ∷ burns 4 ∷ nothing ∷ []
  pub no_line_row : no_line ≡ line_in 0 0 Nothing
  -- the ticks of the first portions
  pub ticks : (ticks_in 0 7 sample_model ∷ ticks_in 1 7 sample_model ∷ ticks_in 2 7 sample_model ∷ ticks_in 3 7 sample_model ∷ ticks_in 3 0 sample_model ∷ []) ≡ 0 ∷ 4 ∷ 5 ∷ 7 ∷ 0 ∷ []
  pub walked :
      Walked sample 7
      (Ok (record {
        state = packed (then 17 (guest 3 12 2 2 30 3 8 ∷ resting ∷ []) (spare 24 0 1 ∷ []) 1 2);
        left = 0;
        shown = 3;
        lines = line_in 10 14 (Run 0 (SpareOf 1)) ∷ line_in 14 15 (Run 0 (SpareOf 1)) ∷ line_in 15 17 (Run 0 (SpareOf 0)) ∷ replicate 61 (line_in 0 0 Nothing);
      }))
  pub walked_to_the_end :
      Walked (lone 1099511627771 0 0 0) 5
      (Ok (record {
        state = lone 1099511627776 0 0 0;
        left = 0;
        shown = 1;
        lines = line_in 1099511627771 1099511627776 Nothing ∷ replicate 63 (line_in 0 0 Nothing);
      }))
  pub walked_refused :
      Walked (lone 1099511627776 0 0 0) 1 (Err EndOfTime)
  pub none_walked :
      no_walk (lone 1099511627776 0 0 0)
      ≡ record {
        state = lone 1099511627776 0 0 0;
        left = 0;
        shown = 0;
        lines = replicate 64 (line_in 0 0 Nothing);
      }
  -- a walk answers 64 portions: a guest (1, 1) has one in each tick
  pub portions : length (walk_lines 65 (lone 0 1 1 1)) ≡ 64
  pub left : (walk_left 64 (lone 0 1 1 1) ∷ walk_left 65 (lone 0 1 1 1) ∷ []) ≡ 0 ∷ 1 ∷ []
  pub left_at_the_end : walk_left 65 (lone 1099511627711 1 1 1) ≡ 1
  pub reached : (walk_state 65 (lone 0 1 1 1)).now ≡ 64
