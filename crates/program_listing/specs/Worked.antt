-- 01's own input and listing, byte by byte, and short inputs for each sentence about the listing. Every number here is written out.
use Rattle.std.specs.Prelude.{◌≡◌, List, [], ◌∷◌, ◌++◌, ℕ, zero, suc, ◌≤◌, ◌<◌, length}
use Rattle.program_listing.specs.Listing.{lines_in, asked, listed, listing_of}

-- "Input lines: `F 8`, `G 3 4`, `G 2 8`, `A 0`, `A 1`, `R 2`, `D 0`, `R 2`, `A 0`, `R 4`, `D 1`, `D 0`, `R 5`"
abbrev pub worked_input : List ℕ
worked_input =
    (70 ∷ 32 ∷ 56 ∷ 10 ∷ [])
    ++ (71 ∷ 32 ∷ 51 ∷ 32 ∷ 52 ∷ 10 ∷ [])
    ++ (71 ∷ 32 ∷ 50 ∷ 32 ∷ 56 ∷ 10 ∷ [])
    ++ (65 ∷ 32 ∷ 48 ∷ 10 ∷ [])
    ++ (65 ∷ 32 ∷ 49 ∷ 10 ∷ [])
    ++ (82 ∷ 32 ∷ 50 ∷ 10 ∷ [])
    ++ (68 ∷ 32 ∷ 48 ∷ 10 ∷ [])
    ++ (82 ∷ 32 ∷ 50 ∷ 10 ∷ [])
    ++ (65 ∷ 32 ∷ 48 ∷ 10 ∷ [])
    ++ (82 ∷ 32 ∷ 52 ∷ 10 ∷ [])
    ++ (68 ∷ 32 ∷ 49 ∷ 10 ∷ [])
    ++ (68 ∷ 32 ∷ 48 ∷ 10 ∷ [])
    ++ (82 ∷ 32 ∷ 53 ∷ 10 ∷ [])

-- "The whole output": `0 2 0 0o`, `2 3 1 0s`, `3 4 1 1o`, `4 7 0 0o`, `7 8 1 1o`, `8 11 - 0s`, `11 13 - -`, `end 13`
abbrev pub worked_listing : List ℕ
worked_listing =
    (48 ∷ 32 ∷ 50 ∷ 32 ∷ 48 ∷ 32 ∷ 48 ∷ 111 ∷ 10 ∷ [])
    ++ (50 ∷ 32 ∷ 51 ∷ 32 ∷ 49 ∷ 32 ∷ 48 ∷ 115 ∷ 10 ∷ [])
    ++ (51 ∷ 32 ∷ 52 ∷ 32 ∷ 49 ∷ 32 ∷ 49 ∷ 111 ∷ 10 ∷ [])
    ++ (52 ∷ 32 ∷ 55 ∷ 32 ∷ 48 ∷ 32 ∷ 48 ∷ 111 ∷ 10 ∷ [])
    ++ (55 ∷ 32 ∷ 56 ∷ 32 ∷ 49 ∷ 32 ∷ 49 ∷ 111 ∷ 10 ∷ [])
    ++ (56 ∷ 32 ∷ 49 ∷ 49 ∷ 32 ∷ 45 ∷ 32 ∷ 48 ∷ 115 ∷ 10 ∷ [])
    ++ (49 ∷ 49 ∷ 32 ∷ 49 ∷ 51 ∷ 32 ∷ 45 ∷ 32 ∷ 45 ∷ 10 ∷ [])
    ++ (101 ∷ 110 ∷ 100 ∷ 32 ∷ 49 ∷ 51 ∷ 10 ∷ [])

-- what the definition makes of the one is the other
abbrev pub WorkedHolds : Type 0
WorkedHolds = listing_of worked_input ≡ worked_listing

-- ---- short inputs

-- some lines, n times
unfoldable pub repeated : ℕ → List ℕ → List ℕ
repeated zero bytes = []
repeated (suc n) bytes = bytes ++ repeated n bytes

-- the order of the checks
pub record OrderHolds : Type 0 where
  -- "a missing `F` line (so also empty input)", and any other line in its place
  -- no input:
  pub empty : listing_of [] ≡ 33 ∷ 32 ∷ 49 ∷ 54 ∷ 10 ∷ []
  -- `G 3 4`, `F 8`, `G 3 4`
  pub guest_first : listing_of ((71 ∷ 32 ∷ 51 ∷ 32 ∷ 52 ∷ 10 ∷ []) ++ (70 ∷ 32 ∷ 56 ∷ 10 ∷ []) ++ (71 ∷ 32 ∷ 51 ∷ 32 ∷ 52 ∷ 10 ∷ [])) ≡ 33 ∷ 32 ∷ 49 ∷ 54 ∷ 10 ∷ []
  -- `A 0`, `F 8`, `G 3 4`
  pub arrive_first : listing_of ((65 ∷ 32 ∷ 48 ∷ 10 ∷ []) ++ (70 ∷ 32 ∷ 56 ∷ 10 ∷ []) ++ (71 ∷ 32 ∷ 51 ∷ 32 ∷ 52 ∷ 10 ∷ [])) ≡ 33 ∷ 32 ∷ 49 ∷ 54 ∷ 10 ∷ []
  -- `D 0`
  pub done_first : listing_of (68 ∷ 32 ∷ 48 ∷ 10 ∷ []) ≡ 33 ∷ 32 ∷ 49 ∷ 54 ∷ 10 ∷ []
  -- `R 1`
  pub advance_first : listing_of (82 ∷ 32 ∷ 49 ∷ 10 ∷ []) ≡ 33 ∷ 32 ∷ 49 ∷ 54 ∷ 10 ∷ []
  -- `F`
  pub malformed_first : listing_of (70 ∷ 10 ∷ []) ≡ 33 ∷ 32 ∷ 49 ∷ 54 ∷ 10 ∷ []
  -- an empty line, `F 8`
  pub empty_line_first : listing_of ((10 ∷ []) ++ (70 ∷ 32 ∷ 56 ∷ 10 ∷ [])) ≡ 33 ∷ 32 ∷ 49 ∷ 54 ∷ 10 ∷ []
  -- "The table is checked at the first line after `F` that is not a well-formed `G` line (so also at a malformed `G` line), before that line
  -- is looked at, or at the end of input"
  -- no guest, which is a smaller number than that of the frame: `F 0`
  pub no_guest : listing_of (70 ∷ 32 ∷ 48 ∷ 10 ∷ []) ≡ 33 ∷ 32 ∷ 49 ∷ 48 ∷ 10 ∷ []
  -- `F 8`, `F 8`
  pub frame_twice : listing_of ((70 ∷ 32 ∷ 56 ∷ 10 ∷ []) ++ (70 ∷ 32 ∷ 56 ∷ 10 ∷ [])) ≡ 33 ∷ 32 ∷ 49 ∷ 48 ∷ 10 ∷ []
  -- `F 8`, `A 0`
  pub no_guest_arrive : listing_of ((70 ∷ 32 ∷ 56 ∷ 10 ∷ []) ++ (65 ∷ 32 ∷ 48 ∷ 10 ∷ [])) ≡ 33 ∷ 32 ∷ 49 ∷ 48 ∷ 10 ∷ []
  -- `F 8`, `D 0`
  pub no_guest_done : listing_of ((70 ∷ 32 ∷ 56 ∷ 10 ∷ []) ++ (68 ∷ 32 ∷ 48 ∷ 10 ∷ [])) ≡ 33 ∷ 32 ∷ 49 ∷ 48 ∷ 10 ∷ []
  -- `F 8`, `R 1`
  pub no_guest_advance : listing_of ((70 ∷ 32 ∷ 56 ∷ 10 ∷ []) ++ (82 ∷ 32 ∷ 49 ∷ 10 ∷ [])) ≡ 33 ∷ 32 ∷ 49 ∷ 48 ∷ 10 ∷ []
  -- `F 8`, `X`
  pub no_guest_malformed : listing_of ((70 ∷ 32 ∷ 56 ∷ 10 ∷ []) ++ (88 ∷ 10 ∷ [])) ≡ 33 ∷ 32 ∷ 49 ∷ 48 ∷ 10 ∷ []
  -- without its line feed the `G` line is malformed: `F 8`, `G 1 8`
  pub cut_off : listing_of ((70 ∷ 32 ∷ 56 ∷ 10 ∷ []) ++ (71 ∷ 32 ∷ 49 ∷ 32 ∷ 56 ∷ [])) ≡ 33 ∷ 32 ∷ 49 ∷ 48 ∷ 10 ∷ []
  -- `F 8`, `G 3 4`, `G 3 8`, `X`
  pub table_first : listing_of ((70 ∷ 32 ∷ 56 ∷ 10 ∷ []) ++ (71 ∷ 32 ∷ 51 ∷ 32 ∷ 52 ∷ 10 ∷ []) ++ (71 ∷ 32 ∷ 51 ∷ 32 ∷ 56 ∷ 10 ∷ []) ++ (88 ∷ 10 ∷ [])) ≡ 33 ∷ 32 ∷ 49 ∷ 52 ∷ 10 ∷ []
  -- `F 8`, `G 3 4`, `G 3 8`, `A 0`
  pub table_first_arrive : listing_of ((70 ∷ 32 ∷ 56 ∷ 10 ∷ []) ++ (71 ∷ 32 ∷ 51 ∷ 32 ∷ 52 ∷ 10 ∷ []) ++ (71 ∷ 32 ∷ 51 ∷ 32 ∷ 56 ∷ 10 ∷ []) ++ (65 ∷ 32 ∷ 48 ∷ 10 ∷ [])) ≡ 33 ∷ 32 ∷ 49 ∷ 52 ∷ 10 ∷ []
  -- `F 8`, `G 3 4`
  pub table_alone : listing_of ((70 ∷ 32 ∷ 56 ∷ 10 ∷ []) ++ (71 ∷ 32 ∷ 51 ∷ 32 ∷ 52 ∷ 10 ∷ [])) ≡ 101 ∷ 110 ∷ 100 ∷ 32 ∷ 48 ∷ 10 ∷ []
  -- "A wrong .. order": behind the table
  -- `F 8`, `G 3 4`, `F 8`
  pub frame_behind : listing_of ((70 ∷ 32 ∷ 56 ∷ 10 ∷ []) ++ (71 ∷ 32 ∷ 51 ∷ 32 ∷ 52 ∷ 10 ∷ []) ++ (70 ∷ 32 ∷ 56 ∷ 10 ∷ [])) ≡ 33 ∷ 32 ∷ 49 ∷ 54 ∷ 10 ∷ []
  -- `F 8`, `G 3 4`, an empty line
  pub empty_line_behind : listing_of ((70 ∷ 32 ∷ 56 ∷ 10 ∷ []) ++ (71 ∷ 32 ∷ 51 ∷ 32 ∷ 52 ∷ 10 ∷ []) ++ (10 ∷ [])) ≡ 33 ∷ 32 ∷ 49 ∷ 54 ∷ 10 ∷ []
  -- `F 8`, `G 3 4`, `G 3`
  pub malformed_guest : listing_of ((70 ∷ 32 ∷ 56 ∷ 10 ∷ []) ++ (71 ∷ 32 ∷ 51 ∷ 32 ∷ 52 ∷ 10 ∷ []) ++ (71 ∷ 32 ∷ 51 ∷ 10 ∷ [])) ≡ 33 ∷ 32 ∷ 49 ∷ 54 ∷ 10 ∷ []
  -- `F 8`, `G 3 4`, `A 0`, `G 2 8`
  pub guest_behind : listing_of ((70 ∷ 32 ∷ 56 ∷ 10 ∷ []) ++ (71 ∷ 32 ∷ 51 ∷ 32 ∷ 52 ∷ 10 ∷ []) ++ (65 ∷ 32 ∷ 48 ∷ 10 ∷ []) ++ (71 ∷ 32 ∷ 50 ∷ 32 ∷ 56 ∷ 10 ∷ [])) ≡ 33 ∷ 32 ∷ 49 ∷ 54 ∷ 10 ∷ []
  -- `F 8`, `G 3 4`, `A 0`, `F 8`
  pub frame_later : listing_of ((70 ∷ 32 ∷ 56 ∷ 10 ∷ []) ++ (71 ∷ 32 ∷ 51 ∷ 32 ∷ 52 ∷ 10 ∷ []) ++ (65 ∷ 32 ∷ 48 ∷ 10 ∷ []) ++ (70 ∷ 32 ∷ 56 ∷ 10 ∷ [])) ≡ 33 ∷ 32 ∷ 49 ∷ 54 ∷ 10 ∷ []
  -- "lines before a malformed one are carried out first", "A stopped program prints no `end` line", and nothing behind it is carried out
  -- the last one without its line feed: `F 8`, `G 3 4`, `A 0`, `R 1`, `R 1`
  pub carried_out : listing_of ((70 ∷ 32 ∷ 56 ∷ 10 ∷ []) ++ (71 ∷ 32 ∷ 51 ∷ 32 ∷ 52 ∷ 10 ∷ []) ++ (65 ∷ 32 ∷ 48 ∷ 10 ∷ []) ++ (82 ∷ 32 ∷ 49 ∷ 10 ∷ []) ++ (82 ∷ 32 ∷ 49 ∷ [])) ≡ (48 ∷ 32 ∷ 49 ∷ 32 ∷ 48 ∷ 32 ∷ 48 ∷ 111 ∷ 10 ∷ []) ++ (33 ∷ 32 ∷ 49 ∷ 54 ∷ 10 ∷ [])
  -- `F 8`, `G 3 4`, `A 0`, `R 1`, `X`, `R 1`
  pub stopped : listing_of ((70 ∷ 32 ∷ 56 ∷ 10 ∷ []) ++ (71 ∷ 32 ∷ 51 ∷ 32 ∷ 52 ∷ 10 ∷ []) ++ (65 ∷ 32 ∷ 48 ∷ 10 ∷ []) ++ (82 ∷ 32 ∷ 49 ∷ 10 ∷ []) ++ (88 ∷ 10 ∷ []) ++ (82 ∷ 32 ∷ 49 ∷ 10 ∷ [])) ≡ (48 ∷ 32 ∷ 49 ∷ 32 ∷ 48 ∷ 32 ∷ 48 ∷ 111 ∷ 10 ∷ []) ++ (33 ∷ 32 ∷ 49 ∷ 54 ∷ 10 ∷ [])

-- "Refusals 10 and 12 to 14 .. print `! number` and stop the program"
pub record StopsHold : Type 0 where
  -- "no `G` line or too many of them is refusal 10"
  -- `F 16`, sixteen times `G 1 16`
  pub sixteen_guests : listing_of ((70 ∷ 32 ∷ 49 ∷ 54 ∷ 10 ∷ []) ++ repeated 16 (71 ∷ 32 ∷ 49 ∷ 32 ∷ 49 ∷ 54 ∷ 10 ∷ [])) ≡ 101 ∷ 110 ∷ 100 ∷ 32 ∷ 48 ∷ 10 ∷ []
  -- `F 16`, seventeen times, `A 0`
  pub seventeen_guests : listing_of ((70 ∷ 32 ∷ 49 ∷ 54 ∷ 10 ∷ []) ++ repeated 17 (71 ∷ 32 ∷ 49 ∷ 32 ∷ 49 ∷ 54 ∷ 10 ∷ []) ++ (65 ∷ 32 ∷ 48 ∷ 10 ∷ [])) ≡ 33 ∷ 32 ∷ 49 ∷ 48 ∷ 10 ∷ []
  -- `F 16`, forty times
  pub forty_guests : listing_of ((70 ∷ 32 ∷ 49 ∷ 54 ∷ 10 ∷ []) ++ repeated 40 (71 ∷ 32 ∷ 49 ∷ 32 ∷ 49 ∷ 54 ∷ 10 ∷ [])) ≡ 33 ∷ 32 ∷ 49 ∷ 48 ∷ 10 ∷ []
  -- 12: "H is 0 or above 1,000,000", "and a number too large for its field falls under the refusal for its range"
  -- `F 0`, `G 1 1`
  pub no_frame : listing_of ((70 ∷ 32 ∷ 48 ∷ 10 ∷ []) ++ (71 ∷ 32 ∷ 49 ∷ 32 ∷ 49 ∷ 10 ∷ [])) ≡ 33 ∷ 32 ∷ 49 ∷ 50 ∷ 10 ∷ []
  -- `F 1000000`, `G 1 1000000`
  pub longest_frame : listing_of ((70 ∷ 32 ∷ 49 ∷ 48 ∷ 48 ∷ 48 ∷ 48 ∷ 48 ∷ 48 ∷ 10 ∷ []) ++ (71 ∷ 32 ∷ 49 ∷ 32 ∷ 49 ∷ 48 ∷ 48 ∷ 48 ∷ 48 ∷ 48 ∷ 48 ∷ 10 ∷ [])) ≡ 101 ∷ 110 ∷ 100 ∷ 32 ∷ 48 ∷ 10 ∷ []
  -- `F 1000001`, `G 1 1`
  pub frame_too_long : listing_of ((70 ∷ 32 ∷ 49 ∷ 48 ∷ 48 ∷ 48 ∷ 48 ∷ 48 ∷ 49 ∷ 10 ∷ []) ++ (71 ∷ 32 ∷ 49 ∷ 32 ∷ 49 ∷ 10 ∷ [])) ≡ 33 ∷ 32 ∷ 49 ∷ 50 ∷ 10 ∷ []
  -- `F 9999999999999`, `G 1 1`, `A 0`
  pub largest_frame : listing_of ((70 ∷ 32 ∷ 57 ∷ 57 ∷ 57 ∷ 57 ∷ 57 ∷ 57 ∷ 57 ∷ 57 ∷ 57 ∷ 57 ∷ 57 ∷ 57 ∷ 57 ∷ 10 ∷ []) ++ (71 ∷ 32 ∷ 49 ∷ 32 ∷ 49 ∷ 10 ∷ []) ++ (65 ∷ 32 ∷ 48 ∷ 10 ∷ [])) ≡ 33 ∷ 32 ∷ 49 ∷ 50 ∷ 10 ∷ []
  -- 13: "some guest breaks 1 ≤ Q ≤ T or T does not divide H"
  -- `F 8`, `G 0 4`
  pub no_budget : listing_of ((70 ∷ 32 ∷ 56 ∷ 10 ∷ []) ++ (71 ∷ 32 ∷ 48 ∷ 32 ∷ 52 ∷ 10 ∷ [])) ≡ 33 ∷ 32 ∷ 49 ∷ 51 ∷ 10 ∷ []
  -- `F 8`, `G 5 4`
  pub budget_over_period : listing_of ((70 ∷ 32 ∷ 56 ∷ 10 ∷ []) ++ (71 ∷ 32 ∷ 53 ∷ 32 ∷ 52 ∷ 10 ∷ [])) ≡ 33 ∷ 32 ∷ 49 ∷ 51 ∷ 10 ∷ []
  -- `F 8`, `G 1 3`
  pub period_of_no_frame : listing_of ((70 ∷ 32 ∷ 56 ∷ 10 ∷ []) ++ (71 ∷ 32 ∷ 49 ∷ 32 ∷ 51 ∷ 10 ∷ [])) ≡ 33 ∷ 32 ∷ 49 ∷ 51 ∷ 10 ∷ []
  -- `F 8`, `G 9999999999999 8`
  pub largest_budget : listing_of ((70 ∷ 32 ∷ 56 ∷ 10 ∷ []) ++ (71 ∷ 32 ∷ 57 ∷ 57 ∷ 57 ∷ 57 ∷ 57 ∷ 57 ∷ 57 ∷ 57 ∷ 57 ∷ 57 ∷ 57 ∷ 57 ∷ 57 ∷ 32 ∷ 56 ∷ 10 ∷ [])) ≡ 33 ∷ 32 ∷ 49 ∷ 51 ∷ 10 ∷ []
  -- `F 8`, `G 1 9999999999999`
  pub largest_period : listing_of ((70 ∷ 32 ∷ 56 ∷ 10 ∷ []) ++ (71 ∷ 32 ∷ 49 ∷ 32 ∷ 57 ∷ 57 ∷ 57 ∷ 57 ∷ 57 ∷ 57 ∷ 57 ∷ 57 ∷ 57 ∷ 57 ∷ 57 ∷ 57 ∷ 57 ∷ 10 ∷ [])) ≡ 33 ∷ 32 ∷ 49 ∷ 51 ∷ 10 ∷ []
  -- `F 8`, `G 3 4`, `G 1 16`, `A 0`
  pub second_guest : listing_of ((70 ∷ 32 ∷ 56 ∷ 10 ∷ []) ++ (71 ∷ 32 ∷ 51 ∷ 32 ∷ 52 ∷ 10 ∷ []) ++ (71 ∷ 32 ∷ 49 ∷ 32 ∷ 49 ∷ 54 ∷ 10 ∷ []) ++ (65 ∷ 32 ∷ 48 ∷ 10 ∷ [])) ≡ 33 ∷ 32 ∷ 49 ∷ 51 ∷ 10 ∷ []
  -- 14: "the shares add up to more than H"
  -- `F 8`, `G 3 4`, `G 2 8`
  pub shares_fit : listing_of ((70 ∷ 32 ∷ 56 ∷ 10 ∷ []) ++ (71 ∷ 32 ∷ 51 ∷ 32 ∷ 52 ∷ 10 ∷ []) ++ (71 ∷ 32 ∷ 50 ∷ 32 ∷ 56 ∷ 10 ∷ [])) ≡ 101 ∷ 110 ∷ 100 ∷ 32 ∷ 48 ∷ 10 ∷ []
  -- `F 8`, `G 3 4`, `G 3 8`, `R 1`
  pub shares_too_large : listing_of ((70 ∷ 32 ∷ 56 ∷ 10 ∷ []) ++ (71 ∷ 32 ∷ 51 ∷ 32 ∷ 52 ∷ 10 ∷ []) ++ (71 ∷ 32 ∷ 51 ∷ 32 ∷ 56 ∷ 10 ∷ []) ++ (82 ∷ 32 ∷ 49 ∷ 10 ∷ [])) ≡ 33 ∷ 32 ∷ 49 ∷ 52 ∷ 10 ∷ []

-- "2 to 7 print `! number` and the program goes on"
pub record GoesOnHold : Type 0 where
  -- 2: "guest number is n or more"; a number too large for its field too
  -- `F 8`, `G 3 4`, `A 1`, `D 1`, `A 16`
  pub no_such_guest : listing_of ((70 ∷ 32 ∷ 56 ∷ 10 ∷ []) ++ (71 ∷ 32 ∷ 51 ∷ 32 ∷ 52 ∷ 10 ∷ []) ++ (65 ∷ 32 ∷ 49 ∷ 10 ∷ []) ++ (68 ∷ 32 ∷ 49 ∷ 10 ∷ []) ++ (65 ∷ 32 ∷ 49 ∷ 54 ∷ 10 ∷ [])) ≡ (33 ∷ 32 ∷ 50 ∷ 10 ∷ []) ++ (33 ∷ 32 ∷ 50 ∷ 10 ∷ []) ++ (33 ∷ 32 ∷ 50 ∷ 10 ∷ []) ++ (101 ∷ 110 ∷ 100 ∷ 32 ∷ 48 ∷ 10 ∷ [])
  -- `F 8`, `G 3 4`, `A 9999999999999`, `D 9999999999999`
  pub largest_guest : listing_of ((70 ∷ 32 ∷ 56 ∷ 10 ∷ []) ++ (71 ∷ 32 ∷ 51 ∷ 32 ∷ 52 ∷ 10 ∷ []) ++ (65 ∷ 32 ∷ 57 ∷ 57 ∷ 57 ∷ 57 ∷ 57 ∷ 57 ∷ 57 ∷ 57 ∷ 57 ∷ 57 ∷ 57 ∷ 57 ∷ 57 ∷ 10 ∷ []) ++ (68 ∷ 32 ∷ 57 ∷ 57 ∷ 57 ∷ 57 ∷ 57 ∷ 57 ∷ 57 ∷ 57 ∷ 57 ∷ 57 ∷ 57 ∷ 57 ∷ 57 ∷ 10 ∷ [])) ≡ (33 ∷ 32 ∷ 50 ∷ 10 ∷ []) ++ (33 ∷ 32 ∷ 50 ∷ 10 ∷ []) ++ (101 ∷ 110 ∷ 100 ∷ 32 ∷ 48 ∷ 10 ∷ [])
  -- 3: "done for an idle guest"
  -- `F 8`, `G 3 4`, `D 0`, `A 0`, `R 1`
  pub idle : listing_of ((70 ∷ 32 ∷ 56 ∷ 10 ∷ []) ++ (71 ∷ 32 ∷ 51 ∷ 32 ∷ 52 ∷ 10 ∷ []) ++ (68 ∷ 32 ∷ 48 ∷ 10 ∷ []) ++ (65 ∷ 32 ∷ 48 ∷ 10 ∷ []) ++ (82 ∷ 32 ∷ 49 ∷ 10 ∷ [])) ≡ (33 ∷ 32 ∷ 51 ∷ 10 ∷ []) ++ (48 ∷ 32 ∷ 49 ∷ 32 ∷ 48 ∷ 32 ∷ 48 ∷ 111 ∷ 10 ∷ []) ++ (101 ∷ 110 ∷ 100 ∷ 32 ∷ 49 ∷ 10 ∷ [])
  -- `F 8`, `G 3 4`, `A 0`, `D 0`, `D 0`
  pub idle_again : listing_of ((70 ∷ 32 ∷ 56 ∷ 10 ∷ []) ++ (71 ∷ 32 ∷ 51 ∷ 32 ∷ 52 ∷ 10 ∷ []) ++ (65 ∷ 32 ∷ 48 ∷ 10 ∷ []) ++ (68 ∷ 32 ∷ 48 ∷ 10 ∷ []) ++ (68 ∷ 32 ∷ 48 ∷ 10 ∷ [])) ≡ (33 ∷ 32 ∷ 51 ∷ 10 ∷ []) ++ (101 ∷ 110 ∷ 100 ∷ 32 ∷ 48 ∷ 10 ∷ [])
  -- 4: "arrive at a guest with 255 jobs", and not before
  -- `F 8`, `G 3 4`, 256 times `A 0`
  pub jobs_full : listing_of ((70 ∷ 32 ∷ 56 ∷ 10 ∷ []) ++ (71 ∷ 32 ∷ 51 ∷ 32 ∷ 52 ∷ 10 ∷ []) ++ repeated 256 (65 ∷ 32 ∷ 48 ∷ 10 ∷ [])) ≡ (33 ∷ 32 ∷ 52 ∷ 10 ∷ []) ++ (101 ∷ 110 ∷ 100 ∷ 32 ∷ 48 ∷ 10 ∷ [])
  -- 7: "now + k would pass 2^40"
  -- `F 8`, `G 3 4`, `R 1099511627777`, `R 1`
  pub past_the_end : listing_of ((70 ∷ 32 ∷ 56 ∷ 10 ∷ []) ++ (71 ∷ 32 ∷ 51 ∷ 32 ∷ 52 ∷ 10 ∷ []) ++ (82 ∷ 32 ∷ 49 ∷ 48 ∷ 57 ∷ 57 ∷ 53 ∷ 49 ∷ 49 ∷ 54 ∷ 50 ∷ 55 ∷ 55 ∷ 55 ∷ 55 ∷ 10 ∷ []) ++ (82 ∷ 32 ∷ 49 ∷ 10 ∷ [])) ≡ (33 ∷ 32 ∷ 55 ∷ 10 ∷ []) ++ (48 ∷ 32 ∷ 49 ∷ 32 ∷ 45 ∷ 32 ∷ 45 ∷ 10 ∷ []) ++ (101 ∷ 110 ∷ 100 ∷ 32 ∷ 49 ∷ 10 ∷ [])
  -- `F 8`, `G 3 4`, `R 1`, `R 1099511627776`
  pub past_the_end_later : listing_of ((70 ∷ 32 ∷ 56 ∷ 10 ∷ []) ++ (71 ∷ 32 ∷ 51 ∷ 32 ∷ 52 ∷ 10 ∷ []) ++ (82 ∷ 32 ∷ 49 ∷ 10 ∷ []) ++ (82 ∷ 32 ∷ 49 ∷ 48 ∷ 57 ∷ 57 ∷ 53 ∷ 49 ∷ 49 ∷ 54 ∷ 50 ∷ 55 ∷ 55 ∷ 55 ∷ 54 ∷ 10 ∷ [])) ≡ (48 ∷ 32 ∷ 49 ∷ 32 ∷ 45 ∷ 32 ∷ 45 ∷ 10 ∷ []) ++ (33 ∷ 32 ∷ 55 ∷ 10 ∷ []) ++ (101 ∷ 110 ∷ 100 ∷ 32 ∷ 49 ∷ 10 ∷ [])
  -- `F 8`, `G 3 4`, `R 9999999999999`
  pub largest_advance : listing_of ((70 ∷ 32 ∷ 56 ∷ 10 ∷ []) ++ (71 ∷ 32 ∷ 51 ∷ 32 ∷ 52 ∷ 10 ∷ []) ++ (82 ∷ 32 ∷ 57 ∷ 57 ∷ 57 ∷ 57 ∷ 57 ∷ 57 ∷ 57 ∷ 57 ∷ 57 ∷ 57 ∷ 57 ∷ 57 ∷ 57 ∷ 10 ∷ [])) ≡ (33 ∷ 32 ∷ 55 ∷ 10 ∷ []) ++ (101 ∷ 110 ∷ 100 ∷ 32 ∷ 48 ∷ 10 ∷ [])

-- "`R` prints one line per portion"
pub record PortionsHold : Type 0 where
  -- "A renewed budget is a new portion"
  -- `F 8`, `G 3 4`, `A 0`, `R 7`
  pub renewed : listing_of ((70 ∷ 32 ∷ 56 ∷ 10 ∷ []) ++ (71 ∷ 32 ∷ 51 ∷ 32 ∷ 52 ∷ 10 ∷ []) ++ (65 ∷ 32 ∷ 48 ∷ 10 ∷ []) ++ (82 ∷ 32 ∷ 55 ∷ 10 ∷ [])) ≡ (48 ∷ 32 ∷ 51 ∷ 32 ∷ 48 ∷ 32 ∷ 48 ∷ 111 ∷ 10 ∷ []) ++ (51 ∷ 32 ∷ 54 ∷ 32 ∷ 48 ∷ 32 ∷ 48 ∷ 111 ∷ 10 ∷ []) ++ (54 ∷ 32 ∷ 55 ∷ 32 ∷ 48 ∷ 32 ∷ 48 ∷ 111 ∷ 10 ∷ []) ++ (101 ∷ 110 ∷ 100 ∷ 32 ∷ 55 ∷ 10 ∷ [])
  -- "and so is each next spare, even of the same owner": run by its guest, and burned
  -- `F 8`, `G 3 4`, `A 0`, `D 0`, `A 0`, `D 0`, `A 0`, `R 7`
  pub next_spare : listing_of ((70 ∷ 32 ∷ 56 ∷ 10 ∷ []) ++ (71 ∷ 32 ∷ 51 ∷ 32 ∷ 52 ∷ 10 ∷ []) ++ (65 ∷ 32 ∷ 48 ∷ 10 ∷ []) ++ (68 ∷ 32 ∷ 48 ∷ 10 ∷ []) ++ (65 ∷ 32 ∷ 48 ∷ 10 ∷ []) ++ (68 ∷ 32 ∷ 48 ∷ 10 ∷ []) ++ (65 ∷ 32 ∷ 48 ∷ 10 ∷ []) ++ (82 ∷ 32 ∷ 55 ∷ 10 ∷ [])) ≡ (48 ∷ 32 ∷ 51 ∷ 32 ∷ 48 ∷ 32 ∷ 48 ∷ 115 ∷ 10 ∷ []) ++ (51 ∷ 32 ∷ 54 ∷ 32 ∷ 48 ∷ 32 ∷ 48 ∷ 115 ∷ 10 ∷ []) ++ (54 ∷ 32 ∷ 55 ∷ 32 ∷ 48 ∷ 32 ∷ 48 ∷ 111 ∷ 10 ∷ []) ++ (101 ∷ 110 ∷ 100 ∷ 32 ∷ 55 ∷ 10 ∷ [])
  -- `F 8`, `G 3 4`, `A 0`, `D 0`, `A 0`, `D 0`, `R 7`
  pub next_burned : listing_of ((70 ∷ 32 ∷ 56 ∷ 10 ∷ []) ++ (71 ∷ 32 ∷ 51 ∷ 32 ∷ 52 ∷ 10 ∷ []) ++ (65 ∷ 32 ∷ 48 ∷ 10 ∷ []) ++ (68 ∷ 32 ∷ 48 ∷ 10 ∷ []) ++ (65 ∷ 32 ∷ 48 ∷ 10 ∷ []) ++ (68 ∷ 32 ∷ 48 ∷ 10 ∷ []) ++ (82 ∷ 32 ∷ 55 ∷ 10 ∷ [])) ≡ (48 ∷ 32 ∷ 51 ∷ 32 ∷ 45 ∷ 32 ∷ 48 ∷ 115 ∷ 10 ∷ []) ++ (51 ∷ 32 ∷ 54 ∷ 32 ∷ 45 ∷ 32 ∷ 48 ∷ 115 ∷ 10 ∷ []) ++ (54 ∷ 32 ∷ 55 ∷ 32 ∷ 45 ∷ 32 ∷ 45 ∷ 10 ∷ []) ++ (101 ∷ 110 ∷ 100 ∷ 32 ∷ 55 ∷ 10 ∷ [])
  -- "Lines of two `R` commands are not joined"
  -- `F 8`, `G 3 4`, `A 0`, `R 1`, `R 1`
  pub not_joined : listing_of ((70 ∷ 32 ∷ 56 ∷ 10 ∷ []) ++ (71 ∷ 32 ∷ 51 ∷ 32 ∷ 52 ∷ 10 ∷ []) ++ (65 ∷ 32 ∷ 48 ∷ 10 ∷ []) ++ (82 ∷ 32 ∷ 49 ∷ 10 ∷ []) ++ (82 ∷ 32 ∷ 49 ∷ 10 ∷ [])) ≡ (48 ∷ 32 ∷ 49 ∷ 32 ∷ 48 ∷ 32 ∷ 48 ∷ 111 ∷ 10 ∷ []) ++ (49 ∷ 32 ∷ 50 ∷ 32 ∷ 48 ∷ 32 ∷ 48 ∷ 111 ∷ 10 ∷ []) ++ (101 ∷ 110 ∷ 100 ∷ 32 ∷ 50 ∷ 10 ∷ [])
  -- `F 8`, `G 3 4`, `R 1`, `R 1`
  pub idle_not_joined : listing_of ((70 ∷ 32 ∷ 56 ∷ 10 ∷ []) ++ (71 ∷ 32 ∷ 51 ∷ 32 ∷ 52 ∷ 10 ∷ []) ++ (82 ∷ 32 ∷ 49 ∷ 10 ∷ []) ++ (82 ∷ 32 ∷ 49 ∷ 10 ∷ [])) ≡ (48 ∷ 32 ∷ 49 ∷ 32 ∷ 45 ∷ 32 ∷ 45 ∷ 10 ∷ []) ++ (49 ∷ 32 ∷ 50 ∷ 32 ∷ 45 ∷ 32 ∷ 45 ∷ 10 ∷ []) ++ (101 ∷ 110 ∷ 100 ∷ 32 ∷ 50 ∷ 10 ∷ [])
  -- "an `R` of 0 prints none"
  -- `F 8`, `G 3 4`, `A 0`, `R 0`
  pub advance_nothing : listing_of ((70 ∷ 32 ∷ 56 ∷ 10 ∷ []) ++ (71 ∷ 32 ∷ 51 ∷ 32 ∷ 52 ∷ 10 ∷ []) ++ (65 ∷ 32 ∷ 48 ∷ 10 ∷ []) ++ (82 ∷ 32 ∷ 48 ∷ 10 ∷ [])) ≡ 101 ∷ 110 ∷ 100 ∷ 32 ∷ 48 ∷ 10 ∷ []
  -- idle ticks are one portion
  -- `F 8`, `G 3 4`, `R 100`
  pub idle_ticks : listing_of ((70 ∷ 32 ∷ 56 ∷ 10 ∷ []) ++ (71 ∷ 32 ∷ 51 ∷ 32 ∷ 52 ∷ 10 ∷ []) ++ (82 ∷ 32 ∷ 49 ∷ 48 ∷ 48 ∷ 10 ∷ [])) ≡ (48 ∷ 32 ∷ 49 ∷ 48 ∷ 48 ∷ 32 ∷ 45 ∷ 32 ∷ 45 ∷ 10 ∷ []) ++ (101 ∷ 110 ∷ 100 ∷ 32 ∷ 49 ∷ 48 ∷ 48 ∷ 10 ∷ [])

-- ---- the lines of the input, and how much of it is taken

-- each line with its line feed, and the last one without; the bytes beside the line feed end none
abbrev pub LinesSplit : Type 0
LinesSplit = lines_in (70 ∷ 9 ∷ 56 ∷ 10 ∷ 10 ∷ 65 ∷ 11 ∷ 10 ∷ 82 ∷ 49 ∷ []) ≡ (70 ∷ 9 ∷ 56 ∷ 10 ∷ []) ∷ (10 ∷ []) ∷ (65 ∷ 11 ∷ 10 ∷ []) ∷ (82 ∷ 49 ∷ []) ∷ []

-- "at most 65,536 bytes", "For too much input nothing else is printed"
pub record InputBound : Type 0 where
  pub taken : (input : List ℕ) → length input ≤ 65536 → listing_of input ≡ listed (asked input)
  pub refused : (input : List ℕ) → 65536 < length input → listing_of input ≡ 33 ∷ 32 ∷ 49 ∷ 54 ∷ 10 ∷ []
