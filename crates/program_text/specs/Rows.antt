-- Lines of input and of output, row by row: the bytes, and what 01 says of them. Every number here is written out.
use Rattle.std.specs.Prelude.{◌≡◌, true, false, List, [], ◌∷◌, ◌++◌, ℕ, replicate}
use Rattle.rules.specs.declared.Source.TheVariants.{Own, SpareOf}
use Rattle.rules.specs.declared.Use.{Use as DeclaredUse}
use Rattle.rules.specs.declared.Use.TheVariants.{Run, Burn, Nothing}
use Rattle.rules.specs.declared.Line.{Line as LinePlace}
use Rattle.program_text.specs.declared.Line.TheVariants.{Frame}
use Rattle.program_text.specs.Numbers.{no_number, got, number_at}
use Rattle.program_text.specs.Script.{Said, says, refuses, said_by, line_of, LineTold}
use Rattle.program_text.specs.Decimal.{decimal}
use Rattle.program_text.specs.Lines.{portion_bytes, refusal_bytes, end_bytes, RoomTold, LinePut}

-- ---- a line of input

-- what the line of these bytes says
abbrev pub said : List ℕ → Said
said bytes = said_by (line_of bytes)

-- a number and what follows it
pub record NumbersRead : Type 0 where
  -- "each after one space"
  pub at_the_end : number_at (32 ∷ 48 ∷ []) ≡ got 0 []
  pub before_another : number_at (32 ∷ 51 ∷ 50 ∷ 32 ∷ 52 ∷ 10 ∷ []) ≡ got 32 (32 ∷ 52 ∷ 10 ∷ [])
  pub nothing : number_at [] ≡ no_number

-- lines that 01 allows, and what they say
pub record LinesRead : Type 0 where
  -- "`F h`", "`G q t`", "`A i` (arrive), `D i` (done), `R k` (advance)": each letter with its numbers, in their order: `F 8`, `G 3 4`,
  -- `A 1`, `D 2`, `R 5`
  pub frame : said (70 ∷ 32 ∷ 56 ∷ 10 ∷ []) ≡ says 70 (8 ∷ [])
  pub guest : said (71 ∷ 32 ∷ 51 ∷ 32 ∷ 52 ∷ 10 ∷ []) ≡ says 71 (3 ∷ 4 ∷ [])
  pub arrive : said (65 ∷ 32 ∷ 49 ∷ 10 ∷ []) ≡ says 65 (1 ∷ [])
  pub done : said (68 ∷ 32 ∷ 50 ∷ 10 ∷ []) ≡ says 68 (2 ∷ [])
  pub advance : said (82 ∷ 32 ∷ 53 ∷ 10 ∷ []) ≡ says 82 (5 ∷ [])
  pub told : LineTold (70 ∷ 32 ∷ 56 ∷ 10 ∷ []) (Frame 8)
  -- "1 to 13 digits and no leading zero unless it is 0": `R 0`, `R 9`, `R 90`, `G 100 1000000`, `R 1234567890123`, `F 9999999999999`,
  -- `G 9999999999999 1000000000000`
  pub zero : said (82 ∷ 32 ∷ 48 ∷ 10 ∷ []) ≡ says 82 (0 ∷ [])
  pub nine : said (82 ∷ 32 ∷ 57 ∷ 10 ∷ []) ≡ says 82 (9 ∷ [])
  pub ninety : said (82 ∷ 32 ∷ 57 ∷ 48 ∷ 10 ∷ []) ≡ says 82 (90 ∷ [])
  pub zeros : said (71 ∷ 32 ∷ 49 ∷ 48 ∷ 48 ∷ 32 ∷ 49 ∷ 48 ∷ 48 ∷ 48 ∷ 48 ∷ 48 ∷ 48 ∷ 10 ∷ []) ≡ says 71 (100 ∷ 1000000 ∷ [])
  pub thirteen_digits : said (82 ∷ 32 ∷ 49 ∷ 50 ∷ 51 ∷ 52 ∷ 53 ∷ 54 ∷ 55 ∷ 56 ∷ 57 ∷ 48 ∷ 49 ∷ 50 ∷ 51 ∷ 10 ∷ []) ≡ says 82 (1234567890123 ∷ [])
  pub largest : said (70 ∷ 32 ∷ 57 ∷ 57 ∷ 57 ∷ 57 ∷ 57 ∷ 57 ∷ 57 ∷ 57 ∷ 57 ∷ 57 ∷ 57 ∷ 57 ∷ 57 ∷ 10 ∷ []) ≡ says 70 (9999999999999 ∷ [])
  pub largest_of_two : said (71 ∷ 32 ∷ 57 ∷ 57 ∷ 57 ∷ 57 ∷ 57 ∷ 57 ∷ 57 ∷ 57 ∷ 57 ∷ 57 ∷ 57 ∷ 57 ∷ 57 ∷ 32 ∷ 49 ∷ 48 ∷ 48 ∷ 48 ∷ 48 ∷ 48 ∷ 48 ∷ 48 ∷ 48 ∷ 48 ∷ 48 ∷ 48 ∷ 48 ∷ 10 ∷ []) ≡ says 71 (9999999999999 ∷ 1000000000000 ∷ [])

-- lines that it does not, "a line of program input is malformed": 16
pub record LinesRefused : Type 0 where
  -- "1 to 13 digits", and not none or 14: `R `, `G  4`, `R 12345678901234`, `G 12345678901234 4`, `G 3 12345678901234`
  pub no_digit : said (82 ∷ 32 ∷ 10 ∷ []) ≡ refuses 16
  pub no_digit_first : said (71 ∷ 32 ∷ 32 ∷ 52 ∷ 10 ∷ []) ≡ refuses 16
  pub fourteen_digits : said (82 ∷ 32 ∷ 49 ∷ 50 ∷ 51 ∷ 52 ∷ 53 ∷ 54 ∷ 55 ∷ 56 ∷ 57 ∷ 48 ∷ 49 ∷ 50 ∷ 51 ∷ 52 ∷ 10 ∷ []) ≡ refuses 16
  pub fourteen_first : said (71 ∷ 32 ∷ 49 ∷ 50 ∷ 51 ∷ 52 ∷ 53 ∷ 54 ∷ 55 ∷ 56 ∷ 57 ∷ 48 ∷ 49 ∷ 50 ∷ 51 ∷ 52 ∷ 32 ∷ 52 ∷ 10 ∷ []) ≡ refuses 16
  pub fourteen_second : said (71 ∷ 32 ∷ 51 ∷ 32 ∷ 49 ∷ 50 ∷ 51 ∷ 52 ∷ 53 ∷ 54 ∷ 55 ∷ 56 ∷ 57 ∷ 48 ∷ 49 ∷ 50 ∷ 51 ∷ 52 ∷ 10 ∷ []) ≡ refuses 16
  -- "no leading zero unless it is 0": `R 00`, `R 08`, `G 03 4`, `G 3 04`
  pub two_zeros : said (82 ∷ 32 ∷ 48 ∷ 48 ∷ 10 ∷ []) ≡ refuses 16
  pub leading_zero : said (82 ∷ 32 ∷ 48 ∷ 56 ∷ 10 ∷ []) ≡ refuses 16
  pub leading_first : said (71 ∷ 32 ∷ 48 ∷ 51 ∷ 32 ∷ 52 ∷ 10 ∷ []) ≡ refuses 16
  pub leading_second : said (71 ∷ 32 ∷ 51 ∷ 32 ∷ 48 ∷ 52 ∷ 10 ∷ []) ≡ refuses 16
  -- digits alone, and not the bytes beside `0` to `9`, or a sign: `R /`, `R :`, `R 1/`, `R 1:`, `R 1/2`, `R -1`, `R +1`
  pub below_zero : said (82 ∷ 32 ∷ 47 ∷ 10 ∷ []) ≡ refuses 16
  pub above_nine : said (82 ∷ 32 ∷ 58 ∷ 10 ∷ []) ≡ refuses 16
  pub below_zero_behind : said (82 ∷ 32 ∷ 49 ∷ 47 ∷ 10 ∷ []) ≡ refuses 16
  pub above_nine_behind : said (82 ∷ 32 ∷ 49 ∷ 58 ∷ 10 ∷ []) ≡ refuses 16
  pub below_zero_between : said (82 ∷ 32 ∷ 49 ∷ 47 ∷ 50 ∷ 10 ∷ []) ≡ refuses 16
  pub minus : said (82 ∷ 32 ∷ 45 ∷ 49 ∷ 10 ∷ []) ≡ refuses 16
  pub plus : said (82 ∷ 32 ∷ 43 ∷ 49 ∷ 10 ∷ []) ≡ refuses 16
  -- "A wrong letter", a small one, a byte beside a letter, none, and an empty line: `f 8`, `g 3 4`, `a 1`, `d 2`, `r 5`, `@ 8`, `B 8`,
  -- `C 8`, `E 8`, `H 8`, `Q 8`, `S 8`, `H 3 4`, ` 8`, `8`
  pub small_frame : said (102 ∷ 32 ∷ 56 ∷ 10 ∷ []) ≡ refuses 16
  pub small_guest : said (103 ∷ 32 ∷ 51 ∷ 32 ∷ 52 ∷ 10 ∷ []) ≡ refuses 16
  pub small_arrive : said (97 ∷ 32 ∷ 49 ∷ 10 ∷ []) ≡ refuses 16
  pub small_done : said (100 ∷ 32 ∷ 50 ∷ 10 ∷ []) ≡ refuses 16
  pub small_advance : said (114 ∷ 32 ∷ 53 ∷ 10 ∷ []) ≡ refuses 16
  pub at : said (64 ∷ 32 ∷ 56 ∷ 10 ∷ []) ≡ refuses 16
  pub letter_b : said (66 ∷ 32 ∷ 56 ∷ 10 ∷ []) ≡ refuses 16
  pub letter_c : said (67 ∷ 32 ∷ 56 ∷ 10 ∷ []) ≡ refuses 16
  pub letter_e : said (69 ∷ 32 ∷ 56 ∷ 10 ∷ []) ≡ refuses 16
  pub letter_h : said (72 ∷ 32 ∷ 56 ∷ 10 ∷ []) ≡ refuses 16
  pub letter_q : said (81 ∷ 32 ∷ 56 ∷ 10 ∷ []) ≡ refuses 16
  pub letter_s : said (83 ∷ 32 ∷ 56 ∷ 10 ∷ []) ≡ refuses 16
  pub letter_h_two : said (72 ∷ 32 ∷ 51 ∷ 32 ∷ 52 ∷ 10 ∷ []) ≡ refuses 16
  pub no_letter : said (32 ∷ 56 ∷ 10 ∷ []) ≡ refuses 16
  pub number_first : said (56 ∷ 10 ∷ []) ≡ refuses 16
  pub empty_line : said (10 ∷ []) ≡ refuses 16
  pub nothing : said [] ≡ refuses 16
  -- "A wrong .. count", a number too few or too many: `F`, `G`, `A`, `D`, `R`, `G 3`, `F 8 8`, `G 3 4 5`, `A 1 1`, `D 1 1`, `R 1 1`
  pub frame_alone : said (70 ∷ 10 ∷ []) ≡ refuses 16
  pub guest_alone : said (71 ∷ 10 ∷ []) ≡ refuses 16
  pub arrive_alone : said (65 ∷ 10 ∷ []) ≡ refuses 16
  pub done_alone : said (68 ∷ 10 ∷ []) ≡ refuses 16
  pub advance_alone : said (82 ∷ 10 ∷ []) ≡ refuses 16
  pub guest_one : said (71 ∷ 32 ∷ 51 ∷ 10 ∷ []) ≡ refuses 16
  pub frame_two : said (70 ∷ 32 ∷ 56 ∷ 32 ∷ 56 ∷ 10 ∷ []) ≡ refuses 16
  pub guest_three : said (71 ∷ 32 ∷ 51 ∷ 32 ∷ 52 ∷ 32 ∷ 53 ∷ 10 ∷ []) ≡ refuses 16
  pub arrive_two : said (65 ∷ 32 ∷ 49 ∷ 32 ∷ 49 ∷ 10 ∷ []) ≡ refuses 16
  pub done_two : said (68 ∷ 32 ∷ 49 ∷ 32 ∷ 49 ∷ 10 ∷ []) ≡ refuses 16
  pub advance_two : said (82 ∷ 32 ∷ 49 ∷ 32 ∷ 49 ∷ 10 ∷ []) ≡ refuses 16
  -- "each after one space", and not none, two, one behind, another byte (tab, the bytes 31 and 33): `F8`, `F  8`, `G 3  4`, `G 3,4`, `F 8 `,
  -- `F!8`
  pub no_space : said (70 ∷ 56 ∷ 10 ∷ []) ≡ refuses 16
  pub two_spaces : said (70 ∷ 32 ∷ 32 ∷ 56 ∷ 10 ∷ []) ≡ refuses 16
  pub two_spaces_between : said (71 ∷ 32 ∷ 51 ∷ 32 ∷ 32 ∷ 52 ∷ 10 ∷ []) ≡ refuses 16
  pub no_space_between : said (71 ∷ 32 ∷ 51 ∷ 44 ∷ 52 ∷ 10 ∷ []) ≡ refuses 16
  pub space_behind : said (70 ∷ 32 ∷ 56 ∷ 32 ∷ 10 ∷ []) ≡ refuses 16
  pub tab : said (70 ∷ 9 ∷ 56 ∷ 10 ∷ []) ≡ refuses 16
  pub below_space : said (70 ∷ 31 ∷ 56 ∷ 10 ∷ []) ≡ refuses 16
  pub above_space : said (70 ∷ 33 ∷ 56 ∷ 10 ∷ []) ≡ refuses 16
  -- "then a line feed": `F 8` and `G 3 4` with none, with the bytes 9, 11 or 13 and 10, with something behind it
  pub no_line_feed : said (70 ∷ 32 ∷ 56 ∷ []) ≡ refuses 16
  pub guest_no_line_feed : said (71 ∷ 32 ∷ 51 ∷ 32 ∷ 52 ∷ []) ≡ refuses 16
  pub below_line_feed : said (70 ∷ 32 ∷ 56 ∷ 9 ∷ []) ≡ refuses 16
  pub above_line_feed : said (70 ∷ 32 ∷ 56 ∷ 11 ∷ []) ≡ refuses 16
  pub return : said (70 ∷ 32 ∷ 56 ∷ 13 ∷ 10 ∷ []) ≡ refuses 16
  pub behind_line_feed : said (70 ∷ 32 ∷ 56 ∷ 10 ∷ 88 ∷ []) ≡ refuses 16
  pub two_line_feeds : said (70 ∷ 32 ∷ 56 ∷ 10 ∷ 10 ∷ []) ≡ refuses 16
  pub guest_behind_line_feed : said (71 ∷ 32 ∷ 51 ∷ 32 ∷ 52 ∷ 10 ∷ 10 ∷ []) ≡ refuses 16

-- ---- a line of output

abbrev pub shown : ℕ → ℕ → DeclaredUse → LinePlace
shown first end used = record { first = first; end = end; used = used }

-- numbers in decimal
pub record NumbersWritten : Type 0 where
  pub zero : decimal 0 ≡ 48 ∷ []
  pub one : decimal 1 ≡ 49 ∷ []
  pub nine : decimal 9 ≡ 57 ∷ []
  pub ten : decimal 10 ≡ 49 ∷ 48 ∷ []
  pub ninety_nine : decimal 99 ≡ 57 ∷ 57 ∷ []
  pub hundred : decimal 100 ≡ 49 ∷ 48 ∷ 48 ∷ []
  pub last_tick : decimal 1099511627776 ≡ 49 ∷ 48 ∷ 57 ∷ 57 ∷ 53 ∷ 49 ∷ 49 ∷ 54 ∷ 50 ∷ 55 ∷ 55 ∷ 55 ∷ 54 ∷ []
  pub largest : decimal 18446744073709551615 ≡ 49 ∷ 56 ∷ 52 ∷ 52 ∷ 54 ∷ 55 ∷ 52 ∷ 52 ∷ 48 ∷ 55 ∷ 51 ∷ 55 ∷ 48 ∷ 57 ∷ 53 ∷ 53 ∷ 49 ∷ 54 ∷ 49 ∷ 53 ∷ []

-- the lines of the listing
pub record LinesWritten : Type 0 where
  -- "first tick, end tick, guest or `-`, and the owner followed by `o` (own) or `s` (spare), or `-`": `0 2 0 0o`, `99 100 15 15o`,
  -- `2 3 1 0s`, `10 11 9 12s`, `8 11 - 0s`, `11 13 - -`
  pub own : portion_bytes (shown 0 2 (Run 0 Own)) ≡ 48 ∷ 32 ∷ 50 ∷ 32 ∷ 48 ∷ 32 ∷ 48 ∷ 111 ∷ 10 ∷ []
  pub own_other : portion_bytes (shown 99 100 (Run 15 Own)) ≡ 57 ∷ 57 ∷ 32 ∷ 49 ∷ 48 ∷ 48 ∷ 32 ∷ 49 ∷ 53 ∷ 32 ∷ 49 ∷ 53 ∷ 111 ∷ 10 ∷ []
  pub spare : portion_bytes (shown 2 3 (Run 1 (SpareOf 0))) ≡ 50 ∷ 32 ∷ 51 ∷ 32 ∷ 49 ∷ 32 ∷ 48 ∷ 115 ∷ 10 ∷ []
  pub spare_other : portion_bytes (shown 10 11 (Run 9 (SpareOf 12))) ≡ 49 ∷ 48 ∷ 32 ∷ 49 ∷ 49 ∷ 32 ∷ 57 ∷ 32 ∷ 49 ∷ 50 ∷ 115 ∷ 10 ∷ []
  pub burned : portion_bytes (shown 8 11 (Burn 0)) ≡ 56 ∷ 32 ∷ 49 ∷ 49 ∷ 32 ∷ 45 ∷ 32 ∷ 48 ∷ 115 ∷ 10 ∷ []
  pub idle : portion_bytes (shown 11 13 Nothing) ≡ 49 ∷ 49 ∷ 32 ∷ 49 ∷ 51 ∷ 32 ∷ 45 ∷ 32 ∷ 45 ∷ 10 ∷ []
  -- "print `! number`": `! 1`, `! 9`, `! 10`, `! 16`
  pub refusal1 : refusal_bytes 1 ≡ 33 ∷ 32 ∷ 49 ∷ 10 ∷ []
  pub refusal9 : refusal_bytes 9 ≡ 33 ∷ 32 ∷ 57 ∷ 10 ∷ []
  pub refusal10 : refusal_bytes 10 ≡ 33 ∷ 32 ∷ 49 ∷ 48 ∷ 10 ∷ []
  pub refusal16 : refusal_bytes 16 ≡ 33 ∷ 32 ∷ 49 ∷ 54 ∷ 10 ∷ []
  -- "The last line is `end` and the tick.": `end 0`, `end 13`, `end 1099511627776`
  pub end_at_first : end_bytes 0 ≡ 101 ∷ 110 ∷ 100 ∷ 32 ∷ 48 ∷ 10 ∷ []
  pub end_later : end_bytes 13 ≡ 101 ∷ 110 ∷ 100 ∷ 32 ∷ 49 ∷ 51 ∷ 10 ∷ []
  pub end_of_time : end_bytes 1099511627776 ≡ 101 ∷ 110 ∷ 100 ∷ 32 ∷ 49 ∷ 48 ∷ 57 ∷ 57 ∷ 53 ∷ 49 ∷ 49 ∷ 54 ∷ 50 ∷ 55 ∷ 55 ∷ 55 ∷ 54 ∷ 10 ∷ []

-- a line in a lent buffer: what the buffer holds, all of it, and how many bytes of it count
pub record LinesPut : Type 0 where
  -- as many bytes as the longest line takes have room, and one byte less has not
  pub room : RoomTold 85 0 85 true
  pub no_room : RoomTold 84 0 85 false
  pub room_behind : RoomTold 88 3 85 true
  pub no_room_behind : RoomTold 87 3 85 false
  -- `end 0` behind a hundred bytes: what stands in front of it and behind it stays
  pub between : LinePut (end_bytes 0) (replicate 185 7) 100 (replicate 100 7 ++ (101 ∷ 110 ∷ 100 ∷ 32 ∷ 48 ∷ 10 ∷ []) ++ replicate 79 7) 106
  -- the longest line takes the whole buffer
  pub whole : LinePut (portion_bytes (shown 18446744073709551615 18446744073709551615 (Run 18446744073709551615 (SpareOf 18446744073709551615)))) (replicate 85 7) 0 (49 ∷ 56 ∷ 52 ∷ 52 ∷ 54 ∷ 55 ∷ 52 ∷ 52 ∷ 48 ∷ 55 ∷ 51 ∷ 55 ∷ 48 ∷ 57 ∷ 53 ∷ 53 ∷ 49 ∷ 54 ∷ 49 ∷ 53 ∷ 32 ∷ 49 ∷ 56 ∷ 52 ∷ 52 ∷ 54 ∷ 55 ∷ 52 ∷ 52 ∷ 48 ∷ 55 ∷ 51 ∷ 55 ∷ 48 ∷ 57 ∷ 53 ∷ 53 ∷ 49 ∷ 54 ∷ 49 ∷ 53 ∷ 32 ∷ 49 ∷ 56 ∷ 52 ∷ 52 ∷ 54 ∷ 55 ∷ 52 ∷ 52 ∷ 48 ∷ 55 ∷ 51 ∷ 55 ∷ 48 ∷ 57 ∷ 53 ∷ 53 ∷ 49 ∷ 54 ∷ 49 ∷ 53 ∷ 32 ∷ 49 ∷ 56 ∷ 52 ∷ 52 ∷ 54 ∷ 55 ∷ 52 ∷ 52 ∷ 48 ∷ 55 ∷ 51 ∷ 55 ∷ 48 ∷ 57 ∷ 53 ∷ 53 ∷ 49 ∷ 54 ∷ 49 ∷ 53 ∷ 115 ∷ 10 ∷ []) 85
  -- in a buffer that is one byte shorter even a short line has no room
  pub kept : LinePut (end_bytes 0) (replicate 84 7) 0 (replicate 84 7) 0
  pub kept_behind : LinePut (end_bytes 0) (replicate 86 7) 2 (replicate 86 7) 2
