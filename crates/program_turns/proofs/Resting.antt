-- What is still to be put out, from what is held: each turn puts out the front of it.
use mathlib.Core.Path.{◌≡◌, refl, sym, ap, ◌∙◌, subst}
use mathlib.Core.Bool.{true, cond}
use mathlib.Core.List.{List, [], ◌∷◌, ◌++◌, map, append-nil, append_assoc}
use Prim.Native.Nat.{ℕ, zero, suc, ◌≤◌}
use native.Mathlib.Omega.{arith}
use lib.Dec.{leb, ltb}
use lib.ListN.{length, drop}
use Rattle.laws.proofs.Cases.{by_test, by_leb, by_ltb}
use Rattle.rules.specs.declared.State.{State}
use Rattle.rules.specs.Refusals.{first}
use Rattle.rules.specs.Table.{table_rows}
use Rattle.rules.specs.Places.{fresh_state}
use Rattle.rules.specs.Sound.{sound}
use Rattle.rules.specs.Calls.{Call, arrives, finishes, advances, advance_rows, told, number_given, state_after}
use Rattle.rules.specs.Lines.{Line as PortionLine, lines, lines_of}
use Rattle.rules.specs.Walks.{line_place, walk_lines, walk_state, walk_left}
use Rattle.promises.proofs.Calling.{MayAdvance, may_advance, may_stay, advance_allowed, advance_nothing, sound-kept}
use Rattle.promises.proofs.Starting.{fresh_is_sound}
use Rattle.promises.proofs.Walks.{walk_on, walk_joins, walk_reaches}
use Rattle.program_text.specs.declared.Call.{Call as LineCall}
use Rattle.program_text.specs.declared.Call.TheVariants.{Arrive, Done, Advance}
use Rattle.program_text.specs.declared.Line.{Line}
use Rattle.program_text.specs.Script.{malformed}
use Rattle.program_text.specs.Lines.{refusal_bytes, end_bytes}
use Rattle.program_listing.specs.declared.Stage.{Stage}
use Rattle.program_listing.specs.declared.Stage.TheVariants.{Frames, Guests, Commands, Over}
use Rattle.program_listing.specs.declared.Held.{Held}
use Rattle.program_listing.specs.Listing.{asked, frame_in, guest_in, command_in, call_of, refusal_in, portions_bytes, printed, commands, checked_by, checked, guests, listed, most_input}
use Rattle.program_listing.specs.Turning.{line_at, behind, Turn, put_of, held_of, stops, ends, frame_line, checks, guest_line, calls, walks, carries_out, command_line, turn_in, turn_of}
use Rattle.program_turns.proofs.Giving.{by_both}
use Rattle.program_turns.proofs.Inputs.{asked_end, asked-cons, line_end}

-- ---- portions

portions_append : (a b : List PortionLine) → portions_bytes (map line_place (a ++ b)) ≡ portions_bytes (map line_place a) ++ portions_bytes (map line_place b)
portions_append [] b = refl
portions_append (l ∷ ls) b = rw (portions_append ls b, append_assoc)

-- an advance by nothing has none
lines_nothing : (s : State) → lines_of (advances 0) s ≡ []
unfolding lines_of
lines_nothing s = go (first (advance_rows s 0))
  where
    go : (n : ℕ) → told n (lines 0 0) [] s ≡ []
    go zero = refl
    go (suc n) = refl

-- ---- what is still to be put out

-- the portions that an `R` has left, and then the lines behind it
abbrev pub owed : State → ℕ → List Line → List ℕ
owed s left ls = portions_bytes (map line_place (lines_of (advances left) s)) ++ commands (state_after (advances left) s) ls

-- with nothing left, the lines alone
pub owed_nothing : (s : State) (ls : List Line) → owed s 0 ls ≡ commands s ls
owed_nothing s ls = rw (lines_nothing s, advance_nothing s)

abbrev rest_in : Stage → List ℕ → Held → List ℕ
rest_in Frames input h = cond (ltb most_input (length input)) (refusal_bytes malformed) (listed (asked (drop h.at input)))
rest_in Guests input h = guests h.table (asked (drop h.at input))
rest_in Commands input h = owed h.state h.left (asked (drop h.at input))
rest_in Over input h = []

abbrev pub rest : List ℕ → Held → List ℕ
rest input h = rest_in h.stage input h

-- ticks that are left may be walked
abbrev FitIn : Stage → Held → Type 0
FitIn Frames h = Unit {0}
FitIn Guests h = Unit {0}
FitIn Commands h = MayAdvance h.state h.left
FitIn Over h = Unit {0}

abbrev pub Fit : Held → Type 0
Fit h = FitIn h.stage h

-- ---- one turn

-- of what is to be put out a turn puts the front, and what it holds next has the rest
pub record Puts (input whole : List ℕ) (s : Turn) : Type 0 where
  pub put : whole ≡ put_of s ++ rest input (held_of s)
  pub fit : Fit (held_of s)

-- a refused advance walks nothing
module _ (s : State) (k n : ℕ) (e : first (advance_rows s k) ≡ suc n) where
  refused-lines : (lines_of (advances k) s ≡ []) × (walk_lines k s ≡ [])
  unfolding lines_of walk_lines
  refused-lines = (rw e, rw e)

  refused_state : (state_after (advances k) s ≡ s) × (walk_state k s ≡ s)
  unfolding state_after walk_state
  refused_state = (rw e, rw e)

  refused-left : walk_left k s ≡ 0
  unfolding walk_left
  refused-left = rw e

module _ (s : State) (k : ℕ) (ls : List Line) where
  -- the portions of a walk, and then those of what it left
  walk_put : (n : ℕ) → first (advance_rows s k) ≡ n
      → printed (advances k) s ++ commands (state_after (advances k) s) ls
      ≡ refusal_in (number_given (advances k) s) ++ portions_bytes (map line_place (walk_lines k s)) ++ owed (walk_state k s) (walk_left k s) ls
  unfolding printed
  walk_put zero e =
      let a = may_advance s k e in
      rw (e, walk_joins s k a, walk_reaches s k a, portions_append)
      (append_assoc (portions_bytes (map line_place (walk_lines k s))) (portions_bytes (map line_place (lines_of (advances (walk_left k s)) (walk_state k s)))) (commands (state_after (advances (walk_left k s)) (walk_state k s)) ls))
  walk_put (suc n) e =
      rw ((refused-lines s k n e).0, (refused-lines s k n e).1, (refused_state s k n e).0, (refused_state s k n e).1, refused-left s k n e, owed_nothing s ls) refl

-- an advance that is not refused prints its portions alone
printed_owed : (s : State) (k : ℕ) (ls : List Line) → MayAdvance s k → printed (advances k) s ++ commands (state_after (advances k) s) ls ≡ owed s k ls
unfolding printed
printed_owed s k ls a = rw (advance_allowed s k a) refl

-- and what it left may be walked
walk_fits : (s : State) → sound s ≡ true → (k n : ℕ) → first (advance_rows s k) ≡ n → MayAdvance (walk_state k s) (walk_left k s)
walk_fits s h k zero e = walk_on s k (may_advance s k e)
walk_fits s h k (suc n) e = rw ((refused_state s k n e).1, refused-left s k n e) (may_stay s h)

module _ (input : List ℕ) (h : Held) where
  stop_puts : (n : ℕ) → Puts input (refusal_bytes n) (stops n h)
  stop_puts n = record { put = sym (append-nil (refusal_bytes n)); fit = tt }

  end_puts : Puts input (commands h.state []) (ends h)
  unfolding commands
  end_puts = record { put = sym (append-nil (end_bytes h.state.now)); fit = tt }

  -- ---- the table

  frame_puts : (end : ℕ) (l : Line) → Puts input (listed (l ∷ asked (drop end input))) (frame_line l end h)
  unfolding listed
  frame_puts end l = by_both (Puts input) (frame_in l) (λ f. record { put = refl; fit = tt }) (stop_puts malformed)

  check_puts : Puts input (checked h.table (asked (drop h.at input))) (checks (first (table_rows h.table)) h)
  unfolding checked
  check_puts = go (first (table_rows h.table)) refl
    where
      go : (n : ℕ) → first (table_rows h.table) ≡ n → Puts input (checked_by n h.table (asked (drop h.at input))) (checks n h)
      go zero e =
          record { put = sym (owed_nothing (fresh_state h.table) (asked (drop h.at input))); fit = may_stay (fresh_state h.table) (fresh_is_sound h.table e) }
      go (suc n) e = stop_puts (suc n)

  module _ (ls : List Line) (e : asked (drop h.at input) ≡ ls) where
    check_here : Puts input (checked h.table ls) (checks (first (table_rows h.table)) h)
    check_here = subst (λ (x : List Line). Puts input (checked h.table x) (checks (first (table_rows h.table)) h)) e check_puts

  guest_puts : (end : ℕ) (l : Line) → asked (drop h.at input) ≡ l ∷ asked (drop end input) → Puts input (guests h.table (l ∷ asked (drop end input))) (guest_line l end h)
  unfolding guests
  guest_puts end l e = by_both (Puts input) (guest_in l) (λ guest. record { put = refl; fit = tt }) (check_here _ e)

  -- ---- the commands

  module _ (whole : sound h.state ≡ true) (end : ℕ) where
    -- an arrival or a completion has no portions
    call_puts : (c : Call) → lines_of c h.state ≡ []
        → Puts input (printed c h.state ++ commands (state_after c h.state) (asked (drop end input))) (calls c end h)
    unfolding printed
    call_puts c e =
        record {
          put = rw (e, append-nil, owed_nothing (state_after c h.state) (asked (drop end input))) refl;
          fit = may_stay (state_after c h.state) (sound-kept c h.state whole);
        }

    walk_puts : (k : ℕ) → Puts input (printed (advances k) h.state ++ commands (state_after (advances k) h.state) (asked (drop end input))) (walks k end h)
    walk_puts k =
        let n = first (advance_rows h.state k) in
        record { put = walk_put h.state k (asked (drop end input)) n refl; fit = walk_fits h.state whole k n refl }

    carried_puts : (c : LineCall) → Puts input (printed (call_of c) h.state ++ commands (state_after (call_of c) h.state) (asked (drop end input))) (carries_out c end h)
    unfolding lines_of
    carried_puts (Arrive i) = call_puts (arrives i) refl
    carried_puts (Done i) = call_puts (finishes i) refl
    carried_puts (Advance k) = walk_puts k

    command_puts : (l : Line) → Puts input (commands h.state (l ∷ asked (drop end input))) (command_line l end h)
    unfolding commands
    command_puts l = by_both (Puts input) (command_in l) carried_puts (stop_puts malformed)

  -- ---- every stage

  ended : length input ≤ h.at → asked (drop h.at input) ≡ []
  ended = asked_end input h.at

  frames_put : Puts input (rest_in Frames input h) (turn_in Frames input h)
  unfolding listed
  frames_put =
      by_test
      (λ t. Puts input (cond t (refusal_bytes malformed) (listed (asked (drop h.at input)))) (cond t (stops malformed h) (frame_line (line_at input h.at) (behind input h.at) h)))
      (ltb most_input (length input))
      (λ _. stop_puts malformed)
      (λ _.
      by_leb (λ _. Puts input (listed (asked (drop h.at input))) (frame_line (line_at input h.at) (behind input h.at) h)) (length input) h.at
      (λ k. rw (ended k, line_end input h.at k) (stop_puts malformed))
      (λ k. rw (asked-cons input h.at k) (frame_puts (behind input h.at) (line_at input h.at))))

  guests_put : Puts input (rest_in Guests input h) (turn_in Guests input h)
  unfolding guests
  guests_put =
      by_leb (λ _. Puts input (guests h.table (asked (drop h.at input))) (guest_line (line_at input h.at) (behind input h.at) h)) (length input) h.at
      (λ k. rw (ended k, line_end input h.at k) (check_here [] (ended k)))
      (λ k.
      let cons = asked-cons input h.at k in
      subst (λ (x : List Line). Puts input (guests h.table x) (guest_line (line_at input h.at) (behind input h.at) h)) (sym cons)
      (guest_puts (behind input h.at) (line_at input h.at) cons))

  commands_put : MayAdvance h.state h.left → Puts input (rest_in Commands input h) (turn_in Commands input h)
  commands_put a =
      let s = h.state in
      let ls = asked (drop h.at input) in
      let line = command_line (line_at input h.at) (behind input h.at) h in
      let last = cond (leb (length input) h.at) (ends h) line in
      by_ltb (λ t. Puts input (owed s h.left ls) (cond t (walks h.left h.at h) last)) 0 h.left
      (λ k. subst (λ (x : List ℕ). Puts input x (walks h.left h.at h)) (printed_owed s h.left ls a) (walk_puts a.whole h.at h.left))
      (λ k.
      let none : owed s h.left ls ≡ commands s ls = ap (λ (left : ℕ). owed s left ls) (omega arith) ∙ owed_nothing s ls in
      rw none
      (by_leb (λ t. Puts input (commands s ls) (cond t (ends h) line)) (length input) h.at
      (λ e. rw (ended e) end_puts)
      (λ e. rw (asked-cons input h.at e) (command_puts a.whole (behind input h.at) (line_at input h.at)))))

  puts_in : (stage : Stage) → h.stage ≡ stage → FitIn stage h → Puts input (rest_in stage input h) (turn_in stage input h)
  puts_in Frames e f = frames_put
  puts_in Guests e f = guests_put
  puts_in Commands e f = commands_put f
  puts_in Over e f = record { put = rw e refl; fit = rw e tt }

pub turn_puts : (input : List ℕ) (h : Held) → Fit h → Puts input (rest input h) (turn_of input h)
unfolding turn_of
turn_puts input h f = puts_in input h h.stage refl f
