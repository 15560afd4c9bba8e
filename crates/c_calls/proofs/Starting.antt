-- The state that is stored for an accepted table: the one of zeros, with that table in it.
use mathlib.Core.Path.{◌≡◌, refl}
use Prim.Native.Nat.{ℕ}
use Rattle.rules.specs.declared.Table.{Table}
use Rattle.rules.specs.declared.State.{State}
use Rattle.rules.specs.Places.{fresh_state, no_state}
use Rattle.rules.specs.Calls.{kept}

-- it is the table's fresh state
pub accepted : (t : Table) {s : State} {n : ℕ} → s ≡ no_state → n ≡ 0
    → kept n (fresh_state t) no_state ≡ record { table = t; now = s.now; guests = s.guests; listed = s.listed; spares = s.spares; burned = s.burned; empty = s.empty }
unfolding fresh_state no_state
accepted t zeros e = rw (e, zeros) refl
