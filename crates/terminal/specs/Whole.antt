-- However an input is cut into chunks, what the calls write, one after the other, is the output of the whole input.
use Rattle.std.specs.Prelude.{Ok}
use Rattle.terminal.specs.Going.{Session}
use Rattle.std.specs.Prelude.{◌≡◌, ℕ, ℤ, take}
use mathlib.Core.List.{List, [], ◌∷◌, ◌++◌, flatten, append_assoc}
use Rattle.frames.specs.Frames.{Event}
use Rattle.frames.specs.Reader.{from, ends_in_fault}
use Rattle.frames.specs.Whole.{from_start}
use Rattle.terminal.specs.Terminal.{Lines, Output}
use Rattle.terminal.specs.Going.{goes, events_from, events_after, chunk_events, end_events}
use Rattle.terminal.specs.Running.{opened, Runs, Finishes}

-- ---- a run: `open`, a call of `run` for each chunk in order, `finish`
-- one call of `run` that was not refused, with a buffer for its output, and what it wrote
pub record Called (s : Session) (f g : List ℤ) (chunk : List ℕ) (s' : Session) (f' g' : List ℤ)
    (written : List ℕ) : Type 0 where
  pub before : List ℕ
  pub after : List ℕ
  pub len : ℕ
  pub runs : Runs s f g chunk before f' g' after (Ok (record { session = s'; len = len }))
  pub is : written ≡ take len after

-- calls one after the other: each has the session and the drawings' buffers that the last one left
abbrev pub Through : Session → List ℤ → List ℤ → List (List ℕ) → Session → List ℕ → Type 0
Through s f g [] s' written = (s ≡ s') × (written ≡ [])
Through s f g (chunk ∷ more) s' written =
    (t : Session) × (f' : List ℤ) × (g' : List ℤ) × (front : List ℕ) × (back : List ℕ)
    × Called s f g chunk t f' g' front
    × Through t f' g' more s' back × (written ≡ front ++ back)

pub record Finished (s : Session) (written : List ℕ) : Type 0 where
  pub before : List ℕ
  pub after : List ℕ
  pub len : ℕ
  pub left : Session
  pub finishes : Finishes s before after (Ok (record { session = left; len = len }))
  pub is : written ≡ take len after

-- ---- the lines of events followed by events
pub lines_append : (es fs : List Event) (x y : List ℕ) → Lines es x → Lines fs y → Lines (es ++ fs) (x ++ y)
lines_append [] fs x y h k = rw h k
lines_append (e ∷ es) fs x y h k =
    (h.0, h.1 ++ y, h.2, lines_append es fs h.1 y h.3 k, rw h.4 (append_assoc h.0 h.1 y))

-- ---- the rest of the output, from any point of a run on
from_here : (chunks : List (List ℕ)) (s s' : Session) (f g : List ℤ) (x y : List ℕ) →
    Through s f g chunks s' x → Finished s' y →
    Lines (events_from s f g (flatten chunks)) (x ++ y)
unfolding flatten
from_here [] s s' f g x y (same, nothing) end =
    rw (nothing, same, end_events s' f g, end.is) end.finishes.wrote.lines
from_here (chunk ∷ more) s s' f g x y (t, f', g', front, back, call, rest, is) end =
    let d = call.runs in
    rw (is, append_assoc front back y, chunk_events (flatten more) s f g chunk, call.is)
    (lines_append (goes s f g chunk).events (events_after (goes s f g chunk) (flatten more))
    (take call.len call.after) (back ++ y) d.wrote.lines
    (rw (← d.session_is, ← d.first_is, ← d.second_is) (from_here more t s' f' g' back y rest end)))

pub whole_output : (chunks : List (List ℕ)) (s : Session) (f g : List ℤ) (x y : List ℕ) →
    Through opened f g chunks s x → Finished s y →
    Output (flatten chunks) (x ++ y)
unfolding flatten from ends_in_fault
whole_output [] s f g x y through end = from_here [] opened s f g x y through end
whole_output (chunk ∷ more) s f g x y through end =
    let lent = through.5.runs.lent in
    rw (from_start f g (flatten (chunk ∷ more)) lent.first_fits lent.second_fits) at
    (from_here (chunk ∷ more) opened s f g x y through end)
