-- What the public calls promise, for every session, every chunk and all buffers.
use Rattle.std.specs.Prelude.{Some, None, Result, Ok, Err}
use Rattle.terminal.specs.Going.{Session}
use Rattle.terminal.specs.declared.Ran.{Ran}
use Rattle.terminal.specs.declared.Short.{Short}
use Rattle.std.specs.Prelude.{◌≡◌, List, ℕ, ◌+◌, ◌≤◌, ℤ, length, take, drop}
use Rattle.frames.specs.Frames.{Event, fault_line}
use Rattle.frames.specs.Reader.{fresh}
use Rattle.terminal.specs.Terminal.{Lines}
use Rattle.limits.specs.Limits.{most_numbers, longest_line}
use Rattle.terminal.specs.Going.{goes, at_end}

abbrev pub opened : Session
opened = Some fresh

-- ---- what is written
-- the lines of some events stand at the front of the buffer, in so many bytes; the others keep their values
pub record Wrote (es : List Event) (before after : List ℕ) (len : ℕ) : Type 0 where
  pub lines : Lines es (take len after)
  pub fits : len ≤ length after
  pub kept : drop len after ≡ drop len before

-- what a chunk can write beyond its own length: a longest line, whose pair may have been read before, and EF
abbrev pub most_beyond : ℕ
most_beyond = longest_line + length fault_line

-- ---- `run`
-- enough is lent: every frame fits the buffers of the drawings, and all that the chunk can write fits the output's
pub record Lent (f g : List ℤ) (chunk out : List ℕ) : Type 0 where
  pub first_fits : most_numbers ≤ length f
  pub second_fits : most_numbers ≤ length g
  pub out_fits : length chunk + most_beyond ≤ length out

-- the session and the drawings' buffers after the chunk, and the lines of its events
pub record Done
    (s : Session) (f g : List ℤ) (chunk before : List ℕ) (f' g' : List ℤ) (after : List ℕ) (s' : Session)
    (len : ℕ) : Type 0 where
  pub lent : Lent f g chunk before
  pub session_is : s' ≡ (goes s f g chunk).session
  pub first_is : f' ≡ (goes s f g chunk).first
  pub second_is : g' ≡ (goes s f g chunk).second
  pub wrote : Wrote (goes s f g chunk).events before after len
  pub most : len ≤ length chunk + most_beyond

-- too little is lent, and nothing is touched
pub record TooLittle (f g : List ℤ) (chunk before : List ℕ) (f' g' : List ℤ) (after : List ℕ) : Type 0 where
  pub little : ¬ Lent f g chunk before
  pub first_kept : f' ≡ f
  pub second_kept : g' ≡ g
  pub out_kept : after ≡ before

abbrev pub Runs : Session → List ℤ → List ℤ → List ℕ → List ℕ → List ℤ → List ℤ → List ℕ → Result Ran Short → Type 0
Runs s f g chunk before f' g' after (Ok r) = Done s f g chunk before f' g' after r.session r.len
Runs s f g chunk before f' g' after (Err _) = TooLittle f g chunk before f' g' after

-- ---- `finish`
pub record Ended (s : Session) (before after : List ℕ) (s' : Session) (len : ℕ) : Type 0 where
  pub lent : length fault_line ≤ length before
  pub over : s' ≡ None
  pub wrote : Wrote (at_end s) before after len

abbrev pub Finishes : Session → List ℕ → List ℕ → Result Ran Short → Type 0
Finishes s before after (Ok r) = Ended s before after r.session r.len
Finishes s before after (Err _) = (¬ (length fault_line ≤ length before)) × (after ≡ before)
