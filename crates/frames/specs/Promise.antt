-- What `feed` promises of a part of an input: `chunk` from byte i on. f and g are the buffers of the first and the
-- second drawing before the call, f' and g' after it, and x is the result.
use Rattle.frames.specs.Reader.{FeedGives}
use Rattle.std.specs.Prelude.{Result, Ok, Err}
use Rattle.frames.specs.declared.Fault.{Fault}
use Rattle.std.specs.Prelude.{◌≡◌, ℕ, List, [], ◌∷◌, ◌++◌, take, drop, ℤ}
use Rattle.frames.specs.Frames.{Event, pair, fault}
use Rattle.frames.specs.Reader.{fresh, feeds, from}
use Rattle.frames.specs.declared.Reader.{Reader}
use Rattle.frames.specs.declared.Fed.{Fed}
use Rattle.frames.specs.declared.Fed.TheVariants as fed

-- what a report says of the input, of which `chunk` was a part and which goes on with `more`: the part is read, and
-- the rest is told from the new reader; or a pair stands at the front of the buffers, and the rest, from `next` on, is
-- told from a fresh reader; or a fault
abbrev pub says : FeedGives → List ℕ → List ℕ → List Event
says (Ok (fed.More r), f, g) chunk more = from r f g more
says (Ok (fed.Pair n m next), f, g) chunk more = pair (take n f) (take m g) ∷ from fresh f g (drop next chunk ++ more)
says (Err _, f, g) chunk more = fault ∷ []

-- `means` is the meaning; `exact` leaves no second result and no second buffer, for any reader and any buffers
pub record Feeding (reader : Reader) (chunk : List ℕ) (i : ℕ) (f g : List ℤ)
    (x : Result Fed Fault) (f' g' : List ℤ) : Type 0 where
  pub exact : ◌≡◌ {A = FeedGives} (x, f', g') (feeds reader f g i (drop i chunk))
  pub means : (more : List ℕ) → from reader f g (drop i chunk ++ more) ≡ says (x, f', g') chunk more
