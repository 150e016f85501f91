-- What a reader holds of a line after the characters `pre`, and what the next character may do to it.
use Rattle.frames.specs.Reader.{ReadGives}
use Rattle.std.specs.Prelude.{Ok, Err}
use Rattle.std.specs.Prelude.{◌≡◌, ℕ, ◌*◌, ◌<◌, ◌≤◌, ◌⊎◌, List, [], ◌∷◌, ◌++◌, length, take, ℤ, ◌≢◌, refl}
use Rattle.std.proofs.Math.Option.{none, some}
use Rattle.std.proofs.Common.{arith}
use Rattle.limits.specs.Limits.{most_corners}
use Rattle.frames.specs.Frames.{line_feed, bytes, numbers, frame}
use Rattle.frames.specs.Reader.{nothing_read}
use Rattle.frames.specs.Digits.{Digits, value_on}
use Rattle.frames.specs.declared.Line.{Line}
use Rattle.frames.specs.declared.Line.TheVariants as line
use Rattle.frames.specs.declared.frame.After.TheVariants as after

-- the digits of what is being read: k of them, whose value is v
pub record Part (k v : ℕ) (cs : List ℕ) : Type 0 where
  pub digits : Digits cs
  pub counted : k ≡ length cs
  pub worth_of : v ≡ value_on 0 cs

-- past the first two bytes: `whole` is the line up to the last whole number, `cs` what follows, n the count of corners
-- and `body` the bytes of the whole numbers
pub record Body (tag want at : ℕ) (buffer : List ℤ) (whole cs body : List ℕ) (n : ℕ) : Type 0 where
  pub read : bytes whole ≡ some (tag ∷ n ∷ body)
  pub few : n ≤ most_corners
  pub wanted : want ≡ 2 * n
  pub so_far : length body ≡ 3 * at
  pub kept : take at buffer ≡ numbers body
  pub short : length cs < 6
  pub room : at ≤ want
  pub begun : 0 < length cs → at < want

pub data Holds (tag : ℕ) (l : Line) (buffer : List ℤ) (pre : List ℕ) : Type 0 where
  in_head : (k v : ℕ) → l ≡ line.Head k v → length pre < 4 → Part k v pre → Holds tag l buffer pre
  in_body : (want at k v : ℕ) → l ≡ line.Body want at k v → (whole cs body : List ℕ) (n : ℕ) → pre ≡ whole ++ cs →
      Part k v cs → Body tag want at buffer whole cs body n →
      Holds tag l buffer pre

pub holds_nothing : (tag : ℕ) (buffer : List ℤ) → Holds tag nothing_read buffer []
holds_nothing tag buffer = in_head 0 0 refl (omega arith) (record { digits = tt; counted = refl; worth_of = refl })

-- no line with this beginning is a frame: c is a line feed and ends one of another form, or it is a character that no
-- frame has here
abbrev pub Doomed : ℕ → List ℕ → ℕ → Type 0
Doomed tag pre c =
    ((c ≡ line_feed) × (frame tag pre ≡ none)) ⊎
    ((c ≢ line_feed) × ((more : List ℕ) → frame tag (pre ++ c ∷ more) ≡ none))

-- what a character c after `pre` does
abbrev pub Then : ℕ → List ℤ → List ℕ → ℕ → ReadGives → Type 0
Then tag buffer pre c (Ok (after.On l), b) =
    (c ≢ line_feed) × Holds tag l b (pre ++ c ∷ []) × (length b ≡ length buffer)
Then tag buffer pre c (Ok (after.Frame n), b) =
    (c ≡ line_feed) × (frame tag pre ≡ some (take n b)) × (n ≤ length b) × (length b ≡ length buffer)
Then tag buffer pre c (Err _, b) = Doomed tag pre c
