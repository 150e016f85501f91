-- What the rest of a chunk does to a reader does not change as its bytes are taken: one law for each way through the
-- loop of `feed`.
use Rattle.frames.specs.Reader.{TakeGives, FeedGives}
use Rattle.std.specs.Prelude.{Result, Ok}
use Rattle.frames.specs.declared.Fault.{Fault}
use Rattle.frames.specs.Reader.{failed}
use Rattle.std.proofs.Common.{◌≡◌, ℕ, ◌+◌, ◌<◌, ◌≤◌, List, length, get_or, drop, ℤ, add-one, drop_of_length-le, drop-cons}
use Rattle.frames.specs.Reader.{steps, feeds}
use Rattle.frames.specs.declared.Reader.{Reader}
use Rattle.frames.specs.declared.Fed.TheVariants as fed
use Rattle.frames.specs.declared.turn.Step.{Step}
use Rattle.frames.specs.declared.turn.Step.TheVariants as step

module _ (r : Reader) (f g : List ℤ) (chunk : List ℕ) (i : ℕ) where
  pub feeds_end : length chunk ≤ i → ◌≡◌ {A = FeedGives} (Ok (fed.More r), f, g) (feeds r f g i (drop i chunk))
  unfolding feeds
  feeds_end h = rw (drop_of_length-le chunk h)

  module _ {s : Result Step Fault} {f' g' : List ℤ} (h : i < length chunk)
      (q : ◌≡◌ {A = TakeGives} (s, f', g') (steps r f g (get_or chunk i 0))) where
    pub feeds_on : {r' : Reader} → s ≡ Ok (step.On r') →
        feeds r' f' g' (i + 1) (drop (i + 1) chunk) ≡ feeds r f g i (drop i chunk)
    unfolding feeds
    feeds_on e = rw (drop-cons chunk i 0 h, ← q, e, add-one i)

    pub feeds_pair : {n m : ℕ} → s ≡ Ok (step.Pair n m) →
        ◌≡◌ {A = FeedGives} (Ok (fed.Pair n m (i + 1)), f', g') (feeds r f g i (drop i chunk))
    unfolding feeds
    feeds_pair e = rw (drop-cons chunk i 0 h, ← q, e)

    pub feeds_fault : s ≡ failed →
        ◌≡◌ {A = FeedGives} (failed, f', g') (feeds r f g i (drop i chunk))
    unfolding feeds
    feeds_fault e = rw (drop-cons chunk i 0 h, ← q, e)
