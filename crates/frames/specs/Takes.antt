-- How much of an input a reader has taken for what it holds, and that it holds no more than its buffers do.
-- A line of n numbers has 5 + 6 n characters with its line feed; the reader needs one byte at least for each.
use Rattle.frames.specs.Reader.{ReadGives, TakeGives, FeedGives}
use Rattle.std.specs.Prelude.{Option, Some, None, Result, Ok, Err}
use Rattle.frames.specs.declared.Fault.{Fault}
use Rattle.std.specs.Prelude.{◌≡◌, ℕ, suc, ◌+◌, ◌-◌, ◌*◌, ◌<◌, ◌≤◌, Bool, true, false, cond, List, [], ◌∷◌, length, drop, ℤ, ◌==◌, nat_le, nat_lt, refl}
use Rattle.std.proofs.Common.{arith, length-drop}
use borrow.Author.Tests.{leb-true, ltb-false}
use Rattle.limits.specs.Limits.{most_corners}
use Rattle.frames.specs.Frames.{line_feed, first_tag, second_tag}
use Rattle.frames.specs.Reader.{worth, closes, begins, goes_on, takes_digit, reads, valued}
use Rattle.frames.specs.Reader.{on_first, on_second, steps_in, steps, fed_by, feeds}
use Rattle.frames.specs.declared.Line.{Line}
use Rattle.frames.specs.declared.Line.TheVariants as line
use Rattle.frames.specs.declared.Reader.{Reader}
use Rattle.frames.specs.declared.Fed.{Fed}
use Rattle.frames.specs.declared.Fed.TheVariants as fed
use Rattle.frames.specs.declared.frame.After.{After}
use Rattle.frames.specs.declared.frame.After.TheVariants as after
use Rattle.frames.specs.declared.turn.Step.{Step}
use Rattle.frames.specs.declared.turn.Step.TheVariants as step

abbrev pub line_taken : Line → ℕ
line_taken (line.Head k v) = k
line_taken (line.Body want at k v) = 4 + 6 * at + k

abbrev pub pair_taken : Option ℕ → ℕ
pair_taken None = 0
pair_taken (Some n) = 5 + 6 * n

abbrev pub taken : Reader → ℕ
taken r = pair_taken r.first + line_taken r.line

-- a case for each way of a test
by_test : {A : Type 0} (P : A → Type 0) {x y : A} (b : Bool) → (b ≡ true → P x) → (b ≡ false → P y) → P (cond b x y)
by_test P true t e = t refl
by_test P false t e = e refl

-- ---- one line
abbrev LineTakes : Line → ReadGives → Type 0
LineTakes l (Ok (after.On m), b) = line_taken m ≤ line_taken l + 1
LineTakes l (Ok (after.Frame n), b) = (4 + 6 * n ≤ line_taken l) × (n ≤ length b)
LineTakes l (Err _, b) = Unit {0}

module _ (tag : ℕ) (buffer : List ℤ) (c : ℕ) where
  closes_takes : (l : Line) → LineTakes l (closes l c (length buffer), buffer)
  unfolding closes
  closes_takes (line.Head k v) = tt
  closes_takes (line.Body want at k v) =
      by_test ends (c == line_feed)
      (λ _. by_test ends (k == 0)
      (λ p. by_test ends (at == want)
      (λ _. by_test ends (nat_le at (length buffer))
      (λ m. (omega arith, leb-true at (length buffer) m))
      (λ _. tt)) (λ _. tt)) (λ _. tt)) (λ _. tt)
    where
      ends : Result After Fault → Type 0
      ends a = LineTakes (line.Body want at k v) (a, buffer)

  begins_takes : (k v w : ℕ) → LineTakes (line.Head k v) (begins tag k w, buffer)
  unfolding begins
  begins_takes k v w =
      by_test ends (nat_lt k 3)
      (λ _. omega arith)
      (λ p. by_test ends (nat_lt w (tag * 256))
      (λ _. tt)
      (λ _. by_test ends (nat_le (w - tag * 256) most_corners) (λ _. omega (arith, ltb-false k 3 p)) (λ _. tt)))
    where
      ends : Result After Fault → Type 0
      ends a = LineTakes (line.Head k v) (a, buffer)

  goes_on_takes : (want at k v w : ℕ) → LineTakes (line.Body want at k v) (goes_on want at k buffer w)
  unfolding goes_on
  goes_on_takes want at k v w =
      by_test (LineTakes (line.Body want at k v)) (nat_lt at want)
      (λ _. by_test (LineTakes (line.Body want at k v)) (nat_lt k 5)
      (λ _. omega arith)
      (λ p. by_test (LineTakes (line.Body want at k v)) (nat_lt at (length buffer))
      (λ _. omega (arith, ltb-false k 5 p))
      (λ _. tt))) (λ _. tt)

  digit_takes : (l : Line) → LineTakes l (takes_digit tag l buffer (worth c))
  digit_takes (line.Head k v) = begins_takes k v (valued v (worth c))
  digit_takes (line.Body want at k v) = goes_on_takes want at k v (valued v (worth c))

  reads_takes : (l : Line) → LineTakes l (reads tag l buffer c)
  unfolding reads
  reads_takes l =
      by_test (LineTakes l) (nat_lt (worth c) 16) (λ _. digit_takes l) (λ _. closes_takes l)

-- ---- the two lines of a pair
abbrev Takes : ℕ → TakeGives → Type 0
Takes k (Ok (step.On r), f, g) = taken r ≤ k + 1
Takes k (Ok (step.Pair n m), f, g) = (10 + 6 * n + 6 * m ≤ k + 1) × (n ≤ length f) × (m ≤ length g)
Takes k (Err _, f, g) = Unit {0}

steps_takes : (r : Reader) (f g : List ℤ) (c : ℕ) → Takes (taken r) (steps r f g c)
unfolding steps
steps_takes r f g c = go r.first
  where
    first : (ab : ReadGives) → LineTakes r.line ab → Takes (0 + line_taken r.line) (on_first ab.0 ab.1 g)
    first (Ok (after.On m), b) h = omega (arith, h)
    first (Ok (after.Frame m), b) h = omega (arith, h.0)
    first (Err _, b) h = tt

    second : (n : ℕ) (ab : ReadGives) → LineTakes r.line ab →
        Takes (5 + 6 * n + line_taken r.line) (on_second n ab.0 f ab.1)
    second n (Ok (after.On m), b) h = omega (arith, h)
    second n (Ok (after.Frame m), b) h =
        by_test (λ (s : Result Step Fault). Takes (5 + 6 * n + line_taken r.line) (s, f, b)) (nat_le n (length f))
        (λ fits. (omega (arith, h.0), leb-true n (length f) fits, h.1)) (λ _. tt)
    second n (Err _, b) h = tt

    go : (o : Option ℕ) → Takes (pair_taken o + line_taken r.line) (steps_in o r.line f g c)
    go None = first (reads first_tag r.line f c) (reads_takes first_tag f c r.line)
    go (Some n) = second n (reads second_tag r.line g c) (reads_takes second_tag g c r.line)

-- ---- a part of an input: k is what the reader had taken before byte i, e the number of the byte after the part
abbrev FedTakes : ℕ → ℕ → ℕ → FeedGives → Type 0
FedTakes k i e (Ok (fed.More r), f, g) = taken r + i ≤ k + e
FedTakes k i e (Ok (fed.Pair n m next), f, g) =
    (10 + 6 * n + 6 * m + i ≤ k + next) × (i < next) × (next ≤ e) × (n ≤ length f) × (m ≤ length g)
FedTakes k i e (Err _, f, g) = Unit {0}

feeds_takes : (xs : List ℕ) (r : Reader) (f g : List ℤ) (i : ℕ) →
    FedTakes (taken r) i (i + length xs) (feeds r f g i xs)
unfolding feeds
feeds_takes [] r f g i = omega arith
feeds_takes (c ∷ cs) r f g i = go (λ r' f' g'. feeds_takes cs r' f' g' (i + 1)) (steps r f g c) (steps_takes r f g c)
  where
    later : (r' : Reader) → taken r' ≤ taken r + 1 → (x : FeedGives) →
        FedTakes (taken r') (i + 1) (i + 1 + length cs) x →
        FedTakes (taken r) i (i + suc (length cs)) x
    later r' k (Ok (fed.More q), f', g') h = omega (arith, h)
    later r' k (Ok (fed.Pair n m next), f', g') h =
        (omega (arith, h.0), omega (arith, h.1), omega (arith, h.2), h.3, h.4)
    later r' k (Err _, f', g') h = tt

    go : ((r' : Reader) (f' g' : List ℤ) →
        FedTakes (taken r') (i + 1) (i + 1 + length cs) (feeds r' f' g' (i + 1) cs)) →
        (s : TakeGives) → Takes (taken r) s →
        FedTakes (taken r) i (i + suc (length cs)) (fed_by s i (λ r' f' g'. feeds r' f' g' (i + 1) cs))
    go again (Ok (step.On r'), f', g') h = later r' h (feeds r' f' g' (i + 1) cs) (again r' f' g')
    go again (Ok (step.Pair n m), f', g') h = (omega (arith, h.0), omega arith, omega arith, h.1, h.2)
    go again (Err _, f', g') h = tt

-- of a pair that `feed` reports: where the input goes on, that both drawings lie in their buffers, and the bytes it
-- took. From a fresh reader that is the pair's own length at least.
pub record PairTakes (r : Reader) (f' g' : List ℤ) (size i n m next : ℕ) : Type 0 where
  pub took : 10 + 6 * n + 6 * m + i ≤ taken r + next
  pub on : i < next
  pub within : next ≤ size
  pub first_fits : n ≤ length f'
  pub second_fits : m ≤ length g'

pub feed_pair_takes : (r : Reader) (f g : List ℤ) (chunk : List ℕ) (i : ℕ)
    {x : Result Fed Fault} {f' g' : List ℤ} {n m next : ℕ} →
    ◌≡◌ {A = FeedGives} (x, f', g') (feeds r f g i (drop i chunk)) → x ≡ Ok (fed.Pair n m next) →
    PairTakes r f' g' (length chunk) i n m next
feed_pair_takes r f g chunk i q e =
    let h = rw (← q, e) at (feeds_takes (drop i chunk) r f g i) in
    record {
      took = h.0;
      on = h.1;
      within = omega (arith, h.1, h.2, length-drop i chunk);
      first_fits = h.3;
      second_fits = h.4;
    }
