-- A line's next character: one law for each way through `close`, `begin` and `read` of `frame`.
use Rattle.frames.specs.Reader.{ReadGives}
use Rattle.std.proofs.Math.Path.{refl}
use Rattle.std.specs.Prelude.{Result, Ok}
use Rattle.frames.specs.declared.Fault.{Fault}
use Rattle.frames.specs.Reader.{failed}
use Rattle.std.specs.Prelude.{◌≡◌, ℕ, ◌+◌, ◌-◌, ◌*◌, ◌<◌, ◌≤◌, List, length, ℤ, ◌≢◌, slice_set}
use borrow.Author.Tests.{eq-eqb, ne_eqb, lt-ltb, le-ltb, le-leb, lt-leb}
use Rattle.limits.specs.Limits.{most_corners}
use Rattle.frames.specs.Frames.{line_feed, two's_complement}
use Rattle.frames.specs.Reader.{worth, closes, begins, goes_on, reads, valued}
use Rattle.frames.specs.declared.Line.{Line}
use Rattle.frames.specs.declared.Line.TheVariants as line
use Rattle.frames.specs.declared.frame.After.{After}
use Rattle.frames.specs.declared.frame.After.TheVariants as after

-- ---- a character that is no digit, past the first two bytes
module _ (want at k v c room : ℕ) where
  pub closes_other : (c ≢ line_feed) → failed ≡ closes (line.Body want at k v) c room
  unfolding closes
  closes_other n = rw (ne_eqb c line_feed n)

  module _ (f : c ≡ line_feed) where
    pub closes_part : (k ≢ 0) → failed ≡ closes (line.Body want at k v) c room
    unfolding closes
    closes_part n = rw (eq-eqb c line_feed f, ne_eqb k 0 n)

    module _ (p : k ≡ 0) where
      pub closes_early : (at ≢ want) → failed ≡ closes (line.Body want at k v) c room
      unfolding closes
      closes_early n = rw (eq-eqb c line_feed f, eq-eqb k 0 p, ne_eqb at want n)

      module _ (w : at ≡ want) where
        pub closes_long : room < at → failed ≡ closes (line.Body want at k v) c room
        unfolding closes
        closes_long m = rw (eq-eqb c line_feed f, eq-eqb k 0 p, eq-eqb at want w, lt-leb at room m)

        pub closes_frame : at ≤ room → Ok (after.Frame at) ≡ closes (line.Body want at k v) c room
        unfolding closes
        closes_frame m = rw (eq-eqb c line_feed f, eq-eqb k 0 p, eq-eqb at want w, le-leb at room m)

-- and within them
pub closes_head : (k v c room : ℕ) → failed ≡ closes (line.Head k v) c room
unfolding closes
closes_head k v c room = refl

-- ---- a digit of the first two bytes
module _ (tag k v : ℕ) where
  pub begins_more : k < 3 → Ok (after.On (line.Head (k + 1) v)) ≡ begins tag k v
  unfolding begins
  begins_more h = rw (lt-ltb k 3 h)

  module _ (h : 3 ≤ k) where
    pub begins_below : v < tag * 256 → failed ≡ begins tag k v
    unfolding begins
    begins_below m = rw (le-ltb k 3 h, lt-ltb v (tag * 256) m)

    module _ (m : tag * 256 ≤ v) where
      pub begins_many : most_corners < v - tag * 256 → failed ≡ begins tag k v
      unfolding begins
      begins_many o = rw (le-ltb k 3 h, le-ltb v (tag * 256) m, lt-leb (v - tag * 256) most_corners o)

      pub begins_body : v - tag * 256 ≤ most_corners →
          Ok (after.On (line.Body (2 * (v - tag * 256)) 0 0 0)) ≡ begins tag k v
      unfolding begins
      begins_body o = rw (le-ltb k 3 h, le-ltb v (tag * 256) m, le-leb (v - tag * 256) most_corners o)

-- ---- any character
module _ (tag : ℕ) (buffer : List ℤ) (c d : ℕ) (e : d ≡ worth c) where
  pub reads_close : (l : Line) {r : Result After Fault} → 16 ≤ d → r ≡ closes l c (length buffer) →
      ◌≡◌ {A = ReadGives} (r, buffer) (reads tag l buffer c)
  unfolding reads
  reads_close l h q = rw (q, ← e, le-ltb d 16 h)

  module _ (h : d < 16) where
    pub reads_head : (k v : ℕ) {r : Result After Fault} → r ≡ begins tag k (valued v d) →
        ◌≡◌ {A = ReadGives} (r, buffer) (reads tag (line.Head k v) buffer c)
    unfolding reads
    reads_head k v q = rw (q, ← e, lt-ltb d 16 h)

    module _ (want at k v : ℕ) where
      pub reads_over : want ≤ at → ◌≡◌ {A = ReadGives} (failed, buffer) (reads tag (line.Body want at k v) buffer c)
      unfolding reads goes_on
      reads_over m = rw (← e, lt-ltb d 16 h, le-ltb at want m)

      module _ (m : at < want) where
        pub reads_digit : k < 5 → ◌≡◌ {A = ReadGives}
            (Ok (after.On (line.Body want at (k + 1) (valued v d))), buffer)
            (reads tag (line.Body want at k v) buffer c)
        unfolding reads goes_on
        reads_digit p = rw (← e, lt-ltb d 16 h, lt-ltb at want m, lt-ltb k 5 p)

        module _ (p : 5 ≤ k) where
          pub reads_full : length buffer ≤ at →
              ◌≡◌ {A = ReadGives} (failed, buffer) (reads tag (line.Body want at k v) buffer c)
          unfolding reads goes_on
          reads_full o =
              rw (← e, lt-ltb d 16 h, lt-ltb at want m, le-ltb k 5 p, le-ltb at (length buffer) o)

          pub reads_number : {z : ℤ} → at < length buffer → z ≡ two's_complement (valued v d) →
              ◌≡◌ {A = ReadGives} (Ok (after.On (line.Body want (at + 1) 0 0)), slice_set buffer at z)
              (reads tag (line.Body want at k v) buffer c)
          unfolding reads goes_on
          reads_number o q =
              rw (q, ← e, lt-ltb d 16 h, lt-ltb at want m, le-ltb k 5 p, lt-ltb at (length buffer) o)
