-- How long a line is at most, and that number 2 does not occur in a room of 310 bytes.
use Rattle.std.specs.Prelude.{◌≡◌, refl, List, [], ◌∷◌, ◌++◌, ℕ, zero, suc, ◌+◌, ◌*◌, ◌≤◌, ◌<◌, ℤ, length, take}
use Rattle.std.proofs.Common.{inl, inr, arith, length-append, length-take}
use Rattle.limits.specs.Limits.{Roomy, room, longest_line}
use Rattle.outline.specs.Drawing.{corners}
use Rattle.rules.specs.Cutting.{pieces}
use Rattle.rules.specs.Centre.{Lowest, layout_size}
use Rattle.rules.proofs.Count.{pieces_few, room_enough}
use Rattle.rules.specs.Refusals.{line, FirstFailed, passed}
use Rattle.rules.specs.Result.{Result}
use Rattle.frames.specs.Frames.{line_feed, digits_of, line_of}
use Rattle.pair.specs.Pair.{Alike, of_drawings}
use Rattle.desk.specs.Answer.{InBoth, of_cutting, Answers}
use Rattle.terminal.specs.Terminal.{reply, line_for, Answered}

module _ {a b : List ℤ} {before : List ℕ} {r : Result} (roomy : length before ≡ room) (h : Answers a b before r) where
  -- where an answer is given, the first line of 01's table did not apply
  given_alike : r.number ≡ 0 → Alike a b
  given_alike z =
      (passed (line 1 (Alike a b) ∷ [])
      (line 2 (Roomy (corners a) (length before)) ∷ of_drawings a b ++ of_cutting a b) r.number
      (omega arith) h.numbered).0.0

  -- "so number 2 does not occur there": 5n-10 is at most 310
  pub never_2 : r.number ≡ 2 → ⊥
  never_2 z =
      let first = passed (line 1 (Alike a b) ∷ [])
      (line 2 (Roomy (corners a) (length before)) ∷ of_drawings a b ++ of_cutting a b)
      r.number (omega arith) h.numbered in
      go first.0.0 first.1
    where
      go : Alike a b → FirstFailed
          (line 2 (Roomy (corners a) (length before)) ∷ of_drawings a b ++ of_cutting a b) r.number → ⊥
      go alike (inl f) = f.0 (omega (arith, alike.few))
      go alike (inr f) =
          let none = (passed (of_drawings a b ++ of_cutting a b) [] r.number (omega arith) f.1).1 in
          omega arith

  -- an answer fits: the count of pieces in one byte, and the bytes in the room
  pub record Small : Type 0 where
    pub few : r.count < 256
    pub fits : r.bytes ≤ room
    pub sized : r.bytes + 10 ≤ 5 * corners a
    pub even : length a ≡ 2 * corners a

  pub small : r.number ≡ 0 → Small
  small z =
      let alike = given_alike z in
      let g = h.given z in
      let c = g.carries in
      let un = g.is_first.valid.uncrossed in
      let size = layout_size (Lowest (InBoth a b)) (pieces (corners a) g.cutting) c.laid c.layout in
      let enough = room_enough (corners a) g.cutting alike.enough un in
      record {
        few = omega (arith, pieces_few (corners a) g.cutting alike.enough un, alike.few, c.counted);
        fits = omega (arith, enough, size, alike.few, c.used);
        sized = omega (arith, enough, size, c.used);
        even = alike.even;
      }

digits_length : (bs : List ℕ) → length (digits_of bs) ≡ 2 * length bs
digits_length [] = refl
digits_length (b ∷ bs) = omega (arith, digits_length bs)

line_length : (bs : List ℕ) → length (line_of bs) ≡ 2 * length bs + 1
line_length bs = omega (arith, digits_length bs, length-append (digits_of bs) (line_feed ∷ []))

-- the line of a pair is no longer than the longest, and no longer than the pair's own two lines
pub record Short (a : List ℤ) (line : List ℕ) : Type 0 where
  pub at_most : length line ≤ longest_line
  pub own : length line ≤ 10 + 6 * length a

reply_short : (a b : List ℤ) (before : List ℕ) (r : Result) → length before ≡ room → Answers a b before r →
    Short a (line_for r)
reply_short a b before r roomy h = go r.number refl
  where
    go : (k : ℕ) → r.number ≡ k → Short a (reply k r.count (take r.bytes r.after))
    go zero e =
        let s = small roomy h e in
        let l = line_length (0xA0 ∷ r.count ∷ take r.bytes r.after) in
        let t = length-take r.bytes r.after in
        record { at_most = omega (arith, l, t, s.fits); own = omega (arith, l, t, s.sized, s.even) }
    go (suc k) e =
        let l = line_length (0xE0 ∷ suc k ∷ []) in
        record { at_most = omega (arith, l); own = omega (arith, l) }

pub pair_short : (a b : List ℤ) (line : List ℕ) → Answered a b line → Short a line
pair_short a b line p = rw p.replied (reply_short a b p.before p.result p.roomy p.answers)
