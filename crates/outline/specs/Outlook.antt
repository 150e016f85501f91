-- From a corner of the chain of a chord towards a point J: where no side of the chain is met on the way, J has the
-- value left of its sides exactly when it lies inside the corner's angle.
use Rattle.std.specs.Prelude.{◌≡◌, List, ℕ, suc, ◌+◌, ◌<◌, ℤ, pos, ◌-ℤ◌}
use Rattle.std.proofs.Common.{sym, ◌∙◌, ap, subst, arith}
use Rattle.whole.specs.Order.{Positive}
use Rattle.outline.specs.Drawing.{Point, InsideAngle, corner}
use Rattle.outline.specs.Ends.{OnlyEnd}
use Rattle.outline.specs.Parity.{odd, out, large}
use Rattle.outline.specs.ParityRound.{same_parity}
use Rattle.outline.specs.Scale.{odd_scale}
use Rattle.outline.specs.Along.{len2, apart_length}
use Rattle.outline.specs.Near.{near}
use Rattle.outline.specs.CornerTells.{Verdict, Close, corner_tells}
use Rattle.outline.specs.Directions.{away_of, length_back}
use Rattle.outline.specs.Ray.{above_one}
use Rattle.outline.specs.Past.{Past, past}
use Rattle.outline.specs.Chord.{Chord, chain, closed, simple_chain, at_next, corner_at, left_of}

module _ {d : List ℤ} {a m : ℕ} (chord : Chord d a m) where
  abbrev c : ℕ → Point
  c = chain d a m

  module _ (s : ℕ) (hs : s < m) (J : Point) (apart : ¬ (corner d (suc (a + s)) ≡ J))
      (only_next : OnlyEnd (c (suc s)) J (c (suc (suc s)))) (only_last : OnlyEnd (c (suc s)) J (c s))
      (free : (i : ℕ) → i < suc m → Past (c (suc s)) J (c i) (c (suc i)) → ⊥) where
    len_J : Positive (len2 (c (suc s)) J)
    len_J = subst (λ z. Positive (len2 z J)) (sym (at_next chord s hs)) (apart_length (corner d (suc (a + s))) J apart)

    tells : Close c (suc m) (left_of chord (suc s)) (c s) (c (suc s)) (c (suc (suc s))) J
    tells =
        corner_tells c (suc m) s (suc s) (corner_at chord s hs) J len_J
        (away_of (c (suc s)) J (c (suc (suc s))) len_J ((simple_chain chord).ends (suc s) (omega arith))
        only_next)
        (away_of (c (suc s)) J (c s) len_J
        (length_back (c s) (c (suc s)) ((simple_chain chord).ends s (omega arith))) only_last)

    arrives : (K : ℤ) → Positive (K -ℤ pos 1) → odd (large K c) (near (c (suc s)) K J) (suc m) ≡ odd c J (suc m)
    arrives K big =
        same_parity (large K c) (suc m) (ap (out K) (closed chord)) (near (c (suc s)) K J) (out K J)
        (λ i h t. free i h (past (c (suc s)) J (c i) (c (suc i)) K big t))
        ∙ odd_scale c K J (above_one K big) (suc m)

    pub value_at :
        Verdict (left_of chord (suc s)) (InsideAngle (c s) (c (suc s)) (c (suc (suc s))) J) (odd c J (suc m))
    value_at =
        subst (Verdict (left_of chord (suc s)) (InsideAngle (c s) (c (suc s)) (c (suc (suc s))) J))
        (arrives tells.K tells.K-big) tells.told
