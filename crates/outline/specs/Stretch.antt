-- A stretch of the segment IJ with no corner inside it, where no side crosses IJ: a point of it that is on no side has
-- the parity of any other of its points that is in or on the outline. For a side that met it between them would cover
-- it.
use Rattle.std.specs.Prelude.{◌≡◌, true, ℕ, suc, ◌<◌, ◌≤◌, ℤ, pos, ◌≤ℤ◌, ◌<ℤ◌}
use Rattle.std.proofs.Common.{◌∙◌, inl, inr, arith}
use Rattle.whole.specs.Order.{Nonneg, Positive}
use Rattle.outline.specs.Drawing.{Point, Shared, turn_of}
use Rattle.outline.specs.Placed.{touch_meets}
use Rattle.outline.specs.Along.{len2, along}
use Rattle.outline.specs.Parity.{odd, OnSide, InOn}
use Rattle.outline.specs.ParityRound.{same_parity}
use Rattle.outline.specs.Crossing.{Crosses}
use Rattle.outline.specs.Covers.{Free, covers, shared_whole}

pub stretch : (c : ℕ → Point) (n : ℕ) → c n ≡ c 0 →
    (i j z w : Point) → Positive (len2 i j) → turn_of i j z ≡ pos 0 → turn_of i j w ≡ pos 0 →
    (k l : ℤ) → Nonneg k → l ≤ℤ len2 i j →
    k <ℤ along i j z → along i j z <ℤ l → k <ℤ along i j w → along i j w <ℤ l →
    ((m : ℕ) → m < n → ¬ Crosses i j (c m) (c (suc m))) →
    ((m : ℕ) → m ≤ n → turn_of i j (c m) ≡ pos 0 → Free k l (along i j (c m))) →
    ¬ OnSide c n z → InOn c n w → odd c z n ≡ true
stretch c n closed i j z w n+ ez ew k l k0 ln kz zl kw wl clear free off h = go h
  where
    apart : (m : ℕ) → m < n → ¬ Shared z w (c m) (c (suc m))
    apart m b s =
        off (record {
          m = m;
          below = b;
          on =
              covers i j z w (c m) (c (suc m)) n+ ez ew k l kz zl kw wl s
              (λ o. clear m b (record {
                ends = o;
                meets = shared_whole i j z w (c m) (c (suc m)) n+ ez ew k l kz zl kw wl s k0 ln;
              }))
              (free m (omega arith)) (free (suc m) b);
        })

    go : InOn c n w → odd c z n ≡ true
    go (inl o) = absurd (apart o.m o.below (touch_meets z w (c o.m) (c (suc o.m)) (inr (inr o.on))))
    go (inr e) = same_parity c n closed z w apart ∙ e
