-- The finite test is enough, on every drawing in which the segment has a length: a point z / r of it is a pair of
-- whole numbers of the drawing r times as large; twice that, and the points half way between corners are so too, and
-- `Between` tells.
use Rattle.std.specs.Prelude.{◌≡◌, refl, [], ◌∷◌, ℕ, suc, ◌<◌, ℤ, pos, ◌+ℤ◌, ◌*ℤ◌}
use Rattle.std.proofs.Common.{ap, ap₂, subst, inl, inr}
use Rattle.std.proofs.Math.Path.{fun_ext}
use Rattle.whole.specs.Ring.{v, ◌:+◌, ◌:*◌, ring}
use Rattle.whole.specs.Order.{Positive, positive_pos}
use Rattle.outline.specs.Drawing.{Point}
use Rattle.outline.specs.Spell.{Two}
use Rattle.outline.specs.Tells.{Decide}
use Rattle.outline.specs.Placed.{On}
use Rattle.outline.specs.Along.{len2}
use Rattle.outline.specs.Parity.{pt, OnSide, InOn, out, large}
use Rattle.outline.specs.OnTest.{on_side_dec}
use Rattle.outline.specs.Scale.{on_scale, on_back, in_scale, in_back, len_scale}
use Rattle.outline.specs.Crossing.{Crosses, crosses_back}
use Rattle.outline.specs.Between.{Mid, odd_between}
use Rattle.outline.specs.EveryPoint.{Sight, Test, sum2}

two+ : Positive (pos 2)
two+ = positive_pos 1

-- twice, r times as large
abbrev twice : ℤ → Point → Point
twice r a = out (pos 2) (out r a)

swap : (r a : ℤ) → r *ℤ (pos 2 *ℤ a) ≡ pos 2 *ℤ (r *ℤ a)
swap r a = ring (r ∷ a ∷ []) (v 0 :* (Two :* v 1)) (Two :* (v 0 :* v 1)) refl

half : (r a b : ℤ) → pos 2 *ℤ (r *ℤ (a +ℤ b)) ≡ pos 2 *ℤ (r *ℤ a) +ℤ pos 2 *ℤ (r *ℤ b)
half r a b =
    ring (r ∷ a ∷ b ∷ []) (Two :* (v 0 :* (v 1 :+ v 2))) (Two :* (v 0 :* v 1) :+ Two :* (v 0 :* v 2)) refl

module _ (c : ℕ → Point) (n : ℕ) (closed : c n ≡ c 0) (i j : ℕ) (i< : i < n) (j< : j < n)
    (n+ : Positive (len2 (c i) (c j))) where
  pub test_sight : Test c n i j → Sight c n (c i) (c j)
  test_sight t z r r+ o = in_back (large r c) n (pos 2) z two+ (go (on_side_dec d n (out (pos 2) z)))
    where
      d : ℕ → Point
      d m = twice r (c m)

      same : large r (large (pos 2) c) ≡ large (pos 2) (large r c)
      same = fun_ext (λ m. ap₂ pt (swap r (c m).x) (swap r (c m).y))

      clear : (m : ℕ) → m < n → ¬ Crosses (d i) (d j) (d m) (d (suc m))
      clear m b x =
          t.clear m b (crosses_back r r+ (c i) (c j) (c m) (c (suc m))
          (crosses_back (pos 2) two+ (out r (c i)) (out r (c j)) (out r (c m)) (out r (c (suc m))) x))

      back : (m : ℕ) → On (d m) (d i) (d j) → On (c m) (c i) (c j)
      back m o =
          on_back r (c m) (c i) (c j) r+ (on_back (pos 2) (out r (c m)) (out r (c i)) (out r (c j)) two+ o)

      mids : (k l : ℕ) → k < n → l < n → On (d k) (d i) (d j) → On (d l) (d i) (d j) → Mid d n (d k) (d l)
      mids k l kb lb ok ol =
          let w = sum2 (c k) (c l) in
          record {
            w = out r w;
            hx = half r (c k).x (c l).x;
            hy = half r (c k).y (c l).y;
            holds =
                subst (λ e. InOn e n (out r w)) same
                (in_scale (large (pos 2) c) n r w r+ (t.mids k l kb lb (back k ok) (back l ol)));
          }

      go : Decide (OnSide d n (out (pos 2) z)) → InOn d n (out (pos 2) z)
      go (inl s) = inl s
      go (inr s) =
          inr (odd_between d n (ap (λ a. twice r a) closed) i j i< j<
          (len_scale (pos 2) (out r (c i)) (out r (c j)) two+ (len_scale r (c i) (c j) r+ n+)) clear mids
          (out (pos 2) z) (on_scale (pos 2) z (out r (c i)) (out r (c j)) two+ o) s)
