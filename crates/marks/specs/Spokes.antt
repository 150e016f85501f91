-- Where no wedge of a piece is flat, no corner stands on a line from its centre to another of its corners.
--
--      c ----- k ----- j      The centre c sees j past k, a corner of the piece too (`Star`). Let k be the last on the
--               \     /       way: it sees j strictly. The corner t that follows k or j round the piece, away from c,
--                t ..         is seen by c across kj, so it is in line with them, and the wedge of c with the corner
--                             before t and t is flat.
use Rattle.std.specs.Prelude.{◌≡◌, refl, ◌⊎◌, List, ◌∷◌, ℕ, zero, suc, ◌≤◌, ◌<◌, ℤ, pos}
use Rattle.std.proofs.Common.{sym, ap, ◌∙◌, subst, inl, inr, arith}
use Rattle.std.proofs.Math.Logic.{by_cases}
use Rattle.std.proofs.Math.Decide.{ℕ_discrete, dec_lt}
use Rattle.outline.specs.Drawing.{turn_of, Shared, corner, corners, Beside, Sees}
use Rattle.outline.specs.InOrOn.{CentreSees}
use Rattle.outline.specs.Segments.{turned_first, turned_second}
use Rattle.outline.specs.Seeing.{sees_mutual, beside_or}
use Rattle.outline.specs.Placed.{On}
use Rattle.outline.specs.CornersApart.{corners_apart}
use Rattle.outline.specs.CentreParts.{part_on}
use Rattle.outline.proofs.CentreParts.{sees_parts}
use Rattle.outline.proofs.CentreMiddle.{sees_clear}
use Rattle.outline.specs.Directions.{in_line_back}
use Rattle.outline.specs.CentreSight.{centre_mutual}
use Rattle.outline.specs.Way.{GrazedBy, Free, free_of}
use Rattle.outline.proofs.TwoKinds.{free_kinds}
use Rattle.outline.specs.Third.{long}
use Rattle.outline.proofs.Third.{second_shorter}
use Rattle.outline.specs.Straight.{near_straight, far_straight}
use Rattle.outline.specs.Across.{Beyond}
use Rattle.outline.proofs.Across.{centre_across}
use Rattle.rules.specs.Lists.{In}
use Rattle.rules.specs.Cutting.{Pairs}
use Rattle.marks.specs.Joined.{Next, Ends, next_neighbours, ends_outside}
use Rattle.marks.specs.Follow.{Then, next_or_last, first_least}
use Rattle.marks.specs.Star.{Star, centre_below, grazed_in}

module _ {d : List ℤ} {C : Pairs} {f : ℕ} {s : List ℕ} {c : ℕ} (star : Star d C f s c) where
  module _ (no_flat : (a b : ℕ) → Then f (f ∷ s) a b → ¬ (a ≡ c) → ¬ (b ≡ c) →
      ¬ (turn_of (corner d c) (corner d a) (corner d b) ≡ pos 0)) where
    -- two corners of the piece that see each other strictly, in line with the centre
    record InLine (lo hi : ℕ) : Type 0 where
      rises : lo < hi
      in_lo : In lo (f ∷ s)
      in_hi : In hi (f ∷ s)
      not_lo : ¬ (lo ≡ c)
      not_hi : ¬ (hi ≡ c)
      line : Sees d lo hi
      flat : turn_of (corner d c) (corner d lo) (corner d hi) ≡ pos 0
      flat_back : turn_of (corner d c) (corner d hi) (corner d lo) ≡ pos 0
      -- what the centre sees across them is in line too
      straight : (z : ℕ) → Shared (corner d c) (corner d z) (corner d lo) (corner d hi) →
          (turn_of (corner d c) (corner d lo) (corner d z) ≡ pos 0) ×
          (turn_of (corner d c) (corner d hi) (corner d z) ≡ pos 0)

    none_in_line : (lo hi : ℕ) → InLine lo hi → ⊥
    none_in_line lo hi l = go (dec_lt c lo) (dec_lt hi c)
      where
        h_hi : hi < corners d
        h_hi = star.region.small hi l.in_hi

        -- the centre is beyond both: the corner after the lower one
        outside : Beyond lo hi c → ⊥
        outside b = at (next_or_last (f ∷ s) lo l.in_lo)
          where
            at : ((t : ℕ) × Next (f ∷ s) lo t) ⊎ Ends (f ∷ s) lo → ⊥
            at (inr e) = omega (arith, (ends_outside f s star.region.rising lo e hi l.in_hi).1, l.rises)
            at (inl (t, x)) = then (ℕ_discrete t hi)
              where
                up : lo < t
                up = (next_neighbours (f ∷ s) star.region.rising lo t x).rises

                upto : t ≤ hi
                upto =
                    by_cases (dec_lt hi t)
                    (λ q. absurd ((next_neighbours (f ∷ s) star.region.rising lo t x).none hi l.in_hi l.rises
                    q))
                    (λ q. omega (arith, q))

                not_c : ¬ (t ≡ c)
                not_c e = off b
                  where
                    off : Beyond lo hi c → ⊥
                    off (inl q) = omega (arith, q, e, up)
                    off (inr q) = omega (arith, q, e, upto)

                then : Dec (t ≡ hi) → ⊥
                then (yes e) =
                    no_flat lo t (inl x) l.not_lo not_c
                    (ap (λ m. turn_of (corner d c) (corner d lo) (corner d m)) e ∙ l.flat)
                then (no n) =
                    centre_across d star.sound lo hi l.rises h_hi l.line t c up (omega (arith, upto, n))
                    (centre_below star) b
                    (centre_mutual (star.sees t (next_neighbours (f ∷ s) star.region.rising lo t x).in_b))
                    (λ m. no_flat lo t (inl x) l.not_lo not_c (l.straight t (turned_first m)).0)

        -- the centre is between them: the corner after the higher one
        inside : lo < c → c < hi → ⊥
        inside lc ch = at (next_or_last (f ∷ s) hi l.in_hi)
          where
            across : (t : ℕ) → In t (f ∷ s) → Then f (f ∷ s) hi t → ¬ (t ≡ c) → Beyond lo hi t → ⊥
            across t i x n b =
                centre_across d star.sound lo hi l.rises h_hi l.line c t lc ch (star.region.small t i) b
                (star.sees t i)
                (λ m. no_flat hi t x l.not_hi n (l.straight t m).1)

            least : f ≤ lo
            least = first_least f s star.region.rising lo l.in_lo

            at : ((t : ℕ) × Next (f ∷ s) hi t) ⊎ Ends (f ∷ s) hi → ⊥
            at (inl (t, x)) =
                let b = next_neighbours (f ∷ s) star.region.rising hi t x in
                across t b.in_b (inl x) (λ e. omega (arith, e, ch, b.rises)) (inr b.rises)
            at (inr e) =
                by_cases (ℕ_discrete f lo)
                (λ q. no_flat hi f (inr (e, refl)) l.not_hi (λ p. omega (arith, p, q, lc))
                (ap (λ m. turn_of (corner d c) (corner d hi) (corner d m)) q ∙ l.flat_back))
                (λ q. across f (inl refl) (inr (e, refl)) (λ p. omega (arith, p, least, lc))
                (inl (omega (arith, q, least))))

        go : Dec (c < lo) → Dec (hi < c) → ⊥
        go (yes p) q = outside (inl p)
        go (no p) (yes q) = outside (inr q)
        go (no p) (no q) = inside (omega (arith, p, below)) (omega (arith, q, above))
          where
            below : ¬ (c ≡ lo)
            below e = l.not_lo (sym e)

            above : ¬ (c ≡ hi)
            above e = l.not_hi (sym e)

    -- ---- a corner on a spoke, with none between it and the far end
    module _ (j k : ℕ) (in_j : In j (f ∷ s)) (cj : ¬ (c ≡ j)) (g : GrazedBy d c j k) where
      hj : j < corners d
      hj = star.region.small j in_j

      ck : ¬ (corner d c ≡ corner d k)
      ck = corners_apart d star.sound.simple c k (centre_below star) g.below (λ e. g.not_i (sym e))

      turned : turn_of (corner d c) (corner d k) (corner d j) ≡ pos 0
      turned = in_line_back (corner d c) (corner d j) (corner d k) g.on.line

      in_line : Sees d k j → In k (f ∷ s) → ⊥
      in_line see in_k = go (dec_lt k j)
        where
          go : Dec (k < j) → ⊥
          go (yes h) = none_in_line k j (record {
            rises = h;
            in_lo = in_k;
            in_hi = in_j;
            not_lo = g.not_i;
            not_hi = λ e. cj (sym e);
            line = see;
            flat = turned;
            flat_back = g.on.line;
            straight = λ z t. (
              near_straight (corner d c) (corner d k) (corner d j) (corner d z) g.on ck t,
              far_straight (corner d c) (corner d k) (corner d j) (corner d z) g.on ck t,
            );
          })
          go (no h) = none_in_line j k (record {
            rises = omega (arith, h, apart);
            in_lo = in_j;
            in_hi = in_k;
            not_lo = λ e. cj (sym e);
            not_hi = g.not_i;
            line = sees_mutual see;
            flat = g.on.line;
            flat_back = turned;
            straight = λ z t. (
              far_straight (corner d c) (corner d k) (corner d j) (corner d z) g.on ck (turned_second t),
              near_straight (corner d c) (corner d k) (corner d j) (corner d z) g.on ck (turned_second t),
            );
          })
            where
              apart : ¬ (k ≡ j)
              apart = g.not_j

      -- ---- the last corner on the way
      never : ((m : ℕ) → long d m j < long d k j → GrazedBy d c j m → ⊥) → ⊥
      never later =
          grazed_in star j k in_j g
          (in_line (strict_part (beside_or d k j)))
        where
          part : CentreSees d k j
          part = (sees_parts d c j k g.on (star.sees j in_j)).1

          third : (m : ℕ) → GrazedBy d k j m → ⊥
          third m h =
              later m shorter_way
              (record {
                below = h.below;
                not_i = not_c;
                not_j = h.not_j;
                on = part_on (corner d m) (corner d c)
                    (corner d k) (corner d j) g.on h.on;
              })
            where
              -- m is nearer to j than k is, and k nearer than c
              shorter_way : long d m j < long d k j
              shorter_way = second_shorter d star.sound.simple k j m g.below hj h

              not_c : ¬ (m ≡ c)
              not_c e =
                  omega (
                    arith,
                    subst (λ i. long d i j < long d k j) e shorter_way,
                    second_shorter d star.sound.simple c j k (centre_below star) hj g,
                  )

          free : Free d k j
          free m hm =
              free_of d k j m hm (sees_clear d star.sound.simple k j g.below hj g.not_j part m hm) (third m)

          strict_part : Beside d k j ⊎ (¬ Beside d k j) → Sees d k j
          strict_part (inl b) = record { sees = inl b }
          strict_part (inr n) = (free_kinds d star.sound k j g.below hj n free).0 part

    down : (j : ℕ) → In j (f ∷ s) → ¬ (c ≡ j) → (most k : ℕ) → long d k j < most →
        GrazedBy d c j k → ⊥
    down j i cj zero k h g = omega arith
    down j i cj (suc most) k h g = never j k i cj g (λ m less. down j i cj most m (omega arith))

    -- ---- the statement
    pub spoke_clear : (j : ℕ) → In j (f ∷ s) → ¬ (c ≡ j) → (k : ℕ) → k < corners d → ¬ (k ≡ c) → ¬ (k ≡ j) →
        ¬ On (corner d k) (corner d c) (corner d j)
    spoke_clear j i cj k hk kc kj o =
        down j i cj (suc (long d k j)) k (omega arith)
        (record { below = hk; not_i = kc; not_j = kj; on = o })
