-- From the far corner b of a chord on, along the drawing's own sides: they leave its chain at b to the other side than
-- the one inside its angles, and never meet it again. So the corners after b have the value that is not left of it.
--
--           w
--         /        The line ba parts b's own angle in the drawing, and the side from b on lies outside the part that
--       b --- a    the chain has of it.
--        \   /
use Rattle.std.specs.Prelude.{◌≡◌, refl, not, List, ℕ, zero, suc, ◌+◌, ◌<◌, ◌≤◌, ℤ}
use Rattle.std.proofs.Common.{sym, ◌∙◌, ap, subst, inl, inr, arith}
use Rattle.std.proofs.Math.Decide.{ℕ_discrete}
use Rattle.whole.specs.Order.{Positive, below, <ℤ_le}
use Rattle.outline.specs.Drawing.{Point, Shared, SharedOnlyAt, InsideAngle, corner, corners, after, prev, EndsAt}
use Rattle.outline.specs.Segments.{exchanged, turned_first, only_exchanged, only_first}
use Rattle.outline.specs.Ends.{OnlyEnd, only_complete}
use Rattle.outline.specs.Round.{next_inner}
use Rattle.outline.specs.Parity.{odd}
use Rattle.outline.specs.ParityRound.{same_parity}
use Rattle.outline.specs.Along.{len2, apart_length}
use Rattle.outline.specs.CornersApart.{corners_apart}
use Rattle.outline.specs.Directions.{Away}
use Rattle.outline.specs.CornerTells.{Verdict, within, without}
use Rattle.outline.specs.AtCorner.{turns}
use Rattle.outline.specs.Past.{Past, only_start}
use Rattle.outline.specs.Parted.{parted}
use Rattle.outline.specs.Chord.{Chord, chain, on_chain, at_last, closed, after_is, clear, side_of, at_next}
use Rattle.outline.specs.Chord.{left_of}
use Rattle.outline.specs.Outlook.{value_at}

module _ {d : List ℤ} {a m : ℕ} (chord : Chord d a m) where
  abbrev b : ℕ
  b = a + m

  abbrev c : ℕ → Point
  c = chain d a m

  -- ---- from b on, along the drawing's sides
  -- no corner after b is met by the chain's sides
  module _ (w : ℕ) (bw : b < w) (wn : w < corners d) where
    free_side : (k : ℕ) → b < k → k < w → (i : ℕ) → i < suc m →
        ¬ Shared (corner d k) (corner d (suc k)) (c i) (c (suc i))
    free_side k h g i hi =
        side_of chord (λ j p q. ¬ Shared (corner d k) (corner d (suc k)) p q) sides line i hi
      where
        next_k : after d k ≡ suc k
        next_k = next_inner (corners d) k (omega (arith, g, wn))

        sides : (j : ℕ) → a ≤ j → j < b → ¬ Shared (corner d k) (corner d (suc k)) (corner d j) (corner d (after d j))
        sides j l f t =
            chord.simple.others k j (omega (arith, g, wn)) (omega (arith, f, chord.small))
            (λ e. omega (arith, e, h, f))
            (λ e. omega (arith, e, next_k, h, f)) (λ e. omega (arith, e, after_is chord j (omega arith), h, f))
            (subst (λ z. Shared (corner d k) (corner d z) (corner d j) (corner d (after d j))) (sym next_k) t)

        line : ¬ Shared (corner d k) (corner d (suc k)) (corner d b) (corner d a)
        line t =
            (clear chord).others k (omega (arith, g, wn)) far_a far_b
            (turned_first (exchanged
            (subst (λ z. Shared (corner d k) (corner d z) (corner d b) (corner d a)) (sym next_k) t)))
          where
            far_a : ¬ EndsAt d k a
            far_a (inl e) = omega (arith, e, h)
            far_a (inr e) = omega (arith, e, next_k, h)

            far_b : ¬ EndsAt d k b
            far_b (inl e) = omega (arith, e, h)
            far_b (inr e) = omega (arith, e, next_k, h)

    pub along_sides : (p k : ℕ) → b < k → k + p ≡ w → odd c (corner d k) (suc m) ≡ odd c (corner d w) (suc m)
    along_sides zero k h e = ap (λ i. odd c (corner d i) (suc m)) (omega arith)
    along_sides (suc p) k h e =
        same_parity c (suc m) (closed chord) (corner d k) (corner d (suc k)) (free_side k h (omega arith))
        ∙ along_sides p (suc k) (omega arith) (omega arith)

    -- at b they leave to the other side than the one where the chain's sides have it
    pub leaves : (s : ℕ) → suc s ≡ m → odd c (corner d (suc b)) (suc m) ≡ not (left_of chord m)
    leaves s e =
        told (subst (λ i. Verdict (left_of chord i) (InsideAngle (c s) (c (suc s)) (c (suc (suc s))) J)
        (odd c J (suc m))) e
        (value_at chord s (omega arith) J differs next_only last_only free))
      where
        hs : s < m
        hs = omega arith

        J : Point
        J = corner d (suc b)

        hb : b < corners d
        hb = omega (arith, chord.small)

        next_b : after d b ≡ suc b
        next_b = after_is chord b (omega arith)

        at_b : c (suc s) ≡ corner d b
        at_b = at_next chord s hs ∙ ap (corner d) (omega (arith, e))

        at_a : c (suc (suc s)) ≡ corner d a
        at_a = ap (λ i. c (suc i)) e ∙ at_last chord

        b_is : suc (a + s) ≡ b
        b_is = omega (arith, e)

        at_p : c s ≡ corner d (prev (corners d) b)
        at_p = on_chain chord s (omega arith) ∙ ap (λ k. corner d (prev (corners d) k)) b_is

        differs : ¬ (corner d (suc (a + s)) ≡ J)
        differs =
            corners_apart d chord.simple (suc (a + s)) (suc b) (omega arith) (omega arith)
            (λ q. omega (arith, q, e))

        -- the side from b on and the line ba share b only
        line_only : SharedOnlyAt (corner d b) (corner d b) J (corner d b) (corner d a)
        line_only =
            only_exchanged (only_first
            (subst (λ z. SharedOnlyAt (corner d b) (corner d a) (corner d b) (corner d b) (corner d z)) next_b
            ((clear chord).ends_at_j b hb (inl refl))))

        next_only : OnlyEnd (c (suc s)) J (c (suc (suc s)))
        next_only =
            subst (λ z. OnlyEnd z J (c (suc (suc s)))) (sym at_b)
            (subst (OnlyEnd (corner d b) J) (sym at_a) (only_complete line_only))

        last_only : OnlyEnd (c (suc s)) J (c s)
        last_only t = <ℤ_le (below (away t))
          where
            away : Away (c (suc s)) J (c s)
            away =
                subst (λ z. Away z J (c s)) (sym at_b)
                (subst (λ z. Away (corner d b) z (c s)) (ap (corner d) next_b)
                (subst (Away (corner d b) (corner d (after d b))) (sym at_p) (turns d chord.simple b hb)))

        free : (i : ℕ) → i < suc m → Past (c (suc s)) J (c i) (c (suc i)) → ⊥
        free i hi t =
            side_of chord (λ j p q. Past (corner d b) J p q → ⊥) sides line i hi
            (subst (λ z. Past z J (c i) (c (suc i))) at_b t)
          where
            len : Positive (len2 (corner d b) J)
            len =
                apart_length (corner d b) J (corners_apart d chord.simple b (suc b) hb chord.small
                (λ q. omega (arith, q)))

            sides : (j : ℕ) → a ≤ j → j < b → Past (corner d b) J (corner d j) (corner d (after d j)) → ⊥
            sides j g f t = go (ℕ_discrete (suc j) b)
              where
                next_j : after d j ≡ suc j
                next_j = after_is chord j (omega arith)

                go : Dec (suc j ≡ b) → ⊥
                go (yes q) =
                    only_start (corner d b) J (corner d j) (corner d (after d j)) len
                    (only_exchanged (subst (λ k. SharedOnlyAt (corner d b) (corner d j) (corner d (after d j))
                    (corner d b) (corner d k)) next_b
                    (subst (λ k. SharedOnlyAt (corner d k) (corner d j) (corner d (after d j)) (corner d k)
                    (corner d (after d k))) (next_j ∙ q) (chord.simple.neighbours j
                    (omega (arith, f, chord.small)))))) t
                go (no q) =
                    chord.simple.others b j hb (omega (arith, f, chord.small)) (λ p. omega (arith, p, f))
                    (λ p. omega (arith, p, next_b, f)) (λ p. q (sym next_j ∙ p))
                    (subst (λ k. Shared (corner d b) (corner d k) (corner d j) (corner d (after d j))) (sym next_b)
                    t.at)

            line : Past (corner d b) J (corner d b) (corner d a) → ⊥
            line = only_start (corner d b) J (corner d b) (corner d a) len line_only

        told : Verdict (left_of chord m) (InsideAngle (c s) (c (suc s)) (c (suc (suc s))) J) (odd c J (suc m)) →
            odd c J (suc m) ≡ not (left_of chord m)
        told (without n q) = q
        told (within i q) =
            absurd (parted (c s) (c (suc s)) J (c (suc (suc s)))
            (subst (λ z. InsideAngle z (c (suc s)) J (c (suc (suc s)))) (sym at_p)
            (subst (λ z. InsideAngle (corner d (prev (corners d) b)) z J (c (suc (suc s)))) (sym at_b)
            (subst (λ z. InsideAngle (corner d (prev (corners d) b)) (corner d b) J z) (sym at_a)
            (subst (λ z. InsideAngle (corner d (prev (corners d) b)) (corner d b) (corner d z) (corner d a)) next_b
            (clear chord).angle_at_j)))) i)
