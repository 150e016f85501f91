-- Two lines of strict sight whose corners take turns round a simple drawing share a point: of a < u < b < w, if a sees
-- b and u sees w, the segments ab and uw meet.
--
--          w           The corners from a to b, closed by the line ba, are an outline of their own (`Chord`). Had the
--        /   \         segments no point in common, u would look at w along a line that leaves it nowhere, so w is on
--      b ---- a        the inner side of u's angle; and the way from b on to w, along the drawing's own sides, leaves
--       \    /         it at b to the other side and never meets it again.
--        \u /
use Rattle.std.specs.Prelude.{◌≡◌, Bool, true, false, not, List, ℕ, suc, ◌+◌, ◌-◌, ◌<◌, ◌≤◌, ℤ}
use Rattle.std.proofs.Common.{sym, ◌∙◌, ap, subst, true≢false, inl, inr, arith}
use Rattle.std.proofs.Math.Logic.{by_cases}
use Rattle.std.proofs.Math.Decide.{ℕ_discrete, dec_lt}
use Rattle.outline.specs.Drawing.{Point, Shared, InsideAngle, Simple, corner, corners, after, EndsAt, Beside}
use Rattle.outline.specs.Drawing.{Clear, Sees}
use Rattle.outline.specs.Ends.{OnlyEnd}
use Rattle.outline.specs.Round.{next_inner, next_last}
use Rattle.outline.specs.Seeing.{clear_sight, clear_passes}
use Rattle.outline.specs.Parity.{odd}
use Rattle.outline.specs.Along.{apart_length}
use Rattle.outline.specs.CornersApart.{corners_apart}
use Rattle.outline.specs.CornerTells.{Verdict, within, without}
use Rattle.outline.proofs.HalfWay.{off_after, off_before}
use Rattle.outline.specs.Past.{Past, only_start}
use Rattle.outline.specs.Chord.{Chord, chain, on_chain, after_is, side_of, at_next, left_of, one_left}
use Rattle.outline.specs.Outlook.{value_at}
use Rattle.outline.specs.Leaving.{along_sides, leaves}

module _ {d : List ℤ} {a m : ℕ} (chord : Chord d a m) where
  abbrev b : ℕ
  b = a + m

  abbrev c : ℕ → Point
  c = chain d a m

  -- ---- a corner of the chain that sees w has w on the side of its angle
  module _ (w : ℕ) (bw : b < w) (wn : w < corners d) (s : ℕ) (hs : suc s < m) (sees_w : Sees d (suc (a + s)) w)
      (never : ¬ Shared (corner d (suc (a + s))) (corner d w) (corner d b) (corner d a)) where
    hu : suc (a + s) < corners d
    hu = omega (arith, hs, chord.small)

    next_u : after d (suc (a + s)) ≡ suc (suc (a + s))
    next_u = after_is chord (suc (a + s)) (omega arith)

    apart_w : ¬ Beside d (suc (a + s)) w
    apart_w (inl e) = omega (arith, e, bw, hs)
    apart_w (inr (inl e)) = omega (arith, e, next_u, bw, hs)
    apart_w (inr (inr e)) =
        by_cases (dec_lt (suc w) (corners d)) (λ h. omega (arith, e, next_inner (corners d) w h, bw, hs))
        (λ h. omega (arith, e, next_last (corners d) w (omega (arith, h, wn))))

    look : Clear d (suc (a + s)) w
    look = clear_sight apart_w sees_w

    abbrev J : Point
    J = corner d w

    at_u : c (suc s) ≡ corner d (suc (a + s))
    at_u = at_next chord s (omega arith)

    at_q : c (suc (suc s)) ≡ corner d (after d (suc (a + s)))
    at_q = on_chain chord (suc (suc s)) (omega arith) ∙ ap (corner d) (omega (arith, next_u))

    at_p : c s ≡ corner d (a + s)
    at_p = on_chain chord s (omega arith)

    free : (i : ℕ) → i < suc m → Past (c (suc s)) J (c i) (c (suc i)) → ⊥
    free i hi t =
        side_of chord (λ j p q. Past (corner d (suc (a + s))) J p q → ⊥) sides (λ t. never t.at) i hi
        (subst (λ z. Past z J (c i) (c (suc i))) at_u t)
      where
        sides : (j : ℕ) → a ≤ j → j < b → Past (corner d (suc (a + s))) J (corner d j) (corner d (after d j)) → ⊥
        sides j g f t = go (ℕ_discrete j (suc (a + s))) (ℕ_discrete j (a + s))
          where
            hj : j < corners d
            hj = omega (arith, f, chord.small)

            next_j : after d j ≡ suc j
            next_j = after_is chord j (omega arith)

            at_u_only : EndsAt d j (suc (a + s)) → ⊥
            at_u_only e =
                only_start (corner d (suc (a + s))) J (corner d j) (corner d (after d j))
                (apart_length (corner d (suc (a + s))) J
                (corners_apart d chord.simple (suc (a + s)) w hu wn (λ q. apart_w (inl q))))
                (look.ends_at_i j hj e) t

            not_u : ¬ (j ≡ suc (a + s)) → ¬ (j ≡ a + s) → ¬ EndsAt d j (suc (a + s))
            not_u n1 n2 (inl e) = n1 e
            not_u n1 n2 (inr e) = n2 (omega (arith, e, next_j))

            not_w : ¬ EndsAt d j w
            not_w (inl e) = omega (arith, e, f, bw)
            not_w (inr e) = omega (arith, e, next_j, f, bw)

            go : Dec (j ≡ suc (a + s)) → Dec (j ≡ a + s) → ⊥
            go (yes e) r = at_u_only (inl e)
            go (no n1) (yes e) = at_u_only (inr (omega (arith, e, next_j)))
            go (no n1) (no n2) = look.others j hj (not_u n1 n2) not_w t.at

    looks_in : odd c (corner d w) (suc m) ≡ left_of chord (suc s)
    looks_in =
        told (value_at chord s (omega arith) J (corners_apart d chord.simple (suc (a + s)) w hu wn
        (λ q. apart_w (inl q)))
        (subst (λ z. OnlyEnd z J (c (suc (suc s)))) (sym at_u) (subst (OnlyEnd (corner d (suc (a + s))) J) (sym at_q)
        (off_after d chord.simple (suc (a + s)) w hu wn apart_w (clear_passes look))))
        (subst (λ z. OnlyEnd z J (c s)) (sym at_u) (subst (OnlyEnd (corner d (suc (a + s))) J) (sym at_p)
        (off_before d chord.simple (suc (a + s)) w hu wn apart_w (clear_passes look)))) free)
      where
        told : Verdict (left_of chord (suc s)) (InsideAngle (c s) (c (suc s)) (c (suc (suc s))) J)
            (odd c J (suc m)) → odd c J (suc m) ≡ left_of chord (suc s)
        told (within i q) = q
        told (without n q) =
            absurd (n (subst (λ z. InsideAngle z (c (suc s)) (c (suc (suc s))) J) (sym at_p)
            (subst (λ z. InsideAngle (corner d (a + s)) z (c (suc (suc s))) J) (sym at_u)
            (subst (λ z. InsideAngle (corner d (a + s)) (corner d (suc (a + s))) z J) (sym at_q)
            look.angle_at_i))))

    both_sides : ⊥
    both_sides =
        differ (left_of chord m)
        (sym (one_left chord (m - suc s) (suc s) (omega arith)) ∙ sym looks_in
        ∙ sym (along_sides chord w bw wn (w - suc b) (suc b) (omega arith) (omega arith)) ∙ leaves chord w bw wn
        (m - 1) (omega arith))
      where
        differ : (t : Bool) → t ≡ not t → ⊥
        differ true e = true≢false e
        differ false e = true≢false (sym e)

-- ---- the statement
pub interleaved_meet : (d : List ℤ) → Simple d → (a i b w : ℕ) → a < i → i < b → b < w → w < corners d →
    Sees d a b → Sees d i w → ¬ ¬ Shared (corner d i) (corner d w) (corner d b) (corner d a)
interleaved_meet d simple a i b w ai ib bw wn s t never =
    both_sides
    (record { simple = simple; small = omega (arith, b_is); wide = omega arith; sees = subst (Sees d a) (sym b_is) s })
    w
    (omega (arith, b_is)) wn (i - suc a) (omega arith) (subst (λ k. Sees d k w) (sym i_is) t)
    (subst (λ k. ¬ Shared (corner d k) (corner d w) (corner d (a + (b - a))) (corner d a)) (sym i_is)
    (subst (λ k. ¬ Shared (corner d i) (corner d w) (corner d k) (corner d a)) (sym b_is) never))
  where
    b_is : a + (b - a) ≡ b
    b_is = omega arith

    i_is : suc (a + (i - suc a)) ≡ i
    i_is = omega arith
