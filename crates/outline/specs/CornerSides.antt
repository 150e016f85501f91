-- At a corner W of a simple closed outline the value left of the side s that ends there is the value left of the side
-- t that begins there.
--
--        q
--  left   \ t
--          \
--   p ----- W
--       s
use Rattle.std.specs.Prelude.{◌≡◌, refl, Bool, true, false, not, [], ◌∷◌, ℕ, suc, ℤ, pos, neg_ℤ, ◌+ℤ◌, ◌-ℤ◌, ◌*ℤ◌, ◌≤ℤ◌}
use Rattle.std.proofs.Common.{sym, ◌∙◌, ap, ap₂, subst}
use Rattle.std.proofs.Math.IntN.{*ℤ-zero}
use Rattle.whole.specs.Ring.{v, ◌:+◌, ◌:-◌, ◌:*◌, neg, ring, ring1, by_ring}
use Rattle.whole.specs.Order.{Positive, Sign, plus, nought, minus, sign, positive_pos}
use Rattle.outline.specs.Drawing.{Point, turn_of}
use Rattle.outline.specs.Segments.{Dot}
use Rattle.outline.specs.Spell.{A, B, C, O, I, env4, TurnE, DotE}
use Rattle.outline.specs.Odd.{◌⊕◌}
use Rattle.outline.specs.Parity.{out}
use Rattle.outline.specs.Xor.{⊕-same}
use Rattle.outline.specs.Scale.{len_scale}
use Rattle.outline.specs.Near.{near}
use Rattle.outline.specs.Compare.{first_part}
use Rattle.outline.specs.TruthSums.{not_not, ⊕-across}
use Rattle.outline.specs.Directions.{right_left}
use Rattle.outline.specs.Inner.{Inner, inner_turned, inner_line, inner_near}
use Rattle.outline.specs.Rising.{Rises, rise, rises, rises_turned, rises_like, rises_once}
use Rattle.outline.specs.SideChanges.{Changes, changes_back, changes_turned, line_changes}
use Rattle.outline.specs.Value.{value, value_of, left}
use Rattle.outline.specs.NearCorner.{Corner, close, Far, far_all, settled}
use Rattle.outline.specs.Ray.{above_one, turn_from, turn_to, from_left, from_right}

-- ---- a side K times as far out
rises_out : (K : ℤ) (a b : Point) → Positive K → {e : Bool} → Rises a b e → Rises (out K a) (out K b) e
rises_out K a b K+ r =
    rises_like a b (out K a) (out K b) K (pos 1) K+ (positive_pos 0) (axis a.x b.x) (axis a.y b.y) r
  where
    axis : (a b : ℤ) → K *ℤ (b -ℤ a) ≡ pos 1 *ℤ (K *ℤ b -ℤ K *ℤ a)
    axis a b = ring (K ∷ a ∷ b ∷ []) (v 0 :* (v 2 :- v 1)) (I :* (v 0 :* v 2 :- v 0 :* v 1)) refl

module _ (c : ℕ → Point) (n s t : ℕ) (here : Corner c n s t) where
  abbrev W : Point
  W = c t

  abbrev p : Point
  p = c s

  abbrev q : Point
  q = c (suc t)

  -- ---- the two sides themselves
  q_length : Positive (Dot W q q)
  q_length = here.simple.ends t here.t_below

  p_length : Positive (Dot p W W)
  p_length = subst (λ w. Positive (Dot p w w)) here.joined (here.simple.ends s here.s_below)

  module _ (K : ℤ) (big : Positive (K -ℤ pos 1)) where
    abbrev K+ : Positive K
    K+ = above_one K big

    pub close_q : close c n (c t) K (c (suc t)) ≡ value c n t
    close_q = value_of c n here.closed here.simple K K+ t here.t_below (near W K q) (inner_near W q K big)

    inner_p : Inner (near W K p) (out K p) (out K W)
    inner_p = inner_turned (inner_near W p K big)

    pub close_p : close c n (c t) K (c s) ≡ value c n s
    close_p =
        value_of c n here.closed here.simple K K+ s here.s_below (near W K p)
        (subst (λ w. Inner (near W K p) (out K p) (out K w)) (sym here.joined) inner_p)

    rises_q : Rises (out K W) (out K q) (rise W q)
    rises_q = rises_out K W q K+ (rises W q q_length)

    rises_p : Rises (out K p) (out K W) (rise p W)
    rises_p = rises_out K p W K+ (rises p W p_length)

    -- from a direction z left or right of a side to that side
    pub q_left : (z : Point) → Positive (turn_of (c t) (c (suc t)) z) →
        Changes (near (c t) K z) (near (c t) K (c (suc t))) (out K (c t)) (out K (c (suc t))) (rise (c t) (c (suc t)))
    q_left z h = from_left W z q K big h rises_q

    pub q_right : (z : Point) → Positive (turn_of (c t) z (c (suc t))) →
        Changes (near (c t) K z) (near (c t) K (c (suc t))) (out K (c t)) (out K (c (suc t)))
        (not (rise (c t) (c (suc t))))
    q_right z h =
        changes_turned (near W K z) (near W K q) (out K q) (out K W) (not (rise W q))
        (from_right W z q K big h (rises_turned rises_q))

    pub p_left : (z : Point) → Positive (turn_of (c t) z (c s)) →
        Changes (near (c t) K z) (near (c t) K (c s)) (out K (c s)) (out K (c t)) (rise (c s) (c t))
    p_left z h = from_right W z p K big h rises_p

    pub p_right : (z : Point) → Positive (turn_of (c t) (c s) z) →
        Changes (near (c t) K z) (near (c t) K (c s)) (out K (c s)) (out K (c t)) (not (rise (c s) (c t)))
    p_right z h =
        changes_turned (near W K z) (near W K p) (out K W) (out K p) (not (rise p W))
        (from_left W z p K big h (rises_turned rises_p))

    -- both on one line
    on_p : turn_of W q p ≡ pos 0 → turn_of (out K p) (out K W) (near W K q) ≡ pos 0
    on_p e = sym (turn_to W q p K) ∙ ap (λ z. K *ℤ z) e ∙ *ℤ-zero K

    on_q : turn_of W q p ≡ pos 0 → turn_of (out K W) (out K q) (near W K p) ≡ pos 0
    on_q e = sym (turn_from W p q K) ∙ ap (λ z. K *ℤ z) e ∙ *ℤ-zero K

  -- straight on, the two sides rise alike
  same_rise : turn_of W q p ≡ pos 0 → rise p W ≡ rise W q
  same_rise e =
      rises_once W q
      (rises_like p W W q (neg_ℤ (Dot W q p)) (Dot p W W) (here.turns e) p_length
      (ring1 (env4 W q p p) (neg (DotE A B C) :* (A.x :- C.x)) (DotE C A A :* (B.x :- A.x)) (neg (C.y :- A.y))
      (TurnE A B C) O e refl)
      (ring1 (env4 W q p p) (neg (DotE A B C) :* (A.y :- C.y)) (DotE C A A :* (B.y :- A.y)) (C.x :- A.x)
      (TurnE A B C) O e refl)
      (rises p W p_length))
      (rises W q q_length)

  -- ---- the value left of the two sides
  pub same_left : left c n s ≡ left c n t
  same_left =
      ap (λ w. value c n s ⊕ rise p w) here.joined
      ∙ ⊕-across (value c n s) (value c n t) (rise p W) (rise W q)
      (ap₂ ◌⊕◌ (sym (close_p K big)) (sym (close_q K big)) ∙ go (sign (turn_of W q p)))
    where
      f : Far c n s t here p q n
      f = far_all c n s t here p q

      K : ℤ
      K = f.N +ℤ pos 1

      big : Positive (K -ℤ pos 1)
      big = by_ring (f.N ∷ []) Positive (v 0) (v 0 :+ I :- I) refl f.N+

      enough : f.N ≤ℤ K
      enough = first_part f.N (pos 1) (positive_pos 0)

      not_both : (a b : Bool) → not a ⊕ not b ≡ a ⊕ b
      not_both true b = refl
      not_both false b = not_not b

      go : Sign (turn_of W q p) → close c n W K p ⊕ close c n W K q ≡ rise p W ⊕ rise W q
      go (plus h) =
          settled c n s t here p q f K enough (rise p W) (rise W q) (changes_back (p_left K big q h))
          (q_left K big p h)
      go (minus h) =
          settled c n s t here p q f K enough (not (rise p W)) (not (rise W q))
          (changes_back (p_right K big q (right_left W q p h))) (q_right K big p (right_left W q p h))
          ∙ not_both (rise p W) (rise W q)
      go (nought e) =
          settled c n s t here p q f K enough false false
          (line_changes (near W K p) (near W K q) (out K p) (out K W) (len_scale K p W (above_one K big) p_length)
          (inner_line (inner_p K big)) (on_p K big e))
          (line_changes (near W K p) (near W K q) (out K W) (out K q) (len_scale K W q (above_one K big) q_length)
          (on_q K big e) (inner_line (inner_near W q K big)))
          ∙ sym (ap (λ z. rise p W ⊕ z) (sym (same_rise e)) ∙ ⊕-same (rise p W))
