-- At a corner W of a simple closed outline a direction J, along neither side, tells whether it lies inside the angle:
-- close to W the parity there is the value left of the sides exactly where J is inside.
--
--       q      J             The segment between the near points of J and of q (or of p) meets
--        \    /              the other side at W or not, as the turns at W say.
--         \  /
--   p ---- W
use Rattle.std.specs.Prelude.{◌≡◌, refl, Bool, true, false, not, [], ◌∷◌, ℕ, suc, ℤ, pos, neg_ℤ, ◌+ℤ◌, ◌-ℤ◌, ◌≤ℤ◌}
use Rattle.std.proofs.Common.{sym, ◌∙◌, ap, subst, inl, inr}
use Rattle.std.proofs.Math.Decide.{ℕ_discrete}
use Rattle.whole.specs.Ring.{v, ◌:+◌, ◌:-◌, by_ring}
use Rattle.whole.specs.Order.{Nonneg, Positive, Sign, plus, nought, minus, sign, nonneg_pos, positive_nonneg}
use Rattle.whole.specs.Order.{positive_add, positive_pred}
use Rattle.outline.specs.Drawing.{Point, turn_of, InsideAngle}
use Rattle.outline.specs.Segments.{turned_first, Dot}
use Rattle.outline.specs.Spell.{I}
use Rattle.outline.specs.Placed.{On, on_turn, touch_meets}
use Rattle.outline.specs.Odd.{◌⊕◌}
use Rattle.outline.specs.Parity.{out, large, OnSide}
use Rattle.outline.specs.Xor.{⊕-move, ⊕-no}
use Rattle.outline.specs.Near.{near}
use Rattle.outline.specs.Compare.{plus_off, both_signs, first_part, second_part}
use Rattle.outline.specs.TruthSums.{⊕-yes, not_not, ⊕-solve}
use Rattle.outline.specs.Directions.{right_left, left_right, in_line_back, Away, left_of_other, right_of_other}
use Rattle.outline.specs.AngleAt.{in_sharp, in_wide, out_sharp, out_wide, not_folded}
use Rattle.outline.specs.Rising.{rise}
use Rattle.outline.specs.SideChanges.{Changes, changes_back, changes_turned, apart_changes, thru_changes}
use Rattle.outline.specs.Value.{value, left}
use Rattle.outline.specs.Ray.{above_one, Beyond, behind, before_I, past_J, ray_apart, ray_thru, ray_off}
use Rattle.outline.specs.NearCorner.{Corner, close, Far, far_all, settled}
use Rattle.outline.specs.CornerSides.{close_q, close_p, q_left, q_right, p_left, p_right, same_left}

-- o is l where A holds, and not l where it does not
pub data Verdict (l : Bool) (A : Type 0) (o : Bool) : Type 0 where
  within : A → o ≡ l → Verdict l A o
  without : ¬ A → o ≡ not l → Verdict l A o

-- close to the corner W between p and q, on the way from it to J
pub record Close (c : ℕ → Point) (n : ℕ) (l : Bool) (p W q J : Point) : Type 0 where
  pub K : ℤ
  pub K-big : Positive (K -ℤ pos 1)
  pub told : Verdict l (InsideAngle p W q J) (close c n W K J)
  pub on_no_side : ¬ OnSide (large K c) n (near W K J)

module _ (c : ℕ → Point) (n s t : ℕ) (here : Corner c n s t) (J : Point) (long : Positive (Dot (c t) J J))
    (off_q : Away (c t) J (c (suc t))) (off_p : Away (c t) J (c s)) where
  abbrev W : Point
  W = c t

  abbrev p : Point
  p = c s

  abbrev q : Point
  q = c (suc t)

  abbrev Inside : Type 0
  Inside = InsideAngle p W q J

  abbrev l : Bool
  l = left c n t

  abbrev Closely : Type 0
  Closely = Close c n l p W q J

  abbrev Told : ℤ → Type 0
  Told K = Verdict l Inside (close c n W K J)

  -- ---- the near point of J is on no side
  off_all : (z : Point) (f : Far c n s t here J z n) (K : ℤ) → f.N ≤ℤ K → Positive K →
      ¬ OnSide (large K c) n (near W K J)
  off_all z f K h K+ o = go (ℕ_discrete o.m s) (ℕ_discrete o.m t)
    where
      On-side : ℕ → Type 0
      On-side m = On (near W K J) (out K (c m)) (out K (c (suc m)))

      go : Dec (o.m ≡ s) → Dec (o.m ≡ t) → ⊥
      go (yes e) u =
          ray_off W p J K K+ off_p
          (on_turn (subst (λ w. On (near W K J) (out K p) (out K w)) here.joined (subst On-side e o.on)))
      go (no e) (yes u) = ray_off W q J K K+ off_q (subst On-side u o.on)
      go (no e) (no u) =
          f.far o.m o.below e u K h
          (touch_meets (near W K J) (near W K z) (out K (c o.m)) (out K (c (suc o.m))) (inr (inl o.on)))

  -- K from two numbers that it has to reach
  chosen : (z : Point) (f : Far c n s t here J z n) (T : ℤ) → Positive T →
      ((K : ℤ) → Positive (K -ℤ pos 1) → f.N ≤ℤ K → T ≤ℤ K → Told K) → Closely
  chosen z f T T+ told = record {
    K = f.N +ℤ T;
    K-big = big;
    told = told (f.N +ℤ T) big (first_part f.N T T+) (second_part f.N T f.N+);
    on_no_side = off_all z f (f.N +ℤ T) (first_part f.N T T+) (above_one (f.N +ℤ T) big);
  }
    where
      big : Positive (f.N +ℤ T -ℤ pos 1)
      big =
          by_ring (f.N ∷ T ∷ []) Positive (v 0 :+ (v 1 :- I)) (v 0 :+ v 1 :- I) refl
          (positive_add f.N+ (positive_pred T+))

  -- the parity at J, by way of q: side t changes it by r, side s by e; and by way of p
  by_q : (f : Far c n s t here J q n) (K : ℤ) → Positive (K -ℤ pos 1) → f.N ≤ℤ K → (r e : Bool) →
      Changes (near W K J) (near W K q) (out K W) (out K q) r →
      Changes (near W K J) (near W K q) (out K p) (out K W) e → close c n W K J ≡ (value c n t ⊕ r) ⊕ e
  by_q f K big h r e at_t at_s =
      ⊕-solve (close c n W K J) (value c n t) e r
      (ap (λ z. close c n W K J ⊕ z) (sym (close_q c n s t here K big))
      ∙ settled c n s t here J q f K h e r at_s at_t)

  by_p : (f : Far c n s t here J p n) (K : ℤ) → Positive (K -ℤ pos 1) → f.N ≤ℤ K → (r : Bool) →
      Changes (near W K J) (near W K p) (out K p) (out K W) r →
      Changes (near W K J) (near W K p) (out K W) (out K q) false → close c n W K J ≡ value c n s ⊕ r
  by_p f K big h r at_s at_t =
      ⊕-solve (close c n W K J) (value c n s) r false
      (ap (λ z. close c n W K J ⊕ z) (sym (close_p c n s t here K big))
      ∙ settled c n s t here J p f K h r false at_s at_t)
      ∙ ap (λ z. z ⊕ r) (⊕-no (value c n s))

  nought_behind : {z : ℤ} → z ≡ pos 0 → Nonneg (neg_ℤ z)
  nought_behind e = subst (λ z. Nonneg (neg_ℤ z)) (sym e) (nonneg_pos 0)

  -- ---- J left of the side to q
  left_case : Positive (turn_of W q J) → (f : Far c n s t here J q n) → Closely
  left_case on_left f =
      chosen q f (turn_of W q J) on_left (λ K big h k. go K big h k (sign (turn_of W q p)) (sign (turn_of W p J)))
    where
      go : (K : ℤ) → Positive (K -ℤ pos 1) → f.N ≤ℤ K → turn_of W q J ≤ℤ K → Sign (turn_of W q p) →
          Sign (turn_of W p J) →
          Told K
      go K big h k = at
        where
          K+ : Positive K
          K+ = above_one K big

          passed : Beyond (turn_of W q p) (turn_of W p J) → close c n W K J ≡ l
          passed b =
              by_q f K big h (rise W q) false (q_left c n s t here K big J on_left)
              (changes_back
              (apart_changes (near W K q) (near W K J) (out K p) (out K W) (ray_apart W q J p K K+ on_left b)))
              ∙ ⊕-no l

          crossed : Positive (turn_of W q p) → Positive (turn_of W p J) → close c n W K J ≡ not l
          crossed x y =
              by_q f K big h (rise W q) true (q_left c n s t here K big J on_left)
              (changes_back
              (thru_changes (near W K q) (near W K J) (out K p) (out K W) (ray_thru W q J p K K+ on_left x y k)))
              ∙ ⊕-yes l

          wide : ¬ Positive (turn_of W q p) → Inside
          wide x = in_wide p W q J x (inr on_left)

          at : Sign (turn_of W q p) → Sign (turn_of W p J) → Told K
          at (plus x) (plus y) =
              without (out_sharp p W q J x (λ i. both_signs y (left_right W J p i.0))) (crossed x y)
          at (plus x) (minus y) = within (in_sharp p W q J x (right_left W p J y) on_left) (passed (past_J x y))
          at (plus x) (nought y) =
              let e = in_line_back W p J y in both_signs x (right_of_other W J p q e (off_p e) on_left)
          at (minus x) (plus y) = within (wide (λ z. both_signs z x)) (passed (before_I x y))
          at (minus x) (minus y) =
              within (wide (λ z. both_signs z x)) (passed (behind (positive_nonneg x) (positive_nonneg y)))
          at (minus x) (nought y) =
              within (wide (λ z. both_signs z x)) (passed (behind (positive_nonneg x) (nought_behind y)))
          at (nought x) y =
              within (wide (λ z. plus_off z x))
              (passed (behind (nought_behind x) (positive_nonneg (left_of_other W q p J x (here.turns x) on_left))))

  -- ---- J right of it
  right_case : Positive (turn_of W J q) → (f : Far c n s t here J q n) → Closely
  right_case on_right f =
      chosen q f (turn_of W J q) on_right (λ K big h k. go K big h k (sign (turn_of W J p)) (sign (turn_of W p q)))
    where
      go : (K : ℤ) → Positive (K -ℤ pos 1) → f.N ≤ℤ K → turn_of W J q ≤ℤ K → Sign (turn_of W J p) →
          Sign (turn_of W p q) →
          Told K
      go K big h k = at
        where
          K+ : Positive K
          K+ = above_one K big

          with_s : (e : Bool) → Changes (near W K J) (near W K q) (out K p) (out K W) e →
              close c n W K J ≡ not l ⊕ e
          with_s e at_s =
              by_q f K big h (not (rise W q)) e (q_right c n s t here K big J on_right) at_s
              ∙ ap (λ z. z ⊕ e) (⊕-move (value c n t) (rise W q))

          passed : Beyond (turn_of W J p) (turn_of W p q) → close c n W K J ≡ not l
          passed b =
              with_s false
              (apart_changes (near W K J) (near W K q) (out K p) (out K W) (ray_apart W J q p K K+ on_right b))
              ∙ ⊕-no (not l)

          crossed : Positive (turn_of W J p) → Positive (turn_of W p q) → close c n W K J ≡ l
          crossed x y =
              with_s true
              (thru_changes (near W K J) (near W K q) (out K p) (out K W) (ray_thru W J q p K K+ on_right x y k))
              ∙ ⊕-yes (not l) ∙ not_not l

          -- J is not left of the side to q
          right : ¬ Positive (turn_of W q J)
          right h = both_signs h (left_right W J q on_right)

          sharp : Positive (neg_ℤ (turn_of W p q)) → ¬ Inside
          sharp y = out_sharp p W q J (right_left W p q y) (λ i. right i.1)

          wide : ¬ Positive (turn_of W q p) → Positive (neg_ℤ (turn_of W J p)) → ¬ Inside
          wide y x = out_wide p W q J y (λ h. both_signs h x) right

          at : Sign (turn_of W J p) → Sign (turn_of W p q) → Told K
          at (plus x) (plus y) =
              within (in_wide p W q J (λ h. both_signs h (left_right W p q y)) (inl x)) (crossed x y)
          at (plus x) (minus y) = without (sharp y) (passed (past_J x y))
          at (plus x) (nought y) =
              let e = in_line_back W p q y in both_signs x (right_of_other W q p J e (here.turns e) on_right)
          at (minus x) (plus y) =
              without (wide (λ h. both_signs h (left_right W p q y)) x) (passed (before_I x y))
          at (minus x) (minus y) = without (sharp y) (passed (behind (positive_nonneg x) (positive_nonneg y)))
          at (minus x) (nought y) =
              without (wide (λ h. plus_off h (in_line_back W p q y)) x)
              (passed (behind (positive_nonneg x) (nought_behind y)))
          at (nought x) y =
              let z = left_of_other W J p q x (off_p x) on_right in
              without (sharp z) (passed (behind (nought_behind x) (positive_nonneg z)))

  -- ---- J on the line of the side to q, away from it: by way of the side from p
  line_case : turn_of W q J ≡ pos 0 → Far c n s t here J p n → Sign (turn_of W p J) → Closely
  line_case e f = at
    where
      e' : turn_of W J q ≡ pos 0
      e' = in_line_back W q J e

      left_p : value c n s ⊕ rise p W ≡ l
      left_p = ap (λ w. value c n s ⊕ rise p w) (sym here.joined) ∙ same_left c n s t here

      at : Sign (turn_of W p J) → Closely
      at (plus a) =
          let x = right_of_other W J q p e' (off_q e') a in
          chosen p f (turn_of W p J) a (λ K big h k.
          without (out_sharp p W q J (right_left W p q x) (λ i. plus_off i.1 e))
          (by_p f K big h (not (rise p W)) (p_right c n s t here K big J a)
          (changes_turned (near W K J) (near W K p) (out K q) (out K W) false
          (apart_changes (near W K J) (near W K p) (out K q) (out K W)
          (λ s. ray_apart W p J q K (above_one K big) a (behind (positive_nonneg x) (nought_behind e))
          (turned_first s))))
          ∙ ⊕-move (value c n s) (rise p W) ∙ ap not left_p))
      at (minus a) =
          let b = right_left W p J a in
          let y = left_of_other W J q p e' (off_q e') b in
          chosen p f (turn_of W J p) b (λ K big h k.
          within (in_wide p W q J (λ z. both_signs z y) (inl b))
          (by_p f K big h (rise p W) (p_left c n s t here K big J b)
          (changes_turned (near W K J) (near W K p) (out K q) (out K W) false
          (apart_changes (near W K J) (near W K p) (out K q) (out K W)
          (ray_apart W J p q K (above_one K big) b (behind (nought_behind e') (positive_nonneg y)))))
          ∙ left_p))
      at (nought a) = absurd (not_folded W J q p long off_q off_p here.turns e' (in_line_back W p J a))

  pub corner_tells : Close c n (left c n t) (c s) (c t) (c (suc t)) J
  corner_tells = go (sign (turn_of W q J))
    where
      go : Sign (turn_of W q J) → Closely
      go (plus h) = left_case h (far_all c n s t here J q)
      go (minus h) = right_case (right_left W q J h) (far_all c n s t here J q)
      go (nought e) = line_case e (far_all c n s t here J p) (sign (turn_of W p J))
