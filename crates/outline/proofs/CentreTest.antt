-- The theorems of `CentreTest`: its definitions and first laws are in specs/.
use Rattle.std.specs.Prelude.{◌≡◌, ◌↔◌, List, ℕ, ◌<◌, ℤ, pos}
use Rattle.std.proofs.Common.{sym, subst}
use Rattle.whole.specs.Order.{Positive}
use Rattle.outline.specs.Drawing.{Point, Simple, corner, corners, after}
use Rattle.outline.specs.InOrOn.{CentreSees}
use Rattle.outline.specs.Placed.{On}
use Rattle.outline.specs.Along.{len2, apart_length}
use Rattle.outline.specs.Parity.{Holds}
use Rattle.outline.specs.Crossing.{Crosses}
use Rattle.outline.specs.EveryPoint.{Sight, Test, sum2}
use Rattle.outline.specs.TestEnough.{test_sight}
use Rattle.outline.specs.TestNeeded.{sight_test}
use Rattle.outline.specs.Reading.{round, round_inner, round_closed}
use Rattle.outline.proofs.Reading.{in_read, in_said, sight_read, sight_said}
use Rattle.outline.specs.CornersApart.{simple_read, corners_apart}
use Rattle.outline.specs.CentreTest.{FiniteTest, half}

-- ---- the closed function has the drawing's corners
module _ (d : List ℤ) where
  abbrev c : ℕ → Point
  c = round d

  -- a statement of two corners
  to_round : (P : Point → Point → Type 0) (k l : ℕ) → k < corners d → l < corners d → P (corner d k) (corner d l) →
      P (c k) (c l)
  to_round P k l hk hl h =
      subst (λ a. P a (c l)) (sym (round_inner d k hk)) (subst (λ b. P (corner d k) b) (sym (round_inner d l hl)) h)

  from_round : (P : Point → Point → Type 0) (k l : ℕ) → k < corners d → l < corners d → P (c k) (c l) →
      P (corner d k) (corner d l)
  from_round P k l hk hl h =
      subst (λ b. P (corner d k) b) (round_inner d l hl) (subst (λ a. P a (c l)) (round_inner d k hk) h)

  module _ (i j : ℕ) (hi : i < corners d) (hj : j < corners d) where
    -- and one of a third
    to_third : (P : Point → Point → Point → Type 0) (m : ℕ) → m < corners d →
        P (corner d m) (corner d i) (corner d j) → P (c m) (c i) (c j)
    to_third P m h t =
        to_round (λ a b. P (c m) a b) i j hi hj
        (subst (λ a. P a (corner d i) (corner d j)) (sym (round_inner d m h)) t)

    from_third : (P : Point → Point → Point → Type 0) (m : ℕ) → m < corners d → P (c m) (c i) (c j) →
        P (corner d m) (corner d i) (corner d j)
    from_third P m h t =
        subst (λ a. P a (corner d i) (corner d j)) (round_inner d m h)
        (from_round (λ a b. P (c m) a b) i j hi hj t)

    test_read : FiniteTest d i j → Test c (corners d) i j
    test_read t =
        record {
          clear = λ m h x. t.clear m h (from_third (λ e a b. Crosses a b e (corner d (after d m))) m h x);
          mids = λ k l hk hl ok ol.
              to_round (λ a b. Holds c (corners d) (sum2 a b) (pos 2)) k l hk hl
              (in_read d (half (corner d k) (corner d l))
              (t.halves k l hk hl (from_third On k hk ok) (from_third On l hl ol)));
        }

    test_said : Test c (corners d) i j → FiniteTest d i j
    test_said t =
        record {
          clear = λ m h x. t.clear m h (to_third (λ e a b. Crosses a b e (corner d (after d m))) m h x);
          halves = λ k l hk hl ok ol.
              in_said d (half (corner d k) (corner d l))
              (from_round (λ a b. Holds c (corners d) (sum2 a b) (pos 2)) k l hk hl
              (t.mids k l hk hl (to_third On k hk ok) (to_third On l hl ol)));
        }

    length : ¬ (corner d i ≡ corner d j) → Positive (len2 (c i) (c j))
    length ne =
        to_round (λ a b. Positive (len2 a b)) i j hi hj (apart_length (corner d i) (corner d j) ne)

    -- ---- the test is enough, on any drawing in which the two corners are not one point
    pub test_enough : ¬ (corner d i ≡ corner d j) → FiniteTest d i j → CentreSees d i j
    test_enough ne t =
        sight_said d i j (from_round (λ a b. Sight c (corners d) a b) i j hi hj
        (test_sight c (corners d) (round_closed d) i j hi hj (length ne) (test_read t)))

    -- and on a simple drawing it is needed
    pub test_needed : Simple d → ¬ (i ≡ j) → CentreSees d i j → FiniteTest d i j
    test_needed s ne h =
        test_said (sight_test c (corners d) (round_closed d) (simple_read d s) i j hi hj
        (length (corners_apart d s i j hi hj ne))
        (to_round (λ a b. Sight c (corners d) a b) i j hi hj (sight_read d i j h)))

    pub test_equals : Simple d → ¬ (i ≡ j) → FiniteTest d i j ↔ CentreSees d i j
    test_equals s ne = (test_enough (corners_apart d s i j hi hj ne), test_needed s ne)
