-- The theorems of `Third`: its definitions and first laws are in specs/.
use Rattle.std.specs.Prelude.{◌≡◌, ◌↔◌, List, ℕ, ◌<◌, ℤ, nat_abs}
use Rattle.std.proofs.Common.{sym, ◌∙◌, ap, subst, inl, inr, arith}
use Rattle.outline.specs.Drawing.{Simple, corner, corners, EndsAt, Beside, Sees}
use Rattle.outline.specs.InOrOn.{CentreSees}
use Rattle.outline.specs.Placed.{On, on_turn}
use Rattle.outline.specs.Along.{len2}
use Rattle.outline.specs.CornersApart.{corners_apart}
use Rattle.outline.proofs.CentreParts.{sees_parts, parts_see}
use Rattle.outline.specs.Way.{GrazedBy}
use Rattle.outline.specs.Barred.{off_side, grazed_unseen}
use Rattle.outline.specs.Third.{length_turned, long, no_length, shorter}

module _ (d : List ℤ) (simple : Simple d) (i j k : ℕ) (hi : i < corners d) (hj : j < corners d)
    (g : GrazedBy d i j k) where
  I≠K : ¬ (corner d i ≡ corner d k)
  I≠K = corners_apart d simple i k hi g.below (λ e. g.not_i (sym e))

  K≠J : ¬ (corner d k ≡ corner d j)
  K≠J = corners_apart d simple k j g.below hj g.not_j

  pub first_shorter : long d i k < long d i j
  first_shorter = shorter (corner d i) (corner d k) (corner d j) g.on K≠J

  pub second_shorter : long d k j < long d i j
  second_shorter =
      subst (λ z. nat_abs z < long d i j) (length_turned (corner d j) (corner d k))
      (subst (λ z. nat_abs (len2 (corner d j) (corner d k)) < nat_abs z) (length_turned (corner d j) (corner d i))
      (shorter (corner d j) (corner d k) (corner d i) (on_turn g.on) (λ e. I≠K (sym e))))

  -- ---- the two kinds of sight
  pub third_parts : CentreSees d i j ↔ (CentreSees d i k × CentreSees d k j)
  third_parts = (sees_parts d i j k g.on, λ s. parts_see d i j k g.on I≠K K≠J s.0 s.1)

  -- no third corner lies on a side
  pub third_apart : ¬ Beside d i j
  third_apart (inl e) =
      let none : long d i j ≡ 0 = ap (long d i) (sym e) ∙ ap nat_abs (no_length (corner d i)) in
      omega (arith, first_shorter, none)
  third_apart (inr (inl e)) =
      off_side d simple k i g.below hi ends (subst (λ m. On (corner d k) (corner d i) (corner d m)) (sym e) g.on)
    where
      ends : ¬ EndsAt d i k
      ends (inl f) = g.not_i (sym f)
      ends (inr f) = g.not_j (sym f ∙ e)
  third_apart (inr (inr e)) =
      off_side d simple k j g.below hj ends
      (on_turn (subst (λ m. On (corner d k) (corner d m) (corner d j)) (sym e) g.on))
    where
      ends : ¬ EndsAt d j k
      ends (inl f) = g.not_j (sym f)
      ends (inr f) = g.not_i (sym f ∙ e)

  pub third_unseen : ¬ Sees d i j
  third_unseen = grazed_unseen d simple i j hi hj third_apart k g
