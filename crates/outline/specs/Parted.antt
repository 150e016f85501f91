-- A line from a corner W to j inside its angle parts the angle: the next corner e is not inside what is left of it.
--
--          e
--         /       p is the corner before W. From e round to p is the angle at W, j lies inside it, and e is not inside
--        W --- j  the angle from j round to p.
--        |
--        p
use Rattle.std.specs.Prelude.{refl, ◌⊎◌, ℤ, pos, ◌≤ℤ◌, ◌<ℤ◌}
use Rattle.std.proofs.Common.{sym, subst, inl, inr}
use Rattle.std.specs.Int.Signed.{clash_ℤ}
use Rattle.whole.specs.Ring.{◌:-◌, neg, by_ring}
use Rattle.whole.specs.Order.{Nonneg, positive_not, le_sub, <ℤ_le, ≤ℤ_total}
use Rattle.outline.specs.Drawing.{Point, turn_of, InsideAngle}
use Rattle.outline.specs.Spell.{A, B, C, O, env4, TurnE}
use Rattle.outline.specs.Directions.{turn_at}

module _ (p W e j : Point) where
  neg_turn : (a b : Point) → pos 0 ≤ℤ turn_of W a b → pos 0 <ℤ turn_of W b a → ⊥
  neg_turn a b h k =
      positive_not k
      (by_ring (env4 W a b b) Nonneg (TurnE A B C) (neg (TurnE A C B)) refl h)

  pub parted : InsideAngle p W e j → InsideAngle p W j e → ⊥
  parted i k = go (≤ℤ_total (turn_of p W e) (pos 0)) (≤ℤ_total (turn_of p W j) (pos 0))
    where
      no : {z : ℤ} → z ≤ℤ pos 0 → ¬ (pos 0 <ℤ z)
      no h g = clash_ℤ g h

      -- Turn W p z where Turn p W z is not above nought
      back : (z : Point) → turn_of p W z ≤ℤ pos 0 → pos 0 ≤ℤ turn_of W p z
      back z h =
          by_ring (env4 W p z z) Nonneg (O :- TurnE B A C) (TurnE A B C) refl (le_sub h)

      go : (turn_of p W e ≤ℤ pos 0) ⊎ (pos 0 <ℤ turn_of p W e) → (turn_of p W j ≤ℤ pos 0) ⊎ (pos 0 <ℤ turn_of p W j) →
          ⊥
      go (inr h) (inl g) = no g (subst (λ z. pos 0 <ℤ z) (sym (turn_at W p j)) (i.left h).1)
      go (inr h) (inr g) = neg_turn e j (<ℤ_le (i.left h).0) (k.left g).0
      go (inl h) (inr g) = no h (subst (λ z. pos 0 <ℤ z) (sym (turn_at W p e)) (k.left g).1)
      go (inl h) (inl g) = at (≤ℤ_total (pos 0) (turn_of W e j))
        where
          at : (pos 0 ≤ℤ turn_of W e j) ⊎ (turn_of W e j <ℤ pos 0) → ⊥
          at (inl x) = k.other (no g) (back e h, x)
          at (inr x) =
              i.other (no h) (
                back j g,
                by_ring (env4 W e j j) Nonneg (O :- TurnE A B C) (TurnE A C B) refl (le_sub (<ℤ_le x)),
              )
