-- The theorems of `Passing`: its definitions and first laws are in specs/.
use Rattle.std.specs.Prelude.{Bool, true, false, pos, ◌*ℤ◌}
use Rattle.std.proofs.Common.{inl, inr}
use Rattle.whole.specs.Order.{not_less}
use Rattle.outline.specs.Drawing.{Point, turn_of}
use Rattle.outline.specs.InOrOn.{Spot, Higher, OneEndHigher, PassesRight}
use Rattle.outline.specs.Tells.{Tells, as_well, never}
use Rattle.outline.specs.Tests.{lt_tells}
use Rattle.outline.specs.Passing.{crosses, grown, higher, left, left_right, passes, right_left, top, turned}

pub passing : (z : Spot) (a b : Point) →
    Tells (crosses (top z) (grown z a) (grown z b)) (OneEndHigher z a b × PassesRight z a b)
passing z a b =
    go (higher (top z) (grown z a)) (higher (top z) (grown z b)) (lt_tells z.y (z.r *ℤ a.y))
    (lt_tells z.y (z.r *ℤ b.y))
  where
    both : Higher z a → Higher z b → ¬ OneEndHigher z a b
    both h k (inl s) = s.1 k
    both h k (inr s) = s.0 h

    neither : ¬ Higher z a → ¬ Higher z b → ¬ OneEndHigher z a b
    neither h k (inl s) = h s.0
    neither h k (inr s) = k s.1

    go : (s t : Bool) → Tells s (Higher z a) → Tells t (Higher z b) →
        Tells (passes s t (left (top z) (grown z a) (grown z b)) (left (top z) (grown z b) (grown z a)))
        (OneEndHigher z a b × PassesRight z a b)
    go true true h k = never (λ p. both (h.sure tt) (k.sure tt) p.0)
    go false false h k = never (λ p. neither (λ x. h.told x) (λ x. k.told x) p.0)
    go false true h k =
        let low = not_less (λ x. h.told x) in
        as_well (lt_tells (pos 0) (turn_of (grown z a) (grown z b) (top z)))
        (λ t. (inr ((λ x. h.told x), k.sure tt), left_right z a b low (k.sure tt) t))
        (λ p. right_left z a b low (k.sure tt) p.1)
    go true false h k =
        let low = not_less (λ x. k.told x) in
        as_well (lt_tells (pos 0) (turn_of (grown z b) (grown z a) (top z)))
        (λ t. (inl (h.sure tt, λ x. k.told x), turned z b a (left_right z b a low (h.sure tt) t)))
        (λ p. right_left z b a low (h.sure tt) (turned z a b p.1))
