-- A fraction is told in one way, however it is written: the same steps, and the same rest to the last bit.
use Rattle.std.specs.Prelude.{◌≡◌, refl, [], ◌∷◌, ℕ, ◌<◌, ℤ, pos, nat_abs, ◌+ℤ◌, ◌-ℤ◌, ◌*ℤ◌, ◌<ℤ◌}
use Rattle.std.proofs.Common.{sym, ◌∙◌, ap, subst, arith, lt→ltb}
use Rattle.std.specs.Int.Signed.{lt_z_yes, <ℤ_irrefl}
use Rattle.whole.specs.Ring.{v, con, ◌:+◌, ◌:-◌, ◌:*◌, neg, ring, ring1}
use Rattle.whole.specs.Order.{Positive, nonneg_pos, nonneg_add, nonneg_mul, positive_nonneg}
use Rattle.whole.specs.Order.{positive_add, positive_mul, positive_pred}
use Rattle.whole.specs.Order.{lt_sub, Sign, plus, nought, minus, sign}
use Rattle.marks.specs.Steps.{InSteps}
use Rattle.marks.specs.Division.{rest_same}
use Rattle.marks.specs.declared.Axis.{Axis}

-- n / d and m / e are one number
abbrev pub SameFraction : ℤ → ℕ → ℤ → ℕ → Type 0
SameFraction n d m e = n *ℤ pos e ≡ m *ℤ pos d

-- s steps and k / d cannot be t steps and l / e with s ahead of t
ahead : (s t d e : ℤ) (k l : ℕ) → Positive d → Positive e → pos l <ℤ e →
    (s *ℤ d +ℤ pos k) *ℤ e ≡ (t *ℤ e +ℤ pos l) *ℤ d →
    ¬ Positive (s -ℤ t)
ahead s t d e k l d+ e+ le h p =
    <ℤ_irrefl
    (subst Positive
    (ring1 (s ∷ t ∷ d ∷ e ∷ pos k ∷ pos l ∷ [])
    ((v 3 :- v 5) :* v 2 :+ ((v 0 :- v 1 :- con (pos 1)) :* (v 2 :* v 3) :+ v 4 :* v 3)) (con (pos 0))
    (con (pos 1)) ((v 0 :* v 2 :+ v 4) :* v 3) ((v 1 :* v 3 :+ v 5) :* v 2) h refl)
    (positive_add (positive_mul (lt_sub le) d+)
    (nonneg_add (nonneg_mul (positive_pred p) (positive_nonneg (positive_mul d+ e+)))
    (nonneg_mul (nonneg_pos k) (positive_nonneg e+)))))

below : {k d : ℕ} → k < d → pos k <ℤ pos d
below {k} {d} h = lt_z_yes (lt→ltb k d h)

some : {k d : ℕ} → k < d → Positive (pos d)
some {k} {d} h = below {k = 0} {d = d} (omega arith)

pub told_same : (n m : ℤ) (d e : ℕ) (a b : Axis) → SameFraction n d m e → InSteps n d a → InSteps m e b → a ≡ b
told_same n m d e a b q f g = λ i. record { step = steps i; rest = rests i }
  where
    h : (a.step *ℤ pos d +ℤ pos f.k) *ℤ pos e ≡ (b.step *ℤ pos e +ℤ pos g.k) *ℤ pos d
    h = ap (λ z. z *ℤ pos e) (sym f.whole) ∙ q ∙ ap (λ z. z *ℤ pos d) g.whole

    steps : a.step ≡ b.step
    steps = go (sign (a.step -ℤ b.step))
      where
        go : Sign (a.step -ℤ b.step) → a.step ≡ b.step
        go (plus p) =
            absurd (ahead a.step b.step (pos d) (pos e) f.k g.k (some f.part) (some g.part)
            (below g.part) h p)
        go (nought z) = ring1 (a.step ∷ b.step ∷ []) (v 0) (v 1) (con (pos 1)) (v 0 :- v 1) (con (pos 0)) z refl
        go (minus p) =
            absurd (ahead b.step a.step (pos e) (pos d) g.k f.k (some g.part) (some f.part)
            (below f.part) (sym h)
            (subst Positive (ring (a.step ∷ b.step ∷ []) (neg (v 0 :- v 1)) (v 1 :- v 0) refl) p))

    parts : pos f.k *ℤ pos e ≡ pos g.k *ℤ pos d
    parts =
        ring1 (b.step ∷ pos d ∷ pos e ∷ pos f.k ∷ pos g.k ∷ []) (v 3 :* v 2) (v 4 :* v 1)
        (con (pos 1)) ((v 0 :* v 1 :+ v 3) :* v 2) ((v 0 :* v 2 :+ v 4) :* v 1)
        (ap (λ z. (z *ℤ pos d +ℤ pos f.k) *ℤ pos e) (sym steps) ∙ h) refl

    rests : a.rest ≡ b.rest
    rests = rest_same f.k d g.k e a.rest b.rest f.part g.part (ap nat_abs parts) f.rest g.rest
