-- The solver. An identity of whole numbers is one line, `ring ρ left right refl`: ρ lists the values of the variables
-- v 0, v 1, .., and `left` and `right` spell the two sides. `refl` passes if left - right has the normal form `nil`; a
-- false identity is refused.
use Rattle.std.specs.Prelude.{◌≡◌, refl, List, [], ◌∷◌, zero, ℤ, pos, ◌+ℤ◌, ◌-ℤ◌, ◌*ℤ◌}
use Rattle.std.proofs.Common.{sym, ◌∙◌, subst}
use Rattle.std.proofs.Math.Path.{ap}
use Rattle.std.proofs.Math.IntN.{+ℤ_idl, +ℤ_invr, -ℤ-+ℤ_cancel, *ℤ-zero}
use Rattle.whole.specs.Normal.{value, norm_ok}
pub use Rattle.whole.specs.Expr.{E, v, con, ◌:+◌, ◌:-◌, ◌:*◌, neg, eval, nil, norm}

from_zero : (x y : ℤ) → x -ℤ y ≡ pos zero → x ≡ y
from_zero x y h = sym (-ℤ-+ℤ_cancel x y) ∙ ap (λ z. z +ℤ y) h ∙ +ℤ_idl y

-- a multiple of a known equation's difference
vanish : (c : ℤ) {l r : ℤ} → l ≡ r → c *ℤ (l -ℤ r) ≡ pos zero
vanish c {l} {r} h = ap (λ z. c *ℤ (z -ℤ r)) h ∙ ap (λ z. c *ℤ z) (+ℤ_invr r) ∙ *ℤ-zero c

module _ (ρ : List ℤ) where
  -- one normal form is held to `nil`: of two calls of `norm` antt would compare the parts first, at each level
  pub ring : (e f : E) → norm (e :- f) ≡ nil → eval ρ e ≡ eval ρ f
  unfolding value
  ring e f n = from_zero (eval ρ e) (eval ρ f) (norm_ok ρ (e :- f) ∙ ap (value ρ) n)

  -- inside a statement
  pub by_ring : (P : ℤ → Type 0) (e f : E) → norm (e :- f) ≡ nil → P (eval ρ e) → P (eval ρ f)
  by_ring P e f n p = subst P (ring e f n) p

  -- from a known equation l = r, where e - f = c (l - r)
  pub ring1 : (e f c l r : E) → eval ρ l ≡ eval ρ r → norm (e :- f :- c :* (l :- r)) ≡ nil → eval ρ e ≡ eval ρ f
  ring1 e f c l r h n = from_zero (eval ρ e) (eval ρ f) (ring (e :- f) (c :* (l :- r)) n ∙ vanish (eval ρ c) h)

  -- from two, where e - f = c (l - r) + d (m - s)
  pub ring2 : (e f c l r d m s : E) → eval ρ l ≡ eval ρ r → eval ρ m ≡ eval ρ s →
      norm (e :- f :- (c :* (l :- r) :+ d :* (m :- s))) ≡ nil → eval ρ e ≡ eval ρ f
  ring2 e f c l r d m s h k n =
      from_zero (eval ρ e) (eval ρ f)
      (ring (e :- f) (c :* (l :- r) :+ d :* (m :- s)) n
      ∙ ap (λ z. z +ℤ eval ρ d *ℤ (eval ρ m -ℤ eval ρ s)) (vanish (eval ρ c) h)
      ∙ ap (λ z. pos zero +ℤ z) (vanish (eval ρ d) k))

-- ---- uses
-- the square of a sum; with another number in place of 2 it is refused
abbrev mixed : ℤ
mixed = pos 2

square_of_sum : (a b : ℤ) → (a +ℤ b) *ℤ (a +ℤ b) ≡ a *ℤ a +ℤ mixed *ℤ (a *ℤ b) +ℤ b *ℤ b
square_of_sum a b =
    ring (a ∷ b ∷ []) ((v 0 :+ v 1) :* (v 0 :+ v 1)) (v 0 :* v 0 :+ con mixed :* (v 0 :* v 1) :+ v 1 :* v 1) refl

-- one known equation: of a + b = c the square, by the cofactor a + b + c
square_of_equal : (a b c : ℤ) → a +ℤ b ≡ c → (a +ℤ b) *ℤ (a +ℤ b) ≡ c *ℤ c
square_of_equal a b c h =
    ring1 (a ∷ b ∷ c ∷ []) ((v 0 :+ v 1) :* (v 0 :+ v 1)) (v 2 :* v 2) (v 0 :+ v 1 :+ v 2) (v 0 :+ v 1) (v 2) h refl

-- two: proportions a : b = c : d and c : d = e : f give d (a f - b e) = 0
proportions : (a b c d e f : ℤ) → a *ℤ d ≡ b *ℤ c → c *ℤ f ≡ d *ℤ e → d *ℤ (a *ℤ f) ≡ d *ℤ (b *ℤ e)
proportions a b c d e f h k =
    ring2 (a ∷ b ∷ c ∷ d ∷ e ∷ f ∷ []) (v 3 :* (v 0 :* v 5)) (v 3 :* (v 1 :* v 4))
    (v 5) (v 0 :* v 3) (v 1 :* v 2) (v 1) (v 2 :* v 5) (v 3 :* v 4) h k refl

-- twelve variables, degree four: where (x, y) goes to (a x + b y + e, c x + d y + f), the doubled area of a triangle
-- is multiplied by a d - b c
abbrev area : ℤ → ℤ → ℤ → ℤ → ℤ → ℤ → ℤ
area px py qx qy rx ry = (qx -ℤ px) *ℤ (ry -ℤ py) -ℤ (qy -ℤ py) *ℤ (rx -ℤ px)

moved_area : (a b c d e f px py qx qy rx ry : ℤ) →
    area (a *ℤ px +ℤ b *ℤ py +ℤ e) (c *ℤ px +ℤ d *ℤ py +ℤ f)
    (a *ℤ qx +ℤ b *ℤ qy +ℤ e) (c *ℤ qx +ℤ d *ℤ qy +ℤ f)
    (a *ℤ rx +ℤ b *ℤ ry +ℤ e) (c *ℤ rx +ℤ d *ℤ ry +ℤ f)
    ≡ (a *ℤ d -ℤ b *ℤ c) *ℤ area px py qx qy rx ry
moved_area a b c d e f px py qx qy rx ry =
    ring (a ∷ b ∷ c ∷ d ∷ e ∷ f ∷ px ∷ py ∷ qx ∷ qy ∷ rx ∷ ry ∷ [])
    (Area (to_x (v 6) (v 7)) (to_y (v 6) (v 7)) (to_x (v 8) (v 9)) (to_y (v 8) (v 9)) (to_x (v 10) (v 11))
    (to_y (v 10) (v 11)))
    ((v 0 :* v 3 :- v 1 :* v 2) :* Area (v 6) (v 7) (v 8) (v 9) (v 10) (v 11)) refl
  where
    Area : E → E → E → E → E → E → E
    Area px py qx qy rx ry = (qx :- px) :* (ry :- py) :- (qy :- py) :* (rx :- px)

    to_x : E → E → E
    to_x x y = v 0 :* x :+ v 1 :* y :+ v 4

    to_y : E → E → E
    to_y x y = v 2 :* x :+ v 3 :* y :+ v 5
