-- The centres of a line of finished tables: for each centre that sees what it must, its best piece on the line, and
-- what the line's value says of it.
-- (The theorems that follow are in proofs/, under the same name.)
use Rattle.std.specs.Prelude.{◌≡◌, true}
use Rattle.std.proofs.Common.{eqb-true, eq-eqb}
use Prim.Native.Nat.{ℕ, ◌+◌, ◌<◌, min}
use native.Mathlib.Omega.{arith}
use Rattle.rules.specs.Choice.{fits}

-- `left` by the roads themselves
abbrev pub diag : (ℕ → ℕ → ℕ → ℕ) → ℕ → ℕ → ℕ
diag road a x = road x a x

-- the piece of the centre x is as cheap as the value of the line i j says
abbrev pub Attains : (ℕ → ℕ → ℕ) → (ℕ → ℕ → ℕ) → (ℕ → ℕ → ℕ → ℕ) → ℕ → ℕ → ℕ → Type 0
Attains w val road i j x = road x i x + road j x x + w i j ≡ val i j

pub fits_fit : (top : ℕ) (w val : ℕ → ℕ → ℕ) (road : ℕ → ℕ → ℕ → ℕ) (i j x : ℕ) → val i j < top →
    fits top w val (diag road) (λ y. road j y y) i j x ≡ true → Attains w val road i j x
unfolding fits
fits_fit top w val road i j x lt e =
    let q : min top (min top (road x i x + road j x x) + w i j) ≡ val i j =
    eqb-true (min top (min top (road x i x + road j x x) + w i j)) (val i j) e in
    omega (arith, q)

pub fit_fits : (top : ℕ) (w val : ℕ → ℕ → ℕ) (road : ℕ → ℕ → ℕ → ℕ) (i j x : ℕ) → val i j < top →
    Attains w val road i j x →
    fits top w val (diag road) (λ y. road j y y) i j x ≡ true
unfolding fits
fit_fits top w val road i j x lt e =
    eq-eqb (min top (min top (road x i x + road j x x) + w i j)) (val i j) (omega arith)
