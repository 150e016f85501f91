-- The theorems of `CentreOutlines`: its definitions and first laws are in specs/.
use Rattle.std.specs.Prelude.{Bool, true, false, not, ◌&&◌, List, ℕ, ◌<◌, T, ℤ}
use Rattle.std.proofs.Common.{arith}
use Rattle.outline.specs.Drawing.{corners}
use Rattle.outline.specs.InOrOn.{CentreSees}
use Rattle.outline.specs.Tells.{passed, failed, all_below, all_tells}
use Rattle.outline.specs.Mirror.{sees_test}
use Rattle.outline.proofs.CentreMirror.{centre_test, centre_tells}
use Rattle.outline.specs.Outlines.{S, D, E, Z, H, straight}
use Rattle.outline.specs.CentreOutlines.{straight_simple, z_simple}

pub straight_all : (i j : ℕ) → i < 8 → j < 8 → CentreSees straight i j
straight_all i j hi hj =
    passed (all_tells 8 (λ k hk. all_tells 8 (λ l hl. centre_tells straight straight_simple k l hk hl))) tt i hi j hj

pub z_0_sees_3 : CentreSees Z 0 3
z_0_sees_3 = passed (centre_tells Z z_simple 0 3 (omega arith) (omega arith)) tt

pub z_0_misses_4 : ¬ CentreSees Z 0 4
z_0_misses_4 = failed (centre_tells Z z_simple 0 4 (omega arith) (omega arith)) tt

pub z_1_misses_3 : ¬ CentreSees Z 1 3
z_1_misses_3 = failed (centre_tells Z z_simple 1 3 (omega arith) (omega arith)) tt

-- ---- in 01's starred outlines the two kinds of sight agree on every pair, so their answers stay
abbrev agree : List ℤ → Bool
agree d =
    all_below (corners d) (λ i. all_below (corners d) (λ j.
    elim (sees_test d i j) as (λ x. Bool) [ true ↦ centre_test d i j | false ↦ not (centre_test d i j) ]))

kinds_agree : T (agree S && (agree D && (agree E && (agree Z && agree H))))
kinds_agree = tt
