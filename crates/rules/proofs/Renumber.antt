-- The theorems of `Renumber`: its definitions and first laws are in specs/.
use Rattle.std.specs.Prelude.{List, ℕ, zero, suc, ◌-◌, ◌≤◌, T, ltb, length}
use Rattle.std.proofs.Common.{arith, ltb→lt}
use Rattle.std.specs.Float.Ieee.Fits.{and_l, and_r}
use Rattle.rules.specs.Lists.{In, pigeon}
use Rattle.rules.specs.Cutting.{Pairs, Uncrossed, Region, Valid, pieces, one, First}
use Rattle.rules.specs.Trees.{weight_one}
use Rattle.rules.proofs.Regions.{pieces_regions, pieces_distinct}
use Rattle.rules.specs.Turn.{back}
use Rattle.rules.specs.Turn.{back_injective}
use Rattle.rules.specs.Renumber.{Carried, region_back, turn, turn_apart, turn_inner}

pub turn_uncrossed : (n : ℕ) (C : Pairs) → Uncrossed n C → Uncrossed n (turn n C)
turn_uncrossed n C un = record { inner = turn_inner n C un; apart = turn_apart n C un }

pub turn_valid : (n : ℕ) (cut cut' : ℕ → ℕ → Type 0) (ok ok' : List ℕ → Type 0) → Carried n cut cut' ok ok' →
    (C : Pairs) → Valid cut ok n C → Valid cut' ok' n (turn n C)
turn_valid n cut cut' ok ok' K C va = record {
  uncrossed = turn_uncrossed n C va.uncrossed;
  cuts = line;
  allowed = λ S R. K.lists S R.rising R.small (va.allowed (back n S) (region_back n C S R));
}
  where
    line : (a b : ℕ) → T (turn n C a b) → cut' a b
    line a zero c = absurd c
    line zero (suc y) c =
        let I = va.uncrossed.inner y (n - 1) c in
        K.last y (n - 1) I.rises (omega arith) (va.cuts y (n - 1) c)
    line (suc x) (suc y) c =
        let d = and_l (C x y) (ltb (suc y) n) c in
        K.others x y (va.uncrossed.inner x y d).rises
        (ltb→lt (suc y) n (and_r (C x y) (ltb (suc y) n) c)) (va.cuts x y d)

-- where no cutting is valid by the new numbers, none was by the old
pub turn_none : (n : ℕ) (cut cut' : ℕ → ℕ → Type 0) (ok ok' : List ℕ → Type 0) → Carried n cut cut' ok ok' →
    ((D : Pairs) → ¬ Valid cut' ok' n D) → (C : Pairs) → ¬ Valid cut ok n C
turn_none n cut cut' ok ok' K none C va = none (turn n C) (turn_valid n cut cut' ok ok' K C va)

-- ---- no more pieces
pub turn_pieces : (n : ℕ) (C : Pairs) → 3 ≤ n → Uncrossed n C → length (pieces n (turn n C)) ≤ length (pieces n C)
turn_pieces n C h un =
    pigeon (back n) (pieces n (turn n C)) (pieces n C) (pieces_distinct n (turn n C) h (turn_uncrossed n C un))
    (λ S i. (pieces_regions n C h un (back n S)).1 (region_back n C S (region S i)))
    (λ S Q i k. back_injective n S Q (region S i).rising (region Q k).rising (region S i).small (region Q k).small)
  where
    region : (S : List ℕ) → In S (pieces n (turn n C)) → Region n (turn n C) S
    region S i = (pieces_regions n (turn n C) h (turn_uncrossed n C un) S).0 i

-- the fewest pieces do not become more
pub turn_fewest : (n : ℕ) (cut cut' : ℕ → ℕ → Type 0) (ok ok' : List ℕ → Type 0) → 3 ≤ n → Carried n cut cut' ok ok' →
    (C D : Pairs) → First cut ok one n C → First cut' ok' one n D → length (pieces n D) ≤ length (pieces n C)
turn_fewest n cut cut' ok ok' h K C D F G =
    omega (
      arith,
      G.least (turn n C) (turn_valid n cut cut' ok ok' K C F.valid),
      weight_one (pieces n D),
      weight_one (pieces n (turn n C)),
      turn_pieces n C h F.valid.uncrossed,
    )
