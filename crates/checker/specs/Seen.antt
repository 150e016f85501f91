-- The lines of pieces and the cuts of a cutting. Each pair of a cutting is a line round one of its regions, and a line
-- round a region is a side, which neighbours see, or such a pair. So a line of a piece without fault may be a cut, and
-- a region of a valid cutting, with a centre of its own, has no fault.
use Rattle.std.specs.Prelude.{◌≡◌, refl, List, ◌∷◌, ℕ, suc, ◌≤◌, ◌<◌, ℤ, T}
use Rattle.std.proofs.Common.{sym, ◌∙◌, inl, inr, arith, eq-eqb, ne_eqb}
use Rattle.outline.specs.Drawing.{corners, next, Sees}
use Rattle.rules.specs.Lists.{In, rise_last, rise_from}
use Rattle.rules.specs.Cutting.{Pairs, Side, Uncrossed, Joined, Near, Region, corners as corners_of}
use Rattle.rules.specs.Centre.{Centre}
use Rattle.rules.specs.TreeOf.{of_rise}
use Rattle.rules.proofs.Regions.{pair_line, line_pair, line_region}
use Rattle.desk.specs.Answer.{Cut, InBoth, ValidCutting}
use Rattle.checker.specs.Checks.{Entry, sight_in}
use Rattle.checker.specs.Faultless.{Faultless}

-- ---- a pair of the set is a line round one of its regions
pub record LineRound (n : ℕ) (C : Pairs) (a b : ℕ) : Type 0 where
  pub piece : List ℕ
  pub region : Region n C piece
  pub in_a : In a piece
  pub in_b : In b piece
  pub near : Near piece a b

pub line_round : (n : ℕ) (C : Pairs) → 3 ≤ n → Uncrossed n C → (a b : ℕ) → T (C a b) → LineRound n C a b
line_round n C le un a b c =
    let f = pair_line n C un le a b c in
    let o = line_pair n C un le a b f.0 f.1 in
    let r = of_rise C a b b f.0 o.2 in
    record {
      piece = a ∷ corners_of f.0;
      region = line_region n C un le a b f.0 o;
      in_a = inl refl;
      in_b = rise_last a b (corners_of f.0) r;
      near = inr (rise_from a b (corners_of f.0) r);
    }

-- ---- "Each corner sees itself and its two neighbours."
side_seen : (d : List ℤ) (n x y : ℕ) → n ≡ corners d → x < y → y < n → Side n x y → Sees d x y × Sees d y x
side_seen d n x y q lt small (inl e) =
    let h : next (corners d) x ≡ y = rw (ne_eqb (suc x) (corners d) (λ f. omega arith)) (sym e) in
    (record { sees = inl (inr (inl h)) }, record { sees = inl (inr (inr h)) })
side_seen d n x y q lt small (inr e) =
    let h : next (corners d) y ≡ x = rw (eq-eqb (suc y) (corners d) (e.1 ∙ q)) (sym e.0) in
    (record { sees = inl (inr (inr h)) }, record { sees = inl (inr (inl h)) })

module _ (first second : List ℤ) where
  -- ---- a line of a piece without fault may be a cut, and its centre is one
  module _ (e : Entry) (f : Faultless (sight_in first) (sight_in second) e) where
    pub line_cut : (x y : ℕ) → In x e.corners → In y e.corners → x < y → Near e.corners x y →
        Cut first second x y
    line_cut x y i j lt near =
        let s = f.first_lines x y i j lt near in
        let t = f.second_lines x y i j lt near in
        ((s.0, t.0), (s.1, t.1))

    pub own_centre : In e.centre e.corners → Centre (InBoth first second) e.centre e.corners
    own_centre i = (i, λ y j. (f.first_centre y j, f.second_centre y j))

  -- ---- a region of a valid cutting, with a centre of its own, has no fault
  module _ (equal : corners second ≡ corners first) (C : Pairs) (valid : ValidCutting first second C) (e : Entry)
      (R : Region (corners first) C e.corners) where
    line_seen : (x y : ℕ) → In x e.corners → In y e.corners → x < y → Near e.corners x y →
        Cut first second x y
    line_seen x y i j lt near = go ((R.lines x y i j lt).0 near)
      where
        go : Joined (corners first) C x y → Cut first second x y
        go (inl s) =
            let f = side_seen first (corners first) x y refl lt (R.small y j) s in
            let g = side_seen second (corners first) x y (sym equal) lt (R.small y j) s in
            ((f.0, g.0), (f.1, g.1))
        go (inr t) = valid.cuts x y t

    pub region_faultless : Centre (InBoth first second) e.centre e.corners →
        Faultless (sight_in first) (sight_in second) e
    region_faultless c = record {
      first_lines = λ x y i j lt near. let z = line_seen x y i j lt near in (z.0.0, z.1.0);
      second_lines = λ x y i j lt near. let z = line_seen x y i j lt near in (z.0.1, z.1.1);
      first_centre = λ y i. (c.1 y i).0;
      second_centre = λ y i. (c.1 y i).1;
    }
