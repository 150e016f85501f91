-- K1's statement on marks between two wedges, for answers in which no wedge is flat (02, K3). No corner then stands on
-- a line of a wedge; so two wedges whose lines have a stretch in common have the whole line in common, and a mark on
-- it has the same place from either.
--
--        p
--       / \         Why the condition: the centre c may see b along a line that touches a. The wedge c, a, b is flat.
--      c - a - b    The wedges beside it, c, p, a and c, b, q, have the lines ca and cb, which share a stretch only;
--       \    /     in the second drawing ca and cb may be two lines, and a mark on ca then has two places there.
--         q
use Rattle.std.specs.Prelude.{◌≡◌, refl, ◌⊎◌, List, [], ◌∷◌, ℕ, ◌<◌, ℤ, pos, nat_abs}
use Rattle.std.proofs.Common.{sym, ap, ◌∙◌, subst, inl, inr, arith}
use Rattle.outline.specs.Drawing.{Point, corner, corners, turn_of}
use Rattle.outline.specs.InOrOn.{Spot, spot, OnSegment, CentreSees}
use Rattle.outline.specs.TwoPoints.{Differ}
use Rattle.outline.specs.OneLine.{ClearLine, line_back, one_line}
use Rattle.outline.specs.Unbroken.{none_between}
use Rattle.outline.specs.Placed.{segment_on}
use Rattle.pair.specs.Passing.{SoundPair}
use Rattle.rules.specs.Lists.{In}
use Rattle.rules.specs.Cutting.{Region, pieces}
use Rattle.rules.proofs.Regions.{pieces_regions}
use Rattle.rules.specs.Result.{Result, Given}
use Rattle.desk.specs.Answer.{plan}
use Rattle.marks.specs.Wedges.{Wedge, wedge, piece_wedges}
use Rattle.marks.specs.Carry.{wedges_given}
use Rattle.marks.specs.Between.{Of}
use Rattle.marks.specs.NoFlat.{NoFlatWedge, SamePlace, common_line}
use Rattle.marks.specs.Joined.{InPiece, of_piece, fan_follows, both_in}
use Rattle.marks.specs.Follow.{Then, then_wedge}
use Rattle.marks.specs.Star.{Star}
use Rattle.marks.specs.Spokes.{spoke_clear}
use Rattle.marks.specs.Seen.{joined_sees, SeenWedge, wedge_seen}

module _ (first second : List ℤ) (pair : SoundPair first second) {before : List ℕ} {r : Result}
    (g : Given (plan first second) (corners first) before r) (no_flat : NoFlatWedge first (wedges_given g)) where
  -- ---- from the centre of a piece to another corner of it
  module _ (c : ℕ) (S : List ℕ) (R : Region (corners first) g.cutting S) (in_c : In c S)
      (sees : (y : ℕ) → In y S → CentreSees first c y)
      (with_all : (U : Wedge) → In U (piece_wedges c S) → In U (wedges_given g)) where
    spoke : (j : ℕ) → In j S → ¬ (c ≡ j) → ClearLine first c j
    spoke j i n = go S refl R in_c i sees with_all
      where
        go : (T : List ℕ) → S ≡ T → Region (corners first) g.cutting T → In c T → In j T →
            ((y : ℕ) → In y T → CentreSees first c y) →
            ((U : Wedge) → In U (piece_wedges c T) → In U (wedges_given g)) → ClearLine first c j
        go [] e R in_c i sees all = absurd in_c
        go (f ∷ s) e R in_c i sees all = record {
          x_below = R.small c in_c;
          y_below = R.small j i;
          apart = n;
          clear = λ k h p q o. spoke_clear star no_flat_here j i n k h p q
              (segment_on (corner first k) (corner first c) (corner first j) o);
        }
          where
            star : Star first g.cutting f s c
            star = record {
              sound = pair.first_sound;
              region = R;
              strict = λ a b l t. (joined_sees first second pair g.cutting g.is_first.valid a b l t).0;
              in_c = in_c;
              sees = sees;
            }

            flat : (z : ℤ) → z ≡ pos 0 → 0 < nat_abs z → ⊥
            flat z e h = omega (arith, h, ap nat_abs e)

            no_flat_here : (a b : ℕ) → Then f (f ∷ s) a b → ¬ (a ≡ c) → ¬ (b ≡ c) →
                ¬ (turn_of (corner first c) (corner first a) (corner first b) ≡ pos 0)
            no_flat_here a b t p q z =
                flat (turn_of (corner first c) (corner first a) (corner first b)) z
                (no_flat (wedge c a b) (all (wedge c a b) (then_wedge c f (f ∷ s) a b p q t)))

  -- ---- the lines of a wedge
  wedge_line : (W : Wedge) → In W (wedges_given g) → (x y : ℕ) → ¬ (x ≡ y) → Of x W → Of y W → ClearLine first x y
  wedge_line W i x y n p q = go p q
    where
      w : SeenWedge first second W
      w = wedge_seen first second pair g W i

      h : InPiece (plan first second).centre (pieces (corners first) g.cutting) (wedges_given g) W
      h = of_piece (plan first second).centre (pieces (corners first) g.cutting) g.carries.laid
          g.carries.layout W i

      R : Region (corners first) g.cutting h.S
      R = (pieces_regions (corners first) g.cutting pair.alike.enough g.is_first.valid.uncrossed h.S).0
          h.told

      from_centre : (j : ℕ) → In j h.S → ¬ (W.centre ≡ j) → ClearLine first W.centre j
      from_centre j k ne = at h.S R h.is_centre h.among h.with_all k
        where
          at : (S : List ℕ) → Region (corners first) g.cutting S → (plan first second).centre h.c S →
              In W (piece_wedges h.c S) → ((U : Wedge) → In U (piece_wedges h.c S) → In U (wedges_given g)) →
              In j S → ClearLine first W.centre j
          at [] R c m all k = absurd k
          at (f ∷ s) R c m all k =
              let e = (fan_follows h.c f (f ∷ s) W m).centre_is in
              subst (λ z. ClearLine first z j) (sym e)
              (spoke h.c (f ∷ s) R c.centre.0 (λ y i. (c.centre.1 y i).0) all j k (λ q. ne (e ∙ q)))

      ins : In W.from h.S × In W.to h.S
      ins = at h.S h.among
        where
          at : (S : List ℕ) → In W (piece_wedges h.c S) → In W.from S × In W.to S
          at [] m = absurd m
          at (f ∷ s) m =
              both_in (corners first) g.cutting f s W.from W.to (fan_follows h.c f (f ∷ s) W m).follow

      ca : ClearLine first W.centre W.from
      ca = from_centre W.from ins.0 w.centre_from

      cb : ClearLine first W.centre W.to
      cb = from_centre W.to ins.1 (λ e. w.to_centre (sym e))

      ab : ClearLine first W.from W.to
      ab = record {
        x_below = w.from_below;
        y_below = w.to_below;
        apart = w.from_to;
        clear =
            λ k h p q. none_between first pair.first_sound.simple W.from W.to k w.from_below w.to_below
            h w.from_to w.strict_along.0 p q;
      }

      back : (s t : ℕ) → ClearLine first s t → ClearLine first t s
      back s t l = line_back first s t l

      as_named : (s t : ℕ) → x ≡ s → y ≡ t → ClearLine first s t → ClearLine first x y
      as_named s t e f l = subst (λ k. ClearLine first k y) (sym e) (subst (λ k. ClearLine first s k) (sym f) l)

      go : Of x W → Of y W → ClearLine first x y
      go (inl e) (inl f) = absurd (n (e ∙ sym f))
      go (inl e) (inr (inl f)) = as_named W.centre W.from e f ca
      go (inl e) (inr (inr f)) = as_named W.centre W.to e f cb
      go (inr (inl e)) (inl f) = as_named W.from W.centre e f (back W.centre W.from ca)
      go (inr (inl e)) (inr (inl f)) = absurd (n (e ∙ sym f))
      go (inr (inl e)) (inr (inr f)) = as_named W.from W.to e f ab
      go (inr (inr e)) (inl f) = as_named W.to W.centre e f (back W.centre W.to cb)
      go (inr (inr e)) (inr (inl f)) = as_named W.to W.from e f (back W.from W.to ab)
      go (inr (inr e)) (inr (inr f)) = absurd (n (e ∙ sym f))

  -- no corner stands on a line of a wedge but its two ends, in the first drawing
  pub no_corner_on : (W : Wedge) → In W (wedges_given g) → (x y : ℕ) → ¬ (x ≡ y) → Of x W → Of y W →
      (z : ℕ) → z < corners first → ¬ (z ≡ x) → ¬ (z ≡ y) →
      ¬ OnSegment (spot (corner first z)) (corner first x) (corner first y)
  no_corner_on W i x y n p q = (wedge_line W i x y n p q).clear

  -- ---- so two wedges never have only a part of a line in common: lines of theirs with two different points in common
  -- have the same ends
  pub same_line : (W U : Wedge) → In W (wedges_given g) → In U (wedges_given g) → (x y u t : ℕ) →
      ¬ (x ≡ y) → Of x W → Of y W → ¬ (u ≡ t) → Of u U → Of t U → (z w : Spot) → Differ z w →
      OnSegment z (corner first x) (corner first y) → OnSegment w (corner first x) (corner first y) →
      OnSegment z (corner first u) (corner first t) → OnSegment w (corner first u) (corner first t) →
      ((u ≡ x) × (t ≡ y)) ⊎ ((u ≡ y) × (t ≡ x))
  same_line W U i j x y u t n p q m r s z w f a b c d =
      one_line first z w f x y u t (wedge_line W i x y n p q) (wedge_line U j u t m r s) (a, b) (c, d)

  -- ---- "A mark on the line between two wedges has the same exact place from either": the mark is on the line xy of
  -- one wedge and on the line ut of the other, and these have a second point in common
  pub between_wedges : (W U : Wedge) → In W (wedges_given g) → In U (wedges_given g) → (x y u t : ℕ) →
      ¬ (x ≡ y) → Of x W → Of y W → ¬ (u ≡ t) → Of u U → Of t U → (m : Point) (w : Spot) → Differ (spot m) w →
      OnSegment (spot m) (corner first x) (corner first y) → OnSegment w (corner first x) (corner first y) →
      OnSegment (spot m) (corner first u) (corner first t) → OnSegment w (corner first u) (corner first t) →
      SamePlace first second m W U
  between_wedges W U i j x y u t n p q k r s m w f a b c d =
      common_line first second m W U (no_flat W i) (no_flat U j) x y n p q ends.0 ends.1 a
    where
      ends : Of x U × Of y U
      ends = at (same_line W U i j x y u t n p q k r s (spot m) w f a b c d)
        where
          at : ((u ≡ x) × (t ≡ y)) ⊎ ((u ≡ y) × (t ≡ x)) → Of x U × Of y U
          at (inl e) = (subst (λ z. Of z U) e.0 r, subst (λ z. Of z U) e.1 s)
          at (inr e) = (subst (λ z. Of z U) e.1 s, subst (λ z. Of z U) e.0 r)
