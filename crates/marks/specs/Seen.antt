-- The wedges of an answer: three corners that differ, of which the centre sees the two others in both drawings, by a
-- centre's sight, and these see each other by 01's strict sight, since a side or a cut joins them.
--
--                 to
--               /    \         A spoke, from the centre to another corner, may touch corners on its way (02, K3). The
--      spoke  /       | line   line from..to touches none. Where the spokes are lines of strict sight too, the wedge
--           /        /         has an area.
--      centre --- from
use Rattle.std.specs.Prelude.{◌≡◌, refl, List, [], ◌∷◌, ℕ, zero, suc, ◌<◌, ℤ, pos, negsuc, nat_abs}
use Rattle.std.proofs.Common.{sym, ◌∙◌, subst, inl, inr, arith}
use Rattle.outline.specs.Drawing.{corner, corners, turn_of, Sees}
use Rattle.outline.specs.InOrOn.{spot, OnSegment}
use Rattle.outline.specs.Round.{next_inner, next_last}
use Rattle.outline.specs.Seeing.{sees_mutual}
use Rattle.outline.specs.Unbroken.{none_between, seen_area}
use Rattle.pair.specs.Passing.{SoundPair, equally_many}
use Rattle.rules.specs.Lists.{In}
use Rattle.rules.specs.Cutting.{Pairs, Side, Joined, Region, pieces}
use Rattle.rules.proofs.Regions.{pieces_regions}
use Rattle.rules.specs.Result.{Result, Given}
use Rattle.desk.specs.Answer.{InBoth, plan, ValidCutting}
use Rattle.marks.specs.Wedges.{Wedge, piece_wedges}
use Rattle.marks.specs.Lands.{wedge_area}
use Rattle.marks.specs.Carry.{wedges_given}
use Rattle.marks.specs.NoFlat.{NoFlatWedge}
use Rattle.marks.specs.Joined.{of_piece, fan_follows, Either, joined, both_in}

-- 01's strict sight in both drawings: a cut asks it, and the ends of a side have it
abbrev pub StrictInBoth : List ℤ → List ℤ → ℕ → ℕ → Type 0
StrictInBoth first second a b = Sees first a b × Sees second a b

-- ---- its corners are corners of the drawings, differ, and see each other
pub record SeenWedge (first second : List ℤ) (W : Wedge) : Type 0 where
  pub centre_below : W.centre < corners first
  pub from_below : W.from < corners first
  pub to_below : W.to < corners first
  pub centre_from : ¬ (W.centre ≡ W.from)
  pub from_to : ¬ (W.from ≡ W.to)
  pub to_centre : ¬ (W.to ≡ W.centre)
  pub sees_from : InBoth first second W.centre W.from
  pub sees_to : InBoth first second W.centre W.to
  pub strict_along : StrictInBoth first second W.from W.to

-- a side joins neighbours
beside : (d : List ℤ) (a b : ℕ) → b < corners d → Side (corners d) a b → Sees d a b
beside d a b h (inl e) = record { sees = inl (inr (inl (next_inner (corners d) a (omega (arith, h, e)) ∙ sym e))) }
beside d a b h (inr e) = record { sees = inl (inr (inr (next_last (corners d) b e.1 ∙ sym e.0))) }

module _ (first second : List ℤ) (pair : SoundPair first second) (C : Pairs)
    (valid : ValidCutting first second C) where
  abbrev n : ℕ
  n = corners first

  many : corners second ≡ n
  many = equally_many pair.alike

  pub joined_sees : (a b : ℕ) → b < n → Joined n C a b → StrictInBoth first second a b
  joined_sees a b h (inl s) =
      (beside first a b h s, beside second a b (omega (arith, h, many)) (subst (λ k. Side k a b) (sym many) s))
  joined_sees a b h (inr t) = (valid.cuts a b t).0

  either_sees : (a b : ℕ) → a < n → b < n → Either n C a b → (¬ (a ≡ b)) × StrictInBoth first second a b
  either_sees a b ha hb (inl h) = ((λ e. omega (arith, e, h.0)), joined_sees a b hb h.1)
  either_sees a b ha hb (inr h) =
      let s = joined_sees b a ha h.1 in
      ((λ e. omega (arith, e, h.0)), (sees_mutual s.0, sees_mutual s.1))

  piece_seen : (c : ℕ) (S : List ℕ) → Region n C S → In c S → ((y : ℕ) → In y S → InBoth first second c y) →
      (W : Wedge) →
      In W (piece_wedges c S) → SeenWedge first second W
  piece_seen c [] R i sees W k = absurd k
  piece_seen c (f ∷ s) R i sees W k =
      let w = fan_follows c f (f ∷ s) W k in
      let in_s = both_in n C f s W.from W.to w.follow in
      let ha = R.small W.from in_s.0 in
      let hb = R.small W.to in_s.1 in
      let e = either_sees W.from W.to ha hb (joined n C f s R W.from W.to w.follow) in
      record {
        centre_below = subst (λ x. x < n) (sym w.centre_is) (R.small c i);
        from_below = ha;
        to_below = hb;
        centre_from = λ q. w.from_other (sym q ∙ w.centre_is);
        from_to = e.0;
        to_centre = λ q. w.to_other (q ∙ w.centre_is);
        sees_from = subst (λ x. InBoth first second x W.from) (sym w.centre_is) (sees W.from in_s.0);
        sees_to = subst (λ x. InBoth first second x W.to) (sym w.centre_is) (sees W.to in_s.1);
        strict_along = e.1;
      }

-- ---- the wedges of an answer
module _ (first second : List ℤ) (pair : SoundPair first second) {before : List ℕ} {r : Result}
    (g : Given (plan first second) (corners first) before r) where
  pub wedge_seen : (W : Wedge) → In W (wedges_given g) → SeenWedge first second W
  wedge_seen W i =
      let valid = g.is_first.valid in
      let p = of_piece (plan first second).centre (pieces (corners first) g.cutting) g.carries.laid
      g.carries.layout W i in
      let R = (pieces_regions (corners first) g.cutting pair.alike.enough valid.uncrossed p.S).0
      p.told in
      piece_seen first second pair g.cutting valid p.c p.S R p.is_centre.centre.0
      p.is_centre.centre.1 W p.among

  -- ---- a wedge has an area where its spokes are lines of strict sight in the first drawing; so none is flat where
  -- all spokes are
  pub record StrictSpokes (W : Wedge) : Type 0 where
    pub to_from : Sees first W.centre W.from
    pub to_to : Sees first W.centre W.to

  pub strict_area : (W : Wedge) → In W (wedges_given g) → StrictSpokes W → 0 < wedge_area first W
  strict_area W i s =
      let w = wedge_seen W i in
      some (turn_of (corner first W.centre) (corner first W.from) (corner first W.to))
      (seen_area first pair.first_sound.simple W.centre W.from W.to
      w.centre_below w.from_below w.to_below w.centre_from w.from_to w.to_centre
      s.to_from w.strict_along.0 (sees_mutual s.to_to))
    where
      some : (z : ℤ) → ¬ (z ≡ pos 0) → 0 < nat_abs z
      some (pos zero) n = absurd (n refl)
      some (pos (suc k)) n = omega arith
      some (negsuc k) n = omega arith

  pub strict_no_flat : ((W : Wedge) → In W (wedges_given g) → StrictSpokes W) → NoFlatWedge first (wedges_given g)
  strict_no_flat s W i = strict_area W i (s W i)

  -- ---- the line from..to: no corner stands on it but its two ends, in either drawing
  pub no_corner_between : (W : Wedge) → In W (wedges_given g) →
      (z : ℕ) → z < corners first → ¬ (z ≡ W.from) → ¬ (z ≡ W.to) →
      (¬ OnSegment (spot (corner first z)) (corner first W.from) (corner first W.to))
      × (¬ OnSegment (spot (corner second z)) (corner second W.from) (corner second W.to))
  no_corner_between W i z hz zx zy =
      let w = wedge_seen W i in
      let there : (k : ℕ) → k < corners first → k < corners second =
      λ k l. omega (arith, l, equally_many pair.alike) in (
        none_between first pair.first_sound.simple W.from W.to z w.from_below w.to_below hz
            w.from_to w.strict_along.0 zx zy,
        none_between second pair.second_sound.simple W.from W.to z (there W.from w.from_below)
            (there W.to w.to_below) (there z hz) w.from_to w.strict_along.1 zx zy,
      )
