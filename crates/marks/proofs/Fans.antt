-- The wedges of one piece, one after another: what has been passed holds no mark.
use Rattle.std.proofs.Common.{◌≡◌, refl, sym, ap, subst, Bool, true, false, cond, ◌||◌, ◌⊎◌, inl, inr, List, [], ◌∷◌, ℕ, suc, ◌+◌, ◌<◌, arith, T, eqb, eqb→eq, ℤ, length, get_or}
use Rattle.std.proofs.Math.ListN.{length-drop}
use Rattle.std.proofs.Math.Seq.{get_or-drop}
use Rattle.std.specs.Prelude.{Option, Some, None}
use Rattle.outline.specs.Drawing.{Point, corner}
use Rattle.marks.specs.Wedges.{Wedge, wedge, with_wedge, following, fan}
use Rattle.marks.specs.Lands.{area, Holds, LandsBy, Lands}
use Rattle.marks.specs.Areas.{no_area_from, no_area_to}
use Rattle.marks.specs.Parts.{wedge_of, Below, Tried, Piece, piece_fan, IsFan, Gives}
use Rattle.marks.specs.declared.Place.{Place}
use Rattle.marks.specs.declared.pieces.Wedges.{Wedges}
use Rattle.marks.specs.declared.wedge.Wedge as numbers

-- ---- a pair with the centre makes no area, so it may be tried like a wedge
either : (a b : Bool) → a || b ≡ true → (a ≡ true) ⊎ (b ≡ true)
either true b e = inl refl
either false b e = inr e

same : (a b : ℕ) → eqb a b ≡ true → a ≡ b
same a b e = eqb→eq a b (subst T (sym e) tt)

module _ (first second : List ℤ) (m : Point) where
  others : (c a b : ℕ) → Holds first m (wedge c a b) → ¬ (eqb a c || eqb b c ≡ true)
  others c a b h e = go (either (eqb a c) (eqb b c) e)
    where
      go : (eqb a c ≡ true) ⊎ (eqb b c ≡ true) → ⊥
      go (inl q) =
          omega (
            arith,
            h.has_area,
            subst (λ (k : ℕ). area (corner first c) (corner first k) (corner first b) ≡ 0) (sym (same a c q))
                (no_area_from (corner first c) (corner first b)),
          )
      go (inr q) =
          omega (
            arith,
            h.has_area,
            subst (λ (k : ℕ). area (corner first c) (corner first a) (corner first k) ≡ 0) (sym (same b c q))
                (no_area_to (corner first c) (corner first a)),
          )

  missed : (c a b : ℕ) (l : List Wedge) (r : Option Place) → Tried first second m (wedge c a b) None →
      Lands first second m l r → Lands first second m (with_wedge c a b l) r
  missed c a b l r n h = go (eqb a c || eqb b c)
    where
      go : (q : Bool) → Lands first second m (cond q l (wedge c a b ∷ l)) r
      go true = h
      go false = inr (n, h)

  hit : (c a b : ℕ) (l : List Wedge) (r : Option Place) → Holds first m (wedge c a b) →
      LandsBy first second m (wedge c a b) r →
      Lands first second m (with_wedge c a b l) r
  hit c a b l r h p = go (eqb a c || eqb b c) refl
    where
      go : (q : Bool) → eqb a c || eqb b c ≡ q → Lands first second m (cond q l (wedge c a b ∷ l)) r
      go true e = absurd (others c a b h e)
      go false e = inl (h, p)

  -- ---- the wedges of the piece L before those of s are passed: those decide. The corners of both are among n
  pub record PassedBy (n : ℕ) (L : List ℕ) (s : Wedges) : Type 0 where
    pub passed : (r : Option Place) → Lands first second m (fan s.centre s.first s.corners.now) r →
        Lands first second m (piece_fan L) r
    pub centre_below : s.centre < n
    pub first_below : s.first < n
    pub below : (i : ℕ) → i < length s.corners.now → get_or s.corners.now i 0 < n

  pub passed_none : {n : ℕ} {L : List ℕ} (s : Wedges) → Piece n L → IsFan L s → PassedBy n L s
  passed_none {n} {L} s p e = record {
    passed = λ r h. subst (λ l. Lands first second m l r) (λ i. fan (e.0 i) (e.1 i) (e.2 i)) h;
    centre_below = omega (arith, e.0, p.below 1 (omega arith) (omega (arith, p.enough)));
    first_below = omega (arith, e.1, p.below 2 (omega arith) (omega (arith, p.enough)));
    below = subst (λ (l : List ℕ). (i : ℕ) → i < length l → get_or l i 0 < n) (sym e.2)
        (λ i h. subst (λ (k : ℕ). k < n) (sym (get_or-drop 2 L i 0))
        (p.below (2 + i) (omega arith) (omega (arith, h, length-drop 2 L))));
  }

  -- a call of `next` that gave a wedge
  module _ {n : ℕ} {L : List ℕ} (s t : Wedges) (w : numbers.Wedge) (p : PassedBy n L s) (g : Gives s (Some w) t) where
    first_is : (d : ℕ) → get_or s.corners.now 0 d ≡ w.from
    first_is d = ap (λ (l : List ℕ). get_or l 0 d) g.0

    some : 0 < length s.corners.now
    some = omega (arith, ap length g.0)

    rest_below : (i : ℕ) → i < length t.corners.now → get_or t.corners.now i 0 < n
    rest_below i h =
        subst (λ (k : ℕ). k < n) (ap (λ (l : List ℕ). get_or l (suc i) 0) g.0)
        (p.below (suc i) (omega (arith, h, ap length g.0)))

    following_below : (l : List ℕ) → ((i : ℕ) → i < length l → get_or l i 0 < n) → following s.first l < n
    following_below [] h = p.first_below
    following_below (x ∷ l) h = h 0 (omega arith)

    pub wedge_below : Below n w
    wedge_below = (
      omega (arith, g.1, p.centre_below),
      omega (arith, first_is 0, p.below 0 some),
      omega (arith, g.2, following_below t.corners.now rest_below),
    )

    step : (r : Option Place) →
        Lands first second m
        (with_wedge w.centre w.from w.to (fan t.centre t.first t.corners.now)) r →
        Lands first second m (piece_fan L) r
    step r h =
        p.passed r
        (subst (λ l. Lands first second m (fan s.centre s.first l) r) (sym g.0)
        (subst (λ l. Lands first second m l r)
        (λ i. with_wedge (g.1 i) w.from (g.2 i) (fan (g.3 i) (g.4 i) t.corners.now)) h))

    pub passed_more : Tried first second m (wedge_of w) None → PassedBy n L t
    passed_more h = record {
      passed = λ r q. step r (missed w.centre w.from w.to (fan t.centre t.first t.corners.now) r h q);
      centre_below = omega (arith, g.3, p.centre_below);
      first_below = omega (arith, g.4, p.first_below);
      below = rest_below;
    }

    pub passed_hit : (P : Place) → Tried first second m (wedge_of w) (Some P) →
        Lands first second m (piece_fan L) (Some P)
    passed_hit P h =
        step (Some P) (hit w.centre w.from w.to (fan t.centre t.first t.corners.now) (Some P) h.0 h.1)

  pub passed_all : {n : ℕ} {L : List ℕ} {s : Wedges} → PassedBy n L s → s.corners.now ≡ [] →
      Lands first second m (piece_fan L) None
  passed_all {s = s} p e =
      p.passed None (subst (λ l. Lands first second m (fan s.centre s.first l) None) (sym e) refl)
