-- "A mark on the line between two wedges has the same exact place from either; prove it" (02, K1). The wedges have two
-- corners in common, and the mark is on the line of these: a spoke of one piece, or a cut between two pieces,
-- whichever corners are the centres.
use Rattle.std.specs.Prelude.{Option, Some, None, ◌≡◌, refl, ◌⊎◌, List, [], ◌∷◌, ℕ, ℤ, pos, neg_ℤ, ◌+ℤ◌, ◌*ℤ◌}
use Rattle.std.proofs.Common.{sym, ◌∙◌, ap, ap₂, subst, inl, inr}
use Rattle.whole.specs.Ring.{E, v, ◌:+◌, ◌:-◌, ◌:*◌, neg, ring, ring1}
use Rattle.outline.specs.Drawing.{Point, corner, turn_of}
use Rattle.outline.specs.Spell.{PointE, A, B, C, D, O, TurnE}
use Rattle.marks.specs.Wedges.{Wedge}
use Rattle.marks.specs.Lands.{across, upward, wedge_area, weighed, Holds, LandsBy}
use Rattle.marks.specs.Areas.{one_sign}
use Rattle.marks.specs.OneWay.{SameFraction, told_same}
use Rattle.marks.specs.declared.Place.{Place}

-- x is a corner of W
abbrev pub Of : ℕ → Wedge → Type 0
Of x W = (x ≡ W.centre) ⊎ ((x ≡ W.from) ⊎ (x ≡ W.to))

-- ---- spelled: A, B, C, D are four corners, M is the mark, and i, j, k, l are the corners' coordinates in the second
-- drawing
abbrev M : PointE
M = record { x = v 8; y = v 9 }

abbrev i : E
i = v 10

abbrev j : E
j = v 11

abbrev k : E
k = v 12

abbrev l : E
l = v 13

abbrev signed_e : PointE → PointE → PointE → E → E → E → E
signed_e a b c i j k = TurnE M b c :* i :+ TurnE M c a :* j :+ TurnE M a b :* k

module _ (first : List ℤ) (m : Point) (at : ℕ → ℤ) where
  abbrev on : ℕ → Point
  on x = corner first x

  abbrev env : ℕ → ℕ → ℕ → ℕ → List ℤ
  env x y z t =
      (on x).x ∷ (on x).y ∷ (on y).x ∷ (on y).y ∷ (on z).x ∷ (on z).y ∷ (on t).x ∷ (on t).y
      ∷ m.x ∷ m.y ∷ at x ∷ at y ∷ at z ∷ at t ∷ []

  -- the sum of three corners, weighed by turns
  abbrev signed : ℕ → ℕ → ℕ → ℤ
  signed x y z = turn_of m (on y) (on z) *ℤ at x +ℤ turn_of m (on z) (on x) *ℤ at y +ℤ turn_of m (on x) (on y) *ℤ at z

  -- the wedge's place is such a sum over a turn, both times one sign
  record Signed (W : Wedge) (x y z : ℕ) : Type 0 where
    s : ℤ
    over : weighed first m at W ≡ s *ℤ signed x y z
    under : pos (wedge_area first W) ≡ s *ℤ turn_of (on x) (on y) (on z)

  own : (W : Wedge) → Holds first m W → Signed W W.centre W.from W.to
  own W h =
      let t = one_sign (on W.centre) (on W.from) (on W.to) m h.has_area h.in_or_on in
      record {
        s = t.s;
        over =
            (λ e. t.of_a e *ℤ at W.centre +ℤ t.of_b e *ℤ at W.from +ℤ t.of_c e *ℤ at W.to)
            ∙ ring (t.s ∷ turn_of m (on W.from) (on W.to) ∷ turn_of m (on W.to) (on W.centre)
            ∷ turn_of m (on W.centre) (on W.from) ∷ at W.centre ∷ at W.from ∷ at W.to ∷ [])
            (v 0 :* v 1 :* v 4 :+ v 0 :* v 2 :* v 5 :+ v 0 :* v 3 :* v 6)
            (v 0 :* (v 1 :* v 4 :+ v 2 :* v 5 :+ v 3 :* v 6)) refl;
        under = t.whole;
      }

  -- ---- the corners in another order
  round : (W : Wedge) (x y z : ℕ) → Signed W x y z → Signed W y z x
  round W x y z h =
      record {
        s = h.s;
        over = h.over ∙ ap (λ e. h.s *ℤ e) (ring (env x y z z) (signed_e A B C i j k) (signed_e B C A j k i) refl);
        under = h.under ∙ ap (λ e. h.s *ℤ e) (ring (env x y z z) (TurnE A B C) (TurnE B C A) refl);
      }

  swap : (W : Wedge) (x y z : ℕ) → Signed W x y z → Signed W y x z
  swap W x y z h =
      record {
        s = neg_ℤ h.s;
        over =
            h.over ∙ turn_over (signed x y z)
            (ring (env x y z z) (signed_e B A C j i k) (neg (signed_e A B C i j k)) refl);
        under =
            h.under ∙ turn_over (turn_of (on x) (on y) (on z))
            (ring (env x y z z) (TurnE B A C) (neg (TurnE A B C)) refl);
      }
    where
      turn_over : (a : ℤ) {b : ℤ} → b ≡ neg_ℤ a → h.s *ℤ a ≡ neg_ℤ h.s *ℤ b
      turn_over a {b} e = ring1 (h.s ∷ a ∷ b ∷ []) (v 0 :* v 1) (neg (v 0) :* v 2) (v 0) (v 2) (neg (v 1)) e refl

  named : (W : Wedge) (x y p q z : ℕ) → x ≡ p → y ≡ q → Signed W p q z → Signed W x y z
  named W x y p q z e f g = subst (λ a. Signed W a y z) (sym e) (subst (λ b. Signed W p b z) (sym f) g)

  -- by two corners of it, and the third
  by_two : (W : Wedge) (x y : ℕ) → Holds first m W → ¬ (x ≡ y) → Of x W → Of y W → (z : ℕ) × Signed W x y z
  by_two W x y h n p q = go p q
    where
      c : ℕ
      c = W.centre

      a : ℕ
      a = W.from

      b : ℕ
      b = W.to

      ab : Signed W a b c
      ab = round W c a b (own W h)

      bc : Signed W b c a
      bc = round W a b c ab

      go : Of x W → Of y W → (z : ℕ) × Signed W x y z
      go (inl e) (inl f) = absurd (n (e ∙ sym f))
      go (inl e) (inr (inl f)) = (b, named W x y c a b e f (own W h))
      go (inl e) (inr (inr f)) = (a, named W x y c b a e f (swap W b c a bc))
      go (inr (inl e)) (inl f) = (b, named W x y a c b e f (swap W c a b (own W h)))
      go (inr (inl e)) (inr (inl f)) = absurd (n (e ∙ sym f))
      go (inr (inl e)) (inr (inr f)) = (c, named W x y a b c e f ab)
      go (inr (inr e)) (inl f) = (a, named W x y b c a e f bc)
      go (inr (inr e)) (inr (inl f)) = (c, named W x y b a c e f (swap W a b c ab))
      go (inr (inr e)) (inr (inr f)) = absurd (n (e ∙ sym f))

  -- ---- a mark on the line xy has one place over both triangles, whichever side of the line they are on
  one_place : (x y z t : ℕ) → turn_of m (on x) (on y) ≡ pos 0 →
      signed x y z *ℤ turn_of (on x) (on y) (on t) ≡ signed x y t *ℤ turn_of (on x) (on y) (on z)
  one_place x y z t e =
      ring1 (env x y z t) (signed_e A B C i j k :* TurnE A B D) (signed_e A B D i j l :* TurnE A B C)
      (TurnE B C D :* i :- TurnE A C D :* j :+ k :* TurnE A B D :- l :* TurnE A B C) (TurnE M A B) O e refl

  pub same_place : (W W' : Wedge) (x y : ℕ) → ¬ (x ≡ y) → Of x W → Of y W → Of x W' → Of y W' →
      Holds first m W → Holds first m W' → turn_of m (on x) (on y) ≡ pos 0 →
      SameFraction (weighed first m at W) (wedge_area first W) (weighed first m at W') (wedge_area first W')
  same_place W W' x y n p q p' q' h h' e =
      let f = by_two W x y h n p q in
      let g = by_two W' x y h' n p' q' in
      ap₂ ◌*ℤ◌ f.1.over g.1.under
      ∙ ring1 (f.1.s ∷ g.1.s ∷ signed x y f.0 ∷ turn_of (on x) (on y) (on f.0)
      ∷ signed x y g.0 ∷ turn_of (on x) (on y) (on g.0) ∷ [])
      (v 0 :* v 2 :* (v 1 :* v 5)) (v 1 :* v 4 :* (v 0 :* v 3)) (v 0 :* v 1) (v 2 :* v 5) (v 4 :* v 3)
      (one_place x y f.0 g.0 e) refl
      ∙ sym (ap₂ ◌*ℤ◌ g.1.over f.1.under)

-- ---- so it is told alike: the same steps, and the same rests to the last bit
pub same_landing : (first second : List ℤ) (m : Point) (W W' : Wedge) (x y : ℕ) → ¬ (x ≡ y) → Of x W → Of y W →
    Of x W' → Of y W' →
    Holds first m W → Holds first m W' → turn_of m (corner first x) (corner first y) ≡ pos 0 →
    (r r' : Option Place) → LandsBy first second m W r → LandsBy first second m W' r' → r ≡ r'
same_landing first second m W W' x y n p q p' q' h h' e (Some a) (Some b) f g =
    let s : (at : ℕ → ℤ) →
    SameFraction (weighed first m at W) (wedge_area first W) (weighed first m at W') (wedge_area first W') =
    λ at. same_place first m at W W' x y n p q p' q' h h' e in
    let ax = told_same _ _ _ _ a.x b.x (s (across second)) f.0 g.0 in
    let up = told_same _ _ _ _ a.y b.y (s (upward second)) f.1 g.1 in
    λ t. Some (record { x = ax t; y = up t })
same_landing first second m W W' x y n p q p' q' h h' e None r' f g = absurd f
same_landing first second m W W' x y n p q p' q' h h' e (Some a) None f g = absurd g
