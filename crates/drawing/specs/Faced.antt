-- Who faces whom, by the digits of masks: the angle at one corner by two digits of the other's mask, and for all
-- corners at once by a mask turned by one.
use Rattle.std.specs.Prelude.{◌≡◌, ◌⊎◌, List, ℕ, zero, suc, ◌+◌, ◌*◌, ◌-◌, ◌^◌, ◌≤◌, ◌<◌, min, max, ℤ}
use Rattle.std.proofs.Common.{sym, ap, ◌∙◌, subst, inl, inr, arith}
use Rattle.std.proofs.Math.Logic.{by_cases}
use Rattle.std.proofs.Math.Decide.{ℕ_discrete}
use Rattle.std.specs.Int.Bits.{bit_and, bit_or}
use Rattle.whole.specs.Order.{Positive}
use Rattle.whole.specs.Bits.{bit, bit_small, push_low, push_high, bit_above, bit_highest, bit_lower, bit-and, bit-or}
use Rattle.whole.specs.Masks.{Marks, marked}
use Rattle.outline.specs.Drawing.{corner, corners, prev, turn_of, Angle}
use Rattle.outline.specs.Round.{next_prev, prev_below}
use Rattle.outline.specs.Against.{angle_left, angle_other, angle_both, angle_either}
use Rattle.drawing.specs.Known.{side_turn, Left, Needs, need_of, FacedBy, Around, Faced, AllKnown}
use Rattle.drawing.specs.declared.faced.Bends.{Bends}
use Rattle.drawing.specs.declared.masks.Known.{Known}

module _ (d : List ℤ) where
  -- ---- the angle by two digits of j's mask
  module _ (i j v m : ℕ) (hi : i < corners d) (needs : Needs d i v) (marks : Marks (corners d) m (Left d j)) where
    abbrev p : ℕ
    p = prev (corners d) i

    hp : p < corners d
    hp = prev_below (corners d) i hi

    -- side p ends at i
    at_p : (x : ℕ) → side_turn d x p ≡ turn_of (corner d p) (corner d i) (corner d x)
    at_p x = ap (λ y. turn_of (corner d p) (corner d y) (corner d x)) (next_prev (corners d) i hi)

    before : bit m p ≡ 1 → Positive (turn_of (corner d p) (corner d i) (corner d j))
    before e = subst Positive (at_p j) (marks.yes p e).1

    pub facing_of : v ≤ bit m i + bit m p → Angle d i j
    facing_of h = go needs
      where
        small : (bit m i < 2) × (bit m p < 2)
        small = (bit_small m i, bit_small m p)

        go : Needs d i v → Angle d i j
        go (inl n) =
            angle_left _ _ _ _ n.1 (before (omega (arith, small.0, small.1, n.0, h)))
            (marks.yes i (omega (arith, small.0, small.1, n.0, h))).1
        go (inr n) =
            angle_other _ _ _ _ n.1
            (by_cases (ℕ_discrete (bit m p) 1) (λ e. inl (before e))
            (λ e. inr (marks.yes i (omega (arith, small.0, small.1, n.0, h, e))).1))

    pub facing_to : Angle d i j → v ≤ bit m i + bit m p
    facing_to f = go needs
      where
        one_i : Left d j i → bit m i ≡ 1
        one_i h = marked marks i hi h

        one_p : Positive (turn_of (corner d p) (corner d i) (corner d j)) → bit m p ≡ 1
        one_p h = marked marks p hp (subst Positive (sym (at_p j)) h)

        some : Positive (turn_of (corner d p) (corner d i) (corner d j)) ⊎ Left d j i → 1 ≤ bit m i + bit m p
        some (inl h) = omega (arith, one_p h)
        some (inr h) = omega (arith, one_i h)

        go : Needs d i v → v ≤ bit m i + bit m p
        go (inl n) = let b = angle_both _ _ _ _ n.1 f in omega (arith, one_p b.0, one_i b.1, n.0)
        go (inr n) = omega (arith, some (angle_either _ _ _ _ n.1 f), n.0)

-- ---- a mask turned by one
around_low : (n m : ℕ) → 0 < n → m < 2 ^ (n - 1) → (k : ℕ) → k < n → bit (m * 2 + 0) k ≡ bit m (prev n k)
around_low n m h l zero b = push_low m 0 (omega arith) ∙ sym (bit_above m (n - 1) l)
around_low n m h l (suc k) b = push_high m 0 (omega arith) k

pub turned_low : (n m : ℕ) → 0 < n → m < 2 ^ (n - 1) → Around n m (m * 2)
turned_low n m h l k b = let e : m * 2 ≡ m * 2 + 0 = omega arith in ap (λ x. bit x k) e ∙ around_low n m h l k b

pub turned_high : (n m : ℕ) → 0 < n → 2 ^ (n - 1) ≤ m → m < 2 ^ n → Around n m ((m - 2 ^ (n - 1)) * 2 + 1)
turned_high n m h u l zero b =
    let e : suc (n - 1) ≡ n = omega (arith, h) in
    push_low (m - 2 ^ (n - 1)) 1 (omega arith) ∙ sym (bit_highest m (n - 1) u (subst (λ x. m < 2 ^ x) (sym e) l))
turned_high n m h u l (suc k) b =
    push_high (m - 2 ^ (n - 1)) 1 (omega arith) k ∙ bit_lower m (n - 1) k u (omega (arith, b))

-- ---- the corners that face i, by two digits of i's mask for each
-- of the digits of who needs two and who needs one, and the two of the mask
other_one : (x y : ℕ) → max x y ≡ 1 → ¬ (x ≡ 1) → y ≡ 1
other_one x y e n = omega (arith, e, n)

either_one : (o l p : ℕ) → o < 2 → min o (max l p) ≡ 1 → (o ≡ 1) × (1 ≤ l + p)
either_one o l p h e = (omega (arith, h, e), omega (arith, e))

faced_yes : (t o l p : ℕ) → t < 2 → o < 2 → max (min (min t l) p) (min o (max l p)) ≡ 1 →
    ((t ≡ 1) × (2 ≤ l + p)) ⊎ ((o ≡ 1) × (1 ≤ l + p))
faced_yes t o l p ht ho e =
    by_cases (ℕ_discrete (min (min t l) p) 1) (λ x. inl (omega (arith, ht, x), omega (arith, x)))
    (λ x. inr (either_one o l p ho (other_one (min (min t l) p) (min o (max l p)) e x)))

faced_no : (t o l p : ℕ) → l < 2 → p < 2 → max (min (min t l) p) (min o (max l p)) ≡ 0 →
    (t ≡ 1 → 2 ≤ l + p → ⊥) × (o ≡ 1 → 1 ≤ l + p → ⊥)
faced_no t o l p hl hp e = (λ x y. omega (arith, hl, hp, e, x, y), λ x y. omega (arith, hl, hp, e, x, y))

module _ (t o l p k : ℕ) where
  pub faced_at : bit (bit_or (bit_and (bit_and t l) p) (bit_and o (bit_or l p))) k
      ≡ max (min (min (bit t k) (bit l k)) (bit p k)) (min (bit o k) (max (bit l k) (bit p k)))
  faced_at = simp (bit-or, bit-and)

  pub faced_off : bit t k ≡ 0 → bit o k ≡ 0 → bit (bit_or (bit_and (bit_and t l) p) (bit_and o (bit_or l p))) k ≡ 0
  faced_off x y = faced_at ∙ rw (x, y) (least (bit l k) (bit p k))
    where
      least : (l p : ℕ) → max (min (min 0 l) p) (min 0 (max l p)) ≡ 0
      least l p = omega arith

module _ (d : List ℤ) (i : ℕ) (w : List Known) {left r : ℕ} {b : Bends} (f : Faced (corners d) left b r)
    (known : AllKnown d (corners d) w) (marks : Marks (corners d) left (Left d i))
    (two : Marks (corners d) b.two (λ j. need_of w j ≡ 2))
    (one : Marks (corners d) b.one (λ j. need_of w j ≡ 1)) where
  faced_to : (j : ℕ) → j < corners d → need_of w j ≤ bit left j + bit left (prev (corners d) j) → Angle d j i
  faced_to j h l = facing_of d j i (need_of w j) left h (known j h).needs marks l

  faced_digit : (j : ℕ) → j < corners d → bit r j ≡ 1 → Angle d j i
  faced_digit j h e = go (faced_yes _ _ _ _ (bit_small b.two j) (bit_small b.one j) (sym (f.at j h) ∙ e))
    where
      go : ((bit b.two j ≡ 1) × (2 ≤ bit left j + bit left (prev (corners d) j))) ⊎
          ((bit b.one j ≡ 1) × (1 ≤ bit left j + bit left (prev (corners d) j))) → Angle d j i
      go (inl x) = faced_to j h (omega (arith, (two.yes j x.0).1, x.1))
      go (inr x) = faced_to j h (omega (arith, (one.yes j x.0).1, x.1))

  pub faced_marks : FacedBy d i r
  faced_marks = record { yes = yes; no = no }
    where
      within : (j : ℕ) → bit r j ≡ 1 → j < corners d
      within j e =
          by_cases (ℕ_discrete (bit b.two j) 1) (λ x. (two.yes j x).0)
          (λ x. by_cases (ℕ_discrete (bit b.one j) 1) (λ y. (one.yes j y).0)
          (λ y. let off = f.off j (omega (arith, x, bit_small b.two j)) (omega (arith, y, bit_small b.one j)) in
          absurd (omega (arith, e, off))))

      yes : (j : ℕ) → bit r j ≡ 1 → (j < corners d) × Angle d j i
      yes j e = (within j e, faced_digit j (within j e) e)

      no : (j : ℕ) → j < corners d → bit r j ≡ 0 → ¬ Angle d j i
      no j h e g = go (known j h).needs
        where
          l : need_of w j ≤ bit left j + bit left (prev (corners d) j)
          l = facing_to d j i (need_of w j) left h (known j h).needs marks g

          none : (bit b.two j ≡ 1 → 2 ≤ bit left j + bit left (prev (corners d) j) → ⊥) ×
              (bit b.one j ≡ 1 → 1 ≤ bit left j + bit left (prev (corners d) j) → ⊥)
          none = faced_no _ _ _ _ (bit_small left j) (bit_small left (prev (corners d) j)) (sym (f.at j h) ∙ e)

          go : Needs d j (need_of w j) → ⊥
          go (inl n) = none.0 (marked two j h n.0) (omega (arith, l, n.0))
          go (inr n) = none.1 (marked one j h n.0) (omega (arith, l, n.0))
