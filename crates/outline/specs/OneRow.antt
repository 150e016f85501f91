-- One row through a closed outline: if the number of sides right of one that goes up is odd, and right of one that
-- goes down even, then the places of the sides that go up come to no more than those of the sides that go down.
--
--      ^    v    ^    v           the rightmost goes down, the next up, and so on: each that
--   ---|----|----|----|---        goes up stands left of one that goes down
--
-- One goes along the row from the far right to the left, with the moment of the sides passed about where one is.
use Rattle.std.specs.Prelude.{◌≡◌, refl, Bool, true, false, not, [], ◌∷◌, ℕ, zero, suc, ◌<◌, ℤ, pos, neg_ℤ, ◌+ℤ◌, ◌-ℤ◌, ◌*ℤ◌, ◌≤ℤ◌}
use Rattle.std.proofs.Common.{sym, ◌∙◌, ap, ap₂, subst, arith, le_refl}
use Rattle.std.proofs.lemmas.Bool.{false≢true}
use Rattle.std.proofs.Math.IntN.{zero-*ℤ}
use Rattle.std.specs.Int.Signed.{lt_z, ≤ℤ_refl}
use Rattle.whole.specs.Ring.{v, ◌:+◌, ◌:-◌, ◌:*◌, neg, ring}
use Rattle.whole.specs.Order.{nonneg_pos, sub_le, +ℤ_mono}
use Rattle.outline.specs.Spell.{O, I}
use Rattle.outline.specs.Odd.{◌⊕◌}
use Rattle.outline.specs.Compare.{less, not_less}
use Rattle.outline.specs.Sums.{sum, sum_same, sum_nought, sum_add, sum_times, sum_steps, Bounds, bounds}
use Rattle.outline.specs.Sums.{downward}
use Rattle.outline.specs.RowStep.{one_if, both, both_no, through, lift, odd_right, lifts, moment, moment_step}
use Rattle.outline.specs.RowStep.{Step, none, passed, step}

module _ (high : ℕ → Bool) (X : ℕ → ℤ) (n : ℕ)
    (distinct : (k m : ℕ) → k < n → m < n → through high k ≡ true → through high m ≡ true → X k ≡ X m → k ≡ m)
    (ranks : (k : ℕ) → k < n → through high k ≡ true → odd_right high X (X k) n ≡ high (suc k))
    (closed : high n ≡ high 0) where
  -- the lifts right of z come to -1 or nought, so the moment does not rise
  record Level (z : ℤ) : Type 0 where
    number : lifts high X z n ≡ neg_ℤ (one_if (odd_right high X z n))
    weight : moment high X z n ≤ℤ pos 0

  -- the value before a side that goes from s to t is t, after it the other
  passing_one : (s t : Bool) → s ⊕ t ≡ true → neg_ℤ (one_if t) +ℤ (one_if t -ℤ one_if s) ≡ neg_ℤ (one_if (not t))
  passing_one true true e = absurd (false≢true e)
  passing_one true false e = refl
  passing_one false true e = refl
  passing_one false false e = absurd (false≢true e)

  not_above : (b : Bool) → neg_ℤ (one_if b) ≤ℤ pos 0
  not_above true = sub_le (nonneg_pos 1)
  not_above false = sub_le (nonneg_pos 0)

  next_number : (z : ℤ) → lifts high X z n ≡ neg_ℤ (one_if (odd_right high X z n)) → Step high X z n →
      lifts high X (z -ℤ pos 1) n ≡ neg_ℤ (one_if (odd_right high X (z -ℤ pos 1) n))
  next_number z h (none a b) = a ∙ h ∙ ap (λ r. neg_ℤ (one_if r)) (sym b)
  next_number z h (passed k hk go_k at_k a b) =
      a ∙ ap (λ t. t +ℤ lift high k) (h ∙ ap (λ r. neg_ℤ (one_if r)) rank) ∙ passing_one (high k) (high (suc k)) go_k
      ∙ ap (λ r. neg_ℤ (one_if r)) (sym (b ∙ ap not rank))
    where
      rank : odd_right high X z n ≡ high (suc k)
      rank = ap (λ w. odd_right high X w n) (sym at_k) ∙ ranks k hk go_k

  next_level : (z : ℤ) → Level z → Level (z -ℤ pos 1)
  next_level z l = record {
    number = number;
    weight = subst (λ w. w ≤ℤ pos 0) (sym (moment_step high X z n))
        (+ℤ_mono l.weight (subst (λ w. w ≤ℤ pos 0) (sym number) (not_above (odd_right high X (z -ℤ pos 1) n))));
  }
    where
      number : lifts high X (z -ℤ pos 1) n ≡ neg_ℤ (one_if (odd_right high X (z -ℤ pos 1) n))
      number = next_number z l.number (step high X n distinct z n (le_refl n))

  -- nothing is right of all places
  top_level : (z : ℤ) → ((m : ℕ) → m < n → X m ≤ℤ z) → Level z
  top_level z all = record {
    number = sum_nought (λ m. one_if (lt_z z (X m)) *ℤ lift high m) n (λ m k. nothing m k (lift high m))
        ∙ ap (λ r. neg_ℤ (one_if r)) (sym (none_right n all));
    weight = subst (λ w. w ≤ℤ pos 0)
        (sym (sum_nought (λ m. one_if (lt_z z (X m)) *ℤ (lift high m *ℤ (X m -ℤ z))) n
        (λ m k. nothing m k (lift high m *ℤ (X m -ℤ z)))))
        (≤ℤ_refl (pos 0));
  }
    where
      nothing : (m : ℕ) → m < n → (w : ℤ) → one_if (lt_z z (X m)) *ℤ w ≡ pos 0
      nothing m k w = ap (λ b. one_if b *ℤ w) (not_less z (X m) (all m k)) ∙ zero-*ℤ w

      none_right : (t : ℕ) → ((m : ℕ) → m < t → X m ≤ℤ z) → odd_right high X z t ≡ false
      none_right zero h = refl
      none_right (suc t) h =
          ap₂ ◌⊕◌ (ap (both (through high t)) (not_less z (X t) (h t (le_refl (suc t)))) ∙ both_no (through high t))
          (none_right t (λ m k. h m (omega arith)))

  -- left of all places the moment is that of all sides: round a closed outline the lifts make nothing
  pub row : sum (λ m. lift high m *ℤ X m) n ≤ℤ pos 0
  row =
      subst (λ w. w ≤ℤ pos 0) all_sides
      (downward Level b.high (top_level b.high b.over) next_level b.low b.low_high).weight
    where
      b : Bounds X n
      b = bounds X n

      no_lifts : sum (λ m. neg_ℤ b.low *ℤ lift high m) n ≡ pos 0
      no_lifts =
          sum_times (neg_ℤ b.low) (lift high) n
          ∙ ap (λ w. neg_ℤ b.low *ℤ w)
          (sum_steps (λ m. one_if (high m)) n ∙ ap (λ t. one_if t -ℤ one_if (high 0)) closed)
          ∙ ring (b.low ∷ one_if (high 0) ∷ []) (neg (v 0) :* (v 1 :- v 1)) O refl

      all_sides : moment high X b.low n ≡ sum (λ m. lift high m *ℤ X m) n
      all_sides =
          sum_same (λ m. one_if (lt_z b.low (X m)) *ℤ (lift high m *ℤ (X m -ℤ b.low)))
          (λ m. lift high m *ℤ X m +ℤ neg_ℤ b.low *ℤ lift high m) n
          (λ m k. ap (λ t. one_if t *ℤ (lift high m *ℤ (X m -ℤ b.low))) (less b.low (X m) (b.under m k))
          ∙ ring (lift high m ∷ X m ∷ b.low ∷ []) (I :* (v 0 :* (v 1 :- v 2))) (v 0 :* v 1 :+ neg (v 2) :* v 0) refl)
          ∙ sum_add (λ m. lift high m *ℤ X m) (λ m. neg_ℤ b.low *ℤ lift high m) n
          ∙ ap (λ w. sum (λ m. lift high m *ℤ X m) n +ℤ w) no_lifts
          ∙ ring (sum (λ m. lift high m *ℤ X m) n ∷ []) (v 0 :+ O) (v 0) refl
