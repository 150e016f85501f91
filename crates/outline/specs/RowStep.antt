-- One step along a row through a closed outline, from right to left. Some sides go through the row, up or down, each
-- at a place X of its own; on the way from z to z - 1 at most one of them, at z, comes to be right of where one is.
use Rattle.std.specs.Prelude.{◌≡◌, refl, Bool, true, false, not, [], ◌∷◌, ℕ, zero, suc, ◌<◌, ◌≤◌, ℤ, pos, ◌+ℤ◌, ◌-ℤ◌, ◌*ℤ◌}
use Rattle.std.proofs.Common.{sym, ◌∙◌, ap, ap₂, subst, true≢false, arith, le_refl}
use Rattle.std.proofs.Math.IntN.{*ℤ-zero}
use Rattle.std.specs.Int.Signed.{lt_z}
use Rattle.whole.specs.Ring.{E, v, ◌:+◌, ◌:-◌, ◌:*◌, neg, ring, ring1, by_ring}
use Rattle.whole.specs.Order.{Nonneg, Positive, Sign, plus, nought, minus, sign, nonneg_pos, positive_pos}
use Rattle.whole.specs.Order.{positive_nonneg, positive_add, positive_pred, sub_le, sub_lt, diff_zero}
use Rattle.outline.specs.Spell.{O, I}
use Rattle.outline.specs.Xor.{⊕-move}
use Rattle.outline.specs.Odd.{◌⊕◌}
use Rattle.outline.specs.Compare.{less, not_less}
use Rattle.outline.specs.AllChanges.{total}
use Rattle.outline.specs.Sums.{sum, sum_same, sum_add}

-- ---- truth values as numbers, and both of two
abbrev pub one_if : Bool → ℤ
one_if true = pos 1
one_if false = pos 0

abbrev pub both : Bool → Bool → Bool
both true b = b
both false b = false

pub both_no : (b : Bool) → both b false ≡ false
both_no true = refl
both_no false = refl

-- ---- of corners that are higher than the row or not: side m goes through it; its lift, 1 upwards, -1 downwards
abbrev pub through : (ℕ → Bool) → ℕ → Bool
through high m = high m ⊕ high (suc m)

abbrev pub lift : (ℕ → Bool) → ℕ → ℤ
lift high m = one_if (high (suc m)) -ℤ one_if (high m)

idle : (s t : Bool) → s ⊕ t ≡ false → one_if t -ℤ one_if s ≡ pos 0
idle true true e = refl
idle true false e = absurd (true≢false e)
idle false true e = absurd (true≢false e)
idle false false e = refl

-- ---- a place x, from z and from one further left
data Stands (z x : ℤ) : Bool → Bool → Type 0 where
  right_of_both : Stands z x true true
  just_passed : x ≡ z → Stands z x true false
  still_left : Stands z x false false

record Place (z x : ℤ) : Type 0 where
  s : Bool
  t : Bool
  from_left : lt_z (z -ℤ pos 1) x ≡ s
  from_z : lt_z z x ≡ t
  stands : Stands z x s t

place : (z x : ℤ) → Place z x
place z x = go (sign (x -ℤ z))
  where
    go : Sign (x -ℤ z) → Place z x
    go (plus h) = record {
      s = true;
      t = true;
      from_left = less (z -ℤ pos 1) x
          (sub_lt (by_ring (x ∷ z ∷ []) Positive (v 0 :- v 1 :+ I) (v 0 :- (v 1 :- I)) refl
          (positive_add h (nonneg_pos 1))));
      from_z = less z x (sub_lt h);
      stands = right_of_both;
    }
    go (nought e) = record {
      s = true;
      t = false;
      from_left = less (z -ℤ pos 1) x
          (sub_lt (subst Positive (ring1 (x ∷ z ∷ []) I (v 0 :- (v 1 :- I)) (neg I) (v 0 :- v 1) O e refl)
          (positive_pos 0)));
      from_z = not_less z x
          (sub_le (subst Nonneg (ring1 (x ∷ z ∷ []) O (v 1 :- v 0) I (v 0 :- v 1) O e refl) (nonneg_pos 0)));
      stands = just_passed (diff_zero x z e);
    }
    go (minus h) = record {
      s = false;
      t = false;
      from_left = not_less (z -ℤ pos 1) x
          (sub_le (by_ring (x ∷ z ∷ []) Nonneg (neg (v 0 :- v 1) :- I) (v 1 :- I :- v 0) refl (positive_pred h)));
      from_z = not_less z x
          (sub_le (by_ring (x ∷ z ∷ []) Nonneg (neg (v 0 :- v 1)) (v 1 :- v 0) refl (positive_nonneg h)));
      stands = still_left;
    }

-- ---- the row
module _ (high : ℕ → Bool) (X : ℕ → ℤ) where
  -- of the sides right of z: whether their number is odd, their lifts together, and their moment about z
  abbrev pub odd_right : ℤ → ℕ → Bool
  odd_right z n = total (λ m. both (through high m) (lt_z z (X m))) n

  abbrev pub lifts : ℤ → ℕ → ℤ
  lifts z n = sum (λ m. one_if (lt_z z (X m)) *ℤ lift high m) n

  abbrev pub moment : ℤ → ℕ → ℤ
  moment z n = sum (λ m. one_if (lt_z z (X m)) *ℤ (lift high m *ℤ (X m -ℤ z))) n

  -- one place further left each moment grows by the lift
  pub moment_step : (z : ℤ) (n : ℕ) → moment (z -ℤ pos 1) n ≡ moment z n +ℤ lifts (z -ℤ pos 1) n
  moment_step z n =
      sum_same (λ m. one_if (lt_z (z -ℤ pos 1) (X m)) *ℤ (lift high m *ℤ (X m -ℤ (z -ℤ pos 1))))
      (λ m. one_if (lt_z z (X m)) *ℤ (lift high m *ℤ (X m -ℤ z)) +ℤ one_if (lt_z (z -ℤ pos 1) (X m)) *ℤ lift high m) n
      (λ m h. term m (place z (X m)))
      ∙ sum_add (λ m. one_if (lt_z z (X m)) *ℤ (lift high m *ℤ (X m -ℤ z)))
      (λ m. one_if (lt_z (z -ℤ pos 1) (X m)) *ℤ lift high m) n
    where
      Term : ℕ → Bool → Bool → Type 0
      Term m s t =
          one_if s *ℤ (lift high m *ℤ (X m -ℤ (z -ℤ pos 1))) ≡
          one_if t *ℤ (lift high m *ℤ (X m -ℤ z)) +ℤ one_if s *ℤ lift high m

      -- the lift, X m and z are 0 to 2
      old : E
      old = v 0 :* (v 1 :- v 2)

      new : E
      new = v 0 :* (v 1 :- (v 2 :- I))

      by_place : (m : ℕ) {s t : Bool} → Stands z (X m) s t → Term m s t
      by_place m right_of_both = ring (lift high m ∷ X m ∷ z ∷ []) (I :* new) (I :* old :+ I :* v 0) refl
      by_place m (just_passed e) =
          ring1 (lift high m ∷ X m ∷ z ∷ []) (I :* new) (O :* old :+ I :* v 0) (v 0) (v 1) (v 2) e refl
      by_place m still_left = ring (lift high m ∷ X m ∷ z ∷ []) (O :* new) (O :* old :+ O :* v 0) refl

      term : (m : ℕ) → Place z (X m) → Term m (lt_z (z -ℤ pos 1) (X m)) (lt_z z (X m))
      term m p =
          subst (λ t. Term m (lt_z (z -ℤ pos 1) (X m)) t) (sym p.from_z)
          (subst (λ s. Term m s p.t) (sym p.from_left) (by_place m p.stands))

  -- ---- on the way from z to one further left at most one side is passed
  pub data Step (z : ℤ) (n : ℕ) : Type 0 where
    none : lifts (z -ℤ pos 1) n ≡ lifts z n → odd_right (z -ℤ pos 1) n ≡ odd_right z n → Step z n
    passed : (k : ℕ) → k < n → through high k ≡ true → X k ≡ z → lifts (z -ℤ pos 1) n ≡ lifts z n +ℤ lift high k →
        odd_right (z -ℤ pos 1) n ≡ not (odd_right z n) → Step z n

  module _ (n : ℕ)
      (distinct : (k m : ℕ) → k < n → m < n → through high k ≡ true → through high m ≡ true → X k ≡ X m → k ≡ m) where
    pub step : (z : ℤ) (t : ℕ) → t ≤ n → Step z t
    step z zero h = none refl refl
    step z (suc t) h = go (through high t) refl (place z (X t)) (step z t (omega arith))
      where
        -- the last side adds the same on both sides
        same : one_if (lt_z (z -ℤ pos 1) (X t)) *ℤ lift high t ≡ one_if (lt_z z (X t)) *ℤ lift high t →
            both (through high t) (lt_z (z -ℤ pos 1) (X t)) ≡ both (through high t) (lt_z z (X t)) →
            Step z t → Step z (suc t)
        same e f (none a b) = none (ap₂ ◌+ℤ◌ a e) (ap₂ ◌⊕◌ f b)
        same e f (passed k hk go_k at_k a b) =
            passed k (omega (arith, hk)) go_k at_k
            (ap₂ ◌+ℤ◌ a e
            ∙ ring (lifts z t ∷ lift high k ∷ (one_if (lt_z z (X t)) *ℤ lift high t) ∷ []) (v 0 :+ v 1 :+ v 2)
            (v 0 :+ v 2 :+ v 1) refl)
            (ap₂ ◌⊕◌ f b ∙ ⊕-move (both (through high t) (lt_z z (X t))) (odd_right z t))

        same_bit : lt_z (z -ℤ pos 1) (X t) ≡ lt_z z (X t) → Step z t → Step z (suc t)
        same_bit e = same (ap (λ b. one_if b *ℤ lift high t) e) (ap (both (through high t)) e)

        -- the last side is passed, and so no other
        here : through high t ≡ true → X t ≡ z → lt_z (z -ℤ pos 1) (X t) ≡ true → lt_z z (X t) ≡ false → Step z t →
            Step z (suc t)
        here go_t at_t e f (passed k hk go_k at_k a b) =
            absurd (differ (distinct k t (omega (arith, hk)) h go_k go_t (at_k ∙ sym at_t)))
          where
            differ : ¬ (k ≡ t)
            differ i = omega (arith, hk)
        here go_t at_t e f (none a b) =
            passed t (le_refl (suc t)) go_t at_t
            (ap₂ ◌+ℤ◌ a (ap (λ b. one_if b *ℤ lift high t) e)
            ∙ ring (lifts z t ∷ lift high t ∷ []) (v 0 :+ I :* v 1) (v 0 :+ O :* v 1 :+ v 1) refl
            ∙ ap (λ b. lifts z t +ℤ one_if b *ℤ lift high t +ℤ lift high t) (sym f))
            (ap₂ ◌⊕◌ (ap₂ both go_t e) b
            ∙ ap not (ap (λ b. b ⊕ odd_right z t) (sym (ap (both (through high t)) f ∙ both_no (through high t)))))

        go : (a : Bool) → through high t ≡ a → Place z (X t) → Step z t → Step z (suc t)
        go false e p =
            same (nothing (lt_z (z -ℤ pos 1) (X t)) ∙ sym (nothing (lt_z z (X t))))
            (ap (λ a. both a (lt_z (z -ℤ pos 1) (X t))) e ∙ sym (ap (λ a. both a (lt_z z (X t))) e))
          where
            nothing : (b : Bool) → one_if b *ℤ lift high t ≡ pos 0
            nothing b = ap (λ w. one_if b *ℤ w) (idle (high t) (high (suc t)) e) ∙ *ℤ-zero (one_if b)
        go true e p = at p.stands p.from_left p.from_z
          where
            at : {a b : Bool} → Stands z (X t) a b → lt_z (z -ℤ pos 1) (X t) ≡ a → lt_z z (X t) ≡ b → Step z t →
                Step z (suc t)
            at right_of_both f g = same_bit (f ∙ sym g)
            at still_left f g = same_bit (f ∙ sym g)
            at (just_passed i) f g = here e i f g
