-- Sight put together from its parts, each of which one test decides; and sight is mutual.
use Rattle.std.specs.Prelude.{◌≡◌, List, ◌⊎◌, ◌↔◌, ℕ, ◌<◌, ℤ}
use Rattle.std.proofs.Common.{sym, ap, ◌∙◌, subst, inl, inr}
use Rattle.std.proofs.Math.Logic.{by_cases}
use Rattle.std.proofs.Math.Decide.{ℕ_discrete}
use Rattle.outline.specs.Drawing.{corner, corners, Shared, SharedOnlyAt, after, EndsAt, Angle, Clear, Beside}
use Rattle.outline.specs.Drawing.{Sees}
use Rattle.outline.specs.Segments.{turned_first, only_first, only_second}

-- the segment ij and side k, as 01's first two conditions ask
pub record Passes (d : List ℤ) (i j k : ℕ) : Type 0 where
  pub other : ¬ EndsAt d k i → ¬ EndsAt d k j → ¬ Shared (corner d i) (corner d j) (corner d k) (corner d (after d k))
  pub ends_at_i : EndsAt d k i →
      SharedOnlyAt (corner d i) (corner d i) (corner d j) (corner d k) (corner d (after d k))
  pub ends_at_j : EndsAt d k j →
      SharedOnlyAt (corner d j) (corner d i) (corner d j) (corner d k) (corner d (after d k))

-- no side ends at two corners that are not beside each other
pub one_end : (d : List ℤ) (i j k : ℕ) → ¬ Beside d i j → EndsAt d k i → ¬ EndsAt d k j
one_end d i j k apart (inl e) (inl f) = apart (inl (sym e ∙ f))
one_end d i j k apart (inl e) (inr f) = apart (inr (inl (ap (after d) (sym e) ∙ f)))
one_end d i j k apart (inr e) (inl f) = apart (inr (inr (ap (after d) (sym f) ∙ e)))
one_end d i j k apart (inr e) (inr f) = apart (inl (sym e ∙ f))

-- a side neither begins nor ends there
pub no_end : (d : List ℤ) {k m : ℕ} → ¬ (k ≡ m) → ¬ (after d k ≡ m) → ¬ EndsAt d k m
no_end d f g (inl e) = f e
no_end d f g (inr e) = g e

-- of four corners a b u w: the segments ab and uw share only corner e
abbrev pub OnlyCorner : List ℤ → ℕ → ℕ → ℕ → ℕ → ℕ → Type 0
OnlyCorner d e a b u w = SharedOnlyAt (corner d e) (corner d a) (corner d b) (corner d u) (corner d w)

-- ---- the segment ij and side k, by where the side ends
module _ {d : List ℤ} {i j k : ℕ} (apart : ¬ Beside d i j) where
  at_i : EndsAt d k i → OnlyCorner d i i j k (after d k) → Passes d i j k
  at_i e o = record {
    other = λ n. absurd (n e);
    ends_at_i = λ f. o;
    ends_at_j = λ f. absurd (one_end d i j k apart e f);
  }

  at_j : EndsAt d k j → OnlyCorner d j i j k (after d k) → Passes d i j k
  at_j e o = record {
    other = λ n m. absurd (m e);
    ends_at_i = λ f. absurd (one_end d i j k apart f e);
    ends_at_j = λ f. o;
  }

  pub begins_at_i : k ≡ i → OnlyCorner d i i j i (after d k) ↔ Passes d i j k
  begins_at_i e = (
    λ o. at_i (inl e) (subst (λ m. OnlyCorner d i i j m (after d k)) (sym e) o),
    λ p. subst (λ m. OnlyCorner d i i j m (after d k)) e (p.ends_at_i (inl e)),
  )

  pub ends_at_i : after d k ≡ i → OnlyCorner d i i j i k ↔ Passes d i j k
  ends_at_i e = (
    λ o. at_i (inr e) (subst (OnlyCorner d i i j k) (sym e) (only_second o)),
    λ p. only_second (subst (OnlyCorner d i i j k) e (p.ends_at_i (inr e))),
  )

  pub begins_at_j : k ≡ j → OnlyCorner d j j i j (after d k) ↔ Passes d i j k
  begins_at_j e = (
    λ o. at_j (inl e) (subst (λ m. OnlyCorner d j i j m (after d k)) (sym e) (only_first o)),
    λ p. only_first (subst (λ m. OnlyCorner d j i j m (after d k)) e (p.ends_at_j (inl e))),
  )

  pub ends_at_j : after d k ≡ j → OnlyCorner d j j i j k ↔ Passes d i j k
  ends_at_j e = (
    λ o. at_j (inr e) (subst (OnlyCorner d j i j k) (sym e) (only_first (only_second o))),
    λ p. only_second (only_first (subst (OnlyCorner d j i j k) e (p.ends_at_j (inr e)))),
  )

module _ {d : List ℤ} {i j k : ℕ} where
  pub ends_at_neither : ¬ (k ≡ i) → ¬ (after d k ≡ i) → ¬ (k ≡ j) → ¬ (after d k ≡ j) →
      (¬ Shared (corner d i) (corner d j) (corner d k) (corner d (after d k))) ↔ Passes d i j k
  ends_at_neither f g h l = (
    λ n. record {
      other = λ p q. n;
      ends_at_i = λ e. absurd (no_end d f g e);
      ends_at_j = λ e. absurd (no_end d h l e);
    },
    λ p. p.other (no_end d f g) (no_end d h l),
  )

  pub passes_back : Passes d i j k → Passes d j i k
  passes_back p = record {
    other = λ f g s. p.other g f (turned_first s);
    ends_at_i = λ e. only_first (p.ends_at_j e);
    ends_at_j = λ e. only_first (p.ends_at_i e);
  }

-- ---- sight of a pair
module _ {d : List ℤ} {i j : ℕ} where
  pub sees_of : Angle d i j → Angle d j i → ((k : ℕ) → k < corners d → Passes d i j k) → Sees d i j
  sees_of a b f = record {
    sees = inr (record {
      others = λ k h. (f k h).other;
      ends_at_i = λ k h. (f k h).ends_at_i;
      ends_at_j = λ k h. (f k h).ends_at_j;
      angle_at_i = a;
      angle_at_j = b;
    });
  }

  pub clear_sight : ¬ Beside d i j → Sees d i j → Clear d i j
  clear_sight n s = go s.sees
    where
      go : Beside d i j ⊎ Clear d i j → Clear d i j
      go (inl b) = absurd (n b)
      go (inr c) = c

  pub clear_passes : Clear d i j → (k : ℕ) → k < corners d → Passes d i j k
  clear_passes c k h = record { other = c.others k h; ends_at_i = c.ends_at_i k h; ends_at_j = c.ends_at_j k h }

pub beside_back : (d : List ℤ) (i j : ℕ) → Beside d i j → Beside d j i
beside_back d i j (inl e) = inl (sym e)
beside_back d i j (inr (inl e)) = inr (inr e)
beside_back d i j (inr (inr e)) = inr (inl e)

-- neighbours or not
pub beside_or : (d : List ℤ) (i j : ℕ) → Beside d i j ⊎ (¬ Beside d i j)
beside_or d i j =
    by_cases (ℕ_discrete i j) (λ e. inl (inl e))
    (λ n1. by_cases (ℕ_discrete (after d i) j) (λ e. inl (inr (inl e)))
    (λ n2. by_cases (ℕ_discrete (after d j) i) (λ e. inl (inr (inr e))) (λ n3. inr (none n1 n2 n3))))
  where
    none : ¬ (i ≡ j) → ¬ (after d i ≡ j) → ¬ (after d j ≡ i) → ¬ Beside d i j
    none n1 n2 n3 (inl e) = n1 e
    none n1 n2 n3 (inr (inl e)) = n2 e
    none n1 n2 n3 (inr (inr e)) = n3 e

pub sees_mutual : {d : List ℤ} {i j : ℕ} → Sees d i j → Sees d j i
sees_mutual {d} {i} {j} s = go s.sees
  where
    go : Beside d i j ⊎ Clear d i j → Sees d j i
    go (inl b) = record { sees = inl (beside_back d i j b) }
    go (inr c) = sees_of c.angle_at_j c.angle_at_i (λ k h. passes_back (clear_passes c k h))
