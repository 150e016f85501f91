-- The order of runs is a strict order, and of two trees of one range the runs differ, so that one comes first.
-- No run of a range is the beginning of another's, which is why `Less` needs no rule for runs of different lengths.
-- (The theorems that follow are in proofs/, under the same name.)
use Rattle.std.specs.Prelude.{◌≡◌, refl, ◌⊎◌, List, [], ◌∷◌, ◌++◌, ℕ, ◌<◌}
use Rattle.std.proofs.Common.{sym, ap₂, ◌∙◌, inl, inr, arith}
use Rattle.std.proofs.Math.Logic.{⊎_map}
use Rattle.std.proofs.Math.Decide.{dec_lt}
use Rattle.rules.specs.Lists.{Rise, rise_le}
use Rattle.rules.specs.Cutting.{Less}

-- ---- a strict order
pub less_irrefl : (s : List ℕ) → Less s s → ⊥
less_irrefl [] h = h
less_irrefl (a ∷ s) (inl h) = omega arith
less_irrefl (a ∷ s) (inr h) = less_irrefl s h.1

pub less_trans : (s t u : List ℕ) → Less s t → Less t u → Less s u
less_trans [] t u h k = absurd h
less_trans (a ∷ s) [] u h k = absurd h
less_trans (a ∷ s) (b ∷ t) [] h k = absurd k
less_trans (a ∷ s) (b ∷ t) (c ∷ u) (inl h) (inl k) = inl (omega arith)
less_trans (a ∷ s) (b ∷ t) (c ∷ u) (inl h) (inr k) = inl (omega arith)
less_trans (a ∷ s) (b ∷ t) (c ∷ u) (inr h) (inl k) = inl (omega arith)
less_trans (a ∷ s) (b ∷ t) (c ∷ u) (inr h) (inr k) = inr (h.0 ∙ k.0, less_trans s t u h.1 k.1)

pub less_asym : (s t : List ℕ) → Less s t → Less t s → ⊥
less_asym s t h k = less_irrefl s (less_trans s t s h k)

-- what comes before in its first part comes before
pub less_append : (s t x y : List ℕ) → Less s t → Less (s ++ x) (t ++ y)
less_append [] t x y h = absurd h
less_append (a ∷ s) [] x y h = absurd h
less_append (a ∷ s) (b ∷ t) x y (inl h) = inl h
less_append (a ∷ s) (b ∷ t) x y (inr h) = inr (h.0, less_append s t x y h.1)

pub less_prepend : (p s t : List ℕ) → Less s t → Less (p ++ s) (p ++ t)
less_prepend [] s t h = h
less_prepend (a ∷ p) s t h = inr (refl, less_prepend p s t h)

-- ---- the same, or before: what a first choice says of every other
module _ {A : Type 0} where
  abbrev pub Upto : A → A → List ℕ → List ℕ → Type 0
  Upto t t' x y = (t ≡ t') ⊎ Less x y

  -- two that are each the same as the other or before it are the same
  pub upto_antisym : (t t' : A) (x y : List ℕ) → Upto t t' x y → Upto t' t y x → t ≡ t'
  upto_antisym t t' x y (inl e) k = e
  upto_antisym t t' x y (inr l) (inl e) = sym e
  upto_antisym t t' x y (inr l) (inr m) = absurd (less_asym x y l m)

  -- the same, or one before the other
  abbrev pub Differ : A → A → List ℕ → List ℕ → Type 0
  Differ t t' x y = (t ≡ t') ⊎ (Less x y ⊎ Less y x)

pub tri : (a b : ℕ) → (a < b) ⊎ ((a ≡ b) ⊎ (b < a))
tri a b = go (dec_lt a b) (dec_lt b a)
  where
    go : Dec (a < b) → Dec (b < a) → (a < b) ⊎ ((a ≡ b) ⊎ (b < a))
    go (yes h) d = inl h
    go (no h) (yes k) = inr (inr k)
    go (no h) (no k) = inr (inl (omega arith))

-- two rising lists with the same ends
pub rise_differ : (a j : ℕ) (s t : List ℕ) → Rise a j s → Rise a j t → Differ s t s t
rise_differ a j [] [] h k = inl refl
rise_differ a j [] (c ∷ t) h k = absurd (omega (arith, rise_le c j t k.1))
rise_differ a j (b ∷ s) [] h k = absurd (omega (arith, rise_le b j s h.1))
rise_differ a j (b ∷ s) (c ∷ t) h k = go (λ k'. rise_differ b j s t h.1 k') (tri b c)
  where
    same : b ≡ c → Differ s t s t → Differ (b ∷ s) (c ∷ t) (b ∷ s) (c ∷ t)
    same e (inl p) = inl (ap₂ ◌∷◌ e p)
    same e (inr d) = inr (⊎_map (λ l. inr (e, l)) (λ l. inr (sym e, l)) d)

    go : (Rise b j t → Differ s t s t) → (b < c) ⊎ ((b ≡ c) ⊎ (c < b)) → Differ (b ∷ s) (c ∷ t) (b ∷ s) (c ∷ t)
    go f (inl p) = inr (inl (inl p))
    go f (inr (inl e)) = same e (f (rw e k.1))
    go f (inr (inr p)) = inr (inr (inl p))
