-- The corners that next corners lead along: a piece, from a corner of it on.
use Rattle.std.specs.Prelude.{◌≡◌}
use Rattle.std.proofs.Math.Path.{refl, sym, ap, ap₂}
use Rattle.std.proofs.Common.{◌∙◌}
use mathlib.Core.List.{[], ◌∷◌, ◌++◌}
use Prim.Native.Nat.{ℕ, zero, suc, ◌+◌, ◌-◌, ◌<◌, ◌≤◌}
use native.Mathlib.Omega.{arith}
use Rattle.std.proofs.Math.Decide.{dec_lt}
use Rattle.rules.specs.Roads.{path, path_more, path_end}
use Rattle.rules.specs.Choice.{step_of, next_of, rest_of}
use Rattle.rules.specs.Seek.{step_is, next_left, next_right}

-- next goes on from each corner before j, to j at most
unfoldable pub Goes : (ℕ → ℕ) → ℕ → Type 0
Goes next j = (a : ℕ) → a < j → (a < next a) × (next a ≤ j)

pub step_goes : (top : ℕ) (val side : ℕ → ℕ → ℕ) (x t : ℕ) → Goes (step_of top val side x t) t
unfolding Goes
step_goes top val side x t a h = let s = step_is top val side x t a h in (s.from, s.to)

pub next_goes : (top : ℕ) (w val left col : ℕ → ℕ → ℕ) (x j : ℕ) → x ≤ j → Goes (next_of top w val left col x j) j
unfolding Goes
next_goes top w val left col x j xj a h = go (dec_lt a x)
  where
    go : Dec (a < x) → (a < next_of top w val left col x j a) × (next_of top w val left col x j a ≤ j)
    go (yes l) =
        let s = step_is top val left x x a l in
        let e = next_left top w val left col x j a l in
        (omega (arith, s.from), omega (arith, s.to))
    go (no l) =
        let s = step_is top val col x j a h in
        let e = next_right top w val left col x j a (omega arith) in
        (omega (arith, s.from), omega (arith, s.to))

module _ (next : ℕ → ℕ) (j : ℕ) (goes : Goes next j) where
  path_fuel : (f g a : ℕ) → j ≤ a + f → j ≤ a + g → path next j f a ≡ path next j g a
  unfolding Goes
  path_fuel zero g a hf hg = path_end next j 0 a (omega arith) ∙ sym (path_end next j g a (omega arith))
  path_fuel (suc f) zero a hf hg = path_end next j (suc f) a (omega arith) ∙ sym (path_end next j 0 a (omega arith))
  path_fuel (suc f) (suc g) a hf hg = go (dec_lt a j) (path_fuel f g (next a))
    where
      go : Dec (a < j) → (j ≤ next a + f → j ≤ next a + g → path next j f (next a) ≡ path next j g (next a)) →
          path next j (suc f) a ≡ path next j (suc g) a
      go (no p) k = path_end next j (suc f) a (omega arith) ∙ sym (path_end next j (suc g) a (omega arith))
      go (yes p) k =
          let q = (goes a p).0 in
          path_more next j f a p ∙ ap (λ l. next a ∷ l) (k (omega arith) (omega arith)) ∙ sym (path_more next j g a p)

  pub path_next : (a : ℕ) → a < j → path next j j a ≡ next a ∷ path next j j (next a)
  unfolding Goes
  path_next a h =
      let q = (goes a h).0 in
      let e : j ≡ suc (j - 1) = omega arith in
      ap (λ (k : ℕ). path next j k a) e
      ∙ path_more next j (j - 1) a h
      ∙ ap (λ l. next a ∷ l) (path_fuel (j - 1) j (next a) (omega arith) (omega arith))

  -- next corners that are the same from lo on lead the same way
  pub path_same : (next' : ℕ → ℕ) (lo : ℕ) → ((a : ℕ) → lo ≤ a → a < j → next a ≡ next' a) →
      (f a : ℕ) → lo ≤ a → path next j f a ≡ path next' j f a
  unfolding Goes
  path_same next' lo h zero a l = refl
  path_same next' lo h (suc f) a l = go (dec_lt a j) (path_same next' lo h f)
    where
      go : Dec (a < j) → ((b : ℕ) → lo ≤ b → path next j f b ≡ path next' j f b) →
          path next j (suc f) a ≡ path next' j (suc f) a
      go (no p) k = path_end next j (suc f) a (omega arith) ∙ sym (path_end next' j (suc f) a (omega arith))
      go (yes p) k =
          let e = h a l p in
          let q = (goes a p).0 in
          path_more next j f a p ∙ ap₂ ◌∷◌ e (k (next a) (omega arith) ∙ ap (path next' j f) e)
          ∙ sym (path_more next' j f a p)

  -- a way that passes x is a way to x and one from x
  pub path_split : (left right : ℕ → ℕ) (x : ℕ) → x < j → Goes left x →
      ((a : ℕ) → a < x → next a ≡ left a) → ((a : ℕ) → x ≤ a → a < j → next a ≡ right a) →
      (f a : ℕ) → a ≤ x → j ≤ a + f → (g : ℕ) × (j ≤ x + g) × (path next j f a ≡ path left x f a ++ path right j g x)
  unfolding Goes
  path_split left right x xj gl hl hr zero a ax le = absurd (omega arith)
  path_split left right x xj gl hl hr (suc f) a ax le = go (dec_lt a x) (path_split left right x xj gl hl hr f)
    where
      go : Dec (a < x) →
          ((b : ℕ) → b ≤ x → j ≤ b + f →
          (g : ℕ) × (j ≤ x + g) × (path next j f b ≡ path left x f b ++ path right j g x)) →
          (g : ℕ) × (j ≤ x + g) × (path next j (suc f) a ≡ path left x (suc f) a ++ path right j g x)
      go (no p) k =
          let e : a ≡ x = omega arith in (
            suc f,
            omega arith,
            ap (path next j (suc f)) e
                ∙ path_same right x hr (suc f) x (omega arith)
                ∙ sym (ap (λ l. l ++ path right j (suc f) x) (path_end left x (suc f) a (omega arith))),
          )
      go (yes p) k =
          let e = hl a p in
          let s = gl a p in
          let q = k (left a) s.1 (omega (arith, s.0)) in (
            q.0,
            q.1,
            path_more next j f a (omega arith)
                ∙ ap₂ ◌∷◌ e (ap (path next j f) e ∙ q.2)
                ∙ sym (ap (λ l. l ++ path right j q.0 x) (path_more left x f a p)),
          )

-- ---- what is left of a piece
module _ (top : ℕ) (w val left col : ℕ → ℕ → ℕ) (x j c : ℕ) where
  pub rest_end : j ≤ c → rest_of top w val left col x j c ≡ []
  unfolding rest_of
  rest_end h = path_end (next_of top w val left col x j) j j c h

  pub rest_next : x ≤ j → c < j →
      rest_of top w val left col x j c ≡
      next_of top w val left col x j c ∷ rest_of top w val left col x j (next_of top w val left col x j c)
  unfolding rest_of
  rest_next xj h = path_next (next_of top w val left col x j) j (next_goes top w val left col x j xj) c h
