-- A column that is filled again, by the values alone, is the column that was there: a column is what the values make
-- it. And tables that agree where they are read have the same next corners, the same roads and the same pick.
use Rattle.std.proofs.Math.Path.{◌≡◌, refl, ap}
use Rattle.std.proofs.Common.{sym, ap₂, subst, ◌∙◌, arith}
use Rattle.std.specs.Prelude.{Bool, ◌&&◌, ◌||◌, ◌⊎◌, eqb}
use Rattle.std.proofs.Math.Bool.{true, false}
use Rattle.std.proofs.Math.Logic.{inl, inr}
use Prim.Native.Nat.{ℕ, zero, suc, ◌+◌, ◌-◌, ◌<◌, ◌≤◌, min}
use Rattle.std.proofs.Math.Decide.{dec_lt, ℕ_discrete}
use borrow.Author.Tests.{eq-eqb}
use Rattle.limits.specs.Limits.{row}
use Rattle.rules.specs.Columns.{Least, Lane, Column}
use Rattle.rules.specs.Choice.{next_of, rest_of, fits, less, better, pick_from, pick_of}
use Rattle.rules.specs.Seek.{step_same, next_left, next_right}
use Rattle.rules.specs.Follow.{path_same, next_goes}
use Rattle.rules.specs.Small.{least_same}

-- ---- a column is what the values make it
least_unique : {top : ℕ} {f : ℕ → ℕ} {lo hi r r' : ℕ} → Least top f lo hi r → Least top f lo hi r' → r ≡ r'
least_unique {top} {f} {lo} {hi} {r} {r'} p q = go (dec_lt r r') (dec_lt r' r)
  where
    go : Dec (r < r') → Dec (r' < r) → r ≡ r'
    go (yes h) d = let c = p.hit (omega (arith, q.most)) in absurd (omega (arith, c.3, q.low c.0 c.2 c.1))
    go (no h) (yes k) =
        let c = q.hit (omega (arith, p.most)) in
        absurd (omega (arith, c.3, p.low c.0 c.2 c.1))
    go (no h) (no k) = omega arith

module _ {top : ℕ} {veil val col col' : ℕ → ℕ → ℕ} {m j lo lo' x : ℕ} (xm : x < m) (C : Column top veil val m j lo col)
    (L : Lane top veil val x j lo' col') where
  unique : (f a : ℕ) → lo ≤ a → lo' ≤ a → a ≤ j → j ≤ a + f → col' a x ≡ col a x
  unique zero a la la' aj hf =
      let e : j ≡ a = omega arith in
      subst (λ (k : ℕ). col' k x ≡ col k x) e (L.start ∙ sym (C.start x xm))
  unique (suc f) a la la' aj hf = go (dec_lt a j) (ℕ_discrete (veil a x) 0) (unique f)
    where
      go : Dec (a < j) → Dec (veil a x ≡ 0) → ((b : ℕ) → lo ≤ b → lo' ≤ b → b ≤ j → j ≤ b + f → col' b x ≡ col b x) →
          col' a x ≡ col a x
      go (no p) d k =
          let e : j ≡ a = omega arith in
          subst (λ (k : ℕ). col' k x ≡ col k x) e (L.start ∙ sym (C.start x xm))
      go (yes p) (no q) k = L.unseen a la' p q ∙ sym (C.unseen a x la p xm q)
      go (yes p) (yes q) k =
          least_unique
          (least_same
          (λ b ab bj. ap (λ (z : ℕ). val a b + z)
          (sym (k b (omega arith) (omega arith) (omega arith) (omega arith)))) refl (L.seen a la' p q))
          (C.seen a x la p xm q)

  pub lane_unique : (a : ℕ) → lo ≤ a → lo' ≤ a → a ≤ j → col' a x ≡ col a x
  lane_unique a la la' aj = unique j a la la' aj (omega arith)

-- ---- tables that agree where a centre that fits is read, from lo on: the way to it, and the way on from it
pub record SameTables (fit : ℕ → Type 0) (left col left' col' : ℕ → ℕ → ℕ) (lo j : ℕ) : Type 0 where
  pub lefts : (b x : ℕ) → lo ≤ b → b ≤ x → x ≤ j → left' b x ≡ left b x
  pub cols : (b x : ℕ) → fit x → lo ≤ x → x ≤ b → b ≤ j → col' b x ≡ col b x

module _ (top : ℕ) (w val : ℕ → ℕ → ℕ) {fit : ℕ → Type 0} {left col left' col' : ℕ → ℕ → ℕ} {lo j : ℕ}
    (agree : SameTables fit left col left' col' lo j) where
  pub next_same : (x c : ℕ) → fit x → lo ≤ x → x ≤ j → lo ≤ c → c < j →
      next_of top w val left' col' x j c ≡ next_of top w val left col x j c
  next_same x c f lx xj lc cj = go (dec_lt c x)
    where
      go : Dec (c < x) → next_of top w val left' col' x j c ≡ next_of top w val left col x j c
      go (yes l) =
          next_left top w val left' col' x j c l
          ∙ step_same top val left left' x x c l (λ b p q. agree.lefts b x (omega arith) q xj)
          ∙ sym (next_left top w val left col x j c l)
      go (no l) =
          next_right top w val left' col' x j c (omega arith)
          ∙ step_same top val col col' x j c cj (λ b p q. agree.cols b x f lx (omega arith) q)
          ∙ sym (next_right top w val left col x j c (omega arith))

  pub rest_same : (x c : ℕ) → fit x → lo ≤ x → x ≤ j → lo ≤ c →
      rest_of top w val left' col' x j c ≡ rest_of top w val left col x j c
  unfolding rest_of
  rest_same x c f lx xj lc =
      path_same (next_of top w val left' col' x j) j (next_goes top w val left' col' x j xj)
      (next_of top w val left col x j) lo
      (λ a la aj. next_same x a f lx xj la aj) j c lc

-- ---- who fits, and the pick, by tables that agree
pub fits_same : (top : ℕ) (w val left left' : ℕ → ℕ → ℕ) (right right' : ℕ → ℕ) (i j x : ℕ) → left' i x ≡ left i x →
    right' x ≡ right x → fits top w val left' right' i j x ≡ fits top w val left right i j x
unfolding fits
fits_same top w val left left' right right' i j x e f =
    ap (λ (z : ℕ). eqb (min top (min top z + w i j)) (val i j)) (ap₂ ◌+◌ e f)

module _ (top : ℕ) (w val : ℕ → ℕ → ℕ) {left col left' col' : ℕ → ℕ → ℕ} {right right' : ℕ → ℕ} {i j : ℕ} (ij : i ≤ j)
    (agree : SameTables (λ x. fits top w val left right i j x ≡ true) left col left' col' i j)
    (rights : (x : ℕ) → i ≤ x → x ≤ j → right' x ≡ right x) where
  InRange : ℕ → Type 0
  InRange b = (b ≡ row) ⊎ ((i ≤ b) × (b ≤ j) × (fits top w val left right i j b ≡ true))

  better_same : (b x : ℕ) → i ≤ x → x ≤ j → InRange b →
      better top w val left' col' right' i j b x ≡ better top w val left col right i j b x
  unfolding better InRange
  better_same b x ix xj h =
      go (fits top w val left' right' i j x) (fits top w val left right i j x)
      (fits_same top w val left left' right right' i j x (agree.lefts i x (omega arith) ix xj) (rights x ix xj))
      refl h
    where
      go : (p q : Bool) → p ≡ q → fits top w val left right i j x ≡ q →
          (b ≡ row) ⊎ ((i ≤ b) × (b ≤ j) × (fits top w val left right i j b ≡ true)) →
          ◌≡◌ {A = ℕ}
          (elim (p && (eqb b row || less (rest_of top w val left' col' x j i) (rest_of top w val left' col' b j i)))
          [ true ↦ x | false ↦ b ])
          (elim (q && (eqb b row || less (rest_of top w val left col x j i) (rest_of top w val left col b j i)))
          [ true ↦ x | false ↦ b ])
      go p false e f k = rw e refl
      go p true e f (inl k) = rw (e, eq-eqb b row k) refl
      go p true e f (inr k) =
          rw e (ap (λ (r : Bool). elim (eqb b row || r) [ true ↦ x | false ↦ b ])
          (ap₂ less (rest_same top w val agree x i f ix xj (omega arith))
          (rest_same top w val agree b i k.2 k.0 k.1 (omega arith))))

  better_range : (b x : ℕ) → i ≤ x → x ≤ j → InRange b → InRange (better top w val left col right i j b x)
  unfolding better InRange
  better_range b x ix xj h =
      go (fits top w val left right i j x) refl
      (eqb b row || less (rest_of top w val left col x j i) (rest_of top w val left col b j i))
    where
      go : (p : Bool) → fits top w val left right i j x ≡ p → (r : Bool) →
          InRange (elim (p && r) [ true ↦ x | false ↦ b ])
      go true e true = inr (ix, xj, e)
      go true e false = h
      go false e r = h

  pick_from_lem : (k : ℕ) → i + k ≤ suc j →
      (pick_from top w val left' col' right' i j k ≡ pick_from top w val left col right i j k) ×
      InRange (pick_from top w val left col right i j k)
  unfolding pick_from InRange
  pick_from_lem zero h = (refl, inl refl)
  pick_from_lem (suc k) h =
      let r = pick_from_lem k (omega arith) in (
        ap (λ (b : ℕ). better top w val left' col' right' i j b (i + k)) r.0
            ∙ better_same (pick_from top w val left col right i j k) (i + k) (omega arith) (omega arith) r.1,
        better_range (pick_from top w val left col right i j k) (i + k) (omega arith) (omega arith) r.1,
      )

  pub pick_same : pick_of top w val left' col' right' i j ≡ pick_of top w val left col right i j
  pick_same = (pick_from_lem (suc (j - i)) (omega arith)).0
