-- Round a piece: after each corner comes one that follows it, two others than the centre that follow each other make a
-- wedge, and a corner that is none of the piece's has two neighbours of the piece on its sides.
use Rattle.std.specs.Prelude.{◌≡◌, refl, Bool, true, false, cond, ◌||◌, ◌⊎◌, List, [], ◌∷◌, ℕ, ◌≤◌, ◌<◌, eqb, length}
use Rattle.std.proofs.Common.{sym, subst, inl, inr, arith, ne_eqb}
use Rattle.std.proofs.Math.Decide.{ℕ_discrete, dec_lt}
use Rattle.rules.specs.Lists.{In, Rising}
use Rattle.rules.specs.Cutting.{Inside, Outside}
use Rattle.marks.specs.Wedges.{Wedge, wedge, with_wedge, fan}
use Rattle.marks.specs.Joined.{Next, Ends, next_neighbours, ends_in, ends_outside, ends_apart}

-- b follows a round the piece S, whose first corner is f
abbrev pub Then : ℕ → List ℕ → ℕ → ℕ → Type 0
Then f S a b = Next S a b ⊎ (Ends S a × (b ≡ f))

-- ---- two that follow each other make a wedge
kept : (c a b : ℕ) (l : List Wedge) (W : Wedge) → In W l → In W (with_wedge c a b l)
kept c a b l W i = go (eqb a c || eqb b c)
  where
    go : (t : Bool) → In W (cond t l (wedge c a b ∷ l))
    go true = i
    go false = inr i

made : (c a b : ℕ) (l : List Wedge) → ¬ (a ≡ c) → ¬ (b ≡ c) → In (wedge c a b) (with_wedge c a b l)
made c a b l na nb =
    subst (λ t. In (wedge c a b) (cond (t || eqb b c) l (wedge c a b ∷ l))) (sym (ne_eqb a c na))
    (subst (λ t. In (wedge c a b) (cond t l (wedge c a b ∷ l))) (sym (ne_eqb b c nb)) (inl refl))

pub then_wedge : (c f : ℕ) (S : List ℕ) (a b : ℕ) → ¬ (a ≡ c) → ¬ (b ≡ c) → Then f S a b → In (wedge c a b) (fan c f S)
then_wedge c f [] a b na nb (inl h) = absurd h
then_wedge c f [] a b na nb (inr h) = absurd h.0
then_wedge c f (x ∷ []) a b na nb (inl (inl h)) = absurd h.1
then_wedge c f (x ∷ []) a b na nb (inl (inr h)) = absurd h
then_wedge c f (x ∷ []) a b na nb (inr h) =
    subst (λ y. In (wedge c a b) (with_wedge c y f [])) h.0
    (subst (λ y. In (wedge c a b) (with_wedge c a y [])) h.1 (made c a b [] na nb))
then_wedge c f (x ∷ y ∷ s) a b na nb (inl (inl h)) =
    subst (λ z. In (wedge c a b) (with_wedge c z y (fan c f (y ∷ s)))) h.0
    (subst (λ z. In (wedge c a b) (with_wedge c a z (fan c f (y ∷ s)))) h.1 (made c a b (fan c f (y ∷ s)) na nb))
then_wedge c f (x ∷ y ∷ s) a b na nb (inl (inr h)) =
    kept c x y (fan c f (y ∷ s)) (wedge c a b) (then_wedge c f (y ∷ s) a b na nb (inl h))
then_wedge c f (x ∷ y ∷ s) a b na nb (inr h) =
    kept c x y (fan c f (y ∷ s)) (wedge c a b) (then_wedge c f (y ∷ s) a b na nb (inr h))

-- ---- the corner that comes next
pub next_or_last : (S : List ℕ) (a : ℕ) → In a S → ((b : ℕ) × Next S a b) ⊎ Ends S a
next_or_last [] a i = absurd i
next_or_last (x ∷ []) a (inl e) = inr e
next_or_last (x ∷ []) a (inr i) = absurd i
next_or_last (x ∷ y ∷ s) a (inl e) = inl (y, inl (e, refl))
next_or_last (x ∷ y ∷ s) a (inr i) = go (next_or_last (y ∷ s) a i)
  where
    go : ((b : ℕ) × Next (y ∷ s) a b) ⊎ Ends (y ∷ s) a → ((b : ℕ) × Next (x ∷ y ∷ s) a b) ⊎ Ends (x ∷ y ∷ s) a
    go (inl h) = inl (h.0, inr h.1)
    go (inr h) = inr h

pub first_least : (f : ℕ) (s : List ℕ) → Rising (f ∷ s) → (z : ℕ) → In z (f ∷ s) → f ≤ z
first_least f s r z (inl e) = omega (arith, e)
first_least f s r z (inr i) = omega (arith, r.0 z i)

-- ---- the last corner
pub last_of : (f : ℕ) (s : List ℕ) → (e : ℕ) × Ends (f ∷ s) e
last_of f [] = (f, refl)
last_of f (y ∷ s) = last_of y s

-- ---- a corner that is none of the piece's lies between two neighbours, or outside the first and the last
pub record Gap (f : ℕ) (S : List ℕ) (k : ℕ) : Type 0 where
  pub x : ℕ
  pub y : ℕ
  pub in_x : In x S
  pub in_y : In y S
  pub rises : x < y
  pub where_k : (Inside S x y × (x < k) × (k < y)) ⊎ (Outside S x y × ((k < x) ⊎ (y < k)))

data Place (S : List ℕ) (k : ℕ) : Type 0 where
  between : (x y : ℕ) → Next S x y → x < k → k < y → Place S k
  above : ((z : ℕ) → In z S → z < k) → Place S k

place : (x : ℕ) (s : List ℕ) (k : ℕ) → x < k → ¬ In k (x ∷ s) → Place (x ∷ s) k
place x [] k h n = above (λ z i. at z i)
  where
    at : (z : ℕ) → In z (x ∷ []) → z < k
    at z (inl e) = omega (arith, e, h)
    at z (inr i) = absurd i
place x (y ∷ s) k h n = go (dec_lt k y) (ℕ_discrete k y) (λ l. place y s k l (λ i. n (inr i)))
  where
    go : Dec (k < y) → Dec (k ≡ y) → (y < k → Place (y ∷ s) k) → Place (x ∷ y ∷ s) k
    go (yes l) e f = between x y (inl (refl, refl)) h l
    go (no l) (yes e) f = absurd (n (inr (inl e)))
    go (no l) (no e) f = later (f (omega (arith, l, e)))
      where
        later : Place (y ∷ s) k → Place (x ∷ y ∷ s) k
        later (between a b t p q) = between a b (inr t) p q
        later (above g) = above all
          where
            all : (z : ℕ) → In z (x ∷ y ∷ s) → z < k
            all z (inl e) = omega (arith, e, h)
            all z (inr i) = g z i

pub gap : (f : ℕ) (s : List ℕ) → Rising (f ∷ s) → 3 ≤ length (f ∷ s) → (k : ℕ) → ¬ In k (f ∷ s) → Gap f (f ∷ s) k
gap f s r three k n = go (dec_lt f k) (λ h. place f s k h n)
  where
    e : ℕ
    e = (last_of f s).0

    ends : Ends (f ∷ s) e
    ends = (last_of f s).1

    around : (k < f) ⊎ (e < k) → Gap f (f ∷ s) k
    around h = record {
      x = f;
      y = e;
      in_x = inl refl;
      in_y = ends_in (f ∷ s) e ends;
      rises = ends_apart f s r three e ends;
      where_k = inr (ends_outside f s r e ends, h);
    }

    found : Place (f ∷ s) k → Gap f (f ∷ s) k
    found (between x y t p q) =
        let b = next_neighbours (f ∷ s) r x y t in
        record { x = x; y = y; in_x = b.in_a; in_y = b.in_b; rises = b.rises; where_k = inl (b.none, p, q) }
    found (above g) = around (inr (g e (ends_in (f ∷ s) e ends)))

    go : Dec (f < k) → (f < k → Place (f ∷ s) k) → Gap f (f ∷ s) k
    go (yes h) p = found (p h)
    go (no h) p = around (inl (omega (arith, h, ne)))
      where
        ne : ¬ (k ≡ f)
        ne q = n (inl q)
