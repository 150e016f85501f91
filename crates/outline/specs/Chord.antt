-- The corners from a on to a + m, where a sees a + m strictly, closed by the line back to a: an outline of its own. It
-- is simple, and the points left of its sides have one value.
--
--      a + m ----- a      The drawing goes on from a + m to corners of its own, and comes back to a.
--        \        /
--         o --- o
use Rattle.std.specs.Prelude.{◌≡◌, refl, Bool, cond, ◌⊎◌, List, ℕ, zero, suc, ◌+◌, ◌<◌, ◌≤◌, eqb, ℤ, pos}
use Rattle.std.proofs.Common.{sym, ◌∙◌, ap, subst, inl, inr, arith, eq-eqb, ne_eqb}
use Rattle.std.proofs.Math.Decide.{ℕ_discrete}
use Rattle.whole.specs.Order.{Positive}
use Rattle.outline.specs.Drawing.{Point, Shared, SharedOnlyAt, IsAt, Simple, corner, corners, after, EndsAt}
use Rattle.outline.specs.Drawing.{Beside, Clear, Sees}
use Rattle.outline.specs.Segments.{exchanged, turned_first, only_exchanged, only_second, only_first}
use Rattle.outline.specs.Ends.{OnlyEnd, only_complete}
use Rattle.outline.specs.Round.{next_inner}
use Rattle.outline.specs.Seeing.{clear_sight}
use Rattle.outline.specs.Placed.{On, on_turn}
use Rattle.outline.specs.Along.{len2, apart_length}
use Rattle.outline.specs.EveryPoint as closed_line
use Rattle.outline.specs.EveryPoint.{AtEnd}
use Rattle.outline.specs.CornersApart.{corners_apart, at_start, at_end, side_length, at_ends}
use Rattle.outline.specs.Barred.{off_side, grazed_unseen}
use Rattle.outline.specs.Value.{left}
use Rattle.outline.specs.Directions.{Away, away_of, length_back}
use Rattle.outline.specs.CornerSides.{same_left}
use Rattle.outline.specs.NearCorner.{Corner}
use Rattle.outline.specs.AtCorner.{turns}

-- a sees a + m, with corners between the two (`wide`) and after them (`small`)
pub record Chord (d : List ℤ) (a m : ℕ) : Type 0 where
  pub simple : Simple d
  pub small : suc (a + m) < corners d
  pub wide : 1 < m
  pub sees : Sees d a (a + m)

abbrev pub chain : List ℤ → ℕ → ℕ → ℕ → Point
chain d a m i = corner d (cond (eqb i (suc m)) a (a + i))

module _ {d : List ℤ} {a m : ℕ} (chord : Chord d a m) where
  abbrev b : ℕ
  b = a + m

  abbrev c : ℕ → Point
  c = chain d a m

  pub on_chain : (i : ℕ) → i ≤ m → c i ≡ corner d (a + i)
  on_chain i h = ap (λ t. corner d (cond t a (a + i))) (ne_eqb i (suc m) (λ e. omega arith))

  pub at_last : c (suc m) ≡ corner d a
  at_last = ap (λ t. corner d (cond t a (a + suc m))) (eq-eqb (suc m) (suc m) refl)

  pub closed : c (suc m) ≡ c 0
  closed = at_last ∙ ap (corner d) (omega arith) ∙ sym (on_chain 0 (omega arith))

  pub after_is : (k : ℕ) → k ≤ b → after d k ≡ suc k
  after_is k h = next_inner (corners d) k (omega (arith, h, chord.small))

  not_beside : ¬ Beside d a b
  not_beside (inl e) = omega (arith, e, chord.wide)
  not_beside (inr (inl e)) = omega (arith, e, after_is a (omega arith), chord.wide)
  not_beside (inr (inr e)) = omega (arith, e, after_is b (omega arith), chord.wide)

  pub clear : Clear d a b
  clear = clear_sight not_beside chord.sees

  -- what holds of the drawing's sides from a to b, and of the line from b to a, holds of its sides
  pub side_of : (P : ℕ → Point → Point → Type 0) →
      ((k : ℕ) → a ≤ k → k < b → P k (corner d k) (corner d (after d k))) → P b (corner d b) (corner d a) →
      (i : ℕ) → i < suc m → P (a + i) (c i) (c (suc i))
  side_of P f g i h = go (ℕ_discrete i m)
    where
      go : Dec (i ≡ m) → P (a + i) (c i) (c (suc i))
      go (yes e) =
          subst (λ k. P (a + k) (c k) (c (suc k))) (sym e)
          (subst (λ z. P b z (c (suc m))) (sym (on_chain m (omega arith))) (subst (P b (corner d b)) (sym at_last) g))
      go (no ne) =
          subst (λ z. P (a + i) z (c (suc i))) (sym (on_chain i (omega arith)))
          (subst (P (a + i) (corner d (a + i)))
          (ap (corner d) (after_is (a + i) (omega arith) ∙ omega arith) ∙ sym (on_chain (suc i) (omega arith)))
          (f (a + i) (omega arith) (omega arith)))

  -- ---- it is simple
  length_of : (i j : ℕ) → i ≤ b → j ≤ b → ¬ (i ≡ j) → Positive (len2 (corner d i) (corner d j))
  length_of i j hi hj ne =
      apart_length (corner d i) (corner d j)
      (corners_apart d chord.simple i j (omega (arith, hi, chord.small)) (omega (arith, hj, chord.small)) ne)

  -- a side of the drawing's, from a to b, against the line ab
  not_a : (k : ℕ) → a < k → k ≤ b → ¬ EndsAt d k a
  not_a k h g (inl e) = omega (arith, e, h)
  not_a k h g (inr e) = omega (arith, e, h, after_is k g)

  not_b : (k : ℕ) → suc k < b → ¬ EndsAt d k b
  not_b k h (inl e) = omega (arith, e, h)
  not_b k h (inr e) = omega (arith, e, h, after_is k (omega arith))

  data Meets (k : ℕ) : Type 0 where
    none : ¬ Shared (corner d a) (corner d b) (corner d k) (corner d (after d k)) → Meets k
    only_a : k ≡ a → SharedOnlyAt (corner d a) (corner d a) (corner d b) (corner d k) (corner d (after d k)) → Meets k
    only_b : after d k ≡ b → SharedOnlyAt (corner d b) (corner d a) (corner d b) (corner d k) (corner d (after d k)) →
        Meets k

  meets : (k : ℕ) → a ≤ k → k < b → Meets k
  meets k h g = go (ℕ_discrete k a) (ℕ_discrete (suc k) b)
    where
      below : k < corners d
      below = omega (arith, g, chord.small)

      go : Dec (k ≡ a) → Dec (suc k ≡ b) → Meets k
      go (yes e) t = only_a e (clear.ends_at_i k below (inl e))
      go (no ne) (yes e) =
          let f = after_is k (omega arith) ∙ e in
          only_b f (clear.ends_at_j k below (inr f))
      go (no ne) (no nf) = none (clear.others k below (not_a k (omega arith) (omega arith)) (not_b k (omega arith)))

  side_line : (k : ℕ) → a ≤ k → k < b → AtEnd (corner d k) (corner d (after d k)) (corner d b) (corner d a)
  side_line k h g s = go (meets k h g)
    where
      len : Positive (len2 (corner d k) (corner d (after d k)))
      len = side_length d chord.simple k (omega (arith, g, chord.small))

      go : Meets k → (s.p ≡ pos 0) ⊎ (s.p ≡ s.r)
      go (none n) = absurd (n (turned_first (exchanged s)))
      go (only_a e o) =
          inl (at_start (corner d k) (corner d (after d k)) s.p s.r len
          (subst (λ j. IsAt (corner d j) (corner d k) (corner d (after d k)) s.p s.r) (sym e)
          (only_exchanged (only_first o) s)))
      go (only_b e o) =
          inr (at_end (corner d k) (corner d (after d k)) s.p s.r len
          (subst (λ j. IsAt (corner d j) (corner d k) (corner d (after d k)) s.p s.r) (sym e)
          (only_exchanged (only_first o) s)))

  line_side : (k : ℕ) → a ≤ k → k < b → AtEnd (corner d b) (corner d a) (corner d k) (corner d (after d k))
  line_side k h g s = go (meets k h g)
    where
      len : Positive (len2 (corner d b) (corner d a))
      len = length_of b a (omega arith) (omega arith) (λ e. omega (arith, e, chord.wide))

      go : Meets k → (s.p ≡ pos 0) ⊎ (s.p ≡ s.r)
      go (none n) = absurd (n (turned_first s))
      go (only_a e o) = inr (at_end (corner d b) (corner d a) s.p s.r len (only_first o s))
      go (only_b e o) = inl (at_start (corner d b) (corner d a) s.p s.r len (only_first o s))

  pub simple_chain : closed_line.Simple c (suc m)
  simple_chain = record {
    ends = λ i h. side_of (λ j p q. Positive (len2 p q))
        (λ k g f. side_length d chord.simple k (omega (arith, f, chord.small)))
        (length_of b a (omega arith) (omega arith) (λ e. omega (arith, e, chord.wide))) i h;
    apart = λ i k hi hk ne. side_of
        (λ j p q. ¬ (j ≡ a + k) → AtEnd p q (c k) (c (suc k)))
        (λ j g f n. side_of (λ l p q. ¬ (j ≡ l) → AtEnd (corner d j) (corner d (after d j)) p q)
        (λ l g' f'. at_ends d chord.simple j l (omega (arith, f, chord.small)) (omega (arith, f', chord.small)))
        (λ n'. side_line j g f) k hk n)
        (side_of (λ l p q. ¬ (b ≡ l) → AtEnd (corner d b) (corner d a) p q)
        (λ l g f n. line_side l g f) (λ n. absurd (n refl)) k hk)
        i hi (λ e. ne (omega (arith, e)));
  }

  -- ---- its corners after the first: no other side of it holds one, and its sides there point away from each other
  pub at_next : (s : ℕ) → s < m → c (suc s) ≡ corner d (suc (a + s))
  at_next s h = on_chain (suc s) (omega arith) ∙ ap (corner d) (omega arith)

  off : (s : ℕ) → s < m → (i : ℕ) → i < suc m → ¬ (i ≡ s) → ¬ (i ≡ suc s) → ¬ On (c (suc s)) (c i) (c (suc i))
  off s h i hi ns nt o =
      side_of (λ j p q. ¬ (j ≡ a + s) → ¬ (j ≡ suc (a + s)) → ¬ On (corner d (suc (a + s))) p q) sides line i hi
      (λ e. ns (omega (arith, e))) (λ e. nt (omega (arith, e))) (subst (λ z. On z (c i) (c (suc i))) (at_next s h) o)
    where
      below : suc (a + s) < corners d
      below = omega (arith, h, chord.small)

      sides : (j : ℕ) → a ≤ j → j < b → ¬ (j ≡ a + s) → ¬ (j ≡ suc (a + s)) →
          ¬ On (corner d (suc (a + s))) (corner d j) (corner d (after d j))
      sides j g f n1 n2 = off_side d chord.simple (suc (a + s)) j below (omega (arith, f, chord.small)) ends
        where
          ends : ¬ EndsAt d j (suc (a + s))
          ends (inl e) = n2 e
          ends (inr e) = n1 (omega (arith, e, after_is j (omega arith)))

      line : ¬ (b ≡ a + s) → ¬ (b ≡ suc (a + s)) → ¬ On (corner d (suc (a + s))) (corner d b) (corner d a)
      line n1 n2 o =
          grazed_unseen d chord.simple a b (omega (arith, chord.small)) (omega (arith, chord.small)) not_beside
          (suc (a + s))
          (record { below = below; not_i = λ e. omega (arith, e); not_j = λ e. n2 (sym e); on = on_turn o })
          chord.sees

  turns_at : (s : ℕ) → s < m → Away (c (suc s)) (c (suc (suc s))) (c s)
  turns_at s h = go (ℕ_discrete (suc s) m)
    where
      below : suc (a + s) < corners d
      below = omega (arith, h, chord.small)

      at_s : c s ≡ corner d (a + s)
      at_s = on_chain s (omega arith)

      go : Dec (suc s ≡ m) → Away (c (suc s)) (c (suc (suc s))) (c s)
      go (no ne) =
          subst (λ z. Away z (c (suc (suc s))) (c s)) (sym (at_next s h))
          (subst (λ z. Away (corner d (suc (a + s))) z (c s))
          (ap (corner d) (after_is (suc (a + s)) (omega arith) ∙ omega arith) ∙ sym
          (on_chain (suc (suc s)) (omega arith)))
          (subst (Away (corner d (suc (a + s))) (corner d (after d (suc (a + s))))) (sym at_s)
          (turns d chord.simple (suc (a + s)) below)))
      go (yes e) =
          away_of (c (suc s)) (c (suc (suc s))) (c s) (simple_chain.ends (suc s) (omega arith))
          (length_back (c s) (c (suc s)) (simple_chain.ends s (omega arith)))
          (subst (λ z. OnlyEnd z (c (suc (suc s))) (c s)) (sym at_b)
          (subst (λ z. OnlyEnd (corner d b) z (c s)) (sym at_a)
          (subst (OnlyEnd (corner d b) (corner d a)) (sym at_s) only)))
        where
          at_b : c (suc s) ≡ corner d b
          at_b = at_next s h ∙ ap (corner d) (omega (arith, e))

          at_a : c (suc (suc s)) ≡ corner d a
          at_a = ap (λ i. c (suc i)) e ∙ at_last

          f : after d (a + s) ≡ b
          f = after_is (a + s) (omega arith) ∙ omega (arith, e)

          only : OnlyEnd (corner d b) (corner d a) (corner d (a + s))
          only =
              only_complete (only_second (only_first
              (subst (λ z. SharedOnlyAt (corner d b) (corner d a) (corner d b) (corner d (a + s)) (corner d z)) f
              (clear.ends_at_j (a + s) (omega (arith, below)) (inr f)))))

  pub corner_at : (s : ℕ) → s < m → Corner c (suc m) s (suc s)
  corner_at s h = record {
    closed = closed;
    simple = simple_chain;
    s_below = omega arith;
    t_below = omega arith;
    two = λ q. omega arith;
    joined = refl;
    off_others = off s h;
    turns = turns_at s h;
  }

  -- so the value left of its sides is one value
  abbrev pub left_of : ℕ → Bool
  left_of = left c (suc m)

  pub one_left : (p i : ℕ) → i + p ≡ m → left_of i ≡ left_of m
  one_left zero i e = ap left_of (omega arith)
  one_left (suc p) i e =
      same_left c (suc m) i (suc i) (corner_at i (omega arith)) ∙ one_left p (suc i) (omega arith)
