-- The lines of sight that begin with a side, as they are marked: of one corner, from side to side along whose line it
-- lies, and of all corners.
use mathlib.Core.Path.{◌≡◌, refl, sym, ap, ◌∙◌, subst}
use mathlib.Core.Logic.{◌⊎◌, inl, inr, by_cases}
use mathlib.Core.List.{List}
use Prim.Native.Nat.{ℕ, ◌+◌, ◌^◌, ◌≤◌, ◌<◌}
use native.Mathlib.Decide.{ℕ_discrete}
use native.Mathlib.Omega.{arith}
use lib.IntN.{ℤ, pos}
use lib.ListN.{length}
use Rattle.limits.specs.Limits.{all_cells}
use Rattle.whole.specs.Ring.{neg, ring1}
use Rattle.whole.specs.Bits.{bit, bit_nought, others_stay}
use Rattle.whole.specs.Masks.{Marks, marked, mark, others}
use Rattle.outline.specs.Drawing.{Sound, turn_of, corner, corners, after, EndsAt, Beside}
use Rattle.outline.specs.Spell.{A, B, C, O, I, env4, TurnE}
use Rattle.outline.specs.Placed.{On, on_turn}
use Rattle.outline.specs.Seeing.{beside_back}
use Rattle.outline.specs.Begins.{Joins, Begins}
use Rattle.drawing.specs.Known.{side_turn, Along}
use Rattle.drawing.specs.Table.{Grows, Begun, SideBegun, Early}
use Rattle.drawing.specs.Grazing.{first_between, other_between, far_first}
use Rattle.drawing.specs.Codes.{code_grazed}
use Rattle.outline.specs.Round.{next_below}
use Rattle.drawing.proofs.Growing.{grows_on, grows_in}
use Rattle.drawing.proofs.Pairs.{Pair, pair_added}

-- the segment from p to i begins with a side whose mark is passed
pub record Passed (d : List ℤ) (rest p i : ℕ) : Type 0 where
  pub begins : Begins d p i
  pub gone : bit rest begins.side ≡ 0

-- of corner i the sides whose marks are passed
abbrev pub RowBegunTo : List ℤ → ℕ → ℕ → ℕ → ℕ → Type 0
RowBegunTo d i rest p q = Begun d i p q ⊎ (((q ≡ i) × Passed d rest p i) ⊎ ((p ≡ i) × Passed d rest q i))

-- ---- the side with which a segment begins has the other corner on its line
joined_line : (d : List ℤ) (p i k m : ℕ) → Joins d k p m → On (corner d m) (corner d p) (corner d i) →
    side_turn d i k ≡ pos 0
joined_line d p i k m (inl (e, f)) o =
    subst (λ x. turn_of (corner d x) (corner d (after d k)) (corner d i) ≡ pos 0) (sym e)
    (subst (λ x. turn_of (corner d p) (corner d x) (corner d i) ≡ pos 0) (sym f)
    (ring1 (env4 (corner d p) (corner d m) (corner d i) (corner d i)) (TurnE A B C) O (neg I) (TurnE A C B) O
    o.line refl))
joined_line d p i k m (inr (e, f)) o =
    subst (λ x. turn_of (corner d x) (corner d (after d k)) (corner d i) ≡ pos 0) (sym e)
    (subst (λ x. turn_of (corner d m) (corner d x) (corner d i) ≡ pos 0) (sym f)
    (ring1 (env4 (corner d p) (corner d m) (corner d i) (corner d i)) (TurnE B A C) O I (TurnE A C B) O o.line
    refl))

-- a side that joins p to m and ends at i makes p and i neighbours, or i is m
module _ (d : List ℤ) {i p : ℕ} (b : Begins d p i) where
  ends_beside : EndsAt d b.side i → Beside d p i
  ends_beside = go b.joins
    where
      go : Joins d b.side p b.end → EndsAt d b.side i → Beside d p i
      go (inl (e, f)) (inl g) = inl (sym e ∙ g)
      go (inl (e, f)) (inr g) = inr (inl (ap (after d) (sym e) ∙ g))
      go (inr (e, f)) (inl g) = inr (inr (ap (after d) (sym g) ∙ f))
      go (inr (e, f)) (inr g) = inl (sym f ∙ g)

  -- else i lies along it
  ends_or : EndsAt d b.side i ⊎ (¬ EndsAt d b.side i)
  ends_or =
      by_cases (ℕ_discrete b.side i) (λ e. inl (inl e))
      (λ n. by_cases (ℕ_discrete (after d b.side) i) (λ e. inl (inr e)) (λ m. inr (none n m)))
    where
      none : ¬ (b.side ≡ i) → ¬ (after d b.side ≡ i) → ¬ EndsAt d b.side i
      none n m (inl e) = n e
      none n m (inr e) = m e

-- ---- one corner
module _ {d : List ℤ} {i : ℕ} where
  -- at first, where all sides are marked along whose line i lies
  pub row_begin : {along : ℕ} {c : List ℕ} → Marks (corners d) along (Along d i) →
      Grows d (Begun d i) (RowBegunTo d i along) c c
  row_begin {along} marks = grows_in start
    where
      early : (p : ℕ) → Passed d along p i → Beside d p i
      early p x = go (ends_or d x.begins)
        where
          b : Begins d p i
          b = x.begins

          go : EndsAt d x.begins.side i ⊎ (¬ EndsAt d x.begins.side i) → Beside d p i
          go (inl e) = ends_beside d x.begins e
          go (inr n) =
              absurd (omega (
                arith,
                x.gone,
                marked marks b.side b.below (joined_line d p i b.side b.end b.joins b.on, n),
              ))

      start : (p q : ℕ) → p < corners d → q < corners d → RowBegunTo d i along p q → Begun d i p q
      start p q hp hq (inl h) = h
      start p q hp hq (inr (inl (e, x))) = inl (subst (λ y. Beside d p y) (sym e) (early p x))
      start p q hp hq (inr (inr (e, x))) =
          inl (subst (λ y. Beside d y q) (sym e) (beside_back d q i (early q x)))

  pub row_begun : {rest : ℕ} {c : List ℕ} → rest ≡ 0 → Grows d (RowBegunTo d i rest) (Begun d (i + 1)) c c
  row_begun {rest} z = grows_in all
    where
      dark : (k : ℕ) → bit rest k ≡ 0
      dark k = ap (λ x. bit x k) z ∙ bit_nought k

      passed : {p : ℕ} → Begins d p i → Passed d rest p i
      passed b = record { begins = b; gone = dark b.side }

      all : (p q : ℕ) → p < corners d → q < corners d → Begun d (i + 1) p q → RowBegunTo d i rest p q
      all p q hp hq (inl b) = inl (inl b)
      all p q hp hq (inr (inl (l, b))) =
          by_cases (ℕ_discrete q i)
          (λ e. inr (inl (e, passed (subst (λ x. Begins d p x) e b))))
          (λ n. inl (inr (inl (omega arith, b))))
      all p q hp hq (inr (inr (l, b))) =
          by_cases (ℕ_discrete p i)
          (λ e. inr (inr (e, passed (subst (λ x. Begins d q x) e b))))
          (λ n. inl (inr (inr (omega arith, b))))

  -- ---- the next side
  module _ (sound : Sound d) (hi : i < corners d) (k rest : ℕ) (hk : k < corners d) (a : Along d i k)
      (fits : rest < 2 ^ 64) (n : ¬ (rest ≡ 0)) (is : k ≡ mark rest) where
    -- the far end of side k is j
    module _ (j : ℕ) (far : (p : ℕ) (b : Begins d p i) → b.side ≡ k → p ≡ j) where
      passed_on : (p : ℕ) → Passed d (others rest) p i → Passed d rest p i ⊎ (p ≡ j)
      passed_on p x =
          by_cases (ℕ_discrete x.begins.side (mark rest)) (λ e. inr (far p x.begins (e ∙ sym is)))
          (λ m. inl (record {
            begins = x.begins;
            gone = sym (others_stay 64 rest x.begins.side fits (omega arith) m) ∙ x.gone;
          }))

      step : (p q : ℕ) → p < corners d → q < corners d → RowBegunTo d i (others rest) p q →
          RowBegunTo d i rest p q ⊎ Pair i j p q
      step p q hp hq (inl b) = inl (inl b)
      step p q hp hq (inr (inl (e, x))) = go (passed_on p x)
        where
          go : Passed d rest p i ⊎ (p ≡ j) → RowBegunTo d i rest p q ⊎ Pair i j p q
          go (inl y) = inl (inr (inl (e, y)))
          go (inr f) = inr (inr (f, e))
      step p q hp hq (inr (inr (e, x))) = go (passed_on q x)
        where
          go : Passed d rest q i ⊎ (q ≡ j) → RowBegunTo d i rest p q ⊎ Pair i j p q
          go (inl y) = inl (inr (inr (e, y)))
          go (inr f) = inr (inl (e, f))

    pub side_begun : (c t : List ℕ) → all_cells ≤ length c → SideBegun d i k c t →
        Grows d (RowBegunTo d i rest) (RowBegunTo d i (others rest)) c t
    side_begun c t room (inl (o, e)) =
        grows_on (pair_added c sound.shaped.few hi (next_below (corners d) k hk)
        (code_grazed (first_between d sound.simple i k hi hk a o) refl) room e) (grows_in (step (after d k) far))
      where
        far : (p : ℕ) (b : Begins d p i) → b.side ≡ k → p ≡ after d k
        far p b s = go b.joins
          where
            go : Joins d b.side p b.end → p ≡ after d k
            go (inr (f, g)) = sym g ∙ ap (after d) s
            go (inl (f, g)) =
                absurd (far_first d sound.simple i k hi hk a o
                (subst (λ x. On (corner d (after d k)) (corner d x) (corner d i)) (sym f ∙ s)
                (subst (λ x. On (corner d x) (corner d p) (corner d i)) (sym g ∙ ap (after d) s) b.on)))
    side_begun c t room (inr (n, e)) =
        grows_on (pair_added c sound.shaped.few hi hk
        (code_grazed (other_between d sound.simple i k hi hk a n) refl) room e) (grows_in (step k far))
      where
        far : (p : ℕ) (b : Begins d p i) → b.side ≡ k → p ≡ k
        far p b s = go b.joins
          where
            go : Joins d b.side p b.end → p ≡ k
            go (inl (f, g)) = sym f ∙ s
            go (inr (f, g)) =
                absurd (n (on_turn (subst (λ x. On (corner d k) (corner d x) (corner d i)) (sym g ∙ ap (after d) s)
                (subst (λ x. On (corner d x) (corner d p) (corner d i)) (sym f ∙ s) b.on))))

-- ---- all corners
pub begun_first : {d : List ℤ} {c : List ℕ} → Grows d (Beside d) (Begun d 0) c c
begun_first {d} = grows_in none
  where
    none : (p q : ℕ) → p < corners d → q < corners d → Begun d 0 p q → Beside d p q
    none p q hp hq (inl b) = b
    none p q hp hq (inr (inl h)) = absurd (omega (arith, h.0))
    none p q hp hq (inr (inr h)) = absurd (omega (arith, h.0))

pub begun_all : {d : List ℤ} {c : List ℕ} → Grows d (Begun d (corners d)) (Early d) c c
begun_all {d} = grows_in all
  where
    all : (p q : ℕ) → p < corners d → q < corners d → Early d p q → Begun d (corners d) p q
    all p q hp hq (inl b) = inl b
    all p q hp hq (inr (inl b)) = inr (inl (hq, b))
    all p q hp hq (inr (inr b)) = inr (inr (hp, b))
