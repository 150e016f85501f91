-- Pairs of corners as data: flat cells, a row for each corner that there may be (`row` of `limits`), however many
-- there are. In the array of a set of pairs, a cell that is not 0 says that the pair x y is in the set:
--
--         y:  0  1  2  3  4  5   the hexagon cut along 0-2 and 2-5. Of a set of pairs only the cells
--     x = 0   -  -  1  .  .  .   shown as . or 1 count, right of the diagonal and of its neighbours.
--     x = 1   -  -  -  .  .  .
--     x = 2   -  -  -  -  .  1
--
-- In the array of a drawing, a cell tells two kinds of sight for the ordered pair x, y: 1 says that x sees y by the
-- strict rule, for a cut, and 2 that x, as a centre, sees y.
--
--     cell          0   1   2   3   4   5   ..   255
--     for a cut     .   1   .   1   .   1   ..    1      whether it is odd
--     as a centre   .   .   2   2   .   .   ..    2      whether its half, rounded down, is odd
--
-- What has to be believed are the definitions; the laws are those that a marker of pairs needs.
use Rattle.std.specs.Prelude.{◌≡◌, refl, Bool, true, false, not, ◌&&◌, ◌||◌, ◌↔◌, List, [], ◌∷◌, ℕ, zero, suc, ◌*◌, ◌/◌, ◌%◌, ◌<◌, ◌≤◌, T, eqb, ltb, length, get_or, set, replicate}
use Rattle.std.proofs.Common.{ap, ◌∙◌, arith, lt-ltb, ne_eqb, eqb-true, ltb-true, ltb→lt, get_or-set_same, get_or-set_other}
use Rattle.std.proofs.Math.Path.{fun_ext}
use Rattle.std.proofs.lemmas.Bool.{eqb-false}
use Rattle.std.specs.Float.Ieee.Fits.{and_i, and_l, and_r}
use Rattle.limits.specs.Limits.{row, all_cells, place}
use Rattle.rules.specs.Cutting.{Pairs, pieces}

-- the cell of x and y
abbrev pub cell : List ℕ → ℕ → ℕ → ℕ
cell t x y = get_or t (place x y) 0

-- ---- sight in one drawing. Nothing is assumed of the cells: neither kind follows from the other, and a corner sees
-- itself only where its own cell says so.
-- 01, "Sight": x sees y. 02, K3: "A cut keeps the strict rule."
abbrev pub StrictlySees : List ℕ → ℕ → ℕ → Type 0
StrictlySees t x y = cell t x y % 2 ≡ 1

-- x, as a centre, sees y. 02, K3: "for a centre, sight holds when every point of the segment lies in or on the
-- outline."
abbrev pub CentreSees : List ℕ → ℕ → ℕ → Type 0
CentreSees t x y = cell t x y / 2 % 2 ≡ 1

-- 01, "Cuttings": a centre "sees every corner of it in both drawings"; and the same as tests
abbrev pub InBoth : List ℕ → List ℕ → ℕ → ℕ → Type 0
InBoth first second x y = CentreSees first x y × CentreSees second x y

abbrev pub centre_sees : List ℕ → ℕ → ℕ → Bool
centre_sees t x y = eqb (cell t x y / 2 % 2) 1

abbrev pub both_see : List ℕ → List ℕ → ℕ → ℕ → Bool
both_see first second x y = centre_sees first x y && centre_sees second x y

-- ---- a set of pairs
abbrev pub filled : List ℕ → ℕ → ℕ → Bool
filled t x y = not (eqb (cell t x y) 0)

-- the set of pairs: those a, b of no neighbours, a < b < row, whose cell is not 0. No other cell matters: neither
-- those of neighbours nor those below the diagonal.
unfoldable pub marked : List ℕ → Pairs
marked t a b = (ltb (suc a) b && ltb b row) && filled t a b

-- ---- the tests tell what they say
centre_sees_is : (t : List ℕ) (x y : ℕ) → T (centre_sees t x y) ↔ CentreSees t x y
centre_sees_is t x y = go (centre_sees t x y) refl
  where
    go : (b : Bool) → centre_sees t x y ≡ b → T b ↔ CentreSees t x y
    go true e = ((λ k. eqb-true (cell t x y / 2 % 2) 1 e), λ f. tt)
    go false e = ((λ k. absurd k), λ f. absurd (eqb-false (cell t x y / 2 % 2) 1 e f))

pub both_see_is : (first second : List ℕ) (x y : ℕ) → T (both_see first second x y) ↔ InBoth first second x y
both_see_is first second x y =
    let p = centre_sees_is first x y in
    let q = centre_sees_is second x y in
    let f = centre_sees first x y in
    let s = centre_sees second x y in
    ((λ k. (p.0 (and_l f s k), q.0 (and_r f s k))), λ k. and_i f s (p.1 k.0) (q.1 k.1))

pub filled_is : (t : List ℕ) (x y : ℕ) → T (filled t x y) ↔ ¬ (cell t x y ≡ 0)
filled_is t x y = go (eqb (cell t x y) 0) refl
  where
    go : (b : Bool) → eqb (cell t x y) 0 ≡ b → T (not b) ↔ ¬ (cell t x y ≡ 0)
    go true e = ((λ k. absurd k), λ f. absurd (f (eqb-true (cell t x y) 0 e)))
    go false e = ((λ k. eqb-false (cell t x y) 0 e), λ f. tt)

-- ---- the pairs of a set
pub marked_wide : (t : List ℕ) (a b : ℕ) → T (marked t a b) → suc a < b
unfolding marked
marked_wide t a b h =
    let k = and_l (ltb (suc a) b && ltb b row) (filled t a b) h in
    ltb→lt (suc a) b (and_l (ltb (suc a) b) (ltb b row) k)

pub marked_small : (t : List ℕ) (a b : ℕ) → T (marked t a b) → b < row
unfolding marked
marked_small t a b h =
    let k = and_l (ltb (suc a) b && ltb b row) (filled t a b) h in
    ltb→lt b row (and_r (ltb (suc a) b) (ltb b row) k)

-- of a pair that counts, the cell tells
pub marked_is : (t : List ℕ) (a b : ℕ) → suc a < b → b < row → marked t a b ≡ filled t a b
unfolding marked
marked_is t a b h k = rw (lt-ltb (suc a) b h, lt-ltb b row k, marked)

-- cells that agree with a set of pairs, pair by pair, are that set
pub marked_same : (t : List ℕ) (C : Pairs) → ((a b : ℕ) → marked t a b ≡ C a b) → marked t ≡ C
marked_same t C h = fun_ext (λ a. fun_ext (λ b. h a b))

-- cells that are 0 are no pairs
pub marked_zero : (t : List ℕ) (a b : ℕ) → cell t a b ≡ 0 → marked t a b ≡ false
unfolding marked
marked_zero t a b e = go (ltb (suc a) b && ltb b row)
  where
    go : (p : Bool) → (p && filled t a b) ≡ false
    go true = ap (λ (q : ℕ). not (eqb q 0)) e
    go false = refl

pub marked_none : (m a b : ℕ) → marked (replicate m 0) a b ≡ false
marked_none m a b = marked_zero (replicate m 0) a b (zero_cell m (place a b))
  where
    zero_cell : (m i : ℕ) → get_or {A = ℕ} (replicate m 0) i 0 ≡ 0
    zero_cell zero i = refl
    zero_cell (suc m) zero = refl
    zero_cell (suc m) (suc i) = zero_cell m i

-- ---- stores
-- arrays with the same cell at a pair that counts agree on it
pub marked_cell : (t t' : List ℕ) (a b : ℕ) → (suc a < b → b < row → cell t a b ≡ cell t' a b) →
    marked t a b ≡ marked t' a b
unfolding marked
marked_cell t t' a b h = go (ltb (suc a) b) (ltb b row) refl refl
  where
    go : (p q : Bool) → ltb (suc a) b ≡ p → ltb b row ≡ q → ((p && q) && filled t a b) ≡ ((p && q) && filled t' a b)
    go true true e f = ap (λ (q : ℕ). not (eqb q 0)) (h (ltb-true (suc a) b e) (ltb-true b row f))
    go true false e f = refl
    go false q e f = refl

-- a store elsewhere changes no pair
pub marked_other : (t : List ℕ) (k v x y : ℕ) → (suc x < y → y < row → ¬ (place x y ≡ k)) →
    marked (set t k v) x y ≡ marked t x y
marked_other t k v x y d = marked_cell (set t k v) t x y (λ p q. get_or-set_other t k (place x y) v 0 (d p q))

-- a store of anything but 0 adds one pair
pub marked_set : (t : List ℕ) (a b v : ℕ) → all_cells ≤ length t → suc a < b → b < row → ¬ (v ≡ 0) → (x y : ℕ) →
    marked (set t (place a b) v) x y ≡ ((eqb x a && eqb y b) || marked t x y)
unfolding marked
marked_set t a b v s l m n x y = by (eqb x a) (eqb y b) refl refl
  where
    yes : x ≡ a → y ≡ b → marked (set t (place a b) v) x y ≡ true
    yes e f =
        let k : place x y ≡ place a b = omega arith in
        let g = ap (λ (q : ℕ). get_or (set t (place a b) v) q 0) k ∙ get_or-set_same t (place a b) v 0 (omega arith) in
        rw (lt-ltb (suc x) y (omega arith), lt-ltb y row (omega arith))
        (ap (λ (q : ℕ). not (eqb q 0)) g ∙ ap not (ne_eqb v 0 n))

    by : (r u : Bool) → eqb x a ≡ r → eqb y b ≡ u → marked (set t (place a b) v) x y ≡ ((r && u) || marked t x y)
    by true true e f = yes (eqb-true x a e) (eqb-true y b f)
    by true false e f = marked_other t (place a b) v x y (λ p q k. eqb-false y b f (omega arith))
    by false u e f = marked_other t (place a b) v x y (λ p q k. eqb-false x a e (omega arith))

-- a store in the cell of neighbours, or of a corner with itself, adds none: a marker of lines need not ask whether a
-- line is a side
pub marked_side : (t : List ℕ) (a b v : ℕ) → b ≤ suc a → a < row → b < row → (x y : ℕ) →
    marked (set t (place a b) v) x y ≡ marked t x y
marked_side t a b v h m n x y = marked_other t (place a b) v x y (λ p q k. omega arith)

-- ---- tried: the hexagon above
hexagon : List ℕ
hexagon = set (set (replicate (6 * row) 0) (place 0 2) 1) (place 2 5) 1

hexagon_pieces : pieces 6 (marked hexagon) ≡ (0 ∷ 2 ∷ 5 ∷ []) ∷ (0 ∷ 1 ∷ 2 ∷ []) ∷ (2 ∷ 3 ∷ 4 ∷ 5 ∷ []) ∷ []
unfolding pieces marked hexagon
hexagon_pieces = refl

-- ---- tried: the cells above, as the row of corner 0
kinds : List ℕ
kinds = 0 ∷ 1 ∷ 2 ∷ 3 ∷ 4 ∷ 5 ∷ 255 ∷ []

one_for_a_cut : StrictlySees kinds 0 1 × ¬ CentreSees kinds 0 1
unfolding kinds
one_for_a_cut = (refl, λ e. omega (arith, e))

two_for_a_centre : ¬ StrictlySees kinds 0 2 × CentreSees kinds 0 2
unfolding kinds
two_for_a_centre = (λ e. omega (arith, e), refl)

neither_by_four : ¬ StrictlySees kinds 0 4 × ¬ CentreSees kinds 0 4
unfolding kinds
neither_by_four = (λ e. omega (arith, e), λ e. omega (arith, e))

both_by_255 : StrictlySees kinds 0 6 × CentreSees kinds 0 6
unfolding kinds
both_by_255 = (refl, refl)
