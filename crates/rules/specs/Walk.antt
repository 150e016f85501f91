-- From corner to corner of a piece: what the next corner is, and that going so makes the tree of `Cutting` and what is
-- told of it. Said for every set of pairs that joins no neighbours, whether its pairs cross or not. Knows no cells and
-- no buffer.
--
--     i . . c . . d . . . j    The piece on the line i j has been walked from i to c. Its next corner d is the
--      \_ _/ \_ _/ \_ _ _/     furthest below `top` that c is joined to: `top` is j at first, for the closing line
--                              is no step, and j + 1 from then on. On each line c d of it stands a smaller range, or
--                              a side: `line C c d`.
use Rattle.std.specs.Prelude.{◌≡◌, Bool, true, false, List, [], ◌∷◌, ◌++◌, T, ltb, length}
use Rattle.std.proofs.Math.Path.{refl, subst}
use Rattle.std.proofs.Common.{sym, ap, ◌∙◌, lt-ltb, le-ltb}
use Prim.Native.Nat.{ℕ, zero, suc, ◌+◌, ◌-◌, ◌<◌, ◌≤◌}
use native.Mathlib.Omega.{arith}
use Rattle.rules.specs.Lists.{Rise}
use Rattle.rules.specs.Cutting.{Pairs, Tree, leaf, link, corners, below, told, furthest, chain, tree, pieces}
use Rattle.rules.specs.TreeOf.{ChainOf, furthest_next, above, under, of_chain, of_rise, of_unique, tree_of}

-- a set of pairs that joins no neighbours
pub record Wide (C : Pairs) : Type 0 where
  pub apart : (a b : ℕ) → T (C a b) → suc a < b

-- r is the corner after a, where that is below top
pub record After (C : Pairs) (a top r : ℕ) : Type 0 where
  pub is : r ≡ furthest C a top
  pub after : a < r
  pub below : r < top

-- the rest of a piece from a on to its last corner j, where the next corner is below top; and what stands on the
-- line a b
unfoldable pub walk : Pairs → ℕ → ℕ → ℕ → Tree
walk C a top j = chain C (j + top) a top j

unfoldable pub line : Pairs → ℕ → ℕ → Tree
line C a b = elim (ltb (suc a) b) [ true ↦ walk C a b b | false ↦ leaf ]

-- the piece on the line i j is walked as far as c: the closing line itself is no step, and so each line is narrower
-- than it
pub record Step (i j c top : ℕ) : Type 0 where
  pub last : c ≤ j
  pub low : j ≤ top
  pub high : top ≤ suc j
  pub room : c < j → suc c < top
  pub narrow : top + i ≤ j + c

-- ---- the next corner, looked for from top down: none between c and top
pub seek_from : (C : Pairs) (a top : ℕ) → 0 < top → furthest C a top ≡ furthest C a (suc (top - 1))
seek_from C a top h = let z : top ≡ suc (top - 1) = omega arith in ap (furthest C a) z

module _ {C : Pairs} (w : Wide C) where
  furthest_low : (a c : ℕ) → c ≤ suc (suc a) → furthest C a c ≡ suc a
  furthest_low a zero h = refl
  furthest_low a (suc c) h = go (C a c) refl (furthest_low a c (omega arith))
    where
      go : (q : Bool) → C a c ≡ q → furthest C a c ≡ suc a → furthest C a (suc c) ≡ suc a
      go true e f = absurd (omega (arith, w.apart a c (rw e tt)))
      go false e f = rw (e, furthest) f

  after_is : {a top r : ℕ} → a + 1 < top → furthest C a top ≡ r → After C a top r
  after_is {a} {top} h e =
      let n = furthest_next C a top in
      record {
        is = sym e;
        after = omega (arith, above C w.apart a (furthest C a top) n.linked);
        below = omega (arith, n.below top (omega arith) (omega arith));
      }

  module _ {a top c : ℕ} (h : a + 1 < top) (e : furthest C a top ≡ furthest C a (suc c)) where
    pub seek_hit : C a c ≡ true → After C a top c
    seek_hit f = after_is h (e ∙ rw (f, furthest))

    pub seek_on : C a c ≡ false → 0 < c → furthest C a top ≡ furthest C a (suc (c - 1))
    seek_on f l = let z : c ≡ suc (c - 1) = omega arith in e ∙ rw (f, furthest) (ap (furthest C a) z)

    pub seek_end : c ≤ a + 1 → After C a top (a + 1)
    seek_end l = after_is h (omega (arith, e, furthest_low a (suc c) (omega arith)))

-- ---- where the last corner is reached there is no more, and a side has no piece
module _ (C : Pairs) where
  walk_end : (a top j : ℕ) → j ≤ a → walk C a top j ≡ leaf
  unfolding walk
  walk_end a top j h = go (j + top)
    where
      go : (f : ℕ) → chain C f a top j ≡ leaf
      go zero = refl
      go (suc f) = rw (le-ltb a j h, chain)

  pub corners_end : (a top j : ℕ) → j ≤ a → corners (walk C a top j) ≡ []
  corners_end a top j h = ap corners (walk_end a top j h)

  pub below_end : (a top j : ℕ) → j ≤ a → below a (walk C a top j) ≡ []
  below_end a top j h = ap (below a) (walk_end a top j h)

  pub line_end : (a b : ℕ) → b ≤ a + 1 → told a (line C a b) ≡ []
  unfolding line
  line_end a b h = let z : b ≤ suc a = omega arith in rw (le-ltb (suc a) b z, line)

  line_walk : (a b : ℕ) → a + 1 < b → line C a b ≡ walk C a b b
  unfolding line
  line_walk a b h = let z : suc a < b = omega arith in rw (lt-ltb (suc a) b z, line)

-- ---- one step further
module _ {C : Pairs} (w : Wide C) where
  walk_of : (a top j : ℕ) → a ≤ j → (a < j → suc a < top) → j ≤ top → top ≤ suc j → ChainOf C a top j (walk C a top j)
  unfolding walk
  walk_of a top j l m p q = of_chain C w.apart (j + top) a top j (l, m, p, q, omega arith)

  pub step_next : {i j c top : ℕ} → Step i j c top → c < j → After C c top (furthest C c top)
  step_next s l = after_is w (omega (arith, s.room l)) refl

  module _ {i j c top d : ℕ} (s : Step i j c top) (h : After C c top d) (l : c < j) where
    pub step_on : Step i j d (j + 1)
    step_on = record {
      last = omega (arith, h.below, s.high);
      low = omega arith;
      high = omega arith;
      room = λ z. omega arith;
      narrow = omega (arith, h.after, h.below, s.narrow, s.low);
    }

    -- each line is narrower than the line of its piece
    pub narrower : d + i < j + c
    narrower = omega (arith, h.below, s.narrow)

    walk_more : walk C c top j ≡ link d (line C c d) (walk C d (j + 1) j)
    unfolding line
    walk_more =
        let n = furthest_next C c top in
        of_unique C c top j _ _ (walk_of c top j s.last s.room s.low s.high) (
          h.after,
          h.below,
          rw h.is n.clear,
          under C w.apart c d (walk C c d d) (rw h.is n.linked)
              (λ v. walk_of c d d (omega arith) (λ q. v) (omega arith) (omega arith)) (ltb (suc c) d) refl,
          subst (λ (q : ℕ). ChainOf C d q j (walk C d (j + 1) j)) (omega arith)
              (walk_of d (j + 1) j step_on.last step_on.room step_on.low step_on.high),
        )

    pub corners_more : corners (walk C c top j) ≡ d ∷ corners (walk C d (j + 1) j)
    corners_more = ap corners walk_more

    -- "then the ranges under its lines from left to right"
    pub below_more : below c (walk C c top j) ≡ told c (line C c d) ++ below d (walk C d (j + 1) j)
    below_more = ap (below c) walk_more

-- ---- the piece on the line i j, which is no side
pub step_from : {i j : ℕ} → i + 1 < j → Step i j i j
step_from h = record {
  last = omega arith;
  low = omega arith;
  high = omega arith;
  room = λ z. omega arith;
  narrow = omega arith;
}

pub rise_length : (a j : ℕ) (s : List ℕ) → Rise a j s → length s + a ≤ j
rise_length a j [] r = omega arith
rise_length a j (b ∷ s) r = omega (arith, r.0, rise_length b j s r.1)

module _ {C : Pairs} (w : Wide C) (i j : ℕ) (h : i + 1 < j) where
  pub corners_rise : Rise i j (corners (walk C i j j))
  corners_rise =
      let o = walk_of w i j j (omega arith) (λ z. omega arith) (omega arith) (omega arith) in
      of_rise C i j j (walk C i j j) o

  pub corners_few : length (corners (walk C i j j)) + i ≤ j
  corners_few = rise_length i j (corners (walk C i j j)) corners_rise

  -- "first the piece of the range, then the ranges under its lines"
  pub line_more : told i (line C i j) ≡ (i ∷ corners (walk C i j j)) ∷ below i (walk C i j j)
  line_more =
      let e = walk_more w (step_from h) (after_is w h refl) (omega arith) in
      ap (told i) (line_walk C i j h ∙ e) ∙ sym (ap (λ q. (i ∷ corners q) ∷ below i q) e)

-- ---- the pieces of a set of pairs are what is told of the line from 0 to n-1
pub pieces_line : {C : Pairs} → Wide C → (n : ℕ) → 3 ≤ n → pieces n C ≡ told 0 (line C 0 (n - 1))
unfolding pieces
pieces_line {C} w n h =
    let v = walk_of w 0 (n - 1) (n - 1) (omega arith) (λ z. omega arith) (omega arith) (omega arith) in
    ap (told 0)
    (of_unique C 0 (n - 1) (n - 1) (tree n C) (walk C 0 (n - 1) (n - 1)) (tree_of C w.apart n h) v
    ∙ sym (line_walk C 0 (n - 1) (omega arith)))
