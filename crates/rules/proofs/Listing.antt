-- The theorems of `Listing`: its definitions and first laws are in specs/.
use Rattle.std.specs.Prelude.{◌≡◌, refl, Bool, true, false, ◌&&◌, ℕ, zero, suc, ◌+◌, ◌-◌, ◌≤◌, ◌<◌, T, eqb, ltb, length}
use Rattle.std.proofs.Common.{ap, subst, inr, arith, eqb→eq, ltb→lt, lt→ltb}
use mathlib.Core.List.{List, [], ◌∷◌, ◌++◌, flat_map}
use Rattle.std.specs.Float.Ieee.Fits.{and_i, and_l, and_r, eq→eqb}
use Rattle.rules.specs.Lists.{In, Distinct, Rise, rise_le}
use Rattle.rules.specs.Cutting.{Tree, leaf, link, corners, told, flat, Less}
use Rattle.rules.specs.Trees.{Fit, Chain, Line, Range, chain_rise, range_line}
use Rattle.rules.specs.Trees.{line_range, run_below, run_line}
use Rattle.rules.proofs.Trees.{run_line_lem}
use Rattle.rules.specs.Order.{less_irrefl, less_append, less_prepend}
use Rattle.rules.specs.Sorted.{sorted_distinct, Listed, listed_one, listed_if}
use Rattle.rules.specs.Sorted.{listed_as, listed_flat_map, listed_map}
use Rattle.rules.specs.Sorted.{rises, From}
use Rattle.rules.proofs.Sorted.{rises_all}
use Rattle.rules.specs.Listing.{ByBelow, ByLine, ways}

module _ (cut? : ℕ → ℕ → Bool) (ok? : List ℕ → Bool) where
  abbrev pub cut : ℕ → ℕ → Type 0
  cut a b = T (cut? a b)

  abbrev pub ok : List ℕ → Type 0
  ok S = T (ok? S)

  -- may the corners s after i be those of the piece on the line i j
  abbrev pub fit? : ℕ → ℕ → List ℕ → Bool
  fit? i j [] = false
  fit? i j (c ∷ s) = let o = ok? (i ∷ c ∷ s) in ltb c j && o

  abbrev pub fitting : (ℕ → ℕ → List Tree) → ℕ → ℕ → List ℕ → List Tree
  fitting g i j s = elim (fit? i j s) [ true ↦ ways g i s | false ↦ [] ]

  -- all trees of the range i j, where g lists what may stand on a shorter line
  abbrev pub ranges : (ℕ → ℕ → List Tree) → ℕ → ℕ → List Tree
  ranges g i j = flat_map (fitting g i j) (rises (j - suc i) (suc i))

  -- all that may stand on a line of at most f steps
  abbrev pub lines : ℕ → ℕ → ℕ → List Tree
  lines zero a b = []
  lines (suc f) a b =
      elim (eqb b (suc a)) [ true ↦ leaf ∷ [] | false ↦ elim (cut? a b) [ true ↦ ranges (lines f) a b | false ↦ [] ] ]

  abbrev pub listing : ℕ → ℕ → List Tree
  listing i j = ranges (lines j) i j

  -- ---- the trees over one piece
  abbrev Over : ℕ → ℕ → List ℕ → Tree → Type 0
  Over a j s t = Chain cut ok a j t × (corners t ≡ s)

  -- g lists what may stand on each line of the piece
  abbrev Each : (ℕ → ℕ → List Tree) → ℕ → List ℕ → Type 0
  Each g a [] = Unit {0}
  Each g a (b ∷ s) = Listed (Line cut ok a b) (ByLine a) (g a b) × Each g b s

  ways_more : (a b j : ℕ) (s : List ℕ) (us rs : List Tree) → a < b → Listed (Line cut ok a b) (ByLine a) us →
      Listed (Over b j s) (ByBelow b) rs →
      Listed (Over a j (b ∷ s)) (ByBelow a) (flat_map (λ u. flat_map (λ r. link b u r ∷ []) rs) us)
  ways_more a b j s us rs lt U R =
      listed_flat_map (Line cut ok a b) (ByLine a) (Over a j (b ∷ s)) (ByBelow a) Has
      (λ u. flat_map (λ r. link b u r ∷ []) rs) us U rests line
      (λ u u' l t t' o q o' q'. rw (q.1, q'.1)
      (less_append (run_line a u) (run_line a u') (run_below b q.0) (run_below b q'.0) l))
    where
      -- u stands on the first line of t
      Has : Tree → Tree → Type 0
      Has t u = (r : Tree) × (t ≡ link b u r)

      into : (u : Tree) → Line cut ok a b u → (r : Tree) → Over b j s r →
          Over a j (b ∷ s) (link b u r) × Has (link b u r) u
      into u h r o = (((lt, h, o.0), ap (b ∷◌) o.1), (r, refl))

      rest : (u t : Tree) → Over a j (b ∷ s) t × Has t u → (r : Tree) × Over b j s r × (t ≡ link b u r)
      rest u t o =
          let r = o.1.0 in
          let k : Over a j (b ∷ s) (link b u r) = subst (Over a j (b ∷ s)) o.1.1 o.0 in
          let q = k.1 in
          (r, (k.0.2, cc), o.1.1)

      rests : (u : Tree) → Line cut ok a b u →
          Listed (λ t. Over a j (b ∷ s) t × Has t u) (ByBelow a) (flat_map (λ r. link b u r ∷ []) rs)
      rests u h =
          listed_map (Over b j s) (ByBelow b) (λ t. Over a j (b ∷ s) t × Has t u) (ByBelow a) (link b u) rs R
          (into u h) (rest u)
          (λ r r' l. less_prepend (run_line a u) (run_below b r) (run_below b r') l)

      line : (t : Tree) → Over a j (b ∷ s) t → (u : Tree) × Line cut ok a b u × Has t u
      line leaf o = absurd (omega (arith, ap length o.1))
      line (link c u r) o =
          let q = o.1 in
          let e : c ≡ b = cc in
          (u, subst (λ x. Line cut ok a x u) e o.0.1, (r, ap (λ x. link x u r) e))

  ways_all : (g : ℕ → ℕ → List Tree) (a j : ℕ) (s : List ℕ) → Rise a j s → Each g a s →
      Listed (Over a j s) (ByBelow a) (ways g a s)
  ways_all g a j [] h e = listed_one (Over a j []) (ByBelow a) leaf (h, refl) only_leaf
    where
      only_leaf : (t : Tree) → Over a j [] t → t ≡ leaf
      only_leaf leaf o = refl
      only_leaf (link b u r) o = absurd (omega (arith, ap length o.1))
  ways_all g a j (b ∷ s) h e = ways_more a b j s (g a b) (ways g b s) h.0 e.0 (ways_all g b j s h.1 e.1)

  -- ---- the trees of a range
  fit_test : (i j : ℕ) (t : Tree) → Fit cut ok i j t → T (fit? i j (corners t))
  fit_test i j leaf h = absurd h
  fit_test i j (link c u r) h = and_i (ltb c j) (ok? (i ∷ c ∷ corners r)) (lt→ltb c j h.0) h.1

  test_fit : (i j : ℕ) (t : Tree) → T (fit? i j (corners t)) → Fit cut ok i j t
  test_fit i j leaf h = absurd h
  test_fit i j (link c u r) h =
      let o = ok? (i ∷ c ∷ corners r) in
      (ltb→lt c j (and_l (ltb c j) o h), and_r (ltb c j) o h)

  range_from : (i j : ℕ) (t : Tree) → Range cut ok i j t → From (suc i) j (corners t)
  range_from i j leaf h = absurd h.0
  range_from i j (link c u r) h = (h.1.0, chain_rise cut ok c j r h.1.2)

  -- g lists what may stand on lines of at most f steps
  abbrev Known : ℕ → (ℕ → ℕ → List Tree) → Type 0
  Known f g = (a b : ℕ) → a < b → b ≤ a + f → Listed (Line cut ok a b) (ByLine a) (g a b)

  each_known : (f : ℕ) (g : ℕ → ℕ → List Tree) → Known f g → (a j : ℕ) (s : List ℕ) → Rise a j s →
      j ≤ a + f → Each g a s
  each_known f g K a j [] r h = tt
  each_known f g K a j (b ∷ s) r h =
      let le = rise_le b j s r.1 in
      let lt = r.0 in
      (K a b lt (omega arith), each_known f g K b j s r.1 (omega arith))

  fit_each : (f : ℕ) (g : ℕ → ℕ → List Tree) → Known f g → (i j : ℕ) (s : List ℕ) → j ≤ i + suc f →
      From (suc i) j s → T (fit? i j s) →
      Rise i j s × Each g i s
  fit_each f g K i j [] hf r t = absurd t
  fit_each f g K i j (c ∷ s) hf r t =
      let q = ltb→lt c j (and_l (ltb c j) (ok? (i ∷ c ∷ s)) t) in
      let lt = r.0 in
      ((lt, r.1), (K i c lt (omega arith), each_known f g K c j s r.1 (omega arith)))

  module _ (f : ℕ) (g : ℕ → ℕ → List Tree) (K : Known f g) (i j : ℕ) (lt : i < j) (hf : j ≤ i + suc f) where
    abbrev Of : List ℕ → Tree → Type 0
    Of s t = Range cut ok i j t × (corners t ≡ s)

    -- the run of a range is that of its piece, then what stands below
    run_of : (t : Tree) (s : List ℕ) → Of s t → run_line i t ≡ (i ∷ s) ++ run_below i t
    run_of leaf s o = absurd o.0.0
    run_of (link c u r) s o = ap (λ x. (i ∷ x) ++ run_below i (link c u r)) o.1

    -- over one piece, which s makes with i
    fitting_all : (s : List ℕ) → From (suc i) j s → Listed (Of s) (ByLine i) (fitting g i j s)
    fitting_all s fr = listed_if (Of s) (ByLine i) (fit? i j s) (ways g i s) go fits
      where
        fits : (t : Tree) → Of s t → T (fit? i j s)
        fits t o = subst (λ x. T (fit? i j x)) o.1 (fit_test i j t o.0.0)

        go : T (fit? i j s) → Listed (Of s) (ByLine i) (ways g i s)
        go h =
            let p = fit_each f g K i j s hf fr h in
            let all = ways_all g i j s p.0 p.1 in
            listed_as (Of s) (ByLine i) (Over i j s) (ByBelow i) (ways g i s) all range (λ t o. (o.0.1, o.1))
            (λ t t' o o' l. rw (run_of t s (range t o), run_of t' s (range t' o'))
            (less_prepend (i ∷ s) (run_below i t) (run_below i t') l))
          where
            range : (t : Tree) → Over i j s t → Of s t
            range t o = ((test_fit i j t (rw o.1 h), o.0), o.1)

    ranges_all : Listed (Range cut ok i j) (ByLine i) (ranges g i j)
    ranges_all =
        listed_flat_map (From (suc i) j) Less (Range cut ok i j) (ByLine i) (λ t s. corners t ≡ s)
        (fitting g i j) (rises (j - suc i) (suc i)) (rises_all (j - suc i) (suc i) j (omega arith))
        fitting_all (λ t h. (corners t, range_from i j t h, refl))
        (λ s s' l t t' h e h' e'. apart s s' l t t' (h, e) (h', e'))
      where
        apart : (s s' : List ℕ) → Less s s' → (t t' : Tree) → Of s t → Of s' t' → ByLine i t t'
        apart s s' l t t' o o' =
            rw (run_of t s o, run_of t' s' o')
            (less_append (i ∷ s) (i ∷ s') (run_below i t) (run_below i t') (inr (refl, l)))

  -- ---- what stands on a line
  line_all : (a b : ℕ) (l : List Tree) → a < b → (suc a < b → Listed (Range cut ok a b) (ByLine a) l) →
      Listed (Line cut ok a b) (ByLine a)
      (elim (eqb b (suc a)) [ true ↦ leaf ∷ [] | false ↦ elim (cut? a b) [ true ↦ l | false ↦ [] ] ])
  line_all a b l lt R = go (eqb b (suc a)) refl
    where
      is_leaf : b ≡ suc a → (t : Tree) → Line cut ok a b t → t ≡ leaf
      is_leaf e leaf h = refl
      is_leaf e (link c u r) h = absurd (omega (arith, h.1.0, h.2.0))

      is_cut : suc a < b → (t : Tree) → Line cut ok a b t → cut a b
      is_cut wide leaf h = absurd (omega arith)
      is_cut wide (link c u r) h = h.0

      go : (d : Bool) → eqb b (suc a) ≡ d →
          Listed (Line cut ok a b) (ByLine a)
          (elim d [ true ↦ leaf ∷ [] | false ↦ elim (cut? a b) [ true ↦ l | false ↦ [] ] ])
      go true q = let e = eqb→eq b (suc a) (rw q tt) in listed_one (Line cut ok a b) (ByLine a) leaf e (is_leaf e)
      go false q =
          let no_side : ¬ (b ≡ suc a) = λ e. subst T q (eq→eqb e) in
          let wide : suc a < b = omega arith in
          listed_if (Line cut ok a b) (ByLine a) (cut? a b) l
          (λ c. listed_as (Line cut ok a b) (ByLine a) (Range cut ok a b) (ByLine a) l (R wide)
          (λ t h. range_line cut ok a b t c h)
          (λ t h. line_range cut ok a b t wide h) (λ t t' h h' k. k))
          (is_cut wide)

  lines_all : (f : ℕ) → Known f (lines f)
  lines_all zero a b lt hf = absurd (omega arith)
  lines_all (suc f) a b lt hf =
      line_all a b (ranges (lines f) a b) lt (λ wide. ranges_all f (lines f) (lines_all f) a b lt hf)

  -- ---- the listing of a range has every allowed tree and no other, in the order of the told runs
  pub listing_all : (i j : ℕ) → i < j →
      Listed (Range cut ok i j) (λ t t'. Less (flat (told i t)) (flat (told i t'))) (listing i j)
  listing_all i j lt =
      listed_as _ _ (Range cut ok i j) (ByLine i) (listing i j)
      (ranges_all j (lines j) (lines_all j) i j lt (omega arith)) (λ t h. h)
      (λ t h. h)
      (λ t t' h h' l. rw (run_line_lem i t, run_line_lem i t') l)

  -- each once
  pub listing_once : (i j : ℕ) → i < j → Distinct (listing i j)
  listing_once i j lt =
      sorted_distinct _ (λ t. less_irrefl (flat (told i t))) (listing i j) (listing_all i j lt).sorted

  -- where it is empty, no tree is allowed
  pub listing_none : (i j : ℕ) → i < j → listing i j ≡ [] → (t : Tree) → ¬ Range cut ok i j t
  listing_none i j lt e t h = subst (In t) e ((listing_all i j lt).every t h)

-- ---- 3, 11 and 45 cuttings of 4, 5 and 6 corners where all is allowed
four_corners : length (listing (λ a b. true) (λ S. true) 0 3) ≡ 3
unfolding flat_map
four_corners = refl

five_corners : length (listing (λ a b. true) (λ S. true) 0 4) ≡ 11
unfolding flat_map
five_corners = refl

six_corners : length (listing (λ a b. true) (λ S. true) 0 5) ≡ 45
unfolding flat_map
six_corners = refl
