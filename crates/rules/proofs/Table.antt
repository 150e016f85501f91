-- The theorems of `Table`: its definitions and first laws are in specs/.
use Rattle.std.specs.Prelude.{◌≡◌, refl, List, [], ◌∷◌, ◌++◌, ℕ, zero, suc, ◌+◌, ◌≤◌, ◌<◌, length}
use Rattle.std.proofs.Common.{sym, ap, subst, inl, inr, arith}
use Rattle.std.proofs.Math.Decide.{dec_lt}
use Rattle.rules.specs.Lists.{Rise, rise_le}
use Rattle.rules.specs.Cutting.{Tree, leaf, link, corners}
use Rattle.rules.specs.Trees.{Fit, Chain, Line, Range, chain_rise, range_line, line_range}
use Rattle.rules.specs.Trees.{run_below, run_line}
use Rattle.rules.proofs.Trees.{run_line_lem, under, total}
use Rattle.rules.specs.Order.{Upto}
use Rattle.rules.proofs.Order.{Best}
use Rattle.rules.specs.Cheapest.{Cheapest, Steps, cheapest_when, cheapest_map, in_steps, in_parts}
use Rattle.rules.specs.Table.{Closes, Head, Road, Table, Way, grow, grown, rise_head, road_rise, sum, walk}

module _ {cut : ℕ → ℕ → Type 0} {ok : List ℕ → Type 0} {w : ℕ → ℕ → ℕ}
    {may : ℕ → ℕ → Type 0} {val : ℕ → ℕ → ℕ} {choice : ℕ → ℕ → List ℕ} {n : ℕ}
    (table : Table cut ok w may val choice n) where
  -- g a b is the first of the lightest trees on the line a b, and val a b its weight
  abbrev OnLine : (ℕ → ℕ → Tree) → ℕ → ℕ → Type 0
  OnLine g a b = Cheapest (Line cut ok a b) (total w a b) (run_line a) (Way cut may a b) (val a b) (g a b)

  abbrev OnRange : (ℕ → ℕ → Tree) → ℕ → ℕ → Type 0
  OnRange g i j = Cheapest (Range cut ok i j) (total w i j) (run_line i) (may i j) (val i j) (g i j)

  -- the chains from a to j with the corners s; the first of the lightest has g's trees on its lines
  abbrev Along : ℕ → ℕ → List ℕ → Tree → Type 0
  Along a j s t = Chain cut ok a j t × (s ≡ corners t)

  abbrev OnRoad : (ℕ → ℕ → Tree) → ℕ → ℕ → List ℕ → Type 0
  OnRoad g a j s =
      Cheapest (Along a j s) (under w a) (run_below a) (Road (Way cut may) a j s) (sum val a s) (walk g a s)

  -- a chain is its first line, then a chain with the other corners
  link_steps : (a b j : ℕ) (s : List ℕ) → a < b →
      Steps (Line cut ok a b) (total w a b) (run_line a) (λ u. Along b j s) (λ u. under w b) (λ u. run_below b)
      (link b) (Along a j (b ∷ s)) (under w a) (run_below a) []
  link_steps a b j s lt = record {
    splits = splits;
    joins = λ u r l c. ((lt, l, c.0), ap (b ∷◌) c.1);
    costs = λ u r l c. refl;
    runs = λ u r l c. refl;
  }
    where
      splits : (t : Tree) → Along a j (b ∷ s) t →
          (u : Tree) × (r : Tree) × Line cut ok a b u × Along b j s r × (t ≡ link b u r)
      splits leaf h = absurd (omega (arith, ap length h.1))
      splits (link c u r) h =
          let e : b ≡ c = cc in
          let q : s ≡ corners r = cc in
          let k : Chain cut ok a j (link b u r) = subst (λ x. Chain cut ok a j (link x u r)) (sym e) h.0 in
          (u, r, k.1, (k.2, q), ap (λ x. link x u r) (sym e))

  -- a range is its piece, then a chain with the corners of the piece
  range_steps : (i j : ℕ) → i < j →
      Steps (λ s. Head j s × ok (i ∷ s)) (λ s. w i j) (λ s. s) (Along i j) (λ s. under w i) (λ s. run_below i)
      (λ s t. t) (Range cut ok i j) (total w i j) (run_line i) (i ∷ [])
  range_steps i j lt = record {
    splits = λ t h. (corners t, t, fits t h.0, (h.1, refl), refl);
    joins = λ s t p q. (fit t q.0 (rw q.1 at p), q.0);
    costs = λ s t p q. cost t q.0;
    runs = λ s t p q. rw q.1 (run t q.0);
  }
    where
      fits : (t : Tree) → Fit cut ok i j t → Head j (corners t) × ok (i ∷ corners t)
      fits leaf h = absurd h
      fits (link c u r) h = h

      fit : (t : Tree) → Chain cut ok i j t → Head j (corners t) × ok (i ∷ corners t) → Fit cut ok i j t
      fit leaf c h = absurd (omega arith)
      fit (link b u r) c h = h

      cost : (t : Tree) → Chain cut ok i j t → total w i j t ≡ w i j + under w i t
      cost leaf c = absurd (omega arith)
      cost (link b u r) c = refl

      run : (t : Tree) → Chain cut ok i j t → run_line i t ≡ i ∷ (corners t ++ run_below i t)
      run leaf c = absurd (omega arith)
      run (link b u r) c = refl

  -- ---- where the lines up to the width f are known, so are the ranges up to f + 1: each line of a piece is narrower
  -- than its range
  module _ (f : ℕ) (g : ℕ → ℕ → Tree) (known : (a b : ℕ) → a < b → b < n → b ≤ a + f → OnLine g a b) where
    chains : (a j : ℕ) (s : List ℕ) (top : ℕ) → j < n → Head top s → top ≤ a + suc f → j ≤ a + suc f → OnRoad g a j s
    chains a j [] top hn hd ht hj = record { least = low; attained = λ e. ((e, refl), refl); first = λ e. only }
      where
        low : (t : Tree) → Along a j [] t → (a ≡ j) × (0 ≤ under w a t)
        low leaf h = (h.0, omega arith)
        low (link b u r) h = absurd (omega (arith, ap length h.1))

        only : (t : Tree) → Along a j [] t → under w a t ≤ 0 → Upto leaf t [] (run_below a t)
        only leaf h k = inl refl
        only (link b u r) h k = absurd (omega (arith, ap length h.1))
    chains a j (b ∷ s) top hn hd ht hj =
        cheapest_when (road_rise (Way cut may) a j (b ∷ s)) rises
        (λ q. more q (chains b j s (suc j) hn (rise_head b j s q.1)))
      where
        rises : (t : Tree) → Along a j (b ∷ s) t → Rise a j (b ∷ s)
        rises t h = subst (Rise a j) (sym h.1) (chain_rise cut ok a j t h.0)

        more : Rise a j (b ∷ s) → (suc j ≤ b + suc f → j ≤ b + suc f → OnRoad g b j s) → OnRoad g a j (b ∷ s)
        more q rest =
            let lt = q.0 in
            let le = rise_le b j s q.1 in
            cheapest_map (λ h. (lt, h.0, h.1)) (λ h. (h.1, h.2)) (λ t h. h) (λ t h. h)
            (in_parts (link_steps a b j s lt) (known a b lt (omega arith) (omega arith))
            (rest (omega arith) (omega arith)))

    ranges : (i j : ℕ) → suc i < j → j < n → j ≤ i + suc f → Closes cut n i j →
        OnRange (λ a b. walk g a (choice a b)) i j
    ranges i j lt hn hf cl =
        in_steps (range_steps i j (omega arith)) (λ s p. chains i j s j hn p.0 (omega arith) (omega arith))
        (table.range i j lt hn cl)

  side : (a : ℕ) → suc a < n → OnLine (λ a b. leaf) a (suc a)
  side a hn = record {
    least = λ t h. (inl refl, omega (arith, table.side_val a hn));
    attained = λ h. (refl, omega (arith, table.side_val a hn));
    first = λ h. only;
  }
    where
      only : (t : Tree) → Line cut ok a (suc a) t → total w a (suc a) t ≤ val a (suc a) → Upto leaf t [] (run_line a t)
      only leaf h k = inl refl
      only (link c u r) h k = absurd (omega (arith, h.1.0, h.2.0))

  -- lines of every width, from narrow to wide
  pub lines : (f a b : ℕ) → a < b → b < n → b ≤ a + f →
      Cheapest (Line cut ok a b) (total w a b) (run_line a) (Way cut may a b) (val a b) (grow choice f a b)
  lines zero a b lt hn hf = absurd (omega arith)
  lines (suc f) a b lt hn hf = go (dec_lt (suc a) b) (ranges f (grow choice f) (lines f) a b)
    where
      way_cut : suc a < b → Way cut may a b → cut a b × may a b
      way_cut l (inl e) = absurd (omega arith)
      way_cut l (inr h) = h

      line_cut : suc a < b → (t : Tree) → Line cut ok a b t → cut a b
      line_cut l leaf h = absurd (omega arith)
      line_cut l (link c u r) h = h.0

      go : Dec (suc a < b) →
          (suc a < b → b < n → b ≤ a + suc f → Closes cut n a b → OnRange (grow choice (suc f)) a b) →
          OnLine (grow choice (suc f)) a b
      go (no l) R =
          let e : b ≡ suc a = omega arith in
          rw (e, table.side_choice a (omega arith)) (side a (omega arith))
      go (yes l) R =
          cheapest_when (λ h. (way_cut l h).0) (line_cut l) (λ c.
          cheapest_map (λ m. inr (c, m)) (λ h. (way_cut l h).1) (λ t. range_line cut ok a b t c)
          (λ t. line_range cut ok a b t l) (R l hn hf (inl c)))

  -- ---- the theorems
  -- the tree grown from the table is the first of the lightest of its range and the value is its weight; where there
  -- is a tree there is an entry
  pub table_cheapest : (i j : ℕ) → suc i < j → j < n → Closes cut n i j →
      Cheapest (Range cut ok i j) (total w i j) (run_line i) (may i j) (val i j) (grown choice i j)
  table_cheapest i j lt hn cl = ranges j (grow choice j) (lines j) i j lt hn (omega arith) cl

  pub table_best : (i j : ℕ) → suc i < j → j < n → Closes cut n i j → may i j → Best cut ok w i j (grown choice i j)
  table_best i j lt hn cl m =
      let c = table_cheapest i j lt hn cl in
      let a = c.attained m in
      record {
        fits = a.0;
        least = λ t h. omega (arith, a.1, (c.least t h).1);
        first = λ t h k. rw (run_line_lem i (grown choice i j), run_line_lem i t)
            (c.first m t h (omega (arith, a.1, k)));
      }

  pub table_value : (i j : ℕ) → suc i < j → j < n → Closes cut n i j → may i j →
      total w i j (grown choice i j) ≡ val i j
  table_value i j lt hn cl m = ((table_cheapest i j lt hn cl).attained m).1

  -- no entry, no tree: where the table has none, no valid cutting exists
  pub table_none : (i j : ℕ) → suc i < j → j < n → Closes cut n i j → (t : Tree) → Range cut ok i j t → may i j
  table_none i j lt hn cl t h = ((table_cheapest i j lt hn cl).least t h).0
