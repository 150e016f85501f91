-- What is told of the cells, as bytes without centres: where a piece ends, one line further, a whole range, all pieces
-- of n corners.
use mathlib.Core.Path.{◌≡◌, refl, sym, ap, ap₂, subst, ◌∙◌}
use mathlib.Core.Bool.{Bool, true, false, not, ◌&&◌}
use lib.Dec.{eqb, ltb}
use Rattle.std.specs.Prelude.{T}
use Rattle.std.proofs.Common.{ltb→lt}
use Rattle.std.proofs.Math.Path.{fun_ext}
use Rattle.std.proofs.lemmas.List.{get_or-take}
use Rattle.std.specs.Float.Ieee.Fits.{and_l, and_r}
use mathlib.Core.List.{List, [], ◌∷◌, ◌++◌}
use Prim.Native.Nat.{ℕ, zero, suc, ◌+◌, ◌-◌, ◌*◌, ◌/◌, ◌%◌, ◌<◌, ◌≤◌}
use native.Mathlib.Omega.{arith}
use lib.ListN.{length, get_or, take, drop}
use lib.Seq.{take-append_seam, drop-append_seam}
use Rattle.telling.proofs.Corners.{in_at, lay_same}
use Rattle.limits.specs.Limits.{row, all_cells, place}
use Rattle.rules.specs.Cutting.{Pairs, corners, below, told, furthest, pieces}
use Rattle.rules.specs.Cells.{cell, filled, marked, both_see, InBoth, marked_wide, marked_is, both_see_is}
use Rattle.rules.specs.Centre.{LowestOrZero}
use Rattle.rules.specs.Walk.{Wide, After, walk, line, Step, seek_hit, seek_end, below_end, line_end, below_more, line_more, pieces_line}
use Rattle.rules.proofs.AnyPairs.{any_shaped, any_size, any_room}
use Rattle.rules.specs.Lays.{Says, centre, lowest_or_zero_map, lay}
use Rattle.rules.proofs.Lays.{centre_shown}
use Rattle.rules.specs.Lays.{lay_all, blank, lay_layout, lay_append, lay_size}
use Rattle.rules.specs.Agree.{layout_map}
use Rattle.rules.specs.Result.{Carries}
use Rattle.telling.specs.Answer.{result_of, Served}
use Rattle.std.specs.Prelude.{Ok, Option, Some, None, unwrap_or}
use Rattle.std.specs.Option.{MatchOption}
use Rattle.telling.specs.Parts.{Wrote, Pieces, Centred, range_bytes}

-- ---- the cells
pub pairs_wide : (t : List ℕ) → Wide (marked t)
pairs_wide t = record { apart = marked_wide t }

pub pair_is : (t : List ℕ) (a b : ℕ) → a + 1 < b → b < row → marked t a b ≡ filled t a b
pair_is t a b h k = marked_is t a b (omega arith) k

-- ---- of an array that goes on beyond its cells nothing else is looked at
taken_cell : (t : List ℕ) (x y : ℕ) → x < row → y < row → cell (take all_cells t) x y ≡ cell t x y
taken_cell t x y p q = get_or-take all_cells t (place x y) 0 (omega arith)

both_same : (g x y : Bool) → (T g → x ≡ y) → (g && x) ≡ (g && y)
both_same true x y h = h tt
both_same false x y h = refl

taken_pairs : (t : List ℕ) → marked (take all_cells t) ≡ marked t
unfolding marked
taken_pairs t = fun_ext (λ a. fun_ext (λ b.
    both_same (ltb (suc a) b && ltb b row) (filled (take all_cells t) a b) (filled t a b) (λ g.
    let l = ltb→lt (suc a) b (and_l (ltb (suc a) b) (ltb b row) g) in
    let h = ltb→lt b row (and_r (ltb (suc a) b) (ltb b row) g) in
    ap (λ (k : ℕ). not (eqb k 0)) (taken_cell t a b (omega arith) h))))

taken_sees : (f s : List ℕ) (x y : ℕ) → x < row → y < row →
    both_see (take all_cells f) (take all_cells s) x y ≡ both_see f s x y
taken_sees f s x y p q =
    ap₂ (λ (j k : ℕ). eqb (j / 2 % 2) 1 && eqb (k / 2 % 2) 1) (taken_cell f x y p q) (taken_cell s x y p q)

pub taken_range : (t : List ℕ) {u : List ℕ} → u ≡ take all_cells t → (i j : ℕ) → range_bytes u i j ≡ range_bytes t i j
taken_range t e i j = ap (λ C. lay_all blank (told i (line C i j))) (ap marked e ∙ taken_pairs t)

-- ---- the furthest corner that a is joined to, looked for from top down
-- where no pair from a goes to a corner above c and below e
skip : (t : List ℕ) (a c n : ℕ) → a < c → suc c + n ≤ row →
    ((k : ℕ) → c < k → k < suc c + n → filled t a k ≡ false) →
    furthest (marked t) a (suc c + n) ≡ furthest (marked t) a (suc c)
skip t a c zero l h none = let z : suc c + 0 ≡ suc c = omega arith in ap (furthest (marked t) a) z
skip t a c (suc n) l h none =
    let z : suc c + suc n ≡ suc (suc c + n) = omega arith in
    let e = pair_is t a (suc c + n) (omega arith) (omega arith) ∙ none (suc c + n) (omega arith) (omega arith) in
    ap (furthest (marked t) a) z
    ∙ rw (e, furthest) (skip t a c n l (omega arith) (λ k p q. none k p (omega arith)))

pub found_after : (t : List ℕ) {a top from to r : ℕ} → a + 1 < top → top ≤ row → from ≡ a + 2 → to ≡ top →
    (o : Option ℕ) →
    MatchOption o ((k : ℕ) → from ≤ k → k < to → filled t a k ≡ false)
    (λ c. (from ≤ c) × (c < to) × (filled t a c ≡ true) × ((k : ℕ) → c < k → k < to → filled t a k ≡ false)) →
    r ≡ unwrap_or o (a + 1) → After (marked t) a top r
found_after t {a} {top} {r = r} apart low e f None d g =
    let z : top ≡ suc (a + 1) + (top - suc (a + 1)) = omega arith in
    let none : ((k : ℕ) → a + 1 < k → k < suc (a + 1) + (top - suc (a + 1)) → filled t a k ≡ false) =
    λ k p q. d k (omega (arith, e)) (omega (arith, f)) in
    let s = skip t a (a + 1) (top - suc (a + 1)) (omega arith) (omega arith) none in
    subst (After (marked t) a top) (sym g)
    (seek_end (pairs_wide t) apart (ap (furthest (marked t) a) z ∙ s) (omega arith))
found_after t {a} {top} {r = r} apart low e f (Some c) d g =
    let h : (a < c) × (c < top) = (omega (arith, d.0, e), omega (arith, d.1, f)) in
    let z : top ≡ suc c + (top - suc c) = omega (arith, h.1) in
    let none : ((k : ℕ) → c < k → k < suc c + (top - suc c) → filled t a k ≡ false) =
    λ k p q. d.3 k p (omega (arith, f, h.1)) in
    let s = skip t a c (top - suc c) h.0 (omega (arith, h.1)) none in
    subst (After (marked t) a top) (sym g)
    (seek_hit (pairs_wide t) apart (ap (furthest (marked t) a) z ∙ s)
    (pair_is t a c (omega (arith, d.0, e)) (omega (arith, h.1)) ∙ d.2))

-- ---- bytes of the lines of a piece, and of a range
module _ (C : Pairs) where
  pub lines_end : (a top j : ℕ) → j ≤ a → lay_all blank (below a (walk C a top j)) ≡ []
  lines_end a top j h = ap (lay_all blank) (below_end C a top j h)

  pub range_end : (a b : ℕ) → b ≤ a + 1 → lay_all blank (told a (line C a b)) ≡ []
  range_end a b h = ap (lay_all blank) (line_end C a b h)

module _ {C : Pairs} (w : Wide C) where
  pub lines_more : {i j c top d : ℕ} → Step i j c top → After C c top d → c < j →
      lay_all blank (below c (walk C c top j))
      ≡ lay_all blank (told c (line C c d)) ++ lay_all blank (below d (walk C d (j + 1) j))
  lines_more {i} {j} {c} {top} {d} s h l =
      ap (lay_all blank) (below_more w s h l) ∙ lay_append blank (told c (line C c d)) (below d (walk C d (j + 1) j))

  pub range_more : (i j : ℕ) → i + 1 < j →
      lay_all blank (told i (line C i j))
      ≡ lay blank (i ∷ corners (walk C i j j)) ++ lay_all blank (below i (walk C i j j))
  range_more i j h = ap (lay_all blank) (line_more w i j h)

-- ---- all pieces of n corners
module _ {n : ℕ} {pairs first second : List ℕ} (s : Served n pairs first second) where
  whole : lay_all blank (pieces n (marked pairs)) ≡ range_bytes pairs 0 (n - 1)
  whole = ap (lay_all blank) (pieces_line (pairs_wide pairs) n s.enough)

  -- their size by the count of pieces, and room for them
  pub whole_size : (length (range_bytes pairs 0 (n - 1)) + 2 ≡ 4 * length (pieces n (marked pairs)) + n)
      × (length (range_bytes pairs 0 (n - 1)) + 10 ≤ 5 * n)
  whole_size =
      let e = sym (ap length whole) ∙ lay_size blank (pieces n (marked pairs)) in
      let p = any_size (pairs_wide pairs) n s.enough in
      let q = any_room (pairs_wide pairs) n s.enough in
      (omega arith, omega arith)

  module _ {out after : List ℕ} {r : ℕ} (w : Wrote out after r (range_bytes pairs 0 (n - 1))) where
    whole_told : take r after ≡ lay_all blank (pieces n (marked pairs))
    whole_told =
        let l = range_bytes pairs 0 (n - 1) in
        ap₂ take w.past w.now ∙ take-append_seam l (drop (length l) out) ∙ sym whole

    pub whole_pieces : Pieces (take r after)
    whole_pieces = record {
      shown = blank;
      l = pieces n (marked pairs);
      are = whole_told;
      small = λ S i k d h.
          omega (arith, s.few, (any_shaped (pairs_wide pairs) n s.enough S i).small (get_or S k d) (in_at S k d h));
    }

    -- with the centres of the pieces, and what stood behind them
    pub whole_given : {f g told : List ℕ} {count : ℕ} → f ≡ take all_cells first → g ≡ take all_cells second →
        Centred f g (take r after) told → 4 * count + n ≡ r + 2 →
        Carries (LowestOrZero (InBoth first second)) (pieces n (marked pairs)) out
        (result_of (Ok (record { pieces = count; bytes = r })) (told ++ drop r after))
    whole_given {told = told} d e h four =
        let l = pieces n (marked pairs) in
        let c = centre (both_see first second) in
        let z = whole_size in
        let b = range_bytes pairs 0 (n - 1) in
        let q : length b ≡ length (lay_all c l) = sym (ap length whole) ∙ lay_size blank l ∙ sym (lay_size c l) in
        let same : lay_all (centre (both_see (take all_cells first) (take all_cells second))) l ≡ lay_all c l =
        lay_same (both_see (take all_cells first) (take all_cells second)) (both_see first second) l
        (λ S i x y j k.
        let small = (any_shaped (pairs_wide pairs) n s.enough S i).small in
        taken_sees first second x y (omega (arith, s.few, small x j)) (omega (arith, s.few, small y k)))
        in
        let is : told ≡ lay_all c l =
        h blank l whole_told ∙ ap₂ (λ (t u : List ℕ). lay_all (centre (both_see t u)) l) d e ∙ same in
        record {
          laid = lay_all c l;
          layout =
              layout_map l (λ S i x. lowest_or_zero_map (both_see_is first second) x S) (lay_all c l)
              (lay_layout c (LowestOrZero (Says (both_see first second))) l
              (λ S i. centre_shown (both_see first second) S
              (any_shaped (pairs_wide pairs) n s.enough S i).rising));
          counted = omega (arith, z, w.past);
          used = w.past ∙ q;
          written =
              ap₂ (λ t u. t ++ u) is (ap₂ drop w.past w.now ∙ drop-append_seam b (drop (length b) out))
              ∙ ap (λ (k : ℕ). lay_all c l ++ drop k out) q;
        }
