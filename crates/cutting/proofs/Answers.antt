-- From the set that was found to the promise: the readings say what the caller's cells say, and the cells are what the
-- set says.
use mathlib.Core.Path.{◌≡◌, refl, sym, ap, subst, ◌∙◌}
use mathlib.Core.Bool.{Bool, true, false}
use mathlib.Core.Logic.{inl, inr, ◌↔◌}
use mathlib.Core.List.{List, ◌++◌}
use Prim.Native.Nat.{ℕ, ◌+◌, ◌-◌, ◌<◌, ◌≤◌}
use native.Mathlib.Omega.{arith}
use native.Mathlib.Decide.{dec_lt}
use lib.Dec.{T}
use lib.ListN.{length, get_or, take, drop, take-append-drop, get_or-eq_default, get_or-append}
use lib.Seq.{length-take-le, length_front, get_or-append-add, get_or-drop}
use Rattle.std.proofs.lemmas.List.{get_or-take}
use Rattle.limits.specs.Limits.{fewest_corners, most_corners, row, all_cells, place}
use Rattle.rules.specs.Cutting.{Pairs, Inner}
use Rattle.rules.specs.Cells.{cell, InBoth, marked, marked_cell, marked_same}
use Rattle.rules.specs.Plan.{stars, FirstBy}
use Rattle.rules.specs.Refusals.{FirstFailed}
use Rattle.rules.specs.Agree.{Agree, stars_agree}
use Rattle.rules.proofs.Agree.{valid_same, cuttable_same, first_same}
use Rattle.rules.specs.Ways.{Sees}
use Rattle.cutting.specs.declared.Refusal.{Refusal}
use Rattle.cutting.specs.declared.Refusal.TheVariants.{Unserved, NoCutting}
use Rattle.std.specs.Prelude.{Result, Ok, Err, Option, Some, None, IsSome, IsErr, IsErrAnd, MatchOption}
use Rattle.std.specs.Array.{IsFirstChunk}
use Rattle.std.specs.Option.{ok_or}
use Rattle.cutting.specs.Answer.{MayCut, plan, Served, asked, bit, Marks, number, Searches}
use Rattle.cutting.specs.Rows.{Cut, Read}
use Rattle.cutting.specs.Tracing.{Drawn, Finds}
use Rattle.cutting.proofs.Values.{clash}
use Rattle.cutting.proofs.Marking.{marked_says, ticks_marked}

-- ---- the readings
module _ {first second cuts veil : List ℕ} {n : ℕ} (read : Read first second cuts veil n n) where
  same_sight : (x y : ℕ) → x < n → y < n → Sees (cell veil) x y ↔ InBoth first second x y
  same_sight x y p q =
      let e = read.lane x y p q in
      ((λ z. (omega arith, omega arith)), λ s. omega (arith, s.0, s.1))

  same_cuts : (a b : ℕ) → Inner n a b → Cut cuts a b ↔ MayCut first second a b
  same_cuts a b i =
      let e = read.cut a b (omega (arith, i.rises, i.small)) i.small in
      ((λ c. (omega arith, omega arith)), λ s z. omega (arith, s.0, s.1))

  agree : Agree n (stars (Cut cuts) (Sees (cell veil))) (plan first second)
  agree = stars_agree same_cuts same_sight

  -- ---- the three ends
  pub searches_none : {before after : List ℕ} {r : Bool} → Served n first second before →
      Finds cuts veil n before after r → r ≡ false → Searches n first second before after (Err NoCutting)
  searches_none s f e = record {
    numbered = inr (s, inl ((λ c. f.no_set e c.0 ((valid_same agree c.0).1 c.1)), refl));
    kept = λ lt. f.kept e;
    found = λ z. absurd (omega (arith, z));
  }

  pub searches_found : {before after : List ℕ} {r : Bool} → Served n first second before →
      length before ≡ all_cells → Finds cuts veil n before after r → r ≡ true →
      Searches n first second before after (Ok tt)
  searches_found {before} {after} s size h e =
      let f = first_same agree (marked after) d.first in
      record {
        numbered = inr (s, inr ((marked after, f.valid), refl));
        kept = λ lt. absurd (omega (arith, lt));
        found = λ z. record {
          is_first = f;
          cells = λ a b ar br. is a b ar br (marked after a b) refl;
          size = d.ticks.size ∙ sym size;
          beyond = λ k h. past k h after d.ticks.size ∙ sym (past k h before size);
        };
      }
    where
      d : Drawn cuts veil n after
      d = h.some e

      past : (k : ℕ) → all_cells ≤ k → (l : List ℕ) → length l ≡ all_cells → get_or l k 0 ≡ 0
      past k h l e = get_or-eq_default l 0 {n = k} (omega arith)

      is : (a b : ℕ) → a < row → b < row → (m : Bool) → marked after a b ≡ m → cell after a b ≡ bit m
      is a b ar br true e = omega (arith, d.ticks.bits (place a b), (marked_says after a b (subst T (sym e) tt)).2)
      is a b ar br false e = zero (dec_lt 0 (cell after a b))
        where
          zero : Dec (0 < cell after a b) → cell after a b ≡ 0
          zero (no h) = omega arith
          zero (yes h) = absurd (subst T e (ticks_marked a b d.ticks ar br (λ k. omega arith)))

-- ---- the corners that were read are those that were asked
pub searches_as : {n m : ℕ} {first second before after : List ℕ} {r : Result Unit Refusal} → m ≡ n →
    Searches m first second before after r → Searches n first second before after r
searches_as {first} {second} {before} {after} {r} e s =
    subst (λ (k : ℕ). Searches k first second before after r) e s

pub served_as : {n m : ℕ} {first second before : List ℕ} → m ≡ n → Served n first second before →
    Served m first second before
served_as {first} {second} {before} e s = subst (λ (k : ℕ). Served k first second before) (sym e) s

pub searches_not : {n : ℕ} {first second before : List ℕ} → ¬ Served n first second before →
    Searches n first second before before (Err Unserved)
searches_not h = record { numbered = inl (h, refl); kept = λ lt. refl; found = λ z. absurd (omega (arith, z)) }

-- ---- the first cells are read and searched into, the rest stays
pub served_part : {n : ℕ} {first second before : List ℕ} → Served n first second before →
    Served n (take all_cells first) (take all_cells second) (take all_cells before)
served_part {first} {second} {before} s = record {
  fewest = s.fewest;
  most = s.most;
  first_cells = omega (arith, length-take-le all_cells first s.first_cells);
  second_cells = omega (arith, length-take-le all_cells second s.second_cells);
  pairs_cells = omega (arith, length-take-le all_cells before s.pairs_cells);
}

-- the cells of n corners are among the first
part_agrees : {n : ℕ} (first second : List ℕ) → n ≤ row →
    Agree n (plan (take all_cells first) (take all_cells second)) (plan first second)
part_agrees {n} first second small = stars_agree cuts same
  where
    read : (t : List ℕ) (x y : ℕ) → x < n → y < n → cell (take all_cells t) x y ≡ cell t x y
    read t x y p q = get_or-take all_cells t (place x y) 0 (omega arith)

    cuts : (a b : ℕ) → Inner n a b →
        MayCut (take all_cells first) (take all_cells second) a b ↔ MayCut first second a b
    cuts a b i =
        let e = read first a b (omega (arith, i.rises, i.small)) i.small in
        let f = read second a b (omega (arith, i.rises, i.small)) i.small in
        ((λ s. (omega (arith, s.0), omega (arith, s.1))), λ s. (omega (arith, s.0), omega (arith, s.1)))

    same : (x y : ℕ) → x < n → y < n →
        InBoth (take all_cells first) (take all_cells second) x y ↔ InBoth first second x y
    same x y p q =
        let e = read first x y p q in
        let f = read second x y p q in
        ((λ s. (omega (arith, s.0), omega (arith, s.1))), λ s. (omega (arith, s.0), omega (arith, s.1)))

pub searches_part : {n : ℕ} {first second before part : List ℕ} {r : Result Unit Refusal} →
    Served n first second before →
    Searches n (take all_cells first) (take all_cells second) (take all_cells before) part r →
    Searches n first second before (part ++ drop all_cells before) r
searches_part {n} {first} {second} {before} {part} {r} s p = record {
  numbered = lines p.numbered;
  kept = λ lt. ap (λ (l : List ℕ). l ++ drop all_cells before) (p.kept lt) ∙ take-append-drop all_cells before;
  found = λ z. marks (p.found z);
}
  where
    whole : length (take all_cells before) ≡ all_cells
    whole = length-take-le all_cells before s.pairs_cells

    size : length part ≡ all_cells
    size = go (dec_lt 0 (number r))
      where
        go : Dec (0 < number r) → length part ≡ all_cells
        go (yes lt) = ap length (p.kept lt) ∙ whole
        go (no nl) = (p.found (omega arith)).size ∙ whole

    agree : Agree n (plan (take all_cells first) (take all_cells second)) (plan first second)
    agree = part_agrees first second s.most

    lines : FirstFailed (asked n (take all_cells first) (take all_cells second) (take all_cells before)) (number r) →
        FirstFailed (asked n first second before) (number r)
    lines (inl f) = absurd (f.0 (served_part s))
    lines (inr (t, inl (f, e))) = inr (s, inl ((λ c. f ((cuttable_same agree).1 c)), e))
    lines (inr (t, inr (c, e))) = inr (s, inr ((cuttable_same agree).0 c, e))

    front : (k : ℕ) → k < all_cells → get_or (part ++ drop all_cells before) k 0 ≡ get_or part k 0
    front k h = get_or-append part (drop all_cells before) 0 k (omega (arith, size))

    same : marked (part ++ drop all_cells before) ≡ marked part
    same =
        marked_same (part ++ drop all_cells before) (marked part)
        (λ a b. marked_cell (part ++ drop all_cells before) part a b (λ w q. front (place a b) (omega arith)))

    behind : (k : ℕ) → all_cells ≤ k → get_or (part ++ drop all_cells before) k 0 ≡ get_or before k 0
    behind k h =
        let e : length part + (k - all_cells) ≡ k = omega (arith, size) in
        let f : all_cells + (k - all_cells) ≡ k = omega arith in
        subst (λ (m : ℕ). get_or (part ++ drop all_cells before) m 0 ≡ get_or before k 0) e
        (get_or-append-add part (drop all_cells before) (k - all_cells) 0
        ∙ get_or-drop all_cells before (k - all_cells) 0
        ∙ ap (λ (m : ℕ). get_or before m 0) f)

    marks : Marks n (take all_cells first) (take all_cells second) (take all_cells before) part →
        Marks n first second before (part ++ drop all_cells before)
    marks m = record {
      is_first =
          subst (λ (C : Pairs). FirstBy (plan first second) n C) (sym same)
          (first_same agree (marked part) m.is_first);
      cells = λ a b ar br.
          front (place a b) (omega arith) ∙ m.cells a b ar br ∙ ap (λ (C : Pairs). bit (C a b)) (sym same);
      size = length_front before part all_cells m.size;
      beyond = behind;
    }

-- ---- an array that is short is not served
pub searches_short : {A : Type 0} {n : ℕ} {first second before : List ℕ} (o : Option A) (r : Result A Refusal)
    (e : Refusal) (Gives : Refusal → Type 0) (out : Result Unit Refusal) → r ≡ ok_or o Unserved → r ≡ Err e →
    IsErr out × IsErrAnd out Gives → ((z : Refusal) → Gives z → z ≡ e) → (m : ℕ) → IsSome o ↔ (all_cells ≤ m) →
    (Served n first second before → all_cells ≤ m) → Searches n first second before before out
searches_short {n} {first} {second} {before} None r e Gives (Err z) v w g id m some h =
    let k : z ≡ e = id z g.1 in
    let q : Unserved ≡ z = cc in
    subst (λ (y : Refusal). Searches n first second before before (Err y)) q
    (searches_not (λ s. clash (sym (some.1 (h s)))))
searches_short None r e Gives (Ok u) v w g id m some h = absurd cc
searches_short (Some x) r e Gives out v w g id m some h = absurd cc

-- ---- an array that is whole has its first cells
pub chunk_of : {A : Type 0} (P : A → Type 0) (N : Type 0) (o : Option A) (r : Result A Refusal) (x : A) →
    r ≡ ok_or o Unserved → r ≡ Ok x → MatchOption o N P → P x
chunk_of P N None r x v w m = absurd cc
chunk_of P N (Some y) r x v w m = let e : y ≡ x = cc in subst P e m

module _ {n : ℕ} {first second before first' second' before' : List ℕ} (three : fewest_corners ≤ n)
    (most : n ≤ most_corners) (f : IsFirstChunk first first' all_cells) (s : IsFirstChunk second second' all_cells)
    (b : IsFirstChunk before before' all_cells) where
  served : Served n first second before
  served = record {
    fewest = three;
    most = most;
    first_cells = f.enough;
    second_cells = s.enough;
    pairs_cells = b.enough;
  }

  pub served_chunks : Served n first' second' before'
  served_chunks = rw (f.same, s.same, b.same) (served_part served)

  pub searches_chunks : {part : List ℕ} {r : Result Unit Refusal} → Searches n first' second' before' part r →
      Searches n first second before (part ++ drop all_cells before) r
  searches_chunks {part} {r} p = searches_part served (rw (f.same, s.same, b.same) at p)
