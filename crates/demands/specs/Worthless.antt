-- 01, "How much each statement pins": "Three worthless programs are tried against the statements and found out by
-- demand 2: one that refuses everything, one that always returns the same cutting, one that writes nothing and
-- reports success. A program with invented counts fails there too." First by single calls, with every buffer of
-- enough room: a call of `desk` has lists of i32 and bytes only, so it is no `Program`, which takes every list. Then
-- as a theorem about every program of the kind. And since 02, K3, so is a program that keeps the strict rule for
-- centres.
use Rattle.std.specs.Prelude.{◌≡◌, refl, List, [], ◌∷◌, ◌++◌, ℕ, ◌≤◌, ◌<◌, ℤ, length, take, drop, get_or, replicate}
use Rattle.std.proofs.Common.{sym, ap, ◌∙◌, subst, inl, inr, append-nil, arith, take_at}
use Rattle.outline.specs.Drawing.{corners, Sees}
use Rattle.outline.specs.Tells.{failed}
use Rattle.outline.specs.Mirror.{sees_tells}
use Rattle.outline.specs.Outlines.{S, Z, H, straight}
use Rattle.rules.specs.Lists.{In}
use Rattle.rules.specs.Cutting.{Pairs, pieces, one}
use Rattle.rules.specs.Centre.{Layout, size, layout_size}
use Rattle.rules.specs.Plan.{Plan, stars}
use Rattle.rules.proofs.Valid.{first_unique}
use Rattle.rules.specs.Result.{Result, Carries, Given}
use Rattle.desk.specs.Answer.{Cut, plan, FirstCutting, Answers}
use Rattle.desk.specs.Unique.{answer_unique}
use Rattle.demands.specs.Outlines.{all_eight, s_with_s, z_with_h, h_with_h, rectangle}
use Rattle.demands.specs.Program.{Program, Meets, cutting, writing}

-- ---- what four rows of the table leave to a call
module _ (before : List ℕ) (r : Result) where
  s_s : 10 ≤ length before → Answers S S before r → r ≡ writing (cutting 1 (4 ∷ 0 ∷ 0 ∷ 1 ∷ 2 ∷ 3 ∷ [])) before
  s_s room a = answer_unique S S before r _ a (s_with_s before room)

  z_h : 20 ≤ length before → Answers Z H before r →
      r ≡ writing (cutting 2 (5 ∷ 0 ∷ 0 ∷ 1 ∷ 2 ∷ 3 ∷ 5 ∷ 3 ∷ 3 ∷ 3 ∷ 4 ∷ 5 ∷ [])) before
  z_h room a = answer_unique Z H before r _ a (z_with_h before room)

  h_h : 20 ≤ length before → Answers H H before r → r ≡ writing (cutting 1 (6 ∷ 0 ∷ 0 ∷ 1 ∷ 2 ∷ 3 ∷ 4 ∷ 5 ∷ [])) before
  h_h room a = answer_unique H H before r _ a (h_with_h before room)

  rectangle_is : 30 ≤ length before → Answers straight straight before r → r ≡ writing (cutting 1 all_eight) before
  rectangle_is room a = answer_unique straight straight before r _ a (rectangle before room)

abbrev number_of : Result → ℕ
number_of r = r.number

abbrev count_of : Result → ℕ
count_of r = r.count

abbrev first_byte : Result → ℕ
first_byte r = get_or r.after 0 0

-- ---- call by call
-- one that refuses is found out by S and S
pub refusing : (before : List ℕ) (r : Result) → 10 ≤ length before → 0 < r.number → ¬ Answers S S before r
refusing before r room lt a = omega (arith, lt, ap number_of (s_s before r room a))

-- one that writes nothing, by S and S
pub writing_nothing : (before : List ℕ) (r : Result) → 10 ≤ length before → ¬ (get_or before 0 0 ≡ 4) →
    r.after ≡ before →
    ¬ Answers S S before r
writing_nothing before r room n e a = n (ap (λ l. get_or l 0 0) (sym e) ∙ ap first_byte (s_s before r room a))

module _ (before before' : List ℕ) (r s : Result) where
  -- one that returns the same cutting, by Z and H, and H and H
  pub one_cutting : (C : Pairs) → 20 ≤ length before → 20 ≤ length before' → r.count ≡ length (pieces 6 C) →
      s.count ≡ length (pieces 6 C) → Answers Z H before r → ¬ Answers H H before' s
  one_cutting C room room' e g a b =
      omega (arith, e, g, ap count_of (z_h before r room a), ap count_of (h_h before' s room' b))

  -- one that writes the same bytes, by S and S, and Z and H, unless what it should write stands there already
  pub one_answer : (laid : List ℕ) → 10 ≤ length before → 20 ≤ length before' → ¬ (get_or before 0 0 ≡ 4) →
      r.after ≡ laid ++ drop (length laid) before → s.after ≡ laid ++ drop (length laid) before' →
      Answers S S before r → ¬ Answers Z H before' s
  one_answer [] room room' n e g a b = writing_nothing before r room n e a
  one_answer (x ∷ l) room room' n e g a b =
      omega (
        arith,
        ap first_byte (s_s before r room a),
        ap first_byte (z_h before' s room' b),
        ap (λ l. get_or l 0 0) e,
        ap (λ l. get_or l 0 0) g,
      )

-- ---- one that has the strict rule for centres too, by the rectangle: one piece of all eight corners has 0 for its
-- centre, and strictly 0 does not see 2
abbrev pub strict_plan : List ℤ → List ℤ → Plan
strict_plan first second = stars (Cut first second) (λ x y. Sees first x y × Sees second x y)

unseen : ¬ Sees straight 0 2
unseen = failed (sees_tells straight 0 2) tt

not_strict : (l : List (List ℕ)) (bytes : List ℕ) → Layout (strict_plan straight straight).centre l bytes →
    length l ≡ 1 → bytes ≡ all_eight → ⊥
not_strict [] bytes h e b = omega (arith, e)
not_strict (S ∷ []) bytes h e b =
    unseen (subst (λ x. Sees straight x 2) zero (h.2.centre.1 2 (subst (In 2) (sym all) (inr (inr (inl refl))))).0)
  where
    is : length S ∷ h.0 ∷ (S ++ h.1) ≡ all_eight
    is = sym h.3 ∙ b

    zero : h.0 ≡ 0
    zero = ap (λ l. get_or l 1 0) is

    all : S ≡ 0 ∷ 1 ∷ 2 ∷ 3 ∷ 4 ∷ 5 ∷ 6 ∷ 7 ∷ []
    all = sym (append-nil S) ∙ ap (λ l. S ++ l) (sym h.4) ∙ ap (drop 2) is
not_strict (S ∷ (Q ∷ l)) bytes h e b = omega (arith, e)

pub strict_centres : (before : List ℕ) (r : Result) → 30 ≤ length before →
    Given (strict_plan straight straight) 8 before r → ¬ Answers straight straight before r
strict_centres before r room g a =
    not_strict (pieces 8 g.cutting) c.laid c.layout (sym c.counted ∙ ap count_of is) laid_is
  where
    c : Carries (strict_plan straight straight).centre (pieces 8 g.cutting) before r
    c = g.carries

    is : r ≡ writing (cutting 1 all_eight) before
    is = rectangle_is before r room a

    ten : length c.laid ≡ 10
    ten = sym c.used ∙ ap (λ (q : Result). q.bytes) is

    laid_is : c.laid ≡ all_eight
    laid_is =
        sym (take_at c.laid (drop (length c.laid) before) 10 ten)
        ∙ ap (take 10) (sym c.written ∙ ap (λ (q : Result). q.after) is)
        ∙ take_at all_eight (drop 10 before) 10 refl

-- ---- one with invented counts, by any call: "pieces and bytes are those of the told run", and a refusal has none
module _ (first second : List ℤ) (before : List ℕ) (r : Result) (a : Answers first second before r) where
  pub told_counts : (C : Pairs) → FirstCutting first second C → r.number ≡ 0 →
      (r.count ≡ length (pieces (corners first) C)) × (r.bytes ≡ size (pieces (corners first) C))
  told_counts C f z =
      let p = plan first second in
      let g = a.given z in
      let e = first_unique p.cut p.piece one (corners first) g.cutting C g.is_first f in
      let c = g.carries in
      let s = layout_size p.centre (pieces (corners first) g.cutting) c.laid c.layout in
      (c.counted ∙ ap length e, c.used ∙ s ∙ ap size e)

  pub no_counts : 0 < r.number → (r.count ≡ 0) × (r.bytes ≡ 0)
  no_counts lt = let h = a.refused lt in (h.no_pieces, h.no_bytes)

-- ---- every program of the kind
abbrev blank : ℕ → List ℕ
blank n = replicate n 0

module _ (p : Program) where
  -- one that refuses everything
  pub refuses_everything : ((first second : List ℤ) (before : List ℕ) → 0 < (p first second before).number) → ¬ Meets p
  refuses_everything refuses m =
      refusing (blank 10) _ (omega arith) (refuses S S (blank 10)) (m.answers S S (blank 10))

  zero_z_h : Meets p → (p Z H (blank 20)).number ≡ 0
  zero_z_h m = ap number_of (z_h (blank 20) _ (omega arith) (m.answers Z H (blank 20)))

  -- one that always returns the same cutting: the pieces of one set of pairs
  pub same_cutting : (C : Pairs) →
      ((first second : List ℤ) (before : List ℕ) → (p first second before).number ≡ 0 →
      (p first second before).count ≡ length (pieces (corners first) C)) →
      ¬ Meets p
  same_cutting C same m =
      let z = ap number_of (h_h (blank 20) _ (omega arith) (m.answers H H (blank 20))) in
      one_cutting (blank 20) (blank 20) _ _ C (omega arith) (omega arith)
      (same Z H (blank 20) (zero_z_h m)) (same H H (blank 20) z)
      (m.answers Z H (blank 20)) (m.answers H H (blank 20))

  -- or the same bytes
  pub same_bytes : (laid : List ℕ) →
      ((first second : List ℤ) (before : List ℕ) → (p first second before).number ≡ 0 →
      (p first second before).after ≡ laid ++ drop (length laid) before) →
      ¬ Meets p
  same_bytes laid same m =
      let z = ap number_of (s_s (blank 10) _ (omega arith) (m.answers S S (blank 10))) in
      one_answer (blank 10) (blank 20) _ _ laid (omega arith) (omega arith) (λ e. omega (arith, e))
      (same S S (blank 10) z) (same Z H (blank 20) (zero_z_h m)) (m.answers S S (blank 10))
      (m.answers Z H (blank 20))

  -- one that writes nothing, whatever it reports
  pub writes_nothing : ((first second : List ℤ) (before : List ℕ) → (p first second before).after ≡ before) → ¬ Meets p
  writes_nothing nothing m =
      writing_nothing (blank 10) _ (omega arith) (λ e. omega (arith, e)) (nothing S S (blank 10))
      (m.answers S S (blank 10))

  -- one that has the strict rule for centres too, as 01 alone would have it
  pub strict_for_centres : ((first second : List ℤ) (before : List ℕ) → (p first second before).number ≡ 0 →
      Given (strict_plan first second) (corners first) before (p first second before)) →
      ¬ Meets p
  strict_for_centres strict m =
      let a = m.answers straight straight (blank 30) in
      strict_centres (blank 30) _ (omega arith)
      (strict straight straight (blank 30) (ap number_of (rectangle_is (blank 30) _ (omega arith) a))) a

  -- one with invented counts
  module _ (first second : List ℤ) (before : List ℕ) where
    pub invented_counts : (C : Pairs) → FirstCutting first second C → (p first second before).number ≡ 0 →
        ¬ (((p first second before).count ≡ length (pieces (corners first) C))
        × ((p first second before).bytes ≡ size (pieces (corners first) C))) →
        ¬ Meets p
    invented_counts C f z wrong m = wrong (told_counts first second before _ (m.answers first second before) C f z)

    pub invented_refusal : 0 < (p first second before).number →
        ¬ (((p first second before).count ≡ 0) × ((p first second before).bytes ≡ 0)) → ¬ Meets p
    invented_refusal lt wrong m = wrong (no_counts first second before _ (m.answers first second before) lt)
