-- Demand 3 on given drawings, computed: for each of its three parts worked instances, and for each condition an
-- instance that is without it and has another answer, so that a reader sees why it is there. Two tables, each with
-- one computed test.
use Rattle.std.specs.Prelude.{◌≡◌, refl, Bool, not, ◌&&◌, ℕ, ◌≤◌, T, eqb, ℤ, pos, negsuc, length, take}
use Rattle.std.proofs.Common.{sym, ◌∙◌, ap, inl, arith, take_at}
use mathlib.Core.List.{List, [], ◌∷◌, flat_map}
use Rattle.std.specs.Int.Signed.{lt_z_yes}
use Rattle.outline.specs.Tells.{failed, itself, and_tells, eq_tells}
use Rattle.outline.specs.Outlines.{S, D, E, Z, H, crossing, backwards, straight}
use Rattle.rules.specs.Lists.{In}
use Rattle.rules.specs.Result.{Result}
use Rattle.desk.specs.Answer.{Answers}
use Rattle.demands.specs.Entered.{exchanged, Rule, send, move, turned_by}
use Rattle.demands.specs.Program.{refusal, writing}
use Rattle.demands.specs.Outlines.{all_eight}
use Rattle.demands.specs.Checks.{every, every_passes}
use Rattle.demands.specs.Rows.{Case, given, refused, Rooms, Comes, bytes_test}
use Rattle.demands.specs.Rows.{bytes_tells, case_test, case_comes, case_only}

-- a pair of drawings and its answer; the pair that is made of it, and its answer
abbrev pub Sample : Type 0
Sample = Case × Case

-- ---- whole-number rules; negsuc n is -(n+1)
-- (x,y) to (x+2y, y)
abbrev shear : Rule
shear = record { a = pos 1; b = pos 2; c = pos 0; d = pos 1; e = pos 0; f = pos 0; above = lt_z_yes tt }

-- a quarter turn, three times as large, and moved: (x,y) to (-3y+5, 3x-1)
abbrev quarter : Rule
quarter = record { a = pos 0; b = negsuc 2; c = pos 3; d = pos 0; e = pos 5; f = negsuc 0; above = lt_z_yes tt }

-- Z, whose coordinates go up to 10, just stays in the limits with the one and not with the other
abbrev large : Rule
large = record { a = pos 100000; b = pos 0; c = pos 0; d = pos 100000; e = pos 0; f = pos 0; above = lt_z_yes tt }

abbrev too_large : Rule
too_large = record { a = pos 100001; b = pos 0; c = pos 0; d = pos 100001; e = pos 0; f = pos 0; above = lt_z_yes tt }

-- to the right by 999,998 and back: S does not bear that, it reaches from 999,998 to 1,000,002
abbrev away : Rule
away = record { a = pos 1; b = pos 0; c = pos 0; d = pos 1; e = pos 999998; f = pos 0; above = lt_z_yes tt }

abbrev home : Rule
home = record { a = pos 1; b = pos 0; c = pos 0; d = pos 1; e = negsuc 999997; f = pos 0; above = lt_z_yes tt }

abbrev pub far : List ℤ
far = move away S

-- ---- and maps that are none: ad-bc is -1, (x,y) to (-x, y); and 0, (x,y) to (x+y, x+y)
abbrev mirrored : List ℤ → List ℤ
mirrored = send (negsuc 0) (pos 0) (pos 0) (pos 1) (pos 0) (pos 0)

abbrev flattened : List ℤ → List ℤ
flattened = send (pos 1) (pos 1) (pos 1) (pos 1) (pos 0) (pos 0)

-- the bytes of Z and H: the cut 3-5
abbrev cut_3_5 : List ℕ
cut_3_5 = 5 ∷ 0 ∷ 0 ∷ 1 ∷ 2 ∷ 3 ∷ 5 ∷ 3 ∷ 3 ∷ 3 ∷ 4 ∷ 5 ∷ []

-- ---- what is promised
abbrev pub promised : List Sample
promised =
    -- exchange: both sound; just one unsound, 5 becomes 8
    (given Z H 20 2 cut_3_5, given H Z 20 2 cut_3_5)
    ∷ (refused backwards S 10 5, refused S backwards 10 8)
    -- rules: Z sheared; H turned; Z up to the limits; a refusal stays, of one drawing (4), of both (9), and where a
    -- coordinate is out of range before and after (3)
    ∷ (given Z H 20 2 cut_3_5, given (move shear Z) H 20 2 cut_3_5)
    ∷ (given Z H 20 2 cut_3_5, given Z (move quarter H) 20 2 cut_3_5)
    ∷ (given Z H 20 2 cut_3_5, given (move large Z) H 20 2 cut_3_5)
    ∷ (refused crossing S 10 4, refused (move shear crossing) S 10 4)
    ∷ (refused D E 10 9, refused (move quarter D) E 10 9)
    ∷ (refused far S 10 3, refused (move quarter far) S 10 3)
    -- renumbering, by two corners: as many pieces and bytes; a refusal stays
    ∷ (
      given Z H 20 2 cut_3_5,
      given (turned_by 2 Z) (turned_by 2 H) 20 2 (5 ∷ 1 ∷ 0 ∷ 1 ∷ 2 ∷ 4 ∷ 5 ∷ 3 ∷ 2 ∷ 2 ∷ 3 ∷ 4 ∷ []),
    )
    ∷ (refused D E 10 9, refused (turned_by 2 D) (turned_by 2 E) 10 9)
    -- a centre that sees along straight corners (02, K3): under a rule, and renumbered
    ∷ (given straight straight 30 1 all_eight, given (move quarter straight) straight 30 1 all_eight)
    ∷ (given straight straight 30 1 all_eight, given (turned_by 1 straight) (turned_by 1 straight) 30 1 all_eight)
    ∷ []

-- ---- what is not, and does not hold
abbrev pub unpromised : List Sample
unpromised =
    -- exchange, both unsound: each order reports the drawing that stands first, 3 becomes 4
    (refused far crossing 10 3, refused crossing far 10 4)
    -- maps that are no rules: a mirror, 5 and 8; a flattening, 4 and 7
    ∷ (given Z H 20 2 cut_3_5, refused (mirrored Z) H 20 5)
    ∷ (given H Z 20 2 cut_3_5, refused H (mirrored Z) 20 8)
    ∷ (given Z H 20 2 cut_3_5, refused (flattened Z) H 20 4)
    ∷ (given H Z 20 2 cut_3_5, refused H (flattened Z) 20 7)
    -- rules: out of the limits after, 3 and 6; and before
    ∷ (given Z H 20 2 cut_3_5, refused (move too_large Z) H 20 3)
    ∷ (given H Z 20 2 cut_3_5, refused H (move too_large Z) 20 6)
    ∷ (refused far S 10 3, given (move home far) S 10 1 (4 ∷ 0 ∷ 0 ∷ 1 ∷ 2 ∷ 3 ∷ []))
    -- renumbering: just one of the drawings, 9; with less room, 2
    ∷ (given D D 10 1 (4 ∷ 0 ∷ 0 ∷ 1 ∷ 2 ∷ 3 ∷ []), refused D (turned_by 1 D) 10 9)
    ∷ (given S S 10 1 (4 ∷ 0 ∷ 0 ∷ 1 ∷ 2 ∷ 3 ∷ []), refused (turned_by 1 S) (turned_by 1 S) 9 2)
    -- both, by one corner: as many pieces and bytes, and other bytes. The cut is 1-3, by the old numbers 0-2
    ∷ (
      given Z H 20 2 cut_3_5,
      given (turned_by 1 Z) (turned_by 1 H) 20 2 (5 ∷ 0 ∷ 0 ∷ 1 ∷ 3 ∷ 4 ∷ 5 ∷ 3 ∷ 1 ∷ 1 ∷ 2 ∷ 3 ∷ []),
    )
    ∷ []

-- ---- the tests
abbrev both_test : Sample → Bool
both_test s = case_test s.0 && case_test s.1

abbrev same_test : Sample → Bool
same_test s = eqb s.0.answer.number s.1.answer.number && bytes_test s.0.answer.laid s.1.answer.laid

abbrev other_test : Sample → Bool
other_test s = both_test s && not (same_test s)

both_come : (s : Sample) → T (both_test s) → Comes s.0 × Comes s.1
both_come s h =
    let p = (and_tells (itself (case_test s.0)) (itself (case_test s.1))).sure h in
    (case_comes s.0 p.0, case_comes s.1 p.1)

other_parts : (s : Sample) → T (other_test s) → T (both_test s) × T (not (same_test s))
other_parts s = (and_tells (itself (both_test s)) (itself (not (same_test s)))).sure

promised_pass : T (every both_test promised)
unfolding flat_map
promised_pass = tt

unpromised_pass : T (every other_test unpromised)
unfolding flat_map
unpromised_pass = tt

-- ---- both answers of each sample are the answers, with every buffer of the case's room
pub promised_hold : (s : Sample) → In s promised → Comes s.0 × Comes s.1
promised_hold s i = both_come s (every_passes both_test promised promised_pass s i)

pub unpromised_hold : (s : Sample) → In s unpromised → Comes s.0 × Comes s.1
unpromised_hold s i = both_come s (other_parts s (every_passes other_test unpromised unpromised_pass s i)).0

-- ---- where nothing is promised no result answers both
pub unpromised_differ : (s : Sample) → In s unpromised → (before before' : List ℕ) →
    Rooms s.0 (length before) → Rooms s.1 (length before') →
    (x : Result) → Answers s.0.first s.0.second before x → ¬ Answers s.1.first s.1.second before' x
unpromised_differ s i before before' m m' x a b =
    failed (and_tells (eq_tells _ _) (bytes_tells s.0.answer.laid s.1.answer.laid))
    (other_parts s (every_passes other_test unpromised unpromised_pass s i)).1 (ap (λ r. r.number) same, laid_is)
  where
    hold : Comes s.0 × Comes s.1
    hold = unpromised_hold s i

    same : writing s.0.answer before ≡ writing s.1.answer before'
    same = sym (case_only s.0 hold.0 before m x a) ∙ case_only s.1 hold.1 before' m' x b

    laid_is : s.0.answer.laid ≡ s.1.answer.laid
    laid_is =
        let n = length s.0.answer.laid in
        sym (take_at s.0.answer.laid _ n refl)
        ∙ ap (λ r. take n r.after) same
        ∙ take_at s.1.answer.laid _ n (sym (ap (λ r. r.bytes) same))

-- and an exchange of two unsound drawings does not change the number as one of a sound and an unsound drawing does
pub both_unsound : (before : List ℕ) → 10 ≤ length before → (x y : Result) →
    Answers far crossing before x → Answers crossing far before y → ¬ (y.number ≡ exchanged x.number)
both_unsound before m x y a b w =
    omega (arith, sym (ap (λ r. r.number) crossing_first) ∙ w ∙ ap (λ r. exchanged r.number) far_first)
  where
    hold : Comes (refused far crossing 10 3) × Comes (refused crossing far 10 4)
    hold = unpromised_hold _ (inl refl)

    far_first : x ≡ writing (refusal 3) before
    far_first = case_only (refused far crossing 10 3) hold.0 before m x a

    crossing_first : y ≡ writing (refusal 4) before
    crossing_first = case_only (refused crossing far 10 4) hold.1 before m y b
