-- Demands 1 and 2, sentence by sentence, as theorems about the answer.
-- (1) "Every pair handed in, however broken, gets a cutting or one of the numbered refusals of document 01. .. A
-- refusal reports no pieces and no bytes used, and alters nothing in the answer buffer."
-- (2) ".. an accepted cutting is valid in both drawings, no valid cutting has fewer pieces, and among those with as
-- few it is the one that document 01 puts first. Given enough room, "no common cutting" is said exactly when both
-- drawings are sound, with equally many corners, and no valid cutting exists."
-- 02, K3: "Demands 2 and 3 read the two kinds of sight from here on": what is valid has cuts by the strict rule and
-- centres by their own, as desk's statement has them.
use Rattle.std.specs.Prelude.{◌≡◌, refl, ◌⊎◌, ◌↔◌, List, [], ◌∷◌, ℕ, ◌≤◌, ℤ, length}
use Rattle.std.proofs.Common.{sym, subst, inl, inr, arith}
use Rattle.limits.specs.Limits.{Roomy}
use Rattle.outline.specs.Drawing.{corners, Sound, Sees}
use Rattle.outline.specs.InOrOn.{CentreSees}
use Rattle.pair.specs.Pair.{Alike, of_drawings}
use Rattle.pair.specs.Passing.{equally_many}
use Rattle.pair.proofs.Passing.{sound_pair, drawings_hold}
use Rattle.rules.specs.Lists.{In, rise_in}
use Rattle.rules.specs.Cutting.{Pairs, pieces, run, Less}
use Rattle.rules.specs.Centre.{HasCentre}
use Rattle.rules.specs.Trees.{weight_one}
use Rattle.rules.specs.Valid.{valid_map}
use Rattle.rules.specs.Agree.{has_centre_map}
use Rattle.rules.specs.Refusals.{FirstFailed, Hold, failed_unique, put_in, among}
use Rattle.rules.specs.Plan.{ValidBy, Cuttable}
use Rattle.rules.specs.Result.{Result, Refused, Given}
use Rattle.desk.specs.Answer.{InBoth, Cut, plan, ValidCutting, of_cutting, asked, Answers}
use Rattle.demands.specs.Lines.{earlier, earlier_hold, given_alike}
use Rattle.demands.specs.Mirror.{computed, computed_meets}

-- "both drawings are sound, with equally many corners"
pub record BothSound (first second : List ℤ) : Type 0 where
  pub first_sound : Sound first
  pub second_sound : Sound second
  pub equally_many : corners first ≡ corners second

-- "a valid cutting exists"
abbrev pub CuttingExists : List ℤ → List ℤ → Type 0
CuttingExists first second = Cuttable (plan first second) (corners first)

-- "the numbered refusals of document 01"
abbrev pub refusals : List ℕ
refusals = 1 ∷ 2 ∷ 3 ∷ 4 ∷ 5 ∷ 6 ∷ 7 ∷ 8 ∷ 9 ∷ []

-- ---- where both are sound and the room is enough, the last line decides; and only there
pub last_decides : (first second : List ℤ) (room k : ℕ) → BothSound first second → Roomy (corners first) room →
    FirstFailed (of_cutting first second) k → FirstFailed (asked first second room) k
last_decides first second room k b roomy =
    put_in (earlier first second room) (of_cutting first second) k (alike, (roomy, drawings))
  where
    drawings : Hold (of_drawings first second)
    drawings = drawings_hold first second b.first_sound b.second_sound

    alike : Alike first second
    alike =
        let s = b.first_sound.shaped in
        let t = b.second_sound.shaped in
        let e = b.equally_many in
        record { even = s.even; same = omega arith; enough = s.enough; few = s.few }

both_sound : (first second : List ℤ) (room : ℕ) → Hold (earlier first second room) → BothSound first second
both_sound first second room h =
    let p = sound_pair first second (h.0, h.1.1) in
    let a = h.0 in
    record { first_sound = p.first_sound; second_sound = p.second_sound; equally_many = omega arith }

-- ---- what is valid of two drawings is valid of each alone
module _ (first second d : List ℤ) (many : corners d ≡ corners first)
    (strict : (a b : ℕ) → Sees first a b × Sees second a b → Sees d a b)
    (centre : (x y : ℕ) → InBoth first second x y → CentreSees d x y) where
  in_each : (C : Pairs) → ValidCutting first second C → ValidCutting d d C
  in_each C valid =
      subst (λ n. ValidBy (plan d d) n C) (sym many)
      (valid_map (corners first) (Cut first second) (Cut d d) (HasCentre (InBoth first second))
      (HasCentre (InBoth d d)) C
      (record {
        cuts = λ a b i c. (twice (strict a b c.0), twice (strict b a c.1));
        lists = λ S r small three. has_centre_map (λ x y h g s. twice (centre x y s)) S small;
      }) valid)
    where
      twice : {P : Type 0} → P → P × P
      twice p = (p, p)

-- ---- demand 1
-- "Every pair handed in, however broken, gets ..": there is an answer for every pair of lists and every buffer (and
-- only one: desk's `answer_unique`)
pub every_pair : (first second : List ℤ) (before : List ℕ) → (r : Result) × Answers first second before r
every_pair first second before = (computed first second before, computed_meets.answers first second before)

module _ (first second : List ℤ) (before : List ℕ) (r : Result) (a : Answers first second before r) where
  -- ".. a cutting or one of the numbered refusals of document 01"
  pub cutting_or_refusal : ((r.number ≡ 0) × Given (plan first second) (corners first) before r)
      ⊎ (In r.number refusals × Refused before r)
  cutting_or_refusal = go (among (asked first second (length before)) r.number a.numbered)
    where
      go : (r.number ≡ 0) ⊎ In r.number refusals →
          ((r.number ≡ 0) × Given (plan first second) (corners first) before r)
          ⊎ (In r.number refusals × Refused before r)
      go (inl z) = inl (z, a.given z)
      go (inr i) = inr (i, a.refused (rise_in 0 9 refusals (omega arith) r.number i).0)

  -- "A refusal reports no pieces and no bytes used, and alters nothing in the answer buffer."
  pub a_refusal : ¬ (r.number ≡ 0) → (r.count ≡ 0) × (r.bytes ≡ 0) × (r.after ≡ before)
  a_refusal n = let h = a.refused (omega arith) in (h.no_pieces, h.no_bytes, h.kept)

  -- ---- demand 2
  -- what is accepted: the number is 0
  module _ (z : r.number ≡ 0) where
    abbrev accepted : Pairs
    accepted = (a.given z).cutting

    -- "an accepted cutting is valid in both drawings"
    pub accepted_valid : ValidCutting first second accepted
    accepted_valid = (a.given z).is_first.valid

    -- and so in each of them alone
    pub accepted_in_each : ValidCutting first first accepted × ValidCutting second second accepted
    accepted_in_each = (
      in_each first second first refl (λ a b s. s.0) (λ x y s. s.0) accepted accepted_valid,
      in_each first second second (equally_many (given_alike first second (length before) r.number z a.numbered))
          (λ a b s. s.1) (λ x y s. s.1) accepted accepted_valid,
    )

    module _ (D : Pairs) (valid : ValidCutting first second D) where
      fewest : length (pieces (corners first) accepted) ≤ length (pieces (corners first) D)
      fewest =
          omega (
            arith,
            (a.given z).is_first.least D valid,
            weight_one (pieces (corners first) accepted),
            weight_one (pieces (corners first) D),
          )

      -- "no valid cutting has fewer pieces"
      pub no_fewer : r.count ≤ length (pieces (corners first) D)
      no_fewer = omega (arith, (a.given z).carries.counted, fewest)

      -- "and among those with as few it is the one that document 01 puts first"
      pub comes_first : length (pieces (corners first) D) ≡ r.count →
          (pieces (corners first) accepted ≡ pieces (corners first) D)
          ⊎ Less (run (corners first) accepted) (run (corners first) D)
      comes_first e =
          (a.given z).is_first.first D valid
          (omega (
            arith,
            e,
            (a.given z).carries.counted,
            weight_one (pieces (corners first) accepted),
            weight_one (pieces (corners first) D),
          ))

  -- "Given enough room"
  module _ (roomy : Roomy (corners first) (length before)) where
    -- "no common cutting" is said exactly when both drawings are sound, with equally many corners, and no valid
    -- cutting exists
    pub nine_exactly : (r.number ≡ 9) ↔ (BothSound first second × ¬ CuttingExists first second)
    nine_exactly = (there, back)
      where
        there : r.number ≡ 9 → BothSound first second × ¬ CuttingExists first second
        there e =
            let h = earlier_hold first second (length before) r.number (inr e) a.numbered in
            (both_sound first second (length before) h.0, none h.1)
          where
            none : FirstFailed (of_cutting first second) r.number → ¬ CuttingExists first second
            none (inl f) = f.0
            none (inr f) = absurd (omega (arith, f.1, e))

        back : BothSound first second × ¬ CuttingExists first second → r.number ≡ 9
        back h =
            failed_unique (asked first second (length before)) r.number 9 a.numbered
            (last_decides first second (length before) 9 h.0 roomy (inl (h.1, refl)))

    -- and a cutting is given exactly when one exists
    pub given_exactly : (r.number ≡ 0) ↔ (BothSound first second × CuttingExists first second)
    given_exactly = (there, back)
      where
        there : r.number ≡ 0 → BothSound first second × CuttingExists first second
        there z =
            let h = earlier_hold first second (length before) r.number (inl z) a.numbered in
            (both_sound first second (length before) h.0, (accepted z, accepted_valid z))

        back : BothSound first second × CuttingExists first second → r.number ≡ 0
        back h =
            failed_unique (asked first second (length before)) r.number 0 a.numbered
            (last_decides first second (length before) 0 h.0 roomy (inr (h.1, refl)))
