-- Demand 3, the first part: exchanging the drawings. Where both are sound the answer is the same: number, counts and
-- every byte. Where one is sound and the other need not be, 3, 4, 5 turn into 6, 7, 8 and back, and all else is the
-- same. 01, "What comes back": "exchanging the drawings turns 3, 4, 5 into 6, 7, 8 when just one drawing is unsound;
-- with both unsound nothing is said."
use Rattle.std.specs.Prelude.{◌≡◌, refl, Bool, true, false, cond, ◌⊎◌, ◌↔◌, List, [], ◌∷◌, ◌++◌, ℕ, ◌+◌, ◌-◌, ◌≤◌, ◌<◌, ltb, ℤ, length}
use Rattle.std.proofs.Common.{ap, arith, ltb-false}
use Rattle.std.proofs.Math.Logic.{⊎_map}
use Rattle.std.proofs.Math.Decide.{dec_lt}
use Rattle.limits.specs.Limits.{Roomy}
use Rattle.outline.specs.Drawing.{corners, Sound}
use Rattle.pair.specs.Pair.{Alike, of_drawing}
use Rattle.pair.proofs.Passing.{sound_hold}
use Rattle.rules.specs.Refusals.{Line, line, FirstFailed, SameAsked, end, same, same_failed}
use Rattle.rules.specs.Result.{Result}
use Rattle.desk.specs.Answer.{of_cutting, asked, Answers}
use Rattle.desk.specs.Unique.{answer_unique}
use Rattle.demands.specs.Entered.{exchanged, exchanged_result}
use Rattle.demands.specs.Lines.{given_alike, under, either_first, other_numbers}
use Rattle.demands.specs.SameAnswer.{SameJudged, same_judged, judged, SameSight}
use Rattle.demands.specs.SameAnswer.{same_cuttable, given_too, same_answer}
use Rattle.demands.specs.Program.{Program, Meets}

-- ---- the two drawings exchanged
alike_exchanged : (first second : List ℤ) → Alike first second → Alike second first
alike_exchanged first second a = omega arith

sight_exchanged : (first second : List ℤ) → Alike first second → SameSight first second second first
sight_exchanged first second a = record {
  many = omega arith;
  cuts = λ x y h g. (
    λ s. ((s.0.1, s.0.0), (s.1.1, s.1.0)),
    λ s. ((s.0.1, s.0.0), (s.1.1, s.1.0)),
  );
  seen = λ x y h g. (λ s. (s.1, s.0), λ s. (s.1, s.0));
}

sound_judged : (d d' : List ℤ) → Sound d → Sound d' → SameJudged d d'
sound_judged d d' s s' = record {
  in_range = (λ _. s'.in_range, λ _. s.in_range);
  simple = (λ _. s'.simple, λ _. s.simple);
  anticlockwise = (λ _. s'.anticlockwise, λ _. s.anticlockwise);
}

-- ---- both drawings sound: the same answer
pub exchange : (first second : List ℤ) → Sound first → Sound second → (before : List ℕ) (r : Result) →
    Answers first second before r → Answers second first before r
exchange first second sound_first sound_second before r =
    (same_answer first second second first (alike_exchanged first second, alike_exchanged second first)
    (λ a. record {
      judged_first = sound_judged first second sound_first sound_second;
      judged_second = sound_judged second first sound_second sound_first;
      sight = sight_exchanged first second a;
    }) before r).0

-- so whatever is given for the one order is given for the other, and by every program that meets the statement
pub exchange_results : (first second : List ℤ) (before : List ℕ) (r s : Result) → Sound first → Sound second →
    Answers first second before r → Answers second first before s → s ≡ r
exchange_results first second before r s sound_first sound_second h g =
    answer_unique second first before s r g (exchange first second sound_first sound_second before r h)

pub exchange_program : (p : Program) → Meets p → (first second : List ℤ) (before : List ℕ) →
    Sound first → Sound second →
    p second first before ≡ p first second before
exchange_program p m first second before sound_first sound_second =
    exchange_results first second before _ _ sound_first sound_second
    (m.answers first second before) (m.answers second first before)

-- ---- one drawing sound: the number is exchanged, and 0 stays 0
only_zero : (k : ℕ) → exchanged k ≡ 0 → k ≡ 0
only_zero k = low (ltb k 3)
  where
    high : (b : Bool) → 6 ≤ k → cond b (k - 3) k ≡ 0 → k ≡ 0
    high true h e = omega arith
    high false h e = e

    middle : (b : Bool) → ltb k 6 ≡ b → cond b (k + 3) (cond (ltb k 9) (k - 3) k) ≡ 0 → k ≡ 0
    middle true t e = omega arith
    middle false t e = high (ltb k 9) (ltb-false k 6 t) e

    low : (b : Bool) → cond b k (cond (ltb k 6) (k + 3) (cond (ltb k 9) (k - 3) k)) ≡ 0 → k ≡ 0
    low true e = e
    low false e = middle (ltb k 6) refl e

module _ (first second : List ℤ) where
  -- the table with the numbers exchanged, the second drawing's lines before the first's
  abbrev between : ℕ → List Line
  between room =
      line 1 (Alike first second) ∷ line 2 (Roomy (corners first) room)
      ∷ (of_drawing 3 4 5 second ++ (of_drawing 6 7 8 first ++ of_cutting first second))

  -- asks what is asked of the drawings exchanged
  between_asked : (room : ℕ) → SameAsked (between room) (asked second first room)
  between_asked room =
      same (alike_exchanged first second, alike_exchanged second first) (λ a.
      let fits : Roomy (corners first) room ↔ Roomy (corners second) room = (omega arith, omega arith) in
      same fits (λ _. judged 3 4 5 (same_judged second) (judged 6 7 8 (same_judged first)
      (same (same_cuttable first second second first (sight_exchanged first second a)) (λ _. end)))))

  number_exchanged : Sound first ⊎ Sound second → (room k : ℕ) →
      FirstFailed (asked first second room) k → FirstFailed (asked second first room) (exchanged k)
  number_exchanged sound room k f =
      let l = of_drawing 6 7 8 first in
      let m = of_drawing 3 4 5 second in
      let r = of_cutting first second in
      let h = ⊎_map (sound_hold 6 7 8 first) (sound_hold 3 4 5 second) sound in
      same_failed (between_asked room) (exchanged k)
      (under (line 1 (Alike first second) ∷ line 2 (Roomy (corners first) room) ∷ [])
      (l ++ (m ++ r)) (m ++ (l ++ r)) (exchanged k)
      (either_first l m r (exchanged k) h) (other_numbers exchanged refl (asked first second room) k f))

  pub exchange_one : Sound first ⊎ Sound second → (before : List ℕ) (r : Result) →
      Answers first second before r → Answers second first before (exchanged_result r)
  exchange_one sound before r h = record {
    numbered = number_exchanged sound (length before) r.number h.numbered;
    refused = λ lt.
        let q = h.refused (above (dec_lt 0 r.number) lt) in
        record { no_pieces = q.no_pieces; no_bytes = q.no_bytes; kept = q.kept };
    given = λ e.
        let z = only_zero r.number e in
        let a = given_alike first second (length before) r.number z h.numbered in
        let g = given_too first second second first (sight_exchanged first second a) before r a (h.given z) in
        let c = g.carries in
        record {
          cutting = g.cutting;
          is_first = g.is_first;
          carries =
              record {
                laid = c.laid;
                layout = c.layout;
                counted = c.counted;
                used = c.used;
                written = c.written;
              };
        };
  }
    where
      above : Dec (0 < r.number) → 0 < exchanged r.number → 0 < r.number
      above (yes l) lt = l
      above (no l) lt = let z : r.number ≡ 0 = omega arith in absurd (omega (arith, ap exchanged z))

-- so whatever is given for the one order is given for the other, but for the number
pub exchange_one_results : (first second : List ℤ) (before : List ℕ) (r s : Result) → Sound first ⊎ Sound second →
    Answers first second before r → Answers second first before s → s ≡ exchanged_result r
exchange_one_results first second before r s sound h g =
    answer_unique second first before s (exchanged_result r) g (exchange_one first second sound before r h)

pub exchange_one_program : (p : Program) → Meets p → (first second : List ℤ) (before : List ℕ) →
    Sound first ⊎ Sound second →
    p second first before ≡ exchanged_result (p first second before)
exchange_one_program p m first second before sound =
    exchange_one_results first second before _ _ sound (m.answers first second before)
    (m.answers second first before)
