-- Demand 3, the second part: whole-number rules. A rule sends (x,y) to (ax+by+e, cx+dy+f) with whole a to f and
-- ad-bc > 0. Applied to one of the drawings, with its coordinates in range before exactly when after, it changes
-- nothing of the answer: the same number, refusals too, the same counts, every byte the same. 02, K3: "Demands 2 and 3
-- read the two kinds of sight from here on": the rule keeps either.
use Rattle.std.specs.Prelude.{◌≡◌, refl, ◌↔◌, List, ℕ, ◌<◌, ℤ}
use Rattle.std.proofs.Math.Logic.Iff
use Rattle.std.proofs.Common.{arith}
use Rattle.outline.specs.Drawing.{corners, InRange}
use Rattle.pair.specs.Pair.{Alike}
use Rattle.rules.specs.Result.{Result}
use Rattle.desk.specs.Answer.{Answers}
use Rattle.desk.specs.Unique.{answer_unique}
use Rattle.demands.specs.Entered.{Rule, move}
use Rattle.demands.specs.Moved.{length_moved, corners_moved, simple_moved, anticlockwise_moved, sees_moved}
use Rattle.demands.specs.CentreMoved.{centre_moved}
use Rattle.demands.specs.SameAnswer.{SameJudged, alike_by_length, same_judged, same_answer}
use Rattle.demands.specs.Program.{Program, Meets}

module _ (t : Rule) where
  -- in range before exactly when after
  abbrev pub KeepsRange : List ℤ → Type 0
  KeepsRange d = InRange d ↔ InRange (move t d)

  judged_moved : (d : List ℤ) → KeepsRange d → SameJudged d (move t d)
  judged_moved d range =
      record { in_range = range; simple = simple_moved t d; anticlockwise = anticlockwise_moved t d }

  module _ (first second : List ℤ) where
    pub rule_first : KeepsRange first → (before : List ℕ) (r : Result) →
        Answers first second before r ↔ Answers (move t first) second before r
    rule_first range =
        same_answer first second (move t first) second (alike_by_length (length_moved t first) refl)
        (λ a. record {
          judged_first = judged_moved first range;
          judged_second = same_judged second;
          sight = record {
            many = corners_moved t first;
            cuts = λ i j h g. Iff.and (Iff.and (sees_moved t first i j h g) Iff.rfl)
                (Iff.and (sees_moved t first j i g h) Iff.rfl);
            seen = λ x y h g. Iff.and (centre_moved t first x y h g) Iff.rfl;
          };
        })

    pub rule_second : KeepsRange second → (before : List ℕ) (r : Result) →
        Answers first second before r ↔ Answers first (move t second) before r
    rule_second range =
        same_answer first second first (move t second) (alike_by_length refl (length_moved t second))
        (λ a. record {
          judged_first = same_judged first;
          judged_second = judged_moved second range;
          sight = record {
            many = refl;
            cuts = λ i j h g. Iff.and (Iff.and Iff.rfl (sees_moved t second i j (low a h) (low a g)))
                (Iff.and Iff.rfl (sees_moved t second j i (low a g) (low a h)));
            seen = λ x y h g. Iff.and Iff.rfl (centre_moved t second x y (low a h) (low a g));
          };
        })
      where
        low : {x : ℕ} → Alike first second → x < corners first → x < corners second
        low a h = omega arith

    -- so whatever is given for the drawings is given where one is moved, and by every program that meets the statement
    pub rule_first_results : KeepsRange first → (before : List ℕ) (r s : Result) →
        Answers first second before r → Answers (move t first) second before s → s ≡ r
    rule_first_results range before r s h g =
        answer_unique (move t first) second before s r g ((rule_first range before r).0 h)

    pub rule_second_results : KeepsRange second → (before : List ℕ) (r s : Result) →
        Answers first second before r → Answers first (move t second) before s → s ≡ r
    rule_second_results range before r s h g =
        answer_unique first (move t second) before s r g ((rule_second range before r).0 h)

    module _ (p : Program) (m : Meets p) (before : List ℕ) where
      pub rule_first_program : KeepsRange first → p (move t first) second before ≡ p first second before
      rule_first_program range =
          rule_first_results range before _ _ (m.answers first second before)
          (m.answers (move t first) second before)

      pub rule_second_program : KeepsRange second → p first (move t second) before ≡ p first second before
      rule_second_program range =
          rule_second_results range before _ _ (m.answers first second before)
          (m.answers first (move t second) before)

  -- a drawing that is in range before and after is one of these
  pub both_in_range : (d : List ℤ) → InRange d → InRange (move t d) → KeepsRange d
  both_in_range d here there = (λ _. there, λ _. here)
