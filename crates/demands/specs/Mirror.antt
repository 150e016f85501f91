-- The answer as antt computes it: the tests of `outline` in the order of 01's table, then the first smallest cutting.
-- `mirror`: it is the answer, for all lists and all buffers. (The listing grows fast with the corners: antt computes
-- it for small outlines.)
use Rattle.std.specs.Prelude.{refl, Bool, ◌&&◌, List, [], ◌∷◌, ◌++◌, ℕ, zero, suc, ◌+◌, ◌*◌, eqb, leb, ℤ, length}
use Rattle.std.proofs.Common.{sym, ap, inl, arith}
use Rattle.limits.specs.Limits.{fewest_corners, most_corners}
use Rattle.outline.specs.Drawing.{corners, Shaped, Sound}
use Rattle.outline.specs.Tells.{Tells, as_well, and_tells, eq_tells, most_tells}
use Rattle.outline.specs.Mirror.{in_range_test, in_range_tells, simple_test, simple_tells, area_test, area_tells}
use Rattle.pair.specs.Pair.{Alike, of_drawing}
use Rattle.pair.specs.Passing.{first_shaped, second_shaped}
use Rattle.pair.proofs.Passing.{sound_pair}
use Rattle.rules.specs.Refusals.{Line, FirstFailed, all_hold}
use Rattle.rules.specs.Cutting.{Tree, told}
use Rattle.rules.specs.Uses.{uses}
use Rattle.rules.specs.Lays.{lays}
use Rattle.desk.specs.Answer.{asked}
use Rattle.demands.specs.Program.{Program, Meets, Expected, cutting, refusal, writing, Gives}
use Rattle.demands.specs.Lines.{earlier_hold}
use Rattle.demands.specs.Checks.{Check, first_failed, Checked, end, then, failed_is}
use Rattle.demands.specs.Smallest.{both_test, node_test, smallest}
use Rattle.demands.specs.Smallest.{smallest_first, smallest_node, smallest_tells, smallest_layout}

-- ---- the table's checks
abbrev alike_test : List ℤ → List ℤ → Bool
alike_test first second =
    eqb (length first) (2 * corners first)
    && (eqb (length second) (length first) && (leb fewest_corners (corners first) && leb (corners first) most_corners))

alike_tells : (first second : List ℤ) → Tells (alike_test first second) (Alike first second)
alike_tells first second =
    as_well (and_tells (eq_tells _ _) (and_tells (eq_tells _ _) (and_tells (most_tells _ _) (most_tells _ _))))
    (λ h. record { even = h.0; same = h.1.0; enough = h.1.1.0; few = h.1.1.1 })
    (λ h. (h.even, (h.same, (h.enough, h.few))))

-- of one drawing, and what comes after
abbrev drawing_checks : ℕ → ℕ → ℕ → List ℤ → List Check
drawing_checks a b c d = (a, λ u. in_range_test d) ∷ (b, λ u. simple_test d) ∷ (c, λ u. area_test d) ∷ []

drawing_tell : (a b c : ℕ) (d : List ℤ) {k : List Check} {l : List Line} → Shaped d → (Sound d → Checked k l) →
    Checked (drawing_checks a b c d ++ k) (of_drawing a b c d ++ l)
drawing_tell a b c d s rest =
    then (in_range_tells d) (λ r. then (simple_tells d) (λ p. then (area_tells d)
    (λ q. rest (record { shaped = s; in_range = r; simple = p; anticlockwise = q }))))

-- in the order of `asked`; t is the smallest cutting's tree
abbrev checks : List ℤ → List ℤ → ℕ → Tree → List Check
checks first second room t =
    (1, λ u. alike_test first second)
    ∷ (2, λ u. leb (5 * corners first) (room + 10))
    ∷ (drawing_checks 3 4 5 first ++ (drawing_checks 6 7 8 second ++ ((9, λ u. node_test t) ∷ [])))

checks_tell : (first second : List ℤ) (room : ℕ) →
    Checked (checks first second room (smallest first second)) (asked first second room)
checks_tell first second room =
    then (alike_tells first second)
    (λ a. then (most_tells _ _)
    (λ _. drawing_tell 3 4 5 first (first_shaped a)
    (λ s. drawing_tell 6 7 8 second (second_shaped a)
    (λ t. then (smallest_tells first second (record { alike = a; first_sound = s; second_sound = t })) (λ _. end)))))

-- ---- what comes back with a number
abbrev comes : (ℕ → ℕ → Bool) → Tree → ℕ → Expected
comes sees t zero = cutting (length (told 0 t)) (lays sees (told 0 t))
comes sees t (suc k) = refusal (suc k)

abbrev pub expected : List ℤ → List ℤ → ℕ → Expected
expected first second room =
    let t = smallest first second in
    comes (both_test first second) t (first_failed (checks first second room t))

module _ (first second : List ℤ) (before : List ℕ) where
  comes_back : (k : ℕ) → FirstFailed (asked first second (length before)) k →
      Gives first second before (comes (both_test first second) (smallest first second) k)
  comes_back zero f =
      let all = all_hold (asked first second (length before)) (omega arith) f in
      let h = (earlier_hold first second (length before) 0 (inl refl) f).0 in
      let sound = sound_pair first second (h.0, h.1.1) in
      let k = smallest_node first second sound all.1.1.1.1.1.1.1.1.0 in
      let p = smallest_first first second sound k in
      record {
        numbered = f;
        refused = λ lt. absurd (omega arith);
        given = λ z. record {
          cutting = uses 0 (smallest first second);
          is_first = p.0;
          carries = record {
            laid = lays (both_test first second) (told 0 (smallest first second));
            layout = smallest_layout first second sound k;
            counted = ap length (sym p.1);
            used = refl;
            written = refl;
          };
        };
      }
  comes_back (suc k) f = record {
    numbered = f;
    refused = λ lt. record { no_pieces = refl; no_bytes = refl; kept = refl };
    given = λ z. absurd (omega arith);
  }

  pub mirror : Gives first second before (expected first second (length before))
  mirror =
      comes_back (first_failed (checks first second (length before) (smallest first second)))
      (failed_is (checks_tell first second (length before)))

-- ---- so there is a program that meets the statement, if not a quick one
pub computed : Program
computed first second before = writing (expected first second (length before)) before

pub computed_meets : Meets computed
unfolding computed
computed_meets = record { answers = mirror }
