-- 01, "Outlines to try": "n = 3, both sound, room 5: always 0." Whatever the triangles, the answer is 03 00 00 01 02:
-- three corners see each other, and leave no pair for a cut.
use Rattle.std.specs.Prelude.{◌≡◌, false, ◌⊎◌, ℕ, suc, ◌≤◌, ◌<◌, ℤ}
use Rattle.std.proofs.Math.Path.{refl, subst}
use Rattle.std.proofs.Common.{sym, ◌∙◌, ap, inl, inr}
use mathlib.Core.List.{List, [], ◌∷◌}
use native.Mathlib.Omega.{arith}
use Rattle.std.proofs.Math.Decide.{ℕ_discrete}
use Rattle.std.proofs.Math.ListN.{length}
use Rattle.outline.specs.Drawing.{corners, next}
use Rattle.outline.specs.InOrOn.{CentreSees}
use Rattle.outline.specs.CentreSight.{centre_beside}
use Rattle.outline.specs.Tells.{or_tells, eq_tells, all_tells}
use Rattle.rules.specs.Lists.{In}
use Rattle.rules.specs.Cutting.{Pairs, Inner, Region, Valid, pieces, weight, one, First}
use Rattle.rules.specs.Centre.{HasCentre, Lowest, Layout}
use Rattle.rules.specs.Plan.{FirstBy}
use Rattle.rules.specs.Result.{Result}
use Rattle.rules.specs.Valid.{same_pieces}
use Rattle.desk.specs.Answer.{InBoth, Cut, plan, FirstCutting, Answers}
use Rattle.desk.specs.Unique.{answer_unique}
use Rattle.demands.specs.Program.{cutting, Gives}
use Rattle.demands.specs.Sentences.{BothSound, last_decides}

-- ---- three corners: each is beside each
beside : (x : ℕ) → x < 3 → (y : ℕ) → y < 3 → (x ≡ y) ⊎ ((next 3 x ≡ y) ⊎ (next 3 y ≡ x))
beside =
    (all_tells 3 (λ x l. all_tells 3 (λ y m. or_tells (eq_tells _ _) (or_tells (eq_tells _ _) (eq_tells _ _))))).sure
    tt

three_see : (d : List ℤ) → corners d ≡ 3 → (x y : ℕ) → x < 3 → y < 3 → CentreSees d x y
three_see d e x y l m =
    centre_beside x y (omega arith) (omega arith)
    (subst (λ n. (x ≡ y) ⊎ ((next n x ≡ y) ⊎ (next n y ≡ x))) (sym e) (beside x l y m))

-- ---- and no pair is left for a cut
none : Pairs
none a b = false

no_inner : (a b : ℕ) → ¬ Inner 3 a b
no_inner a b i = go (ℕ_discrete b (suc a))
  where
    go : Dec (b ≡ suc a) → ⊥
    go (yes e) = i.no_side (inl e)
    go (no n) = i.no_side (inr (omega (arith, i.rises, i.small), omega (arith, i.rises, i.small)))

module _ (cut : ℕ → ℕ → Type 0) (sees : ℕ → ℕ → Type 0) (all : (x y : ℕ) → x < 3 → y < 3 → sees x y) where
  none_valid : Valid cut (HasCentre sees) 3 none
  unfolding none
  none_valid = record {
    uncrossed = record { inner = λ a b c. absurd c; apart = λ a b c d h k. absurd h };
    cuts = λ a b c. absurd c;
    allowed = allowed;
  }
    where
      allowed : (S : List ℕ) → Region 3 none S → HasCentre sees S
      allowed [] R = absurd (omega (arith, R.three))
      allowed (x ∷ S) R = (x, (inl refl, λ y i. all x y (R.small x (inl refl)) (R.small y i)))

  -- every cutting is this one
  only_none : (C : Pairs) → Valid cut (HasCentre sees) 3 C → pieces 3 none ≡ pieces 3 C
  unfolding none
  only_none C va =
      same_pieces 3 none C (λ a b. (λ h. absurd h, λ c. absurd (no_inner a b (va.uncrossed.inner a b c))))

  none_first : First cut (HasCentre sees) one 3 none
  none_first = record {
    valid = none_valid;
    least = λ D va. omega (arith, ap (weight one) (only_none D va));
    first = λ D va le. inl (only_none D va);
  }

  none_layout : Layout (Lowest sees) (pieces 3 none) (3 ∷ 0 ∷ 0 ∷ 1 ∷ 2 ∷ [])
  unfolding pieces none
  none_layout = (0, [], record { centre = (inl refl, see); lowest = λ y c. omega arith }, refl, refl)
    where
      see : (y : ℕ) → In y (0 ∷ 1 ∷ 2 ∷ []) → sees 0 y
      see y (inl e) = all 0 y (omega arith) (omega arith)
      see y (inr (inl e)) = all 0 y (omega arith) (omega arith)
      see y (inr (inr (inl e))) = all 0 y (omega arith) (omega arith)
      see y (inr (inr (inr i))) = elim i [ ]

module _ (first second : List ℤ) (sound : BothSound first second) (e : corners first ≡ 3) (before : List ℕ)
    (room : 5 ≤ length before) where
  see_both : (x y : ℕ) → x < 3 → y < 3 → InBoth first second x y
  see_both x y l m = (three_see first e x y l m, three_see second (sym sound.equally_many ∙ e) x y l m)

  none_is_first : FirstCutting first second none
  none_is_first = subst (λ n. FirstBy (plan first second) n none) (sym e) (none_first _ _ see_both)

  pub triangles : Gives first second before (cutting 1 (3 ∷ 0 ∷ 0 ∷ 1 ∷ 2 ∷ []))
  unfolding pieces none
  triangles = record {
    numbered =
        last_decides first second (length before) 0 sound (omega arith) (inr ((none, none_is_first.valid), refl));
    refused = λ lt. absurd (omega arith);
    given = λ z. record {
      cutting = none;
      is_first = none_is_first;
      carries = record {
        laid = 3 ∷ 0 ∷ 0 ∷ 1 ∷ 2 ∷ [];
        layout = subst (λ n. Layout (plan first second).centre (pieces n none) (3 ∷ 0 ∷ 0 ∷ 1 ∷ 2 ∷ [])) (sym e)
            (none_layout (Cut first second) _ see_both);
        counted = subst (λ n. 1 ≡ length (pieces n none)) (sym e) refl;
        used = refl;
        written = refl;
      };
    };
  }

  pub triangles_0 : (r : Result) → Answers first second before r → r.number ≡ 0
  triangles_0 r a = ap (λ (q : Result). q.number) (answer_unique first second before r _ a triangles)
