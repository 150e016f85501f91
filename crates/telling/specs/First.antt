-- How `tell` is used after a search. What is served and has room is told, and what is told of the first of the
-- lightest cuttings is what 01 gives: every piece has a centre, and so its lowest one stands in the centre's place.
use Rattle.std.specs.Prelude.{◌≡◌, List, ℕ, ◌≤◌, length}
use Rattle.std.proofs.Common.{inl, inr}
use Rattle.limits.specs.Limits.{Roomy}
use Rattle.rules.specs.Lists.{In}
use Rattle.rules.specs.Cutting.{Pairs, Region, pieces}
use Rattle.rules.specs.Centre.{Lowest, LowestOrZero}
use Rattle.rules.proofs.Regions.{pieces_regions}
use Rattle.rules.specs.Refusals.{FirstFailed}
use Rattle.rules.specs.Plan.{stars, FirstBy}
use Rattle.rules.specs.Result.{Result, Carries, Given}
use Rattle.rules.specs.Agree.{layout_map}
use Rattle.rules.specs.Lays.{lowest_or_zero_lowest}
use Rattle.rules.specs.Cells.{marked, InBoth}
use Rattle.telling.specs.Answer.{Served, asked, Telling}

-- ---- what is served and has room is told
pub served_told : {n : ℕ} {pairs first second before : List ℕ} {r : Result} → Served n pairs first second →
    Roomy n (length before) → Telling n pairs first second before r →
    (r.number ≡ 0) × Carries (LowestOrZero (InBoth first second)) (pieces n (marked pairs)) before r
served_told {n} {pairs} {first} {second} {before} {r} s roomy t =
    let e = no_line t.numbered in
    (e, t.given e)
  where
    no_line : FirstFailed (asked n pairs first second (length before)) r.number → r.number ≡ 0
    no_line (inl f) = absurd (f.0 s)
    no_line (inr (p, inl f)) = absurd (f.0 roomy)
    no_line (inr (p, inr (q, e))) = e

-- ---- what is told of a first cutting is given
module _ {cut sees : ℕ → ℕ → Type 0} {n : ℕ} {C : Pairs} (three : 3 ≤ n)
    (f : FirstBy (stars cut sees) n C) where
  region : (S : List ℕ) → In S (pieces n C) → Region n C S
  region S i = (pieces_regions n C three f.valid.uncrossed S).0 i

  central : (S : List ℕ) → In S (pieces n C) → (x : ℕ) → LowestOrZero sees x S → Lowest sees x S
  central S i x = lowest_or_zero_lowest sees x S (f.valid.allowed S (region S i))

  pub first_given : {before : List ℕ} {r : Result} → Carries (LowestOrZero sees) (pieces n C) before r →
      Given (stars cut sees) n before r
  first_given c = record {
    cutting = C;
    is_first = f;
    carries = record {
      laid = c.laid;
      layout = layout_map (pieces n C) central c.laid c.layout;
      counted = c.counted;
      used = c.used;
      written = c.written;
    };
  }
