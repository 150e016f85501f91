-- The theorems of `Agree`: its definitions and first laws are in specs/.
use Rattle.std.specs.Prelude.{◌≡◌, ◌↔◌, List, ℕ, ◌≤◌}
use Rattle.std.proofs.Common.{arith}
use Rattle.rules.specs.Cutting.{Pairs, pieces, weight}
use Rattle.rules.specs.Centre.{Layout}
use Rattle.rules.specs.Plan.{Plan, ValidBy, FirstBy, Cuttable}
use Rattle.rules.specs.Result.{Result, Given}
use Rattle.rules.proofs.Regions.{pieces_regions}
use Rattle.rules.specs.Valid.{Allows, valid_map}
use Rattle.rules.specs.Agree.{Agree, layout_map, weight_same}

-- ---- plans that agree
module _ {n : ℕ} {p q : Plan} (A : Agree n p q) where
  allows : Allows n p.cut q.cut p.piece q.piece
  allows = record { cuts = λ a b i. (A.cuts a b i).0; lists = λ S r s t. (A.lists S r s t).0 }

  allowed : Allows n q.cut p.cut q.piece p.piece
  allowed = record { cuts = λ a b i. (A.cuts a b i).1; lists = λ S r s t. (A.lists S r s t).1 }

  pub valid_same : (C : Pairs) → ValidBy p n C ↔ ValidBy q n C
  valid_same C = (valid_map n _ _ _ _ C allows, valid_map n _ _ _ _ C allowed)

  pub cuttable_same : Cuttable p n ↔ Cuttable q n
  cuttable_same = (λ c. (c.0, (valid_same c.0).0 c.1), λ c. (c.0, (valid_same c.0).1 c.1))

  weighs_same : (C : Pairs) → weight p.weight (pieces n C) ≡ weight q.weight (pieces n C)
  weighs_same C = weight_same p.weight q.weight A.weighs (pieces n C)

  pub first_same : (C : Pairs) → FirstBy p n C → FirstBy q n C
  first_same C f = record {
    valid = (valid_same C).0 f.valid;
    least = λ D va. omega (arith, f.least D ((valid_same D).1 va), weighs_same C, weighs_same D);
    first = λ D va le. f.first D ((valid_same D).1 va) (omega (arith, le, weighs_same C, weighs_same D));
  }

  pub layout_same : (C : Pairs) (bytes : List ℕ) → 3 ≤ n → ValidBy p n C →
      Layout p.centre (pieces n C) bytes → Layout q.centre (pieces n C) bytes
  layout_same C bytes three va =
      layout_map (pieces n C)
      (λ S i x. (A.centres S ((pieces_regions n C three va.uncrossed S).0 i).small x).0) bytes

  pub given_same : 3 ≤ n → (before : List ℕ) (r : Result) → Given p n before r → Given q n before r
  given_same three before r g = record {
    cutting = g.cutting;
    is_first = first_same g.cutting g.is_first;
    carries = let c = g.carries in record {
      laid = c.laid;
      layout = layout_same g.cutting c.laid three g.is_first.valid c.layout;
      counted = c.counted;
      used = c.used;
      written = c.written;
    };
  }
