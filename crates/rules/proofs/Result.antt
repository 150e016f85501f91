-- The theorems of `Result`: its definitions and first laws are in specs/.
use Rattle.std.specs.Prelude.{◌≡◌, List, ℕ, ◌<◌}
use Rattle.std.proofs.Common.{subst, arith}
use Rattle.std.proofs.Math.Decide.{dec_lt}
use Rattle.rules.specs.Cutting.{pieces}
use Rattle.rules.proofs.Valid.{first_unique}
use Rattle.rules.specs.Refusals.{Line, failed_unique}
use Rattle.rules.specs.Plan.{Plan, OneCentre}
use Rattle.rules.specs.Result.{Carries, ComesBack, Given, Result, carries_unique, refused_unique}

module _ (p : Plan) (one : OneCentre p) (n : ℕ) (before : List ℕ) where
  pub given_unique : (r s : Result) → r.number ≡ s.number → Given p n before r → Given p n before s → r ≡ s
  given_unique r s e g h =
      let same =
      first_unique p.cut p.piece p.weight n g.cutting h.cutting g.is_first h.is_first in
      carries_unique p.centre one (pieces n h.cutting) before r s e
      (subst (λ q. Carries p.centre q before r) same g.carries) h.carries

  pub comes_back_unique : (lines : List Line) (r s : Result) →
      ComesBack lines p n before r → ComesBack lines p n before s → r ≡ s
  comes_back_unique lines r s a b = go (dec_lt 0 r.number)
    where
      e : r.number ≡ s.number
      e = failed_unique lines r.number s.number a.numbered b.numbered

      go : Dec (0 < r.number) → r ≡ s
      go (yes lt) = refused_unique before r s e (a.refused lt) (b.refused (omega (arith, e)))
      go (no nl) = given_unique r s e (a.given (omega arith)) (b.given (omega (arith, e)))
