-- The first piece at fault, piece after piece: numbers 23 and 24.
use mathlib.Core.Path.{refl}
use mathlib.Core.Logic.{inl, inr}
use mathlib.Core.List.{List, [], ◌∷◌}
use Prim.Native.Nat.{ℕ, suc}
use Rattle.std.specs.Prelude.{Ok, Err}
use Rattle.checker.specs.Checks.{says, verdict, Entry, Sight, FirstFailed, of_pieces}
use Rattle.checker.specs.Faultless.{all_faultless}
use Rattle.checker.specs.Unique.{verdict_one}
use Rattle.checker.specs.declared.Fault.{Fault}
use Rattle.checker.specs.declared.flat.Verdict.{Verdict}

-- ---- from one piece to those that follow
module _ (first second : Sight) (place : ℕ) (e : Entry) (more : List Entry) where
  -- a piece without fault is passed
  pub passed : FirstFailed (of_pieces first second place (e ∷ [])) (says 0) →
      (v : Verdict) → FirstFailed (of_pieces first second (suc place) more) v →
      FirstFailed (of_pieces first second place (e ∷ more)) v
  passed h v k =
      let g = (all_faultless first second place (e ∷ [])).0 h e (inl refl) in
      inr (g.first_lines, inr (g.second_lines, inr (g.first_centre, inr (g.second_centre, k))))

  -- where one has a fault, those after it are not asked
  pub stopped : (f : Fault) → FirstFailed (of_pieces first second place (e ∷ [])) (verdict (Err f)) →
      FirstFailed (of_pieces first second place (e ∷ more)) (verdict (Err f))
  stopped f (inl h) = inl h
  stopped f (inr (a, inl h)) = inr (a, inl h)
  stopped f (inr (a, inr (b, inl h))) = inr (a, inr (b, inl h))
  stopped f (inr (a, inr (b, inr (c, inl h)))) = inr (a, inr (b, inr (c, inl h)))
  stopped f (inr (a, inr (b, inr (c, inr (d, h))))) = absurd (cc (verdict_one (Err f) (Ok tt) h))
