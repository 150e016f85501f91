-- `test_wire::replay::held`: how far two buffers agree, neither has ended.
use Rattle.std.specs.Prelude.{Bool, true, false, cond, List, [], ◌∷◌, ℕ, suc, length}
use Rattle.std.proofs.Common.{◌≤◌, arith}
use Rattle.recorded.specs.Lent.{agreeing}
use Rattle.test_wire.proofs.replay.held.Goals as goal

one_more : (same : Bool) (n m : ℕ) → n ≤ m → cond same (suc n) 0 ≤ suc m
one_more true n m h = omega (arith, h)
one_more false n m h = omega arith

agreeing_within : (a b : List ℕ) → agreeing a b ≤ length a
agreeing_within [] b = omega arith
agreeing_within (x ∷ a) [] = omega arith
agreeing_within (x ∷ a) (y ∷ b) = one_more _ _ _ (agreeing_within a b)

pub overflow_add-result-else-starts_with : goal.overflow_add-result-else-starts_with
overflow_add-result-else-starts_with c = grind (arith, agreeing_within)

pub returns-else-starts_with-clause-differs : goal.returns-else-starts_with-clause-differs
returns-else-starts_with-clause-differs c = grind (arith, agreeing_within)
