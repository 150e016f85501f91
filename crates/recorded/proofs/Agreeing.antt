-- Two buffers that are read side by side agree as long as the pairs do.
use Rattle.std.specs.Prelude.{◌≡◌, Bool, true, false, cond, List, [], ◌∷◌, ℕ, suc, ◌+◌, eqb, length, take}
use Rattle.std.specs.List.{zip, prefix_len}
use Rattle.std.proofs.Common.{refl, ap, arith}
use Rattle.recorded.specs.Lent.{agreeing}

abbrev same : ℕ × ℕ → Bool
same p = eqb p.0 p.1

one_more : (b : Bool) (p : ℕ × ℕ) (ps : List (ℕ × ℕ)) (n m : ℕ) → length (take n ps) ≡ m →
    length (take (cond b (1 + n) 0) (p ∷ ps)) ≡ cond b (suc m) 0
one_more true p ps n m e = let more : 1 + n ≡ suc n = omega arith in rw more (ap suc e)
one_more false p ps n m e = refl

pub agreeing_is : (a b : List ℕ) → length (take (prefix_len same (zip a b)) (zip a b)) ≡ agreeing a b
agreeing_is [] b = refl
agreeing_is (x ∷ a) [] = refl
agreeing_is (x ∷ a) (y ∷ b) = one_more (eqb x y) (x, y) (zip a b) _ _ (agreeing_is a b)
