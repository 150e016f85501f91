-- What the functions that write a line promise: the line stands in the buffer from `at` on, or there is no room and
-- nothing is written.
use Rattle.std.specs.Prelude.{◌≡◌, ℕ, ◌+◌, ◌<◌, ◌≤◌, List, ◌++◌, length, take, drop}
use Rattle.std.proofs.Common.{sym, ◌∙◌, arith}
use Rattle.std.proofs.Math.Decide.{dec_le}

-- `out` and `out'` are the buffer before and after, `r` is the place after the line
pub record Written (line out : List ℕ) (at r : ℕ) (out' : List ℕ) : Type 0 where
  pub placed : at + length line ≤ length out →
      (r ≡ at + length line) × (out' ≡ take at out ++ line ++ drop (at + length line) out)
  pub refused : length out < at + length line → (r ≡ at) × (out' ≡ out)

-- no second place and no second buffer
pub written_unique : (line out : List ℕ) (at r s : ℕ) (out' out'' : List ℕ) → Written line out at r out' →
    Written line out at s out'' →
    (r ≡ s) × (out' ≡ out'')
written_unique line out at r s out' out'' w v = go (dec_le (at + length line) (length out))
  where
    same : {a : ℕ} {x : List ℕ} → (r ≡ a) × (out' ≡ x) → (s ≡ a) × (out'' ≡ x) → (r ≡ s) × (out' ≡ out'')
    same p q = (p.0 ∙ sym q.0, p.1 ∙ sym q.1)

    go : Dec (at + length line ≤ length out) → (r ≡ s) × (out' ≡ out'')
    go (yes h) = same (w.placed h) (v.placed h)
    go (no h) = same (w.refused (omega arith)) (v.refused (omega arith))
