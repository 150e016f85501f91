-- One step of a walk from mark to mark.
use mathlib.Core.Path.{◌≡◌, sym, subst}
use Prim.Native.Nat.{ℕ}
use Rattle.std.specs.Prelude.{Some, None}
use Rattle.whole.specs.Bits.{bit}
use Rattle.whole.specs.Masks.{Scan, scan_mark, scan_more, scan_end}
use Rattle.drawing.specs.Walk.{NextMark}

module _ {m rest after : ℕ} {Q : ℕ → Type 0} (s : Scan m rest Q) where
  module _ {k : ℕ} (n : NextMark rest (Some k) after) where
    -- the number is marked
    pub next_marked : bit m k ≡ 1
    next_marked = subst (λ x. bit m x ≡ 1) (sym n.1) (scan_mark s n.0)

    -- and passed
    pub next_passed : Q k → Scan m after Q
    next_passed q = subst (λ x. Scan m x Q) (sym n.2) (scan_more s n.0 (subst Q n.1 q))

  -- at the end all are passed
  pub all_passed : NextMark rest None after → (k : ℕ) → bit m k ≡ 1 → Q k
  all_passed n = scan_end s n.0
