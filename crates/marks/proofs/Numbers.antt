-- The number of a pair whose mark is out of range. A room of another length that is as long as any cutting needs gives
-- the same number.
use mathlib.Core.Logic.{◌⊎◌, inl, inr}
use mathlib.Core.List.{List}
use mathlib.Core.Path.{◌≡◌}
use Prim.Native.Nat.{ℕ, ◌≤◌, ◌<◌, min}
use Rattle.std.proofs.Common.{length, take}
use Rattle.std.proofs.lemmas.List.{length-take-le}
use Rattle.std.proofs.Math.Decide.{dec_lt}
use native.Mathlib.Omega.{arith}
use lib.IntN.{ℤ}
use Rattle.limits.specs.Limits.{room, Roomy}
use Rattle.outline.specs.Drawing.{corners}
use Rattle.pair.specs.Pair.{Alike}
use Rattle.rules.specs.Refusals.{FirstFailed}
use Rattle.desk.specs.Answer.{asked}
use Rattle.marks.specs.Parts.{OrTen, Outside}

-- the spare room has what is lent, or as much as any cutting needs where more is lent
abbrev pub Spare : ℕ → ℕ → Type 0
Spare size lent = (size ≡ lent) ⊎ ((size ≡ room) × (room ≤ lent))

pub spare_of : (l : List ℕ) (k lent : ℕ) → length l ≡ room → k ≡ min lent room → Spare (length (take k l)) lent
spare_of l k lent f e = go (dec_lt lent room)
  where
    size : length (take k l) ≡ k
    size = length-take-le k l (omega arith)

    go : Dec (lent < room) → Spare (length (take k l)) lent
    go (yes h) = inl (omega (arith, size))
    go (no h) = inr (omega (arith, size), omega arith)

module _ {first second : List ℤ} (size lent : ℕ) (e : Spare size lent) where
  roomy : Alike first second → Roomy (corners first) size → Roomy (corners first) lent
  roomy a h = go e
    where
      go : Spare size lent → Roomy (corners first) lent
      go (inl p) = omega arith
      go (inr p) = omega (arith, p.0, p.1)

  roomy_back : Alike first second → Roomy (corners first) lent → Roomy (corners first) size
  roomy_back a h = go e
    where
      go : Spare size lent → Roomy (corners first) size
      go (inl p) = omega arith
      go (inr p) = omega (arith, p.0, a.few)

  same_number : (k : ℕ) → FirstFailed (asked first second size) k → FirstFailed (asked first second lent) k
  same_number k (inl h) = inl h
  same_number k (inr (a, inl h)) = inr (a, inl ((λ r. h.0 (roomy_back a r)), h.1))
  same_number k (inr (a, inr (h, f))) = inr (a, inr (roomy a h, f))

  pub outside_of : (k number : ℕ) → FirstFailed (asked first second size) k → OrTen k number →
      Outside first second lent number
  outside_of k number f o = record { k = k; of_pair = same_number k f; or_ten = o }
