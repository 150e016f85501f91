-- What the corners know, as it is learnt one corner after the other.
use mathlib.Core.Path.{sym, subst}
use mathlib.Core.List.{List}
use mathlib.Core.Logic.{by_cases}
use Prim.Native.Nat.{ℕ, ◌+◌, ◌<◌}
use native.Mathlib.Decide.{ℕ_discrete}
use native.Mathlib.Omega.{arith}
use lib.IntN.{ℤ}
use lib.ListN.{length, set}
use lib.Seq.{get_or-set_same, get_or-set_other}
use Rattle.drawing.specs.Known.{Knows, nothing, known_of, AllKnown}
use Rattle.drawing.specs.declared.masks.Known.{Known}

pub known_more : {d : List ℤ} {i : ℕ} {k : Known} (w : List Known) → i < length w → AllKnown d i w → Knows d i k →
    AllKnown d (i + 1) (set w i k)
known_more {d} {i} {k} w room all knows j l =
    by_cases (ℕ_discrete j i)
    (λ e. subst (λ m. Knows d m (known_of (set w i k) m)) (sym e)
    (subst (Knows d i) (sym (get_or-set_same w i k nothing room)) knows))
    (λ n. subst (Knows d j) (sym (get_or-set_other w i j k nothing n)) (all j (omega (arith, l, n))))
