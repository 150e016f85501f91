-- `drawing::masks::know` meets its contract: with k sides left the masks tell of the sides from k on.
use mathlib.Core.Path.{◌≡◌}
use Prim.Native.Nat.{◌-◌, ◌<◌}
use Rattle.whole.specs.Masks.{Made}
use Rattle.outline.specs.Drawing.{corners, after}
use Rattle.drawing.specs.Known.{Left, OnLine, Low, West}
use Rattle.drawing.specs.Away.{Away}
use Rattle.drawing.proofs.masks.know.Given as goal

abbrev pub invariant-loop-k : goal.invariant-loop-k
invariant-loop-k l =
    let d = l.ring.xy.now in
    let n = corners d in
    Made n (n - l.k) l.all (λ k. k ≡ k) × Made n (n - l.k) l.left (Left d l.i)
    × Made n (n - l.k) l.flat (OnLine d l.i) × Made n (n - l.k) l.low (Low d l.i)
    × Made n (n - l.k) l.west (West d l.i) × (0 < l.k → Away d l.i (after d (l.k - 1)) l.end)
