-- `Tables::visit`: the range is not in the set, or its lines come into it.
use mathlib.Core.Path.{◌≡◌, sym, ◌∙◌}
use Prim.Native.Nat.{ℕ, ◌<◌}
use mathlib.Core.List.{List}
use lib.Dec.{T}
use native.Mathlib.Omega.{arith}
use Rattle.limits.specs.Limits.{row}
use Rattle.rules.specs.Cells.{cell, marked}
use Rattle.cutting.specs.Tracing.{Ticks}
use Rattle.cutting.proofs.Marking.{ticks_marked}
use Rattle.cutting.proofs.Traced.{tracing_not, tracing_by}
use Rattle.cutting.proofs.lines.Tables.visit.Goals as goal

-- the range is in the set
in_set : {pairs : List ℕ} (i j : ℕ) → i < j → j < row → ¬ (cell pairs i j ≡ 0) → Ticks pairs → T (marked pairs i j)
in_set i j p q h t = ticks_marked i j t (omega arith) q h

pub returns-then-cell-eq0 : goal.returns-then-cell-eq0
returns-then-cell-eq0 c = tracing_not c.requires.tracing (sym c.cell.ensures ∙ c.if-cell-eq0.true)

pub mark-requires : goal.mark-requires
mark-requires c =
    let t = c.requires.tracing in
    let ij = c.requires.in_range in (
      (c.centre-x.ensures _ t
          (in_set c.args.i c.args.j ij.0 ij.1 (λ e. c.if-cell-eq0.false (c.cell.ensures ∙ e)) t.ticks)).0,
      omega arith,
      ij.1,
      t.ticks,
    )

pub returns : goal.returns
returns c =
    let t = c.requires.tracing in
    let ij = c.requires.in_range in
    let h : T (marked c.args.pairs.now c.args.i c.args.j) =
    in_set c.args.i c.args.j ij.0 ij.1 (λ e. c.if-cell-eq0.false (c.cell.ensures ∙ e)) t.ticks
    in
    tracing_by t h (c.centre-x.ensures _ t h).1 c.mark.ensures
