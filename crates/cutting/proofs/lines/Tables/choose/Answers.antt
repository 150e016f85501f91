-- `Tables::choose`: a return for each case of `better`.
use mathlib.Core.Path.{sym, ◌∙◌}
use Prim.Native.Nat.{◌≤◌}
use native.Mathlib.Omega.{arith}
use mathlib.Core.Path.{refl}
use Rattle.cutting.proofs.Corners.{better_none, better_less, better_not, better_unfit}
use Rattle.cutting.proofs.lines.Tables.choose.Goals as goal

pub returns-then-not-serves : goal.returns-then-not-serves
returns-then-not-serves c = record {
  better = better_unfit _ _ _ _ _ _ _ _ (sym c.serves.ensures ∙ c.if-not-serves.true);
  centre = c.requires.best;
}

pub returns-then-earlier : goal.returns-then-earlier
returns-then-earlier c = record {
  better =
      rw c.in-Some.is
      (better_less _ _ _ _ _ _ _ _ (sym c.serves.ensures ∙ c.if-not-serves.false)
      (sym c.earlier.ensures ∙ c.if-earlier.true));
  centre = c.requires.in_range.1;
}

pub returns-else-earlier : goal.returns-else-earlier
returns-else-earlier c =
    let y : c.in-Some.y ≤ c.args.j = rw c.in-Some.is at c.requires.best in
    record {
      better =
          rw c.in-Some.is
          (better_not _ _ _ _ _ _ _ _ (λ e. omega (arith, c.requires.in_range.0))
          (sym c.earlier.ensures ∙ c.if-earlier.false));
      centre = y;
    }

pub returns-in-None : goal.returns-in-None
returns-in-None c = record {
  better = rw c.in-None.is (better_none _ _ _ _ _ _ _ _ (sym c.serves.ensures ∙ c.if-not-serves.false) refl);
  centre = c.requires.in_range.1;
}
