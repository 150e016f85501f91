-- Number 22 from the two tables: a law for each return of `is_cutting`. The lists that the passes have read and the
-- one that is asked about are the same.
use mathlib.Core.Path.{◌≡◌, sym, ◌∙◌, subst}
use mathlib.Core.Bool.{Bool, true, false}
use mathlib.Core.List.{List}
use Prim.Native.Nat.{ℕ, ◌-◌, ◌≤◌}
use lib.ListN.{set}
use Rattle.limits.specs.Limits.{fewest_corners, most_corners, place}
use Rattle.rules.specs.Cells.{filled}
use Rattle.outline.specs.Tells.{never}
use Rattle.checker.specs.Checks.{Entry, Listed, corner_lists}
use Rattle.checker.specs.Unique.{laid_one}
use Rattle.checker.specs.Parts.{Marks, MarksAll, all_fit, FitsAll, TellsCutting}
use Rattle.checker.proofs.Tests.{told_by}
use Rattle.checker.proofs.Tables.{zeros}
use Rattle.checker.proofs.Marking.{marked_twice, marked_whole, marked_fits}

module _ {n : ℕ} {bytes c t : List ℕ} {r : Bool} (least : fewest_corners ≤ n) (most : n ≤ most_corners)
    (m : MarksAll bytes zeros zeros c t r) where
  -- as the marks are of one list
  marks_of : (l : List Entry) → Listed n bytes l → Marks (corner_lists l) zeros zeros c t r
  marks_of l h =
      let same = laid_one m.0 l (sym m.1 ∙ h.are) in
      subst (λ k. Marks (corner_lists k) zeros zeros c t r) same m.2

  pub closed_twice : r ≡ false → TellsCutting n bytes false
  closed_twice q l h = never (marked_twice l c t least most h.each (marks_of l h) q)

  pub none_whole : r ≡ true → filled c 0 (n - 1) ≡ false → TellsCutting n bytes false
  none_whole q z l h = never (marked_whole l c t least most h.each (marks_of l h) q z)

  pub all_told : {s : Bool} → r ≡ true → filled c 0 (n - 1) ≡ true → FitsAll bytes c (set t (place 0 (n - 1)) 1) s →
      TellsCutting n bytes s
  all_told {s} q z k l h =
      let same = laid_one k.0 l (sym k.1 ∙ h.are) in
      told_by (subst (λ j. s ≡ all_fit c (set t (place 0 (n - 1)) 1) (corner_lists j)) same k.2)
      (marked_fits l c t least most h.each (marks_of l h) q z)
