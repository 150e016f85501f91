-- `drawing::tell` meets its contract: what is told in the front of the cells is told in the cells, where they have
-- room.
use mathlib.Core.Path.{◌≡◌, sym, ap, subst, ◌∙◌}
use mathlib.Core.Logic.{by_cases}
use mathlib.Core.List.{List, ◌++◌}
use Prim.Native.Nat.{ℕ, ◌+◌, ◌-◌, ◌≤◌, ◌<◌}
use native.Mathlib.Decide.{dec_lt}
use lib.IntN.{ℤ}
use lib.ListN.{length, get_or, drop}
use Rattle.std.proofs.Common.{arith, length-append, length-drop, length-take-le}
use Rattle.std.proofs.lemmas.List.{get_or_append_left, get_or-append_right, get_or-drop, get_or-take}
use Rattle.std.specs.Array.{IsFirstChunk}
use Rattle.limits.specs.Limits.{most_corners, all_cells, place}
use Rattle.outline.specs.Drawing.{corners, Sees}
use Rattle.outline.specs.InOrOn.{CentreSees}
use Rattle.drawing.specs.Sight.{Cell, Seen, Told}
use Rattle.drawing.proofs.tell.Goals as goal

module _ {d : List ℤ} {o x t : List ℕ} (few : corners d ≤ most_corners) (front : IsFirstChunk o x all_cells)
    (seen : Seen d x t) where
  abbrev whole : List ℕ
  whole = t ++ drop all_cells o

  front_long : length t ≡ all_cells
  front_long = seen.size ∙ ap length front.same ∙ length-take-le all_cells o front.enough

  at_front : (k : ℕ) → k < all_cells → get_or whole k 0 ≡ get_or t k 0
  at_front k l = get_or_append_left t (drop all_cells o) 0 k (omega (arith, front_long, l))

  told : (i j : ℕ) → i < corners d → j < corners d → Cell (get_or whole (place i j) 0) (Sees d i j) (CentreSees d i j)
  told i j hi hj =
      subst (λ v. Cell v (Sees d i j) (CentreSees d i j)) (sym (at_front (place i j) (omega (arith, few, hi, hj))))
      (seen.told i j hi hj)

  kept : (k : ℕ) → ((i j : ℕ) → i < corners d → j < corners d → ¬ (k ≡ place i j)) → get_or whole k 0 ≡ get_or o k 0
  kept k n =
      by_cases (dec_lt k all_cells)
      (λ l. at_front k l ∙ seen.kept k n ∙ ap (λ z. get_or z k 0) front.same ∙ get_or-take all_cells o k 0 l)
      (λ m. let e : all_cells + (k - all_cells) ≡ k = omega (arith, m) in
      get_or-append_right t (drop all_cells o) all_cells k 0 front_long (omega (arith, m)) ∙
      get_or-drop all_cells o (k - all_cells) 0 ∙ ap (λ z. get_or o z 0) e)

  size : length whole ≡ length o
  size = omega (arith, length-append t (drop all_cells o), length-drop all_cells o, front_long, front.enough)

  told_front : Told d o whole
  told_front = record {
    seen = λ _. record { told = told; kept = kept; size = size };
    short = λ l. absurd (omega (arith, l, front.enough));
  }

pub returns-in-Some : goal.returns-in-Some
returns-in-Some c = told_front c.args.ring.sound.shaped.few c.in-Some.ensures.cases c.fill.ensures
