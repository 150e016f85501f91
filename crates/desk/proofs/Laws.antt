-- From the promises of `pair` and `drawing`, and from what comes back by cells, to the statement of the answer, where
-- none of lines 1 to 8 applies. Where one does, the check finds it alone.
use mathlib.Core.Path.{◌≡◌, subst}
use mathlib.Core.Logic.{◌↔◌, inl, inr}
use mathlib.Core.List.{List}
use Prim.Native.Nat.{ℕ, ◌/◌, ◌%◌, ◌≤◌, ◌<◌}
use native.Mathlib.Omega.{arith}
use lib.IntN.{ℤ}
use lib.ListN.{length}
use Rattle.limits.specs.Limits.{all_cells, Roomy}
use Rattle.outline.specs.Drawing.{corners, Sees}
use Rattle.outline.specs.InOrOn.{CentreSees}
use Rattle.drawing.specs.Sight.{Cell, Seen}
use Rattle.outline.specs.Seeing.{sees_mutual}
use Rattle.pair.specs.Pair.{Alike, of_drawings, Checks, FirstTold, SecondTold}
use Rattle.pair.specs.Passing.{SoundPair, equally_many}
use Rattle.pair.proofs.Passing.{drawings_hold, pair_passes}
use Rattle.rules.specs.Cutting.{Inner}
use Rattle.rules.specs.Cells as cells
use Rattle.rules.specs.Refusals.{FirstFailed, put_in}
use Rattle.rules.specs.Result.{Result}
use Rattle.rules.specs.Agree.{Agree, stars_agree}
use Rattle.rules.proofs.Agree.{cuttable_same, given_same}
use Rattle.cutting.specs.Answer as cutting
use Rattle.cutting.specs.Answer.{MayCut}
use Rattle.desk.specs.Answer.{InBoth, Cut, plan, of_cutting, asked, Answers}
use Rattle.desk.specs.Stages.{asked_of_cells, Cuts}

-- ---- the cells of both drawings are their sight
-- the engine reads any cell; of one that tells sight the half is 0 or 1
cell_centre : {v : ℕ} {P Q : Type 0} → Cell v P Q → (v / 2 % 2 ≡ 1) ↔ Q
cell_centre {v} c =
    let small = c.small in
    ((λ e. c.two.0 (omega (arith, e, small))), (λ q. let e = c.two.1 q in omega (arith, e)))

module _ {first second : List ℤ} (pair : SoundPair first second) (first_cells second_cells before₁ before₂ : List ℕ)
    (seen₁ : Seen first before₁ first_cells) (seen₂ : Seen second before₂ second_cells) where
  module _ (x y : ℕ) (p : x < corners first) (q : y < corners first) where
    told₁ : Cell (cells.cell first_cells x y) (Sees first x y) (CentreSees first x y)
    told₁ = seen₁.told x y p q

    told₂ : Cell (cells.cell second_cells x y) (Sees second x y) (CentreSees second x y)
    told₂ = let e = equally_many pair.alike in seen₂.told x y (omega (arith, e)) (omega (arith, e))

    sight_is : cells.InBoth first_cells second_cells x y ↔ InBoth first second x y
    sight_is =
        let f = cell_centre told₁ in
        let g = cell_centre told₂ in
        ((λ s. (f.0 s.0, g.0 s.1)), (λ s. (f.1 s.0, g.1 s.1)))

    -- a cut is read at one cell; its sight is mutual
    cut_is : MayCut first_cells second_cells x y ↔ Cut first second x y
    cut_is =
        let f = told₁.one in
        let g = told₂.one in (
          (λ s. let b = f.0 s.0 in let c = g.0 s.1 in ((b, c), (sees_mutual b, sees_mutual c))),
          (λ s. (f.1 s.0.0, g.1 s.0.1)),
        )

  cuts_are : (x y : ℕ) → Inner (corners first) x y → MayCut first_cells second_cells x y ↔ Cut first second x y
  cuts_are x y i = cut_is x y (omega (arith, i.rises, i.small)) i.small

  plans_agree : Agree (corners first) (cutting.plan first_cells second_cells) (plan first second)
  plans_agree = stars_agree cuts_are sight_is

  -- what comes back by the cells comes back for the drawings
  pub looked : (before : List ℕ) (r : Result) → Roomy (corners first) (length before) →
      all_cells ≤ length first_cells → all_cells ≤ length second_cells →
      Cuts (corners first) first_cells second_cells before r → Answers first second before r
  looked before r roomy p q c = record {
    numbered = last_line r.number (last c.numbered);
    refused = c.refused;
    given = λ z. given_same plans_agree pair.alike.enough before r (c.given z);
  }
    where
      a : Alike first second
      a = pair.alike

      -- a pair that passes the lines before it fails at the last line of the table, or not at all
      last_line : (k : ℕ) → FirstFailed (of_cutting first second) k →
          FirstFailed (asked first second (length before)) k
      last_line k f =
          let d = drawings_hold first second pair.first_sound pair.second_sound in
          inr (a, inr (roomy, put_in (of_drawings first second) (of_cutting first second) k d f))

      last : FirstFailed (asked_of_cells (corners first) first_cells second_cells (length before)) r.number →
          FirstFailed (of_cutting first second) r.number
      last (inl f) = absurd (f.0 (record { enough = a.enough; few = a.few; first_whole = p; second_whole = q }))
      last (inr (s, inl f)) = absurd (f.0 roomy)
      last (inr (s, inr (t, inl f))) = inl ((λ d. f.0 ((cuttable_same plans_agree).1 d)), f.1)
      last (inr (s, inr (t, inr f))) = inr ((cuttable_same plans_agree).0 f.0, f.1)

-- ---- where none of lines 1 and 3 to 8 applies, both drawings are sound, and their sight is told where there is room
module _ {first second : List ℤ} {k : ℕ} (checks : Checks first second k) (z : k ≡ 0) where
  pub sound : SoundPair first second
  sound = pair_passes first second (subst (Checks first second) z checks)

  pub first_seen : {o a : List ℕ} → length o ≡ all_cells → FirstTold first second o a → Seen first o a
  first_seen e t = (t.told sound.alike sound.first_sound).seen (omega arith)

  pub second_seen : {o a : List ℕ} → length o ≡ all_cells → SecondTold second k o a → Seen second o a
  second_seen e t = (t.told z).seen (omega arith)
