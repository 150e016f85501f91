-- The promises of the stages under C names.
use Rattle.std.specs.Prelude.{◌≡◌, refl, Bool, true, false, ◌↔◌, List, [], ◌∷◌, ℕ, ◌≤◌, ℤ, length, ⊤}
use Rattle.std.specs.Prelude as std
use Rattle.std.proofs.Common.{sym, ap, ◌∙◌}
use Rattle.std.proofs.lemmas.Bool.{false≢true}
use Rattle.limits.specs.Limits.{fewest_corners, most_corners, all_cells, Roomy}
use Rattle.outline.specs.Drawing.{Sound}
use Rattle.drawing.specs.Judgement.{Judgement, first_number}
use Rattle.drawing.specs.Judging.{judge_unique}
use Rattle.drawing.specs.Sight.{Seen}
use Rattle.drawing.specs.Seen.{seen_unique}
use Rattle.drawing.specs.declared.Unsound.{Unsound}
use Rattle.rules.specs.Cells.{InBoth}
use Rattle.rules.specs.Refusals.{Line, line}
use Rattle.rules.specs.Plan.{Cuttable, stars_one}
use Rattle.rules.specs.Result.{Result, ComesBack}
use Rattle.rules.proofs.Result.{comes_back_unique}
use Rattle.cutting.specs.Answer.{MayCut, plan}

-- ---- the judgement: 01's number for a first drawing
pub record JudgesFirst (xy : List ℤ) (number : ℕ) : Type 0 where
  pub judged : std.Result ⊤ Unsound
  pub judgement : Judgement xy judged
  pub says : number ≡ first_number judged

-- no second number
pub judges_unique : (xy : List ℤ) (k k' : ℕ) → JudgesFirst xy k → JudgesFirst xy k' → k ≡ k'
judges_unique xy k k' x y =
    x.says ∙ ap first_number (judge_unique x.judged y.judged x.judgement y.judgement) ∙ sym y.says

-- ---- the sight: true exactly where the drawing is sound and there is room, and then every cell as `drawing::sight`
-- has it; else nothing is written
pub record Shows (xy : List ℤ) (before after : List ℕ) (r : Bool) : Type 0 where
  pub served : (r ≡ true) ↔ (Sound xy × (all_cells ≤ length before))
  pub seen : r ≡ true → Seen xy before after
  pub refused : r ≡ false → after ≡ before

-- no second answer and no second buffer
pub shows_unique : (xy : List ℤ) (o a b : List ℕ) (r s : Bool) → Shows xy o a r → Shows xy o b s → (r ≡ s) × (a ≡ b)
shows_unique xy o a b true true f g =
    (refl, seen_unique (f.served.0 refl).0.shaped.few (f.seen refl) (g.seen refl))
shows_unique xy o a b true false f g = absurd (false≢true (g.served.1 (f.served.0 refl)))
shows_unique xy o a b false true f g = absurd (false≢true (f.served.1 (g.served.0 refl)))
shows_unique xy o a b false false f g = (refl, f.refused refl ∙ sym (g.refused refl))

-- ---- the cutting: what comes back (01, "What comes back") by the cells of two drawings
-- 3 to 64 corners, and whole arrays of cells
pub record Served (n : ℕ) (first second : List ℕ) : Type 0 where
  pub enough : fewest_corners ≤ n
  pub few : n ≤ most_corners
  pub first_whole : all_cells ≤ length first
  pub second_whole : all_cells ≤ length second

-- the lines of 01's table that can apply: 1, 2 and 9
abbrev pub asked_of_cells : ℕ → List ℕ → List ℕ → ℕ → List Line
asked_of_cells n first second room =
    line 1 (Served n first second) ∷ line 2 (Roomy n room) ∷ line 9 (Cuttable (plan first second) n) ∷ []

abbrev pub Cuts : ℕ → List ℕ → List ℕ → List ℕ → Result → Type 0
Cuts n first second before r = ComesBack (asked_of_cells n first second (length before)) (plan first second) n before r

-- no second result and no second buffer
pub cuts_unique : (n : ℕ) (first second before : List ℕ) (r s : Result) →
    Cuts n first second before r → Cuts n first second before s → r ≡ s
cuts_unique n first second before =
    comes_back_unique (plan first second) (stars_one (MayCut first second) (InBoth first second)) n before
    (asked_of_cells n first second (length before))
