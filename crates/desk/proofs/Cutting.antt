-- From the promises of `cutting` and `telling` to what comes back by the cells of two drawings, where a cutting was
-- found. Where none was, or the lines before apply, the check finds it alone.
use mathlib.Core.Path.{◌≡◌, refl}
use mathlib.Core.Logic.{inr}
use mathlib.Core.List.{List}
use Prim.Native.Nat.{ℕ, ◌≤◌}
use native.Mathlib.Omega.{arith}
use lib.ListN.{length}
use Rattle.limits.specs.Limits.{all_cells, Roomy}
use Rattle.rules.specs.Cells.{marked}
use Rattle.rules.specs.Plan.{FirstBy}
use Rattle.std.specs.Prelude.{Ok}
use Rattle.std.specs.Prelude as std
use Rattle.cutting.specs.Answer as cutting
use Rattle.cutting.specs.declared.Refusal.{Refusal}
use Rattle.telling.specs.Answer as telling
use Rattle.telling.specs.declared.Told.{Told}
use Rattle.telling.specs.First.{served_told, first_given}
use Rattle.desk.specs.Answer.{result_of}
use Rattle.desk.specs.Stages.{Served, Cuts}

-- the first smallest cutting of the cells stands in `pairs`
pub record FirstMarked (n : ℕ) (first second pairs : List ℕ) : Type 0 where
  pub served : Served n first second
  pub whole : all_cells ≤ length pairs
  pub is_first : FirstBy (cutting.plan first second) n (marked pairs)

module _ {n : ℕ} {first second : List ℕ} where
  pub searched_marked : {pairs pairs' : List ℕ} {r : std.Result Unit Refusal} → Served n first second →
      length pairs ≡ all_cells → cutting.Searches n first second pairs pairs' r → cutting.number r ≡ 0 →
      FirstMarked n first second pairs'
  searched_marked s size h e =
      let m = h.found e in
      record { served = s; whole = omega (arith, m.size); is_first = m.is_first }

  pub cut_0 : {pairs before after : List ℕ} {t : Told} → FirstMarked n first second pairs → Roomy n (length before) →
      telling.Telling n pairs first second before (telling.result_of (Ok t) after) →
      Cuts n first second before (result_of (Ok t) after)
  cut_0 {pairs} m roomy h =
      let s = m.served in
      let told = served_told (record {
        enough = s.enough;
        few = s.few;
        pairs_whole = m.whole;
        first_whole = s.first_whole;
        second_whole = s.second_whole;
      }) roomy h in
      record {
        numbered = inr (s, inr (roomy, inr ((marked pairs, m.is_first.valid), refl)));
        refused = λ lt. absurd (omega arith);
        given = λ z. first_given s.enough m.is_first told.1;
      }
