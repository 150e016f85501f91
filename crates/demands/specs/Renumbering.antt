-- Demand 3, the third part: renumbering both drawings from another shared corner, any number of steps on. For the
-- same room the answer has the same number, so the same refusal, and as many pieces, so as many bytes. The bytes
-- themselves may differ: which of the smallest cuttings comes first depends on the numbers.
use Rattle.std.specs.Prelude.{◌≡◌, List, ℕ, ◌+◌, ◌*◌, ◌≤◌, ◌<◌, ℤ, pos, length, ◌<ℤ◌}
use Rattle.std.proofs.Common.{sym, ◌∙◌, subst, arith}
use Rattle.std.proofs.Math.Decide.{dec_lt}
use Rattle.outline.specs.Drawing.{corners}
use Rattle.pair.specs.Pair.{Alike}
use Rattle.rules.specs.Cutting.{pieces}
use Rattle.rules.specs.Centre.{layout_size}
use Rattle.rules.specs.Trees.{weight_one}
use Rattle.rules.proofs.Count.{pieces_size}
use Rattle.rules.specs.Refusals.{FirstFailed, failed_unique, same_failed}
use Rattle.rules.specs.Result.{Result, Given}
use Rattle.desk.specs.Answer.{plan, asked, Answers}
use Rattle.demands.specs.Entered.{turned_by}
use Rattle.demands.specs.Renumbered.{length_turned_by, in_range_turned_by, simple_turned_by, area_turned_by}
use Rattle.demands.specs.RenumberedCuttings.{NoMore, no_more_turned_by, no_more_back_by}
use Rattle.demands.specs.Lines.{given_alike}
use Rattle.demands.specs.SameAnswer.{SameJudged, SameLines, alike_by_length, same_lines}
use Rattle.demands.specs.Program.{Program, Meets}

-- ---- what is given
abbrev GivenFor : List ℤ → List ℤ → List ℕ → Result → Type 0
GivenFor first second before r = Given (plan first second) (corners first) before r

-- the fewest pieces do not become more
fewest : (first second first' second' : List ℤ) (before before' : List ℕ) (r s : Result) →
    NoMore first second first' second' →
    GivenFor first second before r → GivenFor first' second' before' s → s.count ≤ r.count
fewest first second first' second' before before' r s no_more g g' =
    let D = no_more g.cutting g.is_first.valid in
    omega (
      arith,
      g.carries.counted,
      g'.carries.counted,
      g'.is_first.least D.0 D.1,
      weight_one (pieces (corners first') g'.cutting),
      weight_one (pieces (corners first') D.0),
    )

-- the count of pieces tells how many bytes they take
taken : (first second : List ℤ) (before : List ℕ) (r : Result) → 3 ≤ corners first → GivenFor first second before r →
    r.bytes + 2 ≡ 4 * r.count + corners first
taken first second before r three g =
    omega (
      arith,
      g.carries.counted,
      g.carries.used,
      layout_size (plan first second).centre (pieces (corners first) g.cutting) g.carries.laid
          g.carries.layout,
      pieces_size (corners first) g.cutting three g.is_first.valid.uncrossed,
    )

-- ---- the lines of the table
judged_turned : (k : ℕ) (d : List ℤ) → length d ≡ 2 * corners d → SameJudged d (turned_by k d)
judged_turned k d even =
    let e = area_turned_by k d even in
    record {
      in_range = in_range_turned_by k d even;
      simple = simple_turned_by k d even;
      anticlockwise = (subst (λ z. pos 0 <ℤ z) (sym e), subst (λ z. pos 0 <ℤ z) e);
    }

module _ (k : ℕ) (first second : List ℤ) where
  abbrev first' : List ℤ
  first' = turned_by k first

  abbrev second' : List ℤ
  second' = turned_by k second

  lines : Alike first second → SameLines first second first' second'
  lines a = record {
    many = omega (arith, length_turned_by k first);
    judged_first = judged_turned k first a.even;
    judged_second = judged_turned k second (omega arith);
    cuttable = (
      λ c. let d = no_more_turned_by k first second a c.0 c.1 in (d.0, d.1),
      λ c. let d = no_more_back_by k first second a c.0 c.1 in (d.0, d.1),
    );
  }

  -- the same room: what the buffers hold is left open
  pub renumbering : (before before' : List ℕ) (r s : Result) → length before ≡ length before' →
      Answers first second before r →
      Answers (turned_by k first) (turned_by k second) before' s →
      (r.number ≡ s.number) × (r.count ≡ s.count) × (r.bytes ≡ s.bytes)
  renumbering before before' r s room h g = let c = counts (dec_lt 0 r.number) in (same, c.0, c.1)
    where
      same : r.number ≡ s.number
      same =
          failed_unique (asked first' second' (length before')) r.number s.number
          (subst (λ m. FirstFailed (asked first' second' m) r.number) room
          (same_failed (same_lines first second first' second' (length before)
          (alike_by_length (length_turned_by k first) (length_turned_by k second)) lines) r.number h.numbered))
          g.numbered

      counts : Dec (0 < r.number) → (r.count ≡ s.count) × (r.bytes ≡ s.bytes)
      counts (yes lt) =
          let p = h.refused lt in
          let q = g.refused (omega (arith, same)) in
          (p.no_pieces ∙ sym q.no_pieces, p.no_bytes ∙ sym q.no_bytes)
      counts (no nl) =
          let z : r.number ≡ 0 = omega arith in
          let a = given_alike first second (length before) r.number z h.numbered in
          let p = h.given z in
          let q = g.given (sym same ∙ z) in
          let many = (lines a).many in
          let no_more =
          fewest first second first' second' before before' r s (no_more_turned_by k first second a) p q in
          let no_fewer =
          fewest first' second' first second before' before s r (no_more_back_by k first second a) q p in (
            omega arith,
            omega
                (arith, taken first second before r a.enough p, taken first' second' before' s (omega arith) q),
          )

  -- so every program that meets the statement gives the same number and counts for the renumbered drawings
  pub renumbering_program : (p : Program) → Meets p → (before before' : List ℕ) → length before ≡ length before' →
      let r = p first second before in
      let s = p (turned_by k first) (turned_by k second) before' in
      (r.number ≡ s.number) × (r.count ≡ s.count) × (r.bytes ≡ s.bytes)
  renumbering_program p m before before' room =
      renumbering before before' _ _ room (m.answers first second before)
      (m.answers (turned_by k first) (turned_by k second) before')
