-- Another buffer: with more room, or with other bytes in it, the same comes back (`moved`: the same number, counts
-- and bytes, and after these what that buffer held), unless it was refused for room; and what was refused for room is
-- refused with less.
use Rattle.std.specs.Prelude.{◌≡◌, refl, List, [], ◌++◌, ℕ, ◌≤◌, ℤ, length, drop}
use Rattle.std.proofs.Common.{subst, inl, inr, arith, take_at}
use Rattle.pair.specs.Pair.{of_drawings}
use Rattle.rules.specs.Refusals.{Line, FirstFailed, passed}
use Rattle.rules.specs.Result.{Result}
use Rattle.rules.specs.OtherBuffer.{moved, comes_back_moved}
use Rattle.desk.specs.Answer.{of_cutting, asked, Answers}
use Rattle.desk.specs.Unique.{answer_unique}
use Rattle.demands.specs.Program.{Expected, writing, Gives}

module _ (first second : List ℤ) (before before' : List ℕ) where
  abbrev Here : ℕ → Type 0
  Here k = FirstFailed (asked first second (length before)) k

  abbrev There : ℕ → Type 0
  There k = FirstFailed (asked first second (length before')) k

  pub more_room : (r : Result) → ¬ (r.number ≡ 2) → length before ≤ length before' →
      Answers first second before r → Answers first second before' (moved r before')
  more_room r n le a = comes_back_moved (asked first second (length before')) before' r a (go a.numbered)
    where
      go : Here r.number → There r.number
      go (inl f) = inl f
      go (inr (al, inl f)) = absurd (n f.1)
      go (inr (al, inr (room, f))) = inr (al, inr (omega (arith, room, le), f))

  pub less_room : (r : Result) → r.number ≡ 2 → length before' ≤ length before →
      Answers first second before r → Answers first second before' (moved r before')
  less_room r e le a = comes_back_moved (asked first second (length before')) before' r a (go a.numbered)
    where
      go : Here r.number → There r.number
      go (inl f) = absurd (omega (arith, f.1, e))
      go (inr (al, inl f)) = inr (al, inl ((λ room. f.0 (omega (arith, room, le))), f.1))
      go (inr (al, inr (room, f))) = absurd (omega (arith, e, (passed later [] r.number (omega arith) f).1))
        where
          later : List Line
          later = of_drawings first second ++ of_cutting first second

  -- so any other result is this one
  pub more_room_results : (r s : Result) → ¬ (r.number ≡ 2) → length before ≤ length before' →
      Answers first second before r → Answers first second before' s → s ≡ moved r before'
  more_room_results r s n le a b = answer_unique first second before' s (moved r before') b (more_room r n le a)

-- ---- and a result by its bytes
module _ (first second : List ℤ) (before before' : List ℕ) (e : Expected) where
  written_there : moved (writing e before) before' ≡ writing e before'
  written_there =
      let m = length e.laid in
      let same = take_at e.laid (drop m before) m refl in
      λ i. record { number = e.number; count = e.count; bytes = m; after = same i ++ drop m before' }

  pub gives_more : ¬ (e.number ≡ 2) → length before ≤ length before' →
      Gives first second before e → Gives first second before' e
  gives_more n le g =
      subst (Answers first second before') written_there (more_room first second before before' _ n le g)

  pub gives_less : e.number ≡ 2 → length before' ≤ length before →
      Gives first second before e → Gives first second before' e
  gives_less n le g =
      subst (Answers first second before') written_there (less_room first second before before' _ n le g)
