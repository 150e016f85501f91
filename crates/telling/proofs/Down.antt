-- A search from the top of a range of numbers down: what it finds is the highest that passes.
use mathlib.Core.Path.{◌≡◌, sym, ap, subst, ◌∙◌}
use mathlib.Core.Bool.{Bool, true, false}
use mathlib.Core.List.{List, [], ◌∷◌}
use Prim.Native.Nat.{ℕ, ◌<◌, ◌≤◌}
use native.Mathlib.Omega.{arith}
use native.Mathlib.Decide.{dec_lt}
use mathlib.Core.Logic.{by_cases}
use denote.Param.Members.{Mut}
use denote.Ref.{Bor}
use Rattle.std.specs.Prelude.{Option, Some, None}
use Rattle.std.specs.Option.{MatchOption}
use Rattle.std.specs.Bool.{⊤}
use Rattle.std.specs.Fn.{CalledAt}
use Rattle.std.specs.List.{FoldsTo}
use Rattle.std.specs.Iterator.{Yields, YieldsThen}
use Rattle.std.specs.Iterator.Adapters.{rev_steps}
use Rattle.std.specs.declared.iter.Rev.{Rev}
use Rattle.std.specs.declared.ops.Range.{Range}
use Rattle.std.proofs.iter.runs.Sources.{nat_range_steps_back}

module _ {F : Type 0} {g : Mut F (Bor ℕ × Unit {0}) Bool} (f : F) (Yes No : ℕ → Type 0)
    (passes : (x : ℕ) (q : F) → CalledAt g f x true q → Yes x)
    (fails : (x : ℕ) (q : F) → CalledAt g f x false q → (q ≡ f) × No x) where
  -- the items that were passed over
  over : (xs : List ℕ) (s t : Rev (Range ℕ)) (j : F) → Yields (rev_steps nat_range_steps_back) s xs t →
      FoldsTo (λ p x q. CalledAt g p x false q) f xs j →
      (j ≡ f) × (t.iter.start ≡ s.iter.start) × (t.iter.end ≤ s.iter.end)
      × ((k : ℕ) → t.iter.end ≤ k → k < s.iter.end → No k)
  over [] s t j y h = (
    sym h,
    ap (λ (r : Rev (Range ℕ)). r.iter.start) (sym y),
    omega (arith, ap (λ (r : Rev (Range ℕ)). r.iter.end) y),
    λ k a b. absurd (omega (arith, ap (λ (r : Rev (Range ℕ)). r.iter.end) y)),
  )
  over (x ∷ xs) s t j y h =
      let first = fails x h.0 h.1 in
      let rest = over xs y.0 t j y.2 (subst (λ p. FoldsTo (λ p x q. CalledAt g p x false q) p xs j) first.0 h.2) in
      let at = y.1 in (
        rest.0,
        rest.1 ∙ at.0,
        omega (arith, rest.2, at.1.2),
        λ k a b. by_cases (dec_lt k y.0.iter.end) (λ l. rest.3 k a l)
            (λ n. subst No {x = x} {y = k} (omega (arith, n, b, at.1.1, at.1.2)) first.1),
      )

  pub down_found : (s u : Rev (Range ℕ)) (r : Option ℕ) →
      (xs : List ℕ) × (j : F) × YieldsThen (rev_steps nat_range_steps_back) s xs r u
      × FoldsTo (λ p x q. CalledAt g p x false q) f xs j × MatchOption r ⊤ (λ x. (h : F) × CalledAt g j x true h) →
      MatchOption r ((k : ℕ) → s.iter.start ≤ k → k < s.iter.end → No k)
      (λ t. (s.iter.start ≤ t) × (t < s.iter.end) × Yes t × ((k : ℕ) → t < k → k < s.iter.end → No k))
  down_found s u None d =
      let t = d.2.0 in
      let o = over d.0 s t d.1 d.2.1 d.3 in
      let last = d.2.2 in
      λ k a b. o.3 k (omega (arith, o.1, last.1.0, a)) b
  down_found s u (Some x) d =
      let t = d.2.0 in
      let o = over d.0 s t d.1 d.2.1 d.3 in
      let last = d.2.2 in (
        omega (arith, o.1, last.1),
        omega (arith, o.2, last.1),
        passes x d.4.0 (subst (λ p. CalledAt g p x true d.4.0) o.0 d.4.1),
        λ k a b. o.3 k (omega (arith, last.1, a)) b,
      )
