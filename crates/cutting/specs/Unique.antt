-- No second result and no second array satisfy what `search` promises.
use Rattle.std.specs.Prelude.{◌≡◌, refl, Result, Ok, Err, List, ℕ, zero, suc, ◌-◌, ◌*◌, ◌<◌, ◌≤◌, get_or}
use Rattle.std.proofs.Common.{sym, ap, subst, ◌∙◌, inl, inr, arith, ext_get_or}
use Rattle.std.proofs.Math.Decide.{dec_lt}
use Rattle.limits.specs.Limits.{fewest_corners, row, all_cells, place}
use Rattle.rules.specs.Cutting.{Pairs, one}
use Rattle.rules.specs.Centre.{HasCentre}
use Rattle.rules.specs.Cells.{InBoth, marked}
use Rattle.rules.specs.Refusals.{FirstFailed, failed_unique}
use Rattle.rules.specs.Valid.{same_set}
use Rattle.rules.proofs.Valid.{first_same}
use Rattle.cutting.specs.Answer.{MayCut, number, Served, asked, bit, Marks, Searches}
use Rattle.cutting.specs.declared.Refusal.{Refusal}
use Rattle.cutting.specs.declared.Refusal.TheVariants.{Unserved, NoCutting}

-- every cell is that of a pair
placed : (f k : ℕ) → k < f * row → (a : ℕ) × (b : ℕ) × (a < f) × (b < row) × (place a b ≡ k)
placed zero k h = absurd (omega arith)
placed (suc f) k h = go (dec_lt k (f * row)) (placed f k)
  where
    go : Dec (k < f * row) → (k < f * row → (a : ℕ) × (b : ℕ) × (a < f) × (b < row) × (place a b ≡ k)) →
        (a : ℕ) × (b : ℕ) × (a < suc f) × (b < row) × (place a b ≡ k)
    go (yes l) r = let z = r l in (z.0, z.1, omega (arith, z.2), z.3, z.4)
    go (no l) r = (f, k - f * row, omega arith, omega arith, omega arith)

marks_unique : (n : ℕ) (first second before p q : List ℕ) → fewest_corners ≤ n → Marks n first second before p →
    Marks n first second before q → p ≡ q
marks_unique n first second before p q three f g =
    ext_get_or 0 p q (f.size ∙ sym g.size) (λ k h. at k (dec_lt k all_cells))
  where
    same : marked p ≡ marked q
    same =
        same_set (marked p) (marked q)
        (first_same (MayCut first second) (HasCentre (InBoth first second)) one n (marked p) (marked q) three
        f.is_first g.is_first)

    at : (k : ℕ) → Dec (k < all_cells) → get_or p k 0 ≡ get_or q k 0
    at k (yes h) =
        let z = placed row k h in
        subst (λ (x : ℕ). get_or p x 0 ≡ get_or q x 0) z.4
        (f.cells z.0 z.1 z.2 z.3 ∙ ap (λ (C : Pairs). bit (C z.0 z.1)) same
        ∙ sym (g.cells z.0 z.1 z.2 z.3))
    at k (no h) = f.beyond k (omega arith) ∙ sym (g.beyond k (omega arith))

-- what is found was served
found_served : {n : ℕ} {first second before : List ℕ} → FirstFailed (asked n first second before) 0 →
    Served n first second before
found_served (inl f) = absurd (omega (arith, f.1))
found_served (inr f) = f.0

-- a case has its own number
one_case : (r r' : Result Unit Refusal) → number r ≡ number r' → r ≡ r'
one_case (Ok _) (Ok _) e = refl
one_case (Err Unserved) (Err Unserved) e = refl
one_case (Err NoCutting) (Err NoCutting) e = refl
one_case (Err Unserved) (Err NoCutting) e = absurd (omega (arith, e))
one_case (Err Unserved) (Ok _) e = absurd (omega (arith, e))
one_case (Err NoCutting) (Err Unserved) e = absurd (omega (arith, e))
one_case (Err NoCutting) (Ok _) e = absurd (omega (arith, e))
one_case (Ok _) (Err Unserved) e = absurd (omega (arith, e))
one_case (Ok _) (Err NoCutting) e = absurd (omega (arith, e))

module _ (n : ℕ) (first second before after after' : List ℕ) (r r' : Result Unit Refusal) where
  pub search_unique : Searches n first second before after r → Searches n first second before after' r' →
      (r ≡ r') × (after ≡ after')
  search_unique h k = (one_case r r' e, go (dec_lt 0 (number r)))
    where
      e : number r ≡ number r'
      e = failed_unique (asked n first second before) (number r) (number r') h.numbered k.numbered

      go : Dec (0 < number r) → after ≡ after'
      go (yes lt) = h.kept lt ∙ sym (k.kept (omega (arith, e)))
      go (no nl) =
          let z : number r ≡ 0 = omega arith in
          let s = found_served (subst (FirstFailed (asked n first second before)) z h.numbered) in
          marks_unique n first second before after after' s.fewest (h.found z) (k.found (sym e ∙ z))
