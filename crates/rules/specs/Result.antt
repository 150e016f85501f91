-- What comes back: document 01, "What comes back", over any table of refusals and any plan. These definitions have to
-- be believed; the theorem is that they leave nothing open.
-- (The theorems that follow are in proofs/, under the same name.)
use Rattle.std.specs.Prelude.{◌≡◌, List, ◌++◌, ℕ, ◌<◌, length, drop}
use Rattle.std.proofs.Common.{sym, ap, ◌∙◌}
use Rattle.rules.specs.Cutting.{Pairs, pieces}
use Rattle.rules.specs.Centre.{Layout, layout_unique}
use Rattle.rules.specs.Refusals.{Line, FirstFailed}
use Rattle.rules.specs.Plan.{Plan, FirstBy}

-- "The result has a number, a count of pieces and a count of bytes used." With them, what is in the answer buffer
-- then.
pub record Result : Type 0 where
  pub number : ℕ
  pub count : ℕ
  pub bytes : ℕ
  pub after : List ℕ

-- "Numbers 1 to 9 come with 0 pieces and 0 bytes used, and the answer buffer keeps every byte."
pub record Refused (before : List ℕ) (r : Result) : Type 0 where
  pub no_pieces : r.count ≡ 0
  pub no_bytes : r.bytes ≡ 0
  pub kept : r.after ≡ before

-- the result carries some pieces: their count, their bytes in 01's layout, and "the bytes after those used keep their
-- values"
pub record Carries (centre : ℕ → List ℕ → Type 0) (told : List (List ℕ)) (before : List ℕ) (r : Result) : Type 0 where
  pub laid : List ℕ
  pub layout : Layout centre told laid
  pub counted : r.count ≡ length told
  pub used : r.bytes ≡ length laid
  pub written : r.after ≡ laid ++ drop (length laid) before

-- "0 | otherwise: the cutting is given": the first of the smallest
pub record Given (p : Plan) (n : ℕ) (before : List ℕ) (r : Result) : Type 0 where
  pub cutting : Pairs
  pub is_first : FirstBy p n cutting
  pub carries : Carries p.centre (pieces n cutting) before r

-- the number by the lines, and what each number brings
pub record ComesBack (lines : List Line) (p : Plan) (n : ℕ) (before : List ℕ) (r : Result) : Type 0 where
  pub numbered : FirstFailed lines r.number
  pub refused : 0 < r.number → Refused before r
  pub given : r.number ≡ 0 → Given p n before r

-- ---- no second result
result_is : (r s : Result) → r.number ≡ s.number → r.count ≡ s.count → r.bytes ≡ s.bytes →
    r.after ≡ s.after → r ≡ s
result_is r s k c b a = λ i. record { number = k i; count = c i; bytes = b i; after = a i }

pub refused_unique : (before : List ℕ) (r s : Result) → r.number ≡ s.number → Refused before r →
    Refused before s → r ≡ s
refused_unique before r s e g h =
    result_is r s e (g.no_pieces ∙ sym h.no_pieces) (g.no_bytes ∙ sym h.no_bytes) (g.kept ∙ sym h.kept)

pub carries_unique : (centre : ℕ → List ℕ → Type 0) → ((S : List ℕ) (x y : ℕ) → centre x S → centre y S → x ≡ y) →
    (told : List (List ℕ)) (before : List ℕ) (r s : Result) → r.number ≡ s.number →
    Carries centre told before r → Carries centre told before s → r ≡ s
carries_unique centre one told before r s e g h =
    let l = layout_unique centre one told g.laid h.laid g.layout h.layout in
    result_is r s e (g.counted ∙ sym h.counted) (g.used ∙ ap length l ∙ sym h.used)
    (g.written ∙ ap (λ x. x ++ drop (length x) before) l ∙ sym h.written)
