-- What comes back does not hang on what the buffer held: in another buffer the number, the counts and the bytes used
-- are the same, and the bytes after them are that buffer's own.
use Rattle.std.specs.Prelude.{◌≡◌, refl, List, ◌++◌, ℕ, zero, suc, length, take, drop}
use Rattle.std.proofs.Common.{sym, ap, ap₂, ◌∙◌, arith, take_at}
use Rattle.rules.specs.Refusals.{Line, FirstFailed}
use Rattle.rules.specs.Plan.{Plan}
use Rattle.rules.specs.Result.{Result, Refused, Carries, Given, ComesBack}

-- r in another buffer
abbrev pub moved : Result → List ℕ → Result
moved r before' = record {
  number = r.number;
  count = r.count;
  bytes = r.bytes;
  after = take r.bytes r.after ++ drop r.bytes before';
}

module _ {centre : ℕ → List ℕ → Type 0} {told : List (List ℕ)} {before : List ℕ} {r : Result}
    (g : Carries centre told before r) where
  laid_is : take r.bytes r.after ≡ g.laid
  laid_is =
      ap (take r.bytes) g.written ∙ take_at g.laid (drop (length g.laid) before) r.bytes (sym g.used)

  carries_moved : (before' : List ℕ) → Carries centre told before' (moved r before')
  carries_moved before' = record {
    laid = g.laid;
    layout = g.layout;
    counted = g.counted;
    used = g.used;
    written = ap₂ (λ l (k : ℕ). l ++ drop k before') laid_is g.used;
  }

given_moved : {p : Plan} {n : ℕ} {before : List ℕ} {r : Result} → Given p n before r → (before' : List ℕ) →
    Given p n before' (moved r before')
given_moved g before' =
    record { cutting = g.cutting; is_first = g.is_first; carries = carries_moved g.carries before' }

refused_moved : {before : List ℕ} {r : Result} → Refused before r → (before' : List ℕ) →
    Refused before' (moved r before')
refused_moved {r} h before' = record {
  no_pieces = h.no_pieces;
  no_bytes = h.no_bytes;
  kept = ap (λ (k : ℕ). take k r.after ++ drop k before') h.no_bytes;
}

-- another buffer, and lines with the same number
pub comes_back_moved : {lines : List Line} (lines' : List Line) {p : Plan} {n : ℕ} {before : List ℕ}
    (before' : List ℕ) (r : Result) →
    ComesBack lines p n before r → FirstFailed lines' r.number → ComesBack lines' p n before' (moved r before')
comes_back_moved lines' before' r h f = record {
  numbered = f;
  refused = λ lt. refused_moved (h.refused lt) before';
  given = λ z. given_moved (h.given z) before';
}

-- the bytes used are the same
pub same_bytes : {lines : List Line} {p : Plan} {n : ℕ} {before : List ℕ} (before' : List ℕ) (r : Result) →
    ComesBack lines p n before r →
    take r.bytes (moved r before').after ≡ take r.bytes r.after
same_bytes before' r h = go r.number refl
  where
    go : (k : ℕ) → r.number ≡ k → take r.bytes (moved r before').after ≡ take r.bytes r.after
    go zero e =
        let g = (h.given e).carries in
        take_at (take r.bytes r.after) (drop r.bytes before') r.bytes
        (ap length (laid_is g) ∙ sym g.used)
    go (suc k) e =
        ap (λ (b : ℕ). take b (moved r before').after) (none e) ∙ sym (ap (λ (b : ℕ). take b r.after) (none e))
      where
        none : r.number ≡ suc k → r.bytes ≡ 0
        none e = (h.refused (omega (arith, e))).no_bytes
