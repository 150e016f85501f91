-- Laws of the loops over the corners of a piece and over the centres of a line.
use mathlib.Core.Path.{◌≡◌, refl, sym, ap, ap₂, subst, ◌∙◌}
use mathlib.Core.Bool.{Bool, true, false, ◌&&◌, ◌||◌}
use mathlib.Core.List.{List, [], ◌∷◌}
use Prim.Native.Nat.{ℕ, suc, ◌+◌, ◌-◌, ◌<◌, ◌≤◌, min}
use native.Mathlib.Omega.{arith}
use borrow.Author.Tests.{le-ltb, eq-eqb, ne_eqb}
use lib.Dec.{ltb, eqb}
use lib.ListN.{length}
use Rattle.std.specs.Prelude.{Option, Some, None, MatchOption}
use Rattle.std.specs.Option.{unwrap_or}
use Rattle.std.specs.Bool.{MatchBool}
use Rattle.std.specs.List.{range_with_len, AllWithin}
use Rattle.std.proofs.lemmas.List.FromFn.{length-range_with_len, get_or-range_with_len}
use Rattle.rules.specs.Cutting.{one}
use Rattle.limits.specs.Limits.{row}
use Rattle.cutting.specs.Rows.{none}
use Rattle.rules.specs.Columns.{costs}
use Rattle.rules.specs.Choice.{Sought, rest_of, fits, less, better, pick_from, pick_of}
use Rattle.rules.specs.Cells.{cell}
use Rattle.cutting.specs.Tracing.{or_row, next_in, rest_in, Next, fits_in, LowestFit}
use Rattle.cutting.proofs.Values.{clash}
use Rattle.rules.specs.Seek.{sought_unique, step_is, next_left, next_right}
use Rattle.rules.specs.Follow.{next_goes, rest_next, Goes}

-- ---- a search over a range, where the end stands for none
abbrev Found : (ℕ → Type 0) → (ℕ → Type 0) → ℕ → ℕ → Option ℕ → Type 0
Found Yes No lo hi r =
    MatchOption r ((k : ℕ) → lo ≤ k → k < hi → No k)
    (λ i. (lo ≤ i) × (i < hi) × Yes i × ((k : ℕ) → lo ≤ k → k < i → No k))

pub sought_found : (f : ℕ → ℕ) (v c t : ℕ) (r : Option ℕ) {s : ℕ} → c < t → s ≡ unwrap_or r t →
    Found (λ k. f k ≡ v) (λ k. ¬ (f k ≡ v)) (c + 1) t r → Sought f v c t s
sought_found f v c t None ct e h = rw e record {
  from = ct;
  to = omega arith;
  before = λ k kt ck. h k (omega arith) kt;
  hit = λ z. absurd (omega arith);
}
sought_found f v c t (Some i) ct e h = rw e record {
  from = omega (arith, h.0);
  to = omega (arith, h.1);
  before = λ k ki ck. h.3 k (omega arith) ki;
  hit = λ _. h.2;
}

pub lowest_found : (val left right : List ℕ) (i j : ℕ) (r : Option ℕ) {s : ℕ} → i ≤ j → s ≡ unwrap_or r j →
    Found (λ y. fits_in val left right i j y ≡ true) (λ y. fits_in val left right i j y ≡ false) i j r →
    LowestFit val left right i j s
lowest_found val left right i j None ij e h = rw e record {
  from = ij;
  to = omega arith;
  before = h;
  hit = λ z. absurd (omega arith);
}
lowest_found val left right i j (Some x) ij e h = rw e record {
  from = h.0;
  to = omega (arith, h.1);
  before = h.3;
  hit = λ _. h.2;
}

pub every_found : (next : ℕ → ℕ) (i j : ℕ) (b : Bool) (No : Type 0) →
    MatchBool b
    (AllWithin (λ a. next a ≡ suc a) (range_with_len i (j - i)) 0 (length (range_with_len i (j - i)))) No →
    b ≡ true → (a : ℕ) → i ≤ a → a < j → next a ≡ suc a
every_found next i j true No h e a ia aj =
    let k : i + (a - i) ≡ a = omega arith in
    subst (λ (z : ℕ). next z ≡ suc z) (get_or-range_with_len i (j - i) (a - i) 0 (omega arith) ∙ k)
    (h (a - i) 0 (omega arith) (omega (arith, length-range_with_len i (j - i))))
every_found next i j false No h e a ia aj = clash (sym e)

-- ---- what the code finds is the next corner
module _ {val left col : List ℕ} {x j c d : ℕ} (xj : x ≤ j) where
  next_is : c < j → d ≡ next_in val left col x j c → Next val left col x j c d
  unfolding Goes
  next_is h e =
      let q = next_goes none one (cell val) (cell left) (cell col) x j xj c h in
      record {
        after = omega (arith, q.0);
        within = omega (arith, q.1);
        is = e;
        rest =
            rest_next none one (cell val) (cell left) (cell col) x j c xj h
            ∙ ap (λ (k : ℕ). k ∷ rest_in val left col x j k) (sym e);
      }

  pub found_left : c < x → Sought (costs none (cell val) (cell left) x c) (cell left c x) c x d →
      Next val left col x j c d
  found_left h s =
      next_is (omega arith)
      (sought_unique _ _ s (step_is none (cell val) (cell left) x x c h)
      ∙ sym (next_left none one (cell val) (cell left) (cell col) x j c h))

  pub found_right : c < j → x ≤ c → Sought (costs none (cell val) (cell col) x c) (cell col c x) c j d →
      Next val left col x j c d
  found_right h l s =
      next_is h
      (sought_unique _ _ s (step_is none (cell val) (cell col) x j c h)
      ∙ sym (next_right none one (cell val) (cell left) (cell col) x j c l))

-- ---- the road of y compared with another, from the corners b and a on
module _ (val left col : ℕ → ℕ → ℕ) (y j : ℕ) {a b : ℕ} {s s' t : List ℕ} {z : Bool}
    (e : z ≡ less s t) (p : s ≡ a ∷ s') (q : t ≡ b ∷ rest_of none one val left col y j b) where
  pub less_on : a ≡ b → z ≡ less s' (rest_of none one val left col y j a)
  less_on h =
      e ∙ ap₂ less p q
      ∙ rw (le-ltb a b (omega arith), eq-eqb a b h)
      (ap (λ (k : ℕ). less s' (rest_of none one val left col y j k)) (sym h))

  pub less_at : ¬ (a ≡ b) → ltb a b ≡ z
  less_at h = sym (e ∙ ap₂ less p q ∙ go (ltb a b))
    where
      go : (t : Bool) → (t || (eqb a b && less s' (rest_of none one val left col y j b))) ≡ t
      go true = refl
      go false = rw (ne_eqb a b h) refl

pub less_end : (t : List ℕ) {s : List ℕ} {z : Bool} → z ≡ less s t → s ≡ [] → false ≡ z
less_end t e q = sym (e ∙ ap (λ l. less l t) q)

-- ---- does a centre fit, and the better of two
pub fits_is : (val left : ℕ → ℕ → ℕ) (right : ℕ → ℕ) (i j x : ℕ) {u v w s t : ℕ} → t ≡ min none (s + 1) →
    s ≡ min none (u + v) → u ≡ left i x → v ≡ right x → w ≡ val i j → eqb t w ≡ fits none one val left right i j x
unfolding fits
fits_is val left right i j x e f a b c =
    ap₂ eqb (e ∙ ap (λ (z : ℕ). min none (z + 1)) (f ∙ ap (λ (z : ℕ). min none z) (ap₂ ◌+◌ a b))) c

module _ (val left col : ℕ → ℕ → ℕ) (right : ℕ → ℕ) (i j b x : ℕ) where
  pub better_none : fits none one val left right i j x ≡ true → b ≡ row →
      x ≡ better none one val left col right i j b x
  unfolding better
  better_none f e = rw (f, eq-eqb b row e, better)

  pub better_less : fits none one val left right i j x ≡ true →
      less (rest_of none one val left col x j i) (rest_of none one val left col b j i) ≡ true →
      x ≡ better none one val left col right i j b x
  unfolding better
  better_less f l = go (eqb b row)
    where
      go : (p : Bool) →
          x ≡
          elim (fits none one val left right i j x
          && (p || less (rest_of none one val left col x j i) (rest_of none one val left col b j i)))
          [ true ↦ x | false ↦ b ]
      go true = rw f refl
      go false = rw (f, l) refl

  pub better_not : ¬ (b ≡ row) →
      less (rest_of none one val left col x j i) (rest_of none one val left col b j i) ≡ false →
      b ≡ better none one val left col right i j b x
  unfolding better
  better_not n l = go (fits none one val left right i j x)
    where
      go : (p : Bool) →
          b ≡
          elim (p && (eqb b row || less (rest_of none one val left col x j i) (rest_of none one val left col b j i)))
          [ true ↦ x | false ↦ b ]
      go true = rw (ne_eqb b row n, l) refl
      go false = refl

  pub better_unfit : fits none one val left right i j x ≡ false → b ≡ better none one val left col right i j b x
  unfolding better
  better_unfit f = rw (f, better)

-- ---- the centres from i on
pub pick_none : (val left col : ℕ → ℕ → ℕ) (right : ℕ → ℕ) (i j : ℕ) →
    row ≡ pick_from none one val left col right i j (i - i)
unfolding pick_from
pick_none val left col right i j = let e : 0 ≡ i - i = omega arith in ap (pick_from none one val left col right i j) e

pub pick_more : (val left col : ℕ → ℕ → ℕ) (right : ℕ → ℕ) (i j : ℕ) {x b r : ℕ} → i ≤ x →
    b ≡ pick_from none one val left col right i j (x - i) → r ≡ better none one val left col right i j b x →
    r ≡ pick_from none one val left col right i j (x + 1 - i)
unfolding pick_from
pick_more val left col right i j {x} ix e q =
    let k : x + 1 - i ≡ suc (x - i) = omega arith in
    let s : x ≡ i + (x - i) = omega arith in
    q ∙ ap₂ (λ (u y : ℕ). better none one val left col right i j u y) e s
    ∙ sym (ap (pick_from none one val left col right i j) k)

pub pick_end : (val left col : ℕ → ℕ → ℕ) (right : ℕ → ℕ) (i j : ℕ) {x b : ℕ} → i < j →
    b ≡ pick_from none one val left col right i j (x - i) → x ≡ j + 1 → b ≡ pick_of none one val left col right i j
pick_end val left col right i j {x} ij e h =
    let k : x - i ≡ suc (j - i) = omega arith in
    e ∙ ap (pick_from none one val left col right i j) k

-- a pick is none of row, but the one that is there
pub pick_there : {j : ℕ} (o : Option ℕ) → or_row o ≤ j → j < row → unwrap_or o j ≡ or_row o
pick_there None p jr = absurd (omega arith)
pick_there (Some x) p jr = refl
