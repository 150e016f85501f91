-- The statement of a mark fixes what comes back: no second number, count, byte or landing satisfies it, down to the
-- bits of the two rests.
use Rattle.std.specs.Prelude as std
use Rattle.std.specs.Prelude.{Option, Some, None, Ok, Err, ◌≡◌, refl, List, [], ◌∷◌, ℕ, ◌<◌, ℤ, length}
use Rattle.std.proofs.Common.{sym, ap, ap₂, ◌∙◌, subst, inl, inr, arith}
use Rattle.std.proofs.Math.Decide.{dec_lt}
use Rattle.outline.specs.Drawing.{Point, corners}
use Rattle.rules.specs.Cutting.{pieces}
use Rattle.rules.specs.Centre.{Layout, layout_unique}
use Rattle.rules.proofs.Valid.{first_unique}
use Rattle.rules.specs.Plan.{Plan, OneCentre, stars_one}
use Rattle.rules.specs.Result.{Result, Given}
use Rattle.rules.proofs.Result.{comes_back_unique}
use Rattle.pair.specs.declared.Refusal.TheVariants as pair
use Rattle.desk.specs.Answer.{InBoth, Cut, plan}
use Rattle.desk.specs.Answer as answer
use Rattle.desk.specs.Unique as desk
use Rattle.desk.specs.declared.Refusal as refused
use Rattle.desk.specs.declared.Refusal.TheVariants as is
use Rattle.marks.specs.Wedges.{Wedge, wedges}
use Rattle.marks.specs.Lands.{LandsBy, Lands}
use Rattle.marks.specs.Carry.{asked_with_mark, wedges_given, number, CarriesMark, result_of, landing_of}
use Rattle.marks.specs.Flat.{flat, CarriesFlat}
use Rattle.marks.specs.OneWay.{told_same}
use Rattle.marks.specs.declared.Carried.{Carried}
use Rattle.marks.specs.declared.Place.{Place}
use Rattle.marks.specs.declared.Refusal.{Refusal}
use Rattle.marks.specs.declared.Refusal.TheVariants.{Pair, OutOfRange}
use Rattle.marks.specs.declared.flat.Flat.{Flat}

-- ---- one landing by some wedges
module _ (first second : List ℤ) (m : Point) where
  by_unique : (W : Wedge) (r s : Option Place) → LandsBy first second m W r → LandsBy first second m W s → r ≡ s
  by_unique W (Some a) (Some b) f g =
      let ax = told_same _ _ _ _ a.x b.x refl f.0 g.0 in
      let up = told_same _ _ _ _ a.y b.y refl f.1 g.1 in
      λ k. Some (record { x = ax k; y = up k })
  by_unique W None s f g = absurd f
  by_unique W (Some a) None f g = absurd g

  pub lands_unique : (l : List Wedge) (r s : Option Place) → Lands first second m l r → Lands first second m l s →
      r ≡ s
  lands_unique [] r s h k = h ∙ sym k
  lands_unique (W ∷ l) r s (inl h) (inl k) = by_unique W r s h.1 k.1
  lands_unique (W ∷ l) r s (inl h) (inr k) = absurd (k.0 h.0)
  lands_unique (W ∷ l) r s (inr h) (inl k) = absurd (h.0 k.0)
  lands_unique (W ∷ l) r s (inr h) (inr k) = lands_unique l r s h.1 k.1

-- ---- the wedges of one cutting
same_wedges : (p : Plan) → OneCentre p →
    (n : ℕ) (before : List ℕ) (r s : Result) (g : Given p n before r) (h : Given p n before s) →
    wedges_given g ≡ wedges_given h
same_wedges p one n before r s g h = ap₂ wedges told laid
  where
    told : pieces n g.cutting ≡ pieces n h.cutting
    told = first_unique p.cut p.piece p.weight n g.cutting h.cutting g.is_first h.is_first

    laid : g.carries.laid ≡ h.carries.laid
    laid =
        layout_unique p.centre one (pieces n h.cutting) g.carries.laid h.carries.laid
        (subst (λ l. Layout p.centre l g.carries.laid) told g.carries.layout) h.carries.layout

-- ---- a number names its refusal, and each is above zero
under_ten : (r : refused.Refusal) → answer.number r < 10
under_ten (is.Pair pair.Unlike) = omega arith
under_ten (is.Pair pair.FirstOutOfRange) = omega arith
under_ten (is.Pair pair.FirstNotSimple) = omega arith
under_ten (is.Pair pair.FirstNotAnticlockwise) = omega arith
under_ten (is.Pair pair.SecondOutOfRange) = omega arith
under_ten (is.Pair pair.SecondNotSimple) = omega arith
under_ten (is.Pair pair.SecondNotAnticlockwise) = omega arith
under_ten is.Room = omega arith
under_ten is.NoCutting = omega arith

pub some : (r : Refusal) → 0 < number r
some (Pair r) = (desk.name r).1
some OutOfRange = omega arith

refusal_one : (r s : Refusal) → number r ≡ number s → r ≡ s
refusal_one (Pair r) (Pair s) e = ap Pair (desk.refusal_one r s e)
refusal_one (Pair r) OutOfRange e = absurd (omega (arith, e, under_ten r))
refusal_one OutOfRange (Pair s) e = absurd (omega (arith, e, under_ten s))
refusal_one OutOfRange OutOfRange e = refl

-- so what a call returns is told from 01's result and the landing, and what it leaves
call_one : (c d : std.Result Carried Refusal) {after after' : List ℕ} → result_of c after ≡ result_of d after' →
    landing_of c ≡ landing_of d → (c ≡ d) × (after ≡ after')
call_one (Ok c) (Ok d) e l = (
  λ i. Ok (record { pieces = (e i).count; bytes = (e i).bytes; landing = l i }),
  ap (λ (r : Result). r.after) e,
)
call_one (Ok c) (Err s) e l = absurd (omega (arith, ap (λ (r : Result). r.number) e, some s))
call_one (Err r) (Ok d) e l = absurd (omega (arith, ap (λ (r : Result). r.number) e, some r))
call_one (Err r) (Err s) e l =
    (ap Err (refusal_one r s (ap (λ (x : Result). x.number) e)), ap (λ (r : Result). r.after) e)

-- ---- what comes back
module _ (first second : List ℤ) (m : Point) (before : List ℕ) where
  result_unique : (r s : Result) (x y : Option Place) → CarriesMark first second m before r x →
      CarriesMark first second m before s y → r ≡ s
  result_unique r s x y a b =
      comes_back_unique (plan first second) (stars_one (Cut first second) (InBoth first second)) (corners first) before
      (asked_with_mark first second m (length before)) r s a.comes_back b.comes_back

  landing_unique : (r s : Result) (x y : Option Place) → CarriesMark first second m before r x →
      CarriesMark first second m before s y → x ≡ y
  landing_unique r s x y a b = go (dec_lt 0 r.number)
    where
      e : r.number ≡ s.number
      e = ap (λ (t : Result). t.number) (result_unique r s x y a b)

      go : Dec (0 < r.number) → x ≡ y
      go (yes lt) = a.refused lt ∙ sym (b.refused (omega (arith, e)))
      go (no nl) =
          let z : r.number ≡ 0 = omega arith in
          let w : s.number ≡ 0 = omega (arith, e) in
          let same =
          same_wedges (plan first second) (stars_one (Cut first second) (InBoth first second)) (corners first) before
          r s
          (a.comes_back.given z) (b.comes_back.given w) in
          lands_unique first second m (wedges_given (b.comes_back.given w)) x y
          (subst (λ l. Lands first second m l x) same (a.lands z)) (b.lands w)

  -- so two calls return the same and leave the same buffer
  pub carry_unique : (c d : std.Result Carried Refusal) (after after' : List ℕ) →
      CarriesMark first second m before (result_of c after) (landing_of c) →
      CarriesMark first second m before (result_of d after') (landing_of d) → (c ≡ d) × (after ≡ after')
  carry_unique c d after after' a b =
      call_one c d (result_unique (result_of c after) (result_of d after') (landing_of c) (landing_of d) a b)
      (landing_unique (result_of c after) (result_of d after') (landing_of c) (landing_of d) a b)

  -- and so do two calls for C
  pub flat_unique : (f g : Flat) (after after' : List ℕ) → CarriesFlat first second m before after f →
      CarriesFlat first second m before after' g → (f ≡ g) × (after ≡ after')
  flat_unique f g after after' a b =
      let e = carry_unique a.carried b.carried after after' a.carries b.carries in
      (a.is_flat ∙ ap flat e.0 ∙ sym b.is_flat, e.1)
