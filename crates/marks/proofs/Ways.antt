-- The three ways out of `carry`: the mark is out of range, the pair is refused, the mark is carried.
use Rattle.std.specs.Prelude.{Option, None, Ok, Err}
use mathlib.Core.Path.{◌≡◌, refl, sym, ap, ◌∙◌, subst}
use mathlib.Core.Logic.{inl, inr}
use mathlib.Core.List.{List, [], ◌∷◌}
use Prim.Native.Nat.{ℕ, ◌≤◌, ◌<◌}
use native.Mathlib.Omega.{arith}
use native.Mathlib.Decide.{ℕ_discrete}
use lib.IntN.{ℤ}
use lib.ListN.{length, take, drop, length-append}
use lib.Seq.{take_at}
use Rattle.outline.specs.Drawing.{Point, corners}
use Rattle.pair.specs.Passing.{SoundPair}
use Rattle.pair.proofs.Passing.{sound_pair}
use Rattle.rules.specs.Lists.{In}
use Rattle.rules.specs.Cutting.{pieces}
use Rattle.rules.specs.Centre.{Layout}
use Rattle.rules.proofs.Regions.{pieces_regions}
use Rattle.rules.specs.Refusals.{FirstFailed, all_hold, longer, put_in}
use Rattle.rules.specs.Result.{Result, Given}
use Rattle.desk.specs.Answer as desk
use Rattle.desk.specs.declared.Refusal as pair
use Rattle.marks.specs.Wedges.{wedges}
use Rattle.marks.specs.Lands.{Lands}
use Rattle.marks.specs.Carry.{MarkInRange, of_mark, asked_with_mark, wedges_given, number, CarriesMark, result_of}
use Rattle.marks.specs.Unique.{some}
use Rattle.marks.specs.Parts.{Outside, Spells, Read, Finds}
use Rattle.marks.specs.declared.Carried.{Carried}
use Rattle.marks.specs.declared.Place.{Place}
use Rattle.marks.specs.declared.Refusal.{Refusal}
use Rattle.marks.specs.declared.Refusal.TheVariants.{Pair}

-- ---- a pair that is cut
pub sound_of : {first second : List ℤ} (room : ℕ) → FirstFailed (desk.asked first second room) 0 →
    SoundPair first second
sound_of {first} {second} room f =
    let h = all_hold (desk.asked first second room) (omega arith) f in
    let d = h.1.1 in
    let s = d.1.1.1 in
    sound_pair first second (h.0, (d.0, (d.1.0, (d.1.1.0, (s.0, (s.1.0, (s.1.1.0, tt)))))))

-- the bytes of its answer
spells : (first second : List ℤ) (l : List (List ℕ)) (L : List ℕ) →
    ((S : List ℕ) → In S l → ((z : ℕ) → In z S → z < corners first) × (3 ≤ length S)) →
    Layout (desk.plan first second).centre l L → Spells (corners first) l L
spells first second [] L f h = h
spells first second (S ∷ l) L f h =
    let p = f S (inl refl) in (
      h.0,
      h.1,
      h.3,
      p.0 h.0 h.2.centre.0,
      p.0,
      omega (arith, p.1),
      spells first second l h.1
          (λ T i. f T (inr i)) h.4,
    )

module _ {first second : List ℤ} {before : List ℕ} {r : Result}
    (s : SoundPair first second) (g : Given (desk.plan first second) (corners first) before r) where
  abbrev laid : List ℕ
  laid = g.carries.laid

  abbrev told : List (List ℕ)
  told = pieces (corners first) g.cutting

  laid_spells : Spells (corners first) told laid
  laid_spells =
      spells first second told laid
      (λ S i. let R = (pieces_regions (corners first) g.cutting s.alike.enough g.is_first.valid.uncrossed
      S).0 i in
      (R.small, R.three))
      g.carries.layout

  laid_is : take r.bytes r.after ≡ laid
  laid_is =
      ap (λ (k : ℕ). take k r.after) g.carries.used
      ∙ ap (take (length laid)) g.carries.written
      ∙ take_at laid (drop (length laid) before) (length laid) refl

  told_spells : Spells (corners first) told (take r.bytes r.after)
  told_spells = subst (Spells (corners first) told) (sym laid_is) laid_spells

  pub bytes_fit : r.bytes ≤ length r.after
  bytes_fit =
      omega (arith, g.carries.used, ap length g.carries.written, length-append laid (drop (length laid) before))

  pub told_read : Read (corners first) (take r.bytes r.after)
  told_read = record { pieces = told; spells = told_spells }

  found_lands : (m : Point) (l : Option Place) → Finds first second m (take r.bytes r.after) l →
      Lands first second m (wedges_given g) l
  found_lands m l f = subst (λ L. Lands first second m (wedges told L) l) laid_is (f.finds told told_spells)

-- ---- the three ways
module _ {first second : List ℤ} {m : Point} {before : List ℕ} where
  -- nothing is carried, and every byte is kept
  refuses : (r : Refusal) (after : List ℕ) →
      FirstFailed (asked_with_mark first second m (length before)) (number r) →
      after ≡ before → CarriesMark first second m before (result_of (Err r) after) None
  refuses r after f e = record {
    comes_back = record {
      numbered = f;
      refused = λ _. record { no_pieces = refl; no_bytes = refl; kept = e };
      given = λ z. absurd (omega (arith, z, some r));
    };
    refused = λ _. refl;
    lands = λ z. absurd (omega (arith, z, some r));
  }

  pub out_of_range : (r : Refusal) → ¬ MarkInRange m → Outside first second (length before) (number r) →
      CarriesMark first second m before (result_of (Err r) before) None
  out_of_range r n o = go (ℕ_discrete o.k 0)
    where
      go : Dec (o.k ≡ 0) → CarriesMark first second m before (result_of (Err r) before) None
      go (yes z) =
          let e = o.or_ten.ten z in
          let lines = desk.asked first second (length before) in
          refuses r before
          (put_in lines (of_mark m) (number r)
          (all_hold lines (omega arith) (subst (FirstFailed lines) z o.of_pair)) (inl (n, e))) refl
      go (no f) =
          let e = o.or_ten.same f in
          let lines = desk.asked first second (length before) in
          refuses r before
          (longer lines (of_mark m) (number r) (some r) (subst (FirstFailed lines) (sym e) o.of_pair)) refl

  pub pair_refused : (r : pair.Refusal) (after : List ℕ) →
      desk.Answers first second before (desk.result_of (Err r) after) →
      CarriesMark first second m before (result_of (Err (Pair r)) after) None
  pair_refused r after a =
      let h : 0 < desk.number r = some (Pair r) in
      refuses (Pair r) after
      (longer (desk.asked first second (length before)) (of_mark m) (desk.number r) h a.numbered)
      (a.refused h).kept

  pub carried : (c : Carried) (after : List ℕ) → MarkInRange m →
      desk.Answers first second before (record { number = 0; count = c.pieces; bytes = c.bytes; after = after }) →
      Finds first second m (take c.bytes after) c.landing →
      CarriesMark first second m before (result_of (Ok c) after) c.landing
  carried c after h a f =
      let lines = desk.asked first second (length before) in
      record {
        comes_back = record {
          numbered = put_in lines (of_mark m) 0 (all_hold lines (omega arith) a.numbered) (inr (h, refl));
          refused = λ z. absurd (omega (arith, z));
          given = a.given;
        };
        refused = λ z. absurd (omega (arith, z));
        lands = λ e. found_lands (sound_of (length before) a.numbered) (a.given e) m c.landing f;
      }
