-- 02, K4: every answer of the desk is accepted, in any order of its pieces.
use Rattle.std.specs.Prelude.{◌≡◌, refl, ◌↔◌, List, [], ◌∷◌, ℕ, ℤ, length, take}
use Rattle.std.proofs.Common.{sym, ap, ◌∙◌, subst, inl, arith, take_at}
use Rattle.limits.specs.Limits.{Roomy}
use Rattle.outline.specs.Drawing.{corners}
use Rattle.pair.specs.Pair.{Alike, of_drawings}
use Rattle.pair.specs.Passing.{SoundPair}
use Rattle.pair.proofs.Passing.{sound_pair}
use Rattle.rules.specs.Lists.{In, Distinct}
use Rattle.rules.specs.Cutting.{Pairs, Region, pieces}
use Rattle.rules.specs.Centre.{Lowest, lowest_one, size}
use Rattle.rules.proofs.Regions.{pieces_regions, pieces_distinct}
use Rattle.rules.specs.Count.{distinct_map}
use Rattle.rules.proofs.Count.{pieces_size}
use Rattle.rules.specs.Refusals.{line, FirstFailed, passed}
use Rattle.rules.specs.Result.{Result}
use Rattle.desk.specs.Answer.{InBoth, ValidCutting, of_cutting, asked, Answers}
use Rattle.checker.specs.Checks.{says, Entry, laid, corner_lists, ChecksList}
use Rattle.checker.specs.Images.{images_distinct}
use Rattle.checker.specs.Entries.{entry_is, entry_in, in_entry, Entries, entries, region_allowed}
use Rattle.checker.specs.Valid.{IsValid, accepted_exactly}

-- ---- the pieces of l in any order, each once
pub record Reordered (l m : List Entry) : Type 0 where
  pub once : Distinct m
  pub same : (e : Entry) → In e l ↔ In e m

-- ---- the pieces of a valid cutting, with their lowest centres, in any order
module _ (first second : List ℤ) (s : SoundPair first second) (C : Pairs) (valid : ValidCutting first second C)
    (bytes : List ℕ) (t : Entries (Lowest (InBoth first second)) (pieces (corners first) C) bytes) where
  once : Distinct t.list
  once =
      images_distinct (λ (e : Entry). e.corners) t.list
      (subst Distinct (sym t.pieces_are) (pieces_distinct (corners first) C s.alike.enough valid.uncrossed))

  told_regions : (S : List ℕ) → In S (corner_lists t.list) ↔ Region (corners first) C S
  told_regions S =
      subst (λ L. In S L ↔ Region (corners first) C S) (sym t.pieces_are)
      (pieces_regions (corners first) C s.alike.enough valid.uncrossed S)

  -- there is a piece
  some : ¬ (t.list ≡ [])
  some e =
      let none = sym t.pieces_are ∙ ap corner_lists e in
      let sizes = pieces_size (corners first) C s.alike.enough valid.uncrossed in
      omega (arith, sizes, s.alike.enough, ap length none, ap size none)

  any_order : (m : List Entry) → Reordered t.list m → IsValid first second (laid m)
  any_order m r = record {
    sound = s;
    entries = m;
    listed = record {
      some = some_left;
      are = refl;
      each = λ e i. region_allowed (corners first) C e (region e i) (centred e i).centre.0;
    };
    cutting = C;
    pieces = record { uncrossed = valid.uncrossed; once = corners_once; are = λ S. (region_of S, of_region S) };
    valid = valid;
    centres = λ e i. (centred e i).centre;
  }
    where
      centred : (e : Entry) → In e m → Lowest (InBoth first second) e.centre e.corners
      centred e i = t.centred e ((r.same e).1 i)

      region : (e : Entry) → In e m → Region (corners first) C e.corners
      region e i = (told_regions e.corners).0 (entry_in e t.list ((r.same e).1 i))

      region_of : (S : List ℕ) → In S (corner_lists m) → Region (corners first) C S
      region_of S i =
          let e = in_entry S m i in
          subst (Region (corners first) C) (sym e.2) (region e.0 e.1)

      of_region : (S : List ℕ) → Region (corners first) C S → In S (corner_lists m)
      of_region S R =
          let e = in_entry S t.list ((told_regions S).1 R) in
          subst (λ S. In S (corner_lists m)) (sym e.2)
          (entry_in e.0 m ((r.same e.0).0 e.1))

      -- pieces with the same corners have the same centre
      alone : (e f : Entry) → In e m → In f m → e.corners ≡ f.corners → e ≡ f
      alone e f i k q =
          let c = subst (Lowest (InBoth first second) e.centre) q (centred e i) in
          entry_is e f (lowest_one (InBoth first second) f.corners e.centre f.centre c (centred f k)) q

      corners_once : Distinct (corner_lists m)
      corners_once = distinct_map (λ (e : Entry). e.corners) m r.once alone

      some_left : ¬ (m ≡ [])
      some_left q = some (none_left t.list (λ e i. subst (In e) q ((r.same e).0 i)))
        where
          none_left : (l : List Entry) → ((e : Entry) → In e l → ⊥) → l ≡ []
          none_left [] f = refl
          none_left (e ∷ l) f = absurd (f e (inl refl))

-- ---- bytes that list pieces, each once, and whose list is accepted in any order
pub record InAnyOrder (first second : List ℤ) (bytes : List ℕ) : Type 0 where
  pub entries : List Entry
  pub are : bytes ≡ laid entries
  pub once : Distinct entries
  pub accepted : (m : List Entry) → Reordered entries m → ChecksList first second (laid m) (says 0)

-- ---- an answer of the desk
module _ (first second : List ℤ) (before : List ℕ) (r : Result) (h : Answers first second before r)
    (z : r.number ≡ 0) where
  answered_sound : SoundPair first second
  answered_sound =
      let f = subst (FirstFailed (asked first second (length before))) z h.numbered in
      let p =
      (passed (line 1 (Alike first second) ∷ line 2 (Roomy (corners first) (length before)) ∷ of_drawings first second)
      (of_cutting first second) 0 (omega arith) f).0 in
      sound_pair first second (p.0, p.1.1)

  pub answered : InAnyOrder first second (take r.bytes r.after)
  answered =
      let g = h.given z in
      let c = g.carries in
      let t = entries (Lowest (InBoth first second)) (pieces (corners first) g.cutting) c.laid c.layout in
      record {
        entries = t.list;
        are = ap (take r.bytes) c.written ∙ take_at c.laid _ r.bytes (sym c.used) ∙ t.used;
        once = once first second answered_sound g.cutting g.is_first.valid c.laid t;
        accepted = λ m o. (accepted_exactly first second (laid m)).1
            (any_order first second answered_sound g.cutting g.is_first.valid c.laid t m o);
      }

  -- the answer's own bytes
  pub answer_accepted : ChecksList first second (take r.bytes r.after) (says 0)
  answer_accepted =
      subst (λ bytes. ChecksList first second bytes (says 0)) (sym answered.are)
      (answered.accepted answered.entries (record { once = answered.once; same = λ e. ((λ i. i), (λ i. i)) }))
