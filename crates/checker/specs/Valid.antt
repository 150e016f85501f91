-- 02, K4: "Accept .. exactly when it is a valid cutting."
use Rattle.std.specs.Prelude.{◌≡◌, refl, ◌↔◌, List, [], ℕ, ℤ, T}
use Rattle.std.proofs.Common.{sym, ap, subst, inl, inr, arith}
use Rattle.std.proofs.Math.Logic.{by_cases}
use Rattle.std.proofs.Math.Decide.{ℕ_discrete}
use Rattle.outline.specs.Drawing.{corners}
use Rattle.pair.specs.Pair.{of_drawings, lines, Checks}
use Rattle.pair.specs.Passing.{SoundPair, equally_many}
use Rattle.pair.proofs.Passing.{drawings_hold, pair_passes}
use Rattle.rules.specs.Lists.{In}
use Rattle.rules.specs.Cutting.{Pairs, Near, Region}
use Rattle.rules.specs.Centre.{Centre, HasCentre}
use Rattle.rules.specs.Refusals.{Hold, put_in}
use Rattle.desk.specs.Answer.{Cut, InBoth, ValidCutting}
use Rattle.checker.specs.Checks.{says, Entry, Listed, PiecesOf, corner_lists, sight_in}
use Rattle.checker.specs.Checks.{FirstFailed, of_pieces, OfBytes, ChecksList}
use Rattle.checker.specs.Entries.{entry_in, in_entry}
use Rattle.checker.specs.Faultless.{AllFaultless, all_faultless}
use Rattle.checker.specs.Seen.{line_round, line_cut, own_centre, region_faultless}
use Rattle.checker.specs.declared.flat.Verdict.{Verdict}

-- two sound drawings, and bytes that list the pieces of a valid cutting of them: each once, with a centre of its own
pub record IsValid (first second : List ℤ) (bytes : List ℕ) : Type 0 where
  pub sound : SoundPair first second
  pub entries : List Entry
  pub listed : Listed (corners first) bytes entries
  pub cutting : Pairs
  pub pieces : PiecesOf (corners first) cutting (corner_lists entries)
  pub valid : ValidCutting first second cutting
  pub centres : (e : Entry) → In e entries → Centre (InBoth first second) e.centre e.corners

module _ (first second : List ℤ) where
  -- ---- a list without fault is a valid cutting
  module _ (s : SoundPair first second) (l : List Entry) (C : Pairs)
      (P : PiecesOf (corners first) C (corner_lists l))
      (ok : AllFaultless (sight_in first) (sight_in second) l)
      (own : (e : Entry) → In e l → In e.centre e.corners) where
    entry_of : (S : List ℕ) → Region (corners first) C S → (e : Entry) × In e l × (S ≡ e.corners)
    entry_of S R = in_entry S l ((P.are S).1 R)

    may_cut : (a b : ℕ) → T (C a b) → Cut first second a b
    may_cut a b c =
        let r = line_round (corners first) C s.alike.enough P.uncrossed a b c in
        let e = entry_of r.piece r.region in
        line_cut first second e.0 (ok e.0 e.1) a b (subst (In a) e.2 r.in_a)
        (subst (In b) e.2 r.in_b) (P.uncrossed.inner a b c).rises
        (subst (λ S. Near S a b) e.2 r.near)

    has_centre_lem : (S : List ℕ) → Region (corners first) C S → HasCentre (InBoth first second) S
    has_centre_lem S R =
        let e = entry_of S R in
        let c = own_centre first second e.0 (ok e.0 e.1) (own e.0 e.1) in
        subst (HasCentre (InBoth first second)) (sym e.2) (e.0.centre, c)

    valid_cutting : ValidCutting first second C
    valid_cutting = record { uncrossed = P.uncrossed; cuts = may_cut; allowed = has_centre_lem }

  -- another number is no acceptance
  no_other : (k : ℕ) → says 0 ≡ says k → k ≡ 0
  no_other k e = sym (ap (λ (v : Verdict). v.number) e)

  module _ (bytes : List ℕ) where
    of_accepted : SoundPair first second →
        OfBytes (sight_in first) (sight_in second) (corners first) bytes (says 0) → IsValid first second bytes
    of_accepted s (inl h) = absurd (omega (arith, no_other 21 h.1))
    of_accepted s (inr (l, k, inl h)) = absurd (omega (arith, no_other 22 h.1))
    of_accepted s (inr (l, k, inr (p, h))) =
        let ok = (all_faultless (sight_in first) (sight_in second) 0 l).0 h in
        record {
          sound = s;
          entries = l;
          listed = k;
          cutting = p.0;
          pieces = p.1;
          valid = valid_cutting s l p.0 p.1 ok (λ e i. (k.each e i).own);
          centres = λ e i. own_centre first second e (ok e i) (k.each e i).own;
        }

    accepted_valid : ChecksList first second bytes (says 0) → IsValid first second bytes
    accepted_valid h =
        by_cases (ℕ_discrete h.number 0)
        (λ z. of_accepted (pair_passes first second (subst (Checks first second) z h.of_pair)) (h.sound z))
        (λ f. absurd (f (no_other h.number (h.refused f))))

    -- ---- a valid cutting is accepted
    valid_accepted : IsValid first second bytes → ChecksList first second bytes (says 0)
    valid_accepted h = record {
      number = 0;
      of_pair = record { numbered = put_in (lines first second) [] 0 (h.sound.alike, drawings) refl };
      refused = λ f. absurd (f refl);
      sound = λ z. inr (h.entries, h.listed, inr ((h.cutting, h.pieces), said));
    }
      where
        drawings : Hold (of_drawings first second)
        drawings = drawings_hold first second h.sound.first_sound h.sound.second_sound

        ok : AllFaultless (sight_in first) (sight_in second) h.entries
        ok e i =
            region_faultless first second (equally_many h.sound.alike) h.cutting h.valid e
            ((h.pieces.are e.corners).0 (entry_in e h.entries i)) (h.centres e i)

        said : FirstFailed (of_pieces (sight_in first) (sight_in second) 0 h.entries) (says 0)
        said = (all_faultless (sight_in first) (sight_in second) 0 h.entries).1 ok

pub accepted_exactly : (first second : List ℤ) (bytes : List ℕ) →
    ChecksList first second bytes (says 0) ↔ IsValid first second bytes
accepted_exactly first second bytes = (accepted_valid first second bytes, valid_accepted first second bytes)
