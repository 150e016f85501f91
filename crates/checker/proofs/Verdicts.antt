-- What is said in the end: of the pair, of the bytes by the cells of two drawings, and so of the bytes by their sight.
use mathlib.Core.Path.{◌≡◌, refl, sym, ◌∙◌, subst}
use mathlib.Core.Bool.{Bool, true, false}
use mathlib.Core.Logic.{inl, inr}
use mathlib.Core.List.{List}
use Prim.Native.Nat.{ℕ}
use native.Mathlib.Omega.{arith}
use lib.IntN.{ℤ}
use lib.ListN.{length}
use Rattle.limits.specs.Limits.{all_cells}
use Rattle.outline.specs.Drawing.{corners}
use Rattle.outline.specs.Tells.{if_yes, if_no}
use Rattle.drawing.specs.Sight.{Seen}
use Rattle.pair.specs.Pair.{Checks, FirstTold, SecondTold}
use Rattle.pair.specs.Passing.{SoundPair, equally_many}
use Rattle.pair.proofs.Passing.{pair_passes}
use Rattle.checker.specs.Checks.{says, IsList, sight_in, FirstFailed, of_pieces}
use Rattle.checker.specs.Checks.{OfBytes, ChecksList}
use Rattle.checker.specs.Unique.{laid_one}
use Rattle.checker.specs.Parts.{Readable, TellsCutting, in_cells, FirstFault}
use Rattle.checker.specs.declared.flat.Verdict.{Verdict}
use Rattle.checker.proofs.Sights.{Agree, cells_agree, bytes_same}

-- ---- the bytes, by cells
-- the pieces of a list have three corners, which rise
pub readable : {n : ℕ} {bytes : List ℕ} → IsList n bytes → Readable bytes
readable l = record {
  entries = l.0;
  are = l.1.are;
  each = λ e i. let a = l.1.each e i in record { three = a.enough; rising = a.rising };
}

module _ {n : ℕ} {bytes : List ℕ} (first second : List ℕ) {r : Bool} (l : IsList n bytes)
    (h : TellsCutting n bytes r) where
  pub no_cutting : r ≡ false → OfBytes (in_cells first) (in_cells second) n bytes (says 22)
  no_cutting e = inr (l.0, l.1, inl (if_no (h l.0 l.1) e, refl))

  pub first_at_fault : {v : Verdict} → r ≡ true → FirstFault first second bytes v →
      OfBytes (in_cells first) (in_cells second) n bytes v
  first_at_fault {v} e f = inr (l.0, l.1, inr (if_yes (h l.0 l.1) e, said))
    where
      -- the bytes name one list
      said : FirstFailed (of_pieces (in_cells first) (in_cells second) 0 l.0) v
      said =
          subst (λ m. FirstFailed (of_pieces (in_cells first) (in_cells second) 0 m) v)
          (laid_one f.0 l.0 (sym f.1 ∙ l.1.are)) f.2

-- ---- the pair
module _ {first second : List ℤ} {number : ℕ} (checks : Checks first second number) where
  pub refused_pair : {bytes : List ℕ} {v : Verdict} → ¬ (number ≡ 0) → v ≡ says number →
      ChecksList first second bytes v
  refused_pair z e = record {
    number = number;
    of_pair = checks;
    refused = λ _. e;
    sound = λ q. absurd (z q);
  }

  -- with 0 both are sound, and their sight is told
  module _ (z : number ≡ 0) where
    pub sound : SoundPair first second
    sound = pair_passes first second (subst (Checks first second) z checks)

    module _ {o a p b : List ℕ} (o_size : length o ≡ all_cells) (p_size : length p ≡ all_cells)
        (f : FirstTold first second o a) (s : SecondTold second number p b) where
      first_seen : Seen first o a
      first_seen = (f.told sound.alike sound.first_sound).seen (omega arith)

      second_seen : Seen second p b
      second_seen = (s.told z).seen (omega arith)

      pub by_cells : {bytes : List ℕ} {v : Verdict} →
          OfBytes (in_cells a) (in_cells b) (corners first) bytes v → ChecksList first second bytes v
      by_cells {bytes} {v} h = record {
        number = number;
        of_pair = checks;
        refused = λ n. absurd (n z);
        sound = λ _. bytes_same (cells_agree first_seen) second_agrees bytes v h;
      }
        where
          second_agrees : Agree (corners first) (in_cells b) (sight_in second)
          second_agrees =
              subst (λ (n : ℕ). Agree n (in_cells b) (sight_in second)) (equally_many sound.alike)
              (cells_agree second_seen)
