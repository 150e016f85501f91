-- The judgements of two drawings as numbers of the table, and what it says of a pair that its lines are passed.
use Rattle.std.specs.Prelude.{◌≡◌, refl, ◌⊎◌, List, ℕ, ℤ, Result, Ok, Err, ⊤}
use Rattle.std.proofs.Common.{inl, inr, arith}
use Rattle.outline.specs.Drawing.{Shaped, Sound}
use Rattle.drawing.specs.Judging.{Because}
use Rattle.drawing.specs.declared.Unsound.{Unsound}
use Rattle.drawing.specs.declared.Unsound.TheVariants as is
use Rattle.rules.specs.Refusals.{FirstFailed, Hold, all_hold}
use Rattle.pair.specs.Pair.{Alike, of_drawing, of_drawings, lines, Checks}
use Rattle.pair.specs.Passing.{SoundPair, first_shaped, second_shaped}

-- ---- a judgement's number is that of the first of the drawing's lines that fails, whichever drawing it is
module _ (number : Result ⊤ Unsound → ℕ) (none : number (Ok tt) ≡ 0) {d : List ℤ} (shaped : Shaped d) where
  pub judged : (r : Result ⊤ Unsound) → Because d r →
      FirstFailed
      (of_drawing (number (Err is.OutOfRange)) (number (Err is.NotSimple)) (number (Err is.NotAnticlockwise)) d)
      (number r)
  judged (Err is.Misshapen) b = absurd (b shaped)
  judged (Err is.OutOfRange) b = inl (b.1, refl)
  judged (Err is.NotSimple) b = inr (b.1, inl (b.2, refl))
  judged (Err is.NotAnticlockwise) b = inr (b.1, inr (b.2, inl (b.3, refl)))
  judged (Ok _) b = inr (b.in_range, inr (b.simple, inr (b.anticlockwise, none)))

-- lines of a drawing that hold make it sound, and the other way
pub sound_of : (a b c : ℕ) (d : List ℤ) → Shaped d → Hold (of_drawing a b c d) → Sound d
sound_of a b c d s h = record { shaped = s; in_range = h.0; simple = h.1.0; anticlockwise = h.1.1.0 }

pub sound_hold : (a b c : ℕ) (d : List ℤ) → Sound d → Hold (of_drawing a b c d)
sound_hold a b c d s = (s.in_range, (s.simple, (s.anticlockwise, tt)))

pub drawings_hold : (first second : List ℤ) → Sound first → Sound second → Hold (of_drawings first second)
drawings_hold first second s t = (s.in_range, (s.simple, (s.anticlockwise, sound_hold 6 7 8 second t)))

pub sound_pair : (first second : List ℤ) → Hold (lines first second) → SoundPair first second
sound_pair first second h =
    let a = h.0 in
    let f = h.1 in
    record {
      alike = a;
      first_sound = sound_of 3 4 5 first (first_shaped a) (f.0, (f.1.0, (f.1.1.0, tt)));
      second_sound = sound_of 6 7 8 second (second_shaped a) f.1.1.1;
    }

pub pair_passes : (first second : List ℤ) → Checks first second 0 → SoundPair first second
pair_passes first second h = sound_pair first second (all_hold (lines first second) (omega arith) h.numbered)

-- ---- the number tells whether the first drawing's lines are passed
pub first_passes : (first second : List ℤ) (k : ℕ) → Checks first second k →
    (Alike first second × Sound first) ⊎ (¬ (Alike first second × Sound first))
first_passes first second k h = go h.numbered
  where
    go : FirstFailed (lines first second) k →
        (Alike first second × Sound first) ⊎ (¬ (Alike first second × Sound first))
    go (inl f) = inr (λ p. f.0 p.0)
    go (inr (a, inl f)) = inr (λ p. f.0 p.1.in_range)
    go (inr (a, inr (r, inl f))) = inr (λ p. f.0 p.1.simple)
    go (inr (a, inr (r, inr (s, inl f)))) = inr (λ p. f.0 p.1.anticlockwise)
    go (inr (a, inr (r, inr (s, inr (c, f))))) =
        inl (a, record { shaped = first_shaped a; in_range = r; simple = s; anticlockwise = c })
