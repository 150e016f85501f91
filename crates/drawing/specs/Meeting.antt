-- How the segment ab meets cd, told by the turns of c and d from ab, where the line of cd is known not to have a and b
-- on one side.
use Rattle.std.specs.Prelude.{◌≡◌, ◌⊎◌, ℤ, pos, ◌≤ℤ◌, ◌<ℤ◌}
use Rattle.std.proofs.Common.{sym, subst, inl, inr}
use Rattle.std.specs.Int.Signed.{clash_ℤ}
use Rattle.whole.specs.Order.{Sign, plus, nought, minus, sign, below, <ℤ_le}
use Rattle.outline.specs.Drawing.{Point, turn_of, Shared}
use Rattle.outline.specs.Segments.{OneSide, Dot, Apart, apart_off}
use Rattle.outline.specs.Quick.{Touch, quick_sound, quick_complete}
use Rattle.drawing.specs.declared.segment.Met.{Met}
use Rattle.drawing.specs.declared.segment.Met.TheVariants as is

-- the line of cd does not have a and b on one side
pub record Reached (a b c d : Point) : Type 0 where
  pub not_aside : ¬ OneSide (turn_of c d a) (turn_of c d b)

-- of points on one line, an end of cd lies on ab
abbrev pub AnEndOn : Point → Point → Point → Point → Type 0
AnEndOn a b c d = (Dot c a b ≤ℤ pos 0) ⊎ (Dot d a b ≤ℤ pos 0)

-- ab and cd share no point; they share one, and c and d are strictly apart about the line ab; or else ab touches cd,
-- at an end or along it
abbrev pub Meets : Point → Point → Point → Point → Met → Type 0
Meets a b c d is.Missed = ¬ Shared a b c d
Meets a b c d is.Touched = Shared a b c d × (¬ Apart (turn_of a b c) (turn_of a b d))
Meets a b c d is.Crossed = Shared a b c d × Apart (turn_of a b c) (turn_of a b d)

-- ---- two turns from one line
apart_differ : {s t : ℤ} → Apart s t → ¬ (s ≡ t)
apart_differ (inl h) e = clash_ℤ h.0 (<ℤ_le (subst (λ z. z <ℤ pos 0) (sym e) h.1))
apart_differ (inr h) e = clash_ℤ h.1 (<ℤ_le (subst (λ z. z <ℤ pos 0) e h.0))

apart_of : {s t : ℤ} → ¬ OneSide s t → ¬ (s ≡ pos 0) → ¬ (t ≡ pos 0) → Apart s t
apart_of {s} {t} n x y = go (sign s) (sign t)
  where
    go : Sign s → Sign t → Apart s t
    go (plus a) (plus b) = absurd (n (inl (a, b)))
    go (plus a) (minus b) = inl (a, below b)
    go (minus a) (plus b) = inr (below a, b)
    go (minus a) (minus b) = absurd (n (inr (below a, below b)))
    go (plus a) (nought b) = absurd (y b)
    go (minus a) (nought b) = absurd (y b)
    go (nought a) (plus b) = absurd (x a)
    go (nought a) (minus b) = absurd (x a)
    go (nought a) (nought b) = absurd (x a)

-- ---- the three ways, by the tests that tell them
module _ {a b c d : Point} (o : Reached a b c d) where
  abbrev s : ℤ
  s = turn_of a b c

  abbrev t : ℤ
  t = turn_of a b d

  shares : ¬ OneSide s t → (s ≡ t → Touch a b c d) → Shared a b c d
  shares n h = quick_sound (record { first = n; second = o.not_aside; flat = h })

  pub missed : OneSide s t → Meets a b c d is.Missed
  missed h m = (quick_complete m).first h

  pub flat_missed : s ≡ t → ¬ Touch a b c d → Meets a b c d is.Missed
  flat_missed e n m = n ((quick_complete m).flat e)

  pub flat_touched : ¬ OneSide s t → s ≡ t → Touch a b c d → Meets a b c d is.Touched
  flat_touched n e h = (shares n (λ e. h), λ a. apart_differ a e)

  pub end_touched : ¬ OneSide s t → ¬ (s ≡ t) → (s ≡ pos 0) ⊎ (t ≡ pos 0) → Meets a b c d is.Touched
  end_touched n e z = (shares n (λ h. absurd (e h)), λ a. apart_off a z)

  pub crossed : ¬ OneSide s t → ¬ (s ≡ t) → ¬ (s ≡ pos 0) → ¬ (t ≡ pos 0) → Meets a b c d is.Crossed
  crossed n e x y = (shares n (λ h. absurd (e h)), apart_of n x y)
