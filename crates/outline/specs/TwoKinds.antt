-- The two kinds of sight on a sound drawing: strict sight brings a centre's sight (`strict_centre`); and where nothing
-- stands between two corners, no side across and no third corner on the segment, the two kinds are one (`free_kinds`).
-- (The theorems that follow are in proofs/, under the same name.)
use Rattle.std.specs.Prelude.{◌≡◌, Bool, true}
use Rattle.std.proofs.Common.{sym, ◌∙◌}
use Rattle.std.proofs.lemmas.Bool.{false≢true}
use Rattle.outline.specs.CornerTells.{Verdict, within, without}

-- what a verdict says, where the value inside is true
pub holds : {A : Type 0} {o : Bool} → Verdict true A o → o ≡ true → A
holds (within a e) h = a
holds (without n e) h = absurd (false≢true (sym e ∙ h))

pub shows : {A : Type 0} {o : Bool} → Verdict true A o → A → o ≡ true
shows (within a e) b = e
shows (without n e) b = absurd (n b)
