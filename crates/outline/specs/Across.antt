-- A centre's line across a line of strict sight: where the corners of both take turns round a sound drawing, the two
-- segments share a point. A centre's line may touch corners on its way; these part it into lines of strict sight.
--
--            j         i sees j as a centre, past k; x sees y strictly; i is one of the corners between x and y, and j
--       x ---|--- y    is none. Of the parts ik and kj, one has its ends on both sides of xy.
--            k
--            i
-- (The theorems that follow are in proofs/, under the same name.)
use Rattle.std.specs.Prelude.{◌⊎◌, ℕ, ◌<◌}

-- ---- k is none of the corners from x to y
abbrev pub Beyond : ℕ → ℕ → ℕ → Type 0
Beyond x y k = (k < x) ⊎ (y < k)
