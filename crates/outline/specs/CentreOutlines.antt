-- What the test of `CentreMirror` computes of 01's outlines.
-- (The theorems that follow are in proofs/, under the same name.)
use Rattle.outline.specs.Drawing.{Simple}
use Rattle.outline.specs.Tells.{passed}
use Rattle.outline.specs.Mirror.{simple_tells}
use Rattle.outline.specs.Outlines.{Z, straight}

-- ---- 02, K3, has the last outline of 01's list as one piece: every corner sees every corner as a centre, along the
-- sides and across
pub straight_simple : Simple straight
straight_simple = passed (simple_tells straight) tt

-- ---- in Z a centre sees what 01's sight sees: "0 sees 3 and not 4; 1 does not see 3"
pub z_simple : Simple Z
z_simple = passed (simple_tells Z) tt
