-- The outlines of 01, "Outlines to try", and what the tests of `Mirror` compute of them.
use Rattle.std.specs.Prelude.{List, [], ◌∷◌, ℤ, pos, negsuc}
use Rattle.outline.specs.Drawing.{Simple, Sound, Sees}
use Rattle.outline.specs.Tells.{passed, failed}
use Rattle.outline.specs.Mirror.{simple_tells, sound_tells, sees_tells}

-- ---- "S = (0,0) (4,0) (4,4) (0,4). D = (0,1) (3,-2) (0,4) (-3,-2). E = (-3,-2) (0,1) (3,-2) (0,4). Z = (0,0) (10,0)
-- (4,2) (10,10) (0,10) (6,8). H = (2,0) (6,0) (8,4) (6,8) (2,8) (0,4)."; negsuc n is -(n+1)
abbrev pub S : List ℤ
S = pos 0 ∷ pos 0 ∷ pos 4 ∷ pos 0 ∷ pos 4 ∷ pos 4 ∷ pos 0 ∷ pos 4 ∷ []

abbrev pub D : List ℤ
D = pos 0 ∷ pos 1 ∷ pos 3 ∷ negsuc 1 ∷ pos 0 ∷ pos 4 ∷ negsuc 2 ∷ negsuc 1 ∷ []

abbrev pub E : List ℤ
E = negsuc 2 ∷ negsuc 1 ∷ pos 0 ∷ pos 1 ∷ pos 3 ∷ negsuc 1 ∷ pos 0 ∷ pos 4 ∷ []

abbrev pub Z : List ℤ
Z = pos 0 ∷ pos 0 ∷ pos 10 ∷ pos 0 ∷ pos 4 ∷ pos 2 ∷ pos 10 ∷ pos 10 ∷ pos 0 ∷ pos 10 ∷ pos 6 ∷ pos 8 ∷ []

abbrev pub H : List ℤ
H = pos 2 ∷ pos 0 ∷ pos 6 ∷ pos 0 ∷ pos 8 ∷ pos 4 ∷ pos 6 ∷ pos 8 ∷ pos 2 ∷ pos 8 ∷ pos 0 ∷ pos 4 ∷ []

-- "(0,0) (4,4) (4,0) (0,4)" and "S backwards, (0,0) (0,4) (4,4) (4,0)"
abbrev pub crossing : List ℤ
crossing = pos 0 ∷ pos 0 ∷ pos 4 ∷ pos 4 ∷ pos 4 ∷ pos 0 ∷ pos 0 ∷ pos 4 ∷ []

abbrev pub backwards : List ℤ
backwards = pos 0 ∷ pos 0 ∷ pos 0 ∷ pos 4 ∷ pos 4 ∷ pos 4 ∷ pos 4 ∷ pos 0 ∷ []

-- "(0,0) (1,0) (2,0) (3,0) (3,3) (2,3) (1,3) (0,3)": four straight corners
abbrev pub straight : List ℤ
straight =
    pos 0 ∷ pos 0 ∷ pos 1 ∷ pos 0 ∷ pos 2 ∷ pos 0 ∷ pos 3 ∷ pos 0
    ∷ pos 3 ∷ pos 3 ∷ pos 2 ∷ pos 3 ∷ pos 1 ∷ pos 3 ∷ pos 0 ∷ pos 3 ∷ []

-- ---- "In Z, 0 sees 3 and not 4; 1 does not see 3."
pub z_0_sees_3 : Sees Z 0 3
z_0_sees_3 = passed (sees_tells Z 0 3) tt

pub z_0_misses_4 : ¬ Sees Z 0 4
z_0_misses_4 = failed (sees_tells Z 0 4) tt

pub z_1_misses_3 : ¬ Sees Z 1 3
z_1_misses_3 = failed (sees_tells Z 1 3) tt

-- ---- D and E are one dart, numbered from its notch and from the corner before it
pub d_sound : Sound D
d_sound = passed (sound_tells D) tt

pub e_sound : Sound E
e_sound = passed (sound_tells E) tt

pub d_0_sees_2 : Sees D 0 2
d_0_sees_2 = passed (sees_tells D 0 2) tt

pub d_1_misses_3 : ¬ Sees D 1 3
d_1_misses_3 = failed (sees_tells D 1 3) tt

pub e_1_sees_3 : Sees E 1 3
e_1_sees_3 = passed (sees_tells E 1 3) tt

pub e_0_misses_2 : ¬ Sees E 0 2
e_0_misses_2 = failed (sees_tells E 0 2) tt

-- ---- the crossing square
pub crossing_not_simple : ¬ Simple crossing
crossing_not_simple = failed (simple_tells crossing) tt
