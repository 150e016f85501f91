-- What is true of every call that a closure may make. To be believed.
use Rattle.std.specs.Prelude.{Bool, Option}

-- `step` tells what a call may give, and leave of what it is lent and of the closure
abbrev pub Each : {F W C : Type 0} → (F → W → C → Option Bool → W → F → Type 0) → (Option Bool → Type 0) → Type 0
Each {F} {W} {C} step P =
    (f : F) (w : W) (call : C) (r : Option Bool) (w' : W) (f' : F) → step f w call r w' f' → P r
