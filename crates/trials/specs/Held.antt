-- A call that is lent the front of a buffer, held to what must come back. To be believed.
use Rattle.std.specs.Prelude.{◌≡◌, Bool, false, ◌&&◌, List, ◌++◌, ℕ, eqb, length, take, drop, Option, Some, None}
use Rattle.recorded.specs.Lent.{unwritten, agreeing, Holds}

-- Whether what came back is what is due. Nothing is where a text asks for what no call gives, and then it is not.
abbrev pub gives_due : {G : Type 0} → (G → G → Bool) → Option G → G → Bool
gives_due eq (Some due) got = eq got due
gives_due eq None got = false

-- `Gives lent got left` tells what the call may give and leave; `due` tells what must come back, and `after` the whole
-- buffer as it must be then
pub record HeldTo {G : Type 0} (Gives : List ℕ → G → List ℕ → Type 0) (due : G → Bool) (room : ℕ) (after : List ℕ)
    (right : Bool) : Type 0 where
  pub got : G
  pub buffer : List ℕ
  pub left : List ℕ
  pub unwritten_before : Holds 0 unwritten after buffer
  pub gives : Gives (take room buffer) got left
  pub is_right : right ≡ (due got && eqb (agreeing (left ++ drop room buffer) after) (length after))
