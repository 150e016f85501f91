-- Demand 3's own definitions: how two drawings may have been entered otherwise. To be believed.
-- 01, "What comes back": "exchanging the drawings turns 3, 4, 5 into 6, 7, 8 when just one drawing is unsound; with
-- both unsound nothing is said. A whole-number rule sends (x,y) to (ax+by+e, cx+dy+f) with whole a to f and
-- ad-bc > 0."
use Rattle.std.specs.Prelude.{◌≡◌, refl, cond, List, [], ◌∷◌, ◌++◌, map, ℕ, zero, suc, ◌+◌, ◌-◌, ltb, ℤ, pos, ◌+ℤ◌, ◌-ℤ◌, ◌*ℤ◌, length, take, drop, ◌<ℤ◌}
use Rattle.rules.specs.Result.{Result}

-- ---- the drawings exchanged: 3, 4, 5 and 6, 7, 8 change places, and every other number stays
abbrev pub exchanged : ℕ → ℕ
exchanged k = cond (ltb k 3) k (cond (ltb k 6) (k + 3) (cond (ltb k 9) (k - 3) k))

-- of 0 to 9
exchanged_all : map exchanged (0 ∷ 1 ∷ 2 ∷ 3 ∷ 4 ∷ 5 ∷ 6 ∷ 7 ∷ 8 ∷ 9 ∷ []) ≡ 0 ∷ 1 ∷ 2 ∷ 6 ∷ 7 ∷ 8 ∷ 3 ∷ 4 ∷ 5 ∷ 9 ∷ []
exchanged_all = refl

-- all but the number is the same
abbrev pub exchanged_result : Result → Result
exchanged_result r = record { number = exchanged r.number; count = r.count; bytes = r.bytes; after = r.after }

-- ---- a whole-number rule
pub record Rule : Type 0 where
  pub a : ℤ
  pub b : ℤ
  pub c : ℤ
  pub d : ℤ
  pub e : ℤ
  pub f : ℤ
  pub above : pos 0 <ℤ (a *ℤ d -ℤ b *ℤ c)

-- each corner (x,y) goes to (ax+by+e, cx+dy+f), whatever ad-bc is; a number left over at the end is kept, so that the
-- length is the same for every list
abbrev pub send : (a b c d e f : ℤ) → List ℤ → List ℤ
send a b c d e f [] = []
send a b c d e f (x ∷ []) = x ∷ []
send a b c d e f (x ∷ (y ∷ l)) = (a *ℤ x +ℤ b *ℤ y +ℤ e) ∷ ((c *ℤ x +ℤ d *ℤ y +ℤ f) ∷ send a b c d e f l)

-- by a rule
abbrev pub move : Rule → List ℤ → List ℤ
move t = send t.a t.b t.c t.d t.e t.f

-- ---- a drawing renumbered: corner i becomes i + 1 and the last becomes 0, so its two numbers go to the front
abbrev pub turned : List ℤ → List ℤ
turned d = drop (length d - 2) d ++ take (length d - 2) d

-- by k corners
abbrev pub turned_by : ℕ → List ℤ → List ℤ
turned_by zero d = d
turned_by (suc k) d = turned_by k (turned d)
