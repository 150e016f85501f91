-- The piece that is taken of finished tables. No choice is stored: for each centre the next corner is searched for
-- again, the smallest that the values allow; and of the centres that attain the line's value the one with the first
-- road is taken. A piece on the line i j is read off the values, `left` (for the way to the centre) and the column j
-- (for the way on).
use Rattle.std.specs.Prelude.{◌≡◌, Bool, true, false, ◌&&◌, ◌||◌, List, [], ◌∷◌, ℕ, zero, suc, ◌+◌, ◌-◌, ◌<◌, ◌≤◌, min, ltb, eqb}
use Rattle.rules.specs.Roads.{path}
use Rattle.limits.specs.Limits.{row}
use Rattle.rules.specs.Columns.{costs}

-- s is the first number after c where f is r, or t where none before t is
pub record Sought (f : ℕ → ℕ) (r c t s : ℕ) : Type 0 where
  pub from : c < s
  pub to : s ≤ t
  pub before : (k : ℕ) → k < s → c < k → ¬ (f k ≡ r)
  pub hit : s < t → f s ≡ r

-- that number, as it is found: from b on, at most k further
abbrev pub sought : (ℕ → ℕ) → ℕ → ℕ → ℕ → ℕ
sought f r b zero = b
sought f r b (suc k) = elim (eqb (f b) r) [ true ↦ b | false ↦ sought f r (suc b) k ]

-- `Less` of `rules`, computed
abbrev pub less : List ℕ → List ℕ → Bool
less [] t = false
less (a ∷ s) [] = false
less (a ∷ s) (b ∷ t) = ltb a b || (eqb a b && less s t)

-- the corner after c on the road of the centre x to t, by the costs `side`
unfoldable pub step_of : ℕ → (ℕ → ℕ → ℕ) → (ℕ → ℕ → ℕ) → ℕ → ℕ → ℕ → ℕ
step_of top val side x t c = sought (costs top val side x c) (side c x) (suc c) (t - suc c)

-- whether the centre x makes a piece on the line i j as cheap as the line's value says: a road to x, then one from x
unfoldable pub fits : ℕ → (ℕ → ℕ → ℕ) → (ℕ → ℕ → ℕ) → (ℕ → ℕ → ℕ) → (ℕ → ℕ) → ℕ → ℕ → ℕ → Bool
fits top w val left right i j x = eqb (min top (min top (left i x + right x) + w i j)) (val i j)

module _ (top : ℕ) (w val left col : ℕ → ℕ → ℕ) where
  -- the corner after c of a piece with the centre x whose last corner is j: its road goes to x, and from x on to j
  unfoldable pub next_of : ℕ → ℕ → ℕ → ℕ
  next_of x j c = elim (ltb c x) [ true ↦ step_of top val left x x c | false ↦ step_of top val col x j c ]

  -- the corners of that piece after c
  unfoldable pub rest_of : ℕ → ℕ → ℕ → List ℕ
  rest_of x j c = path (next_of x j) j j c

  -- of the centre b (row where there is none yet) and the centre x, the one with the earlier road
  unfoldable pub better : (ℕ → ℕ) → ℕ → ℕ → ℕ → ℕ → ℕ
  better right i j b x =
      elim (fits top w val left right i j x && (eqb b row || less (rest_of x j i) (rest_of b j i)))
      [ true ↦ x | false ↦ b ]

  -- of the k centres from i on
  unfoldable pub pick_from : (ℕ → ℕ) → ℕ → ℕ → ℕ → ℕ
  pick_from right i j zero = row
  pick_from right i j (suc k) = better right i j (pick_from right i j k) (i + k)

  -- the centre by which the piece on the line i j is taken
  abbrev pub pick_of : (ℕ → ℕ) → ℕ → ℕ → ℕ
  pick_of right i j = pick_from right i j (suc (j - i))

-- the corners after i of the piece that is taken on the line i j of finished tables
unfoldable pub choice_of : ℕ → (ℕ → ℕ → ℕ) → (ℕ → ℕ → ℕ) → (ℕ → ℕ → ℕ → ℕ) → ℕ → ℕ → List ℕ
choice_of top w val road i j =
    elim (ltb (suc i) j) [
      | true ↦ rest_of top w val (λ a x. road x a x) (road j)
          (pick_of top w val (λ a x. road x a x) (road j) (λ x. road j x x) i j) j i
      | false ↦ []
    ]
