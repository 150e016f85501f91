-- Where `sees` is a Boolean test, centres are computed: whether a piece has one, which is the lowest, and the bytes of
-- an answer.
-- (The theorems that follow are in proofs/, under the same name.)
use Rattle.std.specs.Prelude.{◌≡◌, refl, Bool, true, false, not, ◌&&◌, ◌||◌, ◌↔◌, List, [], ◌∷◌, ◌++◌, ℕ, ◌≤◌, T, eqb, length}
use Rattle.std.proofs.Common.{subst, inl, inr, append_assoc, arith, length-append}
use Rattle.std.proofs.Math.Logic.{⊎_map}
use Rattle.std.specs.Float.Ieee.Fits.{and_i, and_l, and_r}
use Rattle.rules.specs.Lists.{In, Rising}
use Rattle.rules.specs.Centre.{Centre, HasCentre, Lowest, LowestOrZero, Layout, size}

-- ---- a test of all members of a list, of some member, and the first member that passes (0 where none does)
-- What a `let` binds and the branches of `elim` wait: nothing is tested that need not be.
abbrev pub all : (ℕ → Bool) → List ℕ → Bool
all p [] = true
all p (x ∷ s) = let rest = all p s in p x && rest

abbrev pub some : (ℕ → Bool) → List ℕ → Bool
some p [] = false
some p (x ∷ s) = elim (p x) [ true ↦ true | false ↦ some p s ]

abbrev pub first : (ℕ → Bool) → List ℕ → ℕ
first p [] = 0
first p (x ∷ s) = elim (p x) [ true ↦ x | false ↦ first p s ]

module _ (p : ℕ → Bool) where
  pub all_passes : (s : List ℕ) → T (all p s) → (y : ℕ) → In y s → T (p y)
  all_passes [] h y i = absurd i
  all_passes (x ∷ s) h y (inl e) = rw e (and_l (p x) (all p s) h)
  all_passes (x ∷ s) h y (inr i) = all_passes s (and_r (p x) (all p s) h) y i

  pub passes_all : (s : List ℕ) → ((y : ℕ) → In y s → T (p y)) → T (all p s)
  passes_all [] f = tt
  passes_all (x ∷ s) f = and_i (p x) (all p s) (f x (inl refl)) (passes_all s (λ y i. f y (inr i)))

  -- where some member passes, the first that does is a member and passes
  pub some_first : (s : List ℕ) → T (some p s) → In (first p s) s × T (p (first p s))
  some_first [] h = absurd h
  some_first (x ∷ s) h = go (p x) refl h (some_first s)
    where
      go : (b : Bool) → p x ≡ b → T (elim b [ true ↦ true | false ↦ some p s ]) →
          (T (some p s) → In (first p s) s × T (p (first p s))) →
          In (elim b [ true ↦ x | false ↦ first p s ]) (x ∷ s) × T (p (elim b [ true ↦ x | false ↦ first p s ]))
      go true e h f = (inl refl, rw e tt)
      go false e h f = let k = f h in (inr k.0, k.1)

  pub passes_some : (s : List ℕ) (y : ℕ) → In y s → T (p y) → T (some p s)
  passes_some [] y i h = absurd i
  passes_some (x ∷ s) y i h = go (p x) refl i (λ k. passes_some s y k h)
    where
      go : (b : Bool) → p x ≡ b → In y (x ∷ s) → (In y s → T (some p s)) →
          T (elim b [ true ↦ true | false ↦ some p s ])
      go true e i f = tt
      go false e (inl q) f = absurd (subst T e (subst (λ z. T (p z)) q h))
      go false e (inr k) f = f k

  -- in a rising list it is the lowest
  first_lowest : (s : List ℕ) → Rising s → (y : ℕ) → In y s → T (p y) → first p s ≤ y
  first_lowest [] r y i h = absurd i
  first_lowest (x ∷ s) r y i h = go (p x) refl i (λ k. first_lowest s r.1 y k h)
    where
      go : (b : Bool) → p x ≡ b → In y (x ∷ s) → (In y s → first p s ≤ y) →
          (elim b [ true ↦ x | false ↦ first p s ]) ≤ y
      go true e (inl q) f = omega arith
      go true e (inr k) f = omega (arith, r.0 y k)
      go false e (inl q) f = absurd (subst T e (subst (λ z. T (p z)) q h))
      go false e (inr k) f = f k

-- what `sees` tells
abbrev pub Says : (ℕ → ℕ → Bool) → ℕ → ℕ → Type 0
Says sees x y = T (sees x y)

module _ (sees : ℕ → ℕ → Bool) where
  -- ---- has a piece a centre, and which is the lowest
  abbrev pub has_centre : List ℕ → Bool
  has_centre S = some (λ x. all (sees x) S) S

  abbrev pub centre : List ℕ → ℕ
  centre S = first (λ x. all (sees x) S) S

  is_centre : (S : List ℕ) → T (has_centre S) → Centre (Says sees) (centre S) S
  is_centre S h = let k = some_first (λ x. all (sees x) S) S h in (k.0, all_passes (sees (centre S)) S k.1)

  pub has_centre_lem : (S : List ℕ) → T (has_centre S) ↔ HasCentre (Says sees) S
  has_centre_lem S = (
    λ h. (centre S, is_centre S h),
    λ c. passes_some (λ x. all (sees x) S) S c.0 c.1.0 (passes_all (sees c.0) S c.1.1),
  )

  pub centre_lowest : (S : List ℕ) → Rising S → HasCentre (Says sees) S → Lowest (Says sees) (centre S) S
  centre_lowest S r h = record {
    centre = is_centre S ((has_centre_lem S).1 h);
    lowest = λ y c. first_lowest (λ x. all (sees x) S) S r y c.0 (passes_all (sees y) S c.1);
  }

-- ---- where a piece may have no centre, 0 is computed for it
pub none_first : (p : ℕ → Bool) (s : List ℕ) → some p s ≡ false → first p s ≡ 0
none_first p [] e = refl
none_first p (x ∷ s) e = by (p x) e (none_first p s)
  where
    by : (b : Bool) → ◌≡◌ {A = Bool} (elim b [ true ↦ true | false ↦ some p s ]) false →
        (some p s ≡ false → first p s ≡ 0) → ◌≡◌ {A = ℕ} (elim b [ true ↦ x | false ↦ first p s ]) 0
    by true k f = absurd (subst T k tt)
    by false k f = f k

-- readings of sight that agree show the same
pub lowest_or_zero_map : {sees sees' : ℕ → ℕ → Type 0} → ((x y : ℕ) → sees x y ↔ sees' x y) → (x : ℕ) (S : List ℕ) →
    LowestOrZero sees x S → LowestOrZero sees' x S
lowest_or_zero_map {sees} {sees'} same x S = ⊎_map low none
  where
    to : (x : ℕ) → Centre sees x S → Centre sees' x S
    to x c = (c.0, λ y i. (same x y).0 (c.1 y i))

    from : (x : ℕ) → Centre sees' x S → Centre sees x S
    from x c = (c.0, λ y i. (same x y).1 (c.1 y i))

    low : Lowest sees x S → Lowest sees' x S
    low l = record { centre = to x l.centre; lowest = λ y c. l.lowest y (from y c) }

    none : (¬ HasCentre sees S) × (x ≡ 0) → (¬ HasCentre sees' S) × (x ≡ 0)
    none h = ((λ k. h.0 (k.0, from k.0 k.1)), h.1)

-- where there is a centre the lowest is shown
pub lowest_or_zero_lowest : (sees : ℕ → ℕ → Type 0) (x : ℕ) (S : List ℕ) → HasCentre sees S →
    LowestOrZero sees x S → Lowest sees x S
lowest_or_zero_lowest sees x S has (inl h) = h
lowest_or_zero_lowest sees x S has (inr h) = absurd (h.0 has)

-- ---- the bytes computed: c says what stands in the centre's place
abbrev pub lay : (List ℕ → ℕ) → List ℕ → List ℕ
lay c S = length S ∷ c S ∷ S

abbrev pub lay_all : (List ℕ → ℕ) → List (List ℕ) → List ℕ
lay_all c [] = []
lay_all c (S ∷ l) = lay c S ++ lay_all c l

-- nothing stands there yet
abbrev pub blank : List ℕ → ℕ
blank S = 0

module _ (c : List ℕ → ℕ) where
  pub lay_layout : (shown : ℕ → List ℕ → Type 0) (l : List (List ℕ)) → ((S : List ℕ) → In S l → shown (c S) S) →
      Layout shown l (lay_all c l)
  lay_layout shown [] h = refl
  lay_layout shown (S ∷ l) h = (c S, lay_all c l, h S (inl refl), refl, lay_layout shown l (λ Q i. h Q (inr i)))

  pub lay_append : (l m : List (List ℕ)) → lay_all c (l ++ m) ≡ lay_all c l ++ lay_all c m
  lay_append [] m = refl
  lay_append (S ∷ l) m = rw (lay_append l m, append_assoc)

  pub lay_size : (l : List (List ℕ)) → length (lay_all c l) ≡ size l
  lay_size [] = refl
  lay_size (S ∷ l) = omega (arith, length-append S (lay_all c l), lay_size l)

-- with the lowest centres
abbrev pub lays : (ℕ → ℕ → Bool) → List (List ℕ) → List ℕ
lays sees = lay_all (centre sees)

-- ---- tried: the outline E of 01, a dart whose corners 0 and 2 do not see each other
dart : ℕ → ℕ → Bool
dart x y = not ((eqb x 0 && eqb y 2) || (eqb x 2 && eqb y 0))

dart_lays : lays dart ((0 ∷ 1 ∷ 2 ∷ 3 ∷ []) ∷ []) ≡ 4 ∷ 1 ∷ 0 ∷ 1 ∷ 2 ∷ 3 ∷ []
unfolding dart
dart_lays = refl
