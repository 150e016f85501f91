-- Renumbering by one corner, numbers and lists: corner i becomes i+1, and the last becomes 0. A list of corners goes
-- from the new numbers back to the old, in rising order again; members, neighbours and centres go with it.
use Rattle.std.specs.Prelude.{◌≡◌, refl, ◌⊎◌, ◌↔◌, List, [], ◌∷◌, ◌++◌, ℕ, zero, suc, ◌-◌, ◌≤◌, ◌<◌, length}
use Rattle.std.proofs.Common.{sym, ap, subst, inl, inr, ⊎_elim, arith, length-append}
use Rattle.std.proofs.Math.Decide.{dec_lt}
use Rattle.rules.specs.Lists.{In, in_left, in_right, in_split, Rising, rising_append, rising_ext}
use Rattle.rules.specs.Cutting.{Inside, Outside, Near}
use Rattle.rules.specs.Centre.{HasCentre}

-- of n corners, the one that was x is now x'
abbrev pub Moved : ℕ → ℕ → ℕ → Type 0
Moved n x x' = ((suc x ≡ n) × (x' ≡ 0)) ⊎ ((suc x < n) × (x' ≡ suc x))

-- the old numbers of a rising list of new ones: each one lower, and 0, which stands first, goes to the end
abbrev lower : List ℕ → List ℕ
lower [] = []
lower (zero ∷ s) = lower s
lower (suc x ∷ s) = x ∷ lower s

abbrev wrap : ℕ → List ℕ → List ℕ
wrap n [] = []
wrap n (zero ∷ s) = (n - 1) ∷ []
wrap n (suc x ∷ s) = []

abbrev pub back : ℕ → List ℕ → List ℕ
back n s = lower s ++ wrap n s

back_6 : back 6 (0 ∷ 2 ∷ 4 ∷ []) ≡ 1 ∷ 3 ∷ 5 ∷ []
back_6 = refl

-- ---- members
in_lower : (z : ℕ) (s : List ℕ) → In z (lower s) → In (suc z) s
in_lower z [] h = absurd h
in_lower z (zero ∷ s) h = inr (in_lower z s h)
in_lower z (suc x ∷ s) (inl e) = inl (ap suc e)
in_lower z (suc x ∷ s) (inr h) = inr (in_lower z s h)

lower_in : (z : ℕ) (s : List ℕ) → In (suc z) s → In z (lower s)
lower_in z [] h = absurd h
lower_in z (zero ∷ s) (inl e) = absurd (omega arith)
lower_in z (zero ∷ s) (inr h) = lower_in z s h
lower_in z (suc x ∷ s) (inl e) = inl (omega arith)
lower_in z (suc x ∷ s) (inr h) = inr (lower_in z s h)

in_wrap : (n z : ℕ) (s : List ℕ) → In z (wrap n s) → (z ≡ n - 1) × In 0 s
in_wrap n z [] h = absurd h
in_wrap n z (zero ∷ s) (inl e) = (e, inl refl)
in_wrap n z (zero ∷ s) (inr k) = elim k [ ]
in_wrap n z (suc x ∷ s) h = absurd h

wrap_in : (n : ℕ) (s : List ℕ) → Rising s → In 0 s → In (n - 1) (wrap n s)
wrap_in n [] r h = absurd h
wrap_in n (zero ∷ s) r h = inl refl
wrap_in n (suc x ∷ s) r (inl e) = absurd (omega arith)
wrap_in n (suc x ∷ s) r (inr h) = absurd (omega (arith, r.0 0 h))

rising_lower : (s : List ℕ) → Rising s → Rising (lower s)
rising_lower [] r = tt
rising_lower (zero ∷ s) r = rising_lower s r.1
rising_lower (suc x ∷ s) r = ((λ z i. omega (arith, r.0 (suc z) (in_lower z s i))), rising_lower s r.1)

rising_wrap : (n : ℕ) (s : List ℕ) → Rising (wrap n s)
rising_wrap n [] = tt
rising_wrap n (zero ∷ s) = ((λ z i. absurd i), tt)
rising_wrap n (suc x ∷ s) = tt

length_lower : (s : List ℕ) → ((z : ℕ) → In z s → 0 < z) → length (lower s) ≡ length s
length_lower [] f = refl
length_lower (zero ∷ s) f = absurd (omega (arith, f 0 (inl refl)))
length_lower (suc x ∷ s) f = ap suc (length_lower s (λ z i. f z (inr i)))

-- z is a member of the old list, by its new number
abbrev pub New : ℕ → ℕ → List ℕ → Type 0
New n z s = ((suc z ≡ n) × In 0 s) ⊎ ((suc z < n) × In (suc z) s)

-- ---- of a rising list of corners
module _ (n : ℕ) (s : List ℕ) (rising : Rising s) (small : (x : ℕ) → In x s → x < n) where
  pub in_back : (z : ℕ) → In z (back n s) → New n z s
  in_back z h =
      ⊎_elim (λ k. let q = in_lower z s k in inr (small (suc z) q, q))
      (λ k. let q = in_wrap n z s k in let h = small 0 q.1 in inl (omega arith, q.1))
      (in_split z (lower s) (wrap n s) h)

  back_zero : (z : ℕ) → suc z ≡ n → In 0 s → In z (back n s)
  back_zero z e h =
      let q : z ≡ n - 1 = omega arith in
      rw q (in_right (n - 1) (lower s) (wrap n s) (wrap_in n s rising h))

  back_suc : (z : ℕ) → In (suc z) s → In z (back n s)
  back_suc z h = in_left z (lower s) (wrap n s) (lower_in z s h)

  pub small_back : (z : ℕ) → In z (back n s) → z < n
  small_back z h = ⊎_elim (λ p. omega arith) (λ p. omega arith) (in_back z h)

  pub rising_back : Rising (back n s)
  rising_back =
      rising_append (lower s) (wrap n s) (rising_lower s rising) (rising_wrap n s)
      (λ x y i k. omega (arith, small (suc x) (in_lower x s i), (in_wrap n y s k).0))

  pub length_back : length (back n s) ≡ length s
  length_back = go s rising
    where
      go : (s : List ℕ) → Rising s → length (lower s ++ wrap n s) ≡ length s
      go [] r = refl
      go (zero ∷ s) r = omega (arith, length-append (lower s) ((n - 1) ∷ []), length_lower s r.0)
      go (suc x ∷ s) r = omega (arith, length-append (lower s) [], length_lower s (λ z i. omega (arith, r.0 z i)))

  -- ---- neighbours, of which the larger is not the last corner
  pub near_low : (x y : ℕ) → suc y < n → Near (back n s) x y ↔ Near s (suc x) (suc y)
  near_low x y lt = (to, from)
    where
      to : Near (back n s) x y → Near s (suc x) (suc y)
      to (inl f) = inl g
        where
          g : Inside s (suc x) (suc y)
          g zero i p q = omega arith
          g (suc z) i p q = f z (back_suc z i) (omega arith) (omega arith)
      to (inr f) = inr g
        where
          g : Outside s (suc x) (suc y)
          g zero i = absurd (omega (arith, f (n - 1) (back_zero (n - 1) (omega arith) i)))
          g (suc z) i = let p = f z (back_suc z i) in (omega arith, omega arith)

      from : Near s (suc x) (suc y) → Near (back n s) x y
      from (inl f) =
          inl (λ z i p q. ⊎_elim (λ e. omega arith) (λ e. f (suc z) e.1 (omega arith) (omega arith)) (in_back z i))
      from (inr f) =
          inr (λ z i. ⊎_elim (λ e. absurd (omega (arith, f 0 e.1))) (λ e. let p = f (suc z) e.1 in
          (omega arith, omega arith))
          (in_back z i))

  -- and of which it is: inside and outside change places
  pub near_high : (x y : ℕ) → x < y → suc y ≡ n → Near (back n s) x y ↔ Near s 0 (suc x)
  near_high x y lt last = (to, from)
    where
      to : Near (back n s) x y → Near s 0 (suc x)
      to (inl f) = inr (λ z i. (omega arith, g z i))
        where
          h : (z : ℕ) → In (suc z) s → Dec (x < z) → suc z ≤ suc x
          h z i (yes l) = absurd (f z (back_suc z i) l (omega (arith, small (suc z) i)))
          h z i (no l) = omega arith

          g : (z : ℕ) → In z s → z ≤ suc x
          g zero i = omega arith
          g (suc z) i = h z i (dec_lt x z)
      to (inr f) = inl g
        where
          g : Inside s 0 (suc x)
          g zero i p q = omega arith
          g (suc z) i p q = omega (arith, f z (back_suc z i))

      from : Near s 0 (suc x) → Near (back n s) x y
      from (inl f) = inr (λ z i. (g z (in_back z i) (dec_lt z x), omega (arith, small_back z i)))
        where
          g : (z : ℕ) → New n z s → Dec (z < x) → x ≤ z
          g z (inl e) d = omega arith
          g z (inr e) (yes l) = absurd (f (suc z) e.1 (omega arith) (omega arith))
          g z (inr e) (no l) = omega arith
      from (inr f) = inl (λ z i p q. ⊎_elim (λ e. omega arith) (λ e. omega (arith, f (suc z) e.1)) (in_back z i))

-- ---- one to one
module _ (n : ℕ) (s t : List ℕ) (rs : Rising s) (rt : Rising t) (ss : (x : ℕ) → In x s → x < n)
    (st : (x : ℕ) → In x t → x < n) where
  back_sub : back n s ≡ back n t → (z : ℕ) → In z s → In z t
  back_sub e zero i =
      let k = ss 0 i in
      let old = back_zero n s rs ss (n - 1) (omega arith) i in
      ⊎_elim (λ p. p.1) (λ p. absurd (omega arith)) (in_back n t rt st (n - 1) (subst (In (n - 1)) e old))
  back_sub e (suc z) i =
      let k = ss (suc z) i in
      ⊎_elim (λ p. absurd (omega arith)) (λ p. p.1) (in_back n t rt st z (subst (In z) e (back_suc n s rs ss z i)))

pub back_injective : (n : ℕ) (s t : List ℕ) → Rising s → Rising t → ((x : ℕ) → In x s → x < n) →
    ((x : ℕ) → In x t → x < n) →
    back n s ≡ back n t → s ≡ t
back_injective n s t rs rt ss st e =
    rising_ext s t rs rt (back_sub n s t rs rt ss st e) (back_sub n t s rt rs st ss (sym e))

-- ---- a centre stays one where sight goes with the numbers
pub centre_turn : (n : ℕ) (sees sees' : ℕ → ℕ → Type 0) →
    ((x x' y y' : ℕ) → Moved n x x' → Moved n y y' → sees x y → sees' x' y') →
    (s : List ℕ) → Rising s → ((x : ℕ) → In x s → x < n) → HasCentre sees (back n s) → HasCentre sees' s
centre_turn n sees sees' goes s rising small h =
    ⊎_elim (λ p. (0, (p.1, seen 0 (inl (p.0, refl)))))
    (λ p. (suc h.0, (p.1, seen (suc h.0) (inr (p.0, refl)))))
    (in_back n s rising small h.0 h.1.0)
  where
    seen : (x' : ℕ) → Moved n h.0 x' → (y : ℕ) → In y s → sees' x' y
    seen x' m zero i =
        let e : suc (n - 1) ≡ n = omega (arith, small 0 i) in
        goes h.0 x' (n - 1) 0 m (inl (e, refl)) (h.1.1 (n - 1) (back_zero n s rising small (n - 1) e i))
    seen x' m (suc y) i =
        goes h.0 x' y (suc y) m (inr (small (suc y) i, refl)) (h.1.1 y (back_suc n s rising small y i))
