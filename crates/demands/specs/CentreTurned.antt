-- A centre's sight is kept when a drawing is renumbered by one corner: the outline has the same sides, the last one
-- first, so the same points lie in or on it.
use Rattle.std.specs.Prelude.{◌≡◌, refl, Bool, true, false, ◌↔◌, List, ℕ, zero, suc, ◌-◌, ◌*◌, ◌≤◌, ◌<◌, ℤ, length}
use Rattle.std.proofs.Common.{sym, ◌∙◌, ap, subst, inl, inr, arith, le_refl}
use Rattle.std.proofs.Math.Path.{fun_ext}
use Rattle.std.proofs.Math.Decide.{dec_lt}
use Rattle.outline.specs.Drawing.{Point, corner, corners, next}
use Rattle.outline.specs.Round.{next_last}
use Rattle.outline.specs.InOrOn.{CentreSees}
use Rattle.outline.specs.Placed.{On}
use Rattle.outline.specs.Passing.{crosses}
use Rattle.outline.specs.Odd.{◌⊕◌}
use Rattle.outline.specs.Xor.{⊕-no, ⊕-comm}
use Rattle.outline.specs.Parity.{odd, OnSide, InOn, out, large}
use Rattle.outline.specs.EveryPoint.{Sight}
use Rattle.outline.specs.Reading.{round, round_inner, round_closed}
use Rattle.outline.proofs.Reading.{sight_read, sight_said}
use Rattle.demands.specs.Entered.{turned}
use Rattle.demands.specs.Turned.{corners_turned, corner_turned}
use Rattle.demands.specs.SameOutline.{sight_same}

-- ---- an outline with a corner put before it
abbrev front : Point → (ℕ → Point) → ℕ → Point
front a c zero = a
front a c (suc m) = c m

⊕-assoc : (a b c : Bool) → (a ⊕ b) ⊕ c ≡ a ⊕ (b ⊕ c)
⊕-assoc true true true = refl
⊕-assoc true true false = refl
⊕-assoc true false true = refl
⊕-assoc true false false = refl
⊕-assoc false b c = refl

-- the first side may be counted last
first_last : (c : ℕ → Point) (z : Point) (n : ℕ) →
    odd (λ m. c (suc m)) z n ⊕ crosses z (c 0) (c 1) ≡ odd c z (suc n)
first_last c z zero = sym (⊕-no (crosses z (c 0) (c 1)))
first_last c z (suc n) =
    ⊕-assoc (crosses z (c (suc n)) (c (suc (suc n)))) (odd (λ m. c (suc m)) z n) (crosses z (c 0) (c 1))
    ∙ ap (λ t. crosses z (c (suc n)) (c (suc (suc n))) ⊕ t) (first_last c z n)

-- ---- the last corner put first
module _ (c : ℕ → Point) (k : ℕ) (closed : c (suc k) ≡ c 0) (z : Point) where
  odd_front : odd (front (c k) c) z (suc k) ≡ odd c z (suc k)
  odd_front =
      sym (first_last (front (c k) c) z k) ∙ ⊕-comm (odd c z k) (crosses z (c k) (c 0))
      ∙ ap (λ a. crosses z (c k) a ⊕ odd c z k) (sym closed)

  in_front : InOn c (suc k) z → InOn (front (c k) c) (suc k) z
  in_front (inr e) = inr (odd_front ∙ e)
  in_front (inl o) = inl (go (dec_lt o.m k))
    where
      go : Dec (o.m < k) → OnSide (front (c k) c) (suc k) z
      go (yes l) = record { m = suc o.m; below = omega arith; on = o.on }
      go (no l) =
          let e : o.m ≡ k = omega (arith, o.below, l) in
          record {
            m = 0;
            below = omega arith;
            on = subst (On z (c k)) closed (subst (λ m. On z (c m) (c (suc m))) e o.on);
          }

  front_in : InOn (front (c k) c) (suc k) z → InOn c (suc k) z
  front_in (inr e) = inr (sym odd_front ∙ e)
  front_in (inl o) = inl (go o.m o.below o.on)
    where
      go : (m : ℕ) → m < suc k → On z (front (c k) c m) (front (c k) c (suc m)) → OnSide c (suc k) z
      go zero h s = record { m = k; below = le_refl (suc k); on = subst (On z (c k)) (sym closed) s }
      go (suc m) h s = record { m = m; below = omega arith; on = s }

module _ (c : ℕ → Point) (k : ℕ) (closed : c (suc k) ≡ c 0) (a b : Point) where
  large_front : (r : ℤ) → front (out r (c k)) (large r c) ≡ large r (front (c k) c)
  large_front r = fun_ext go
    where
      go : (m : ℕ) → front (out r (c k)) (large r c) m ≡ large r (front (c k) c) m
      go zero = refl
      go (suc m) = refl

  sight_front : Sight c (suc k) a b → Sight (front (c k) c) (suc k) a b
  sight_front s z r r+ o =
      subst (λ e. InOn e (suc k) z) (large_front r) (in_front (large r c) k (ap (out r) closed) z (s z r r+ o))

  front_sight : Sight (front (c k) c) (suc k) a b → Sight c (suc k) a b
  front_sight s z r r+ o =
      front_in (large r c) k (ap (out r) closed) z
      (subst (λ e. InOn e (suc k) z) (sym (large_front r)) (s z r r+ o))

-- ---- and of drawings
module _ (d : List ℤ) (even : length d ≡ 2 * corners d) (some : 0 < corners d) where
  abbrev last : ℕ
  last = corners d - 1

  abbrev renumbered : ℕ → Point
  renumbered = front (round d last) (round d)

  count_is : suc last ≡ corners d
  count_is = omega arith

  closed : round d (suc last) ≡ round d 0
  closed = ap (round d) count_is ∙ round_closed d

  below : {k : ℕ} → k < corners d → k < corners (turned d)
  below {k} h = subst (λ n. k < n) (sym (corners_turned d)) h

  round_turned : (m : ℕ) → m ≤ suc last → renumbered m ≡ round (turned d) m
  round_turned zero h =
      round_inner d last (omega arith) ∙ sym (corner_turned d even last (omega arith))
      ∙ ap (corner (turned d)) (next_last (corners d) last count_is)
      ∙ sym (round_inner (turned d) 0 (below some))
  round_turned (suc m) h =
      round_inner d m (omega arith) ∙ sym (corner_turned d even m (omega arith))
      ∙ ap (λ n. corner (turned d) (next n m)) (sym (corners_turned d))

  pub centre_turned : (i j : ℕ) → i < corners d → j < corners d →
      CentreSees d i j ↔ CentreSees (turned d) (next (corners d) i) (next (corners d) j)
  centre_turned i j h g = (
    λ s. sight_said (turned d) i' j'
        (sight_same renumbered (round (turned d)) (suc last) (corners (turned d))
        (corner d i) (corner d j) (corner (turned d) i') (corner (turned d) j')
        (count_is ∙ sym (corners_turned d)) round_turned
        (sym (corner_turned d even i h)) (sym (corner_turned d even j g))
        (sight_front (round d) last closed (corner d i) (corner d j)
        (subst (λ n. Sight (round d) n (corner d i) (corner d j)) (sym count_is) (sight_read d i j s)))),
    λ s. sight_said d i j
        (subst (λ n. Sight (round d) n (corner d i) (corner d j)) count_is
        (front_sight (round d) last closed (corner d i) (corner d j)
        (sight_same (round (turned d)) renumbered (corners (turned d)) (suc last)
        (corner (turned d) i') (corner (turned d) j') (corner d i) (corner d j)
        (corners_turned d ∙ sym count_is)
        (λ m l. sym (round_turned m (subst (λ n. m ≤ n) (corners_turned d ∙ sym count_is) l)))
        (corner_turned d even i h) (corner_turned d even j g) (sight_read (turned d) i' j' s)))),
  )
    where
      i' : ℕ
      i' = next (corners d) i

      j' : ℕ
      j' = next (corners d) j
