-- The search by centres: for each centre the best piece on a line, and the best of these over all centres. A table
-- filled so has the Bellman property with the pieces that 01 allows, those that have a centre.
--
-- A centre is a corner of its own piece, so the road of the piece has to go through it: where the centre x is no end
-- of the line, it is the best road to x, then the best from x on. Figure 8 of source document 002, read word for word,
-- keeps the best road of corners that x sees and asks afterwards whether x is on it; a cheaper road that leaves x out
-- then hides the best one through x, and on some drawings four pieces are found where three are enough.
use Rattle.std.specs.Prelude.{◌≡◌, refl, ◌⊎◌, List, [], ◌∷◌, ◌++◌, ℕ, suc, ◌+◌, ◌≤◌, ◌<◌}
use Rattle.std.proofs.Common.{sym, subst, inl, inr, arith}
use Rattle.rules.specs.Lists.{In, rise_in, rise_from}
use Rattle.rules.specs.Order.{Upto}
use Rattle.rules.specs.Centre.{Centre, HasCentre}
use Rattle.rules.specs.Cheapest.{Cheapest, cheapest_when, cheapest_map, upto_trans}
use Rattle.rules.specs.Table.{Road, road_rise, Head, sum, Way, Piece, Closes, Table}
use Rattle.rules.specs.Roads.{SeenStep, seen_road, road_seen, road_reaches}
use Rattle.rules.proofs.Roads.{BestRoad, through}

-- ---- the pieces with one centre
module _ (cut may : ℕ → ℕ → Type 0) (val : ℕ → ℕ → ℕ) (sees : ℕ → ℕ → Type 0) where
  -- p is the first of the cheapest pieces on the line i j that have the centre x
  abbrev pub BestPiece : ℕ → ℕ → ℕ → Type 0 → ℕ → List ℕ → Type 0
  BestPiece x i j h v p = Cheapest (Piece cut may (Centre sees x) i j) (sum val i) (λ s. s) h v p

  -- such a piece is a road of corners that x sees, from a corner that x sees, with x among them
  abbrev Looks : ℕ → ℕ → ℕ → List ℕ → Type 0
  Looks x = Road (SeenStep (Way cut may) (sees x))

  piece_road : (x i j : ℕ) (s : List ℕ) → Piece cut may (Centre sees x) i j s → Looks x i j s
  piece_road x i j s p = road_seen (Way cut may) (sees x) i j s p.1 (λ y k. p.0.1.1 y (inr k))

  road_piece : (x i j : ℕ) (s : List ℕ) → sees x i → Looks x i j s → Head j s → In x (i ∷ s) →
      Piece cut may (Centre sees x) i j s
  road_piece x i j s si r hd m = let q = seen_road (Way cut may) (sees x) i j s r in ((hd, (m, all q.1)), q.0)
    where
      all : ((y : ℕ) → In y s → sees x y) → (y : ℕ) → In y (i ∷ s) → sees x y
      all f y (inl e) = rw e si
      all f y (inr k) = f y k

  -- the centre is an end of the line: every road goes through it
  pub centre_at_end : {x i j : ℕ} {h : Type 0} {v : ℕ} {p : List ℕ} → i < j → (x ≡ i) ⊎ (x ≡ j) →
      BestRoad (Way cut may) val (sees x) i j j h v p → BestPiece x i j (sees x i × h) v p
  centre_at_end {x} {i} {j} lt e F =
      cheapest_when (λ k. k.0) (λ s p. p.0.1.1 i (inl refl)) (λ si.
      cheapest_map (λ k. (si, k)) (λ k. k.1)
      (λ s p. road_piece x i j s si p.0 p.1 (on e s p.0))
      (λ s p. (piece_road x i j s p, p.0.0)) F)
    where
      on : (x ≡ i) ⊎ (x ≡ j) → (s : List ℕ) → Looks x i j s → In x (i ∷ s)
      on (inl q) s r = inl q
      on (inr q) s r = inr (subst (λ z. In z s) (sym q) (road_reaches (SeenStep (Way cut may) (sees x)) i j s lt r))

  -- the centre lies between the ends
  pub centre_between : {x i j : ℕ} {h₁ h₂ : Type 0} {v₁ v₂ : ℕ} {p₁ p₂ : List ℕ} → i < x → x < j →
      BestRoad (Way cut may) val (sees x) i x (suc x) h₁ v₁ p₁ →
      BestRoad (Way cut may) val (sees x) x j (suc j) h₂ v₂ p₂ →
      BestPiece x i j (sees x i × h₁ × h₂) (v₁ + v₂) (p₁ ++ p₂)
  centre_between {x} {i} {j} ix xj F G =
      cheapest_when (λ k. k.0) (λ s p. p.0.1.1 i (inl refl)) (λ si.
      cheapest_map (λ k. (si, k.0, k.1)) (λ k. (k.1, k.2))
      (λ s p. road_piece x i j s si p.0 (head s p.0 p.1) (inr p.1))
      (λ s p. (piece_road x i j s p, after s p.0.1.0)) (through (Way cut may) val (sees x) ix F G))
    where
      after : (s : List ℕ) → In x (i ∷ s) → In x s
      after s (inl e) = absurd (omega arith)
      after s (inr k) = k

      head : (s : List ℕ) → Looks x i j s → In x s → Head j s
      head [] r k = tt
      head (b ∷ s) r (inl e) = omega arith
      head (b ∷ s) r (inr k) =
          omega (arith, rise_in b j s (road_rise (SeenStep (Way cut may) (sees x)) b j s r.2) x k)

-- ---- the best over the centres makes the table
module _ (cut : ℕ → ℕ → Type 0) (w : ℕ → ℕ → ℕ) (may : ℕ → ℕ → Type 0) (val : ℕ → ℕ → ℕ) (choice : ℕ → ℕ → List ℕ)
    (sees : ℕ → ℕ → Type 0) where
  -- the line i j has an entry as good as the piece p with the values v under its lines: no heavier, and where as heavy
  -- the same or before
  abbrev pub Serves : ℕ → ℕ → ℕ → List ℕ → Type 0
  Serves i j v p = may i j × (val i j ≤ w i j + v) × (w i j + v ≤ val i j → Upto (choice i j) p (choice i j) p)

  -- the entry of the line i j: every centre was tried, and one was taken
  pub record Picked (i j : ℕ) : Type 0 where
    pub tried : (x : ℕ) → i ≤ x → x ≤ j → (s : List ℕ) → Piece cut may (Centre sees x) i j s →
        Serves i j (sum val i s) s
    pub taken : may i j →
        (x : ℕ) × Piece cut may (Centre sees x) i j (choice i j) × (w i j + sum val i (choice i j) ≡ val i j)

  -- to try a centre it is enough to look at its best piece
  pub try_best : {x i j : ℕ} {h : Type 0} {v : ℕ} {p : List ℕ} → BestPiece cut may val sees x i j h v p →
      (h → Serves i j v p) →
      (s : List ℕ) → Piece cut may (Centre sees x) i j s → Serves i j (sum val i s) s
  try_best {x} {i} {j} {h} {v} {p} c f s m =
      let l = c.least s m in
      let a = f l.0 in (
        a.0,
        omega (arith, l.1, a.1),
        λ le. upto_trans (λ s. s) (choice i j) p s (a.2 (omega (arith, l.1, le)))
            (c.first l.0 s m (omega (arith, le, a.1))),
      )

  picked_range : (i j : ℕ) → Picked i j →
      Cheapest (Piece cut may (HasCentre sees) i j) (λ s. w i j + sum val i s) (λ s. s) (may i j)
      (val i j) (choice i j)
  picked_range i j k = record {
    least = λ s p. let a = serves s p in (a.0, a.1);
    attained = λ m. let t = k.taken m in (((t.1.0.0, (t.0, t.1.0.1)), t.1.1), t.2);
    first = λ m s p. (serves s p).2;
  }
    where
      serves : (s : List ℕ) → Piece cut may (HasCentre sees) i j s → Serves i j (sum val i s) s
      serves s p =
          let x = p.0.1.0 in
          let b = rise_from i j s (road_rise (Way cut may) i j s p.1) x p.0.1.1.0 in
          k.tried x b.0 b.1 s ((p.0.0, p.0.1.1), p.1)

  pub star_table : (n : ℕ) → ((a : ℕ) → suc a < n → val a (suc a) ≡ 0) →
      ((a : ℕ) → suc a < n → choice a (suc a) ≡ []) →
      ((i j : ℕ) → suc i < j → j < n → Closes cut n i j → Picked i j) → Table cut (HasCentre sees) w may val choice n
  star_table n side_val side_choice picked = record {
    side_val = side_val;
    side_choice = side_choice;
    range = λ i j lt hn cl. picked_range i j (picked i j lt hn cl);
  }
