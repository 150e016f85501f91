-- The theorems of `Owns`: its definitions and first laws are in specs/.
use Rattle.std.specs.Prelude.{◌≡◌, refl, ◌⊎◌, List, ◌∷◌, ◌++◌}
use Rattle.std.proofs.Math.Path.{sym, ap}
use Rattle.std.proofs.Common.{subst, ◌∙◌, inl, inr}
use Prim.Native.Nat.{ℕ, suc, ◌+◌, ◌-◌, ◌<◌, ◌≤◌}
use native.Mathlib.Omega.{arith}
use Rattle.std.proofs.Math.Decide.{dec_lt}
use Rattle.rules.specs.Centre.{Centre}
use Rattle.rules.specs.Cheapest.{cheapest_map}
use Rattle.rules.specs.Table.{Way, Piece}
use Rattle.rules.specs.Roads.{path, road_reaches}
use Rattle.rules.proofs.Roads.{BestRoad, step_road}
use Rattle.rules.proofs.Search.{BestPiece, centre_at_end, centre_between}
use Rattle.rules.specs.Columns.{pays, costs, Least, LeastOver, Solved}
use Rattle.rules.specs.Choice.{sought, step_of, next_of, rest_of}
use Rattle.rules.specs.Seek.{sought_from, next_left, next_right}
use Rattle.rules.specs.Follow.{step_goes, next_goes, path_next, path_same, path_split}
use Rattle.rules.specs.Small as small
use Rattle.rules.specs.Small.{min_low, min_hit, lifted, start_at, seen_at, road_first, road_last, through_fits}
use Rattle.rules.specs.Ways.{May, Sees}
use Rattle.rules.proofs.Ways.{stepping, best_road}
use Rattle.rules.specs.Owns.{Attains, diag}

module _ {top : ℕ} {w : ℕ → ℕ → ℕ} {cut : ℕ → ℕ → Type 0} {veil val left : ℕ → ℕ → ℕ} {road : ℕ → ℕ → ℕ → ℕ} {n : ℕ}
    (solved : Solved top w cut veil val left road n) {i j : ℕ} (ij : suc i < j) (jn : j < n)
    (best : LeastOver top w veil val (road j) (λ x. road x i x + road j x x) i j (val i j)) where
  abbrev PieceOf : ℕ → List ℕ → Type 0
  PieceOf x = Piece cut (May top val) (Centre (Sees veil) x) i j

  -- x sees itself and both ends of the line
  abbrev pub Sights : ℕ → Type 0
  Sights x = Sees veil x i × Sees veil x x × Sees veil x j

  pub piece_sights : (x : ℕ) (s : List ℕ) → PieceOf x s → Sights x
  piece_sights x s p =
      let c = p.0.1 in (
        c.1 i (inl refl),
        c.1 x c.0,
        c.1 j (inr (road_reaches (Way cut (May top val)) i j s (omega arith) p.1)),
      )

  weighs : 0 < w i j
  weighs = solved.light.weighs i j (omega arith) jn

  corner : (x : ℕ) → x ≤ j → x < n
  corner x h = omega arith

  pub fit_sights : (x : ℕ) → i ≤ x → x ≤ j → val i j < top → Attains w val road i j x → Sights x
  fit_sights x ix xj lt k = (
    road_first solved i x x ix (omega arith) (corner x xj) (omega arith),
    road_first solved x j x xj jn (corner x xj) (omega arith),
    road_last solved x j x xj jn (corner x xj) (omega arith),
  )

  -- what is known of the centre x
  pub record Own (x : ℕ) : Type 0 where
    pub v : ℕ
    pub p : List ℕ
    pub piece : BestPiece cut (May top val) val (Sees veil) x i j (v < top) v p
    pub low : v < top → (w i j + v < top) × (val i j ≤ w i j + v)
    pub to : v < top → val i j ≡ w i j + v →
        Attains w val road i j x × (p ≡ rest_of top w val (diag road) (road j) x j i)
    pub from : val i j < top → Attains w val road i j x → val i j ≡ w i j + v

  -- ---- an end of the line as the centre
  module _ (x lw : ℕ) (e : (x ≡ i) ⊎ (x ≡ j)) (sights : Sights x) (least : Least top (pays val (road j) x i) i j lw)
      (up : val i j ≤ w i j + lw) where
    xn : x < n
    xn = go e
      where
        go : (x ≡ i) ⊎ (x ≡ j) → x < n
        go (inl q) = corner x (omega arith)
        go (inr q) = corner x (omega arith)

    -- of the roads to x and from x one is empty
    end_sum : road x i x + road j x x ≡ road j i x
    end_sum = go e
      where
        go : (x ≡ i) ⊎ (x ≡ j) → road x i x + road j x x ≡ road j i x
        go (inl q) =
            omega (arith, start_at solved x i x (sym q) (omega arith) xn, ap (λ (k : ℕ). road j k x) q, sights.1)
        go (inr q) = omega (arith, start_at solved j x x q jn xn, ap (λ (k : ℕ). road k i x) q, sights.2)

    -- the road from i to j by the cheapest first step; the direct line costs as much as the value says
    whole : Least top (pays val (road j) x i) i (suc j) (road j i x)
    whole = seen_at solved i j x (omega arith) jn xn sights.0

    direct : pays val (road j) x i j ≡ val i j
    direct = omega (arith, start_at solved j j x (omega arith) jn xn, sights.2)

    road_low : lw < top → road j i x ≤ lw
    road_low h = let c = least.hit h in omega (arith, c.3, whole.low c.0 (omega (arith, c.2)) c.1)

    road_high : road j i x < val i j → road j i x < top → lw ≤ road j i x
    road_high h h' = let c = whole.hit h' in go c.0 c.1 c.2 c.3 (dec_lt c.0 j)
      where
        go : (b : ℕ) → i < b → b < suc j → road j i x ≡ pays val (road j) x i b → Dec (b < j) → lw ≤ road j i x
        go b ib bj q (yes p) = omega (arith, least.low b p ib)
        go b ib bj q (no p) =
            let k : b ≡ j = omega arith in
            absurd (omega (arith, ap (pays val (road j) x i) k, direct))

    after : (a : ℕ) → i ≤ a → a < j → next_of top w val (diag road) (road j) x j a ≡ step_of top val (road j) x j a
    unfolding step_of
    after a ia aj = go e
      where
        go : (x ≡ i) ⊎ (x ≡ j) → next_of top w val (diag road) (road j) x j a ≡ step_of top val (road j) x j a
        go (inl q) = next_right top w val (diag road) (road j) x j a (omega arith)
        go (inr q) =
            next_left top w val (diag road) (road j) x j a (omega arith)
            ∙ ap (λ (k : ℕ). step_of top val (road k) x k a) q

    first : ℕ
    first = sought (costs top val (road j) x i) lw (suc i) (j - suc i)

    rest : List ℕ
    rest = first ∷ path (step_of top val (road j) x j) j j first

    rest_is : road j i x ≡ lw → rest ≡ rest_of top w val (diag road) (road j) x j i
    unfolding first rest step_of rest_of
    rest_is q =
        let xj : x ≤ j = end_le in
        let b : step_of top val (road j) x j i ≡ first =
        ap (λ (k : ℕ). sought (costs top val (road j) x i) k (suc i) (j - suc i)) q in
        sym
        (path_same (next_of top w val (diag road) (road j) x j) j (next_goes top w val (diag road) (road j) x j xj)
        (step_of top val (road j) x j) i after j i (omega arith)
        ∙ path_next (step_of top val (road j) x j) j (step_goes top val (road j) x j) i (omega arith)
        ∙ ap (λ (k : ℕ). k ∷ path (step_of top val (road j) x j) j j k) b)
      where
        end_le : x ≤ j
        end_le = go e
          where
            go : (x ≡ i) ⊎ (x ≡ j) → x ≤ j
            go (inl q) = omega arith
            go (inr q) = omega arith

    best_rest : BestRoad (Way cut (May top val)) val (Sees veil x) i j j (lw < top) lw rest
    unfolding first rest
    best_rest =
        step_road (Way cut (May top val)) val (Sees veil x)
        {has = λ b. road j b x < top} {H = λ b. road j b x} {q = path (step_of top val (road j) x j) j j} (omega arith)
        (omega arith)
        (λ b ib bj sb. best_road solved (suc i) j x j b jn (λ z. absurd (omega arith)) xn sights.2 sb ib bj
        (omega arith))
        (stepping solved i j j x lw first (omega arith) jn (omega arith) (λ z. jn) xn least
        (sought_from (costs top val (road j) x i) lw i j (omega arith)))

    end_fit : lw < top → val i j ≡ w i j + lw → Attains w val road i j x × (road j i x ≡ lw)
    end_fit h q =
        let l = road_low h in
        let r : road j i x ≡ lw = omega (arith, road_high (omega (arith, weighs)) (omega (arith, weighs))) in
        (omega (arith, end_sum), r)

    own_end : Own x
    own_end = record {
      v = lw;
      p = rest;
      piece = cheapest_map (λ h. h.1) (λ h. (sights.0, h)) (λ s p. p) (λ s p. p)
          (centre_at_end cut (May top val) val (Sees veil) (omega arith) e best_rest);
      low = λ h. (small.end_fits solved i j x lw (omega arith) jn xn h least, up);
      to = λ h q. let f = end_fit h q in (f.0, rest_is f.1);
      from = λ lt k. omega (arith, end_sum, road_high (omega (arith, end_sum, weighs)) (omega (arith, end_sum)));
    }

  -- ---- a centre between the ends
  own_mid : (x : ℕ) → i < x → x < j → Sights x → Own x
  unfolding rest_of step_of
  own_mid x ix xj s = record {
    v = road x i x + road j x x;
    p = path (step_of top val (road x) x x) x j i ++ path (step_of top val (road j) x j) j split.0 x;
    piece = cheapest_map (λ h. small h.1 h.2) (λ h. (s.0, omega arith, omega arith)) (λ s p. p) (λ s p. p)
        (centre_between cut (May top val) val (Sees veil) ix xj
        (best_road solved 0 x x j i (omega arith) (λ z. omega arith) xn s.1 s.0 (omega arith) (omega arith)
        (omega arith))
        (best_road solved (suc i) j x split.0 x jn (λ z. absurd (omega arith)) xn s.2 s.1 ix (omega arith)
        split.1));
    low =
        λ h. (
          bounded (omega arith) (omega arith),
          omega (arith, best.mid_is.low x xj ix, (min_low _ _ _ _ _ _ best.is).0),
        );
    to = λ h q. (omega arith, sym split.2);
    from = λ lt k. omega arith;
  }
    where
      bounded : road x i x < top → road j x x < top → w i j + (road x i x + road j x x) < top
      bounded h h' =
          through_fits solved i x j ix xj jn h h'

      small : road x i x < top → road j x x < top → road x i x + road j x x < top
      small h h' = omega (arith, bounded h h')

      xn : x < n
      xn = corner x (omega arith)

      split : (g : ℕ) × (j ≤ x + g) ×
          (rest_of top w val (diag road) (road j) x j i ≡
          path (step_of top val (road x) x x) x j i ++ path (step_of top val (road j) x j) j g x)
      split =
          path_split (next_of top w val (diag road) (road j) x j) j
          (next_goes top w val (diag road) (road j) x j (omega arith)) (step_of top val (road x) x x)
          (step_of top val (road j) x j) x xj
          (step_goes top val (road x) x x)
          (λ a ax. next_left top w val (diag road) (road j) x j a ax)
          (λ a xa aj. next_right top w val (diag road) (road j) x j a xa) j i (omega arith) (omega arith)

  -- ---- every centre
  pub own : (x : ℕ) → i ≤ x → x ≤ j → Sights x → Own x
  own x ix xj s = go (dec_lt i x) (dec_lt x j)
    where
      go : Dec (i < x) → Dec (x < j) → Own x
      go (yes p) (yes q) = own_mid x p q s
      go (no p) d =
          let e : i ≡ x = omega arith in
          own_end x best.low (inl (sym e)) s
          (subst (λ (k : ℕ). Least top (pays val (road j) k i) i j best.low) e best.low_is)
          (omega (arith, (min_low _ _ _ _ _ _ best.is).1, ap (λ (k : ℕ). veil i k) e, s.0))
      go (yes p) (no q) =
          let e : j ≡ x = omega arith in
          own_end x best.high (inr (sym e)) s
          (subst (λ (k : ℕ). Least top (pays val (road j) k i) i j best.high) e best.high_is)
          (omega (arith, (min_low _ _ _ _ _ _ best.is).2, ap (λ (k : ℕ). veil i k) e, s.0))

  -- ---- some centre fits
  end_fits : (x lw : ℕ) → (x ≡ i) ⊎ (x ≡ j) → Least top (pays val (road j) x i) i j lw → veil i x ≡ 0 →
      val i j ≡ w i j + lw → lw < top → Attains w val road i j x
  end_fits x lw e l s q h = (end_fit x lw e (s, itself e, last) l (omega arith) h q).0
    where
      last : Sees veil x j
      last =
          let c = l.hit h in
          road_last solved c.0 j x (omega (arith, c.2)) jn (end_corner e) (omega (arith, c.3))
        where
          end_corner : (x ≡ i) ⊎ (x ≡ j) → x < n
          end_corner (inl q) = corner x (omega arith)
          end_corner (inr q) = corner x (omega arith)

      itself : (x ≡ i) ⊎ (x ≡ j) → Sees veil x x
      itself (inl q) = subst (λ (k : ℕ). veil k x ≡ 0) (sym q) s
      itself (inr q) = subst (λ (k : ℕ). veil k x ≡ 0) (sym q) last

  pub some_fits : val i j < top → (x : ℕ) × (i ≤ x) × (x ≤ j) × Attains w val road i j x
  some_fits lt = go (min_hit _ _ _ _ _ _ best.is lt)
    where
      go : (val i j ≡ w i j + best.mid) ⊎
          ((val i j ≡ w i j + (best.low + veil i i)) ⊎ (val i j ≡ w i j + (best.high + veil i j))) →
          (x : ℕ) × (i ≤ x) × (x ≤ j) × Attains w val road i j x
      go (inl e) =
          let c = best.mid_is.hit (omega arith) in
          (c.0, omega (arith, c.1), omega (arith, c.2), omega (arith, c.3))
      go (inr (inl e)) =
          let z = lifted solved i i (omega arith) (omega arith) (omega arith) in
          (i, omega arith, omega arith, end_fits i best.low (inl refl) best.low_is z (omega arith) (omega arith))
      go (inr (inr e)) =
          let z = lifted solved i j (omega arith) jn (omega arith) in (
            j,
            omega arith,
            omega arith,
            end_fits j best.high (inr refl) best.high_is z (omega arith) (omega arith),
          )
