-- The theorems of `Picks`: its definitions and first laws are in specs/.
use Rattle.std.specs.Prelude.{◌≡◌, Bool, ◌&&◌, ◌||◌, ◌⊎◌}
use Rattle.std.proofs.Math.Path.{refl, subst, ap}
use Rattle.std.proofs.Common.{sym, ◌∙◌, inr, ⊎_elim, arith}
use Rattle.std.proofs.Math.Bool.{true, false}
use Rattle.std.proofs.Math.Logic.{inl}
use mathlib.Core.List.{List}
use Prim.Native.Nat.{ℕ, zero, suc, ◌+◌, ◌-◌, ◌<◌, ◌≤◌}
use Rattle.std.proofs.Math.Decide.{dec_lt}
use borrow.Author.Tests.{lt-ltb, le-ltb, eqb-true, eqb-false}
use Rattle.std.proofs.Math.Dec.{eqb}
use Rattle.rules.specs.Lists.{Rise}
use Rattle.rules.specs.Cutting.{Less}
use Rattle.rules.specs.Order.{Upto, less_trans, rise_differ}
use Rattle.rules.specs.Centre.{Centre, HasCentre}
use Rattle.rules.specs.Table.{Way, Piece, Table, Closes, road_rise, sum}
use Rattle.rules.proofs.Search.{Serves, Picked, try_best, star_table}
use Rattle.limits.specs.Limits.{row}
use Rattle.rules.specs.Columns.{LeastOver, Solved}
use Rattle.rules.specs.Choice.{rest_of, fits, less, better, pick_from, pick_of, choice_of}
use Rattle.rules.specs.Small.{best_of, value_at}
use Rattle.rules.specs.Ways.{May, Sees}
use Rattle.rules.specs.Owns.{diag, Attains, fits_fit, fit_fits}
use Rattle.rules.proofs.Owns.{Own, own, piece_sights, fit_sights, some_fits}
use Rattle.rules.specs.Picks.{Less-less, less_Less, never}

module _ {top : ℕ} {w : ℕ → ℕ → ℕ} {cut : ℕ → ℕ → Type 0} {veil val left : ℕ → ℕ → ℕ} {road : ℕ → ℕ → ℕ → ℕ} {n : ℕ}
    (n64 : n ≤ row) (solved : Solved top w cut veil val left road n) {i j : ℕ} (ij : suc i < j) (jn : j < n)
    (best : LeastOver top w veil val (road j) (λ x. road x i x + road j x x) i j (val i j)) where
  rest : ℕ → List ℕ
  rest x = rest_of top w val (diag road) (road j) x j i

  -- the road of b is not after that of x
  abbrev Leads : ℕ → ℕ → Type 0
  Leads b x = Upto (rest b) (rest x) (rest b) (rest x)

  module _ (lt : val i j < top) where
    own_of : (x : ℕ) → i ≤ x → x ≤ j → Attains w val road i j x → Own solved ij jn best x
    own_of x ix xj f = own solved ij jn best x ix xj (fit_sights solved ij jn best x ix xj lt f)

    -- the road of a centre that fits is its piece
    fit_piece : (x : ℕ) → i ≤ x → x ≤ j → Attains w val road i j x →
        Piece cut (May top val) (Centre (Sees veil) x) i j (rest x) × (w i j + sum val i (rest x) ≡ val i j)
    unfolding rest
    fit_piece x ix xj f =
        let o = own_of x ix xj f in
        let e = o.from lt f in
        let a = o.piece.attained (omega arith) in
        let r = (o.to (omega arith) e).1 in
        (subst (Piece cut (May top val) (Centre (Sees veil) x) i j) r a.0, omega (arith, a.1, ap (sum val i) r))

    rises : (x : ℕ) → i ≤ x → x ≤ j → Attains w val road i j x → Rise i j (rest x)
    rises x ix xj f = road_rise (Way cut (May top val)) i j (rest x) (fit_piece x ix xj f).0.1

    -- ---- of the k centres from i on, b is the one to take
    record Led (k b : ℕ) : Type 0 where
      pub is : (b ≡ row) ⊎ ((i ≤ b) × (b < i + k) × Attains w val road i j b)
      pub leads : (x : ℕ) → i ≤ x → x < i + k → Attains w val road i j x → (b < row) × Leads b x

    module _ (k b x : ℕ) (e : x ≡ i + k) (xj : x ≤ j) (l : Led k b) where
      new_or_old : (y : ℕ) → y < i + suc k → (y ≡ x) ⊎ (y < i + k)
      new_or_old y h = go (dec_lt y (i + k))
        where
          go : Dec (y < i + k) → (y ≡ x) ⊎ (y < i + k)
          go (yes p) = inr p
          go (no p) = inl (omega arith)

      took : Attains w val road i j x →
          ((y : ℕ) → i ≤ y → y < i + k → Attains w val road i j y → Less (rest x) (rest y)) →
          Led (suc k) x
      took f g = record {
        is = inr (omega arith, omega arith, f);
        leads =
            λ y iy yk fy.
            (omega (arith, n64), ⊎_elim (λ z. inl (ap rest (sym z))) (λ z. inr (g y iy z fy)) (new_or_old y yk));
      }

      stayed : (Attains w val road i j x → (b < row) × Leads b x) → Led (suc k) b
      stayed g = record {
        is = ⊎_elim inl (λ z. inr (z.0, omega (arith, z.1), z.2)) l.is;
        leads = λ y iy yk fy.
            ⊎_elim (λ z. subst (λ (u : ℕ). (b < row) × Leads b u) (sym z) (g (subst (Attains w val road i j) z fy)))
            (λ z. l.leads y iy z fy) (new_or_old y yk);
      }

      -- b comes later than x: so do those that b leads
      past : Less (rest x) (rest b) → (y : ℕ) → Leads b y → Less (rest x) (rest y)
      past p y (inl q) = subst (Less (rest x)) q p
      past p y (inr q) = less_trans (rest x) (rest b) (rest y) p q

      kept : less (rest x) (rest b) ≡ false → ¬ (b ≡ row) → Attains w val road i j x → (b < row) × Leads b x
      kept d ne f = go l.is
        where
          go : (b ≡ row) ⊎ ((i ≤ b) × (b < i + k) × Attains w val road i j b) → (b < row) × Leads b x
          go (inl z) = absurd (ne z)
          go (inr z) =
              let bj : b ≤ j = omega (arith, z.1) in (
                omega (arith, n64),
                pick (rise_differ i j (rest b) (rest x) (rises b z.0 bj z.2) (rises x (omega arith) xj f)),
              )
            where
              pick : (rest b ≡ rest x) ⊎ (Less (rest b) (rest x) ⊎ Less (rest x) (rest b)) → Leads b x
              pick (inl q) = inl q
              pick (inr (inl q)) = inr q
              pick (inr (inr q)) = never (sym (Less-less (rest x) (rest b) q) ∙ d)

      led_more : Led (suc k) (better top w val (diag road) (road j) (λ y. road j y y) i j b x)
      unfolding better rest
      led_more =
          go (fits top w val (diag road) (λ y. road j y y) i j x) (eqb b row)
          (less (rest_of top w val (diag road) (road j) x j i) (rest_of top w val (diag road) (road j) b j i)) refl
          refl refl
        where
          go : (p q r : Bool) → fits top w val (diag road) (λ y. road j y y) i j x ≡ p → eqb b row ≡ q →
              less (rest_of top w val (diag road) (road j) x j i) (rest_of top w val (diag road) (road j) b j i) ≡ r →
              Led (suc k) (elim (p && (q || r)) [ true ↦ x | false ↦ b ])
          go false q r a c d = stayed (λ f. never (sym (fit_fits top w val road i j x lt f) ∙ a))
          go true true r a c d =
              took (fits_fit top w val road i j x lt a)
              (λ y iy yk fy. absurd (omega (arith, (l.leads y iy yk fy).0, eqb-true b row c)))
          go true false true a c d =
              took (fits_fit top w val road i j x lt a)
              (λ y iy yk fy. past (less_Less (rest x) (rest b) d) y (l.leads y iy yk fy).1)
          go true false false a c d = stayed (kept d (eqb-false b row c))

    led : (k : ℕ) → i + k ≤ suc j → Led k (pick_from top w val (diag road) (road j) (λ y. road j y y) i j k)
    unfolding pick_from
    led zero h = record { is = inl refl; leads = λ x ix xk f. absurd (omega arith) }
    led (suc k) h =
        led_more k (pick_from top w val (diag road) (road j) (λ y. road j y y) i j k) (i + k) refl (omega arith)
        (led k (omega arith))

    whole : Led (suc (j - i)) (pick_of top w val (diag road) (road j) (λ y. road j y y) i j)
    whole = led (suc (j - i)) (omega arith)

    pub picked_fits : (i ≤ pick_of top w val (diag road) (road j) (λ y. road j y y) i j) ×
        (pick_of top w val (diag road) (road j) (λ y. road j y y) i j ≤ j) ×
        Attains w val road i j (pick_of top w val (diag road) (road j) (λ y. road j y y) i j)
    picked_fits =
        let s = some_fits solved ij jn best lt in
        go (pick_of top w val (diag road) (road j) (λ y. road j y y) i j)
        (whole.leads s.0 s.1 (omega (arith, s.2)) s.3).0 whole.is
      where
        go : (x : ℕ) → x < row → (x ≡ row) ⊎ ((i ≤ x) × (x < i + suc (j - i)) × Attains w val road i j x) →
            (i ≤ x) × (x ≤ j) × Attains w val road i j x
        go x h (inl e) = absurd (omega arith)
        go x h (inr z) = (z.0, omega (arith, z.1), z.2)

  choice_is : choice_of top w val road i j ≡ rest (pick_of top w val (diag road) (road j) (λ y. road j y y) i j)
  unfolding choice_of rest
  choice_is = rw (lt-ltb (suc i) j ij, choice_of)

  abbrev ServesOf : ℕ → List ℕ → Type 0
  ServesOf = Serves cut w (May top val) val (choice_of top w val road) (Sees veil) i j

  -- the piece taken is not after the road of a centre that fits
  ahead : (lt : val i j < top) (x : ℕ) → i ≤ x → x ≤ j → Attains w val road i j x → (p : List ℕ) → p ≡ rest x →
      Upto (choice_of top w val road i j) p (choice_of top w val road i j) p
  ahead lt x ix xj f p e =
      subst (λ (c : List ℕ). Upto c p c p) (sym choice_is)
      (subst
      (λ (c : List ℕ). Upto (rest (pick_of top w val (diag road) (road j) (λ y. road j y y) i j)) c
      (rest (pick_of top w val (diag road) (road j) (λ y. road j y y) i j)) c) (sym e)
      ((whole lt).leads x ix (omega arith) f).1)

  picked_line : Picked cut w (May top val) val (choice_of top w val road) (Sees veil) i j
  unfolding rest
  picked_line = record {
    tried = λ x ix xj s p. tried x ix xj (own solved ij jn best x ix xj (piece_sights solved ij jn best x s p)) s p;
    taken = λ lt.
        let z = picked_fits lt in
        let x = pick_of top w val (diag road) (road j) (λ y. road j y y) i j in
        let q = fit_piece lt x z.0 z.1 z.2 in (
          x,
          subst (Piece cut (May top val) (Centre (Sees veil) x) i j) (sym choice_is) q.0,
          omega (arith, q.1, ap (sum val i) choice_is),
        );
  }
    where
      tried : (x : ℕ) → i ≤ x → x ≤ j → Own solved ij jn best x → (s : List ℕ) →
          Piece cut (May top val) (Centre (Sees veil) x) i j s → ServesOf (sum val i s) s
      tried x ix xj o =
          try_best cut w (May top val) val (choice_of top w val road) (Sees veil) o.piece
          (λ h.
          let q = o.low h in
          let lt : val i j < top = omega (arith, q.0, q.1) in (
            lt,
            omega (arith, q.1),
            λ le. let f = o.to h (omega (arith, q.1)) in ahead lt x ix xj f.0 o.p f.1,
          ))

module _ {top : ℕ} {w : ℕ → ℕ → ℕ} {cut : ℕ → ℕ → Type 0} {veil val left : ℕ → ℕ → ℕ} {road : ℕ → ℕ → ℕ → ℕ} {n : ℕ}
    (n64 : n ≤ row) (solved : Solved top w cut veil val left road n) where
  pub pick_fits : (i j : ℕ) → suc i < j → j < n → Closes cut n i j → May top val i j →
      fits top w val (diag road) (λ y. road j y y) i j (pick_of top w val (diag road) (road j) (λ y. road j y y) i j) ≡
      true
  pick_fits i j ij jn c lt =
      fit_fits top w val road i j (pick_of top w val (diag road) (road j) (λ y. road j y y) i j) lt
      (picked_fits n64 solved ij jn (best_of solved i j ij jn c) lt).2

  pub pick_within : (i j : ℕ) → suc i < j → j < n → Closes cut n i j → May top val i j →
      (i ≤ pick_of top w val (diag road) (road j) (λ y. road j y y) i j) ×
      (pick_of top w val (diag road) (road j) (λ y. road j y y) i j ≤ j)
  pick_within i j ij jn c lt = let z = picked_fits n64 solved ij jn (best_of solved i j ij jn c) lt in (z.0, z.1)

  pub table : Table cut (HasCentre (Sees veil)) w (May top val) val (choice_of top w val road) n
  unfolding choice_of
  table =
      star_table cut w (May top val) val (choice_of top w val road) (Sees veil) n
      (λ a h. (value_at solved a (suc a) (omega arith) h).side (omega arith))
      (λ a h. rw (le-ltb (suc a) (suc a) (omega arith), choice_of))
      (λ i j lt jn c. picked_line n64 solved lt jn (best_of solved i j lt jn c))
