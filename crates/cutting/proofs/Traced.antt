-- Laws of the trace: each range that is met keeps the set traced.
use mathlib.Core.Path.{◌≡◌, refl, sym, ap, subst, ◌∙◌}
use mathlib.Core.Bool.{Bool, true, false}
use mathlib.Core.Logic.{◌⊎◌, inl, inr, ⊎_elim}
use mathlib.Core.List.{List}
use Prim.Native.Nat.{ℕ, suc, ◌+◌, ◌<◌, ◌≤◌}
use native.Mathlib.Omega.{arith}
use native.Mathlib.Decide.{dec_lt}
use borrow.Author.Tests.{lt-ltb}
use lib.Dec.{T}
use Rattle.limits.specs.Limits.{row}
use Rattle.rules.specs.Cutting.{Pairs, one}
use Rattle.rules.specs.Centre.{HasCentre}
use Rattle.rules.specs.Cells.{cell, marked}
use Rattle.rules.specs.Table.{Table, Way, Closes}
use Rattle.rules.specs.Choice.{rest_of, fits, pick_of, choice_of}
use Rattle.rules.specs.Ways.{Sees}
use Rattle.rules.specs.Owns.{diag}
use Rattle.rules.proofs.Picks.{table, pick_within, pick_fits}
use Rattle.rules.specs.Again.{SameTables, next_same, rest_same, lane_unique, fits_same, pick_same}
use Rattle.rules.specs.Unbeaten.{pick_lowest}
use Rattle.rules.specs.Traced.{LineOfRoad, Whole, Traced}
use Rattle.rules.proofs.Trace.{line_narrow}
use Rattle.cutting.specs.Rows.{none, Cut, LaneOf}
use Rattle.cutting.specs.Tracing.{rest_in, fits_in, pick_in, EveryIn, LowestFit}
use Rattle.cutting.specs.Tracing.{Lanes, Marked, Ahead, Tracing}
use Rattle.cutting.proofs.Marking.{marked_says}
use Rattle.cutting.proofs.Values.{clash}

-- ---- what has been looked at may be said otherwise
pub traced_seen : {cut may : ℕ → ℕ → Type 0} {choice : ℕ → ℕ → List ℕ} {m : ℕ}
    {seen seen' : ℕ → ℕ → Type 0} {M : Pairs}
    → ((a b : ℕ) → seen' a b → T (M a b) → seen a b) → Traced cut may choice m seen M → Traced cut may choice m seen' M
traced_seen f t =
    record { whole = t.whole; ways = t.ways; up = t.up; down = λ i j c d s h. t.down i j c d (f i j s h) h }

module _ {cuts veil val left right pairs : List ℕ} {n i j : ℕ} (t : Tracing cuts veil val left right n pairs i j) where
  may : ℕ → ℕ → Type 0
  may a b = cell val a b < none

  choice : ℕ → ℕ → List ℕ
  choice = choice_of none one (cell val) t.road

  tab : Table (Cut cuts) (HasCentre (Sees (cell veil))) one may (cell val) choice (suc t.m)
  unfolding may choice
  tab = table (omega (arith, t.corners, t.small)) t.solved

  -- the same tables, and the set looked at otherwise
  pub tracing_seen : (i' j' : ℕ) → ((a b : ℕ) → Ahead i' j' a b → T (marked pairs a b) → Ahead i j a b) →
      Tracing cuts veil val left right n pairs i' j'
  tracing_seen i' j' f = record {
    ticks = t.ticks;
    m = t.m;
    big = t.big;
    corners = t.corners;
    small = t.small;
    val_size = t.val_size;
    left_size = t.left_size;
    right_size = t.right_size;
    road = t.road;
    solved = t.solved;
    rights = t.rights;
    traced = traced_seen f t.traced;
  }

  -- ---- the range i j, where it is in the set
  module _ (h : T (marked pairs i j)) where
    line : (suc i < j) × (j < suc t.m) × (cell val i j < none) × Closes (Cut cuts) (suc t.m) i j
    line = t.traced.ways i j h

    lefts : (b x : ℕ) → i ≤ b → b ≤ x → x ≤ j → cell left b x ≡ diag t.road b x
    lefts b x ib bx xj = (t.solved.columns x (omega (arith, line.1))).lefts b (omega arith) bx

    rights : (x : ℕ) → i ≤ x → x ≤ j → cell right j x ≡ t.road j x x
    rights x ix xj = t.rights j line.1 x (omega arith) xj

    -- who fits, by the tables and by the roads themselves
    fit : ℕ → Bool
    fit x = fits none one (cell val) (diag t.road) (λ y. t.road j y y) i j x

    fit_is : (x : ℕ) → i ≤ x → x ≤ j → fits_in val left right i j x ≡ fit x
    unfolding fit
    fit_is x ix xj =
        fits_same none one (cell val) (diag t.road) (cell left) (λ y. t.road j y y) (cell right j) i j x
        (lefts i x (omega arith) ix xj) (rights x ix xj)

    -- a lane that was filled again
    laned : (col : List ℕ) (x : ℕ) → x ≤ j → LaneOf veil val col x j → (b : ℕ) → x ≤ b → b ≤ j →
        cell col b x ≡ t.road j b x
    laned col x xj l b xb bj =
        lane_unique (omega (arith, line.1)) (t.solved.columns j line.1).column l.is b (omega arith) xb bj

    old_pick : ℕ
    old_pick = pick_of none one (cell val) (diag t.road) (t.road j) (λ y. t.road j y y) i j

    within : (i ≤ old_pick) × (old_pick ≤ j)
    unfolding old_pick
    within = pick_within (omega (arith, t.corners, t.small)) t.solved i j line.0 line.1 line.3 line.2

    pick_fit : fit old_pick ≡ true
    unfolding fit old_pick
    pick_fit = pick_fits (omega (arith, t.corners, t.small)) t.solved i j line.0 line.1 line.3 line.2

    choice_old : choice_of none one (cell val) t.road i j ≡
        rest_of none one (cell val) (diag t.road) (t.road j) old_pick j i
    unfolding choice_of old_pick
    choice_old = rw (lt-ltb (suc i) j line.0, choice_of)

    -- ---- all lanes that fit are there: the pick is the old one
    module _ (col : List ℕ) (lanes : Lanes veil val left right col i j (j + 1)) where
      agree : SameTables
          (λ x. fits none one (cell val) (diag t.road) (λ y. t.road j y y) i j x ≡ true) (diag t.road)
          (t.road j) (cell left) (cell col) i j
      unfolding fit
      agree = record {
        lefts = lefts;
        cols =
            λ b x f ix xb bj. laned col x (omega arith)
            (lanes.at x ix (omega arith) (fit_is x ix (omega arith) ∙ f)) b
            xb bj;
      }

      same_pick : pick_in val left right col i j ≡ old_pick
      unfolding old_pick
      same_pick = pick_same none one (cell val) (omega (arith, line.0)) agree rights

      picked : (pick_in val left right col i j ≤ j) ×
          (choice_of none one (cell val) t.road i j ≡ rest_in val left col (pick_in val left right col i j) j i)
      unfolding old_pick fit
      picked = (
        omega (arith, same_pick, within.1),
        choice_old
            ∙ sym (ap (λ (k : ℕ). rest_in val left col k j i) same_pick
            ∙ rest_same none one (cell val) agree old_pick i pick_fit within.0 within.1 (omega arith)),
      )

      pub picked_as : {r : ℕ} → r ≡ pick_in val left right col i j →
          (r ≤ j) × (choice_of none one (cell val) t.road i j ≡ rest_in val left col r j i)
      picked_as e =
          subst (λ (k : ℕ). (k ≤ j) × (choice_of none one (cell val) t.road i j ≡ rest_in val left col k j i)) (sym e)
          picked

    -- ---- the lane of the lowest is there, and takes every corner: it is the one
    module _ (col : List ℕ) (x : ℕ) (low : LowestFit val left right i j x) (l : LaneOf veil val col x j)
        (every : EveryIn val left col j x i) where
      one_lane : SameTables (λ y. y ≡ x) (diag t.road) (t.road j) (cell left) (cell col) i j
      one_lane = record {
        lefts = lefts;
        cols =
            λ b y e iy yb bj. subst (λ (k : ℕ). k ≤ b → cell col b k ≡ t.road j b k) (sym e)
            (λ xb. laned col x low.to l b xb bj) yb;
      }

      below_not : (y : ℕ) → i ≤ y → y < x → fit y ≡ false
      below_not y iy yx = sym (fit_is y iy (omega (arith, low.to))) ∙ low.before y iy yx

      pick_above : x ≤ old_pick
      pick_above = go (dec_lt old_pick x)
        where
          go : Dec (old_pick < x) → x ≤ old_pick
          go (no p) = omega arith
          go (yes p) = clash (sym pick_fit ∙ below_not old_pick within.0 p)

      lowest_fits : fit x ≡ true
      lowest_fits = go (dec_lt x j)
        where
          go : Dec (x < j) → fit x ≡ true
          go (yes p) = sym (fit_is x low.from low.to) ∙ low.hit p
          go (no p) = let e : old_pick ≡ x = omega (arith, pick_above, within.1, low.to) in sym (ap fit e) ∙ pick_fit

      pick_is : old_pick ≡ x
      unfolding old_pick fit
      pick_is =
          pick_lowest none one (cell val) (diag t.road) (t.road j) j (λ y. t.road j y y) i x low.from low.to
          (omega (arith, line.1, t.corners, t.small)) lowest_fits below_not
          (λ a ia aj. sym (next_same none one (cell val) one_lane x a refl low.from low.to ia aj)
          ∙ every a ia aj)

      pub lowest_picked : (x ≤ j) × (choice_of none one (cell val) t.road i j ≡ rest_in val left col x j i)
      lowest_picked = (
        low.to,
        choice_old
            ∙ ap (λ (k : ℕ). rest_of none one (cell val) (diag t.road) (t.road j) k j i) pick_is
            ∙ sym (rest_same none one (cell val) one_lane x i refl low.from low.to (omega arith)),
      )

    -- ---- its lines come into the set
    module _ {pairs' : List ℕ} (M : Marked pairs pairs' i (choice_of none one (cell val) t.road i j)) where
      narrow : (c d : ℕ) → LineOfRoad i (choice_of none one (cell val) t.road i j) c d →
          (i ≤ c) × (c < d) × (d ≤ j) × (d + i < j + c) × Way (Cut cuts) (λ a b. cell val a b < none) c d
      unfolding may choice
      narrow c d o = line_narrow t.big tab i j c d line.0 line.1 line.2 line.3 o

      marked_traced : Traced (Cut cuts) (λ a b. cell val a b < none) (choice_of none one (cell val) t.road) t.m
          (Ahead (i + 1) j) (marked pairs')
      marked_traced = record {
        whole = M.kept 0 t.m t.traced.whole;
        ways = λ c d k. ⊎_elim (t.traced.ways c d) (λ z. new_way c d z) (M.only c d k);
        up =
            λ c d k. ⊎_elim (λ z. old_up c d (t.traced.up c d z))
            (λ z. inr (i, j, M.kept i j h, z.0, (narrow c d z.0).3)) (M.only c d k);
        down =
            λ a b c d s k o l. ⊎_elim (λ z. old_down a b c d s z o l) (λ z. absurd (clash a b s (narrow a b z.0)))
            (M.only a b k);
      }
        where
          new_way : (c d : ℕ) → LineOfRoad i (choice_of none one (cell val) t.road i j) c d × (suc c < d) →
              (suc c < d) × (d < suc t.m) × (cell val c d < none) × Closes (Cut cuts) (suc t.m) c d
          new_way c d z =
              let q = narrow c d z.0 in
              ⊎_elim (λ e. absurd (omega (arith, e, z.1)))
              (λ k. (z.1, omega (arith, q.2, line.1), k.1, inl k.0)) q.4

          old_up : (c d : ℕ) →
              Whole t.m c d ⊎
              ((a : ℕ) × (b : ℕ) × T (marked pairs a b)
              × LineOfRoad a (choice_of none one (cell val) t.road a b) c d ×
              (d + a < b + c)) →
              Whole t.m c d ⊎
              ((a : ℕ) × (b : ℕ) × T (marked pairs' a b)
              × LineOfRoad a (choice_of none one (cell val) t.road a b) c d ×
              (d + a < b + c))
          old_up c d (inl e) = inl e
          old_up c d (inr z) = inr (z.0, z.1, M.kept z.0 z.1 z.2, z.3, z.4)

          now : (a b : ℕ) → Ahead (i + 1) j a b → Ahead i j a b ⊎ ((a ≡ i) × (b ≡ j))
          now a b (inl p) = inl (inl p)
          now a b (inr p) = go (dec_lt a i)
            where
              go : Dec (a < i) → Ahead i j a b ⊎ ((a ≡ i) × (b ≡ j))
              go (yes q) = inl (inr (p.0, q))
              go (no q) = inr (omega (arith, p.1), p.0)

          old_down : (a b c d : ℕ) → Ahead (i + 1) j a b → T (marked pairs a b) →
              LineOfRoad a (choice_of none one (cell val) t.road a b) c d → suc c < d → T (marked pairs' c d)
          old_down a b c d s k o l =
              ⊎_elim (λ z. M.kept c d (t.traced.down a b c d z k o l))
              (λ z. M.drawn c d
              (subst (λ (y : ℕ). LineOfRoad i (choice_of none one (cell val) t.road i y) c d) z.1
              (subst (λ (x : ℕ). LineOfRoad x (choice_of none one (cell val) t.road x b) c d) z.0 o)) l)
              (now a b s)

          clash : (a b : ℕ) → Ahead (i + 1) j a b →
              (i ≤ a) × (a < b) × (b ≤ j) × (b + i < j + a) × Way (Cut cuts) (λ a b. cell val a b < none) a b → ⊥
          clash a b (inl p) q = omega (arith, q.2)
          clash a b (inr p) q = omega (arith, p.0, p.1, q.0, q.3)

      tracing_marked : Tracing cuts veil val left right n pairs' (i + 1) j
      tracing_marked = record {
        ticks = M.ticks;
        m = t.m;
        big = t.big;
        corners = t.corners;
        small = t.small;
        val_size = t.val_size;
        left_size = t.left_size;
        right_size = t.right_size;
        road = t.road;
        solved = t.solved;
        rights = t.rights;
        traced = marked_traced;
      }

    pub tracing_by : {pairs' s : List ℕ} → choice_of none one (cell val) t.road i j ≡ s → Marked pairs pairs' i s →
        Tracing cuts veil val left right n pairs' (i + 1) j
    tracing_by {pairs'} e M = tracing_marked (subst (λ (l : List ℕ). Marked pairs pairs' i l) (sym e) M)

  -- ---- the range is not in the set
  pub tracing_not : cell pairs i j ≡ 0 → Tracing cuts veil val left right n pairs (i + 1) j
  tracing_not e = tracing_seen (i + 1) j other
    where
      other : (a b : ℕ) → Ahead (i + 1) j a b → T (marked pairs a b) → Ahead i j a b
      other a b (inl p) k = inl p
      other a b (inr p) k = at (dec_lt a i)
        where
          at : Dec (a < i) → Ahead i j a b
          at (yes q) = inr (p.0, q)
          at (no q) =
              let x : a ≡ i = omega (arith, p.1) in
              absurd
              (omega (
                arith,
                (marked_says pairs i j (subst (λ (y : ℕ). T (marked pairs i y)) p.0
                    (subst (λ (z : ℕ). T (marked pairs z b)) x k))).2,
              ))

-- ---- a column is begun, and ended
pub tracing_open : {cuts veil val left right pairs : List ℕ} {n j : ℕ} →
    Tracing cuts veil val left right n pairs row (j + 1) → Tracing cuts veil val left right n pairs 0 j
tracing_open {pairs} {n} {j} t = tracing_seen t 0 j seen
  where
    low : (a b : ℕ) → T (marked pairs a b) → a < row
    low a b h = let q = t.traced.ways a b h in omega (arith, q.0, q.1, t.corners, t.small)

    seen : (a b : ℕ) → Ahead 0 j a b → T (marked pairs a b) → Ahead row (j + 1) a b
    seen a b (inl p) h = go (dec_lt (j + 1) b)
      where
        go : Dec (j + 1 < b) → Ahead row (j + 1) a b
        go (yes q) = inl q
        go (no q) = inr (omega arith, low a b h)
    seen a b (inr p) h = absurd (omega (arith, p.1))

pub tracing_close : {cuts veil val left right pairs : List ℕ} {n i j : ℕ} → j ≤ i →
    Tracing cuts veil val left right n pairs i j → Tracing cuts veil val left right n pairs row j
tracing_close {pairs} {i} {j} h t = tracing_seen t row j seen
  where
    seen : (a b : ℕ) → Ahead row j a b → T (marked pairs a b) → Ahead i j a b
    seen a b (inl p) k = inl p
    seen a b (inr p) k = inr (p.0, omega (arith, p.0, (t.traced.ways a b k).0))

pub tracing_at : {cuts veil val left right pairs : List ℕ} {n i j j' : ℕ} → j ≡ j' →
    Tracing cuts veil val left right n pairs i j → Tracing cuts veil val left right n pairs i j'
tracing_at {cuts} {veil} {val} {left} {right} {pairs} {n} {i} e t =
    subst (λ (k : ℕ). Tracing cuts veil val left right n pairs i k) e t
