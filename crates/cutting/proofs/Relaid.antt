-- Laws of a lane that is filled again, and of the lanes of all centres that fit.
use mathlib.Core.Path.{◌≡◌, refl, sym, ap, subst, ◌∙◌}
use mathlib.Core.Bool.{true, false}
use mathlib.Core.Logic.{◌⊎◌, inl, inr}
use mathlib.Core.List.{List}
use Prim.Native.Nat.{ℕ, suc, ◌+◌, ◌<◌, ◌≤◌, min}
use native.Mathlib.Omega.{arith}
use native.Mathlib.Decide.{dec_lt}
use borrow.Author.Count.{below_more}
use lib.ListN.{length, set}
use lib.Seq.{get_or-set_same, get_or-set_other}
use Rattle.limits.specs.Limits.{row, all_cells, place}
use Rattle.rules.specs.Cells.{cell}
use Rattle.rules.specs.Columns.{pays, Least, Lane}
use Rattle.rules.specs.Small.{least_same}
use Rattle.cutting.specs.Rows.{none, lane, Veil, Blank, Reach, LaneOf, Laned}
use Rattle.cutting.specs.Tracing.{fits_in, LowestFit, Lanes}
use Rattle.cutting.proofs.Values.{clash}

-- ---- the cheapest step, of those to corners below t
pub record Reaching (val g : List ℕ) (b t r : ℕ) : Type 0 where
  pub most : r ≤ none
  pub low : (c : ℕ) → c < t → r ≤ cell val b c + lane g c
  pub hit : r < none → (c : ℕ) × (c < t) × (r ≡ cell val b c + lane g c)

pub reaching_none : {val g : List ℕ} {b : ℕ} → Reaching val g b 0 none
reaching_none = record { most = omega arith; low = λ c h. absurd (omega arith); hit = λ h. absurd (omega arith) }

pub reaching_more : {val g : List ℕ} {b t r z s r' : ℕ} → Reaching val g b t r → z ≡ cell val b t →
    s ≡ min none (z + lane g t) → r' ≡ min r s → Reaching val g b (t + 1) r'
reaching_more {val} {g} {b} {t} {r} {z} {s} {r'} l e f q = record {
  most = omega (arith, l.most);
  low = below_more _ _ (λ c h. omega (arith, l.low c h)) (omega arith);
  hit = go (dec_lt s r);
}
  where
    go : Dec (s < r) → r' < none → (c : ℕ) × (c < t + 1) × (r' ≡ cell val b c + lane g c)
    go (yes p) h = (t, omega arith, omega arith)
    go (no p) h = let c = l.hit (omega arith) in (c.0, omega (arith, c.1), omega (arith, c.2))

pub reaching_end : {val g : List ℕ} {b t r : ℕ} → Reaching val g b t r → t ≡ row → Reach val g b r
reaching_end l e = record {
  most = l.most;
  low = λ c h. l.low c (omega arith);
  hit = λ h. let c = l.hit h in (c.0, omega (arith, c.1), c.2);
}

-- ---- a lane, from b on: the row g has it side by side, and none elsewhere
pub record Laning (veil val before col g : List ℕ) (x j b : ℕ) : Type 0 where
  pub roads : Lane none (cell veil) (cell val) x j b (cell col)
  pub row_is : (c : ℕ) → b ≤ c → c ≤ j → lane g c ≡ cell col c x
  pub blank : (c : ℕ) → c < row → (c < b) ⊎ (j < c) → lane g c ≡ none
  pub other : (a y : ℕ) → y < row → ¬ (y ≡ x) → cell col a y ≡ cell before a y

pub laning_none : (before : List ℕ) {veil val col g : List ℕ} {x j z : ℕ} → x < row → j < row →
    length before ≡ all_cells → length g ≡ row → Blank g → z ≡ cell veil j x → col ≡ set before (place j x) z →
    Laning veil val col col (set g j z) x j j
laning_none before {veil} {val} {col} {g} {x} {j} {z} xr jr size len bl ez e = rw e record {
  roads = record {
    start = get_or-set_same before (place j x) z 0 (omega arith) ∙ ez;
    seen = λ a p q. absurd (omega arith);
    unseen = λ a p q. absurd (omega arith);
  };
  row_is = λ c p q.
      let k : j ≡ c = omega arith in
      subst (λ (k : ℕ). lane (set g j z) k ≡ cell (set before (place j x) z) k x) k
      (get_or-set_same g j z 0 (omega arith) ∙ sym (get_or-set_same before (place j x) z 0 (omega arith)));
  blank = λ c cr h. get_or-set_other g j c z 0 (λ k. apart c h k) ∙ bl.at c cr;
  other = λ a y yr ne. refl;
}
  where
    apart : (c : ℕ) → (c < j) ⊎ (j < c) → c ≡ j → ⊥
    apart c (inl h) k = omega arith
    apart c (inr h) k = omega arith

pub laning_more : {veil val before col col' g : List ℕ} {x j b m y z : ℕ} → Veil veil → x ≤ b → b < j → j < row →
    length col ≡ all_cells → length g ≡ row → Laning veil val before col g x j (b + 1) → Reach val g b m →
    y ≡ cell veil b x → z ≡ min none (m + y) → col' ≡ set col (place b x) z →
    Laning veil val before col' (set g b z) x j b
laning_more {veil} {val} {before} {col} {col'} {g} {x} {j} {b} {m} {y} {z} veils xb bj jr size len l r ey ez e =
    rw e record {
      roads = record {
        start = kept j x (omega arith) (omega arith) ∙ l.roads.start;
        seen = λ a ba aj h. seen a aj h (dec_lt b a) ba;
        unseen = λ a ba aj h. unseen a aj h (dec_lt b a) ba;
      };
      row_is = λ c bc cj. rows c cj (dec_lt b c) bc;
      blank = λ c cr h. get_or-set_other g b c z 0 (λ k. apart c h k) ∙ l.blank c cr (wider c h);
      other = λ a u ur ne. get_or-set_other col (place b x) (place a u) z 0 (λ k. ne (omega arith)) ∙
          l.other a u ur ne;
    }
  where
    kept : (a u : ℕ) → b < a → u < row → cell (set col (place b x) z) a u ≡ cell col a u
    kept a u ba ur = get_or-set_other col (place b x) (place a u) z 0 (λ k. omega arith)

    here : cell (set col (place b x) z) b x ≡ z
    here = get_or-set_same col (place b x) z 0 (omega arith)

    apart : (c : ℕ) → (c < b) ⊎ (j < c) → c ≡ b → ⊥
    apart c (inl h) k = omega arith
    apart c (inr h) k = omega arith

    wider : (c : ℕ) → (c < b) ⊎ (j < c) → (c < b + 1) ⊎ (j < c)
    wider c (inl h) = inl (omega arith)
    wider c (inr h) = inr h

    least : Least none (pays (cell val) (cell (set col (place b x) z)) x b) b (suc j) m
    least = record {
      most = r.most;
      low =
          λ c cj bc. omega
          (arith, r.low c (omega arith), l.row_is c (omega arith) (omega arith), kept c x bc (omega arith));
      hit = λ h.
          let c = r.hit h in
          let q = inside c.0 c.1 (dec_lt b c.0) (dec_lt j c.0) (λ k. omega (arith, c.2, k)) in (
            c.0,
            q.0,
            q.1,
            omega (
              arith,
              c.2,
              l.row_is c.0 (omega (arith, q.0)) (omega (arith, q.1)),
              kept c.0 x q.0 (omega arith),
            ),
          );
    }
      where
        inside : (c : ℕ) → c < row → Dec (b < c) → Dec (j < c) → (lane g c ≡ none → ⊥) → (b < c) × (c < suc j)
        inside c cr (yes p) (no q) f = (p, omega arith)
        inside c cr (yes p) (yes q) f = absurd (f (l.blank c cr (inr q)))
        inside c cr (no p) q f = absurd (f (l.blank c cr (inl (omega arith))))

    seen : (a : ℕ) → a < j → cell veil a x ≡ 0 → Dec (b < a) → b ≤ a →
        Least none (pays (cell val) (cell (set col (place b x) z)) x a) a (suc j) (cell (set col (place b x) z) a x)
    seen a aj h (yes p) ba =
        least_same (λ c q s. ap (λ (k : ℕ). cell val a c + k) (kept c x (omega arith) (omega arith)))
        (kept a x p (omega arith)) (l.roads.seen a (omega arith) aj h)
    seen a aj h (no p) ba =
        let k : b ≡ a = omega arith in
        subst
        (λ (u : ℕ). cell veil u x ≡ 0 →
        Least none (pays (cell val) (cell (set col (place b x) z)) x u) u (suc j)
        (cell (set col (place b x) z) u x)) k
        (λ v. least_same (λ c q s. refl) (omega (arith, here, v, r.most)) least) h

    unseen : (a : ℕ) → a < j → ¬ (cell veil a x ≡ 0) → Dec (b < a) → b ≤ a → cell (set col (place b x) z) a x ≡ none
    unseen a aj h (yes p) ba = kept a x p (omega arith) ∙ l.roads.unseen a (omega arith) aj h
    unseen a aj h (no p) ba =
        let k : b ≡ a = omega arith in
        subst (λ (u : ℕ). ¬ (cell veil u x ≡ 0) → cell (set col (place b x) z) u x ≡ none) k
        (λ v. omega (arith, here, veils.at (place b x) v)) h

    rows : (c : ℕ) → c ≤ j → Dec (b < c) → b ≤ c → lane (set g b z) c ≡ cell (set col (place b x) z) c x
    rows c cj (yes p) bc =
        get_or-set_other g b c z 0 (λ k. omega arith) ∙ l.row_is c (omega arith) cj ∙ sym (kept c x p (omega arith))
    rows c cj (no p) bc =
        let k : b ≡ c = omega arith in
        subst (λ (u : ℕ). lane (set g b z) u ≡ cell (set col (place b x) z) u x) k
        (get_or-set_same g b z 0 (omega arith) ∙ sym here)

pub laning_at : {veil val before col g : List ℕ} {x j b b' : ℕ} → b ≡ b' → Laning veil val before col g x j b →
    Laning veil val before col g x j b'
laning_at {veil} {val} {before} {col} {g} {x} {j} e l = subst (λ (k : ℕ). Laning veil val before col g x j k) e l

pub laning_end : (before : List ℕ) (z : ℕ) {veil val first col g : List ℕ} {x j b : ℕ} → b ≡ x → x < row →
    first ≡ set before (place j x) z → Laning veil val first col g x j b → Laned veil val before col x j
laning_end before z {veil} {val} {first} {col} {g} {x} {j} {b} e xr f l = record {
  lane_is = record { is = subst (λ (k : ℕ). Lane none (cell veil) (cell val) x j k (cell col)) e l.roads };
  other = λ a y yr ne.
      l.other a y yr ne ∙ ap (λ (t : List ℕ). cell t a y) f
      ∙ get_or-set_other before (place j x) (place a y) z 0 (λ k. ne (omega arith));
}

-- ---- the lanes of all that fit
lane_kept : {veil val col col' : List ℕ} {x y j : ℕ} → x < row → y < row → j < row → ¬ (x ≡ y) →
    Laned veil val col col' y j → LaneOf veil val col x j → LaneOf veil val col' x j
lane_kept {veil} {val} {col} {col'} {x} {y} {j} xr yr jr ne l k = record {
  is = record {
    start = l.other j x xr ne ∙ k.is.start;
    seen =
        λ a p q h. least_same (λ c s t. ap (λ (u : ℕ). cell val a c + u) (l.other c x xr ne)) (l.other a x xr ne)
        (k.is.seen a p q h);
    unseen = λ a p q h. l.other a x xr ne ∙ k.is.unseen a p q h;
  };
}

module _ {veil val left right col : List ℕ} {i j x : ℕ} where
  pub lanes_not : fits_in val left right i j x ≡ false → Lanes veil val left right col i j x →
      Lanes veil val left right col i j (x + 1)
  lanes_not f l = record { at = λ y p q h. go y p h (dec_lt y x) q }
    where
      go : (y : ℕ) → i ≤ y → fits_in val left right i j y ≡ true → Dec (y < x) → y < x + 1 → LaneOf veil val col y j
      go y p h (yes q) s = l.at y p q h
      go y p h (no q) s =
          let e : y ≡ x = omega arith in
          clash (sym h ∙ ap (λ (k : ℕ). fits_in val left right i j k) e ∙ f)

  pub lanes_more : {col' : List ℕ} → x ≤ j → j < row → Laned veil val col col' x j →
      Lanes veil val left right col i j x → Lanes veil val left right col' i j (x + 1)
  lanes_more {col'} xj jr n l = record { at = λ y p q h. go y p h (dec_lt y x) q }
    where
      go : (y : ℕ) → i ≤ y → fits_in val left right i j y ≡ true → Dec (y < x) → y < x + 1 → LaneOf veil val col' y j
      go y p h (yes q) s = lane_kept (omega arith) (omega arith) jr (λ e. omega arith) n (l.at y p q h)
      go y p h (no q) s = let e : x ≡ y = omega arith in subst (λ (k : ℕ). LaneOf veil val col' k j) e n.lane_is

-- up to the lowest that fits
pub lanes_lowest : {veil val left right before col : List ℕ} {i j x : ℕ} → LowestFit val left right i j x →
    Laned veil val before col x j → Lanes veil val left right col i j (x + 1)
lanes_lowest {veil} {val} {left} {right} {before} {col} {i} {j} {x} w l =
    record { at = λ y p q h. go y p h (dec_lt y x) q }
  where
    go : (y : ℕ) → i ≤ y → fits_in val left right i j y ≡ true → Dec (y < x) → y < x + 1 → LaneOf veil val col y j
    go y p h (yes q) s = clash (sym h ∙ w.before y p q)
    go y p h (no q) s = let e : x ≡ y = omega arith in subst (λ (k : ℕ). LaneOf veil val col k j) e l.lane_is

pub lanes_at : {veil val left right col : List ℕ} {i j t t' : ℕ} → t ≡ t' → Lanes veil val left right col i j t →
    Lanes veil val left right col i j t'
lanes_at {veil} {val} {left} {right} {col} {i} {j} e l = subst (λ (k : ℕ). Lanes veil val left right col i j k) e l
