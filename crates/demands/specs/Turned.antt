-- Renumbering a drawing by one corner: corner i becomes i + 1, and the last becomes 0. For a list of even length the
-- turned drawing is in range, simple and anticlockwise where the drawing is and only there, and corners see each
-- other where they did.
use Rattle.std.specs.Prelude.{◌≡◌, refl, List, ◌↔◌, ℕ, zero, suc, ◌+◌, ◌-◌, ◌*◌, ◌/◌, ◌≤◌, ◌<◌, ℤ, pos, neg_ℤ, ◌+ℤ◌, ◌-ℤ◌, ◌*ℤ◌, length, get_or, take, drop, ◌≤ℤ◌}
use Rattle.std.proofs.Common.{sym, ◌∙◌, ap, ap₂, subst, subst₂, arith, length-append, length-take, length-drop, get_or-take, get_or-drop, get_or-append-add}
use Rattle.std.proofs.Math.Logic.{by_cases}
use Rattle.std.proofs.Math.Decide.{dec_lt}
use Rattle.std.proofs.Math.IntN.{+ℤ_comm, +ℤ_assoc}
use Rattle.std.proofs.Math.ListN.{get_or-append}
use Rattle.limits.specs.Limits.{furthest}
use Rattle.outline.specs.Drawing.{corner, corners, next, prev, InRange, Simple, Sees}
use Rattle.outline.specs.Drawing.{side_area, area_to, doubled_area}
use Rattle.outline.specs.Round.{next_inner, next_last, next_below, prev_below, prev_next, next_prev}
use Rattle.demands.specs.Entered.{turned}
use Rattle.demands.specs.Partners.{keeps_same, Partners, partners_simple, partners_sees}

pub length_turned : (d : List ℤ) → length (turned d) ≡ length d
length_turned d = simp (length-append, length-drop, length-take) (omega arith)

pub corners_turned : (d : List ℤ) → corners (turned d) ≡ corners d
corners_turned d = ap (λ m. m / 2) (length_turned d)

-- ---- number k of the turned list
module _ (d : List ℤ) (some : 2 ≤ length d) where
  last_two : length (drop (length d - 2) d) ≡ 2
  last_two = length-drop (length d - 2) d ∙ omega arith

  front : (k : ℕ) → k < 2 → get_or (turned d) k (pos 0) ≡ get_or d (length d - 2 + k) (pos 0)
  front k h =
      get_or-append (drop (length d - 2) d) (take (length d - 2) d) (pos 0) k (omega (arith, last_two))
      ∙ get_or-drop (length d - 2) d k (pos 0)

  rest : (k : ℕ) → 2 + k < length d → get_or (turned d) (2 + k) (pos 0) ≡ get_or d k (pos 0)
  rest k h =
      ap (λ m. get_or (turned d) (m + k) (pos 0)) (sym last_two)
      ∙ get_or-append-add (drop (length d - 2) d) (take (length d - 2) d) k (pos 0)
      ∙ get_or-take (length d - 2) d k (pos 0) (omega arith)

-- ---- a list of numbers of another list is in range where that is
abbrev Stands : List ℤ → ℤ → Type 0
Stands d z = (m : ℕ) × (m < length d) × (z ≡ get_or d m (pos 0))

in_range_of : (d d' : List ℤ) → ((k : ℕ) → k < length d' → Stands d (get_or d' k (pos 0))) → InRange d → InRange d'
in_range_of d d' at r = record {
  low = λ k h. let f = at k h in subst (λ z. neg_ℤ (pos furthest) ≤ℤ z) (sym f.2) (r.low f.0 f.1);
  high = λ k h. let f = at k h in subst (λ z. z ≤ℤ pos furthest) (sym f.2) (r.high f.0 f.1);
}

module _ (d : List ℤ) (even : length d ≡ 2 * corners d) where
  pub in_range_turned : InRange d ↔ InRange (turned d)
  in_range_turned = (in_range_of d (turned d) new_in_old, in_range_of (turned d) d old_in_new)
    where
      new_in_old : (k : ℕ) → k < length (turned d) → Stands d (get_or (turned d) k (pos 0))
      new_in_old k h =
          let low : k < length d = subst (λ n. k < n) (length_turned d) h in
          by_cases (dec_lt k 2) (λ l. (length d - 2 + k, omega arith, front d (omega arith) k l))
          (λ l. (
            k - 2,
            omega arith,
            ap (λ m. get_or (turned d) m (pos 0)) (omega arith)
                ∙ rest d (omega arith) (k - 2) (omega arith),
          ))

      old_in_new : (m : ℕ) → m < length d → Stands (turned d) (get_or d m (pos 0))
      old_in_new m h =
          by_cases (dec_lt (2 + m) (length d)) (λ l. (2 + m, below (2 + m) l, sym (rest d (omega arith) m l)))
          (λ l.
          let k : ℕ = 2 + m - length d in (
            k,
            below k (omega arith),
            ap (λ m. get_or d m (pos 0)) (omega arith)
                ∙ sym (front d (omega arith) k (omega arith)),
          ))
        where
          below : (k : ℕ) → k < length d → k < length (turned d)
          below k = subst (λ n. k < n) (sym (length_turned d))

  pub corner_turned : (i : ℕ) → i < corners d → corner (turned d) (next (corners d) i) ≡ corner d i
  corner_turned i h = by_cases (dec_lt (suc i) (corners d)) inner last
    where
      inner : suc i < corners d → corner (turned d) (next (corners d) i) ≡ corner d i
      inner l = ap (corner (turned d)) (next_inner (corners d) i l) ∙ (λ k. record { x = x_is k; y = y_is k })
        where
          x_is : get_or (turned d) (2 * suc i) (pos 0) ≡ get_or d (2 * i) (pos 0)
          x_is = ap (λ m. get_or (turned d) m (pos 0)) (omega arith) ∙ rest d (omega arith) (2 * i) (omega arith)

          y_is : get_or (turned d) (2 * suc i + 1) (pos 0) ≡ get_or d (2 * i + 1) (pos 0)
          y_is = ap (λ m. get_or (turned d) m (pos 0)) (omega arith) ∙ rest d (omega arith) (2 * i + 1) (omega arith)

      last : ¬ (suc i < corners d) → corner (turned d) (next (corners d) i) ≡ corner d i
      last l =
          ap (corner (turned d)) (next_last (corners d) i (omega arith)) ∙ (λ k. record { x = x_is k; y = y_is k })
        where
          x_is : get_or (turned d) 0 (pos 0) ≡ get_or d (2 * i) (pos 0)
          x_is = front d (omega arith) 0 (omega arith) ∙ ap (λ m. get_or d m (pos 0)) (omega arith)

          y_is : get_or (turned d) 1 (pos 0) ≡ get_or d (2 * i + 1) (pos 0)
          y_is = front d (omega arith) 1 (omega arith) ∙ ap (λ m. get_or d m (pos 0)) (omega arith)

  -- ---- the turned drawing is a partner of the drawing, and the drawing of it
  on : Partners (λ p q. p ≡ q) (prev (corners d)) d (turned d)
  on = record {
    keeps = keeps_same;
    many = corners_turned d;
    below = prev_below (corners d);
    one_to_one = λ i j h g e. sym (next_prev (corners d) i h) ∙ ap (next (corners d)) e ∙ next_prev (corners d) j g;
    round = λ i h. prev_next (corners d) i h ∙ sym (next_prev (corners d) i h);
    tied = λ i h.
        sym (corner_turned (prev (corners d) i) (prev_below (corners d) i h))
        ∙ ap (corner (turned d)) (next_prev (corners d) i h);
  }

  to_old : {i : ℕ} → i < corners (turned d) → i < corners d
  to_old {i} h = subst (λ n. i < n) (corners_turned d) h

  to_new : {i : ℕ} → i < corners d → i < corners (turned d)
  to_new {i} h = subst (λ n. i < n) (sym (corners_turned d)) h

  back : Partners (λ p q. p ≡ q) (next (corners d)) (turned d) d
  back = record {
    keeps = keeps_same;
    many = sym (corners_turned d);
    below = λ i h. to_new (next_below (corners d) i (to_old h));
    one_to_one = λ i j h g e. sym (prev_next (corners d) i (to_old h)) ∙ ap (prev (corners d)) e
        ∙ prev_next (corners d) j (to_old g);
    round = λ i h.
        ap (λ n. next (corners d) (next n i)) (corners_turned d)
        ∙ ap (λ n. next n (next (corners d) i)) (sym (corners_turned d));
    tied = λ i h. corner_turned i (to_old h);
  }

  pub simple_turned : Simple d ↔ Simple (turned d)
  simple_turned = (partners_simple _ _ d (turned d) on, partners_simple _ _ (turned d) d back)

  pub sees_turned : (i j : ℕ) → i < corners d → j < corners d →
      Sees d i j ↔ Sees (turned d) (next (corners d) i) (next (corners d) j)
  sees_turned i j h g = (
    λ s. partners_sees _ _ d (turned d) on (next (corners d) i) (next (corners d) j)
        (next_below (corners d) i h) (next_below (corners d) j g)
        (subst₂ (λ k l. Sees d k l) (sym (prev_next (corners d) i h)) (sym (prev_next (corners d) j g)) s),
    partners_sees _ _ (turned d) d back i j (to_new h) (to_new g),
  )

  -- ---- the doubled area: the same sides, the last one first
  side_turned : (i : ℕ) → i < corners d → side_area (turned d) (next (corners d) i) ≡ side_area d i
  side_turned i h =
      ap₂ (λ p q. p.x *ℤ q.y -ℤ q.x *ℤ p.y) (corner_turned i h)
      (ap (λ n. corner (turned d) (next n (next (corners d) i))) (corners_turned d)
      ∙ corner_turned (next (corners d) i) (next_below (corners d) i h))

  area_so_far : (k : ℕ) → k < corners d → area_to (turned d) (suc k) ≡ side_area d (corners d - 1) +ℤ area_to d k
  area_so_far zero h =
      ap (λ m. pos 0 +ℤ side_area (turned d) m) (sym (next_last (corners d) (corners d - 1) (omega arith)))
      ∙ ap (λ z. pos 0 +ℤ z) (side_turned (corners d - 1) (omega arith))
      ∙ +ℤ_comm (pos 0) (side_area d (corners d - 1))
  area_so_far (suc k) h =
      ap₂ ◌+ℤ◌ (area_so_far k (omega arith))
      (ap (side_area (turned d)) (sym (next_inner (corners d) k h)) ∙ side_turned k (omega arith))
      ∙ +ℤ_assoc (side_area d (corners d - 1)) (area_to d k) (side_area d k)

  pub area_turned : doubled_area (turned d) ≡ doubled_area d
  area_turned = ap (area_to (turned d)) (corners_turned d) ∙ round (corners d) refl
    where
      round : (m : ℕ) → corners d ≡ m → area_to (turned d) m ≡ area_to d m
      round zero e = refl
      round (suc m) e =
          area_so_far m (omega arith)
          ∙ ap (λ k. side_area d k +ℤ area_to d m) (omega arith)
          ∙ +ℤ_comm (side_area d m) (area_to d m)
