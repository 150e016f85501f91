-- Renumbering a drawing from any other corner, one corner at a time; once round gives the drawing back.
use Rattle.std.specs.Prelude.{◌≡◌, refl, List, [], ◌∷◌, ◌++◌, ◌↔◌, ℕ, zero, suc, ◌-◌, ◌*◌, ◌/◌, ℤ, length, take, drop}
use Rattle.std.proofs.Common.{sym, ◌∙◌, ap, ap₂, subst, append-nil, append_assoc, arith, length-append, length-take, length-drop, take-append-drop, take_at, drop_at}
use Rattle.std.proofs.Math.Logic.Iff
use Rattle.outline.specs.Drawing.{corners, InRange, Simple, doubled_area}
use Rattle.demands.specs.Entered.{turned, turned_by}
use Rattle.demands.specs.Turned.{length_turned, in_range_turned, simple_turned, area_turned}

pub length_turned_by : (k : ℕ) (d : List ℤ) → length (turned_by k d) ≡ length d
length_turned_by zero d = refl
length_turned_by (suc k) d = length_turned_by k (turned d) ∙ length_turned d

-- ---- for a list of even length, and the turned list is of even length again
even_turned : (d : List ℤ) → length d ≡ 2 * corners d → length (turned d) ≡ 2 * corners (turned d)
even_turned d even = subst (λ m. m ≡ 2 * (m / 2)) (sym (length_turned d)) even

pub in_range_turned_by : (k : ℕ) (d : List ℤ) → length d ≡ 2 * corners d → InRange d ↔ InRange (turned_by k d)
in_range_turned_by zero d even = Iff.rfl
in_range_turned_by (suc k) d even =
    Iff.trans (in_range_turned d even) (in_range_turned_by k (turned d) (even_turned d even))

pub simple_turned_by : (k : ℕ) (d : List ℤ) → length d ≡ 2 * corners d → Simple d ↔ Simple (turned_by k d)
simple_turned_by zero d even = Iff.rfl
simple_turned_by (suc k) d even = Iff.trans (simple_turned d even) (simple_turned_by k (turned d) (even_turned d even))

pub area_turned_by : (k : ℕ) (d : List ℤ) → length d ≡ 2 * corners d → doubled_area (turned_by k d) ≡ doubled_area d
area_turned_by zero d even = refl
area_turned_by (suc k) d even = area_turned_by k (turned d) (even_turned d even) ∙ area_turned d even

-- ---- once round
last_first : (w z : List ℤ) → length z ≡ 2 → turned (w ++ z) ≡ z ++ w
last_first w z e = rw at_w (ap₂ ◌++◌ (drop_at w z (length w) refl) (take_at w z (length w) refl))
  where
    at_w : length (w ++ z) - 2 ≡ length w
    at_w = simp length-append (omega arith)

-- the last k corners go to the front
part_first : (k : ℕ) (w z : List ℤ) → length z ≡ 2 * k → turned_by k (w ++ z) ≡ z ++ w
part_first zero w [] e = append-nil w
part_first zero w (x ∷ z) e = absurd (omega arith)
part_first (suc k) w z e =
    let u : List ℤ = take (2 * k) z in
    let y : List ℤ = drop (2 * k) z in
    ap (turned_by k)
    (ap turned (ap (λ l. w ++ l) (sym (take-append-drop (2 * k) z)) ∙ sym (append_assoc w u y))
    ∙ last_first (w ++ u) y (length-drop (2 * k) z ∙ omega arith)
    ∙ sym (append_assoc y w u))
    ∙ part_first k (y ++ w) u (length-take (2 * k) z ∙ omega arith)
    ∙ sym (append_assoc u y w)
    ∙ ap (λ l. l ++ w) (take-append-drop (2 * k) z)

pub once_round : (d : List ℤ) → length d ≡ 2 * corners d → turned_by (corners d) d ≡ d
once_round d even = part_first (corners d) [] d even ∙ append-nil d
