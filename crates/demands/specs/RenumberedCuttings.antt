-- Renumbering both drawings leads each valid cutting to a valid cutting of no more pieces, one corner on, any number
-- of corners on, and back again: once round gives the drawings back.
use Rattle.std.specs.Prelude.{◌≡◌, refl, List, ℕ, zero, suc, ◌-◌, ◌*◌, ◌≤◌, ◌<◌, ℤ, length}
use Rattle.std.proofs.Common.{sym, ◌∙◌, ap, subst, subst₂, inl, inr, arith}
use Rattle.outline.specs.Drawing.{corners, next, Sees}
use Rattle.outline.specs.InOrOn.{CentreSees}
use Rattle.outline.specs.Round.{next_inner, next_last}
use Rattle.rules.specs.Cutting.{Pairs, Valid, pieces}
use Rattle.rules.specs.Centre.{HasCentre}
use Rattle.rules.specs.Turn.{Moved, centre_turn}
use Rattle.rules.specs.Renumber.{Carried, turn}
use Rattle.rules.proofs.Renumber.{turn_valid, turn_pieces}
use Rattle.pair.specs.Pair.{Alike}
use Rattle.desk.specs.Answer.{InBoth, Cut, ValidCutting}
use Rattle.demands.specs.Entered.{turned, turned_by}
use Rattle.demands.specs.Turned.{length_turned, corners_turned, sees_turned}
use Rattle.demands.specs.CentreTurned.{centre_turned}
use Rattle.demands.specs.Renumbered.{once_round}
use Rattle.demands.specs.SameAnswer.{alike_by_length}

-- for each valid cutting of the first pair the second pair has one, of no more pieces
abbrev pub NoMore : List ℤ → List ℤ → List ℤ → List ℤ → Type 0
NoMore first second first' second' = (C : Pairs) → ValidCutting first second C →
    (D : Pairs) × ValidCutting first' second' D
    × (length (pieces (corners first') D) ≤ length (pieces (corners first) C))

no_more_trans : {f s f' s' f'' s'' : List ℤ} → NoMore f s f' s' → NoMore f' s' f'' s'' → NoMore f s f'' s''
no_more_trans h g C va =
    let D = h C va in
    let E = g D.0 D.1 in
    (E.0, E.1, omega arith)

-- ---- one step: corner x becomes x', and sees what it saw, by the rule for cuts and by the rule for centres
moved_next : (n x x' : ℕ) → Moved n x x' → (x < n) × (next n x ≡ x')
moved_next n x x' (inl m) = (omega arith, next_last n x m.0 ∙ sym m.1)
moved_next n x x' (inr m) = (omega arith, next_inner n x m.0 ∙ sym m.1)

-- renumbering by one corner keeps a kind of sight
abbrev Kept : (List ℤ → ℕ → ℕ → Type 0) → Type 0
Kept sees = (d : List ℤ) → length d ≡ 2 * corners d → (i j : ℕ) → i < corners d → j < corners d →
    sees d i j → sees (turned d) (next (corners d) i) (next (corners d) j)

strict_kept : Kept Sees
strict_kept d even i j h g = (sees_turned d even i j h g).0

centre_kept : Kept CentreSees
centre_kept d even i j h g = (centre_turned d even (omega arith) i j h g).0

module _ (sees : List ℤ → ℕ → ℕ → Type 0) (kept : Kept sees) where
  sees_on : (d : List ℤ) (n : ℕ) → n ≡ corners d → length d ≡ 2 * corners d → (x x' y y' : ℕ) →
      Moved n x x' → Moved n y y' →
      sees d x y → sees (turned d) x' y'
  sees_on d n e even x x' y y' m l s =
      let h = moved_next (corners d) x x' (subst (λ n. Moved n x x') e m) in
      let g = moved_next (corners d) y y' (subst (λ n. Moved n y y') e l) in
      subst₂ (sees (turned d)) h.1 g.1 (kept d even x y h.0 g.0 s)

alike_turned : (first second : List ℤ) → Alike first second → Alike (turned first) (turned second)
alike_turned first second = (alike_by_length (length_turned first) (length_turned second)).0

module _ (first second : List ℤ) (a : Alike first second) where
  abbrev n : ℕ
  n = corners first

  abbrev old : ℕ → ℕ → Type 0
  old = InBoth first second

  abbrev new : ℕ → ℕ → Type 0
  new = InBoth (turned first) (turned second)

  abbrev cut : ℕ → ℕ → Type 0
  cut = Cut first second

  abbrev cut' : ℕ → ℕ → Type 0
  cut' = Cut (turned first) (turned second)

  goes : (sees : List ℤ → ℕ → ℕ → Type 0) → Kept sees → (x x' y y' : ℕ) → Moved n x x' → Moved n y y' →
      sees first x y × sees second x y → sees (turned first) x' y' × sees (turned second) x' y'
  goes sees kept x x' y y' m l s = (
    sees_on sees kept first n refl a.even x x' y y' m l s.0,
    sees_on sees kept second n (omega arith) (omega arith) x x' y y' m l s.1,
  )

  strict : (x x' y y' : ℕ) → Moved n x x' → Moved n y y' →
      Sees first x y × Sees second x y → Sees (turned first) x' y' × Sees (turned second) x' y'
  strict = goes Sees strict_kept

  carried : Carried n cut cut' (HasCentre old) (HasCentre new)
  carried = record {
    others = λ x y lt h c.
        let p : Moved n x (suc x) = inr (omega arith, refl) in
        let q : Moved n y (suc y) = inr (h, refl) in
        (strict x (suc x) y (suc y) p q c.0, strict y (suc y) x (suc x) q p c.1);
    last = λ x y lt h c.
        let p : Moved n x (suc x) = inr (omega arith, refl) in
        let q : Moved n y 0 = inl (h, refl) in
        (strict y 0 x (suc x) q p c.1, strict x (suc x) y 0 p q c.0);
    lists = centre_turn n old new (goes CentreSees centre_kept);
  }

  no_more_turned : NoMore first second (turned first) (turned second)
  no_more_turned C va =
      subst (λ m. (D : Pairs) × Valid cut' (HasCentre new) m D × (length (pieces m D) ≤ length (pieces n C)))
      (sym (corners_turned first)) (
        turn n C,
        turn_valid n cut cut' (HasCentre old) (HasCentre new) carried C va,
        turn_pieces n C a.enough va.uncrossed,
      )

-- ---- any number of steps, and back: the steps that are left of once round undo one step
pub no_more_turned_by : (k : ℕ) (first second : List ℤ) → Alike first second →
    NoMore first second (turned_by k first) (turned_by k second)
no_more_turned_by zero first second a = λ C va. (C, va, omega arith)
no_more_turned_by (suc k) first second a =
    no_more_trans (no_more_turned first second a)
    (no_more_turned_by k (turned first) (turned second) (alike_turned first second a))

no_more_back : (first second : List ℤ) → Alike first second → NoMore (turned first) (turned second) first second
no_more_back first second a =
    subst₂ (NoMore (turned first) (turned second)) (round first (omega arith) a.even)
    (round second (omega arith) (omega arith))
    (no_more_turned_by (corners first - 1) (turned first) (turned second) (alike_turned first second a))
  where
    round : (d : List ℤ) → suc (corners first - 1) ≡ corners d → length d ≡ 2 * corners d →
        turned_by (corners first - 1) (turned d) ≡ d
    round d e even = ap (λ m. turned_by m d) e ∙ once_round d even

pub no_more_back_by : (k : ℕ) (first second : List ℤ) → Alike first second →
    NoMore (turned_by k first) (turned_by k second) first second
no_more_back_by zero first second a = λ C va. (C, va, omega arith)
no_more_back_by (suc k) first second a =
    no_more_trans (no_more_back_by k (turned first) (turned second) (alike_turned first second a))
    (no_more_back first second a)
