-- Laws of the set of pairs as it grows.
use mathlib.Core.Path.{◌≡◌, refl, sym, ap, subst, ◌∙◌}
use mathlib.Core.Logic.{◌⊎◌, inl, inr, ⊎_elim}
use mathlib.Core.List.{List, [], ◌∷◌}
use Prim.Native.Nat.{ℕ, zero, suc, ◌+◌, ◌-◌, ◌<◌, ◌≤◌}
use native.Mathlib.Omega.{arith}
use native.Mathlib.Decide.{dec_lt, ℕ_discrete}
use lib.Dec.{T}
use lib.ListN.{length, get_or, set, length-set, replicate, length-replicate}
use lib.Seq.{get_or-set_same, get_or-set_other}
use Rattle.limits.specs.Limits.{row, all_cells, place}
use Rattle.rules.specs.Cells.{cell, marked, filled_is, marked_wide, marked_small, marked_is}
use Rattle.rules.specs.Traced.{LineOfRoad}
use Rattle.cutting.proofs.Rows.{zeros}
use Rattle.cutting.specs.Tracing.{Ticks, Ticked, Marked, Started}

pub above : (z : ℕ) → ¬ (z ≡ 0) → 0 < z
above zero k = absurd (k refl)
above (suc z) k = omega arith

-- ---- a pair is in the set where its cell is not 0
pub marked_says : (pairs : List ℕ) (a b : ℕ) → T (marked pairs a b) → (suc a < b) × (b < row) × (0 < cell pairs a b)
marked_says pairs a b h =
    let w = marked_wide pairs a b h in
    let s = marked_small pairs a b h in
    (w, s, above (cell pairs a b) ((filled_is pairs a b).0 (subst T (marked_is pairs a b w s) h)))

pub says_marked : (pairs : List ℕ) (a b : ℕ) → suc a < b → b < row → 0 < cell pairs a b → T (marked pairs a b)
says_marked pairs a b w s h = subst T (sym (marked_is pairs a b w s)) ((filled_is pairs a b).1 (λ e. omega arith))

pub same_marked : (p q : List ℕ) (a b : ℕ) → (suc a < b → b < row → cell q a b ≡ cell p a b) → T (marked p a b) →
    T (marked q a b)
same_marked p q a b e h =
    let z = marked_says p a b h in
    says_marked q a b z.0 z.1 (omega (arith, z.2, e z.0 z.1))

-- of cells that are 0 where there is no pair
pub ticks_marked : {pairs : List ℕ} (a b : ℕ) → Ticks pairs → a < row → b < row → ¬ (cell pairs a b ≡ 0) →
    T (marked pairs a b)
ticks_marked {pairs} a b t ar br h = go (dec_lt (suc a) b)
  where
    go : Dec (suc a < b) → T (marked pairs a b)
    go (yes w) = says_marked pairs a b w br (above (cell pairs a b) h)
    go (no w) = absurd (h (t.rest a b ar br (omega arith)))

-- ---- one pair
pub ticks_set : {pairs pairs' : List ℕ} {c d v : ℕ} → v ≤ 1 → suc c < d → d < row → Ticks pairs →
    pairs' ≡ set pairs (place c d) v → Ticks pairs'
ticks_set {pairs} {pairs'} {c} {d} {v} h cd d64 t e = rw e record {
  size = length-set pairs (place c d) v ∙ t.size;
  bits = λ a. go a (ℕ_discrete a (place c d));
  rest = λ a b ar br l. get_or-set_other pairs (place c d) (place a b) v 0 (λ k. omega arith) ∙ t.rest a b ar br l;
}
  where
    go : (a : ℕ) → Dec (a ≡ place c d) → get_or (set pairs (place c d) v) a 0 ≤ 1
    go a (yes e) =
        omega (
          arith,
          ap (λ (z : ℕ). get_or (set pairs (place c d) v) z 0) e,
          get_or-set_same pairs (place c d) v 0 (omega (arith, t.size)),
        )
    go a (no e) = omega (arith, get_or-set_other pairs (place c d) a v 0 e, t.bits a)

pub ticked_none : {pairs : List ℕ} {c d : ℕ} → d ≤ c + 1 → Ticks pairs → Ticked pairs pairs c d
ticked_none h t = record { ticks = t; drawn = λ k. absurd (omega arith); kept = λ p q k. k; only = λ p q k. inl k }

pub ticked_set : {pairs pairs' : List ℕ} {c d : ℕ} → c + 1 < d → d < row → Ticks pairs →
    pairs' ≡ set pairs (place c d) 1 → Ticked pairs pairs' c d
ticked_set {pairs} {pairs'} {c} {d} cd d64 t e = record {
  ticks = ticks_set (omega arith) (omega arith) d64 t e;
  drawn = λ k. new;
  kept = λ p q h. go_kept p q h (ℕ_discrete p c) (ℕ_discrete q d);
  only = λ p q h. go_only p q h (ℕ_discrete p c) (ℕ_discrete q d);
}
  where
    new : T (marked pairs' c d)
    new = says_marked pairs' c d (omega arith) d64
        (omega
        (arith, ap (λ (l : List ℕ). cell l c d) e, get_or-set_same pairs (place c d) 1 0 (omega (arith, t.size))))

    other : (p q : ℕ) → q < row → ¬ ((p ≡ c) × (q ≡ d)) → cell pairs' p q ≡ cell pairs p q
    other p q q64 ne =
        ap (λ (l : List ℕ). cell l p q) e
        ∙ get_or-set_other pairs (place c d) (place p q) 1 0 (λ k. ne (omega arith, omega arith))

    go_kept : (p q : ℕ) → T (marked pairs p q) → Dec (p ≡ c) → Dec (q ≡ d) → T (marked pairs' p q)
    go_kept p q h (yes e) (yes f) = rw (e, f) new
    go_kept p q h (no e) f = same_marked pairs pairs' p q (λ w q64. other p q q64 (λ z. e z.0)) h
    go_kept p q h (yes e) (no f) = same_marked pairs pairs' p q (λ w q64. other p q q64 (λ z. f z.1)) h

    back : (p q : ℕ) → ¬ ((p ≡ c) × (q ≡ d)) → T (marked pairs' p q) → T (marked pairs p q)
    back p q ne h = same_marked pairs' pairs p q (λ w q64. sym (other p q q64 ne)) h

    go_only : (p q : ℕ) → T (marked pairs' p q) → Dec (p ≡ c) → Dec (q ≡ d) →
        T (marked pairs p q) ⊎ ((p ≡ c) × (q ≡ d) × (suc c < d))
    go_only p q h (yes e) (yes f) = inr (e, f, omega arith)
    go_only p q h (no e) f = inl (back p q (λ z. e z.0) h)
    go_only p q h (yes e) (no f) = inl (back p q (λ z. f z.1) h)

-- ---- the lines of a piece, those before c; rest is what is left of all
pub record Marking (before out : List ℕ) (i : ℕ) (all : List ℕ) (c : ℕ) (rest : List ℕ) : Type 0 where
  pub ticks : Ticks out
  pub sub : (p q : ℕ) → LineOfRoad c rest p q → LineOfRoad i all p q
  pub drawn : (p q : ℕ) → LineOfRoad i all p q → suc p < q → LineOfRoad c rest p q ⊎ T (marked out p q)
  pub kept : (p q : ℕ) → T (marked before p q) → T (marked out p q)
  pub only : (p q : ℕ) → T (marked out p q) → T (marked before p q) ⊎ (LineOfRoad i all p q × (suc p < q))

pub marking_none : {pairs : List ℕ} {i : ℕ} {all : List ℕ} → Ticks pairs → Marking pairs pairs i all i all
marking_none t =
    record { ticks = t; sub = λ p q o. o; drawn = λ p q o l. inl o; kept = λ p q h. h; only = λ p q h. inl h }

pub marking_more : {before out out' : List ℕ} {i c c' d : ℕ} {all rest : List ℕ} (rest' : List ℕ) → rest ≡ d ∷ rest' →
    c' ≡ c → Ticked out out' c' d → Marking before out i all c rest → Marking before out' i all d rest'
marking_more {before} {out} {out'} {i} {c} {d = d} {all} {rest} rest' e q t₀ m = record {
  ticks = t.ticks;
  sub = λ p q o. m'.sub p q (inr o);
  drawn = λ p q o l. ⊎_elim (λ k. here p q l k) (λ k. inr (t.kept p q k)) (m'.drawn p q o l);
  kept = λ p q h. t.kept p q (m.kept p q h);
  only =
      λ p q h. ⊎_elim (m.only p q) (λ k. inr (m'.sub p q (inl (k.0, k.1)), omega (arith, k.0, k.1, k.2)))
      (t.only p q h);
}
  where
    t : Ticked out out' c d
    t = subst (λ (k : ℕ). Ticked out out' k d) q t₀

    m' : Marking before out i all c (d ∷ rest')
    m' = subst (λ (l : List ℕ). Marking before out i all c l) e m

    here : (p q : ℕ) → suc p < q → LineOfRoad c (d ∷ rest') p q → LineOfRoad d rest' p q ⊎ T (marked out' p q)
    here p q l (inl z) = inr (rw (z.0, z.1) (t.drawn (omega (arith, z.0, z.1))))
    here p q l (inr z) = inl z

pub marking_end : {before out : List ℕ} {i c : ℕ} {all rest : List ℕ} → rest ≡ [] → Marking before out i all c rest →
    Marked before out i all
marking_end {before} {out} {i} {c} {all} {rest} e m = record {
  ticks = m.ticks;
  drawn = λ p q o l. ⊎_elim (λ k. none p q k) (λ k. k) (m.drawn p q o l);
  kept = m.kept;
  only = m.only;
}
  where
    none : (p q : ℕ) → LineOfRoad c rest p q → T (marked out p q)
    none p q k = absurd (subst (λ (l : List ℕ). LineOfRoad c l p q) e k)

-- ---- the set is begun
pub started : {pairs pairs' : List ℕ} {n : ℕ} → 3 ≤ n → n ≤ row → pairs ≡ replicate all_cells 0 →
    pairs' ≡ set pairs (place 0 (n - 1)) 1 → Started pairs' n
started {pairs} {pairs'} {n} n3 n64 l e = record {
  ticks = T'.ticks;
  whole = T'.drawn (omega arith);
  only =
      λ c d h. ⊎_elim
      (λ k. absurd (omega (arith, (marked_says pairs c d k).2, none (place c d))))
      (λ k. (k.0, k.1)) (T'.only c d h);
}
  where
    none : (k : ℕ) → get_or pairs k 0 ≡ 0
    none k = ap (λ (t : List ℕ). get_or t k 0) l ∙ zeros all_cells k

    size : length pairs ≡ all_cells
    size = ap length l ∙ length-replicate {0} {A = ℕ} all_cells 0

    T' : Ticked pairs pairs' 0 (n - 1)
    T' =
        ticked_set (omega arith) (omega arith) (record {
          size = size;
          bits = λ k. omega (arith, none k);
          rest = λ a b ar br h. none (place a b);
        }) e
