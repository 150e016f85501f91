-- From filled tables to the set: they are finished tables of `rules`; where the whole range has no value no cutting is
-- valid; else the set that was traced, without the whole range, is the first smallest cutting.
use mathlib.Core.Path.{◌≡◌, refl, sym, ap, subst, ◌∙◌}
use mathlib.Core.Bool.{true, false}
use mathlib.Core.Logic.{◌⊎◌, inl, inr, ⊎_elim}
use mathlib.Core.List.{List}
use Prim.Native.Nat.{ℕ, suc, ◌+◌, ◌-◌, ◌*◌, ◌<◌, ◌≤◌}
use native.Mathlib.Omega.{arith}
use native.Mathlib.Decide.{dec_lt, ℕ_discrete}
use lib.Dec.{T}
use lib.ListN.{get_or, set}
use lib.Seq.{get_or-set_same, get_or-set_other}
use Rattle.limits.specs.Limits.{row, place}
use Rattle.rules.specs.Cutting.{Pairs, First, Valid, one}
use Rattle.rules.specs.Centre.{HasCentre}
use Rattle.rules.specs.Cells.{cell, marked}
use Rattle.rules.specs.Table.{Table}
use Rattle.rules.proofs.Answer.{table_refuses}
use Rattle.rules.specs.Columns.{Columned, Solved}
use Rattle.rules.specs.Choice.{choice_of}
use Rattle.rules.specs.Traced.{Whole}
use Rattle.rules.specs.Small.{best_of, min_low}
use Rattle.rules.specs.Ways.{Sees}
use Rattle.rules.proofs.Picks.{table}
use Rattle.rules.proofs.Trace.{traced_first}
use Rattle.cutting.specs.Rows.{none, Cut, Veil, Lines, Rights, Filled}
use Rattle.cutting.specs.Tracing.{Started, Tracing, Solves, Drawn, Finds}
use Rattle.cutting.proofs.Values.{clash}
use Rattle.cutting.proofs.Marking.{marked_says, same_marked, ticks_set}
use Rattle.cutting.proofs.Traced.{traced_seen}

module _ {cuts veil val left right : List ℕ} {n : ℕ} (m : ℕ) (big : 2 ≤ m) (corners : n ≡ suc m) (small : n ≤ row)
    (veils : Veil veil)
    (filled : Filled cuts veil val left right n n) where
  -- the columns as they were when they were filled
  column : (j : ℕ) → Dec (j < n) → ℕ → ℕ → ℕ
  column j (yes p) = (filled.lines j p).0
  column j (no p) = λ a x. 0

  road : ℕ → ℕ → ℕ → ℕ
  road j = column j (dec_lt j n)

  lines : (j : ℕ) (d : Dec (j < n)) → j < n → Lines cuts veil val left n j 0 (column j d)
  unfolding column
  lines j (yes p) h = (filled.lines j p).1
  lines j (no p) h = absurd (p h)

  all_rights : (j : ℕ) (d : Dec (j < n)) → j < n → Rights right j 0 (column j d)
  unfolding column
  all_rights j (yes p) h = (filled.lines j p).2
  all_rights j (no p) h = absurd (p h)

  narrowed : (j : ℕ) → j < suc m →
      Columned none one (Cut cuts) (cell veil) (cell val) (cell left) (suc m) (suc m) j 0 (road j)
  unfolding road
  narrowed j h =
      let l : Lines cuts veil val left (suc m) j 0 (road j) =
      subst (λ (k : ℕ). Lines cuts veil val left k j 0 (road j)) corners (lines j (dec_lt j n) (omega arith)) in
      record {
        column = record {
          start = λ x p. l.column.start x (omega arith);
          seen = λ a x p q r. l.column.seen a x p q (omega arith);
          unseen = λ a x p q r. l.column.unseen a x p q (omega arith);
        };
        value = l.value;
        lefts = l.lefts;
      }

  solved : Solved none one (Cut cuts) (cell veil) (cell val) (cell left) road (suc m)
  solved = record {
    light = record {
      heaviest = 1;
      scale = λ a. a;
      apart = λ a b h. omega arith;
      light = λ a b p q. omega arith;
      weighs = λ a b p q. omega arith;
      room = omega arith;
    };
    cuts = λ a b. not_dec (ℕ_discrete (cell cuts a b) 0);
    veils = λ y x p q h. veils.at (y * row + x) h;
    columns = narrowed;
  }
    where
      not_dec : {z : ℕ} → Dec (z ≡ 0) → Dec (¬ (z ≡ 0))
      not_dec (yes e) = no (λ k. k e)
      not_dec (no k) = yes k

  tab : Table (Cut cuts) (HasCentre (Sees (cell veil))) one (λ a b. cell val a b < none) (cell val)
      (choice_of none one (cell val) road) (suc m)
  tab = table (omega arith) solved

  -- ---- the line from the first corner to the last
  top_is : cell val 0 (n - 1) ≡ cell val 0 m
  top_is = let e : n - 1 ≡ m = omega arith in ap (cell val 0) e

  top_may : ¬ (cell val 0 (n - 1) ≡ none) → cell val 0 m < none
  top_may h = go (dec_lt (cell val 0 m) none)
    where
      go : Dec (cell val 0 m < none) → cell val 0 m < none
      go (yes p) = p
      go (no p) =
          absurd
          (h
          (omega (
            arith,
            top_is,
            (min_low _ _ _ _ _ _ (best_of solved 0 m (omega arith) (omega arith)
                (inr (refl, refl))).is).3,
          )))

  none_valid : cell val 0 (n - 1) ≡ none → (C : Pairs) → ¬ Valid (Cut cuts) (HasCentre (Sees (cell veil))) (suc m) C
  none_valid e C va = omega (arith, top_is, table_refuses big tab C va)

  tracing_start : {pairs : List ℕ} → ¬ (cell val 0 (n - 1) ≡ none) → Started pairs n →
      Tracing cuts veil val left right n pairs row n
  unfolding road
  tracing_start {pairs} h s = record {
    ticks = s.ticks;
    m = m;
    big = big;
    corners = corners;
    small = small;
    val_size = filled.val_size;
    left_size = filled.left_size;
    right_size = filled.right_size;
    road = road;
    solved = solved;
    rights = λ b h. all_rights b (dec_lt b n) (omega arith);
    traced = record {
      whole = subst (λ (k : ℕ). T (marked pairs 0 k)) last s.whole;
      ways =
          λ c d k. let q = s.only c d k in rw (q.0, q.1 ∙ last)
          (omega arith, omega arith, top_may h, inr (refl, refl));
      up = λ c d k. let q = s.only c d k in inl (q.0, q.1 ∙ last);
      down =
          λ i j c d z k. absurd
          (⊎_elim (λ p. omega (arith, (s.only i j k).1)) (λ p. omega (arith, (s.only i j k).1, p.0)) z);
    };
  }
    where
      last : n - 1 ≡ m
      last = omega arith

-- ---- the whole range goes out of the set
module _ {cuts veil val left right pairs pairs' : List ℕ} {n : ℕ} {v : ℕ}
    (t : Tracing cuts veil val left right n pairs row 0) (z : v ≡ 0) (f : pairs' ≡ set pairs (place 0 (n - 1)) v) where
  e : pairs' ≡ set pairs (place 0 (n - 1)) 0
  e = f ∙ ap (set pairs (place 0 (n - 1))) z

  first_veiled : First (Cut cuts) (HasCentre (Sees (cell veil))) one (suc t.m) (marked pairs')
  first_veiled =
      traced_first t.big (table (omega (arith, t.corners, t.small)) t.solved) (marked pairs)
      (traced_seen (λ a b u h. any a b h) t.traced) (marked pairs') (λ c d. (out c d, λ k. stay c d k.0 k.1))
    where
      any : (a b : ℕ) → T (marked pairs a b) → (0 < b) ⊎ ((b ≡ 0) × (a < row))
      any a b h = inl (omega (arith, (t.traced.ways a b h).0))

      other : (c d : ℕ) → d < row → ¬ Whole t.m c d → cell pairs' c d ≡ cell pairs c d
      other c d d64 ne =
          ap (λ (l : List ℕ). cell l c d) e
          ∙ get_or-set_other pairs (place 0 (n - 1)) (place c d) 0 0
          (λ k. ne (omega (arith, t.small, t.corners), omega (arith, t.small, t.corners)))

      gone : (c d : ℕ) → Whole t.m c d → cell pairs' c d ≡ 0
      gone c d w =
          let k : place c d ≡ place 0 (n - 1) = omega (arith, w.0, w.1, t.corners) in
          ap (λ (l : List ℕ). cell l c d) e
          ∙ ap (λ (z : ℕ). get_or (set pairs (place 0 (n - 1)) 0) z 0) k
          ∙ get_or-set_same pairs (place 0 (n - 1)) 0 0 (omega (arith, t.ticks.size, t.small, t.corners))

      out : (c d : ℕ) → T (marked pairs' c d) → T (marked pairs c d) × ¬ Whole t.m c d
      out c d h =
          let z = marked_says pairs' c d h in
          let ne : ¬ Whole t.m c d = λ w. omega (arith, z.2, gone c d w) in
          (same_marked pairs' pairs c d (λ l d64. sym (other c d d64 ne)) h, ne)

      stay : (c d : ℕ) → T (marked pairs c d) → ¬ Whole t.m c d → T (marked pairs' c d)
      stay c d h ne = same_marked pairs pairs' c d (λ l d64. other c d d64 ne) h

  pub drawn : Drawn cuts veil n pairs'
  drawn = record {
    ticks =
        ticks_set {c = 0} {d = n - 1} {v = 0} (omega arith) (omega (arith, t.corners, t.big))
        (omega (arith, t.corners, t.small)) t.ticks e;
    first =
        subst (λ (z : ℕ). First (Cut cuts) (HasCentre (Sees (cell veil))) one z (marked pairs')) (sym t.corners)
        first_veiled;
  }

-- ---- for n corners
pub traceable : {cuts veil val left right pairs : List ℕ} {n : ℕ} → Veil veil → Solves cuts veil val left right n →
    Started pairs n → Tracing cuts veil val left right n pairs row n
traceable {n} v s p =
    tracing_start (n - 1) (omega (arith, s.three)) (omega (arith, s.three)) s.small v s.filled s.has p

refuses : {cuts veil val left right : List ℕ} {n : ℕ} → Veil veil → 3 ≤ n → n ≤ row →
    Filled cuts veil val left right n n → cell val 0 (n - 1) ≡ none → (C : Pairs) →
    ¬ Valid (Cut cuts) (HasCentre (Sees (cell veil))) n C
refuses {cuts} {veil} {n} v three most f e C va =
    let k : n ≡ suc (n - 1) = omega arith in
    none_valid (n - 1) (omega arith) k most v f e C
    (subst (λ (z : ℕ). Valid (Cut cuts) (HasCentre (Sees (cell veil))) z C) k va)

-- ---- the two ends of a search by the readings
module _ {cuts veil val left right : List ℕ} {n : ℕ} (three : 3 ≤ n) (most : n ≤ row)
    (filled : Filled cuts veil val left right n n) where
  pub finished : ¬ (cell val 0 (n - 1) ≡ none) → Solves cuts veil val left right n
  finished h = record { three = three; small = most; filled = filled; has = h }

  pub finds_none : {before : List ℕ} → Veil veil → cell val 0 (n - 1) ≡ none → Finds cuts veil n before before false
  finds_none v e =
      record { some = λ z. clash (sym z); no_set = λ z. refuses v three most filled e; kept = λ z. refl }

pub finds_some : {cuts veil before after : List ℕ} {n : ℕ} → Drawn cuts veil n after →
    Finds cuts veil n before after true
finds_some d = record { some = λ z. d; no_set = λ z. clash z; kept = λ z. clash z }
