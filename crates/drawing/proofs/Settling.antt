-- Third corners as they are settled: one pair, a row, all rows; and then the cells tell of sight.
use mathlib.Core.Path.{◌≡◌, refl, sym, ◌∙◌, subst}
use mathlib.Core.Bool.{Bool, true, false, ◌&&◌}
use mathlib.Core.Logic.{inl, inr, by_cases}
use mathlib.Core.List.{List}
use Prim.Native.Nat.{ℕ, ◌+◌, ◌*◌, ◌-◌, ◌≤◌, ◌<◌}
use native.Mathlib.Decide.{ℕ_discrete, dec_lt}
use native.Mathlib.Omega.{arith}
use lib.IntN.{ℤ}
use lib.Dec.{leb}
use lib.ListN.{length}
use mir.Val.{bool_byte}
use Rattle.limits.specs.Limits.{all_cells}
use Rattle.outline.specs.Drawing.{Sound, corners}
use Rattle.outline.specs.InOrOn.{CentreSees}
use Rattle.outline.specs.Tells.{Tells, as_well, most_tells}
use Rattle.outline.specs.Way.{GrazedBy}
use Rattle.outline.proofs.Third.{third_apart}
use Rattle.drawing.specs.Sight.{Seen}
use Rattle.drawing.specs.Table.{cell, both, Code, Marked, RowsDone, Coded, Settled, Settling}
use Rattle.drawing.specs.Table.{PairSettled, RowSettled, RowsSettled}
use Rattle.drawing.specs.Codes.{code_third, code_settled, code_unseen, code_past, parts_tell}
use Rattle.drawing.proofs.Pairs.{of_pair, pair_size, pair_kept, pair_both_ways, at_pair}
use Rattle.drawing.proofs.Pairs.{Which, pair, same, which}

-- ---- steps
pub settling_none : {d : List ℤ} {c : List ℕ} → Coded d c → Settling d c c
settling_none k = record { coded = k; still = λ p q hp hq s. s; kept = λ k h. refl; size = refl }

pub settling_on : {d : List ℤ} {c t u : List ℕ} → Settling d c t → Settling d t u → Settling d c u
settling_on f g = record {
  coded = g.coded;
  still = λ p q hp hq s. g.still p q hp hq (f.still p q hp hq s);
  kept = λ k h. g.kept k h ∙ f.kept k h;
  size = g.size ∙ f.size;
}

-- ---- one pair is written
module _ {d : List ℤ} {i j v : ℕ} (c : List ℕ) (sound : Sound d) (hi : i < corners d) (hj : j < corners d)
    (room : all_cells ≤ length c) (k : Code d i j v) (small : v < 4) (coded : Coded d c) where
  abbrev few : corners d ≤ 64
  few = sound.shaped.few

  pub settling_pair : Settling d c (both c i j v)
  settling_pair = record {
    coded = record {
      code = λ p q hp hq. code p q hp hq (which c v few hi hj room p q hp hq);
      both_ways = pair_both_ways c v few hi hj room coded.both_ways;
    };
    still = λ p q hp hq s. still p q hp hq s (which c v few hi hj room p q hp hq);
    kept = pair_kept c v few hi hj room;
    size = pair_size c v few hi hj room;
  }
    where
      code : (p q : ℕ) → p < corners d → q < corners d → Which c v few hi hj room p q →
          Code d p q (cell (both c i j v) p q)
      code p q hp hq (pair x e) = subst (Code d p q) (sym e) (of_pair k x)
      code p q hp hq (same e) = subst (Code d p q) (sym e) (coded.code p q hp hq)

      still : (p q : ℕ) → p < corners d → q < corners d → Settled c p q → Which c v few hi hj room p q →
          Settled (both c i j v) p q
      still p q hp hq s (pair x e) = omega (arith, e, small)
      still p q hp hq s (same e) = omega (arith, e, s)

  pub settled_here : Settled (both c i j v) i j
  settled_here = let e = at_pair c v few hi hj room i j (inl (refl, refl)) in omega (arith, e, small)

-- ---- a third corner k between i and j, by its two parts
module _ {d : List ℤ} (sound : Sound d) {i j k : ℕ} (hi : i < corners d) (hj : j < corners d) (g : GrazedBy d i j k)
  where
    -- what the parts tell, as a code
    code_byte : (r : Bool) → Tells r (CentreSees d i j) → Code d i j (2 * bool_byte r)
    code_byte true t = code_past sound hi hj g (t.sure tt) refl
    code_byte false t = code_unseen sound hi hj (λ s. t.told s) refl

    byte_small : (r : Bool) → 2 * bool_byte r < 4
    byte_small true = omega arith
    byte_small false = omega arith

    pub parts_settled : {a b : Bool} (c t u : List ℕ) → all_cells ≤ length c → PairSettled d i k c t a →
        PairSettled d k j t u b → PairSettled d i j c (both u i j (2 * bool_byte (a && b))) (a && b)
    parts_settled {a} {b} c t u room f s =
        let tells = parts_tell sound hi hj g f.tells s.tells in
        let wide : all_cells ≤ length u = omega (arith, room, f.settling.size, s.settling.size) in
        let code = code_byte (a && b) tells in
        record {
          settling = settling_on (settling_on f.settling s.settling)
              (settling_pair u sound hi hj wide code (byte_small (a && b)) s.settling.coded);
          here = settled_here u sound hi hj wide code (byte_small (a && b)) s.settling.coded;
          tells = tells;
        }

-- the third corner that a cell names
pub grazed_by : {d : List ℤ} {i j : ℕ} (c : List ℕ) → i < corners d → j < corners d → Coded d c → 4 ≤ cell c i j →
    GrazedBy d i j (cell c i j - 4)
grazed_by {d} {i} {j} c hi hj coded h =
    let g = code_third (coded.code i j hi hj) h in
    let e : g.third ≡ cell c i j - 4 = omega (arith, g.is) in
    subst (GrazedBy d i j) e g.by

-- a pair that is settled already
pub pair_told : {d : List ℤ} {i j : ℕ} {c : List ℕ} → i < corners d → j < corners d → Coded d c → Settled c i j →
    PairSettled d i j c c (leb 2 (cell c i j))
pair_told {d} {i} {j} {c} hi hj coded small =
    let told = code_settled (coded.code i j hi hj) small in
    record {
      settling = settling_none coded;
      here = small;
      tells = as_well (most_tells 2 (cell c i j)) (λ l. told.two.0 (omega (arith, l, small)))
          (λ s. let two = told.two.1 s in omega (arith, two));
    }

-- ---- a row
pub row_more : {d : List ℤ} {i t : ℕ} {o c u : List ℕ} → i < corners d → t < corners d → RowSettled d i t o c →
    Settling d c u → Settled u i t → RowSettled d i (t + 1) o u
row_more {i} {t} {u} hi ht r s here = record {
  settling = settling_on r.settling s;
  row = λ q k l. by_cases (ℕ_discrete q t) (λ e. subst (λ x. Settled u i x) (sym e) here)
      (λ n. s.still i q hi (omega arith) (r.row q k (omega arith)));
}

-- ---- all rows
pub rows_more : {d : List ℤ} {t : ℕ} {o c u : List ℕ} → t < corners d → RowsSettled d t o c →
    RowSettled d t (corners d) c u → RowsSettled d (t + 1) o u
rows_more {d} {t} {u} ht r s = record {
  settling = settling_on r.settling s.settling;
  rows = λ p q l k hq. by_cases (ℕ_discrete p t)
      (λ e. subst (λ x. Settled u x q) (sym e) (s.row q (omega arith) hq))
      (λ n. s.settling.still p q (omega arith) hq (r.rows p q (omega arith) k hq));
}

-- ---- the pairs are coded when all rows have been looked at, and told when all are settled
pub rows_coded : {d : List ℤ} {o c : List ℕ} → Marked d (RowsDone d (corners d)) o c → Coded d c
rows_coded m = record { code = λ p q hp hq. m.done p q hp hq (inr (inl hp)); both_ways = m.both_ways }

-- every pair is settled: one with a corner after it, one with a corner before it, and a corner with itself, since no
-- third corner lies on a point
all_settled : {d : List ℤ} {c u : List ℕ} → Sound d → RowsSettled d (corners d) c u → (i j : ℕ) → i < corners d →
    j < corners d → Settled u i j
all_settled {d} {c} {u} sound r i j hi hj =
    by_cases (dec_lt i j) (λ l. r.rows i j hi l hj)
    (λ n. by_cases (dec_lt j i)
    (λ l. let s = r.rows j i hj l hi in omega (arith, s, k.both_ways i j hi hj))
    (λ m. itself (omega arith) (k.code i j hi hj)))
  where
    k : Coded d u
    k = r.settling.coded

    itself : i ≡ j → Code d i j (cell u i j) → Settled u i j
    itself e (inl x) = x.small
    itself e (inr g) = absurd (third_apart d sound.simple i j g.third hi hj g.by (inl e))

pub settled_seen : {d : List ℤ} {o c u : List ℕ} → Sound d → Marked d (RowsDone d (corners d)) o c →
    RowsSettled d (corners d) c u → Seen d o u
settled_seen sound m r = let s = r.settling in record {
  told = λ i j hi hj. code_settled (s.coded.code i j hi hj) (all_settled sound r i j hi hj);
  kept = λ k h. s.kept k h ∙ m.kept k h;
  size = s.size ∙ m.size;
}
