-- Columns as they grow: cells that are the same where they are read leave a column alone; one line more lengthens it.
use Rattle.std.specs.Prelude.{◌≡◌, refl, ℕ, suc, ◌+◌, ◌<◌, ◌≤◌}
use Rattle.std.proofs.Common.{sym, ap₂, subst, ◌∙◌, arith}
use Rattle.std.proofs.Math.Decide.{dec_lt}
use Rattle.rules.specs.Columns.{pays, Least, Column, LeastOver, Valued, Columned}
use Rattle.rules.specs.Small.{least_same}

-- ---- columns by cells that are the same from lo on
module _ {val val' col col' : ℕ → ℕ → ℕ} {m b lo : ℕ} (le : lo ≤ b) (bm : b < m)
    (vals : (a c : ℕ) → lo ≤ a → a < c → c ≤ b → val' a c ≡ val a c)
    (cols : (a x : ℕ) → lo ≤ a → a ≤ b → x < m → col' a x ≡ col a x) where
  least_kept : {top : ℕ} (a x hi r r' : ℕ) → lo ≤ a → a < b → x < m → hi ≤ suc b → r' ≡ r →
      Least top (pays val col x a) a hi r → Least top (pays val' col' x a) a hi r'
  least_kept a x hi r r' la ab xm hb e l =
      least_same (λ c p q. ap₂ ◌+◌ (vals a c la p (omega arith)) (cols c x (omega arith) (omega arith) xm)) e l

  pub column_kept : {top : ℕ} {veil : ℕ → ℕ → ℕ} → Column top veil val m b lo col → Column top veil val' m b lo col'
  column_kept c = record {
    start = λ x xm. cols b x le (omega arith) xm ∙ c.start x xm;
    seen =
        λ a x la ab xm h. least_kept a x (suc b) _ _ la ab xm (omega arith) (cols a x la (omega arith) xm)
        (c.seen a x la ab xm h);
    unseen = λ a x la ab xm h. cols a x la (omega arith) xm ∙ c.unseen a x la ab xm h;
  }

  module _ {left left' : ℕ → ℕ → ℕ} (lefts : (a x : ℕ) → lo ≤ a → a ≤ x → x ≤ b → left' a x ≡ left a x) where
    best_kept : {top : ℕ} {w veil : ℕ → ℕ → ℕ} (i v v' : ℕ) → lo ≤ i → i < b → v' ≡ v →
        LeastOver top w veil val col (λ x. left i x + col x x) i b v →
        LeastOver top w veil val' col' (λ x. left' i x + col' x x) i b v'
    best_kept i v v' li ib e l = record {
      low = l.low;
      mid = l.mid;
      high = l.high;
      low_is = least_kept i i b _ _ li ib (omega arith) (omega arith) refl l.low_is;
      mid_is =
          least_same
          (λ x p q. ap₂ ◌+◌ (lefts i x li (omega arith) (omega arith))
          (cols x x (omega arith) (omega arith) (omega arith))) refl l.mid_is;
      high_is = least_kept i b b _ _ li ib bm (omega arith) refl l.high_is;
      is = e ∙ l.is;
    }

    pub columned_kept : {top : ℕ} {w veil : ℕ → ℕ → ℕ} {cut : ℕ → ℕ → Type 0} {n : ℕ} →
        Columned top w cut veil val left m n b lo col → Columned top w cut veil val' left' m n b lo col'
    columned_kept c = record {
      column = column_kept c.column;
      value = λ i li ib.
          let v = c.value i li ib in
          let e = vals i b li ib (omega arith) in
          record {
            side = λ s. e ∙ v.side s;
            barred = λ s k. e ∙ v.barred s k;
            shut = λ s k. best_kept i _ _ li ib e (v.shut s k);
          };
      lefts = λ i li ib. lefts i b li ib (omega arith) ∙ c.lefts i li ib ∙ sym (cols i b li ib bm);
    }

-- ---- and one line more
module _ {top : ℕ} {veil val col : ℕ → ℕ → ℕ} {m i j : ℕ} where
  pub column_more : Column top veil val m j (suc i) col →
      ((x : ℕ) → x < m → veil i x ≡ 0 → Least top (pays val col x i) i (suc j) (col i x)) →
      ((x : ℕ) → x < m → ¬ (veil i x ≡ 0) → col i x ≡ top) → Column top veil val m j i col
  column_more c seen unseen = record {
    start = c.start;
    seen = λ a x ia aj xm h. go_seen a x aj xm h (dec_lt i a) ia;
    unseen = λ a x ia aj xm h. go_unseen a x aj xm h (dec_lt i a) ia;
  }
    where
      go_seen : (a x : ℕ) → a < j → x < m → veil a x ≡ 0 → Dec (i < a) → i ≤ a →
          Least top (pays val col x a) a (suc j) (col a x)
      go_seen a x aj xm h (yes p) ia = c.seen a x p aj xm h
      go_seen a x aj xm h (no p) ia =
          let e : i ≡ a = omega arith in
          subst (λ (k : ℕ). veil k x ≡ 0 → Least top (pays val col x k) k (suc j) (col k x)) e (seen x xm) h

      go_unseen : (a x : ℕ) → a < j → x < m → ¬ (veil a x ≡ 0) → Dec (i < a) → i ≤ a → col a x ≡ top
      go_unseen a x aj xm h (yes p) ia = c.unseen a x p aj xm h
      go_unseen a x aj xm h (no p) ia =
          let e : i ≡ a = omega arith in
          subst (λ (k : ℕ). ¬ (veil k x ≡ 0) → col k x ≡ top) e (unseen x xm) h

  module _ {w left : ℕ → ℕ → ℕ} {cut : ℕ → ℕ → Type 0} {n : ℕ} where
    pub columned_more : Columned top w cut veil val left m n j (suc i) col → Column top veil val m j i col →
        Valued top w cut veil val col (λ x. left i x + col x x) n i j (val i j) → left i j ≡ col i j →
        Columned top w cut veil val left m n j i col
    columned_more c q v l = record {
      column = q;
      value = λ a ia aj. go_value a aj (dec_lt i a) ia;
      lefts = λ a ia aj. go_left a aj (dec_lt i a) ia;
    }
      where
        go_value : (a : ℕ) → a < j → Dec (i < a) → i ≤ a →
            Valued top w cut veil val col (λ x. left a x + col x x) n a j (val a j)
        go_value a aj (yes p) ia = c.value a p aj
        go_value a aj (no p) ia =
            let e : i ≡ a = omega arith in
            subst (λ (k : ℕ). Valued top w cut veil val col (λ x. left k x + col x x) n k j (val k j)) e v

        go_left : (a : ℕ) → a ≤ j → Dec (i < a) → i ≤ a → left a j ≡ col a j
        go_left a aj (yes p) ia = c.lefts a p aj
        go_left a aj (no p) ia = let e : i ≡ a = omega arith in subst (λ (k : ℕ). left k j ≡ col k j) e l
