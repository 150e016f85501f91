-- The parity is one value at all points of a side strictly between its ends, and on any segment that no side meets
-- between its ends; half way tells it. With the side's direction that is the value just left of the side.
use Rattle.std.specs.Prelude.{◌≡◌, refl, Bool, false, ◌⊎◌, [], ◌∷◌, ℕ, suc, ◌<◌, ℤ, pos, ◌-ℤ◌, ◌*ℤ◌}
use Rattle.std.proofs.Common.{sym, ◌∙◌, ap, ap₂, subst, inl, inr}
use Rattle.std.proofs.Math.Path.{fun_ext}
use Rattle.std.proofs.Math.Decide.{ℕ_discrete}
use Rattle.std.proofs.Math.IntN.{*ℤ_comm}
use Rattle.whole.specs.Laws.{*ℤ_assoc}
use Rattle.whole.specs.Ring.{v, ◌:-◌, ring}
use Rattle.whole.specs.Order.{Positive, positive_pos, positive_mul}
use Rattle.outline.specs.Drawing.{Point}
use Rattle.outline.specs.Spell.{O}
use Rattle.outline.specs.Odd.{◌⊕◌}
use Rattle.outline.specs.Parity.{pt, odd, out, large}
use Rattle.outline.specs.Scale.{len_scale, odd_scale}
use Rattle.outline.specs.Xor.{⊕-zero}
use Rattle.outline.specs.EveryPoint.{Simple, sum2}
use Rattle.outline.specs.Compare.{plus_off}
use Rattle.outline.specs.Inner.{Inner, inner_line, inner_grown, inner_half}
use Rattle.outline.specs.Rising.{rise}
use Rattle.outline.specs.SideChanges.{Changes, apart_changes, line_changes}
use Rattle.outline.specs.AllChanges.{none_changes}
use Rattle.outline.specs.Met.{Met, met}

-- ---- a drawing k times as large, of one l times as large
out_out : (k l : ℤ) (z : Point) → out k (out l z) ≡ out (k *ℤ l) z
out_out k l z = ap₂ pt (sym (*ℤ_assoc k l z.x)) (sym (*ℤ_assoc k l z.y))

odd_out : (c : ℕ → Point) (n : ℕ) (k l : ℤ) (q : Point) → Positive k →
    odd (large (k *ℤ l) c) (out k q) n ≡ odd (large l c) q n
odd_out c n k l q k+ =
    ap (λ d. odd d (out k q) n) (sym (fun_ext (λ m. out_out k l (c m)))) ∙ odd_scale (large l c) k q k+ n

inner_out : (k l : ℤ) (q a b : Point) → Inner q (out l a) (out l b) → Inner (out k q) (out (k *ℤ l) a) (out (k *ℤ l) b)
inner_out k l q a b i =
    subst (λ z. Inner (out k q) z (out (k *ℤ l) b)) (out_out k l a)
    (subst (λ z. Inner (out k q) (out k (out l a)) z) (out_out k l b) (inner_grown k q (out l a) (out l b) i))

-- ---- a segment ab on which no side changes the parity between the ends
abbrev pub Steady : (ℕ → Point) → ℕ → Point → Point → Type 0
Steady c n a b =
    (K : ℤ) → Positive K → (u w : Point) → Inner u (out K a) (out K b) → Inner w (out K a) (out K b) →
    (m : ℕ) → m < n → Changes u w (out K (c m)) (out K (c (suc m))) false

-- the parity half way
abbrev pub half_value : (ℕ → Point) → ℕ → Point → Point → Bool
half_value c n a b = odd (large (pos 2) c) (sum2 a b) n

pub steady_value : (c : ℕ → Point) (n : ℕ) → c n ≡ c 0 → (a b : Point) → Steady c n a b → (K : ℤ) → Positive K →
    (q : Point) → Inner q (out K a) (out K b) → odd (large K c) q n ≡ half_value c n a b
steady_value c n closed a b steady K K+ q i =
    sym (odd_out c n (pos 2) K q (positive_pos 1))
    ∙ ⊕-zero (none_changes (large (pos 2 *ℤ K) c) n (ap (out (pos 2 *ℤ K)) closed) (out (pos 2) q) (out K (sum2 a b))
    (steady (pos 2 *ℤ K) (positive_mul (positive_pos 1) K+) (out (pos 2) q) (out K (sum2 a b))
    (inner_out (pos 2) K q a b i)
    (subst (λ k. Inner (out K (sum2 a b)) (out k a) (out k b)) (*ℤ_comm K (pos 2))
    (inner_out K (pos 2) (sum2 a b) a b (inner_half a b)))))
    ∙ ap (λ k. odd (large k c) (out K (sum2 a b)) n) (*ℤ_comm (pos 2) K) ∙ odd_out c n K (pos 2) (sum2 a b) K+

-- no side meets it there
pub clear_steady : (c : ℕ → Point) (n : ℕ) (a b : Point) → ((m : ℕ) → m < n → ¬ Met a b (c m) (c (suc m))) →
    Steady c n a b
clear_steady c n a b clear K K+ u w i j m h =
    apart_changes u w (out K (c m)) (out K (c (suc m))) (λ s. clear m h (met K K+ a b (c m) (c (suc m)) u w i j s))

-- ---- the sides of a closed outline
module _ (c : ℕ → Point) (n : ℕ) where
  -- the parity on side k
  abbrev pub value : ℕ → Bool
  value k = half_value c n (c k) (c (suc k))

  -- left of side k
  abbrev pub left : ℕ → Bool
  left k = value k ⊕ rise (c k) (c (suc k))

  module _ (closed : c n ≡ c 0) (simple : Simple c n) where
    -- no other side meets side k between its ends
    pub side_unmet : (k m : ℕ) → k < n → m < n → ¬ (m ≡ k) → ¬ Met (c k) (c (suc k)) (c m) (c (suc m))
    side_unmet k m hk hm ne t = go (simple.apart k m hk hm (λ e. ne (sym e)) t.s)
      where
        go : (t.s.p ≡ pos 0) ⊎ (t.s.p ≡ t.s.r) → ⊥
        go (inl e) = plus_off t.p_low e
        go (inr e) = plus_off t.p_high (ap (λ z. t.s.r -ℤ z) e ∙ ring (t.s.r ∷ []) (v 0 :- v 0) O refl)

    side_steady : (k : ℕ) → k < n → Steady c n (c k) (c (suc k))
    side_steady k hk K K+ u w i j m hm = go (ℕ_discrete m k)
      where
        go : Dec (m ≡ k) → Changes u w (out K (c m)) (out K (c (suc m))) false
        go (yes e) =
            subst (λ l. Changes u w (out K (c l)) (out K (c (suc l))) false) (sym e)
            (line_changes u w (out K (c k)) (out K (c (suc k)))
            (len_scale K (c k) (c (suc k)) K+ (simple.ends k hk)) (inner_line i) (inner_line j))
        go (no e) =
            apart_changes u w (out K (c m)) (out K (c (suc m)))
            (λ s. side_unmet k m hk hm e (met K K+ (c k) (c (suc k)) (c m) (c (suc m)) u w i j s))

    pub value_of : (K : ℤ) → Positive K → (k : ℕ) → k < n → (q : Point) → Inner q (out K (c k)) (out K (c (suc k))) →
        odd (large K c) q n ≡ value k
    value_of K K+ k hk q i = steady_value c n closed (c k) (c (suc k)) (side_steady k hk) K K+ q i
