-- Quotient and remainder, rounded down, as whole steps and the rest of a step.
use Rattle.std.proofs.Common.{◌≡◌, sym, ap, subst, ℕ, suc, ◌+◌, ◌-◌, ◌*◌, ◌/◌, ◌%◌, ◌<◌, arith, lt_of_le_of_lt, ltb→lt, mod-lt, div-add-mod', suc-mul, lit<, ℤ, pos, negsuc, nat_abs, ◌+ℤ◌, ◌*ℤ◌}
use Rattle.std.proofs.lemmas.Int.{ints}
use Rattle.std.specs.Float.{binary64}
use Rattle.std.specs.Float.Ieee.{of_int, div}
use Rattle.std.specs.Int.{int_div_euclid, int_rem_euclid}
use Rattle.marks.specs.Steps.{InSteps}
use Rattle.marks.specs.Division.{rest_of}
use Rattle.marks.specs.Parts.{Share}
use Rattle.marks.specs.declared.Axis.{Axis}

-- s steps and r / d
abbrev axis : ℤ → ℤ → ℤ → Axis
axis s r d = record { step = s; rest = div binary64 (of_int binary64 r) (of_int binary64 d) }

down : (a d : ℕ) → 0 < d → negsuc a ≡ negsuc (a / d) *ℤ pos d +ℤ pos (d - 1 - a % d)
down a d h =
    let e : a / d * d + a % d ≡ a = div-add-mod' a d in
    let f : a % d < d = mod-lt a h in
    let g : suc (a / d) * d ≡ a / d * d + d = suc-mul (a / d) d in
    omega (arith, ints)

told : (n d : ℤ) → Share n d → InSteps n (nat_abs d) (axis (int_div_euclid n d) (int_rem_euclid n d) d)
told n (negsuc d) h = absurd h.some.lt
told (pos a) (pos d) h =
    let part : a % d < d = mod-lt a (ltb→lt 0 d h.some.lt) in
    record {
      k = a % d;
      whole = ap pos (sym (div-add-mod' a d));
      part = part;
      rest = rest_of (a % d) d part (lt_of_le_of_lt h.area (lit< tt));
    }
told (negsuc a) (pos d) h =
    let some : 0 < d = ltb→lt 0 d h.some.lt in
    let part : d - 1 - a % d < d = omega arith in
    record {
      k = d - 1 - a % d;
      whole = down a d some;
      part = part;
      rest = rest_of (d - 1 - a % d) d part (lt_of_le_of_lt h.area (lit< tt));
    }

-- as the machine holds them
pub rounded : {n d s r e : ℤ} → Share n d → s ≡ int_div_euclid n d → r ≡ int_rem_euclid n d → e ≡ d →
    InSteps n (nat_abs d) (axis s r e)
rounded {n} {d} h a b c = subst (InSteps n (nat_abs d)) (λ i. axis (sym a i) (sym b i) (sym c i)) (told n d h)
