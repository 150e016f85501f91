-- A fraction told as whole steps and the rest of a step: document 02, K1. To be believed.
use Rattle.std.specs.Prelude.{◌≡◌, false, ℕ, ◌+◌, ◌*◌, ◌^◌, ◌≤◌, ◌<◌, ℤ, pos, ◌+ℤ◌, ◌*ℤ◌, Float}
use Rattle.std.specs.Float.{fin, binary64}
use Rattle.std.specs.Float.Ieee.{up, down, of_int, div}
use Rattle.std.specs.Float.Ieee.Exact.{HasValue}
use Rattle.marks.specs.declared.Axis.{Axis}

-- "a 64-bit float from 0 to below 1, within 2^-53 of the exact fraction of whole numbers": x is m times 2^e, which is
-- up e over down e, and the fraction is k / d. Both bounds are multiplied by d, by down e and by 2^53.
pub record Within (x : Float) (k d : ℕ) : Type 0 where
  pub m : ℕ
  pub e : ℤ
  pub is : x ≡ fin false m e
  pub below_one : m * up e < down e
  pub not_above : m * up e * d * 2 ^ 53 ≤ k * down e * 2 ^ 53 + d * down e
  pub not_below : k * down e * 2 ^ 53 ≤ m * up e * d * 2 ^ 53 + d * down e

-- 01: "Remainder and divisor cast without loss, one f64 division, its bound stated over whole numbers."
pub record Rest (k d : ℕ) (x : Float) : Type 0 where
  pub k_kept : HasValue (of_int binary64 (pos k)) false k 1
  pub d_kept : HasValue (of_int binary64 (pos d)) false d 1
  pub quotient : x ≡ div binary64 (of_int binary64 (pos k)) (of_int binary64 (pos d))
  pub near : Within x k d

-- "whole steps, rounded down also below zero, and the rest of a step": n / d is so many steps and k / d
pub record InSteps (n : ℤ) (d : ℕ) (a : Axis) : Type 0 where
  pub k : ℕ
  pub whole : n ≡ a.step *ℤ pos d +ℤ pos k
  pub part : k < d
  pub rest : Rest k d a.rest
