-- `floats::bits` meets its contract: what is no number has one word.
use Rattle.std.proofs.Common.{◌≡◌, refl, true}
use lib.Ieee.{Float, nan, inf, fin, binary64, is_nan, to_bits}
use Rattle.recorded.proofs.floats.bits.Goals as goal

no_number : (x : Float) → true ≡ is_nan x → 9221120237041090560 ≡ to_bits binary64 x
unfolding is_nan to_bits
no_number nan e = refl
no_number (inf s) e = absurd (cc)
no_number (fin s m k) e = absurd (cc)

pub returns-then-is_nan : goal.returns-then-is_nan
returns-then-is_nan c = no_number c.args.x c.if-is_nan.ensures.value
