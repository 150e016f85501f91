-- `put_all`: after i bytes their digits stand in the buffer, two for each.
use Rattle.std.proofs.Common.{◌≡◌, length, take}
use lib.Seq.{sets}
use Rattle.frames.specs.Frames.{digits_of}
use Rattle.frames.proofs.digits.put_all.Given as goal

abbrev pub invariant-loop-i : goal.invariant-loop-i
invariant-loop-i l =
    (length l.out ≡ length l.initial.out) × (l.out ≡ sets l.initial.out 0 (digits_of (take l.i l.bytes)))
