-- `worth`: a digit 0 to 9, a digit A to F, no digit.
use Rattle.std.proofs.Common.{◌+◌, ◌%◌, arith}
use Rattle.frames.proofs.Worth.{decimal, letter, no_digit}
use Rattle.frames.proofs.digits.worth.Goals as goal
use Rattle.frames.proofs.digits.worth.Goals.{then-d-lt10, else-d-lt10+then-e-lt6, else-d-lt10+else-e-lt6}

pub returns-then-value-lt16 : goal.returns-then-value-lt16
returns-then-value-lt16 c =
    let d = (c.args.c + 208) % 256 in
    let e = (c.args.c + 191) % 256 in
    elim c.if-d-lt10.branch [
      | then-d-lt10 w ↦ rw w.value-is (decimal c.args.c d (omega arith) w.if-d-lt10.true)
      | else-d-lt10+then-e-lt6 w ↦
          rw w.value-is (letter c.args.c d (omega arith) e (omega arith) w.if-d-lt10.false w.if-e-lt6.true)
      | else-d-lt10+else-e-lt6 w ↦ absurd (omega arith)
    ]

pub returns-else-value-lt16 : goal.returns-else-value-lt16
returns-else-value-lt16 c =
    let d = (c.args.c + 208) % 256 in
    let e = (c.args.c + 191) % 256 in
    elim c.if-d-lt10.branch [
      | then-d-lt10 w ↦ absurd (omega arith)
      | else-d-lt10+then-e-lt6 w ↦ absurd (omega arith)
      | else-d-lt10+else-e-lt6 w ↦
          no_digit c.args.c d (omega arith) e (omega arith) w.if-d-lt10.false (omega arith) (omega arith)
          w.if-e-lt6.false
    ]
