-- `read`: each return is one law of `Reading`.
use Rattle.std.proofs.Common.{refl, ◌∙◌, to_z-of_z, w32, arith}
use borrow.Author.Rules.{sfits_of}
use Rattle.frames.specs.Reading.{reads_close, reads_head, reads_over, reads_digit, reads_full, reads_number}
use Rattle.frames.proofs.Worth.{read_digit, read_other}
use Rattle.frames.proofs.Line.read.Goals as goal

pub returns-in_default : goal.returns-in_default
returns-in_default c = reads_close _ _ _ _ refl c.args.self (read_other _ c.in_default.ensures) c.close.ensures

pub returns-in-Head : goal.returns-in-Head
returns-in-Head c =
    let d = read_digit c.args.c c.from.ensures c.in-Some.ensures in
    rw c.in-Head.is (reads_head _ _ _ _ d.0 d.1 _ _ c.begin.ensures)

pub returns-then-at-want : goal.returns-then-at-want
returns-then-at-want c =
    let d = read_digit c.args.c refl c.in-Some.ensures in
    rw c.in-Body.is (reads_over _ _ _ _ d.0 d.1 _ _ _ _ c.if-at-want.true)

pub returns-then-digits-lt-NUMBER : goal.returns-then-digits-lt-NUMBER
returns-then-digits-lt-NUMBER c =
    let d = read_digit c.args.c c.from-in-Body.ensures c.in-Some.ensures in
    rw c.in-Body.is (reads_digit _ _ _ _ d.0 d.1 _ _ _ _ c.if-at-want.false c.if-digits-lt-NUMBER.true)

pub returns-then-at-numbers : goal.returns-then-at-numbers
returns-then-at-numbers c =
    let d = read_digit c.args.c refl c.in-Some.ensures in
    rw c.in-Body.is
    (reads_full _ _ _ _ d.0 d.1 _ _ _ _ c.if-at-want.false c.if-digits-lt-NUMBER.false c.if-at-numbers.true)

pub number-requires : goal.number-requires
number-requires c =
    let d = read_digit c.args.c c.from-in-Body.ensures c.in-Some.ensures in
    omega (arith, d.1)

pub returns-else-at-numbers : goal.returns-else-at-numbers
returns-else-at-numbers c =
    let d = read_digit c.args.c c.from-in-Body.ensures c.in-Some.ensures in
    rw c.in-Body.is
    (reads_number _ _ _ _ d.0 d.1 _ _ _ _ c.if-at-want.false c.if-digits-lt-NUMBER.false c.if-at-numbers.false
    (to_z-of_z {w = w32} (sfits_of c.number.type_inv) ∙ c.number.ensures))
