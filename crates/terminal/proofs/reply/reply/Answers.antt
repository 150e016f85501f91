-- `reply`: the line of a refusal, and of an answer.
use Rattle.std.proofs.Common.{◌≡◌, ℕ, length, refl, arith}
use lib.ListN.{replicate, length-replicate}
use Rattle.limits.specs.Limits.{room}
use Rattle.desk.specs.Unique.{name}
use Rattle.terminal.specs.Longest.{small}
use Rattle.terminal.proofs.Laying.{laid_refusal, laid_answer}
use Rattle.terminal.proofs.reply.reply.Goals as goal

empty : length (replicate {A = ℕ} room 0) ≡ room
empty = length-replicate {0} {A = ℕ} room 0

pub overflow_cast-told : goal.overflow_cast-told
overflow_cast-told c = omega (arith, (small empty c.in-Ok.ensures refl).few)

pub slice_bounds-room-end : goal.slice_bounds-room-end
slice_bounds-room-end c =
    let s = small empty c.in-Ok.ensures refl in
    omega (arith, s.fits, empty)

pub returns-in-Ok : goal.returns-in-Ok
returns-in-Ok c = laid_answer empty c.in-Ok.ensures c.requires refl c.answer_line.ensures

pub returns-in-Err : goal.returns-in-Err
returns-in-Err c =
    let numbered = (name c.in-Err.refusal).1 in
    laid_refusal empty c.in-Err.ensures c.requires (λ z. omega (arith, z, numbered))
    (rw c.from.ensures at c.refusal_line.ensures)
