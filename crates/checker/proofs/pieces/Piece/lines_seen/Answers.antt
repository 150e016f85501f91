-- `checker::pieces::Piece::lines_seen`: its steps, and its closing line.
use Rattle.std.proofs.Common.{rules, sym, ap, ◌∙◌, ℕ, ◌%◌, Bool, ◌&&◌, eqb, get_or}
use Rattle.checker.specs.Parts.{closed, strictly_sees}
use Rattle.checker.proofs.Along.{sorted_by}
use Rattle.checker.proofs.Tests.{told_by, lines_tell}
use Rattle.checker.proofs.pieces.Piece.lines_seen.Goals as goal

pub returns-then-is_sorted_by : goal.returns-then-is_sorted_by
returns-then-is_sorted_by c =
    let S = c.args.self.now.corners.now in
    let t = c.args.sight.now in
    let steps = sorted_by (strictly_sees t) S c.is_sorted_by.result c.is_sorted_by.ensures.cases
    (λ a q f k. search rules) in
    told_by
    (c.strictly.ensures ∙ ap (λ (k : ℕ). eqb (get_or t k 0 % 2) 1) c.closing-first.ensures
    ∙ sym (ap (λ (b : Bool). b && eqb (closed t S % 2) 1) (sym steps ∙ c.if-is_sorted_by.true)))
    (lines_tell t S c.requires)

pub returns-else-is_sorted_by : goal.returns-else-is_sorted_by
returns-else-is_sorted_by c =
    let S = c.args.self.now.corners.now in
    let t = c.args.sight.now in
    let steps = sorted_by (strictly_sees t) S c.is_sorted_by.result c.is_sorted_by.ensures.cases
    (λ a q f k. search rules) in
    told_by
    (c.if-is_sorted_by.false
    ∙ sym (ap (λ (b : Bool). b && eqb (closed t S % 2) 1) (sym steps ∙ c.if-is_sorted_by.false)))
    (lines_tell t S c.requires)
