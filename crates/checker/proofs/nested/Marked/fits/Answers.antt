-- `checker::nested::Marked::fits`: its steps, and its closing line.
use Rattle.std.proofs.Common.{rules, sym, ap, ◌∙◌, ℕ, Bool, not, ◌&&◌, eqb, get_or}
use Rattle.checker.specs.Parts.{closes, closed}
use Rattle.checker.proofs.Along.{sorted_by}
use Rattle.checker.proofs.nested.Marked.fits.Goals as goal

pub returns-then-is_sorted_by : goal.returns-then-is_sorted_by
returns-then-is_sorted_by c =
    let S = c.args.piece.now.corners.now in
    let t = c.args.self.now.steps in
    let steps = sorted_by (closes c.args.self.now.closings) S c.is_sorted_by.result c.is_sorted_by.ensures.cases
    (λ a q f k. search rules) in
    c.has.ensures ∙ ap (λ (k : ℕ). not (eqb (get_or t k 0) 0)) c.closing-first.ensures
    ∙ sym (ap (λ (b : Bool). b && not (eqb (closed t S) 0)) (sym steps ∙ c.if-is_sorted_by.true))

pub returns-else-is_sorted_by : goal.returns-else-is_sorted_by
returns-else-is_sorted_by c =
    let S = c.args.piece.now.corners.now in
    let t = c.args.self.now.steps in
    let steps = sorted_by (closes c.args.self.now.closings) S c.is_sorted_by.result c.is_sorted_by.ensures.cases
    (λ a q f k. search rules) in
    c.if-is_sorted_by.false
    ∙ sym (ap (λ (b : Bool). b && not (eqb (closed t S) 0)) (sym steps ∙ c.if-is_sorted_by.false))
