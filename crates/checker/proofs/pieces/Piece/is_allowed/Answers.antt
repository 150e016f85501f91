-- `checker::pieces::Piece::is_allowed`: one test after another.
use Rattle.std.proofs.Common.{rules, arith, sym, ap, ◌∙◌, ◌≤◌, Bool, ◌&&◌, length, eqb}
use borrow.Author.Tests.{tests}
use Rattle.std.proofs.lemmas.Grind.{common_steps}
use Rattle.outline.specs.Tells.{never}
use Rattle.rules.specs.Lays.{some}
use Rattle.checker.specs.Checks.{Allowed}
use Rattle.checker.specs.Parts.{rises, as_entry}
use Rattle.checker.proofs.Along.{sorted_by, some_is}
use Rattle.checker.proofs.Tests.{told_by, allowed_tells}
use Rattle.checker.proofs.pieces.Piece.is_allowed.Goals as goal
use Rattle.checker.proofs.pieces.Piece.is_allowed.Goals.{then-contains, else-contains}

pub returns-then-is_sorted_by : goal.returns-then-is_sorted_by
returns-then-is_sorted_by c =
    elim c.if-contains.branch [
      | then-contains w ↦
          let S = c.args.self.now.corners.now in
          let k = c.args.self.now.centre in
          let steps = sorted_by (rises c.args.n) S w.is_sorted_by.result w.is_sorted_by.ensures.cases
          (λ a q f k. search rules) in
          let enough : 3 ≤ length S = search (rules, tests) in
          let few : length S ≤ c.args.n = grind (arith, common_steps) in
          told_by
          (c.contains-then-is_sorted_by.ensures.value ∙ some_is k S
          ∙ sym (ap (λ (b : Bool). b && some (λ x. eqb x k) S) (sym steps ∙ sym w.value-is ∙ c.if-is_sorted_by.true)))
          (allowed_tells c.args.n k S enough few)
      | else-contains w ↦ absurd (cc (w.value-is, w.if-contains.false, c.if-is_sorted_by.true))
    ]

pub returns-else-is_sorted_by : goal.returns-else-is_sorted_by
returns-else-is_sorted_by c =
    elim c.if-contains.branch [
      | then-contains w ↦
          let S = c.args.self.now.corners.now in
          let k = c.args.self.now.centre in
          let steps = sorted_by (rises c.args.n) S w.is_sorted_by.result w.is_sorted_by.ensures.cases
          (λ a q f k. search rules) in
          let enough : 3 ≤ length S = search (rules, tests) in
          let few : length S ≤ c.args.n = grind (arith, common_steps) in
          let none = c.if-is_sorted_by.false in
          told_by
          (none ∙ sym (ap (λ (b : Bool). b && some (λ x. eqb x k) S) (sym steps ∙ sym w.value-is ∙ none)))
          (allowed_tells c.args.n k S enough few)
      | else-contains w ↦
          rw c.if-is_sorted_by.false
          (never (λ (a : Allowed c.args.n (as_entry c.args.self.now)).
          let enough = a.enough in let few = a.few in grind (arith, common_steps)))
    ]
