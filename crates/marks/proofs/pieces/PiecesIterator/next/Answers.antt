-- `next` of `marks::pieces::Pieces` meets its contract.
use Rattle.std.proofs.Common.{◌≡◌, sym, ap, ◌∙◌, subst, ℕ, ◌+◌, arith, length, drop}
use Rattle.std.proofs.Math.ListN.{length-drop}
use Rattle.marks.specs.Parts.{Told, taken}
use Rattle.marks.proofs.Answers.{told_fits, told_rest, first_is}
use Rattle.marks.proofs.pieces.PiecesIterator.next.Goals as goal

pub split_at-requires : goal.split_at-requires
split_at-requires c =
    let f = first_is c.args.self.now.told.now _ c.in_ok-k.ensures.value in
    omega (arith, told_fits c.requires f.0, c.from.ensures, f.1)

pub returns-clause-goes : goal.returns-clause-goes
returns-clause-goes c =
    let L = c.args.self.now.told.now in
    let f = first_is L _ c.in_ok-k.ensures.value in
    let e : 2 + c.from.result ≡ taken L = omega (arith, c.from.ensures, f.1) in
    let back : c.split_at.result.1.now ≡ drop (taken L) L =
    c.split_at.ensures.back ∙ ap (λ (k : ℕ). drop k L) e in
    let rest : Told c.split_at.result.1.now = subst Told (sym back) (told_rest c.requires f.0) in
    record {
      on = λ _. (rest, tt, omega (arith, ap length back, length-drop (taken L) L, f.0));
      keeps = rest;
      rests = λ _. tt;
    }
