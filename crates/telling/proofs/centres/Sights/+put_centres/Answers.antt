-- `Sights::put_centres`: the first piece gets its centre, and then those after it.
use Rattle.std.proofs.Common.{◌≡◌, ℕ, Bool, false, eqb, List, length, arith, sym, ◌∙◌, subst, eqb-true}
use Rattle.std.proofs.lemmas.Bool.{eqb-false}
use Rattle.rules.specs.Cells.{both_see}
use Rattle.rules.specs.Lays.{centre}
use Rattle.telling.specs.Parts.{Small, Pieces}
use Rattle.telling.proofs.Passes.{Front, front, front_in, front_later, front_fits, none}
use Rattle.telling.proofs.Passes.{split, split_rest, split_less, split_corners, split_done}
use Rattle.telling.proofs.centres.Sights.+put_centres.Goals as goal

-- where something is left there is a first piece
some : {n : ℕ} {b : Bool} → b ≡ eqb n 0 → b ≡ false → ¬ (n ≡ 0)
some {n} e f = eqb-false n 0 (sym e ∙ f)

first_piece : {told : List ℕ} {b : Bool} (p : Pieces told) → b ≡ eqb (length told) 0 → b ≡ false →
    Front p.shown p.l told
first_piece p e f = front p.l p.are (some e f)

pub split_at_mut-piece-requires : goal.split_at_mut-piece-requires
split_at_mut-piece-requires t c =
    front_fits (first_piece c.requires c.is_empty.ensures c.if-not-is_empty.true) c.from-to.ensures

pub lowest-requires : goal.lowest-requires
lowest-requires t c =
    let f = first_piece c.requires c.is_empty.ensures c.if-not-is_empty.true in
    let p = c.split_at_mut-piece.ensures in
    let s = split c.from-to.ensures p.value p.front_len in
    subst Small (sym (split_corners f s)) (c.requires.small f.S (front_in f))

pub put_centres-requires : goal.put_centres-requires
put_centres-requires t c =
    let f = first_piece c.requires c.is_empty.ensures c.if-not-is_empty.true in
    let p = c.split_at_mut-piece.ensures in
    let s = split c.from-to.ensures p.value p.front_len in (
      omega (arith, c.decreases, split_less f s),
      record {
        shown = c.requires.shown;
        l = f.t;
        are = split_rest f s;
        small = λ Q i. c.requires.small Q (front_later f Q i);
      },
    )

pub returns-then-not-is_empty : goal.returns-then-not-is_empty
returns-then-not-is_empty t c = λ o l e.
    let f = front l e (some c.is_empty.ensures c.if-not-is_empty.true) in
    let p = c.split_at_mut-piece.ensures in
    let s = split c.from-to.ensures p.value p.front_len in
    let self = c.args.self.now in
    split_done f s (centre (both_see self.first.now self.second.now))
    c.lowest.ensures (c.put_centres.ensures o f.t (split_rest f s))

pub returns-else-not-is_empty : goal.returns-else-not-is_empty
returns-else-not-is_empty t c = λ o l e.
    let s = c.args.self.now in
    none o (centre (both_see s.first.now s.second.now)) l e
    (eqb-true _ _ (sym c.is_empty.ensures ∙ c.if-not-is_empty.false))
