-- `tell`: what is served is told, and the centres are put in. What is refused the check finds alone.
use native.Mathlib.Omega.{arith}
use lib.ListN.{length}
use mathlib.Core.Path.{◌≡◌, refl, ap, subst}
use mathlib.Core.Bool.{true}
use mathlib.Core.Logic.{inr}
use mathlib.Core.List.{List}
use Prim.Native.Nat.{ℕ, ◌-◌, ◌≤◌}
use Rattle.std.specs.Ordering.{is_le, nat_cmp}
use Rattle.std.proofs.lemmas.Map.Keys.{le_from_is_le}
use Rattle.limits.specs.Limits.{fewest_corners, most_corners, all_cells, Roomy}
use Rattle.telling.specs.Answer.{Served}
use Rattle.telling.specs.Parts.{Wrote}
use Rattle.telling.proofs.Tellings.{taken_range, whole_size, whole_pieces, whole_given}
use Rattle.telling.proofs.tell.Goals as goal

-- what the tests leave
served : {n from to : ℕ} {pairs first second : List ℕ} →
    (is_le (nat_cmp from n) ≡ true) × (is_le (nat_cmp n to) ≡ true) → from ≡ fewest_corners → to ≡ most_corners →
    all_cells ≤ length pairs → all_cells ≤ length first → all_cells ≤ length second → Served n pairs first second
served {n} {from} {to} h e g p f s = record {
  enough = omega (arith, e, le_from_is_le from n h.0);
  few = omega (arith, g, le_from_is_le n to h.1);
  pairs_whole = p;
  first_whole = f;
  second_whole = s;
}

pub write_range-bytes-requires-clause-room : goal.write_range-bytes-requires-clause-room
write_range-bytes-requires-clause-room c =
    let a = c.args in
    let s = served c.if-not-contains.ensures.cases c.new.ensures.start c.new.ensures.end c.in_ok-pairs.ensures.0
    c.in_ok-first.ensures.0 c.in_ok-second.ensures.0 in
    omega (
      arith,
      c.if-out-n.false,
      whole_size s,
      ap length (taken_range a.pairs.now c.in_ok-pairs.ensures.1 0 (a.n - 1)),
    )

pub put_centres-requires : goal.put_centres-requires
put_centres-requires c =
    let a = c.args in
    let s = served c.if-not-contains.ensures.cases c.new.ensures.start c.new.ensures.end c.in_ok-pairs.ensures.0
    c.in_ok-first.ensures.0 c.in_ok-second.ensures.0 in
    whole_pieces s (subst (Wrote a.out.now c.write_range-bytes.new.out c.write_range-bytes.result)
    (taken_range a.pairs.now c.in_ok-pairs.ensures.1 0 (a.n - 1)) c.write_range-bytes.ensures)

pub overflow_sub-result : goal.overflow_sub-result
overflow_sub-result c =
    let a = c.args in
    let s = served c.if-not-contains.ensures.cases c.new.ensures.start c.new.ensures.end c.in_ok-pairs.ensures.0
    c.in_ok-first.ensures.0 c.in_ok-second.ensures.0 in
    omega (
      arith,
      whole_size s,
      c.write_range-bytes.ensures.past,
      ap length (taken_range a.pairs.now c.in_ok-pairs.ensures.1 0 (a.n - 1)),
    )

pub returns : goal.returns
returns c =
    let a = c.args in
    let s : Served a.n a.pairs.now a.first.now a.second.now =
    served c.if-not-contains.ensures.cases c.new.ensures.start c.new.ensures.end c.in_ok-pairs.ensures.0
    c.in_ok-first.ensures.0 c.in_ok-second.ensures.0 in
    let roomy : Roomy a.n (length a.out.now) = omega (arith, c.if-out-n.false) in
    let w = subst (Wrote a.out.now c.write_range-bytes.new.out c.write_range-bytes.result)
    (taken_range a.pairs.now c.in_ok-pairs.ensures.1 0 (a.n - 1)) c.write_range-bytes.ensures in
    let z = whole_size s in
    record {
      numbered = inr (s, inr (roomy, refl));
      refused = λ l. absurd (omega (arith, l));
      given = λ _. whole_given s w c.in_ok-first.ensures.1 c.in_ok-second.ensures.1 c.put_centres.ensures
          (omega (arith, z, w.past));
    }
