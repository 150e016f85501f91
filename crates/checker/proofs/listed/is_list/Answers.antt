-- `checker::listed::is_list`: where all pieces are allowed, the bytes that are left decide.
use Rattle.std.proofs.Common.{rules}
use Rattle.outline.specs.Tells.{never}
use Rattle.checker.proofs.Listing.{listing_all, listing_tells, no_listing, some_bytes, no_bytes}
use Rattle.checker.proofs.listed.is_list.Goals as goal
use Rattle.checker.proofs.listed.is_list.Goals.{then-allowed, else-allowed}

pub returns-then-not-is_empty : goal.returns-then-not-is_empty
returns-then-not-is_empty c =
    let told = listing_all c.args.n (record { rest = c.args.list }) c.all-allowed.new.self c.all-allowed.ensures.ran
    (λ x q h k. search rules) in
    elim c.if-allowed.branch [
      | then-allowed w ↦
          let h = rw w.if-allowed.true at told in
          listing_tells h.0 h.1 (some_bytes _ w.is_empty.ensures w.value-is c.if-not-is_empty.true)
          c.is_empty-then-not-is_empty.ensures
      | else-allowed w ↦ absurd (cc (w.value-is, w.if-allowed.false, c.if-not-is_empty.true))
    ]

pub returns-else-not-is_empty : goal.returns-else-not-is_empty
returns-else-not-is_empty c =
    let told = listing_all c.args.n (record { rest = c.args.list }) c.all-allowed.new.self c.all-allowed.ensures.ran
    (λ x q h k. search rules) in
    elim c.if-allowed.branch [
      | then-allowed w ↦
          rw c.if-not-is_empty.false
          (never (no_listing (no_bytes _ w.is_empty.ensures w.value-is c.if-not-is_empty.false)))
      | else-allowed w ↦ rw c.if-not-is_empty.false (never (rw w.if-allowed.false at told))
    ]
