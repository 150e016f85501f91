-- The loop over a chunk: one law for each thing that `feed` reports.
use Rattle.frames.specs.Reader.{FeedGives}
use Rattle.std.specs.Prelude.{Some, None}
use Rattle.terminal.specs.Going.{Session}
use Rattle.std.specs.Prelude.{Result, Ok}
use Rattle.frames.specs.declared.Fault.{Fault}
use Rattle.frames.specs.Reader.{failed}
use mathlib.Core.Path.{◌≡◌, refl, ◌∙◌, ap}
use mathlib.Core.List.{List, [], ◌∷◌, ◌++◌, append_assoc, append-nil}
use mathlib.Core.Logic.{◌⊎◌, inl, inr, ⊎_elim}
use Prim.Native.Nat.{ℕ, ◌+◌, ◌≤◌}
use native.Mathlib.Omega.{arith}
use lib.IntN.{ℤ}
use lib.ListN.{length, take, drop, length-take}
use Rattle.frames.specs.Frames.{Event, pair, fault, fault_line}
use Rattle.frames.specs.Answer.{Written}
use Rattle.frames.specs.Reader.{fresh, feeds}
use Rattle.frames.specs.Takes.{taken, feed_pair_takes, PairTakes}
use Rattle.frames.specs.declared.Reader.{Reader}
use Rattle.frames.specs.declared.Fed.{Fed}
use Rattle.frames.specs.declared.Fed.TheVariants as fed
use Rattle.limits.specs.Limits.{longest_line}
use Rattle.terminal.specs.Longest.{pair_short}
use Rattle.terminal.specs.Going.{Gone, with_events, reads, reads_more, reads_pair, reads_fault}
use Rattle.terminal.specs.Running.{Wrote, Lent, Done}
use Rattle.terminal.specs.Laying.{Space, Laid}
use Rattle.terminal.proofs.Laying.{laid_fault, wrote_none, wrote_more}

-- ---- a session that is over
pub runs_over : {s : Session} {f g : List ℤ} {chunk out : List ℕ} → s ≡ None → Lent f g chunk out →
    Done s f g chunk out f g out None 0
runs_over {out} e lent =
    rw e
    (record {
      lent = lent;
      session_is = refl;
      first_is = refl;
      second_is = refl;
      wrote = wrote_none out;
      most = omega arith;
    })

-- ---- a session that reads
-- before byte `at`: the events told, whose lines are written, and that the rest of the chunk does the rest. What is
-- written is paid for: by the bytes read, but for one line, whose pair the reader may have held at the start.
pub record So (r₀ : Reader) (f₀ g₀ : List ℤ) (chunk out₀ : List ℕ) (f g : List ℤ) (out : List ℕ) (r : Reader)
    (at len : ℕ) : Type 0 where
  pub reported : List Event
  pub wrote : Wrote reported out₀ out len
  pub going : reads r₀ f₀ g₀ chunk ≡ with_events reported (reads r f g (drop at chunk))
  pub within : at ≤ length chunk
  pub spent : len ≤ at + longest_line
  pub own : (len ≡ 0) ⊎ (taken r ≡ 0)
  pub same : length out ≡ length out₀

with_events_more : (es : List Event) (e : Event) (g : Gone) →
    with_events es (with_events (e ∷ []) g) ≡ with_events (es ++ e ∷ []) g
with_events_more es e g = rw (append_assoc es (e ∷ []) g.events)

module _ {r₀ : Reader} {f₀ g₀ : List ℤ} {chunk out₀ : List ℕ} where
  pub so_begin : So r₀ f₀ g₀ chunk out₀ f₀ g₀ out₀ r₀ 0 0
  so_begin = record {
    reported = [];
    wrote = wrote_none out₀;
    going = refl;
    within = omega arith;
    spent = omega arith;
    own = inl refl;
    same = refl;
  }

  module _ {f g : List ℤ} {out : List ℕ} {r : Reader} {at len : ℕ} (so : So r₀ f₀ g₀ chunk out₀ f g out r at len)
      (lent : Lent f₀ g₀ chunk out₀) {x : Result Fed Fault} {f' g' : List ℤ}
      (q : ◌≡◌ {A = FeedGives} (x, f', g') (feeds r f g at (drop at chunk))) where
    -- the chunk is read
    pub so_more : {r' : Reader} → x ≡ Ok (fed.More r') →
        Done (Some r₀) f₀ g₀ chunk out₀ f' g' out (Some r') len
    so_more {r'} e =
        let w : reads r₀ f₀ g₀ chunk
        ≡ record { events = so.reported; session = Some r'; first = f'; second = g' } =
        so.going ∙ ap (with_events so.reported) (reads_more r f g chunk at q e) ∙ rw (append-nil so.reported) in
        record {
          lent = lent;
          session_is = rw w;
          first_is = rw w;
          second_is = rw w;
          wrote = rw w so.wrote;
          most = omega (arith, so.spent, so.within);
        }

    -- a pair: its line has room, and is paid for
    module _ {n m next : ℕ} (e : x ≡ Ok (fed.Pair n m next)) where
      takes : PairTakes r f' g' (length chunk) at n m next
      takes = feed_pair_takes r f g chunk at q e

      pub so_room : Space (take n f') out len
      so_room =
          let t = takes in
          let k = length-take n f' in
          ⊎_elim (λ z. omega (arith, z, k, lent.out_fits, so.same))
          (λ z. omega (arith, z, k, t.took, t.first_fits, t.within, so.spent, lent.out_fits, so.same)) so.own

      pub so_pair : {out' : List ℕ} {len' : ℕ} → Laid (pair (take n f') (take m g')) out len len' out' →
          length out' ≡ length out →
          So r₀ f₀ g₀ chunk out₀ f' g' out' fresh next len'
      so_pair {out'} {len'} l same =
          let t = takes in
          let k = length-take n f' in
          let s = pair_short (take n f') (take m g') l.line l.is in
          record {
            reported = so.reported ++ pair (take n f') (take m g') ∷ [];
            wrote = wrote_more so.reported (pair (take n f') (take m g')) out₀ out out' len len' so.wrote l;
            going =
                so.going ∙ ap (with_events so.reported) (reads_pair r f g chunk at q e)
                ∙ with_events_more so.reported (pair (take n f') (take m g')) (reads fresh f' g' (drop next chunk));
            within = t.within;
            spent = ⊎_elim (λ z. omega (arith, z, l.next, s.at_most))
                (λ z. omega (arith, z, k, l.next, s.own, t.took, t.first_fits, so.spent)) so.own;
            own = inr refl;
            same = same ∙ so.same;
          }

    -- a fault: EF stands behind the lines of the pairs before it
    pub so_fault : {out' : List ℕ} {len' : ℕ} → x ≡ failed → Written fault_line out len len' out' →
        Done (Some r₀) f₀ g₀ chunk out₀ f' g' out' None len'
    so_fault {out'} {len'} e h =
        let l = laid_fault out out' len len' (omega (arith, so.spent, so.within, so.same, lent.out_fits)) h in
        let w : reads r₀ f₀ g₀ chunk
        ≡ record { events = so.reported ++ fault ∷ []; session = None; first = f'; second = g' } =
        so.going ∙ ap (with_events so.reported) (reads_fault r f g chunk at q e) in
        record {
          lent = lent;
          session_is = rw w;
          first_is = rw w;
          second_is = rw w;
          wrote = rw w (wrote_more so.reported fault out₀ out out' len len' so.wrote l);
          most = omega (arith, so.spent, so.within, l.next, ap length l.is);
        }
