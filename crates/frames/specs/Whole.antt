-- The reader gives the events of 01: `from` a fresh reader over a whole input is `events` of it.
-- By induction over the input, with `pre` the characters of the line that is being read: what is still to come belongs
-- behind them.
use Rattle.frames.specs.Reader.{ReadGives}
use Rattle.std.specs.Prelude.{Option, Some, None, Ok, Err}
use Rattle.std.specs.Prelude.{◌≡◌, ℕ, ◌<◌, ◌≤◌, cond, List, [], ◌∷◌, ◌++◌, length, take, ℤ, ◌≢◌, refl}
use Rattle.std.proofs.Common.{sym, ◌∙◌, ap, append-nil, inl, inr, arith, eq-eqb, ne_eqb, le-leb, length-append}
use Rattle.std.proofs.Math.Option.{none, some}
use Rattle.std.proofs.Math.Seq.{append_snoc}
use Rattle.frames.specs.Frames.{line_feed, first_tag, second_tag, frame, Text, in_front, led_by, in_lines}
use Rattle.limits.specs.Limits.{most_numbers}
use Rattle.frames.specs.Frames.{Event, pair, fault, paired, events_of, events}
use Rattle.frames.specs.Reader.{nothing_read, fresh, reads, on_first, on_second}
use Rattle.frames.specs.Reader.{steps, ends_in_fault, events_by, from}
use Rattle.frames.specs.Bytes.{bytes_length}
use Rattle.frames.specs.Holds.{Holds, in_head, in_body, holds_nothing, Doomed, Then}
use Rattle.frames.specs.Keeps.{keeps}
use Rattle.frames.specs.declared.Reader.{Reader}
use Rattle.frames.specs.declared.frame.After.TheVariants as after

-- ---- characters in front of a text
abbrev before : List ℕ → List (List ℕ) → List ℕ → Text
before pre [] r = record { lines = []; rest = pre ++ r }
before pre (l ∷ more) r = record { lines = (pre ++ l) ∷ more; rest = r }

abbrev onto : List ℕ → Text → Text
onto pre t = before pre t.lines t.rest

onto_nothing : (t : Text) → onto [] t ≡ t
onto_nothing t = go t.lines t.rest
  where
    go : (ls : List (List ℕ)) (r : List ℕ) → before [] ls r ≡ record { lines = ls; rest = r }
    go [] r = refl
    go (l ∷ ls) r = refl

onto_other : (pre : List ℕ) (c : ℕ) (t : Text) → (c ≢ line_feed) → onto pre (led_by c t) ≡ onto (pre ++ c ∷ []) t
onto_other pre c t n = rw (ne_eqb c line_feed n) (go t.lines t.rest)
  where
    go : (ls : List (List ℕ)) (r : List ℕ) → onto pre (in_front c ls r) ≡ before (pre ++ c ∷ []) ls r
    go [] r = rw (append_snoc pre c r)
    go (l ∷ ls) r = rw (append_snoc pre c l)

onto_feed : (pre : List ℕ) (c : ℕ) (t : Text) → c ≡ line_feed →
    onto pre (led_by c t) ≡ record { lines = pre ∷ t.lines; rest = t.rest }
onto_feed pre c t e = rw (eq-eqb c line_feed e, append-nil pre)

-- ---- what the lines tell, by whose turn it is
abbrev events_second : List ℤ → List (List ℕ) → List ℕ → List Event
events_second a [] r = fault ∷ []
events_second a (b ∷ more) r = paired (some a) (frame second_tag b) (events_of more r)

first_then_second : (l : List ℕ) (ls : List (List ℕ)) (r : List ℕ) {a : List ℤ} → frame first_tag l ≡ some a →
    events_of (l ∷ ls) r ≡ events_second a ls r
first_then_second l [] r e = refl
first_then_second l (b ∷ ls) r e = rw e

events_none : (l : List ℕ) (ls : List (List ℕ)) (r : List ℕ) → frame first_tag l ≡ none →
    events_of (l ∷ ls) r ≡ fault ∷ []
events_none l [] r e = refl
events_none l (b ∷ ls) r e = rw e

events_rest : (r : List ℕ) → 0 < length r → events_of [] r ≡ fault ∷ []
events_rest [] h = absurd (omega arith)
events_rest (c ∷ r) h = refl

-- of a doomed line comes a fault, at its end or at the input's
module _ (tag : ℕ) (read_as : List (List ℕ) → List ℕ → List Event)
    (read_as_none : (l : List ℕ) (ls : List (List ℕ)) (r : List ℕ) → frame tag l ≡ none →
    read_as (l ∷ ls) r ≡ fault ∷ [])
    (read_as_rest : (r : List ℕ) → 0 < length r → read_as [] r ≡ fault ∷ []) where
  doomed : (pre : List ℕ) (c : ℕ) (t : Text) → Doomed tag pre c →
      fault ∷ [] ≡ read_as (onto pre (led_by c t)).lines (onto pre (led_by c t)).rest
  doomed pre c t (inl (e, k)) = rw (onto_feed pre c t e) (sym (read_as_none pre t.lines t.rest k))
  doomed pre c t (inr (n, k)) = rw (ne_eqb c line_feed n) (go t.lines t.rest)
    where
      go : (ls : List (List ℕ)) (r : List ℕ) →
          fault ∷ [] ≡ read_as (onto pre (in_front c ls r)).lines (onto pre (in_front c ls r)).rest
      go [] r = sym (read_as_rest (pre ++ c ∷ r) (omega (arith, length-append pre (c ∷ r))))
      go (l ∷ ls) r = sym (read_as_none (pre ++ c ∷ l) ls r (k l))

-- ---- the reader
data Midway (r : Reader) (f g : List ℤ) (pre : List ℕ) : Type 0 where
  first : r.first ≡ None → Holds first_tag r.line f pre → Midway r f g pre
  second : (n : ℕ) → r.first ≡ Some n → n ≤ length f → Holds second_tag r.line g pre → Midway r f g pre

abbrev turn_in : Option ℕ → List ℤ → List (List ℕ) → List ℕ → List Event
turn_in None f = events_of
turn_in (Some n) f = events_second (take n f)

abbrev turn : Reader → List ℤ → List (List ℕ) → List ℕ → List Event
turn r f = turn_in r.first f

abbrev Agrees : List ℕ → Type 0
Agrees xs =
    (r : Reader) (f g : List ℤ) (pre : List ℕ) → Midway r f g pre → most_numbers ≤ length f → most_numbers ≤ length g →
    from r f g xs ≡ turn r f (onto pre (in_lines xs)).lines (onto pre (in_lines xs)).rest

-- ---- the input ends
end_first : (r : Reader) (f : List ℤ) (pre : List ℕ) → r.first ≡ None → Holds first_tag r.line f pre →
    cond (ends_in_fault r) (fault ∷ []) [] ≡ events_of [] (pre ++ [])
unfolding ends_in_fault
end_first r f [] t (in_head k v h short p) = rw (t, h, eq-eqb k 0 p.counted)
end_first r f (c ∷ pre) t (in_head k v h short p) = rw (t, h, ne_eqb k 0 (λ z. omega (arith, z, p.counted)))
end_first r f pre t (in_body want at k v h whole cs body n e p b) =
    rw (t, h)
    (sym (events_rest (pre ++ [])
    (rw (append-nil pre, e) (omega (arith, length-append whole cs, bytes_length whole b.read)))))

end_second : (r : Reader) {n : ℕ} → r.first ≡ Some n → cond (ends_in_fault r) (fault ∷ []) [] ≡ fault ∷ []
unfolding ends_in_fault
end_second r t = rw t

abbrev at_end : List ℤ → List ℕ → Option ℕ → List Event
at_end f pre o = turn_in o f [] (pre ++ [])

-- ---- a byte more, with the rest of the input in hand
module _ (xs : List ℕ) (more : Agrees xs) (c : ℕ) (pre : List ℕ) where
  by_first : (f g : List ℤ) → most_numbers ≤ length f → most_numbers ≤ length g → (ab : ReadGives) →
      Then first_tag f pre c ab →
      events_by (on_first ab.0 ab.1 g) (λ r' f' g'. from r' f' g' xs)
      ≡ events_of (onto pre (led_by c (in_lines xs))).lines (onto pre (led_by c (in_lines xs))).rest
  by_first f g hf hg (Ok (after.On l), b) (no_feed, holds, same) =
      rw (onto_other pre c (in_lines xs) no_feed)
      (more (record { first = None; line = l }) b g (pre ++ c ∷ []) (first refl holds) (omega arith) hg)
  by_first f g hf hg (Ok (after.Frame m), b) (feed, is, fits, same) =
      rw (onto_feed pre c (in_lines xs) feed, first_then_second pre (in_lines xs).lines (in_lines xs).rest is)
      (rw (onto_nothing (in_lines xs)) at
      (more (record { first = Some m; line = nothing_read }) b g []
      (second m refl fits (holds_nothing second_tag g)) (omega arith) hg))
  by_first f g hf hg (Err _, b) d = doomed first_tag events_of events_none events_rest pre c (in_lines xs) d

  by_second : (n : ℕ) (f g : List ℤ) → most_numbers ≤ length f → most_numbers ≤ length g → n ≤ length f →
      (ab : ReadGives) → Then second_tag g pre c ab →
      events_by (on_second n ab.0 f ab.1) (λ r' f' g'. from r' f' g' xs)
      ≡ events_second (take n f) (onto pre (led_by c (in_lines xs))).lines (onto pre (led_by c (in_lines xs))).rest
  by_second n f g hf hg fits (Ok (after.On l), b) (no_feed, holds, same) =
      rw (onto_other pre c (in_lines xs) no_feed)
      (more (record { first = Some n; line = l }) f b (pre ++ c ∷ [])
      (second n refl fits holds) hf (omega arith))
  by_second n f g hf hg fits (Ok (after.Frame m), b) (feed, is, within, same) =
      rw (le-leb n (length f) fits, onto_feed pre c (in_lines xs) feed, is)
      (ap (λ (es : List Event). pair (take n f) (take m b) ∷ es)
      (rw (onto_nothing (in_lines xs)) at
      (more fresh f b [] (first refl (holds_nothing first_tag f)) hf (omega arith))))
  by_second n f g hf hg fits (Err _, b) d =
      doomed second_tag (events_second (take n f)) (λ l ls r e. rw e) (λ r h. refl) pre c (in_lines xs) d

agrees : (xs : List ℕ) → Agrees xs
unfolding from steps
agrees [] r f g pre (first t holds) hf hg = end_first r f pre t holds ∙ sym (ap (at_end f pre) t)
agrees [] r f g pre (second n t fits holds) hf hg = end_second r t ∙ sym (ap (at_end f pre) t)
agrees (c ∷ xs) r f g pre (first t holds) hf hg =
    rw t (by_first xs (agrees xs) c pre f g hf hg (reads first_tag r.line f c)
    (keeps first_tag r.line f pre c holds hf))
agrees (c ∷ xs) r f g pre (second n t fits holds) hf hg =
    rw t
    (by_second xs (agrees xs) c pre n f g hf hg fits (reads second_tag r.line g c)
    (keeps second_tag r.line g pre c holds hg))

-- ---- 01 over the whole input, whatever the buffers held before
pub from_start : (f g : List ℤ) (xs : List ℕ) → most_numbers ≤ length f → most_numbers ≤ length g →
    from fresh f g xs ≡ events xs
from_start f g xs hf hg =
    rw (onto_nothing (in_lines xs)) at (agrees xs fresh f g [] (first refl (holds_nothing first_tag f)) hf hg)
