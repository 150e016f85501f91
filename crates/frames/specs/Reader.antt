-- The reader as an automaton: what each byte does to a reader and to the two buffers, for every reader, every byte and
-- all buffers. This is what the code's functions promise, step for step; `Whole` proves that it gives the events of
-- 01.
use Rattle.std.specs.Prelude.{is_some, Result, Ok, Err, Option, Some, None}
use Rattle.frames.specs.declared.Fault.{Fault}
use Rattle.std.specs.Prelude.{ℕ, ◌+◌, ◌-◌, ◌*◌, ◌%◌, Bool, true, cond, not, List, [], ◌∷◌, length, take, ℤ, ◌==◌, nat_le, nat_lt, slice_set}
use Rattle.std.proofs.Math.Option.{none, some, get_or}
use Rattle.std.proofs.Math.Option as Math
use Rattle.limits.specs.Limits.{most_corners}
use Rattle.frames.specs.Frames.{digit, line_feed, two's_complement, first_tag, second_tag, Event, pair, fault}
use Rattle.frames.specs.declared.Line.{Line}
use Rattle.frames.specs.declared.Line.TheVariants as line
use Rattle.frames.specs.declared.Reader.{Reader}
use Rattle.frames.specs.declared.Fed.{Fed}
use Rattle.frames.specs.declared.Fed.TheVariants as fed
use Rattle.frames.specs.declared.frame.After.{After}
use Rattle.frames.specs.declared.frame.After.TheVariants as after
use Rattle.frames.specs.declared.turn.Step.{Step}
use Rattle.frames.specs.declared.turn.Step.TheVariants as step

-- what `read`, `take` and `feed` give, with the buffers after the call
abbrev pub ReadGives : Type 0
ReadGives = Result After Fault × List ℤ

abbrev pub TakeGives : Type 0
TakeGives = Result Step Fault × List ℤ × List ℤ

abbrev pub FeedGives : Type 0
FeedGives = Result Fed Fault × List ℤ × List ℤ

-- what a character is worth as a digit; 16 is no digit
unfoldable pub worth : ℕ → ℕ
worth c = get_or (digit c) 16

-- 01's digit, as the machine's `Option`
abbrev pub found : Math.Option ℕ → Option ℕ
found none = None
found (some d) = Some d

unfoldable pub digit_value : ℕ → Option ℕ
digit_value c = found (digit c)

-- a line of another form, a frame out of turn, one that has no room: there is one fault
abbrev pub failed : {A : Type 0} → Result A Fault
failed = Err (record {})

-- ---- one line
abbrev pub nothing_read : Line
nothing_read = line.Head 0 0

-- a character that is no digit, where the buffer has so much room: the end of a whole frame, or a line of another form
unfoldable pub closes : Line → ℕ → ℕ → Result After Fault
closes (line.Head k v) c room = failed
closes (line.Body want at k v) c room =
    cond (c == line_feed)
    (cond (k == 0)
    (cond (at == want) (cond (nat_le at room) (Ok (after.Frame at)) failed) failed) failed)
    failed

-- a digit of the first two bytes after k of them, whose value is v with it: after the fourth they are the tag and the
-- count of corners
unfoldable pub begins : ℕ → ℕ → ℕ → Result After Fault
begins tag k v =
    cond (nat_lt k 3)
    (Ok (after.On (line.Head (k + 1) v)))
    (cond (nat_lt v (tag * 256)) failed
    (cond (nat_le (v - tag * 256) most_corners)
    (Ok (after.On (line.Body (2 * (v - tag * 256)) 0 0 0))) failed))

-- a digit of the numbers: after the sixth there is a number more, and it stands in the buffer
unfoldable pub goes_on : ℕ → ℕ → ℕ → List ℤ → ℕ → ReadGives
goes_on want at k buffer v =
    cond (nat_lt at want)
    (cond (nat_lt k 5)
    (Ok (after.On (line.Body want at (k + 1) v)), buffer)
    (cond (nat_lt at (length buffer))
    (Ok (after.On (line.Body want (at + 1) 0 0)), slice_set buffer at (two's_complement v))
    (failed, buffer))) (failed, buffer)

-- the value of the digits with one more, d, cut off at six digits
abbrev pub valued : ℕ → ℕ → ℕ
valued v d = v % 0x100000 * 16 + d

abbrev pub takes_digit : ℕ → Line → List ℤ → ℕ → ReadGives
takes_digit tag (line.Head k v) buffer d = (begins tag k (valued v d), buffer)
takes_digit tag (line.Body want at k v) buffer d = goes_on want at k buffer (valued v d)

unfoldable pub reads : ℕ → Line → List ℤ → ℕ → ReadGives
reads tag l buffer c =
    cond (nat_lt (worth c) 16) (takes_digit tag l buffer (worth c)) (closes l c (length buffer), buffer)

-- ---- the two lines of a pair
abbrev pub fresh : Reader
fresh = record { first = None; line = nothing_read }

abbrev pub on_first : Result After Fault → List ℤ → List ℤ → TakeGives
on_first (Ok (after.On l)) f g = (Ok (step.On (record { first = None; line = l })), f, g)
on_first (Ok (after.Frame m)) f g = (Ok (step.On (record { first = Some m; line = nothing_read })), f, g)
on_first (Err _) f g = (failed, f, g)

-- n is the count of the first drawing's numbers
abbrev pub on_second : ℕ → Result After Fault → List ℤ → List ℤ → TakeGives
on_second n (Ok (after.On l)) f g = (Ok (step.On (record { first = Some n; line = l })), f, g)
on_second n (Ok (after.Frame m)) f g = (cond (nat_le n (length f)) (Ok (step.Pair n m)) failed, f, g)
on_second n (Err _) f g = (failed, f, g)

-- the byte c: f and g are the buffers of the first and the second drawing
abbrev pub steps_in : Option ℕ → Line → List ℤ → List ℤ → ℕ → TakeGives
steps_in None l f g c = on_first (reads first_tag l f c).0 (reads first_tag l f c).1 g
steps_in (Some n) l f g c = on_second n (reads second_tag l g c).0 f (reads second_tag l g c).1

unfoldable pub steps : Reader → List ℤ → List ℤ → ℕ → TakeGives
steps r f g c = steps_in r.first r.line f g c

-- ---- a part of an input, whose first byte has the number i
abbrev pub fed_by : TakeGives → ℕ → (Reader → List ℤ → List ℤ → FeedGives) →
    FeedGives
fed_by (Ok (step.On r), f, g) i more = more r f g
fed_by (Ok (step.Pair n m), f, g) i more = (Ok (fed.Pair n m (i + 1)), f, g)
fed_by (Err _, f, g) i more = (failed, f, g)

unfoldable pub feeds : Reader → List ℤ → List ℤ → ℕ → List ℕ → FeedGives
feeds r f g i [] = (Ok (fed.More r), f, g)
feeds r f g i (c ∷ cs) = fed_by (steps r f g c) i (λ r' f' g'. feeds r' f' g' (i + 1) cs)

-- ---- the end of an input
abbrev pub inside : Line → Bool
inside (line.Head k v) = not (k == 0)
inside (line.Body want at k v) = true

unfoldable pub ends_in_fault : Reader → Bool
ends_in_fault r = cond (is_some r.first) true (inside r.line)

-- ---- what an input tells from a reader on: `fault_at_end` at its end, and else byte for byte
abbrev pub events_by : TakeGives → (Reader → List ℤ → List ℤ → List Event) → List Event
events_by (Ok (step.On r), f, g) more = more r f g
events_by (Ok (step.Pair n m), f, g) more = pair (take n f) (take m g) ∷ more fresh f g
events_by (Err _, f, g) more = fault ∷ []

unfoldable pub from : Reader → List ℤ → List ℤ → List ℕ → List Event
from r f g [] = cond (ends_in_fault r) (fault ∷ []) []
from r f g (c ∷ cs) = events_by (steps r f g c) (λ r' f' g'. from r' f' g' cs)
