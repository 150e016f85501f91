-- What a chunk of an input does to a session and to the two buffers, and the events that it tells: for every session,
-- every chunk and all buffers. A session that no run has made is read as it stands.
use Rattle.frames.specs.Reader.{TakeGives, FeedGives}
use Rattle.std.specs.Prelude.{Option, Some, None}
use Rattle.std.specs.Prelude.{Result, Ok, Err}
use Rattle.frames.specs.declared.Fault.{Fault}
use Rattle.frames.specs.Reader.{failed}
use Rattle.std.specs.Prelude.{◌≡◌, cond, ℕ, ◌+◌, ℤ, take, drop}
use Rattle.std.proofs.Math.Path.{refl, ap}
use Rattle.std.proofs.Common.{◌∙◌}
use mathlib.Core.List.{List, [], ◌∷◌, ◌++◌}
use Rattle.std.proofs.Math.Seq.{drop-drop}
use Rattle.frames.specs.Frames.{Event, pair, fault}
use Rattle.frames.specs.Reader.{fresh, steps, fed_by, feeds, events_by, from, ends_in_fault}
use Rattle.frames.specs.declared.Reader.{Reader}
use Rattle.frames.specs.declared.Fed.{Fed}
use Rattle.frames.specs.declared.Fed.TheVariants as fed
use Rattle.frames.specs.declared.turn.Step.TheVariants as step

-- a run between two chunks: the reader, or none after EF or after the end of the input
abbrev pub Session : Type 0
Session = Option Reader

-- the events told, and what is there afterwards
pub record Gone : Type 0 where
  pub events : List Event
  pub session : Session
  pub first : List ℤ
  pub second : List ℤ

abbrev pub with_events : List Event → Gone → Gone
with_events es g = record { events = es ++ g.events; session = g.session; first = g.first; second = g.second }

-- ---- from a reader on, byte for byte
abbrev pub gone_by : TakeGives → (Reader → List ℤ → List ℤ → Gone) → Gone
gone_by (Ok (step.On r), f, g) more = more r f g
gone_by (Ok (step.Pair n m), f, g) more = with_events (pair (take n f) (take m g) ∷ []) (more fresh f g)
gone_by (Err _, f, g) more = record { events = fault ∷ []; session = None; first = f; second = g }

unfoldable pub reads : Reader → List ℤ → List ℤ → List ℕ → Gone
reads r f g [] = record { events = []; session = Some r; first = f; second = g }
reads r f g (c ∷ cs) = gone_by (steps r f g c) (λ r' f' g'. reads r' f' g' cs)

-- ---- from a session on
abbrev pub goes : Session → List ℤ → List ℤ → List ℕ → Gone
goes (Some r) f g chunk = reads r f g chunk
goes None f g chunk = record { events = []; session = None; first = f; second = g }

-- the end of the input
abbrev pub at_end : Session → List Event
at_end (Some r) = cond (ends_in_fault r) (fault ∷ []) []
at_end None = []

-- ---- what the whole rest of an input tells
abbrev pub events_from : Session → List ℤ → List ℤ → List ℕ → List Event
events_from (Some r) f g input = from r f g input
events_from None f g input = []

-- and what it tells after a chunk
abbrev pub events_after : Gone → List ℕ → List Event
events_after g more = events_from g.session g.first g.second more

-- a chunk tells its own events, and the rest of the input goes on from there
module _ (more : List ℕ) where
  abbrev onward : Gone → List Event
  onward g = g.events ++ events_after g more

  step_events : (cs : List ℕ) → ((r : Reader) (f g : List ℤ) → from r f g (cs ++ more) ≡ onward (reads r f g cs)) →
      (s : TakeGives) →
      events_by s (λ r f g. from r f g (cs ++ more)) ≡ onward (gone_by s (λ r f g. reads r f g cs))
  step_events cs again (Ok (step.On r), f, g) = again r f g
  step_events cs again (Ok (step.Pair n m), f, g) =
      ap (λ (es : List Event). pair (take n f) (take m g) ∷ es) (again fresh f g)
  step_events cs again (Err _, f, g) = refl

  reads_events : (chunk : List ℕ) (r : Reader) (f g : List ℤ) → from r f g (chunk ++ more) ≡ onward (reads r f g chunk)
  unfolding from reads
  reads_events [] r f g = refl
  reads_events (c ∷ cs) r f g = step_events cs (reads_events cs) (steps r f g c)

  pub chunk_events : (s : Session) (f g : List ℤ) (chunk : List ℕ) →
      events_from s f g (chunk ++ more) ≡ (goes s f g chunk).events ++ events_after (goes s f g chunk) more
  chunk_events (Some r) f g chunk = reads_events chunk r f g
  chunk_events None f g chunk = refl

pub end_events : (s : Session) (f g : List ℤ) → events_from s f g [] ≡ at_end s
unfolding from
end_events (Some r) f g = refl
end_events None f g = refl

-- ---- what `feed` reports of a chunk from byte i on, as a part of what the chunk does
abbrev reported : FeedGives → List ℕ → Gone
reported (Ok (fed.More r), f, g) chunk = record { events = []; session = Some r; first = f; second = g }
reported (Ok (fed.Pair n m next), f, g) chunk =
    with_events (pair (take n f) (take m g) ∷ []) (reads fresh f g (drop next chunk))
reported (Err _, f, g) chunk = record { events = fault ∷ []; session = None; first = f; second = g }

module _ (chunk : List ℕ) where
  step_reported : (cs : List ℕ) (i : ℕ) → cs ≡ drop (i + 1) chunk →
      ((r : Reader) (f g : List ℤ) → reads r f g cs ≡ reported (feeds r f g (i + 1) cs) chunk) →
      (s : TakeGives) →
      gone_by s (λ r f g. reads r f g cs) ≡ reported (fed_by s i (λ r f g. feeds r f g (i + 1) cs)) chunk
  step_reported cs i e again (Ok (step.On r), f, g) = again r f g
  step_reported cs i e again (Ok (step.Pair n m), f, g) = rw (← e)
  step_reported cs i e again (Err _, f, g) = refl

  feed_reads : (xs : List ℕ) (r : Reader) (f g : List ℤ) (i : ℕ) → xs ≡ drop i chunk →
      reads r f g xs ≡ reported (feeds r f g i xs) chunk
  unfolding reads feeds
  feed_reads [] r f g i e = refl
  feed_reads (c ∷ cs) r f g i e =
      let after = ap (drop 1) e ∙ drop-drop 1 i chunk in
      step_reported cs i after (λ r' f' g'. feed_reads cs r' f' g' (i + 1) after) (steps r f g c)

module _ (r : Reader) (f g : List ℤ) (chunk : List ℕ) (i : ℕ) {x : Result Fed Fault} {f' g' : List ℤ}
    (q : ◌≡◌ {A = FeedGives} (x, f', g') (feeds r f g i (drop i chunk))) where
  pub reads_more : {r' : Reader} → x ≡ Ok (fed.More r') →
      reads r f g (drop i chunk) ≡ record { events = []; session = Some r'; first = f'; second = g' }
  reads_more e = rw (feed_reads chunk (drop i chunk) r f g i refl, ← q, e)

  pub reads_pair : {n m next : ℕ} → x ≡ Ok (fed.Pair n m next) →
      reads r f g (drop i chunk) ≡ with_events (pair (take n f') (take m g') ∷ [])
      (reads fresh f' g' (drop next chunk))
  reads_pair e = rw (feed_reads chunk (drop i chunk) r f g i refl, ← q, e)

  pub reads_fault : x ≡ failed →
      reads r f g (drop i chunk) ≡ record { events = fault ∷ []; session = None; first = f'; second = g' }
  reads_fault e = rw (feed_reads chunk (drop i chunk) r f g i refl, ← q, e)
