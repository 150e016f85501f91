-- The next character of a line does what `Holds` says: one more character is held, a frame ends, or the line is none.
use Rattle.std.specs.Prelude.{◌≡◌, ℕ, ◌+◌, ◌-◌, ◌*◌, ◌<◌, ◌≤◌, List, [], ◌∷◌, ◌++◌, length, ℤ, ◌≢◌, slice_set, refl}
use Rattle.std.proofs.Common.{sym, ◌∙◌, ap, append_assoc, append-nil, inl, inr, add-one, arith, length-append, length-set, take-suc-set}
use Rattle.std.proofs.Math.Option.{none}
use Rattle.std.proofs.Math.Decide.{ℕ_discrete, dec_lt}
use Rattle.std.proofs.Math.Seq.{append_snoc}
use Rattle.limits.specs.Limits.{most_corners, most_numbers}
use Rattle.frames.specs.Frames.{line_feed, two's_complement, frame}
use Rattle.frames.specs.Reader.{worth, closes, begins, reads, valued}
use Rattle.frames.specs.Reading.{closes_other, closes_head, closes_part, closes_early, closes_frame}
use Rattle.frames.specs.Reading.{begins_more, begins_below, begins_many, begins_body}
use Rattle.frames.specs.Reading.{reads_close, reads_head, reads_over, reads_digit, reads_number}
use Rattle.frames.specs.Bytes.{digit_none, bytes_bad, bytes_append, bytes_length, numbers_append}
use Rattle.frames.specs.Bytes.{frame_short, frame_head, frame_length, frame_whole}
use Rattle.frames.specs.Digits.{value_on, digits_more, value_more, value_small, Head, head, Number, six}
use Rattle.frames.specs.Holds.{Part, Body, Holds, in_head, in_body, Doomed, Then}
use Rattle.frames.specs.declared.Line.{Line}
use Rattle.frames.specs.declared.Line.TheVariants as line

no_feed : (c : ℕ) → worth c < 16 → c ≢ line_feed
unfolding worth
no_feed c h e = let k : worth 10 < 16 = rw e at h in omega arith

nothing_left : (cs : List ℕ) → length cs ≡ 0 → cs ≡ []
nothing_left [] e = refl
nothing_left (c ∷ cs) e = absurd (omega arith)

module _ (tag : ℕ) (buffer : List ℤ) (pre : List ℕ) (c : ℕ) where
  -- ---- a character that is no digit
  module _ (out : 16 ≤ worth c) where
    other : (c ≢ line_feed) → Doomed tag pre c
    other h = inr (h, λ more. rw (bytes_bad pre c more (digit_none c out)))

    ends_head : (k v : ℕ) → length pre < 4 → Dec (c ≡ line_feed) →
        Then tag buffer pre c (closes (line.Head k v) c (length buffer), buffer)
    ends_head k v short (yes f) = rw (← closes_head k v c (length buffer)) (inl (f, frame_short tag pre short))
    ends_head k v short (no n) = rw (← closes_head k v c (length buffer)) (other n)

    module _ (want at k v : ℕ) (whole cs body : List ℕ) (n : ℕ) (e : pre ≡ whole ++ cs) (p : Part k v cs)
        (b : Body tag want at buffer whole cs body n) (large : most_numbers ≤ length buffer) where
      -- the line ends where it should not
      early : (length (whole ++ cs) ≢ 4 + 12 * n) → c ≡ line_feed → Doomed tag pre c
      early q f = inl (f, rw e (frame_length tag tag n whole body cs b.read q))

      ends_body : Dec (c ≡ line_feed) → Dec (k ≡ 0) → Dec (at ≡ want) →
          Then tag buffer pre c (closes (line.Body want at k v) c (length buffer), buffer)
      ends_body (no q) dp dw = rw (← closes_other want at k v c (length buffer) q) (other q)
      ends_body (yes f) (no q) dw =
          rw (← closes_part want at k v c (length buffer) f q)
          (early (λ m. omega (arith, m, q, length-append whole cs, bytes_length whole b.read)) f)
      ends_body (yes f) (yes z) (no q) =
          rw (← closes_early want at k v c (length buffer) f z q)
          (early (λ m. omega (arith, m, q, length-append whole cs, bytes_length whole b.read)) f)
      ends_body (yes f) (yes z) (yes w) =
          let fits : at ≤ length buffer = omega arith in
          let none_left : cs ≡ [] = nothing_left cs (omega arith) in
          rw (← closes_frame want at k v c (length buffer) f z w fits) (
            f,
            rw (e, none_left, append-nil whole, b.kept)
                (frame_whole tag n whole body b.read b.few (omega arith)),
            fits,
            refl,
          )

  -- ---- a digit
  module _ (fine : worth c < 16) where
    -- the value of the digits, with this one
    value_next : {k v : ℕ} {cs : List ℕ} → Part k v cs → length cs < 6 →
        valued v (worth c) ≡ value_on 0 (cs ++ c ∷ [])
    value_next {k} {v} {cs} p short = omega (arith, value_small cs short p.digits, value_more 0 cs c)

    one_more : {k v : ℕ} {cs : List ℕ} → Part k v cs → length cs < 6 →
        Part (k + 1) (valued v (worth c)) (cs ++ c ∷ [])
    one_more {k} {v} {cs} p short =
        record {
          digits = digits_more cs c p.digits fine;
          counted = omega (arith, length-append cs (c ∷ []), p.counted);
          worth_of = value_next p short;
        }

    nothing_more : Part 0 0 []
    nothing_more = record { digits = tt; counted = refl; worth_of = refl }

    -- a line that begins so is none, whatever follows
    never : ((more : List ℕ) → frame tag ((pre ++ c ∷ []) ++ more) ≡ none) → Doomed tag pre c
    never h = inr (no_feed c fine, λ more. rw (← append_snoc pre c more) (h more))

    head_digit : (k u : ℕ) → length pre < 4 → Part k u pre → Dec (length pre < 3) →
        (v : ℕ) → v ≡ valued u (worth c) →
        Dec (v < tag * 256) → Dec (most_corners < v - tag * 256) → Then tag buffer pre c (begins tag k v, buffer)
    head_digit k u short p (yes q) v e d₁ d₂ =
        rw (← begins_more tag k v (omega (arith, p.counted))) (
          no_feed c fine,
          in_head (k + 1) v refl (omega (arith, length-append pre (c ∷ [])))
              (rw e (one_more p (omega arith))),
          refl,
        )
    head_digit k u short p (no q) v e d₁ d₂ =
        go
        (head (pre ++ c ∷ []) (omega (arith, length-append pre (c ∷ []))) (digits_more pre c p.digits fine)) d₁ d₂
      where
        go : Head (pre ++ c ∷ []) → Dec (v < tag * 256) → Dec (most_corners < v - tag * 256) →
            Then tag buffer pre c (begins tag k v, buffer)
        go two (yes low) d =
            rw (← begins_below tag k v (omega (arith, p.counted)) low)
            (never (λ more. frame_head tag two.tag two.count (pre ++ c ∷ []) [] more two.read
            (λ t few. omega (arith, value_next p (omega arith), two.valued))))
        go two (no low) (yes many) =
            rw (← begins_many tag k v (omega (arith, p.counted)) (omega arith) many)
            (never (λ more. frame_head tag two.tag two.count (pre ++ c ∷ []) [] more two.read
            (λ t few. omega (arith, value_next p (omega arith), two.valued))))
        go two (no low) (no many) =
            let same_tag : two.tag ≡ tag = omega (arith, value_next p (omega arith), two.valued, two.byte) in
            let count : two.count ≡ v - tag * 256 =
            omega (arith, value_next p (omega arith), two.valued, two.byte) in
            rw (← begins_body tag k v (omega (arith, p.counted)) (omega arith) (omega arith)) (
              no_feed c fine,
              in_body (2 * (v - tag * 256)) 0 0 0 refl (pre ++ c ∷ []) [] [] (v - tag * 256)
                  (sym (append-nil (pre ++ c ∷ []))) nothing_more
                  (record {
                    read = two.read ∙ rw (same_tag, count);
                    few = omega arith;
                    wanted = refl;
                    so_far = refl;
                    kept = refl;
                    short = omega arith;
                    room = omega arith;
                    begun = λ z. omega arith;
                  }),
              refl,
            )

    module _ (want at k v : ℕ) (whole cs body : List ℕ) (n : ℕ) (e : pre ≡ whole ++ cs) (p : Part k v cs)
        (b : Body tag want at buffer whole cs body n) (large : most_numbers ≤ length buffer) where
      longer : pre ++ c ∷ [] ≡ whole ++ (cs ++ c ∷ [])
      longer = ap (λ (x : List ℕ). x ++ c ∷ []) e ∙ append_assoc whole cs (c ∷ [])

      -- a digit too many
      too_long : want ≤ at → Doomed tag pre c
      too_long over = never (λ more. rw (longer, append_assoc whole (cs ++ c ∷ []) more)
          (frame_length tag tag n whole body ((cs ++ c ∷ []) ++ more) b.read
          (λ m. omega (
            arith,
            m,
            length-append whole ((cs ++ c ∷ []) ++ more),
            length-append (cs ++ c ∷ []) more,
            length-append cs (c ∷ []),
            bytes_length whole b.read,
          ))))

      -- the sixth digit
      sixth : at < want → 5 ≤ k → Number (cs ++ c ∷ []) →
          Holds tag (line.Body want (at + 1) 0 0)
          (slice_set buffer at (two's_complement (valued v (worth c)))) (pre ++ c ∷ [])
      sixth q five m =
          in_body want (at + 1) 0 0 refl (whole ++ (cs ++ c ∷ [])) [] (body ++ m.x ∷ m.y ∷ m.z ∷ []) n
          (longer ∙ sym (append-nil (whole ++ (cs ++ c ∷ [])))) nothing_more
          (record {
            read = rw (bytes_append whole (cs ++ c ∷ []) b.read, m.read);
            few = b.few;
            wanted = b.wanted;
            so_far = omega (arith, length-append body (m.x ∷ m.y ∷ m.z ∷ []), b.so_far);
            kept =
                rw (
                  add-one at,
                  take-suc-set buffer at (two's_complement (valued v (worth c))) (omega arith),
                  value_next p b.short,
                  ← m.valued,
                  b.kept,
                )
                (sym (numbers_append at body (m.x ∷ m.y ∷ m.z ∷ []) b.so_far));
            short = omega arith;
            room = omega arith;
            begun = λ z. omega arith;
          })

      body_digit : Dec (at < want) → Dec (k < 5) → Then tag buffer pre c (reads tag (line.Body want at k v) buffer c)
      body_digit (no over) d =
          rw (← reads_over tag buffer c (worth c) refl fine want at k v (omega arith)) (too_long (omega arith))
      body_digit (yes q) (yes five) =
          rw (← reads_digit tag buffer c (worth c) refl fine want at k v q five) (
            no_feed c fine,
            in_body want at (k + 1) (valued v (worth c)) refl whole (cs ++ c ∷ []) body n longer
                (one_more p b.short)
                (record {
                  read = b.read;
                  few = b.few;
                  wanted = b.wanted;
                  so_far = b.so_far;
                  kept = b.kept;
                  short = omega (arith, length-append cs (c ∷ []), p.counted);
                  room = b.room;
                  begun = λ z. q;
                }),
            refl,
          )
      body_digit (yes q) (no five) =
          let digits_six : length (cs ++ c ∷ []) ≡ 6 =
          omega (arith, length-append cs (c ∷ []), p.counted, b.short) in
          rw (← reads_number tag buffer c (worth c) refl fine want at k v q (omega arith)
          (omega (arith, b.few, b.wanted)) refl) (
            no_feed c fine,
            sixth q (omega arith) (six (cs ++ c ∷ []) digits_six (digits_more cs c p.digits fine)),
            length-set buffer at (two's_complement (valued v (worth c))),
          )

  -- ---- any character
  keeps_head : (k v : ℕ) → length pre < 4 → Part k v pre → Dec (worth c < 16) →
      Then tag buffer pre c (reads tag (line.Head k v) buffer c)
  keeps_head k v short p (yes fine) =
      rw (← reads_head tag buffer c (worth c) refl fine k v refl)
      (head_digit fine k v short p (dec_lt (length pre) 3) (valued v (worth c)) refl
      (dec_lt (valued v (worth c)) (tag * 256))
      (dec_lt most_corners (valued v (worth c) - tag * 256)))
  keeps_head k v short p (no out) =
      rw (← reads_close tag buffer c (worth c) refl (line.Head k v) (omega arith) refl)
      (ends_head (omega arith) k v short (ℕ_discrete c line_feed))

  keeps_body : (want at k v : ℕ) (whole cs body : List ℕ) (n : ℕ) → pre ≡ whole ++ cs → Part k v cs →
      Body tag want at buffer whole cs body n → most_numbers ≤ length buffer → Dec (worth c < 16) →
      Then tag buffer pre c (reads tag (line.Body want at k v) buffer c)
  keeps_body want at k v whole cs body n e p b large (yes fine) =
      body_digit fine want at k v whole cs body n e p b large (dec_lt at want) (dec_lt k 5)
  keeps_body want at k v whole cs body n e p b large (no out) =
      rw (← reads_close tag buffer c (worth c) refl (line.Body want at k v) (omega arith) refl)
      (ends_body (omega arith) want at k v whole cs body n e p b large (ℕ_discrete c line_feed) (ℕ_discrete k 0)
      (ℕ_discrete at want))

pub keeps : (tag : ℕ) (l : Line) (buffer : List ℤ) (pre : List ℕ) (c : ℕ) → Holds tag l buffer pre →
    most_numbers ≤ length buffer →
    Then tag buffer pre c (reads tag l buffer c)
keeps tag l buffer pre c (in_head k v h short p) large =
    rw h (keeps_head tag buffer pre c k v short p (dec_lt (worth c) 16))
keeps tag l buffer pre c (in_body want at k v h whole cs body n e p b) large =
    rw h (keeps_body tag buffer pre c want at k v whole cs body n e p b large (dec_lt (worth c) 16))
