-- `search`: what is not served, and the first cells of the arrays.
use native.Mathlib.Omega.{arith}
use Rattle.limits.specs.Limits.{all_cells}
use Rattle.std.specs.Array.{IsFirstChunk}
use Rattle.std.specs.Range.{range_inclusive_start, range_inclusive_end}
use Rattle.std.proofs.lemmas.Map.Keys.{le_from_is_le}
use Rattle.cutting.proofs.Answers.{chunk_of, searches_short, served_chunks, searches_chunks}
use Rattle.cutting.proofs.search.Goals as goal

pub returns-in_err-second : goal.returns-in_err-second
returns-in_err-second c =
    searches_short c.first_chunk-2.result c.ok_or-2.result c.in_err-second.field-0.0 _
    c.from_residual-in_err-second.result c.ok_or-2.ensures.value c.in_err-second.was
    c.from_residual-in_err-second.ensures (λ z g. g) _ c.first_chunk-2.ensures.variant (λ s. s.second_cells)

pub returns-in_err-pairs : goal.returns-in_err-pairs
returns-in_err-pairs c =
    searches_short c.first_chunk_mut.result c.ok_or-3.result c.in_err-pairs.field-0.0 _
    c.from_residual-in_err-pairs.result c.ok_or-3.ensures.value c.in_err-pairs.was
    c.from_residual-in_err-pairs.ensures (λ z g. g) _ c.first_chunk_mut.ensures.variant (λ s. s.pairs_cells)

pub frame-requires : goal.frame-requires
frame-requires c =
    let n = c.args.n in
    let inside = c.if-not-contains.ensures.cases in
    served_chunks (omega (arith, le_from_is_le (range_inclusive_start c.new.result) n inside.0))
    (omega (arith, le_from_is_le n (range_inclusive_end c.new.result) inside.1))
    (chunk_of (λ y. IsFirstChunk c.args.first.now y.now all_cells) _ c.first_chunk.result c.ok_or.result
    c.in_ok-first.first c.ok_or.ensures.value c.in_ok-first.was c.first_chunk.ensures.cases)
    (chunk_of (λ y. IsFirstChunk c.args.second.now y.now all_cells) _ c.first_chunk-2.result c.ok_or-2.result
    c.in_ok-second.second c.ok_or-2.ensures.value c.in_ok-second.was c.first_chunk-2.ensures.cases)
    (chunk_of (λ y. IsFirstChunk c.args.pairs.now y.now all_cells) _ c.first_chunk_mut.result c.ok_or-3.result
    c.in_ok-pairs.pairs c.ok_or-3.ensures.value c.in_ok-pairs.was c.first_chunk_mut.ensures.cases)

pub returns : goal.returns
returns c =
    let n = c.args.n in
    let inside = c.if-not-contains.ensures.cases in
    searches_chunks (omega (arith, le_from_is_le (range_inclusive_start c.new.result) n inside.0))
    (omega (arith, le_from_is_le n (range_inclusive_end c.new.result) inside.1))
    (chunk_of (λ y. IsFirstChunk c.args.first.now y.now all_cells) _ c.first_chunk.result c.ok_or.result
    c.in_ok-first.first c.ok_or.ensures.value c.in_ok-first.was c.first_chunk.ensures.cases)
    (chunk_of (λ y. IsFirstChunk c.args.second.now y.now all_cells) _ c.first_chunk-2.result c.ok_or-2.result
    c.in_ok-second.second c.ok_or-2.ensures.value c.in_ok-second.was c.first_chunk-2.ensures.cases)
    (chunk_of (λ y. IsFirstChunk c.args.pairs.now y.now all_cells) _ c.first_chunk_mut.result c.ok_or-3.result
    c.in_ok-pairs.pairs c.ok_or-3.ensures.value c.in_ok-pairs.was c.first_chunk_mut.ensures.cases)
    c.frame.ensures
