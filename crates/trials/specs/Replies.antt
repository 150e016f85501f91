-- What must come back for a call, as a text has it: three numbers. Without the bytes the text cannot be read; where
-- they are there, and one of the two words before them is no number, no call gives what the text asks for. To be
-- believed.
use Rattle.std.specs.Prelude.{Option, Some, None, ℕ}
use Rattle.trials.specs.declared.reply.Reply.{Reply}

abbrev pub reply : Option ℕ → Option ℕ → Option ℕ → Option (Option Reply)
reply (Some number) (Some pieces) (Some bytes) =
    Some (Some (record { number = number; pieces = pieces; bytes = bytes }))
reply (Some number) None (Some bytes) = Some None
reply None pieces (Some bytes) = Some None
reply number pieces None = None
