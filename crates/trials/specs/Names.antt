-- How a call is named in what is printed. To be believed.
use Rattle.std.specs.Prelude.{List, ◌++◌, ℕ, codes}
use Rattle.std.specs.Fmt.{decimal}
use Rattle.trials.specs.declared.lines.Call.{Call}
use Rattle.trials.specs.declared.lines.Call.TheVariants.{Line, Limit}

abbrev pub call_text : Call → List ℕ
call_text (Line n) = codes "line " ++ decimal n
call_text (Limit n) = codes "limits, call " ++ decimal n
