-- Points as `drawing` takes them.
use Rattle.drawing.specs.Parts.{Close}
use Rattle.marks.specs.Parts.{point}
use Rattle.marks.specs.declared.sizes.Coordinates.{Coordinates}

pub close : (p : Coordinates) → Close (point p)
close p = record { close_x = p.x_close; close_y = p.y_close }
