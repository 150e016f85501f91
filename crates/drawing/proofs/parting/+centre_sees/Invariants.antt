-- What falls is the square of the segment's length.
use Rattle.outline.specs.Third.{long}
use Rattle.drawing.proofs.parting.+centre_sees.Given as goal

abbrev pub decreases-centre_sees : goal.decreases-centre_sees
decreases-centre_sees l = long l.ring.xy.now l.i l.j
