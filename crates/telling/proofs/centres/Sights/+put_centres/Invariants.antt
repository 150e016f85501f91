-- `Sights::put_centres`: what falls is how much is left.
use lib.ListN.{length}
use Rattle.telling.proofs.centres.Sights.+put_centres.Given as goal

abbrev pub decreases-put_centres : goal.decreases-put_centres
decreases-put_centres l = length l.told.now
