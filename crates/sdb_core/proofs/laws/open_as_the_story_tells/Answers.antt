use Rattle.sdb_arrivals.proofs.StandingLemmas.{open_by}
use Rattle.sdb_core.proofs.laws.open_as_the_story_tells.Goals as goal

pub returns : goal.returns
returns c = λ o t story connects conn. open_by story conn t.entries connects.fits connects.there
