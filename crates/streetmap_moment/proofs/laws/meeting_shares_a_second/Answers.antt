use Rattle.streetmap_moment.proofs.IntervalFacts.{meets-is, meets-seconds_overlap}
use Rattle.streetmap_moment.proofs.laws.meeting_shares_a_second.Goals as goal

pub returns : goal.returns
returns c = λ a b h k m. meets-seconds_overlap a b h k ((meets-is a b).1 m)
