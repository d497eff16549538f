use Rattle.streetmap_replay.proofs.Followers.{followers_go_on, followers_are_beginnings}
use Rattle.streetmap_replay.proofs.Followers.{followers_arrive, lines_come_in_order}
use Rattle.streetmap_replay.proofs.laws.followers_go_on.Goals as goal

pub returns-clause-go_on : goal.returns-clause-go_on
returns-clause-go_on c = followers_go_on

pub returns-clause-beginnings : goal.returns-clause-beginnings
returns-clause-beginnings c = followers_are_beginnings

pub returns-clause-arrive : goal.returns-clause-arrive
returns-clause-arrive c = followers_arrive

pub returns-clause-in_order : goal.returns-clause-in_order
returns-clause-in_order c = lines_come_in_order
