use Rattle.act1_farm.proofs.StoryEvents.{stories_accepted}
use Rattle.act1_farm.proofs.laws.stories_are_accepted.Goals as goal

pub returns : goal.returns
returns c = stories_accepted
