use Rattle.lives.proofs.Lives.{law_of_calls_and_detections}
use Rattle.lives.proofs.lives_follow.Goals as goal

pub returns : goal.returns
returns g c = law_of_calls_and_detections
