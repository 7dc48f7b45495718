use Rattle.interval.specs.LentPlaces.{zero_words}
use Rattle.interval.proofs.clear.Goals as goal

pub returns : goal.returns
unfolding zero_words
returns c = c.fill.ensures.after (λ y e. e)
