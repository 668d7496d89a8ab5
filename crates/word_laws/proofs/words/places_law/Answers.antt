use Rattle.word_laws.proofs.WordsInPlace.{one_place, place_within, word_within}
use Rattle.word_laws.proofs.words.places_law.Goals as goal

pub returns-clause-within : goal.returns-clause-within
returns-clause-within c = place_within

pub returns-clause-one : goal.returns-clause-one
returns-clause-one c = one_place

pub returns-clause-entry : goal.returns-clause-entry
returns-clause-entry c = word_within
