use Rattle.word_laws.proofs.Agreements.{met_agrees, section_agrees, trains_of}
use Rattle.word_laws.proofs.WordHistory.{met_number}
use Rattle.word_laws.proofs.words.agreement_law.Goals as goal

pub returns-clause-sections : goal.returns-clause-sections
returns-clause-sections c = section_agrees

pub returns-clause-met : goal.returns-clause-met
returns-clause-met c = met_agrees

pub returns-clause-trains : goal.returns-clause-trains
returns-clause-trains c = trains_of

pub returns-clause-number : goal.returns-clause-number
returns-clause-number c = met_number
