use Rattle.line_law.specs.Law.{decide, link_of}
use Rattle.line_law.specs.States.{box_at}
use Rattle.line_law.proofs.Sides.{known_link}
use Rattle.word_laws.proofs.ReplyEnds.{link_there, reply_at}
use Rattle.word_laws.proofs.TellsKind.{kind_is_told}
use Rattle.word_laws.proofs.WordEndsLaws.{call_at_end}
use Rattle.word_laws.proofs.words.end_law.Goals as goal

pub returns-clause-act : goal.returns-clause-act
returns-clause-act c = call_at_end

pub returns-clause-reply : goal.returns-clause-reply
returns-clause-reply c = λ plan box_plan act here pair.
    reply_at (link_of box_plan act) (decide plan box_plan act here) pair (call_at_end plan box_plan act here)

pub returns-clause-neighbour : goal.returns-clause-neighbour
returns-clause-neighbour c = λ plan state b call is known on_word.
    link_there plan b call _ _ _ (kind_is_told plan state b call)
    (known_link plan b call (box_at state b) is known) on_word
