-- Each call is at its end of its word.
use Rattle.std.proofs.Common.{◌≡◌, sym, ap, subst}
use Rattle.line_plan.specs.Frames.{BoxFields, signal_of}
use Rattle.line_plan.specs.Plans.{PlanFields}
use Rattle.line_law.specs.declared.call.Act.{Act}
use Rattle.line_law.specs.declared.call.Reply.{Reply}
use Rattle.line_law.specs.declared.link.Link.{Link}
use Rattle.line_law.specs.declared.link.Link.TheVariants.{Out, In}
use Rattle.line_law.specs.declared.state.BoxState.{BoxState}
use Rattle.line_law.specs.Decisions.{Decision, Here, OnBlock, OnPlainLine}
use Rattle.word_laws.specs.Footprint.{Tally}
use Rattle.line_law.specs.Law.{decide, link_of}
use Rattle.line_law.specs.Levers.{pulled, pulled_under, starter_link}
use Rattle.line_law.specs.Outcomes.{Outcome, Refused, Rings, Hears, AwaitsBell, Turns, AwaitsBlock, Pulls, PullsStarter}
use Rattle.line_law.specs.Outcomes.{GoesTo, GoesAway, Enters, AwaitsTrain, Berths, Parts, Clears}
use Rattle.word_laws.specs.TellsWord.{kind_told}
use Rattle.line_law.specs.Trains.{enter, left_by}
use Rattle.word_laws.specs.WordEnds.{AtEnd, RingsIt, HearsIt, AwaitsIt, PullsUnder, LooksAt, TurnsIt, Sends, LooksOut}
use Rattle.word_laws.specs.WordEnds.{Takes, TakesPart, ClearsAway}
use Rattle.line_law.proofs.Outcomes.{outcome_of}
use Rattle.word_laws.proofs.TellsCount.{moved_link}
use Rattle.word_laws.proofs.TellsKind.{TellsKind, decision_tells}

-- what is decided in the box alone is at any line
in_box : (link : Link) (reply : Reply) (here : BoxState) → kind_told reply ≡ Tally → AtEnd link (Here reply here)
in_box (Out way) reply here h = h
in_box (In way) reply here h = h

at_end : (plan : PlanFields) (box_plan : BoxFields) (act : Act) (here : BoxState) (d : Decision)
    → Outcome plan box_plan here act d → TellsKind d → AtEnd (link_of box_plan act) d
at_end plan box_plan act here d (Refused a reply refused) h = in_box (link_of box_plan a) reply here h
at_end plan box_plan act here d (Rings side code) h = RingsIt here code
at_end plan box_plan act here d (Hears side) h = HearsIt here
at_end plan box_plan act here d (AwaitsBell side code) h = AwaitsIt here code
at_end plan box_plan act here d (Turns way p b e free) h = TurnsIt here p
at_end plan box_plan act here d (AwaitsBlock way p) h = LooksAt here p
at_end plan box_plan act here d (Pulls lever e free) h = in_box (starter_link _) _ _ h
at_end plan box_plan act here d (PullsStarter lever way e free) h =
    subst (λ (l : Link). AtEnd l (OnBlock (pulled_under here (pulled here lever (signal_of box_plan lever)) way)))
    (sym (ap starter_link e)) (PullsUnder here (pulled here lever (signal_of box_plan lever)))
at_end plan box_plan act here d (GoesTo a lever signal train place e to there moves) h =
    in_box (link_of box_plan a) _ _ h
at_end plan box_plan act here d (GoesAway a lever signal train e to there moves) h = in_box (link_of box_plan a) _ _ h
at_end plan box_plan act here d (Enters a lever signal train way e to there moves) h =
    subst (λ (l : Link). AtEnd l (OnPlainLine (enter here (left_by box_plan here signal) way train)))
    (sym (moved_link box_plan here a lever signal way e to moves)) (Sends here (left_by box_plan here signal) train)
at_end plan box_plan act here d (AwaitsTrain way) h = LooksOut here
at_end plan box_plan act here d (Berths way b e free) h = Takes here b.place
at_end plan box_plan act here d (Parts way b e free) h = TakesPart here b.place
at_end plan box_plan act here d (Clears way free) h = ClearsAway here
at_end plan box_plan act here d out h = h

-- each call is at its end of its word, or decided in its box alone with a reply that tells so
pub call_at_end : (plan : PlanFields) (box_plan : BoxFields) (act : Act) (here : BoxState)
    → AtEnd (link_of box_plan act) (decide plan box_plan act here)
call_at_end plan box_plan act here =
    at_end plan box_plan act here (decide plan box_plan act here) (outcome_of plan box_plan act here)
    (decision_tells plan box_plan act here)
