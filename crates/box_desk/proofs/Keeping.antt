-- Both steps of a call keep what the desk keeps of its counts.
use Rattle.std.proofs.Common.{◌≡◌, ℕ, ◌+◌, ap, sym, subst}
use Rattle.line_plan.specs.Frames.{BoxFields}
use Rattle.line_plan.specs.Plans.{PlanFields}
use Rattle.line_law.specs.declared.call.Call.{Call}
use Rattle.line_law.specs.declared.call.Reply.{Reply}
use Rattle.line_law.specs.declared.link.Link.{Link}
use Rattle.line_law.specs.declared.state.BoxState.{BoxState}
use Rattle.line_law.specs.Decisions.{Decision, Here, OnBell, OnBlock, OnPlainLine}
use Rattle.line_law.specs.Law.{at_moment, box_plan_of, decide, link_of}
use Rattle.line_law.specs.Links.{way_of}
use Rattle.line_law.specs.Ways.{of_way}
use Rattle.box_desk.specs.declared.ask.Step.{Step}
use Rattle.box_desk.specs.declared.ask.Step.TheVariants.{Local, NeedsWord}
use Rattle.box_desk.specs.declared.ask.WordAsk.{WordAsk}
use Rattle.box_desk.specs.Boxes.{IsCounted}
use Rattle.box_desk.specs.Desks.{Answers, DeskFields, IsAsked, IsDeskOf, WordMeets, moved_to}
use Rattle.box_desk.specs.Steps.{Finishes, Prepares, WordAgrees, ask_of}
use Rattle.box_desk.proofs.Counting.{LeavesCounted}

-- the moment of a call is no count
pub moment_counts : (n m moment : ℕ) (here : BoxState) → IsCounted n m here → IsCounted n m (at_moment here moment)
moment_counts n m moment here is =
    record {
      rung = is.rung;
      sent = is.sent;
      turns = is.turns;
      taken = is.taken;
      brought = is.brought;
      stands = is.stands;
    }

-- a call that was decided in the box alone
pub local_counts : (d : Decision) (asked : WordAsk) (link : Link) (old new : BoxState) (step : Step) (reply : Reply)
    (n m : ℕ) → step ≡ Local reply → Prepares d asked old step new → LeavesCounted (n + 1) m link old d
    → IsCounted (n + 1) m new
local_counts (Here other after) asked link old new step reply n m is prepares counts =
    subst (λ (here : BoxState). IsCounted (n + 1) m here) (sym prepares.1) counts
local_counts (OnBell act) asked link old new step reply n m is prepares counts = absurd cc
local_counts (OnBlock act) asked link old new step reply n m is prepares counts = absurd cc
local_counts (OnPlainLine act) asked link old new step reply n m is prepares counts = absurd cc

-- a call that asks for a word
pub word_counts : (d : Decision) (asked asks : WordAsk) (old new : BoxState) (step : Step) (n m : ℕ)
    → step ≡ NeedsWord asks → Prepares d asked old step new → IsCounted n m old → IsCounted n m new
word_counts (Here other after) asked asks old new step n m is prepares counts = absurd cc
word_counts (OnBell act) asked asks old new step n m is prepares counts =
    subst (λ (here : BoxState). IsCounted n m here) (sym prepares.1) counts
word_counts (OnBlock act) asked asks old new step n m is prepares counts =
    subst (λ (here : BoxState). IsCounted n m here) (sym prepares.1) counts
word_counts (OnPlainLine act) asked asks old new step n m is prepares counts =
    subst (λ (here : BoxState). IsCounted n m here) (sym prepares.1) counts

-- a call that was decided on a word
pub finished_counts : (d : Decision) (link : Link) (old new : BoxState) (word : ℕ) (reply : Reply) (n m : ℕ)
    → Finishes d link old word reply new → WordAgrees d link old word → LeavesCounted n m link old d
    → IsCounted n m new
finished_counts (Here other after) link old new word reply n m told agrees counts = absurd agrees.on_word
finished_counts (OnBell act) link old new word reply n m told agrees counts =
    subst (λ (here : BoxState). IsCounted n m here)
    (told agrees.agrees.pair agrees.agrees.agrees agrees.agrees.packs).here_is
    (counts (of_way agrees.agrees.pair.bells (way_of link)) agrees.agrees.agrees)
finished_counts (OnBlock act) link old new word reply n m told agrees counts =
    subst (λ (here : BoxState). IsCounted n m here)
    (told agrees.agrees.pair agrees.agrees.agrees agrees.agrees.packs).here_is
    (counts (of_way agrees.agrees.pair.blocks (way_of link)) agrees.agrees.agrees)
finished_counts (OnPlainLine act) link old new word reply n m told agrees counts =
    subst (λ (here : BoxState). IsCounted n m here)
    (told agrees.agrees.pair agrees.agrees.agrees agrees.agrees.packs).here_is
    (counts (of_way agrees.agrees.pair.lines (way_of link)) agrees.agrees.agrees)

-- ---- what the first step answers, at the desk

word_answers : (d : Decision) (asked asks : WordAsk) (old : DeskFields) (moment : ℕ) (step : Step) (after : BoxState)
    → step ≡ NeedsWord asks → Prepares d asked (at_moment old.here moment) step after
    → Answers d asked (moved_to old moment) step (record old { here = after })
word_answers (Here reply here) asked asks old moment step after is prepares = absurd cc
word_answers (OnBell act) asked asks old moment step after is prepares =
    (prepares.0, ap (λ (h : BoxState). record old { here = h }) prepares.1)
word_answers (OnBlock act) asked asks old moment step after is prepares =
    (prepares.0, ap (λ (h : BoxState). record old { here = h }) prepares.1)
word_answers (OnPlainLine act) asked asks old moment step after is prepares =
    (prepares.0, ap (λ (h : BoxState). record old { here = h }) prepares.1)

-- a call that asks for its word leaves the desk but for the moment
pub answers_word : (plan : PlanFields) (b : ℕ) (old : DeskFields) (call : Call) (step : Step) (after : BoxState)
    (asks : WordAsk) → IsDeskOf plan b old → step ≡ NeedsWord asks
    → Prepares (decide plan old.box_plan call.act (at_moment old.here call.moment))
    (ask_of plan old.box_plan call (at_moment old.here call.moment)) (at_moment old.here call.moment) step after
    → Answers (decide plan (box_plan_of plan b) call.act (at_moment old.here call.moment))
    (ask_of plan (box_plan_of plan b) call (at_moment old.here call.moment)) (moved_to old call.moment) step
    (record old { here = after })
answers_word plan b old call step after asks is needs prepares =
    subst (λ (box_plan : BoxFields). Answers (decide plan box_plan call.act (at_moment old.here call.moment))
    (ask_of plan box_plan call (at_moment old.here call.moment)) (moved_to old call.moment) step
    (record old { here = after })) is.box_plan
    (word_answers (decide plan old.box_plan call.act (at_moment old.here call.moment)) _ asks old call.moment step after
    needs prepares)

-- a word that is asked for and met agrees with the desk's box, by the desk's plan of the box
pub asked_agrees : (plan : PlanFields) (b : ℕ) (desk : DeskFields) (ask : WordAsk) (word : ℕ)
    → IsAsked plan b desk ask → WordMeets plan b desk ask word
    → WordAgrees (decide plan desk.box_plan ask.call.act desk.here) (link_of desk.box_plan ask.call.act) desk.here word
asked_agrees plan b desk ask word asked meets =
    subst (λ (box_plan : BoxFields). WordAgrees (decide plan box_plan ask.call.act desk.here)
    (link_of box_plan ask.call.act) desk.here word) (sym asked.desk_of.box_plan)
    (record { on_word = asked.on_word; agrees = meets })
