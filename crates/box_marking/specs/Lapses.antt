-- What an instructor marks an entry for, by what was done and what the pages of its box tell before it; and what makes
-- such a thing good.
use Rattle.std.specs.Prelude.{ℕ, ◌-◌, ◌==◌, Bool, true, false, not, ◌&&◌, ◌||◌, List, [], ◌∷◌, Option, Some, None}
use Rattle.std.specs.Prelude.{if◌then◌else◌, nat_lt, option_map, slice_get}
use Rattle.block_words.specs.Ways.{opposite}
use Rattle.block_words.specs.declared.Position.{Position}
use Rattle.block_words.specs.declared.Position.TheVariants as shows
use Rattle.block_words.specs.declared.Way.{Way}
use Rattle.line_plan.specs.Plans.{PlanFields, is_train, train_at}
use Rattle.line_law.specs.declared.call.Act.TheVariants as acts
use Rattle.line_law.specs.declared.call.Call.{Call}
use Rattle.line_law.specs.declared.call.Entry.{Entry}
use Rattle.line_law.specs.declared.ways.ByWay.{ByWay}
use Rattle.line_law.specs.Instruments.{same_position}
use Rattle.line_law.specs.Known.{knows_berth}
use Rattle.line_law.specs.Law.{step}
use Rattle.line_law.specs.Refusals.{is_refused}
use Rattle.line_law.specs.States.{LineState}
use Rattle.line_law.specs.Ways.{of_way}
use Rattle.reg_audit.specs.declared.bell.BellEntry.{BellEntry}
use Rattle.reg_audit.specs.declared.bell.BellKind.TheVariants as kinds
use Rattle.reg_audit.specs.Bells.{call_attention, is_class_code}
use Rattle.reg_audit.specs.Marks.{same_kind}
use Rattle.box_marking.specs.declared.bell.LastBell.{LastBell}
use Rattle.box_marking.specs.declared.bell.Role.{Role}
use Rattle.box_marking.specs.declared.bell.Role.TheVariants as roles
use Rattle.box_marking.specs.declared.clock.Timed.{Timed}
use Rattle.box_marking.specs.declared.doing.Doing.{Doing}
use Rattle.box_marking.specs.declared.doing.Doing.TheVariants as doings
use Rattle.box_marking.specs.declared.lapse.Lapse.{Lapse}
use Rattle.box_marking.specs.declared.lapse.Lapse.TheVariants as lapses
use Rattle.box_marking.specs.declared.page.Offer.{Offer}
use Rattle.box_marking.specs.declared.page.PassedSignal.{PassedSignal}
use Rattle.box_marking.specs.declared.page.SidePage.{SidePage}
use Rattle.box_marking.specs.Bells.{role_of}
use Rattle.box_marking.specs.Pages.{leaves_on}

-- a lapse that is only marked where no later entry makes it good
abbrev pub is_duty : Lapse → Bool
is_duty (lapses.Unacknowledged code) = true
is_duty (lapses.Misrepeated offered repeated by) = false
is_duty (lapses.Misdescribed offered train by) = false
is_duty (lapses.LeftOff lever) = true
is_duty (lapses.LeftOn shown) = true
is_duty (lapses.BeforeCause cause) = false
is_duty (lapses.Late since) = false

-- a code has to be rung back
abbrev pub is_asked : Role → Bool
is_asked roles.Offer = false
is_asked roles.Asked = true
is_asked roles.Answer = false
is_asked roles.Other = false

-- ---- refused by silence

-- Call Attention, or an offer
abbrev pub asks_for_line : PlanFields → ℕ → Bool
asks_for_line plan code = (code == call_attention) || is_class_code plan code

-- the call by which Line Clear would be given on an incoming line
abbrev pub clear_call : ℕ → Way → Call
clear_call moment way = record { moment = moment; act = acts.Turn way shows.LineClear }

-- the box of an entry has a commutator for the line, and the law would refuse Line Clear at the entry's moment
unfoldable pub is_shut : PlanFields → LineState → Entry → Way → Bool
is_shut plan state e way =
    knows_berth plan e.box_no way && is_refused (step plan state e.box_no (clear_call e.call.moment way)).reply

-- what was heard asks for a line on which the law would refuse Line Clear then
abbrev pub is_held : PlanFields → LineState → Entry → Doing → Bool
is_held plan state e (doings.Bell side bell) = asks_for_line plan bell.code && is_shut plan state e (opposite side)
is_held plan state e doing = false

-- ---- bells

-- misrepeated: another code is rung back than the one last heard
abbrev pub misrepeated : Option LastBell → BellEntry → Option Lapse
misrepeated None bell = None
misrepeated (Some last) bell =
    if same_kind bell.kind kinds.Rung && not (last.bell.code == bell.code)
    then Some (lapses.Misrepeated last.bell.code bell.code last.entry)
    else None

-- Unacknowledged: a code is heard that has to be rung back, and it doesn't ask for a line that is held. Misrepeated: an
-- answer isn't the code that it answers. Left on: Train Out of Section is rung, and the commutator isn't at Normal.
abbrev pub role_lapse : Bool → BellEntry → SidePage → Role → Option Lapse
role_lapse held bell page roles.Offer = None
role_lapse held bell page roles.Asked = if held then None else Some (lapses.Unacknowledged bell.code)
role_lapse held bell page roles.Answer = misrepeated page.last bell
role_lapse held bell page roles.Other = if leaves_on bell page.shown then Some (lapses.LeftOn page.shown) else None

abbrev pub bell_lapse : PlanFields → Bool → BellEntry → SidePage → Option Lapse
bell_lapse plan held bell page = role_lapse held bell page (role_of plan page.last bell)

-- ---- trains and the commutator

-- the code by which trains of a train's class are offered
abbrev pub class_code_of : PlanFields → ℕ → Option ℕ
class_code_of plan train =
    if is_train plan.trains train
    then option_map (λ class. class.code) (slice_get plan.classes (train_at plan.trains train).class_no)
    else None

-- misdescribed: the train goes under an offer with another code than its class's
abbrev pub misdescribed : Option ℕ → Option Offer → ℕ → Option Lapse
misdescribed (Some code) (Some offer) train =
    if offer.code == code then None else Some (lapses.Misdescribed offer.code train offer.entry)
misdescribed code under train = None

-- left on: Line Clear is given, and no train was offered since it last was
abbrev pub turn_lapse : Position → SidePage → Option Lapse
turn_lapse position page =
    if same_position position shows.LineClear && not page.offered then Some (lapses.LeftOn position) else None

-- what an entry is marked for, beside that a signal is left off
abbrev pub lapse_of : PlanFields → Bool → Doing → ByWay SidePage → Option Lapse
lapse_of plan held (doings.Bell side bell) pages = bell_lapse plan held bell (of_way pages side)
lapse_of plan held (doings.Turned way position) pages = turn_lapse position (of_way pages (opposite way))
lapse_of plan held (doings.PassedStarter way lever train number) pages =
    misdescribed (class_code_of plan train) (of_way pages way).under train
lapse_of plan held doing pages = None

-- left off: a train passes a starter or a home, whose lever has to be put back
abbrev pub left_off : Doing → Option Lapse
left_off (doings.PassedStarter way lever train number) = Some (lapses.LeftOff lever)
left_off (doings.PassedHome way lever) = Some (lapses.LeftOff lever)
left_off doing = None

-- ---- moments

-- before its cause: the moment lies before that of the entry which made it possible
abbrev pub before_cause : Timed → Option Timed → Option Lapse
before_cause now None = None
before_cause now (Some cause) =
    if nat_lt now.moment cause.moment then Some (lapses.BeforeCause cause.entry) else None

-- late: an entry comes later than it may behind another
abbrev pub later_than : Option ℕ → Timed → Option Timed → Option Lapse
later_than (Some within) now (Some since) =
    if nat_lt within (now.moment - since.moment) then Some (lapses.Late since.entry) else None
later_than within now since = None

-- the entry of the neighbour that rang the last code, where that has to be rung back and this one rings it back,
-- rightly or wrongly
abbrev pub cause_of_last : Option LastBell → BellEntry → Option Timed
cause_of_last None bell = None
cause_of_last (Some last) bell = if same_kind bell.kind kinds.Rung && is_asked last.role then last.cause else None

abbrev pub role_rung_back : BellEntry → SidePage → Role → Option Timed
role_rung_back bell page roles.Offer = None
role_rung_back bell page roles.Asked = None
role_rung_back bell page roles.Answer = cause_of_last page.last bell
role_rung_back bell page roles.Other = None

abbrev pub rung_back : PlanFields → BellEntry → SidePage → Option Timed
rung_back plan bell page = role_rung_back bell page (role_of plan page.last bell)

-- the entry of the neighbour that offered the train to which Line Clear is given
abbrev pub given_to : Position → SidePage → Option Timed
given_to position page =
    if same_position position shows.LineClear && page.offered then page.asked else None

-- a code is rung back, or Line Clear given, later than it may after the code was rung
abbrev pub late : PlanFields → Option ℕ → Timed → Doing → ByWay SidePage → Option Lapse
late plan within now (doings.Bell side bell) pages = later_than within now (rung_back plan bell (of_way pages side))
late plan within now (doings.Turned way position) pages =
    later_than within now (given_to position (of_way pages (opposite way)))
late plan within now doing pages = None

-- ---- what makes good

-- the last bell entry, where it has to be rung back and this one rings it back, rightly or wrongly
abbrev pub acknowledged : Option LastBell → BellEntry → Option ℕ
acknowledged None bell = None
acknowledged (Some last) bell =
    if same_kind bell.kind kinds.Rung && is_asked last.role then Some last.entry else None

-- the code that has to be rung back is rung back; or a train is offered to which Line Clear was given before
abbrev pub role_made_good : PlanFields → BellEntry → SidePage → Role → Option ℕ
role_made_good plan bell page roles.Offer = None
role_made_good plan bell page roles.Asked = if is_class_code plan bell.code then page.given else None
role_made_good plan bell page roles.Answer = acknowledged page.last bell
role_made_good plan bell page roles.Other = None

abbrev pub bell_made_good : PlanFields → BellEntry → SidePage → Option ℕ
bell_made_good plan bell page = role_made_good plan bell page (role_of plan page.last bell)

-- the entry that passed a signal, where this lever works it
abbrev pub signal_made_good : ℕ → Option PassedSignal → Option ℕ
signal_made_good lever None = None
signal_made_good lever (Some passed) = if passed.lever == lever then Some passed.entry else None

-- The earlier entries for which this one does what had to be done: a bell entry, as told; a turn to Normal behind Train
-- Out of Section, or any turn where Line Clear stood with no train offered; a lever that is put back behind a train.
abbrev pub made_good : PlanFields → Doing → ByWay SidePage → List (Option ℕ)
made_good plan (doings.Bell side bell) pages =
    bell_made_good plan bell (of_way pages side) ∷ None ∷ None ∷ None ∷ []
made_good plan (doings.Turned way position) pages =
    (if same_position position shows.Normal then (of_way pages (opposite way)).out else None)
    ∷ (of_way pages (opposite way)).given ∷ None ∷ None ∷ []
made_good plan (doings.PutBack lever) pages =
    signal_made_good lever pages.up.starter ∷ signal_made_good lever pages.up.home
    ∷ signal_made_good lever pages.down.starter ∷ signal_made_good lever pages.down.home ∷ []
made_good plan doing pages = None ∷ None ∷ None ∷ None ∷ []
