-- What the entries of a box so far tell of one side of it, entry by entry.
use Rattle.std.specs.Prelude.{ℕ, ◌==◌, Bool, true, false, not, ◌&&◌, Option, Some, None, if◌then◌else◌}
use Rattle.block_words.specs.Ways.{opposite}
use Rattle.block_words.specs.declared.Position.{Position}
use Rattle.block_words.specs.declared.Position.TheVariants as shows
use Rattle.line_plan.specs.Plans.{PlanFields}
use Rattle.line_law.specs.declared.ways.ByWay.{ByWay}
use Rattle.line_law.specs.Instruments.{same_position}
use Rattle.line_law.specs.Ways.{of_way, with_way}
use Rattle.reg_audit.specs.declared.bell.BellEntry.{BellEntry}
use Rattle.reg_audit.specs.declared.bell.BellKind.TheVariants as kinds
use Rattle.reg_audit.specs.Bells.{is_class_code, train_out_of_section}
use Rattle.reg_audit.specs.Marks.{same_kind}
use Rattle.box_marking.specs.declared.bell.Role.{Role}
use Rattle.box_marking.specs.declared.bell.Role.TheVariants as roles
use Rattle.box_marking.specs.declared.clock.Timed.{Timed}
use Rattle.box_marking.specs.declared.doing.Doing.{Doing}
use Rattle.box_marking.specs.declared.doing.Doing.TheVariants as doings
use Rattle.box_marking.specs.declared.page.PassedSignal.{PassedSignal}
use Rattle.box_marking.specs.declared.page.SidePage.{SidePage}
use Rattle.box_marking.specs.Bells.{role_of}

-- nothing is written: no bell was rung, the commutator is at Normal
abbrev pub empty_page : SidePage
empty_page = record {
  last = None;
  shown = shows.Normal;
  offered = false;
  asked = None;
  given = None;
  out = None;
  offer = None;
  under = None;
  starter = None;
  home = None;
}

-- the pages of both sides of a box before the first entry
abbrev pub opening_pages : ByWay SidePage
opening_pages = record { up = empty_page; down = empty_page }

-- ---- bells

-- Train Out of Section is rung while the commutator doesn't show Normal
abbrev pub leaves_on : BellEntry → Position → Bool
leaves_on bell shown =
    same_kind bell.kind kinds.Rung && (bell.code == train_out_of_section) && not (same_position shown shows.Normal)

-- By what the bell entry k is. An offer is the last one, and ends what was kept of a starter that a train has passed. A
-- train that is offered from there ends what was kept of the train before it. Train Out of Section is kept where the
-- commutator doesn't show Normal.
abbrev pub role_written : PlanFields → ℕ → Option Timed → BellEntry → Role → SidePage → SidePage
role_written plan k cause bell roles.Offer page =
    record page { offer = Some (record { code = bell.code; entry = k }); starter = None }
role_written plan k cause bell roles.Asked page =
    if is_class_code plan bell.code
    then record page { offered = true; asked = cause; given = None; out = None; home = None }
    else page
role_written plan k cause bell roles.Answer page = page
role_written plan k cause bell roles.Other page =
    if leaves_on bell page.shown then record page { out = Some k } else page

-- the page after the bell entry k, which was rung by this entry of the neighbour, if it was heard
abbrev pub bell_written : PlanFields → ℕ → Option Timed → BellEntry → SidePage → SidePage
bell_written plan k cause bell page =
    role_written plan k cause bell (role_of plan page.last bell)
    (record page {
      last = Some (record { bell = bell; role = role_of plan page.last bell; entry = k; cause = cause });
    })

-- ---- the commutator, and levers

-- the page after entry k has turned the commutator to a position
abbrev pub turn_written : ℕ → Position → SidePage → SidePage
turn_written k position page = record page {
  shown = position;
  out = if same_position position shows.Normal then None else page.out;
  given = if same_position position shows.LineClear && not page.offered then Some k else None;
  offered = page.offered && not (same_position position shows.LineClear);
}

-- a signal that was passed, unless this lever works it
abbrev pub unless_of : ℕ → Option PassedSignal → Option PassedSignal
unless_of lever None = None
unless_of lever (Some passed) = if passed.lever == lever then None else Some passed

-- the page after a lever was put back
abbrev pub put_written : ℕ → SidePage → SidePage
put_written lever page = record page {
  starter = unless_of lever page.starter;
  home = unless_of lever page.home;
}

-- a signal that entry k has passed
abbrev pub passed_by : ℕ → ℕ → Option PassedSignal
passed_by k lever = Some (record { lever = lever; entry = k })

-- ---- both sides

-- the pages of a box after entry k, by what was done; a line that comes in is of the side from which it comes
abbrev pub written : PlanFields → ℕ → Option Timed → Doing → ByWay SidePage → ByWay SidePage
written plan k cause (doings.Bell side bell) pages =
    with_way pages side (bell_written plan k cause bell (of_way pages side))
written plan k cause (doings.Turned way position) pages =
    with_way pages (opposite way) (turn_written k position (of_way pages (opposite way)))
written plan k cause (doings.PulledStarter way) pages =
    with_way pages way (record (of_way pages way) { under = (of_way pages way).offer })
written plan k cause (doings.PutBack lever) pages =
    record { up = put_written lever pages.up; down = put_written lever pages.down }
written plan k cause (doings.PassedStarter way lever train number) pages =
    with_way pages way (record (of_way pages way) { starter = passed_by k lever })
written plan k cause (doings.PassedHome way lever) pages =
    with_way pages (opposite way) (record (of_way pages (opposite way)) { home = passed_by k lever })
written plan k cause (doings.Berthed way number) pages =
    with_way pages (opposite way) (record (of_way pages (opposite way)) { home = None })
written plan k cause doing pages = pages
