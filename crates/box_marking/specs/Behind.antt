-- What an entry is marked for behind a journal, and what it makes good of that.
use Rattle.std.specs.Prelude.{ℕ, ◌+◌, ◌==◌, List, [], ◌∷◌, ◌++◌, length, Option, Some, None, if◌then◌else◌}
use Rattle.line_plan.specs.Plans.{PlanFields}
use Rattle.line_law.specs.declared.call.Entry.{Entry}
use Rattle.line_law.specs.declared.ways.ByWay.{ByWay}
use Rattle.line_law.specs.History.{state_of}
use Rattle.box_marking.specs.declared.clock.SideClock.{SideClock}
use Rattle.box_marking.specs.declared.clock.Timed.{Timed}
use Rattle.box_marking.specs.declared.lapse.Lapse.{Lapse}
use Rattle.box_marking.specs.declared.marking.Marking.{Marking}
use Rattle.box_marking.specs.declared.page.SidePage.{SidePage}
use Rattle.box_marking.specs.Clocks.{cause_from, clocks_set, opening_clocks}
use Rattle.box_marking.specs.Doings.{doing_of}
use Rattle.box_marking.specs.Lapses.{before_cause, is_held, lapse_of, late, left_off, made_good}
use Rattle.box_marking.specs.Pages.{opening_pages, written}

-- what is kept of the entries of box b, one after another, each by those before it
abbrev pub own_from : {A : Type 0} → (List Entry → Entry → A → A) → ℕ → List Entry → A → List Entry → A
own_from keep b before kept [] = kept
own_from keep b before kept (e ∷ es) =
    own_from keep b (before ++ e ∷ []) (if e.box_no == b then keep before e kept else kept) es

-- an entry behind these, by its number, with its moment
abbrev pub timed : List Entry → Entry → Timed
timed before e = record { entry = length before + 1; moment = e.call.moment }

-- when box b last rang, turned its commutators and sent trains, behind a journal
abbrev pub clocks_of : PlanFields → ℕ → List Entry → ByWay SideClock
clocks_of plan b es =
    own_from (λ before e clocks. clocks_set (timed before e) (doing_of plan e) clocks) b [] opening_clocks es

-- the entry of a neighbour, among these, that made an entry possible
abbrev pub cause_by : PlanFields → List Entry → Entry → Option Timed
cause_by plan before e = cause_from (λ b. clocks_of plan b before) e.box_no (doing_of plan e)

-- the pages of box b behind a journal
abbrev pub pages_of : PlanFields → ℕ → List Entry → ByWay SidePage
pages_of plan b es =
    own_from (λ before e pages. written plan (length before + 1) (cause_by plan before e) (doing_of plan e) pages)
    b [] opening_pages es

-- an entry's marking for a lapse, if there is one
abbrev pub marked : ℕ → ℕ → Option Lapse → List Marking
marked k b None = []
marked k b (Some lapse) = record { entry = k; box_no = b; lapse = lapse } ∷ []

-- what an entry is marked for behind these, if nothing makes it good, in the order of the rules
abbrev pub markings_by : PlanFields → Option ℕ → List Entry → Entry → List Marking
markings_by plan within before e =
    marked (length before + 1) e.box_no
    (lapse_of plan (is_held plan (state_of plan before) e (doing_of plan e)) (doing_of plan e)
    (pages_of plan e.box_no before))
    ++ marked (length before + 1) e.box_no (left_off (doing_of plan e))
    ++ marked (length before + 1) e.box_no (before_cause (timed before e) (cause_by plan before e))
    ++ marked (length before + 1) e.box_no
    (late plan within (timed before e) (doing_of plan e) (pages_of plan e.box_no before))

-- the entries before it for which an entry does what had to be done
abbrev pub made_good_by : PlanFields → List Entry → Entry → List (Option ℕ)
made_good_by plan before e = made_good plan (doing_of plan e) (pages_of plan e.box_no before)

-- what is told of each entry, by the entries before it, one after another
abbrev pub each_behind : {A : Type 0} → (List Entry → Entry → List A) → List Entry → List Entry → List A
each_behind told before [] = []
each_behind told before (e ∷ es) = told before e ++ each_behind told (before ++ e ∷ []) es
