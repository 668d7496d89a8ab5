-- The marks of a side are those of the journal so far.
use Rattle.std.proofs.Common.{◌≡◌, ◌≢◌, ℕ, ◌+◌, Bool, true, false, List, Option, Some, None}
use Rattle.std.proofs.Common.{take, slice_get, refl, sym, ap, subst, ◌∙◌}
use Rattle.std.specs.Prelude.{◌↔◌, ◌&&◌}
use Rattle.block_words.specs.Ways.{opposite}
use Rattle.block_words.specs.declared.Position.{Position}
use Rattle.block_words.specs.declared.Position.TheVariants as shows
use Rattle.block_words.specs.declared.Way.{Way}
use Rattle.block_words.specs.declared.Way.TheVariants.{Up, Down}
use Rattle.line_plan.specs.Frames.{is_way, same_way}
use Rattle.line_plan.specs.Plans.{PlanFields}
use Rattle.line_law.specs.declared.call.Entry.{Entry}
use Rattle.line_law.specs.History.{state_of}
use Rattle.line_law.specs.declared.state.BoxState.{BoxState}
use Rattle.line_law.specs.Instruments.{same_position}
use Rattle.line_law.specs.States.{box_at}
use Rattle.reg_audit.specs.declared.bell.BellEntry.{BellEntry}
use Rattle.reg_audit.specs.declared.bell.BellKind.{BellKind}
use Rattle.reg_audit.specs.declared.bell.BellKind.TheVariants as kinds
use Rattle.reg_audit.specs.declared.deed.Deed.{Deed}
use Rattle.reg_audit.specs.declared.deed.Deed.TheVariants as deeds
use Rattle.reg_audit.specs.declared.marks.SideMarks.{SideMarks}
use Rattle.reg_audit.specs.Bells.{IsUnprompted, bell_on, heard, is_class_code, rung, train_entering_section}
use Rattle.reg_audit.specs.Bells.{train_out_of_section}
use Rattle.reg_audit.specs.Breaches.{HasSince, IsEntered, IsLeaving, IsOffered, IsTurned, entered_by, leaves_berth}
use Rattle.reg_audit.specs.Deeds.{HasDone, deed_of}
use Rattle.reg_audit.specs.Marks.{gives_clear, is_bell, is_of_class, later_bell, same_kind, shown_after, side_after}
use Rattle.reg_audit.specs.Marks.{since_after, unprompted}
use Rattle.reg_audit.proofs.Commutators.{shown_in}
use Rattle.reg_audit.proofs.LastBells.{IsBellAt, IsLastBefore, bell_elsewhere, bell_here, bell_tells, done_elsewhere}
use Rattle.reg_audit.proofs.LastBells.{done_here, done_there, last_more, unprompted_is}
use Rattle.reg_audit.proofs.Since.{since_more}

-- ---- tests of what was done

ways_same : (one other : Way) → same_way one other ≡ true → one ≡ other
ways_same Up Up e = refl
ways_same Up Down e = absurd cc
ways_same Down Up e = absurd cc
ways_same Down Down e = refl

way_itself : (way : Way) → same_way way way ≡ true
way_itself Up = refl
way_itself Down = refl

position_itself : (position : Position) → same_position position position ≡ true
position_itself shows.Normal = refl
position_itself shows.LineClear = refl
position_itself shows.TrainOnLine = refl

positions_same : (one other : Position) → same_position one other ≡ true → one ≡ other
positions_same shows.Normal shows.Normal e = refl
positions_same shows.Normal shows.LineClear e = absurd cc
positions_same shows.Normal shows.TrainOnLine e = absurd cc
positions_same shows.LineClear shows.Normal e = absurd cc
positions_same shows.LineClear shows.LineClear e = refl
positions_same shows.LineClear shows.TrainOnLine e = absurd cc
positions_same shows.TrainOnLine shows.Normal e = absurd cc
positions_same shows.TrainOnLine shows.LineClear e = absurd cc
positions_same shows.TrainOnLine shows.TrainOnLine e = refl

-- the test of two positions tells whether they are the same
pub position_tells : (one other : Position) → (same_position one other ≡ true ↔ one ≡ other)
position_tells one other = (
  λ e. positions_same one other e,
  λ e. subst (λ (p : Position). same_position one p ≡ true) e (position_itself one),
)

-- where two tests hold together, each does
pub both_true : (a b : Bool) → (a && b) ≡ true → (a ≡ true) × (b ≡ true)
both_true true true e = (refl, refl)
both_true true false e = absurd cc
both_true false b e = absurd cc

abbrev turned_to : Way → Position → Deed
turned_to way position = deeds.Turned way position

abbrev is_clear : Way → Way → Position → Bool
is_clear way turned position = same_way turned way && same_position position shows.LineClear

clear_turned : (way turned : Way) (position : Position) → is_clear way turned position ≡ true
    → turned_to turned position ≡ turned_to way shows.LineClear
clear_turned way turned position e =
    let parts = both_true (same_way turned way) (same_position position shows.LineClear) e in
    ap (λ (w : Way). turned_to w position) (ways_same turned way parts.0)
    ∙ ap (λ (p : Position). turned_to way p) (positions_same position shows.LineClear parts.1)

clear_is : (way : Way) (deed : Deed) → gives_clear way deed ≡ true → deed ≡ deeds.Turned way shows.LineClear
clear_is way (deeds.Turned turned position) e = clear_turned way turned position e
clear_is way deed e = absurd cc

clear_itself : (way : Way) → gives_clear way (deeds.Turned way shows.LineClear) ≡ true
clear_itself Up = refl
clear_itself Down = refl

-- the test of a deed tells whether it gives Line Clear
pub clear_tells : (way : Way) (deed : Deed) → (gives_clear way deed ≡ true ↔ deed ≡ deeds.Turned way shows.LineClear)
clear_tells way deed = (
  λ e. clear_is way deed e,
  λ e. subst (λ (d : Deed). gives_clear way d ≡ true) (sym e) (clear_itself way),
)

pub way_tells : (way : Way) (one : Option Way) → (is_way way one ≡ true ↔ one ≡ Some way)
way_tells way None = (λ e. absurd cc, λ e. absurd cc)
way_tells way (Some one) = (
  λ e. ap (λ (w : Way). Some w) (sym (ways_same way one e)),
  λ e. let same : way ≡ one = cc in subst (λ (w : Way). same_way way w ≡ true) same (way_itself way),
)

-- a bell entry of a kind with the code of some class
pub record IsOfClass (plan : PlanFields) (kind : BellKind) (bell : Option BellEntry) : Type 0 where
  pub code : ℕ
  pub class : is_class_code plan code ≡ true
  pub is : bell ≡ Some (record { kind = kind; code = code })

kinds_same : (one other : BellKind) → same_kind one other ≡ true → one ≡ other
kinds_same kinds.Rung kinds.Rung e = refl
kinds_same kinds.Rung kinds.Heard e = absurd cc
kinds_same kinds.Heard kinds.Rung e = absurd cc
kinds_same kinds.Heard kinds.Heard e = refl

kind_itself : (kind : BellKind) → same_kind kind kind ≡ true
kind_itself kinds.Rung = refl
kind_itself kinds.Heard = refl

abbrev entry_of_kind : ℕ → BellKind → BellEntry
entry_of_kind code kind = record { kind = kind; code = code }

-- a bell entry that is tested to be of a class is of it
pub of_class : (plan : PlanFields) (kind : BellKind) (bell : Option BellEntry) → is_of_class plan kind bell ≡ true
    → IsOfClass plan kind bell
of_class plan kind None e = absurd cc
of_class plan kind (Some bell) e =
    let parts = both_true (same_kind bell.kind kind) (is_class_code plan bell.code) e in
    record {
      code = bell.code;
      class = parts.1;
      is = ap (λ (k : BellKind). Some (entry_of_kind bell.code k)) (kinds_same bell.kind kind parts.0);
    }

-- and one that is of it is tested so
pub class_of : (plan : PlanFields) (kind : BellKind) (bell : Option BellEntry) → IsOfClass plan kind bell
    → is_of_class plan kind bell ≡ true
class_of plan kind bell h =
    rw h.is (rw (kind_itself kind) h.class)

-- ---- the marks of a side

-- These marks of a side of box b are those of the journal before this place.
pub record AreMarks (plan : PlanFields) (es : List Entry) (b : ℕ) (side : Way) (i : ℕ) (marks : SideMarks)
    : Type 0 where
  pub last_bell : IsLastBefore plan es b side i marks.last_bell
  pub offered : marks.offered ≡ true
      ↔ HasSince (IsTurned plan es b (opposite side) shows.LineClear) (IsOffered plan es b side) i
  pub entering : marks.entering ≡ true
      ↔ HasSince (IsEntered plan es b side) (IsUnprompted plan es b side (rung train_entering_section)) i
  pub left : marks.left ≡ true
      ↔ HasSince (IsUnprompted plan es b side (rung train_out_of_section)) (IsLeaving plan es b (opposite side)) i
  pub shown : marks.shown ≡ shown_in (opposite side) (box_at (state_of plan (take i es)) b)

-- what an entry of box b or of another does on a side, as the marks ask
record IsNext (plan : PlanFields) (es : List Entry) (b : ℕ) (side : Way) (i : ℕ) (bell : Option BellEntry)
    (clear enters leaves : Bool) : Type 0 where
  bell_at : IsBellAt plan es b side i bell
  clear_at : clear ≡ true ↔ IsTurned plan es b (opposite side) shows.LineClear i
  enters_at : enters ≡ true ↔ IsEntered plan es b side i
  leaves_at : leaves ≡ true ↔ IsLeaving plan es b (opposite side) i

-- a kind of deed at the place of an entry, by a test
tested_here : (plan : PlanFields) (es : List Entry) (kind : Deed → Type 0) (i : ℕ) (e : Entry) (test : Bool)
    → slice_get es i ≡ Some e → (test ≡ true ↔ kind (deed_of plan e)) → (test ≡ true ↔ HasDone plan es e.box_no kind i)
tested_here plan es kind i e test at tells = (
  λ f. done_here plan es kind i e at (tells.0 f),
  λ h. tells.1 (done_there plan es e.box_no kind i e at h).1,
)

none_elsewhere : (plan : PlanFields) (es : List Entry) (b : ℕ) (kind : Deed → Type 0) (i : ℕ) (e : Entry)
    → slice_get es i ≡ Some e → e.box_no ≢ b → (false ≡ true ↔ HasDone plan es b kind i)
none_elsewhere plan es b kind i e at other =
    (λ f. absurd cc, λ h. absurd (done_elsewhere plan es b kind i e at other h))

next_here : (plan : PlanFields) (es : List Entry) (side : Way) (i : ℕ) (e : Entry) → slice_get es i ≡ Some e
    → (let deed : Deed = deed_of plan e in IsNext plan es e.box_no side i (bell_on side deed)
    (gives_clear (opposite side) deed) (is_way side (entered_by deed)) (leaves_berth (opposite side) deed))
next_here plan es side i e at =
    let deed : Deed = deed_of plan e in
    record {
      bell_at = bell_here plan es side i e at;
      clear_at = tested_here plan es (λ d. d ≡ deeds.Turned (opposite side) shows.LineClear) i e
          (gives_clear (opposite side) deed) at (clear_tells (opposite side) deed);
      enters_at = tested_here plan es (λ d. entered_by d ≡ Some side) i e (is_way side (entered_by deed)) at
          (way_tells side (entered_by deed));
      leaves_at = tested_here plan es (λ d. leaves_berth (opposite side) d ≡ true) i e
          (leaves_berth (opposite side) deed) at (λ f. f, λ f. f);
    }

next_elsewhere : (plan : PlanFields) (es : List Entry) (b : ℕ) (side : Way) (i : ℕ) (e : Entry)
    → slice_get es i ≡ Some e → e.box_no ≢ b → IsNext plan es b side i None false false false
next_elsewhere plan es b side i e at other = record {
  bell_at = bell_elsewhere plan es b side i e at other;
  clear_at = none_elsewhere plan es b (λ d. d ≡ deeds.Turned (opposite side) shows.LineClear) i e at other;
  enters_at = none_elsewhere plan es b (λ d. entered_by d ≡ Some side) i e at other;
  leaves_at = none_elsewhere plan es b (λ d. leaves_berth (opposite side) d ≡ true) i e at other;
}

-- a code that is no answer, by the marks
pub unprompted_code : (plan : PlanFields) (es : List Entry) (b : ℕ) (side : Way) (i : ℕ) (bell last : Option BellEntry)
    → IsBellAt plan es b side i bell → IsLastBefore plan es b side i last → (x : BellEntry)
    → (is_bell (unprompted last bell) x ≡ true ↔ IsUnprompted plan es b side x i)
unprompted_code plan es b side i bell last here before x =
    let told = bell_tells (unprompted last bell) x in
    let is = unprompted_is plan es b side i bell last here before x in
    (λ f. is.0 (told.0 f), λ h. told.1 (is.1 h))

-- a train that is offered, by the marks
offered_by : (plan : PlanFields) (es : List Entry) (b : ℕ) (side : Way) (i : ℕ) (bell last : Option BellEntry)
    → IsBellAt plan es b side i bell → IsLastBefore plan es b side i last
    → (is_of_class plan kinds.Heard (unprompted last bell) ≡ true ↔ IsOffered plan es b side i)
offered_by plan es b side i bell last here before = (
  λ f.
      let h = of_class plan kinds.Heard (unprompted last bell) f in
      record {
        code = h.code;
        class = h.class;
        hears = (unprompted_is plan es b side i bell last here before (heard h.code)).0 h.is;
      },
  λ h. class_of plan kinds.Heard (unprompted last bell) (record {
    code = h.code;
    class = h.class;
    is = (unprompted_is plan es b side i bell last here before (heard h.code)).1 h.hears;
  }),
)

abbrev marks_by : PlanFields → Option BellEntry → Bool → Bool → Bool → Position → SideMarks → SideMarks
marks_by plan bell clear enters leaves shown marks =
    let new = unprompted marks.last_bell bell in
    record {
      last_bell = later_bell bell marks.last_bell;
      offered = since_after clear (is_of_class plan kinds.Heard new) marks.offered;
      entering = since_after enters (is_bell new (rung train_entering_section)) marks.entering;
      left = since_after (is_bell new (rung train_out_of_section)) leaves marks.left;
      shown = shown;
    }

marks_next : (plan : PlanFields) (es : List Entry) (b : ℕ) (side : Way) (i : ℕ) (bell : Option BellEntry)
    (clear enters leaves : Bool) (shown : Position) (marks : SideMarks)
    → IsNext plan es b side i bell clear enters leaves
    → shown ≡ shown_in (opposite side) (box_at (state_of plan (take (i + 1) es)) b)
    → AreMarks plan es b side i marks
    → AreMarks plan es b side (i + 1) (marks_by plan bell clear enters leaves shown marks)
marks_next plan es b side i bell clear enters leaves shown marks next shows_now h =
    let new : Option BellEntry = unprompted marks.last_bell bell in
    record {
      last_bell = last_more plan es b side i bell marks.last_bell next.bell_at h.last_bell;
      offered = since_more _ _ i clear (is_of_class plan kinds.Heard new) marks.offered next.clear_at
          (offered_by plan es b side i bell marks.last_bell next.bell_at h.last_bell) h.offered;
      entering = since_more _ _ i enters (is_bell new (rung train_entering_section)) marks.entering next.enters_at
          (unprompted_code plan es b side i bell marks.last_bell next.bell_at h.last_bell (rung train_entering_section))
          h.entering;
      left = since_more _ _ i (is_bell new (rung train_out_of_section)) leaves marks.left
          (unprompted_code plan es b side i bell marks.last_bell next.bell_at h.last_bell (rung train_out_of_section))
          next.leaves_at h.left;
      shown = shows_now;
    }

-- one entry more, of this box
pub marks_here : (plan : PlanFields) (es : List Entry) (side : Way) (i : ℕ) (e : Entry) (marks : SideMarks)
    → slice_get es i ≡ Some e
    → shown_after (opposite side) (deed_of plan e) marks.shown
    ≡ shown_in (opposite side) (box_at (state_of plan (take (i + 1) es)) e.box_no)
    → AreMarks plan es e.box_no side i marks
    → AreMarks plan es e.box_no side (i + 1) (side_after plan side (deed_of plan e) marks)
marks_here plan es side i e marks at shows_now h =
    let deed : Deed = deed_of plan e in
    marks_next plan es e.box_no side i (bell_on side deed) (gives_clear (opposite side) deed)
    (is_way side (entered_by deed)) (leaves_berth (opposite side) deed) (shown_after (opposite side) deed marks.shown)
    marks (next_here plan es side i e at) shows_now h

-- one entry more, of another box
pub marks_elsewhere : (plan : PlanFields) (es : List Entry) (b : ℕ) (side : Way) (i : ℕ) (e : Entry)
    (marks : SideMarks) → slice_get es i ≡ Some e → e.box_no ≢ b
    → box_at (state_of plan (take (i + 1) es)) b ≡ box_at (state_of plan (take i es)) b
    → AreMarks plan es b side i marks → AreMarks plan es b side (i + 1) marks
marks_elsewhere plan es b side i e marks at other same h =
    marks_next plan es b side i None false false false marks.shown marks
    (next_elsewhere plan es b side i e at other)
    (h.shown ∙ sym (ap (λ (here : BoxState). shown_in (opposite side) here) same)) h
