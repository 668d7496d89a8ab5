-- A line of a plan opens as one.
use Rattle.std.proofs.Common.{◌≡◌, ℕ, ◌-◌, ◌<◌, ◌≤◌, ◌&&◌, true, false, not, IsTrue, List, [], ◌∷◌, Option, Some, None}
use Rattle.std.proofs.Common.{All, length, replicate, refl, sym, ap, subst, ◌∙◌, arith, inl, inr, slice_index_or}
use Rattle.std.specs.List.{list_all}
use Rattle.std.proofs.lemmas.Bool.{cases_lt}
use Rattle.std.proofs.lemmas.List.{length-map, length-replicate, get_or-map, get_or-replicate, get_or_past}
use Rattle.std.proofs.lemmas.List.Elements.{All-cons, All-nil, All-replicate}
use Rattle.block_words.specs.declared.Way.{Way}
use Rattle.block_words.specs.declared.Way.TheVariants.{Up, Down}
use Rattle.locking_table.specs.Meaning.{RowHolds, acts, breaks}
use Rattle.locking_table.specs.Places.{at_ends, is_normal, stand_at}
use Rattle.locking_table.specs.declared.places.End.TheVariants as ends
use Rattle.locking_table.specs.declared.places.Stand.{Stand}
use Rattle.locking_table.specs.declared.places.Stand.TheVariants.{AtNormal}
use Rattle.locking_table.specs.declared.row.Row.{Row}
use Rattle.line_plan.specs.Frames.{BoxFields, berth_of, frame_size}
use Rattle.line_plan.specs.Plans.{PlanFields, is_train, no_box}
use Rattle.line_plan.specs.Sections.{IsSection, advance_of}
use Rattle.line_plan.specs.declared.berth.Berth.{Berth}
use Rattle.line_plan.specs.declared.plan.TrainPlan.{TrainPlan}
use Rattle.line_plan.specs.declared.section.Section.{Section}
use Rattle.line_law.specs.declared.state.BoxState.{BoxState}
use Rattle.line_law.specs.declared.state.PairState.{PairState}
use Rattle.line_law.specs.declared.state.Passage.{Passage}
use Rattle.line_law.specs.Law.{box_plan_of}
use Rattle.line_law.specs.Lines.{FitsLine, IsBoxAfter, IsControlOf, IsLineOf, IsPairAfter, IsSectionBetween}
use Rattle.line_law.specs.Lines.{IsSectionIn}
use Rattle.line_law.specs.States.{IsStateOf, box_at, control_of, no_state, opening_box, opening_control, opening_pair}
use Rattle.line_law.specs.States.{opening_state, pair_at}
use Rattle.line_law.specs.Ways.{of_way}
use Rattle.line_law.proofs.Boxes.{MayStand}
use Rattle.line_law.proofs.SectionSteps.{has_boxes}

-- a list of one value has that value everywhere
pub all_one : {A : Type 0} (n i : ℕ) (x : A) → slice_index_or (replicate n x) i x ≡ x
all_one n i x = elim (cases_lt i n) [
  | inl lt ↦ get_or-replicate n i x x lt
  | inr le ↦ get_or_past (replicate n x) i x (omega (arith, length-replicate n x))
]

control_fits : (n : Option ℕ) → FitsLine n (control_of n)
control_fits None = tt
control_fits (Some n) = omega arith

opening_fits : (b : Option Berth) → IsControlOf b (opening_control b)
opening_fits None = tt
opening_fits (Some berth) = control_fits berth.permissive

normal_holds : (n : ℕ) (row : Row) → RowHolds (at_ends (replicate n ends.Normal)) row
normal_holds n row =
    let places = at_ends (replicate n ends.Normal) in
    let normal : places row.subject ≡ AtNormal = ap stand_at (all_one n (row.subject - 1) ends.Normal) in
    subst (λ (s : Stand). IsTrue
    (not (not (is_normal s) && list_all (acts places) row.when && breaks row.kind (places row.object))))
    (sym normal) refl

rows_open : (n : ℕ) (rows : List Row) → All (RowHolds (at_ends (replicate n ends.Normal))) rows
rows_open n [] = All-nil (RowHolds (at_ends (replicate n ends.Normal)))
rows_open n (row ∷ rows) =
    All-cons (RowHolds (at_ends (replicate n ends.Normal))) row rows (normal_holds n row) (rows_open n rows)

-- a box begins so
pub box_opens : (trains : List TrainPlan) (bp : BoxFields) → IsBoxAfter trains bp 0 (opening_box (length trains) bp)
box_opens trains bp =
    record {
      shape = record {
        frame = record {
          ends = length-replicate (frame_size bp.levers) ends.Normal;
          off =
              length-replicate (frame_size bp.levers) false;
          places = length-replicate (length bp.places) None;
        };
        brought = length-replicate (length trains) false;
        occupants = All-replicate (MayStand trains) (length bp.places) None tt;
        controls = controls;
      };
      arms = λ lever is.
          absurd (let e : true ≡ false = sym is ∙ all_one (frame_size bp.levers) (lever - 1) false in cc);
      rows = rows_open (frame_size bp.levers) bp.rows;
      counts = record { sent = sent; taken = taken };
    } where
      controls : (w : Way) → IsControlOf (berth_of bp w) (of_way (opening_box (length trains) bp).incoming w).control
      controls Up = opening_fits bp.berth_up
      controls Down = opening_fits bp.berth_down

      sent : (w : Way) → of_way (opening_box (length trains) bp).sent w ≤ 0
      sent Up = omega arith
      sent Down = omega arith

      taken : (w : Way) → (of_way (opening_box (length trains) bp).incoming w).taken ≤ 0
      taken Up = omega arith
      taken Down = omega arith

pair_opens : (trains : List TrainPlan) → IsPairAfter trains 0 opening_pair
pair_opens trains = record { bells = bells; blocks = blocks; lines = lines } where
  bells : (w : Way) → (of_way opening_pair.bells w).count ≤ 0
  bells Up = omega arith
  bells Down = omega arith

  blocks : (w : Way) → (of_way opening_pair.blocks w).turns ≤ 0
  blocks Up = omega arith
  blocks Down = omega arith

  lines : (w : Way) → All (λ (p : Passage). IsTrue (is_train trains p.train)) (of_way opening_pair.lines w)
  lines Up = All-nil (λ (p : Passage). IsTrue (is_train trains p.train))
  lines Down = All-nil (λ (p : Passage). IsTrue (is_train trains p.train))

between : (n : ℕ) (bp other : BoxFields) (w : Way)
    → IsSectionBetween w (opening_box n bp) (opening_box n other) (of_way opening_pair.bells w)
    (of_way opening_pair.blocks w) (of_way opening_pair.lines w)
between n bp other Up =
    record { rung = refl; turns = refl; position = refl; numbered = refl; four = omega arith; portion = tt }
between n bp other Down =
    record { rung = refl; turns = refl; position = refl; numbered = refl; four = omega arith; portion = tt }

-- the boxes and pairs of the opening state
pub opening_at : (plan : PlanFields) (b : ℕ) → b < length plan.boxes
    → box_at (opening_state plan) b ≡ opening_box (length plan.trains) (box_plan_of plan b)
unfolding opening_state
opening_at plan b within = get_or-map (λ bp. opening_box (length plan.trains) bp) plan.boxes b no_box no_state within

-- each pair of a line that opens is silent, at Normal and empty
pub opening_pair_at : (plan : PlanFields) (p : ℕ) → pair_at (opening_state plan) p ≡ opening_pair
unfolding opening_state
opening_pair_at plan p = all_one (length plan.boxes - 1) p opening_pair

-- a line opens with the boxes and pairs of its plan
pub opening_shape : (plan : PlanFields) → IsStateOf plan (opening_state plan)
unfolding opening_state
opening_shape plan =
    record {
      boxes = length-map plan.boxes (λ bp. opening_box (length plan.trains) bp);
      pairs =
          length-replicate (length plan.boxes - 1) opening_pair;
    }

along : (w : Way) (r r' a a' : BoxState) (p p' : PairState) → r' ≡ r → a' ≡ a → p' ≡ p
    → IsSectionBetween w r a (of_way p.bells w) (of_way p.blocks w) (of_way p.lines w)
    → IsSectionBetween w r' a' (of_way p'.bells w) (of_way p'.blocks w) (of_way p'.lines w)
along w r r' a a' p p' er ea ep h = rw (er, ea, ep) h

section_opens : (plan : PlanFields) (x : Section) → IsSection plan x → IsSectionIn (opening_state plan) x
section_opens plan x is =
    let has = has_boxes (length plan.boxes) x.rear x.way is in
    along x.way _ _ _ _ _ _ (opening_at plan x.rear has.rear) (opening_at plan (advance_of x) has.advance)
    (opening_pair_at plan _)
    (between (length plan.trains) (box_plan_of plan x.rear) (box_plan_of plan (advance_of x)) x.way)

-- a line of a plan opens as one
pub opens : (plan : PlanFields) → IsLineOf plan (record { line = opening_state plan; calls = 0 })
opens plan =
    record {
      shape = opening_shape plan;
      boxes = λ b within. subst (λ (here : BoxState). IsBoxAfter plan.trains (box_plan_of plan b) 0 here)
          (sym (opening_at plan b within)) (box_opens plan.trains (box_plan_of plan b));
      pairs = λ p. subst (λ (pair : PairState). IsPairAfter plan.trains 0 pair) (sym (opening_pair_at plan p))
          (pair_opens plan.trains);
      sections = λ x is. section_opens plan x is;
    }
