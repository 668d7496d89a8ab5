-- Each deed is of its entry, and the deeds of a train stand in the order of these.
use Rattle.std.proofs.Common.{ℕ, ◌+◌, ◌<◌, ◌≤◌, List, [], ◌∷◌, ◌++◌, Option, None, Some, All, get_or, map, arith}
use Rattle.std.proofs.lemmas.List.Elements.{All-append, All-cons, All-filter, All-from_get_or, All-map, All-nil}
use Rattle.std.proofs.lemmas.List.Elements.{All-weaker}
use Rattle.std.proofs.lemmas.List.Kept.{AllPairs-cons, AllPairs-filter}
use Rattle.std.specs.List.{AllPairs, range_with_len}
use Rattle.std.specs.Prelude.{◌==◌, length, option_to_list}
use Rattle.line_law.specs.declared.call.Entry.{Entry}
use Rattle.line_plan.specs.Plans.{PlanFields}
use Rattle.graph_scene.specs.declared.deeds.TrainDeed.{TrainDeed}
use Rattle.graph_scene.specs.declared.lines.TrainLine.{TrainLine}
use Rattle.graph_scene.specs.Deeds.{Done, deed_at, deeds_from, deeds_of, done_by}
use Rattle.graph_scene.specs.Lines.{deeds_by, is_drawn, line_of, lines_of}
use Rattle.line_law.specs.Law.{box_plan_of}

at_from : (n b : ℕ) (done : Option Done) → All (λ (its : TrainDeed). n ≤ its.entry) (option_to_list (deed_at n b done))
at_from n b None = All-nil (λ (its : TrainDeed). n ≤ its.entry)
at_from n b (Some done) =
    All-cons (λ (its : TrainDeed). n ≤ its.entry)
    (record { entry = n; box_no = b; train = done.0; deed = done.1 }) [] (omega arith)
    (All-nil (λ (its : TrainDeed). n ≤ its.entry))

all_from : (plan : PlanFields) (n : ℕ) (es : List Entry)
    → All (λ (its : TrainDeed). n ≤ its.entry) (deeds_from plan n es)
all_from plan n [] = All-nil (λ (its : TrainDeed). n ≤ its.entry)
all_from plan n (e ∷ es) =
    let done = done_by plan (box_plan_of plan e.box_no) e.call.act e.reply in
    All-append (λ (its : TrainDeed). n ≤ its.entry) (option_to_list (deed_at n e.box_no done))
    (deeds_from plan (n + 1) es)
    (at_from n e.box_no done)
    (All-weaker (λ (its : TrainDeed). n + 1 ≤ its.entry) (λ (its : TrainDeed). n ≤ its.entry)
    (λ its h. omega (arith, h)) (deeds_from plan (n + 1) es) (all_from plan (n + 1) es))

at_before : (n b : ℕ) (done : Option Done) (deeds : List TrainDeed)
    → All (λ (its : TrainDeed). n + 1 ≤ its.entry) deeds
    → AllPairs (λ (one other : TrainDeed). one.entry < other.entry) deeds
    → AllPairs (λ (one other : TrainDeed). one.entry < other.entry) (option_to_list (deed_at n b done) ++ deeds)
at_before n b None deeds later rise = rise
at_before n b (Some done) deeds later rise =
    AllPairs-cons (λ (one other : TrainDeed). one.entry < other.entry)
    (record { entry = n; box_no = b; train = done.0; deed = done.1 }) deeds
    (All-weaker (λ (its : TrainDeed). n + 1 ≤ its.entry) (λ (its : TrainDeed). n < its.entry)
    (λ its h. omega (arith, h)) deeds later) rise

rise_from : (plan : PlanFields) (n : ℕ) (es : List Entry)
    → AllPairs (λ (one other : TrainDeed). one.entry < other.entry) (deeds_from plan n es)
rise_from plan n [] = λ i j d above within. absurd (omega (arith, within))
rise_from plan n (e ∷ es) =
    at_before n e.box_no (done_by plan (box_plan_of plan e.box_no) e.call.act e.reply) (deeds_from plan (n + 1) es)
    (all_from plan (n + 1) es) (rise_from plan (n + 1) es)

-- the deeds of a line stand in the order of their entries
pub deeds_rise : (plan : PlanFields) (es : List Entry)
    → All (λ (line : TrainLine). AllPairs (λ (one other : TrainDeed). one.entry < other.entry) line.deeds)
    (lines_of plan es)
deeds_rise plan es =
    let deeds = deeds_of plan es in
    All-filter is_drawn
    (λ (line : TrainLine). AllPairs (λ (one other : TrainDeed). one.entry < other.entry) line.deeds)
    (map (line_of deeds) (range_with_len 1 (length plan.trains)))
    (All-map (λ (line : TrainLine). AllPairs (λ (one other : TrainDeed). one.entry < other.entry) line.deeds)
    (line_of deeds) (range_with_len 1 (length plan.trains))
    (All-from_get_or (λ (t : ℕ). AllPairs (λ (one other : TrainDeed). one.entry < other.entry) (deeds_by t deeds))
    (range_with_len 1 (length plan.trains)) 0
    (λ i within. AllPairs-filter (λ (one other : TrainDeed). one.entry < other.entry)
    (λ (its : TrainDeed). its.train == get_or (range_with_len 1 (length plan.trains)) i 0) deeds
    (rise_from plan 0 es))))
