-- The lines of the sections, pair by pair.
use Rattle.std.proofs.Common.{◌≡◌, ℕ, suc, ◌+◌, ◌-◌, ◌<◌, List, [], ◌∷◌, length, refl}
use Rattle.std.proofs.Common.{sym, ap, subst, ◌∙◌, arith, append_assoc}
use Rattle.std.specs.List.{flat_map}
use Rattle.block_words.specs.declared.Way.{Way}
use Rattle.block_words.specs.declared.Way.TheVariants.{Up, Down}
use Rattle.line_plan.specs.Plans.{PlanFields}
use Rattle.line_plan.specs.Sections.{sections_from}
use Rattle.line_plan.specs.declared.section.Section.{Section}
use Rattle.line_law.specs.declared.call.Entry.{Entry}
use Rattle.line_law.specs.declared.ways.ByWay.{ByWay}
use Rattle.line_report.specs.Between.{AreMost, pairs_text, section_between, trains_at}
use Rattle.line_law.specs.Ways.{of_way}
use Rattle.line_report.specs.Sections.{most_of, section_text, sections_text}
use Rattle.line_report.specs.declared.sections.HeldTrains.{HeldTrains}

-- a section's line with the most trains that it held
abbrev line_told : PlanFields → List Entry → Section → List ℕ
line_told plan es section = section_text plan section (most_of plan es section)

pairs_from : (plan : PlanFields) (es : List Entry) (b : ℕ) (trains : List (ByWay HeldTrains))
    → ((p : ℕ) (way : Way) → p < length trains → (of_way (trains_at trains p) way).most ≡ most_of plan es
    (section_between (b + p) way))
    → pairs_text plan b trains ≡ flat_map (line_told plan es) (sections_from b (length trains))
pairs_from plan es b [] h = refl
pairs_from plan es b (first ∷ trains) h =
    let here : b + 0 ≡ b = omega arith in
    let down : section_text plan (section_between b Down) first.down.most ≡ line_told plan es (section_between b Down) =
    ap (λ (n : ℕ). section_text plan (section_between b Down) n)
    (subst (λ (n : ℕ). first.down.most ≡ most_of plan es (section_between n Down)) here (h 0 Down (omega arith))) in
    let up : section_text plan (section_between b Up) first.up.most ≡ line_told plan es (section_between b Up) =
    ap (λ (n : ℕ). section_text plan (section_between b Up) n)
    (subst (λ (n : ℕ). first.up.most ≡ most_of plan es (section_between n Up)) here (h 0 Up (omega arith))) in
    let later : pairs_text plan (b + 1) trains ≡ flat_map (line_told plan es) (sections_from (b + 1) (length trains)) =
    pairs_from plan es (b + 1) trains
    (λ p way lt. let moved : b + suc p ≡ (b + 1) + p =
    omega arith in subst (λ (n : ℕ). (of_way (trains_at trains p) way).most ≡ most_of plan es
    (section_between n way)) moved (h (suc p) way (omega (arith, lt)))) in
    rw (down, up, later) (append_assoc (line_told plan es (section_between b Down))
    (line_told plan es (section_between b Up)) _)

-- the lines of all pairs are those of all sections
pub all_pairs : (plan : PlanFields) (es : List Entry) (trains : List (ByWay HeldTrains)) → AreMost plan es trains
    → pairs_text plan 0 trains ≡ sections_text plan es
unfolding sections_text
all_pairs plan es trains h =
    let each = h.each in
    let pairs : length trains ≡ length plan.boxes - 1 = omega (arith, each) in
    pairs_from plan es 0 trains (λ p way lt. let moved : 0 + p ≡ p =
    omega arith in subst (λ (n : ℕ). (of_way (trains_at trains p) way).most ≡ most_of plan es
    (section_between n way)) (sym moved) (h.at_pair p way lt))
    ∙ ap (λ (n : ℕ). flat_map (line_told plan es) (sections_from 0 n)) pairs
