-- Looks in turn.
use Rattle.std.proofs.Common.{◌≡◌, ℕ, ◌+◌, ◌-◌, ◌<◌, ◌≤◌, List, [], ◌∷◌, ◌++◌}
use Rattle.std.proofs.Common.{get_or, length, take, refl, subst, sym, ap}
use Rattle.std.proofs.Common.{◌∙◌, arith}
use Rattle.std.proofs.lemmas.List.{take_all, take_more}
use Rattle.line_plan.specs.Plans.{PlanFields}
use Rattle.line_plan.specs.Sections.{sections_from, sections_of}
use Rattle.line_plan.specs.declared.section.Section.{Section}
use Rattle.line_law.specs.declared.call.Entry.{Entry}
use Rattle.line_watch.specs.declared.sight.Sight.{Sight}
use Rattle.line_watch.specs.Boards.{section_count}
use Rattle.line_watch.specs.Watching.{Looks, LooksInTurn}
use Rattle.line_watch.proofs.SectionNumbers.{sections_counted}

-- one look more
pub looks_on : (plan : PlanFields) (sections : List Section) (sights : List Sight) (section : Section) (sight : Sight)
    (before middle after : List Entry) → LooksInTurn plan sections sights before middle
    → Looks plan section sight middle after
    → LooksInTurn plan (sections ++ section ∷ []) (sights ++ sight ∷ []) before after
looks_on plan [] [] section sight before middle after e h =
    (after, subst (λ (log : List Entry). Looks plan section sight log after) (sym e) h, refl)
looks_on plan [] (x ∷ sights) section sight before middle after t h = absurd t
looks_on plan (s ∷ sections) [] section sight before middle after t h = absurd t
looks_on plan (s ∷ sections) (x ∷ sights) section sight before middle after t h =
    (t.0, t.1, looks_on plan sections sights section sight t.0 middle after t.2 h)

-- how many sections a plan has
pub counted : (plan : PlanFields) (boxes : ℕ) → boxes ≡ length plan.boxes
    → length (sections_of plan) ≡ section_count boxes
counted plan boxes e =
    sections_counted 0 (length plan.boxes - 1) ∙ ap (λ (n : ℕ). section_count n) (sym e)

-- the section that is looked at next
pub next_look : (plan : PlanFields) (boxes n : ℕ) (sights : List Sight) (section : Section) (sight : Sight)
    (before middle after : List Entry) → boxes ≡ length plan.boxes → n < section_count boxes
    → ((d : Section) → get_or (sections_from 0 (boxes - 1)) n d ≡ section)
    → LooksInTurn plan (take n (sections_of plan)) sights before middle → Looks plan section sight middle after
    → LooksInTurn plan (take (n + 1) (sections_of plan)) (sights ++ sight ∷ []) before after
next_look plan boxes n sights section sight before middle after e lt listed h look =
    let there : n < length (sections_of plan) = omega (arith, lt, counted plan boxes e) in
    let at : get_or (sections_of plan) n section ≡ section =
    ap (λ (m : ℕ). get_or (sections_from 0 (m - 1)) n section) (sym e) ∙ listed section in
    let more : take (n + 1) (sections_of plan) ≡ take n (sections_of plan) ++ section ∷ [] =
    take_more (sections_of plan) n section there
    ∙ ap (λ (s : Section). take n (sections_of plan) ++ s ∷ []) at in
    subst (λ (ss : List Section). LooksInTurn plan ss (sights ++ sight ∷ []) before after) (sym more)
    (looks_on plan (take n (sections_of plan)) sights section sight before middle after h look)

-- all sections were looked at
pub all_looks : (plan : PlanFields) (boxes n : ℕ) (sights : List Sight) (before after : List Entry)
    → boxes ≡ length plan.boxes → section_count boxes ≤ n
    → LooksInTurn plan (take n (sections_of plan)) sights before after
    → LooksInTurn plan (sections_of plan) sights before after
all_looks plan boxes n sights before after e h looks =
    let all : take n (sections_of plan) ≡ sections_of plan =
    take_all n (sections_of plan) (omega (arith, h, counted plan boxes e)) in
    subst (λ (ss : List Section). LooksInTurn plan ss sights before after) all looks
