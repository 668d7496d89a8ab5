-- One more line of a round, and one more round of a board.
use Rattle.std.proofs.Common.{◌≡◌, ℕ, ◌+◌, ◌-◌, ◌<◌, ◌≤◌, List, [], ◌∷◌, ◌++◌, length, take, get_or, map, refl, sym, ap}
use Rattle.std.proofs.Common.{◌∙◌, append_assoc, append-nil, arith}
use Rattle.std.proofs.lemmas.List.{get_or-map, length-map, length-take, take_all, take_more}
use Rattle.line_plan.specs.Plans.{PlanFields}
use Rattle.line_plan.specs.Sections.{sections_from, sections_of}
use Rattle.line_plan.specs.declared.section.Section.{Section}
use Rattle.line_watch.specs.declared.sight.Sight.{Sight}
use Rattle.line_watch.specs.Boards.{RoundFields, round_text, rounds_text, section_count, sight_text}
use Rattle.line_watch.proofs.Rounds.{counted}

round_on : (plan : PlanFields) (number : ℕ) (sections : List Section) (sights : List Sight) (section : Section)
    (sight : Sight) → length sections ≡ length sights
    → round_text plan number (sections ++ section ∷ []) (sights ++ sight ∷ [])
    ≡ round_text plan number sections sights ++ sight_text plan number section sight
round_on plan number [] [] section sight e = append-nil (sight_text plan number section sight)
round_on plan number [] (x ∷ sights) section sight e = absurd (omega (arith, e))
round_on plan number (s ∷ sections) [] section sight e = absurd (omega (arith, e))
round_on plan number (s ∷ sections) (x ∷ sights) section sight e =
    ap (λ (t : List ℕ). sight_text plan number s x ++ t)
    (round_on plan number sections sights section sight (omega (arith, e)))
    ∙ sym (append_assoc (sight_text plan number s x) (round_text plan number sections sights)
    (sight_text plan number section sight))

-- a text that has the lines of the first i sights of a round, and then the line of the next
pub more_sights : (plan : PlanFields) (number boxes i : ℕ) (sights : List Sight) (section : Section) (d : Sight)
    (old out new : List ℕ) → boxes ≡ length plan.boxes → length sights ≡ section_count (length plan.boxes)
    → i < length sights → ((s : Section) → get_or (sections_from 0 (boxes - 1)) i s ≡ section)
    → out ≡ old ++ round_text plan number (take i (sections_of plan)) (take i sights)
    → new ≡ out ++ sight_text plan number section (get_or sights i d)
    → new ≡ old ++ round_text plan number (take (i + 1) (sections_of plan)) (take (i + 1) sights)
more_sights plan number boxes i sights section d old out new e full lt listed before more =
    let sections = sections_of plan in
    let x = get_or sights i d in
    let there : i < length sections = omega (arith, lt, full, e, counted plan boxes e) in
    let at : get_or sections i section ≡ section =
    ap (λ (m : ℕ). get_or (sections_from 0 (m - 1)) i section) (sym e) ∙ listed section in
    let a : length (take i sections) ≡ length (take i sights) =
    omega (arith, there, lt, length-take i sections, length-take i sights) in
    let next : take (i + 1) sections ≡ take i sections ++ section ∷ [] =
    take_more sections i section there ∙ ap (λ (s : Section). take i sections ++ s ∷ []) at in
    let one = round_on plan number (take i sections) (take i sights) section x a in
    more ∙ (ap (λ (t : List ℕ). t ++ sight_text plan number section x) before
    ∙ (append_assoc old (round_text plan number (take i sections) (take i sights)) (sight_text plan number section x)
    ∙ ap (λ (t : List ℕ). old ++ t) (sym (rw (next, take_more sights i d lt) one))))

-- a text that has all lines of a round
pub all_sights : (plan : PlanFields) (number i : ℕ) (sights : List Sight) (old out : List ℕ)
    → length sights ≡ section_count (length plan.boxes) → length sights ≤ i
    → out ≡ old ++ round_text plan number (take i (sections_of plan)) (take i sights)
    → out ≡ old ++ round_text plan number (sections_of plan) sights
all_sights plan number i sights old out full h e =
    let c = counted plan (length plan.boxes) refl in
    let a : take i (sections_of plan) ≡ sections_of plan = take_all i (sections_of plan) (omega (arith, c, full, h)) in
    let b : take i sights ≡ sights = take_all i sights h in
    e ∙ (ap (λ (ss : List Section). old ++ round_text plan number ss (take i sights)) a
    ∙ ap (λ (xs : List Sight). old ++ round_text plan number (sections_of plan) xs) b)

rounds_on : (plan : PlanFields) (number : ℕ) (rounds : List (List Sight)) (round : List Sight)
    → rounds_text plan number (rounds ++ round ∷ [])
    ≡ rounds_text plan number rounds ++ round_text plan (number + length rounds) (sections_of plan) round
rounds_on plan number [] round =
    let here : number + 0 ≡ number = omega arith in
    append-nil (round_text plan number (sections_of plan) round)
    ∙ ap (λ (n : ℕ). round_text plan n (sections_of plan) round) (sym here)
rounds_on plan number (first ∷ rounds) round =
    let moved : (number + 1) + length rounds ≡ number + length (first ∷ rounds) = omega arith in
    let one = round_text plan number (sections_of plan) first in
    ap (λ (t : List ℕ). one ++ t) (rounds_on plan (number + 1) rounds round)
    ∙ (sym (append_assoc one (rounds_text plan (number + 1) rounds)
    (round_text plan ((number + 1) + length rounds) (sections_of plan) round))
    ∙ ap (λ (n : ℕ). (one ++ rounds_text plan (number + 1) rounds) ++ round_text plan n (sections_of plan) round) moved)

-- a text that has the lines of the first i rounds, and then those of the next
pub more_rounds : (plan : PlanFields) (rounds : List (List Sight)) (i : ℕ) (d : List Sight) (old out new : List ℕ)
    → i < length rounds → out ≡ old ++ rounds_text plan 1 (take i rounds)
    → new ≡ out ++ round_text plan (i + 1) (sections_of plan) (get_or rounds i d)
    → new ≡ old ++ rounds_text plan 1 (take (i + 1) rounds)
more_rounds plan rounds i d old out new lt before more =
    let next : List ℕ = round_text plan (i + 1) (sections_of plan) (get_or rounds i d) in
    let counted : 1 + length (take i rounds) ≡ i + 1 = omega (arith, length-take i rounds) in
    let one : rounds_text plan 1 (take i rounds ++ get_or rounds i d ∷ [])
    ≡ rounds_text plan 1 (take i rounds) ++ next =
    rounds_on plan 1 (take i rounds) (get_or rounds i d)
    ∙ ap (λ (n : ℕ). rounds_text plan 1 (take i rounds) ++ round_text plan n (sections_of plan) (get_or rounds i d))
    counted in
    more ∙ ap (λ (t : List ℕ). t ++ next) before ∙ append_assoc old (rounds_text plan 1 (take i rounds)) next
    ∙ ap (λ (t : List ℕ). old ++ t) (sym (rw (take_more rounds i d lt) one))

-- the same where the rounds are those of a board
pub more_of_board : (plan : PlanFields) (rounds : List RoundFields) (i : ℕ) (round : RoundFields) (sights : List Sight)
    (old out new : List ℕ) → i < length rounds → round ≡ get_or rounds i round → sights ≡ round.sights
    → out ≡ old ++ rounds_text plan 1 (take i (map (λ (r : RoundFields). r.sights) rounds))
    → new ≡ out ++ round_text plan (i + 1) (sections_of plan) sights
    → new ≡ old ++ rounds_text plan 1 (take (i + 1) (map (λ (r : RoundFields). r.sights) rounds))
more_of_board plan rounds i round sights old out new lt is e before more =
    let f : RoundFields → List Sight = λ r. r.sights in
    let there : i < length (map f rounds) = omega (arith, lt, length-map rounds f) in
    let at : get_or (map f rounds) i (f round) ≡ sights =
    get_or-map f rounds i round (f round) lt ∙ (sym (ap f is) ∙ sym e) in
    more_rounds plan (map f rounds) i (f round) old out new there before
    (more ∙ ap (λ (xs : List Sight). out ++ round_text plan (i + 1) (sections_of plan) xs) (sym at))
