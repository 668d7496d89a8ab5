-- What rounds of looks at one history show of another with the same parts.
use Rattle.std.proofs.Common.{◌≡◌, inl, inr, ⊎_elim, Bool, ℕ, zero, suc, ◌-◌, ◌≤◌, ◌<◌}
use Rattle.std.proofs.Common.{List, [], ◌∷◌, ◌++◌, length, get_or}
use Rattle.std.proofs.Common.{refl, sym, ap, ◌∙◌, subst, arith, append_assoc, append-nil, length-append}
use Rattle.std.proofs.lemmas.Bool.{cases_lt}
use Rattle.std.proofs.lemmas.Bool.Decides.{leb_tells}
use Rattle.std.proofs.lemmas.List.{get_or_push}
use mathlib.Core.List.{IsPrefix}
use Rattle.block_words.specs.declared.Position.{Position}
use Rattle.line_plan.specs.Plans.{IsPlan, PlanFields}
use Rattle.line_plan.specs.Sections.{IsSection, sections_of}
use Rattle.line_plan.specs.declared.section.Section.{Section}
use Rattle.line_law.specs.declared.call.Entry.{Entry}
use Rattle.line_law.specs.declared.state.Block.{Block}
use Rattle.line_law.specs.History.{IsLegal}
use Rattle.line_watch.specs.declared.sight.Sight.{Sight}
use Rattle.line_watch.specs.Shown.{IsBoardOf, first_sight, section_in, sight_in}
use Rattle.line_watch.specs.Sights.{IsFirstRight, IsRightAfter, instrument_after}
use Rattle.line_watch.specs.Watching.{LooksInTurn, RoundsInTurn}
use Rattle.line_watch.proofs.Firsts.{ages_to, longer_than, right_there, shorter_begins, whole}
use Rattle.line_watch.proofs.Marks.{Follows}
use Rattle.line_watch.proofs.SectionNumbers.{listed_section}
use Rattle.line_watch.proofs.Traces.{SameParts, right_in_other, same_whole}

-- what begins a beginning begins the whole
pub prefix_on : (xs ys zs : List Entry) → IsPrefix xs ys → IsPrefix ys zs → IsPrefix xs zs
prefix_on xs ys zs a b =
    (a.0 ++ b.0, sym (append_assoc xs a.0 b.0) ∙ (ap (λ (l : List Entry). l ++ b.0) a.1 ∙ b.1))

-- a history begins itself
pub begins_itself : (xs : List Entry) → IsPrefix xs xs
begins_itself xs = ([], append-nil xs)

-- ---- one look of a round

-- the history before looks in turn begins that after them
pub looks_begin : (plan : PlanFields) (sections : List Section) (sights : List Sight) (before after : List Entry)
    → LooksInTurn plan sections sights before after → IsPrefix before after
looks_begin plan [] [] before after h = ([], append-nil before ∙ h)
looks_begin plan [] (x ∷ sights) before after h = absurd h
looks_begin plan (s ∷ sections) [] before after h = absurd h
looks_begin plan (s ∷ sections) (x ∷ sights) before after h =
    prefix_on before h.0 after h.1.begins (looks_begin plan sections sights h.0 after h.2)

pub looks_each : (plan : PlanFields) (sections : List Section) (sights : List Sight) (before after : List Entry)
    → LooksInTurn plan sections sights before after → length sights ≡ length sections
looks_each plan [] [] before after h = refl
looks_each plan [] (x ∷ sights) before after h = absurd h
looks_each plan (s ∷ sections) [] before after h = absurd h
looks_each plan (s ∷ sections) (x ∷ sights) before after h =
    let e = looks_each plan sections sights h.0 after h.2 in omega (arith, e)

-- a sight is right after what was seen between two histories
record SeenBetween (plan : PlanFields) (section : Section) (sight : Sight) (before after : List Entry) : Type 0 where
  log : List Entry
  begins : IsPrefix before log
  within : IsPrefix log after
  right : IsRightAfter plan log section sight

looked_at : (plan : PlanFields) (sections : List Section) (sights : List Sight) (before after : List Entry) (k : ℕ)
    (d : Section) (e : Sight) → LooksInTurn plan sections sights before after → k < length sections
    → SeenBetween plan (get_or sections k d) (get_or sights k e) before after
looked_at plan [] sights before after k d e h lt = absurd (omega (arith, lt))
looked_at plan (s ∷ sections) [] before after k d e h lt = absurd h
looked_at plan (s ∷ sections) (x ∷ sights) before after zero d e h lt =
    let within = looks_begin plan sections sights h.0 after h.2 in
    record { log = h.0; begins = h.1.begins; within = within; right = h.1.right }
looked_at plan (s ∷ sections) (x ∷ sights) before after (suc k) d e h lt =
    let r = looked_at plan sections sights h.0 after k d e h.2 (omega (arith, lt)) in
    record { log = r.log; begins = prefix_on before h.0 r.log h.1.begins r.begins; within = r.within; right = r.right }

-- ---- one round, and two

pub rounds_begin : (plan : PlanFields) (rounds : List (List Sight)) (before after : List Entry)
    → RoundsInTurn plan rounds before after → IsPrefix before after
rounds_begin plan [] before after h = h
rounds_begin plan (round ∷ rounds) before after h =
    prefix_on before h.0 after h.2 (prefix_on h.0 h.1 after (looks_begin plan (sections_of plan) round h.0 h.1 h.3)
    (rounds_begin plan rounds h.1 after h.4))

record RoundBetween (plan : PlanFields) (round : List Sight) (before after : List Entry) : Type 0 where
  start : List Entry
  stop : List Entry
  begins : IsPrefix before start
  looks : LooksInTurn plan (sections_of plan) round start stop
  within : IsPrefix stop after

round_at : (plan : PlanFields) (rounds : List (List Sight)) (before after : List Entry) (r : ℕ)
    → RoundsInTurn plan rounds before after → r < length rounds
    → RoundBetween plan (get_or rounds r []) before after
round_at plan [] before after r h lt = absurd (omega (arith, lt))
round_at plan (round ∷ rounds) before after zero h lt =
    record { start = h.0; stop = h.1; begins = h.2; looks = h.3; within = rounds_begin plan rounds h.1 after h.4 }
round_at plan (round ∷ rounds) before after (suc r) h lt =
    let t = round_at plan rounds h.1 after r h.4 (omega (arith, lt)) in
    let first = prefix_on before h.0 h.1 h.2 (looks_begin plan (sections_of plan) round h.0 h.1 h.3) in
    record {
      start = t.start;
      stop = t.stop;
      begins = prefix_on before h.1 t.start first t.begins;
      looks = t.looks;
      within = t.within;
    }

-- a round, and a later one that begins where it has ended or later
record TwoRounds (plan : PlanFields) (round next : List Sight) (after : List Entry) : Type 0 where
  start : List Entry
  stop : List Entry
  looks : LooksInTurn plan (sections_of plan) round start stop
  later : RoundBetween plan next stop after

two_rounds : (plan : PlanFields) (rounds : List (List Sight)) (before after : List Entry) (r s : ℕ)
    → RoundsInTurn plan rounds before after → r < s → s < length rounds
    → TwoRounds plan (get_or rounds r []) (get_or rounds s []) after
two_rounds plan [] before after r s h lt within = absurd (omega (arith, within))
two_rounds plan (round ∷ rounds) before after r zero h lt within = absurd (omega (arith, lt))
two_rounds plan (round ∷ rounds) before after zero (suc s) h lt within =
    let later = round_at plan rounds h.1 after s h.4 (omega (arith, within)) in
    record { start = h.0; stop = h.1; looks = h.3; later = later }
two_rounds plan (round ∷ rounds) before after (suc r) (suc s) h lt within =
    two_rounds plan rounds h.1 after r s h.4 (omega (arith, lt)) (omega (arith, within))

-- one round more
pub rounds_on : (plan : PlanFields) (rounds : List (List Sight)) (round : List Sight)
    (before middle start stop after : List Entry) → RoundsInTurn plan rounds before middle → IsPrefix middle start
    → LooksInTurn plan (sections_of plan) round start stop → IsPrefix stop after
    → RoundsInTurn plan (rounds ++ round ∷ []) before after
rounds_on plan [] round before middle start stop after h p looks q =
    (start, stop, prefix_on before middle start h p, looks, q)
rounds_on plan (first ∷ rounds) round before middle start stop after h p looks q =
    (h.0, h.1, h.2, h.3, rounds_on plan rounds round h.1 middle start stop after h.4 p looks q)

-- ---- the shortest beginnings of the other history

same_block : (a b : Block) → a.turns ≡ b.turns → a.position ≡ b.position → a.spent ≡ b.spent → a ≡ b
same_block a b e f g =
    ap (λ (n : ℕ). record a { turns = n }) e
    ∙ (ap (λ (p : Position). let block : Block = record { turns = b.turns; position = p; spent = a.spent } in block) f
    ∙ ap (λ (s : Bool). let block : Block = record { turns = b.turns; position = b.position; spent = s } in block) g)

one_block : (plan : PlanFields) (xs ys : List Entry) (section : Section) (sight : Sight)
    → IsRightAfter plan xs section sight → IsRightAfter plan ys section sight
    → instrument_after plan xs section ≡ instrument_after plan ys section
one_block plan xs ys section sight h g =
    same_block (instrument_after plan xs section) (instrument_after plan ys section) (sym h.turns ∙ g.turns)
    (sym h.position ∙ g.position) (sym h.spent ∙ g.spent)

no_earlier : (plan : PlanFields) (log other before after first next : List Entry) (section : Section)
    (sight shown : Sight) → IsPlan plan → IsLegal plan log → IsLegal plan other → IsPrefix before after
    → IsPrefix after log → IsRightAfter plan before section sight → IsRightAfter plan after section shown
    → IsFirstRight plan other section sight first → IsFirstRight plan other section shown next
    → length first ≤ length next
no_earlier plan log other before after first next section sight shown is legal legal' p q right right' h g =
    elim (leb_tells (length first) (length next)) [
      | inl least ↦ least.1
      | inr more ↦ h.shortest next g.begins (right_there plan first next section sight (same more.1) h.right)
    ]
  where
    a : Block
    a = instrument_after plan first section

    b : Block
    b = instrument_after plan next section

    up : Follows a b
    up = subst (λ (x : Block). Follows x b) (one_block plan before first section sight right h.right)
        (subst (λ (x : Block). Follows (instrument_after plan before section) x)
        (one_block plan after next section shown right' g.right) (ages_to plan log before after section is legal p q))

    same : length next < length first → a ≡ b
    same lt =
        let begins : IsPrefix next first = shorter_begins next first other g.begins h.begins (omega (arith, lt)) in
        let down : Follows b a = ages_to plan other next first section is legal' begins h.begins in
        up.same (omega (arith, up.rises, down.rises))

-- ---- the board

-- rounds of looks at a line show what any legal history with the same parts shows
pub board_of : (plan : PlanFields) (log other before : List Entry) (rounds : List (List Sight)) (last : List Sight)
    → IsPlan plan → IsLegal plan log → IsLegal plan other → SameParts log other
    → RoundsInTurn plan (rounds ++ last ∷ []) before log → LooksInTurn plan (sections_of plan) last log log
    → IsBoardOf plan other (rounds ++ last ∷ [])
board_of plan log other before rounds last is legal legal' parts turns end = record {
  each = λ r lt.
      looks_each plan (sections_of plan) (get_or all r []) _ _ (round_at plan all before log r turns lt).looks;
  right = λ r k lt within. (let t = round_at plan all before log r turns lt in
      let x = looked_at plan (sections_of plan) (get_or all r []) t.start t.stop k _ first_sight t.looks within in
      right_in_other plan log other x.log (section_in plan k) (sight_in all r k) is (at k within) legal legal' parts
      (prefix_on x.log t.stop log x.within t.within) x.right);
  later = λ r s k first next le lt within h g. ⊎_elim (λ less. different r s k first next less lt within h g)
      (λ more. (let e : r ≡ s = omega (arith, le, more) in
      h.shortest next g.begins (subst (λ (n : ℕ). IsRightAfter plan next (section_in plan k) (sight_in all n k))
      (sym e) g.right))) (cases_lt r s);
  last = λ k some within. (let l = length-append rounds (last ∷ []) in
      let e : length all - 1 ≡ length rounds = omega (arith, l) in
      let is_last : get_or all (length all - 1) [] ≡ last = ap (λ (n : ℕ). get_or all n []) e
      ∙ get_or_push rounds last [] (length rounds) refl in
      let x = looked_at plan (sections_of plan) last log log k _ first_sight end within in
      subst (λ (round : List Sight). IsRightAfter plan other (section_in plan k) (get_or round k first_sight))
      (sym is_last) (right_there plan x.log other (section_in plan k) (get_or last k first_sight)
      (ap (λ (l : List Entry). instrument_after plan l (section_in plan k)) (whole_again x.log x.begins x.within)
      ∙ same_whole plan log other (section_in plan k) is (at k within) legal legal' parts) x.right));
}
  where
    all : List (List Sight)
    all = rounds ++ last ∷ []

    at : (k : ℕ) → k < length (sections_of plan) → IsSection plan (section_in plan k)
    at k within = listed_section plan k within

    whole_again : (there : List Entry) → IsPrefix log there → IsPrefix there log → there ≡ log
    whole_again there p q = whole there log q (longer_than log there p)

    different : (r s k : ℕ) (first next : List Entry) → r < s → s < length all → k < length (sections_of plan)
        → IsFirstRight plan other (section_in plan k) (sight_in all r k) first
        → IsFirstRight plan other (section_in plan k) (sight_in all s k) next → length first ≤ length next
    different r s k first next less lt within h g =
        let t = two_rounds plan all before log r s turns less lt in
        let x = looked_at plan (sections_of plan) (get_or all r []) t.start t.stop k _ first_sight t.looks within in
        let late = t.later in
        let y = looked_at plan (sections_of plan) (get_or all s []) late.start late.stop k _ first_sight late.looks
        within in
        no_earlier plan log other x.log y.log first next (section_in plan k) (sight_in all r k) (sight_in all s k) is
        legal legal' (prefix_on x.log t.stop y.log x.within (prefix_on t.stop late.start y.log late.begins y.begins))
        (prefix_on y.log late.stop log y.within late.within) x.right y.right h g
