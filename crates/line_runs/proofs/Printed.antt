-- An output that is printed in parts.
use Rattle.std.proofs.Common.{◌≡◌, ℕ, ◌+◌, ◌≤◌, List, [], ◌∷◌, ◌++◌, drop, length, map, take, Result, Ok, Err, IfOk}
use Rattle.std.proofs.Common.{append_assoc, arith, codes, decimal, refl, sym, ap, ◌∙◌}
use Rattle.std.proofs.lemmas.Result.{IfOk-at_ok}
use Rattle.std.specs.List.{flat_map, sum, sum_by}
use Rattle.std.proofs.lemmas.List.{drop-append-le, length-drop, length-take, length-take-le, map-append}
use Rattle.std.proofs.lemmas.List.{take-append-drop}
use Rattle.std.proofs.lemmas.List.Sums.{sum-map}
use Rattle.line_plan.specs.Plans.{PlanFields}
use Rattle.line_law.specs.declared.call.Entry.{Entry}
use Rattle.line_report.specs.Journals.{entries_text, heading_text, journal_text}
use Rattle.line_report.specs.Refusals.{refusals_text, refused_count, refused_entries}
use Rattle.line_report.proofs.Entries.{entries_text-append}
use Rattle.train_register.specs.Registers.{AreParts, RegisterFields, register_text, registers_text}
use Rattle.train_register.proofs.Parts.{parts_text as registers_whole}
use Rattle.line_runs.specs.Copying.{AreCopied, AreHalves, CopiedFields, one_behind, refusals_heading}
use Rattle.line_runs.specs.Counting.{AreCountsTold}
use Rattle.line_runs.specs.Outputs.{AreInOrder, output_text, rest_text}
use Rattle.line_runs.proofs.Refused.{refused_entries-append}

-- two lists in order are the whole that both are
pub in_order : {E X : Type 0} (front behind result : Result (List X) E) (first second whole : List X)
    → IfOk result (λ both. AreInOrder front behind both)
    → IfOk front (λ xs. xs ≡ first) → IfOk behind (λ xs. xs ≡ second) → first ++ second ≡ whole
    → IfOk result (λ both. both ≡ whole)
in_order front behind (Err fault) first second whole are one two same = tt
in_order {E} {X} front behind (Ok both) first second whole are one two same =
    are.both
    ∙ ap (λ (xs : List X). xs ++ are.second) (IfOk-at_ok (λ xs. xs ≡ first) are.first_is one)
    ∙ ap (λ (xs : List X). first ++ xs) (IfOk-at_ok (λ xs. xs ≡ second) are.second_is two)
    ∙ same

-- what is printed of each of some, in halves
pub each_half : {X : Type 0} (f : X → List ℕ) (xs front behind : List X) → xs ≡ front ++ behind
    → map f front ++ map f behind ≡ map f xs
each_half f xs front behind whole = sym (map-append f front behind) ∙ ap (map f) (sym whole)

-- what is made of each of what was made of each
pub map_twice : {X Y Z : Type 0} (g : Y → Z) (f : X → Y) (xs : List X) → map g (map f xs) ≡ map (λ x. g (f x)) xs
map_twice g f [] = refl
map_twice {X} {Y} {Z} g f (x ∷ xs) = ap (λ (zs : List Z). g (f x) ∷ zs) (map_twice g f xs)

-- the same of a sum
pub sum_twice : {X Y : Type 0} (g : Y → ℕ) (f : X → Y) (xs : List X) → sum_by g (map f xs) ≡ sum_by (λ x. g (f x)) xs
sum_twice {X} {Y} g f xs =
    sym (sum-map g (map f xs)) ∙ ap (λ (ns : List ℕ). sum ns) (map_twice g f xs) ∙ sum-map (λ x. g (f x)) xs

-- the front half of a journal's entries, and the others
pub in_halves : (plan : PlanFields) (es : List Entry) (half : ℕ) (front behind : CopiedFields)
    → AreCopied plan (heading_text plan) 1 (take half es) front → AreCopied plan [] (half + 1) (drop half es) behind
    → half ≤ length es
    → AreHalves plan es front behind
in_halves plan es half front behind first second within =
    let parts : take half es ++ drop half es ≡ es = take-append-drop half es in
    let counted : 1 + length (take half es) ≡ half + 1 = omega (arith, length-take half es, within) in
    record {
      journal = rw (first.journal, second.journal)
          (append_assoc (heading_text plan) (entries_text plan 1 (take half es))
          (entries_text plan (half + 1) (drop half es))
          ∙ ap (λ (t : List ℕ). heading_text plan ++ t)
          (ap (λ (n : ℕ). entries_text plan 1 (take half es) ++ entries_text plan n (drop half es)) (sym counted)
          ∙ (sym (entries_text-append plan 1 (take half es) (drop half es)) ∙ ap (entries_text plan 1) parts)));
      refused = rw (first.refused, second.refused)
          (ap (λ (n : ℕ). refused_entries plan 1 (take half es) ++ refused_entries plan n (drop half es)) (sym counted)
          ∙ (sym (refused_entries-append plan 1 (take half es) (drop half es)) ∙ ap (refused_entries plan 1) parts));
    }

-- the entries behind a place, up to another place and behind that
pub copied_on : (plan : PlanFields) (es : List Entry) (from to : ℕ) (middle last : CopiedFields)
    → AreCopied plan [] (from + 1) (drop from (take to es)) middle → AreCopied plan [] (to + 1) (drop to es) last
    → from ≤ to → to ≤ length es → AreCopied plan [] (from + 1) (drop from es) (one_behind middle last)
copied_on plan es from to middle last first second within fits =
    let inner : List Entry = drop from (take to es) in
    let many : length (take to es) ≡ to = length-take-le to es fits in
    let parts : inner ++ drop to es ≡ drop from es =
    sym (drop-append-le from (take to es) (drop to es) (omega (arith, many, within)))
    ∙ ap (λ (xs : List Entry). drop from xs) (take-append-drop to es) in
    let counted : (from + 1) + length inner ≡ to + 1 =
    omega (arith, length-drop from (take to es), many, within) in
    record {
      journal = rw (first.journal, second.journal)
          (ap (λ (n : ℕ). entries_text plan (from + 1) inner ++ entries_text plan n (drop to es)) (sym counted)
          ∙ (sym (entries_text-append plan (from + 1) inner (drop to es)) ∙ ap (entries_text plan (from + 1)) parts));
      refused = rw (first.refused, second.refused)
          (ap (λ (n : ℕ). refused_entries plan (from + 1) inner ++ refused_entries plan n (drop to es)) (sym counted)
          ∙ (sym (refused_entries-append plan (from + 1) inner (drop to es))
          ∙ ap (refused_entries plan (from + 1)) parts));
    }

-- the texts of registers one after another
pub flat_texts : {X : Type 0} (f : X → List ℕ) (xs : List X) → flat_map (λ text. text) (map f xs) ≡ flat_map f xs
flat_texts f [] = refl
flat_texts f (x ∷ xs) = ap (λ (t : List ℕ). f x ++ t) (flat_texts f xs)

-- the journal's lines stand together, and so do those of the refused calls
regroup : (front behind end registers told refused_front refused_behind sections : List ℕ)
    → front ++ (behind ++ end ++ registers ++ told ++ refused_front ++ refused_behind ++ sections)
    ≡ ((front ++ behind) ++ end) ++ (registers ++ ((told ++ (refused_front ++ refused_behind)) ++ sections))
regroup front behind end registers told refused_front refused_behind sections = simp append_assoc

-- the journal is its first line, the lines of its entries, and its end
journal_is : (plan : PlanFields) (es : List Entry)
    → heading_text plan ++ entries_text plan 1 es ++ codes "end\n" ≡ journal_text plan es
unfolding heading_text journal_text
journal_is plan es =
    ap (λ (t : List ℕ). t ++ codes "end\n")
    (append_assoc (codes "journal " ++ decimal plan.version) (10 ∷ []) (entries_text plan 1 es))

-- the refused calls are their number and their lines
refusals_are : (plan : PlanFields) (es : List Entry)
    → refusals_heading (refused_count es) ++ refused_entries plan 1 es ≡ refusals_text plan es
unfolding refusals_text
refusals_are plan es =
    append_assoc (codes "refusals " ++ decimal (refused_count es)) (10 ∷ []) (refused_entries plan 1 es)

-- the output is the journal, the texts of the registers, and what came of the run
pub output_whole : (plan : PlanFields) (es : List Entry) (registers : List RegisterFields) (front behind : CopiedFields)
    (texts : List (List ℕ)) (heading sections : List ℕ) → AreParts plan es registers
    → texts ≡ map (λ register. register_text plan register.box_no register.entries) registers
    → AreHalves plan es front behind → AreCountsTold plan es heading sections
    → front.journal ++ rest_text behind.journal texts heading front.refused behind.refused sections
    ≡ output_text plan es
unfolding output_text
output_whole plan es registers front behind texts heading sections parts are halves told =
    let registered : flat_map (λ text. text) texts ≡ registers_text plan es =
    ap (flat_map (λ text. text)) are
    ∙ (flat_texts (λ register. register_text plan register.box_no register.entries) registers
    ∙ registers_whole plan es registers parts) in
    let journal : (front.journal ++ behind.journal) ++ codes "end\n" ≡ journal_text plan es =
    ap (λ (t : List ℕ). t ++ codes "end\n") halves.journal ∙ journal_is plan es in
    let refused : heading ++ (front.refused ++ behind.refused) ≡ refusals_text plan es =
    ap (λ (t : List ℕ). t ++ (front.refused ++ behind.refused)) told.before
    ∙ (ap (λ (t : List ℕ). refusals_heading (refused_count es) ++ t) halves.refused ∙ refusals_are plan es) in
    regroup front.journal behind.journal (codes "end\n") (flat_map (λ text. text) texts) heading front.refused
    behind.refused sections
    ∙ (ap (λ (t : List ℕ). t ++ (flat_map (λ text. text) texts
    ++ ((heading ++ (front.refused ++ behind.refused)) ++ sections))) journal
    ∙ (ap (λ (t : List ℕ). journal_text plan es ++ (t ++ ((heading ++ (front.refused ++ behind.refused)) ++ sections)))
    registered
    ∙ (ap (λ (t : List ℕ). journal_text plan es ++ (registers_text plan es ++ (t ++ sections))) refused
    ∙ ap (λ (t : List ℕ). journal_text plan es ++ (registers_text plan es ++ (refusals_text plan es ++ t)))
    told.behind)))
