-- The journal's lines, copied from the registers that are printed.
use Rattle.std.proofs.Common.{◌≡◌, ◌≢◌, ℕ, zero, suc, ◌+◌, ◌<◌, ◌≤◌, ◌^◌, true, false, eqb, not, List, [], ◌∷◌, ◌++◌}
use Rattle.std.proofs.Common.{length, map, drop, get_or, slice_set, Option, Some, refl, sym, ap, subst, ◌∙◌}
use Rattle.std.proofs.Common.{append_assoc}
use Rattle.std.proofs.Common.{arith, codes, decimal, ◌⊎◌, inl, inr}
use Rattle.std.proofs.lemmas.List.{drop-drop, length-drop}
use Rattle.std.specs.Option.{unwrap_or}
use Rattle.std.specs.Prelude.{All}
use Rattle.std.proofs.lemmas.List.Elements.{All-head, All-tail}
use Rattle.std.proofs.lemmas.Bool.{eq-eqb}
use Rattle.std.proofs.lemmas.Bool.Decides.{eqb_tells}
use Rattle.std.proofs.lemmas.List.{append-nil, get_or-map, get_or-set_other, get_or-set_same, length-append}
use Rattle.std.proofs.lemmas.List.{length-map, length-set}
use Rattle.std.proofs.lemmas.List.Elements.{filter-append}
use Rattle.std.proofs.lemmas.List.Filters.{length-filter_both}
use Rattle.rail_text.specs.Lines.{cut_of, lacks}
use Rattle.rail_text.specs.Words.{is_name}
use Rattle.rail_text.proofs.PrintedLines.{both, not_true}
use Rattle.rail_text.proofs.PrintedWords.{decimal_is_word, list_all-both, name_is_word, word_lacks_line_end}
use Rattle.rail_text.proofs.PrintedWords.{word_lacks_space}
use Rattle.line_plan.specs.Plans.{IsPlan, PlanFields, box_name, names_of}
use Rattle.line_law.specs.declared.call.Entry.{Entry}
use Rattle.line_law.specs.History.{part_of}
use Rattle.script_text.specs.Entries.{IsSpelled, told_text}
use Rattle.script_text.proofs.Named.{valid_at}
use Rattle.train_register.specs.Registers.{AreParts, RegisterFields, no_register, register_at, register_text}
use Rattle.train_register.specs.Registers.{told_line, told_lines}
use Rattle.line_report.specs.Asked.{AreFewEntries}
use Rattle.line_report.proofs.EntryLines.{line_lacks_end}
use Rattle.line_journal.proofs.Exchange.{part_other}
use Rattle.line_journal.proofs.Walks.{own_part}
use Rattle.line_runs.specs.Copying.{AreLinesLeft, AreToldLines, behind_line, told_in}

-- a text is cut at the first such byte
cut_front : (c : ℕ) (front rest : List ℕ) → lacks c front ≡ true → cut_of c (front ++ c ∷ rest) ≡ (front, Some rest)
cut_front c [] rest h = let is : eqb c c ≡ true = eq-eqb c c refl in rw is refl
cut_front c (b ∷ bs) rest h =
    let p = both (not (eqb b c)) (lacks c bs) h in
    let other : eqb b c ≡ false = not_true (eqb b c) p.0 in
    rw (other, cut_front c bs rest p.1) refl

-- ---- the line of an entry

lacks_behind : (c : ℕ) (xs ys : List ℕ) → lacks c (xs ++ ys) ≡ true → lacks c ys ≡ true
lacks_behind c [] ys h = h
lacks_behind c (x ∷ xs) ys h = lacks_behind c xs ys (both (not (eqb x c)) (lacks c (xs ++ ys)) h).1

-- what is told of an entry stands on one line
told_single : (plan : PlanFields) (n : ℕ) (e : Entry) → IsPlan plan → n < 10 ^ 10 → IsSpelled plan e
    → lacks 10 (told_text plan e) ≡ true
told_single plan n e is few spelled =
    lacks_behind 10 (32 ∷ []) (told_text plan e)
    (lacks_behind 10 (decimal n ++ 32 ∷ box_name plan e.box_no) (32 ∷ told_text plan e)
    (line_lacks_end plan n e is few spelled))

line_cut : (plan : PlanFields) (n : ℕ) (e : Entry) (rest : List ℕ) → IsPlan plan → n < 10 ^ 10 → IsSpelled plan e
    → cut_of 10 (told_line plan n e ++ rest) ≡ (decimal n ++ 32 ∷ told_text plan e, Some rest)
unfolding told_line
line_cut plan n e rest is few spelled =
    let text : told_line plan n e ++ rest ≡ (decimal n ++ 32 ∷ told_text plan e) ++ 10 ∷ rest = simp append_assoc in
    ap (cut_of 10) text
    ∙ cut_front 10 (decimal n ++ 32 ∷ told_text plan e) rest
    (list_all-both (λ b. not (eqb b 10)) (decimal n) (32 ∷ told_text plan e)
    (word_lacks_line_end (decimal n) (decimal_is_word n few)) (told_single plan n e is few spelled))

told_of_line : (plan : PlanFields) (n : ℕ) (e : Entry) (rest : List ℕ) → IsPlan plan → n < 10 ^ 10 → IsSpelled plan e
    → told_in (told_line plan n e ++ rest) ≡ told_text plan e
told_of_line plan n e rest is few spelled =
    ap (λ (cut : List ℕ × Option (List ℕ)). unwrap_or (cut_of 32 cut.0).1 []) (line_cut plan n e rest is few spelled)
    ∙ ap (λ (cut : List ℕ × Option (List ℕ)). unwrap_or cut.1 [])
    (cut_front 32 (decimal n) (told_text plan e) (word_lacks_space (decimal n) (decimal_is_word n few)))

behind_of_line : (plan : PlanFields) (n : ℕ) (e : Entry) (rest : List ℕ) → IsPlan plan → n < 10 ^ 10
    → IsSpelled plan e → behind_line (told_line plan n e ++ rest) ≡ rest
behind_of_line plan n e rest is few spelled =
    ap (λ (cut : List ℕ × Option (List ℕ)). unwrap_or cut.1 []) (line_cut plan n e rest is few spelled)

-- ---- the lines of a register

-- they stand behind its first line
lines_of_register : (plan : PlanFields) (b : ℕ) (es : List Entry) → IsPlan plan → b < length plan.boxes
    → length es < 10 ^ 10 → behind_line (register_text plan b es) ≡ told_lines plan 1 es
unfolding register_text
lines_of_register plan b es is at few =
    let name : List ℕ = box_name plan b in
    let head : List ℕ = codes "register " ++ name ++ 32 ∷ decimal (length es) in
    let named : is_name name ≡ true =
    valid_at is_name (names_of plan.boxes) b is.named
    (omega (arith, at, length-map plan.boxes (λ box_plan. box_plan.name))) in
    let single : lacks 10 head ≡ true =
    list_all-both (λ b. not (eqb b 10)) (codes "register ") (name ++ 32 ∷ decimal (length es)) refl
    (list_all-both (λ b. not (eqb b 10)) name (32 ∷ decimal (length es))
    (word_lacks_line_end name (name_is_word name named))
    (word_lacks_line_end (decimal (length es)) (decimal_is_word (length es) few))) in
    let text : register_text plan b es ≡ head ++ 10 ∷ told_lines plan 1 es = simp append_assoc in
    ap (λ (t : List ℕ). behind_line t) text
    ∙ ap (λ (cut : List ℕ × Option (List ℕ)). unwrap_or cut.1 []) (cut_front 10 head (told_lines plan 1 es) single)

length-part : (b : ℕ) (es : List Entry) → length (part_of b es) ≤ length es
length-part b es =
    omega (
      arith,
      length-filter_both (λ (e : Entry). eqb e.box_no b) (λ (e : Entry). not (eqb e.box_no b)) (λ _. refl) es,
    )

-- of registers that are printed, the lines of all entries are left
pub all_left : (plan : PlanFields) (es : List Entry) (registers : List RegisterFields) → IsPlan plan → AreFewEntries es
    → AreParts plan es registers → AreLinesLeft plan es
    (map behind_line (map (λ register. register_text plan register.box_no register.entries) registers))
all_left plan es registers is few parts = record {
  each = length-map texts behind_line ∙ (length-map registers text ∙ parts.each);
  told = λ b at.
      let in_line : b < length registers = omega (arith, at, parts.each) in
      let short : length (part_of b es) < 10 ^ 10 = omega (arith, few, length-part b es) in
      let of_box : text (register_at registers b) ≡ register_text plan b (part_of b es) =
      rw (parts.boxes b at, parts.entries b at) refl in (
        1,
        omega (arith, few, length-part b es),
        (
          [],
          get_or-map behind_line texts b [] [] (omega (arith, in_line, length-map registers text))
              ∙ (ap (λ (t : List ℕ). behind_line t) (get_or-map text registers b no_register [] in_line ∙ of_box)
              ∙ (lines_of_register plan b (part_of b es) is at short
              ∙ sym (append-nil (told_lines plan 1 (part_of b es))))),
        ),
      );
} where
  text : RegisterFields → List ℕ
  text register = register_text plan register.box_no register.entries

  texts : List (List ℕ)
  texts = map text registers

-- ---- an entry more

-- the lines of its box's register are its own, and those of the entries behind it
own_lines : (plan : PlanFields) (e : Entry) (es : List Entry) (lines : List (List ℕ)) → IsSpelled plan e
    → AreLinesLeft plan (e ∷ es) lines → AreToldLines plan (e ∷ part_of e.box_no es) (get_or lines e.box_no [])
own_lines plan e es lines spelled left =
    subst (λ (own : List Entry). AreToldLines plan own (get_or lines e.box_no [])) (own_part e es)
    (left.told e.box_no spelled.box)

told_next : (plan : PlanFields) (e : Entry) (es : List Entry) (lines : List (List ℕ)) → IsPlan plan
    → IsSpelled plan e → AreLinesLeft plan (e ∷ es) lines → told_in (get_or lines e.box_no []) ≡ told_text plan e
told_next plan e es lines is spelled left =
    let own = own_lines plan e es lines spelled left in
    let few : own.0 < 10 ^ 10 = omega (arith, own.1) in
    let later : List ℕ = told_lines plan (own.0 + 1) (part_of e.box_no es) in
    ap (λ (t : List ℕ). told_in t) (own.2.1 ∙ append_assoc (told_line plan own.0 e) later own.2.0)
    ∙ told_of_line plan own.0 e (later ++ own.2.0) is few spelled

left_next : (plan : PlanFields) (e : Entry) (es : List Entry) (lines : List (List ℕ)) → IsPlan plan
    → IsSpelled plan e → AreLinesLeft plan (e ∷ es) lines
    → AreLinesLeft plan es (slice_set lines e.box_no (behind_line (get_or lines e.box_no [])))
left_next plan e es lines is spelled left = record {
  each = length-set lines e.box_no (behind_line (get_or lines e.box_no [])) ∙ left.each;
  told = λ b at. by_box b at (eqb_tells e.box_no b);
} where
  new : List (List ℕ)
  new = slice_set lines e.box_no (behind_line (get_or lines e.box_no []))

  here : AreToldLines plan (part_of e.box_no es) (get_or new e.box_no [])
  here =
      let own = own_lines plan e es lines spelled left in
      let few : own.0 < 10 ^ 10 = omega (arith, own.1) in
      let later : List ℕ = told_lines plan (own.0 + 1) (part_of e.box_no es) in (
        own.0 + 1,
        omega (arith, own.1),
        (
          own.2.0,
          get_or-set_same lines e.box_no (behind_line (get_or lines e.box_no [])) []
              (omega (arith, spelled.box, left.each))
              ∙ (ap (λ (t : List ℕ). behind_line t) (own.2.1 ∙ append_assoc (told_line plan own.0 e) later own.2.0)
              ∙ behind_of_line plan own.0 e (later ++ own.2.0) is few spelled),
        ),
      )

  by_box : (b : ℕ) → b < length plan.boxes
      → ((eqb e.box_no b ≡ true) × (e.box_no ≡ b)) ⊎ ((eqb e.box_no b ≡ false) × (e.box_no ≢ b))
      → AreToldLines plan (part_of b es) (get_or new b [])
  by_box b at (inl same) = subst (λ (k : ℕ). AreToldLines plan (part_of k es) (get_or new k [])) same.1 here
  by_box b at (inr other) =
      let own = left.told b at in
      let part : part_of b (e ∷ es) ≡ part_of b es = part_other e es b other.0 in
      subst (λ (t : List ℕ). AreToldLines plan (part_of b es) t)
      (sym
      (get_or-set_other lines e.box_no b (behind_line (get_or lines e.box_no [])) [] (λ is_box. other.1 (sym is_box))))
      (subst (λ (own_entries : List Entry). AreToldLines plan own_entries (get_or lines b [])) part own)

-- ---- the front entries alone

told_lines-append : (plan : PlanFields) (n : ℕ) (es fs : List Entry)
    → told_lines plan n (es ++ fs) ≡ told_lines plan n es ++ told_lines plan (n + length es) fs
told_lines-append plan n [] fs = ap (λ (k : ℕ). told_lines plan k fs) (omega arith)
told_lines-append plan n (e ∷ es) fs =
    let moved : (n + 1) + length es ≡ n + length (e ∷ es) = omega arith in
    ap (λ (t : List ℕ). told_line plan n e ++ t) (told_lines-append plan (n + 1) es fs)
    ∙ sym (append_assoc (told_line plan n e) (told_lines plan (n + 1) es) (told_lines plan ((n + 1) + length es) fs))
    ∙ ap (λ (k : ℕ). (told_line plan n e ++ told_lines plan (n + 1) es) ++ told_lines plan k fs) moved

-- where the lines of all are left, those of the front ones are
pub left_in_front : (plan : PlanFields) (es fs : List Entry) (lines : List (List ℕ))
    → AreLinesLeft plan (es ++ fs) lines → AreLinesLeft plan es lines
left_in_front plan es fs lines left = record { each = left.each; told = in_front } where
  in_front : (b : ℕ) → b < length plan.boxes → AreToldLines plan (part_of b es) (get_or lines b [])
  in_front b at =
      let own = left.told b at in
      let front : List Entry = part_of b es in
      let behind : List Entry = part_of b fs in
      let whole : part_of b (es ++ fs) ≡ front ++ behind = filter-append (λ (e : Entry). eqb e.box_no b) es fs in
      let many : length (part_of b (es ++ fs)) ≡ length front + length behind =
      ap length whole ∙ length-append front behind in (
        own.0,
        omega (arith, own.1, many),
        (
          told_lines plan (own.0 + length front) behind ++ own.2.0,
          own.2.1
              ∙ (ap (λ (all : List Entry). told_lines plan own.0 all ++ own.2.0) whole
              ∙ (ap (λ (t : List ℕ). t ++ own.2.0) (told_lines-append plan own.0 front behind)
              ∙ append_assoc (told_lines plan own.0 front) (told_lines plan (own.0 + length front) behind) own.2.0)),
        ),
      )

-- ---- the next entry

-- what is read of a place that is there doesn't depend on what stands for one that isn't
read_any : (lines : List (List ℕ)) (k : ℕ) (d e : List ℕ) → k < length lines → get_or lines k d ≡ get_or lines k e
read_any [] k d e lt = absurd (omega arith)
read_any (line ∷ lines) zero d e lt = refl
read_any (line ∷ lines) (suc k) d e lt = read_any lines k d e (omega arith)

-- the first entry ahead can be spelled, and so can the others
pub spelled_ahead : {plan : PlanFields} {ahead rest : List Entry} {e : Entry} → All (IsSpelled plan) ahead
    → ahead ≡ e ∷ rest → IsSpelled plan e × All (IsSpelled plan) rest
spelled_ahead {plan} {ahead} {rest} {e} spelled next =
    let here : All (IsSpelled plan) (e ∷ rest) = subst (λ (es : List Entry). All (IsSpelled plan) es) next spelled in
    (All-head (IsSpelled plan) e rest here, All-tail (IsSpelled plan) e rest here)

-- their numbers are no greater
pub fewer_ahead : (n : ℕ) {ahead rest : List Entry} {e : Entry} {most : ℕ} → ahead ≡ e ∷ rest → n + length ahead < most
    → n + 1 + length rest < most
fewer_ahead n {ahead} {rest} {e} {most} next few =
    let long = ap (λ (es : List Entry). length es) next in
    omega (arith, long, few)

-- those behind it
pub rest_ahead : (n : ℕ) (all : List Entry) {ahead rest : List Entry} {e : Entry} → ahead ≡ drop n all
    → ahead ≡ e ∷ rest → rest ≡ drop (n + 1) all
rest_ahead n all {ahead} {rest} {e} was next =
    ap (λ (es : List Entry). drop 1 es) (sym next ∙ was) ∙ drop-drop 1 n all

-- some are ahead of the first that there are
pub some_ahead : (n many : ℕ) (all : List Entry) {ahead : List Entry} → ahead ≡ drop n all → ahead ≡ [] → n < many
    → many ≤ length all → ⊥
some_ahead n many all {ahead} was none within fits =
    let long = length-drop n all in
    let same = ap (λ (es : List Entry). length es) (sym was ∙ none) in
    omega (arith, long, same, within, fits)

-- the register of its box is one of those that are left
pub box_ahead : {plan : PlanFields} {ahead rest : List Entry} {e : Entry} {lines : List (List ℕ)}
    → All (IsSpelled plan) ahead → AreLinesLeft plan ahead lines → ahead ≡ e ∷ rest → e.box_no < length lines
box_ahead {plan} {ahead} {rest} {e} {lines} spelled left next =
    omega (arith, (spelled_ahead spelled next).0.box, left.each)

-- of the lines that are left, the next in the register of its box tells of the first entry ahead
pub told_ahead : {plan : PlanFields} {ahead rest : List Entry} {e : Entry} {lines : List (List ℕ)} (other : List ℕ)
    {told : List ℕ} → IsPlan plan → All (IsSpelled plan) ahead → AreLinesLeft plan ahead lines → ahead ≡ e ∷ rest
    → told ≡ told_in (get_or lines e.box_no other) → told ≡ told_text plan e
told_ahead {plan} {ahead} {rest} {e} {lines} other {told} is spelled left next told_is =
    let here : AreLinesLeft plan (e ∷ rest) lines = subst (λ (es : List Entry). AreLinesLeft plan es lines) next left in
    let can = (spelled_ahead spelled next).0 in
    let read : get_or lines e.box_no other ≡ get_or lines e.box_no [] =
    read_any lines e.box_no other [] (omega (arith, can.box, left.each)) in
    told_is ∙ (ap (λ (t : List ℕ). told_in t) read ∙ told_next plan e rest lines is can here)

-- behind the next line of the register of the first entry ahead, the lines that are left are those of the other
-- entries
pub left_ahead : {plan : PlanFields} {ahead rest : List Entry} {e : Entry} {lines : List (List ℕ)} (other : List ℕ)
    {behind : List ℕ} → IsPlan plan → All (IsSpelled plan) ahead → AreLinesLeft plan ahead lines
    → ahead ≡ e ∷ rest → behind ≡ behind_line (get_or lines e.box_no other)
    → AreLinesLeft plan rest (slice_set lines e.box_no behind)
left_ahead {plan} {ahead} {rest} {e} {lines} other {behind} is spelled left next behind_is =
    let here : AreLinesLeft plan (e ∷ rest) lines = subst (λ (es : List Entry). AreLinesLeft plan es lines) next left in
    let can = (spelled_ahead spelled next).0 in
    let read : get_or lines e.box_no other ≡ get_or lines e.box_no [] =
    read_any lines e.box_no other [] (omega (arith, can.box, left.each)) in
    subst (λ (t : List ℕ). AreLinesLeft plan rest (slice_set lines e.box_no t))
    (sym (behind_is ∙ ap (λ (t : List ℕ). behind_line t) read)) (left_next plan e rest lines is can here)

-- its line is the first of those of the entries ahead
pub line_ahead : (told line rest : List ℕ) {new all whole : List ℕ} → new ≡ told ++ line → told ++ all ≡ whole
    → all ≡ line ++ rest → new ++ rest ≡ whole
line_ahead told line rest {new} {all} {whole} put before first =
    ap (λ (t : List ℕ). t ++ rest) put ∙ append_assoc told line rest ∙ ap (λ (t : List ℕ). told ++ t) (sym first)
    ∙ before
