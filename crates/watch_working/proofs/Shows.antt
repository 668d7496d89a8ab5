-- What the rounds of a line that was watched show of its journal.
use Rattle.std.proofs.Common.{◌≡◌, ◌⊎◌, inl, inr, ℕ, ◌<◌, ◌≤◌}
use Rattle.std.proofs.Common.{List, [], ◌∷◌, ◌++◌, get_or, length, refl, sym, ap, ◌∙◌, subst, arith, append-nil}
use Rattle.std.proofs.lemmas.Bool.{cases_lt}
use mathlib.Core.List.{IsPrefix}
use Rattle.atomic_table.specs.Seated.{TableId}
use Rattle.line_plan.specs.Plans.{IsPlan, PlanFields}
use Rattle.line_plan.specs.Sections.{sections_of}
use Rattle.line_law.specs.declared.call.Entry.{Entry}
use Rattle.line_law.specs.History.{IsLegal, IsLegalFrom, after_entry, part_of}
use Rattle.line_law.specs.States.{LineState, opening_state}
use Rattle.line_law.proofs.Sides.{known_box}
use Rattle.instrument_rule.proofs.Parts.{part-append, part_other, part_own}
use Rattle.train_register.specs.Registers.{AreParts, RegisterFields}
use Rattle.signalman_seats.specs.Lines.{AreMen, Closed}
use Rattle.signalman_seats.specs.Men.{Man}
use Rattle.line_watch.specs.declared.sight.Sight.{Sight}
use Rattle.line_watch.specs.Shown.{IsBoardOf}
use Rattle.line_watch.specs.Watching.{LooksInTurn, RoundsInTurn}
use Rattle.line_watch.proofs.BoardsShown.{board_of, looks_begin, prefix_on}
use Rattle.line_watch.proofs.Firsts.{longer_than, whole}
use Rattle.line_watch.proofs.Traces.{SameParts}
use Rattle.watch_working.specs.Watched.{IsWatched}

-- ---- a history by its parts

-- no box past the last has an entry
none_past : (plan : PlanFields) (state : LineState) (es : List Entry) (b : ℕ) → IsLegalFrom plan state es
    → length plan.boxes ≤ b → part_of b es ≡ []
none_past plan state [] b legal ge = refl
none_past plan state (e ∷ es) b legal ge =
    let within = known_box plan e.box_no e.call legal.0.known in
    part_other b e es (λ is. absurd (omega (arith, within, ge, is)))
    ∙ none_past plan (after_entry plan state e) es b legal.2 ge

-- two legal histories in which each box of the plan has the same part
same_parts : (plan : PlanFields) (log other : List Entry) → IsLegal plan log → IsLegal plan other
    → ((b : ℕ) → b < length plan.boxes → part_of b log ≡ part_of b other) → SameParts log other
same_parts plan log other legal legal' parts b = elim (cases_lt b (length plan.boxes)) [
  | inl lt ↦ parts b lt
  | inr ge ↦ none_past plan (opening_state plan) log b legal ge
      ∙ sym (none_past plan (opening_state plan) other b legal' ge)
]

-- where no box has an entry there is none
no_entry : (es : List Entry) → ((b : ℕ) → part_of b es ≡ []) → es ≡ []
no_entry [] none = refl
no_entry (e ∷ es) none = let own = part_own e.box_no e es refl in let n = none e.box_no in absurd cc

none_between : (xs ys zs : List Entry) → (xs ++ ys) ++ zs ≡ xs → ys ≡ []
none_between [] [] zs e = refl
none_between [] (y ∷ ys) zs e = absurd cc
none_between (x ∷ xs) ys zs e = none_between xs ys zs (cc)

-- a beginning of a history that has all entries of each box is the history
has_all : (start log : List Entry) → IsPrefix start log
    → ((b : ℕ) → IsPrefix (part_of b log) (part_of b start)) → start ≡ log
has_all start log begins parts =
    sym (append-nil start) ∙ (ap (λ (es : List Entry). start ++ es) (sym (no_entry begins.0 none)) ∙ begins.1)
  where
    none : (b : ℕ) → part_of b begins.0 ≡ []
    none b = none_between (part_of b start) (part_of b begins.0) (parts b).0
        (ap (λ (es : List Entry). es ++ (parts b).0) (sym (part-append b start begins.0) ∙ ap (part_of b) begins.1)
        ∙ (parts b).1)

-- ---- the board

some_man : (men : List Man) → 0 < length men → Man
some_man [] lt = absurd (omega (arith, lt))
some_man (man ∷ men) lt = man

-- the rounds of a line that was watched are a board of its journal
pub watched_board : (table_id : TableId) (plan : PlanFields) (men : List Man) (rounds : List (List Sight))
    (log journal : List Entry) (registers : List RegisterFields) → IsPlan plan → AreMen table_id plan men
    → IsWatched plan men rounds log → Closed plan men registers
    → IsLegal plan journal → AreParts plan journal registers → IsBoardOf plan journal rounds
watched_board table_id plan men rounds log journal registers is are watched closed legal parts =
    subst (λ (rs : List (List Sight)). IsBoardOf plan journal rs) (sym watched.split)
    (board_of plan closed.log journal [] watched.front watched.last is closed.legal legal
    (same_parts plan closed.log journal closed.legal legal
    (λ b lt. sym (closed.parts.entries b lt) ∙ parts.entries b lt)) turns looks)
  where
    some : 0 < length men
    some = omega (arith, are.each, is.fewest)

    first : Man
    first = some_man men some

    begins : IsPrefix log closed.log
    begins = prefix_on log (get_or men 0 first).view.seen closed.log (watched.by_first first) (closed.seen 0 first some)

    grows : IsPrefix watched.start log
    grows = looks_begin plan (sections_of plan) watched.last watched.start log watched.at_last

    own : (b : ℕ) → b < length plan.boxes → IsPrefix (part_of b closed.log) (part_of b watched.start)
    own b lt =
        let there : b < length men = omega (arith, are.each, lt) in
        let man : Man = get_or men b first in
        subst (λ (es : List Entry). IsPrefix es (part_of b watched.start))
        (sym (closed.entries b first there) ∙ closed.parts.entries b lt)
        (subst (λ (c : ℕ). IsPrefix man.entries (part_of c watched.start)) (are.box_no b first there)
        (watched.entries b first there))

    each : (b : ℕ) → (b < length plan.boxes) ⊎ (length plan.boxes ≤ b)
        → IsPrefix (part_of b closed.log) (part_of b watched.start)
    each b (inl lt) = own b lt
    each b (inr ge) = subst (λ (es : List Entry). IsPrefix es (part_of b watched.start))
        (sym (none_past plan (opening_state plan) closed.log b closed.legal ge)) (part_of b watched.start, refl)

    from_start : watched.start ≡ closed.log
    from_start = has_all watched.start closed.log (prefix_on watched.start log closed.log grows begins)
        (λ b. each b (cases_lt b (length plan.boxes)))

    at_end : log ≡ closed.log
    at_end = whole log closed.log begins
        (subst (λ (es : List Entry). length es ≤ length log) from_start (longer_than watched.start log grows))

    turns : RoundsInTurn plan (watched.front ++ watched.last ∷ []) [] closed.log
    turns = subst (λ (es : List Entry). RoundsInTurn plan (watched.front ++ watched.last ∷ []) [] es) at_end
        watched.in_turn

    looks : LooksInTurn plan (sections_of plan) watched.last closed.log closed.log
    looks = subst (λ (es : List Entry). LooksInTurn plan (sections_of plan) watched.last es closed.log) from_start
        (subst (λ (es : List Entry). LooksInTurn plan (sections_of plan) watched.last watched.start es) at_end
        watched.at_last)
