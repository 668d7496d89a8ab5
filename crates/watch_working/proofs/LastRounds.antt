-- The men and the observer's rounds, when the last round was filled.
use Rattle.std.proofs.Common.{◌≡◌, ℕ, zero, suc, ◌+◌, ◌<◌, List, [], ◌∷◌, ◌++◌, get_or, set, length}
use Rattle.std.proofs.Common.{refl, sym, ap, ◌∙◌, subst, arith}
use Rattle.std.proofs.lemmas.List.{set-get_or}
use mathlib.Core.List.{IsPrefix}
use Rattle.atomic_table.specs.Seated.{TableId}
use Rattle.line_plan.specs.Plans.{PlanFields}
use Rattle.line_law.specs.declared.call.Entry.{Entry}
use Rattle.line_law.specs.History.{part_of}
use Rattle.script_text.specs.declared.script.Script.{Script}
use Rattle.instrument_rule.proofs.Parts.{part-append}
use Rattle.signalman_seats.specs.Men.{Man}
use Rattle.line_working.specs.Working.{DidWork}
use Rattle.line_watch.specs.declared.sight.Sight.{Sight}
use Rattle.line_watch.specs.Watching.{RoundsInTurn}
use Rattle.line_watch.proofs.BoardsShown.{begins_itself, prefix_on, rounds_on}
use Rattle.watch_working.specs.Watched.{FirstHasTaken, HasTaken, IsLastRound, IsWatched}
use Rattle.watch_working.proofs.Taking.{first_taken_on, one_taken, still_of}

-- ---- the men

-- the first man lends a post, and takes it back
pub lends_and_takes : (plan : PlanFields) (before men : List Man) (e e' lent first : Man) → 0 < length before
    → FirstHasTaken plan before men → lent ≡ get_or men 0 e → HasTaken plan (get_or (set men 0 lent) 0 e') first
    → FirstHasTaken plan before (set (set men 0 lent) 0 first)
lends_and_takes plan before men e e' lent first some now same taken =
    subst (λ (ms : List Man). FirstHasTaken plan before (set ms 0 first)) (sym as_it_was)
    (first_taken_on plan before men (set men 0 first) now (one_taken plan men e' first (omega (arith, some, now.each))
    (subst (λ (ms : List Man). HasTaken plan (get_or ms 0 e') first) as_it_was taken)))
  where
    as_it_was : set men 0 lent ≡ men
    as_it_was = ap (λ (m : Man). set men 0 m) same ∙ set-get_or men 0 e

-- a man who has worked his script, and then took back posts
worked_and_took : (table_id : TableId) (plan : PlanFields) (script : Script) (looks : ℕ) (before now after : Man)
    → DidWork table_id plan script looks before now → HasTaken plan now after
    → after.entries ≡ part_of after.box_no after.view.seen → DidWork table_id plan script looks before after
worked_and_took table_id plan script looks before now after did taken part = record {
  of_line = still_of table_id plan now after taken did.of_line;
  box_no = own_box;
  worked = record {
    begins = prefix_on before.view.seen now.view.seen after.view.seen did.worked.begins taken.begins;
    legal = taken.legal;
    grew = (
      did.worked.grew.0,
      sym own_part ∙ (ap (λ (m : Man). m.entries) taken.kept ∙ (did.entries ∙ did.worked.grew.1)),
      did.worked.grew.2,
      did.worked.grew.3,
      ap (λ (m : Man). m.view.looks) taken.kept ∙ did.worked.grew.4,
      did.worked.grew.5,
      did.worked.grew.6,
    );
    glances = ap (λ (m : Man). m.view.glances) taken.kept ∙ did.worked.glances;
  };
  entries = own_part;
  spare = ap (λ (m : Man). m.spare + length script.calls) taken.kept ∙ did.spare;
  moment = ap (λ (m : Man). m.moment) taken.kept ∙ did.moment;
}
  where
    own_box : after.box_no ≡ before.box_no
    own_box = ap (λ (m : Man). m.box_no) taken.kept ∙ did.box_no

    own_part : after.entries ≡ part_of before.box_no after.view.seen
    own_part = part ∙ ap (λ (b : ℕ). part_of b after.view.seen) own_box

-- each of these men has worked his script
abbrev pub HaveWorked : TableId → PlanFields → List Script → ℕ → List Man → List Man → Type 0
HaveWorked table_id plan scripts looks before after = (i : ℕ) (d : Man) (e : Script) → i < length before
    → DidWork table_id plan (get_or scripts i e) looks (get_or before i d) (get_or after i d)

-- men who have worked their scripts have still done so once the first of them has taken back posts
pub all_worked : (table_id : TableId) (plan : PlanFields) (scripts : List Script) (looks : ℕ)
    (before now after : List Man) → length now ≡ length before → HaveWorked table_id plan scripts looks before now
    → FirstHasTaken plan now after
    → ((d : Man) → (get_or after 0 d).entries ≡ part_of (get_or after 0 d).box_no (get_or after 0 d).view.seen)
    → HaveWorked table_id plan scripts looks before after
all_worked table_id plan scripts looks before now after each did took part zero d e lt =
    worked_and_took table_id plan (get_or scripts 0 e) looks (get_or before 0 d) (get_or now 0 d) (get_or after 0 d)
    (did 0 d e lt) (took.taken d) (part d)
all_worked table_id plan scripts looks before now after each did took part (suc i) d e lt =
    subst (λ (m : Man). DidWork table_id plan (get_or scripts (suc i) e) looks (get_or before (suc i) d) m)
    (sym (took.others (suc i) d (omega arith) (omega (arith, lt, each)))) (did (suc i) d e lt)

-- ---- the rounds

-- the part of a box in a beginning
part_begins : (b : ℕ) (xs ys : List Entry) → IsPrefix xs ys → IsPrefix (part_of b xs) (part_of b ys)
part_begins b xs ys p = (part_of b p.0, sym (part-append b xs p.0) ∙ ap (part_of b) p.1)

-- every history begins with nothing
from_nothing : (plan : PlanFields) (rounds : List (List Sight)) (before after : List Entry)
    → RoundsInTurn plan rounds before after → RoundsInTurn plan rounds [] after
from_nothing plan [] before after h = (after, refl)
from_nothing plan (round ∷ rounds) before after h = (h.0, h.1, (h.0, refl), h.3, h.4)

-- what the men have made, and their boxes, when the first took back posts
same_entries : (plan : PlanFields) (now after : List Man) (b : ℕ) (d : Man) → FirstHasTaken plan now after
    → b < length now → ((get_or after b d).entries ≡ (get_or now b d).entries)
    × ((get_or after b d).box_no ≡ (get_or now b d).box_no)
same_entries plan now after zero d took lt =
    (ap (λ (m : Man). m.entries) (took.taken d).kept, ap (λ (m : Man). m.box_no) (took.taken d).kept)
same_entries plan now after (suc b) d took lt =
    let same = took.others (suc b) d (omega arith) lt in
    (ap (λ (m : Man). m.entries) same, ap (λ (m : Man). m.box_no) same)

-- the rounds of men who have worked their scripts, and the last round
pub is_watched : (table_id : TableId) (plan : PlanFields) (scripts : List Script) (e : Script) (looks : ℕ)
    (before now after : List Man) (front : List (List Sight)) (round : List Sight) (began earlier : List Entry)
    → length now ≡ length before → HaveWorked table_id plan scripts looks before now
    → FirstHasTaken plan now after → RoundsInTurn plan front began earlier
    → (last : IsLastRound plan earlier now after round) → IsWatched plan after (front ++ round ∷ []) last.log
is_watched table_id plan scripts e looks before now after front round began earlier each did took turns last = record {
  front = front;
  last = round;
  split = refl;
  in_turn = from_nothing plan (front ++ round ∷ []) began last.log
      (rounds_on plan front round began earlier last.start last.log last.log turns last.begins last.looked
      (begins_itself last.log));
  start = last.start;
  at_last = last.looked;
  entries = λ b d lt. own b d (omega (arith, lt, took.each));
  by_first = last.seen;
}
  where
    own : (b : ℕ) (d : Man) → b < length now
        → IsPrefix (get_or after b d).entries (part_of (get_or after b d).box_no last.start)
    own b d lt =
        let worked = did b d e (omega (arith, lt, each)) in
        let same = same_entries plan now after b d took lt in
        let box : ℕ = (get_or before b d).box_no in
        let seen : List Entry = (get_or now b d).view.seen in
        let part : part_of box seen ≡ (get_or after b d).entries = sym (same.0 ∙ worked.entries) in
        subst (λ (es : List Entry). IsPrefix es (part_of (get_or after b d).box_no last.start)) part
        (subst (λ (c : ℕ). IsPrefix (part_of box seen) (part_of c last.start)) (sym (same.1 ∙ worked.box_no))
        (part_begins box seen last.start (last.gathered b d lt)))
