-- The most trains that a section held: counted entry by entry, and what they are.
use Rattle.std.proofs.Common.{◌≡◌, ◌⊎◌, ℕ, ◌+◌, ◌<◌, ◌≤◌, max, Bool, true, false, inl, inr, List, [], ◌∷◌, ◌++◌}
use Rattle.std.proofs.Common.{length, drop, get_or, Option, Some, None, refl, sym, ap, subst, ◌∙◌, arith}
use Rattle.std.specs.Prelude.{◌||◌}
use Rattle.std.specs.List.{list_any}
use Rattle.std.proofs.lemmas.Bool.{cases_lt}
use Rattle.std.proofs.lemmas.List.{drop_all, drop_more}
use Rattle.block_words.specs.declared.Way.{Way}
use Rattle.block_words.specs.declared.Way.TheVariants.{Up, Down}
use Rattle.line_plan.specs.Frames.{BoxFields}
use Rattle.line_plan.specs.Plans.{IsPlan, PlanFields}
use Rattle.line_plan.specs.Sections.{IsSection, advance_of, limit_of, section_berth}
use Rattle.line_plan.specs.declared.berth.Berth.{Berth}
use Rattle.line_plan.specs.declared.section.Section.{Section}
use Rattle.line_law.specs.declared.call.Entry.{Entry}
use Rattle.line_law.specs.declared.link.Link.TheVariants.{Out}
use Rattle.line_law.specs.declared.state.BoxState.{BoxState}
use Rattle.line_law.specs.declared.state.PairState.{PairState}
use Rattle.line_law.specs.History.{IsLegal, IsLegalFrom, after_entry, state_after, state_of}
use Rattle.line_law.specs.Law.{MayCall, box_plan_of, step}
use Rattle.line_law.specs.Lines.{IsLineOf, PlainState}
use Rattle.line_law.specs.Links.{pair_no}
use Rattle.line_law.specs.Sections.{IsClean, berth_count, count_of, held_by, spoils}
use Rattle.line_law.specs.States.{LineState, opening_box, opening_pair, opening_state}
use Rattle.line_law.specs.Ways.{of_way}
use Rattle.line_law.proofs.Keeping.{stays}
use Rattle.line_law.proofs.Opens.{all_one, opening_at, opening_pair_at, opens}
use Rattle.line_law.proofs.SectionSteps.{HasBoxes, has_boxes}
use Rattle.train_laws.specs.Authorities.{count_if}
use Rattle.train_laws.proofs.OneTrain.{held_few_before}
use Rattle.line_report.specs.Gains.{count_after, gains, held_after, loses}
use Rattle.line_report.specs.Sections.{most_from, most_of}
use Rattle.line_report.specs.declared.sections.HeldTrains.{HeldTrains}
use Rattle.line_report.proofs.HeldTold.{held_told}

-- ---- what the entries tell

-- the most trains that a section holds, from so many on, as these entries tell
abbrev most_told : PlanFields → Section → ℕ → List Entry → ℕ
most_told plan section held [] = held
most_told plan section held (e ∷ es) = max held (most_told plan section (held_after plan section e held) es)

-- after an entry that the law allows the section holds as many trains as the entry tells
pub after_told : (plan : PlanFields) (plain : PlainState) (e : Entry) (section : Section) → IsPlan plan
    → IsLineOf plan plain → IsSection plan section → MayCall plan plain.line e.box_no e.call
    → e.reply ≡ (step plan plain.line e.box_no e.call).reply
    → held_by plan (after_entry plan plain.line e) section ≡ held_after plan section e (held_by plan plain.line section)
after_told plan plain e section sound line is may told = let held =
    held_told plan plain e section sound line is may told in omega (arith, held)

told_from : (plan : PlanFields) (section : Section) (plain : PlainState) (es : List Entry) → IsPlan plan
    → IsSection plan section → IsLineOf plan plain → IsLegalFrom plan plain.line es
    → most_from plan section plain.line es ≡ most_told plan section (held_by plan plain.line section) es
told_from plan section plain [] sound is line legal = refl
told_from plan section plain (e ∷ es) sound is line legal =
    let next : PlainState = record { line = after_entry plan plain.line e; calls = plain.calls + 1 } in
    let now = after_told plan plain e section sound line is legal.0 legal.1 in
    ap (λ (n : ℕ). max (held_by plan plain.line section) n)
    (told_from plan section next es sound is (stays plan plain e.box_no e.call sound line legal.0.known) legal.2
    ∙ ap (λ (n : ℕ). most_told plan section n es) now)

-- a line opens with no train in a section
opening_berth : (berth : Option Berth) (trains : ℕ) (box_plan : BoxFields)
    → berth_count berth (opening_box trains box_plan) ≡ 0
opening_berth None trains box_plan = refl
opening_berth (Some b) trains box_plan = ap count_of (all_one {A = Option ℕ} (length box_plan.places) b.place None)

opening_line : (way : Way) → length (of_way opening_pair.lines way) ≡ 0
opening_line Up = refl
opening_line Down = refl

-- a section opens with no trains
pub opening_held : (plan : PlanFields) (section : Section) → IsSection plan section
    → held_by plan (opening_state plan) section ≡ 0
opening_held plan section is =
    let has : HasBoxes (length plan.boxes) section = has_boxes (length plan.boxes) section.rear section.way is in
    let box = ap (λ (here : BoxState). berth_count (section_berth plan section) here)
    (opening_at plan (advance_of section) has.advance) ∙ opening_berth (section_berth plan section)
    (length plan.trains) (box_plan_of plan (advance_of section)) in
    let line = ap (λ (pair : PairState). length (of_way pair.lines section.way))
    (opening_pair_at plan (pair_no section.rear (Out section.way))) ∙ opening_line section.way in
    omega (arith, box, line)

-- the entries of a legal history tell the most trains that a section held, from none on
all_told : (plan : PlanFields) (section : Section) (es : List Entry) → IsPlan plan → IsSection plan section
    → IsLegal plan es → most_told plan section 0 es ≡ most_of plan es section
all_told plan section es sound is legal =
    ap (λ (n : ℕ). most_told plan section n es) (sym (opening_held plan section is)) ∙ sym
    (told_from plan section (record { line = opening_state plan; calls = 0 }) es sound is (opens plan) legal)

-- ---- counted so far

-- These are the trains of a section so far, where these entries are left: it never held more than the most, nor more
-- than there were entries; and with what they
-- still tell they make the most of the whole.
pub record IsCounted (plan : PlanFields) (es : List Entry) (section : Section) (i : ℕ) (trains : HeldTrains) : Type 0
  where
    pub held : trains.now ≤ trains.most
    pub few : trains.now ≤ i
    pub all : max trains.most (most_told plan section trains.now (drop i es)) ≡ most_of plan es section

-- before the first entry
pub counted_first : (plan : PlanFields) (es : List Entry) (section : Section) → IsPlan plan → IsSection plan section
    → IsLegal plan es → IsCounted plan es section 0 (record { now = 0; most = 0 })
counted_first plan es section sound is legal =
    let all = all_told plan section es sound is legal in
    record { held = omega arith; few = omega arith; all = omega (arith, all) }

held_first : (plan : PlanFields) (section : Section) (state : LineState) (es : List Entry)
    → held_by plan state section ≤ most_from plan section state es
held_first plan section state [] = omega arith
held_first plan section state (e ∷ es) = omega arith

told_first : (plan : PlanFields) (section : Section) (held : ℕ) (es : List Entry)
    → held ≤ most_told plan section held es
told_first plan section held [] = omega arith
told_first plan section held (e ∷ es) = omega arith

count_if-le : (b : Bool) → count_if b ≤ 1
count_if-le true = omega arith
count_if-le false = omega arith

-- one entry more
pub counted_more : (plan : PlanFields) (es : List Entry) (section : Section) (i : ℕ) (d : Entry) (trains : HeldTrains)
    → i < length es → IsCounted plan es section i trains → IsCounted plan es section (i + 1)
    (count_after plan section (get_or es i d) trains)
counted_more plan es section i d trains lt h =
    let e : Entry = get_or es i d in
    let next : ℕ = held_after plan section e trains.now in
    let rest : List Entry = drop (i + 1) es in
    let all : max trains.most (max trains.now (most_told plan section next rest)) ≡ most_of plan es section =
    subst (λ (xs : List Entry). max trains.most (most_told plan section trains.now xs) ≡ most_of plan es section)
    (drop_more es i d lt) h.all in
    let one = count_if-le (gains plan section e) in
    let few = h.few in
    let held = h.held in
    let first = told_first plan section next rest in
    record { held = omega arith; few = omega (arith, one, few); all = omega (arith, all, held, first) }

-- one entry more, by which the section neither gains a train nor loses one
pub counted_still : (plan : PlanFields) (es : List Entry) (section : Section) (i : ℕ) (d : Entry) (trains : HeldTrains)
    → i < length es → gains plan section (get_or es i d) ≡ false → loses plan section (get_or es i d) ≡ false
    → IsCounted plan es section i trains → IsCounted plan es section (i + 1) trains
counted_still plan es section i d trains lt gained lost h =
    let e : Entry = get_or es i d in
    let no_gain : count_if (gains plan section e) ≡ 0 = ap count_if gained in
    let no_loss : count_if (loses plan section e) ≡ 0 = ap count_if lost in
    let same : held_after plan section e trains.now ≡ trains.now = omega (arith, no_gain, no_loss) in
    let more = counted_more plan es section i d trains lt h in
    let all : max (max trains.most trains.now) (most_told plan section trains.now (drop (i + 1) es))
    ≡ most_of plan es section =
    subst (λ (n : ℕ). max (max trains.most n) (most_told plan section n (drop (i + 1) es)) ≡ most_of plan es section)
    same more.all in
    let held = h.held in
    let few = h.few in
    record { held = held; few = omega (arith, few); all = omega (arith, all, held) }

-- behind the last entry
pub counted_last : (plan : PlanFields) (es : List Entry) (section : Section) (i : ℕ) (trains : HeldTrains)
    → length es ≤ i → IsCounted plan es section i trains → trains.most ≡ most_of plan es section
counted_last plan es section i trains le h =
    let all : max trains.most trains.now ≡ most_of plan es section =
    subst (λ (xs : List Entry). max trains.most (most_told plan section trains.now xs) ≡ most_of plan es section)
    (drop_all i es le) h.all in
    let held = h.held in
    omega (arith, held, all)

-- ---- what they are

-- they are the number held after some of the entries
record IsReached (plan : PlanFields) (section : Section) (state : LineState) (es : List Entry) : Type 0 where
  before : List Entry
  more : List Entry
  is : es ≡ before ++ more
  most : most_from plan section state es ≡ held_by plan (state_after plan state before) section

reached_now : (plan : PlanFields) (section : Section) (state : LineState) (es : List Entry)
    → most_from plan section state es ≡ held_by plan state section → IsReached plan section state es
reached_now plan section state es e = record { before = []; more = es; is = refl; most = e }

reached_from : (plan : PlanFields) (section : Section) (state : LineState) (es : List Entry)
    → IsReached plan section state es
reached_from plan section state [] = reached_now plan section state [] refl
reached_from plan section state (e ∷ es) = go (reached_from plan section (after_entry plan state e) es)
    (max_is (held_by plan state section) (most_from plan section (after_entry plan state e) es)) where
      max_is : (m n : ℕ) → (max m n ≡ m) ⊎ (max m n ≡ n)
      max_is m n = elim (cases_lt m n) [ inl lt ↦ inr (omega (arith, lt)) | inr le ↦ inl (omega (arith, le)) ]

      go : IsReached plan section (after_entry plan state e) es
          → (most_from plan section state (e ∷ es) ≡ held_by plan state section) ⊎
          (most_from plan section state (e ∷ es) ≡ most_from plan section (after_entry plan state e) es)
          → IsReached plan section state (e ∷ es)
      go later (inl now) = reached_now plan section state (e ∷ es) now
      go later (inr then) = record {
        before = e ∷ later.before;
        more = later.more;
        is =
            ap (λ (xs : List Entry). e ∷ xs) later.is;
        most = then ∙ later.most;
      }

-- the most trains that a section held it held after some beginning of the journal
pub most_reached : (plan : PlanFields) (es : List Entry) (section : Section)
    → (before : List Entry) × (more : List Entry) × (es ≡ before ++ more) × (most_of plan es section ≡ held_by plan
    (state_of plan before) section)
most_reached plan es section = let h = reached_from plan section (opening_state plan) es in
    (h.before, h.more, h.is, h.most)

most_after : (plan : PlanFields) (section : Section) (state : LineState) (before more : List Entry)
    → held_by plan (state_after plan state before) section ≤ most_from plan section state (before ++ more)
most_after plan section state [] more = held_first plan section state more
most_after plan section state (e ∷ before) more = let h =
    most_after plan section (after_entry plan state e) before more in omega (arith, h)

-- and it held no more after any other
pub most_bounds : (plan : PlanFields) (before more : List Entry) (section : Section)
    → held_by plan (state_of plan before) section ≤ most_of plan (before ++ more) section
most_bounds plan before more section = most_after plan section (opening_state plan) before more

-- ---- no more than the section may hold

clean_before : (test : Entry → Bool) (es more : List Entry) → list_any test (es ++ more) ≡ false
    → list_any test es ≡ false
clean_before test [] more e = refl
clean_before test (x ∷ es) more e = go (test x) (λ f. clean_before test es more f) e where
  go : (t : Bool) → (list_any test (es ++ more) ≡ false → list_any test es ≡ false) → (t || list_any test (es ++ more))
      ≡ false → (t || list_any test es) ≡ false
  go true later f = f
  go false later f = later f

-- a section of which a journal is clean never held more trains than it may hold
pub one_train_reaches : (plan : PlanFields) (es : List Entry) (section : Section) → IsPlan plan → IsSection plan section
    → IsLegal plan es → IsClean plan section es → most_of plan es section ≤ limit_of plan section
one_train_reaches plan es section is in_line legal clean =
    let h = reached_from plan section (opening_state plan) es in
    let legal_too : IsLegal plan (h.before ++ h.more) = subst (λ (xs : List Entry). IsLegal plan xs) h.is legal in
    let clean_too : IsClean plan section (h.before ++ h.more) =
    subst (λ (xs : List Entry). IsClean plan section xs) h.is clean in
    let few = held_few_before plan h.before h.more section is in_line legal_too
    (clean_before (spoils plan section) h.before h.more clean_too) in
    let most = h.most in
    omega (arith, few, most)
