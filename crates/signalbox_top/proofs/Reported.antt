-- Of what comes of a rehearsal all can be told.
use Rattle.std.proofs.Common.{◌≡◌, ℕ, ◌+◌, ◌<◌, ◌≤◌, ◌^◌, List, [], ◌∷◌, All, length, ap, arith, inl, inr, refl}
use Rattle.std.proofs.lemmas.List.{length-append}
use Rattle.std.proofs.lemmas.List.Elements.{All-cons, All-head, All-nil, All-tail, All-weaker}
use Rattle.std.proofs.lemmas.Option.{slice_get_within}
use Rattle.std.specs.Global.{Vec}
use mathlib.Core.List.{IsPrefix}
use Rattle.line_plan.specs.Plans.{IsPlan, PlanFields}
use Rattle.line_law.specs.declared.call.Entry.{Entry}
use Rattle.line_law.specs.History.{IsLegal}
use Rattle.line_law.specs.Serial.{serial_journal}
use Rattle.line_races.specs.Races.{AreRaces, IsNearestRace, IsRace}
use Rattle.line_races.specs.declared.finding.Race.{Race}
use Rattle.line_report.proofs.Histories.{legal_spelled}
use Rattle.rehearsal_report.specs.Accounts.{IsWithin}
use Rattle.rehearsal_report.specs.CallLines.{NamedText}
use Rattle.script_text.specs.Entries.{IsSpelled}
use Rattle.script_text.specs.Scripts.{most_script_bytes}
use Rattle.script_text.specs.declared.script.Script.{Script}
use Rattle.serial_working.specs.Rosters.{calls_of_scripts}
use Rattle.serial_working.proofs.SerialTurns.{entries_few}
use Rattle.text_fetch.specs.Runs.{AreScriptsOf}
use Rattle.signalbox_top.specs.Top.{named_texts}

-- ---- the journal

-- a beginning is no longer than the whole
short_beginning : (es all : List Entry) → IsPrefix es all → length es ≤ length all
short_beginning es all h =
    let whole = ap (λ (xs : List Entry). length xs) h.1 in omega (arith, whole, length-append es h.0)

-- each entry of a legal history that begins the journal of a line's scripts, made one call at a time, can be
-- spelled
pub journal_spelled : (plan : PlanFields) (scripts : List Script) (es : List Entry) → IsPlan plan
    → AreScriptsOf plan scripts → IsLegal plan es → IsPrefix es (serial_journal plan (calls_of_scripts scripts))
    → All (IsSpelled plan) es
journal_spelled plan scripts es is own legal begins =
    let short = short_beginning es (serial_journal plan (calls_of_scripts scripts)) begins in
    legal_spelled plan es is (omega (arith, short, entries_few plan scripts is own)) legal

-- each entry that can be spelled is of a box of the line
pub entries_there : (plan : PlanFields) (es : List Entry) → All (IsSpelled plan) es
    → All (λ e. e.box_no < length plan.boxes) es
entries_there plan es h = All-weaker (IsSpelled plan) (λ (e : Entry). e.box_no < length plan.boxes) (λ e k. k.box) es h

-- ---- races

race_within : (plan : PlanFields) (es : List Entry) (race : Race) → IsRace plan es race.first race.second
    → IsWithin (length es) race
race_within plan es race (inl meet) =
    let second = slice_get_within es race.second meet.0.second meet.0.second_at in
    record { first = omega (arith, second, meet.0.earlier); second = second }
race_within plan es race (inr seen) =
    let second = slice_get_within es race.second seen.turned.second seen.turned.second_at in
    record { first = omega (arith, second, seen.turned.earlier); second = second }

-- both entries of each race of a journal are among its entries
pub races_within : (plan : PlanFields) (es : List Entry) (races : List Race) → AreRaces plan es races
    → All (IsWithin (length es)) races
races_within plan es races are =
    All-weaker (λ (race : Race). IsNearestRace plan es race.first race.second) (IsWithin (length es))
    (λ race nearest. race_within plan es race nearest.race) races are.each

-- ---- texts

-- where there are as many texts as names, as many texts stand under their names
pub named_length : (names : List (List ℕ)) (texts : List (Vec ℕ)) → length names ≡ length texts
    → length (named_texts names texts) ≡ length texts
named_length [] [] e = refl
named_length [] (text ∷ texts) e = absurd (omega (arith, e))
named_length (name ∷ names) [] e = absurd (omega (arith, e))
named_length (name ∷ names) (text ∷ texts) e = omega (arith, named_length names texts (omega (arith, e)))

-- scripts of few enough bytes to be fetched have fewer than 2^32 bytes under their names too
pub texts_short : (names : List (List ℕ)) (texts : List (Vec ℕ))
    → All (λ text. length text.items ≤ most_script_bytes + 1) texts
    → All (λ text. length text.bytes < 2 ^ 32) (named_texts names texts)
texts_short [] texts h = All-nil (λ (text : NamedText). length text.bytes < 2 ^ 32)
texts_short (name ∷ names) [] h = All-nil (λ (text : NamedText). length text.bytes < 2 ^ 32)
texts_short (name ∷ names) (text ∷ texts) h =
    let P = λ (text : Vec ℕ). length text.items ≤ most_script_bytes + 1 in
    let first = All-head P text texts h in
    All-cons (λ (text : NamedText). length text.bytes < 2 ^ 32) _ (named_texts names texts) (omega (arith, first))
    (texts_short names texts (All-tail P text texts h))
