-- A typed line comes to the call that it spells in full, and to no other.
use Rattle.std.proofs.Common.{◌≡◌, ℕ, ◌<◌, ◌≤◌, Bool, true, false, cond, ltb, List, [], ◌∷◌, length, filter}
use Rattle.std.proofs.Common.{Option, Some, None, Result, Ok, Err, IfOk, ◌↔◌, refl, sym, ap, subst, ◌∙◌, arith}
use Rattle.std.specs.List.{list_all, join_with_byte}
use Rattle.std.proofs.lemmas.Bool.{le-ltb, ltb-false}
use Rattle.rail_text.specs.Gives.{◌>>=◌}
use Rattle.rail_text.specs.Lines.{lacks, words_of}
use Rattle.rail_text.specs.Words.{keyword}
use Rattle.rail_text.specs.declared.cause.Cause.{Cause}
use Rattle.rail_text.specs.declared.cause.Cause.TheVariants as causes
use Rattle.rail_text.proofs.PrintedLines.{both, words_are, words_of-next, words_of-word}
use Rattle.rail_text.proofs.PrintedWords.{word_lacks_space}
use Rattle.line_plan.specs.Plans.{PlanFields, IsPlan}
use Rattle.line_law.specs.Known.{moments_of}
use Rattle.line_law.specs.declared.call.Act.{Act}
use Rattle.line_law.specs.declared.call.Call.{Call}
use Rattle.script_text.specs.Acts.{act_of}
use Rattle.script_text.specs.Calls.{call_of, call_in, moment_in, timed}
use Rattle.script_text.specs.Moments.{moment_of, moment_text}
use Rattle.script_text.specs.Scripts.{not_falling}
use Rattle.script_text.specs.Spelled.{SpellsCall}
use Rattle.script_text.proofs.CallTexts.{printed_call, spelled_call}
use Rattle.script_text.proofs.MomentTexts.{day_is_short, moment_is_word, printed_moment, spelled_moment}
use Rattle.typed_words.specs.declared.table.Command.{Command}
use Rattle.typed_words.specs.declared.table.Command.TheVariants as commands
use Rattle.typed_words.specs.declared.table.WordKind.TheVariants as kinds
use Rattle.typed_words.specs.declared.typed.Typed.{Typed}
use Rattle.typed_words.specs.Table.{command_of}
use Rattle.typed_words.specs.Chosen.{Misread, Row, meant}
use Rattle.typed_words.specs.Lines.{call_in_full, full_line, is_timed, line_in_full, timed_in_full, typed_words}
use Rattle.typed_words.specs.Lines.{unless_command, untimed_in_full, with_moment}
use Rattle.typed_words.specs.Typed.{TypedLine, TypesCall, call_read, chosen_read, command_read, last_read, later_moment}
use Rattle.typed_words.specs.Typed.{line_read, no_words, or_refused, shown, the_one, timed_read, told, untimed_read}
use Rattle.typed_words.specs.Typed.{words_read}

-- ---- a line by its first word

-- words with a first that has no space, joined, begin with it
pub first_joined : (first : List ℕ) (words : List (List ℕ)) → lacks 32 first ≡ true
    → keyword (words_of (join_with_byte 32 (first ∷ words))) ≡ first
first_joined first [] h = ap keyword (words_of-word first h)
first_joined first (word ∷ words) h = ap keyword (words_of-next first (join_with_byte 32 (word ∷ words)) h)

filter_keeps : (p q : List ℕ → Bool) (words : List (List ℕ)) → list_all p words ≡ true
    → list_all p (filter q words) ≡ true
filter_keeps p q [] h = refl
filter_keeps p q (word ∷ words) h =
    let k = both (p word) (list_all p words) h in go (q word) k.0 (filter_keeps p q words k.1) where
      go : (t : Bool) → p word ≡ true → list_all p (filter q words) ≡ true
          → list_all p (cond t (word ∷ filter q words) (filter q words)) ≡ true
      go true here rest = rw here rest
      go false here rest = rest

-- no typed word has a space
pub typed_lack : (line : List ℕ) → list_all (lacks 32) (typed_words line) ≡ true
typed_lack line = filter_keeps (lacks 32) _ (words_of line) (words_are line).single

moment_lacks : (version m : ℕ) → m < moments_of version → lacks 32 (moment_text version m) ≡ true
moment_lacks version m h =
    word_lacks_space (moment_text version m) (moment_is_word version m (day_is_short version m h)).word

-- ---- what a script's reader reads

moment_got : Result Call Cause → Result ℕ Cause
moment_got (Ok call) = Ok call.moment
moment_got (Err cause) = Err cause

-- the moment of a call is that of the first word of its line
kept : (plan : PlanFields) (b : ℕ) (first : List ℕ) (words : List (List ℕ)) (call : Call) → lacks 32 first ≡ true
    → call_of plan b (join_with_byte 32 (first ∷ words)) ≡ Ok call
    → timed (moment_of plan.version first) ≡ Ok call.moment
unfolding call_of call_in moment_in moment_got
kept plan b first words call h e =
    ap (λ (word : List ℕ). timed (moment_of plan.version word)) (sym (first_joined first words h))
    ∙ go (timed (moment_of plan.version (keyword ws))) (act_of plan b ws) e where
      ws : List (List ℕ)
      ws = words_of (join_with_byte 32 (first ∷ words))

      go : (r : Result ℕ Cause) (s : Result Act Cause)
          → (r >>= (λ moment. s >>= (λ act. Ok (record { moment = moment; act = act })))) ≡ Ok call → r ≡ Ok call.moment
      go (Ok moment) (Ok act) e = ap moment_got e
      go (Ok moment) (Err cause) e = absurd cc
      go (Err cause) s e = absurd cc

read_is : (plan : PlanFields) (b : ℕ) (first : List ℕ) (words : List (List ℕ)) (call : Call)
    → call_read plan b first words ≡ Ok (TypedLine.Call call)
    → call_of plan b (join_with_byte 32 (first ∷ words)) ≡ Ok call
unfolding call_read
read_is plan b first words call e = go (call_of plan b (join_with_byte 32 (first ∷ words))) e where
  go : (r : Result Call Cause) → (or_refused r >>= (λ c. Ok (TypedLine.Call c))) ≡ Ok (TypedLine.Call call)
      → r ≡ Ok call
  go (Ok c) e = cc
  go (Err cause) e = absurd cc

is_read : (plan : PlanFields) (b : ℕ) (first : List ℕ) (words : List (List ℕ)) (call : Call)
    → call_of plan b (join_with_byte 32 (first ∷ words)) ≡ Ok call
    → call_read plan b first words ≡ Ok (TypedLine.Call call)
unfolding call_read
is_read plan b first words call e = rw e refl

-- ---- moments that don't fall

record IsLater (version last moment : ℕ) (word : List ℕ) : Type 0 where
  spelled : timed (moment_of version word) ≡ Ok moment
  later : last ≤ moment

later_is : (version last : ℕ) (word : List ℕ) (moment : ℕ) → later_moment version last word ≡ Ok moment
    → IsLater version last moment word
unfolding later_moment
later_is version last word moment e = go (timed (moment_of version word)) refl e where
  test : (n : ℕ) → timed (moment_of version word) ≡ Ok n → (t : Bool) → ltb n last ≡ t
      → cond t (Err causes.MomentFalls) (Ok n) ≡ Ok moment → IsLater version last moment word
  test n h true f e = absurd cc
  test n h false f e =
      let same : n ≡ moment = cc in
      record { spelled = h ∙ ap Ok same; later = subst (λ (x : ℕ). last ≤ x) same (ltb-false n last f) }

  go : (r : Result ℕ Cause) → timed (moment_of version word) ≡ r → (r >>= not_falling last) ≡ Ok moment
      → IsLater version last moment word
  go (Ok n) h e = test n h (ltb n last) refl e
  go (Err cause) h e = absurd cc

is_later : (version last : ℕ) (word : List ℕ) (moment : ℕ) → timed (moment_of version word) ≡ Ok moment
    → last ≤ moment → later_moment version last word ≡ Ok moment
unfolding later_moment
is_later version last word moment e l =
    let test : ltb moment last ≡ false = le-ltb _ _ l in
    rw (e, test) refl

-- ---- a line in full that spells the call

-- there is a line in full, it spells the call, and its moment isn't below the last
record Told (plan : PlanFields) (b last : ℕ) (full : Option (List ℕ)) (call : Call) : Type 0 where
  text : List ℕ
  is : full ≡ Some text
  spelled : SpellsCall plan b text call
  later : last ≤ call.moment

told_read : (plan : PlanFields) (b last : ℕ) (text : List ℕ) (call : Call) → IsPlan plan
    → Told plan b last (Some text) call → call_of plan b text ≡ Ok call
told_read plan b last text call p t =
    let i : Some text ≡ Some t.text = t.is in
    let e : text ≡ t.text = cc in
    ap (call_of plan b) (e ∙ t.spelled.printed) ∙ printed_call plan b call p t.spelled.known

-- a line with a moment in front
timed_told : (plan : PlanFields) (b last : ℕ) (first : List ℕ) (words : List (List ℕ)) (call : Call)
    → b < length plan.boxes → lacks 32 first ≡ true
    → timed_read plan b last first words ≡ Ok (TypedLine.Call call)
    → Told plan b last (with_moment first (unless_command None (timed_in_full words))) call
unfolding timed_read
timed_told plan b last first words call at h e =
    go (later_moment plan.version last first) refl (timed_in_full words) e where
      go : (r : Result ℕ Cause) → later_moment plan.version last first ≡ r → (f : Result (List (List ℕ)) Misread)
          → (or_refused r >>= (λ moment. f >>= (λ full. call_read plan b first full))) ≡ Ok (TypedLine.Call call)
          → Told plan b last (with_moment first (unless_command None f)) call
      go (Ok moment) l (Ok full) e =
          let c = read_is plan b first full call e in
          let is = later_is plan.version last first moment l in
          let one = is.spelled in
          let other = kept plan b first full call h c in
          let same : moment ≡ call.moment = cc in
          record {
            text = join_with_byte 32 (first ∷ full);
            is = refl;
            spelled = spelled_call plan b (join_with_byte 32 (first ∷ full)) call at c;
            later = subst (λ (x : ℕ). last ≤ x) same is.later;
          }
      go (Ok moment) l (Err what) e = absurd cc
      go (Err cause) l f e = absurd cc

told_timed : (plan : PlanFields) (b last : ℕ) (first : List ℕ) (words : List (List ℕ)) (call : Call) → IsPlan plan
    → lacks 32 first ≡ true → Told plan b last (with_moment first (unless_command None (timed_in_full words))) call
    → timed_read plan b last first words ≡ Ok (TypedLine.Call call)
unfolding timed_read
told_timed plan b last first words call p h t = go (timed_in_full words) t where
  go : (f : Result (List (List ℕ)) Misread) → Told plan b last (with_moment first (unless_command None f)) call
      → (or_refused (later_moment plan.version last first) >>= (λ moment. f >>= (λ full. call_read plan b first full)))
      ≡ Ok (TypedLine.Call call)
  go (Ok full) t =
      let c = told_read plan b last (join_with_byte 32 (first ∷ full)) call p t in
      let l = is_later plan.version last first call.moment (kept plan b first full call h c) t.later in
      rw l (is_read plan b first full call c)
  go (Err what) t = let none : None ≡ Some t.text = t.is in absurd cc

-- a command is no call
no_call : (version last : ℕ) (words : List (List ℕ)) (command : Command) (call : Call)
    → command_read version last words command ≡ Ok (TypedLine.Call call) → ⊥
unfolding command_read
no_call version last words command call e = by command e where
  moves : (r : Result ℕ Cause)
      → (or_refused r >>= (λ moment. Ok (TypedLine.At moment))) ≡ Ok (TypedLine.Call call) → ⊥
  moves (Ok moment) e = cc
  moves (Err cause) e = cc

  saves : (r : Result (List ℕ) Cause)
      → (or_refused r >>= (λ name. Ok (TypedLine.Save name))) ≡ Ok (TypedLine.Call call) → ⊥
  saves (Ok name) e = cc
  saves (Err cause) e = cc

  lone : (r : Result (Unit {0}) Cause) (line : TypedLine)
      → (or_refused r >>= (λ nothing. Ok line)) ≡ Ok (TypedLine.Call call) → line ≡ TypedLine.Call call
  lone (Ok nothing) line e = cc
  lone (Err cause) line e = absurd cc

  by : (command : Command) → command_read version last words command ≡ Ok (TypedLine.Call call) → ⊥
  by commands.At e = moves (the_one words >>= later_moment version last) e
  by commands.Save e = saves (the_one words) e
  by commands.Look e = let k = lone (no_words words) TypedLine.Look e in cc
  by commands.May e = let k = lone (no_words words) TypedLine.May e in cc
  by commands.Why e = let k = lone (no_words words) TypedLine.Why e in cc
  by commands.Codes e = let k = lone (no_words words) TypedLine.Codes e in cc
  by commands.Undo e = let k = lone (no_words words) TypedLine.Undo e in cc
  by commands.Book e = let k = lone (no_words words) TypedLine.Book e in cc
  by commands.Help e = let k = lone (no_words words) TypedLine.Help e in cc
  by commands.End e = let k = lone (no_words words) TypedLine.End e in cc

-- a line without a moment
untimed_told : (plan : PlanFields) (b last : ℕ) (first : List ℕ) (words : List (List ℕ)) (call : Call)
    → b < length plan.boxes → last < moments_of plan.version
    → untimed_read plan b last first words ≡ Ok (TypedLine.Call call)
    → Told plan b last (with_moment (moment_text plan.version last) (untimed_in_full words (meant kinds.First 0 first)))
    call
unfolding untimed_read last_read
untimed_told plan b last first words call at day e = go (meant kinds.First 0 first) e where
  m : List ℕ
  m = moment_text plan.version last

  full_told : (f : Result (List (List ℕ)) Misread) → (f >>= call_read plan b m) ≡ Ok (TypedLine.Call call)
      → Told plan b last (with_moment m (unless_command None f)) call
  full_told (Ok full) e =
      let c = read_is plan b m full call e in
      let one = ap timed (printed_moment plan.version last day) in
      let other = kept plan b m full call (moment_lacks plan.version last day) c in
      let same : last ≡ call.moment = cc in
      record {
        text = join_with_byte 32 (m ∷ full);
        is = refl;
        spelled = spelled_call plan b (join_with_byte 32 (m ∷ full)) call at c;
        later = omega arith;
      }
  full_told (Err what) e = absurd cc

  chosen : (row : Row) (o : Option Command)
      → chosen_read plan b last words row o ≡ Ok (TypedLine.Call call)
      → Told plan b last (with_moment m (unless_command o (call_in_full 1 words row))) call
  chosen row (Some command) e = absurd (no_call plan.version last words command call e)
  chosen row None e = full_told (call_in_full 1 words row) e

  go : (r : Result Row Misread)
      → (r >>= (λ row. chosen_read plan b last words row (command_of row.1))) ≡ Ok (TypedLine.Call call)
      → Told plan b last (with_moment m (untimed_in_full words r)) call
  go (Ok row) e = chosen row (command_of row.1) e
  go (Err what) e = absurd cc

told_untimed : (plan : PlanFields) (b last : ℕ) (first : List ℕ) (words : List (List ℕ)) (call : Call) → IsPlan plan
    → Told plan b last (with_moment (moment_text plan.version last) (untimed_in_full words (meant kinds.First 0 first)))
    call → untimed_read plan b last first words ≡ Ok (TypedLine.Call call)
unfolding untimed_read last_read
told_untimed plan b last first words call p t = go (meant kinds.First 0 first) t where
  m : List ℕ
  m = moment_text plan.version last

  full_told : (f : Result (List (List ℕ)) Misread) → Told plan b last (with_moment m (unless_command None f)) call
      → (f >>= call_read plan b m) ≡ Ok (TypedLine.Call call)
  full_told (Ok full) t = is_read plan b m full call (told_read plan b last (join_with_byte 32 (m ∷ full)) call p t)
  full_told (Err what) t = let none : None ≡ Some t.text = t.is in absurd cc

  chosen : (row : Row) (o : Option Command)
      → Told plan b last (with_moment m (unless_command o (call_in_full 1 words row))) call
      → chosen_read plan b last words row o ≡ Ok (TypedLine.Call call)
  chosen row (Some command) t = let none : None ≡ Some t.text = t.is in absurd cc
  chosen row None t = full_told (call_in_full 1 words row) t

  go : (r : Result Row Misread) → Told plan b last (with_moment m (untimed_in_full words r)) call
      → (r >>= (λ row. chosen_read plan b last words row (command_of row.1))) ≡ Ok (TypedLine.Call call)
  go (Ok row) t = chosen row (command_of row.1) t
  go (Err what) t = let none : None ≡ Some t.text = t.is in absurd cc

-- ---- the whole line

told_is : (r : Result TypedLine Misread) (call : Call) → told r ≡ TypedLine.Call call → r ≡ Ok (TypedLine.Call call)
told_is (Ok line) call e = ap Ok e
told_is (Err what) call e = absurd cc

words_told : (plan : PlanFields) (b last : ℕ) (words : List (List ℕ)) (call : Call) → b < length plan.boxes
    → last < moments_of plan.version → list_all (lacks 32) words ≡ true
    → words_read plan b last words ≡ Ok (TypedLine.Call call)
    → Told plan b last (line_in_full plan.version last words) call
words_told plan b last [] call at day h e = absurd cc
words_told plan b last (first ∷ words) call at day h e = go (is_timed first) e where
  go : (t : Bool)
      → cond t (timed_read plan b last first words) (untimed_read plan b last first words) ≡ Ok (TypedLine.Call call)
      → Told plan b last (cond t (with_moment first (unless_command None (timed_in_full words)))
      (with_moment (moment_text plan.version last) (untimed_in_full words (meant kinds.First 0 first)))) call
  go true e = timed_told plan b last first words call at (both (lacks 32 first) _ h).0 e
  go false e = untimed_told plan b last first words call at day e

told_words : (plan : PlanFields) (b last : ℕ) (words : List (List ℕ)) (call : Call) → IsPlan plan
    → list_all (lacks 32) words ≡ true → Told plan b last (line_in_full plan.version last words) call
    → words_read plan b last words ≡ Ok (TypedLine.Call call)
told_words plan b last [] call p h t = let none : None ≡ Some t.text = t.is in absurd cc
told_words plan b last (first ∷ words) call p h t = go (is_timed first) t where
  go : (t : Bool)
      → Told plan b last (cond t (with_moment first (unless_command None (timed_in_full words)))
      (with_moment (moment_text plan.version last) (untimed_in_full words (meant kinds.First 0 first)))) call
      → cond t (timed_read plan b last first words) (untimed_read plan b last first words) ≡ Ok (TypedLine.Call call)
  go true t = told_timed plan b last first words call p (both (lacks 32 first) _ h).0 t
  go false t = told_untimed plan b last first words call p t

-- a line comes to a call exactly where it is typed for it
pub typed_call : (plan : PlanFields) (b last : ℕ) (line : List ℕ) (call : Call) → IsPlan plan
    → b < length plan.boxes → last < moments_of plan.version
    → (line_read plan b last line ≡ TypedLine.Call call) ↔ TypesCall plan b last line call
unfolding line_read full_line
typed_call plan b last line call p at day = (
  λ e.
      let t =
      words_told plan b last (typed_words line) call at day (typed_lack line)
      (told_is (words_read plan b last (typed_words line)) call e) in
      record { text = t.text; full = t.is; spelled = t.spelled; later = t.later },
  λ t.
      ap told (told_words plan b last (typed_words line) call p (typed_lack line)
      (record { text = t.text; is = t.full; spelled = t.spelled; later = t.later })),
)

-- the same of what a reader answers
pub typed_calls : {E : Type 0} (plan : PlanFields) (b last : ℕ) (line : List ℕ) (r : Result Typed E) → IsPlan plan
    → b < length plan.boxes → last < moments_of plan.version
    → IfOk r (λ typed. shown typed ≡ line_read plan b last line)
    → IfOk r (λ typed. (call : Call) → (shown typed ≡ TypedLine.Call call) ↔ TypesCall plan b last line call)
typed_calls plan b last line (Ok typed) p at day e = λ call.
    let c = typed_call plan b last line call p at day in
    (λ f. c.0 (sym e ∙ f), λ t. e ∙ c.1 t)
typed_calls plan b last line (Err error) p at day e = tt

-- ---- the moment that `at` moves to

-- a moment of a day that isn't below the last
record IsMoved (version last moment : ℕ) : Type 0 where
  later : last ≤ moment
  day : moment < moments_of version

timed_day : (version : ℕ) (word : List ℕ) (moment : ℕ) → timed (moment_of version word) ≡ Ok moment
    → moment < moments_of version
timed_day version word moment e = go (moment_of version word) refl e where
  go : (o : Option ℕ) → moment_of version word ≡ o → timed o ≡ Ok moment → moment < moments_of version
  go None h e = absurd cc
  go (Some n) h e = let same : n ≡ moment = cc in (spelled_moment version word moment (h ∙ ap Some same)).1

call_stays : (plan : PlanFields) (b : ℕ) (first : List ℕ) (words : List (List ℕ)) (moment : ℕ)
    → call_read plan b first words ≡ Ok (TypedLine.At moment) → ⊥
unfolding call_read
call_stays plan b first words moment e = go (call_of plan b (join_with_byte 32 (first ∷ words))) e where
  go : (r : Result Call Cause) → (or_refused r >>= (λ c. Ok (TypedLine.Call c))) ≡ Ok (TypedLine.At moment) → ⊥
  go (Ok c) e = cc
  go (Err cause) e = cc

calls_stay : (plan : PlanFields) (b : ℕ) (first : List ℕ) (read : Result (List (List ℕ)) Misread) (moment : ℕ)
    → (read >>= call_read plan b first) ≡ Ok (TypedLine.At moment) → ⊥
calls_stay plan b first (Ok full) moment e = call_stays plan b first full moment e
calls_stay plan b first (Err what) moment e = cc

command_moves : (version last : ℕ) (words : List (List ℕ)) (command : Command) (moment : ℕ)
    → command_read version last words command ≡ Ok (TypedLine.At moment) → IsMoved version last moment
unfolding command_read
command_moves version last words command moment e = by command e where
  moves : (word : List ℕ) (r : Result ℕ Cause) → later_moment version last word ≡ r
      → (or_refused r >>= (λ m. Ok (TypedLine.At m))) ≡ Ok (TypedLine.At moment) → IsMoved version last moment
  moves word (Ok n) h e =
      let same : n ≡ moment = cc in
      let is = later_is version last word moment (h ∙ ap Ok same) in
      record { later = is.later; day = timed_day version word moment is.spelled }
  moves word (Err cause) h e = absurd cc

  at : (r : Result (List ℕ) Cause)
      → (or_refused (r >>= later_moment version last) >>= (λ m. Ok (TypedLine.At m))) ≡ Ok (TypedLine.At moment)
      → IsMoved version last moment
  at (Ok word) e = moves word (later_moment version last word) refl e
  at (Err cause) e = absurd cc

  saves : (r : Result (List ℕ) Cause)
      → (or_refused r >>= (λ name. Ok (TypedLine.Save name))) ≡ Ok (TypedLine.At moment) → ⊥
  saves (Ok name) e = cc
  saves (Err cause) e = cc

  lone : (r : Result (Unit {0}) Cause) (line : TypedLine)
      → (or_refused r >>= (λ nothing. Ok line)) ≡ Ok (TypedLine.At moment) → line ≡ TypedLine.At moment
  lone (Ok nothing) line e = cc
  lone (Err cause) line e = absurd cc

  by : (command : Command) → command_read version last words command ≡ Ok (TypedLine.At moment)
      → IsMoved version last moment
  by commands.At e = at (the_one words) e
  by commands.Save e = absurd (saves (the_one words) e)
  by commands.Look e = let k = lone (no_words words) TypedLine.Look e in absurd cc
  by commands.May e = let k = lone (no_words words) TypedLine.May e in absurd cc
  by commands.Why e = let k = lone (no_words words) TypedLine.Why e in absurd cc
  by commands.Codes e = let k = lone (no_words words) TypedLine.Codes e in absurd cc
  by commands.Undo e = let k = lone (no_words words) TypedLine.Undo e in absurd cc
  by commands.Book e = let k = lone (no_words words) TypedLine.Book e in absurd cc
  by commands.Help e = let k = lone (no_words words) TypedLine.Help e in absurd cc
  by commands.End e = let k = lone (no_words words) TypedLine.End e in absurd cc

timed_stays : (plan : PlanFields) (b last : ℕ) (first : List ℕ) (words : List (List ℕ)) (moment : ℕ)
    → timed_read plan b last first words ≡ Ok (TypedLine.At moment) → ⊥
unfolding timed_read
timed_stays plan b last first words moment e = go (later_moment plan.version last first) e where
  go : (r : Result ℕ Cause)
      → (or_refused r >>= (λ m. timed_in_full words >>= (λ full. call_read plan b first full)))
      ≡ Ok (TypedLine.At moment) → ⊥
  go (Ok m) e = calls_stay plan b first (timed_in_full words) moment e
  go (Err cause) e = cc

untimed_moves : (plan : PlanFields) (b last : ℕ) (first : List ℕ) (words : List (List ℕ)) (moment : ℕ)
    → untimed_read plan b last first words ≡ Ok (TypedLine.At moment) → IsMoved plan.version last moment
unfolding untimed_read last_read
untimed_moves plan b last first words moment e = go (meant kinds.First 0 first) e where
  chosen : (row : Row) (o : Option Command)
      → chosen_read plan b last words row o ≡ Ok (TypedLine.At moment) → IsMoved plan.version last moment
  chosen row (Some command) e = command_moves plan.version last words command moment e
  chosen row None e =
      absurd (calls_stay plan b (moment_text plan.version last) (call_in_full 1 words row) moment e)

  go : (r : Result Row Misread)
      → (r >>= (λ row. chosen_read plan b last words row (command_of row.1))) ≡ Ok (TypedLine.At moment)
      → IsMoved plan.version last moment
  go (Ok row) e = chosen row (command_of row.1) e
  go (Err what) e = absurd cc

words_move : (plan : PlanFields) (b last : ℕ) (words : List (List ℕ)) (moment : ℕ)
    → words_read plan b last words ≡ Ok (TypedLine.At moment) → IsMoved plan.version last moment
words_move plan b last [] moment e = absurd cc
words_move plan b last (first ∷ words) moment e = go (is_timed first) e where
  go : (t : Bool)
      → cond t (timed_read plan b last first words) (untimed_read plan b last first words) ≡ Ok (TypedLine.At moment)
      → IsMoved plan.version last moment
  go true e = absurd (timed_stays plan b last first words moment e)
  go false e = untimed_moves plan b last first words moment e

told_moved : (r : Result TypedLine Misread) (moment : ℕ) → told r ≡ TypedLine.At moment → r ≡ Ok (TypedLine.At moment)
told_moved (Ok line) moment e = ap Ok e
told_moved (Err what) moment e = absurd cc

-- a moment that a reader moves to isn't below the last, and is one of a day
pub typed_moves : {E : Type 0} (plan : PlanFields) (b last : ℕ) (line : List ℕ) (r : Result Typed E)
    → IfOk r (λ typed. shown typed ≡ line_read plan b last line)
    → IfOk r (λ typed. (moment : ℕ) → shown typed ≡ TypedLine.At moment →
    (last ≤ moment) × (moment < moments_of plan.version))
unfolding line_read
typed_moves plan b last line (Ok typed) e = λ moment f.
    let read = words_read plan b last (typed_words line) in
    let m = words_move plan b last (typed_words line) moment (told_moved read moment (sym e ∙ f)) in
    (m.later, m.day)
typed_moves plan b last line (Err error) e = tt
