-- The line of an entry is read as the entry, and only so.
use Rattle.std.proofs.Common.{◌≡◌, ℕ, ◌+◌, ◌^◌, ◌<◌, ◌≤◌, Bool, true, false, cond, eqb, ltb, List, [], ◌∷◌, ◌++◌}
use Rattle.std.proofs.Common.{length, drop, get_or, Option, Some, None, option_map, Result, Ok, Err, refl, sym}
use Rattle.std.proofs.Common.{ap, ◌∙◌, arith, append_assoc, codes, bytes_eq, decimal, position, slice_get}
use Rattle.std.specs.List.{list_all, join_with_byte}
use Rattle.std.specs.Char.{is_ascii_digit}
use Rattle.std.specs.Str.{all_ascii_digits}
use Rattle.std.proofs.lemmas.Bool.{eq-eqb, eqb-true, le-ltb, not-true}
use Rattle.std.proofs.lemmas.Bool.Decides.{nat_tests}
use Rattle.std.proofs.lemmas.Fmt.{digits_decimal, decimal_nonempty}
use Rattle.std.proofs.lemmas.List.{length-append, length-map}
use Rattle.std.proofs.lemmas.Slice.Eq.{bytes_eq-Decides}
use Rattle.rail_text.specs.Forms.{is_word, is_skipped, form_of}
use Rattle.rail_text.specs.Lines.{words_of, lacks, ended_line}
use Rattle.rail_text.specs.Number.{number_of}
use Rattle.rail_text.specs.Words.{keyword, is_name}
use Rattle.rail_text.specs.declared.cause.Cause.{Cause}
use Rattle.rail_text.specs.declared.forms.LineForm.TheVariants as forms
use Rattle.rail_text.proofs.Binds.{OfOk, bind_keeps, bind_any, if_keeps}
use Rattle.rail_text.proofs.NumberLemmas.{own, number_of-decimal, number_of-spelled}
use Rattle.rail_text.proofs.PrintedLines.{both, joined-words_of}
use Rattle.rail_text.proofs.PrintedWords.{decimal_is_word, length-decimal_word, name_is_word, length-name}
use Rattle.rail_text.proofs.PrintedWords.{joined_lacks_line_end, words_of-words, form_of-words}
use Rattle.line_plan.specs.Plans.{PlanFields, IsPlan, names_of, box_name}
use Rattle.line_law.specs.declared.call.Act.{Act}
use Rattle.line_law.specs.declared.call.Call.{Call}
use Rattle.line_law.specs.declared.call.Entry.{Entry}
use Rattle.line_law.specs.declared.call.Reply.{Reply}
use Rattle.line_law.specs.Known.{KnowsCall}
use Rattle.script_text.specs.Acts.{act_of, act_words}
use Rattle.script_text.specs.Answers.{lone_reply, shaped_reply, reply_in, reply_of}
use Rattle.script_text.specs.Calls.{moment_in, call_in, call_of, call_words, call_text}
use Rattle.script_text.specs.Moments.{moment_text}
use Rattle.script_text.specs.Replies.{reply_words, reply_text}
use Rattle.script_text.specs.Scripts.{not_falling}
use Rattle.script_text.specs.Spelled.{SpellsCall}
use Rattle.script_text.specs.Entries.{IsSpelled, told_text}
use Rattle.script_text.proofs.CallTexts.{moment_read, moment_word, call_words_are, call_words_plain, words_of-call}
use Rattle.script_text.proofs.CallTexts.{printed_call}
use Rattle.script_text.proofs.CallTexts.{spelled_call, length-call_text}
use Rattle.script_text.proofs.Named.{valid_at, found_is, found_at}
use Rattle.script_text.proofs.PlainWords.{plain, differ}
use Rattle.script_text.proofs.ReplyTexts.{printed_reply, spelled_reply, reply_words_are, length-reply_text}
use Rattle.script_text.proofs.ReplyWords.{reply_reads}
use Rattle.line_report.specs.Arrows.{before_arrow, behind_arrow}
use Rattle.line_report.specs.Readers.{SoFar}
use Rattle.line_report.specs.Journals.{entry_text}
use Rattle.line_report.specs.Reading.{counted, entry_number, box_named, known_box, box_in, call_told, reply_told}
use Rattle.line_report.specs.Reading.{call_after, reply_behind, entry_in}
use Rattle.line_report.specs.Spelled.{IsBehind}

-- ---- the text of an entry's line

-- its words
abbrev pub line_words : PlanFields → ℕ → Entry → List (List ℕ)
line_words plan number e =
    decimal number ∷ box_name plan e.box_no ∷ (call_words plan e.call ++ codes "->" ∷ reply_words plan e.box_no e.reply)

-- the line without its end
abbrev pub line_text : PlanFields → ℕ → Entry → List ℕ
line_text plan number e = decimal number ++ 32 ∷ box_name plan e.box_no ++ 32 ∷ told_text plan e

-- the text of an entry is its line and the end of that
pub entry_text-line : (plan : PlanFields) (number : ℕ) (e : Entry)
    → entry_text plan number e ≡ line_text plan number e ++ 10 ∷ []
unfolding entry_text
entry_text-line plan number e = refl

join_then : (word : List ℕ) (words : List (List ℕ)) → 0 < length words
    → join_with_byte 32 (word ∷ words) ≡ word ++ 32 ∷ join_with_byte 32 words
join_then word [] some = absurd (omega arith)
join_then word (next ∷ words) some = refl

some_behind : (xs : List (List ℕ)) (word : List ℕ) (ys : List (List ℕ)) → 0 < length (xs ++ word ∷ ys)
some_behind [] word ys = omega arith
some_behind (x ∷ xs) word ys = omega arith

join_parts : (xs ys : List (List ℕ)) → 0 < length xs → 0 < length ys
    → join_with_byte 32 (xs ++ ys) ≡ join_with_byte 32 xs ++ 32 ∷ join_with_byte 32 ys
join_parts [] ys some more = absurd (omega arith)
join_parts (x ∷ []) ys some more = join_then x ys more
join_parts (x ∷ next ∷ xs) ys some more =
    ap (λ (bs : List ℕ). x ++ 32 ∷ bs) (join_parts (next ∷ xs) ys (omega arith) more)
    ∙ sym (append_assoc x (32 ∷ join_with_byte 32 (next ∷ xs)) (32 ∷ join_with_byte 32 ys))

-- the words of a call, `->` and those of a reply
joined_told : (calls replies : List (List ℕ)) → 0 < length calls → 0 < length replies
    → join_with_byte 32 (calls ++ codes "->" ∷ replies)
    ≡ join_with_byte 32 calls ++ codes " -> " ++ join_with_byte 32 replies
joined_told calls replies some more =
    join_parts calls (codes "->" ∷ replies) some (omega arith)
    ∙ ap (λ (bs : List ℕ). join_with_byte 32 calls ++ 32 ∷ bs) (join_then (codes "->") replies more)
    ∙ sym (append_assoc (join_with_byte 32 calls) (codes " -> ") (join_with_byte 32 replies))

joined_line : (number name : List ℕ) (calls replies : List (List ℕ)) → 0 < length calls → 0 < length replies
    → join_with_byte 32 (number ∷ name ∷ (calls ++ codes "->" ∷ replies))
    ≡ number ++ 32 ∷ name ++ 32 ∷ (join_with_byte 32 calls ++ codes " -> " ++ join_with_byte 32 replies)
joined_line number name calls replies some more =
    ap (λ (bs : List ℕ). number ++ 32 ∷ bs)
    (join_then name (calls ++ codes "->" ∷ replies) (some_behind calls (codes "->") replies)
    ∙ ap (λ (bs : List ℕ). name ++ 32 ∷ bs) (joined_told calls replies some more))
    ∙ sym (append_assoc number (32 ∷ name)
    (32 ∷ (join_with_byte 32 calls ++ codes " -> " ++ join_with_byte 32 replies)))

-- ---- what is read is spelled: the number and the box

next_is : (next : ℕ) (words : List (List ℕ)) → OfOk (λ number. keyword words ≡ decimal next) (entry_number next words)
unfolding entry_number
next_is next words = go (number_of (keyword words)) refl where
  go : (o : Option ℕ) → number_of (keyword words) ≡ o → OfOk (λ number. keyword words ≡ decimal next) (counted next o)
  go None is = tt
  go (Some number) is =
      if_keeps (λ n. keyword words ≡ decimal next) (eqb number next) (Ok number) _
      (λ same. (number_of-spelled (keyword words) number is).0 ∙ ap decimal (eqb-true number next same)) (λ _. tt)

-- the second word is the name of a box of the line
record IsNamed (plan : PlanFields) (words : List (List ℕ)) (b : ℕ) : Type 0 where
  there : b < length plan.boxes
  word : slice_get words 1 ≡ Some (box_name plan b)

box_is : (plan : PlanFields) (words : List (List ℕ)) → OfOk (IsNamed plan words) (box_in plan words)
unfolding box_in
box_is plan words = go (slice_get words 1) refl where
  named : (word : List ℕ) (o : Option ℕ) → slice_get words 1 ≡ Some word
      → position (bytes_eq word) (names_of plan.boxes) ≡ o → OfOk (IsNamed plan words) (known_box o)
  named word None e is = tt
  named word (Some b) e is =
      let f = found_is (names_of plan.boxes) word b is in
      record {
        there = omega (arith, f.0, length-map plan.boxes (λ box_plan. box_plan.name));
        word =
            e ∙ ap (λ (w : List ℕ). Some w) f.1;
      }

  go : (o : Option (List ℕ)) → slice_get words 1 ≡ o → OfOk (IsNamed plan words) (known_box (box_named plan o))
  go None e = tt
  go (Some word) e = named word (position (bytes_eq word) (names_of plan.boxes)) e refl

-- ---- the call and the reply

reads_itself : {A E : Type 0} (r : Result A E) → OfOk (λ x. r ≡ Ok x) r
reads_itself (Ok x) = refl
reads_itself (Err e) = tt

-- the moment of a call is the one that its text begins with
call_moment : (plan : PlanFields) (b : ℕ) (text : List ℕ) (read : ℕ) → moment_in plan.version (words_of text) ≡ Ok read
    → OfOk (λ call. call.moment ≡ read) (call_of plan b text)
unfolding call_of call_in
call_moment plan b text read e =
    rw e (bind_any (λ (call : Call). call.moment ≡ read) (act_of plan b (words_of text)) _ (λ act. refl))

-- the text spells the call, whose moment isn't below the last one
record IsCallAfter (plan : PlanFields) (b last : ℕ) (text : List ℕ) (call : Call) : Type 0 where
  spells : SpellsCall plan b text call
  later : last ≤ call.moment

call_is : (plan : PlanFields) (b last : ℕ) (text : List ℕ) → b < length plan.boxes
    → OfOk (IsCallAfter plan b last text) (call_after plan b last text)
unfolding call_after
call_is plan b last text at =
    bind_keeps (λ read. moment_in plan.version (words_of text) ≡ Ok read) (IsCallAfter plan b last text)
    (moment_in plan.version (words_of text)) _ (reads_itself (moment_in plan.version (words_of text))) (λ read e.
    bind_keeps (λ moment. last ≤ read) (IsCallAfter plan b last text) (not_falling last read)
    (λ moment. call_of plan b text) (rises read)
    (λ moment later. go read later (call_of plan b text) refl (call_moment plan b text read e))) where
      rises : (read : ℕ) → OfOk (λ moment. last ≤ read) (not_falling last read)
      rises read =
          if_keeps (λ moment. last ≤ read) (ltb read last) _ (Ok read) (λ _. tt) (λ not_below. grind (arith, nat_tests))

      go : (read : ℕ) → last ≤ read → (r : Result Call Cause) → call_of plan b text ≡ r
          → OfOk (λ call. call.moment ≡ read) r → OfOk (IsCallAfter plan b last text) r
      go read later (Ok call) is same =
          record { spells = spelled_call plan b text call at is; later = omega (arith, later, same) }
      go read later (Err cause) is same = tt

-- a text without a byte is no reply
no_reply : (plan : PlanFields) (b : ℕ) (act : Act) (reply : Reply) → reply_of plan b act [] ≡ Ok reply → ⊥
unfolding reply_of reply_in shaped_reply lone_reply
no_reply plan b act reply e = cc

-- the text behind the `->` spells the reply
record IsReplyBehind (plan : PlanFields) (b : ℕ) (act : Act) (o : Option (List ℕ)) (reply : Reply) : Type 0 where
  text : List ℕ
  stands : o ≡ Some text
  read : reply_of plan b act text ≡ Ok reply

reply_is : (plan : PlanFields) (b : ℕ) (act : Act) (o : Option (List ℕ))
    → OfOk (IsReplyBehind plan b act o) (reply_behind plan b act o)
unfolding reply_behind
reply_is plan b act None = tt
reply_is plan b act (Some text) = go (reply_of plan b act text) refl where
  go : (r : Result Reply Cause) → reply_of plan b act text ≡ r → OfOk (IsReplyBehind plan b act (Some text)) r
  go (Ok reply) is = record { text = text; stands = refl; read = is }
  go (Err cause) is = tt

-- ---- the whole line

second_then : (words : List (List ℕ)) (word : List ℕ) → slice_get words 1 ≡ Some word
    → words ≡ keyword words ∷ word ∷ drop 2 words
second_then [] word e = absurd cc
second_then (first ∷ []) word e = absurd cc
second_then (first ∷ second ∷ words) word e = let same : second ≡ word =
    cc in ap (λ (w : List ℕ). first ∷ w ∷ words) same

-- words with a `->` among them
arrow_splits : (words behind : List (List ℕ)) → behind_arrow words ≡ Some behind
    → words ≡ before_arrow words ++ codes "->" ∷ behind
arrow_splits [] behind e = absurd cc
arrow_splits (word ∷ words) behind e = go (bytes_eq word (codes "->")) refl (λ is. arrow_splits words behind is) e where
  go : (t : Bool) → bytes_eq word (codes "->") ≡ t
      → (behind_arrow words ≡ Some behind → words ≡ before_arrow words ++ codes "->" ∷ behind)
      → cond t (Some words) (behind_arrow words) ≡ Some behind
      → word ∷ words ≡ cond t [] (word ∷ before_arrow words) ++ codes "->" ∷ behind
  go true same rest is =
      let last : words ≡ behind = cc in
      ap (λ (w : List ℕ). w ∷ words) ((bytes_eq-Decides word (codes "->")).0 same)
      ∙ ap (λ (ws : List (List ℕ)). codes "->" ∷ ws) last
  go false none rest is = ap (λ (ws : List (List ℕ)). word ∷ ws) (rest is)

some_joined : (words : List (List ℕ)) → 0 < length (join_with_byte 32 words) → 0 < length words
some_joined [] h = absurd (omega arith)
some_joined (word ∷ words) h = omega arith

first_fits : (word : List ℕ) (words : List (List ℕ)) → length word ≤ length (join_with_byte 32 (word ∷ words))
first_fits word [] = omega arith
first_fits word (next ∷ words) = omega (arith, length-append word (32 ∷ join_with_byte 32 (next ∷ words)))

call_some : (plan : PlanFields) (b : ℕ) (call : Call) → KnowsCall plan b call → 0 < length (call_text plan call)
unfolding call_text
call_some plan b call h =
    omega (
      arith,
      first_fits (moment_text plan.version call.moment) (act_words plan call.act),
      (moment_word plan b call h).some,
    )

-- the words behind a `->`, and their text
record AreBehindArrow (words : List (List ℕ)) (text : List ℕ) : Type 0 where
  behind : List (List ℕ)
  stand : behind_arrow words ≡ Some behind
  joined : join_with_byte 32 behind ≡ text

behind_of : (words : List (List ℕ)) (text : List ℕ)
    → option_map (λ behind. join_with_byte 32 behind) (behind_arrow words) ≡ Some text → AreBehindArrow words text
behind_of words text e = go (behind_arrow words) refl e where
  go : (o : Option (List (List ℕ))) → behind_arrow words ≡ o
      → option_map (λ behind. join_with_byte 32 behind) o ≡ Some text → AreBehindArrow words text
  go None is f = absurd cc
  go (Some behind) is f = record { behind = behind; stand = is; joined = cc }

reply_some : (plan : PlanFields) (b : ℕ) (act : Act) (reply : Reply) (behind : List (List ℕ))
    → reply_of plan b act (join_with_byte 32 behind) ≡ Ok reply → 0 < length behind
reply_some plan b act reply [] e = absurd (no_reply plan b act reply e)
reply_some plan b act reply (word ∷ behind) e = omega arith

-- the text of a line by the parts that are read of it
line_is : (plan : PlanFields) (number : ℕ) (e : Entry) (text : List ℕ) → keyword (words_of text) ≡ decimal number
    → slice_get (words_of text) 1 ≡ Some (box_name plan e.box_no)
    → SpellsCall plan e.box_no (call_told (words_of text)) e.call
    → IsReplyBehind plan e.box_no e.call.act (reply_told (words_of text)) e.reply → text ≡ line_text plan number e
unfolding call_told reply_told told_text
line_is plan number e text n name call reply =
    let rest : List (List ℕ) = drop 2 (words_of text) in
    let r = behind_of rest reply.text reply.stands in
    let read : reply_of plan e.box_no e.call.act (join_with_byte 32 r.behind) ≡ Ok e.reply = rw r.joined reply.read in
    let calls : 0 < length (before_arrow rest) =
    some_joined (before_arrow rest) (rw call.printed (call_some plan e.box_no e.call call.known)) in
    let replies : 0 < length r.behind = reply_some plan e.box_no e.call.act e.reply r.behind read in
    let words : words_of text ≡ decimal number ∷ box_name plan e.box_no ∷ (before_arrow rest ++ codes "->" ∷ r.behind) =
    second_then (words_of text) (box_name plan e.box_no) name
    ∙ ap (λ (w : List ℕ). w ∷ box_name plan e.box_no ∷ rest) n
    ∙ ap (λ (ws : List (List ℕ)). decimal number ∷ box_name plan e.box_no ∷ ws) (arrow_splits rest r.behind r.stand) in
    sym (joined-words_of text)
    ∙ ap (join_with_byte 32) words
    ∙ joined_line (decimal number) (box_name plan e.box_no) (before_arrow rest) r.behind calls replies
    ∙ ap (λ (bs : List ℕ). decimal number ++ 32 ∷ box_name plan e.box_no ++ 32
    ∷ (bs ++ codes " -> " ++ join_with_byte 32 r.behind)) call.printed
    ∙ ap (λ (bs : List ℕ). decimal number ++ 32 ∷ box_name plan e.box_no ++ 32
    ∷ (call_text plan e.call ++ codes " -> " ++ bs))
    (spelled_reply plan e.box_no e.call.act (join_with_byte 32 r.behind) e.reply read).printed

-- an entry is read of its line, behind those before it
pub record IsEntryOf (so_far : SoFar) (text : List ℕ) (e : Entry) : Type 0 where
  pub behind : IsBehind so_far.plan so_far.moments e
  pub line : text ≡ line_text so_far.plan (so_far.count + 1) e

-- what is read of a line's words is an entry that the line spells
pub entry_is : (so_far : SoFar) (text : List ℕ) → OfOk (IsEntryOf so_far text) (entry_in so_far (words_of text))
unfolding entry_in
entry_is so_far text =
    let P : Entry → Type 0 = IsEntryOf so_far text in
    let words : List (List ℕ) = words_of text in
    bind_keeps (λ number. keyword words ≡ decimal (so_far.count + 1)) P
    (entry_number (so_far.count + 1) words) _ (next_is (so_far.count + 1) words) (λ number n.
    bind_keeps (IsNamed so_far.plan words) P (box_in so_far.plan words) _ (box_is so_far.plan words) (λ b name.
    bind_keeps (IsCallAfter so_far.plan b (get_or so_far.moments b 0) (call_told words)) P
    (call_after so_far.plan b (get_or so_far.moments b 0) (call_told words)) _
    (call_is so_far.plan b (get_or so_far.moments b 0) (call_told words) name.there) (λ call c.
    bind_keeps (IsReplyBehind so_far.plan b call.act (reply_told words)) P
    (reply_behind so_far.plan b call.act (reply_told words)) _ (reply_is so_far.plan b call.act (reply_told words))
    (λ reply r.
    let e : Entry = record { box_no = b; call = call; reply = reply } in
    let spells = spelled_reply so_far.plan b call.act r.text reply r.read in
    record {
      behind = record {
        spelled = record { box = name.there; call = c.spells.known; reply = spells.spelled };
        answered =
            spells.answers;
        later = c.later;
      };
      line = line_is so_far.plan (so_far.count + 1) e text n name.word c.spells r;
    }))))

-- ---- what is printed is read

words_all : (test : List ℕ → Bool) (xs ys : List (List ℕ)) → list_all test xs ≡ true → list_all test ys ≡ true
    → list_all test (xs ++ ys) ≡ true
words_all test [] ys h k = k
words_all test (x ∷ xs) ys h k = let e = both (test x) (list_all test xs) h in rw (e.0, words_all test xs ys e.1 k) refl

name_of_box : (plan : PlanFields) (b : ℕ) → IsPlan plan → b < length plan.boxes → is_name (box_name plan b) ≡ true
name_of_box plan b p at =
    valid_at is_name (names_of plan.boxes) b p.named
    (omega (arith, at, length-map plan.boxes (λ box_plan. box_plan.name)))

line_words_are : (plan : PlanFields) (number : ℕ) (e : Entry) → IsPlan plan → number < 10 ^ 10 → IsSpelled plan e
    → list_all is_word (line_words plan number e) ≡ true
line_words_are plan number e p few s =
    let told : list_all is_word (call_words plan e.call ++ codes "->" ∷ reply_words plan e.box_no e.reply) ≡ true =
    words_all is_word (call_words plan e.call) (codes "->" ∷ reply_words plan e.box_no e.reply)
    (call_words_are plan e.box_no e.call p s.call) (reply_words_are plan e.box_no e.reply p s.box s.reply) in
    rw (decimal_is_word number few, name_is_word (box_name plan e.box_no) (name_of_box plan e.box_no p s.box), told)
    refl

line_joined : (plan : PlanFields) (number : ℕ) (e : Entry) → IsPlan plan → IsSpelled plan e
    → join_with_byte 32 (line_words plan number e) ≡ line_text plan number e
unfolding told_text call_text reply_text
line_joined plan number e p s =
    joined_line (decimal number) (box_name plan e.box_no) (call_words plan e.call) (reply_words plan e.box_no e.reply)
    (omega arith) (reply_reads plan e.box_no e.reply p s.box s.reply).are.some

words_of-line : (plan : PlanFields) (number : ℕ) (e : Entry) → IsPlan plan → number < 10 ^ 10 → IsSpelled plan e
    → words_of (line_text plan number e) ≡ line_words plan number e
words_of-line plan number e p few s =
    ap words_of (sym (line_joined plan number e p s))
    ∙ words_of-words (decimal number)
    (box_name plan e.box_no ∷ (call_words plan e.call ++ codes "->" ∷ reply_words plan e.box_no e.reply))
    (line_words_are plan number e p few s)

-- a printed number begins no comment
digits_count : (ds : List ℕ) → 0 < length ds → all_ascii_digits ds ≡ true → is_skipped ds ≡ false
digits_count [] some h = absurd (omega arith)
digits_count (d ∷ ds) some h = let digit =
    (both (is_ascii_digit d) (all_ascii_digits ds) h).0 in grind (arith, nat_tests, digit)

number_counts : (n : ℕ) → n < 10 ^ 10 → is_skipped (decimal n) ≡ false
number_counts n h = digits_count (decimal n) (decimal_nonempty n (omega arith)) (digits_decimal own n (omega arith))

told_short : (plan : PlanFields) (e : Entry) → IsPlan plan → IsSpelled plan e → length (told_text plan e) ≤ 138
unfolding told_text
told_short plan e p s =
    simp length-append
    (omega (
      arith,
      length-call_text plan e.box_no e.call p s.call,
      length-reply_text plan e.box_no e.reply p s.box s.reply,
    ))

line_short : (plan : PlanFields) (number : ℕ) (e : Entry) → IsPlan plan → number < 10 ^ 10 → IsSpelled plan e
    → length (line_text plan number e) ≤ 200
line_short plan number e p few s =
    simp length-append
    (omega (
      arith,
      length-decimal_word number few,
      length-name (box_name plan e.box_no) (name_of_box plan e.box_no p s.box),
      told_short plan e p s,
    ))

-- an entry's line is a line of words
pub line_form : (plan : PlanFields) (number : ℕ) (e : Entry) → IsPlan plan → number < 10 ^ 10 → IsSpelled plan e
    → form_of false (ended_line (line_text plan number e)) ≡ Ok forms.Words
line_form plan number e p few s =
    ap (λ (text : List ℕ). form_of false (ended_line text)) (sym (line_joined plan number e p s))
    ∙ form_of-words false (decimal number)
    (box_name plan e.box_no ∷ (call_words plan e.call ++ codes "->" ∷ reply_words plan e.box_no e.reply))
    (line_words_are plan number e p few s) (number_counts number few)
    (rw (line_joined plan number e p s) (line_short plan number e p few s))

-- no line's end stands within an entry's line
pub line_lacks_end : (plan : PlanFields) (number : ℕ) (e : Entry) → IsPlan plan → number < 10 ^ 10 → IsSpelled plan e
    → lacks 10 (line_text plan number e) ≡ true
line_lacks_end plan number e p few s =
    ap (lacks 10) (sym (line_joined plan number e p s))
    ∙ joined_lacks_line_end (line_words plan number e) (line_words_are plan number e p few s)

-- its first word isn't `end`
pub line_no_end : (plan : PlanFields) (number : ℕ) (e : Entry) → IsPlan plan → number < 10 ^ 10 → IsSpelled plan e
    → bytes_eq (keyword (words_of (line_text plan number e))) (codes "end") ≡ false
line_no_end plan number e p few s =
    ap (λ (words : List (List ℕ)). bytes_eq (keyword words) (codes "end")) (words_of-line plan number e p few s)
    ∙ differ number_of (decimal number) (codes "end") (λ same. apart (sym (number_of-decimal number few) ∙ same)) where
      apart : Some number ≡ None → ⊥
      apart e = cc

number_read : (next : ℕ) (words : List (List ℕ)) → next < 10 ^ 10 → entry_number next (decimal next ∷ words) ≡ Ok next
unfolding entry_number
number_read next words few = rw (number_of-decimal next few, eq-eqb next next refl) refl

box_read : (plan : PlanFields) (b : ℕ) (first : List ℕ) (words : List (List ℕ)) → IsPlan plan → b < length plan.boxes
    → box_in plan (first ∷ box_name plan b ∷ words) ≡ Ok b
unfolding box_in
box_read plan b first words p at =
    let found : position (bytes_eq (box_name plan b)) (names_of plan.boxes) ≡ Some b =
    found_at (names_of plan.boxes) b p.distinct
    (omega (arith, at, length-map plan.boxes (λ box_plan. box_plan.name))) in
    rw found refl

before_plain : (calls replies : List (List ℕ)) → list_all plain calls ≡ true
    → (before_arrow (calls ++ codes "->" ∷ replies) ≡ calls)
    × (behind_arrow (calls ++ codes "->" ∷ replies) ≡ Some replies)
before_plain [] replies h = (refl, refl)
before_plain (word ∷ calls) replies h =
    let e = both (plain word) (list_all plain calls) h in
    let none : bytes_eq word (codes "->") ≡ false = not-true _ e.0 in
    let rest = before_plain calls replies e.1 in
    (rw none (ap (λ (ws : List (List ℕ)). word ∷ ws) rest.0), rw none rest.1)

call_told-line : (plan : PlanFields) (number : ℕ) (e : Entry) → IsPlan plan → IsSpelled plan e
    → call_told (line_words plan number e) ≡ call_text plan e.call
unfolding call_told call_text
call_told-line plan number e p s =
    ap (join_with_byte 32)
    (before_plain (call_words plan e.call) (reply_words plan e.box_no e.reply)
    (call_words_plain plan e.box_no e.call p s.call)).0

reply_told-line : (plan : PlanFields) (number : ℕ) (e : Entry) → IsPlan plan → IsSpelled plan e
    → reply_told (line_words plan number e) ≡ Some (reply_text plan e.box_no e.reply)
unfolding reply_told reply_text
reply_told-line plan number e p s =
    ap (λ (o : Option (List (List ℕ))). option_map (λ behind. join_with_byte 32 behind) o)
    (before_plain (call_words plan e.call) (reply_words plan e.box_no e.reply)
    (call_words_plain plan e.box_no e.call p s.call)).1

call_read : (plan : PlanFields) (b last : ℕ) (call : Call) → IsPlan plan → KnowsCall plan b call → last ≤ call.moment
    → call_after plan b last (call_text plan call) ≡ Ok call
unfolding call_after
call_read plan b last call p h later =
    let rises : ltb call.moment last ≡ false = le-ltb _ _ later in
    rw (words_of-call plan b call p h, moment_read plan b call h, rises) (printed_call plan b call p h)

reply_read : (plan : PlanFields) (b : ℕ) (act : Act) (reply : Reply)
    → reply_of plan b act (reply_text plan b reply) ≡ Ok reply
    → reply_behind plan b act (Some (reply_text plan b reply)) ≡ Ok reply
unfolding reply_behind
reply_read plan b act reply read = read

-- an entry is read of its line
pub entry_read : (so_far : SoFar) (e : Entry) → IsPlan so_far.plan → so_far.count + 1 < 10 ^ 10
    → IsBehind so_far.plan so_far.moments e
    → entry_in so_far (words_of (line_text so_far.plan (so_far.count + 1) e)) ≡ Ok e
unfolding entry_in
entry_read so_far e p few h =
    let plan : PlanFields = so_far.plan in
    let number : ℕ = so_far.count + 1 in
    let s = h.spelled in
    rw (
      words_of-line plan number e p few s,
      number_read number
          (box_name plan e.box_no ∷ (call_words plan e.call ++ codes "->" ∷ reply_words plan e.box_no e.reply)) few,
      box_read plan e.box_no (decimal number) (call_words plan e.call ++ codes "->" ∷ reply_words plan e.box_no e.reply)
          p s.box,
      call_told-line plan number e p s,
      call_read plan e.box_no (get_or so_far.moments e.box_no 0) e.call p s.call h.later,
      reply_told-line plan number e p s,
      reply_read plan e.box_no e.call.act e.reply
          (printed_reply plan e.box_no e.call.act e.reply p s.box h.answered s.reply),
    ) refl
