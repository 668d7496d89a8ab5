-- Scripts are read as they are spelled, and only so.
use Rattle.std.proofs.Common.{◌≡◌, ℕ, ◌+◌, ◌*◌, ◌<◌, ◌≤◌, Bool, true, false, ltb, leb, List, [], ◌∷◌, ◌++◌, length, map}
use Rattle.std.proofs.Common.{take, Result, Ok, Err, IfOk, IsErrOf, refl, sym, ap, subst, ◌∙◌, arith, append_assoc}
use Rattle.std.proofs.Common.{codes, bytes_eq}
use Rattle.std.specs.List.{list_all, flat_map, join_with_byte}
use Rattle.std.proofs.lemmas.Bool.{le-ltb}
use Rattle.std.proofs.lemmas.Bool.Decides.{nat_tests}
use Rattle.std.proofs.lemmas.List.{append-nil, map-append, length-append, length-map}
use Rattle.std.proofs.lemmas.List.Concat.{flat_map-append}
use Rattle.std.proofs.lemmas.Slice.Eq.{bytes_eq-Decides}
use Rattle.rail_text.specs.Forms.{is_word}
use Rattle.rail_text.specs.Gives.{◌>>=◌, Fault, GivesText}
use Rattle.rail_text.specs.Lines.{Line, lines_of, words_of, lacks, ended_line, printed_line}
use Rattle.rail_text.specs.Texts.{lines_onto, text_onto}
use Rattle.rail_text.specs.Words.{keyword, one_word, no_word, is_name}
use Rattle.rail_text.specs.declared.cause.Cause.{Cause}
use Rattle.rail_text.specs.declared.cause.Cause.TheVariants as causes
use Rattle.rail_text.specs.declared.cause.ReadError.{ReadError}
use Rattle.rail_text.specs.declared.cause.ReadError.TheVariants as errors
use Rattle.rail_text.proofs.Binds.{OfOk, bind_keeps, if_keeps, one_word_is, no_word_is}
use Rattle.rail_text.proofs.Limits.{limited-take}
use Rattle.rail_text.proofs.PrintedLines.{joined-words_of, some_words, lines_of-printed}
use Rattle.rail_text.proofs.PrintedWords.{name_is_word, length-name, joined_lacks_line_end, words_of-words}
use Rattle.rail_text.proofs.PrintedWords.{form_of-words}
use Rattle.line_plan.specs.Plans.{PlanFields, IsPlan, names_of, box_name}
use Rattle.rail_text.specs.Kept.{is_formed, kept, words_text}
use Rattle.line_law.specs.Known.{KnowsCall, moments_of}
use Rattle.line_law.specs.Serial.{AreCalls}
use Rattle.line_law.specs.declared.call.Call.{Call}
use Rattle.script_text.specs.declared.draft.Stage.{Stage}
use Rattle.script_text.specs.declared.draft.Stage.TheVariants as stages
use Rattle.script_text.specs.declared.script.Script.{Script}
use Rattle.script_text.specs.Acts.{act_of, act_words}
use Rattle.script_text.specs.Calls.{moment_in, call_words, call_text}
use Rattle.script_text.specs.Drafts.{DraftFields, start}
use Rattle.script_text.specs.Moments.{moment_text}
use Rattle.script_text.specs.Scripts.{most_script_bytes, IsScriptOf, script_onto, not_falling, call_onto, end_onto}
use Rattle.script_text.specs.Scripts.{stage_onto, words_onto, has_ended, script_of, call_line, script_text}
use Rattle.script_text.specs.Spelled.{script_lines, SpellsScript}
use Rattle.script_text.proofs.Named.{valid_at}
use Rattle.script_text.proofs.CallTexts.{moment_in_is, IsCall, moment_and_act, call_text-words, moment_read}
use Rattle.script_text.proofs.CallTexts.{act_of-words, moment_word, call_words_are, words_of-call, length-call_text}
use Rattle.script_text.proofs.InTurn.{last_moment, AreCalls-more, last_moment-more}
use Rattle.rail_text.proofs.KeptLines.{all_onto, lines_are, IsWords, AllWords, words_formed, words_kept, lines_read}

-- ---- the lines of the script so far

-- the lines of calls
abbrev call_lines : PlanFields → List Call → List (List ℕ)
call_lines plan calls = map (λ call. call_text plan call) calls

-- the line of box b
abbrev box_line : PlanFields → ℕ → List ℕ
box_line plan b = words_text (codes "script") (box_name plan b)

abbrev lines_so_far : Stage → PlanFields → ℕ → List Call → List (List ℕ)
lines_so_far stages.Script plan b calls = []
lines_so_far stages.Calls plan b calls = box_line plan b ∷ call_lines plan calls
lines_so_far stages.Ended plan b calls = box_line plan b ∷ (call_lines plan calls ++ codes "end" ∷ [])

-- these lines were read onto a draft of this plan and box, at this stage
record IsTold (plan : PlanFields) (b : ℕ) (stage : Stage) (texts : List (List ℕ)) (draft : DraftFields) : Type 0 where
  at : b < length plan.boxes
  same_plan : draft.plan ≡ plan
  same_box : draft.box_no ≡ b
  lines : lines_so_far stage plan b draft.calls ≡ texts
  unbegun : stage ≡ stages.Script → draft.calls ≡ []
  calls : AreCalls plan b 0 draft.calls
  last : last_moment 0 draft.calls ≡ draft.moment
  few : length draft.calls ≤ 10000

abbrev IsReadOnto : PlanFields → ℕ → List (List ℕ) → DraftFields → Type 0
IsReadOnto plan b texts draft = IsTold plan b draft.stage texts draft

-- a text of two words, or of one, by its words
two_are : (text kw word : List ℕ) → words_of text ≡ kw ∷ word ∷ [] → text ≡ words_text kw word
two_are text kw word e = sym (joined-words_of text) ∙ ap (join_with_byte 32) e

one_is : (text kw : List ℕ) → words_of text ≡ kw ∷ [] → text ≡ kw
one_is text kw e = sym (joined-words_of text) ∙ ap (join_with_byte 32) e

script_told : (plan : PlanFields) (b : ℕ) (texts : List (List ℕ)) (d : DraftFields) (text : List ℕ)
    → IsTold plan b stages.Script texts d → keyword (words_of text) ≡ codes "script"
    → OfOk (IsReadOnto plan b (texts ++ text ∷ [])) (script_onto d (words_of text))
unfolding script_onto
script_told plan b texts d text h k =
    bind_keeps (λ word. words_of text ≡ keyword (words_of text) ∷ word ∷ []) (IsReadOnto plan b (texts ++ text ∷ []))
    (one_word (words_of text)) _ (one_word_is (words_of text)) (λ name e.
    if_keeps (IsReadOnto plan b (texts ++ text ∷ [])) (bytes_eq name (box_name d.plan d.box_no)) _ _ (λ same.
    let named : name ≡ box_name d.plan d.box_no = (bytes_eq-Decides name (box_name d.plan d.box_no)).0 same in
    let own : box_name d.plan d.box_no ≡ box_name plan b = rw (h.same_plan, h.same_box) refl in
    let is : text ≡ box_line plan b =
    two_are text (codes "script") (box_name plan b)
    (e ∙ ap (λ (x : List ℕ). x ∷ name ∷ []) k ∙ ap (λ (x : List ℕ). codes "script" ∷ x ∷ []) (named ∙ own)) in
    record {
      at = h.at;
      same_plan = h.same_plan;
      same_box = h.same_box;
      lines = ap (λ (calls : List Call). box_line plan b ∷ call_lines plan calls) (h.unbegun refl)
          ∙ ap (λ (t : List ℕ). t ∷ []) (sym is) ∙ ap (λ (ts : List (List ℕ)). ts ++ text ∷ []) h.lines;
      unbegun = λ began. absurd cc;
      calls = h.calls;
      last = h.last;
      few = h.few;
    })
    (λ _. tt))

call_lines-more : (plan : PlanFields) (b : ℕ) (calls : List Call) (call : Call) (texts : List (List ℕ)) (text : List ℕ)
    → box_line plan b ∷ call_lines plan calls ≡ texts → text ≡ call_text plan call
    → box_line plan b ∷ call_lines plan (calls ++ call ∷ []) ≡ texts ++ text ∷ []
call_lines-more plan b calls call texts text h e =
    ap (λ (ts : List (List ℕ)). box_line plan b ∷ ts) (map-append (λ (c : Call). call_text plan c) calls (call ∷ []))
    ∙ ap (λ (t : List ℕ). (box_line plan b ∷ call_lines plan calls) ++ t ∷ []) (sym e)
    ∙ ap (λ (ts : List (List ℕ)). ts ++ text ∷ []) h

call_told : (plan : PlanFields) (b : ℕ) (texts : List (List ℕ)) (d : DraftFields) (text : List ℕ)
    → d.stage ≡ stages.Calls → IsTold plan b stages.Calls texts d
    → OfOk (IsReadOnto plan b (texts ++ text ∷ [])) (call_onto d (words_of text))
unfolding call_onto
call_told plan b texts d text s h =
    bind_keeps
    (λ moment. (keyword (words_of text) ≡ moment_text d.plan.version moment) × (moment < moments_of d.plan.version))
    (IsReadOnto plan b (texts ++ text ∷ [])) (moment_in d.plan.version (words_of text)) _
    (moment_in_is d.plan.version (words_of text)) (λ read m.
    bind_keeps (λ moment. (moment ≡ read) × (d.moment ≤ moment)) (IsReadOnto plan b (texts ++ text ∷ []))
    (not_falling d.moment read) _ (rises d.moment read) (λ moment r.
    bind_keeps (λ act. IsCall d.plan d.box_no (words_of text) (record { moment = moment; act = act }))
    (IsReadOnto plan b (texts ++ text ∷ [])) (act_of d.plan d.box_no (words_of text)) _
    (moment_and_act d.plan d.box_no (words_of text) moment (rw (h.same_plan, h.same_box) h.at) (some_words text)
    (rw r.0 m.0) (rw r.0 m.1)) (λ act c.
    if_keeps (IsReadOnto plan b (texts ++ text ∷ [])) (leb 10000 (length d.calls)) _ _ (λ _. tt) (λ room.
    let call : Call = record { moment = moment; act = act } in
    let is : IsCall plan b (words_of text) call = rw (← h.same_plan, ← h.same_box) c in
    let behind : last_moment 0 d.calls ≤ moment = rw h.last r.1 in
    let more : length d.calls < 10000 = grind (arith, nat_tests) in
    rw s (record {
      at = h.at;
      same_plan = h.same_plan;
      same_box = h.same_box;
      lines = call_lines-more plan b d.calls call texts text h.lines (call_text-words plan text call is.spelled);
      unbegun = λ began. absurd cc;
      calls = AreCalls-more plan b 0 d.calls call h.calls is.known behind;
      last = last_moment-more 0 d.calls call;
      few = omega (arith, length-append d.calls (call ∷ []));
    }))))) where
      rises : (before read : ℕ) → OfOk (λ moment. (moment ≡ read) × (before ≤ moment)) (not_falling before read)
      rises before read =
          if_keeps (λ moment. (moment ≡ read) × (before ≤ moment)) (ltb read before) _ _ (λ _. tt)
          (λ e. (refl, grind (arith, nat_tests)))

end_told : (plan : PlanFields) (b : ℕ) (texts : List (List ℕ)) (d : DraftFields) (text : List ℕ)
    → IsTold plan b stages.Calls texts d → keyword (words_of text) ≡ codes "end"
    → OfOk (IsReadOnto plan b (texts ++ text ∷ [])) (end_onto d (words_of text))
unfolding end_onto
end_told plan b texts d text h k =
    bind_keeps (λ _. words_of text ≡ keyword (words_of text) ∷ []) (IsReadOnto plan b (texts ++ text ∷ []))
    (no_word (words_of text)) _ (no_word_is (words_of text) (some_words text)) (λ _ e.
    let is : text ≡ codes "end" = one_is text (codes "end") (e ∙ ap (λ (x : List ℕ). x ∷ []) k) in
    record {
      at = h.at;
      same_plan = h.same_plan;
      same_box = h.same_box;
      lines = ap (λ (ts : List (List ℕ)). ts ++ codes "end" ∷ []) h.lines
          ∙ ap (λ (t : List ℕ). texts ++ t ∷ []) (sym is);
      unbegun = λ began. absurd cc;
      calls = h.calls;
      last = h.last;
      few = h.few;
    })

line_told : (plan : PlanFields) (b : ℕ) (stage : Stage) (texts : List (List ℕ)) (d : DraftFields) (text : List ℕ)
    → d.stage ≡ stage → IsTold plan b stage texts d
    → OfOk (IsReadOnto plan b (texts ++ text ∷ [])) (stage_onto stage d (words_of text))
unfolding stage_onto
line_told plan b stages.Script texts d text s h =
    if_keeps (IsReadOnto plan b (texts ++ text ∷ [])) (bytes_eq (keyword (words_of text)) (codes "script")) _ _
    (λ e. script_told plan b texts d text h ((bytes_eq-Decides (keyword (words_of text)) (codes "script")).0 e))
    (λ _. tt)
line_told plan b stages.Calls texts d text s h =
    if_keeps (IsReadOnto plan b (texts ++ text ∷ [])) (bytes_eq (keyword (words_of text)) (codes "end")) _ _
    (λ e. end_told plan b texts d text h ((bytes_eq-Decides (keyword (words_of text)) (codes "end")).0 e))
    (λ _. call_told plan b texts d text s h)
line_told plan b stages.Ended texts d text s h = tt

-- each line that is read is told
all_told : (plan : PlanFields) (b : ℕ) (texts more : List (List ℕ)) (d : DraftFields) → IsReadOnto plan b texts d
    → OfOk (IsReadOnto plan b (texts ++ more)) (all_onto words_onto d more)
all_told plan b texts [] d h = rw append-nil h
all_told plan b texts (text ∷ more) d h =
    bind_keeps (IsReadOnto plan b (texts ++ text ∷ [])) (IsReadOnto plan b (texts ++ text ∷ more))
    (words_onto d (words_of text)) (λ next. all_onto words_onto next more)
    (line_told plan b d.stage texts d text refl h)
    (λ next q. subst (λ (ts : List (List ℕ)). OfOk (IsReadOnto plan b ts) (all_onto words_onto next more))
    (append_assoc texts (text ∷ []) more) (all_told plan b (texts ++ text ∷ []) more next q))

-- the script of a draft
abbrev script_from : DraftFields → Script
script_from draft = record { box_no = draft.box_no; calls = draft.calls }

script_lines_are : (plan : PlanFields) (b : ℕ) (stage : Stage) (calls : List Call) (texts : List (List ℕ))
    → has_ended stage ≡ true → lines_so_far stage plan b calls ≡ texts
    → texts ≡ script_lines plan (record { box_no = b; calls = calls })
unfolding script_lines
script_lines_are plan b stages.Script calls texts e h = absurd cc
script_lines_are plan b stages.Calls calls texts e h = absurd cc
script_lines_are plan b stages.Ended calls texts e h = sym h

-- `end` has stood
abbrev is_ended : DraftFields → Bool
is_ended draft = has_ended draft.stage

-- what is so of the lines of a text that is read
abbrev AreRead : PlanFields → ℕ → List Line → DraftFields → Type 0
AreRead plan b lines last =
    (list_all is_formed lines ≡ true) × (all_onto words_onto (start plan b) (kept lines) ≡ Ok last)
    × (is_ended last ≡ true)

nothing_told : (plan : PlanFields) (b : ℕ) → b < length plan.boxes → IsReadOnto plan b [] (start plan b)
nothing_told plan b at =
    record {
      at = at;
      same_plan = refl;
      same_box = refl;
      lines = refl;
      unbegun = λ _. refl;
      calls = tt;
      last =
          refl;
      few = omega arith;
    }

read_is_spelled : (plan : PlanFields) (b : ℕ) (bytes : List ℕ) (last : DraftFields) → b < length plan.boxes
    → length bytes ≤ most_script_bytes → AreRead plan b (lines_of bytes) last
    → SpellsScript plan b bytes (script_from last)
read_is_spelled plan b bytes last at fits r =
    let told : IsReadOnto plan b (kept (lines_of bytes)) last =
    subst (OfOk (IsReadOnto plan b (kept (lines_of bytes)))) r.1
    (all_told plan b [] (kept (lines_of bytes)) (start plan b) (nothing_told plan b at)) in
    let whole_lines = script_lines_are plan b last.stage last.calls (kept (lines_of bytes)) r.2 told.lines in
    record {
      of_box = record { box = told.same_box; calls = told.calls; few = told.few };
      short = fits;
      formed = r.0;
      lines = rw told.same_box whole_lines;
    }

draft_is_spelled : (plan : PlanFields) (b : ℕ) (bytes : List ℕ) → b < length plan.boxes
    → OfOk (λ last. SpellsScript plan b bytes (script_from last))
    (text_onto words_onto is_ended most_script_bytes (start plan b) bytes)
unfolding text_onto
draft_is_spelled plan b bytes at =
    if_keeps (λ last. SpellsScript plan b bytes (script_from last)) (ltb 1048576 (length bytes)) _ _ (λ _. tt)
    (λ short. weaker (AreRead plan b (lines_of bytes)) (λ last. SpellsScript plan b bytes (script_from last))
    (lines_onto words_onto is_ended 1 (start plan b) (lines_of bytes))
    (lines_are words_onto is_ended 1 (start plan b) (lines_of bytes))
    (λ last r. read_is_spelled plan b bytes last at (grind (arith, nat_tests)) r)) where
      weaker : {A E : Type 0} (P Q : A → Type 0) (r : Result A E) → OfOk P r → ((x : A) → P x → Q x) → OfOk Q r
      weaker P Q (Ok x) h f = f x h
      weaker P Q (Err e) h f = tt

-- a text that is read as a script spells it
pub spelled_script : (plan : PlanFields) (b : ℕ) (bytes : List ℕ) (script : Script) → b < length plan.boxes
    → script_of plan b bytes ≡ Ok script → SpellsScript plan b bytes script
unfolding script_of
spelled_script plan b bytes script at e =
    subst (OfOk (SpellsScript plan b bytes)) e
    (bind_keeps (λ last. SpellsScript plan b bytes (script_from last)) (SpellsScript plan b bytes)
    (text_onto words_onto is_ended most_script_bytes (start plan b) bytes) (λ d. Ok (script_from d))
    (draft_is_spelled plan b bytes at)
    (λ last spells. spells))

-- ---- every spelling is read

bytes_eq-same : (xs : List ℕ) → bytes_eq xs xs ≡ true
bytes_eq-same xs = (bytes_eq-Decides xs xs).1 refl

-- the name of a box
box_is_named : (plan : PlanFields) (b : ℕ) → IsPlan plan → b < length plan.boxes → is_name (box_name plan b) ≡ true
box_is_named plan b p h =
    valid_at is_name (names_of plan.boxes) b p.named
    (omega (arith, h, length-map plan.boxes (λ box_plan. box_plan.name)))

box_words : (plan : PlanFields) (b : ℕ) → IsPlan plan → b < length plan.boxes
    → list_all is_word (codes "script" ∷ box_name plan b ∷ []) ≡ true
box_words plan b p h = rw (name_is_word (box_name plan b) (box_is_named plan b p h)) refl

box_line_is : (plan : PlanFields) (b : ℕ) → IsPlan plan → b < length plan.boxes → IsWords (box_line plan b)
box_line_is plan b p h =
    form_of-words true (codes "script") (box_name plan b ∷ []) (box_words plan b p h) refl
    (omega (
      arith,
      length-append (codes "script") (32 ∷ box_name plan b),
      length-name (box_name plan b) (box_is_named plan b p h),
    ))

call_line_is : (plan : PlanFields) (b : ℕ) (call : Call) → IsPlan plan → KnowsCall plan b call
    → IsWords (call_text plan call)
unfolding call_text
call_line_is plan b call p h =
    form_of-words true (moment_text plan.version call.moment) (act_words plan call.act) (call_words_are plan b call p h)
    (moment_word plan b call h).counts (omega (arith, length-call_text plan b call p h))

call_lines_are : (plan : PlanFields) (b moment : ℕ) (calls : List Call) → IsPlan plan → AreCalls plan b moment calls
    → AllWords (call_lines plan calls ++ codes "end" ∷ [])
call_lines_are plan b moment [] p h = (form_of-words true (codes "end") [] refl refl (omega arith), tt)
call_lines_are plan b moment (call ∷ calls) p h =
    (call_line_is plan b call p h.0, call_lines_are plan b call.moment calls p h.2)

script_lines_words : (plan : PlanFields) (b : ℕ) (script : Script) → IsPlan plan → b < length plan.boxes
    → IsScriptOf plan b script → AllWords (script_lines plan script)
unfolding script_lines
script_lines_words plan b script p h s =
    (rw s.box (box_line_is plan b p h), call_lines_are plan b 0 script.calls p s.calls)

abbrev drafted : PlanFields → ℕ → Stage → ℕ → List Call → DraftFields
drafted plan b stage moment calls = record { plan = plan; box_no = b; stage = stage; moment = moment; calls = calls }

-- a moment's text is no `end`
no_end : (plan : PlanFields) (b : ℕ) (call : Call) → KnowsCall plan b call
    → bytes_eq (moment_text plan.version call.moment) (codes "end") ≡ false
no_end plan b call h = go (bytes_eq (moment_text plan.version call.moment) (codes "end")) refl where
  go : (same : Bool) → bytes_eq (moment_text plan.version call.moment) (codes "end") ≡ same → same ≡ false
  go true e =
      let short : length (moment_text plan.version call.moment) ≡ 3 =
      ap length ((bytes_eq-Decides (moment_text plan.version call.moment) (codes "end")).0 e) in
      absurd (omega (arith, short, (moment_word plan b call h).some))
  go false e = refl

call_onto-words : (plan : PlanFields) (b moment : ℕ) (front : List Call) (call : Call) → IsPlan plan
    → KnowsCall plan b call → moment ≤ call.moment → length front < 10000
    → call_onto (drafted plan b stages.Calls moment front) (call_words plan call)
    ≡ Ok (drafted plan b stages.Calls call.moment (front ++ call ∷ []))
unfolding call_onto
call_onto-words plan b moment front call p known later room =
    let rises : ltb call.moment moment ≡ false = le-ltb _ _ later in
    let fits : leb 10000 (length front) ≡ false = grind (arith, nat_tests) in
    rw (moment_read plan b call known, rises, act_of-words plan b call p known, fits) refl

call_read : (plan : PlanFields) (b moment : ℕ) (front : List Call) (call : Call) → IsPlan plan → KnowsCall plan b call
    → moment ≤ call.moment → length front < 10000
    → stage_onto stages.Calls (drafted plan b stages.Calls moment front) (words_of (call_text plan call))
    ≡ Ok (drafted plan b stages.Calls call.moment (front ++ call ∷ []))
unfolding stage_onto
call_read plan b moment front call p known later room =
    rw (words_of-call plan b call p known, no_end plan b call known)
    (call_onto-words plan b moment front call p known later room)

end_read : (plan : PlanFields) (b moment : ℕ) (calls : List Call)
    → stage_onto stages.Calls (drafted plan b stages.Calls moment calls) (words_of (codes "end"))
    ≡ Ok (drafted plan b stages.Ended moment calls)
unfolding stage_onto end_onto
end_read plan b moment calls = refl

calls_read : (plan : PlanFields) (b moment : ℕ) (front calls : List Call) → IsPlan plan → AreCalls plan b moment calls
    → length front + length calls ≤ 10000
    → all_onto words_onto (drafted plan b stages.Calls moment front) (call_lines plan calls ++ codes "end" ∷ [])
    ≡ Ok (drafted plan b stages.Ended (last_moment moment calls) (front ++ calls))
calls_read plan b moment front [] p h few = rw (end_read plan b moment front, append-nil) refl
calls_read plan b moment front (call ∷ calls) p h few =
    let room : length front < 10000 = omega arith in
    let rest : length (front ++ call ∷ []) + length calls ≤ 10000 = omega (arith, length-append front (call ∷ [])) in
    rw (call_read plan b moment front call p h.0 h.1 room)
    (calls_read plan b call.moment (front ++ call ∷ []) calls p h.2 rest
    ∙ ap (λ (all : List Call). Ok (drafted plan b stages.Ended (last_moment call.moment calls) all))
    (append_assoc front (call ∷ []) calls))

box_read : (plan : PlanFields) (b : ℕ) → IsPlan plan → b < length plan.boxes
    → stage_onto stages.Script (start plan b) (words_of (box_line plan b)) ≡ Ok (drafted plan b stages.Calls 0 [])
unfolding stage_onto script_onto
box_read plan b p h =
    let words : words_of (box_line plan b) ≡ codes "script" ∷ box_name plan b ∷ [] =
    words_of-words (codes "script") (box_name plan b ∷ []) (box_words plan b p h) in
    rw (words, bytes_eq-same (box_name plan b)) refl

lines_onto_start : (plan : PlanFields) (b : ℕ) (calls : List Call) → IsPlan plan → b < length plan.boxes
    → AreCalls plan b 0 calls → length calls ≤ 10000
    → all_onto words_onto (start plan b) (box_line plan b ∷ (call_lines plan calls ++ codes "end" ∷ []))
    ≡ Ok (drafted plan b stages.Ended (last_moment 0 calls) calls)
lines_onto_start plan b calls p h are few = rw (box_read plan b p h) (calls_read plan b 0 [] calls p are (omega arith))

-- each spelling of a script is read as it
pub every_spelling : (plan : PlanFields) (b : ℕ) (bytes : List ℕ) (script : Script) → IsPlan plan
    → b < length plan.boxes → SpellsScript plan b bytes script → script_of plan b bytes ≡ Ok script
unfolding script_of script_lines text_onto
every_spelling plan b bytes script p h spells =
    let words : AllWords (kept (lines_of bytes)) =
    subst AllWords (sym spells.lines) (script_lines_words plan b script p h spells.of_box) in
    let same : kept (lines_of bytes) ≡ box_line plan b ∷ (call_lines plan script.calls ++ codes "end" ∷ []) =
    spells.lines ∙ rw spells.of_box.box refl in
    let read : all_onto words_onto (start plan b) (kept (lines_of bytes))
    ≡ Ok (drafted plan b stages.Ended (last_moment 0 script.calls) script.calls) =
    ap (all_onto words_onto (start plan b)) same
    ∙ lines_onto_start plan b script.calls p h spells.of_box.calls spells.of_box.few in
    let last : DraftFields = drafted plan b stages.Ended (last_moment 0 script.calls) script.calls in
    let fits : ltb 1048576 (length bytes) ≡ false = le-ltb _ _ spells.short in
    let whole : lines_onto words_onto is_ended 1 (start plan b) (lines_of bytes) ≡ Ok last =
    lines_read words_onto is_ended 1 (start plan b) last (lines_of bytes) spells.formed words read refl in
    rw (fits, whole) (ap (λ (n : ℕ). Ok (record { box_no = n; calls = script.calls })) (sym spells.of_box.box))

-- ---- the printed spelling

printed_calls : (plan : PlanFields) (calls : List Call)
    → flat_map printed_line (call_lines plan calls) ≡ flat_map (λ call. call_line plan call) calls
printed_calls plan [] = refl
printed_calls plan (call ∷ calls) = ap (λ (rest : List ℕ). call_line plan call ++ rest) (printed_calls plan calls)

-- the printed text is the lines of the script, each with its end
printed_lines : (plan : PlanFields) (script : Script)
    → script_text plan script ≡ flat_map printed_line (script_lines plan script)
unfolding script_text script_lines
printed_lines plan script =
    let calls : flat_map printed_line (call_lines plan script.calls ++ codes "end" ∷ [])
    ≡ flat_map (λ call. call_line plan call) script.calls ++ codes "end\n" =
    flat_map-append printed_line (call_lines plan script.calls) (codes "end" ∷ [])
    ∙ ap (λ (front : List ℕ). front ++ codes "end\n") (printed_calls plan script.calls) in
    sym (ap (λ (rest : List ℕ). printed_line (box_line plan script.box_no) ++ rest) calls ∙ simp append_assoc)

lines_lack_end : (plan : PlanFields) (b moment : ℕ) (calls : List Call) → IsPlan plan → AreCalls plan b moment calls
    → list_all (lacks 10) (call_lines plan calls ++ codes "end" ∷ []) ≡ true
unfolding call_text
lines_lack_end plan b moment [] p h = refl
lines_lack_end plan b moment (call ∷ calls) p h =
    rw (
      joined_lacks_line_end (call_words plan call) (call_words_are plan b call p h.0),
      lines_lack_end plan b call.moment calls p h.2,
    ) refl

script_lacks_end : (plan : PlanFields) (b : ℕ) (script : Script) → IsPlan plan → b < length plan.boxes
    → IsScriptOf plan b script → list_all (lacks 10) (script_lines plan script) ≡ true
unfolding script_lines
script_lacks_end plan b script p h s =
    let own : lacks 10 (box_line plan b) ≡ true =
    joined_lacks_line_end (codes "script" ∷ box_name plan b ∷ []) (box_words plan b p h) in
    rw (s.box, own, lines_lack_end plan b 0 script.calls p s.calls) refl

calls_short : (plan : PlanFields) (b moment : ℕ) (calls : List Call) → IsPlan plan → AreCalls plan b moment calls
    → length (flat_map (λ call. call_line plan call) calls) ≤ 40 * length calls
calls_short plan b moment [] p h = omega arith
calls_short plan b moment (call ∷ calls) p h =
    let one : length (call_line plan call) ≤ 40 =
    omega (arith, length-append (call_text plan call) (10 ∷ []), length-call_text plan b call p h.0) in
    omega (
      arith,
      length-append (call_line plan call) (flat_map (λ c. call_line plan c) calls),
      one,
      calls_short plan b call.moment calls p h.2,
    )

short_text : (name calls : List ℕ) → length name ≤ 16 → length calls ≤ 400000
    → length (codes "script " ++ name ++ 10 ∷ [] ++ calls ++ codes "end\n") ≤ 1048576
short_text name calls n c = simp length-append (omega arith)

printed_fits : (plan : PlanFields) (b : ℕ) (script : Script) → IsPlan plan → b < length plan.boxes
    → IsScriptOf plan b script → length (script_text plan script) ≤ 1048576
unfolding script_text
printed_fits plan b script p h s =
    let few : length script.calls ≤ 10000 = s.few in
    short_text (box_name plan script.box_no) (flat_map (λ call. call_line plan call) script.calls)
    (rw s.box (length-name (box_name plan b) (box_is_named plan b p h)))
    (omega (arith, calls_short plan b 0 script.calls p s.calls, few))

kept-printed : (texts : List (List ℕ)) → AllWords texts → kept (map ended_line texts) ≡ texts
kept-printed [] h = refl
kept-printed (text ∷ texts) h =
    rw (words_kept text h.0) (ap (λ (ts : List (List ℕ)). text ∷ ts) (kept-printed texts h.1))

formed-printed : (texts : List (List ℕ)) → AllWords texts → list_all is_formed (map ended_line texts) ≡ true
formed-printed [] h = refl
formed-printed (text ∷ texts) h = rw (words_formed text h.0, formed-printed texts h.1) refl

-- a script as it is printed spells it
pub printed_spells : (plan : PlanFields) (b : ℕ) (script : Script) → IsPlan plan → b < length plan.boxes
    → IsScriptOf plan b script → SpellsScript plan b (script_text plan script) script
printed_spells plan b script p h s =
    let lines : lines_of (script_text plan script) ≡ map ended_line (script_lines plan script) =
    ap lines_of (printed_lines plan script)
    ∙ lines_of-printed (script_lines plan script) (script_lacks_end plan b script p h s) in
    let words = script_lines_words plan b script p h s in
    record {
      of_box = s;
      short = printed_fits plan b script p h s;
      formed = rw lines (formed-printed (script_lines plan script) words);
      lines = ap kept lines ∙ kept-printed (script_lines plan script) words;
    }

-- a script is read as it is printed
pub printed_script : (plan : PlanFields) (b : ℕ) (script : Script) → IsPlan plan → b < length plan.boxes
    → IsScriptOf plan b script → script_of plan b (script_text plan script) ≡ Ok script
printed_script plan b script p h s =
    every_spelling plan b (script_text plan script) script p h (printed_spells plan b script p h s)

-- ---- what a reader answers

abbrev pub IsReading : PlanFields → ℕ → List ℕ → Result Script ReadError → Type 0
IsReading plan b bytes r = GivesText (λ script. script) r (script_of plan b bytes)

pub reading_spelled : (plan : PlanFields) (b : ℕ) (bytes : List ℕ) (r : Result Script ReadError) → b < length plan.boxes
    → IsReading plan b bytes r → IfOk r (λ script. SpellsScript plan b bytes script)
reading_spelled plan b bytes (Ok script) at e = spelled_script plan b bytes script at e
reading_spelled plan b bytes (Err fault) at e = tt

pub reading_script : (plan : PlanFields) (b : ℕ) (bytes : List ℕ) (r : Result Script ReadError) → b < length plan.boxes
    → IsReading plan b bytes r → IfOk r (λ script. IsScriptOf plan b script)
reading_script plan b bytes (Ok script) at e = (spelled_script plan b bytes script at e).of_box
reading_script plan b bytes (Err fault) at e = tt

refused_or_read : (fault : Fault) (script : Script) (r : Result Script Fault) → r ≡ Err fault → r ≡ Ok script → ⊥
refused_or_read fault script r e k = cc

pub reading_refused : (plan : PlanFields) (b : ℕ) (bytes : List ℕ) (r : Result Script ReadError) → IsPlan plan
    → b < length plan.boxes → IsReading plan b bytes r
    → (line : ℕ) (cause : Cause) → IsErrOf r (errors.Refused line cause) → (script : Script)
    → ¬ SpellsScript plan b bytes script
reading_refused plan b bytes (Ok script) p h e line cause refused other spells = absurd cc
reading_refused plan b bytes (Err (errors.Refused n why)) p h e line cause refused script spells =
    refused_or_read (record { line = n; cause = why }) script (script_of plan b bytes) e
    (every_spelling plan b bytes script p h spells)
reading_refused plan b bytes (Err errors.NoMemory) p h e line cause refused script spells = absurd cc

-- of every reader of a script
pub ruleset reading_rules = (reading_spelled, reading_script, reading_refused)

-- of every text of a script
pub ruleset script_rules = (printed_script, printed_spells, spelled_script, every_spelling)

-- ---- of a script's text the bytes up to one beyond the limit are enough

-- what is read of them is what is read of all
pub script_of-take : (plan : PlanFields) (b : ℕ) (bytes : List ℕ)
    → script_of plan b (take (most_script_bytes + 1) bytes) ≡ script_of plan b bytes
unfolding script_of text_onto
script_of-take plan b bytes =
    ap (λ (r : Result DraftFields Fault). r >>= (λ draft. Ok (script_from draft)))
    (limited-take 1048576 (Err (record { line = 0; cause = causes.TooLong }))
    (λ bs. lines_onto words_onto (λ draft. has_ended draft.stage) 1 (start plan b) (lines_of bs)) bytes)

pub ruleset limit_rules = (script_of-take)
