-- Token scripts are read as they are spelled, and only so.
use Rattle.std.proofs.Common.{◌≡◌, ℕ, ◌+◌, ◌*◌, ◌<◌, ◌≤◌, Bool, true, false, ltb, leb, List, [], ◌∷◌, ◌++◌, length, map}
use Rattle.std.proofs.Common.{Result, Ok, Err, IfOk, IsErrOf, refl, sym, ap, subst, ◌∙◌, arith}
use Rattle.std.proofs.Common.{append_assoc, codes, bytes_eq, slice_get, decimal}
use Rattle.std.specs.List.{list_all, flat_map, join_with_byte}
use Rattle.std.proofs.lemmas.Bool.{le-ltb}
use Rattle.std.proofs.lemmas.Bool.Decides.{nat_tests}
use Rattle.std.proofs.lemmas.Fmt.{decimal_digit}
use Rattle.std.proofs.lemmas.List.{append-nil, map-append, length-append}
use Rattle.std.proofs.lemmas.Slice.Eq.{bytes_eq-Decides}
use Rattle.rail_text.specs.Forms.{is_word}
use Rattle.rail_text.specs.Gives.{Fault, GivesText}
use Rattle.rail_text.specs.Kept.{is_formed, kept}
use Rattle.rail_text.specs.Lines.{Line, lines_of, words_of, lacks, ended_line, printed_line}
use Rattle.rail_text.specs.Texts.{lines_onto, text_onto}
use Rattle.rail_text.specs.Words.{keyword, one_word, no_word, number_in}
use Rattle.rail_text.specs.declared.cause.Cause.{Cause}
use Rattle.rail_text.specs.declared.cause.ReadError.{ReadError}
use Rattle.rail_text.specs.declared.cause.ReadError.TheVariants as errors
use Rattle.rail_text.proofs.Binds.{OfOk, bind_keeps, if_keeps, InRange, number_in_is, one_word_is, no_word_is}
use Rattle.rail_text.proofs.KeptLines.{all_onto, lines_are, IsWords, AllWords, words_formed, words_kept, lines_read}
use Rattle.rail_text.proofs.PrintedLines.{joined-words_of, some_words, lines_of-printed}
use Rattle.rail_text.proofs.PrintedWords.{decimal_is_word, form_of-words, joined_lacks_line_end, length-decimal_word}
use Rattle.rail_text.proofs.PrintedWords.{number_in-decimal, words_of-words}
use Rattle.token_law.specs.History.{AreTokenCalls}
use Rattle.token_law.specs.Law.{IsTokenCall}
use Rattle.token_law.specs.declared.calls.TokenCall.{TokenCall}
use Rattle.token_text.specs.Acts.{act_words, call_of, call_words, token_call_text}
use Rattle.token_text.specs.Drafts.{TokenDraftFields, start}
use Rattle.token_text.specs.Scripts.{IsTokenScript, TokenScriptFields, call_onto, end_onto, has_ended}
use Rattle.token_text.specs.Scripts.{most_script_bytes, pair_of, script_from, stage_onto, token_script_of}
use Rattle.token_text.specs.Scripts.{tokens_onto, version_onto, words_onto}
use Rattle.token_text.specs.Spelled.{MayName, MayNameAll, SpellsTokenScript, call_lines, opening_text}
use Rattle.token_text.specs.Spelled.{token_script_lines, token_script_text}
use Rattle.token_text.specs.declared.draft.Stage.{Stage}
use Rattle.token_text.specs.declared.draft.Stage.TheVariants as stages
use Rattle.token_text.proofs.CallTexts.{IsCallOf, box_counts, box_is_no_end, call_of_is, call_read, call_text-words}
use Rattle.token_text.proofs.CallTexts.{call_words_are, length-call, words_of-call}
use Rattle.token_text.proofs.Calls.{more_calls}

-- ---- the lines of the script so far

abbrev lines_so_far : Stage → TokenDraftFields → List (List ℕ)
lines_so_far stages.Version d = []
lines_so_far stages.Tokens d = codes "token 1" ∷ []
lines_so_far stages.Calls d = codes "token 1" ∷ opening_text d.at_0 d.at_1 ∷ call_lines d.calls
lines_so_far stages.Ended d =
    codes "token 1" ∷ opening_text d.at_0 d.at_1 ∷ (call_lines d.calls ++ codes "end" ∷ [])

-- no call stands before the line of the tokens
abbrev IsBegun : Stage → List TokenCall → Type 0
IsBegun stages.Version calls = calls ≡ []
IsBegun stages.Tokens calls = calls ≡ []
IsBegun stages.Calls calls = Unit {0}
IsBegun stages.Ended calls = Unit {0}

-- these lines were read onto a draft at this stage
record IsTold (stage : Stage) (texts : List (List ℕ)) (draft : TokenDraftFields) : Type 0 where
  lines : lines_so_far stage draft ≡ texts
  begun : IsBegun stage draft.calls
  is : IsTokenScript (script_from draft)
  named : MayNameAll draft.calls

abbrev IsReadOnto : List (List ℕ) → TokenDraftFields → Type 0
IsReadOnto texts draft = IsTold draft.stage texts draft

-- a text by its words
joined_are : (text : List ℕ) (words : List (List ℕ)) → words_of text ≡ words → text ≡ join_with_byte 32 words
joined_are text words e = sym (joined-words_of text) ∙ ap (join_with_byte 32) e

version_told : (texts : List (List ℕ)) (d : TokenDraftFields) (text : List ℕ) → IsTold stages.Version texts d
    → keyword (words_of text) ≡ codes "token"
    → OfOk (IsReadOnto (texts ++ text ∷ [])) (version_onto d (words_of text))
unfolding version_onto
version_told texts d text h k =
    bind_keeps (λ word. words_of text ≡ keyword (words_of text) ∷ word ∷ []) (IsReadOnto (texts ++ text ∷ []))
    (one_word (words_of text)) _ (one_word_is (words_of text)) (λ word e.
    bind_keeps (InRange 1 1 word) (IsReadOnto (texts ++ text ∷ [])) (number_in 1 1 word) _ (number_in_is 1 1 word)
    (λ version r.
    let one : version ≡ 1 = omega (arith, r.1, r.2) in
    let is : text ≡ codes "token 1" =
    joined_are text (codes "token" ∷ codes "1" ∷ [])
    (e ∙ ap (λ (w : List ℕ). w ∷ word ∷ []) k
    ∙ ap (λ (w : List ℕ). codes "token" ∷ w ∷ []) (r.0 ∙ ap decimal one ∙ decimal_digit 1 (omega arith))) in
    record {
      lines = ap (λ (t : List ℕ). t ∷ []) (sym is) ∙ ap (λ (ts : List (List ℕ)). ts ++ text ∷ []) h.lines;
      begun = h.begun;
      is = h.is;
      named = h.named;
    }))

pair_is : (words : List (List ℕ))
    → OfOk (λ both. words ≡ keyword words ∷ both.0 ∷ both.1 ∷ [])
    (pair_of (slice_get words 1) (slice_get words 2) (slice_get words 3))
pair_is [] = tt
pair_is (a ∷ []) = tt
pair_is (a ∷ b ∷ []) = tt
pair_is (a ∷ b ∷ c ∷ []) = refl
pair_is (a ∷ b ∷ c ∷ d ∷ words) = tt

tokens_told : (texts : List (List ℕ)) (d : TokenDraftFields) (text : List ℕ) → IsTold stages.Tokens texts d
    → keyword (words_of text) ≡ codes "tokens"
    → OfOk (IsReadOnto (texts ++ text ∷ [])) (tokens_onto d (words_of text))
unfolding tokens_onto
tokens_told texts d text h k =
    let words : List (List ℕ) = words_of text in
    bind_keeps (λ both. words ≡ keyword words ∷ both.0 ∷ both.1 ∷ []) (IsReadOnto (texts ++ text ∷ []))
    (pair_of (slice_get words 1) (slice_get words 2) (slice_get words 3)) _ (pair_is words) (λ both e.
    bind_keeps (InRange 0 50 both.0) (IsReadOnto (texts ++ text ∷ [])) (number_in 0 50 both.0) _
    (number_in_is 0 50 both.0) (λ at_0 r.
    bind_keeps (InRange 0 50 both.1) (IsReadOnto (texts ++ text ∷ [])) (number_in 0 50 both.1) _
    (number_in_is 0 50 both.1) (λ at_1 s.
    let is : text ≡ opening_text at_0 at_1 =
    joined_are text (codes "tokens" ∷ decimal at_0 ∷ decimal at_1 ∷ [])
    (e ∙ ap (λ (w : List ℕ). w ∷ both.0 ∷ both.1 ∷ []) k
    ∙ ap (λ (w : List ℕ). codes "tokens" ∷ w ∷ both.1 ∷ []) r.0
    ∙ ap (λ (w : List ℕ). codes "tokens" ∷ decimal at_0 ∷ w ∷ []) s.0) in
    record {
      lines = ap (λ (calls : List TokenCall). codes "token 1" ∷ opening_text at_0 at_1 ∷ call_lines calls) h.begun
          ∙ ap (λ (t : List ℕ). codes "token 1" ∷ t ∷ []) (sym is)
          ∙ ap (λ (ts : List (List ℕ)). ts ++ text ∷ []) h.lines;
      begun = tt;
      is = record { few_0 = r.2; few_1 = s.2; calls = h.is.calls; few = h.is.few };
      named = h.named;
    })))

named-more : (calls : List TokenCall) (call : TokenCall) → MayNameAll calls → MayName call.act
    → MayNameAll (calls ++ call ∷ [])
named-more [] call h may = (may, tt)
named-more (first ∷ calls) call h may = (h.0, named-more calls call h.1 may)

call_lines-more : (d : TokenDraftFields) (call : TokenCall) (texts : List (List ℕ)) (text : List ℕ)
    → lines_so_far stages.Calls d ≡ texts → text ≡ token_call_text call
    → codes "token 1" ∷ opening_text d.at_0 d.at_1 ∷ call_lines (d.calls ++ call ∷ []) ≡ texts ++ text ∷ []
call_lines-more d call texts text h e =
    ap (λ (ts : List (List ℕ)). codes "token 1" ∷ opening_text d.at_0 d.at_1 ∷ ts)
    (map-append token_call_text d.calls (call ∷ []))
    ∙ ap (λ (t : List ℕ). lines_so_far stages.Calls d ++ t ∷ []) (sym e)
    ∙ ap (λ (ts : List (List ℕ)). ts ++ text ∷ []) h

call_told : (texts : List (List ℕ)) (d : TokenDraftFields) (text : List ℕ) → d.stage ≡ stages.Calls
    → IsTold stages.Calls texts d
    → OfOk (IsReadOnto (texts ++ text ∷ [])) (call_onto d (words_of text))
unfolding call_onto
call_told texts d text s h =
    bind_keeps (IsCallOf (words_of text)) (IsReadOnto (texts ++ text ∷ [])) (call_of (words_of text)) _
    (call_of_is (words_of text)) (λ call c.
    if_keeps (IsReadOnto (texts ++ text ∷ [])) (leb 10000 (length d.calls)) _ _ (λ _. tt) (λ room.
    let more : length d.calls < 10000 = grind (arith, nat_tests) in
    rw s (record {
      lines = call_lines-more d call texts text h.lines (call_text-words text call c.spelled);
      begun = tt;
      is = record {
        few_0 = h.is.few_0;
        few_1 = h.is.few_1;
        calls = more_calls d.calls call h.is.calls c.is;
        few = omega (arith, length-append d.calls (call ∷ []));
      };
      named = named-more d.calls call h.named c.may;
    })))

end_told : (texts : List (List ℕ)) (d : TokenDraftFields) (text : List ℕ) → IsTold stages.Calls texts d
    → keyword (words_of text) ≡ codes "end"
    → OfOk (IsReadOnto (texts ++ text ∷ [])) (end_onto d (words_of text))
unfolding end_onto
end_told texts d text h k =
    bind_keeps (λ _. words_of text ≡ keyword (words_of text) ∷ []) (IsReadOnto (texts ++ text ∷ []))
    (no_word (words_of text)) _ (no_word_is (words_of text) (some_words text)) (λ _ e.
    let is : text ≡ codes "end" =
    joined_are text (codes "end" ∷ []) (e ∙ ap (λ (x : List ℕ). x ∷ []) k) in
    record {
      lines = ap (λ (ts : List (List ℕ)). ts ++ codes "end" ∷ []) h.lines
          ∙ ap (λ (t : List ℕ). texts ++ t ∷ []) (sym is);
      begun = tt;
      is = h.is;
      named = h.named;
    })

line_told : (stage : Stage) (texts : List (List ℕ)) (d : TokenDraftFields) (text : List ℕ) → d.stage ≡ stage
    → IsTold stage texts d → OfOk (IsReadOnto (texts ++ text ∷ [])) (stage_onto stage d (words_of text))
unfolding stage_onto
line_told stages.Version texts d text s h =
    if_keeps (IsReadOnto (texts ++ text ∷ [])) (bytes_eq (keyword (words_of text)) (codes "token")) _ _
    (λ e. version_told texts d text h ((bytes_eq-Decides (keyword (words_of text)) (codes "token")).0 e)) (λ _. tt)
line_told stages.Tokens texts d text s h =
    if_keeps (IsReadOnto (texts ++ text ∷ [])) (bytes_eq (keyword (words_of text)) (codes "tokens")) _ _
    (λ e. tokens_told texts d text h ((bytes_eq-Decides (keyword (words_of text)) (codes "tokens")).0 e)) (λ _. tt)
line_told stages.Calls texts d text s h =
    if_keeps (IsReadOnto (texts ++ text ∷ [])) (bytes_eq (keyword (words_of text)) (codes "end")) _ _
    (λ e. end_told texts d text h ((bytes_eq-Decides (keyword (words_of text)) (codes "end")).0 e))
    (λ _. call_told texts d text s h)
line_told stages.Ended texts d text s h = tt

-- each line that is read is told
all_told : (texts more : List (List ℕ)) (d : TokenDraftFields) → IsReadOnto texts d
    → OfOk (IsReadOnto (texts ++ more)) (all_onto words_onto d more)
all_told texts [] d h = rw append-nil h
all_told texts (text ∷ more) d h =
    bind_keeps (IsReadOnto (texts ++ text ∷ [])) (IsReadOnto (texts ++ text ∷ more))
    (words_onto d (words_of text)) (λ next. all_onto words_onto next more) (line_told d.stage texts d text refl h)
    (λ next q. subst (λ (ts : List (List ℕ)). OfOk (IsReadOnto ts) (all_onto words_onto next more))
    (append_assoc texts (text ∷ []) more) (all_told (texts ++ text ∷ []) more next q))

script_lines_are : (stage : Stage) (d : TokenDraftFields) (texts : List (List ℕ)) → has_ended stage ≡ true
    → lines_so_far stage d ≡ texts → texts ≡ token_script_lines (script_from d)
unfolding token_script_lines
script_lines_are stages.Version d texts e h = absurd cc
script_lines_are stages.Tokens d texts e h = absurd cc
script_lines_are stages.Calls d texts e h = absurd cc
script_lines_are stages.Ended d texts e h = sym h

-- `end` has stood
abbrev is_ended : TokenDraftFields → Bool
is_ended draft = has_ended draft.stage

-- what is so of the lines of a text that is read
abbrev AreRead : List Line → TokenDraftFields → Type 0
AreRead lines last =
    (list_all is_formed lines ≡ true) × (all_onto words_onto start (kept lines) ≡ Ok last) × (is_ended last ≡ true)

nothing_told : IsReadOnto [] start
nothing_told =
    record {
      lines = refl;
      begun = refl;
      is = record { few_0 = omega arith; few_1 = omega arith; calls = tt; few = omega arith };
      named = tt;
    }

read_is_spelled : (bytes : List ℕ) (last : TokenDraftFields) → length bytes ≤ most_script_bytes
    → AreRead (lines_of bytes) last → SpellsTokenScript bytes (script_from last)
read_is_spelled bytes last fits r =
    let told : IsReadOnto (kept (lines_of bytes)) last =
    subst (OfOk (IsReadOnto (kept (lines_of bytes)))) r.1 (all_told [] (kept (lines_of bytes)) start nothing_told) in
    record {
      is = told.is;
      named = told.named;
      short = fits;
      formed = r.0;
      lines = script_lines_are last.stage last (kept (lines_of bytes)) r.2 told.lines;
    }

draft_is_spelled : (bytes : List ℕ)
    → OfOk (λ last. SpellsTokenScript bytes (script_from last))
    (text_onto words_onto is_ended most_script_bytes start bytes)
unfolding text_onto
draft_is_spelled bytes =
    if_keeps (λ last. SpellsTokenScript bytes (script_from last)) (ltb 1048576 (length bytes)) _ _ (λ _. tt)
    (λ short. weaker (AreRead (lines_of bytes)) (λ last. SpellsTokenScript bytes (script_from last))
    (lines_onto words_onto is_ended 1 start (lines_of bytes))
    (lines_are words_onto is_ended 1 start (lines_of bytes))
    (λ last r. read_is_spelled bytes last (grind (arith, nat_tests)) r)) where
      weaker : {A E : Type 0} (P Q : A → Type 0) (r : Result A E) → OfOk P r → ((x : A) → P x → Q x) → OfOk Q r
      weaker P Q (Ok x) h f = f x h
      weaker P Q (Err e) h f = tt

-- a text that is read as a token script spells it
pub spelled_script : (bytes : List ℕ) (script : TokenScriptFields) → token_script_of bytes ≡ Ok script
    → SpellsTokenScript bytes script
unfolding token_script_of
spelled_script bytes script e =
    subst (OfOk (SpellsTokenScript bytes)) e
    (bind_keeps (λ last. SpellsTokenScript bytes (script_from last)) (SpellsTokenScript bytes)
    (text_onto words_onto is_ended most_script_bytes start bytes) (λ d. Ok (script_from d)) (draft_is_spelled bytes)
    (λ last spells. spells))

-- ---- every spelling is read

-- what the line of the tokens says
opening_words_are : (at_0 at_1 : ℕ) → at_0 ≤ 50 → at_1 ≤ 50
    → list_all is_word (codes "tokens" ∷ decimal at_0 ∷ decimal at_1 ∷ []) ≡ true
opening_words_are at_0 at_1 h k =
    let one : is_word (decimal at_0) ≡ true = decimal_is_word at_0 (omega (arith, h)) in
    let other : is_word (decimal at_1) ≡ true = decimal_is_word at_1 (omega (arith, k)) in
    rw (one, other) refl

length-opening : (at_0 at_1 : ℕ) → at_0 ≤ 50 → at_1 ≤ 50 → length (opening_text at_0 at_1) ≤ 28
length-opening at_0 at_1 h k =
    omega (
      arith,
      length-append (codes "tokens") (32 ∷ (decimal at_0 ++ 32 ∷ decimal at_1)),
      length-append (decimal at_0) (32 ∷ decimal at_1),
      length-decimal_word at_0 (omega (arith, h)),
      length-decimal_word at_1 (omega (arith, k)),
    )

call_line_is : (call : TokenCall) → IsTokenCall call → MayName call.act → IsWords (token_call_text call)
call_line_is call is may =
    form_of-words true (decimal call.box_no) (act_words call.act) (call_words_are call is may) (box_counts call is)
    (omega (arith, length-call call is may))

call_lines_are : (calls : List TokenCall) → AreTokenCalls calls → MayNameAll calls
    → AllWords (call_lines calls ++ codes "end" ∷ [])
call_lines_are [] h may = (form_of-words true (codes "end") [] refl refl (omega arith), tt)
call_lines_are (call ∷ calls) h may = (call_line_is call h.0 may.0, call_lines_are calls h.1 may.1)

script_lines_words : (script : TokenScriptFields) → IsTokenScript script → MayNameAll script.calls
    → AllWords (token_script_lines script)
unfolding token_script_lines
script_lines_words script is may = (
  form_of-words true (codes "token") (codes "1" ∷ []) refl refl (omega arith),
  (
    form_of-words true (codes "tokens") (decimal script.at_0 ∷ decimal script.at_1 ∷ [])
        (opening_words_are script.at_0 script.at_1 is.few_0 is.few_1) refl
        (omega (arith, length-opening script.at_0 script.at_1 is.few_0 is.few_1)),
    call_lines_are script.calls is.calls may,
  ),
)

abbrev drafted : Stage → ℕ → ℕ → List TokenCall → TokenDraftFields
drafted stage at_0 at_1 calls = record { stage = stage; at_0 = at_0; at_1 = at_1; calls = calls }

call_onto-words : (at_0 at_1 : ℕ) (front : List TokenCall) (call : TokenCall) → IsTokenCall call → MayName call.act
    → length front < 10000
    → call_onto (drafted stages.Calls at_0 at_1 front) (call_words call)
    ≡ Ok (drafted stages.Calls at_0 at_1 (front ++ call ∷ []))
unfolding call_onto
call_onto-words at_0 at_1 front call is may room =
    let fits : leb 10000 (length front) ≡ false = grind (arith, nat_tests) in
    rw (call_read call is may, fits) refl

line_of_call : (at_0 at_1 : ℕ) (front : List TokenCall) (call : TokenCall) → IsTokenCall call → MayName call.act
    → length front < 10000
    → stage_onto stages.Calls (drafted stages.Calls at_0 at_1 front) (words_of (token_call_text call))
    ≡ Ok (drafted stages.Calls at_0 at_1 (front ++ call ∷ []))
unfolding stage_onto
line_of_call at_0 at_1 front call is may room =
    rw (words_of-call call is may, box_is_no_end call is) (call_onto-words at_0 at_1 front call is may room)

end_read : (at_0 at_1 : ℕ) (calls : List TokenCall)
    → stage_onto stages.Calls (drafted stages.Calls at_0 at_1 calls) (words_of (codes "end"))
    ≡ Ok (drafted stages.Ended at_0 at_1 calls)
unfolding stage_onto end_onto
end_read at_0 at_1 calls = refl

calls_read : (at_0 at_1 : ℕ) (front calls : List TokenCall) → AreTokenCalls calls → MayNameAll calls
    → length front + length calls ≤ 10000
    → all_onto words_onto (drafted stages.Calls at_0 at_1 front) (call_lines calls ++ codes "end" ∷ [])
    ≡ Ok (drafted stages.Ended at_0 at_1 (front ++ calls))
calls_read at_0 at_1 front [] h may few = rw (end_read at_0 at_1 front, append-nil) refl
calls_read at_0 at_1 front (call ∷ calls) h may few =
    let room : length front < 10000 = omega arith in
    let rest : length (front ++ call ∷ []) + length calls ≤ 10000 = omega (arith, length-append front (call ∷ [])) in
    rw (line_of_call at_0 at_1 front call h.0 may.0 room)
    (calls_read at_0 at_1 (front ++ call ∷ []) calls h.1 may.1 rest
    ∙ ap (λ (all : List TokenCall). Ok (drafted stages.Ended at_0 at_1 all)) (append_assoc front (call ∷ []) calls))

version_read : stage_onto stages.Version start (words_of (codes "token 1")) ≡ Ok (drafted stages.Tokens 0 0 [])
unfolding stage_onto version_onto
version_read = refl

opening_read : (at_0 at_1 : ℕ) → at_0 ≤ 50 → at_1 ≤ 50
    → stage_onto stages.Tokens (drafted stages.Tokens 0 0 []) (words_of (opening_text at_0 at_1))
    ≡ Ok (drafted stages.Calls at_0 at_1 [])
unfolding stage_onto tokens_onto
opening_read at_0 at_1 h k =
    let words : words_of (opening_text at_0 at_1) ≡ codes "tokens" ∷ decimal at_0 ∷ decimal at_1 ∷ [] =
    words_of-words (codes "tokens") (decimal at_0 ∷ decimal at_1 ∷ []) (opening_words_are at_0 at_1 h k) in
    let one : number_in 0 50 (decimal at_0) ≡ Ok at_0 =
    number_in-decimal 0 50 at_0 (omega arith) h (omega (arith, h)) in
    let other : number_in 0 50 (decimal at_1) ≡ Ok at_1 =
    number_in-decimal 0 50 at_1 (omega arith) k (omega (arith, k)) in
    rw (words, one, other) refl

lines_onto_start : (script : TokenScriptFields) → IsTokenScript script → MayNameAll script.calls
    → all_onto words_onto start (token_script_lines script)
    ≡ Ok (drafted stages.Ended script.at_0 script.at_1 script.calls)
unfolding token_script_lines
lines_onto_start script is may = let few : length script.calls ≤ 10000 = is.few in
    rw (version_read, opening_read script.at_0 script.at_1 is.few_0 is.few_1)
    (calls_read script.at_0 script.at_1 [] script.calls is.calls may (omega (arith, few)))

-- each spelling of a script is read as it
pub every_spelling : (bytes : List ℕ) (script : TokenScriptFields) → SpellsTokenScript bytes script
    → token_script_of bytes ≡ Ok script
unfolding token_script_of text_onto
every_spelling bytes script spells =
    let words : AllWords (kept (lines_of bytes)) =
    subst AllWords (sym spells.lines) (script_lines_words script spells.is spells.named) in
    let last : TokenDraftFields = drafted stages.Ended script.at_0 script.at_1 script.calls in
    let read : all_onto words_onto start (kept (lines_of bytes)) ≡ Ok last =
    ap (all_onto words_onto start) spells.lines ∙ lines_onto_start script spells.is spells.named in
    let fits : ltb 1048576 (length bytes) ≡ false = le-ltb _ _ spells.short in
    let whole : lines_onto words_onto is_ended 1 start (lines_of bytes) ≡ Ok last =
    lines_read words_onto is_ended 1 start last (lines_of bytes) spells.formed words read refl in
    rw (fits, whole) refl

-- ---- the printed spelling

lines_lack_end : (calls : List TokenCall) → AreTokenCalls calls → MayNameAll calls
    → list_all (lacks 10) (call_lines calls ++ codes "end" ∷ []) ≡ true
lines_lack_end [] h may = refl
lines_lack_end (call ∷ calls) h may =
    rw (
      joined_lacks_line_end (call_words call) (call_words_are call h.0 may.0),
      lines_lack_end calls h.1 may.1,
    ) refl

script_lacks_end : (script : TokenScriptFields) → IsTokenScript script → MayNameAll script.calls
    → list_all (lacks 10) (token_script_lines script) ≡ true
unfolding token_script_lines
script_lacks_end script is may =
    rw (
      joined_lacks_line_end (codes "tokens" ∷ decimal script.at_0 ∷ decimal script.at_1 ∷ [])
          (opening_words_are script.at_0 script.at_1 is.few_0 is.few_1),
      lines_lack_end script.calls is.calls may,
    ) refl

calls_short : (calls : List TokenCall) → AreTokenCalls calls → MayNameAll calls
    → length (flat_map printed_line (call_lines calls ++ codes "end" ∷ [])) ≤ 21 * length calls + 4
calls_short [] h may = omega arith
calls_short (call ∷ calls) h may =
    omega (
      arith,
      length-append (printed_line (token_call_text call))
          (flat_map printed_line (call_lines calls ++ codes "end" ∷ [])),
      length-append (token_call_text call) (10 ∷ []),
      length-call call h.0 may.0,
      calls_short calls h.1 may.1,
    )

printed_fits : (script : TokenScriptFields) → IsTokenScript script → MayNameAll script.calls
    → length (token_script_text script) ≤ 1048576
unfolding token_script_lines
printed_fits script is may =
    let few : length script.calls ≤ 10000 = is.few in
    let rest : List ℕ = flat_map printed_line (call_lines script.calls ++ codes "end" ∷ []) in
    let opening : List ℕ = opening_text script.at_0 script.at_1 in
    omega (
      arith,
      few,
      length-append (printed_line (codes "token 1")) (printed_line opening ++ rest),
      length-append (printed_line opening) rest,
      length-append opening (10 ∷ []),
      length-opening script.at_0 script.at_1 is.few_0 is.few_1,
      calls_short script.calls is.calls may,
    )

kept-printed : (texts : List (List ℕ)) → AllWords texts → kept (map ended_line texts) ≡ texts
kept-printed [] h = refl
kept-printed (text ∷ texts) h =
    rw (words_kept text h.0) (ap (λ (ts : List (List ℕ)). text ∷ ts) (kept-printed texts h.1))

formed-printed : (texts : List (List ℕ)) → AllWords texts → list_all is_formed (map ended_line texts) ≡ true
formed-printed [] h = refl
formed-printed (text ∷ texts) h = rw (words_formed text h.0, formed-printed texts h.1) refl

-- a script as it is printed spells it
pub printed_spells : (script : TokenScriptFields) → IsTokenScript script → MayNameAll script.calls
    → SpellsTokenScript (token_script_text script) script
printed_spells script is may =
    let lines : lines_of (token_script_text script) ≡ map ended_line (token_script_lines script) =
    lines_of-printed (token_script_lines script) (script_lacks_end script is may) in
    let words = script_lines_words script is may in
    record {
      is = is;
      named = may;
      short = printed_fits script is may;
      formed = rw lines (formed-printed (token_script_lines script) words);
      lines = ap kept lines ∙ kept-printed (token_script_lines script) words;
    }

-- a script is read as it is printed
pub printed_script : (script : TokenScriptFields) → IsTokenScript script → MayNameAll script.calls
    → token_script_of (token_script_text script) ≡ Ok script
printed_script script is may = every_spelling (token_script_text script) script (printed_spells script is may)

-- ---- what a reader answers

abbrev pub IsReading : List ℕ → Result TokenScriptFields ReadError → Type 0
IsReading bytes r = GivesText (λ script. script) r (token_script_of bytes)

pub reading_spelled : (bytes : List ℕ) (r : Result TokenScriptFields ReadError) → IsReading bytes r
    → IfOk r (λ script. SpellsTokenScript bytes script)
reading_spelled bytes (Ok script) e = spelled_script bytes script e
reading_spelled bytes (Err fault) e = tt

refused_or_read : (fault : Fault) (script : TokenScriptFields) (r : Result TokenScriptFields Fault) → r ≡ Err fault
    → r ≡ Ok script → ⊥
refused_or_read fault script r e k = cc

pub reading_refused : (bytes : List ℕ) (r : Result TokenScriptFields ReadError) → IsReading bytes r
    → (line : ℕ) (cause : Cause) → IsErrOf r (errors.Refused line cause) → (script : TokenScriptFields)
    → ¬ SpellsTokenScript bytes script
reading_refused bytes (Ok script) e line cause refused other spells = absurd cc
reading_refused bytes (Err (errors.Refused n why)) e line cause refused script spells =
    refused_or_read (record { line = n; cause = why }) script (token_script_of bytes) e
    (every_spelling bytes script spells)
reading_refused bytes (Err errors.NoMemory) e line cause refused script spells = absurd cc

pub ruleset reading_rules = (reading_spelled, reading_refused)

pub ruleset script_rules = (printed_script, printed_spells, spelled_script, every_spelling)
