-- Transcripts, one behind another.
use Rattle.std.proofs.Common.{◌≡◌, ℕ, Bool, true, false, not, List, [], ◌∷◌}
use Rattle.std.proofs.Common.{◌++◌, Option, refl, sym, ap, ◌∙◌, append_assoc, subst, take}
use Rattle.std.proofs.lemmas.List.{append-nil}
use Rattle.rail_text.specs.Bytes.{TakesPart, appended}
use Rattle.rail_text.proofs.Appended.{appended-none, appended-two}
use Rattle.hand_working.specs.declared.manner.Manner.{Manner}
use Rattle.hand_working.specs.Duties.{Doings, Post, without_last}
use Rattle.typed_words.specs.Typed.{line_read}
use Rattle.hand_working.specs.Passages.{IsPassage, after_line, is_end}
use Rattle.hand_working.specs.Transcripts.{IsTranscript, after_lines}
use Rattle.hand_working.specs.Works.{AreLines, AreOnward, Grows, NoneEnds, PutsPassage}

after_more : (post : Post) (doings : Doings) (lines more : List (List ℕ))
    → after_lines post doings (lines ++ more) ≡ after_lines post (after_lines post doings lines) more
after_more post doings [] more = refl
after_more post doings (line ∷ lines) more = after_more post (after_line post doings line) lines more

transcript_more : (manner : Manner) (post : Post) (doings : Doings) (lines more : List (List ℕ)) (text rest : List ℕ)
    → IsTranscript manner post doings lines text → IsTranscript manner post (after_lines post doings lines) more rest
    → IsTranscript manner post doings (lines ++ more) (text ++ rest)
transcript_more manner post doings [] more text rest h k =
    subst (λ (front : List ℕ). IsTranscript manner post doings more (front ++ rest)) (sym h) k
transcript_more manner post doings (line ∷ lines) more text rest h k = (
  h.0,
  h.1 ++ rest,
  h.2,
  transcript_more manner post (after_line post doings line) lines more h.1 rest h.3 k,
  ap (λ (front : List ℕ). front ++ rest) h.4 ∙ append_assoc h.0 h.1 rest,
)

-- no line is given
pub lines_none : (manner : Manner) (post : Post) (doings : Doings) (given : List (List ℕ)) (taken : Option (List ℕ))
    → AreLines manner post doings doings given given taken taken
lines_none manner post doings given taken = record {
  lines = [];
  text = [];
  are = sym (append-nil given);
  doings = refl;
  transcript = refl;
  onward = tt;
  taken = appended-none taken;
}

-- one line is given, and its passage put
pub lines_one : (manner : Manner) (post : Post) (doings after : Doings) (given : List (List ℕ)) (line passage : List ℕ)
    (old new : Option (List ℕ)) → after ≡ after_line post doings line → IsPassage manner post doings line passage
    → new ≡ appended old passage → AreLines manner post doings after given (given ++ line ∷ []) old new
lines_one manner post doings after given line passage old new is told taken = record {
  lines = line ∷ [];
  text = passage;
  are = refl;
  doings = is;
  transcript = (passage, [], told, refl, sym (append-nil passage));
  onward = tt;
  taken = taken;
}

-- by none of some lines, and of more behind them
none_more : (post : Post) (doings : Doings) (lines more : List (List ℕ)) → NoneEnds post doings lines
    → NoneEnds post (after_lines post doings lines) more → NoneEnds post doings (lines ++ more)
none_more post doings [] more h k = k
none_more post doings (line ∷ lines) more h k = (h.0, none_more post (after_line post doings line) lines more h.1 k)

-- nor by any of the first of them
none_but_last : (post : Post) (doings : Doings) (lines : List (List ℕ)) → NoneEnds post doings lines
    → NoneEnds post doings (without_last lines)
none_but_last post doings [] h = tt
none_but_last post doings (line ∷ []) h = tt
none_but_last post doings (line ∷ (next ∷ lines)) h =
    (h.0, none_but_last post (after_line post doings line) (next ∷ lines) h.1)

-- the last of some lines and of more is that of more, if there is one
last_behind : (lines : List (List ℕ)) (next : List ℕ) (more : List (List ℕ))
    → without_last (lines ++ next ∷ more) ≡ lines ++ without_last (next ∷ more)
last_behind [] next more = refl
last_behind (line ∷ []) next more = refl
last_behind (line ∷ (other ∷ lines)) next more = ap (◌∷◌ line) (last_behind (other ∷ lines) next more)

onward_more : (post : Post) (doings : Doings) (lines more : List (List ℕ)) → NoneEnds post doings lines
    → NoneEnds post (after_lines post doings lines) (without_last more)
    → NoneEnds post doings (without_last (lines ++ more))
onward_more post doings lines [] h k =
    subst (λ (xs : List (List ℕ)). NoneEnds post doings (without_last xs)) (sym (append-nil lines))
    (none_but_last post doings lines h)
onward_more post doings lines (next ∷ more) h k =
    subst (NoneEnds post doings) (sym (last_behind lines next more))
    (none_more post doings lines (without_last (next ∷ more)) h k)

-- lines are given, and then more, where he didn't go off duty by any of the first ones
lines_more : (manner : Manner) (post : Post) (first middle last : Doings) (given then now : List (List ℕ))
    (old between new : Option (List ℕ)) → AreOnward manner post first middle given then old between
    → AreLines manner post middle last then now between new → AreLines manner post first last given now old new
lines_more manner post first middle last given then now old between new o k =
    let h = o.are in
    record {
      lines = h.lines ++ k.lines;
      text = h.text ++ k.text;
      are = k.are ∙ ap (λ (front : List (List ℕ)). front ++ k.lines) h.are ∙ append_assoc given h.lines k.lines;
      doings =
          k.doings ∙ ap (λ (doings : Doings). after_lines post doings k.lines) h.doings
          ∙ sym (after_more post first h.lines k.lines);
      transcript =
          transcript_more manner post first h.lines k.lines h.text k.text h.transcript
          (subst (λ (doings : Doings). IsTranscript manner post doings k.lines k.text) h.doings k.transcript);
      onward =
          onward_more post first h.lines k.lines o.none
          (subst (λ (doings : Doings). NoneEnds post doings (without_last k.lines)) h.doings k.onward);
      taken =
          k.taken ∙ ap (λ (taken : Option (List ℕ)). appended taken k.text) h.taken
          ∙ appended-two old h.text k.text;
    }

-- no line is given, and he may go on
pub onward_none : (manner : Manner) (post : Post) (doings : Doings) (given : List (List ℕ)) (taken : Option (List ℕ))
    → AreOnward manner post doings doings given given taken taken
unfolding lines_none
onward_none manner post doings given taken =
    record { are = lines_none manner post doings given taken; none = tt }

-- what isn't so isn't
not_so : (t more : Bool) → more ≡ true → more ≡ not t → t ≡ false
not_so true more is same = absurd cc
not_so false more is same = refl

-- one line is given, its passage put, and he may go on
pub onward_one : (manner : Manner) (post : Post) (doings after : Doings) (given now : List (List ℕ)) (line : List ℕ)
    (old new : Option (List ℕ)) (more : Bool) → now ≡ given ++ line ∷ [] → after ≡ after_line post doings line
    → PutsPassage manner post doings line old new
    → more ≡ not (is_end (line_read post.plan post.box_no doings.moment line)) → more ≡ true
    → AreOnward manner post doings after given now old new
onward_one manner post doings after given now line old new more are is put goes on =
    record {
      are = record {
        lines = line ∷ [];
        text = put.0;
        are = are;
        doings = is;
        transcript = (put.0, [], put.1, refl, sym (append-nil put.0));
        onward = tt;
        taken = put.2;
      };
      none = (not_so (is_end (line_read post.plan post.box_no doings.moment line)) more on goes, tt);
    }

-- lines are given, and then more, by none of which he goes off duty
pub onward_then : (manner : Manner) (post there : Post) (first middle last : Doings)
    (given then now : List (List ℕ)) (old between new : Option (List ℕ)) → there ≡ post
    → AreOnward manner post first middle given then old between
    → AreOnward manner there middle last then now between new → AreOnward manner post first last given now old new
unfolding lines_more
onward_then manner post there first middle last given then now old between new same h k =
    let at : AreOnward manner post middle last then now between new =
    subst (λ (p : Post). AreOnward manner p middle last then now between new) same k in
    record {
      are = lines_more manner post first middle last given then now old between new h at.are;
      none =
          none_more post first h.are.lines at.are.lines h.none
          (subst (λ (doings : Doings). NoneEnds post doings at.are.lines) h.are.doings at.none);
    }

-- what is put grows
pub grows_more : (old middle new : Option (List ℕ)) → Grows old middle → Grows middle new → Grows old new
grows_more old middle new h k = (
  h.0 ++ k.0,
  k.1 ∙ ap (λ (taken : Option (List ℕ)). appended taken k.0) h.1 ∙ appended-two old h.0 k.0,
)

-- nothing is put
pub grows_none : (taken : Option (List ℕ)) → Grows taken taken
grows_none taken = ([], appended-none taken)

-- lines are given, and then more at what is the same post
pub lines_onward : (manner : Manner) (post there : Post) (first middle last : Doings) (given then now : List (List ℕ))
    (old between new : Option (List ℕ)) → there ≡ post → AreOnward manner post first middle given then old between
    → AreLines manner there middle last then now between new → AreLines manner post first last given now old new
lines_onward manner post there first middle last given then now old between new same h k =
    lines_more manner post first middle last given then now old between new h
    (subst (λ (p : Post). AreLines manner p middle last then now between new) same k)

-- a part of a text is put
pub grows_part : (old new : Option (List ℕ)) (text : List ℕ) → TakesPart old new text → Grows old new
grows_part old new text h = (take h.0 text, h.2)
