-- A train enters a section by the word of that.
use Rattle.std.proofs.Common.{◌≡◌, ◌≢◌, ℕ, ◌+◌, List, true, false, ⊎_elim, sym, ap, ◌∙◌, subst, arith}
use Rattle.std.specs.Prelude.{Option, Some}
use Rattle.block_words.specs.Sections.{lane}
use Rattle.block_words.specs.declared.Way.{Way}
use Rattle.line_law.specs.declared.call.Reply.TheVariants.{Entered, SectionFull}
use Rattle.line_law.specs.declared.link.Link.TheVariants.{Out}
use Rattle.line_law.specs.declared.state.BoxState.{BoxState}
use Rattle.line_law.specs.declared.state.Passage.{Passage}
use Rattle.line_law.specs.declared.ways.ByWay.{ByWay}
use Rattle.line_law.specs.Decisions.{Told}
use Rattle.line_law.specs.Trains.{enter, holds}
use Rattle.line_law.specs.Ways.{of_way, with_way}
use Rattle.word_laws.specs.WordNumbers.{PlainLineAgrees, plain_line_number}
use Rattle.word_laws.proofs.Lanes.{Full, Next, if_false, if_true, lane-plain_line_number, next_lane}
use Rattle.box_desk.specs.Steps.{IsTold}

told_is : (x y : Told (List Passage)) → x ≡ y → IsTold (List Passage) x y.reply y.here
told_is x y is =
    record {
      reply_is = ap (λ (t : Told (List Passage)). t.reply) is;
      here_is = ap (λ (t : Told (List Passage)). t.here) is;
    }

module _ (here left : BoxState) (way : Way) (train : ℕ) (line : List Passage)
    (agrees : PlainLineAgrees (Out way) here line) where
  full : lane (plain_line_number line) (of_way here.sent way + 1) ≢ 0 → holds line (of_way here.sent way + 1) ≡ true
  full some = ⊎_elim
      (λ (n : Next (of_way here.sent way) line). absurd (some
      (lane-plain_line_number line (of_way here.sent way + 1) agrees.each ∙ n.empty)))
      (λ (f : Full (of_way here.sent way) line). f.taken)
      (next_lane agrees.numbered.0 (of_way here.sent way) line agrees.numbered.1 agrees.four agrees.each)

  free : lane (plain_line_number line) (of_way here.sent way + 1) ≡ 0 → holds line (of_way here.sent way + 1) ≡ false
  free none = ⊎_elim
      (λ (n : Next (of_way here.sent way) line). n.free)
      (λ (f : Full (of_way here.sent way) line). let t = f.there in
      let l = lane-plain_line_number line (of_way here.sent way + 1) agrees.each in absurd (omega arith))
      (next_lane agrees.numbered.0 (of_way here.sent way) line agrees.numbered.1 agrees.four agrees.each)

  -- a taken lane: the section is full
  pub full_told : lane (plain_line_number line) (of_way here.sent way + 1) ≢ 0
      → IsTold (List Passage) (enter here left way train line) (SectionFull (of_way here.sent way + 1)) here
  full_told some = told_is _ _ (if_true (holds line (of_way here.sent way + 1)) _ _ (full some))

  -- an empty lane: the train enters
  pub entered_told : lane (plain_line_number line) (of_way here.sent way + 1) ≡ 0
      → IsTold (List Passage) (enter here left way train line) (Entered train (of_way here.sent way + 1))
      (record left { sent = with_way left.sent way (of_way here.sent way + 1) })
  entered_told none = told_is _ _ (if_false (holds line (of_way here.sent way + 1)) _ _ (free none))

-- ---- by the word as it was read

found : (k word : ℕ) (here : BoxState) (way : Way) (line : List Passage) (taken : ℕ) → plain_line_number line ≡ word
    → k ≡ of_way here.sent way → taken ≡ lane word (k + 1)
    → lane (plain_line_number line) (of_way here.sent way + 1) ≡ taken
found k word here way line taken packs is read =
    ap (λ (w : ℕ). lane w (of_way here.sent way + 1)) packs
    ∙ ap (λ (n : ℕ). lane word (n + 1)) (sym is) ∙ sym read

-- where the lane of the next train is taken the section is full
pub full_by_word : (here left : BoxState) (way : Way) (train : ℕ) (line : List Passage) (k word taken : ℕ)
    → PlainLineAgrees (Out way) here line → plain_line_number line ≡ word → k ≡ of_way here.sent way
    → taken ≡ lane word (k + 1) → taken ≢ 0
    → IsTold (List Passage) (enter here left way train line) (SectionFull (k + 1)) here
full_by_word here left way train line k word taken agrees packs is read some =
    subst (λ (n : ℕ). IsTold (List Passage) (enter here left way train line) (SectionFull (n + 1)) here) (sym is)
    (full_told here left way train line agrees (λ none. some (sym (found k word here way line taken packs is read)
    ∙ none)))

-- and where it is empty the train enters it
pub entered_by_word : (here left : BoxState) (way : Way) (train : ℕ) (line : List Passage) (k word taken gone : ℕ)
    (after : BoxState) (sent : ByWay ℕ) (stands : Option ℕ) → PlainLineAgrees (Out way) here line
    → plain_line_number line ≡ word → k ≡ of_way here.sent way → taken ≡ lane word (k + 1) → taken ≡ 0
    → stands ≡ Some train → stands ≡ Some gone → after ≡ left → sent ≡ with_way after.sent way (k + 1)
    → IsTold (List Passage) (enter here left way train line) (Entered gone (k + 1)) (record after { sent = sent })
entered_by_word here left way train line k word taken gone after sent stands agrees packs is read none one other went
    made =
    let same : train ≡ gone = some_same train gone (sym one ∙ other) in
    let told = entered_told here left way train line agrees (found k word here way line taken packs is read ∙ none) in
    record {
      reply_is = told.reply_is ∙ ap (λ (n : ℕ). Entered train (n + 1)) (sym is)
          ∙ ap (λ (t : ℕ). Entered t (k + 1)) same;
      here_is = told.here_is
          ∙ ap (λ (n : ℕ). record left { sent = with_way left.sent way (n + 1) }) (sym is)
          ∙ ap (λ (b : BoxState). record b { sent = with_way b.sent way (k + 1) }) (sym went)
          ∙ ap (λ (s : ByWay ℕ). record after { sent = s }) (sym made);
    }
  where
    some_same : (a b : ℕ) → Some a ≡ Some b → a ≡ b
    some_same a b e = cc
