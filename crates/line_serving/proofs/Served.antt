-- Lines are answered, one behind another.
use Rattle.std.proofs.Common.{◌≡◌, ℕ, ◌+◌, false, List, [], ◌∷◌, ◌++◌, Option, Some, None}
use Rattle.std.proofs.Common.{length, take, drop, refl, sym, ap, arith}
use Rattle.std.proofs.Common.{◌∙◌, append_assoc, subst, inl, inr}
use Rattle.std.specs.Prelude.{Bool, IfErr, IfOk, Result, Ok, Err, true, not, option_to_list}
use Rattle.std.proofs.Math.Seq.{take-add}
use Rattle.std.proofs.lemmas.Grind.{common_steps}
use Rattle.std.proofs.lemmas.List.{append-nil}
use Rattle.std.proofs.lemmas.List.Elements.{All-append, All-cons, All-nil}
use Rattle.rail_text.specs.Bytes.{appended}
use Rattle.rail_text.proofs.Appended.{appended-none, appended-two}
use Rattle.line_service.specs.Answers.{after_line, ends}
use Rattle.line_service.specs.Services.{ServiceFields}
use Rattle.line_serving.specs.declared.serving.ServeFault.{ServeFault}
use Rattle.line_serving.specs.Sources.{given_all}
use Rattle.line_serving.specs.Transcripts.{Answers, AnswersPart, AreOnward, AreServed, IsCutShort, IsOnward, IsServed}
use Rattle.line_serving.specs.Transcripts.{IsTranscript, after_lines}

-- ---- what is given, made and put, one after another

given_none : (given : Option (List (List ℕ))) → given ≡ given_all given []
given_none None = refl
given_none (Some lines) = ap Some (sym (append-nil lines))

given_two : (given : Option (List (List ℕ))) (lines more : List (List ℕ))
    → given_all (given_all given lines) more ≡ given_all given (lines ++ more)
given_two None lines more = refl
given_two (Some front) lines more = ap Some (append_assoc front lines more)

given_both : (given then now : Option (List (List ℕ))) (lines more : List (List ℕ)) → then ≡ given_all given lines
    → now ≡ given_all then more → now ≡ given_all given (lines ++ more)
given_both given then now lines more h k =
    k ∙ ap (λ (g : Option (List (List ℕ))). given_all g more) h ∙ given_two given lines more

put_both : (old between new : Option (List ℕ)) (text rest : List ℕ) → between ≡ appended old text
    → new ≡ appended between rest → new ≡ appended old (text ++ rest)
put_both old between new text rest h k =
    k ∙ ap (λ (o : Option (List ℕ)). appended o rest) h ∙ appended-two old text rest

after_more : (service : ServiceFields) (lines more : List (List ℕ))
    → after_lines service (lines ++ more) ≡ after_lines (after_lines service lines) more
after_more service [] more = refl
after_more service (line ∷ lines) more = after_more (after_line service line) lines more

after_both : (first middle last : ServiceFields) (lines more : List (List ℕ)) → middle ≡ after_lines first lines
    → last ≡ after_lines middle more → last ≡ after_lines first (lines ++ more)
after_both first middle last lines more h k =
    k ∙ ap (λ (s : ServiceFields). after_lines s more) h ∙ sym (after_more first lines more)

transcript_more : (service : ServiceFields) (lines more : List (List ℕ)) (text rest : List ℕ)
    → IsTranscript service lines text → IsTranscript (after_lines service lines) more rest
    → IsTranscript service (lines ++ more) (text ++ rest)
transcript_more service [] more text rest h k =
    subst (λ (front : List ℕ). IsTranscript service more (front ++ rest)) (sym h) k
transcript_more service (line ∷ lines) more text rest h k = (
  h.0,
  h.1 ++ rest,
  h.2,
  transcript_more (after_line service line) lines more h.1 rest h.3 k,
  ap (λ (front : List ℕ). front ++ rest) h.4 ∙ append_assoc h.0 (10 ∷ h.1) rest,
)

take_all : (xs ys : List ℕ) → take (length xs) (xs ++ ys) ≡ xs
take_all xs ys = grind (arith, common_steps)

drop_all : (xs ys : List ℕ) → drop (length xs) (xs ++ ys) ≡ ys
drop_all xs ys = grind (arith, common_steps)

take_behind : (xs ys : List ℕ) (n : ℕ) → take (length xs + n) (xs ++ ys) ≡ xs ++ take n ys
take_behind xs ys n =
    take-add (length xs) n (xs ++ ys)
    ∙ ap (λ (front : List ℕ). front ++ take n (drop (length xs) (xs ++ ys))) (take_all xs ys)
    ∙ ap (λ (rest : List ℕ). xs ++ take n rest) (drop_all xs ys)

transcript_both : (first middle : ServiceFields) (lines more : List (List ℕ)) (text rest : List ℕ)
    → middle ≡ after_lines first lines → IsTranscript first lines text → IsTranscript middle more rest
    → IsTranscript first (lines ++ more) (text ++ rest)
transcript_both first middle lines more text rest is h k =
    transcript_more first lines more text rest h
    (subst (λ (s : ServiceFields). IsTranscript s more rest) is k)

served_both : (first middle last : ServiceFields) (given then now : Option (List (List ℕ)))
    (old between new : Option (List ℕ)) (lines more : List (List ℕ))
    → AreServed first middle given then old between lines → AreServed middle last then now between new more
    → AreServed first last given now old new (lines ++ more)
served_both first middle last given then now old between new lines more h k = record {
  text = h.text ++ k.text;
  are = given_both given then now lines more h.are k.are;
  service = after_both first middle last lines more h.service k.service;
  transcript = transcript_both first middle lines more h.text k.text h.service h.transcript k.transcript;
  taken = put_both old between new h.text k.text h.taken k.taken;
}

-- ---- no line, and one

none_are : (service : ServiceFields) (given : Option (List (List ℕ))) (old : Option (List ℕ))
    → AreServed service service given given old old []
none_are service given old = record {
  text = [];
  are = given_none given;
  service = refl;
  transcript = refl;
  taken = appended-none old;
}

one_are : (before after : ServiceFields) (given now : Option (List (List ℕ))) (old new : Option (List ℕ))
    (line : List ℕ) → now ≡ given_all given (line ∷ []) → Answers before line after old new
    → AreServed before after given now old new (line ∷ [])
one_are before after given now old new line are h = record {
  text = h.answer ++ 10 ∷ [];
  are = are;
  service = h.service;
  transcript = (h.answer, [], h.is, refl, refl);
  taken = h.taken;
}

-- no line is given
pub served_none : (service : ServiceFields) (given now : Option (List (List ℕ))) (old : Option (List ℕ)) → now ≡ given
    → IsServed service service given now old old
served_none service given now old same = record {
  front = [];
  last = None;
  onward = All-nil IsOnward;
  are = record {
    text = [];
    are = same ∙ given_none given;
    service = refl;
    transcript = refl;
    taken = appended-none old;
  };
}

-- one line is given, and answered
pub served_one : (before after : ServiceFields) (given now : Option (List (List ℕ))) (old new : Option (List ℕ))
    (line : List ℕ) → now ≡ given_all given (line ∷ []) → Answers before line after old new
    → IsServed before after given now old new
served_one before after given now old new line are h = record {
  front = [];
  last = Some line;
  onward = All-nil IsOnward;
  are = one_are before after given now old new line are h;
}

-- no line is given, and another may come
pub onward_none : (service : ServiceFields) (given : Option (List (List ℕ))) (old : Option (List ℕ))
    → AreOnward service service given given old old
onward_none service given old =
    record { lines = []; onward = All-nil IsOnward; are = none_are service given old }

-- one line is given, and answered, and another may come
pub onward_one : (before after : ServiceFields) (given now : Option (List (List ℕ))) (old new : Option (List ℕ))
    (line : List ℕ) → now ≡ given_all given (line ∷ []) → Answers before line after old new → ends line ≡ false
    → AreOnward before after given now old new
onward_one before after given now old new line are h goes = record {
  lines = line ∷ [];
  onward = All-cons IsOnward line [] goes (All-nil IsOnward);
  are = one_are before after given now old new line are h;
}

-- no line is given, since the source fails
pub cut_none : (service : ServiceFields) (given now : Option (List (List ℕ))) (old : Option (List ℕ)) → now ≡ given
    → IsCutShort service service given now old old
cut_none service given now old same = record {
  front = [];
  last = None;
  unanswered = None;
  text = [];
  part = 0;
  onward = All-nil IsOnward;
  are = same ∙ given_none given;
  service = refl;
  transcript = refl;
  taken = appended-none old;
}

-- one line is given, and not answered, or in part
pub cut_one : (before after : ServiceFields) (given now : Option (List (List ℕ))) (old new : Option (List ℕ))
    (line : List ℕ) → now ≡ given_all given (line ∷ []) → AnswersPart before line after old new
    → IsCutShort before after given now old new
cut_one before after given now old new line are h =
    elim h.done [
      | inl none ↦ record {
        front = [];
        last = None;
        unanswered = Some line;
        text = [];
        part = 0;
        onward = All-nil IsOnward;
        are = are;
        service = none.0;
        transcript = refl;
        taken = none.1 ∙ appended-none old;
      }
      | inr some ↦ record {
        front = [];
        last = Some line;
        unanswered = None;
        text = some.0 ++ 10 ∷ [];
        part = some.3.0;
        onward = All-nil IsOnward;
        are = are;
        service = some.2;
        transcript = (some.0, [], some.1, refl, refl);
        taken = some.3.1;
      }
    ]

-- ---- by what came of a line

-- where nothing is said of the error
pub any_error : {T E : Type 0} (r : Result T E) (P : Type 0) → P → IfErr r (λ e. P)
any_error (Ok x) P h = tt
any_error (Err e) P h = h

-- what isn't so isn't
not_so : (t more : Bool) → more ≡ true → more ≡ not t → t ≡ false
not_so true more is same = absurd cc
not_so false more is same = refl

-- one line is given, and answered
pub given_served : (r : Result Bool ServeFault) (before after : ServiceFields) (given now : Option (List (List ℕ)))
    (old new : Option (List ℕ)) (line : List ℕ) → now ≡ given_all given (line ∷ [])
    → IfOk r (λ more. Answers before line after old new) → IfOk r (λ more. IsServed before after given now old new)
given_served (Ok more) before after given now old new line are h =
    served_one before after given now old new line are h
given_served (Err fault) before after given now old new line are h = tt

-- and another may come
pub given_onward : (r : Result Bool ServeFault) (before after : ServiceFields) (given now : Option (List (List ℕ)))
    (old new : Option (List ℕ)) (line : List ℕ) → now ≡ given_all given (line ∷ [])
    → IfOk r (λ more. Answers before line after old new) → IfOk r (λ more. more ≡ not (ends line))
    → IfOk r (λ more. more ≡ true → AreOnward before after given now old new)
given_onward (Ok more) before after given now old new line are h goes =
    λ is. onward_one before after given now old new line are h (not_so (ends line) more is goes)
given_onward (Err fault) before after given now old new line are h goes = tt

-- one line is given, and not answered, or in part
pub given_cut : (r : Result Bool ServeFault) (before after : ServiceFields) (given now : Option (List (List ℕ)))
    (old new : Option (List ℕ)) (line : List ℕ) → now ≡ given_all given (line ∷ [])
    → IfErr r (λ fault. AnswersPart before line after old new)
    → IfErr r (λ fault. IsCutShort before after given now old new)
given_cut (Ok more) before after given now old new line are h = tt
given_cut (Err fault) before after given now old new line are h =
    cut_one before after given now old new line are h

-- ---- more lines

-- lines are given, and then more, and another may come
pub onward_more : (first middle last : ServiceFields) (given then now : Option (List (List ℕ)))
    (old between new : Option (List ℕ)) → AreOnward first middle given then old between
    → AreOnward middle last then now between new → AreOnward first last given now old new
onward_more first middle last given then now old between new h k = record {
  lines = h.lines ++ k.lines;
  onward = All-append IsOnward h.lines k.lines h.onward k.onward;
  are = served_both first middle last given then now old between new h.lines k.lines h.are k.are;
}

-- lines are given, and then more
pub served_more : (first middle last : ServiceFields) (given then now : Option (List (List ℕ)))
    (old between new : Option (List ℕ)) → AreOnward first middle given then old between
    → IsServed middle last then now between new → IsServed first last given now old new
served_more first middle last given then now old between new h k = record {
  front = h.lines ++ k.front;
  last = k.last;
  onward = All-append IsOnward h.lines k.front h.onward k.onward;
  are =
      subst (λ (lines : List (List ℕ)). AreServed first last given now old new lines)
      (sym (append_assoc h.lines k.front (option_to_list k.last)))
      (served_both first middle last given then now old between new h.lines (k.front ++ option_to_list k.last) h.are
      k.are);
}

-- lines are given, and then some that are cut short
pub cut_more : (first middle last : ServiceFields) (given then now : Option (List (List ℕ)))
    (old between new : Option (List ℕ)) → AreOnward first middle given then old between
    → IsCutShort middle last then now between new → IsCutShort first last given now old new
cut_more first middle last given then now old between new h k =
    let rest : List (List ℕ) = k.front ++ option_to_list k.last in
    let all : (h.lines ++ k.front) ++ option_to_list k.last ≡ h.lines ++ rest =
    append_assoc h.lines k.front (option_to_list k.last) in
    record {
      front = h.lines ++ k.front;
      last = k.last;
      unanswered = k.unanswered;
      text = h.are.text ++ k.text;
      part = length h.are.text + k.part;
      onward = All-append IsOnward h.lines k.front h.onward k.onward;
      are =
          given_both given then now h.lines (rest ++ option_to_list k.unanswered) h.are.are k.are
          ∙ ap (given_all given)
          (sym (append_assoc h.lines rest (option_to_list k.unanswered))
          ∙ ap (λ (lines : List (List ℕ)). lines ++ option_to_list k.unanswered) (sym all));
      service =
          after_both first middle last h.lines rest h.are.service k.service ∙ ap (after_lines first) (sym all);
      transcript =
          subst (λ (lines : List (List ℕ)). IsTranscript first lines (h.are.text ++ k.text)) (sym all)
          (transcript_both first middle h.lines rest h.are.text k.text h.are.service h.are.transcript k.transcript);
      taken =
          put_both old between new h.are.text (take k.part k.text) h.are.taken k.taken
          ∙ ap (appended old) (sym (take_behind h.are.text k.text k.part));
    }
