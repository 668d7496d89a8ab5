-- What a text is read as is a reply that it spells, and each reply has one spelling.
use Rattle.std.proofs.Common.{◌≡◌, ℕ, ◌*◌, ◌^◌, ◌<◌, ◌≤◌, Bool, true, false, cond, ltb, ◌&&◌, ◌||◌, List, [], ◌∷◌}
use Rattle.std.proofs.Common.{length, Option, Some, None, option_map, Result, Ok, Err, IsTrue, IfOk, IsErr, ◌↔◌, refl}
use Rattle.std.proofs.Common.{sym, ap, subst, ◌∙◌, arith, codes, bytes_eq, decimal}
use Rattle.std.specs.List.{join_with_byte, list_all}
use Rattle.std.proofs.lemmas.Bool.Decides.{nat_tests}
use Rattle.block_words.specs.declared.Position.{Position}
use Rattle.rail_text.specs.Forms.{is_word}
use Rattle.rail_text.specs.Lines.{words_of}
use Rattle.rail_text.specs.Number.{number_of}
use Rattle.rail_text.specs.declared.cause.Cause.{Cause}
use Rattle.rail_text.specs.declared.cause.Cause.TheVariants as causes
use Rattle.rail_text.proofs.Binds.{OfOk}
use Rattle.rail_text.proofs.NumberLemmas.{number_of-spelled}
use Rattle.rail_text.proofs.PrintedLines.{both, joined-words_of}
use Rattle.rail_text.proofs.PrintedWords.{words_of-words}
use Rattle.line_plan.specs.Plans.{PlanFields, IsPlan}
use Rattle.line_plan.specs.Ways.{way_word}
use Rattle.line_law.specs.declared.call.Act.{Act}
use Rattle.line_law.specs.declared.call.Reply.{Reply}
use Rattle.script_text.specs.Answers.{reply_in, ◌and_then◌, small, small_number, state_named, spent_named}
use Rattle.script_text.specs.Answers.{lone_rows, count_rows, code_rows, stand_rows, train_rows, lone_reply, count_reply}
use Rattle.script_text.specs.Answers.{pair_reply, code_reply, stand_reply, train_reply, tells_a_train, bell_shown}
use Rattle.script_text.specs.Answers.{shown_reply, triple_reply, lever_reply, instrument_reply, shaped_reply, accepted}
use Rattle.script_text.specs.Answers.{reply_of}
use Rattle.script_text.specs.Moments.{ready_of, moment_text}
use Rattle.script_text.specs.Names.{position_text, code_no_text, place_text, train_text, way_named}
use Rattle.script_text.specs.Names.{position_named, code_named, place_named, train_named}
use Rattle.script_text.specs.Replies.{shown_text, state_text, spent_text, reply_words, reply_text, is_spelled_reply}
use Rattle.script_text.specs.PossibleReplies.{may_answer}
use Rattle.script_text.specs.Spelled.{SpellsReply}
use Rattle.script_text.proofs.CallTexts.{OfSome, some_keeps, same_bytes, AllRows, rows_keep, way_spelled}
use Rattle.script_text.proofs.CallTexts.{position_spelled, join_next}
use Rattle.script_text.proofs.CodeTexts.{code_spelled}
use Rattle.script_text.proofs.MomentTexts.{spelled_ready}
use Rattle.script_text.proofs.Named.{place_spelled, train_spelled}
use Rattle.script_text.proofs.ReplyWords.{is_short_word, reply_reads}
use Rattle.script_text.proofs.PlainWords.{all_weaker}

-- ---- going through a reading

of_some : {A : Type 0} (P : A → Type 0) (o : Option A) → ((x : A) → o ≡ Some x → P x) → OfSome P o
of_some P None h = tt
of_some P (Some x) h = h x refl

then_keeps : {A B : Type 0} (Q : A → Type 0) (P : B → Type 0) (o : Option A) (f : A → Option B) → OfSome Q o
    → ((x : A) → Q x → OfSome P (f x)) → OfSome P (o and_then f)
then_keeps Q P None f q h = tt
then_keeps Q P (Some x) f q h = h x q

map_keeps : {A B : Type 0} (Q : A → Type 0) (P : B → Type 0) (o : Option A) (f : A → B) → OfSome Q o
    → ((x : A) → Q x → P (f x)) → OfSome P (option_map f o)
map_keeps Q P None f q h = tt
map_keeps Q P (Some x) f q h = h x q

-- ---- single words

number_is : (word : List ℕ) → OfSome (λ n. word ≡ decimal n) (number_of word)
number_is word = of_some _ (number_of word) (λ n e. (number_of-spelled word n e).0)

small_is : (word : List ℕ) → OfSome (λ n. word ≡ decimal n) (small_number word)
small_is word = go (number_of word) (number_is word) where
  go : (o : Option ℕ) → OfSome (λ n. word ≡ decimal n) o → OfSome (λ n. word ≡ decimal n) (small o)
  go None h = tt
  go (Some n) h = some_keeps (λ m. word ≡ decimal m) (ltb n (2 ^ 32)) (Some n) None (λ _. h) (λ _. tt)

train_is : (plan : PlanFields) (word : List ℕ) → OfSome (λ train. word ≡ train_text plan train) (train_named plan word)
train_is plan word = of_some _ (train_named plan word) (λ train e. (train_spelled plan word train e).1)

place_is : (plan : PlanFields) (b : ℕ) (word : List ℕ)
    → OfSome (λ place. word ≡ place_text plan b place) (place_named plan b word)
place_is plan b word = of_some _ (place_named plan b word) (λ place e. place_spelled plan b word place e)

code_is : (plan : PlanFields) (word : List ℕ)
    → OfSome (λ code. word ≡ code_no_text plan.codes code) (code_named plan word)
code_is plan word = of_some _ (code_named plan word) (λ code e. (code_spelled plan word code e).1)

ready_is : (plan : PlanFields) (word : List ℕ)
    → OfSome (λ moment. word ≡ moment_text plan.version moment) (ready_of plan.version word)
ready_is plan word = of_some _ (ready_of plan.version word) (λ moment e. spelled_ready plan.version word moment e)

state_is : (word : List ℕ) → OfSome (λ state. word ≡ state_text state) (state_named word)
state_is word =
    some_keeps (λ state. word ≡ state_text state) (bytes_eq word (codes "given")) _ _
    (λ e. same_bytes word (codes "given") e)
    (λ _. some_keeps (λ state. word ≡ state_text state) (bytes_eq word (codes "berthed")) _ _
    (λ e. same_bytes word (codes "berthed") e) (λ _. tt))

spent_is : (word : List ℕ) → OfSome (λ spent. word ≡ spent_text spent) (spent_named word)
spent_is word =
    some_keeps (λ spent. word ≡ spent_text spent) (bytes_eq word (codes "spent")) _ _
    (λ e. same_bytes word (codes "spent") e)
    (λ _. some_keeps (λ spent. word ≡ spent_text spent) (bytes_eq word (codes "unspent")) _ _
    (λ e. same_bytes word (codes "unspent") e) (λ _. tt))

shown_is : (plan : PlanFields) (word : List ℕ) → OfSome (λ shown. word ≡ shown_text plan shown) (bell_shown plan word)
shown_is plan word =
    some_keeps (λ shown. word ≡ shown_text plan shown) (bytes_eq word (codes "none")) _ _
    (λ e. same_bytes word (codes "none") e)
    (λ _. map_keeps (λ code. word ≡ code_no_text plan.codes code) (λ shown. word ≡ shown_text plan shown)
    (code_named plan word) (λ code. Some code) (code_is plan word) (λ code e. e))

-- ---- shapes

-- the words are those of the reply
abbrev Says : PlanFields → ℕ → List (List ℕ) → Reply → Type 0
Says plan b words reply = words ≡ reply_words plan b reply

one_same : (w v : List ℕ) → w ≡ v → w ∷ [] ≡ v ∷ []
one_same w v e = ap (λ (x : List ℕ). x ∷ []) e

two_same : (w v x y : List ℕ) → w ≡ v → x ≡ y → w ∷ x ∷ [] ≡ v ∷ y ∷ []
two_same w v x y e f = rw (e, f) refl

three_same : (w v x y p q : List ℕ) → w ≡ v → x ≡ y → p ≡ q → w ∷ x ∷ p ∷ [] ≡ v ∷ y ∷ q ∷ []
three_same w v x y p q e f g = rw (e, f, g) refl

lone_is : (plan : PlanFields) (b : ℕ) (w : List ℕ) → OfSome (Says plan b (w ∷ [])) (lone_reply w)
unfolding lone_reply AllRows
lone_is plan b w =
    rows_keep (Says plan b (w ∷ [])) w lone_rows
    (s, (s, (s, (s, (s, (s, (s, (s, (s, (s, (s, (s, (s, (s, (s, (s, (s, tt))))))))))))))))) where
      s : {v : List ℕ} → w ≡ v → w ∷ [] ≡ v ∷ []
      s e = one_same w _ e

count_is : (plan : PlanFields) (b : ℕ) (w : List ℕ) (n : ℕ)
    → OfSome (Says plan b (w ∷ decimal n ∷ [])) (count_reply w n)
unfolding count_reply AllRows
count_is plan b w n =
    rows_keep (Says plan b (w ∷ decimal n ∷ [])) w (count_rows n) (s, (s, (s, (s, (s, (s, (s, (s, tt)))))))) where
      s : {v : List ℕ} → w ≡ v → w ∷ decimal n ∷ [] ≡ v ∷ decimal n ∷ []
      s e = two_same w _ (decimal n) (decimal n) e refl

pair_is : (plan : PlanFields) (b : ℕ) (w x : List ℕ) → OfSome (Says plan b (w ∷ x ∷ [])) (pair_reply plan w x)
unfolding pair_reply
pair_is plan b w x =
    let P : Reply → Type 0 = Says plan b (w ∷ x ∷ []) in
    some_keeps P (bytes_eq w (codes "passed")) _ _
    (λ e. map_keeps _ P (train_named plan x) _ (train_is plan x)
    (λ t f. two_same w (codes "passed") x _ (same_bytes w (codes "passed") e) f))
    (λ _. some_keeps P (bytes_eq w (codes "occupied")) _ _
    (λ e. map_keeps _ P (train_named plan x) _ (train_is plan x)
    (λ t f. two_same w (codes "occupied") x _ (same_bytes w (codes "occupied") e) f))
    (λ _. some_keeps P (bytes_eq w (codes "portion_ahead")) _ _
    (λ e. map_keeps _ P (train_named plan x) _ (train_is plan x)
    (λ t f. two_same w (codes "portion_ahead") x _ (same_bytes w (codes "portion_ahead") e) f))
    (λ _. some_keeps P (bytes_eq w (codes "home_reversed")) _ _
    (λ e. map_keeps _ P (small_number x) _ (small_is x)
    (λ n f. two_same w (codes "home_reversed") x _ (same_bytes w (codes "home_reversed") e) f))
    (λ _. some_keeps P (bytes_eq w (codes "count_full")) _ _
    (λ e. map_keeps _ P (small_number x) _ (small_is x)
    (λ n f. two_same w (codes "count_full") x _ (same_bytes w (codes "count_full") e) f))
    (λ _. some_keeps P (bytes_eq w (codes "welwyn_holds")) _ _
    (λ e. map_keeps _ P (state_named x) _ (state_is x)
    (λ s f. two_same w (codes "welwyn_holds") x _ (same_bytes w (codes "welwyn_holds") e) f))
    (λ _. some_keeps P (bytes_eq w (codes "winding")) _ _
    (λ e. map_keeps _ P (ready_of plan.version x) _ (ready_is plan x)
    (λ m f. two_same w (codes "winding") x _ (same_bytes w (codes "winding") e) f))
    (λ _. some_keeps P (bytes_eq w (codes "too_soon")) _ _
    (λ e. map_keeps _ P (ready_of plan.version x) _ (ready_is plan x)
    (λ m f. two_same w (codes "too_soon") x _ (same_bytes w (codes "too_soon") e) f))
    (λ _. then_keeps (λ n. x ≡ decimal n) P (number_of x) (count_reply w) (number_is x)
    (λ n f. subst (λ (y : List ℕ). OfSome (Says plan b (w ∷ y ∷ [])) (count_reply w n)) (sym f)
    (count_is plan b w n))))))))))

shown_reply_is : (plan : PlanFields) (b : ℕ) (w x y : List ℕ) (n : ℕ) → w ≡ codes "not_yet" → x ≡ decimal n
    → OfSome (Says plan b (w ∷ x ∷ y ∷ [])) (shown_reply plan n y (position_named y))
shown_reply_is plan b w x y n e f = go (position_named y) refl where
  go : (o : Option Position) → position_named y ≡ o → OfSome (Says plan b (w ∷ x ∷ y ∷ [])) (shown_reply plan n y o)
  go (Some position) is = three_same w (codes "not_yet") x (decimal n) y _ e f (position_spelled y position is)
  go None is =
      map_keeps (λ shown. y ≡ shown_text plan shown) (Says plan b (w ∷ x ∷ y ∷ [])) (bell_shown plan y) _
      (shown_is plan y) (λ shown g. three_same w (codes "not_yet") x (decimal n) y _ e f g)

code_reply_is : (plan : PlanFields) (b : ℕ) (w x y : List ℕ) (k code : ℕ) → x ≡ decimal k
    → y ≡ code_no_text plan.codes code → OfSome (Says plan b (w ∷ x ∷ y ∷ [])) (code_reply w k code)
unfolding AllRows
code_reply_is plan b w x y k code e f = rows_keep (Says plan b (w ∷ x ∷ y ∷ [])) w (code_rows k code) (s, (s, tt)) where
  s : {v : List ℕ} → w ≡ v → w ∷ x ∷ y ∷ [] ≡ v ∷ decimal k ∷ code_no_text plan.codes code ∷ []
  s g = three_same w _ x _ y _ g e f

train_reply_is : (plan : PlanFields) (b : ℕ) (w x y : List ℕ) (n train : ℕ) → x ≡ decimal n → y ≡ train_text plan train
    → OfSome (Says plan b (w ∷ x ∷ y ∷ [])) (train_reply w n train)
unfolding AllRows
train_reply_is plan b w x y n train e f =
    rows_keep (Says plan b (w ∷ x ∷ y ∷ [])) w (train_rows n train) (s, (s, (s, (s, (s, tt))))) where
      s : {v : List ℕ} → w ≡ v → w ∷ x ∷ y ∷ [] ≡ v ∷ decimal n ∷ train_text plan train ∷ []
      s g = three_same w _ x _ y _ g e f

stand_reply_is : (plan : PlanFields) (b : ℕ) (w x y : List ℕ) (place train : ℕ) → x ≡ place_text plan b place
    → y ≡ train_text plan train → OfSome (Says plan b (w ∷ x ∷ y ∷ [])) (stand_reply w place train)
unfolding AllRows
stand_reply_is plan b w x y place train e f =
    rows_keep (Says plan b (w ∷ x ∷ y ∷ [])) w (stand_rows place train) (s, (s, (s, tt))) where
      s : {v : List ℕ} → w ≡ v → w ∷ x ∷ y ∷ [] ≡ v ∷ place_text plan b place ∷ train_text plan train ∷ []
      s g = three_same w _ x _ y _ g e f

triple_is : (plan : PlanFields) (b : ℕ) (w x y : List ℕ)
    → OfSome (Says plan b (w ∷ x ∷ y ∷ [])) (triple_reply plan b w x y)
unfolding triple_reply
triple_is plan b w x y =
    let P : Reply → Type 0 = Says plan b (w ∷ x ∷ y ∷ []) in
    some_keeps P (bytes_eq w (codes "not_yet")) _ _
    (λ e. then_keeps (λ n. x ≡ decimal n) P (number_of x) _ (number_is x)
    (λ n f. shown_reply_is plan b w x y n (same_bytes w (codes "not_yet") e) f))
    (λ _. some_keeps P (bytes_eq w (codes "bell_busy") || bytes_eq w (codes "heard")) _ _
    (λ _. then_keeps (λ n. x ≡ decimal n) P (number_of x) _ (number_is x)
    (λ k e. then_keeps (λ code. y ≡ code_no_text plan.codes code) P (code_named plan y) (code_reply w k)
    (code_is plan y) (λ code f. code_reply_is plan b w x y k code e f)))
    (λ _. some_keeps P (tells_a_train w) _ _
    (λ _. then_keeps (λ n. x ≡ decimal n) P (number_of x) _ (number_is x)
    (λ n e. then_keeps (λ train. y ≡ train_text plan train) P (train_named plan y) (train_reply w n)
    (train_is plan y) (λ train f. train_reply_is plan b w x y n train e f)))
    (λ _. then_keeps (λ place. x ≡ place_text plan b place) P (place_named plan b x) _ (place_is plan b x)
    (λ place e. then_keeps (λ train. y ≡ train_text plan train) P (train_named plan y) (stand_reply w place)
    (train_is plan y) (λ train f. stand_reply_is plan b w x y place train e f)))))

lever_is : (plan : PlanFields) (b : ℕ) (w x y z : List ℕ)
    → OfSome (Says plan b (w ∷ x ∷ y ∷ z ∷ [])) (lever_reply w x y z)
unfolding lever_reply
lever_is plan b w x y z =
    let P : Reply → Type 0 = Says plan b (w ∷ x ∷ y ∷ z ∷ []) in
    some_keeps P (bytes_eq w (codes "held_by_lever") && bytes_eq y (codes "row")) _ _
    (λ h. then_keeps (λ n. x ≡ decimal n) P (small_number x) _ (small_is x)
    (λ lever e. map_keeps (λ n. z ≡ decimal n) P (small_number z) _ (small_is z)
    (λ row f. all_same lever row h e f)))
    (λ _. tt) where
      all_same : (lever row : ℕ) → bytes_eq w (codes "held_by_lever") && bytes_eq y (codes "row") ≡ true
          → x ≡ decimal lever → z ≡ decimal row
          → w ∷ x ∷ y ∷ z ∷ [] ≡ codes "held_by_lever" ∷ decimal lever ∷ codes "row" ∷ decimal row ∷ []
      all_same lever row h e f =
          let g = both (bytes_eq w (codes "held_by_lever")) (bytes_eq y (codes "row")) h in
          ap (λ (v : List ℕ). v ∷ x ∷ y ∷ z ∷ []) (same_bytes w (codes "held_by_lever") g.0)
          ∙ ap (λ (v : List ℕ). codes "held_by_lever" ∷ v ∷ y ∷ z ∷ []) e
          ∙ ap (λ (v : List ℕ). codes "held_by_lever" ∷ decimal lever ∷ v ∷ z ∷ []) (same_bytes y (codes "row") g.1)
          ∙ ap (λ (v : List ℕ). codes "held_by_lever" ∷ decimal lever ∷ codes "row" ∷ v ∷ []) f

instrument_is : (plan : PlanFields) (b : ℕ) (w x y z v : List ℕ)
    → OfSome (Says plan b (w ∷ x ∷ y ∷ z ∷ v ∷ [])) (instrument_reply w x y z v)
unfolding instrument_reply
instrument_is plan b w x y z v =
    let P : Reply → Type 0 = Says plan b (w ∷ x ∷ y ∷ z ∷ v ∷ []) in
    some_keeps P (bytes_eq w (codes "held_by_instrument")) _ _
    (λ e. then_keeps (λ way. x ≡ way_word way) P (way_named x) _ (of_some _ (way_named x) (way_spelled x)) (λ way f.
    then_keeps (λ n. y ≡ decimal n) P (number_of y) _ (number_is y) (λ n g.
    then_keeps (λ position. z ≡ position_text position) P (position_named z) _
    (of_some _ (position_named z) (position_spelled z)) (λ position h.
    map_keeps (λ spent. v ≡ spent_text spent) P (spent_named v) _ (spent_is v)
    (λ spent k. rw (same_bytes w (codes "held_by_instrument") e, f, g, h, k) refl)))))
    (λ _. tt)

shaped_is : (plan : PlanFields) (b : ℕ) (words : List (List ℕ)) → OfSome (Says plan b words) (shaped_reply plan b words)
unfolding shaped_reply
shaped_is plan b [] = tt
shaped_is plan b (w ∷ []) = lone_is plan b w
shaped_is plan b (w ∷ x ∷ []) = pair_is plan b w x
shaped_is plan b (w ∷ x ∷ y ∷ []) = triple_is plan b w x y
shaped_is plan b (w ∷ x ∷ y ∷ z ∷ []) = lever_is plan b w x y z
shaped_is plan b (w ∷ x ∷ y ∷ z ∷ v ∷ []) = instrument_is plan b w x y z v
shaped_is plan b (w ∷ x ∷ y ∷ z ∷ v ∷ u ∷ words) = tt

-- ---- the laws

-- a text that is read as a reply is its one spelling
pub spelled_reply : (plan : PlanFields) (b : ℕ) (act : Act) (text : List ℕ) (reply : Reply)
    → reply_of plan b act text ≡ Ok reply → SpellsReply plan b act text reply
unfolding reply_of reply_in reply_text
spelled_reply plan b act text reply e =
    subst (OfOk (SpellsReply plan b act text)) e
    (go (shaped_reply plan b (words_of text)) (shaped_is plan b (words_of text))) where
      go : (o : Option Reply) → OfSome (Says plan b (words_of text)) o
          → OfOk (SpellsReply plan b act text) (accepted plan b act o)
      go None says = tt
      go (Some reply) says = take_it (may_answer act reply) (is_spelled_reply plan b reply) refl refl where
        take_it : (answers spelled : Bool) → may_answer act reply ≡ answers → is_spelled_reply plan b reply ≡ spelled
            → OfOk (SpellsReply plan b act text) (cond (answers && spelled) (Ok reply) (Err causes.BadReply))
        take_it true true a s =
            record { answers = a; spelled = s; printed = sym (joined-words_of text) ∙ ap (join_with_byte 32) says }
        take_it true false a s = tt
        take_it false spelled a s = tt

joined : (words : List (List ℕ)) → 0 < length words → list_all is_word words ≡ true
    → words_of (join_with_byte 32 words) ≡ words
joined [] some h = absurd (omega arith)
joined (word ∷ words) some h = words_of-words word words h

-- the words of a reply are words
pub reply_words_are : (plan : PlanFields) (b : ℕ) (reply : Reply) → IsPlan plan → b < length plan.boxes
    → is_spelled_reply plan b reply ≡ true → list_all is_word (reply_words plan b reply) ≡ true
reply_words_are plan b reply p at s =
    all_weaker is_short_word is_word (λ word e. (both (is_word word) _ e).0) (reply_words plan b reply)
    (reply_reads plan b reply p at s).are.each

words_of-reply : (plan : PlanFields) (b : ℕ) (reply : Reply) → IsPlan plan → b < length plan.boxes
    → IsTrue (is_spelled_reply plan b reply) → words_of (reply_text plan b reply) ≡ reply_words plan b reply
unfolding reply_text
words_of-reply plan b reply p at s =
    joined (reply_words plan b reply) (reply_reads plan b reply p at s).are.some (reply_words_are plan b reply p at s)

-- a printed reply has the shape of it
shape_of-printed : (plan : PlanFields) (b : ℕ) (reply : Reply) → IsPlan plan → b < length plan.boxes
    → IsTrue (is_spelled_reply plan b reply) → shaped_reply plan b (words_of (reply_text plan b reply)) ≡ Some reply
shape_of-printed plan b reply p at s =
    ap (shaped_reply plan b) (words_of-reply plan b reply p at s) ∙ (reply_reads plan b reply p at s).shape

-- a reply that a text can spell is read as it is printed
pub printed_reply : (plan : PlanFields) (b : ℕ) (act : Act) (reply : Reply) → IsPlan plan → b < length plan.boxes
    → IsTrue (may_answer act reply) → IsTrue (is_spelled_reply plan b reply)
    → reply_of plan b act (reply_text plan b reply) ≡ Ok reply
unfolding reply_of reply_in
printed_reply plan b act reply p at a s = rw (shape_of-printed plan b reply p at s, a, s) refl

-- different replies are printed differently
pub replies_differ : (plan : PlanFields) (b : ℕ) (one other : Reply) → IsPlan plan → b < length plan.boxes
    → IsTrue (is_spelled_reply plan b one) → IsTrue (is_spelled_reply plan b other)
    → reply_text plan b one ≡ reply_text plan b other → one ≡ other
replies_differ plan b one other p at s t e =
    same (sym (shape_of-printed plan b one p at s) ∙ ap (λ (text : List ℕ). shaped_reply plan b (words_of text)) e
    ∙ shape_of-printed plan b other p at t) where
      same : Some one ≡ Some other → one ≡ other
      same h = cc

-- of every text of a reply
pub ruleset reply_rules = (printed_reply, spelled_reply, replies_differ)

-- ---- a printed reply is short

length-joined : (words : List (List ℕ)) → list_all is_short_word words ≡ true
    → length (join_with_byte 32 words) ≤ 19 * length words
length-joined [] h = omega arith
length-joined (word ∷ words) h =
    let e = both (is_short_word word) (list_all is_short_word words) h in
    let few : length word ≤ 18 = (let short = (both (is_word word) _ e.0).1 in grind (arith, nat_tests, short)) in
    omega (arith, join_next word words, few, length-joined words e.1)

-- a printed reply has at most 95 bytes
pub length-reply_text : (plan : PlanFields) (b : ℕ) (reply : Reply) → IsPlan plan → b < length plan.boxes
    → IsTrue (is_spelled_reply plan b reply) → length (reply_text plan b reply) ≤ 95
unfolding reply_text
length-reply_text plan b reply p at h =
    let w = (reply_reads plan b reply p at h).are in
    omega (arith, length-joined (reply_words plan b reply) w.each, w.few)

-- ---- what a reader answers

abbrev pub IsReading : PlanFields → ℕ → Act → List ℕ → Result Reply Cause → Type 0
IsReading plan b act text r = r ≡ reply_of plan b act text

pub reading_spelled : (plan : PlanFields) (b : ℕ) (act : Act) (text : List ℕ) (r : Result Reply Cause)
    → IsReading plan b act text r → IfOk r (λ reply. SpellsReply plan b act text reply)
reading_spelled plan b act text (Ok reply) e = spelled_reply plan b act text reply (sym e)
reading_spelled plan b act text (Err cause) e = tt

pub reading_refused : (plan : PlanFields) (b : ℕ) (act : Act) (text : List ℕ) (r : Result Reply Cause) → IsPlan plan
    → b < length plan.boxes → IsReading plan b act text r
    → IsErr r ↔ ((reply : Reply) → ¬ SpellsReply plan b act text reply)
reading_refused plan b act text (Ok reply) p at e =
    (λ bad. absurd cc, λ none. absurd (none reply (spelled_reply plan b act text reply (sym e))))
reading_refused plan b act text (Err cause) p at e = (
  λ _ reply spells. not_read reply
      (e ∙ ap (reply_of plan b act) spells.printed ∙ printed_reply plan b act reply p at spells.answers spells.spelled),
  λ _. refl,
) where
  not_read : (reply : Reply) → Err cause ≡ Ok reply → ⊥
  not_read reply h = cc

-- of every reader of a reply
pub ruleset reading_rules = (reading_spelled, reading_refused)
