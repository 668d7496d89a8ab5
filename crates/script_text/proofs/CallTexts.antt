-- Calls are read as they are printed, and each has one spelling.
use Rattle.std.proofs.Common.{◌≡◌, ℕ, ◌+◌, ◌^◌, ◌<◌, ◌≤◌, Bool, true, false, cond, ltb, ◌&&◌, List, [], ◌∷◌, ◌++◌}
use Rattle.std.proofs.Common.{length, Option, Some, None, Result, Ok, Err, IsTrue, IfOk, IsErr, ◌↔◌, refl, sym, ap}
use Rattle.std.proofs.Common.{subst, ◌∙◌, arith, codes, bytes_eq, decimal, drop}
use Rattle.std.specs.List.{list_all, join_with_byte}
use Rattle.std.proofs.lemmas.Bool.{not_from_false}
use Rattle.std.proofs.lemmas.Bool.Decides.{nat_tests}
use Rattle.std.proofs.lemmas.List.{length-append}
use Rattle.std.proofs.lemmas.Slice.Eq.{bytes_eq-Decides}
use Rattle.block_words.specs.declared.Position.{Position}
use Rattle.block_words.specs.declared.Position.TheVariants.{Normal, LineClear, TrainOnLine}
use Rattle.block_words.specs.declared.Way.{Way}
use Rattle.block_words.specs.declared.Way.TheVariants.{Up, Down}
use Rattle.rail_text.specs.Forms.{is_word}
use Rattle.rail_text.specs.Gives.{◌>>=◌}
use Rattle.rail_text.specs.Lines.{words_of}
use Rattle.rail_text.specs.Words.{keyword, number_in}
use Rattle.rail_text.specs.declared.cause.Cause.{Cause}
use Rattle.rail_text.proofs.Binds.{OfOk, bind_keeps, if_keeps, InRange, number_in_is}
use Rattle.rail_text.proofs.PrintedLines.{both, joined-words_of, some_words}
use Rattle.rail_text.proofs.PrintedWords.{words_of-words, length-decimal_word, length-name}
use Rattle.rail_text.proofs.PrintedWords.{number_in-decimal}
use Rattle.line_plan.specs.Plans.{PlanFields, IsPlan, is_train}
use Rattle.line_plan.specs.Ways.{comes_in, way_word}
use Rattle.line_law.specs.declared.call.Act.{Act}
use Rattle.line_law.specs.declared.call.Act.TheVariants as acts
use Rattle.line_law.specs.declared.call.Call.{Call}
use Rattle.line_law.specs.Known.{moments_of, is_code_no, knows_act, knows_arm, knows_berth, knows_call, knows_lever}
use Rattle.line_law.specs.Known.{knows_outgoing, knows_side, knows_train, KnowsCall}
use Rattle.script_text.specs.declared.reading_acts.ActWord.{ActWord}
use Rattle.script_text.specs.declared.reading_acts.ActWord.TheVariants as names
use Rattle.script_text.specs.declared.reading_acts.LineWord.TheVariants as lines
use Rattle.script_text.specs.Moments.{moment_of, moment_text}
use Rattle.script_text.specs.Names.{position_text, code_no_text, train_text, row_named, way_named, position_named}
use Rattle.script_text.specs.Names.{train_named}
use Rattle.script_text.specs.Acts.{fixed, side_in, code_in, with_berth, lever_in, arm_in, own_train, train_in}
use Rattle.script_text.specs.Acts.{two_words, third_word, side_and_code, way_and_position, berth_and_position}
use Rattle.script_text.specs.Acts.{outgoing_and_position, one_side, one_berth, one_lever, one_arm, one_train}
use Rattle.script_text.specs.Acts.{act_rows, worded_act, act_worded, act_of, act_words}
use Rattle.script_text.specs.Calls.{timed, moment_in, call_in, call_of, call_words, call_text}
use Rattle.script_text.specs.Spelled.{SpellsCall}
use Rattle.script_text.proofs.CodeTexts.{IsCodeText, code_read, code_in_is, code_short}
use Rattle.script_text.proofs.LeverTexts.{lever_from}
use Rattle.script_text.proofs.MomentTexts.{printed_moment, spelled_moment, IsMomentText, moment_is_word, day_is_short}
use Rattle.script_text.proofs.Named.{train_read, train_spelled, train_is_name}
use Rattle.script_text.proofs.PlainWords.{plain, is_plain_word, both_hold, all_weaker, differ, number_is_plain}
use Rattle.script_text.proofs.PlainWords.{code_is_plain, train_is_plain, way_is_plain, position_is_plain}

-- ---- words

-- a value, if one is read, meets P
abbrev pub OfSome : {A : Type 0} → (A → Type 0) → Option A → Type 0
OfSome P None = Unit {0}
OfSome P (Some x) = P x

-- whichever of two is taken meets P
pub some_keeps : {A : Type 0} (P : A → Type 0) (b : Bool) (x y : Option A) → (b ≡ true → OfSome P x)
    → (b ≡ false → OfSome P y) → OfSome P (cond b x y)
some_keeps P true x y h k = h refl
some_keeps P false x y h k = k refl

-- words with the same bytes are the same
pub same_bytes : (word other : List ℕ) → bytes_eq word other ≡ true → word ≡ other
same_bytes word other e = (bytes_eq-Decides word other).0 e

-- each row, where the word is its own, meets P
unfoldable pub AllRows : {A : Type 0} → (A → Type 0) → List ℕ → List (List ℕ × A) → Type 0
AllRows P word [] = Unit {0}
AllRows P word (row ∷ rows) = (word ≡ row.0 → P row.1) × AllRows P word rows

-- what a word's row has meets P
pub rows_keep : {A : Type 0} (P : A → Type 0) (word : List ℕ) (rows : List (List ℕ × A)) → AllRows P word rows
    → OfSome P (row_named rows word)
unfolding AllRows
rows_keep P word [] h = tt
rows_keep P word (row ∷ rows) h =
    some_keeps P (bytes_eq word row.0) (Some row.1) (row_named rows word) (λ e. h.0 (same_bytes word row.0 e))
    (λ _. rows_keep P word rows h.1)

way_is : (word : List ℕ) → OfSome (λ way. word ≡ way_word way) (way_named word)
way_is word =
    some_keeps (λ way. word ≡ way_word way) (bytes_eq word (codes "up")) _ _
    (same_bytes word (codes "up"))
    (λ _. some_keeps (λ way. word ≡ way_word way) (bytes_eq word (codes "down")) _ _
    (same_bytes word (codes "down")) (λ _. tt))

position_is : (word : List ℕ) → OfSome (λ position. word ≡ position_text position) (position_named word)
position_is word =
    let P : Position → Type 0 = λ position. word ≡ position_text position in
    some_keeps P (bytes_eq word (codes "normal")) _ _ (same_bytes word (codes "normal"))
    (λ _. some_keeps P (bytes_eq word (codes "line_clear")) _ _ (same_bytes word (codes "line_clear"))
    (λ _. some_keeps P (bytes_eq word (codes "train_on_line")) _ _
    (same_bytes word (codes "train_on_line")) (λ _. tt)))

-- a word that names a way is its word
pub way_spelled : (word : List ℕ) (way : Way) → way_named word ≡ Some way → word ≡ way_word way
way_spelled word way e = subst (OfSome (λ w. word ≡ way_word w)) e (way_is word)

-- a word that names a position is its word
pub position_spelled : (word : List ℕ) (position : Position) → position_named word ≡ Some position
    → word ≡ position_text position
position_spelled word position e = subst (OfSome (λ p. word ≡ position_text p)) e (position_is word)

-- a way's word names it
pub way_read : (way : Way) → way_named (way_word way) ≡ Some way
way_read Up = refl
way_read Down = refl

-- a position's word names it
pub position_read : (position : Position) → position_named (position_text position) ≡ Some position
position_read Normal = refl
position_read LineClear = refl
position_read TrainOnLine = refl

length-way : (way : Way) → length (way_word way) ≤ 4
length-way Up = omega arith
length-way Down = omega arith

length-position : (position : Position) → length (position_text position) ≤ 13
length-position Normal = omega arith
length-position LineClear = omega arith
length-position TrainOnLine = omega arith

fixed_is : {A : Type 0} (P : A → Type 0) (o : Option A) → OfSome P o → OfOk P (fixed o)
fixed_is P None h = tt
fixed_is P (Some x) h = h

-- ---- a word of an act: what is read is known, and spelled so

-- the value is known, and the word is its text
abbrev Tells : {X : Type 0} → (X → Bool) → (X → List ℕ) → List ℕ → X → Type 0
Tells known text word x = IsTrue (known x) × (word ≡ text x)

side_in_is : (plan : PlanFields) (b : ℕ) (word : List ℕ)
    → OfOk (Tells (knows_side plan b) way_word word) (side_in plan b word)
unfolding side_in
side_in_is plan b word =
    bind_keeps (λ way. word ≡ way_word way) (Tells (knows_side plan b) way_word word) (fixed (way_named word)) _
    (fixed_is _ (way_named word) (way_is word)) (λ way e.
    if_keeps (Tells (knows_side plan b) way_word word) (knows_side plan b way) _ _ (λ has. (has, e)) (λ _. tt))

with_berth_is : (plan : PlanFields) (b : ℕ) (word : List ℕ) (way : Way) → word ≡ way_word way
    → OfOk (Tells (knows_berth plan b) way_word word) (with_berth plan b way)
with_berth_is plan b word way e =
    if_keeps (Tells (knows_berth plan b) way_word word) (comes_in (length plan.boxes) b way) _ _
    (λ _. if_keeps (Tells (knows_berth plan b) way_word word) (knows_berth plan b way) _ _ (λ has. (has, e)) (λ _. tt))
    (λ _. tt)

lever_in_is : (plan : PlanFields) (b : ℕ) (word : List ℕ)
    → OfOk (Tells (knows_lever plan b) decimal word) (lever_in plan b word)
unfolding lever_in
lever_in_is plan b word =
    bind_keeps (InRange 1 120 word) (Tells (knows_lever plan b) decimal word) (number_in 1 120 word) _
    (number_in_is 1 120 word) (λ lever r.
    if_keeps (Tells (knows_lever plan b) decimal word) (knows_lever plan b lever) _ _ (λ has. (has, r.0)) (λ _. tt))

arm_in_is : (plan : PlanFields) (b : ℕ) (word : List ℕ)
    → OfOk (Tells (knows_arm plan b) decimal word) (arm_in plan b word)
unfolding arm_in
arm_in_is plan b word =
    bind_keeps (Tells (knows_lever plan b) decimal word) (Tells (knows_arm plan b) decimal word) (lever_in plan b word)
    _ (lever_in_is plan b word) (λ lever r.
    if_keeps (Tells (knows_arm plan b) decimal word) (knows_arm plan b lever) _ _ (λ has. (has, r.1)) (λ _. tt))

train_in_is : (plan : PlanFields) (b : ℕ) (word : List ℕ)
    → OfOk (Tells (knows_train plan b) (train_text plan) word) (train_in plan b word)
unfolding train_in
train_in_is plan b word = go (train_named plan word) refl where
  go : (o : Option ℕ) → train_named plan word ≡ o
      → OfOk (Tells (knows_train plan b) (train_text plan) word) (own_train plan b o)
  go None e = tt
  go (Some train) e =
      if_keeps (Tells (knows_train plan b) (train_text plan) word) (knows_train plan b train) _ _
      (λ has. (has, (train_spelled plan word train e).1)) (λ _. tt)

-- ---- known things are read as they are printed

picked : {X : Type 0} (c k : Bool) (x y z : X) → c ≡ true → k ≡ true → cond c (cond k x y) z ≡ x
picked true true x y z c k = refl
picked true false x y z c k = absurd cc
picked false k x y z c h = absurd cc

side_read : (plan : PlanFields) (b : ℕ) (side : Way) → knows_side plan b side ≡ true
    → side_in plan b (way_word side) ≡ Ok side
unfolding side_in
side_read plan b side h = rw (way_read side, h) refl

berth_read : (plan : PlanFields) (b : ℕ) (way : Way) → knows_berth plan b way ≡ true → with_berth plan b way ≡ Ok way
berth_read plan b way h = picked _ _ _ _ _ (both (comes_in (length plan.boxes) b way) _ h).0 h

lever_read : (plan : PlanFields) (b lever : ℕ) → IsPlan plan → b < length plan.boxes → knows_lever plan b lever ≡ true
    → lever_in plan b (decimal lever) ≡ Ok lever
unfolding lever_in
lever_read plan b lever p at h =
    let r = lever_from plan b lever p at h in
    rw (number_in-decimal 1 120 lever r.low_enough r.high_enough (omega (arith, r.high_enough)), h) refl

arm_read : (plan : PlanFields) (b lever : ℕ) → IsPlan plan → b < length plan.boxes → knows_arm plan b lever ≡ true
    → arm_in plan b (decimal lever) ≡ Ok lever
unfolding arm_in
arm_read plan b lever p at h = rw (lever_read plan b lever p at (both (knows_lever plan b lever) _ h).0, h) refl

own_train_read : (plan : PlanFields) (b train : ℕ) → IsPlan plan → knows_train plan b train ≡ true
    → train_in plan b (train_text plan train) ≡ Ok train
unfolding train_in
own_train_read plan b train p h = rw (train_read plan train p (both (is_train plan.trains train) _ h).0, h) refl

-- ---- the words behind the moment and the call's word

-- the two words behind the first two
two_words_are : (a w : List ℕ) (rest : List (List ℕ))
    → OfOk (λ both. rest ≡ both.0 ∷ both.1 ∷ []) (two_words (a ∷ w ∷ rest))
two_words_are a w [] = tt
two_words_are a w (x ∷ []) = tt
two_words_are a w (x ∷ y ∷ []) = refl
two_words_are a w (x ∷ y ∷ z ∷ rest) = tt

third_word_is : (a w : List ℕ) (rest : List (List ℕ)) → OfOk (λ word. rest ≡ word ∷ []) (third_word (a ∷ w ∷ rest))
third_word_is a w [] = tt
third_word_is a w (x ∷ []) = refl
third_word_is a w (x ∷ y ∷ rest) = tt

-- one value is known, and the words are its text
abbrev TellsOne : {X : Type 0} → (X → Bool) → (X → List ℕ) → List (List ℕ) → X → Type 0
TellsOne known text rest x = IsTrue (known x) × (rest ≡ text x ∷ [])

one_told : {X : Type 0} (known : X → Bool) (text : X → List ℕ) (a w : List ℕ) (rest : List (List ℕ))
    (read : List ℕ → Result X Cause) → ((word : List ℕ) → OfOk (Tells known text word) (read word))
    → OfOk (TellsOne known text rest) (third_word (a ∷ w ∷ rest) >>= read)
one_told known text a w rest read h =
    bind_keeps (λ word. rest ≡ word ∷ []) (TellsOne known text rest) (third_word (a ∷ w ∷ rest)) read
    (third_word_is a w rest) (λ word e. go word e (read word) (h word)) where
      go : (word : List ℕ) → rest ≡ word ∷ [] → (r : Result _ Cause) → OfOk (Tells known text word) r
          → OfOk (TellsOne known text rest) r
      go word e (Ok x) t = (t.0, e ∙ ap (λ (one : List ℕ). one ∷ []) t.1)
      go word e (Err cause) t = tt

one_side_is : (plan : PlanFields) (b : ℕ) (a w : List ℕ) (rest : List (List ℕ))
    → OfOk (TellsOne (knows_side plan b) way_word rest) (one_side plan b (a ∷ w ∷ rest))
unfolding one_side
one_side_is plan b a w rest = one_told (knows_side plan b) way_word a w rest (side_in plan b) (side_in_is plan b)

one_berth_is : (plan : PlanFields) (b : ℕ) (a w : List ℕ) (rest : List (List ℕ))
    → OfOk (TellsOne (knows_berth plan b) way_word rest) (one_berth plan b (a ∷ w ∷ rest))
unfolding one_berth
one_berth_is plan b a w rest =
    one_told (knows_berth plan b) way_word a w rest (λ word. fixed (way_named word) >>= (λ way. with_berth plan b way))
    (λ word.
    bind_keeps (λ way. word ≡ way_word way) (Tells (knows_berth plan b) way_word word) (fixed (way_named word)) _
    (fixed_is _ (way_named word) (way_is word)) (λ way e. with_berth_is plan b word way e))

one_lever_is : (plan : PlanFields) (b : ℕ) (a w : List ℕ) (rest : List (List ℕ))
    → OfOk (TellsOne (knows_lever plan b) decimal rest) (one_lever plan b (a ∷ w ∷ rest))
unfolding one_lever
one_lever_is plan b a w rest = one_told (knows_lever plan b) decimal a w rest (lever_in plan b) (lever_in_is plan b)

one_arm_is : (plan : PlanFields) (b : ℕ) (a w : List ℕ) (rest : List (List ℕ))
    → OfOk (TellsOne (knows_arm plan b) decimal rest) (one_arm plan b (a ∷ w ∷ rest))
unfolding one_arm
one_arm_is plan b a w rest = one_told (knows_arm plan b) decimal a w rest (arm_in plan b) (arm_in_is plan b)

one_train_is : (plan : PlanFields) (b : ℕ) (a w : List ℕ) (rest : List (List ℕ))
    → OfOk (TellsOne (knows_train plan b) (train_text plan) rest) (one_train plan b (a ∷ w ∷ rest))
unfolding one_train
one_train_is plan b a w rest =
    one_told (knows_train plan b) (train_text plan) a w rest (train_in plan b) (train_in_is plan b)

-- two values are known, and the words are their texts
record TellsTwo {X : Type 0} {Y : Type 0} (known : Bool) (text : X → List ℕ) (other_text : Y → List ℕ)
    (rest : List (List ℕ)) (x : X) (y : Y) : Type 0 where
  holds : known ≡ true
  words : rest ≡ text x ∷ other_text y ∷ []

pair_is : (rest : List (List ℕ)) (p q s t : List ℕ) → rest ≡ p ∷ q ∷ [] → p ≡ s → q ≡ t → rest ≡ s ∷ t ∷ []
pair_is rest p q s t e f g = e ∙ ap (λ (x : List ℕ). x ∷ q ∷ []) f ∙ ap (λ (x : List ℕ). s ∷ x ∷ []) g

-- a side and a code
abbrev TellsCode : PlanFields → ℕ → List (List ℕ) → Way × ℕ → Type 0
TellsCode plan b rest found =
    TellsTwo (knows_side plan b found.0 && is_code_no plan found.1) way_word (code_no_text plan.codes) rest found.0
    found.1

side_and_code_is : (plan : PlanFields) (b : ℕ) (a w : List ℕ) (rest : List (List ℕ))
    → OfOk (TellsCode plan b rest) (side_and_code plan b (a ∷ w ∷ rest))
unfolding side_and_code
side_and_code_is plan b a w rest =
    bind_keeps (λ words. rest ≡ words.0 ∷ words.1 ∷ []) (TellsCode plan b rest) (two_words (a ∷ w ∷ rest)) _
    (two_words_are a w rest) (λ words e.
    bind_keeps (Tells (knows_side plan b) way_word words.0) (TellsCode plan b rest) (side_in plan b words.0) _
    (side_in_is plan b words.0) (λ side s.
    bind_keeps (IsCodeText plan words.1) (TellsCode plan b rest) (code_in plan words.1) _ (code_in_is plan words.1)
    (λ number n.
    record { holds = both_hold _ _ s.0 n.0; words = pair_is rest words.0 words.1 _ _ e s.1 n.1 })))

-- a way and a position, by their forms
abbrev TellsPosition : List (List ℕ) → Way × Position → Type 0
TellsPosition rest found = TellsTwo true way_word position_text rest found.0 found.1

way_and_position_is : (a w : List ℕ) (rest : List (List ℕ))
    → OfOk (TellsPosition rest) (way_and_position (a ∷ w ∷ rest))
unfolding way_and_position
way_and_position_is a w rest =
    bind_keeps (λ words. rest ≡ words.0 ∷ words.1 ∷ []) (TellsPosition rest) (two_words (a ∷ w ∷ rest)) _
    (two_words_are a w rest) (λ words e.
    bind_keeps (λ way. words.0 ≡ way_word way) (TellsPosition rest) (fixed (way_named words.0)) _
    (fixed_is _ (way_named words.0) (way_is words.0)) (λ way f.
    bind_keeps (λ position. words.1 ≡ position_text position) (TellsPosition rest) (fixed (position_named words.1)) _
    (fixed_is _ (position_named words.1) (position_is words.1)) (λ position g.
    record { holds = refl; words = pair_is rest words.0 words.1 _ _ e f g })))

-- and the line is known
abbrev TellsLine : (Way → Bool) → List (List ℕ) → Way × Position → Type 0
TellsLine known rest found = TellsTwo (known found.0) way_word position_text rest found.0 found.1

berth_and_position_is : (plan : PlanFields) (b : ℕ) (a w : List ℕ) (rest : List (List ℕ))
    → OfOk (TellsLine (knows_berth plan b) rest) (berth_and_position plan b (a ∷ w ∷ rest))
unfolding berth_and_position
berth_and_position_is plan b a w rest =
    bind_keeps (TellsPosition rest) (TellsLine (knows_berth plan b) rest) (way_and_position (a ∷ w ∷ rest)) _
    (way_and_position_is a w rest) (λ found t.
    bind_keeps (Tells (knows_berth plan b) way_word (way_word found.0)) (TellsLine (knows_berth plan b) rest)
    (with_berth plan b found.0) _ (with_berth_is plan b (way_word found.0) found.0 refl) (λ way k.
    record { holds = k.0; words = t.words ∙ ap (λ (x : List ℕ). x ∷ position_text found.1 ∷ []) k.1 }))

outgoing_and_position_is : (plan : PlanFields) (b : ℕ) (a w : List ℕ) (rest : List (List ℕ))
    → OfOk (TellsLine (knows_outgoing plan b) rest) (outgoing_and_position plan b (a ∷ w ∷ rest))
unfolding outgoing_and_position
outgoing_and_position_is plan b a w rest =
    bind_keeps (TellsPosition rest) (TellsLine (knows_outgoing plan b) rest) (way_and_position (a ∷ w ∷ rest)) _
    (way_and_position_is a w rest) (λ found t.
    if_keeps (TellsLine (knows_outgoing plan b) rest) (knows_outgoing plan b found.0) _ _
    (λ k. record { holds = k; words = t.words }) (λ _. tt))

-- ---- what is read of the words behind the moment is known, and spelled so

record IsAct (plan : PlanFields) (b : ℕ) (words : List (List ℕ)) (act : Act) : Type 0 where
  known : knows_act plan b act ≡ true
  spelled : words ≡ act_words plan act

-- an act whose call's word is the one for which it is taken
told : (plan : PlanFields) (b : ℕ) (w word : List ℕ) (rest more : List (List ℕ)) (act : Act) → w ≡ word
    → knows_act plan b act ≡ true → rest ≡ more → act_words plan act ≡ word ∷ more → IsAct plan b (w ∷ rest) act
told plan b w word rest more act e k r s = record {
  known = k;
  spelled = ap (λ (x : List ℕ). x ∷ rest) e ∙ ap (λ (x : List (List ℕ)). word ∷ x) r ∙ sym s;
}

-- an act of one word more
one_act : {X : Type 0} (plan : PlanFields) (b : ℕ) (w word : List ℕ) (rest : List (List ℕ)) (known : X → Bool)
    (text : X → List ℕ) (make : X → Act) (r : Result X Cause)
    → ((x : X) → knows_act plan b (make x) ≡ known x) → ((x : X) → act_words plan (make x) ≡ word ∷ text x ∷ [])
    → OfOk (TellsOne known text rest) r → w ≡ word → OfOk (IsAct plan b (w ∷ rest)) (r >>= (λ x. Ok (make x)))
one_act plan b w word rest known text make r k s h e =
    bind_keeps (TellsOne known text rest) (IsAct plan b (w ∷ rest)) r (λ x. Ok (make x)) h
    (λ x t. told plan b w word rest (text x ∷ []) (make x) e (k x ∙ t.0) t.1 (s x))

-- an act of a way and a position
position_act : (plan : PlanFields) (b : ℕ) (w word : List ℕ) (rest : List (List ℕ)) (known : Way → Bool)
    (make : Way → Position → Act) (r : Result (Way × Position) Cause)
    → ((way : Way) (position : Position) → knows_act plan b (make way position) ≡ known way)
    → ((way : Way) (position : Position)
    → act_words plan (make way position) ≡ word ∷ way_word way ∷ position_text position ∷ [])
    → OfOk (TellsLine known rest) r → w ≡ word
    → OfOk (IsAct plan b (w ∷ rest)) (r >>= (λ found. Ok (make found.0 found.1)))
position_act plan b w word rest known make r k s h e =
    bind_keeps (TellsLine known rest) (IsAct plan b (w ∷ rest)) r (λ found. Ok (make found.0 found.1)) h
    (λ found t. told plan b w word rest _ (make found.0 found.1) e (k found.0 found.1 ∙ t.holds) t.words
    (s found.0 found.1))

-- an act of a side and a code
code_act : (plan : PlanFields) (b : ℕ) (a w word : List ℕ) (rest : List (List ℕ)) (make : Way → ℕ → Act)
    → ((side : Way) (code : ℕ) → knows_act plan b (make side code) ≡ knows_side plan b side && is_code_no plan code)
    → ((side : Way) (code : ℕ)
    → act_words plan (make side code) ≡ word ∷ way_word side ∷ code_no_text plan.codes code ∷ []) → w ≡ word
    → OfOk (IsAct plan b (w ∷ rest)) (side_and_code plan b (a ∷ w ∷ rest) >>= (λ found. Ok (make found.0 found.1)))
code_act plan b a w word rest make k s e =
    bind_keeps (TellsCode plan b rest) (IsAct plan b (w ∷ rest)) (side_and_code plan b (a ∷ w ∷ rest))
    (λ found. Ok (make found.0 found.1)) (side_and_code_is plan b a w rest)
    (λ found t. told plan b w word rest _ (make found.0 found.1) e (k found.0 found.1 ∙ t.holds) t.words
    (s found.0 found.1))

-- a line that begins so, with the word of a call, tells an act of that call
abbrev TellsAct : PlanFields → ℕ → List ℕ → List ℕ → List (List ℕ) → ActWord → Type 0
TellsAct plan b a w rest word = OfOk (IsAct plan b (w ∷ rest)) (worded_act plan b (a ∷ w ∷ rest) word)

all_acts : (plan : PlanFields) (b : ℕ) (a w : List ℕ) (rest : List (List ℕ))
    → AllRows (TellsAct plan b a w rest) w act_rows
unfolding AllRows
all_acts plan b a w rest =
    let line : AllRows (TellsAct plan b a w rest) w (drop 10 act_rows) =
    (await_train, (berth, (berth_part, (clear_portion, (wind, (release, tt)))))) in
    let lever : AllRows (TellsAct plan b a w rest) w (drop 5 act_rows) =
    (pull, (put, (pass, (overrun, (bring, line))))) in
    (ring, (hear, (await_bell, (turn, (await_block, lever))))) where
      ring : w ≡ codes "ring" → TellsAct plan b a w rest names.Ring
      ring = code_act plan b a w _ rest (λ side code. acts.Ring side code) (λ side code. refl) (λ side code. refl)

      hear : w ≡ codes "hear" → TellsAct plan b a w rest names.Hear
      hear =
          one_act plan b w _ rest _ way_word acts.Hear _ (λ x. refl) (λ x. refl) (one_side_is plan b a w rest)

      await_bell : w ≡ codes "await_bell" → TellsAct plan b a w rest names.AwaitBell
      await_bell =
          code_act plan b a w _ rest (λ side code. acts.AwaitBell side code) (λ side code. refl) (λ side code. refl)

      turn : w ≡ codes "turn" → TellsAct plan b a w rest names.Turn
      turn =
          position_act plan b w _ rest _ (λ way position. acts.Turn way position) _ (λ way position. refl)
          (λ way position. refl) (berth_and_position_is plan b a w rest)

      await_block : w ≡ codes "await_block" → TellsAct plan b a w rest names.AwaitBlock
      await_block =
          position_act plan b w _ rest _ (λ way position. acts.AwaitBlock way position) _ (λ way position. refl)
          (λ way position. refl) (outgoing_and_position_is plan b a w rest)

      pull : w ≡ codes "pull" → TellsAct plan b a w rest names.Pull
      pull =
          one_act plan b w _ rest _ decimal (λ n. acts.Pull n) _ (λ n. refl) (λ n. refl) (one_lever_is plan b a w rest)

      put : w ≡ codes "put" → TellsAct plan b a w rest names.Put
      put = one_act plan b w _ rest _ decimal (λ n. acts.Put n) _ (λ n. refl) (λ n. refl) (one_lever_is plan b a w rest)

      pass : w ≡ codes "pass" → TellsAct plan b a w rest names.Pass
      pass = one_act plan b w _ rest _ decimal (λ n. acts.Pass n) _ (λ n. refl) (λ n. refl) (one_arm_is plan b a w rest)

      overrun : w ≡ codes "overrun" → TellsAct plan b a w rest names.Overrun
      overrun =
          one_act plan b w _ rest _ decimal (λ n. acts.Overrun n) _ (λ n. refl) (λ n. refl) (one_arm_is plan b a w rest)

      bring : w ≡ codes "bring" → TellsAct plan b a w rest names.Bring
      bring =
          one_act plan b w _ rest _ (train_text plan) (λ n. acts.Bring n) _ (λ n. refl) (λ n. refl)
          (one_train_is plan b a w rest)

      await_train : w ≡ codes "await_train" → TellsAct plan b a w rest (names.Line lines.AwaitTrain)
      await_train =
          one_act plan b w _ rest _ way_word acts.AwaitTrain _ (λ x. refl) (λ x. refl) (one_berth_is plan b a w rest)

      berth : w ≡ codes "berth" → TellsAct plan b a w rest (names.Line lines.Berth)
      berth =
          one_act plan b w _ rest _ way_word acts.Berth _ (λ x. refl) (λ x. refl) (one_berth_is plan b a w rest)

      berth_part : w ≡ codes "berth_part" → TellsAct plan b a w rest (names.Line lines.BerthPart)
      berth_part =
          one_act plan b w _ rest _ way_word acts.BerthPart _ (λ x. refl) (λ x. refl) (one_berth_is plan b a w rest)

      clear_portion : w ≡ codes "clear_portion" → TellsAct plan b a w rest (names.Line lines.ClearPortion)
      clear_portion =
          one_act plan b w _ rest _ way_word acts.ClearPortion _ (λ x. refl) (λ x. refl) (one_berth_is plan b a w rest)

      wind : w ≡ codes "wind" → TellsAct plan b a w rest (names.Line lines.Wind)
      wind =
          one_act plan b w _ rest _ way_word acts.Wind _ (λ x. refl) (λ x. refl) (one_berth_is plan b a w rest)

      release : w ≡ codes "release" → TellsAct plan b a w rest (names.Line lines.Release)
      release =
          one_act plan b w _ rest _ way_word acts.Release _ (λ x. refl) (λ x. refl) (one_berth_is plan b a w rest)

act_of_is : (plan : PlanFields) (b : ℕ) (a : List ℕ) (rest : List (List ℕ))
    → OfOk (IsAct plan b rest) (act_of plan b (a ∷ rest))
unfolding act_of
act_of_is plan b a [] = tt
act_of_is plan b a (w ∷ rest) =
    go (row_named act_rows w) (rows_keep (TellsAct plan b a w rest) w act_rows (all_acts plan b a w rest)) where
      go : (word : Option ActWord) → OfSome (TellsAct plan b a w rest) word
          → OfOk (IsAct plan b (w ∷ rest)) (act_worded plan b (a ∷ w ∷ rest) word)
      go None h = tt
      go (Some word) h = h

-- ---- known acts are read as they are printed

code_pair_read : (plan : PlanFields) (b : ℕ) (moment word : List ℕ) (side : Way) (code : ℕ) → IsPlan plan
    → knows_side plan b side && is_code_no plan code ≡ true
    → side_and_code plan b (moment ∷ word ∷ way_word side ∷ code_no_text plan.codes code ∷ []) ≡ Ok (side, code)
unfolding side_and_code
code_pair_read plan b moment word side code p h =
    let e = both (knows_side plan b side) (is_code_no plan code) h in
    rw (side_read plan b side e.0, code_read plan code p e.1) refl

position_pair_read : (moment word : List ℕ) (way : Way) (position : Position)
    → way_and_position (moment ∷ word ∷ way_word way ∷ position_text position ∷ []) ≡ Ok (way, position)
unfolding way_and_position
position_pair_read moment word way position = rw (way_read way, position_read position) refl

berth_pair_read : (plan : PlanFields) (b : ℕ) (moment word : List ℕ) (way : Way) (position : Position)
    → knows_berth plan b way ≡ true
    → berth_and_position plan b (moment ∷ word ∷ way_word way ∷ position_text position ∷ []) ≡ Ok (way, position)
unfolding berth_and_position
berth_pair_read plan b moment word way position h =
    rw (position_pair_read moment word way position, berth_read plan b way h) refl

outgoing_pair_read : (plan : PlanFields) (b : ℕ) (moment word : List ℕ) (way : Way) (position : Position)
    → knows_outgoing plan b way ≡ true
    → outgoing_and_position plan b (moment ∷ word ∷ way_word way ∷ position_text position ∷ []) ≡ Ok (way, position)
unfolding outgoing_and_position
outgoing_pair_read plan b moment word way position h = rw (position_pair_read moment word way position, h) refl

one_berth_read : (plan : PlanFields) (b : ℕ) (moment word : List ℕ) (way : Way) → knows_berth plan b way ≡ true
    → one_berth plan b (moment ∷ word ∷ way_word way ∷ []) ≡ Ok way
unfolding one_berth
one_berth_read plan b moment word way h = rw (way_read way, berth_read plan b way h) refl

act_read : (plan : PlanFields) (b : ℕ) (moment : List ℕ) (act : Act) → IsPlan plan → b < length plan.boxes
    → knows_act plan b act ≡ true → act_of plan b (moment ∷ act_words plan act) ≡ Ok act
unfolding act_of one_side one_lever one_arm one_train
act_read plan b moment (acts.Ring side code) p at h =
    rw (code_pair_read plan b moment (codes "ring") side code p h) refl
act_read plan b moment (acts.Hear side) p at h = rw (side_read plan b side h) refl
act_read plan b moment (acts.AwaitBell side code) p at h =
    rw (code_pair_read plan b moment (codes "await_bell") side code p h) refl
act_read plan b moment (acts.Turn way position) p at h =
    rw (berth_pair_read plan b moment (codes "turn") way position h) refl
act_read plan b moment (acts.AwaitBlock way position) p at h =
    rw (outgoing_pair_read plan b moment (codes "await_block") way position h) refl
act_read plan b moment (acts.Pull lever) p at h = rw (lever_read plan b lever p at h) refl
act_read plan b moment (acts.Put lever) p at h = rw (lever_read plan b lever p at h) refl
act_read plan b moment (acts.Bring train) p at h = rw (own_train_read plan b train p h) refl
act_read plan b moment (acts.Pass lever) p at h = rw (arm_read plan b lever p at h) refl
act_read plan b moment (acts.Overrun lever) p at h = rw (arm_read plan b lever p at h) refl
act_read plan b moment (acts.AwaitTrain way) p at h = rw (one_berth_read plan b moment (codes "await_train") way h) refl
act_read plan b moment (acts.Berth way) p at h = rw (one_berth_read plan b moment (codes "berth") way h) refl
act_read plan b moment (acts.BerthPart way) p at h = rw (one_berth_read plan b moment (codes "berth_part") way h) refl
act_read plan b moment (acts.ClearPortion way) p at h =
    rw (one_berth_read plan b moment (codes "clear_portion") way h) refl
act_read plan b moment (acts.Wind way) p at h = rw (one_berth_read plan b moment (codes "wind") way h) refl
act_read plan b moment (acts.Release way) p at h = rw (one_berth_read plan b moment (codes "release") way h) refl

-- ---- the words of an act

lever_word : (plan : PlanFields) (b lever : ℕ) → IsPlan plan → b < length plan.boxes → knows_lever plan b lever ≡ true
    → (is_plain_word (decimal lever) ≡ true) × (length (decimal lever) ≤ 10)
lever_word plan b lever p at h =
    let r = lever_from plan b lever p at h in
    let small : lever < 10 ^ 10 = omega (arith, r.high_enough) in
    (number_is_plain lever small, length-decimal_word lever small)

arm_word : (plan : PlanFields) (b lever : ℕ) → IsPlan plan → b < length plan.boxes → knows_arm plan b lever ≡ true
    → (is_plain_word (decimal lever) ≡ true) × (length (decimal lever) ≤ 10)
arm_word plan b lever p at h = lever_word plan b lever p at (both (knows_lever plan b lever) _ h).0

-- the words of an act are words, none of them is `->`, and they are few
record IsShort (words : List (List ℕ)) : Type 0 where
  words_are : list_all is_plain_word words ≡ true
  few : length (join_with_byte 32 words) ≤ 30

short_pair : (word other : List ℕ) → is_plain_word word ≡ true → is_plain_word other ≡ true
    → length word + length other ≤ 29 → IsShort (word ∷ other ∷ [])
short_pair word other e f h =
    record { words_are = rw (e, f) refl; few = omega (arith, length-append word (32 ∷ other), h) }

short_triple : (word other last : List ℕ) → is_plain_word word ≡ true → is_plain_word other ≡ true
    → is_plain_word last ≡ true → length word + length other + length last ≤ 28 → IsShort (word ∷ other ∷ last ∷ [])
short_triple word other last e f g h =
    record {
      words_are = rw (e, f, g) refl;
      few =
          omega (arith, length-append word (32 ∷ other ++ 32 ∷ last), length-append other (32 ∷ last), h);
    }

short_code : (plan : PlanFields) (b : ℕ) (word : List ℕ) (side : Way) (code : ℕ) → IsPlan plan
    → is_plain_word word ≡ true → length word ≤ 10 → knows_side plan b side && is_code_no plan code ≡ true
    → IsShort (word ∷ way_word side ∷ code_no_text plan.codes code ∷ [])
short_code plan b word side code p e few h =
    let known = both (knows_side plan b side) (is_code_no plan code) h in
    short_triple word (way_word side) (code_no_text plan.codes code) e (way_is_plain side)
    (code_is_plain plan code p known.1) (omega (arith, few, length-way side, code_short plan code p known.1))

short_position : (word : List ℕ) (way : Way) (position : Position) → is_plain_word word ≡ true → length word ≤ 11
    → IsShort (word ∷ way_word way ∷ position_text position ∷ [])
short_position word way position e few =
    short_triple word (way_word way) (position_text position) e (way_is_plain way) (position_is_plain position)
    (omega (arith, few, length-way way, length-position position))

short_way : (word : List ℕ) (way : Way) → is_plain_word word ≡ true → length word ≤ 20
    → IsShort (word ∷ way_word way ∷ [])
short_way word way e few = short_pair word (way_word way) e (way_is_plain way) (omega (arith, few, length-way way))

short_number : (word : List ℕ) (lever : ℕ) → is_plain_word word ≡ true → length word ≤ 10
    → (is_plain_word (decimal lever) ≡ true) × (length (decimal lever) ≤ 10) → IsShort (word ∷ decimal lever ∷ [])
short_number word lever e few h = short_pair word (decimal lever) e h.0 (omega (arith, few, h.1))

act_short : (plan : PlanFields) (b : ℕ) (act : Act) → IsPlan plan → b < length plan.boxes → knows_act plan b act ≡ true
    → IsShort (act_words plan act)
act_short plan b (acts.Ring side code) p at h = short_code plan b (codes "ring") side code p refl (omega arith) h
act_short plan b (acts.Hear side) p at h = short_way (codes "hear") side refl (omega arith)
act_short plan b (acts.AwaitBell side code) p at h =
    short_code plan b (codes "await_bell") side code p refl (omega arith) h
act_short plan b (acts.Turn way position) p at h = short_position (codes "turn") way position refl (omega arith)
act_short plan b (acts.AwaitBlock way position) p at h =
    short_position (codes "await_block") way position refl (omega arith)
act_short plan b (acts.Pull lever) p at h =
    short_number (codes "pull") lever refl (omega arith) (lever_word plan b lever p at h)
act_short plan b (acts.Put lever) p at h =
    short_number (codes "put") lever refl (omega arith) (lever_word plan b lever p at h)
act_short plan b (acts.Bring train) p at h =
    let there = (both (is_train plan.trains train) _ h).0 in
    short_pair (codes "bring") (train_text plan train) refl (train_is_plain plan train p there)
    (omega (arith, length-name (train_text plan train) (train_is_name plan train p there)))
act_short plan b (acts.Pass lever) p at h =
    short_number (codes "pass") lever refl (omega arith) (arm_word plan b lever p at h)
act_short plan b (acts.Overrun lever) p at h =
    short_number (codes "overrun") lever refl (omega arith) (arm_word plan b lever p at h)
act_short plan b (acts.AwaitTrain way) p at h = short_way (codes "await_train") way refl (omega arith)
act_short plan b (acts.Berth way) p at h = short_way (codes "berth") way refl (omega arith)
act_short plan b (acts.BerthPart way) p at h = short_way (codes "berth_part") way refl (omega arith)
act_short plan b (acts.ClearPortion way) p at h = short_way (codes "clear_portion") way refl (omega arith)
act_short plan b (acts.Wind way) p at h = short_way (codes "wind") way refl (omega arith)
act_short plan b (acts.Release way) p at h = short_way (codes "release") way refl (omega arith)

-- ---- a call

pub record IsKnown (plan : PlanFields) (b : ℕ) (call : Call) : Type 0 where
  pub box : b < length plan.boxes
  pub day : call.moment < moments_of plan.version
  pub act : knows_act plan b call.act ≡ true

-- what is known of a call that the plan knows
pub known_parts : (plan : PlanFields) (b : ℕ) (call : Call) → KnowsCall plan b call → IsKnown plan b call
unfolding knows_call
known_parts plan b call h =
    let e = both (ltb b (length plan.boxes) && ltb call.moment (moments_of plan.version)) (knows_act plan b call.act)
    h in
    let f = both (ltb b (length plan.boxes)) (ltb call.moment (moments_of plan.version)) e.0 in
    record { box = grind (arith, nat_tests, f.0); day = grind (arith, nat_tests, f.1); act = e.1 }

known_whole : (plan : PlanFields) (b : ℕ) (call : Call) → IsKnown plan b call → KnowsCall plan b call
unfolding knows_call
known_whole plan b call k =
    let here : ltb b (length plan.boxes) ≡ true = grind (arith, nat_tests, k.box) in
    let day : ltb call.moment (moments_of plan.version) ≡ true = grind (arith, nat_tests, k.day) in
    rw (here, day, k.act) refl

-- the moment of a printed call
pub moment_read : (plan : PlanFields) (b : ℕ) (call : Call) → KnowsCall plan b call
    → moment_in plan.version (call_words plan call) ≡ Ok call.moment
unfolding moment_in
moment_read plan b call h = rw (printed_moment plan.version call.moment (known_parts plan b call h).day) refl

-- what is done by a printed call
pub act_of-words : (plan : PlanFields) (b : ℕ) (call : Call) → IsPlan plan → KnowsCall plan b call
    → act_of plan b (call_words plan call) ≡ Ok call.act
act_of-words plan b call p h =
    let k = known_parts plan b call h in
    act_read plan b (moment_text plan.version call.moment) call.act p k.box k.act

-- the moment of a printed call is a word of five to eight bytes
pub moment_word : (plan : PlanFields) (b : ℕ) (call : Call) → KnowsCall plan b call
    → IsMomentText (moment_text plan.version call.moment)
moment_word plan b call h =
    moment_is_word plan.version call.moment (day_is_short plan.version call.moment (known_parts plan b call h).day)

moment_is_plain : (plan : PlanFields) (b : ℕ) (call : Call) → KnowsCall plan b call
    → is_plain_word (moment_text plan.version call.moment) ≡ true
moment_is_plain plan b call h =
    let text = moment_text plan.version call.moment in
    let m = moment_word plan b call h in
    both_hold (is_word text) (plain text) m.word
    (not_from_false _
    (differ (λ (word : List ℕ). length word) text (codes "->") (λ same. absurd (omega (arith, same, m.some)))))

plain_call : (plan : PlanFields) (b : ℕ) (call : Call) → IsPlan plan → KnowsCall plan b call
    → list_all is_plain_word (call_words plan call) ≡ true
plain_call plan b call p h =
    let k = known_parts plan b call h in
    rw (moment_is_plain plan b call h, (act_short plan b call.act p k.box k.act).words_are) refl

-- the words of a call are words
pub call_words_are : (plan : PlanFields) (b : ℕ) (call : Call) → IsPlan plan → KnowsCall plan b call
    → list_all is_word (call_words plan call) ≡ true
call_words_are plan b call p h =
    all_weaker is_plain_word is_word (λ word e. (both (is_word word) _ e).0) (call_words plan call)
    (plain_call plan b call p h)

-- none of them is `->`
pub call_words_plain : (plan : PlanFields) (b : ℕ) (call : Call) → IsPlan plan → KnowsCall plan b call
    → list_all plain (call_words plan call) ≡ true
call_words_plain plan b call p h =
    all_weaker is_plain_word plain (λ word e. (both (is_word word) (plain word) e).1) (call_words plan call)
    (plain_call plan b call p h)

-- a printed call is read back as its words
pub words_of-call : (plan : PlanFields) (b : ℕ) (call : Call) → IsPlan plan → KnowsCall plan b call
    → words_of (call_text plan call) ≡ call_words plan call
unfolding call_text
words_of-call plan b call p h =
    words_of-words (moment_text plan.version call.moment) (act_words plan call.act) (call_words_are plan b call p h)

-- a call that the plan knows is read as it is printed
pub printed_call : (plan : PlanFields) (b : ℕ) (call : Call) → IsPlan plan → KnowsCall plan b call
    → call_of plan b (call_text plan call) ≡ Ok call
unfolding call_of call_in
printed_call plan b call p h =
    rw (words_of-call plan b call p h, moment_read plan b call h, act_of-words plan b call p h) refl

-- ---- each call has one spelling

timed_is : (version : ℕ) (word : List ℕ) (o : Option ℕ) → moment_of version word ≡ o
    → OfOk (λ moment. (word ≡ moment_text version moment) × (moment < moments_of version)) (timed o)
timed_is version word None e = tt
timed_is version word (Some moment) e = spelled_moment version word moment e

-- the moment that begins a line is of the day, and is spelled by the first word
pub moment_in_is : (version : ℕ) (words : List (List ℕ))
    → OfOk (λ moment. (keyword words ≡ moment_text version moment) × (moment < moments_of version))
    (moment_in version words)
unfolding moment_in
moment_in_is version words = timed_is version (keyword words) (moment_of version (keyword words)) refl

-- the words are those of a call that the plan knows
pub record IsCall (plan : PlanFields) (b : ℕ) (words : List (List ℕ)) (call : Call) : Type 0 where
  pub known : KnowsCall plan b call
  pub spelled : words ≡ call_words plan call

-- behind such a moment, what is read of the line is a call that the plan knows
pub moment_and_act : (plan : PlanFields) (b : ℕ) (words : List (List ℕ)) (moment : ℕ) → b < length plan.boxes
    → 0 < length words → keyword words ≡ moment_text plan.version moment → moment < moments_of plan.version
    → OfOk (λ act. IsCall plan b words (record { moment = moment; act = act })) (act_of plan b words)
moment_and_act plan b [] moment at some k day = absurd (omega arith)
moment_and_act plan b (a ∷ rest) moment at some k day = go (act_of plan b (a ∷ rest)) (act_of_is plan b a rest) where
  go : (r : Result Act Cause) → OfOk (IsAct plan b rest) r
      → OfOk (λ act. IsCall plan b (a ∷ rest) (record { moment = moment; act = act })) r
  go (Ok act) h = record {
    known = known_whole plan b (record { moment = moment; act = act }) (record { box = at; day = day; act = h.known });
    spelled =
        ap (λ (x : List ℕ). x ∷ rest) k ∙ ap (λ (xs : List (List ℕ)). moment_text plan.version moment ∷ xs) h.spelled;
  }
  go (Err cause) h = tt

call_in_is : (plan : PlanFields) (b : ℕ) (words : List (List ℕ)) → b < length plan.boxes → 0 < length words
    → OfOk (IsCall plan b words) (call_in plan b words)
unfolding call_in
call_in_is plan b words at some =
    bind_keeps (λ moment. (keyword words ≡ moment_text plan.version moment) × (moment < moments_of plan.version))
    (IsCall plan b words) (moment_in plan.version words) _ (moment_in_is plan.version words) (λ moment m.
    bind_keeps (λ act. IsCall plan b words (record { moment = moment; act = act })) (IsCall plan b words)
    (act_of plan b words) _ (moment_and_act plan b words moment at some m.0 m.1) (λ act h. h))

-- the text of the words of a call
pub call_text-words : (plan : PlanFields) (text : List ℕ) (call : Call) → words_of text ≡ call_words plan call
    → text ≡ call_text plan call
unfolding call_text
call_text-words plan text call e = sym (joined-words_of text) ∙ ap (join_with_byte 32) e

-- a text that is read as a call is its one spelling
pub spelled_call : (plan : PlanFields) (b : ℕ) (text : List ℕ) (call : Call) → b < length plan.boxes
    → call_of plan b text ≡ Ok call → SpellsCall plan b text call
unfolding call_of
spelled_call plan b text call at e =
    let is = subst (OfOk (IsCall plan b (words_of text))) e (call_in_is plan b (words_of text) at (some_words text)) in
    record { known = is.known; printed = call_text-words plan text call is.spelled }

-- ---- what a reader answers

-- what a reader answers is what the text spells
abbrev pub IsReading : PlanFields → ℕ → List ℕ → Result Call Cause → Type 0
IsReading plan b text r = r ≡ call_of plan b text

-- what a reader answers is spelled by the text
pub reading_spelled : (plan : PlanFields) (b : ℕ) (text : List ℕ) (r : Result Call Cause) → b < length plan.boxes
    → IsReading plan b text r → IfOk r (λ call. SpellsCall plan b text call)
reading_spelled plan b text (Ok call) at e = spelled_call plan b text call at (sym e)
reading_spelled plan b text (Err cause) at e = tt

-- a reader refuses exactly the texts that spell no call
pub reading_refused : (plan : PlanFields) (b : ℕ) (text : List ℕ) (r : Result Call Cause) → IsPlan plan
    → b < length plan.boxes → IsReading plan b text r → IsErr r ↔ ((call : Call) → ¬ SpellsCall plan b text call)
reading_refused plan b text (Ok call) p at e =
    (λ bad. absurd cc, λ none. absurd (none call (spelled_call plan b text call at (sym e))))
reading_refused plan b text (Err cause) p at e = (
  λ _ call spells. not_read call (e ∙ ap (call_of plan b) spells.printed ∙ printed_call plan b call p spells.known),
  λ _. refl,
) where
  not_read : (call : Call) → Err cause ≡ Ok call → ⊥
  not_read call h = cc

-- words with one space between each two
pub join_next : (word : List ℕ) (words : List (List ℕ))
    → length (join_with_byte 32 (word ∷ words)) ≤ length word + 1 + length (join_with_byte 32 words)
join_next word [] = omega arith
join_next word (next ∷ words) = omega (arith, length-append word (32 ∷ join_with_byte 32 (next ∷ words)))

-- a printed call is short
pub length-call_text : (plan : PlanFields) (b : ℕ) (call : Call) → IsPlan plan → KnowsCall plan b call
    → length (call_text plan call) ≤ 39
unfolding call_text
length-call_text plan b call p h =
    let k = known_parts plan b call h in
    omega (
      arith,
      join_next (moment_text plan.version call.moment) (act_words plan call.act),
      (moment_word plan b call h).few,
      (act_short plan b call.act p k.box k.act).few,
    )

-- of every reader of a call
pub ruleset reading_rules = (reading_spelled, reading_refused)

-- of every text of a call
pub ruleset call_rules = (printed_call, spelled_call)
