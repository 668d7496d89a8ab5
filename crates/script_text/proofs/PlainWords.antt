-- The words of a printed call are words, and none of them is `->`.
use Rattle.std.proofs.Common.{◌≡◌, ℕ, ◌^◌, ◌<◌, Bool, true, false, not, ◌&&◌, List, [], ◌∷◌, Some, None, refl, ap, sym}
use Rattle.std.proofs.Common.{◌∙◌, codes, bytes_eq, decimal}
use Rattle.std.specs.List.{list_all}
use Rattle.std.proofs.lemmas.Bool.{not_from_false}
use Rattle.std.proofs.lemmas.Slice.Eq.{bytes_eq-Decides}
use Rattle.block_words.specs.declared.Position.{Position}
use Rattle.block_words.specs.declared.Position.TheVariants.{Normal, LineClear, TrainOnLine}
use Rattle.block_words.specs.declared.Way.{Way}
use Rattle.block_words.specs.declared.Way.TheVariants.{Up, Down}
use Rattle.rail_text.specs.Forms.{is_word}
use Rattle.rail_text.specs.Number.{number_of}
use Rattle.rail_text.specs.Words.{is_name}
use Rattle.rail_text.proofs.NumberLemmas.{number_of-decimal}
use Rattle.rail_text.proofs.PrintedLines.{both}
use Rattle.rail_text.proofs.PrintedWords.{decimal_is_word, name_is_word}
use Rattle.line_plan.specs.Plans.{PlanFields, IsPlan, is_train}
use Rattle.line_plan.specs.Ways.{way_word}
use Rattle.line_law.specs.Known.{is_code_no}
use Rattle.script_text.specs.Names.{position_text, code_no_text, train_text}
use Rattle.script_text.proofs.CodeTexts.{code_is_word, no_code}
use Rattle.script_text.proofs.Named.{train_is_name}

-- a word that isn't `->`
abbrev pub plain : List ℕ → Bool
plain word = not (bytes_eq word (codes "->"))

-- a word as it may stand in a line, which isn't `->`
abbrev pub is_plain_word : List ℕ → Bool
is_plain_word word = is_word word && plain word

-- two tests that hold, hold together
pub both_hold : (p q : Bool) → p ≡ true → q ≡ true → p && q ≡ true
both_hold p q e f = rw (e, f) refl

-- what is so of all words by a test is so by a weaker one
pub all_weaker : (p q : List ℕ → Bool) → ((word : List ℕ) → p word ≡ true → q word ≡ true) → (words : List (List ℕ))
    → list_all p words ≡ true → list_all q words ≡ true
all_weaker p q weaker [] h = refl
all_weaker p q weaker (word ∷ words) h =
    let e = both (p word) (list_all p words) h in
    both_hold (q word) (list_all q words) (weaker word e.0) (all_weaker p q weaker words e.1)

-- where something is so of a word and not of another, they differ
pub differ : {A : Type 0} (read : List ℕ → A) (word other : List ℕ) → (read word ≡ read other → ⊥)
    → bytes_eq word other ≡ false
differ read word other apart = go (bytes_eq word other) refl where
  go : (same : Bool) → bytes_eq word other ≡ same → same ≡ false
  go true e = absurd (apart (ap read ((bytes_eq-Decides word other).0 e)))
  go false e = refl

-- a printed number is a word, and not `->`
pub number_is_plain : (n : ℕ) → n < 10 ^ 10 → is_plain_word (decimal n) ≡ true
number_is_plain n h =
    both_hold (is_word (decimal n)) (plain (decimal n)) (decimal_is_word n h)
    (not_from_false _ (differ number_of (decimal n) (codes "->") (λ same. apart (sym (number_of-decimal n h) ∙ same))))
  where
    apart : Some n ≡ None → ⊥
    apart e = cc

-- a code's text is a word, and not `->`
pub code_is_plain : (plan : PlanFields) (code : ℕ) → IsPlan plan → is_code_no plan code ≡ true
    → is_plain_word (code_no_text plan.codes code) ≡ true
code_is_plain plan code p h =
    both_hold (is_word (code_no_text plan.codes code)) (plain (code_no_text plan.codes code))
    (code_is_word plan code p h) (not_from_false _ (no_code plan code (codes "->") p h refl))

-- a train's name is a word, and not `->`
pub train_is_plain : (plan : PlanFields) (train : ℕ) → IsPlan plan → is_train plan.trains train ≡ true
    → is_plain_word (train_text plan train) ≡ true
train_is_plain plan train p h =
    both_hold (is_word (train_text plan train)) (plain (train_text plan train))
    (name_is_word (train_text plan train) (train_is_name plan train p h))
    (not_from_false _
    (differ is_name (train_text plan train) (codes "->") (λ same. apart (sym (train_is_name plan train p h) ∙ same))))
  where
    apart : true ≡ false → ⊥
    apart e = cc

-- a way's word is a word, and not `->`
pub way_is_plain : (way : Way) → is_plain_word (way_word way) ≡ true
way_is_plain Up = refl
way_is_plain Down = refl

-- a position's word is a word, and not `->`
pub position_is_plain : (position : Position) → is_plain_word (position_text position) ≡ true
position_is_plain Normal = refl
position_is_plain LineClear = refl
position_is_plain TrainOnLine = refl
