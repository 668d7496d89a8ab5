-- Scripts by their names, with their texts, one after another.
use Rattle.std.proofs.Common.{◌≡◌, ℕ, zero, suc, ◌+◌, ◌<◌, ◌≤◌, List, [], ◌∷◌, ◌++◌, length, map, take, get_or, refl}
use Rattle.std.proofs.Common.{sym, ap, ◌∙◌, arith, add-one}
use Rattle.std.proofs.lemmas.List.{take_all}
use Rattle.std.specs.Borrow.{Bor}
use Rattle.std.specs.Global.{Vec}
use Rattle.rehearsal_report.specs.CallLines.{NamedText}
use Rattle.text_fetch.proofs.Gathering.{name_at}
use Rattle.signalbox_top.specs.Top.{named_texts}

abbrev text_of : List ℕ → Vec ℕ → NamedText
text_of name text = record { name = name; bytes = text.items }

next_text : (names : List (List ℕ)) (texts : List (Vec ℕ)) (d : Vec ℕ) (i : ℕ) → i < length names → i < length texts
    → take (suc i) (named_texts names texts)
    ≡ take i (named_texts names texts) ++ text_of (get_or names i []) (get_or texts i d) ∷ []
next_text [] texts d i lt le = absurd (omega (arith, lt))
next_text (name ∷ names) [] d i lt le = absurd (omega (arith, le))
next_text (name ∷ names) (text ∷ texts) d zero lt le = refl
next_text (name ∷ names) (text ∷ texts) d (suc i) lt le =
    ap (λ (xs : List NamedText). text_of name text ∷ xs)
    (next_text names texts d i (omega (arith, lt)) (omega (arith, le)))

-- the first texts under their names, and the next, are those of one name more
pub text_pushed : (names : List (Bor (List ℕ))) (texts : List (Vec ℕ)) (done : List NamedText) (i : ℕ)
    (none : Bor (List ℕ)) (d : Vec ℕ) (bytes : List ℕ)
    → done ≡ take i (named_texts (map (λ name. name.now) names) texts) → bytes ≡ (get_or texts i d).items
    → i < length names → i < length texts → i < length (map (λ name. name.now) names)
    → done ++ record { name = (get_or names i none).now; bytes = bytes } ∷ []
    ≡ take (i + 1) (named_texts (map (λ name. name.now) names) texts)
text_pushed names texts done i none d bytes so_far same lt le within =
    let all = map (λ name. name.now) names in
    ap (λ (xs : List NamedText). xs ++ record { name = (get_or names i none).now; bytes = bytes } ∷ []) so_far
    ∙ ap (λ (b : List ℕ). take i (named_texts all texts) ++ record { name = (get_or names i none).now; bytes = b } ∷ [])
    same
    ∙ ap (λ (name : List ℕ). take i (named_texts all texts) ++ text_of name (get_or texts i d) ∷ [])
    (name_at names i none lt)
    ∙ sym (rw add-one (next_text all texts d i within le))

few_named : (names : List (List ℕ)) (texts : List (Vec ℕ)) → length (named_texts names texts) ≤ length names
few_named [] texts = omega arith
few_named (name ∷ names) [] = omega arith
few_named (name ∷ names) (text ∷ texts) = omega (arith, few_named names texts)

-- where no name is left, all texts stand under their names
pub all_named : (names : List (List ℕ)) (texts : List (Vec ℕ)) (done : List NamedText) (i : ℕ)
    → done ≡ take i (named_texts names texts) → length names ≤ i → done ≡ named_texts names texts
all_named names texts done i so_far le =
    so_far ∙ take_all i (named_texts names texts) (omega (arith, le, few_named names texts))
