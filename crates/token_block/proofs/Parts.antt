-- Parts of token histories, and what lies between two of them.
use Rattle.std.proofs.Common.{◌≡◌, ◌≢◌, ℕ, Bool, true, false, cond, ⊎_elim, List, [], ◌∷◌, ◌++◌}
use Rattle.std.proofs.Common.{sym, refl, ap, ◌∙◌, subst, append-nil, append_assoc}
use Rattle.std.specs.Prelude.{◌==◌}
use mathlib.Core.List.{IsPrefix}
use Rattle.std.proofs.lemmas.Bool.Decides.{eqb_tells}
use Rattle.std.proofs.lemmas.List.Elements.{filter-append}
use Rattle.token_law.specs.declared.calls.TokenEntry.{TokenEntry}
use Rattle.token_law.specs.History.{token_part_of}
use Rattle.token_law.proofs.Histories.{token_prefix_legal}
use Rattle.token_block.specs.declared.view.Tokens.{Tokens}
use Rattle.token_block.specs.Rule.{IsHistoryOf}

-- ---- tests

-- numbers that are equal are tested equal
pub eqb_yes : (a b : ℕ) → a ≡ b → (a == b) ≡ true
eqb_yes a b e = ⊎_elim (λ (t : ((a == b) ≡ true) × (a ≡ b)). t.0) (λ (t : ((a == b) ≡ false) × (a ≢ b)). absurd (t.1 e))
    (eqb_tells a b)

-- numbers that differ are tested unequal
pub eqb_no : (a b : ℕ) → a ≢ b → (a == b) ≡ false
eqb_no a b ne = ⊎_elim (λ (t : ((a == b) ≡ true) × (a ≡ b)). absurd (ne t.1))
    (λ (t : ((a == b) ≡ false) × (a ≢ b)). t.0) (eqb_tells a b)

-- numbers that are tested equal are equal
pub eqb_same : (a b : ℕ) → (a == b) ≡ true → a ≡ b
eqb_same a b h = ⊎_elim (λ (t : ((a == b) ≡ true) × (a ≡ b)). t.1)
    (λ (t : ((a == b) ≡ false) × (a ≢ b)). let u = t.0 in absurd cc) (eqb_tells a b)

-- numbers that are tested unequal differ
pub eqb_differ : (a b : ℕ) → (a == b) ≡ false → a ≢ b
eqb_differ a b h = ⊎_elim (λ (t : ((a == b) ≡ true) × (a ≡ b)). let u = t.0 in absurd cc)
    (λ (t : ((a == b) ≡ false) × (a ≢ b)). t.1) (eqb_tells a b)

-- where the test holds, the first of the two is chosen
pub if_yes : {A : Type 0} (t : Bool) (x y : A) → t ≡ true → cond t x y ≡ x
if_yes true x y h = refl
if_yes false x y h = absurd cc

-- where the test doesn't hold, the second of the two is chosen
pub if_no : {A : Type 0} (t : Bool) (x y : A) → t ≡ false → cond t x y ≡ y
if_no true x y h = absurd cc
if_no false x y h = refl

-- ---- parts

-- the entries of a token history
abbrev pub Es : Type 0
Es = List TokenEntry

-- an entry of the box itself, and of another
pub part_own : (b : ℕ) (e : TokenEntry) (es : Es) → e.call.box_no ≡ b
    → token_part_of b (e ∷ es) ≡ e ∷ token_part_of b es
part_own b e es is = if_yes (e.call.box_no == b) (e ∷ token_part_of b es) (token_part_of b es)
    (eqb_yes e.call.box_no b is)

-- an entry of another box is none of a box's part
pub part_other : (b : ℕ) (e : TokenEntry) (es : Es) → e.call.box_no ≢ b
    → token_part_of b (e ∷ es) ≡ token_part_of b es
part_other b e es ne = if_no (e.call.box_no == b) (e ∷ token_part_of b es) (token_part_of b es)
    (eqb_no e.call.box_no b ne)

-- the part of a box in two histories in a row is its part in the one and then its part in the other
pub part-append : (b : ℕ) (xs ys : Es) → token_part_of b (xs ++ ys) ≡ token_part_of b xs ++ token_part_of b ys
part-append b xs ys = filter-append (λ (e : TokenEntry). e.call.box_no == b) xs ys

-- the part of a box grows by each entry of its own
pub part_grows : (b : ℕ) (es : Es) (e : TokenEntry) → e.call.box_no ≡ b
    → token_part_of b (es ++ e ∷ []) ≡ token_part_of b es ++ e ∷ []
part_grows b es e is = part-append b es (e ∷ []) ∙ ap (λ (l : Es). token_part_of b es ++ l) (part_own b e [] is)

-- the part of a box stays the same at an entry of another box
pub part_stays : (b : ℕ) (es : Es) (e : TokenEntry) → e.call.box_no ≢ b
    → token_part_of b (es ++ e ∷ []) ≡ token_part_of b es
part_stays b es e ne = part-append b es (e ∷ []) ∙ ap (λ (l : Es). token_part_of b es ++ l) (part_other b e [] ne)
    ∙ append-nil (token_part_of b es)

nothing_more : (a b c : Es) → (a ++ b) ++ c ≡ a → c ≡ []
nothing_more [] [] c e = e
nothing_more [] (x ∷ b) c e = cc
nothing_more (x ∷ a) b c e = nothing_more a b c (cc)

-- the part in a history between two that have the same part
pub between : (p : ℕ) (xs ys log : Es) → IsPrefix xs ys → IsPrefix ys log → token_part_of p log ≡ token_part_of p xs
    → token_part_of p log ≡ token_part_of p ys
between p xs ys log a b same =
    let ys_is : token_part_of p xs ++ token_part_of p a.0 ≡ token_part_of p ys =
    sym (part-append p xs a.0) ∙ ap (token_part_of p) a.1 in
    let log_is : token_part_of p ys ++ token_part_of p b.0 ≡ token_part_of p log =
    sym (part-append p ys b.0) ∙ ap (token_part_of p) b.1 in
    let none_left : token_part_of p b.0 ≡ [] = nothing_more (token_part_of p xs) (token_part_of p a.0)
    (token_part_of p b.0) (ap (λ (l : Es). l ++ token_part_of p b.0) ys_is ∙ (log_is ∙ same)) in
    sym log_is ∙ (ap (λ (l : Es). token_part_of p ys ++ l) none_left ∙ append-nil (token_part_of p ys))

-- what was added to a beginning with the same part has no entry of the box
pub added_none : (p : ℕ) (xs more : Es) → token_part_of p (xs ++ more) ≡ token_part_of p xs → token_part_of p more ≡ []
added_none p xs more same = nothing_more (token_part_of p xs) [] (token_part_of p more)
    (ap (λ (l : Es). l ++ token_part_of p more) (append-nil (token_part_of p xs)) ∙
    (sym (part-append p xs more) ∙ same))

-- a beginning of a history without entries of a box has none
pub part_of_prefix : (b : ℕ) (xs log : Es) → IsPrefix xs log → token_part_of b log ≡ [] → token_part_of b xs ≡ []
part_of_prefix b xs log pre nil = empty_first (token_part_of b xs) (token_part_of b pre.0)
    (sym (part-append b xs pre.0) ∙ (ap (token_part_of b) pre.1 ∙ nil))
  where
    empty_first : (ys zs : Es) → ys ++ zs ≡ [] → ys ≡ []
    empty_first [] zs e = refl
    empty_first (y ∷ ys) zs e = cc

-- what begins a legal history is legal
pub legal_beginning : (tokens : Tokens) (xs log : Es) → IsPrefix xs log → IsHistoryOf tokens log → IsHistoryOf tokens xs
legal_beginning tokens xs log pre legal = token_prefix_legal tokens.at_0 tokens.at_1 xs pre.0
    (subst (IsHistoryOf tokens) (sym pre.1) legal)

-- what begins a history begins it still when it grows by an entry
pub longer_prefix : (xs log : Es) (e : TokenEntry) → IsPrefix xs log → IsPrefix xs (log ++ e ∷ [])
longer_prefix xs log e pre =
    (pre.0 ++ e ∷ [], sym (append_assoc xs pre.0 (e ∷ [])) ∙ ap (λ (l : Es). l ++ e ∷ []) pre.1)

-- what begins the beginning of a history begins that history
pub prefix_trans : (xs ys zs : Es) → IsPrefix xs ys → IsPrefix ys zs → IsPrefix xs zs
prefix_trans xs ys zs p q =
    (p.0 ++ q.0, sym (append_assoc xs p.0 q.0) ∙ (ap (λ (l : Es). l ++ q.0) p.1 ∙ q.1))

-- ---- what others' entries keep

-- what each entry of another box keeps
abbrev pub OthersKeep : Tokens → ℕ → (Es → Type 0) → Type 0
OthersKeep tokens b P = (es : Es) (e : TokenEntry) → IsHistoryOf tokens (es ++ e ∷ []) → e.call.box_no ≢ b
    → P es → P (es ++ e ∷ [])

-- stands after them all
kept_by_others : (tokens : Tokens) (b : ℕ) (P : Es → Type 0) → OthersKeep tokens b P → (xs more : Es)
    → IsHistoryOf tokens (xs ++ more) → token_part_of b more ≡ [] → P xs → P (xs ++ more)
kept_by_others tokens b P keep xs [] legal none h = subst P (sym (append-nil xs)) h
kept_by_others tokens b P keep xs (e ∷ more) legal none h =
    let joined : (xs ++ e ∷ []) ++ more ≡ xs ++ e ∷ more = append_assoc xs (e ∷ []) more in
    let legal' : IsHistoryOf tokens ((xs ++ e ∷ []) ++ more) = subst (IsHistoryOf tokens) (sym joined) legal in
    let other : e.call.box_no ≢ b = λ is. (let own = part_own b e more is in absurd cc) in
    subst P joined
    (kept_by_others tokens b P keep (xs ++ e ∷ []) more legal' (sym (part_other b e more other) ∙ none)
    (keep xs e (token_prefix_legal tokens.at_0 tokens.at_1 (xs ++ e ∷ []) more legal') other h))

-- the same from what was seen to a history that has no other entry of the box
pub stands : (tokens : Tokens) (b : ℕ) (P : Es → Type 0) → OthersKeep tokens b P
    → (seen log : Es) → IsPrefix seen log → IsHistoryOf tokens log → token_part_of b log ≡ token_part_of b seen
    → P seen → P log
stands tokens b P keep seen log begins legal same h =
    let legal' : IsHistoryOf tokens (seen ++ begins.0) = subst (IsHistoryOf tokens) (sym begins.1) legal in
    subst P begins.1 (kept_by_others tokens b P keep seen begins.0 legal'
    (added_none b seen begins.0 (ap (token_part_of b) begins.1 ∙ same)) h)
