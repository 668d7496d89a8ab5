-- Walks along the entries of the boxes.
use Rattle.std.proofs.Common.{ℕ, zero, suc, ◌+◌, ◌-◌, ◌≡◌, ◌≢◌, ◌<◌, ◌≤◌, ◌⊎◌, inl, inr, true, false, eqb}
use Rattle.std.proofs.Common.{List, [], ◌∷◌, ◌++◌, length, drop, take, take_all, map, replicate}
use Rattle.std.proofs.Common.{refl, sym, ap, subst, ◌∙◌, arith}
use Rattle.std.specs.Prelude.{All, slice_set}
use Rattle.std.proofs.lemmas.Bool.{eq-eqb}
use Rattle.std.proofs.lemmas.Bool.Decides.{eqb_tells}
use Rattle.std.proofs.lemmas.List.{append_assoc, drop-drop, get_or-set_other, get_or-set_same, length-append}
use Rattle.std.proofs.lemmas.List.{length-drop, length-map, length-set, set-get_or, set-set}
use Rattle.std.proofs.lemmas.List.Elements.{All-head, All-tail}
use Rattle.line_plan.specs.Plans.{PlanFields}
use Rattle.line_law.specs.declared.call.Entry.{Entry}
use Rattle.line_law.specs.History.{part_of}
use Rattle.train_register.specs.Registers.{AreParts, RegisterFields}
use Rattle.line_journal.specs.Order.{list_at, lists_of, placed, placed_some}
use Rattle.line_journal.specs.Walks.{IsWalk, left_behind, walked}
use Rattle.line_journal.proofs.Exchange.{part_other, part_own}
use Rattle.line_journal.proofs.Lefts.{lists_part}

-- the boxes of these entries
abbrev boxes_of : List Entry → List ℕ
boxes_of es = map (λ e. e.box_no) es

-- ---- how long a walk is

-- the next entry of a box that has one
one : (list : List Entry) → 0 < length list → length (take 1 list) ≡ 1
one [] h = absurd (omega (arith, h))
one (e ∷ es) h = refl

-- a walk has as many entries as boxes
pub walked_length : (lists : List (List Entry)) (bs : List ℕ) → IsWalk lists bs → length (walked lists bs) ≡ length bs
walked_length lists [] w = refl
walked_length lists (b ∷ bs) w =
    let first = one (list_at lists b) w.0 in
    let others = walked_length (placed lists b) bs w.1 in
    let both = length-append (take 1 (list_at lists b)) (walked (placed lists b) bs) in
    omega (arith, first, others, both)

-- ---- a walk goes on

-- a walk along more boxes
pub walked_more : (lists : List (List Entry)) (bs cs : List ℕ)
    → walked lists (bs ++ cs) ≡ walked lists bs ++ walked (left_behind lists bs) cs
walked_more lists [] cs = refl
walked_more lists (b ∷ bs) cs =
    ap (λ (es : List Entry). take 1 (list_at lists b) ++ es) (walked_more (placed lists b) bs cs)
    ∙ sym (append_assoc (take 1 (list_at lists b)) (walked (placed lists b) bs) _)

-- what it leaves behind
pub behind_more : (lists : List (List Entry)) (bs cs : List ℕ)
    → left_behind lists (bs ++ cs) ≡ left_behind (left_behind lists bs) cs
behind_more lists [] cs = refl
behind_more lists (b ∷ bs) cs = behind_more (placed lists b) bs cs

-- and that it may go there
pub walk_more : (lists : List (List Entry)) (bs cs : List ℕ) → IsWalk lists bs → IsWalk (left_behind lists bs) cs
    → IsWalk lists (bs ++ cs)
walk_more lists [] cs w v = v
walk_more lists (b ∷ bs) cs w v = (w.0, walk_more (placed lists b) bs cs w.1 v)

-- ---- the front of a walk

pub front_walk : (lists : List (List Entry)) (bs : List ℕ) (n : ℕ) → IsWalk lists bs → IsWalk lists (take n bs)
front_walk lists bs zero w = tt
front_walk lists [] (suc n) w = tt
front_walk lists (b ∷ bs) (suc n) w = (w.0, front_walk (placed lists b) bs n w.1)

first_then : (list : List Entry) (n : ℕ) → 0 < length list → take 1 list ++ take n (drop 1 list) ≡ take (suc n) list
first_then [] n h = absurd (omega (arith, h))
first_then (x ∷ xs) n h = refl

first_taken : (list es : List Entry) (n : ℕ) → 0 < length list
    → take (suc n) (take 1 list ++ es) ≡ take 1 list ++ take n es
first_taken [] es n h = absurd (omega (arith, h))
first_taken (x ∷ xs) es n h = refl

pub front_walked : (lists : List (List Entry)) (bs : List ℕ) (n : ℕ) → IsWalk lists bs
    → walked lists (take n bs) ≡ take n (walked lists bs)
front_walked lists bs zero w = refl
front_walked lists [] (suc n) w = refl
front_walked lists (b ∷ bs) (suc n) w =
    ap (λ (es : List Entry). take 1 (list_at lists b) ++ es) (front_walked (placed lists b) bs n w.1)
    ∙ sym (first_taken (list_at lists b) (walked (placed lists b) bs) n w.0)

-- ---- along the parts of a history

-- the first entry is the first of its box
pub own_part : (e : Entry) (es : List Entry) → part_of e.box_no (e ∷ es) ≡ e ∷ part_of e.box_no es
own_part e es = part_own e es e.box_no (eq-eqb e.box_no e.box_no refl)

-- what is left of the parts behind it
part_left : (lists : List (List Entry)) (e : Entry) (es : List Entry) (b : ℕ) → e.box_no < length lists
    → list_at lists e.box_no ≡ part_of e.box_no (e ∷ es) → list_at lists b ≡ part_of b (e ∷ es)
    → list_at (placed lists e.box_no) b ≡ part_of b es
part_left lists e es b within own at = by (eqb_tells e.box_no b) where
  first : list_at lists e.box_no ≡ e ∷ part_of e.box_no es
  first = own ∙ own_part e es

  by : ((eqb e.box_no b ≡ true) × (e.box_no ≡ b)) ⊎ ((eqb e.box_no b ≡ false) × (e.box_no ≢ b))
      → list_at (placed lists e.box_no) b ≡ part_of b es
  by (inl mine) =
      subst (λ (k : ℕ). list_at (placed lists e.box_no) k ≡ part_of k es) mine.1
      (get_or-set_same lists e.box_no _ [] within ∙ ap (λ (l : List Entry). drop 1 l) first)
  by (inr other) =
      get_or-set_other lists e.box_no b _ [] (λ is. other.1 (sym is)) ∙ at ∙ part_other e es b other.0

parts_walk : (lists : List (List Entry)) (es : List Entry) (n : ℕ) → length lists ≡ n
    → ((b : ℕ) → b < n → list_at lists b ≡ part_of b es) → All (λ e. e.box_no < n) es
    → (walked lists (boxes_of es) ≡ es) × IsWalk lists (boxes_of es)
parts_walk lists [] n each parts within = (refl, tt)
parts_walk lists (e ∷ es) n each parts within =
    let lt : e.box_no < n = All-head (λ x. x.box_no < n) e es within in
    let own : list_at lists e.box_no ≡ e ∷ part_of e.box_no es = parts e.box_no lt ∙ own_part e es in
    let later = parts_walk (placed lists e.box_no) es n (length-set lists e.box_no _ ∙ each)
    (λ b at. part_left lists e es b (omega (arith, lt, each)) (parts e.box_no lt) (parts b at))
    (All-tail (λ x. x.box_no < n) e es within) in (
      ap (λ (l : List Entry). take 1 l ++ walked (placed lists e.box_no) (boxes_of es)) own
          ∙ ap (λ (xs : List Entry). e ∷ xs) later.0,
      (subst (λ (l : List Entry). 0 < length l) (sym own) (omega arith), later.1),
    )

-- a walk along the boxes of a history's entries, in its parts, is the history
pub parts_walked : (plan : PlanFields) (es : List Entry) (registers : List RegisterFields) → AreParts plan es registers
    → All (λ e. e.box_no < length plan.boxes) es
    → (walked (lists_of registers) (boxes_of es) ≡ es) × IsWalk (lists_of registers) (boxes_of es)
parts_walked plan es registers parts within =
    parts_walk (lists_of registers) es (length plan.boxes)
    (length-map registers (λ register. register.entries) ∙ parts.each) (lists_part plan es registers parts) within

-- ---- so many entries of one box

-- the first so many entries of a list, and one after another
pub same_taken : (lists : List (List Entry)) (b n : ℕ) → b < length lists → n ≤ length (list_at lists b)
    → walked lists (replicate n b) ≡ take n (list_at lists b)
same_taken lists b zero lt le = refl
same_taken lists b (suc n) lt le =
    let rest : list_at (placed lists b) b ≡ drop 1 (list_at lists b) = get_or-set_same lists b _ [] lt in
    let long = length-drop 1 (list_at lists b) in
    let fits = ap (λ (l : List Entry). length l) rest in
    let each = length-set lists b (drop 1 (list_at lists b)) in
    ap (λ (es : List Entry). take 1 (list_at lists b) ++ es)
    (same_taken (placed lists b) b n (omega (arith, lt, each)) (omega (arith, le, long, fits))
    ∙ ap (λ (l : List Entry). take n l) rest)
    ∙ first_then (list_at lists b) n (omega (arith, le))

one_more : (n : ℕ) → 1 + n ≡ suc n
one_more n = omega arith

-- a walk along one box many times leaves that many fewer of it
pub same_left : (lists : List (List Entry)) (b n : ℕ) → b < length lists
    → left_behind lists (replicate n b) ≡ placed_some lists b n
same_left lists b zero lt = sym (set-get_or lists b [])
same_left lists b (suc n) lt =
    let rest : list_at (placed lists b) b ≡ drop 1 (list_at lists b) = get_or-set_same lists b _ [] lt in
    let each = length-set lists b (drop 1 (list_at lists b)) in
    same_left (placed lists b) b n (omega (arith, lt, each))
    ∙ set-set lists b (drop 1 (list_at lists b)) (drop n (list_at (placed lists b) b))
    ∙ ap (λ (l : List Entry). slice_set lists b (drop n l)) rest
    ∙ ap (λ (l : List Entry). slice_set lists b l) (drop-drop n 1 (list_at lists b))
    ∙ ap (λ (k : ℕ). slice_set lists b (drop k (list_at lists b))) (one_more n)

-- and may go there while entries are left
pub same_walk : (lists : List (List Entry)) (b n : ℕ) → b < length lists → n ≤ length (list_at lists b)
    → IsWalk lists (replicate n b)
same_walk lists b zero lt le = tt
same_walk lists b (suc n) lt le =
    let rest : list_at (placed lists b) b ≡ drop 1 (list_at lists b) = get_or-set_same lists b _ [] lt in
    let long = length-drop 1 (list_at lists b) in
    let fits = ap (λ (l : List Entry). length l) rest in
    let each = length-set lists b (drop 1 (list_at lists b)) in
    (omega (arith, le), same_walk (placed lists b) b n (omega (arith, lt, each)) (omega (arith, le, long, fits)))

-- told behind others
pub told_behind : (bs : List ℕ) (n held many b : ℕ) → n ≡ held → held ≡ length bs
    → take (n + many) bs ++ replicate (n + many - held) b ≡ bs ++ replicate many b
told_behind bs n held many b same all =
    let more : n + many - held ≡ many = omega (arith, same) in
    ap (λ (front : List ℕ). front ++ replicate (n + many - held) b) (take_all (n + many) bs (omega (arith, same, all)))
    ∙ ap (λ (k : ℕ). bs ++ replicate k b) more

pub ruleset walk_rules = (walked_length, front_walk, front_walked)
