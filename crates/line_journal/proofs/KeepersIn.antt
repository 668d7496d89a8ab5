-- Which of some entries have a number, and how many are left from each on.
use Rattle.std.proofs.Common.{ℕ, suc, ◌+◌, ◌-◌, ◌*◌, ◌==◌, ◌≡◌, ◌<◌, ◌≤◌, ◌⊎◌, inl, inr, ⊎_elim}
use Rattle.std.proofs.Common.{List, [], ◌∷◌, ◌++◌, Option, Some, None, Bool, true, false, All, length, take, drop}
use Rattle.std.proofs.Common.{refl, sym, ap, subst, ◌∙◌, arith, slice_index_or, slice_set}
use Rattle.std.specs.Prelude.{slice_get}
use Rattle.std.specs.List.{find}
use Rattle.std.proofs.lemmas.Bool.Decides.{eqb_tells}
use Rattle.std.proofs.lemmas.List.{append-nil, append_assoc, get_or-append-add}
use Rattle.std.proofs.lemmas.List.{get_or-set_other, get_or-set_same, get_or_append_left, get_or_default, length-append}
use Rattle.std.proofs.lemmas.List.{length-set, same_from_push}
use Rattle.std.proofs.lemmas.List.Elements.{All-append, All-cons, All-head, All-nil, All-tail, All-weaker}
use Rattle.line_plan.specs.Plans.{PlanFields}
use Rattle.line_law.specs.declared.call.Entry.{Entry}
use Rattle.line_journal.specs.declared.keeper.Keeper.{Keeper}
use Rattle.line_journal.specs.Keepers.{AreCut, AreKeepers, AreKeepersBelow, AreKeepersFrom, AreKeepersOf, IsFirst}
use Rattle.line_journal.specs.Keepers.{IsTop, TellsFirst, keeper_count, keeper_slot, keepers_in, slots}
use Rattle.line_journal.specs.Order.{list_at, placed}

-- ---- one entry and those behind it

abbrev keeper_of : Entry → List Entry → Keeper
keeper_of x list = record { rest = length (x ∷ list); count = keeper_count x.reply }

keepers_mine : (plan : PlanFields) (slot : ℕ) (x : Entry) (list : List Entry) → (keeper_slot plan x == slot) ≡ true
    → keepers_in plan slot (x ∷ list) ≡ keepers_in plan slot list ++ keeper_of x list ∷ []
keepers_mine plan slot x list is = rw is refl

keepers_other : (plan : PlanFields) (slot : ℕ) (x : Entry) (list : List Entry) → (keeper_slot plan x == slot) ≡ false
    → keepers_in plan slot (x ∷ list) ≡ keepers_in plan slot list
keepers_other plan slot x list not = rw not refl

-- none has more left than there are entries
abbrev Within : List Entry → Keeper → Type 0
Within list keeper = keeper.rest ≤ length list

-- or it has, as it is placed
abbrev Beyond : ℕ → Keeper → Type 0
Beyond most keeper = most < keeper.rest

keepers_few : (plan : PlanFields) (slot : ℕ) (list : List Entry) → All (Within list) (keepers_in plan slot list)
keepers_few plan slot [] = All-nil (Within [])
keepers_few plan slot (x ∷ list) =
    by (keeper_slot plan x == slot) refl
    (All-weaker (Within list) (Within (x ∷ list)) (λ keeper le. omega (arith, le))
    (keepers_in plan slot list) (keepers_few plan slot list)) where
      by : (t : Bool) → (keeper_slot plan x == slot) ≡ t → All (Within (x ∷ list)) (keepers_in plan slot list)
          → All (Within (x ∷ list)) (keepers_in plan slot (x ∷ list))
      by true is before =
          subst (λ (ks : List Keeper). All (Within (x ∷ list)) ks) (sym (keepers_mine plan slot x list is))
          (All-append (Within (x ∷ list)) (keepers_in plan slot list) (keeper_of x list ∷ []) before
          (All-cons (Within (x ∷ list)) (keeper_of x list) [] (omega arith) (All-nil (Within (x ∷ list)))))
      by false not before =
          subst (λ (ks : List Keeper). All (Within (x ∷ list)) ks) (sym (keepers_other plan slot x list not)) before

-- as an entry is placed
keepers_on : (plan : PlanFields) (slot : ℕ) (list : List Entry) (keepers : List Keeper)
    → AreKeepersOf plan slot list keepers → AreKeepersOf plan slot (drop 1 list) keepers
keepers_on plan slot [] keepers of = of
keepers_on plan slot (x ∷ list) keepers of = by (keeper_slot plan x == slot) refl where
  above : All (Beyond (length list)) of.over
  above =
      All-weaker (Beyond (length (x ∷ list))) (Beyond (length list)) (λ keeper lt. omega (arith, lt)) of.over of.above

  by : (t : Bool) → (keeper_slot plan x == slot) ≡ t → AreKeepersOf plan slot list keepers
  by true is =
      record {
        over = keeper_of x list ∷ of.over;
        are = of.are ∙ ap (λ (ks : List Keeper). ks ++ of.over) (keepers_mine plan slot x list is)
            ∙ append_assoc (keepers_in plan slot list) (keeper_of x list ∷ []) of.over;
        above = All-cons (Beyond (length list)) (keeper_of x list) of.over (omega arith) above;
      }
  by false not =
      record {
        over = of.over;
        are = of.are ∙ ap (λ (ks : List Keeper). ks ++ of.over) (keepers_other plan slot x list not);
        above = above;
      }

-- ---- what is over is cut

-- the same keepers in two parts, in two ways: the one first part goes on where the other ends
abbrev Parted : List Keeper → List Keeper → List Keeper → List Keeper → Type 0
Parted front back head tail = (m : List Keeper) × (head ≡ front ++ m) × (back ≡ m ++ tail)

same_head : (x y : Keeper) (xs ys : List Keeper) → x ∷ xs ≡ y ∷ ys → x ≡ y
same_head x y xs ys e = cc e

parted : (front back head tail : List Keeper) → front ++ back ≡ head ++ tail
    → Parted front back head tail ⊎ Parted head tail front back
parted [] back head tail e = inl (head, refl, e)
parted (n ∷ front) back [] tail e = inr (n ∷ front, refl, sym e)
parted (n ∷ front) back (k ∷ head) tail e =
    let same : n ≡ k = same_head n k (front ++ back) (head ++ tail) e in
    let rest : front ++ back ≡ head ++ tail = ap (λ (ks : List Keeper). drop 1 ks) e in
    ⊎_elim
    (λ one. inl (one.0, ap (λ (k : Keeper). k ∷ head) (sym same) ∙ ap (λ (ks : List Keeper). n ∷ ks) one.1, one.2))
    (λ other. inr (other.0, ap (λ (k : Keeper). k ∷ front) same ∙ ap (λ (ks : List Keeper). k ∷ ks) other.1, other.2))
    (parted front back head tail rest)

All-front : (P : Keeper → Type 0) (front back : List Keeper) → All P (front ++ back) → All P front
All-front P [] back all = All-nil P
All-front P (n ∷ front) back all =
    All-cons P n front (All-head P n (front ++ back) all) (All-front P front back (All-tail P n (front ++ back) all))

All-back : (P : Keeper → Type 0) (front back : List Keeper) → All P (front ++ back) → All P back
All-back P [] back all = all
All-back P (n ∷ front) back all = All-back P front back (All-tail P n (front ++ back) all)

-- none has both more left than there are entries and not
no_both : (list : List Entry) (ks : List Keeper) → All (Within list) ks → All (Beyond (length list)) ks → ks ≡ []
no_both list [] few many = refl
no_both list (k ∷ ks) few many =
    let le : k.rest ≤ length list = All-head (Within list) k ks few in
    let lt : length list < k.rest = All-head (Beyond (length list)) k ks many in
    absurd (omega (arith, le, lt))

pub cut_keepers : (plan : PlanFields) (slot : ℕ) (list : List Entry) (old new : List Keeper)
    → AreKeepersOf plan slot list old → AreCut (length list) old new → AreKeepersOf plan slot list new
cut_keepers plan slot list old new of cut =
    ⊎_elim
    (λ (more : Parted own of.over new cut.over). record {
      over = more.0;
      are = more.1;
      above = All-front (Beyond (length list)) more.0 cut.over
          (subst (λ (ks : List Keeper). All (Beyond (length list)) ks) more.2 of.above);
    })
    (λ (less : Parted new cut.over own of.over).
    let none : less.0 ≡ [] =
    no_both list less.0
    (All-back (Within list) new less.0
    (subst (λ (ks : List Keeper). All (Within list) ks) less.1 (keepers_few plan slot list)))
    (All-front (Beyond (length list)) less.0 of.over
    (subst (λ (ks : List Keeper). All (Beyond (length list)) ks) less.2 cut.above)) in
    record {
      over = [];
      are = sym (append-nil new) ∙ ap (λ (ks : List Keeper). new ++ ks) (sym none) ∙ sym less.1 ∙ sym (append-nil own);
      above = All-nil (Beyond (length list));
    })
    (parted own of.over new cut.over (sym of.are ∙ cut.were)) where
      own : List Keeper
      own = keepers_in plan slot list

last_apart : (ks : List Keeper) (k : Keeper) → slice_get ks (length ks - 1) ≡ Some k
    → ks ≡ take (length ks - 1) ks ++ k ∷ []
last_apart [] k last = absurd (cc last)
last_apart (n ∷ []) k last = let same : n ≡ k = cc last in ap (λ (m : Keeper). m ∷ []) same
last_apart (n ∷ m ∷ ks) k last =
    let one : length (n ∷ m ∷ ks) - 1 ≡ suc (length (m ∷ ks) - 1) = omega arith in
    subst (λ (i : ℕ). n ∷ m ∷ ks ≡ take i (n ∷ m ∷ ks) ++ k ∷ []) (sym one)
    (ap (λ (ms : List Keeper). n ∷ ms)
    (last_apart (m ∷ ks) k (ap (λ (i : ℕ). slice_get (n ∷ m ∷ ks) i) (sym one) ∙ last)))

-- as the program has it
pub top_is : (most : ℕ) (keepers asked : List Keeper) (k : Keeper) → asked ≡ keepers
    → slice_get asked (length asked - 1) ≡ Some k → k.rest ≤ most → IsTop most keepers (Some k)
top_is most keepers asked k same last few =
    let at : slice_get keepers (length keepers - 1) ≡ Some k =
    subst (λ (ks : List Keeper). slice_get ks (length ks - 1) ≡ Some k) same last in
    (take (length keepers - 1) keepers, last_apart keepers k at, few)

-- one more is gone
pub cut_one : (most : ℕ) (old ks asked new : List Keeper) (k : Keeper) (len : ℕ) → AreCut most old ks → asked ≡ ks
    → len ≡ length ks → slice_get asked (length asked - 1) ≡ Some k → most < k.rest → new ≡ take (len - 1) ks
    → AreCut most old new
cut_one most old ks asked new k len cut same count last many rest =
    let at : slice_get ks (length ks - 1) ≡ Some k =
    subst (λ (ms : List Keeper). slice_get ms (length ms - 1) ≡ Some k) same last in
    let front : take (length ks - 1) ks ≡ new = sym (rest ∙ ap (λ (n : ℕ). take (n - 1) ks) count) in
    record {
      over = k ∷ cut.over;
      were = cut.were ∙ ap (λ (ms : List Keeper). ms ++ cut.over) (last_apart ks k at)
          ∙ ap (λ (ms : List Keeper). (ms ++ k ∷ []) ++ cut.over) front ∙ append_assoc new (k ∷ []) cut.over;
      above = All-cons (Beyond most) k cut.over many cut.above;
    }

-- what has no more left than there are entries stands among theirs
top_own : (most : ℕ) (own over below : List Keeper) (top : Keeper) → own ++ over ≡ below ++ top ∷ []
    → All (Beyond most) over → top.rest ≤ most → own ≡ below ++ top ∷ []
top_own most own over below top same above few =
    let none : over ≡ [] = by over above same in
    sym (append-nil own) ∙ ap (λ (ks : List Keeper). own ++ ks) (sym none) ∙ same where
      last_over : (rest : List Keeper) (own : List Keeper) (k : Keeper) → own ++ k ∷ rest ≡ below ++ top ∷ []
          → All (Beyond most) (k ∷ rest) → most < top.rest
      last_over [] own k e all =
          subst (λ (n : Keeper). most < n.rest) (same_from_push own below k top e).1
          (All-head (Beyond most) k [] all)
      last_over (n ∷ rest) own k e all =
          last_over rest (own ++ k ∷ []) n (append_assoc own (k ∷ []) (n ∷ rest) ∙ e)
          (All-tail (Beyond most) k (n ∷ rest) all)

      by : (over : List Keeper) → All (Beyond most) over → own ++ over ≡ below ++ top ∷ [] → over ≡ []
      by [] all e = refl
      by (k ∷ rest) all e = let lt = last_over rest own k e all in absurd (omega (arith, lt, few))

-- ---- what is found

nothing_on : (front back : List Keeper) → front ++ back ≡ [] → front ≡ []
nothing_on [] back e = refl
nothing_on (k ∷ front) back e = absurd (cc e)

pushed_some : (ks : List Keeper) (k : Keeper) → ks ++ k ∷ [] ≡ [] → ⊥
pushed_some [] k e = cc e
pushed_some (n ∷ ks) k e = cc e

find_mine : (plan : PlanFields) (slot : ℕ) (x : Entry) (list : List Entry) → (keeper_slot plan x == slot) ≡ true
    → find (λ x. keeper_slot plan x == slot) (x ∷ list) ≡ Some x
find_mine plan slot x list is = rw is refl

find_other : (plan : PlanFields) (slot : ℕ) (x : Entry) (list : List Entry) → (keeper_slot plan x == slot) ≡ false
    → find (λ x. keeper_slot plan x == slot) (x ∷ list) ≡ find (λ x. keeper_slot plan x == slot) list
find_other plan slot x list not = rw not refl

find_none : (plan : PlanFields) (slot : ℕ) (list : List Entry) → keepers_in plan slot list ≡ []
    → find (λ x. keeper_slot plan x == slot) list ≡ None
find_none plan slot [] none = refl
find_none plan slot (x ∷ list) none = by (keeper_slot plan x == slot) refl (λ h. find_none plan slot list h) where
  by : (t : Bool) → (keeper_slot plan x == slot) ≡ t
      → (keepers_in plan slot list ≡ [] → find (λ x. keeper_slot plan x == slot) list ≡ None)
      → find (λ x. keeper_slot plan x == slot) (x ∷ list) ≡ None
  by true is behind = absurd (pushed_some (keepers_in plan slot list) (keeper_of x list)
      (sym (keepers_mine plan slot x list is) ∙ none))
  by false not behind =
      find_other plan slot x list not ∙ behind (sym (keepers_other plan slot x list not) ∙ none)

find_last : (plan : PlanFields) (slot : ℕ) (list : List Entry) (below : List Keeper) (top : Keeper)
    → keepers_in plan slot list ≡ below ++ top ∷ [] → IsFirst plan slot list top
find_last plan slot [] below top last = absurd (pushed_some below top (sym last))
find_last plan slot (x ∷ list) below top last =
    by (keeper_slot plan x == slot) refl (λ h. find_last plan slot list below top h) where
      by : (t : Bool) → (keeper_slot plan x == slot) ≡ t
          → (keepers_in plan slot list ≡ below ++ top ∷ [] → IsFirst plan slot list top)
          → IsFirst plan slot (x ∷ list) top
      by true is on =
          let same : keeper_of x list ≡ top =
          (same_from_push (keepers_in plan slot list) below (keeper_of x list) top
          (sym (keepers_mine plan slot x list is) ∙ last)).1 in
          let rest : length (x ∷ list) ≡ top.rest = ap (λ (k : Keeper). k.rest) same in
          let first : length (x ∷ list) - top.rest ≡ 0 = omega (arith, rest) in
          record {
            entry = x;
            found = find_mine plan slot x list is;
            some = omega (arith, rest);
            few = omega (arith, rest);
            at = λ d. ap (λ (n : ℕ). slice_index_or (x ∷ list) n d) first;
            count = ap (λ (k : Keeper). k.count) same;
          }
      by false not on =
          let first = on (sym (keepers_other plan slot x list not) ∙ last) in
          let fewer : top.rest ≤ length list = first.few in
          let next : length (x ∷ list) - top.rest ≡ suc (length list - top.rest) = omega (arith, fewer) in
          record {
            entry = first.entry;
            found = find_other plan slot x list not ∙ first.found;
            some = first.some;
            few = omega (arith, fewer);
            at = λ d. ap (λ (n : ℕ). slice_index_or (x ∷ list) n d) next ∙ first.at d;
            count = first.count;
          }

-- what is on top tells of the first that has the number
pub found_on_top : (plan : PlanFields) (slot : ℕ) (list : List Entry) (keepers : List Keeper) (top : Option Keeper)
    → AreKeepersOf plan slot list keepers → IsTop (length list) keepers top → TellsFirst plan slot list top
found_on_top plan slot list keepers None are on_top =
    find_none plan slot list (nothing_on (keepers_in plan slot list) are.over (sym are.are ∙ on_top))
found_on_top plan slot list keepers (Some top) are on_top =
    find_last plan slot list on_top.0 top
    (top_own (length list) (keepers_in plan slot list) are.over on_top.0 top (sym are.are ∙ on_top.1) are.above
    on_top.2)

-- ---- of all boxes

one_place : (b c s t : ℕ) → s < slots → t < slots → slots * b + s ≡ slots * c + t → (b ≡ c) × (s ≡ t)
one_place b c s t h k e = (omega (arith, h, k, e), omega (arith, h, k, e))

pub keepers_set : (plan : PlanFields) (lists : List (List Entry)) (keepers : List (List Keeper)) (b slot : ℕ)
    (new : List Keeper) → AreKeepers plan lists keepers → b < length lists → slot < slots
    → AreKeepersOf plan slot (list_at lists b) new → AreKeepers plan lists (slice_set keepers (slots * b + slot) new)
keepers_set plan lists keepers b slot new are within few of =
    record {
      each = length-set keepers (slots * b + slot) new ∙ are.each;
      are = λ c t in_c some in_t. ⊎_elim
          (λ mine.
          let one = one_place c b t slot in_t few mine.1 in
          let at : slice_index_or (slice_set keepers (slots * b + slot) new) (slots * c + t) [] ≡ new =
          ap (λ (k : ℕ). slice_index_or (slice_set keepers (slots * b + slot) new) k []) mine.1
          ∙ get_or-set_same keepers (slots * b + slot) new [] (omega (arith, are.each, within, few)) in
          let P : ℕ → ℕ → List Keeper → Type 0 = λ d u ns. AreKeepersOf plan u (list_at lists d) ns in
          subst (λ (ks : List Keeper). P c t ks) (sym at) (subst (λ (u : ℕ). P c u new) (sym one.1)
          (subst (λ (d : ℕ). P d slot new) (sym one.0) of)))
          (λ other. subst (λ (ks : List Keeper). AreKeepersOf plan t (list_at lists c) ks)
          (sym (get_or-set_other keepers (slots * b + slot) (slots * c + t) new [] other.1))
          (are.are c t in_c some in_t))
          (eqb_tells (slots * c + t) (slots * b + slot));
    }

-- what is over is cut from one
pub keepers_cut : {plan : PlanFields} {lists : List (List Entry)} {keepers : List (List Keeper)} {b slot : ℕ}
    {entries : List Entry} {new : List Keeper} (d : List Keeper) → AreKeepers plan lists keepers → b < length lists
    → 2 ≤ slot → slot < slots → entries ≡ list_at lists b
    → AreCut (length entries) (slice_index_or keepers (slots * b + slot) d) new
    → AreKeepers plan lists (slice_set keepers (slots * b + slot) new)
keepers_cut {plan} {lists} {keepers} {b} {slot} {entries} {new} d are within some few own cut =
    keepers_set plan lists keepers b slot new are within few
    (cut_keepers plan slot (list_at lists b) (slice_index_or keepers (slots * b + slot) d) new
    (subst (λ (ks : List Keeper). AreKeepersOf plan slot (list_at lists b) ks)
    (get_or_default keepers (slots * b + slot) [] d (omega (arith, are.each, within, few)))
    (are.are b slot within some few))
    (subst (λ (l : List Entry). AreCut (length l) (slice_index_or keepers (slots * b + slot) d) new) own cut))

-- and what is on top then tells of the first entry that has the number
pub first_told : {plan : PlanFields} {lists : List (List Entry)} {keepers : List (List Keeper)} {b slot : ℕ}
    {entries : List Entry} {new : List Keeper} (top : Option Keeper) (d : List Keeper) → AreKeepers plan lists keepers
    → b < length lists → 2 ≤ slot → slot < slots → entries ≡ list_at lists b
    → AreCut (length entries) (slice_index_or keepers (slots * b + slot) d) new → IsTop (length entries) new top
    → TellsFirst plan slot (list_at lists b) top
first_told {plan} {lists} {keepers} {b} {slot} {entries} {new} top d are within some few own cut on_top =
    found_on_top plan slot (list_at lists b) new top
    (subst (λ (ks : List Keeper). AreKeepersOf plan slot (list_at lists b) ks)
    (get_or-set_same keepers (slots * b + slot) new [] (omega (arith, are.each, within, few)))
    ((keepers_cut d are within some few own cut).are b slot within some few))
    (subst (λ (l : List Entry). IsTop (length l) new top) own on_top)

-- what is placed leaves the keepers of what remains
pub keepers_next : (plan : PlanFields) (lists : List (List Entry)) (keepers : List (List Keeper)) (b : ℕ)
    → AreKeepers plan lists keepers → b < length lists → AreKeepers plan (placed lists b) keepers
keepers_next plan lists keepers b are within =
    let n : length (placed lists b) ≡ length lists = length-set lists b _ in
    record {
      each = are.each ∙ ap (λ (k : ℕ). slots * k) (sym n);
      are = λ c t in_c some in_t.
          let in_lists : c < length lists = omega (arith, in_c, n) in
          let old = are.are c t in_lists some in_t in
          ⊎_elim
          (λ mine.
          let at : list_at (placed lists b) c ≡ drop 1 (list_at lists c) =
          ap (λ (k : ℕ). list_at (placed lists b) k) mine.1 ∙ get_or-set_same lists b _ [] within
          ∙ ap (λ (k : ℕ). drop 1 (list_at lists k)) (sym mine.1) in
          subst (λ (l : List Entry). AreKeepersOf plan t l (slice_index_or keepers (slots * c + t) [])) (sym at)
          (keepers_on plan t (list_at lists c) (slice_index_or keepers (slots * c + t) []) old))
          (λ other. subst (λ (l : List Entry). AreKeepersOf plan t l (slice_index_or keepers (slots * c + t) []))
          (sym (get_or-set_other lists b c _ [] other.1)) old)
          (eqb_tells c b);
    }

-- ---- of one box more

-- and those of one box more
pub keepers_more : {plan : PlanFields} {lists : List (List Entry)} {n : ℕ} {keepers behind : List (List Keeper)}
    {entries : List Entry} {more : List (List Keeper)} → AreKeepersBelow plan lists n keepers
    → entries ≡ list_at lists n → AreKeepersFrom plan entries 0 behind → more ≡ keepers ++ behind
    → AreKeepersBelow plan lists (n + 1) more
keepers_more {plan} {lists} {n} {keepers} {behind} {entries} {more} below own from is =
    record {
      each = ap (λ (ks : List (List Keeper)). length ks) is ∙ length-append keepers behind
          ∙ omega (arith, below.each, from.each);
      are = λ b slot in_b some few. ⊎_elim
          (λ mine. subst
          (λ (c : ℕ). AreKeepersOf plan slot (list_at lists c) (slice_index_or more (slots * c + slot) []))
          (sym mine.1) (last_of slot some few))
          (λ other. subst (λ (ks : List Keeper). AreKeepersOf plan slot (list_at lists b) ks)
          (sym (ap (λ (ks : List (List Keeper)). slice_index_or ks (slots * b + slot) []) is
          ∙ get_or_append_left keepers behind [] (slots * b + slot)
          (before b slot (omega (arith, in_b, other.1)) few)))
          (below.are b slot (omega (arith, in_b, other.1)) some few))
          (eqb_tells b n);
    } where
      before : (b slot : ℕ) → b < n → slot < slots → slots * b + slot < length keepers
      before b slot in_b few = omega (arith, in_b, few, below.each)

      last_of : (slot : ℕ) → 2 ≤ slot → slot < slots
          → AreKeepersOf plan slot (list_at lists n) (slice_index_or more (slots * n + slot) [])
      last_of slot some few =
          record {
            over = [];
            are = ap (λ (ks : List (List Keeper)). slice_index_or ks (slots * n + slot) []) is
                ∙ ap (λ (k : ℕ). slice_index_or (keepers ++ behind) (k + slot) []) (sym below.each)
                ∙ get_or-append-add keepers behind slot [] ∙ from.are slot some few
                ∙ ap (λ (l : List Entry). keepers_in plan slot l) own
                ∙ sym (append-nil (keepers_in plan slot (list_at lists n)));
            above = All-nil (Beyond (length (list_at lists n)));
          }
