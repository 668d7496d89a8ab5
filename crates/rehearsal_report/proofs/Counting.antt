-- The calls of each box are counted entry by entry.
use Rattle.std.proofs.Common.{◌≡◌, ◌≢◌, ℕ, ◌+◌, ◌<◌, ◌≤◌, cond, eqb, List, [], ◌∷◌, ◌++◌, Some, All}
use Rattle.std.proofs.Common.{length, take, get_or, set, replicate, slice_get, sym, ap, ◌∙◌, arith, ⊎_elim}
use Rattle.std.proofs.lemmas.Bool.{cases_eq, cases_lt}
use Rattle.std.proofs.lemmas.Bool.Decides.{nat_tests}
use Rattle.std.proofs.lemmas.List.{get_or-replicate, get_or-set_other, get_or-set_same, get_or_append_left, get_or_push}
use Rattle.std.proofs.lemmas.List.{length-replicate, length-set, length_push}
use Rattle.std.proofs.lemmas.List.Filters.{length-filter_more}
use Rattle.std.proofs.lemmas.List.{get_or_default, get_or_read, length-take-le}
use Rattle.std.proofs.lemmas.List.Elements.{All-get_or}
use Rattle.std.proofs.lemmas.List.Sums.{count_by-le-length, length-filter}
use Rattle.std.proofs.lemmas.Option.{get_or_from_slice_get, slice_get_within}
use Rattle.line_law.specs.declared.call.Entry.{Entry}
use Rattle.line_law.specs.History.{part_of}
use Rattle.rehearsal_report.specs.Numbers.{AreNumbers, number_at}

-- after the first entries, so many: the counts of the boxes, and the numbers of these entries
pub record AreCounted (boxes : ℕ) (es : List Entry) (i : ℕ) (counts numbers : List ℕ) : Type 0 where
  pub room : length counts ≡ boxes
  pub right : (b : ℕ) → b < length counts → get_or counts b 0 ≡ length (part_of b (take i es))
  pub each : length numbers ≡ i
  pub at : (k : ℕ) (e : Entry) → k < i → slice_get es k ≡ Some e → get_or numbers k 0 ≡ number_at es e.box_no k

-- before the first entry, no box has a call and no entry a number
pub counting_begins : (boxes : ℕ) (es : List Entry) (counts numbers : List ℕ) → counts ≡ replicate boxes 0
    → numbers ≡ [] → AreCounted boxes es 0 counts numbers
counting_begins boxes es counts numbers none new =
    let many = ap (λ (xs : List ℕ). length xs) none ∙ length-replicate boxes 0 in
    record {
      room = many;
      right = λ b lt. ap (λ (xs : List ℕ). get_or xs b 0) none ∙ get_or-replicate boxes b 0 0 (omega (arith, many));
      each = ap (λ (xs : List ℕ). length xs) new;
      at = λ k e lt is. absurd (omega arith);
    }

-- one entry more counts for its own box alone
part_more : (es : List Entry) (i b : ℕ) (e : Entry) → i < length es → e ≡ get_or es i e
    → length (part_of b (take (i + 1) es)) ≡ length (part_of b (take i es)) + cond (eqb e.box_no b) 1 0
part_more es i b e lt is =
    length-filter_more (λ (x : Entry). eqb x.box_no b) es i e lt
    ∙ ap (λ (x : Entry). length (part_of b (take i es)) + cond (eqb x.box_no b) 1 0) (sym is)

counted_at : (counts : List ℕ) (b n many : ℕ) → b < length counts → get_or counts b 0 ≡ many
    → get_or (set counts n (get_or counts n 0 + 1)) b 0 ≡ many + cond (eqb n b) 1 0
counted_at counts b n many lt is = ⊎_elim
    (λ (e : b ≡ n). ap (λ (k : ℕ). get_or (set counts k (get_or counts k 0 + 1)) b 0) (sym e)
    ∙ get_or-set_same counts b (get_or counts b 0 + 1) 0 lt ∙ grind (arith, nat_tests))
    (λ (ne : b ≢ n). get_or-set_other counts n b (get_or counts n 0 + 1) 0 ne ∙ grind (arith, nat_tests))
    (cases_eq b n)

-- a box has counted no more than all entries
pub counted_few : (boxes : ℕ) (es : List Entry) (i b : ℕ) (counts numbers : List ℕ)
    → AreCounted boxes es i counts numbers → b < boxes → i ≤ length es → get_or counts b 0 ≤ i
counted_few boxes es i b counts numbers h lt le =
    let few = count_by-le-length (λ (e : Entry). eqb e.box_no b) (take i es) in
    let filtered = length-filter (λ (e : Entry). eqb e.box_no b) (take i es) in
    omega (arith, h.right b (omega (arith, h.room)), filtered, few, length-take-le i es le)

pub counting_more : (boxes : ℕ) (es : List Entry) (i : ℕ) (e : Entry) (counts after numbers more : List ℕ)
    → i < length es → e ≡ get_or es i e → e.box_no < boxes → AreCounted boxes es i counts numbers
    → after ≡ set counts e.box_no (get_or counts e.box_no 0 + 1) → more ≡ numbers ++ get_or after e.box_no 0 ∷ []
    → AreCounted boxes es (i + 1) after more
counting_more boxes es i e counts after numbers more lt is small h one push =
    let room = ap (λ (xs : List ℕ). length xs) one ∙ length-set counts e.box_no _ ∙ h.room in
    let right : (b : ℕ) → b < length after → get_or after b 0 ≡ length (part_of b (take (i + 1) es)) =
    λ b below. ap (λ (xs : List ℕ). get_or xs b 0) one
    ∙ counted_at counts b e.box_no _ (omega (arith, room, h.room)) (h.right b (omega (arith, room, h.room)))
    ∙ sym (part_more es i b e lt is) in
    record {
      room = room;
      right = right;
      each = ap (λ (xs : List ℕ). length xs) push ∙ length_push numbers _ ∙ ap (λ (n : ℕ). n + 1) h.each;
      at = λ k x below there. ⊎_elim
          (λ (e0 : k < i). ap (λ (xs : List ℕ). get_or xs k 0) push
          ∙ get_or_append_left numbers _ 0 k (omega (arith, h.each)) ∙ h.at k x e0 there)
          (λ (e0 : i ≤ k).
          let same : k ≡ i = omega arith in
          let x_is : x ≡ e = sym (get_or_from_slice_get es k x e there) ∙ ap (λ (n : ℕ). get_or es n e) same ∙ sym is in
          ap (λ (xs : List ℕ). get_or xs k 0) push ∙ get_or_push numbers _ 0 k (h.each ∙ sym same)
          ∙ right e.box_no (omega (arith, room))
          ∙ ap (λ (n : ℕ). length (part_of e.box_no (take (n + 1) es))) (sym same)
          ∙ ap (λ (y : Entry). number_at es y.box_no k) (sym x_is))
          (cases_lt k i);
    }

-- the same of the next entry, with the number that stood in its count
pub counted_next : (boxes : ℕ) (es : List Entry) (i : ℕ) (d : Entry) (counts numbers more : List ℕ) (n : ℕ)
    → i < length es → All (λ e. e.box_no < boxes) es → AreCounted boxes es i counts numbers
    → n ≡ get_or counts (get_or es i d).box_no n → more ≡ numbers ++ (n + 1) ∷ []
    → AreCounted boxes es (i + 1) (set counts (get_or es i d).box_no (n + 1)) more
counted_next boxes es i d counts numbers more n lt all h read push =
    let e = get_or es i d in
    let small : e.box_no < boxes = All-get_or (λ (x : Entry). x.box_no < boxes) es i d lt all in
    let within : e.box_no < length counts = omega (arith, small, h.room) in
    let n_is : n ≡ get_or counts e.box_no 0 = get_or_read counts e.box_no n within read 0 in
    let after = set counts e.box_no (n + 1) in
    counting_more boxes es i e counts after numbers more lt (get_or_default es i d e lt) small h
    (ap (λ (k : ℕ). set counts e.box_no (k + 1)) n_is)
    (push ∙ ap (λ (k : ℕ). numbers ++ k ∷ []) (sym (get_or-set_same counts e.box_no (n + 1) 0 within)))

-- the count of the next entry's box fits
pub count_fits : (boxes : ℕ) (es : List Entry) (i : ℕ) (d : Entry) (counts numbers : List ℕ) (n : ℕ)
    → i < length es → All (λ e. e.box_no < boxes) es → AreCounted boxes es i counts numbers
    → n ≡ get_or counts (get_or es i d).box_no n → n ≤ i
count_fits boxes es i d counts numbers n lt all h read =
    let e = get_or es i d in
    let small : e.box_no < boxes = All-get_or (λ (x : Entry). x.box_no < boxes) es i d lt all in
    let few = counted_few boxes es i e.box_no counts numbers h small (omega arith) in
    omega (arith, few, get_or_read counts e.box_no n (omega (arith, small, h.room)) read 0)

-- when all entries are counted, their numbers tell which call of its script each of them is
pub counted_all : (boxes : ℕ) (es : List Entry) (i : ℕ) (counts numbers : List ℕ)
    → AreCounted boxes es i counts numbers → i ≡ length es → AreNumbers es numbers
counted_all boxes es i counts numbers h all =
    record {
      each = h.each ∙ all;
      at = λ k e is. h.at k e (omega (arith, all, slice_get_within es k e is)) is;
    }
